-- Where names have to change, one outcome is due by what is known of the volume.
use Rattle.std.proofs.Common.{◌≡◌, ℕ, ◌/◌, ◌==◌, ◌++◌, Bool, true, false, not, cond, List, [], ◌∷◌, length, map, filter, inl, inr, refl, sym, ap, ◌∙◌, subst}
use Rattle.std.specs.List.{All}
use Rattle.std.proofs.lemmas.List.Elements.{All-head, All-tail}
use Rattle.xfs_disk.specs.declared.stamp.Stamp.{Stamp}
use Rattle.xfs_geom.specs.declared.geometry.Geometry.{Geometry}
use Rattle.xfs_dirdata.specs.declared.records.EntryRec.{EntryRec}
use Rattle.xfs_dirbuild.specs.Forms.{data_blocks_of, form_of, free_blocks_of, index_blocks_of}
use Rattle.xfs_dirbuild.specs.declared.forms.DirectoryForm.{DirectoryForm}
use Rattle.xfs_naming.specs.Naming.{entries_in}
use Rattle.xfs_names.specs.Built.{IsBuiltAsWanted, fork_room}
use Rattle.xfs_names.specs.Rebuilt.{wanted_rebuilt}
use Rattle.xfs_names.specs.Wanted.{wanted_entries, wanted_links, wanted_parents}
use Rattle.xfs_names.specs.declared.building.BuiltDirectory.{BuiltDirectory}
use Rattle.xfs_names.specs.declared.building.ForkRoom.{ForkRoom}
use Rattle.xfs_names.specs.declared.records.WantedNames.{WantedNames}
use Rattle.xfs_place.specs.Wanted.{FindsNoRoom}
use Rattle.xfs_place.specs.declared.faults.Unplaced.{Unplaced}
use Rattle.xfs_place.specs.declared.wanted.Object.{Object}
use Rattle.xfs_place.specs.declared.wanted.ObjectKind.TheVariants.{Directory}
use Rattle.xfs_place.specs.declared.wanted.RunAsk.{RunAsk}
use Rattle.xfs_place.specs.declared.wanted.Wanted.{Wanted}
use Rattle.xfs_rename.specs.xfs_rebuild.Names.{due_dirs, due_files}
use Rattle.xfs_rename.specs.xfs_rebuild.Rebuilds.{AreNamesDue, Ground, asked, slots_asked}
use Rattle.xfs_rename.specs.xfs_rebuild.declared.names_due.NamesDue.{NamesDue}
use Rattle.xfs_rename.specs.Lost.{lost_due}
use Rattle.xfs_rename.specs.xfs_changes.Nodes.{nodes_of_files}
use Rattle.xfs_rename.specs.xfs_built.Asks.{asked_run, object_of, objects_of, stands_in_blocks}
use Rattle.xfs_rename.specs.Objects.{wanted_with}
use Rattle.xfs_rename.specs.Renames.{AreBuilt, FindsNoRoomRenamed, renamed_wanted}
use Rattle.xfs_rename.specs.Settled.{AreWanted}
use Rattle.xfs_rename.specs.xfs_changes.Rooms.{fork_rooms}
use Rattle.xfs_rename.specs.xfs_changes.declared.lost_found.Lost.{Lost}
use Rattle.xfs_mend.proofs.OneGround.{one_without}
use Rattle.xfs_mend.specs.Rebuilding.{IsRenamedDue, IsRenamedWithoutRoom}

-- what is known, by what is gone by
abbrev pub names_of : Geometry → Stamp → Ground → NamesDue
names_of g s on = record {
  wanted = asked g on;
  slots = slots_asked g s on;
  files = due_files g.rootino on.kept (slots_asked g s on);
  entries = on.kept.entries;
  dirs = due_dirs g.rootino on.kept;
  clusters = on.kept.clusters;
  fresh = on.kept.fresh;
  seen = on.seen;
  log = on.log;
}

pub names_are : (g : Geometry) (s : Stamp) (on : Ground) (n : NamesDue) → AreNamesDue g s on n → n ≡ names_of g s on
names_are g s on n due =
    λ i. record {
      wanted = due.wanted' i;
      slots = due.slots' i;
      files = due.files' i;
      entries = due.entries' i;
      dirs = due.dirs' i;
      clusters = due.clusters' i;
      fresh = due.fresh' i;
      seen = due.seen' i;
      log = due.log' i;
    }

-- the names that are wanted are one
abbrev names_wanted : Geometry → NamesDue → Lost → WantedNames
names_wanted g n l = record {
  entries = wanted_entries (nodes_of_files n.files) n.entries g.rootino l.new;
  parents = wanted_parents (nodes_of_files n.files) n.entries g.rootino l.new;
  links = wanted_links (nodes_of_files n.files) n.entries g.rootino l.new;
  rebuilt = wanted_rebuilt (nodes_of_files n.files) n.entries n.dirs g.rootino l.new;
}

wanted_are : (g : Geometry) (n : NamesDue) (l : Lost) (w : WantedNames) → AreWanted g n l w → w ≡ names_wanted g n l
wanted_are g n l w are = λ i. record { entries = are.entries' i; parents = are.parents' i; links = are.links' i; rebuilt = are.rebuilt' i }

-- how many blocks a directory has that is built anew, by its number
module _ (w : WantedNames) (rooms : List ForkRoom) where
  abbrev entries_at : ℕ → List EntryRec
  entries_at d = entries_in w.entries d

  abbrev form_at : ℕ → DirectoryForm
  form_at d = form_of (entries_at d) (fork_room rooms d)

  abbrev asks_at : ℕ → ℕ → ℕ → ℕ → List RunAsk
  asks_at d data_blocks index_blocks free_blocks = asked_run d 0 data_blocks ++ asked_run d 0x800000 index_blocks ++ asked_run d 0x1000000 free_blocks

  abbrev object_at : ℕ → Object
  object_at d = record {
    ino = d;
    kind = Directory;
    runs = asks_at d (data_blocks_of (form_at d) (entries_at d)) (index_blocks_of (form_at d) (entries_at d)) (free_blocks_of (form_at d) (entries_at d));
    most = fork_room rooms d / 16;
  }

  abbrev has_at : ℕ → Bool
  has_at d = not (data_blocks_of (form_at d) (entries_at d) == 0)

  one_more : (t u : Bool) (b : BuiltDirectory) (d : ℕ) (bs : List BuiltDirectory) (ds : List ℕ) → t ≡ u → object_of rooms b ≡ object_at d
      → map (object_of rooms) bs ≡ map object_at ds → map (object_of rooms) (cond t (b ∷ bs) bs) ≡ map object_at (cond u (d ∷ ds) ds)
  one_more true true b d bs ds same one rest = λ i. one i ∷ rest i
  one_more false false b d bs ds same one rest = rest
  one_more true false b d bs ds same one rest = absurd cc
  one_more false true b d bs ds same one rest = absurd cc

  -- so the objects are those of the numbers
  objects_are : (built : List BuiltDirectory) → All (IsBuiltAsWanted w rooms) built
      → objects_of rooms built ≡ map object_at (filter has_at (map (λ (b : BuiltDirectory). b.ino) built))
  objects_are [] all = refl
  objects_are (b ∷ bs) all =
      let first : IsBuiltAsWanted w rooms b = All-head (IsBuiltAsWanted w rooms) b bs all in
      let counted = first.data_count in
      let index = first.index_count in
      let free = first.free_count in
      let has : stands_in_blocks b ≡ has_at b.ino = ap (λ (n : ℕ). not (n == 0)) counted in
      let one : object_of rooms b ≡ object_at b.ino =
      λ i. record { ino = b.ino; kind = Directory; runs = asks_at b.ino (counted i) (index i) (free i); most = fork_room rooms b.ino / 16 } in
      one_more (stands_in_blocks b) (has_at b.ino) b b.ino (filter stands_in_blocks bs) (filter has_at (map (λ (x : BuiltDirectory). x.ino) bs)) has one
      (objects_are bs (All-tail (IsBuiltAsWanted w rooms) b bs all))

abbrev objects_due : NamesDue → WantedNames → List Object
objects_due n w = map (object_at w (fork_rooms w.rebuilt n.files)) (filter (has_at w (fork_rooms w.rebuilt n.files)) w.rebuilt)

abbrev request_due : Geometry → NamesDue → Lost → WantedNames → Wanted
request_due g n l w = wanted_with g n l w (objects_due n w)

request_is : (g : Geometry) (n : NamesDue) (l : Lost) (w : WantedNames) (built : List BuiltDirectory) → AreWanted g n l w
    → map (λ (b : BuiltDirectory). b.ino) built ≡ w.rebuilt → All (IsBuiltAsWanted w (fork_rooms w.rebuilt n.files)) built
    → wanted_with g n l w (objects_of (fork_rooms w.rebuilt n.files) built) ≡ request_due g n l (names_wanted g n l)
request_is g n l w built are numbers each =
    let rooms : List ForkRoom = fork_rooms w.rebuilt n.files in
    ap (λ (objects : List Object). wanted_with g n l w objects)
    (objects_are w rooms built each ∙ ap (λ (ds : List ℕ). map (object_at w rooms) (filter (has_at w rooms) ds)) numbers)
    ∙ ap (λ (x : WantedNames). request_due g n l x) (wanted_are g n l w are)

-- what is asked of the volume is one
one_request : (g : Geometry) (n : NamesDue) (w x : WantedNames) (built other : List BuiltDirectory) → AreBuilt g n w built → AreBuilt g n x other
    → renamed_wanted g n w built ≡ renamed_wanted g n x other
one_request g n w x built other first second =
    request_is g n (lost_due g n) w built first.wanted first.numbers first.each
    ∙ sym (request_is g n (lost_due g n) x other second.wanted second.numbers second.each)

one_links : (g : Geometry) (n : NamesDue) (l : Lost) (w x : WantedNames) → AreWanted g n l w → AreWanted g n l x → length w.links ≡ length x.links
one_links g n l w x first second =
    let links : w.links ≡ x.links = first.links' ∙ sym second.links' in
    ap (λ (ls : List (ℕ × ℕ)). length ls) links

-- so the three counts are
pub one_kept : (g : Geometry) (n : NamesDue) (kept cleared orphans kept' cleared' orphans' : ℕ) → IsRenamedDue g n kept cleared orphans
    → IsRenamedDue g n kept' cleared' orphans' → kept ≡ kept'
one_kept g n kept cleared orphans kept' cleared' orphans' a b =
    a.kept' ∙ one_links g n (lost_due g n) a.w b.w a.names.wanted b.names.wanted ∙ sym b.kept'

pub one_cleared : (g : Geometry) (n : NamesDue) (kept cleared orphans kept' cleared' orphans' : ℕ) → IsRenamedDue g n kept cleared orphans
    → IsRenamedDue g n kept' cleared' orphans' → cleared ≡ cleared'
one_cleared g n kept cleared orphans kept' cleared' orphans' a b = a.cleared' ∙ sym b.cleared'

pub one_lost : (g : Geometry) (n : NamesDue) (kept cleared orphans kept' cleared' orphans' : ℕ) → IsRenamedDue g n kept cleared orphans
    → IsRenamedDue g n kept' cleared' orphans' → orphans ≡ orphans'
one_lost g n kept cleared orphans kept' cleared' orphans' a b = a.orphans' ∙ sym b.orphans'

-- one thing finds no room first, and then all does not
one_finds : (g : Geometry) (n : NamesDue) (a b : Unplaced) → FindsNoRoomRenamed g n a → FindsNoRoomRenamed g n b → a ≡ b
one_finds g n a b first second =
    one_without (renamed_wanted g n first.w first.built) a b first.finds
    (subst (λ (w : Wanted). FindsNoRoom w b) (one_request g n second.w first.w second.built first.built second.names first.names) second.finds)

pub one_wanting : (g : Geometry) (n : NamesDue) (a b : Unplaced) → IsRenamedWithoutRoom g n a → IsRenamedWithoutRoom g n b → a ≡ b
one_wanting g n a b (inl first) (inl second) = first.0 ∙ sym second.0
one_wanting g n a b (inl first) (inr second) = absurd (second.found first.1)
one_wanting g n a b (inr first) (inl second) = absurd (first.found second.1)
one_wanting g n a b (inr first) (inr second) = one_finds g n a b first second

pub never_wanting : (g : Geometry) (n : NamesDue) (what : Unplaced) (kept cleared orphans : ℕ) → IsRenamedWithoutRoom g n what → IsRenamedDue g n kept cleared orphans → ⊥
never_wanting g n what kept cleared orphans (inl wanting) due = due.found wanting.1
never_wanting g n what kept cleared orphans (inr wanting) due =
    due.room.all what (subst (λ (w : Wanted). FindsNoRoom w what) (one_request g n wanting.w due.w wanting.built due.built wanting.names due.names) wanting.finds)
