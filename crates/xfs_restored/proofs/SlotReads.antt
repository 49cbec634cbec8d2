-- What each slot reads as once names were changed: a file that is due, or free.
use Rattle.std.proofs.Common.{◌≡◌, inl, inr, ℕ, Bool, true, false, ◌+◌, ◌≤◌, ◌==◌, if◌then◌else◌, List, [], ◌∷◌, length, Option, Some, None, refl, sym, ap, ◌∙◌, subst, arith}
use Rattle.std.specs.Option.{option_map}
use Rattle.std.proofs.lemmas.Bool.{and_from, and_right, cases_Bool, cases_eq, eq-eqb, ne_eqb}
use Rattle.xfs_disk.specs.Blocks.{Image}
use Rattle.xfs_disk.specs.Lists.{is_among}
use Rattle.xfs_disk.specs.declared.stamp.Stamp.{Stamp}
use Rattle.xfs_word.specs.Crc.{little_field_of}
use Rattle.xfs_geom.specs.Features.{or_else}
use Rattle.xfs_geom.specs.Runs.{covers}
use Rattle.xfs_geom.specs.Volumes.{Volume, volume_of}
use Rattle.xfs_geom.specs.declared.geometry.Geometry.{Geometry}
use Rattle.xfs_geom.specs.declared.records.Run.{Run}
use Rattle.xfs_image.specs.Candidates.{candidates}
use Rattle.xfs_image.specs.Claims.{candidate_files, candidate_inodes, claims}
use Rattle.xfs_image.specs.Slots.{cluster_inodes, reads_as, slot_bytes}
use Rattle.xfs_inode.specs.Named.{slot_reads}
use Rattle.xfs_inode.specs.Slots.{fork_bytes}
use Rattle.xfs_inode.specs.declared.files.FileRead.{FileRead}
use Rattle.xfs_inode.specs.declared.files.FileRead.TheVariants as Reads
use Rattle.xfs_inodebuild.specs.declared.forks.ForkWanted.{ForkWanted}
use Rattle.xfs_names.specs.Built.{fork_room}
use Rattle.xfs_volume.specs.Names.{type_of}
use Rattle.xfs_volume.specs.declared.cores.Core.{Core}
use Rattle.xfs_volume.specs.declared.files.FileRec.{FileRec}
use Rattle.xfs_views.specs.SameFiles.{HasSameClaims}
use Rattle.xfs_views.proofs.FilesStay.{free_stays}
use Rattle.xfs_views.proofs.Members.{Member, contains, flat_member, member_all, member_flat, member_map}
use Rattle.xfs_render.specs.Plans.{HoldsPlan}
use Rattle.xfs_render.specs.Slots.{IsMadeSlot, wanted_of}
use Rattle.xfs_render.specs.declared.wanted_slots.SlotBase.TheVariants.{Fresh}
use Rattle.xfs_render.specs.declared.wanted_slots.SlotWanted.{SlotWanted}
use Rattle.xfs_rename.specs.xfs_scan.declared.evidence.Evidence.{Evidence}
use Rattle.xfs_rename.specs.xfs_request.Fresh.{new_root_core, new_root_fork, new_system_core}
use Rattle.xfs_rename.specs.xfs_request.Slots.{freed_slot, is_bare, is_free, own_blocks, state_at}
use Rattle.xfs_rename.specs.xfs_request.declared.seen.SlotSeen.{SlotSeen}
use Rattle.xfs_rename.specs.xfs_made.Handed.{IsKeptOf}
use Rattle.xfs_rename.specs.xfs_rebuild.Names as Names
use Rattle.xfs_rename.specs.xfs_rebuild.declared.names_due.NamesDue.{NamesDue}
use Rattle.xfs_restored.proofs.Standing.{same_size}
use Rattle.xfs_restored.specs.DueFiles.{due_core, kept_inodes, linked_core, new_core, stated_crc}
use Rattle.xfs_restored.specs.Kept.{state_read}
use Rattle.xfs_restored.proofs.Changes.{with_core}
use Rattle.xfs_restored.proofs.Fresh.{freed_reads}
use Rattle.xfs_restored.proofs.InKept.{kept_read, of_kept}
use Rattle.xfs_restored.proofs.RootInodes.{low_root}
use Rattle.xfs_restored.proofs.Wanted.{state_is}
use Rattle.xfs_rename.specs.xfs_changes.Forks.{attribute_blocks, attribute_blocks_at}
use Rattle.xfs_rename.specs.Lost.{lost_due}
use Rattle.xfs_rename.specs.xfs_changes.Rooms.{fork_rooms}
use Rattle.xfs_rename.specs.Settled.{settled, staying_file, without_data}
use Rattle.xfs_rename.specs.xfs_changes.Slots.{lost_core}
use Rattle.xfs_rename.specs.declared.planning.Renamed.{Renamed}
use Rattle.xfs_naming.specs.Naming.{file_at}
use Rattle.xfs_rename.specs.xfs_built.Directories.{BuiltRuns}
use Rattle.xfs_restored.specs.RunForks.{fork_of_runs}
use Rattle.xfs_restored.specs.Reading.{IsFreshDirectory, fresh_directory_slot}
use Rattle.xfs_restored.proofs.DueSlots.{slots_due}
use Rattle.xfs_restored.proofs.HeldPlans.{others_stay, renamed_holds}
use Rattle.xfs_restored.proofs.NewSlots.{added_made}
use Rattle.xfs_restored.proofs.ShortRoom.{fork_room_is}
use Rattle.xfs_restored.proofs.Handed.{kept_of_image}
use Rattle.xfs_restored.proofs.Known.{evidence_known}
use Rattle.xfs_restored.specs.Relinking.{IsRelinked, built_at, extents_built, file_due, core_anew, file_with_links, with_built}
use Rattle.xfs_restored.proofs.BuiltRooms.{all_own, built_for, whole_room}
use Rattle.xfs_restored.proofs.ClaimsStay.{claims_stay, runs_apart}
use Rattle.xfs_restored.proofs.PlainSlots.{IsMadeOf, ReadsKept, drop_due, forked_made, kept_change, kept_reads, unforked_parts}
use Rattle.xfs_restored.proofs.KnownNames.{AreKnown, IsKeptWanted, all_inodes, built, fresh_fork, l, old, slots, v}
use Rattle.xfs_restored.proofs.LostInodes.{lost_inode, numbers_keep}
use Rattle.xfs_restored.proofs.MadeSlots.{built_reads, made_with_fork, root_reads, system_reads}
use Rattle.xfs_restored.proofs.RebuiltSlots.{AreOff, IsBuiltFor, fork_beside, rebuilt_reads}

is_free_read : (read : FileRead) → is_free (state_read read) ≡ true → read ≡ Reads.Free
is_free_read Reads.Free is = refl
is_free_read (Reads.File file) is = absurd cc
is_free_read (Reads.FileWithoutAttrs file) is = absurd cc
is_free_read (Reads.Unsupported what) is = absurd cc
is_free_read Reads.Unsound is = absurd cc

root_fresh : (v : Volume) (s : Stamp) → IsFreshDirectory (new_root_core v s)
root_fresh v s = record { type' = refl; forkoff' = refl; states = refl; last = refl }

lost_fresh : (v : Volume) (s : Stamp) (ino : ℕ) → IsFreshDirectory (lost_core v s ino)
lost_fresh v s ino = record { type' = refl; forkoff' = refl; states = refl; last = refl }

-- a directory that is made anew, with its fork beside no attributes
module _ (v : Volume) (image : Image) (generation : ℕ) (core : Core) (k attributes : ℕ) (d : BuiltRuns) (before after : List ℕ) (is : IsFreshDirectory core) (fits : IsBuiltFor v 336 d)
    (none : attributes ≡ 0) where
  pub made_reads : IsMadeSlot v generation (fresh_directory_slot core (fork_beside v attributes d) (Some k)) before after
      → slot_reads v image core.ino after ≡ Reads.File (made_with_fork core k (little_field_of after 100 4) (fork_beside v attributes d) (extents_built v d))
  made_reads made =
      subst (λ (m : ℕ). slot_reads v image core.ino after ≡ Reads.File (made_with_fork core k (little_field_of after 100 4) (fork_beside v m d) (extents_built v d))) (sym none)
      (built_reads v image generation core k d before after is fits
      (subst (λ (m : ℕ). IsMadeSlot v generation (fresh_directory_slot core (fork_beside v m d) (Some k)) before after) none made))

module _ (g : Geometry) (sector : List ℕ) (s : Stamp) (image now : Image) (e : Evidence) (n : NamesDue) (r : Renamed) (has : IsRelinked g sector s image now e n r)
    (known : AreKnown g sector s image now e n r has) where
  abbrev vol : Volume
  vol = volume_of g

  abbrev crc : ℕ → ℕ
  crc = stated_crc vol now

  abbrev due : ℕ × ℕ → FileRec
  due = file_due g s now has.on n has.is.w has.is.built has.is.placed

  abbrev inodes : List ℕ
  inodes = all_inodes g sector s image now e n r has

  abbrev wants : List SlotWanted
  wants = slots g sector s image now e n r has

  abbrev files : List FileRec
  files = has.on.kept.files

  abbrev before : List FileRec
  before = old g sector s image now e n r has

  abbrev dirs : List BuiltRuns
  dirs = built g sector s image now e n r has

  abbrev bare : FileRec → Bool
  bare f = is_bare (state_at has.on.seen f.ino)

  size : g.dblocks ≤ length now
  size =
      let enough = has.new.enough in
      let same = same_size g r.rebuilt image now has.new in
      omega (arith, enough, same)

  holds : HoldsPlan now has.is.left.plan
  holds = renamed_holds g sector s image n r has.is now has.new

  -- each slot is what is wanted of it
  slot_due : (ino : ℕ) → Member ino inodes → IsMadeOf vol s.generation (wanted_of wants ino) (slot_bytes vol image ino) (slot_bytes vol now ino)
  slot_due ino is = slots_due g sector s image now n r has.is holds size (others_stay g sector s image n r has.is now has.new) ino (contains ino inodes is)

  slot_made : (ino : ℕ) (o : Option SlotWanted) → Member ino inodes → wanted_of wants ino ≡ o → IsMadeOf vol s.generation o (slot_bytes vol image ino) (slot_bytes vol now ino)
  slot_made ino o is wanted = subst (λ (x : Option SlotWanted). IsMadeOf vol s.generation x (slot_bytes vol image ino) (slot_bytes vol now ino)) wanted (slot_due ino is)

  pub of_image : IsKeptOf vol (candidates vol image) (candidate_files vol image) has.on.kept
  of_image = kept_of_image g image e has.on has.evidence has.ground

  state_known : (ino : ℕ) → Member ino (candidate_inodes vol image) → state_at has.on.seen ino ≡ state_read (reads_as vol image ino)
  state_known ino is = ap (λ (xs : List SlotSeen). state_at xs ino) (has.ground.seen' ∙ evidence_known g image e has.evidence) ∙ state_is vol image ino is

  pub kept_among : (ino : ℕ) → Member ino (kept_inodes vol has.on.kept) → Member ino inodes
  unfolding kept_inodes
  kept_among ino is =
      let at = flat_member (cluster_inodes vol) ino has.on.kept.clusters is in
      let there : Member at.0 n.clusters = subst (λ (cs : List ℕ). Member at.0 cs) (sym has.due.clusters') at.1 in
      member_flat (cluster_inodes vol) at.0 ino (settled n (lost_due g n) has.is.w).clusters (numbers_keep (lost_due g n).added at.0 n.clusters there) at.2

  -- a kept file as its slot read
  file_read_before : (f : FileRec) → Member f files → ReadsKept vol image (slot_bytes vol image f.ino) f (bare f)
  unfolding reads_as
  file_read_before f is =
      let read = kept_read g image has.on.kept of_image f is in
      let state = state_known f.ino read.inode in
      elim read.reads [
        | inl whole ↦ subst (ReadsKept vol image (slot_bytes vol image f.ino) f) (sym (ap is_bare (state ∙ ap state_read whole))) whole
        | inr lost ↦ subst (ReadsKept vol image (slot_bytes vol image f.ino) f) (sym (ap is_bare (state ∙ ap state_read lost))) lost
      ]

  -- what stays of it
  staying_among : (f : FileRec) → Member f files → Member (staying_file has.is.w.rebuilt (Names.linked_file g.rootino has.on.kept f)) before
  staying_among f is =
      subst (λ (fs : List FileRec). Member (staying_file has.is.w.rebuilt (Names.linked_file g.rootino has.on.kept f)) fs) (sym known.old_are)
      (member_map (staying_file has.is.w.rebuilt) (Names.linked_file g.rootino has.on.kept f) (Names.linked_files g.rootino has.on.kept)
      (member_map (Names.linked_file g.rootino has.on.kept) f files is))

  staying_claims : (f : FileRec) → Member f files → HasSameClaims vol image now (staying_file has.is.w.rebuilt (Names.linked_file g.rootino has.on.kept f))
  staying_claims f is = claims_stay g sector s image n r has.is (staying_file has.is.w.rebuilt (Names.linked_file g.rootino has.on.kept f)) (staying_among f is) now has.new

  pub kept_claims : (f : FileRec) → Member f files → is_among has.is.w.rebuilt f.ino ≡ false → HasSameClaims vol image now f
  kept_claims f is stays =
      subst (λ (t : Bool). HasSameClaims vol image now (if t then without_data (Names.linked_file g.rootino has.on.kept f) else Names.linked_file g.rootino has.on.kept f)) stays (staying_claims f is)

  -- a file that is no directory is not built anew
  pub plain_claims : (f : FileRec) → Member f files → (type_of f ≡ 4 → ⊥) → HasSameClaims (volume_of g) image now f
  plain_claims f is other = elim (cases_Bool (is_among has.is.w.rebuilt f.ino)) [
    | inl anew ↦ let built' = known.built_has f.ino anew in absurd (other (known.kept_built_directory f built'.0 is built'.1))
    | inr stays ↦ kept_claims f is stays
  ]

  rebuilt_claims : (f : FileRec) → Member f files → is_among has.is.w.rebuilt f.ino ≡ true → HasSameClaims vol image now (without_data f)
  rebuilt_claims f is anew =
      subst (λ (t : Bool). HasSameClaims vol image now (if t then without_data (Names.linked_file g.rootino has.on.kept f) else Names.linked_file g.rootino has.on.kept f)) anew (staying_claims f is)

  rebuilt_off : (f : FileRec) (d : BuiltRuns) → Member f files → is_among has.is.w.rebuilt f.ino ≡ true → Member d dirs
      → (block : ℕ) → claims vol (without_data f) block ≡ true → AreOff d.runs block
  rebuilt_off f d is anew among block claimed =
      let left : FileRec = staying_file has.is.w.rebuilt (Names.linked_file g.rootino has.on.kept f) in
      let own : claims vol left block ≡ true =
      subst (λ (t : Bool). claims vol (if t then without_data (Names.linked_file g.rootino has.on.kept f) else Names.linked_file g.rootino has.on.kept f) block ≡ true) (sym anew) claimed in
      member_all (λ (x : BuiltRuns). AreOff x.runs block) d dirs
      (all_own (λ (run : Run). covers block run ≡ false) has.is.built has.is.placed.cuts has.is.placed.runs
      (runs_apart g sector s image n r has.is left (staying_among f is) block own)) among

  some : 1 ≤ g.agblocks
  some = let large = g.shape.groups.large in omega (arith, large)

  -- the room of a directory
  kept_room : (f : FileRec) (d : BuiltRuns) → Member f files → d.directory.ino ≡ f.ino → is_among has.is.w.rebuilt f.ino ≡ true
      → fork_room (fork_rooms has.is.w.rebuilt n.files) d.directory.ino ≡ fork_bytes f.core.forkoff
  kept_room f d is number anew =
      let x : FileRec = Names.linked_file g.rootino has.on.kept f in
      ap (fork_room (fork_rooms has.is.w.rebuilt n.files)) number
      ∙ fork_room_is has.is.w.rebuilt n.files x has.due.named.files_ascend (contains x n.files (known.kept_there f is)) anew

  fresh_room : (ino : ℕ) (d : BuiltRuns) → Member ino has.on.kept.fresh → d.directory.ino ≡ ino → is_among has.is.w.rebuilt ino ≡ true → (new_core vol s ino).forkoff ≡ 0
      → fork_room (fork_rooms has.is.w.rebuilt n.files) d.directory.ino ≡ 336
  fresh_room ino d is number anew none =
      let x : FileRec = Names.new_file ino (new_core vol s ino) in
      ap (fork_room (fork_rooms has.is.w.rebuilt n.files)) number
      ∙ (fork_room_is has.is.w.rebuilt n.files x has.due.named.files_ascend (contains x n.files (known.fresh_there ino is)) anew ∙ ap fork_bytes none)

  fits_in : (room : ℕ) (d : BuiltRuns) → Member d dirs → fork_room (fork_rooms has.is.w.rebuilt n.files) d.directory.ino ≡ room → IsBuiltFor vol room d
  fits_in room d among is = subst (λ (m : ℕ). IsBuiltFor vol m d) is (built_for g sector s image now n r has.is has.new d among)

  -- a kept file
  module _ (f : FileRec) (k : ℕ) (is : Member f files) (linked : Member (f.ino, k) has.is.w.links) where
    abbrev was : List ℕ
    was = slot_bytes vol image f.ino

    abbrev new : List ℕ
    new = slot_bytes vol now f.ino

    wanted : IsKeptWanted g sector s image now e n r has f k
    wanted = known.kept_wanted f k is linked

    abbrev plain : FileRec
    plain = with_core f (due_core (bare f) (own_blocks f) k (crc f.ino) f.core)

    kept_by : (o : Option BuiltRuns) → built_at dirs f.ino ≡ o → IsMadeOf vol s.generation (kept_change f.ino (drop_due f (bare f)) (option_map (fork_of_runs vol before) o) wanted.nlink) was new
        → slot_reads vol now f.ino new ≡ Reads.File (with_built vol before crc plain o)
    kept_by None at made =
        let stays : is_among has.is.w.rebuilt f.ino ≡ false = elim (cases_Bool (is_among has.is.w.rebuilt f.ino)) [
          | inl anew ↦ let built' = known.built_has f.ino anew in absurd (some_none built'.0 (sym built'.1 ∙ at))
          | inr stays ↦ stays
        ] in
        kept_reads vol image now f (bare f) k wanted.nlink was new (kept_claims f is stays) (file_read_before f is) wanted.named
        (unforked_parts vol s.generation f.ino (drop_due f (bare f)) wanted.nlink was new made)
      where
        some_none : (d : BuiltRuns) → Some d ≡ None → ⊥
        some_none d same = absurd cc
    kept_by (Some d) at made =
        let own = known.built_is f.ino d at in
        let attributes : attribute_blocks_at before d.directory.ino ≡ attribute_blocks f = ap (attribute_blocks_at before) own.1 ∙ known.own_attributes f is in
        rebuilt_reads vol s.generation image now f (bare f) k wanted.nlink (attribute_blocks_at before d.directory.ino) d was new some g.shape.addresses.enough
        (file_read_before f is) wanted.named (rebuilt_claims f is own.2) attributes (known.kept_built_directory f d is at)
        (fits_in (fork_bytes f.core.forkoff) d own.0 (kept_room f d is own.1 own.2)) (rebuilt_off f d is own.2 own.0)
        (forked_made vol s.generation f.ino (drop_due f (bare f)) (fork_beside vol (attribute_blocks_at before d.directory.ino) d) wanted.nlink was new made)

    pub kept_slot : reads_as vol now f.ino ≡ Reads.File (due (f.ino, k))
    unfolding reads_as
    kept_slot =
        kept_by (built_at dirs f.ino) refl
        (slot_made f.ino (kept_change f.ino (drop_due f (bare f)) (option_map (fork_of_runs vol before) (built_at dirs f.ino)) wanted.nlink) (kept_among f.ino (known.kept_inode f is)) wanted.wanted')
        ∙ ap (λ (o : Option FileRec). Reads.File (with_built vol before crc (file_with_links vol s (l g sector s image now e n r has) has.on.seen crc (f.ino, k) o) (built_at dirs f.ino)))
        (sym (known.kept_at f is))

  -- a file that is made anew, by its core
  abbrev made_due : ℕ → Core → ℕ → FileRec
  made_due ino core k = with_built vol before crc (Names.new_file ino (linked_core core k (crc ino))) (built_at dirs ino)

  due_made : (ino k : ℕ) (core : Core) → file_at files ino ≡ None → core_anew vol s (l g sector s image now e n r has) ino ≡ core → due (ino, k) ≡ made_due ino core k
  due_made ino k core none is =
      ap (λ (o : Option FileRec). with_built vol before crc (file_with_links vol s (l g sector s image now e n r has) has.on.seen crc (ino, k) o) (built_at dirs ino)) none
      ∙ ap (λ (c : Core). made_due ino c k) is

  fresh_is : (ino : ℕ) → Member ino has.on.kept.fresh → core_anew vol s (l g sector s image now e n r has) ino ≡ new_core vol s ino
  fresh_is ino is =
      let made : Bool = (l g sector s image now e n r has).made in
      let other : (ino == (l g sector s image now e n r has).new) ≡ false = ne_eqb ino (l g sector s image now e n r has).new (λ same. known.fresh_is_not_lost ino is (sym same)) in
      ap (λ (t : Bool). if t then lost_core vol s ino else new_core vol s ino) (and_right made (ino == (l g sector s image now e n r has).new) other)

  -- the root
  module _ (k : ℕ) (is : Member g.rootino has.on.kept.fresh) (linked : Member (g.rootino, k) has.is.w.links) where
    abbrev root_was : List ℕ
    root_was = slot_bytes vol image g.rootino

    abbrev root_now : List ℕ
    root_now = slot_bytes vol now g.rootino

    abbrev root_slot_of : Core → Option ForkWanted → SlotWanted
    root_slot_of core fork = record { ino = g.rootino; base = Fresh core; drop_attrs = None; fork = fork; nlink = Some k }

    root_core : new_core vol s g.rootino ≡ new_root_core vol s
    root_core = ap (λ (t : Bool). if t then new_root_core vol s else new_system_core vol s g.rootino) (eq-eqb g.rootino g.rootino refl)

    root_made : IsMadeSlot vol s.generation (root_slot_of (new_root_core vol s) (or_else (option_map (fork_of_runs vol before) (built_at dirs g.rootino)) (Some (new_root_fork vol)))) root_was root_now
    root_made =
        subst (λ (t : Bool). IsMadeSlot vol s.generation
        (root_slot_of (if t then new_root_core vol s else new_system_core vol s g.rootino)
        (or_else (option_map (fork_of_runs vol before) (built_at dirs g.rootino)) (if t then Some (new_root_fork vol) else None))) root_was root_now)
        (eq-eqb g.rootino g.rootino refl)
        (slot_made g.rootino
        (Some (root_slot_of (new_core vol s g.rootino) (or_else (option_map (fork_of_runs vol before) (built_at dirs g.rootino)) (fresh_fork vol g.rootino))))
        (kept_among g.rootino (known.fresh_inode g.rootino is)) (known.fresh_wanted g.rootino k is linked))

    root_by : (o : Option BuiltRuns) → built_at dirs g.rootino ≡ o
        → IsMadeSlot vol s.generation (root_slot_of (new_root_core vol s) (or_else (option_map (fork_of_runs vol before) o) (Some (new_root_fork vol)))) root_was root_now
        → slot_reads vol now g.rootino root_now ≡ Reads.File (with_built vol before crc (Names.new_file g.rootino (linked_core (new_root_core vol s) k (crc g.rootino))) o)
    root_by None at made = root_reads vol s now s.generation k root_was root_now (low_root g) made
    root_by (Some d) at made =
        let own = known.built_is g.rootino d at in
        let none : attribute_blocks_at before d.directory.ino ≡ 0 = ap (attribute_blocks_at before) own.1 ∙ known.no_attributes g.rootino (known.fresh_not_kept g.rootino is) in
        made_reads vol now s.generation (new_root_core vol s) k (attribute_blocks_at before d.directory.ino) d root_was root_now (root_fresh vol s)
        (fits_in 336 d own.0 (fresh_room g.rootino d is own.1 own.2 (ap (λ (c : Core). c.forkoff) root_core))) none made

    root_slot : reads_as vol now g.rootino ≡ Reads.File (due (g.rootino, k))
    unfolding reads_as
    root_slot =
        root_by (built_at dirs g.rootino) refl root_made
        ∙ ap (λ (f : FileRec). Reads.File f) (sym (due_made g.rootino k (new_root_core vol s) (known.fresh_not_kept g.rootino is) (fresh_is g.rootino is ∙ root_core)))

  -- a system inode
  module _ (ino k : ℕ) (is : Member ino has.on.kept.fresh) (linked : Member (ino, k) has.is.w.links) (other : ino ≡ g.rootino → ⊥) where
    system_slot : reads_as vol now ino ≡ Reads.File (due (ino, k))
    unfolding reads_as
    system_slot =
        let stays : (ino == g.rootino) ≡ false = ne_eqb ino g.rootino other in
        let unbuilt : built_at dirs ino ≡ None = known.system_not_built ino is other in
        let core : new_core vol s ino ≡ new_system_core vol s ino = ap (λ (t : Bool). if t then new_root_core vol s else new_system_core vol s ino) stays in
        let made = slot_made ino
        (Some (record {
          ino = ino;
          base = Fresh (new_core vol s ino);
          drop_attrs = None;
          fork = or_else (option_map (fork_of_runs vol before) (built_at dirs ino)) (fresh_fork vol ino);
          nlink = Some k;
        })) (kept_among ino (known.fresh_inode ino is)) (known.fresh_wanted ino k is linked) in
        let plain : IsMadeSlot vol s.generation
        (record { ino = ino; base = Fresh (new_core vol s ino); drop_attrs = None; fork = if ino == g.rootino then Some (new_root_fork vol) else None; nlink = Some k })
        (slot_bytes vol image ino) (slot_bytes vol now ino) =
        subst (λ (o : Option BuiltRuns). IsMadeSlot vol s.generation
        (record { ino = ino; base = Fresh (new_core vol s ino); drop_attrs = None; fork = or_else (option_map (fork_of_runs vol before) o) (fresh_fork vol ino); nlink = Some k })
        (slot_bytes vol image ino) (slot_bytes vol now ino)) unbuilt made in
        let alone = subst (λ (t : Bool). IsMadeSlot vol s.generation
        (record { ino = ino; base = Fresh (if t then new_root_core vol s else new_system_core vol s ino); drop_attrs = None; fork = if t then Some (new_root_fork vol) else None; nlink = Some k })
        (slot_bytes vol image ino) (slot_bytes vol now ino)) stays plain in
        system_reads vol s now s.generation ino k (slot_bytes vol image ino) (slot_bytes vol now ino) alone
        ∙ ap (λ (f : FileRec). Reads.File f)
        (sym (due_made ino k (new_system_core vol s ino) (known.fresh_not_kept ino is) (fresh_is ino is ∙ core)
        ∙ ap (with_built vol before crc (Names.new_file ino (linked_core (new_system_core vol s ino) k (crc ino)))) unbuilt))

  fresh_slot : (ino k : ℕ) → Member ino has.on.kept.fresh → Member (ino, k) has.is.w.links → reads_as vol now ino ≡ Reads.File (due (ino, k))
  fresh_slot ino k is linked =
      elim (cases_eq ino g.rootino) [
        | inl same ↦
            subst (λ (m : ℕ). reads_as vol now m ≡ Reads.File (due (m, k))) (sym same)
            (root_slot k (subst (λ (m : ℕ). Member m has.on.kept.fresh) same is) (subst (λ (m : ℕ). Member (m, k) has.is.w.links) same linked))
        | inr other ↦ system_slot ino k is linked other
      ]

  -- lost+found
  abbrev lost : ℕ
  lost = (l g sector s image now e n r has).new

  module _ (k : ℕ) (is : (l g sector s image now e n r has).made ≡ true) (linked : Member (lost, k) has.is.w.links) where
    abbrev lost_was : List ℕ
    lost_was = slot_bytes vol image lost

    abbrev lost_now : List ℕ
    lost_now = slot_bytes vol now lost

    lost_by : (d : BuiltRuns) → built_at dirs lost ≡ Some d
        → IsMadeSlot vol s.generation (fresh_directory_slot (lost_core vol s lost) (fork_of_runs vol before d) (Some k)) lost_was lost_now
        → slot_reads vol now lost lost_now ≡ Reads.File (with_built vol before crc (Names.new_file lost (linked_core (lost_core vol s lost) k (crc lost))) (Some d))
    lost_by d at made =
        let own = known.built_is lost d at in
        let none : attribute_blocks_at before d.directory.ino ≡ 0 = ap (attribute_blocks_at before) own.1 ∙ known.no_attributes lost (known.lost_not_kept is) in
        let room : fork_room (fork_rooms has.is.w.rebuilt n.files) d.directory.ino ≡ 336 =
        ap (fork_room (fork_rooms has.is.w.rebuilt n.files)) own.1 ∙ whole_room has.is.w.rebuilt n.files lost (λ x among. known.file_not_lost x among) in
        made_reads vol now s.generation (lost_core vol s lost) k (attribute_blocks_at before d.directory.ino) d lost_was lost_now (lost_fresh vol s lost) (fits_in 336 d own.0 room) none made

    lost_slot : reads_as vol now lost ≡ Reads.File (due (lost, k))
    unfolding reads_as
    lost_slot =
        let at = known.lost_built is in
        let made = slot_made lost
        (Some (record { ino = lost; base = Fresh (lost_core vol s lost); drop_attrs = None; fork = option_map (fork_of_runs vol before) (built_at dirs lost); nlink = Some k }))
        (lost_inode g sector s image now n r has.is holds size is) (known.lost_wanted k is linked) in
        let core : core_anew vol s (l g sector s image now e n r has) lost ≡ lost_core vol s lost =
        ap (λ (t : Bool). if t then lost_core vol s lost else new_core vol s lost) (and_from (l g sector s image now e n r has).made (lost == lost) is (eq-eqb lost lost refl)) in
        lost_by at.0 at.1
        (subst (λ (o : Option BuiltRuns). IsMadeSlot vol s.generation
        (record { ino = lost; base = Fresh (lost_core vol s lost); drop_attrs = None; fork = option_map (fork_of_runs vol before) o; nlink = Some k }) lost_was lost_now) at.1 made)
        ∙ ap (λ (f : FileRec). Reads.File f)
        (sym (due_made lost k (lost_core vol s lost) (known.lost_not_kept is) core
        ∙ ap (with_built vol before crc (Names.new_file lost (linked_core (lost_core vol s lost) k (crc lost)))) at.1))

  -- each pair
  pub pair_reads : (p : ℕ × ℕ) → Member p has.is.w.links → reads_as (volume_of g) now p.0 ≡ Reads.File (file_due g s now has.on n has.is.w has.is.built has.is.placed p)
  pair_reads p is = elim (known.pair_cases p is) [
    | inl kept' ↦
        subst (λ (m : ℕ). reads_as vol now m ≡ Reads.File (due (m, p.1))) kept'.2
        (kept_slot kept'.0 p.1 kept'.1 (subst (λ (m : ℕ). Member (m, p.1) has.is.w.links) (sym kept'.2) is))
    | inr rest ↦ elim rest [
      | inl fresh ↦ fresh_slot p.0 p.1 fresh is
      | inr other ↦
          subst (λ (m : ℕ). reads_as vol now m ≡ Reads.File (due (m, p.1))) (sym other.1)
          (lost_slot p.1 other.0 (subst (λ (m : ℕ). Member (m, p.1) has.is.w.links) other.1 is))
    ]
  ]

  pub pair_among : (p : ℕ × ℕ) → Member p has.is.w.links → Member p.0 inodes
  pair_among p is = elim (known.pair_cases p is) [
    | inl kept' ↦ subst (λ (m : ℕ). Member m inodes) kept'.2 (kept_among kept'.0.ino (known.kept_inode kept'.0 kept'.1))
    | inr rest ↦ elim rest [
      | inl fresh ↦ kept_among p.0 (known.fresh_inode p.0 fresh)
      | inr other ↦ subst (λ (m : ℕ). Member m inodes) (sym other.1) (lost_inode g sector s image now n r has.is holds size other.0)
    ]
  ]

  -- an inode that no pair has
  free_reads : (ino : ℕ) → IsMadeSlot vol s.generation (freed_slot ino) (slot_bytes vol image ino) (slot_bytes vol now ino) → reads_as vol now ino ≡ Reads.Free
  unfolding reads_as
  free_reads ino made = freed_reads vol now s.generation ino (slot_bytes vol image ino) (slot_bytes vol now ino) made

  free_by : (ino : ℕ) → Member ino (kept_inodes vol has.on.kept) → (t : Bool) → is_free (state_at has.on.seen ino) ≡ t
      → IsMadeOf vol s.generation (if t then None else Some (freed_slot ino)) (slot_bytes vol image ino) (slot_bytes vol now ino) → reads_as vol now ino ≡ Reads.Free
  free_by ino is true free same =
      let at = (of_kept g image has.on.kept of_image ino is).candidate in
      let state = state_known ino at in
      free_stays vol image now ino same (is_free_read (reads_as vol image ino) (ap is_free (sym state) ∙ free))
  free_by ino is false free made = free_reads ino made

  pub none_reads : (ino : ℕ) → Member ino inodes → ((p : ℕ × ℕ) → Member p has.is.w.links → p.0 ≡ ino → ⊥) → reads_as vol now ino ≡ Reads.Free
  none_reads ino is none = elim (known.inode_cases ino is) [
    | inl kept' ↦
        free_by ino kept' (is_free (state_at has.on.seen ino)) refl
        (slot_made ino (if is_free (state_at has.on.seen ino) then None else Some (freed_slot ino)) is (known.free_wanted ino kept' (λ k linked. none (ino, k) linked refl)))
    | inr other ↦ elim (known.new_inode other.0 ino other.1 other.2) [
      | inl same ↦ let pair = known.lost_linked (added_is_made other.0 other.1) in absurd (none (lost, pair.0) pair.1 (sym same))
      | inr behind ↦
          subst (λ (m : ℕ). reads_as vol now m ≡ Reads.Free) (sym behind.2)
          (free_reads (lost + 1 + behind.0)
          (slot_made (lost + 1 + behind.0) (Some (freed_slot (lost + 1 + behind.0))) (subst (λ (m : ℕ). Member m inodes) behind.2 is) (known.behind_wanted other.0 behind.0 other.1 behind.1)))
    ]
  ]
    where
      added_is_made : (cluster : ℕ) → (l g sector s image now e n r has).added ≡ cluster ∷ [] → (l g sector s image now e n r has).made ≡ true
      added_is_made cluster added = (added_made g n cluster added).1
