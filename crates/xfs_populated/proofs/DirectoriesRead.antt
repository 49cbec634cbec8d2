-- The directories of a new volume read as the protofile has them.
use Rattle.std.proofs.Common.{◌≡◌, ◌≢◌, ◌⊎◌, inl, inr, ℕ, ◌+◌, ◌==◌, ◌&&◌, ◌≤◌, ◌<◌, Bool, true, false, if◌then◌else◌, List, ◌++◌, length, map, get_or, is_some, Option, Some, sym, subst, ap, ◌∙◌, arith}
use Rattle.std.specs.List.{All, AllPairs, filter, find, list_all}
use Rattle.std.proofs.lemmas.Bool.{cases_Bool, eqb-true, not-false}
use Rattle.std.proofs.lemmas.List.{get_or-append-add, length-append}
use Rattle.std.proofs.lemmas.List.Elements.{All-filter}
use Rattle.xfs_disk.specs.Blocks.{Image}
use Rattle.xfs_disk.specs.declared.stamp.Stamp.{Stamp}
use Rattle.xfs_dirbuild.specs.Forms.{form_of}
use Rattle.xfs_dirbuild.specs.declared.forms.DirectoryForm.{DirectoryForm}
use Rattle.xfs_dirbuild.specs.declared.forms.DirectoryForm.TheVariants.{Short}
use Rattle.xfs_dirdata.specs.Short.{ShortForm, short_of}
use Rattle.xfs_dirdata.specs.Written.{in_directory}
use Rattle.xfs_dirdata.specs.declared.records.EntryRec.{EntryRec}
use Rattle.xfs_dirindex.specs.Data.{is_parent_name}
use Rattle.xfs_geom.specs.Volumes.{Volume, volume_of}
use Rattle.xfs_geom.specs.declared.geometry.Geometry.{Geometry}
use Rattle.xfs_geom.specs.declared.records.Run.{Run}
use Rattle.xfs_image.specs.Directories.{block_entries, data_blocks, entries_of, entries_of_form, entry_target, has_whole_form, is_beside_dots, is_own, is_short, is_whole, mapped_blocks, parent_of, parent_of_form, short_form}
use Rattle.xfs_names.specs.declared.building.BuiltDirectory.{BuiltDirectory}
use Rattle.xfs_place.specs.Claims.{IsClaimedRun}
use Rattle.xfs_place.specs.Wanted.{kept_runs}
use Rattle.xfs_proto.specs.declared.protofile.ProtoNode.{ProtoNode}
use Rattle.xfs_render.specs.declared.plan.Plan.{Plan}
use Rattle.xfs_built.specs.Asks.{stands_in_blocks}
use Rattle.xfs_volume.specs.declared.files.FileRec.{FileRec}
use Rattle.xfs_filled.specs.Chunks.{chunk_starts}
use Rattle.xfs_filled.specs.Contents.{all_blocks}
use Rattle.xfs_filled.specs.Directories.{fresh_fork_bytes}
use Rattle.xfs_filled.specs.Entries.{entries_at, entry_of_place, parent_of_place}
use Rattle.xfs_filled.specs.FileTrees.{child_places, is_directory_node, object_order, places_of_kind}
use Rattle.xfs_filled.specs.Forks.{owned_by}
use Rattle.xfs_filled.specs.Numbers.{number_of}
use Rattle.xfs_filled.specs.Objects.{all_objects}
use Rattle.xfs_filled.specs.Sites.{AreChunksPlaced}
use Rattle.xfs_filled.specs.Wanting.{filled_wanted}
use Rattle.xfs_filled.proofs.Asking.{order_inside}
use Rattle.xfs_filled.proofs.Entering.{entries_few, entries_no_dots, entries_writable}
use Rattle.xfs_filled.proofs.Numbering.{number_low}
use Rattle.xfs_filled.proofs.Ordered.{number_once, order_differs}
use Rattle.xfs_built.specs.Directories.{IsFileOf, IsShortFileOf}
use Rattle.xfs_built.proofs.Sized.{none_short}
use Rattle.xfs_built.proofs.Whole as Whole
use Rattle.xfs_populated.specs.Names.{AreDirectoriesBuilt, HasImage, HasShortForms, ReadsDirectory}
use Rattle.xfs_populated.specs.Populated.{IsPopulated, filled_file}
use Rattle.xfs_populated.proofs.DirectoriesStand as Stand
use Rattle.xfs_populated.proofs.DirectoryFiles.{file_in_slot, file_of_blocks}
use Rattle.xfs_populated.proofs.DirectoryObjects.{image_sized}
use Rattle.xfs_populated.proofs.NameLists.{map_both, map_same}
use Rattle.xfs_populated.proofs.NamedPlaces.{child_of, directories_are, directories_inside, has_directory}
use Rattle.xfs_populated.proofs.NumbersStand.{chunks_placed}

-- entries that have the number of the directory already
own_names : (v : Volume) (starts : List ℕ) (ns : List ProtoNode) (k : ℕ) → map (in_directory (number_of v starts k)) (entries_at v starts ns k) ≡ entries_at v starts ns k
own_names v starts ns k =
    map_both (in_directory (number_of v starts k)) (entry_of_place v starts ns) (child_places ns k)
    ∙ map_same (λ i. in_directory (number_of v starts k) (entry_of_place v starts ns i)) (entry_of_place v starts ns) (child_places ns k) (λ m d low.
    let e : EntryRec = entry_of_place v starts ns (get_or (child_places ns k) m d) in
    ap (λ (n : ℕ). in_directory (number_of v starts n) e) (sym (child_of ns k m d low)))

all_back : {X : Type 0} (P : X → Type 0) (xs ys : List X) → All P (xs ++ ys) → All P ys
all_back P xs ys all k d low =
    let long = length-append xs ys in
    subst P (get_or-append-add xs ys k d) (all (length xs + k) d (omega (arith, low, long)))

-- a directory in short form
abbrev form_with : ℕ → List EntryRec → Option ShortForm
form_with parent es = Some (record { parent = parent; entries = es })

module _ (v : Volume) (image : Image) (es : List EntryRec) (dir parent : ℕ) (has : HasImage es dir parent) (f : FileRec) (file : IsShortFileOf v image (record { ino = dir; image = has.image }) f)
    (same : map (in_directory dir) es ≡ es) (short : stands_in_blocks (record { ino = dir; image = has.image }) ≡ false) where
  abbrev form : DirectoryForm
  form = form_of es fresh_fork_bytes

  is_form : form ≡ Short
  is_form = none_short form es (sym has.is.data_count ∙ eqb-true has.image.data_blocks 0 (not-false (has.image.data_blocks == 0) short))

  form_reads : short_form v image f ≡ form_with parent es
  unfolding short_form
  form_reads =
      ap (short_of f.ino) file.bytes'
      ∙ (has.is.short_reads is_form f.ino
      ∙ ap (form_with parent) (ap (λ (d : ℕ). map (in_directory d) es) file.ino' ∙ same))

  yes_short : is_short f ≡ true
  yes_short = ap (λ (n : ℕ). n == 1) file.format'

  pub short_reads : ReadsDirectory v image f es parent
  unfolding is_whole entries_of parent_of
  short_reads = record {
    whole =
        ap (λ (t : Bool). if t then is_some (short_form v image f) else (has_whole_form f.ino f.core.size (mapped_blocks v image f) && list_all (is_own v f.ino) (data_blocks v image f))) yes_short
        ∙ ap is_some form_reads;
    entries' = ap (λ (t : Bool). if t then entries_of_form (short_form v image f) else filter is_beside_dots (block_entries v image f)) yes_short ∙ ap entries_of_form form_reads;
    parent' =
        ap (λ (t : Bool). if t then parent_of_form (short_form v image f) else entry_target (find (λ (e : EntryRec). is_parent_name e.name) (block_entries v image f))) yes_short
        ∙ ap parent_of_form form_reads;
  }

module _ (g : Geometry) (sector : List ℕ) (s : Stamp) (ns : List ProtoNode) (contents : List (List ℕ)) (plan : Plan) (blocks : ℕ) (image : Image) (crc : ℕ → ℕ)
    (is : IsPopulated g sector s ns contents plan blocks image) (built : AreDirectoriesBuilt (volume_of g) (chunk_starts g (length ns)) ns) where
  abbrev v : Volume
  v = volume_of g

  abbrev starts : List ℕ
  starts = chunk_starts g (length ns)

  abbrev runs : List Run
  runs = is.filled.placed.runs

  placed : AreChunksPlaced g starts ns
  placed = chunks_placed g ns is.first is.room.chunks

  built_at : (k : ℕ) → k < length ns → is_directory_node ns k ≡ true → Stand.IsBuiltAt v image starts ns contents k
  built_at k low dir =
      let has = built.each k low dir in
      record {
        dir = dir;
        has = has;
        sized =
            image_sized (form_of (entries_at v starts ns k) fresh_fork_bytes) (entries_at v starts ns k) (parent_of_place v starts ns k) (record { ino = number_of v starts k; image = has.image }) has.is
            (entries_writable g starts ns k placed is.files) (entries_few v starts ns k is.files) (number_low g starts ns k placed low);
      }

  numbers_apart : AllPairs (λ a b. number_of v starts a ≢ number_of v starts b) (object_order ns)
  numbers_apart i j d less low =
      number_once g starts ns (get_or (object_order ns) i d) (get_or (object_order ns) j d) placed (order_inside ns i d (omega (arith, less, low))) (order_inside ns j d low) (order_differs ns i j d less low)

  -- each directory stands in its runs
  pub stands_at : (k : ℕ) → k < length ns → is_directory_node ns k ≡ true → Stand.StandsAt v image starts ns contents k runs
  unfolding all_objects all_blocks
  stands_at k low dir =
      Stand.stands_among v image starts ns contents (places_of_kind ns true) (places_of_kind ns false) is.filled.placed.cuts runs k
      (λ m d few. built_at (get_or (places_of_kind ns true) m d) (directories_inside ns m d few) (directories_are ns m d few)) numbers_apart is.filled.served
      (is.filled.rendered.reads image is.holds).objects (has_directory ns k low dir)

  pub some_blocks : (owner : ℕ) → All (λ (r : Run). 1 ≤ r.count) (owned_by owner runs)
  some_blocks owner =
      All-filter (λ (r : Run). r.owner == owner) (λ (r : Run). 1 ≤ r.count) runs
      (λ k d low. (all_back (IsClaimedRun g.dblocks) (kept_runs (filled_wanted g ns contents)) runs is.filled.stands.apart.each k d low).some)

  abbrev due : ℕ → FileRec
  due = filled_file v s starts ns contents runs crc

  module _ (shorts : HasShortForms (volume_of g) (chunk_starts g (length ns)) ns image) where
    by_form : (k : ℕ) → k < length ns → is_directory_node ns k ≡ true → (at : Stand.StandsAt v image starts ns contents k runs)
        → (stands_in_blocks (record { ino = number_of v starts k; image = at.built.has.image }) ≡ true) ⊎ (stands_in_blocks (record { ino = number_of v starts k; image = at.built.has.image }) ≡ false)
        → ReadsDirectory v image (due k) (entries_at v starts ns k) (parent_of_place v starts ns k)
    by_form k low dir at (inr short) =
        short_reads v image (entries_at v starts ns k) (number_of v starts k) (parent_of_place v starts ns k) at.built.has (due k)
        (file_in_slot v s starts ns contents runs crc k dir at.built.has image low shorts short) (own_names v starts ns k) short
    by_form k low dir at (inl in_blocks) =
        let large = g.shape.groups.large in
        let some : 1 ≤ v.agblocks = omega (arith, large) in
        let enough = g.shape.addresses.enough in
        let es : List EntryRec = entries_at v starts ns k in
        let parent : ℕ = parent_of_place v starts ns k in
        let form : DirectoryForm = form_of es fresh_fork_bytes in
        let has : HasImage es (number_of v starts k) parent = at.built.has in
        let b : BuiltDirectory = record { ino = number_of v starts k; image = has.image } in
        let own = subst (All (λ (r : Run). 1 ≤ r.count)) at.own (some_blocks (number_of v starts k)) in
        let file : IsFileOf v b at.mine (due k) = file_of_blocks v s starts ns contents runs crc k dir has at.mine at.own at.stands.low' own in_blocks in
        let writable = entries_writable g starts ns k placed is.files in
        let few = entries_few v starts ns k is.files in
        let dots = entries_no_dots v starts ns k is.files in
        record {
          whole = Whole.is_whole_now v image some enough b at.mine (due k) file at.stands form parent es has.is at.built.sized writable few dots in_blocks;
          entries' = Whole.entries_now v image some enough b at.mine (due k) file at.stands form parent es has.is at.built.sized writable few dots in_blocks ∙ own_names v starts ns k;
          parent' = Whole.parent_now v image some enough b at.mine (due k) file at.stands form parent es has.is at.built.sized writable few dots in_blocks;
        }

    pub directory_reads : (k : ℕ) → k < length ns → is_directory_node ns k ≡ true
        → ReadsDirectory v image (filled_file v s starts ns contents runs crc k) (entries_at v starts ns k) (parent_of_place v starts ns k)
    directory_reads k low dir =
        let at = stands_at k low dir in
        by_form k low dir at (cases_Bool (stands_in_blocks (record { ino = number_of v starts k; image = at.built.has.image })))
