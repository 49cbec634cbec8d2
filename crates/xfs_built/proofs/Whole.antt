-- A directory that stands in an image is whole there, and reads as it is wanted.
use Rattle.std.proofs.Common.{◌≡◌, ℕ, Bool, true, false, ◌+◌, ◌*◌, ◌^◌, ◌≤◌, ◌<◌, ◌==◌, ◌&&◌, if◌then◌else◌, List, [], length, map, get_or, Option, Some, is_some, sym, ap, ◌∙◌, subst, arith}
use Rattle.std.specs.List.{All, AllByRecursion, filter, find, flat_map, list_all}
use Rattle.std.proofs.lemmas.Bool.{and_from, both_ways, eq-eqb, eqb-true, not-false, not-true}
use Rattle.xfs_disk.specs.Blocks.{Image, bytes_of_block}
use Rattle.xfs_geom.specs.Volumes.{Volume}
use Rattle.xfs_geom.specs.declared.records.Run.{Run}
use Rattle.xfs_volume.specs.declared.files.FileRec.{FileRec}
use Rattle.xfs_dirdata.specs.Short.{ShortForm, short_of}
use Rattle.xfs_dirdata.specs.Written.{IsWritableEntry, in_directory}
use Rattle.xfs_dirdata.specs.declared.records.EntryRec.{EntryRec}
use Rattle.xfs_dirindex.specs.Data.{have_no_dots, is_parent_name}
use Rattle.xfs_dirindex.specs.Mapped.{mapped}
use Rattle.xfs_dirbuild.specs.Blocks.{dir_blocks}
use Rattle.xfs_dirbuild.specs.Filling.{all_entries}
use Rattle.xfs_dirbuild.specs.Forms.{data_blocks_of, form_of}
use Rattle.xfs_dirbuild.specs.Placed.{IsWhole, built_entries, file_blocks, has_single_form}
use Rattle.xfs_dirbuild.specs.declared.forms.DirectoryForm.{DirectoryForm}
use Rattle.xfs_dirbuild.specs.declared.forms.DirectoryForm.TheVariants.{Short}
use Rattle.xfs_image.specs.Directories.{FileBlock, block_entries, blocks_of_extent, data_blocks, entries_in_block, entries_of, entries_of_form, entry_target, has_whole_form, is_beside_dots, is_own, is_short, is_whole, mapped_blocks, parent_of, parent_of_form, short_form}
use Rattle.xfs_naming.specs.Naming.{entries_in}
use Rattle.xfs_names.specs.Built.{CanBeBuilt, IsBuiltAsWanted, IsImageIn, fork_room}
use Rattle.xfs_names.specs.Pairs.{parent_or_itself}
use Rattle.xfs_names.specs.declared.building.BuiltDirectory.{BuiltDirectory}
use Rattle.xfs_names.specs.declared.building.ForkRoom.{ForkRoom}
use Rattle.xfs_names.specs.declared.records.WantedNames.{WantedNames}
use Rattle.xfs_names.proofs.OwnEntries.{own_no_dots}
use Rattle.xfs_built.specs.Asks.{stands_in_blocks}
use Rattle.xfs_built.specs.Directories.{IsFileOf, IsShortFileOf, HasOwnCounts, MapsRuns, ReadsAsWanted, StandsIn}
use Rattle.xfs_built.specs.Pieces.{offsets_in, placed_blocks, places_of_runs}
use Rattle.xfs_built.proofs.IndexBlocks.{IsIndexLike, index_at}
use Rattle.xfs_built.proofs.Mapping.{mapped_placed, runs_placed}
use Rattle.xfs_built.proofs.Own.{HasMagic, entries_all, entries_beside, entries_in_form, form_magics, has_form, own_all, own_entries, parent_stated}
use Rattle.xfs_built.proofs.Sealed.{are_placed, known}
use Rattle.xfs_built.proofs.Sized.{data_low, index_low, none_short, own_are_few, own_writable}
use Rattle.xfs_built.proofs.Standing.{counted_both}

module _ (v : Volume) (image : Image) (some : 1 ≤ v.agblocks) (enough : v.agblocks ≤ 2 ^ v.agblklog) (b : BuiltDirectory) (runs : List Run) (f : FileRec) (file : IsFileOf v b runs f) (at : StandsIn v image b runs) where
  abbrev placed : List (List ℕ)
  placed = map (bytes_of_block image) (places_of_runs runs)

  abbrev numbers : List ℕ
  numbers = file_blocks b.image.data_blocks b.image.index_blocks b.image.free_blocks

  blocks_are : data_blocks v image f ≡ placed_blocks image (places_of_runs runs) (offsets_in runs)
  unfolding data_blocks
  blocks_are = ap (flat_map (blocks_of_extent v image)) file.extents' ∙ runs_placed v image some enough runs

  mapped_are : mapped_blocks v image f ≡ mapped numbers placed
  mapped_are =
      ap (λ (bs : List FileBlock). map (λ (x : FileBlock). x.mapped) bs) blocks_are
      ∙ (mapped_placed image (places_of_runs runs) (offsets_in runs) ∙ ap (λ (os : List ℕ). mapped os placed) at.offsets')

  pub maps_runs : MapsRuns v image b runs f
  maps_runs = record { mapped' = mapped_are }

  no_short : is_short f ≡ false
  no_short = ap (λ (n : ℕ). n == 1) file.format'

  module _ (form : DirectoryForm) (parent : ℕ) (es : List EntryRec) (is : IsImageIn form es b.ino parent b.image) (sized : HasOwnCounts b) (writable : All IsWritableEntry es) (few : length es ≤ 2 ^ 24)
      (no_dots : have_no_dots es ≡ true) (blocks : stands_in_blocks b ≡ true) where
    has_form_blocks : form ≡ Short → ⊥
    has_form_blocks short =
        both_ways (b.image.data_blocks == 0) (not-true (b.image.data_blocks == 0) blocks)
        (eq-eqb b.image.data_blocks 0 (is.data_count ∙ ap (λ (x : DirectoryForm). data_blocks_of x es) short))

    like : (j : ℕ) → j < b.image.index_blocks → IsIndexLike (get_or b.image.blocks (b.image.data_blocks + j) [])
    like j low =
        let index_is = is.index_count in
        subst (λ (bs : List (List ℕ)). IsIndexLike (get_or bs (b.image.data_blocks + j) [])) (sym is.blocks_are)
        (subst (λ (n : ℕ). IsIndexLike (get_or (dir_blocks form b.ino parent es) (n + j) [])) (sym is.data_count)
        (index_at form b.ino parent es j few (omega (arith, low, index_is))))

    data_few : b.image.data_blocks ≤ 0x800000
    data_few = let data_is = is.data_count in let most = data_low form es writable few in omega (arith, data_is, most)

    index_few : b.image.index_blocks ≤ 0x800000
    index_few = let index_is = is.index_count in let most = index_low form es few in omega (arith, index_is, most)

    whole_is : IsWhole form b.ino parent (4096 * b.image.data_blocks) es (mapped numbers placed)
    whole_is = is.whole placed (are_placed v image b runs at is.magics sized.count data_few index_few like)

    both_long : length (places_of_runs runs) ≡ length (offsets_in runs)
    both_long = counted_both runs

    own_are : list_all (is_own v b.ino) (placed_blocks image (places_of_runs runs) (offsets_in runs)) ≡ true
    own_are =
        own_all v image b.ino (places_of_runs runs) (offsets_in runs) both_long
        (λ k low. let long = at.count in (known v image b runs at is.magics sized.count data_few index_few like k (omega (arith, low, long))).own)

    pub is_whole_now : is_whole v image f ≡ true
    unfolding is_whole
    is_whole_now =
        let form_is : has_whole_form f.ino f.core.size (mapped_blocks v image f) ≡ has_whole_form b.ino (4096 * b.image.data_blocks) (mapped numbers placed) =
        λ i. has_whole_form (file.ino' i) (file.size' i) (mapped_are i) in
        let own_is : list_all (is_own v f.ino) (data_blocks v image f) ≡ list_all (is_own v b.ino) (placed_blocks image (places_of_runs runs) (offsets_in runs)) =
        λ i. list_all (is_own v (file.ino' i)) (blocks_are i) in
        ap (λ (t : Bool). if t then is_some (short_form v image f) else (has_whole_form f.ino f.core.size (mapped_blocks v image f) && list_all (is_own v f.ino) (data_blocks v image f))) no_short
        ∙ and_from (has_whole_form f.ino f.core.size (mapped_blocks v image f)) (list_all (is_own v f.ino) (data_blocks v image f))
        (form_is ∙ has_form form b.ino (4096 * b.image.data_blocks) (mapped numbers placed) has_form_blocks whole_is.rules) (own_is ∙ own_are)

    magics_are : AllByRecursion (HasMagic (has_single_form form)) (mapped (offsets_in runs) placed)
    magics_are =
        subst (λ (os : List ℕ). AllByRecursion (HasMagic (has_single_form form)) (mapped os placed)) (sym at.offsets')
        (form_magics form b.ino (4096 * b.image.data_blocks) (mapped numbers placed) has_form_blocks whole_is.rules)

    block_entries_are : block_entries v image f ≡ map (in_directory b.ino) (all_entries b.ino parent es)
    block_entries_are =
        let own_is : block_entries v image f ≡ flat_map (entries_in_block v b.ino) (placed_blocks image (places_of_runs runs) (offsets_in runs)) =
        λ i. flat_map (entries_in_block v (file.ino' i)) (blocks_are i) in
        own_is
        ∙ (entries_all v image b.ino (has_single_form form) (places_of_runs runs) (offsets_in runs) both_long
        (λ k low. let long = at.count in (known v image b runs at is.magics sized.count data_few index_few like k (omega (arith, low, long))).entries) magics_are
        ∙ (ap (λ (os : List ℕ). built_entries b.ino (has_single_form form) (mapped os placed)) at.offsets'
        ∙ (whole_is.entries_are ∙ entries_in_form form b.ino parent es has_form_blocks)))

    pub entries_now : entries_of v image f ≡ map (in_directory b.ino) es
    unfolding entries_of
    entries_now =
        ap (λ (t : Bool). if t then entries_of_form (short_form v image f) else filter is_beside_dots (block_entries v image f)) no_short
        ∙ (ap (λ (xs : List EntryRec). filter is_beside_dots xs) block_entries_are ∙ entries_beside b.ino parent es no_dots)

    pub parent_now : parent_of v image f ≡ parent
    unfolding parent_of
    parent_now =
        ap (λ (t : Bool). if t then parent_of_form (short_form v image f) else entry_target (find (λ (e : EntryRec). is_parent_name e.name) (block_entries v image f))) no_short
        ∙ (ap (λ (xs : List EntryRec). entry_target (find (λ (e : EntryRec). is_parent_name e.name) xs)) block_entries_are ∙ parent_stated b.ino parent es)

-- a directory with blocks
pub reads_now : (v : Volume) (image : Image) (w : WantedNames) (rooms : List ForkRoom) (b : BuiltDirectory) (runs : List Run) (f : FileRec) → 1 ≤ v.agblocks → v.agblocks ≤ 2 ^ v.agblklog
    → CanBeBuilt w → IsBuiltAsWanted w rooms b → HasOwnCounts b → stands_in_blocks b ≡ true → StandsIn v image b runs → IsFileOf v b runs f → ReadsAsWanted v image w f
reads_now v image w rooms b runs f some enough can is sized blocks at file =
    let es : List EntryRec = entries_in w.entries b.ino in
    let form : DirectoryForm = form_of es (fork_room rooms b.ino) in
    let parent : ℕ = parent_or_itself w.parents b.ino in
    let writable = own_writable w b.ino can in
    let few = own_are_few w b.ino can in
    let dots = own_no_dots w.entries b.ino can.names in
    record {
      whole = is_whole_now v image some enough b runs f file at form parent es is sized writable few dots blocks;
      entries' =
          entries_now v image some enough b runs f file at form parent es is sized writable few dots blocks
          ∙ (own_entries b.ino w.entries ∙ ap (entries_in w.entries) (sym file.ino'));
      parent' = parent_now v image some enough b runs f file at form parent es is sized writable few dots blocks ∙ ap (parent_or_itself w.parents) (sym file.ino');
    }

-- a directory in short form
abbrev short_with : ℕ → List EntryRec → Option ShortForm
short_with p es = Some (record { parent = p; entries = es })

short_now : (v : Volume) (image : Image) (b : BuiltDirectory) (f : FileRec) (form : DirectoryForm) (parent : ℕ) (es : List EntryRec) → IsImageIn form es b.ino parent b.image → form ≡ Short
    → IsShortFileOf v image b f → short_form v image f ≡ Some (record { parent = parent; entries = map (in_directory b.ino) es })
unfolding short_form
short_now v image b f form parent es is short file = ap (short_of f.ino) file.bytes' ∙ (is.short_reads short f.ino ∙ ap (λ (d : ℕ). short_with parent (map (in_directory d) es)) file.ino')

pub short_reads_now : (v : Volume) (image : Image) (w : WantedNames) (rooms : List ForkRoom) (b : BuiltDirectory) (f : FileRec) → IsBuiltAsWanted w rooms b → stands_in_blocks b ≡ false
    → IsShortFileOf v image b f → ReadsAsWanted v image w f
unfolding is_whole entries_of parent_of
short_reads_now v image w rooms b f is blocks file =
    let es : List EntryRec = entries_in w.entries b.ino in
    let form : DirectoryForm = form_of es (fork_room rooms b.ino) in
    let parent : ℕ = parent_or_itself w.parents b.ino in
    let none : b.image.data_blocks ≡ 0 = eqb-true b.image.data_blocks 0 (not-false (b.image.data_blocks == 0) blocks) in
    let short : form ≡ Short = none_short form es (sym is.data_count ∙ none) in
    let reads = short_now v image b f form parent es is short file in
    let yes_short : is_short f ≡ true = ap (λ (n : ℕ). n == 1) file.format' in
    record {
      whole =
          ap (λ (t : Bool). if t then is_some (short_form v image f) else (has_whole_form f.ino f.core.size (mapped_blocks v image f) && list_all (is_own v f.ino) (data_blocks v image f))) yes_short
          ∙ ap is_some reads;
      entries' =
          ap (λ (t : Bool). if t then entries_of_form (short_form v image f) else filter is_beside_dots (block_entries v image f)) yes_short
          ∙ (ap entries_of_form reads ∙ (own_entries b.ino w.entries ∙ ap (entries_in w.entries) (sym file.ino')));
      parent' =
          ap (λ (t : Bool). if t then parent_of_form (short_form v image f) else entry_target (find (λ (e : EntryRec). is_parent_name e.name) (block_entries v image f))) yes_short
          ∙ (ap parent_of_form reads ∙ ap (parent_or_itself w.parents) (sym file.ino'));
    }
