-- The directories of a view and their entries stand in one order.
use Rattle.std.proofs.Common.{◌≡◌, ℕ, zero, suc, ◌+◌, Bool, true, false, ◌==◌, ◌&&◌, nat_le, if◌then◌else◌, cond, List, [], ◌∷◌, map, length, Option, Some, None, refl, ap, ◌∙◌}
use Rattle.std.specs.List.{filter, flat_map, list_all}
use Rattle.std.specs.Option.{option_and_then, option_map}
use Rattle.std.proofs.lemmas.Bool.{and_from, and_parts, eq-eqb}
use Rattle.std.proofs.lemmas.List.Folds.{list_all-append}
use Rattle.xfs_disk.specs.Blocks.{Image}
use Rattle.xfs_word.specs.Field.{field_of, part_of}
use Rattle.xfs_word.specs.declared.kinds.SealKind.TheVariants as Kind
use Rattle.xfs_geom.specs.Volumes.{Volume}
use Rattle.xfs_dirdata.specs.Data.{area_of, data_area, data_of, entry_at, has_bests, is_entry, items, stated_area, with_bests}
use Rattle.xfs_dirdata.specs.Short.{ShortForm, data_end_at, index_size, is_short_entry, short_entries, short_entry, short_of, short_size_at}
use Rattle.xfs_dirdata.specs.declared.records.EntryRec.{EntryRec}
use Rattle.xfs_dirindex.specs.Mapped.{is_data}
use Rattle.xfs_volume.specs.Names.{is_directory}
use Rattle.xfs_volume.specs.declared.directories.DirRec.{DirRec}
use Rattle.xfs_volume.specs.declared.files.FileRec.{FileRec}
use Rattle.xfs_laws.specs.xfs_naming.Naming.{AreGrouped}
use Rattle.xfs_image.specs.Directories.{FileBlock, data_blocks, dir_of, directories, dirs_read, entries_in_block, entries_of, entries_of_area, entries_of_form, entries_read, is_beside_dots, is_sealed_as, is_short, is_single_form, short_form}
use Rattle.xfs_image.specs.Slots.{slot_bytes}

-- the entries are those of a directory
abbrev are_of : ℕ → List EntryRec → Bool
are_of dir entries = list_all (λ (e : EntryRec). e.dir == dir) entries

-- the entries that may be there are
abbrev AreOf : ℕ → Option (List EntryRec) → Type 0
AreOf dir None = Unit {0}
AreOf dir (Some entries) = are_of dir entries ≡ true

one_more : (dir : ℕ) (e : EntryRec) (rest : Option (List EntryRec)) → e.dir ≡ dir → AreOf dir rest → AreOf dir (option_map (λ (es : List EntryRec). e ∷ es) rest)
one_more dir e None own all = tt
one_more dir e (Some es) own all = and_from (e.dir == dir) (are_of dir es) (eq-eqb e.dir dir own) all

if_of : (dir : ℕ) (test : Bool) (entries : Option (List EntryRec)) → AreOf dir entries → AreOf dir (if test then entries else None)
if_of dir true entries all = all
if_of dir false entries all = tt

short_dir : (dir : ℕ) (form : List ℕ) (at : ℕ) → (short_entry dir form at).dir ≡ dir
unfolding short_entry
short_dir dir form at = refl

short_all : (dir : ℕ) (form : List ℕ) (tail count at least : ℕ) → AreOf dir (short_entries dir form tail count at least)
unfolding short_entries
short_all dir form tail zero at least = if_of dir (at == length form && nat_le (least + tail) 4096) (Some []) refl
short_all dir form tail (suc count) at least =
    if_of dir (is_short_entry form at least) _
    (one_more dir (short_entry dir form at) (short_entries dir form tail count (at + short_size_at form at) (data_end_at form at)) (short_dir dir form at)
    (short_all dir form tail count (at + short_size_at form at) (data_end_at form at)))

form_of : (dir : ℕ) (parent : ℕ) (entries : Option (List EntryRec)) → AreOf dir entries
    → are_of dir (entries_of_form (option_map (λ entries. let stated_area : ShortForm = record { parent = parent; entries = entries } in stated_area) entries)) ≡ true
form_of dir parent None all = refl
form_of dir parent (Some entries) all = all

short_own : (dir : ℕ) (form : List ℕ) → are_of dir (entries_of_form (short_of dir form)) ≡ true
unfolding short_of
short_own dir form = by_test (nat_le 6 (length form) && field_of form 1 1 == 0)
  where
    read : Option (List EntryRec)
    read = short_entries dir form (index_size (field_of form 0 1)) (field_of form 0 1) 6 96

    by_test : (b : Bool)
        → are_of dir (entries_of_form (if b then option_map (λ entries. let stated_area : ShortForm = record { parent = field_of form 2 4; entries = entries } in stated_area) read else None)) ≡ true
    by_test true = form_of dir (field_of form 2 4) read (short_all dir form (index_size (field_of form 0 1)) (field_of form 0 1) 6 96)
    by_test false = refl

entry_dir : (dir : ℕ) (bytes : List ℕ) (at : ℕ) → (entry_at dir bytes at).dir ≡ dir
unfolding entry_at
entry_dir dir bytes at = refl

each_own : (dir : ℕ) (bytes places : List ℕ) → are_of dir (map (entry_at dir bytes) places) ≡ true
each_own dir bytes [] = refl
each_own dir bytes (at ∷ places) =
    and_from ((entry_at dir bytes at).dir == dir) (are_of dir (map (entry_at dir bytes) places)) (eq-eqb _ dir (entry_dir dir bytes at)) (each_own dir bytes places)

stated_own : (dir : ℕ) (bytes offsets : List ℕ) → are_of dir (entries_of_area (with_bests bytes (stated_area dir bytes offsets))) ≡ true
unfolding stated_area
stated_own dir bytes offsets = by_test (has_bests bytes (stated_area dir bytes offsets).free)
  where
    by_test : (b : Bool) → are_of dir (entries_of_area (if b then Some (stated_area dir bytes offsets) else None)) ≡ true
    by_test true = each_own dir bytes (filter (is_entry bytes) offsets)
    by_test false = refl

area_own : (dir : ℕ) (bytes : List ℕ) → are_of dir (entries_of_area (area_of dir bytes)) ≡ true
unfolding area_of
area_own dir bytes = by_test (nat_le 64 (length bytes))
  where
    by_items : (read : Option (List ℕ)) → are_of dir (entries_of_area (option_and_then (λ offsets. with_bests bytes (stated_area dir bytes offsets)) read)) ≡ true
    by_items None = refl
    by_items (Some offsets) = stated_own dir bytes offsets

    by_test : (b : Bool)
        → are_of dir (entries_of_area (if b then option_and_then (λ offsets. with_bests bytes (stated_area dir bytes offsets)) (items (length bytes) bytes 64) else None)) ≡ true
    by_test true = by_items (items (length bytes) bytes 64)
    by_test false = refl

data_own : (dir : ℕ) (block : List ℕ) (whole : Bool) → are_of dir (entries_of_area (data_of dir block whole)) ≡ true
unfolding data_of
data_own dir block whole = area_own dir (data_area block whole)

block_own : (v : Volume) (dir : ℕ) (b : FileBlock) → are_of dir (entries_in_block v dir b) ≡ true
unfolding entries_in_block
block_own v dir b = by_test (is_data b.mapped && is_sealed_as v dir b Kind.DirData)
  where
    by_test : (t : Bool) → are_of dir (if t then entries_of_area (data_of dir b.mapped.bytes (is_single_form b.mapped.bytes)) else []) ≡ true
    by_test true = data_own dir b.mapped.bytes (is_single_form b.mapped.bytes)
    by_test false = refl

blocks_own : (v : Volume) (dir : ℕ) (bs : List FileBlock) → are_of dir (flat_map (entries_in_block v dir) bs) ≡ true
blocks_own v dir [] = refl
blocks_own v dir (b ∷ bs) =
    list_all-append (λ (e : EntryRec). e.dir == dir) (entries_in_block v dir b) (flat_map (entries_in_block v dir) bs)
    ∙ and_from (are_of dir (entries_in_block v dir b)) (are_of dir (flat_map (entries_in_block v dir) bs)) (block_own v dir b) (blocks_own v dir bs)

filtered_own : (test : EntryRec → Bool) (dir : ℕ) (es : List EntryRec) → are_of dir es ≡ true → are_of dir (filter test es) ≡ true
filtered_own test dir [] all = refl
filtered_own test dir (e ∷ es) all =
    let parts = and_parts (e.dir == dir) (are_of dir es) all in
    by_test (test e) parts.0 (filtered_own test dir es parts.1)
  where
    by_test : (b : Bool) → (e.dir == dir) ≡ true → are_of dir (filter test es) ≡ true → are_of dir (cond b (e ∷ filter test es) (filter test es)) ≡ true
    by_test true own rest = and_from (e.dir == dir) (are_of dir (filter test es)) own rest
    by_test false own rest = rest

short_form_own : (v : Volume) (image : Image) (f : FileRec) → are_of f.ino (entries_of_form (short_form v image f)) ≡ true
unfolding short_form
short_form_own v image f = short_own f.ino (part_of (slot_bytes v image f.ino) 176 f.core.size)

-- all entries of a directory are its own
entries_own : (v : Volume) (image : Image) (f : FileRec) → are_of f.ino (entries_of v image f) ≡ true
unfolding entries_of
entries_own v image f = by_form (is_short f)
  where
    by_form : (b : Bool) → are_of f.ino (if b then entries_of_form (short_form v image f) else filter is_beside_dots (flat_map (entries_in_block v f.ino) (data_blocks v image f))) ≡ true
    by_form true = short_form_own v image f
    by_form false =
        filtered_own is_beside_dots f.ino (flat_map (entries_in_block v f.ino) (data_blocks v image f)) (blocks_own v f.ino (data_blocks v image f))

grouped : (v : Volume) (image : Image) (fs : List FileRec) → AreGrouped (map (dir_of v image) fs) (flat_map (entries_of v image) fs)
grouped v image [] = refl
grouped v image (f ∷ fs) = (entries_of v image f, flat_map (entries_of v image) fs, refl, entries_own v image f, grouped v image fs)

pub entries_grouped : (v : Volume) (image : Image) (files : List FileRec) → AreGrouped (dirs_read v image files) (entries_read v image files)
unfolding dirs_read entries_read
entries_grouped v image files = grouped v image (directories files)

numbered : (v : Volume) (image : Image) (fs : List FileRec) → map (λ (d : DirRec). d.ino) (map (dir_of v image) fs) ≡ map (λ (f : FileRec). f.ino) fs
numbered v image [] = refl
numbered v image (f ∷ fs) = ap (λ (ns : List ℕ). f.ino ∷ ns) (numbered v image fs)

-- there is a record for each directory, and no other
pub each_directory : (v : Volume) (image : Image) (files : List FileRec)
    → map (λ (d : DirRec). d.ino) (dirs_read v image files) ≡ map (λ (f : FileRec). f.ino) (filter is_directory files)
unfolding dirs_read directories
each_directory v image files = numbered v image (filter is_directory files)
