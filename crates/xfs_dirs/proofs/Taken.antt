-- What blocks give, taken one by one, is what they give all together.
use Rattle.std.proofs.Common.{◌+◌, ◌<◌, slice_get, ◌≡◌, ℕ, Bool, true, false, ◌&&◌, ◌||◌, if◌then◌else◌, List, [], ◌∷◌, ◌++◌, map, filter, Option, Some, None, option_map, refl, sym, ap, ◌∙◌}
use Rattle.std.specs.List.{find, flat_map, list_all, list_any}
use Rattle.std.specs.Option.{option_or}
use Rattle.std.proofs.lemmas.List.{append_assoc, append-nil}
use Rattle.std.proofs.lemmas.List.Elements.{filter-append}
use Rattle.std.proofs.lemmas.List.Folds.{find-append}
use Rattle.std.proofs.lemmas.Option.{get_or_from_slice_get}
use Rattle.xfs_word.specs.declared.extents.Extent.{Extent}
use Rattle.xfs_word.specs.declared.kinds.SealKind.{SealKind}
use Rattle.xfs_word.specs.declared.kinds.SealKind.TheVariants as Kind
use Rattle.xfs_disk.specs.Blocks.{Image, bytes_of_block}
use Rattle.xfs_geom.specs.Groups.{block_of_address}
use Rattle.xfs_geom.specs.Volumes.{Volume}
use Rattle.xfs_tree.proofs.Rest.{rest_next, rest_of}
use Rattle.xfs_dirdata.specs.Data.{data_of}
use Rattle.xfs_dirdata.specs.declared.records.EntryRec.{EntryRec}
use Rattle.xfs_dirindex.specs.Data.{is_parent_name}
use Rattle.xfs_dirindex.specs.Mapped.{Mapped, is_data, is_free_index}
use Rattle.xfs_image.specs.Directories.{FileBlock, file_block_at, blocks_of_extent, entries_in_block, entries_of_area, is_beside_dots, is_own, is_sealed_as, is_single_form}
use Rattle.xfs_dirs.specs.declared.gathered.Gathered.{Gathered}
use Rattle.xfs_dirs.specs.Gathered.{Found, blocks_in_extents, entries_where, file_block, found_of, mapped_of_kept, kept_with, parent_in, with_file_block, with_file_blocks}

-- a data block is its directory's where it is sealed as one
only_kind : {A : Type 0} (low : Bool) (test : SealKind → Bool) (k : SealKind) (others : List SealKind) (x y : A)
    → (if low && list_any test (if low then k ∷ [] else others) then x else y) ≡ (if low && test k then x else y)
only_kind true test k others x y = on (test k)
  where
    on : (t : Bool) → (if t || false then x else y) ≡ (if t then x else y)
    on true = refl
    on false = refl
only_kind false test k others x y = refl

pub entries_own : (v : Volume) (dir : ℕ) (b : FileBlock) → entries_where (is_own v dir b) dir b.mapped ≡ entries_in_block v dir b
unfolding entries_in_block
entries_own v dir b =
    only_kind (is_data b.mapped) (is_sealed_as v dir b) Kind.DirData
    (if is_free_index b.mapped then (Kind.DirFree ∷ []) else (Kind.Index 0x3df1 ∷ Kind.Index 0x3dff ∷ Kind.Index 0x3ebe ∷ []))
    (entries_of_area (data_of dir b.mapped.bytes (is_single_form b.mapped.bytes))) []

-- some blocks, and then others
pub both_taken : (v : Volume) (dir : ℕ) (found : Found) (xs ys : List FileBlock) → with_file_blocks v dir found (xs ++ ys) ≡ with_file_blocks v dir (with_file_blocks v dir found xs) ys
unfolding with_file_blocks
both_taken v dir found [] ys = refl
both_taken v dir found (x ∷ xs) ys = both_taken v dir (with_file_block v dir found x) xs ys

-- what blocks give behind what was found
abbrev pub all_entries : Volume → ℕ → List FileBlock → List EntryRec
all_entries v dir bs = flat_map (entries_in_block v dir) bs

pub entries_taken : (v : Volume) (dir : ℕ) (found : Found) (bs : List FileBlock)
    → (with_file_blocks v dir found bs).entries ≡ found.entries ++ filter is_beside_dots (all_entries v dir bs)
unfolding with_file_blocks with_file_block
entries_taken v dir found [] = sym (append-nil found.entries)
entries_taken v dir found (b ∷ bs) =
    entries_taken v dir (with_file_block v dir found b) bs
    ∙ append_assoc found.entries (filter is_beside_dots (entries_in_block v dir b)) (filter is_beside_dots (all_entries v dir bs))
    ∙ ap (λ (es : List EntryRec). found.entries ++ es) (sym (filter-append is_beside_dots (entries_in_block v dir b) (all_entries v dir bs)))

or_none : {A : Type 0} (x : Option A) → option_or x None ≡ x
or_none None = refl
or_none (Some a) = refl

or_in_turn : {A : Type 0} (x y z : Option A) → option_or (option_or x y) z ≡ option_or x (option_or y z)
or_in_turn None y z = refl
or_in_turn (Some a) y z = refl

or_mapped : {A B : Type 0} (f : A → B) (x y : Option A) → option_map f (option_or x y) ≡ option_or (option_map f x) (option_map f y)
or_mapped f None y = refl
or_mapped f (Some a) y = refl

parent_behind : (xs ys : List EntryRec) → parent_in (xs ++ ys) ≡ option_or (parent_in xs) (parent_in ys)
parent_behind xs ys =
    ap (option_map (λ (e : EntryRec). e.ino)) (find-append (λ (e : EntryRec). is_parent_name e.name) xs ys)
    ∙ or_mapped (λ (e : EntryRec). e.ino) (find (λ (e : EntryRec). is_parent_name e.name) xs) (find (λ (e : EntryRec). is_parent_name e.name) ys)

pub parent_taken : (v : Volume) (dir : ℕ) (found : Found) (bs : List FileBlock)
    → (with_file_blocks v dir found bs).parent ≡ option_or found.parent (parent_in (all_entries v dir bs))
unfolding with_file_blocks with_file_block
parent_taken v dir found [] = sym (or_none found.parent)
parent_taken v dir found (b ∷ bs) =
    parent_taken v dir (with_file_block v dir found b) bs
    ∙ or_in_turn found.parent (parent_in (entries_in_block v dir b)) (parent_in (all_entries v dir bs))
    ∙ ap (option_or found.parent) (sym (parent_behind (entries_in_block v dir b) (all_entries v dir bs)))

-- blocks are kept behind others where each is its directory's
abbrev pub kept_all : Bool → List Mapped → Option (List Mapped) → Option (List Mapped)
kept_all own ms None = None
kept_all own ms (Some ks) = if own then Some (ks ++ ms) else None

kept_none : (kept : Option (List Mapped)) → kept ≡ kept_all true [] kept
kept_none None = refl
kept_none (Some ks) = ap (λ (ms : List Mapped). Some ms) (sym (append-nil ks))

kept_more : (own rest : Bool) (m : Mapped) (ms : List Mapped) (kept : Option (List Mapped))
    → kept_all rest ms (kept_with own m kept) ≡ kept_all (own && rest) (m ∷ ms) kept
kept_more own rest m ms None = refl
kept_more true true m ms (Some ks) = ap (λ (xs : List Mapped). Some xs) (append_assoc ks (m ∷ []) ms)
kept_more true false m ms (Some ks) = refl
kept_more false rest m ms (Some ks) = refl

pub kept_taken : (v : Volume) (dir : ℕ) (found : Found) (bs : List FileBlock)
    → (with_file_blocks v dir found bs).kept ≡ kept_all (list_all (is_own v dir) bs) (map (λ (b : FileBlock). b.mapped) bs) found.kept
unfolding with_file_blocks with_file_block
kept_taken v dir found [] = kept_none found.kept
kept_taken v dir found (b ∷ bs) =
    kept_taken v dir (with_file_block v dir found b) bs
    ∙ kept_more (is_own v dir b) (list_all (is_own v dir) bs) b.mapped (map (λ (c : FileBlock). c.mapped) bs) found.kept

-- one block is taken up
pub one_taken : (v : Volume) (dir : ℕ) (old : Gathered) (b : FileBlock) (own : Bool) (entries named : List EntryRec) (parent : Option ℕ) (kept : Option (List Mapped))
    → own ≡ is_own v dir b → entries ≡ entries_where own dir b.mapped
    → named ≡ old.entries.items ++ filter is_beside_dots entries → parent ≡ option_or old.parent (parent_in entries) → kept ≡ kept_with own b.mapped (mapped_of_kept old.kept)
    → (let found : Found = record { entries = named; parent = parent; kept = kept } in found) ≡ with_file_block v dir (found_of old) b
unfolding with_file_block
one_taken v dir old b own entries named parent kept is_its given more first keeps =
    let all : entries ≡ entries_in_block v dir b = given ∙ ap (λ t. entries_where t dir b.mapped) is_its ∙ entries_own v dir b in
    let e : named ≡ old.entries.items ++ filter is_beside_dots (entries_in_block v dir b) = more ∙ ap (λ (es : List EntryRec). old.entries.items ++ filter is_beside_dots es) all in
    let p : parent ≡ option_or old.parent (parent_in (entries_in_block v dir b)) = first ∙ ap (λ (es : List EntryRec). option_or old.parent (parent_in es)) all in
    let k : kept ≡ kept_with (is_own v dir b) b.mapped (mapped_of_kept old.kept) = keeps ∙ ap (λ t. kept_with t b.mapped (mapped_of_kept old.kept)) is_its in
    λ i. record { entries = e i; parent = p i; kept = k i }

-- the next block of an extent is taken up
pub block_next : (v : Volume) (dir : ℕ) (image : Image) (e : Extent) (i start : ℕ) (block : List ℕ) (found found' all : Found) → i < e.count
    → start ≡ block_of_address v.agblocks v.agblklog e.start → slice_get image (start + i) ≡ Some block
    → found' ≡ with_file_block v dir found (file_block (start + i) (e.offset + i) block)
    → with_file_blocks v dir found (rest_of i e.count (file_block_at v image e)) ≡ all
    → with_file_blocks v dir found' (rest_of (i + 1) e.count (file_block_at v image e)) ≡ all
unfolding with_file_blocks
block_next v dir image e i start block found found' all inside place read taken before =
    let bytes : block ≡ bytes_of_block image (start + i) = sym (get_or_from_slice_get image (start + i) block [] read) in
    let same : file_block (start + i) (e.offset + i) block ≡ file_block_at v image e i =
    ap (file_block (start + i) (e.offset + i)) bytes ∙ ap (λ s. file_block (s + i) (e.offset + i) (bytes_of_block image (s + i))) place in
    let here : found' ≡ with_file_block v dir found (file_block_at v image e i) = taken ∙ ap (with_file_block v dir found) same in
    ap (λ f. with_file_blocks v dir f (rest_of (i + 1) e.count (file_block_at v image e))) here
    ∙ sym (ap (with_file_blocks v dir found) (rest_next i e.count (file_block_at v image e) inside)) ∙ before

-- the next extent is taken up
pub extent_next : (v : Volume) (dir : ℕ) (image : Image) (e : Extent) (es rest : List Extent) (found found' all : Found) → es ≡ e ∷ rest
    → found' ≡ with_file_blocks v dir found (blocks_of_extent v image e)
    → with_file_blocks v dir found (blocks_in_extents v image es) ≡ all → with_file_blocks v dir found' (blocks_in_extents v image rest) ≡ all
extent_next v dir image e es rest found found' all split taken before =
    ap (λ f. with_file_blocks v dir f (blocks_in_extents v image rest)) taken
    ∙ sym (both_taken v dir found (blocks_of_extent v image e) (blocks_in_extents v image rest))
    ∙ sym (ap (λ (xs : List Extent). with_file_blocks v dir found (blocks_in_extents v image xs)) split)
    ∙ before

-- no more is left
pub none_next : (v : Volume) (dir : ℕ) (image : Image) (es : List Extent) (found all : Found) → es ≡ [] → with_file_blocks v dir found (blocks_in_extents v image es) ≡ all → found ≡ all
unfolding with_file_blocks
none_next v dir image es found all none before = ap (λ (xs : List Extent). with_file_blocks v dir found (blocks_in_extents v image xs)) (sym none) ∙ before

pub no_block : (v : Volume) (dir : ℕ) (bs : List FileBlock) (found all : Found) → bs ≡ [] → with_file_blocks v dir found bs ≡ all → found ≡ all
unfolding with_file_blocks
no_block v dir bs found all none before = ap (with_file_blocks v dir found) (sym none) ∙ before
