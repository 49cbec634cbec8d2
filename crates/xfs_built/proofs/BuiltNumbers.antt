-- The blocks of directories that were built state no log sequence number.
use Rattle.std.proofs.Common.{◌≡◌, ℕ, Bool, true, ◌+◌, ◌-◌, ◌^◌, ◌≤◌, ◌<◌, ◌&&◌, nat_lt, if◌then◌else◌, inl, inr, List, [], ◌∷◌, ◌++◌, length, map, get_or, refl, sym, ap, ap₂, ◌∙◌, subst, arith}
use Rattle.std.specs.List.{All, flat_map, range_with_len}
use Rattle.std.proofs.lemmas.Bool.{cases_lt, le-leb, le-ltb, lt-leb, lt-ltb}
use Rattle.std.proofs.lemmas.List.{get_or-append-add, get_or_append_left, length-append}
use Rattle.std.proofs.lemmas.List.FromFn.{get_or-range_with_len}
use Rattle.xfs_disk.specs.Blocks.{Image, bytes_of_block}
use Rattle.xfs_word.specs.Field.{field_of}
use Rattle.xfs_word.specs.Seal.{has_magic, layout_of}
use Rattle.xfs_word.specs.declared.kinds.SealKind.{SealKind}
use Rattle.xfs_word.specs.declared.kinds.SealKind.TheVariants as Kind
use Rattle.xfs_geom.specs.Volumes.{Volume}
use Rattle.xfs_geom.specs.declared.records.Run.{Run}
use Rattle.xfs_dirbuild.specs.Blocks.{dir_blocks}
use Rattle.xfs_dirbuild.specs.Placed.{HaveMagics, file_blocks}
use Rattle.xfs_dirbuild.specs.declared.forms.DirectoryForm.{DirectoryForm}
use Rattle.xfs_dirdata.specs.Written.{IsWritableEntry}
use Rattle.xfs_dirdata.specs.declared.records.EntryRec.{EntryRec}
use Rattle.xfs_image.specs.Lsns.{LsnPlace, dir_byte, extent_place, extent_places, lsn_at}
use Rattle.xfs_names.specs.Built.{IsImageIn}
use Rattle.xfs_names.specs.declared.building.BuiltDirectory.{BuiltDirectory}
use Rattle.xfs_views.proofs.Members.{Member, map_member, member_either, row_member}
use Rattle.xfs_render.specs.Objects.{directory_kind}
use Rattle.xfs_built.specs.Extents.{extent_of_run}
use Rattle.xfs_built.specs.Directories.{HasOwnCounts, StandsIn, block_built}
use Rattle.xfs_built.specs.Pieces.{offsets_in, places_of_runs}
use Rattle.xfs_built.proofs.IndexBlocks.{IsIndexLike, index_at}
use Rattle.xfs_built.proofs.Mapping.{address_leads, length_range}
use Rattle.xfs_built.proofs.Sealed.{data_kind, data_offset, free_kind, free_offset, index_kind, index_offset}
use Rattle.xfs_built.proofs.Sized.{data_low, index_low}

-- where a block states its number, by its file block
data_byte : (offset : ℕ) → offset < 0x800000 → dir_byte offset ≡ 16
data_byte offset low = ap (λ (t : Bool). if t && nat_lt offset 0x1000000 then 24 else 16) (lt-leb 0x800000 offset low)

index_byte : (offset : ℕ) → 0x800000 ≤ offset → offset < 0x1000000 → dir_byte offset ≡ 24
index_byte offset high low = ap₂ (λ (s t : Bool). if s && t then 24 else 16) (le-leb 0x800000 offset high) (lt-ltb offset 0x1000000 low)

free_byte : (offset : ℕ) → 0x1000000 ≤ offset → dir_byte offset ≡ 16
free_byte offset high = ap₂ (λ (s t : Bool). if s && t then 24 else 16) (le-leb 0x800000 offset (omega (arith, high))) (le-ltb offset 0x1000000 high)

-- a block states 0 there
abbrev IsZeroAt : Image → ℕ → ℕ → Type 0
IsZeroAt image block offset = field_of (bytes_of_block image block) (dir_byte offset) 8 ≡ 0

module _ (v : Volume) (image : Image) (b : BuiltDirectory) (runs : List Run) (at : StandsIn v image b runs)
    (magics : HaveMagics b.image.data_blocks b.image.index_blocks b.image.free_blocks b.image.blocks)
    (count : length b.image.blocks ≡ b.image.data_blocks + b.image.index_blocks + b.image.free_blocks)
    (few_data : b.image.data_blocks ≤ 0x800000) (few_index : b.image.index_blocks ≤ 0x800000)
    (like : (j : ℕ) → j < b.image.index_blocks → IsIndexLike (get_or b.image.blocks (b.image.data_blocks + j) [])) where
  abbrev place_at : ℕ → ℕ
  place_at k = get_or (places_of_runs runs) k 0

  abbrev offset_at : ℕ → ℕ
  offset_at k = get_or (offsets_in runs) k 0

  offset_is : (k : ℕ) → offset_at k ≡ get_or (file_blocks b.image.data_blocks b.image.index_blocks b.image.free_blocks) k 0
  offset_is k = ap (λ (os : List ℕ). get_or os k 0) at.offsets'

  stated_at : (k : ℕ) (kind : SealKind) (byte : ℕ) → k < length b.image.blocks → directory_kind (block_built b k) ≡ kind → (layout_of kind).lsn ≡ byte → dir_byte (offset_at k) ≡ byte
      → IsZeroAt image (place_at k) (offset_at k)
  stated_at k kind byte low is stands reads =
      ap (λ (n : ℕ). field_of (bytes_of_block image (place_at k)) n 8) (reads ∙ (sym stands ∙ sym (ap (λ (kd : SealKind). (layout_of kd).lsn) is))) ∙ (at.each k low).lsn

  data_zero : (k : ℕ) → k < b.image.data_blocks → IsZeroAt image (place_at k) (offset_at k)
  data_zero k low =
      let where_is : offset_at k ≡ k = offset_is k ∙ data_offset b.image.data_blocks b.image.index_blocks b.image.free_blocks k low in
      stated_at k Kind.DirData 16 (omega (arith, low, count)) (data_kind (block_built b k) (magics.data_blocks k low)) refl (data_byte (offset_at k) (omega (arith, where_is, low, few_data)))

  index_zero : (k j : ℕ) → k ≡ b.image.data_blocks + j → j < b.image.index_blocks → IsZeroAt image (place_at k) (offset_at k)
  index_zero k j is low =
      let index_block : IsIndexLike (block_built b k) = subst (λ (n : ℕ). IsIndexLike (get_or b.image.blocks n [])) (sym is) (like j low) in
      let where_is : offset_at k ≡ 0x800000 + j =
      ap offset_at is ∙ (offset_is (b.image.data_blocks + j) ∙ index_offset b.image.data_blocks b.image.index_blocks b.image.free_blocks j low) in
      stated_at k (Kind.Index (field_of (block_built b k) 8 2)) 24 (omega (arith, is, low, count)) (index_kind (block_built b k) index_block) refl
      (index_byte (offset_at k) (omega (arith, where_is)) (omega (arith, where_is, low, few_index)))

  free_zero : (k j : ℕ) → k ≡ b.image.data_blocks + (b.image.index_blocks + j) → j < b.image.free_blocks → IsZeroAt image (place_at k) (offset_at k)
  free_zero k j is low =
      let place : b.image.data_blocks + b.image.index_blocks + j ≡ k = omega (arith, is) in
      let where_is : offset_at k ≡ 0x1000000 + j =
      ap offset_at is ∙ (offset_is (b.image.data_blocks + (b.image.index_blocks + j)) ∙ free_offset b.image.data_blocks b.image.index_blocks b.image.free_blocks j low) in
      stated_at k Kind.DirFree 16 (omega (arith, is, low, count))
      (free_kind (block_built b k) (subst (λ (n : ℕ). has_magic Kind.DirFree (get_or b.image.blocks n []) ≡ true) place (magics.free_blocks j low))) refl (free_byte (offset_at k) (omega (arith, where_is)))

  each_zero : (k : ℕ) → k < length b.image.blocks → IsZeroAt image (place_at k) (offset_at k)
  each_zero k low =
      elim (cases_lt k b.image.data_blocks) [
        | inl front ↦ data_zero k front
        | inr behind ↦
            elim (cases_lt k (b.image.data_blocks + b.image.index_blocks)) [
              | inl middle ↦ index_zero k (k - b.image.data_blocks) (omega (arith, behind)) (omega (arith, behind, middle))
              | inr last ↦ free_zero k (k - b.image.data_blocks - b.image.index_blocks) (omega (arith, behind, last)) (omega (arith, last, low, count))
            ]
      ]

-- the places of numbers in the extents of runs
module _ (v : Volume) (image : Image) (some : 1 ≤ v.agblocks) (enough : v.agblocks ≤ 2 ^ v.agblklog) where
  runs_zero : (runs : List Run) → ((k : ℕ) → k < length (places_of_runs runs) → IsZeroAt image (get_or (places_of_runs runs) k 0) (get_or (offsets_in runs) k 0)) → (place : LsnPlace)
      → Member place (flat_map (extent_places v dir_byte) (map (extent_of_run v) runs)) → (lsn_at image place).lsn ≡ 0
  runs_zero [] each place is = absurd is
  runs_zero (r ∷ runs) each place is =
      let here : List ℕ = range_with_len r.start r.count in
      let there : List ℕ = range_with_len r.offset_word r.count in
      let long = length_range r.start r.count in
      let wide = length_range r.offset_word r.count in
      let whole = length-append here (places_of_runs runs) in
      elim (member_either place (extent_places v dir_byte (extent_of_run v r)) (flat_map (extent_places v dir_byte) (map (extent_of_run v) runs)) is) [
        | inl own ↦
            let one = map_member (extent_place v dir_byte (extent_of_run v r)) place (range_with_len 0 r.count) own in
            let i : ℕ = one.0 in
            let row = row_member i 0 r.count one.1 in
            let high = row.high in
            let low : i < r.count = omega (arith, high) in
            let block : get_or (here ++ places_of_runs runs) i 0 ≡ r.start + i =
            get_or_append_left here (places_of_runs runs) 0 i (omega (arith, low, long)) ∙ get_or-range_with_len r.start r.count i 0 low in
            let offset : get_or (there ++ offsets_in runs) i 0 ≡ r.offset_word + i =
            get_or_append_left there (offsets_in runs) 0 i (omega (arith, low, wide)) ∙ get_or-range_with_len r.offset_word r.count i 0 low in
            let zero_here : IsZeroAt image (r.start + i) (r.offset_word + i) = subst (λ (n : ℕ). IsZeroAt image n (r.offset_word + i)) block
            (subst (λ (n : ℕ). IsZeroAt image (get_or (here ++ places_of_runs runs) i 0) n) offset (each i (omega (arith, low, long, whole)))) in
            ap (λ (p : LsnPlace). (lsn_at image p).lsn) (sym one.2)
            ∙ (ap (λ (n : ℕ). field_of (bytes_of_block image (n + i)) (dir_byte (r.offset_word + i)) 8) (address_leads v r.start some enough) ∙ zero_here)
        | inr rest ↦
            runs_zero runs
            (λ k low.
            let block : get_or (here ++ places_of_runs runs) (r.count + k) 0 ≡ get_or (places_of_runs runs) k 0 =
            ap (λ (n : ℕ). get_or (here ++ places_of_runs runs) (n + k) 0) (sym long) ∙ get_or-append-add here (places_of_runs runs) k 0 in
            let offset : get_or (there ++ offsets_in runs) (r.count + k) 0 ≡ get_or (offsets_in runs) k 0 =
            ap (λ (n : ℕ). get_or (there ++ offsets_in runs) (n + k) 0) (sym wide) ∙ get_or-append-add there (offsets_in runs) k 0 in
            subst (λ (n : ℕ). IsZeroAt image n (get_or (offsets_in runs) k 0)) block
            (subst (λ (n : ℕ). IsZeroAt image (get_or (here ++ places_of_runs runs) (r.count + k) 0) n) offset (each (r.count + k) (omega (arith, low, long, whole)))))
            place rest
      ]

  -- those of a directory that was built
  pub built_zero : (form : DirectoryForm) (es : List EntryRec) (parent : ℕ) (b : BuiltDirectory) (runs : List Run) → IsImageIn form es b.ino parent b.image → All IsWritableEntry es
      → length es ≤ 2 ^ 24 → HasOwnCounts b → StandsIn v image b runs → (place : LsnPlace) → Member place (flat_map (extent_places v dir_byte) (map (extent_of_run v) runs)) → (lsn_at image place).lsn ≡ 0
  built_zero form es parent b runs image_is writable few sized at place among =
      let data_is = image_is.data_count in
      let index_is = image_is.index_count in
      let most_data = data_low form es writable few in
      let most_index = index_low form es few in
      let like : (j : ℕ) → j < b.image.index_blocks → IsIndexLike (get_or b.image.blocks (b.image.data_blocks + j) []) =
      λ j low. subst (λ (bs : List (List ℕ)). IsIndexLike (get_or bs (b.image.data_blocks + j) [])) (sym image_is.blocks_are)
      (subst (λ (n : ℕ). IsIndexLike (get_or (dir_blocks form b.ino parent es) (n + j) [])) (sym data_is) (index_at form b.ino parent es j few (omega (arith, low, index_is)))) in
      let long = at.count in
      runs_zero runs
      (λ k low. each_zero v image b runs at image_is.magics sized.count (omega (arith, data_is, most_data)) (omega (arith, index_is, most_index)) like k (omega (arith, low, long)))
      place among
