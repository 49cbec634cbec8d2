-- Each block of a directory that stands in an image is one of it, sealed as its kind.
use Rattle.std.proofs.Common.{◌≡◌, ◌⊎◌, inl, inr, ℕ, Bool, true, false, ◌+◌, ◌-◌, ◌≤◌, ◌<◌, ◌&&◌, ◌||◌, nat_le, nat_lt, if◌then◌else◌, List, [], ◌∷◌, ◌++◌, length, map, get_or, sym, ap, ap₂, ◌∙◌, subst, arith}
use Rattle.std.specs.List.{list_any, range_with_len}
use Rattle.std.proofs.lemmas.Bool.{and_left, and_right, cases_lt, le-leb, le-ltb, lt-leb, lt-ltb, or_left, or_right}
use Rattle.std.proofs.lemmas.List.{get_or-append-add, get_or-map, get_or_append_left, length-map}
use Rattle.std.proofs.lemmas.List.FromFn.{get_or-range_with_len}
use Rattle.xfs_disk.specs.Blocks.{Image, bytes_of_block}
use Rattle.xfs_word.specs.Field.{field_of}
use Rattle.xfs_word.specs.Seal.{has_magic, is_sealed, layout_of}
use Rattle.xfs_word.specs.declared.kinds.SealKind.{SealKind}
use Rattle.xfs_word.specs.declared.kinds.SealKind.TheVariants as Kind
use Rattle.xfs_geom.specs.Volumes.{Volume}
use Rattle.xfs_geom.specs.declared.records.Run.{Run}
use Rattle.xfs_dirbuild.specs.Index.{IsPlacedBlock}
use Rattle.xfs_dirbuild.specs.Placed.{ArePlacedBlocks, HaveMagics, file_blocks, seal_of}
use Rattle.xfs_image.specs.Directories.{is_own}
use Rattle.xfs_names.specs.declared.building.BuiltDirectory.{BuiltDirectory}
use Rattle.xfs_render.specs.Objects.{IsSealedBlock, directory_kind}
use Rattle.xfs_built.specs.Directories.{StandsIn, block_built, directory_seal}
use Rattle.xfs_built.specs.Pieces.{offsets_in, placed_block, places_of_runs}
use Rattle.xfs_built.proofs.IndexBlocks.{IsIndexLike, free_no_data, no_data, no_free}
use Rattle.xfs_built.proofs.Mapping.{length_range}

-- the file block of a block, by what it is
pub data_offset : (datas indexes frees k : ℕ) → k < datas → get_or (file_blocks datas indexes frees) k 0 ≡ k
data_offset datas indexes frees k low =
    let long = length_range 0 datas in
    get_or_append_left (range_with_len 0 datas) (range_with_len 0x800000 indexes ++ range_with_len 0x1000000 frees) 0 k (omega (arith, low, long))
    ∙ (get_or-range_with_len 0 datas k 0 low ∙ omega arith)

behind_data : (datas indexes frees j : ℕ) → get_or (file_blocks datas indexes frees) (datas + j) 0 ≡ get_or (range_with_len 0x800000 indexes ++ range_with_len 0x1000000 frees) j 0
behind_data datas indexes frees j =
    ap (λ (n : ℕ). get_or (file_blocks datas indexes frees) (n + j) 0) (sym (length_range 0 datas))
    ∙ get_or-append-add (range_with_len 0 datas) (range_with_len 0x800000 indexes ++ range_with_len 0x1000000 frees) j 0

pub index_offset : (datas indexes frees j : ℕ) → j < indexes → get_or (file_blocks datas indexes frees) (datas + j) 0 ≡ 0x800000 + j
index_offset datas indexes frees j low =
    let long = length_range 0x800000 indexes in
    behind_data datas indexes frees j
    ∙ (get_or_append_left (range_with_len 0x800000 indexes) (range_with_len 0x1000000 frees) 0 j (omega (arith, low, long)) ∙ get_or-range_with_len 0x800000 indexes j 0 low)

pub free_offset : (datas indexes frees j : ℕ) → j < frees → get_or (file_blocks datas indexes frees) (datas + (indexes + j)) 0 ≡ 0x1000000 + j
free_offset datas indexes frees j low =
    behind_data datas indexes frees (indexes + j)
    ∙ (ap (λ (n : ℕ). get_or (range_with_len 0x800000 indexes ++ range_with_len 0x1000000 frees) (n + j) 0) (sym (length_range 0x800000 indexes))
    ∙ (get_or-append-add (range_with_len 0x800000 indexes) (range_with_len 0x1000000 frees) j 0 ∙ get_or-range_with_len 0x1000000 frees j 0 low))

-- where its seal begins
front_seal : (datas indexes k : ℕ) → (k < datas) ⊎ (datas + indexes ≤ k) → seal_of datas indexes k ≡ 4
front_seal datas indexes k (inl low) = ap (λ (t : Bool). if t then 12 else 4) (and_left (nat_le datas k) (nat_lt k (datas + indexes)) (lt-leb datas k low))
front_seal datas indexes k (inr high) = ap (λ (t : Bool). if t then 12 else 4) (and_right (nat_le datas k) (nat_lt k (datas + indexes)) (le-ltb k (datas + indexes) high))

index_seal : (datas indexes k : ℕ) → datas ≤ k → k < datas + indexes → seal_of datas indexes k ≡ 12
index_seal datas indexes k high low = ap₂ (λ (s t : Bool). if s && t then 12 else 4) (le-leb datas k high) (lt-ltb k (datas + indexes) low)

-- a block that is sealed as what its magic number says
pub record IsOneOf (v : Volume) (ino seal place : ℕ) (kind : SealKind) (built block : List ℕ) : Type 0 where
  pub placed' : IsPlacedBlock seal built block
  pub sealed' : is_sealed (directory_seal v ino kind place) block ≡ true

as_kind : (v : Volume) (ino place : ℕ) (kind : SealKind) (built block : List ℕ) → directory_kind built ≡ kind → has_magic kind built ≡ true
    → IsSealedBlock (directory_seal v ino (directory_kind built) place) built block → IsOneOf v ino (layout_of kind).checksum place kind built block
as_kind v ino place kind built block is magic sealed =
    let own : IsSealedBlock (directory_seal v ino kind place) built block = subst (λ (k : SealKind). IsSealedBlock (directory_seal v ino k place) built block) is sealed in
    record { placed' = record { long = own.size; same = own.same }; sealed' = own.sealed magic }

seal_at : (v : Volume) (ino place : ℕ) (kind : SealKind) (built block : List ℕ) (a b : ℕ) → b ≡ a → IsOneOf v ino a place kind built block → IsPlacedBlock b built block
seal_at v ino place kind built block a b same one = subst (λ (n : ℕ). IsPlacedBlock n built block) (sym same) one.placed'

pub data_kind : (built : List ℕ) → has_magic Kind.DirData built ≡ true → directory_kind built ≡ Kind.DirData
data_kind built is = ap (λ (t : Bool). if t then Kind.DirData else if has_magic Kind.DirFree built then Kind.DirFree else Kind.Index (field_of built 8 2)) is

pub free_kind : (built : List ℕ) → has_magic Kind.DirFree built ≡ true → directory_kind built ≡ Kind.DirFree
free_kind built is =
    ap₂ (λ (s t : Bool). if s then Kind.DirData else if t then Kind.DirFree else Kind.Index (field_of built 8 2)) (free_no_data built is) is

pub index_kind : (built : List ℕ) → IsIndexLike built → directory_kind built ≡ Kind.Index (field_of built 8 2)
index_kind built like =
    ap₂ (λ (s t : Bool). if s then Kind.DirData else if t then Kind.DirFree else Kind.Index (field_of built 8 2)) (no_data built like.forw) (no_free built like.forw)

module _ (v : Volume) (image : Image) (ino place offset : ℕ) where
  abbrev sealed_as : SealKind → Bool
  sealed_as kind = is_sealed (directory_seal v ino kind place) (bytes_of_block image place)

  own_data : offset < 0x800000 → sealed_as Kind.DirData ≡ true → is_own v ino (placed_block image place offset) ≡ true
  own_data low sealed =
      ap (λ (t : Bool). list_any (λ (kind : SealKind). sealed_as kind) (if t then (Kind.DirData ∷ []) else if nat_le 0x1000000 offset then (Kind.DirFree ∷ []) else (Kind.Index 0x3df1 ∷ Kind.Index 0x3dff ∷ Kind.Index 0x3ebe ∷ [])))
      (lt-ltb offset 0x800000 low)
      ∙ or_left (sealed_as Kind.DirData) false sealed

  own_free : 0x1000000 ≤ offset → sealed_as Kind.DirFree ≡ true → is_own v ino (placed_block image place offset) ≡ true
  own_free high sealed =
      ap₂ (λ (s t : Bool). list_any (λ (kind : SealKind). sealed_as kind) (if s then (Kind.DirData ∷ []) else if t then (Kind.DirFree ∷ []) else (Kind.Index 0x3df1 ∷ Kind.Index 0x3dff ∷ Kind.Index 0x3ebe ∷ [])))
      (le-ltb offset 0x800000 (omega (arith, high))) (le-leb 0x1000000 offset high)
      ∙ or_left (sealed_as Kind.DirFree) false sealed

  among : (m : ℕ) → (m ≡ 0x3df1) ⊎ ((m ≡ 0x3dff) ⊎ (m ≡ 0x3ebe)) → sealed_as (Kind.Index m) ≡ true
      → list_any (λ (kind : SealKind). sealed_as kind) (Kind.Index 0x3df1 ∷ Kind.Index 0x3dff ∷ Kind.Index 0x3ebe ∷ []) ≡ true
  among m (inl is) sealed =
      or_left (sealed_as (Kind.Index 0x3df1)) (sealed_as (Kind.Index 0x3dff) || (sealed_as (Kind.Index 0x3ebe) || false)) (subst (λ (n : ℕ). sealed_as (Kind.Index n) ≡ true) is sealed)
  among m (inr (inl is)) sealed =
      or_right (sealed_as (Kind.Index 0x3df1)) (sealed_as (Kind.Index 0x3dff) || (sealed_as (Kind.Index 0x3ebe) || false))
      (or_left (sealed_as (Kind.Index 0x3dff)) (sealed_as (Kind.Index 0x3ebe) || false) (subst (λ (n : ℕ). sealed_as (Kind.Index n) ≡ true) is sealed))
  among m (inr (inr is)) sealed =
      or_right (sealed_as (Kind.Index 0x3df1)) (sealed_as (Kind.Index 0x3dff) || (sealed_as (Kind.Index 0x3ebe) || false))
      (or_right (sealed_as (Kind.Index 0x3dff)) (sealed_as (Kind.Index 0x3ebe) || false)
      (or_left (sealed_as (Kind.Index 0x3ebe)) false (subst (λ (n : ℕ). sealed_as (Kind.Index n) ≡ true) is sealed)))

  own_index : 0x800000 ≤ offset → offset < 0x1000000 → (m : ℕ) → (m ≡ 0x3df1) ⊎ ((m ≡ 0x3dff) ⊎ (m ≡ 0x3ebe)) → sealed_as (Kind.Index m) ≡ true
      → is_own v ino (placed_block image place offset) ≡ true
  own_index high low m one sealed =
      ap₂ (λ (s t : Bool). list_any (λ (kind : SealKind). sealed_as kind) (if s then (Kind.DirData ∷ []) else if t then (Kind.DirFree ∷ []) else (Kind.Index 0x3df1 ∷ Kind.Index 0x3dff ∷ Kind.Index 0x3ebe ∷ [])))
      (le-ltb offset 0x800000 high) (lt-leb 0x1000000 offset low)
      ∙ among m one sealed

-- what is known of a block
pub record IsKnown (v : Volume) (image : Image) (ino seal place offset : ℕ) (built : List ℕ) : Type 0 where
  pub placed' : IsPlacedBlock seal built (bytes_of_block image place)
  pub own : is_own v ino (placed_block image place offset) ≡ true
  pub entries : offset < 0x800000 → is_sealed (directory_seal v ino Kind.DirData place) (bytes_of_block image place) ≡ true

module _ (v : Volume) (image : Image) (b : BuiltDirectory) (runs : List Run) (at : StandsIn v image b runs)
    (magics : HaveMagics b.image.data_blocks b.image.index_blocks b.image.free_blocks b.image.blocks)
    (count : length b.image.blocks ≡ b.image.data_blocks + b.image.index_blocks + b.image.free_blocks)
    (few_data : b.image.data_blocks ≤ 0x800000) (few_index : b.image.index_blocks ≤ 0x800000)
    (like : (j : ℕ) → j < b.image.index_blocks → IsIndexLike (get_or b.image.blocks (b.image.data_blocks + j) [])) where
  abbrev place_at : ℕ → ℕ
  place_at k = get_or (places_of_runs runs) k 0

  abbrev offset_at : ℕ → ℕ
  offset_at k = get_or (offsets_in runs) k 0

  abbrev seal_due : ℕ → ℕ
  seal_due k = seal_of b.image.data_blocks b.image.index_blocks k

  offset_is : (k : ℕ) → offset_at k ≡ get_or (file_blocks b.image.data_blocks b.image.index_blocks b.image.free_blocks) k 0
  offset_is k = ap (λ (os : List ℕ). get_or os k 0) at.offsets'

  known_data : (k : ℕ) → k < b.image.data_blocks → IsKnown v image b.ino (seal_due k) (place_at k) (offset_at k) (block_built b k)
  known_data k low =
      let one : IsOneOf v b.ino 4 (place_at k) Kind.DirData (block_built b k) (bytes_of_block image (place_at k)) =
      as_kind v b.ino (place_at k) Kind.DirData (block_built b k) (bytes_of_block image (place_at k)) (data_kind (block_built b k) (magics.data_blocks k low)) (magics.data_blocks k low)
      (at.each k (omega (arith, low, count))) in
      let where_is : offset_at k ≡ k = offset_is k ∙ data_offset b.image.data_blocks b.image.index_blocks b.image.free_blocks k low in
      record {
        placed' = seal_at v b.ino (place_at k) Kind.DirData (block_built b k) (bytes_of_block image (place_at k)) 4 (seal_due k)
            (front_seal b.image.data_blocks b.image.index_blocks k (inl low)) one;
        own = own_data v image b.ino (place_at k) (offset_at k) (omega (arith, where_is, low, few_data)) one.sealed';
        entries = λ data_place. one.sealed';
      }

  known_index : (k j : ℕ) → k ≡ b.image.data_blocks + j → j < b.image.index_blocks → IsKnown v image b.ino (seal_due k) (place_at k) (offset_at k) (block_built b k)
  known_index k j is low =
      let index_block : IsIndexLike (block_built b k) = subst (λ (n : ℕ). IsIndexLike (get_or b.image.blocks n [])) (sym is) (like j low) in
      let magic : has_magic (Kind.Index (field_of (block_built b k) 8 2)) (block_built b k) ≡ true =
      subst (λ (n : ℕ). has_magic (Kind.Index (field_of (get_or b.image.blocks n []) 8 2)) (get_or b.image.blocks n []) ≡ true) (sym is) (magics.index_blocks j low) in
      let one : IsOneOf v b.ino 12 (place_at k) (Kind.Index (field_of (block_built b k) 8 2)) (block_built b k) (bytes_of_block image (place_at k)) =
      as_kind v b.ino (place_at k) (Kind.Index (field_of (block_built b k) 8 2)) (block_built b k) (bytes_of_block image (place_at k)) (index_kind (block_built b k) index_block) magic
      (at.each k (omega (arith, is, low, count))) in
      let where_is : offset_at k ≡ 0x800000 + j =
      ap offset_at is ∙ (offset_is (b.image.data_blocks + j) ∙ index_offset b.image.data_blocks b.image.index_blocks b.image.free_blocks j low) in
      record {
        placed' = seal_at v b.ino (place_at k) (Kind.Index (field_of (block_built b k) 8 2)) (block_built b k) (bytes_of_block image (place_at k)) 12 (seal_due k)
            (index_seal b.image.data_blocks b.image.index_blocks k (omega (arith, is)) (omega (arith, is, low))) one;
        own = own_index v image b.ino (place_at k) (offset_at k) (omega (arith, where_is)) (omega (arith, where_is, low, few_index)) (field_of (block_built b k) 8 2) index_block.kind one.sealed';
        entries = λ data_place. absurd (omega (arith, where_is, data_place));
      }

  known_free : (k j : ℕ) → k ≡ b.image.data_blocks + (b.image.index_blocks + j) → j < b.image.free_blocks → IsKnown v image b.ino (seal_due k) (place_at k) (offset_at k) (block_built b k)
  known_free k j is low =
      let place : b.image.data_blocks + b.image.index_blocks + j ≡ k = omega (arith, is) in
      let magic : has_magic Kind.DirFree (block_built b k) ≡ true = subst (λ (n : ℕ). has_magic Kind.DirFree (get_or b.image.blocks n []) ≡ true) place (magics.free_blocks j low) in
      let one : IsOneOf v b.ino 4 (place_at k) Kind.DirFree (block_built b k) (bytes_of_block image (place_at k)) =
      as_kind v b.ino (place_at k) Kind.DirFree (block_built b k) (bytes_of_block image (place_at k)) (free_kind (block_built b k) magic) magic (at.each k (omega (arith, is, low, count))) in
      let where_is : offset_at k ≡ 0x1000000 + j =
      ap offset_at is ∙ (offset_is (b.image.data_blocks + (b.image.index_blocks + j)) ∙ free_offset b.image.data_blocks b.image.index_blocks b.image.free_blocks j low) in
      record {
        placed' = seal_at v b.ino (place_at k) Kind.DirFree (block_built b k) (bytes_of_block image (place_at k)) 4 (seal_due k)
            (front_seal b.image.data_blocks b.image.index_blocks k (inr (omega (arith, is)))) one;
        own = own_free v image b.ino (place_at k) (offset_at k) (omega (arith, where_is)) one.sealed';
        entries = λ data_place. absurd (omega (arith, where_is, data_place));
      }

  pub known : (k : ℕ) → k < length b.image.blocks → IsKnown v image b.ino (seal_due k) (place_at k) (offset_at k) (block_built b k)
  known k low =
      elim (cases_lt k b.image.data_blocks) [
        | inl front ↦ known_data k front
        | inr behind ↦
            elim (cases_lt k (b.image.data_blocks + b.image.index_blocks)) [
              | inl middle ↦ known_index k (k - b.image.data_blocks) (omega (arith, behind)) (omega (arith, behind, middle))
              | inr last ↦ known_free k (k - b.image.data_blocks - b.image.index_blocks) (omega (arith, behind, last)) (omega (arith, last, low, count))
            ]
      ]

  -- so its blocks are those that were built, but for their seals
  pub are_placed : ArePlacedBlocks b.image.data_blocks b.image.index_blocks b.image.blocks (map (bytes_of_block image) (places_of_runs runs))
  are_placed = record {
    count = length-map (places_of_runs runs) (bytes_of_block image) ∙ at.count;
    each = λ k low.
        let same : get_or (map (bytes_of_block image) (places_of_runs runs)) k [] ≡ bytes_of_block image (place_at k) =
        let long = at.count in get_or-map (bytes_of_block image) (places_of_runs runs) k 0 [] (omega (arith, low, long)) in
        subst (λ (block : List ℕ). IsPlacedBlock (seal_due k) (block_built b k) block) (sym same) (known k low).placed';
  }
