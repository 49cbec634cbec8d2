-- The mapped blocks of a directory.
use Rattle.std.specs.Prelude.{ℕ, Bool, ◌&&◌, ◌+◌, ◌≤◌, not, nat_le, nat_lt, List, [], ◌∷◌}

-- a mapped block: its number in the file, and its bytes
pub record Mapped : Type 0 where
  pub offset : ℕ
  pub bytes : List ℕ

abbrev pub mapped_block : ℕ → List ℕ → Mapped
mapped_block offset bytes = record { offset = offset; bytes = bytes }

-- the mapped blocks, given by their file blocks and their bytes
abbrev pub mapped : List ℕ → List (List ℕ) → List Mapped
mapped [] blocks = []
mapped (offset ∷ offsets) [] = []
mapped (offset ∷ offsets) (block ∷ blocks) = mapped_block offset block ∷ mapped offsets blocks

-- data blocks stand in front of file block 0x800000, free blocks from 0x1000000 on, index blocks between them
abbrev pub is_data : Mapped → Bool
is_data m = nat_lt m.offset 0x800000

abbrev pub is_beyond : Mapped → Bool
is_beyond m = not (is_data m)

abbrev pub is_free_index : Mapped → Bool
is_free_index m = nat_le 0x1000000 m.offset

abbrev pub is_index_block : Mapped → Bool
is_index_block m = nat_le 0x800000 m.offset && nat_lt m.offset 0x1000000

-- file blocks ascend, from a least one on
abbrev pub OffsetsAscend : ℕ → List ℕ → Type 0
OffsetsAscend least [] = Unit {0}
OffsetsAscend least (offset ∷ offsets) = (least ≤ offset) × OffsetsAscend (offset + 1) offsets
