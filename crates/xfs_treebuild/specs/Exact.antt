-- The bytes of a packed tree's block that neither its header nor its items state (chapter "Common B+trees").
use Rattle.std.specs.Prelude.{◌≡◌, ℕ, ◌+◌, ◌-◌, ◌*◌, ◌<◌, ◌≤◌, true, List, replicate}
use Rattle.xfs_word.specs.Field.{field_of, part_of, Beside}
use Rattle.xfs_tree.specs.declared.layout.Layout.{Layout}
use Rattle.xfs_tree.specs.Layout.{header_len, keys_len, pointer_len}
use Rattle.xfs_tree.specs.Shape.{Shape}
use Rattle.xfs_tree.specs.Blocks.{level_of, count_of, record_place, key_place, pointer_place}

-- the bytes from one place on, before another, are zero
abbrev pub AreZero : List ℕ → ℕ → ℕ → Type 0
AreZero block from to = part_of block from (to - from) ≡ replicate (to - from) 0

-- each part of the block is zero
abbrev pub IsZeroBlock : List ℕ → Type 0
IsZeroBlock block = (at width : ℕ) → at + width ≤ 4096 → part_of block at width ≡ replicate width 0

-- in a block of so many items: the bytes behind the records of a leaf, and in a node those between its keys and its pointers,
-- and those behind its pointers, are zero
pub record IsBlankBehind (l : Layout) (level count : ℕ) (block : List ℕ) : Type 0 where
  pub records : level ≡ 0 → AreZero block (record_place l count) 4096
  pub keys : 1 ≤ level → AreZero block (key_place l count) (pointer_place l 0)
  pub pointers : 1 ≤ level → AreZero block (pointer_place l count) 4096

-- where the pointers of a node begin
abbrev pub pointers_place : Layout → ℕ
pointers_place l = header_len l + l.node_cap * keys_len l

-- all is as before beside the keys and the pointer of a node's child
abbrev pub KeepsBesideChild : Layout → ℕ → List ℕ → List ℕ → Type 0
KeepsBesideChild l i old new = (a w : ℕ) → Beside (key_place l i) (keys_len l) a w → Beside (pointer_place l i) (pointer_len l) a w
    → part_of new a w ≡ part_of old a w

-- all is as before beside the keys and the pointers of a node's first so many children
abbrev pub KeepsBesideChildren : Layout → ℕ → List ℕ → List ℕ → Type 0
KeepsBesideChildren l n old new = (a w : ℕ) → Beside (header_len l) (n * keys_len l) a w → Beside (pointers_place l) (n * pointer_len l) a w
    → part_of new a w ≡ part_of old a w

module _ {R K : Type 0} (s : Shape R K) where
  -- the bytes of a key are those that are put for it: reading passes over the bits of a key that mean nothing
  abbrev pub IsSpelt : List ℕ → Type 0
  IsSpelt bytes = bytes ≡ s.key_bytes (s.key_of bytes)

  -- the keys of a node's child are spelt
  pub record HasSpeltKeys (i : ℕ) (block : List ℕ) : Type 0 where
    pub low : IsSpelt (part_of block (key_place s.layout i) s.layout.key_len)
    pub high : s.layout.high ≡ true → IsSpelt (part_of block (key_place s.layout i + s.layout.key_len) s.layout.key_len)

  -- no byte of the block is left open: the pad of a long header and all that stands beside the items is zero, and the keys
  -- of a node are spelt
  pub record IsExact (block : List ℕ) : Type 0 where
    pub pad : s.layout.long ≡ true → field_of block 68 4 ≡ 0
    pub blank : IsBlankBehind s.layout (level_of block) (count_of block) block
    pub keys : 1 ≤ level_of block → (i : ℕ) → i < count_of block → HasSpeltKeys i block
