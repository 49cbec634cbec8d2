-- What a block of a tree holds (chapter "Common B+trees"): a header, then records in a leaf; in a node the
-- keys of its children, and their pointers from where the keys of a full node end.
use Rattle.std.specs.Prelude.{ℕ, ◌+◌, ◌*◌, ◌==◌, ◌^◌, ◌-◌, if◌then◌else◌, List, map, Option, Some, None}
use Rattle.std.specs.List.{range_with_len}
use Rattle.xfs_word.specs.Field.{field_of, part_of}
use Rattle.xfs_geom.specs.Conversions.{block_at}
use Rattle.xfs_geom.specs.Volumes.{Volume}
use Rattle.xfs_tree.specs.declared.layout.Layout.{Layout}
use Rattle.xfs_tree.specs.declared.seats.Seat.{Seat}
use Rattle.xfs_tree.specs.Layout.{header_len, keys_len, pointer_len}
use Rattle.xfs_tree.specs.Shape.{Shape}

-- the level of a block, 0 for a leaf
abbrev pub level_of : List ℕ → ℕ
level_of block = field_of block 4 2

-- how many records or children it has
abbrev pub count_of : List ℕ → ℕ
count_of block = field_of block 6 2

abbrev pub left_of : Layout → List ℕ → ℕ
left_of l block = field_of block 8 (pointer_len l)

abbrev pub right_of : Layout → List ℕ → ℕ
right_of l block = field_of block (8 + pointer_len l) (pointer_len l)

-- no sibling is all ones
abbrev pub no_sibling : Layout → ℕ
no_sibling l = if l.long then 2 ^ 64 - 1 else 2 ^ 32 - 1

-- the most records or children of a block
abbrev pub capacity : Layout → ℕ → ℕ
capacity l level = if level == 0 then l.leaf_cap else l.node_cap

-- byte offsets of a record, of the low key of a child (its high key stands behind it), and of its pointer
abbrev pub record_place : Layout → ℕ → ℕ
record_place l i = header_len l + i * l.record_len

abbrev pub key_place : Layout → ℕ → ℕ
key_place l i = header_len l + i * keys_len l

abbrev pub pointer_place : Layout → ℕ → ℕ
pointer_place l i = header_len l + l.node_cap * keys_len l + i * pointer_len l

abbrev pub pointer_at : Layout → List ℕ → ℕ → ℕ
pointer_at l block i = field_of block (pointer_place l i) (pointer_len l)

-- the block number of a pointer: an AG block of the owner's group, also where it lies outside, or an address; an address
-- outside the volume stands as all ones
abbrev pub number_or_ones : Option ℕ → ℕ
number_or_ones None = 2 ^ 64 - 1
number_or_ones (Some block) = block

abbrev pub block_of_pointer : Volume → Layout → ℕ → ℕ → ℕ
block_of_pointer v l owner pointer = if l.long then number_or_ones (block_at v pointer) else (owner * v.agblocks + pointer)

-- the number of all in a row, each by its place in the row
abbrev pub each_of : {A : Type 0} → ℕ → (ℕ → A) → List A
each_of n item = map item (range_with_len 0 n)

module _ {R K : Type 0} (s : Shape R K) where
  abbrev pub record_at : List ℕ → ℕ → R
  record_at block i = s.record_of (part_of block (record_place s.layout i) s.layout.record_len)

  abbrev pub low_at : List ℕ → ℕ → K
  low_at block i = s.key_of (part_of block (key_place s.layout i) s.layout.key_len)

  abbrev pub high_at : List ℕ → ℕ → K
  high_at block i = s.key_of (part_of block (key_place s.layout i + s.layout.key_len) s.layout.key_len)

  -- the records of a leaf
  abbrev pub records_of : List ℕ → List R
  records_of block = each_of (count_of block) (record_at block)

  -- a child of a node: its block, and the keys that the node states
  abbrev pub child_at : Volume → List ℕ → ℕ → Seat K
  child_at v block i = record {
    place = block_of_pointer v s.layout s.owner (pointer_at s.layout block i);
    low = Some (low_at block i);
    high = if s.layout.high then Some (high_at block i) else None;
  }

  -- the children of a node
  abbrev pub children_of : Volume → List ℕ → List (Seat K)
  children_of v block = each_of (count_of block) (child_at v block)

  -- the low key and the high key of what a block of a level holds
  abbrev pub low_key_at : ℕ → List ℕ → ℕ → K
  low_key_at level block i = if level == 0 then s.low (record_at block i) else low_at block i

  abbrev pub high_key_at : ℕ → List ℕ → ℕ → K
  high_key_at level block i = if level == 0 then s.high (record_at block i) else high_at block i

  abbrev pub lows_of : ℕ → List ℕ → List K
  lows_of level block = each_of (count_of block) (low_key_at level block)

  abbrev pub highs_of : ℕ → List ℕ → List K
  highs_of level block = each_of (count_of block) (high_key_at level block)
