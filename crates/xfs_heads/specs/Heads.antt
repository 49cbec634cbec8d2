-- What the headers of an allocation group have in common (chapter "Allocation Groups").
use Rattle.std.specs.Prelude.{ℕ, ◌+◌, ◌*◌, Bool, not, ◌&&◌, nat_le, nat_lt, List, map, None}
use Rattle.std.specs.List.{range_with_len}
use Rattle.xfs_word.specs.Field.{field_of}
use Rattle.xfs_word.specs.declared.kinds.Seal.{Seal}
use Rattle.xfs_word.specs.declared.kinds.SealKind.{SealKind}
use Rattle.xfs_geom.specs.Conversions.{group_length, is_fixed}
use Rattle.xfs_geom.specs.Volumes.{Volume}

-- a header is sealed under the volume's identifier, at the number of its group
abbrev pub head_seal : SealKind → Volume → ℕ → Seal
head_seal kind v ag = record { kind = kind; place = ag; owner = None; uuid = v.uuid }

-- a tree has 1 to 9 levels
abbrev pub is_level : ℕ → Bool
is_level level = nat_le 1 level && nat_le level 9

-- a tree's root is a block of the group, of so many blocks, behind the headers
abbrev pub is_root_block : ℕ → ℕ → Bool
is_root_block root blocks = nat_le 1 root && nat_lt root blocks

-- the AG block lies in the group and has no fixed use
abbrev pub is_listable : Volume → ℕ → ℕ → Bool
is_listable v ag ag_block = nat_lt ag_block (group_length v ag) && not (is_fixed v (ag * v.agblocks + ag_block))

-- the big-endian numbers of four bytes that stand one behind the other from an offset on
unfoldable pub numbers : List ℕ → ℕ → ℕ → List ℕ
numbers bytes at count = map (λ i. field_of bytes (at + 4 * i) 4) (range_with_len 0 count)
