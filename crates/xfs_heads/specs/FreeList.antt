-- The free list of a group: blocks that are kept ready for its trees (chapter "AG Free Space Management").
use Rattle.std.specs.Prelude.{ℕ, Bool, ◌+◌, ◌-◌, ◌*◌, ◌%◌, ◌&&◌, if◌then◌else◌, List, ◌++◌, map, take, replicate, Option, Some, None}
use Rattle.std.specs.List.{range_with_len, list_all}
use Rattle.xfs_word.specs.Field.{field_of}
use Rattle.xfs_word.specs.Seal.{is_sealed}
use Rattle.xfs_word.specs.declared.kinds.SealKind.TheVariants as Kind
use Rattle.xfs_geom.specs.Volumes.{Volume}
use Rattle.xfs_heads.specs.Heads.{head_seal, is_listable}
use Rattle.xfs_heads.specs.FreeSpace.{has_free_list}
use Rattle.xfs_heads.specs.declared.free_space.Agf.{Agf}
use Rattle.xfs_heads.specs.declared.free_list.Agfl.{Agfl}

-- the entry at an index of the list's 119
abbrev pub entry : List ℕ → ℕ → ℕ
entry sector index = field_of sector (36 + 4 * index) 4

-- so many entries from the first on, around the list's end
unfoldable pub active : List ℕ → ℕ → ℕ → List ℕ
active sector first count = map (λ i. entry sector ((first + i) % 119)) (range_with_len 0 count)

-- entries that hold no block are all ones
unfoldable pub unused : ℕ → List ℕ
unused count = replicate count 0xffff_ffff

-- the active entries of a sector by the bounds of a header of free space, first, and no block behind them
abbrev pub stated_agfl : Agf → List ℕ → Agfl
stated_agfl agf sector = record { entries = active sector agf.flfirst agf.flcount ++ unused (119 - agf.flcount); count = agf.flcount }

-- each active entry is a block of the group that has no fixed use
abbrev pub has_blocks : Volume → ℕ → Agfl → Bool
has_blocks v ag agfl = list_all (is_listable v ag) (take agfl.count agfl.entries)

-- the free list by the bounds of a header of free space, where these agree, the sector is sealed as a free list, and
-- each active entry is a block of the group that has no fixed use
unfoldable pub agfl_of : Volume → ℕ → Agf → List ℕ → Option Agfl
agfl_of v ag agf sector =
    if has_free_list agf && is_sealed (head_seal Kind.Agfl v ag) sector && list_all (is_listable v ag) (active sector agf.flfirst agf.flcount)
    then Some (stated_agfl agf sector)
    else None
