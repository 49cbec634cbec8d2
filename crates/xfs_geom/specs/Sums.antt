-- Sums over the records of trees, which counters state (chapter "AG Free Space Management").
use Rattle.std.specs.Prelude.{ℕ, Bool, max, nat_lt, List, [], ◌∷◌, map}
use Rattle.std.specs.List.{sum}
use Rattle.xfs_geom.specs.declared.records.InoRec.{InoRec}
use Rattle.xfs_geom.specs.declared.records.Span.{Span}

-- the blocks of free runs
abbrev pub free_blocks : List Span → ℕ
free_blocks spans = sum (map (λ (s : Span). s.count) spans)

-- the blocks of the longest of free runs, or 0 where there is none
abbrev pub longest : List Span → ℕ
longest [] = 0
longest (s ∷ ss) = max s.count (longest ss)

-- the inodes of chunks, and those of them that are free
abbrev pub slots : List InoRec → ℕ
slots chunks = sum (map (λ (r : InoRec). r.count) chunks)

abbrev pub free_slots : List InoRec → ℕ
free_slots chunks = sum (map (λ (r : InoRec). r.freecount) chunks)

-- a chunk has a free inode
abbrev pub has_free : InoRec → Bool
has_free r = nat_lt 0 r.freecount
