-- The newest chunk of a group, and the levels of its trees (chapters "AG Free Space Management" and "AG Inode Management").
use Rattle.std.specs.Prelude.{ℕ, ◌-◌, ◌^◌, List, length, Option, Some, None, slice_get}
use Rattle.xfs_geom.specs.declared.records.InoRec.{InoRec}
use Rattle.xfs_treebuild.specs.Size.{rows_of}

-- the first inode of the last chunk; all ones where there is none
abbrev pub first_inode : Option InoRec → ℕ
first_inode None = 2 ^ 32 - 1
first_inode (Some r) = r.startino

abbrev pub newest : List InoRec → ℕ
newest records = first_inode (slice_get records (length records - 1))

-- the levels of a packed tree
abbrev pub levels : ℕ → ℕ → ℕ → ℕ
levels leaf_cap node_cap records = length (rows_of leaf_cap node_cap records)
