-- The runs of the blocks with a fixed use, and who owns them (chapter "Reverse-Mapping B+tree").
use Rattle.std.specs.Prelude.{ℕ, ◌*◌, List, ◌∷◌, map}
use Rattle.std.specs.List.{range_with_len}
use Rattle.xfs_geom.specs.Volumes.{Volume}
use Rattle.xfs_geom.specs.declared.records.Run.{Run}
use Rattle.xfs_kinds.specs.Owners.{headers_owner, log_owner}

-- the first block of a group, where its headers stand, and the log
abbrev pub header_run : Volume → ℕ → Run
header_run v ag = record { start = ag * v.agblocks; count = 1; owner = headers_owner; offset_word = 0 }

abbrev pub log_run : Volume → Run
log_run v = record { start = v.log; count = v.logblocks; owner = log_owner; offset_word = 0 }

-- the log, and then the headers of each group
abbrev pub fixed_runs : Volume → List Run
fixed_runs v = log_run v ∷ map (header_run v) (range_with_len 0 v.agcount)
