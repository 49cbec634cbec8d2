-- A chunk with its free inodes.
use Rattle.std.proofs.Common.{◌≡◌, ℕ}
use Rattle.xfs_geom.specs.Volumes.{Volume}
use Rattle.xfs_geom.specs.declared.records.InoRec.{InoRec}
use Rattle.xfs_salvage.specs.xfs_laws.Counting.{bits_below, count_below}
use Rattle.xfs_salvage.specs.declared.found.Salvaged.{Salvaged}
use Rattle.xfs_request.specs.Chunks.{counted_chunk, is_idle, slot_count}

pub counted : (v : Volume) (kept : Salvaged) (ag startino holemask count freecount free : ℕ) → count ≡ slot_count holemask
    → freecount ≡ count_below (is_idle v kept ag startino holemask) 64 → free ≡ bits_below (is_idle v kept ag startino holemask) 64
    → ◌≡◌ {A = InoRec} (record { startino = startino; holemask = holemask; count = count; freecount = freecount; free = free }) (counted_chunk v kept ag startino holemask)
counted v kept ag startino holemask count freecount free all idle bits = λ i. record { startino = startino; holemask = holemask; count = all i; freecount = idle i; free = bits i }
