-- The chunk that is due, from what was counted.
use Rattle.std.proofs.Common.{◌≡◌, ◌==◌, ℕ, if◌then◌else◌, List, ap, ◌∙◌}
use Rattle.xfs_geom.specs.Volumes.{Volume}
use Rattle.xfs_geom.specs.declared.records.InoRec.{InoRec}
use Rattle.xfs_volume.specs.declared.files.FileRec.{FileRec}
use Rattle.xfs_laws.specs.Counting.{bits_below, count_below, due_chunk, is_unused}

pub due_is : (v : Volume) (files : List FileRec) (ag : ℕ) (r : InoRec) {count freecount free n : ℕ} → count ≡ (if r.holemask == 0 then 64 else 32)
    → freecount ≡ count_below (is_unused v files ag r) n → free ≡ bits_below (is_unused v files ag r) n → n ≡ 64
    → record { startino = r.startino; holemask = r.holemask; count = count; freecount = freecount; free = free } ≡ due_chunk v files ag r
unfolding due_chunk
due_is v files ag r count_is counted marked all =
    let freecount_is = counted ∙ ap (count_below (is_unused v files ag r)) all in
    let free_is = marked ∙ ap (bits_below (is_unused v files ag r)) all in
    λ i. record { startino = r.startino; holemask = r.holemask; count = count_is i; freecount = freecount_is i; free = free_is i }
