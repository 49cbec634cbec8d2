use Rattle.std.proofs.Common.{◌≡◌, ℕ, ◌+◌, ◌-◌, ◌/◌, ◌<◌, ap, arith}
use Rattle.xfs_geom.specs.Conversions.{group_length}
use Rattle.xfs_geom.specs.Volumes.{volume_of}
use Rattle.xfs_request.specs.Chunks.{chunk_listed}
use Rattle.xfs_request.proofs.Rows.{range_more}
use Rattle.xfs_request.proofs.chunks.kept_chunks.Goals as goal

pub loop-c-preserved : goal.loop-c-preserved
loop-c-preserved c =
    let v = volume_of c.args.g.now in
    let n = group_length v c.args.ag / 8 in
    let at = c.loop-c.c in
    let end : c.group_length-c-end.result / 8 ≡ n = ap (λ (m : ℕ). m / 8) c.group_length-c-end.ensures.value in
    let inside : at < n = omega (arith, c.loop-c-test.true, end) in
    range_more (chunk_listed v c.args.kept.now c.args.ag) c.loop-c.chunks.items c.push_chunk.new.chunks.items _ at (n - at) (n - (at + 1))
    (omega (arith, inside)) c.in_ok-push_chunk.ensures c.loop-c.invariant
