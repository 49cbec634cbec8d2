use Rattle.std.proofs.Common.{◌≡◌, ℕ, List, length, arith, ap, ◌∙◌}
use Rattle.xfs_filled.specs.Objects.{blocks_of_length}
use Rattle.xfs_filled.proofs.Padded.{padded_by}
use Rattle.xfs_filled.proofs.content.Content.make.Goals as goal

pub invariant_of-result : goal.invariant_of-result
invariant_of-result c =
    let bytes : List ℕ = c.args.bytes.items in
    let n = c.blocks_for-blocks.result in
    let long : length c.as_slice-size.result.now ≡ length bytes = ap length c.as_slice-size.ensures.value in
    let room = c.if-blocks-size.false in
    padded_by bytes n (length c.as_slice-size.result.now) c.args.bytes.len c.in_ok-whole.whole long c.args.bytes.ok.0 (c.blocks_for-blocks.ensures ∙ ap blocks_of_length long) (omega (arith, room, long))
    (omega (arith, c.args.bytes.ok, c.args.bytes.small)) (c.in_ok-whole.ensures ∙ c.shrink_to_fit.ensures.items ∙ c.in_ok-resize.ensures.items)
