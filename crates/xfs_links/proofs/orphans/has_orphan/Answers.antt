use Rattle.std.proofs.Common.{false, get_or, sym, ◌∙◌}
use Rattle.xfs_links.specs.Places.{orphan_told}
use Rattle.xfs_links.proofs.Groups.{any_more, any_here}
use Rattle.xfs_links.proofs.orphans.has_orphan.Goals as goal

pub loop-place-preserved : goal.loop-place-preserved
loop-place-preserved c = any_more (λ p. orphan_told c.args.files.now c.args.root c.args.parents.now (get_or c.args.named.now p false) p) c.loop-place.place c.loop-place.invariant (sym c.is_orphan.ensures ∙ c.if-is_orphan.false)

pub returns-then-is_orphan : goal.returns-then-is_orphan
returns-then-is_orphan c = sym (any_here (λ p. orphan_told c.args.files.now c.args.root c.args.parents.now (get_or c.args.named.now p false) p) c.loop-place.place _ c.loop-place-test.true (sym c.is_orphan.ensures ∙ c.if-is_orphan.true))
