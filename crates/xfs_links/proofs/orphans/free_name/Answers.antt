use Rattle.std.proofs.Common.{sym, ◌∙◌, ap}
use Rattle.xfs_links.proofs.Lonely.{free_here, free_next}
use Rattle.xfs_links.proofs.orphans.free_name.Goals as goal

pub returns-then-not-contains : goal.returns-then-not-contains
returns-then-not-contains c f taken = c.from_vec.ensures ∙ c.in_ok-name.ensures
    ∙ sym (free_here f c.args.ino c.args.steps c.loop-k.k c.loop-k-test.true (ap f (sym c.in_ok-name.ensures) ∙ sym (taken.told c.in_ok-name.name) ∙ sym c.contains.ensures ∙ c.if-not-contains.true))
    ∙ c.loop-k.invariant f taken

pub loop-k-preserved : goal.loop-k-preserved
loop-k-preserved c f taken =
    sym (free_next f c.args.ino c.args.steps c.loop-k.k c.loop-k-test.true (ap f (sym c.in_ok-name.ensures) ∙ sym (taken.told c.in_ok-name.name) ∙ sym c.contains.ensures ∙ c.if-not-contains.false))
    ∙ c.loop-k.invariant f taken
