use Rattle.std.proofs.Common.{sym, ◌∙◌}
use Rattle.std.proofs.lemmas.Result.{IfOk-weaker}
use Rattle.xfs_geom.specs.Volumes.{volume_of}
use Rattle.xfs_changes.proofs.Taking.{next_short, next_with_blocks}
use Rattle.xfs_changes.proofs.forks.next_fork.Goals as goal

pub returns-then-stands_in_blocks : goal.returns-then-stands_in_blocks
returns-then-stands_in_blocks c = IfOk-weaker c.fork_with_blocks.result _ _
    (λ t h. next_with_blocks (volume_of c.args.g.now) c.args.files.now c.in_ok-attributes.attributes c.args.directory.now c.args.cuts.now c.args.runs.now t c.in_ok-attributes.ensures (sym c.stands_in_blocks.ensures ∙ c.if-stands_in_blocks.true) h)
    c.fork_with_blocks.ensures

pub returns : goal.returns
returns c = next_short (volume_of c.args.g.now) c.args.files.now c.in_ok-attributes.attributes c.args.directory.now c.args.cuts.now c.args.runs.now c.in_ok-short_fork.field-0 c.in_ok-attributes.ensures (sym c.stands_in_blocks.ensures ∙ c.if-stands_in_blocks.false) c.in_ok-short_fork.ensures
