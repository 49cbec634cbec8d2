use Rattle.std.proofs.Common.{rules, ◌∷◌, Some, sym, ◌∙◌, ap, ◌+◌}
use Rattle.xfs_tree.specs.Blocks.{count_of, high_key_at}
use Rattle.xfs_tree.specs.Rules.{greatest_with}
use Rattle.xfs_tree.proofs.Rest.{rest_of, rest_next}
use Rattle.xfs_tree.proofs.Steps.{greatest_step}
use Rattle.xfs_tree.proofs.rules.high_of.Goals as goal

pub loop-i-preserved : goal.loop-i-preserved
loop-i-preserved g c =
    let s = g.K.Kind.shape c.args.kind.now in
    let i = c.loop-i.i in
    let n = count_of c.args.block.now in
    let item = high_key_at s c.args.level c.args.block.now in
    let next = rest_next i n item (search rules) in
    let split = next ∙ ap (λ key. key ∷ rest_of (i + 1) n item) (sym c.high_key_at.ensures) in
    let step = greatest_step s c.loop-i.best c.high_key_at.result _ _ _ split c.loop-i.invariant.rest in
    record {
      ends = c.loop-i.invariant.ends;
      rest = ap (λ key. greatest_with s (Some key) (rest_of (i + 1) n item)) c.greater.ensures ∙ step;
    }
