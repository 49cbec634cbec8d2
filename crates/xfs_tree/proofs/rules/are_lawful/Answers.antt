use Rattle.std.proofs.Common.{rules, ◌∷◌, sym, ◌∙◌, ap, ◌+◌}
use Rattle.xfs_geom.specs.Volumes.{volume_of}
use Rattle.xfs_tree.specs.Blocks.{count_of, record_at}
use Rattle.xfs_tree.proofs.Rest.{rest_of, rest_next}
use Rattle.xfs_tree.proofs.Steps.{lawful_step, lawful_stop}
use Rattle.xfs_tree.proofs.rules.are_lawful.Goals as goal

pub returns-then-not-lawful : goal.returns-then-not-lawful
returns-then-not-lawful g c =
    let s = g.K.Kind.shape c.args.kind.now in
    let i = c.loop-i.i in
    let n = count_of c.args.block.now in
    let next = rest_next i n (record_at s c.args.block.now) (search rules) in
    let split = next ∙ ap (λ item. item ∷ rest_of (i + 1) n (record_at s c.args.block.now)) (sym c.record_at-item.ensures) in
    lawful_stop s (volume_of c.args.g.now) c.loop-i.before c.record_at-item.result _ _ _ split (search rules) c.loop-i.invariant.rest

pub loop-i-preserved : goal.loop-i-preserved
loop-i-preserved g c =
    let s = g.K.Kind.shape c.args.kind.now in
    let i = c.loop-i.i in
    let n = count_of c.args.block.now in
    let next = rest_next i n (record_at s c.args.block.now) (search rules) in
    let split = next ∙ ap (λ item. item ∷ rest_of (i + 1) n (record_at s c.args.block.now)) (sym c.record_at-item.ensures) in
    record {
      ends = c.loop-i.invariant.ends;
      rest = lawful_step s (volume_of c.args.g.now) c.loop-i.before c.record_at-item.result _ _ _ split (search rules) c.loop-i.invariant.rest;
    }
