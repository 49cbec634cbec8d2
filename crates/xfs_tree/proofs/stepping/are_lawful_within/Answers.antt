use Rattle.std.proofs.Common.{rules, ◌∷◌, Some, sym, ◌∙◌, ap, ◌+◌}
use Rattle.xfs_geom.specs.Volumes.{volume_of}
use Rattle.xfs_tree.specs.Blocks.{count_of, record_at}
use Rattle.xfs_tree.specs.Rules.{are_lawful}
use Rattle.xfs_tree.specs.Alone.{lawful_within}
use Rattle.xfs_tree.proofs.Rest.{rest_all, rest_of, rest_next}
use Rattle.xfs_tree.proofs.Steps.{lawful_step, lawful_stop}
use Rattle.xfs_tree.proofs.stepping.are_lawful_within.Goals as goal

pub loop-i-init : goal.loop-i-init
loop-i-init g c =
    let s = g.K.Kind.shape c.args.kind.now in
    let v = volume_of c.args.g.now in
    let n = count_of c.args.block.now in
    let item = record_at s c.args.block.now in
    ap (λ first. are_lawful s v (Some first) (rest_of 1 n item)) c.record_at-before.ensures
    ∙ sym (ap (lawful_within s v) (sym (rest_all n item) ∙ rest_next 0 n item (search rules)))

pub returns-then-not-lawful : goal.returns-then-not-lawful
returns-then-not-lawful g c =
    let s = g.K.Kind.shape c.args.kind.now in
    let i = c.loop-i.i in
    let n = count_of c.args.block.now in
    let next = rest_next i n (record_at s c.args.block.now) (search rules) in
    let split = next ∙ ap (λ item. item ∷ rest_of (i + 1) n (record_at s c.args.block.now)) (sym c.record_at-item.ensures) in
    lawful_stop s (volume_of c.args.g.now) (Some c.loop-i.before) c.record_at-item.result _ _ _ split (search rules) c.loop-i.invariant

pub loop-i-preserved : goal.loop-i-preserved
loop-i-preserved g c =
    let s = g.K.Kind.shape c.args.kind.now in
    let i = c.loop-i.i in
    let n = count_of c.args.block.now in
    let next = rest_next i n (record_at s c.args.block.now) (search rules) in
    let split = next ∙ ap (λ item. item ∷ rest_of (i + 1) n (record_at s c.args.block.now)) (sym c.record_at-item.ensures) in
    lawful_step s (volume_of c.args.g.now) (Some c.loop-i.before) c.record_at-item.result _ _ _ split (search rules) c.loop-i.invariant
