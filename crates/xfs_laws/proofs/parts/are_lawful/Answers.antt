use Rattle.std.proofs.Common.{option_copied, refl, sym, ◌∙◌}
use Rattle.xfs_geom.specs.Volumes.{volume_of}
use Rattle.xfs_laws.proofs.Tests.{lawful_end, lawful_more, lawful_stops}
use Rattle.xfs_laws.proofs.parts.are_lawful.Goals as goal

pub loop-record-init : goal.loop-record-init
loop-record-init g c = refl

pub loop-record-preserved : goal.loop-record-preserved
loop-record-preserved g c =
    lawful_more (g.K.Kind.shape c.args.kind.now) (volume_of c.args.g.now) (option_copied c.loop-record.before) c.args.records.now
    c.loop-record.record-index c.loop-record.invariant c.record-item.result c.loop-record-test.true c.record-item.is
    (sym c.lawful.ensures ∙ c.if-not-lawful.false)

pub returns-then-not-lawful : goal.returns-then-not-lawful
returns-then-not-lawful g c =
    lawful_stops (g.K.Kind.shape c.args.kind.now) (volume_of c.args.g.now) (option_copied c.loop-record.before) c.args.records.now
    c.loop-record.record-index c.loop-record.invariant c.record-item.result c.loop-record-test.true c.record-item.is
    (sym c.lawful.ensures ∙ c.if-not-lawful.true)

pub returns : goal.returns
returns g c =
    lawful_end (g.K.Kind.shape c.args.kind.now) (volume_of c.args.g.now) (option_copied c.loop-record.before) c.args.records.now
    c.loop-record.record-index c.loop-record.invariant c.loop-record-test.false
