use Rattle.std.proofs.Common.{◌∙◌, refl}
use Rattle.xfs_objects.proofs.Showing.{not_zero, shown_all, shown_more, shown_stops}
use Rattle.xfs_objects.proofs.values.push_escaped.Goals as goal

pub loop-byte-preserved : goal.loop-byte-preserved
loop-byte-preserved c =
    shown_more c.loop-byte.text.items c.push_byte.new.text.items c.args.bytes.now c.loop-byte.byte-index c.loop-byte-test.true (not_zero _ c.if-byte-eq0.false) c.in_ok-push_byte.ensures
    ∙ c.loop-byte.invariant

pub loop-byte-init : goal.loop-byte-init
loop-byte-init c = refl

pub returns-then-byte-eq0 : goal.returns-then-byte-eq0
returns-then-byte-eq0 c =
    shown_stops c.loop-byte.text.items _ c.args.bytes.now c.loop-byte.byte-index c.loop-byte-test.true c.if-byte-eq0.true c.loop-byte.invariant

pub returns : goal.returns
returns c = shown_all c.loop-byte.text.items _ c.args.bytes.now c.loop-byte.byte-index c.loop-byte-test.false c.loop-byte.invariant
