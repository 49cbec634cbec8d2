use Rattle.std.proofs.Common.{◌≡◌, ◌+◌, ◌≤◌, length, ◌∙◌, ap, arith}
use Rattle.std.proofs.lemmas.Result.{IfOk-from_err}
use Rattle.xfs_place.specs.Choice.{group, need, one_if, rank}
use Rattle.xfs_place.proofs.Found.{found_there, rank_few}
use Rattle.xfs_place.proofs.Judging.{all_judged, all_more, all_none, all_rich, later_low, low_there}
use Rattle.xfs_place.proofs.choice.choose_count.Goals as goal

pub loop-n-init : goal.loop-n-init
loop-n-init c = record { stands = c.requires.stands; count = c.requires.none; low = tt; judged = all_none c.args.uses.now c.args.inner c.args.records }

pub returns-then-is_left-clause-chosen : goal.returns-then-is_left-clause-chosen
returns-then-is_left-clause-chosen c =
    let l = c.loop-n.lowest in
    let uses = c.args.uses.now in
    let there : c.loop-n.n ≤ rank uses (length uses) = omega (arith, found_there uses l.blocks.items l.space.items l.inodes.items l.next l.free c.loop-n.invariant.stands, c.loop-n.invariant.count) in
    all_rich uses c.args.inner c.args.records c.loop-n.n c.need-need.result c.loop-n.poor c.is_left.result there c.loop-n.invariant.judged
    (λ claim is counted. c.need-need.ensures.value claim is counted ∙ ap (need (group uses claim c.args.inner)) c.loop-n.invariant.count)
    c.is_left.ensures c.if-is_left.true

pub returns-then-not-branch-clause-there : goal.returns-then-not-branch-clause-there
returns-then-not-branch-clause-there c =
    low_there c.later-poor.result (c.loop-n.n + 1) (length c.take_next.new.self.blocks.items) (omega (arith, c.in_ok-take_next.ensures.taken, c.loop-n.invariant.count))
    (later_low c.loop-n.poor c.later-poor.result c.loop-n.n c.is_left-in-loop-n.result c.later-poor.ensures c.loop-n.invariant.low)

pub returns-then-not-branch-clause-chosen : goal.returns-then-not-branch-clause-chosen
returns-then-not-branch-clause-chosen c =
    let l = c.loop-n.lowest in
    let uses = c.args.uses.now in
    let there : c.loop-n.n ≤ rank uses (length uses) = omega (arith, found_there uses l.blocks.items l.space.items l.inodes.items l.next l.free c.loop-n.invariant.stands, c.loop-n.invariant.count) in
    let judged = all_more uses c.args.inner c.args.records c.loop-n.n c.need-need.result c.loop-n.poor c.later-poor.result c.is_left.result c.is_left-in-loop-n.result there c.loop-n.invariant.judged
    (λ claim is counted. c.need-need.ensures.value claim is counted ∙ ap (need (group uses claim c.args.inner)) c.loop-n.invariant.count)
    c.is_left.ensures c.if-is_left.false c.is_left-in-loop-n.ensures c.later-poor.ensures in
    all_judged uses c.args.inner c.args.records (c.loop-n.n + 1) c.later-poor.result judged
    (omega (arith, c.in_ok-take_next.ensures.all c.if-not-branch.true, c.loop-n.invariant.count))

pub loop-n-preserved : goal.loop-n-preserved
loop-n-preserved c =
    let l = c.loop-n.lowest in
    let uses = c.args.uses.now in
    let there : c.loop-n.n ≤ rank uses (length uses) = omega (arith, found_there uses l.blocks.items l.space.items l.inodes.items l.next l.free c.loop-n.invariant.stands, c.loop-n.invariant.count) in
    let one : one_if c.in_ok-take_next.field-0 ≡ 1 = ap one_if c.if-not-branch.false in
    record {
      stands = c.in_ok-take_next.ensures.stands;
      count = omega (arith, c.in_ok-take_next.ensures.taken, one, c.loop-n.invariant.count);
      low = later_low c.loop-n.poor c.later-poor.result c.loop-n.n c.is_left-in-loop-n.result c.later-poor.ensures c.loop-n.invariant.low;
      judged = all_more uses c.args.inner c.args.records c.loop-n.n c.need-need.result c.loop-n.poor c.later-poor.result c.is_left.result c.is_left-in-loop-n.result there c.loop-n.invariant.judged
          (λ claim is counted. c.need-need.ensures.value claim is counted ∙ ap (need (group uses claim c.args.inner)) c.loop-n.invariant.count)
          c.is_left.ensures c.if-is_left.false c.is_left-in-loop-n.ensures c.later-poor.ensures;
    }

pub returns-clause-there : goal.returns-clause-there
returns-clause-there c = low_there c.loop-n.poor c.loop-n.n (length c.loop-n.lowest.blocks.items) (omega (arith, c.loop-n.invariant.count)) c.loop-n.invariant.low

pub returns-clause-chosen : goal.returns-clause-chosen
returns-clause-chosen c = all_judged c.args.uses.now c.args.inner c.args.records c.loop-n.n c.loop-n.poor c.loop-n.invariant.judged (omega (arith, c.loop-n-test.false, rank_few c.args.uses.now))

pub need-need-requires-clause-few : goal.need-need-requires-clause-few
need-need-requires-clause-few c = c.requires.few

pub need-need-requires-clause-inner : goal.need-need-requires-clause-inner
need-need-requires-clause-inner c = c.requires.inner

pub need-need-requires-clause-records : goal.need-need-requires-clause-records
need-need-requires-clause-records c = c.requires.records

pub need-need-requires-clause-stands : goal.need-need-requires-clause-stands
need-need-requires-clause-stands c = c.loop-n.invariant.stands

pub take_next-requires-clause-few : goal.take_next-requires-clause-few
take_next-requires-clause-few c = c.requires.few

pub take_next-requires-clause-header : goal.take_next-requires-clause-header
take_next-requires-clause-header c = c.requires.header

pub take_next-requires-clause-stands : goal.take_next-requires-clause-stands
take_next-requires-clause-stands c = c.loop-n.invariant.stands

pub is_left-requires-clause-need : goal.is_left-requires-clause-need
is_left-requires-clause-need c = c.need-need.ensures.small

pub is_left-requires-in-loop-n-clause-need : goal.is_left-requires-in-loop-n-clause-need
is_left-requires-in-loop-n-clause-need c = c.need-need.ensures.small

pub returns-then-is_left-clause-stands : goal.returns-then-is_left-clause-stands
returns-then-is_left-clause-stands c = c.loop-n.invariant.stands

pub returns-then-not-branch-clause-stands : goal.returns-then-not-branch-clause-stands
returns-then-not-branch-clause-stands c = c.in_ok-take_next.ensures.stands

pub returns-clause-stands : goal.returns-clause-stands
returns-clause-stands c = c.loop-n.invariant.stands

pub returns-in_err-take_next-clause-stands : goal.returns-in_err-take_next-clause-stands
returns-in_err-take_next-clause-stands c = IfOk-from_err c.from_residual.result _ c.from_residual.ensures.0

pub returns-in_err-take_next-clause-there : goal.returns-in_err-take_next-clause-there
returns-in_err-take_next-clause-there c = IfOk-from_err c.from_residual.result _ c.from_residual.ensures.0

pub returns-in_err-take_next-clause-chosen : goal.returns-in_err-take_next-clause-chosen
returns-in_err-take_next-clause-chosen c = IfOk-from_err c.from_residual.result _ c.from_residual.ensures.0
