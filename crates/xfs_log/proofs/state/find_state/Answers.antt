use Rattle.std.proofs.Common.{true, false, ◌≤◌, sym, ap, ◌∙◌, arith}
use Rattle.xfs_heads.specs.declared.log_state.LogState.TheVariants.{Clean}
use Rattle.xfs_log.proofs.Zeros.{state_early, state_unwritten, state_written}
use Rattle.xfs_log.proofs.state.find_state.Goals as goal

pub returns-then-are_unwritten : goal.returns-then-are_unwritten
returns-then-are_unwritten c = sym (state_unwritten c.args.seen.now c.args.sectors (sym c.are_unwritten.ensures ∙ c.if-are_unwritten.true))

pub returns-then-cycle-eq0 : goal.returns-then-cycle-eq0
returns-then-cycle-eq0 c =
    sym (state_early c.args.seen.now c.args.sectors (sym c.are_unwritten.ensures ∙ c.if-are_unwritten.false) (sym c.first_cycle-cycle.ensures ∙ c.if-cycle-eq0.true))

pub returns-then-has_head : goal.returns-then-has_head
returns-then-has_head c =
    let later : 1 ≤ c.first_cycle-cycle.result = grind (arith, c.if-cycle-eq0.false) in
    ap Clean c.head_number.ensures
    ∙ sym (state_written c.args.seen.now c.args.sectors c.first_cycle-cycle.result c.count_front-front.result true c.requires.inside (sym c.are_unwritten.ensures ∙ c.if-are_unwritten.false)
    c.first_cycle-cycle.ensures later c.count_front-front.ensures.value (sym c.has_head.ensures ∙ c.if-has_head.true))

pub returns-else-has_head : goal.returns-else-has_head
returns-else-has_head c =
    let later : 1 ≤ c.first_cycle-cycle.result = grind (arith, c.if-cycle-eq0.false) in
    sym (state_written c.args.seen.now c.args.sectors c.first_cycle-cycle.result c.count_front-front.result false c.requires.inside (sym c.are_unwritten.ensures ∙ c.if-are_unwritten.false)
    c.first_cycle-cycle.ensures later c.count_front-front.ensures.value (sym c.has_head.ensures ∙ c.if-has_head.false))
