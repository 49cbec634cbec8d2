use Rattle.std.proofs.Common.{◌≡◌, ◌-◌, ◌≤◌, take, drop, length, length-drop, Bool, ◌&&◌, sym, ap, ◌∙◌, arith}
use Rattle.std.specs.List.{list_all}
use Rattle.std.proofs.lemmas.List.{take_all}
use Rattle.xfs_log.specs.Log.{is_of_cycle}
use Rattle.xfs_log.specs.declared.sectors.SectorSeen.{SectorSeen}
use Rattle.xfs_log.proofs.Zeros.{behind, none_behind, with_true}
use Rattle.xfs_log.proofs.state.are_before.Goals as goal

pub returns-then-not-are_zeros_before : goal.returns-then-not-are_zeros_before
returns-then-not-are_zeros_before c =
    sym (behind c.args.seen.now c.args.sectors c.args.cycle c.args.head c.requires.later c.requires.inside c.requires.whole
    ∙ none_behind _ _ (sym c.are_zeros_before.ensures ∙ c.if-not-are_zeros_before.true))

pub returns : goal.returns
returns c =
    let seen = c.args.seen.now in
    let before = is_of_cycle (c.args.cycle - 1) in
    let listed = list_all before (drop c.args.head seen) in
    let long : length (drop c.args.head seen) ≤ length seen - c.args.head = omega (arith, length-drop {A = SectorSeen}) in
    c.are_of_cycle.ensures
    ∙ ap (list_all before) (take_all (length seen - c.args.head) (drop c.args.head seen) long)
    ∙ sym (behind seen c.args.sectors c.args.cycle c.args.head c.requires.later c.requires.inside c.requires.whole
    ∙ ap (λ (b : Bool). listed && b) (sym c.are_zeros_before.ensures ∙ c.if-not-are_zeros_before.false) ∙ with_true listed)
