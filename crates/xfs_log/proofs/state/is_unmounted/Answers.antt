use Rattle.std.proofs.Common.{◌≡◌, ◌-◌, take, drop, true, false, sym, ◌∙◌, arith}
use Rattle.std.specs.Prelude.{nat_le}
use Rattle.std.specs.List.{list_all}
use Rattle.xfs_log.specs.Log.{all_sectors, ends_in_unmount, is_of_cycle}
use Rattle.std.proofs.lemmas.Bool.Decides.{nat_tests}
use Rattle.xfs_log.proofs.Zeros.{first_of_four, last_of_four, second_of_four, third_of_four, unmounted_listed}
use Rattle.xfs_log.proofs.state.is_unmounted.Goals as goal

pub returns-then-head-eq0 : goal.returns-then-head-eq0
returns-then-head-eq0 c =
    let none : nat_le 1 c.args.head ≡ false = grind (arith, nat_tests, c.if-head-eq0.true) in
    first_of_four (nat_le 1 c.args.head) (list_all (is_of_cycle c.args.cycle) (take c.args.head c.args.seen.now)) (list_all (is_of_cycle (c.args.cycle - 1)) (drop c.args.head (all_sectors c.args.seen.now c.args.sectors)))
    (ends_in_unmount (all_sectors c.args.seen.now c.args.sectors) c.args.head) none ∙ sym (unmounted_listed c.args.seen.now c.args.sectors c.args.cycle c.args.head c.requires.whole c.requires.inside c.requires.later)

pub returns-then-not-are_of_cycle : goal.returns-then-not-are_of_cycle
returns-then-not-are_of_cycle c =
    second_of_four (nat_le 1 c.args.head) (list_all (is_of_cycle c.args.cycle) (take c.args.head c.args.seen.now)) (list_all (is_of_cycle (c.args.cycle - 1)) (drop c.args.head (all_sectors c.args.seen.now c.args.sectors)))
    (ends_in_unmount (all_sectors c.args.seen.now c.args.sectors) c.args.head) (sym c.are_of_cycle.ensures ∙ c.if-not-are_of_cycle.true) ∙ sym (unmounted_listed c.args.seen.now c.args.sectors c.args.cycle c.args.head c.requires.whole c.requires.inside c.requires.later)

pub returns-then-not-are_before : goal.returns-then-not-are_before
returns-then-not-are_before c =
    third_of_four (nat_le 1 c.args.head) (list_all (is_of_cycle c.args.cycle) (take c.args.head c.args.seen.now)) (list_all (is_of_cycle (c.args.cycle - 1)) (drop c.args.head (all_sectors c.args.seen.now c.args.sectors)))
    (ends_in_unmount (all_sectors c.args.seen.now c.args.sectors) c.args.head) (sym c.are_before.ensures ∙ c.if-not-are_before.true) ∙ sym (unmounted_listed c.args.seen.now c.args.sectors c.args.cycle c.args.head c.requires.whole c.requires.inside c.requires.later)

pub returns : goal.returns
returns c =
    let some : nat_le 1 c.args.head ≡ true = grind (arith, nat_tests, c.if-head-eq0.false) in
    c.ends_in_unmount.ensures
    ∙ last_of_four (nat_le 1 c.args.head) (list_all (is_of_cycle c.args.cycle) (take c.args.head c.args.seen.now)) (list_all (is_of_cycle (c.args.cycle - 1)) (drop c.args.head (all_sectors c.args.seen.now c.args.sectors)))
    (ends_in_unmount (all_sectors c.args.seen.now c.args.sectors) c.args.head) some (sym c.are_of_cycle.ensures ∙ c.if-not-are_of_cycle.false) (sym c.are_before.ensures ∙ c.if-not-are_before.false)
    ∙ sym (unmounted_listed c.args.seen.now c.args.sectors c.args.cycle c.args.head c.requires.whole c.requires.inside c.requires.later)
