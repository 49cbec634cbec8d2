use Rattle.std.proofs.Common.{◌≡◌, ◌-◌, ◌≤◌, true, length, take, drop, length-drop, ap, sym, ◌∙◌, arith, rules}
use Rattle.std.specs.List.{list_all}
use Rattle.std.proofs.lemmas.List.{take_all}
use Rattle.xfs_log.specs.Log.{is_of_cycle, is_unwritten_sector, has_cleared_cycles}
use Rattle.xfs_log.specs.declared.sectors.SectorSeen.{SectorSeen}
use Rattle.xfs_log.proofs.Alone.{third}
use Rattle.xfs_log.proofs.state.has_cleared_cycles.Goals as goal

pub returns-then-are_unwritten : goal.returns-then-are_unwritten
unfolding has_cleared_cycles
returns-then-are_unwritten c =
    let seen = c.args.seen.now in
    let before = is_of_cycle (c.args.cycle - 1) in
    let first : list_all (is_of_cycle c.args.cycle) (take c.args.head seen) ≡ true = search rules in
    let unwritten : list_all is_unwritten_sector (take (512 - c.args.head) (drop c.args.head seen)) ≡ true = search rules in
    let long : length (drop 512 seen) ≤ length seen - 512 = omega (arith, length-drop {A = SectorSeen}) in
    c.are_of_cycle-then-are_unwritten.ensures
    ∙ (ap (list_all before) (take_all (length seen - 512) (drop 512 seen) long) ∙ sym (third _ _ (list_all before (drop 512 seen)) first unwritten))
