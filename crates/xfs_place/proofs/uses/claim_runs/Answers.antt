use Rattle.std.proofs.Common.{◌+◌, ◌-◌, List, length, get_or, sym, subst, arith}
use Rattle.std.proofs.lemmas.List.{drop_all}
use Rattle.xfs_disk.specs.Lists.{is_in_range}
use Rattle.xfs_geom.specs.declared.records.Run.{Run}
use Rattle.xfs_place.specs.declared.uses.Use.{Use}
use Rattle.xfs_place.specs.Pool.{MarksUses, PutsUses, use_held}
use Rattle.xfs_place.proofs.Marking.{puts_at, puts_none}
use Rattle.xfs_place.proofs.uses.claim_runs.Goals as goal

pub loop-i-init : goal.loop-i-init
loop-i-init c =
    let runs = c.args.runs.now in
    subst (λ (rs : List Run). PutsUses c.args.uses.now c.args.uses.now (λ b. use_held rs (c.args.from + b))) (sym (drop_all (length runs - 0) runs (omega arith))) (puts_none c.args.from c.args.uses.now)

pub loop-i-preserved : goal.loop-i-preserved
loop-i-preserved c =
    let none : Run = record { start = 0; count = 0; owner = 0; offset_word = 0 } in
    let run = get_or c.args.runs.now (length c.args.runs.now - 1 - c.loop-i.i) none in
    puts_at c.args.from c.args.uses.now c.loop-i.uses c.mark_in.new.uses c.args.runs.now c.loop-i.i none c.loop-i-test.true c.loop-i.invariant
    (subst (λ (now : Use). MarksUses c.loop-i.uses c.mark_in.new.uses (λ b. is_in_range run.start run.count (c.args.from + b)) now) c.use_of_run.ensures c.mark_in.ensures)
