use Rattle.std.proofs.Common.{◌++◌, ◌∷◌, [], List, map, ◌∙◌, ap, arith}
use Rattle.xfs_geom.specs.declared.records.Run.{Run}
use Rattle.xfs_place.specs.Wanted.{run_in_group}
use Rattle.xfs_place.proofs.Mapped.{mapped_all, mapped_more}
use Rattle.xfs_place.proofs.claims.list_group.Goals as goal

pub loop-run-init : goal.loop-run-init
loop-run-init c = c.new-group.ensures.items

pub loop-run-preserved : goal.loop-run-preserved
loop-run-preserved c =
    let none : Run = record { start = 0; count = 0; owner = 0; offset_word = 0 } in
    let old = c.loop-run.group.items in
    mapped_more (run_in_group c.args.base) c.claims_in-part.result.now c.loop-run.run-index none old c.push.new.self.items c.loop-run-test.true c.loop-run.invariant
    (c.in_ok-push.ensures.items ∙ ap (λ (r : Run). old ++ r ∷ []) c.run_in_group.ensures)

pub returns : goal.returns
returns c =
    mapped_all (run_in_group c.args.base) c.claims_in-part.result.now c.loop-run.run-index c.loop-run.group.items (omega (arith, c.loop-run-test.false)) c.loop-run.invariant
    ∙ ap (map (run_in_group c.args.base)) c.claims_in-part.ensures
