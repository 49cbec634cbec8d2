use Rattle.std.proofs.Common.{◌≡◌, subst}
use Rattle.xfs_tools.specs.Generating.{IsEnded}
use Rattle.xfs_tools.specs.declared.answer.Answer.{Answer}
use Rattle.xfs_tools.proofs.generating.mend.Goals as goal

pub returns : goal.returns
returns g c =
    record {
      shown =
          let O = g.O.Sink in
          let E = g.E.Sink in
          let run = c.repair-outcome.ensures in
          record {
            outcome = c.repair-outcome.result;
            repaired = record { due = run.due; possible = run.possible; cause = run.cause; leaves = run.leaves; counted = run.counted; only_read = run.only_read; kept = run.kept; stops = run.stops };
            ended = subst (λ (a : Answer). IsEnded O.took O.faults E.took E.faults c.args.out.now c.end_with.new.out c.args.err.now c.end_with.new.err a c.end_with.result)
                c.of_outcome.ensures c.end_with.ensures;
          };
      size = c.repair-outcome.ensures.size;
    }
