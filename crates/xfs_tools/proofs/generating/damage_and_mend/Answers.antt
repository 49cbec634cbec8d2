use Rattle.std.proofs.Common.{◌≡◌, ◌∙◌, Ok, Err, refl, subst}
use Rattle.xfs_tools.specs.Generating.{IsEnded}
use Rattle.xfs_tools.specs.declared.answer.Answer.{Answer}
use Rattle.xfs_tools.proofs.generating.damage_and_mend.Goals as goal

pub returns-in-Ok : goal.returns-in-Ok
returns-in-Ok g c =
    record {
      shown = record { damaged = c.damage.new.disk; result = Ok c.in-Ok.place; damaging = c.in-Ok.ensures.ended; behind = c.mark_and_mend.ensures.shown };
      size = c.mark_and_mend.ensures.size ∙ c.in-Ok.ensures.size;
    }

pub returns-in-Err : goal.returns-in-Err
returns-in-Err g c =
    record {
      shown =
          let O = g.O.Sink in
          let E = g.E.Sink in
          record {
            damaged = c.damage.new.disk;
            result = Err c.in-Err.fault;
            damaging = c.in-Err.ensures.ended;
            behind = (
              refl,
              subst (λ (a : Answer). IsEnded O.took O.faults E.took E.faults c.args.out.now c.end_with.new.out c.args.err.now c.end_with.new.err a c.end_with.result)
                  c.damage_answer.ensures c.end_with.ensures,
            );
          };
      size = c.in-Err.ensures.size;
    }
