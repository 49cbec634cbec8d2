use Rattle.std.proofs.Common.{Ok, Err, refl}
use Rattle.xfs_tools.proofs.generating.mark_and_mend.Goals as goal

pub returns-in-Ok : goal.returns-in-Ok
returns-in-Ok g c =
    record {
      shown = record { marked = c.put_damaged.new.sink; put = Ok c.in-Ok.field-0; line' = c.in-Ok.ensures; behind = c.mend.ensures.shown };
      size = c.mend.ensures.size;
    }

pub returns-in-Err : goal.returns-in-Err
returns-in-Err g c =
    record {
      shown = record { marked = c.put_damaged.new.sink; put = Err c.in-Err.field-0; line' = c.in-Err.ensures; behind = (refl, refl, refl, c.output_fault.ensures) };
      size = refl;
    }
