use Rattle.std.proofs.Common.{Ok, Err, refl}
use Rattle.xfs_tools.proofs.generating.show.Goals as goal

pub returns-in-Ok : goal.returns-in-Ok
returns-in-Ok g c =
    record {
      shown = record { told = c.put_made_lines.new.sink; put = Ok c.in-Ok.field-0; lines = c.in-Ok.ensures; behind = c.damage_and_mend.ensures.shown };
      size = c.damage_and_mend.ensures.size;
    }

pub returns-in-Err : goal.returns-in-Err
returns-in-Err g c =
    record {
      shown = record { told = c.put_made_lines.new.sink; put = Err c.in-Err.field-0; lines = c.in-Err.ensures; behind = (refl, refl, refl, c.output_fault.ensures) };
      size = refl;
    }
