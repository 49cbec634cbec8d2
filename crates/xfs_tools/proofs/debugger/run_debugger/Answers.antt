use Rattle.std.proofs.Common.{Ok, Err, refl}
use Rattle.xfs_tools.proofs.debugger.run_debugger.Goals as goal

pub returns-in-Ok : goal.returns-in-Ok
returns-in-Ok g c =
    record {
      ended = (
        c.run_words-end.result.answer,
        c.run_words-end.result.finished,
        Ok c.in-Ok.field-0,
        c.run_words-end.ensures.ended,
        c.in-Ok.ensures,
        rw (c.code.ensures) refl,
      );
      size = c.run_words-end.ensures.size;
    }

pub returns-in-Err : goal.returns-in-Err
returns-in-Err g c =
    record {
      ended = (
        c.run_words-end.result.answer,
        c.run_words-end.result.finished,
        Err c.in-Err.field-0,
        c.run_words-end.ensures.ended,
        c.in-Err.ensures,
        refl,
      );
      size = c.run_words-end.ensures.size;
    }
