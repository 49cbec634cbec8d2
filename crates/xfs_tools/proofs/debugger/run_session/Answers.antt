use Rattle.std.proofs.Common.{◌∙◌, ℕ, ap}
use Rattle.xfs_tools.specs.Debugging.{session_answer}
use Rattle.xfs_tools.proofs.debugger.run_session.Goals as goal

pub returns-clause-session : goal.returns-clause-session
returns-clause-session g c =
    let run = c.shell-outcome.ensures in
    record {
      outcome = c.shell-outcome.result;
      answer_is = c.answer_of.ensures ∙ ap (λ (n : ℕ). session_answer n c.shell-outcome.result) c.faults.ensures.count;
      finished_is = c.finished_of.ensures;
      is_done = record {
        election = run.elected;
        taken = run.input;
        image = run.image;
        text = run.text;
        stops = run.stops;
        silent = run.silent;
        appends = run.appends;
        disk = run.disk;
        cause = run.cause;
      };
    }
