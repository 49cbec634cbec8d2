-- What was done is what `run` says.
use Rattle.xfs_program.proofs.calling.answer.Goals as goal

pub returns : goal.returns
returns g c = (
  c.run-status.result,
  record {
    told = c.run-status.ensures.told;
    repaired = c.run-status.ensures.answer;
    checked = c.run-status.ensures.checked;
    debugged = c.run-status.ensures.debugged;
    made = c.run-status.ensures.made;
    generated = c.run-status.ensures.generated;
    same_library = c.run-status.ensures.library;
    same_files = c.run-status.ensures.files;
    same_input = c.run-status.ensures.input;
  },
  c.from.ensures,
)
