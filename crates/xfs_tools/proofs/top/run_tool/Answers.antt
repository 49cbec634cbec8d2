-- Each tool does what is said of it, and the others are not asked for.
use Rattle.std.proofs.Common.{refl, sym}
use Rattle.std.proofs.lemmas.List.{take_rest}
use Rattle.xfs_tools.specs.CommandLine.{is_debugger, is_maker}
use Rattle.xfs_tools.proofs.Choosing.{not_false, not_true}
use Rattle.xfs_tools.proofs.top.run_tool.Goals as goal

pub returns-then-is_debugger : goal.returns-then-is_debugger
returns-then-is_debugger g c = record {
  answer = λ other maker. absurd (not_false (is_debugger c.args.words.now) c.is_debugger.result c.is_debugger.ensures.value c.if-is_debugger.true other);
  checked = λ other maker only. absurd (not_false (is_debugger c.args.words.now) c.is_debugger.result c.is_debugger.ensures.value c.if-is_debugger.true other);
  debugged = λ is. rw (sym (take_rest c.args.words.now 1)) c.run_debugger.ensures.ended;
  made = λ other maker unasked. absurd (not_false (is_debugger c.args.words.now) c.is_debugger.result c.is_debugger.ensures.value c.if-is_debugger.true other);
  generated = λ other maker. absurd (not_false (is_debugger c.args.words.now) c.is_debugger.result c.is_debugger.ensures.value c.if-is_debugger.true other);
  size = c.run_debugger.ensures.size;
  faults = λ other maker. absurd (not_false (is_debugger c.args.words.now) c.is_debugger.result c.is_debugger.ensures.value c.if-is_debugger.true other);
  write_faults = λ other maker. absurd (not_false (is_debugger c.args.words.now) c.is_debugger.result c.is_debugger.ensures.value c.if-is_debugger.true other);
  library = λ other. refl;
  files = refl;
  input = λ other. absurd (not_false (is_debugger c.args.words.now) c.is_debugger.result c.is_debugger.ensures.value c.if-is_debugger.true other);
}

pub returns-then-is_maker : goal.returns-then-is_maker
returns-then-is_maker g c = record {
  answer = λ debugger other. absurd (not_false (is_maker c.args.words.now) c.is_maker.result c.is_maker.ensures.value c.if-is_maker.true other);
  checked = λ debugger other only. absurd (not_false (is_maker c.args.words.now) c.is_maker.result c.is_maker.ensures.value c.if-is_maker.true other);
  debugged = λ is. absurd (not_true (is_debugger c.args.words.now) c.is_debugger.result c.is_debugger.ensures.value c.if-is_debugger.false is);
  made = λ debugger is. rw (sym (take_rest c.args.words.now 1)) c.run_maker.ensures.made;
  generated = λ debugger is. rw (sym (take_rest c.args.words.now 1)) c.run_maker.ensures.generated;
  size = c.run_maker.ensures.size;
  faults = λ debugger other. absurd (not_false (is_maker c.args.words.now) c.is_maker.result c.is_maker.ensures.value c.if-is_maker.true other);
  write_faults = λ debugger other. absurd (not_false (is_maker c.args.words.now) c.is_maker.result c.is_maker.ensures.value c.if-is_maker.true other);
  library = λ other. absurd (not_false (is_maker c.args.words.now) c.is_maker.result c.is_maker.ensures.value c.if-is_maker.true other);
  files = c.run_maker.ensures.files;
  input = λ debugger. refl;
}

pub returns-else-is_maker : goal.returns-else-is_maker
returns-else-is_maker g c =
    let is = c.run_volume.ensures in
    record {
      answer = λ debugger maker. is.answer;
      checked = λ debugger maker only. is.checked only;
      debugged = λ other. absurd (not_true (is_debugger c.args.words.now) c.is_debugger.result c.is_debugger.ensures.value c.if-is_debugger.false other);
      made = λ debugger other unasked. absurd (not_true (is_maker c.args.words.now) c.is_maker.result c.is_maker.ensures.value c.if-is_maker.false other);
      generated = λ debugger other. absurd (not_true (is_maker c.args.words.now) c.is_maker.result c.is_maker.ensures.value c.if-is_maker.false other);
      size = is.size;
      faults = λ debugger maker. is.faults;
      write_faults = λ debugger maker. is.write_faults;
      library = λ maker. refl;
      files = refl;
      input = λ debugger. refl;
    }
