-- Words that ask for a text alone change nothing; all others go on to the tools.
use Rattle.std.proofs.Common.{◌≡◌, ◌∙◌, false, Option, Some, None, Result, refl, subst, sym, arith}
use Rattle.xfs_disk.proofs.Reading.{reads_none}
use Rattle.xfs_disk.specs.declared.failed.Failed.{Failed}
use Rattle.xfs_tools.specs.Answers.{IsTold, status_of}
use Rattle.xfs_tools.specs.HelpWords.{text_asked}
use Rattle.xfs_tools.specs.declared.answer.Answer.{Answer}
use Rattle.xfs_tools.proofs.top.run.Goals as goal

some_text : (said asked : Option Answer) (text : Answer) → said ≡ Some text → said ≡ asked → asked ≡ None → ⊥
some_text said asked text is told none = let both : Some text ≡ None = sym is ∙ (told ∙ none) in cc

no_text : (said asked : Option Answer) (text : Answer) → said ≡ None → said ≡ asked → asked ≡ Some text → ⊥
no_text said asked text is told some = let both : None ≡ Some text = sym is ∙ (told ∙ some) in cc

pub returns-in-Some : goal.returns-in-Some
returns-in-Some g c =
    record {
      told =
          let O = g.O.Sink in
          let E = g.E.Sink in
          let told = c.end_with.ensures in
          λ text asked.
          let both : Some c.in-Some.text ≡ Some text = sym c.in-Some.is ∙ (c.text_asked.ensures ∙ asked) in
          let same : c.in-Some.text ≡ text = cc in
          subst (λ (t : Answer). (put : Result (Unit {0}) Failed) × (c.args.disk.now ≡ c.args.disk.now) × (c.args.files.now ≡ c.args.files.now) × (c.args.input.now ≡ c.args.input.now)
          × IsTold O.took O.faults E.took E.faults c.args.out.now c.end_with.new.out c.args.err.now c.end_with.new.err t put × (c.end_with.result ≡ status_of false t put))
          same (told.0, refl, refl, refl, told.1, told.2);
      answer = λ asked debugger maker. absurd (some_text c.text_asked.result (text_asked c.args.words.now) c.in-Some.text c.in-Some.is c.text_asked.ensures asked);
      checked =
          let D = g.D.Disk in
          λ debugger maker checks. reads_none D.size D.holds D.write_faults D.writes D.tells_stops D.moment D.may_leave D.left_since c.args.disk.now;
      debugged = λ asked debugger. absurd (some_text c.text_asked.result (text_asked c.args.words.now) c.in-Some.text c.in-Some.is c.text_asked.ensures asked);
      made = λ asked debugger maker unasked. absurd (some_text c.text_asked.result (text_asked c.args.words.now) c.in-Some.text c.in-Some.is c.text_asked.ensures asked);
      generated = λ asked debugger maker. absurd (some_text c.text_asked.result (text_asked c.args.words.now) c.in-Some.text c.in-Some.is c.text_asked.ensures asked);
      size = refl;
      faults = λ debugger maker. omega arith;
      write_faults = λ debugger maker. omega arith;
      library = λ maker. refl;
      files = refl;
      input = λ debugger. refl;
    }

pub returns-in-None : goal.returns-in-None
returns-in-None g c =
    record {
      told = λ text asked. absurd (no_text c.text_asked.result (text_asked c.args.words.now) text c.in-None.is c.text_asked.ensures asked);
      answer = λ asked debugger maker. c.run_tool.ensures.answer debugger maker;
      checked = c.run_tool.ensures.checked;
      debugged = λ asked debugger. c.run_tool.ensures.debugged debugger;
      made = λ asked debugger maker unasked. c.run_tool.ensures.made debugger maker unasked;
      generated = λ asked debugger maker. c.run_tool.ensures.generated debugger maker;
      size = c.run_tool.ensures.size;
      faults = c.run_tool.ensures.faults;
      write_faults = c.run_tool.ensures.write_faults;
      library = c.run_tool.ensures.library;
      files = c.run_tool.ensures.files;
      input = c.run_tool.ensures.input;
    }
