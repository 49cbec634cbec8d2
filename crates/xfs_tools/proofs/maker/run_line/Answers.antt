use Rattle.std.proofs.Common.{◌≡◌, ◌∙◌, ℕ, Option, Some, None, inr, refl, subst, sym, Ok}
use Rattle.xfs_tools.specs.Generating.{IsGenerated}
use Rattle.xfs_tools.proofs.maker.run_line.Goals as goal

one : (x y : ℕ) → Some x ≡ Some y → x ≡ y
one x y e = cc

not_none : (x : ℕ) → Some x ≡ None → ⊥
not_none x e = cc

pub returns-in-Some : goal.returns-in-Some
returns-in-Some g c =
    record {
      made = λ none. absurd (not_none c.in-Some.count (sym c.in-Some.is ∙ none));
      generated =
          let D = g.D.Disk in
          let L = g.L.Library in
          let O = g.O.Sink in
          let E = g.E.Sink in
          let made = c.make_line-answer.ensures in
          λ n is.
          subst (λ (k : ℕ). IsGenerated D.holds D.size D.faults D.write_faults D.reads D.writes D.tells_stops D.moment D.may_leave D.left_since L.files L.faults O.took O.faults E.took E.faults c.args.stamp.now (Ok c.args.line.now)
          c.args.disk.now c.show_made.new.disk c.args.files.now c.make_line-answer.new.files c.args.out.now c.show_made.new.out c.args.err.now c.show_made.new.err c.show_made.result k)
          (one c.in-Some.count n (sym c.in-Some.is ∙ is))
          (record {
            made = c.make_line-answer.new.disk;
            answer = c.make_line-answer.result;
            quiet = c.args.line.now.quiet;
            making = inr made.made;
            inside = made.inside;
            unasked = made.unasked n is;
            tells = made.tells;
            later = made.later;
            behind = c.show_made.ensures.shown;
          });
      size = c.show_made.ensures.size ∙ c.make_line-answer.ensures.size;
      files = c.make_line-answer.ensures.files;
    }

pub returns-in-None : goal.returns-in-None
returns-in-None g c =
    record {
      made =
          λ none. (
            c.make_line-answer.result,
            c.args.line.now.quiet,
            c.end_making.ensures.0,
            inr c.make_line-answer.ensures.made,
            c.end_making.ensures.1,
            c.end_making.ensures.2,
          );
      generated = λ n is. absurd (not_none n (sym is ∙ c.in-None.is));
      size = c.make_line-answer.ensures.size;
      files = c.make_line-answer.ensures.files;
    }
