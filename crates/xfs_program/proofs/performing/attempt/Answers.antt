-- The call is made with the words that were given and the stamp that was drawn.
use Rattle.std.proofs.Common.{ℕ, List, ap, inl, inr, refl, subst, sym, ◌∙◌}
use Rattle.xfs_program.specs.Purposes.{purpose_in}
use Rattle.xfs_system.specs.declared.purpose.Purpose.TheVariants.{Nothing}
use Rattle.xfs_program.proofs.performing.attempt.Goals as goal

pub returns-in-Ok-hold_streams-clause-performed : goal.returns-in-Ok-hold_streams-clause-performed
returns-in-Ok-hold_streams-clause-performed g c =
    let P : List (List ℕ) → Type 0 = g.H.Host.gives_words c.args.host.now in
    let same = c.deref-in-Ok-hold_streams.ensures.value in
    let called = c.call.ensures in
    record {
      words = c.deref-in-Ok-hold_streams.result.now;
      stamp = c.in-Ok-make_stamp.stamp;
      purpose = c.in-Ok-purpose_of.purpose;
      image = called.0;
      given = subst P (sym same) c.in-Ok.ensures;
      drawn = c.in-Ok-make_stamp.ensures;
      asked = inl (c.in-Ok-purpose_of.ensures ∙ ap purpose_in (c.deref.ensures.value ∙ sym same));
      taken = called.1;
      ends = called.2;
    }

pub returns-clause-performed : goal.returns-clause-performed
returns-clause-performed g c =
    let P : List (List ℕ) → Type 0 = g.H.Host.gives_words c.args.host.now in
    let called = c.call-in-Err.ensures in
    record {
      words = c.deref-in-Err.result.now;
      stamp = c.in-Ok-make_stamp.stamp;
      purpose = Nothing;
      image = called.0;
      given = subst P (sym c.deref-in-Err.ensures.value) c.in-Ok.ensures;
      drawn = c.in-Ok-make_stamp.ensures;
      asked = inr (refl, c.in-Err.ensures);
      taken = called.1;
      ends = called.2;
    }
