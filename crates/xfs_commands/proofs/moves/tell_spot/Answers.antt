use Rattle.std.proofs.Common.{ℕ, ◌++◌, Option, Some, None, refl, sym, ap, subst, ◌∙◌}
use Rattle.std.specs.Option.{option_map}
use Rattle.std.proofs.lemmas.Result.{IfOk-from_err}
use Rattle.xfs_geom.specs.Volumes.{volume_of}
use Rattle.xfs_objects.specs.Places.{both_bases, pair_of}
use Rattle.xfs_commands.specs.Commands.{session_of, tells_spot, IsEffect}
use Rattle.xfs_commands.specs.declared.cursor.Verdict.TheVariants.{Done}
use Rattle.xfs_commands.proofs.Effects.{effect_as, refused}
use Rattle.xfs_commands.proofs.moves.tell_spot.Goals as goal

pub returns-in-None : goal.returns-in-None
returns-in-None c =
    effect_as _ _ _ _ _ _ _
    (ap (λ (o : Option (ℕ × ℕ)). tells_spot (volume_of c.args.geometry.now) c.args.measure o (session_of c.args.cursor.now)) (sym (ap (option_map pair_of) c.in-None.is)))
    (refused _ _ _ _ _ c.refuse.ensures.verdict c.refuse.ensures.text)

pub returns-in_ok-push_both-in-Some : goal.returns-in_ok-push_both-in-Some
returns-in_ok-push_both-in-Some c =
    let v = volume_of c.args.geometry.now in
    let s = session_of c.args.cursor.now in
    let did : IsEffect (tells_spot v c.args.measure (Some (pair_of c.in-Some.spot)) s) Done c.args.text.now.items c.push_both.new.text.items s None =
    record {
      verdict_is = refl;
      text_is = c.in_ok-push_both-in-Some.ensures ∙ ap (λ (n : ℕ). c.args.text.now.items ++ both_bases n) c.number.ensures;
      session_is = refl;
      put_is = refl;
    } in
    subst (λ (o : Option (ℕ × ℕ)). IsEffect (tells_spot v c.args.measure o s) Done c.args.text.now.items c.push_both.new.text.items s None)
    (sym (ap (option_map pair_of) c.in-Some.is)) did

pub returns-in_err-push_both-in-Some : goal.returns-in_err-push_both-in-Some
returns-in_err-push_both-in-Some c = IfOk-from_err c.from_residual.result _ c.from_residual.ensures.0
