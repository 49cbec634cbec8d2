use Rattle.std.proofs.Common.{ℕ, Option, sym, ap, ◌∙◌}
use Rattle.xfs_geom.specs.Volumes.{volume_of}
use Rattle.xfs_commands.specs.Commands.{converts, converts_typed, session_of, tells_spot}
use Rattle.xfs_objects.specs.declared.numbers.Typed.{Typed}
use Rattle.xfs_commands.proofs.Effects.{effect_as, refused}
use Rattle.xfs_commands.proofs.moves.convert.Goals as goal

pub returns-in-NoNumber : goal.returns-in-NoNumber
unfolding converts
returns-in-NoNumber c =
    effect_as _ _ _ _ _ _ _
    (ap (λ (t : Typed). converts_typed (volume_of c.args.geometry.now) c.args.source t c.args.word.now c.args.target (session_of c.args.cursor.now)) (sym (sym c.read_number.ensures ∙ c.in-NoNumber.is)))
    (refused _ _ _ _ _ c.refuse_word.ensures.verdict c.refuse_word.ensures.text)

pub returns-in-TooLarge : goal.returns-in-TooLarge
unfolding converts
returns-in-TooLarge c =
    effect_as _ _ _ _ _ _ _
    (ap (λ (t : Typed). converts_typed (volume_of c.args.geometry.now) c.args.source t c.args.word.now c.args.target (session_of c.args.cursor.now)) (sym (sym c.read_number.ensures ∙ c.in-TooLarge.is)))
    (refused _ _ _ _ _ c.refuse.ensures.verdict c.refuse.ensures.text)

pub returns-in-Number : goal.returns-in-Number
unfolding converts
returns-in-Number c =
    effect_as _ _ _ _ _ _ _
    (ap (λ (o : Option (ℕ × ℕ)). tells_spot (volume_of c.args.geometry.now) c.args.target o (session_of c.args.cursor.now)) c.spot.ensures.value
    ∙ ap (λ (t : Typed). converts_typed (volume_of c.args.geometry.now) c.args.source t c.args.word.now c.args.target (session_of c.args.cursor.now)) (sym (sym c.read_number.ensures ∙ c.in-Number.is)))
    c.tell_spot.ensures
