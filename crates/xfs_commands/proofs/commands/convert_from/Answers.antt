use Rattle.std.proofs.Common.{Bool, if◌then◌else◌, sym, ap, ◌∙◌}
use Rattle.xfs_geom.specs.Volumes.{volume_of}
use Rattle.xfs_commands.specs.Commands.{bad_command, converts, session_of}
use Rattle.xfs_commands.proofs.Effects.{effect_as, refused}
use Rattle.xfs_commands.proofs.commands.convert_from.Goals as goal

pub returns-then-is_place : goal.returns-then-is_place
returns-then-is_place c =
    let s = session_of c.args.cursor.now in
    effect_as _ _ _ _ _ _ _
    (ap (λ (b : Bool). if b then converts (volume_of c.args.geometry.now) c.args.source c.args.word.now c.args.target s else bad_command c.args.name.now s)
    (sym (sym c.is_place.ensures ∙ c.if-is_place.true)))
    c.convert.ensures

pub returns-else-is_place : goal.returns-else-is_place
returns-else-is_place c =
    let s = session_of c.args.cursor.now in
    effect_as _ _ _ _ _ _ _
    (ap (λ (b : Bool). if b then converts (volume_of c.args.geometry.now) c.args.source c.args.word.now c.args.target s else bad_command c.args.name.now s)
    (sym (sym c.is_place.ensures ∙ c.if-is_place.false)))
    (refused _ _ _ _ _ c.refuse_word.ensures.verdict c.refuse_word.ensures.text)
