use Rattle.std.proofs.Common.{Option, Some, sym, ap}
use Rattle.xfs_geom.specs.Volumes.{volume_of}
use Rattle.xfs_objects.specs.declared.convert.Measure.{Measure}
use Rattle.xfs_commands.specs.Commands.{session_of}
use Rattle.xfs_commands.specs.Verbs.{converts_named}
use Rattle.xfs_commands.proofs.Effects.{effect_as, refused}
use Rattle.xfs_commands.proofs.commands.convert_target.Goals as goal

pub returns-in-Some : goal.returns-in-Some
returns-in-Some c =
    effect_as _ _ _ _ _ _ _
    (ap (λ (m : Option Measure). converts_named (volume_of c.args.geometry.now) c.args.name.now (Some c.args.source) c.args.word.now m (session_of c.args.cursor.now)) (sym c.in-Some.is))
    c.convert_from.ensures

pub returns-in-None : goal.returns-in-None
returns-in-None c =
    effect_as _ _ _ _ _ _ _
    (ap (λ (m : Option Measure). converts_named (volume_of c.args.geometry.now) c.args.name.now (Some c.args.source) c.args.word.now m (session_of c.args.cursor.now)) (sym c.in-None.is))
    (refused _ _ _ _ _ c.refuse_word.ensures.verdict c.refuse_word.ensures.text)
