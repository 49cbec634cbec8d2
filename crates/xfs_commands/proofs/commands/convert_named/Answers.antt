use Rattle.std.proofs.Common.{ℕ, List, Option, sym, ap, ◌∙◌}
use Rattle.xfs_geom.specs.Volumes.{volume_of}
use Rattle.xfs_objects.specs.Places.{measure_named}
use Rattle.xfs_objects.specs.declared.convert.Measure.{Measure}
use Rattle.xfs_commands.specs.Commands.{session_of}
use Rattle.xfs_commands.specs.Verbs.{converts_named, word_at}
use Rattle.xfs_commands.proofs.Effects.{effect_as}
use Rattle.xfs_commands.proofs.commands.convert_named.Goals as goal

pub returns : goal.returns
returns c =
    let v = volume_of c.args.geometry.now in
    let name = c.args.name.now in
    let s = session_of c.args.cursor.now in
    let args = c.args.arguments.now in
    let from = c.named.ensures ∙ ap (λ (w : List ℕ). measure_named w) c.word_at.ensures in
    let to = c.named-2.ensures ∙ ap (λ (w : List ℕ). measure_named w) c.word_at-3.ensures in
    effect_as _ _ _ _ _ _ _
    (ap (λ (m : Option Measure). converts_named v name m c.word_at-2.result.now c.named-2.result s) from
    ∙ ap (λ (w : List ℕ). converts_named v name (measure_named (word_at args 0)) w c.named-2.result s) c.word_at-2.ensures
    ∙ ap (λ (m : Option Measure). converts_named v name (measure_named (word_at args 0)) (word_at args 1) m s) to)
    c.convert_source.ensures
