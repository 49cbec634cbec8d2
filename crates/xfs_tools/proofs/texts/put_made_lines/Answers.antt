use Rattle.std.proofs.Common.{Bool, ap}
use Rattle.xfs_texts.proofs.Telling.{puts_as, puts_then}
use Rattle.xfs_tools.specs.Generating.{made_lines}
use Rattle.xfs_tools.proofs.texts.put_made_lines.Goals as goal

pub returns-then-quiet : goal.returns-then-quiet
returns-then-quiet g c = puts_as _ _ _ _ _ _ _ (ap (λ (b : Bool). made_lines b c.args.made.now c.args.files) c.if-quiet.true) c.put_generated.ensures

pub returns : goal.returns
returns g c =
    puts_as _ _ _ _ _ _ _ (ap (λ (b : Bool). made_lines b c.args.made.now c.args.files) c.if-quiet.false)
    (puts_then _ _ _ _ _ _ _ _ _ _ c.in-Ok.ensures c.put_generated-2.ensures)
