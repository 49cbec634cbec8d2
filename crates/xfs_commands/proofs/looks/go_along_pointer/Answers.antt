use Rattle.std.proofs.Common.{ℕ, Option, ap}
use Rattle.xfs_commands.specs.Commands.{goes_to, session_of}
use Rattle.xfs_commands.proofs.Effects.{effect_as}
use Rattle.xfs_commands.proofs.looks.go_along_pointer.Goals as goal

pub returns : goal.returns
returns c =
    record {
      within = c.go_to.ensures.within c.args.geometry.now.dblocks c.requires.within c.target.ensures.inside;
      effect =
          effect_as _ _ _ _ _ _ _ (ap (λ (o : Option (ℕ × ℕ)). goes_to c.args.kind o (session_of c.args.cursor.now)) c.target.ensures.value)
          c.go_to.ensures.effect;
    }
