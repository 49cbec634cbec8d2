use Rattle.std.proofs.Common.{ℕ, ◌<◌, Option, sym, ap, ◌∙◌}
use Rattle.xfs_geom.specs.Volumes.{volume_of}
use Rattle.xfs_commands.specs.Commands.{goes_to, session_of, to_number, to_spot}
use Rattle.xfs_objects.specs.declared.convert.Spot.{Spot}
use Rattle.xfs_objects.specs.declared.numbers.Typed.{Typed}
use Rattle.xfs_commands.proofs.Effects.{both_of, effect_as, refused}
use Rattle.xfs_commands.proofs.moves.go_to_number.Goals as goal

pub returns-in-NoNumber : goal.returns-in-NoNumber
unfolding to_number
returns-in-NoNumber c =
    record {
      within = c.requires.within;
      effect =
          effect_as _ _ _ _ _ _ _
          (ap (λ (t : Typed). to_spot (volume_of c.args.geometry.now) c.args.measure c.args.kind t c.args.word.now (session_of c.args.cursor.now)) (sym (sym c.read_number.ensures ∙ c.in-NoNumber.is)))
          (refused _ _ _ _ _ c.refuse_word.ensures.verdict c.refuse_word.ensures.text);
    }

pub returns-in-TooLarge : goal.returns-in-TooLarge
unfolding to_number
returns-in-TooLarge c =
    record {
      within = c.requires.within;
      effect =
          effect_as _ _ _ _ _ _ _
          (ap (λ (t : Typed). to_spot (volume_of c.args.geometry.now) c.args.measure c.args.kind t c.args.word.now (session_of c.args.cursor.now)) (sym (sym c.read_number.ensures ∙ c.in-TooLarge.is)))
          (refused _ _ _ _ _ c.refuse.ensures.verdict c.refuse.ensures.text);
    }

pub returns-in-Number : goal.returns-in-Number
unfolding to_number
returns-in-Number c =
    record {
      within =
          c.go_to.ensures.within c.args.geometry.now.dblocks c.requires.within
          (both_of (λ (spot : Spot). spot.block < c.args.geometry.now.dblocks) (λ spot. spot.sector < 8) c.spot.result c.spot.ensures.inside c.spot.ensures.sector);
      effect =
          effect_as _ _ _ _ _ _ _
          (ap (λ (o : Option (ℕ × ℕ)). goes_to c.args.kind o (session_of c.args.cursor.now)) c.spot.ensures.value
          ∙ ap (λ (t : Typed). to_spot (volume_of c.args.geometry.now) c.args.measure c.args.kind t c.args.word.now (session_of c.args.cursor.now)) (sym (sym c.read_number.ensures ∙ c.in-Number.is)))
          c.go_to.ensures.effect;
    }
