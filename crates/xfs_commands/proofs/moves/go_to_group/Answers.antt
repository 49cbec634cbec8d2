use Rattle.std.proofs.Common.{ℕ, Option, sym, ap, ◌∙◌}
use Rattle.xfs_geom.specs.Volumes.{volume_of}
use Rattle.xfs_commands.specs.Commands.{at_group, session_of, to_group}
use Rattle.xfs_objects.specs.declared.numbers.Typed.{Typed}
use Rattle.xfs_commands.proofs.Effects.{effect_as, refused}
use Rattle.xfs_commands.proofs.moves.go_to_group.Goals as goal

pub returns-in-Number : goal.returns-in-Number
returns-in-Number c =
    record {
      within = c.go_to_start.ensures.within c.args.geometry.now.dblocks c.requires.within c.group_start.ensures.inside;
      effect =
          effect_as _ _ _ _ _ _ _
          (ap (λ (o : Option ℕ). at_group c.args.kind c.args.sector o c.args.word.now (session_of c.args.cursor.now)) c.group_start.ensures.value
          ∙ ap (λ (t : Typed). to_group (volume_of c.args.geometry.now) c.args.kind c.args.sector t c.args.word.now (session_of c.args.cursor.now)) (sym (sym c.read_number.ensures ∙ c.in-Number.is)))
          c.go_to_start.ensures.effect;
    }

pub returns-in-NoNumber : goal.returns-in-NoNumber
returns-in-NoNumber c =
    record {
      within = c.requires.within;
      effect =
          effect_as _ _ _ _ _ _ _
          (ap (λ (t : Typed). to_group (volume_of c.args.geometry.now) c.args.kind c.args.sector t c.args.word.now (session_of c.args.cursor.now)) (sym (sym c.read_number.ensures ∙ c.in-NoNumber.is)))
          (refused _ _ _ _ _ c.refuse_word.ensures.verdict c.refuse_word.ensures.text);
    }

pub returns-in-TooLarge : goal.returns-in-TooLarge
returns-in-TooLarge c =
    record {
      within = c.requires.within;
      effect =
          effect_as _ _ _ _ _ _ _
          (ap (λ (t : Typed). to_group (volume_of c.args.geometry.now) c.args.kind c.args.sector t c.args.word.now (session_of c.args.cursor.now)) (sym (sym c.read_number.ensures ∙ c.in-TooLarge.is)))
          (refused _ _ _ _ _ c.refuse_word-in-TooLarge.ensures.verdict c.refuse_word-in-TooLarge.ensures.text);
    }
