use Rattle.std.proofs.Common.{ℕ, Option, Some, sym, ap, ◌∙◌}
use Rattle.xfs_geom.specs.Volumes.{volume_of}
use Rattle.xfs_objects.specs.Places.{first_sector}
use Rattle.xfs_commands.specs.Commands.{follows, goes_to, session_of, target_block}
use Rattle.xfs_commands.proofs.Effects.{effect_as, refused}
use Rattle.xfs_commands.proofs.looks.go_along_kind.Goals as goal

pub returns-in-Some : goal.returns-in-Some
returns-in-Some c =
    record {
      within = c.go_along_pointer.ensures.within;
      effect =
          let place = c.args.place in
          effect_as _ _ _ _ _ _ _
          (ap (λ (n : ℕ). goes_to c.args.kind (first_sector (target_block (volume_of c.args.geometry.now) place.kind place.block n)) (session_of c.args.cursor.now)) c.field.ensures.value
          ∙ ap (λ (w : Option ℕ). follows (volume_of c.args.geometry.now) place c.args.object.now c.args.word.now c.args.item.now.offset (Some c.args.kind) w (session_of c.args.cursor.now))
          (sym (sym c.number_width.ensures.value ∙ c.in-Some.is)))
          c.go_along_pointer.ensures.effect;
    }

pub returns-in-None : goal.returns-in-None
returns-in-None c =
    record {
      within = c.requires.within;
      effect =
          effect_as _ _ _ _ _ _ _
          (ap (λ (w : Option ℕ). follows (volume_of c.args.geometry.now) c.args.place c.args.object.now c.args.word.now c.args.item.now.offset (Some c.args.kind) w (session_of c.args.cursor.now))
          (sym (sym c.number_width.ensures.value ∙ c.in-None.is)))
          (refused _ _ _ _ _ c.refuse_word.ensures.verdict c.refuse_word.ensures.text);
    }
