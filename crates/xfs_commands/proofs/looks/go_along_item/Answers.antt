use Rattle.std.proofs.Common.{Option, sym, ap, ◌∙◌}
use Rattle.xfs_geom.specs.Volumes.{volume_of}
use Rattle.xfs_objects.specs.Items.{number_width}
use Rattle.xfs_objects.specs.declared.objects.ObjectType.{ObjectType}
use Rattle.xfs_commands.specs.Commands.{follows, session_of}
use Rattle.xfs_commands.proofs.Effects.{effect_as, refused}
use Rattle.xfs_commands.proofs.looks.go_along_item.Goals as goal

pub returns-in-Some : goal.returns-in-Some
returns-in-Some c =
    record {
      within = c.go_along_kind.ensures.within;
      effect =
          let item = c.args.item.now in
          effect_as _ _ _ _ _ _ _
          (ap (λ (k : Option ObjectType). follows (volume_of c.args.geometry.now) c.args.place c.args.object.now c.args.word.now item.offset k (number_width item.shape) (session_of c.args.cursor.now))
          (sym (sym c.target_type.ensures ∙ c.in-Some.is)))
          c.go_along_kind.ensures.effect;
    }

pub returns-in-None : goal.returns-in-None
returns-in-None c =
    record {
      within = c.requires.within;
      effect =
          let item = c.args.item.now in
          effect_as _ _ _ _ _ _ _
          (ap (λ (k : Option ObjectType). follows (volume_of c.args.geometry.now) c.args.place c.args.object.now c.args.word.now item.offset k (number_width item.shape) (session_of c.args.cursor.now))
          (sym (sym c.target_type.ensures ∙ c.in-None.is)))
          (refused _ _ _ _ _ c.refuse_word.ensures.verdict c.refuse_word.ensures.text);
    }
