use Rattle.std.proofs.Common.{Option, sym, ap, ◌∙◌}
use Rattle.std.specs.Option.{option_map}
use Rattle.xfs_geom.specs.Volumes.{volume_of}
use Rattle.xfs_objects.specs.Items.{item_of}
use Rattle.xfs_objects.specs.Tables.{Item}
use Rattle.xfs_commands.specs.Commands.{addresses, follows_item, session_of}
use Rattle.xfs_commands.proofs.Effects.{effect_as, refused}
use Rattle.xfs_commands.proofs.looks.go_along.Goals as goal

pub returns-in-Some : goal.returns-in-Some
unfolding addresses
returns-in-Some c =
    record {
      within = c.go_along_item.ensures.within;
      effect =
          effect_as _ _ _ _ _ _ _
          (ap (λ (o : Option Item). follows_item (volume_of c.args.geometry.now) c.args.place c.args.object.now c.args.word.now o (session_of c.args.cursor.now)) (sym (ap (option_map item_of) c.in-Some.is) ∙ c.in_ok-item.ensures.value))
          c.go_along_item.ensures.effect;
    }

pub returns-in-None : goal.returns-in-None
unfolding addresses
returns-in-None c =
    record {
      within = c.requires.within;
      effect =
          effect_as _ _ _ _ _ _ _
          (ap (λ (o : Option Item). follows_item (volume_of c.args.geometry.now) c.args.place c.args.object.now c.args.word.now o (session_of c.args.cursor.now)) (sym (ap (option_map item_of) c.in-None.is) ∙ c.in_ok-item.ensures.value))
          (refused _ _ _ _ _ c.refuse_word.ensures.verdict c.refuse_word.ensures.text);
    }
