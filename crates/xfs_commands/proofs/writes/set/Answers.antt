use Rattle.std.proofs.Common.{ℕ, List, Option, sym, ap, ◌∙◌}
use Rattle.std.specs.Option.{option_map}
use Rattle.xfs_objects.specs.Items.{item_named, item_of}
use Rattle.xfs_objects.specs.Tables.{Item}
use Rattle.xfs_commands.specs.Commands.{session_of, sets, sets_item}
use Rattle.xfs_commands.proofs.Effects.{effect_put, refused_put}
use Rattle.xfs_commands.proofs.writes.set.Goals as goal

pub returns-in-Some : goal.returns-in-Some
unfolding sets
returns-in-Some c =
    effect_put _ _ _ _ _ _ _ _
    (ap (λ (o : Option Item). sets_item c.args.place c.args.block.now c.args.name.now c.args.value.now o (session_of c.args.cursor.now))
    (sym (ap (option_map item_of) c.in-Some.is) ∙ (c.in_ok-item.ensures.value ∙ ap (λ (bytes : List ℕ). item_named c.args.place.kind bytes c.args.name.now) c.object-object.ensures.value)))
    c.set_item.ensures

pub returns-in-None : goal.returns-in-None
unfolding sets
returns-in-None c =
    effect_put _ _ _ _ _ _ _ _
    (ap (λ (o : Option Item). sets_item c.args.place c.args.block.now c.args.name.now c.args.value.now o (session_of c.args.cursor.now))
    (sym (ap (option_map item_of) c.in-None.is) ∙ (c.in_ok-item.ensures.value ∙ ap (λ (bytes : List ℕ). item_named c.args.place.kind bytes c.args.name.now) c.object-object.ensures.value)))
    (refused_put _ _ _ _ _ _ _ c.refuse_word.ensures.verdict c.refuse_word.ensures.text)
