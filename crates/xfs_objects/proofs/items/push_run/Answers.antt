use Rattle.std.proofs.Common.{◌∙◌, List, map, IsTrue, ap, refl, subst, sym, append-nil}
use Rattle.std.proofs.lemmas.Bool.{le-leb}
use Rattle.std.proofs.lemmas.List.Elements.{All-push}
use Rattle.xfs_objects.proofs.Listing.{counted_more, in_run}
use Rattle.xfs_objects.specs.Items.{AllInside, is_inside, row_items, item_of}
use Rattle.xfs_objects.specs.declared.items.Item.{Item}
use Rattle.xfs_objects.proofs.items.push_run.Goals as goal

pub loop-i-preserved : goal.loop-i-preserved
unfolding row_items
loop-i-preserved c =
    record {
      items = ap (λ (xs : List Item). map item_of xs) c.in_ok-push.ensures.items ∙ counted_more item_of _ _ _ _ _ c.loop-i.invariant.items refl;
      inside =
          subst (λ (xs : List Item). AllInside c.args.size xs) (sym c.in_ok-push.ensures.items)
          (All-push (λ (i : Item). IsTrue (is_inside c.args.size (item_of i))) c.loop-i.items.items _ c.loop-i.invariant.inside
          (rw (le-leb _ _ (in_run _ _ _ _ _ _ c.loop-i-test.true c.requires.run c.requires.step)) c.requires.shown));
    }

pub loop-i-init : goal.loop-i-init
unfolding row_items
loop-i-init c = record { items = sym (append-nil (map item_of c.args.items.now.items)); inside = c.requires.inside }
