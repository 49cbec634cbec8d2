use Rattle.std.proofs.Common.{List, ◌++◌, ◌∷◌, [], get_or, refl, ap, ◌∙◌}
use Rattle.std.proofs.lemmas.Result.{IfOk-from_err}
use Rattle.xfs_dirindex.specs.declared.pairs.Pair.{Pair}
use Rattle.xfs_dirindex.specs.IndexTree.{pair_of_place}
use Rattle.xfs_dirindex.proofs.Taken.{mapped_end, mapped_next}
use Rattle.xfs_dirindex.proofs.index_tree.add_places.Goals as goal

abbrev no_pair : Pair
no_pair = record { hash = 0; address = 0 }

pub loop-link-init : goal.loop-link-init
loop-link-init c = refl

pub loop-link-preserved : goal.loop-link-preserved
loop-link-preserved c =
    mapped_next (λ (link : Pair). pair_of_place link.address) c.args.links.now c.loop-link.link-index no_pair c.loop-link.places.items c.push.new.self.items _ c.loop-link-test.true
    (c.in_ok-push.ensures.items ∙ ap (λ (p : Pair). c.loop-link.places.items ++ p ∷ []) c.pair_of_place.ensures) c.loop-link.invariant

pub returns : goal.returns
returns c = mapped_end (λ (link : Pair). pair_of_place link.address) c.args.links.now c.loop-link.link-index c.loop-link.places.items _ c.loop-link-test.false c.loop-link.invariant
