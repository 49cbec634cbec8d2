use Rattle.std.proofs.lemmas.Result.{IfOk-from_err}
use Rattle.std.proofs.Common.{◌≡◌, suc, ◌-◌, true, false, List, ◌++◌, arith, sym, ap, subst, ◌∙◌}
use Rattle.xfs_dirindex.specs.declared.pairs.Pair.{Pair}
use Rattle.xfs_dirindex.specs.Mapped.{Mapped, mapped}
use Rattle.xfs_dirindex.specs.IndexTree.{are_members, are_levels, pairs_below, pairs_of_places, index_tree_places, leaf_pairs, index_tree_all_places, all_leaf_pairs}
use Rattle.xfs_dirindex.proofs.Levels.{levels-step, places-step, pairs-step}
use Rattle.xfs_dirindex.proofs.index_tree.read_index_tree.Goals as goal

pub loop-level-preserved : goal.loop-level-preserved
loop-level-preserved c =
    let ms : List Mapped = mapped c.args.dir.now.offsets.items c.args.dir.now.blocks in
    let next : suc (c.loop-level.level - 1) ≡ c.loop-level.level = omega arith in
    let members : are_members ms c.loop-level.root c.loop-level.level 0 c.loop-level.links.items ≡ true =
    subst (λ (xs : List Pair). are_members ms c.loop-level.root c.loop-level.level 0 xs ≡ true) c.deref.ensures.value c.in-Ok.ensures.sound in
    let made : c.in-Ok.below.items ≡ pairs_below ms c.loop-level.links.items =
    subst (λ (xs : List Pair). c.in-Ok.below.items ≡ pairs_below ms xs) c.deref.ensures.value c.in-Ok.ensures.pairs in
    let added : c.take_level.new.places.items ≡ c.loop-level.places.items ++ pairs_of_places c.loop-level.links.items =
    subst (λ (xs : List Pair). c.take_level.new.places.items ≡ c.loop-level.places.items ++ pairs_of_places xs) c.deref.ensures.value c.in-Ok.ensures.places in
    record {
      sound = c.loop-level.invariant.sound
          ∙ (levels-step ms c.loop-level.root c.loop-level.level (c.loop-level.level - 1) c.loop-level.links.items next members
          ∙ ap (λ (xs : List Pair). are_levels ms false (c.loop-level.level - 1) xs) (sym made));
      places = ap (λ (xs : List Pair). c.take_level.new.places.items ++ index_tree_places ms (c.loop-level.level - 1) xs) made
          ∙ places-step ms c.loop-level.level (c.loop-level.level - 1) c.loop-level.links.items c.loop-level.places.items c.take_level.new.places.items (index_tree_all_places ms) next added
          c.loop-level.invariant.places;
      pairs = ap (λ (xs : List Pair). leaf_pairs ms (c.loop-level.level - 1) xs) made
          ∙ pairs-step ms c.loop-level.level (c.loop-level.level - 1) c.loop-level.links.items (all_leaf_pairs ms) next c.loop-level.invariant.pairs;
    }

pub returns-in_err-links-clause-sound : goal.returns-in_err-links-clause-sound
returns-in_err-links-clause-sound c = IfOk-from_err c.from_residual.result _ c.from_residual.ensures.0

pub returns-in_err-links-clause-places : goal.returns-in_err-links-clause-places
returns-in_err-links-clause-places c = IfOk-from_err c.from_residual.result _ c.from_residual.ensures.0

pub returns-in_err-links-clause-pairs : goal.returns-in_err-links-clause-pairs
returns-in_err-links-clause-pairs c = IfOk-from_err c.from_residual.result _ c.from_residual.ensures.0

pub returns-in-Err-clause-sound : goal.returns-in-Err-clause-sound
returns-in-Err-clause-sound c = tt

pub returns-in-Err-clause-places : goal.returns-in-Err-clause-places
returns-in-Err-clause-places c = tt

pub returns-in-Err-clause-pairs : goal.returns-in-Err-clause-pairs
returns-in-Err-clause-pairs c = tt

pub returns-in-Err-take_level-clause-sound : goal.returns-in-Err-take_level-clause-sound
returns-in-Err-take_level-clause-sound c = tt

pub returns-in-Err-take_level-clause-places : goal.returns-in-Err-take_level-clause-places
returns-in-Err-take_level-clause-places c = tt

pub returns-in-Err-take_level-clause-pairs : goal.returns-in-Err-take_level-clause-pairs
returns-in-Err-take_level-clause-pairs c = tt

pub index_level-level-requires-clause-mapped : goal.index_level-level-requires-clause-mapped
index_level-level-requires-clause-mapped c = c.requires.mapped

pub index_level-level-requires-clause-ascending : goal.index_level-level-requires-clause-ascending
index_level-level-requires-clause-ascending c = c.requires.ascending

pub take_level-requires-clause-mapped : goal.take_level-requires-clause-mapped
take_level-requires-clause-mapped c = c.requires.mapped

pub take_level-requires-clause-ascending : goal.take_level-requires-clause-ascending
take_level-requires-clause-ascending c = c.requires.ascending

pub take_level-requires-2-clause-mapped : goal.take_level-requires-2-clause-mapped
take_level-requires-2-clause-mapped c = c.requires.mapped

pub take_level-requires-2-clause-ascending : goal.take_level-requires-2-clause-ascending
take_level-requires-2-clause-ascending c = c.requires.ascending
