use Rattle.std.proofs.Common.{◌≡◌, ℕ, ◌+◌, ◌<◌, ◌≤◌, List, [], ◌∷◌, ◌++◌, length, map, filter, drop, get_or, arith, sym, ap, ◌∙◌}
use Rattle.std.proofs.lemmas.List.{append-nil, drop_all}
use Rattle.std.proofs.lemmas.Option.{slice_get-get_or}
use Rattle.xfs_dirindex.specs.declared.pairs.Pair.{Pair}
use Rattle.xfs_dirindex.specs.Mapped.{Mapped, mapped_block, mapped, is_index_block}
use Rattle.xfs_dirindex.specs.IndexTree.{pair_of_place, index_places}
use Rattle.xfs_dirindex.proofs.Gathered.{mapped-step, length-mapped, gathered-step}
use Rattle.xfs_dirindex.proofs.Levels.{index-one, joins_index}
use Rattle.xfs_dirindex.proofs.index_tree.index_places.Goals as goal

pub loop-i-preserved : goal.loop-i-preserved
loop-i-preserved c =
    let ms : List Mapped = mapped c.args.dir.now.offsets.items c.args.dir.now.blocks in
    let b : List ℕ = get_or c.args.dir.now.blocks c.loop-i.i [] in
    let m : Mapped = mapped_block c.index.result.now b in
    let inside : c.loop-i.i < length c.args.dir.now.offsets.items = omega arith in
    let there : c.loop-i.i < length c.args.dir.now.blocks = omega arith in
    let step : drop c.loop-i.i ms ≡ m ∷ drop (c.loop-i.i + 1) ms =
    mapped-step c.args.dir.now.offsets.items c.args.dir.now.blocks c.loop-i.i c.index.result.now b inside c.index.ensures (slice_get-get_or c.args.dir.now.blocks c.loop-i.i [] there) in
    gathered-step (λ (xs : List Mapped). map (λ (n : Mapped). pair_of_place n.offset) (filter is_index_block xs)) joins_index (index_places ms)
    c.loop-i.places.items c.add_index_place.new.places.items ms c.loop-i.i m step
    (c.in_ok-add_index_place.ensures ∙ ap (λ (xs : List Pair). c.loop-i.places.items ++ xs) (index-one c.index.result.now b)) c.loop-i.invariant

pub returns : goal.returns
returns c =
    let ms : List Mapped = mapped c.args.dir.now.offsets.items c.args.dir.now.blocks in
    let long : length ms ≤ c.loop-i.i = omega (arith, length-mapped c.args.dir.now.offsets.items c.args.dir.now.blocks c.requires) in
    sym (append-nil c.loop-i.places.items)
    ∙ (ap (λ (xs : List Mapped). c.loop-i.places.items ++ map (λ (n : Mapped). pair_of_place n.offset) (filter is_index_block xs)) (sym (drop_all c.loop-i.i ms long)) ∙ c.loop-i.invariant)
