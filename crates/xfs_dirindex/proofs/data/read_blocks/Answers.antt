use Rattle.std.proofs.Common.{◌≡◌, ◌++◌, [], ◌∷◌, List, map, filter, false, refl, sym, ap, ◌∙◌, drop, ◌+◌, ◌<◌, ◌≤◌, arith, length}
use Rattle.std.specs.List.{flat_map, list_all}
use Rattle.std.proofs.lemmas.List.{append-nil, drop_all}
use Rattle.xfs_dirindex.specs.declared.pairs.Pair.{Pair}
use Rattle.xfs_dirindex.specs.declared.data.Best.{Best}
use Rattle.xfs_dirindex.specs.Mapped.{Mapped, mapped_block, mapped, is_data}
use Rattle.xfs_dirindex.specs.Data.{is_later, are_data, pairs_in, all_pairs, best_in, all_bests}
use Rattle.xfs_dirindex.proofs.Gathered.{mapped-step, length-mapped, gathered-step, joins_pairs, joins_bests, on_unsound, sound-first, sound-later, unsound-later, first-data, only-pairs, only-best}
use Rattle.xfs_dirindex.proofs.data.read_blocks.Goals as goal

pub loop-i-init : goal.loop-i-init
unfolding all_pairs all_bests
loop-i-init c =
    let dir = c.args.dir.now.dir in
    let ms : List Mapped = mapped c.args.dir.now.offsets.items c.args.dir.now.blocks in
    let m : Mapped = mapped_block c.index.result.now c.view-first.result.now in
    let some : 0 < length c.args.dir.now.offsets.items = omega arith in
    let step : ms ≡ m ∷ drop 1 ms = mapped-step c.args.dir.now.offsets.items c.args.dir.now.blocks 0 c.index.result.now c.view-first.result.now some c.index.ensures c.view-first.ensures.block in
    let kind = first-data dir m c.in-Ok.ensures.sound in
    record {
      sound = sound-first dir ms m step c.in-Ok.ensures.sound;
      due = gathered-step (λ (xs : List Mapped). flat_map (pairs_in dir false) (filter is_data xs)) (joins_pairs dir) (all_pairs dir ms) [] c.take_first.new.taken.due.items ms 0 m step
          (c.in-Ok.ensures.due ∙ ap (λ (xs : List Pair). xs ++ pairs_in dir false m) c.new-taken.ensures.due ∙ sym (only-pairs dir m kind)) refl;
      bests = gathered-step (λ (xs : List Mapped). map (best_in dir false) (filter is_data xs)) (joins_bests dir) (all_bests dir ms) [] c.take_first.new.taken.bests.items ms 0 m step
          (c.in-Ok.ensures.bests ∙ ap (λ (xs : List Best). xs ++ best_in dir false m ∷ []) c.new-taken.ensures.bests ∙ sym (only-best dir m kind)) refl;
    }

pub loop-i-preserved : goal.loop-i-preserved
loop-i-preserved c =
    let dir = c.args.dir.now.dir in
    let ms : List Mapped = mapped c.args.dir.now.offsets.items c.args.dir.now.blocks in
    let m : Mapped = mapped_block c.index-in-loop-i.result.now c.view-block.result.now in
    let inside : c.loop-i.i < length c.args.dir.now.offsets.items = omega arith in
    let step : drop c.loop-i.i ms ≡ m ∷ drop (c.loop-i.i + 1) ms =
    mapped-step c.args.dir.now.offsets.items c.args.dir.now.blocks c.loop-i.i c.index-in-loop-i.result.now c.view-block.result.now inside c.index-in-loop-i.ensures c.view-block.ensures.block in
    record {
      sound = sound-later dir ms c.loop-i.i m (are_data dir ms) step c.in-Ok-take_later.ensures.sound c.loop-i.invariant.sound;
      due = gathered-step (λ (xs : List Mapped). flat_map (pairs_in dir false) (filter is_data xs)) (joins_pairs dir) (all_pairs dir ms) c.loop-i.taken.due.items c.take_later.new.taken.due.items ms c.loop-i.i m step
          c.in-Ok-take_later.ensures.due c.loop-i.invariant.due;
      bests = gathered-step (λ (xs : List Mapped). map (best_in dir false) (filter is_data xs)) (joins_bests dir) (all_bests dir ms) c.loop-i.taken.bests.items c.take_later.new.taken.bests.items ms c.loop-i.i m step
          c.in-Ok-take_later.ensures.bests c.loop-i.invariant.bests;
    }

pub returns-clause-sound : goal.returns-clause-sound
returns-clause-sound c =
    let ms : List Mapped = mapped c.args.dir.now.offsets.items c.args.dir.now.blocks in
    let long : length ms ≤ c.loop-i.i = omega (arith, length-mapped c.args.dir.now.offsets.items c.args.dir.now.blocks c.requires.mapped) in
    c.loop-i.invariant.sound ∙ ap (list_all (is_later c.args.dir.now.dir)) (drop_all c.loop-i.i ms long)

pub returns-clause-due : goal.returns-clause-due
returns-clause-due c =
    let dir = c.args.dir.now.dir in
    let ms : List Mapped = mapped c.args.dir.now.offsets.items c.args.dir.now.blocks in
    let long : length ms ≤ c.loop-i.i = omega (arith, length-mapped c.args.dir.now.offsets.items c.args.dir.now.blocks c.requires.mapped) in
    sym (append-nil c.loop-i.taken.due.items)
    ∙ (ap (λ (xs : List Mapped). c.loop-i.taken.due.items ++ flat_map (pairs_in dir false) (filter is_data xs)) (sym (drop_all c.loop-i.i ms long)) ∙ c.loop-i.invariant.due)

pub returns-clause-bests : goal.returns-clause-bests
returns-clause-bests c =
    let dir = c.args.dir.now.dir in
    let ms : List Mapped = mapped c.args.dir.now.offsets.items c.args.dir.now.blocks in
    let long : length ms ≤ c.loop-i.i = omega (arith, length-mapped c.args.dir.now.offsets.items c.args.dir.now.blocks c.requires.mapped) in
    sym (append-nil c.loop-i.taken.bests.items)
    ∙ (ap (λ (xs : List Mapped). c.loop-i.taken.bests.items ++ map (best_in dir false) (filter is_data xs)) (sym (drop_all c.loop-i.i ms long)) ∙ c.loop-i.invariant.bests)

pub returns-in-Err-take_later-clause-unsound : goal.returns-in-Err-take_later-clause-unsound
returns-in-Err-take_later-clause-unsound c =
    let dir = c.args.dir.now.dir in
    let ms : List Mapped = mapped c.args.dir.now.offsets.items c.args.dir.now.blocks in
    let m : Mapped = mapped_block c.index-in-loop-i.result.now c.view-block.result.now in
    let inside : c.loop-i.i < length c.args.dir.now.offsets.items = omega arith in
    let step : drop c.loop-i.i ms ≡ m ∷ drop (c.loop-i.i + 1) ms =
    mapped-step c.args.dir.now.offsets.items c.args.dir.now.blocks c.loop-i.i c.index-in-loop-i.result.now c.view-block.result.now inside c.index-in-loop-i.ensures c.view-block.ensures.block in
    on_unsound c.in-Err-take_later.fault (unsound-later dir ms c.loop-i.i m (are_data dir ms) step c.loop-i.invariant.sound) c.in-Err-take_later.ensures.unsound
