use Rattle.std.proofs.Common.{◌≡◌, ◌+◌, ◌<◌, ◌≤◌, List, ◌∷◌, length, drop, arith, sym, ap, ◌∙◌}
use Rattle.std.specs.List.{list_all}
use Rattle.std.proofs.lemmas.List.{drop_all}
use Rattle.xfs_dirindex.specs.Mapped.{Mapped, mapped_block, mapped}
use Rattle.xfs_dirindex.specs.FreeBlocks.{is_free_sound}
use Rattle.xfs_dirindex.proofs.Gathered.{mapped-step, length-mapped}
use Rattle.xfs_dirindex.proofs.Levels.{all-step, all-stop}
use Rattle.xfs_dirindex.proofs.free_blocks.are_sound.Goals as goal

pub returns-then-not-is_free_sound : goal.returns-then-not-is_free_sound
returns-then-not-is_free_sound c =
    let ms : List Mapped = mapped c.args.dir.now.offsets.items c.args.dir.now.blocks in
    let m : Mapped = mapped_block c.index.result.now c.view.result.now in
    let inside : c.loop-i.i < length c.args.dir.now.offsets.items = omega arith in
    let step : drop c.loop-i.i ms ≡ m ∷ drop (c.loop-i.i + 1) ms =
    mapped-step c.args.dir.now.offsets.items c.args.dir.now.blocks c.loop-i.i c.index.result.now c.view.result.now inside c.index.ensures c.view.ensures.block in
    all-stop (is_free_sound c.args.bests.now) ms c.loop-i.i m (list_all (is_free_sound c.args.bests.now) ms) step (sym c.is_free_sound.ensures ∙ c.if-not-is_free_sound.true) c.loop-i.invariant

pub loop-i-preserved : goal.loop-i-preserved
loop-i-preserved c =
    let ms : List Mapped = mapped c.args.dir.now.offsets.items c.args.dir.now.blocks in
    let m : Mapped = mapped_block c.index.result.now c.view.result.now in
    let inside : c.loop-i.i < length c.args.dir.now.offsets.items = omega arith in
    let step : drop c.loop-i.i ms ≡ m ∷ drop (c.loop-i.i + 1) ms =
    mapped-step c.args.dir.now.offsets.items c.args.dir.now.blocks c.loop-i.i c.index.result.now c.view.result.now inside c.index.ensures c.view.ensures.block in
    all-step (is_free_sound c.args.bests.now) ms c.loop-i.i m (list_all (is_free_sound c.args.bests.now) ms) step (sym c.is_free_sound.ensures ∙ c.if-not-is_free_sound.false) c.loop-i.invariant

pub returns : goal.returns
returns c =
    let ms : List Mapped = mapped c.args.dir.now.offsets.items c.args.dir.now.blocks in
    let long : length ms ≤ c.loop-i.i = omega (arith, length-mapped c.args.dir.now.offsets.items c.args.dir.now.blocks c.requires.mapped) in
    sym (c.loop-i.invariant ∙ ap (list_all (is_free_sound c.args.bests.now)) (drop_all c.loop-i.i ms long))
