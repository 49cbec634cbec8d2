use Rattle.std.proofs.Common.{◌≡◌, ℕ, ◌+◌, ◌-◌, ◌<◌, ◌≤◌, lit≤, List, [], ◌∷◌, ◌++◌, take, drop, length, map, Option, Some, refl, sym, ◌∙◌, ap, arith, subst}
use Rattle.std.proofs.lemmas.List.{take_rest, take_all, drop_all, append-nil}
use Rattle.xfs_dirdata.specs.Written.{first_entries, placed_entries, offsets, data_length, IsWritableEntry}
use Rattle.xfs_dirindex.specs.declared.pairs.Pair.{Pair}
use Rattle.xfs_dirindex.specs.Data.{due_pairs}
use Rattle.xfs_dirbuild.specs.Filling.{filled_shares, all_entries, pairs_from, rest_in}
use Rattle.xfs_dirbuild.specs.Blocks.{data_block, bank_part}
use Rattle.xfs_dirbuild.proofs.Filled.{later, filled-some, filled-front, next-share}
use Rattle.xfs_dirbuild.proofs.FillSteps.{left-on, room-on, pairs-on, rests-on, blocks-on, bytes-on, all-done, next-block}
use Rattle.std.proofs.lemmas.Result.{IfOk-from_err}
use Rattle.std.specs.List.{All}
use Rattle.std.proofs.lemmas.List.Elements.{All-nil, All-take, All-drop}
use Rattle.xfs_dirdata.specs.declared.records.EntryRec.{EntryRec}
use Rattle.xfs_dirbuild.specs.Index.{IsPointer}
use Rattle.xfs_dirbuild.proofs.filling.fill_blocks.Goals as goal

pub fill_block-requires-clause-inside : goal.fill_block-requires-clause-inside
fill_block-requires-clause-inside c =
    omega (arith, filled-some 64 (all_entries c.args.dir c.args.parent c.args.entries.now), c.requires.room)

pub loop-start-init : goal.loop-start-init
loop-start-init c =
    let es = c.args.entries.now in
    let ss = filled_shares c.args.dir c.args.parent es in
    let taken = c.in_ok-start.start in
    let first : Option (ℕ × ℕ) = Some (c.args.dir, c.args.parent) in
    let x = placed_entries first es taken in
    let rest = later (drop taken es) in
    let at : drop 0 ss ≡ x ∷ rest =
    filled-front 64 (first_entries first) es taken c.requires.writable c.in_ok-start.ensures.within c.in_ok-start.ensures.fits c.in_ok-start.ensures.longest in
    let room = room-on ss 0 x rest at in
    let pairs : c.fill_block.new.stated.pairs.items ≡ [] ++ due_pairs 0 x (offsets 64 x) =
    c.in_ok-start.ensures.pairs ∙ ap (λ (ps : List Pair). ps ++ due_pairs 0 x (offsets 64 x)) c.new.ensures.items in
    let rests : c.fill_block.new.stated.rests.items ≡ [] ++ rest_in x ∷ [] =
    c.in_ok-start.ensures.rests ∙ ap (λ (ns : List ℕ). ns ++ rest_in x ∷ []) c.new-2.ensures.items in
    record {
      within = c.in_ok-start.ensures.within;
      left = left-on ss 0 x rest at;
      number_in = room;
      pairs = pairs-on ss 0 x rest [] c.fill_block.new.stated.pairs.items (pairs_from 0 ss) at pairs refl;
      added = c.in_ok-start.ensures.added ∙ omega (arith, ap length c.new.ensures.items);
      sound = c.in_ok-start.ensures.sound;
      rests = rests-on ss 0 x rest [] c.fill_block.new.stated.rests.items at rests refl;
      blocks_are = blocks-on ss 0 x rest c.args.blocks.now c.fill_block.new.blocks at (λ k none. absurd (omega arith)) (λ k none. absurd (omega arith)) c.in_ok-start.ensures.block;
      bytes_are = bytes-on ss 0 x rest c.args.blocks.now c.fill_block.new.blocks at c.in_ok-start.ensures.count (omega (arith, room, c.requires.room))
          (λ k none. absurd (omega arith)) c.in_ok-start.ensures.bytes refl;
      count = c.in_ok-start.ensures.count;
    }

pub fill_block-requires-in-loop-start-clause-inside : goal.fill_block-requires-in-loop-start-clause-inside
fill_block-requires-in-loop-start-clause-inside c =
    let ss = filled_shares c.args.dir c.args.parent c.args.entries.now in
    let more = next-block ss c.loop-start.number c.loop-start.start c.args.entries.now c.loop-start.invariant.left c.loop-start-test.true in
    omega (arith, more, c.requires.room, c.loop-start.invariant.count)

pub fill_block-requires-in-loop-start-clause-low : goal.fill_block-requires-in-loop-start-clause-low
fill_block-requires-in-loop-start-clause-low c =
    let ss = filled_shares c.args.dir c.args.parent c.args.entries.now in
    let more = next-block ss c.loop-start.number c.loop-start.start c.args.entries.now c.loop-start.invariant.left c.loop-start-test.true in
    omega (arith, more, c.requires.low)

pub loop-start-preserved : goal.loop-start-preserved
loop-start-preserved c =
    let es = c.args.entries.now in
    let ss = filled_shares c.args.dir c.args.parent es in
    let start = c.loop-start.start in
    let n = c.loop-start.number in
    let taken = c.in_ok-taken.taken in
    let part = take (length es - start) (drop start es) in
    let x = take taken part in
    let rest = later (drop (start + taken) es) in
    let next = next-share es part start taken (take_rest es start) c.requires.writable c.loop-start-test.true c.in_ok-taken.ensures.within c.in_ok-taken.ensures.fits c.in_ok-taken.ensures.longest in
    let at : drop n ss ≡ x ∷ rest = c.loop-start.invariant.left ∙ next.0 in
    record {
      within = next.2;
      left = left-on ss n x rest at;
      number_in = room-on ss n x rest at;
      pairs = pairs-on ss n x rest c.loop-start.stated.pairs.items c.fill_block-in-loop-start.new.stated.pairs.items (pairs_from 0 ss) at c.in_ok-taken.ensures.pairs c.loop-start.invariant.pairs;
      added = c.in_ok-taken.ensures.added ∙ omega (arith, c.loop-start.invariant.added);
      sound = c.in_ok-taken.ensures.sound;
      rests = rests-on ss n x rest c.loop-start.stated.rests.items c.fill_block-in-loop-start.new.stated.rests.items at c.in_ok-taken.ensures.rests c.loop-start.invariant.rests;
      blocks_are = blocks-on ss n x rest c.loop-start.blocks c.fill_block-in-loop-start.new.blocks at c.loop-start.invariant.blocks_are c.in_ok-taken.ensures.others c.in_ok-taken.ensures.block;
      bytes_are = bytes-on ss n x rest c.loop-start.blocks c.fill_block-in-loop-start.new.blocks at c.in_ok-taken.ensures.count
          (omega (arith, room-on ss n x rest at, c.requires.room, c.loop-start.invariant.count))
          c.in_ok-taken.ensures.others c.in_ok-taken.ensures.bytes c.loop-start.invariant.bytes_are;
      count = c.in_ok-taken.ensures.count ∙ c.loop-start.invariant.count;
    }

pub loop-start-smaller : goal.loop-start-smaller
loop-start-smaller c =
    let es = c.args.entries.now in
    let start = c.loop-start.start in
    let part = take (length es - start) (drop start es) in
    let next = next-share es part start c.in_ok-taken.taken (take_rest es start) c.requires.writable c.loop-start-test.true c.in_ok-taken.ensures.within c.in_ok-taken.ensures.fits c.in_ok-taken.ensures.longest in
    let less : length es - (start + c.in_ok-taken.taken) < length es - start = omega (arith, next.1, next.2, c.loop-start-test.true) in
    less

pub returns-clause-rests : goal.returns-clause-rests
returns-clause-rests c =
    let ss = filled_shares c.args.dir c.args.parent c.args.entries.now in
    let end = all-done ss c.loop-start.number c.loop-start.start c.args.entries.now c.loop-start.invariant.left c.loop-start-test.false c.loop-start.invariant.number_in in
    c.loop-start.invariant.rests ∙ ap (map rest_in) (take_all c.loop-start.number ss (omega (arith, end)))

pub returns-clause-blocks : goal.returns-clause-blocks
returns-clause-blocks c =
    let ss = filled_shares c.args.dir c.args.parent c.args.entries.now in
    let end = all-done ss c.loop-start.number c.loop-start.start c.args.entries.now c.loop-start.invariant.left c.loop-start-test.false c.loop-start.invariant.number_in in
    λ k inside. c.loop-start.invariant.blocks_are k (omega (arith, end))

pub returns-clause-bytes : goal.returns-clause-bytes
returns-clause-bytes c =
    let ss = filled_shares c.args.dir c.args.parent c.args.entries.now in
    let end = all-done ss c.loop-start.number c.loop-start.start c.args.entries.now c.loop-start.invariant.left c.loop-start-test.false c.loop-start.invariant.number_in in
    ap (bank_part c.loop-start.blocks 0) (sym end)
    ∙ (c.loop-start.invariant.bytes_are ∙ ap (map data_block) (take_all c.loop-start.number ss (omega (arith, end))))

pub fill_block-requires-clause-writable : goal.fill_block-requires-clause-writable
fill_block-requires-clause-writable c = c.requires.writable

pub fill_block-requires-clause-first : goal.fill_block-requires-clause-first
fill_block-requires-clause-first c = (c.requires.dir, c.requires.parent)

pub fill_block-requires-clause-long : goal.fill_block-requires-clause-long
fill_block-requires-clause-long c =
    let small : data_length (first_entries (Some (c.args.dir, c.args.parent))) ≤ 32 = lit≤ tt in
    small

pub fill_block-requires-clause-low : goal.fill_block-requires-clause-low
fill_block-requires-clause-low c = omega arith

pub fill_block-requires-clause-sound : goal.fill_block-requires-clause-sound
fill_block-requires-clause-sound c = subst (λ (ps : List Pair). All IsPointer ps) (sym c.new.ensures.items) (All-nil IsPointer)

pub returns-in_err-start : goal.returns-in_err-start
returns-in_err-start c = record {
  pairs = IfOk-from_err c.from_residual.result _ c.from_residual.ensures.0;
  sound = IfOk-from_err c.from_residual.result _ c.from_residual.ensures.0;
  added = IfOk-from_err c.from_residual.result _ c.from_residual.ensures.0;
  rests = IfOk-from_err c.from_residual.result _ c.from_residual.ensures.0;
  blocks = IfOk-from_err c.from_residual.result _ c.from_residual.ensures.0;
  bytes = IfOk-from_err c.from_residual.result _ c.from_residual.ensures.0;
  count = c.fill_block.ensures.count;
}

pub fill_block-requires-in-loop-start-clause-writable : goal.fill_block-requires-in-loop-start-clause-writable
fill_block-requires-in-loop-start-clause-writable c =
    let es = c.args.entries.now in
    All-take IsWritableEntry (length es - c.loop-start.start) _ (All-drop IsWritableEntry c.loop-start.start es c.requires.writable)

pub fill_block-requires-in-loop-start-clause-first : goal.fill_block-requires-in-loop-start-clause-first
fill_block-requires-in-loop-start-clause-first c = tt

pub fill_block-requires-in-loop-start-clause-long : goal.fill_block-requires-in-loop-start-clause-long
fill_block-requires-in-loop-start-clause-long c =
    let small : 0 ≤ 32 = lit≤ tt in
    small

pub fill_block-requires-in-loop-start-clause-sound : goal.fill_block-requires-in-loop-start-clause-sound
fill_block-requires-in-loop-start-clause-sound c = c.loop-start.invariant.sound

pub returns-in_err-taken : goal.returns-in_err-taken
returns-in_err-taken c = record {
  pairs = IfOk-from_err c.from_residual-in_err-taken.result _ c.from_residual-in_err-taken.ensures.0;
  sound = IfOk-from_err c.from_residual-in_err-taken.result _ c.from_residual-in_err-taken.ensures.0;
  added = IfOk-from_err c.from_residual-in_err-taken.result _ c.from_residual-in_err-taken.ensures.0;
  rests = IfOk-from_err c.from_residual-in_err-taken.result _ c.from_residual-in_err-taken.ensures.0;
  blocks = IfOk-from_err c.from_residual-in_err-taken.result _ c.from_residual-in_err-taken.ensures.0;
  bytes = IfOk-from_err c.from_residual-in_err-taken.result _ c.from_residual-in_err-taken.ensures.0;
  count = c.fill_block-in-loop-start.ensures.count ∙ c.loop-start.invariant.count;
}

pub returns-clause-pairs : goal.returns-clause-pairs
returns-clause-pairs c =
    let ss = filled_shares c.args.dir c.args.parent c.args.entries.now in
    let end = all-done ss c.loop-start.number c.loop-start.start c.args.entries.now c.loop-start.invariant.left c.loop-start-test.false c.loop-start.invariant.number_in in
    let items = c.loop-start.stated.pairs.items in
    let none : drop c.loop-start.number ss ≡ [] = drop_all c.loop-start.number ss (omega (arith, end)) in
    sym (append-nil items)
    ∙ (ap (λ (rest : List (List EntryRec)). items ++ pairs_from c.loop-start.number rest) (sym none) ∙ c.loop-start.invariant.pairs)

pub returns-clause-sound : goal.returns-clause-sound
returns-clause-sound c = c.loop-start.invariant.sound

pub returns-clause-added : goal.returns-clause-added
returns-clause-added c = omega (arith, c.loop-start.invariant.added, c.loop-start.invariant.within, c.loop-start-test.false)

pub returns-clause-count : goal.returns-clause-count
returns-clause-count c = c.loop-start.invariant.count
