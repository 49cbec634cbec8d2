use Rattle.std.proofs.Common.{◌+◌, ◌++◌, List, refl, ap}
use Rattle.xfs_dirindex.specs.declared.pairs.Pair.{Pair}
use Rattle.xfs_dirindex.specs.Mapped.{Mapped, mapped}
use Rattle.xfs_dirindex.specs.IndexTree.{pairs_below}
use Rattle.xfs_dirindex.proofs.Members.{members_end, members_more, members_stop, next_at, pairs_end, pairs_more, unsound_by}
use Rattle.xfs_dirindex.proofs.index_tree.read_level.Goals as goal

pub loop-i-init : goal.loop-i-init
loop-i-init c = record {
  sound = refl;
  pairs = ap (λ (xs : List Pair). xs ++ pairs_below (mapped c.args.dir.now.offsets.items c.args.dir.now.blocks) c.args.links.now) c.new-below.ensures.items;
}

pub bytes_mapped-block-requires-clause-mapped : goal.bytes_mapped-block-requires-clause-mapped
bytes_mapped-block-requires-clause-mapped c = c.requires.mapped

pub bytes_mapped-block-requires-clause-ascending : goal.bytes_mapped-block-requires-clause-ascending
bytes_mapped-block-requires-clause-ascending c = c.requires.ascending

pub loop-i-preserved : goal.loop-i-preserved
loop-i-preserved c =
    let ms : List Mapped = mapped c.args.dir.now.offsets.items c.args.dir.now.blocks in
    let none : Pair = record { hash = 0; address = 0 } in
    let next = next_at c.args.links.now c.loop-i.i c.next_link-next.result c.next_link-next.ensures in
    record {
      sound = members_more ms c.args.root c.args.level c.loop-i.before c.args.links.now c.loop-i.i none c.loop-i-test.true c.next_link-next.result c.bytes_mapped-block.result.now next
          c.bytes_mapped-block.ensures c.in-Ok.ensures.sound _ c.loop-i.invariant.sound;
      pairs = pairs_more ms c.args.links.now c.loop-i.i none c.bytes_mapped-block.result.now c.loop-i.below.items c.take_member.new.below.items _ c.loop-i-test.true c.bytes_mapped-block.ensures
          c.in-Ok.ensures.pairs c.loop-i.invariant.pairs;
    }

pub returns-clause-sound : goal.returns-clause-sound
returns-clause-sound c =
    let ms : List Mapped = mapped c.args.dir.now.offsets.items c.args.dir.now.blocks in
    members_end ms c.args.root c.args.level c.loop-i.before c.args.links.now c.loop-i.i _ c.loop-i-test.false c.loop-i.invariant.sound

pub returns-clause-pairs : goal.returns-clause-pairs
returns-clause-pairs c =
    let ms : List Mapped = mapped c.args.dir.now.offsets.items c.args.dir.now.blocks in
    pairs_end ms c.args.links.now c.loop-i.i c.loop-i.below.items _ c.loop-i-test.false c.loop-i.invariant.pairs

pub returns-in-Err : goal.returns-in-Err
returns-in-Err c =
    let ms : List Mapped = mapped c.args.dir.now.offsets.items c.args.dir.now.blocks in
    let none : Pair = record { hash = 0; address = 0 } in
    let next = next_at c.args.links.now c.loop-i.i c.next_link-next.result c.next_link-next.ensures in
    record {
      sound = tt;
      unsound = unsound_by c.in-Err.fault
          (λ broken. members_stop ms c.args.root c.args.level c.loop-i.before c.args.links.now c.loop-i.i none c.loop-i-test.true c.next_link-next.result c.bytes_mapped-block.result.now next
          c.bytes_mapped-block.ensures broken _ c.loop-i.invariant.sound)
          c.in-Err.ensures.unsound;
      pairs = tt;
    }
