use Rattle.std.proofs.Common.{ℕ, ◌+◌, ◌-◌, ◌∙◌}
use Rattle.std.proofs.lemmas.List.Sorted.{IsPermutation-trans}
use borrow.Rule.Slice.PartMut.{put_mid, same_len_mid}
use Rattle.xfs_space.proofs.Order.{moved_part}
use Rattle.xfs_space.proofs.sorting.sort_pieces.Goals as goal

pub loop-at-preserved : goal.loop-at-preserved
loop-at-preserved c =
    let runs = c.loop-at.runs in
    let at : ℕ = c.loop-at.at in
    let count : ℕ = at + c.min.result - at in
    record {
      same = same_len_mid at count runs c.sort.new.self c.sort.auto.self ∙ c.loop-at.invariant.same;
      moved = IsPermutation-trans c.args.runs.now runs (put_mid at count runs c.sort.new.self) c.loop-at.invariant.moved
          (moved_part at count runs c.sort.new.self c.sort.ensures.permutation);
    }
