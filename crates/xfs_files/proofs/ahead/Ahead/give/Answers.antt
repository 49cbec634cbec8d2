use Rattle.std.proofs.Common.{◌≡◌, ℕ, ◌+◌, ◌*◌, ◌-◌, ◌≤◌, length, take, drop, arith, ap, ◌∙◌}
use borrow.Rule.Slice.PartMut.{mid_of}
use Rattle.xfs_files.proofs.Windows.{part_of_front}
use Rattle.xfs_files.proofs.ahead.Ahead.give.Goals as goal

pub returns : goal.returns
returns c = λ is told held all tells.
    let a = c.args.self.now in
    let n : ℕ = length c.args.into.now in
    let start : ℕ = (c.args.at - a.first) * 4096 in
    let size : start + n - start ≡ n = omega arith in
    let fits : start + n ≤ a.count * 4096 = omega (arith, c.if-at-self.false, c.if-at-self-2.false, c.requires) in
    let there : a.first * 4096 + start ≡ c.args.at * 4096 = omega (arith, c.if-at-self.false) in
    c.copy_from_slice.ensures.after ∙ ap (mid_of start (start + n - start)) c.deref.ensures.value ∙ ap (λ k. mid_of start k a.bytes.items) size
    ∙ part_of_front start n (a.count * 4096) (a.first * 4096) a.bytes.items all fits (held all tells) ∙ ap (λ k. take n (drop k all)) there
