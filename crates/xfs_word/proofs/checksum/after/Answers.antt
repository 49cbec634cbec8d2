use Rattle.std.proofs.Common.{◌+◌, ◌-◌, ◌≤◌, length, take, drop, ◌∙◌, ap, sym, subst, arith}
use Rattle.std.proofs.lemmas.List.{length-drop, take_rest}
use Rattle.xfs_word.proofs.Register.{AreBytes, bytes_behind, many_zeros, turn}
use Rattle.xfs_word.specs.Private.Zeros.{BeginsWithZeros}
use Rattle.xfs_word.proofs.checksum.after.Goals as goal

pub loop-at-preserved-then-begins_with_zeros : goal.loop-at-preserved-then-begins_with_zeros
loop-at-preserved-then-begins_with_zeros c =
    let bytes = c.args.bytes.now in
    let rest = take (length bytes - c.loop-at.at) (drop c.loop-at.at bytes) in
    let none : BeginsWithZeros rest = c.begins_with_zeros.ensures c.if-begins_with_zeros.true in
    let whole : AreBytes bytes = record { below = λ k. omega (arith, c.type_inv.bytes k) } in
    let all : AreBytes rest = subst AreBytes (sym (take_rest bytes c.loop-at.at)) (bytes_behind c.loop-at.at bytes whole) in
    let room : c.loop-at.at + 64 ≤ length bytes = omega (arith, none.long, ap length (take_rest bytes c.loop-at.at), length-drop c.loop-at.at bytes) in (
      room,
      turn 64 c.loop-at.register c.after_many_zeros-register.result c.loop-at.at bytes rest (take_rest bytes c.loop-at.at)
          (c.after_many_zeros-register.ensures ∙ many_zeros c.loop-at.register rest all none)
          ∙ c.loop-at.invariant.1,
    )

pub loop-at-preserved : goal.loop-at-preserved
loop-at-preserved c =
    let bytes = c.args.bytes.now in
    let room : c.loop-at.at + 16 ≤ length bytes = omega arith in (
      room,
      turn 16 c.loop-at.register c.after_sixteen-register.result c.loop-at.at bytes
          (take (length bytes - c.loop-at.at) (drop c.loop-at.at bytes)) (take_rest bytes c.loop-at.at)
          c.after_sixteen-register.ensures
          ∙ c.loop-at.invariant.1,
    )
