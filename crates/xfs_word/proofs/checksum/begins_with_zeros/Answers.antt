use Rattle.std.proofs.Common.{length, drop, subst, arith}
use Rattle.std.proofs.lemmas.List.{take_rest}
use Rattle.xfs_word.specs.Private.Zeros.{AreManyZeros}
use Rattle.xfs_word.proofs.checksum.begins_with_zeros.Goals as goal

pub returns-then-are_many_zeros : goal.returns-then-are_many_zeros
returns-then-are_many_zeros c = λ are. record {
  long = omega (arith, c.if-bytes-lt64.false);
  first = c.are_many_zeros.ensures c.if-are_many_zeros.true;
  last = subst AreManyZeros (take_rest c.args.bytes.now 32) (c.are_many_zeros-then-are_many_zeros.ensures are);
}
