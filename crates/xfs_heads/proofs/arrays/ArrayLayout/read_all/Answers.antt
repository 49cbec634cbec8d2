use Rattle.std.proofs.Common.{◌+◌, ◌*◌, length, arith}
use Rattle.std.proofs.lemmas.List.FromFn.{fill_by_all}
use Rattle.xfs_word.specs.Field.{field_of}
use Rattle.xfs_heads.specs.Heads.{numbers}
use Rattle.xfs_heads.proofs.arrays.ArrayLayout.read_all.Goals as goal

pub returns : goal.returns
unfolding numbers
returns c =
    fill_by_all (λ i. field_of c.args.bytes.now (c.args.self.now.offset + 4 * i) 4) c.loop-index.values (length c.args.values.now) 0
    (omega arith) (λ k h. c.loop-index.invariant k (omega arith))
