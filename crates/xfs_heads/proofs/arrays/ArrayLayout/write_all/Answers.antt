use Rattle.std.proofs.Common.{◌+◌, ◌*◌, length, refl, sym, arith}
use Rattle.std.proofs.lemmas.List.FromFn.{fill_by_all}
use Rattle.xfs_word.specs.Field.{field_of}
use Rattle.xfs_heads.specs.Heads.{numbers}
use Rattle.xfs_heads.proofs.arrays.ArrayLayout.write_all.Goals as goal

pub returns-clause-put : goal.returns-clause-put
unfolding numbers
returns-clause-put c =
    sym
    (fill_by_all (λ i. field_of c.loop-index.bytes (c.args.self.now.offset + 4 * i) 4) c.args.values.now (length c.args.values.now) 0
    refl (λ k h. sym (c.loop-index.invariant.put k (omega arith))))
