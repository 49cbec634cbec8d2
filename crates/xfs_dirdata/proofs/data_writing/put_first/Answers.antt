use Rattle.std.proofs.Common.{[], ◌∷◌, ◌+◌, ℕ, arith, subst}
use Rattle.xfs_dirdata.specs.Written.{IsDataEntry}
use Rattle.xfs_dirdata.proofs.Same.{same_before}
use Rattle.xfs_dirdata.proofs.Placing.{data_entry-stays, first-stand}
use Rattle.xfs_dirdata.proofs.data_writing.put_first.Goals as goal

pub returns-clause-stand : goal.returns-clause-stand
returns-clause-stand c =
    let block = c.put_entry-2.new.block in
    let same = same_before c.put_entry.new.block block 64 (64 + c.data_size.result) _ c.put_entry-2.auto.block c.put_entry-2.ensures.others in
    first-stand c.args.first c.in-Some.directory c.in-Some.parent block c.in-Some.is
    (data_entry-stays 64 (64 + c.data_size.result) c.put_entry.new.block block 64 (46 ∷ []) c.in-Some.directory 2 same (omega arith) (omega (arith, c.data_size.ensures.value)) c.put_entry.ensures.stands)
    (subst (λ (n : ℕ). IsDataEntry block (64 + n) (46 ∷ 46 ∷ []) c.in-Some.parent 2) c.data_size.ensures.value c.put_entry-2.ensures.stands)
