use Rattle.std.proofs.Common.{ℕ, ◌*◌, ◌-◌, ◌<◌, List, length, arith, length-take}
use Rattle.xfs_word.specs.Field.{field_of, part_of}
use Rattle.xfs_dirdata.specs.Data.{data_of, data_area}
use Rattle.xfs_dirdata.proofs.Items.{area-short}
use Rattle.xfs_dirdata.proofs.Filling.{none-from}
use Rattle.xfs_dirdata.proofs.data.read_data.Goals as goal

few : (bytes : List ℕ) (n : ℕ) → n < 64 → length (part_of bytes 0 n) < 64
unfolding part_of
few bytes n h = omega (arith, length-take n bytes)

pub returns-then-index-clause-unsound : goal.returns-then-index-clause-unsound
unfolding data_of data_area
returns-then-index-clause-unsound c =
    let short : 4088 - 8 * field_of c.args.block.now 4088 4 < 64 = omega (arith, c.get32.ensures, c.if-index.true) in
    rw c.if-not-whole.false (area-short c.args.dir _ (few c.args.block.now _ short))

pub returns-then-index-clause-none : goal.returns-then-index-clause-none
unfolding data_of
returns-then-index-clause-none c = none-from c.args.dir _ (returns-then-index-clause-unsound c)
