use Rattle.std.proofs.Common.{◌≡◌, Bool, not, ℕ, List, [], Some, slice_get, sym, ap₂, ◌∙◌}
use Rattle.std.specs.Str.{bytes_eq}
use Rattle.xfs_disk.specs.Blocks.{Image}
use Rattle.xfs_writing.specs.declared.rows.Row.{Row}
use Rattle.xfs_rebuild.specs.Differing.{differs}
use Rattle.xfs_rebuild.proofs.Judged.{got}
use Rattle.xfs_rebuild.proofs.differing.differs.Goals as goal

-- a block that was read and one of the bank
differs_is : (image bank : Image) (r : Row) (block held : List ℕ) (test : Bool) → slice_get image r.at ≡ Some block → slice_get bank r.index ≡ Some held
    → test ≡ not (bytes_eq block held) → test ≡ differs bank image r
differs_is image bank r block held test read view is =
    is ∙ sym (ap₂ (λ (a b : List ℕ). not (bytes_eq a b)) (got image r.at block [] read) (got bank r.index held [] view))

pub returns-in-Ok-clause-differs : goal.returns-in-Ok-clause-differs
returns-in-Ok-clause-differs g c = λ image told.
    differs_is image c.args.bank.now c.args.row.now c.read.new.into c.view.result.now c.ne.result (c.in-Ok.ensures.bytes image told) c.view.ensures.block c.ne.ensures
