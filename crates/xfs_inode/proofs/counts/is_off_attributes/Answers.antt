use Rattle.std.proofs.Common.{ℕ, ◌∙◌}
use Rattle.std.specs.List.{list_all}
use Rattle.std.proofs.lemmas.Result.{IfOk-from_err}
use Rattle.xfs_inode.specs.Files.{is_apart, range_of_block}
use Rattle.xfs_inode.proofs.counts.is_off_attributes.Goals as goal

pub ranges_of-requires : goal.ranges_of-requires
ranges_of-requires c = c.requires

pub returns-in_err-runs : goal.returns-in_err-runs
returns-in_err-runs c = IfOk-from_err c.from_residual.result _ c.from_residual.ensures.0

pub returns : goal.returns
returns c =
    let runs = c.deref.ensures.value ∙ c.in_ok-runs.ensures in
    c.miss.ensures ∙ (λ i. list_all (λ (block : ℕ). list_all (is_apart (range_of_block block)) (runs i)) (c.blocks-3.ensures i))
