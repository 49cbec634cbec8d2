use Rattle.std.proofs.Common.{◌≡◌, ℕ, ◌==◌, List, IfOk, ap, subst, ◌∙◌}
use Rattle.std.specs.List.{filter, slice_get, sum_by}
use Rattle.xfs_word.specs.declared.extents.Extent.{Extent}
use Rattle.xfs_volume.specs.declared.files.FileRec.{FileRec}
use Rattle.xfs_changes.proofs.Firsts.{blocks_told, first_blocks}
use Rattle.xfs_changes.proofs.forks.attribute_blocks_at.Goals as goal

pub returns-in-Some : goal.returns-in-Some
returns-in-Some c = subst (λ (n : ℕ). IfOk c.attribute_blocks.result (λ blocks. blocks ≡ n))
    (ap (λ (es : List Extent). sum_by (λ (e : Extent). e.count) es) c.attr_extents.ensures
    ∙ ap blocks_told c.in-Some.ensures.value ∙ ap (λ (fs : List FileRec). blocks_told (slice_get fs 0)) c.records_by_number.ensures ∙ first_blocks (filter (λ (f : FileRec). f.ino == c.args.ino) c.args.files.now))
    c.attribute_blocks.ensures

pub returns-in-None : goal.returns-in-None
returns-in-None c = ap blocks_told c.in-None.ensures.value ∙ ap (λ (fs : List FileRec). blocks_told (slice_get fs 0)) c.records_by_number.ensures ∙ first_blocks (filter (λ (f : FileRec). f.ino == c.args.ino) c.args.files.now)
