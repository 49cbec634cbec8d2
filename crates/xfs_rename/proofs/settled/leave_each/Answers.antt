use Rattle.std.proofs.Common.{◌≡◌, ◌∙◌, sym, ap, subst, add-one, map, take, drop, ◌++◌, slice_set, slice_index_or, List}
use Rattle.xfs_volume.specs.declared.files.FileRec.{FileRec}
use Rattle.xfs_names.proofs.Setting.{set_next}
use Rattle.xfs_rename.specs.Settled.{staying_file}
use Rattle.xfs_rename.proofs.settled.leave_each.Goals as goal

pub loop-file-preserved : goal.loop-file-preserved
loop-file-preserved c =
    let i = c.loop-file.file-index in
    let f = staying_file c.args.rebuilt.now in
    let xs = c.args.files.now in
    let x = c.file-item.result in
    ap (λ (fs : List FileRec). slice_set fs i c.leave_data.new.file) c.loop-file.invariant
    ∙ ap (λ (e : FileRec). slice_set (map f (take i xs) ++ drop i xs) i e) c.leave_data.ensures
    ∙ ap (λ (e : FileRec). slice_set (map f (take i xs) ++ drop i xs) i (f e)) (sym c.file-item.is)
    ∙ set_next f i xs x c.loop-file-test.true (subst (λ (fs : List FileRec). x ≡ slice_index_or fs i x) c.loop-file.invariant c.file-item.is)
    ∙ ap (λ k. map f (take k xs) ++ drop k xs) (sym (add-one i))
