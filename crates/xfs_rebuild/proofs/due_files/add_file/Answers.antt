use Rattle.std.proofs.Common.{ℕ, List, ap, ◌∙◌, nat_lt}
use Rattle.std.specs.List.{insert, prefix_len}
use Rattle.xfs_volume.specs.declared.files.FileRec.{FileRec}
use Rattle.xfs_rebuild.proofs.Counted.{file_placed}
use Rattle.xfs_rebuild.proofs.due_files.add_file.Goals as goal

pub returns : goal.returns
returns c =
    let f = c.args.file in
    let files = c.args.files.now.items in
    c.in_ok-insert.ensures.items
    ∙ ap (λ (n : ℕ). insert files n f) (c.place_of-place.ensures.place ∙ ap (λ (fs : List FileRec). prefix_len (λ (x : FileRec). nat_lt x.ino f.ino) fs) c.as_slice.ensures.value)
    ∙ file_placed f files
