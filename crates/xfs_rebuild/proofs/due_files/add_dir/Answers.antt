use Rattle.std.proofs.Common.{ℕ, List, ap, ◌∙◌, nat_lt}
use Rattle.std.specs.List.{insert, prefix_len}
use Rattle.xfs_volume.specs.declared.directories.DirRec.{DirRec}
use Rattle.xfs_rebuild.proofs.Counted.{dir_placed}
use Rattle.xfs_rebuild.proofs.due_files.add_dir.Goals as goal

pub returns : goal.returns
returns c =
    let d = c.args.dir in
    let dirs = c.args.dirs.now.items in
    c.in_ok-insert.ensures.items
    ∙ ap (λ (n : ℕ). insert dirs n d) (c.place_of-place.ensures.place ∙ ap (λ (ds : List DirRec). prefix_len (λ (x : DirRec). nat_lt x.ino d.ino) ds) c.as_slice.ensures.value)
    ∙ dir_placed d dirs
