use Rattle.std.proofs.Common.{◌&&◌, ◌==◌, ◌∙◌, ap}
use Rattle.std.specs.List.{list_any}
use Rattle.xfs_volume.specs.declared.directories.DirRec.{DirRec}
use Rattle.xfs_naming.proofs.Chosen.{any_of_run}
use Rattle.xfs_names.proofs.comparing.is_whole_with.Goals as goal

pub returns : goal.returns
returns c = c.have_whole.ensures ∙ ap (list_any (λ (r : DirRec). r.whole && r.parent == c.args.parent)) c.records_by_number.ensures
    ∙ any_of_run (λ (r : DirRec). r.ino == c.args.dir) (λ (r : DirRec). r.whole && r.parent == c.args.parent) c.args.dirs.now
