use Rattle.std.proofs.Common.{◌==◌, not, length, List, ap, ◌∙◌}
use Rattle.xfs_volume.specs.declared.files.FileRec.{FileRec}
use Rattle.xfs_naming.proofs.Chosen.{any_in_run}
use Rattle.xfs_laws.proofs.files.is_used.Goals as goal

pub returns : goal.returns
returns c = ap not (c.is_empty.ensures ∙ ap (λ (fs : List FileRec). length fs == 0) c.records_near.ensures) ∙ any_in_run (λ (f : FileRec). f.ino == c.args.ino) c.args.files.now
