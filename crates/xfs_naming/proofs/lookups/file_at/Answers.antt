use Rattle.std.proofs.Common.{List, ap, ◌∙◌}
use Rattle.std.specs.List.{slice_get}
use Rattle.xfs_volume.specs.declared.files.FileRec.{FileRec}
use Rattle.xfs_naming.proofs.Chosen.{first_of_run}
use Rattle.xfs_naming.proofs.lookups.file_at.Goals as goal

pub returns : goal.returns
returns c = c.first.ensures.value ∙ ap (λ (fs : List FileRec). slice_get fs 0) c.records_by_number.ensures ∙ first_of_run c.args.names.now.files.now c.args.ino
