use Rattle.std.proofs.Common.{◌==◌, List, ap, ◌∙◌}
use Rattle.std.specs.List.{filter, slice_get}
use Rattle.xfs_volume.specs.declared.files.FileRec.{FileRec}
use Rattle.xfs_changes.proofs.Firsts.{links_first, links_told}
use Rattle.xfs_changes.proofs.changes.links_held_at.Goals as goal

pub returns-in-Some : goal.returns-in-Some
returns-in-Some c = ap links_told c.in-Some.ensures.value ∙ ap (λ (fs : List FileRec). links_told (slice_get fs 0)) c.records_near.ensures ∙ links_first (filter (λ (f : FileRec). f.ino == c.args.ino) c.args.files.now)

pub returns-in-None : goal.returns-in-None
returns-in-None c = ap links_told c.in-None.ensures.value ∙ ap (λ (fs : List FileRec). links_told (slice_get fs 0)) c.records_near.ensures ∙ links_first (filter (λ (f : FileRec). f.ino == c.args.ino) c.args.files.now)
