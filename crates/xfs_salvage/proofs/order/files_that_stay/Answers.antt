use Rattle.std.proofs.Common.{rules, ◌&&◌, ◌∙◌, ap, filter}
use Rattle.std.proofs.lemmas.Fn.{filter_same}
use Rattle.xfs_disk.specs.Lists.{is_among}
use Rattle.xfs_volume.specs.declared.files.FileRec.{FileRec}
use Rattle.xfs_views.specs.Standing.{stands}
use Rattle.xfs_salvage.proofs.order.files_that_stay.Goals as goal

pub returns : goal.returns
returns c =
    c.from_vec.ensures
    ∙ filter_same _ (λ (f : FileRec). is_among c.args.numbers.now f.ino && stands c.args.root f) _ (λ x b f' k. search rules) _ _ c.retain.ensures.filtered
    ∙ ap (filter (λ (f : FileRec). is_among c.args.numbers.now f.ino && stands c.args.root f)) c.into_vec-files.ensures
