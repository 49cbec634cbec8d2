use Rattle.std.proofs.Common.{rules, ◌∙◌, ap, filter}
use Rattle.std.proofs.lemmas.Fn.{filter_same}
use Rattle.xfs_disk.specs.Lists.{is_among}
use Rattle.xfs_volume.specs.declared.directories.DirRec.{DirRec}
use Rattle.xfs_salvage.proofs.order.dirs_of.Goals as goal

pub returns : goal.returns
returns c =
    c.from_vec.ensures
    ∙ filter_same _ (λ (d : DirRec). is_among c.args.directories.now d.ino) _ (λ x b f' k. search rules) _ _ c.retain.ensures.filtered
    ∙ ap (filter (λ (d : DirRec). is_among c.args.directories.now d.ino)) c.into_vec-dirs.ensures
