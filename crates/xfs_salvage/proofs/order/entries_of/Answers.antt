use Rattle.std.proofs.Common.{rules, ◌∙◌, ap, filter}
use Rattle.std.proofs.lemmas.Fn.{filter_same}
use Rattle.xfs_disk.specs.Lists.{is_among}
use Rattle.xfs_dirdata.specs.declared.records.EntryRec.{EntryRec}
use Rattle.xfs_salvage.proofs.order.entries_of.Goals as goal

pub returns : goal.returns
returns c =
    c.from_vec.ensures
    ∙ filter_same _ (λ (e : EntryRec). is_among c.args.directories.now e.dir) _ (λ x b f' k. search rules) _ _ c.retain.ensures.filtered
    ∙ ap (filter (λ (e : EntryRec). is_among c.args.directories.now e.dir)) c.into_vec-entries.ensures
