use Rattle.xfs_naming.proofs.Order.{ordered}
use Rattle.xfs_rebuild.proofs.names.links_of_kept.Goals as goal

pub all_due-requires-clause-files : goal.all_due-requires-clause-files
all_due-requires-clause-files c =
    (ordered c.args.root c.as_slice-files.result.now c.as_slice-entries.result.now c.as_slice.result.now c.in_ok-links.links.items (c.are_named.ensures.0 c.if-not-are_named.false) c.requires.low
    c.in_ok-links.ensures.rise c.in_ok-links.ensures.linked).by_file

pub all_due-requires-clause-entries : goal.all_due-requires-clause-entries
all_due-requires-clause-entries c =
    (ordered c.args.root c.as_slice-files.result.now c.as_slice-entries.result.now c.as_slice.result.now c.in_ok-links.links.items (c.are_named.ensures.0 c.if-not-are_named.false) c.requires.low
    c.in_ok-links.ensures.rise c.in_ok-links.ensures.linked).by_directory
