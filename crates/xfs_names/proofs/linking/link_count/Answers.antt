use Rattle.std.proofs.Common.{◌≤◌, ◌==◌, sym, subst, arith, length, List}
use Rattle.xfs_dirdata.specs.declared.records.EntryRec.{EntryRec}
use Rattle.xfs_links.specs.Entries.{is_directory_number}
use Rattle.xfs_names.proofs.Counted.{filter_fits}
use Rattle.xfs_names.proofs.linking.link_count.Goals as goal

pub overflow_add-result : goal.overflow_add-result
overflow_add-result c =
    let own : length c.records_by_number.result.now ≤ length c.args.entries.now =
    subst (λ (es : List EntryRec). length es ≤ length c.args.entries.now) (sym c.records_by_number.ensures) (filter_fits (λ (e : EntryRec). e.dir == c.args.node.now.ino) c.args.entries.now) in
    omega (arith, c.requires.few, c.count_directories.ensures, filter_fits (λ (e : EntryRec). is_directory_number c.args.nodes.now e.ino) c.records_by_number.result.now)
