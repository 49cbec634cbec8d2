use Rattle.std.proofs.Common.{map, sym, subst, ◌∙◌}
use Rattle.std.specs.List.Sorted.{IsNonDecreasing}
use Rattle.xfs_request.specs.Slots.{links_due}
use Rattle.xfs_rebuild.proofs.Linked.{next_due}
use Rattle.xfs_rebuild.proofs.due_files.all_due.Goals as goal

pub links_due-due-requires-clause-directories : goal.links_due-due-requires-clause-directories
links_due-due-requires-clause-directories c = subst IsNonDecreasing (sym c.as_slice.ensures.value) c.in_ok-directories.ensures.rise

pub loop-file-preserved : goal.loop-file-preserved
loop-file-preserved c =
    let files = c.args.files.now in
    let due = links_due c.args.root files c.args.entries.now in
    next_due due files c.loop-file.file-index c.file-item.result c.loop-file.dues.items c.push.new.self.items (map due files) _ c.loop-file-test.true c.file-item.is c.loop-file.invariant
    (c.in_ok-narrow.ensures ∙ c.links_due-due.ensures files (c.as_slice.ensures.value ∙ c.in_ok-directories.ensures.are)) c.in_ok-push.ensures.items
