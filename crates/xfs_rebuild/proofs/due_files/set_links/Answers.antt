use Rattle.std.proofs.Common.{sym, ap, ◌∙◌, get_or}
use Rattle.xfs_volume.specs.declared.files.FileRec.{FileRec}
use Rattle.xfs_rebuild.specs.Names.{with_nlink}
use Rattle.xfs_rebuild.proofs.Linked.{set_more}
use Rattle.xfs_rebuild.proofs.due_files.set_links.Goals as goal

pub loop-i-preserved : goal.loop-i-preserved
loop-i-preserved c = λ due are.
    let i = c.loop-i.i in
    let x = c.index-files-i.result in
    let set = c.set_nlink.ensures ∙ ap (λ (f : FileRec). with_nlink f (get_or c.args.dues.now i 0)) (sym c.index-files-i.is) in
    set_more with_nlink due i c.args.files.now c.loop-i.files c.args.dues.now x c.set_nlink.new.file c.loop-i-test.true (c.loop-i.invariant due are) are c.index-files-i.is set
