use Rattle.xfs_salvage.proofs.Directories.{directory_next}
use borrow.Author.Count.{falls}
use Rattle.std.proofs.Common.{◌++◌, ℕ, List, filter, length, sym, ◌∙◌, ap}
use Rattle.std.proofs.lemmas.List.{append-nil, drop_all}
use Rattle.xfs_volume.specs.declared.files.FileRec.{FileRec}
use Rattle.std.proofs.lemmas.Result.{IfOk-from_err}
use Rattle.xfs_volume.specs.Names.{is_directory}
use Rattle.xfs_naming.specs.Naming.{numbers_of}
use Rattle.xfs_salvage.proofs.order.directories_of.Goals as goal

pub loop-file-preserved : goal.loop-file-preserved
loop-file-preserved c =
    directory_next c.args.files.now c.loop-file.file-index c.file-item.result c.loop-file.numbers.items c.put_directory.new.numbers.items _ c.loop-file-test.true c.file-item.is c.loop-file.invariant
    c.in_ok-put_directory.ensures

pub loop-file-init : goal.loop-file-init
loop-file-init c = ap (λ (ns : List ℕ). ns ++ numbers_of (filter is_directory c.args.files.now)) c.new-numbers.ensures.items

pub loop-file-smaller : goal.loop-file-smaller
loop-file-smaller c = falls (length c.args.files.now) c.loop-file.file-index c.loop-file-test.true

pub returns-in_err-put_directory : goal.returns-in_err-put_directory
returns-in_err-put_directory c = IfOk-from_err c.from_residual.result _ c.from_residual.ensures.0

pub returns : goal.returns
returns c =
    let items = c.loop-file.numbers.items in
    sym (append-nil items) ∙ ap (λ (fs : List FileRec). items ++ numbers_of (filter is_directory fs)) (sym (drop_all c.loop-file.file-index c.args.files.now c.loop-file-test.false))
    ∙ c.loop-file.invariant
