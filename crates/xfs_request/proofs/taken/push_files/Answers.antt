use Rattle.std.proofs.Common.{refl, subst, sym}
use Rattle.std.proofs.lemmas.Result.{IfOk-from_err}
use Rattle.xfs_geom.specs.Volumes.{volume_of}
use Rattle.xfs_space.specs.Owners.{file_runs}
use Rattle.xfs_space.specs.Parts.{HasLawfulForks}
use Rattle.xfs_request.proofs.Rows.{listed_end, listed_item}
use Rattle.xfs_request.proofs.taken.push_files.Goals as goal

pub loop-file-init : goal.loop-file-init
loop-file-init c = refl

pub push_file_runs-requires : goal.push_file_runs-requires
push_file_runs-requires c =
    subst (HasLawfulForks (volume_of c.args.g.now)) (sym c.file-item.is) (c.requires c.loop-file.file-index c.file-item.result c.loop-file-test.true)

pub loop-file-preserved : goal.loop-file-preserved
loop-file-preserved c =
    listed_item (file_runs (volume_of c.args.g.now)) c.args.files.now c.loop-file.file-index c.file-item.result c.loop-file.runs.items c.push_file_runs.new.runs.items _
    c.loop-file-test.true c.file-item.is c.in_ok-push_file_runs.ensures c.loop-file.invariant

pub returns : goal.returns
returns c =
    listed_end (file_runs (volume_of c.args.g.now)) c.args.files.now c.loop-file.file-index c.loop-file.runs.items _ c.loop-file-test.false c.loop-file.invariant

pub returns-in_err-push_file_runs : goal.returns-in_err-push_file_runs
returns-in_err-push_file_runs c = IfOk-from_err c.from_residual.result _ c.from_residual.ensures.0
