use Rattle.std.proofs.Common.{◌<◌, ◌^◌, List, sym, subst}
use Rattle.std.specs.List.{All}
use Rattle.std.proofs.lemmas.List.{take_all}
use Rattle.std.proofs.lemmas.List.Elements.{All-more}
use Rattle.xfs_geom.specs.Volumes.{volume_of}
use Rattle.xfs_volume.specs.declared.files.FileRec.{FileRec}
use Rattle.xfs_space.specs.Owners.{file_runs}
use Rattle.xfs_space.specs.Parts.{HasLawfulForks}
use Rattle.xfs_space.proofs.OwnedRuns.{file_next, files_end}
use Rattle.xfs_space.proofs.owned_files.push_files.Goals as goal

pub loop-file-preserved : goal.loop-file-preserved
loop-file-preserved c = record {
  same = file_next (file_runs (volume_of c.args.g.now)) c.args.files.now c.loop-file.file-index c.file-item.result c.loop-file.runs.items c.push_file.new.runs.items _ c.loop-file-test.true c.file-item.is
      c.loop-file.invariant.same c.in_ok-push_file.ensures.put;
  small = All-more (λ (f : FileRec). f.ino < 2 ^ 64) c.args.files.now c.loop-file.file-index c.file-item.result c.loop-file-test.true c.loop-file.invariant.small
      (subst (λ (f : FileRec). f.ino < 2 ^ 64) c.file-item.is c.in_ok-push_file.ensures.small);
}

pub returns-clause-small : goal.returns-clause-small
returns-clause-small c =
    subst (λ (fs : List FileRec). All (λ (f : FileRec). f.ino < 2 ^ 64) fs) (take_all c.loop-file.file-index c.args.files.now c.loop-file-test.false) c.loop-file.invariant.small

pub push_file-requires : goal.push_file-requires
push_file-requires c = subst (HasLawfulForks (volume_of c.args.g.now)) (sym c.file-item.is) (c.requires c.loop-file.file-index c.file-item.result c.loop-file-test.true)

pub returns-clause-put : goal.returns-clause-put
returns-clause-put c = files_end (file_runs (volume_of c.args.g.now)) c.args.files.now c.loop-file.file-index c.loop-file.runs.items _ c.loop-file-test.false c.loop-file.invariant.same
