use Rattle.std.proofs.Common.{◌≡◌, ◌==◌, ◌≤◌, take}
use Rattle.std.specs.List.{count_by}
use Rattle.xfs_links.specs.declared.records.NodeRec.{NodeRec}
use Rattle.xfs_links.proofs.walk.count_directories.Given as goal

abbrev pub invariant-loop-file : goal.invariant-loop-file
invariant-loop-file l = record {
  few : l.count ≤ l.file-index;
  counted : l.count ≡ count_by (λ (f : NodeRec). f.kind == 4) (take l.file-index l.files);
}
