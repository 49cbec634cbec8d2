-- A directory is counted, another file is not.
use Rattle.std.proofs.Common.{◌≡◌, ◌+◌, ◌==◌, true, false, get_or, arith, rules, sym, ap, ◌∙◌}
use Rattle.std.proofs.lemmas.List.{take_all}
use Rattle.std.proofs.lemmas.List.Sums.{count_by_more_no, count_by_more_yes}
use Rattle.std.specs.List.{count_by}
use Rattle.xfs_links.specs.declared.records.NodeRec.{NodeRec}
use Rattle.xfs_links.proofs.walk.count_directories.Goals as goal
use Rattle.xfs_links.proofs.walk.count_directories.Goals.{then-file-eq-DIRECTORY, else-file-eq-DIRECTORY}

pub loop-file-preserved : goal.loop-file-preserved
loop-file-preserved c =
    let files = c.args.files.now in
    let i = c.loop-file.file-index in
    let none : NodeRec = record { ino = 0; kind = 0 } in
    elim c.if-file-eq-DIRECTORY.branch [
      | then-file-eq-DIRECTORY w ↦
          let yes' : ((get_or files i none).kind == 4) ≡ true = search rules in
          record {
            few = omega (arith, w.count-is, c.loop-file.invariant.few);
            counted = w.count-is ∙ ap (λ n. n + 1) c.loop-file.invariant.counted ∙ sym (count_by_more_yes (λ (f : NodeRec). f.kind == 4) files i none c.loop-file-test.true yes');
          }
      | else-file-eq-DIRECTORY w ↦
          let no' : ((get_or files i none).kind == 4) ≡ false = search rules in
          record {
            few = omega (arith, w.count-is, c.loop-file.invariant.few);
            counted = w.count-is ∙ c.loop-file.invariant.counted ∙ sym (count_by_more_no (λ (f : NodeRec). f.kind == 4) files i none c.loop-file-test.true no');
          }
    ]

pub returns : goal.returns
returns c =
    c.loop-file.invariant.counted
    ∙ ap (count_by (λ (f : NodeRec). f.kind == 4)) (take_all c.loop-file.file-index c.args.files.now c.loop-file-test.false)
