use Rattle.std.proofs.Common.{ℕ, List, subst, ◌∙◌}
use Rattle.std.proofs.lemmas.Result.{IfOk-from_err}
use Rattle.xfs_word.specs.Field.{field_of}
use Rattle.xfs_geom.specs.Conversions.{inode_of}
use Rattle.xfs_geom.specs.Volumes.{volume_of}
use Rattle.xfs_rounds.specs.Facts.{fact_of, reading_of}
use Rattle.xfs_rounds.specs.Judged.{IsFileOf}
use Rattle.xfs_rounds.proofs.judging.judge_slot.Goals as goal

pub returns-clause-part : goal.returns-clause-part
returns-clause-part c =
    let v = volume_of c.args.g.now in
    let ino = c.inode_of_slot-ino.ensures.value in
    let held = c.part-held.ensures.value in
    let bytes = c.part-held.result.now in
    let file = c.in_ok-file.file in
    record {
      few = c.requires.slot;
      fact = c.fact_of-fact.ensures ∙ (λ i. record { reading = reading_of (c.read_slot-read.ensures i); lsn = field_of bytes 112 8 }) ∙ (λ i. fact_of v (ino i) (held i));
      file = subst (λ (slot : List ℕ). IsFileOf v (inode_of v c.args.block c.args.slot) slot file) held (subst (λ (n : ℕ). IsFileOf v n bytes file) ino c.in_ok-file.ensures);
    }

pub returns-in_err-file : goal.returns-in_err-file
returns-in_err-file c = record { number = IfOk-from_err c.from_residual.result _ c.from_residual.ensures.0; part = IfOk-from_err c.from_residual.result _ c.from_residual.ensures.0 }
