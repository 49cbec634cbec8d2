use Rattle.std.proofs.Common.{◌≡◌, ◌==◌, ◌∙◌, ◌++◌, ◌∷◌, [], List, Vec, Global, ℕ, ap, length, rules}
use Rattle.xfs_disk.specs.declared.word.Word.{Word}
use Rattle.xfs_shell.specs.LineParts.{line_parts}
use Rattle.xfs_shell.proofs.line_parts.parts.Goals.{then-not-is_cut+in_ok-push, else-not-is_cut+then-not-is_empty+in_ok-push-2, else-not-is_cut+else-not-is_empty}
use Rattle.xfs_shell.proofs.Cutting.{begun, part_none, part_some, step_ended, step_grown, step_passed}
use Rattle.xfs_shell.proofs.line_parts.parts.Goals as goal

pub loop-byte-init : goal.loop-byte-init
loop-byte-init c = rw (c.new-parts.ensures.items, c.new-part.ensures.items) (begun c.args.cut c.args.bytes.now)

pub loop-byte-preserved : goal.loop-byte-preserved
loop-byte-preserved c = elim c.if-not-is_cut.branch [
  | then-not-is_cut+in_ok-push w ↦
      step_grown c.args.cut c.loop-byte.parts.items c.if-not-is_cut.parts.items c.loop-byte.part.items c.if-not-is_cut.part.items c.args.bytes.now c.loop-byte.byte-index c.is_cut.result
      (line_parts c.args.cut c.args.bytes.now) c.loop-byte-test.true c.is_cut.ensures w.if-not-is_cut.true
      (ap (λ (v : Vec Word Global). v.items) w.parts-is) (ap (λ (v : Vec ℕ Global). v.items) w.part-is ∙ w.in_ok-push.ensures.items) c.loop-byte.invariant
  | else-not-is_cut+then-not-is_empty+in_ok-push-2 w ↦
      let empty : w.is_empty.result ≡ (length c.loop-byte.part.items == 0) = search rules in
      step_ended c.args.cut c.loop-byte.parts.items c.if-not-is_cut.parts.items c.loop-byte.part.items c.if-not-is_cut.part.items c.args.bytes.now c.loop-byte.byte-index c.is_cut.result
      (line_parts c.args.cut c.args.bytes.now) c.loop-byte-test.true c.is_cut.ensures w.if-not-is_cut.false
      (part_some c.loop-byte.part.items w.is_empty.result empty w.if-not-is_empty.true)
      (ap (λ (v : Vec Word Global). v.items) w.parts-is ∙ w.in_ok-push-2.ensures.items ∙ ap (λ (p : List ℕ). c.loop-byte.parts.items ++ (p ∷ [])) w.from_vec.ensures)
      (ap (λ (v : Vec ℕ Global). v.items) w.part-is ∙ w.new-part-then-not-is_empty.ensures.items) c.loop-byte.invariant
  | else-not-is_cut+else-not-is_empty w ↦
      let empty : w.is_empty.result ≡ (length c.loop-byte.part.items == 0) = search rules in
      step_passed c.args.cut c.loop-byte.parts.items c.if-not-is_cut.parts.items c.loop-byte.part.items c.if-not-is_cut.part.items c.args.bytes.now c.loop-byte.byte-index c.is_cut.result
      (line_parts c.args.cut c.args.bytes.now) c.loop-byte-test.true c.is_cut.ensures w.if-not-is_cut.false
      (part_none c.loop-byte.part.items w.is_empty.result empty w.if-not-is_empty.false)
      (ap (λ (v : Vec Word Global). v.items) w.parts-is) (ap (λ (v : Vec ℕ Global). v.items) w.part-is) c.loop-byte.invariant
]
