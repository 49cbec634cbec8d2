use Rattle.std.proofs.Common.{◌≡◌, ◌∙◌, ℕ, ◌+◌, ◌-◌, ◌<◌, List, [], ◌∷◌, length, length-append, ap, arith}
use Rattle.xfs_geom.specs.Volumes.{volume_of}
use Rattle.xfs_render.specs.Slots.{CanMake}
use Rattle.xfs_render.specs.declared.wanted_slots.SlotWanted.{SlotWanted}
use Rattle.xfs_volume_tests.proofs.Rendered.{pushed_each}
use Rattle.xfs_volume_tests.proofs.render.slots.list_slots.Goals as goal

pub loop-ino-preserved : goal.loop-ino-preserved
loop-ino-preserved c =
    let x = c.in_ok-slot_of.field-0 in
    let slots = c.loop-ino.slots.items in
    let v = volume_of c.args.g.now in
    let n = c.loop-ino.ino - 128 in
    let low = c.loop-ino.auto.ino in
    let at : c.loop-ino.ino ≡ 128 + (c.loop-ino.ino - 128) = omega (arith, low) in
    let count = ap length c.in_ok-push.ensures.items ∙ length-append slots (x ∷ []) in
    record {
      count = omega (arith, count, c.loop-ino.invariant.count, low);
      number = λ k d less.
          pushed_each (λ (k : ℕ) (w : SlotWanted). w.ino ≡ 128 + k) slots c.push.new.self.items x n c.loop-ino.invariant.count c.loop-ino.invariant.number
          (c.in_ok-slot_of.ensures.number ∙ at) c.in_ok-push.ensures.items k d (omega (arith, less, low));
      can = λ k d old less.
          pushed_each (λ (k : ℕ) (w : SlotWanted). (old : List ℕ) → CanMake v w old) slots c.push.new.self.items x n c.loop-ino.invariant.count
          (λ j e few old. c.loop-ino.invariant.can j e old few) c.in_ok-slot_of.ensures.can c.in_ok-push.ensures.items k d (omega (arith, less, low)) old;
    }
