use Rattle.std.proofs.Common.{◌≡◌, ◌+◌, ◌-◌, [], ◌∷◌, length, length-append, arith, ap, ◌∙◌}
use Rattle.xfs_geom.specs.Volumes.{volume_of}
use Rattle.xfs_empty.proofs.Pushed.{slots_more}
use Rattle.xfs_empty.proofs.bytes.list_slots.Goals as goal

pub loop-ino-preserved : goal.loop-ino-preserved
loop-ino-preserved c =
    let x = c.in_ok-first_slot.field-0 in
    let slots = c.loop-ino.slots.items in
    let low = c.loop-ino.auto.ino in
    let at : c.loop-ino.ino ≡ 128 + (c.loop-ino.ino - 128) = omega (arith, low) in
    let all = ap length c.in_ok-push.ensures.items ∙ length-append slots (x ∷ []) in
    record {
      count = omega (arith, all, c.loop-ino.invariant.count, low);
      each = λ i d less.
          slots_more (volume_of c.args.g.now) c.args.stamp.now slots c.push.new.self.items x (c.loop-ino.ino - 128) c.loop-ino.ino
          c.loop-ino.invariant.count c.loop-ino.invariant.each at c.in_ok-first_slot.ensures c.in_ok-push.ensures.items i d (omega (arith, less, low));
    }
