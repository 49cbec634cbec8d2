use Rattle.std.proofs.Common.{rules}
use Rattle.std.proofs.lemmas.List.Sorted.{IsPartitionPoint-from_clause, IsPartitionedBy-ltb}
use Rattle.std.proofs.lemmas.Bool.{ltb-true, ltb-false}
use lib.Dec.{ltb}
use Rattle.xfs_render.specs.declared.wanted_slots.SlotWanted.{SlotWanted}
use Rattle.xfs_render.proofs.clusters.first_from.Goals as goal

pub returns : goal.returns
returns c =
    let parted = IsPartitionedBy-ltb (λ (w : SlotWanted). w.ino) c.args.slots.now c.args.ino c.requires in
    let point = IsPartitionPoint-from_clause (λ (w : SlotWanted). ltb w.ino c.args.ino) c.args.slots.now c.partition_point.result c.partition_point.ensures.partitioned parted (λ a r q k. search rules) in
    record {
      within = c.partition_point.ensures.bound;
      before = λ k d low high. ltb-true _ c.args.ino (point.0 k d low high);
      after = λ k d low high. ltb-false _ c.args.ino (point.1 k d low high);
    }
