use Rattle.std.proofs.Common.{◌≡◌, ℕ, sym, subst, ◌∙◌}
use Rattle.std.specs.Option.{ForSome}
use Rattle.std.specs.Prelude.{OnOk}
use Rattle.xfs_geom.specs.Volumes.{volume_of}
use Rattle.xfs_slots.specs.Gathered.{gathered_both, held_in, of_slot}
use Rattle.xfs_slots.proofs.Known.{slot_is}
use Rattle.xfs_slots.proofs.clusters.see_part.Goals as goal

pub inode_of_slot-ino-requires-clause-block : goal.inode_of_slot-ino-requires-clause-block
inode_of_slot-ino-requires-clause-block g c = c.requires.volume

pub inode_of_slot-ino-requires-clause-slot : goal.inode_of_slot-ino-requires-clause-slot
inode_of_slot-ino-requires-clause-slot g c = c.requires.slot

pub see_slot-requires-clause-slot : goal.see_slot-requires-clause-slot
see_slot-requires-clause-slot g c = c.part-held.ensures.long

pub see_slot-requires-clause-itself : goal.see_slot-requires-clause-itself
see_slot-requires-clause-itself g c = c.read_slot-read.ensures

pub see_slot-requires-clause-inside : goal.see_slot-requires-clause-inside
see_slot-requires-clause-inside g c = c.requires.inside

pub see_slot-requires-clause-held : goal.see_slot-requires-clause-held
see_slot-requires-clause-held g c = λ image told.
    slot_is (volume_of c.args.g.now) image c.args.block c.args.slot _ c.args.bytes.now c.inode_of_slot-ino.ensures.inverse (c.requires.held image told)
    ∙ sym c.part-held.ensures.value

pub returns : goal.returns
returns g c =
    let done = c.see_slot.ensures in
    record {
      held = subst
          (λ (n : ℕ). OnOk c.see_slot.result (ForSome (g.D.Disk.holds c.args.disk.now) (λ image. held_in c.see_slot.new.inodes ≡ gathered_both (held_in c.args.inodes.now) (of_slot (volume_of c.args.g.now) image n))))
          c.inode_of_slot-ino.ensures.value done.held;
      cause = done.cause;
      disk = done.disk;
      reads = done.reads;
    }
