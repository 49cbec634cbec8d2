use Rattle.std.proofs.Common.{◌≡◌, ◌≤◌, ◌<◌, ℕ, List, ◌∙◌, get_or, length, sym, subst, rules, Option}
use Rattle.std.proofs.lemmas.List.{with_items_is}
use Rattle.xfs_disk.specs.Blocks.{Image}
use Rattle.xfs_disk.proofs.Reading.{reads_on}
use Rattle.xfs_geom.specs.Volumes.{volume_of}
use Rattle.xfs_rounds.specs.Settled.{AreSettled, IsTold}
use Rattle.xfs_rounds.specs.Named.{IsAtHand}
use Rattle.xfs_rounds.specs.Causes.{IsRoundCause}
use Rattle.xfs_rounds.specs.Judged.{AreListed}
use Rattle.xfs_rounds.specs.declared.pieces.BlockParts.{BlockParts}
use Rattle.xfs_slots.proofs.Causes.{caused_on}
use Rattle.xfs_scan.proofs.Counts.{counted, later, rose_on}
use Rattle.xfs_scan.proofs.Rounds.{all_below, at_hand}
use Rattle.xfs_scan.proofs.scan.scan_round.Goals as goal

pub take_round-requires-clause-settled : goal.take_round-requires-clause-settled
take_round-requires-clause-settled g c =
    let v = volume_of c.args.g.now in
    let bank = c.in-Ok.bank in
    let round = c.args.round.now in
    let vec = c.in-Ok-judge_round.judged in
    let left = c.settle_round.new.judged in
    let long : length left ≡ vec.len = search rules in
    subst (AreSettled v (IsTold (g.D.Disk.holds c.settle_round.new.disk)) bank round) (sym (with_items_is vec left long))
    (subst (λ (held : Option Image). AreSettled v (IsTold held) bank round left) (sym c.in-Ok-settle_round.ensures.disk.same_contents)
    (c.in-Ok-settle_round.ensures.settled round (subst (AreListed round) (sym c.deref_mut.ensures.value) c.in-Ok-judge_round.ensures.listed)))

pub returns-in-Ok-take_round : goal.returns-in-Ok-take_round
returns-in-Ok-take_round g c =
    let D = g.D.Disk in
    record {
      slots = λ image told. c.in-Ok-take_round.ensures.facts image (c.settle_round.ensures.disk.same_contents ∙ (c.reload_round.ensures.disk.same_contents ∙ told));
      inodes = λ image told. c.in-Ok-take_round.ensures.held image (c.settle_round.ensures.disk.same_contents ∙ (c.reload_round.ensures.disk.same_contents ∙ told));
      bank = λ image told. c.in-Ok.ensures.held image told;
      cause = later (D.faults c.args.disk.now) (D.faults c.settle_round.new.disk) (D.faults c.take_round.new.disk) (later (D.faults c.args.disk.now) (D.faults c.reload_round.new.disk) (D.faults c.settle_round.new.disk) c.in-Ok.ensures.cause c.in-Ok-settle_round.ensures.cause) c.in-Ok-take_round.ensures.cause;
      disk = reads_on D.size D.holds D.write_faults D.writes D.tells_stops D.moment D.may_leave D.left_since c.args.disk.now c.reload_round.new.disk c.take_round.new.disk c.reload_round.ensures.disk
          (reads_on D.size D.holds D.write_faults D.writes D.tells_stops D.moment D.may_leave D.left_since c.reload_round.new.disk c.settle_round.new.disk c.take_round.new.disk
          c.settle_round.ensures.disk c.take_round.ensures.disk);
      reads = counted (D.reads c.args.disk.now) (D.reads c.settle_round.new.disk) (D.reads c.take_round.new.disk) c.args.steps.now c.settle_round.new.steps c.take_round.new.steps
          (counted (D.reads c.args.disk.now) (D.reads c.reload_round.new.disk) (D.reads c.settle_round.new.disk) c.args.steps.now c.reload_round.new.steps c.settle_round.new.steps c.reload_round.ensures.reads c.settle_round.ensures.reads) c.take_round.ensures.reads;
    }

pub reload_round-requires : goal.reload_round-requires
reload_round-requires g c = record { inside = all_below c.args.g.now.dblocks (g.D.Disk.size c.args.disk.now) c.args.round.now c.requires.inside c.requires.volume }

pub judge_round-requires-clause-volume : goal.judge_round-requires-clause-volume
judge_round-requires-clause-volume g c = λ κs lives. c.requires.volume

pub judge_round-requires-clause-bank : goal.judge_round-requires-clause-bank
judge_round-requires-clause-bank g c = λ κs lives. c.in-Ok.ensures.size

pub settle_round-requires-clause-inside : goal.settle_round-requires-clause-inside
settle_round-requires-clause-inside g c = λ κs lives. subst (λ (n : ℕ). c.args.g.now.dblocks ≤ n) (sym c.reload_round.ensures.disk.same_size) c.requires.inside

pub settle_round-requires-clause-judged : goal.settle_round-requires-clause-judged
settle_round-requires-clause-judged g c = λ κs lives.
    subst (λ (blocks : List BlockParts). (i : ℕ) (d : BlockParts) → i < length blocks → IsAtHand (volume_of c.args.g.now) c.args.g.now.dblocks c.in-Ok.bank (get_or blocks i d)) (sym c.deref_mut.ensures.value)
    (at_hand (volume_of c.args.g.now) c.args.g.now.dblocks c.in-Ok.bank c.args.round.now c.in-Ok-judge_round.judged.items c.in-Ok-judge_round.ensures c.requires.volume c.in-Ok.ensures.size)

pub take_round-requires-clause-inside : goal.take_round-requires-clause-inside
take_round-requires-clause-inside g c = subst (λ (n : ℕ). c.args.g.now.dblocks ≤ n) (sym (c.settle_round.ensures.disk.same_size ∙ c.reload_round.ensures.disk.same_size)) c.requires.inside

pub take_round-requires-clause-volume : goal.take_round-requires-clause-volume
take_round-requires-clause-volume g c = c.requires.volume

pub take_round-requires-clause-bank : goal.take_round-requires-clause-bank
take_round-requires-clause-bank g c = c.in-Ok.ensures.size

pub take_round-requires-clause-held : goal.take_round-requires-clause-held
take_round-requires-clause-held g c = λ image told. c.in-Ok.ensures.held image (sym (c.settle_round.ensures.disk.same_contents ∙ c.reload_round.ensures.disk.same_contents) ∙ told)

pub returns-in-Err-ReadFault : goal.returns-in-Err-ReadFault
returns-in-Err-ReadFault g c =
    let D = g.D.Disk in
    record {
      slots = tt;
      inodes = tt;
      bank = tt;
      cause = subst (IsRoundCause (D.faults c.args.disk.now) (D.faults c.reload_round.new.disk)) c.in-Err-ReadFault.field-0-is c.in-Err-ReadFault.ensures.cause;
      disk = c.reload_round.ensures.disk;
      reads = c.reload_round.ensures.reads;
    }

pub returns-in-Err-NoMemory : goal.returns-in-Err-NoMemory
returns-in-Err-NoMemory g c =
    let D = g.D.Disk in
    record {
      slots = tt;
      inodes = tt;
      bank = tt;
      cause = subst (IsRoundCause (D.faults c.args.disk.now) (D.faults c.reload_round.new.disk)) c.in-Err-NoMemory.field-0-is c.in-Err-NoMemory.ensures.cause;
      disk = c.reload_round.ensures.disk;
      reads = c.reload_round.ensures.reads;
    }

pub returns-in-Err : goal.returns-in-Err
returns-in-Err g c = record {
  slots = tt;
  inodes = tt;
  bank = tt;
  cause = c.in-Ok.ensures.cause;
  disk = c.reload_round.ensures.disk;
  reads = c.reload_round.ensures.reads;
}

pub returns-in-Err-ReadFault-settle_round : goal.returns-in-Err-ReadFault-settle_round
returns-in-Err-ReadFault-settle_round g c =
    let D = g.D.Disk in
    let cause = subst (IsRoundCause (D.faults c.reload_round.new.disk) (D.faults c.settle_round.new.disk)) c.in-Err-ReadFault-settle_round.field-0-is c.in-Err-ReadFault-settle_round.ensures.cause in
    record {
      slots = tt;
      inodes = tt;
      bank = tt;
      cause = rose_on (D.faults c.args.disk.now) (D.faults c.reload_round.new.disk) (D.faults c.settle_round.new.disk) c.in-Ok.ensures.cause cause;
      disk = reads_on D.size D.holds D.write_faults D.writes D.tells_stops D.moment D.may_leave D.left_since c.args.disk.now c.reload_round.new.disk c.settle_round.new.disk c.reload_round.ensures.disk c.settle_round.ensures.disk;
      reads = counted (D.reads c.args.disk.now) (D.reads c.reload_round.new.disk) (D.reads c.settle_round.new.disk) c.args.steps.now c.reload_round.new.steps c.settle_round.new.steps c.reload_round.ensures.reads c.settle_round.ensures.reads;
    }

pub returns-in-Err-NoMemory-settle_round : goal.returns-in-Err-NoMemory-settle_round
returns-in-Err-NoMemory-settle_round g c =
    let D = g.D.Disk in
    let cause = subst (IsRoundCause (D.faults c.reload_round.new.disk) (D.faults c.settle_round.new.disk)) c.in-Err-NoMemory-settle_round.field-0-is c.in-Err-NoMemory-settle_round.ensures.cause in
    record {
      slots = tt;
      inodes = tt;
      bank = tt;
      cause = later (D.faults c.args.disk.now) (D.faults c.reload_round.new.disk) (D.faults c.settle_round.new.disk) c.in-Ok.ensures.cause cause;
      disk = reads_on D.size D.holds D.write_faults D.writes D.tells_stops D.moment D.may_leave D.left_since c.args.disk.now c.reload_round.new.disk c.settle_round.new.disk c.reload_round.ensures.disk c.settle_round.ensures.disk;
      reads = counted (D.reads c.args.disk.now) (D.reads c.reload_round.new.disk) (D.reads c.settle_round.new.disk) c.args.steps.now c.reload_round.new.steps c.settle_round.new.steps c.reload_round.ensures.reads c.settle_round.ensures.reads;
    }

pub returns-in-Err-take_round : goal.returns-in-Err-take_round
returns-in-Err-take_round g c =
    let D = g.D.Disk in
    record {
      slots = tt;
      inodes = tt;
      bank = tt;
      cause = caused_on (D.faults c.args.disk.now) (D.faults c.settle_round.new.disk) (D.faults c.take_round.new.disk) c.in-Err-take_round.fault
          (later (D.faults c.args.disk.now) (D.faults c.reload_round.new.disk) (D.faults c.settle_round.new.disk) c.in-Ok.ensures.cause c.in-Ok-settle_round.ensures.cause) c.in-Err-take_round.ensures.cause;
      disk = reads_on D.size D.holds D.write_faults D.writes D.tells_stops D.moment D.may_leave D.left_since c.args.disk.now c.reload_round.new.disk c.take_round.new.disk c.reload_round.ensures.disk
          (reads_on D.size D.holds D.write_faults D.writes D.tells_stops D.moment D.may_leave D.left_since c.reload_round.new.disk c.settle_round.new.disk c.take_round.new.disk c.settle_round.ensures.disk c.take_round.ensures.disk);
      reads = counted (D.reads c.args.disk.now) (D.reads c.settle_round.new.disk) (D.reads c.take_round.new.disk) c.args.steps.now c.settle_round.new.steps c.take_round.new.steps
          (counted (D.reads c.args.disk.now) (D.reads c.reload_round.new.disk) (D.reads c.settle_round.new.disk) c.args.steps.now c.reload_round.new.steps c.settle_round.new.steps c.reload_round.ensures.reads c.settle_round.ensures.reads) c.take_round.ensures.reads;
    }
