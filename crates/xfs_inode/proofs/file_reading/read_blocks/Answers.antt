use Rattle.std.proofs.Common.{◌≡◌, ℕ, ◌≤◌, List, Option, length, IfSome, ◌∙◌, ap, sym, subst, option_map, arith}
use Rattle.std.proofs.lemmas.List.{length-replicate}
use Rattle.xfs_geom.specs.Volumes.{volume_of}
use Rattle.xfs_disk.proofs.Reading.{reads_on}
use Rattle.xfs_disk.specs.Blocks.{bytes_of_block}
use Rattle.xfs_inode.proofs.Causes.{counted_on, given_whole, rose_on}
use Rattle.xfs_inode.proofs.NamedBlocks.{all_named, named_bytes}
use Rattle.xfs_inode.proofs.file_reading.read_blocks.Goals as goal

pub read_named-requires-clause-inside : goal.read_named-requires-clause-inside
read_named-requires-clause-inside g c = c.requires.inside

pub read_named-requires-clause-named : goal.read_named-requires-clause-named
read_named-requires-clause-named g c = c.requires.attr_inside

pub read_named-requires-clause-block : goal.read_named-requires-clause-block
read_named-requires-clause-block g c = length-replicate {A = ℕ} 4096 0

pub read_named-requires-2-clause-inside : goal.read_named-requires-2-clause-inside
read_named-requires-2-clause-inside g c = subst (λ (n : ℕ). c.args.g.now.dblocks ≤ n) (sym c.in-Ok.ensures.disk.same_size) c.requires.inside

pub read_named-requires-2-clause-named : goal.read_named-requires-2-clause-named
read_named-requires-2-clause-named g c = c.requires.link_inside

pub read_named-requires-2-clause-block : goal.read_named-requires-2-clause-block
read_named-requires-2-clause-block g c = length-replicate {A = ℕ} 4096 0

pub decide_read-requires-clause-slot : goal.decide_read-requires-clause-slot
decide_read-requires-clause-slot g c = c.requires.slot

pub decide_read-requires-clause-read : goal.decide_read-requires-clause-read
decide_read-requires-clause-read g c = c.requires.itself

pub decide_read-requires-clause-attr_leaf : goal.decide_read-requires-clause-attr_leaf
decide_read-requires-clause-attr_leaf g c =
    subst (λ (o : Option (List ℕ)). IfSome o (λ block. length block ≡ 4096)) (sym c.given.ensures) (given_whole c.args.needs.now.attr_leaf _ c.in-Ok.ensures.whole)

pub decide_read-requires-clause-link : goal.decide_read-requires-clause-link
decide_read-requires-clause-link g c =
    subst (λ (o : Option (List ℕ)). IfSome o (λ block. length block ≡ 4096)) (sym c.given-2.ensures) (given_whole c.args.needs.now.link _ c.in-Ok-read_named.ensures.whole)

pub returns-in-Err : goal.returns-in-Err
returns-in-Err g c = record { read = tt; sound = tt; cause = c.in-Err.ensures.cause; disk = c.in-Err.ensures.disk; reads = c.in-Err.ensures.reads }

pub returns-in-Err-read_named : goal.returns-in-Err-read_named
returns-in-Err-read_named g c =
    let D = g.D.Disk in
    record {
      read = tt;
      sound = tt;
      cause = rose_on (D.faults c.args.disk.now) (D.faults c.read_named.new.disk) (D.faults c.read_named-2.new.disk) c.in-Ok.ensures.cause c.in-Err-read_named.ensures.cause;
      disk = reads_on D.size D.holds D.write_faults D.writes D.tells_stops D.moment D.may_leave D.left_since c.args.disk.now c.read_named.new.disk c.read_named-2.new.disk c.in-Ok.ensures.disk c.in-Err-read_named.ensures.disk;
      reads = counted_on (D.reads c.args.disk.now) (D.reads c.read_named.new.disk) (D.reads c.read_named-2.new.disk) c.args.steps.now c.read_named.new.steps c.read_named-2.new.steps c.in-Ok.ensures.reads c.in-Err-read_named.ensures.reads;
    }

pub returns-in-Ok-decide_read : goal.returns-in-Ok-decide_read
returns-in-Ok-decide_read g c =
    let D = g.D.Disk in
    let v = volume_of c.args.g.now in
    let first = c.in-Ok.ensures in
    let then = c.in-Ok-read_named.ensures in
    record {
      read = λ image told.
          let after_attr = first.disk.same_contents ∙ told in
          all_named v image c.args.ino c.args.slot.now c.in-Ok-decide_read.file _ _ _ c.in-Ok-decide_read.ensures.read
          (c.requires.tree image told)
          (c.given.ensures ∙ (named_bytes image c.args.needs.now.attr_leaf _ (first.bytes image told) ∙ ap (option_map (bytes_of_block image)) c.requires.attr_leaf))
          (c.given-2.ensures ∙ (named_bytes image c.args.needs.now.link _ (then.bytes image after_attr) ∙ ap (option_map (bytes_of_block image)) c.requires.link));
      sound = c.in-Ok-decide_read.ensures.sound;
      cause = let one = first.cause in let other = then.cause in omega (arith, one, other);
      disk = reads_on D.size D.holds D.write_faults D.writes D.tells_stops D.moment D.may_leave D.left_since c.args.disk.now c.read_named.new.disk c.read_named-2.new.disk first.disk then.disk;
      reads = counted_on (D.reads c.args.disk.now) (D.reads c.read_named.new.disk) (D.reads c.read_named-2.new.disk) c.args.steps.now c.read_named.new.steps c.read_named-2.new.steps first.reads then.reads;
    }

pub returns-in-Err-decide_read : goal.returns-in-Err-decide_read
returns-in-Err-decide_read g c =
    let D = g.D.Disk in
    let first = c.in-Ok.ensures in
    let then = c.in-Ok-read_named.ensures in
    record {
      read = tt;
      sound = tt;
      cause = let one = first.cause in let other = then.cause in omega (arith, one, other);
      disk = reads_on D.size D.holds D.write_faults D.writes D.tells_stops D.moment D.may_leave D.left_since c.args.disk.now c.read_named.new.disk c.read_named-2.new.disk first.disk then.disk;
      reads = counted_on (D.reads c.args.disk.now) (D.reads c.read_named.new.disk) (D.reads c.read_named-2.new.disk) c.args.steps.now c.read_named.new.steps c.read_named-2.new.steps first.reads then.reads;
    }
