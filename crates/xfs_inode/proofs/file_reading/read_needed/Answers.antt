use Rattle.std.proofs.Common.{IfOk, Option, ℕ, ◌≡◌, ◌≤◌, ◌∙◌, ap, subst, sym, option_map}
use Rattle.std.specs.Option.{ForSome}
use Rattle.xfs_geom.specs.Volumes.{volume_of}
use Rattle.xfs_disk.proofs.Reading.{reads_on}
use Rattle.xfs_disk.specs.Blocks.{Image, bytes_of_block}
use Rattle.xfs_inode.specs.Files.{contents_of}
use Rattle.xfs_inode.specs.Named.{named_top, slot_reads}
use Rattle.xfs_inode.specs.declared.files.FileRead.{FileRead}
use Rattle.xfs_inode.proofs.Causes.{caused_on, counted_on}
use Rattle.xfs_inode.proofs.NamedBlocks.{all_named, named_tree}
use Rattle.xfs_inode.proofs.file_reading.read_needed.Goals as goal

pub read_blocks-requires-clause-slot : goal.read_blocks-requires-clause-slot
read_blocks-requires-clause-slot g c = c.requires.slot

pub read_blocks-requires-clause-itself : goal.read_blocks-requires-clause-itself
read_blocks-requires-clause-itself g c = c.requires.itself

pub read_blocks-requires-clause-inside : goal.read_blocks-requires-clause-inside
read_blocks-requires-clause-inside g c = subst (λ (n : ℕ). c.args.g.now.dblocks ≤ n) (sym c.in-Ok.ensures.disk.same_size) c.requires.inside

pub read_blocks-requires-clause-tree : goal.read_blocks-requires-clause-tree
read_blocks-requires-clause-tree g c = λ image told.
    let v = volume_of c.args.g.now in
    ap (option_map contents_of) c.as_ref.ensures.value
    ∙ (c.in-Ok.ensures.read image (sym c.in-Ok.ensures.disk.same_contents ∙ told) ∙ named_tree v image c.args.ino (named_top v c.args.ino c.args.slot.now) c.args.needs.now.top c.requires.top)

pub read_blocks-requires-clause-attr_leaf : goal.read_blocks-requires-clause-attr_leaf
read_blocks-requires-clause-attr_leaf g c = c.requires.attr_leaf

pub read_blocks-requires-clause-link : goal.read_blocks-requires-clause-link
read_blocks-requires-clause-link g c = c.requires.link

pub read_blocks-requires-clause-attr_inside : goal.read_blocks-requires-clause-attr_inside
read_blocks-requires-clause-attr_inside g c = c.requires.attr_inside

pub read_blocks-requires-clause-link_inside : goal.read_blocks-requires-clause-link_inside
read_blocks-requires-clause-link_inside g c = c.requires.link_inside

pub decide_read-requires-clause-slot : goal.decide_read-requires-clause-slot
decide_read-requires-clause-slot g c = c.requires.slot

pub decide_read-requires-clause-read : goal.decide_read-requires-clause-read
decide_read-requires-clause-read g c = c.requires.itself

pub decide_read-requires-clause-attr_leaf : goal.decide_read-requires-clause-attr_leaf
decide_read-requires-clause-attr_leaf g c = tt

pub decide_read-requires-clause-link : goal.decide_read-requires-clause-link
decide_read-requires-clause-link g c = tt

pub returns-in-Err : goal.returns-in-Err
returns-in-Err g c = record { read = tt; sound = tt; cause = c.in-Err.ensures.cause; disk = c.in-Err.ensures.disk; reads = c.in-Err.ensures.reads }

pub returns-then-names_blocks : goal.returns-then-names_blocks
returns-then-names_blocks g c =
    let D = g.D.Disk in
    record {
      read = subst (λ (h : Option Image). IfOk c.read_blocks.result (λ (read : FileRead). ForSome h (λ image. read ≡ slot_reads (volume_of c.args.g.now) image c.args.ino c.args.slot.now)))
          c.in-Ok.ensures.disk.same_contents c.read_blocks.ensures.read;
      sound = c.read_blocks.ensures.sound;
      cause = caused_on (D.faults c.args.disk.now) (D.faults c.read_top.new.disk) (D.faults c.read_blocks.new.disk) c.read_blocks.result c.in-Ok.ensures.cause c.read_blocks.ensures.cause;
      disk = reads_on D.size D.holds D.write_faults D.writes D.tells_stops D.moment D.may_leave D.left_since c.args.disk.now c.read_top.new.disk c.read_blocks.new.disk c.in-Ok.ensures.disk c.read_blocks.ensures.disk;
      reads = counted_on (D.reads c.args.disk.now) (D.reads c.read_top.new.disk) (D.reads c.read_blocks.new.disk) c.args.steps.now c.read_top.new.steps c.read_blocks.new.steps c.in-Ok.ensures.reads c.read_blocks.ensures.reads;
    }

pub returns-in-Ok-decide_read : goal.returns-in-Ok-decide_read
returns-in-Ok-decide_read g c =
    let v = volume_of c.args.g.now in
    record {
      read = λ image told.
          all_named v image c.args.ino c.args.slot.now c.in-Ok-decide_read.file _ _ _ c.in-Ok-decide_read.ensures.read
          (ap (option_map contents_of) c.as_ref-2.ensures.value ∙ (c.in-Ok.ensures.read image told ∙ named_tree v image c.args.ino (named_top v c.args.ino c.args.slot.now) c.args.needs.now.top c.requires.top))
          (ap (option_map (bytes_of_block image)) (sym (c.names_blocks.ensures.attr_leaf c.if-names_blocks.false) ∙ c.requires.attr_leaf))
          (ap (option_map (bytes_of_block image)) (sym (c.names_blocks.ensures.link c.if-names_blocks.false) ∙ c.requires.link));
      sound = c.in-Ok-decide_read.ensures.sound;
      cause = c.in-Ok.ensures.cause;
      disk = c.in-Ok.ensures.disk;
      reads = c.in-Ok.ensures.reads;
    }

pub returns : goal.returns
returns g c = record { read = tt; sound = tt; cause = c.in-Ok.ensures.cause; disk = c.in-Ok.ensures.disk; reads = c.in-Ok.ensures.reads }
