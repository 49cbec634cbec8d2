-- The size is asked for, and then the header is read.
use Rattle.std.proofs.Common.{inl, inr, ◌∙◌, arith}
use Rattle.xfs_disk.proofs.Reading.{reads_on}
use Rattle.xfs_tools.proofs.Rooting.{inside_root, outside_root, root_within, rose_later}
use Rattle.xfs_tools.proofs.damaging.find_root.Goals as goal

pub returns-in-Err : goal.returns-in-Err
returns-in-Err g c = record { inside = tt; root = tt; cause = inl c.in-Err.ensures.cause; disk = c.in-Err.ensures.disk }

pub returns-then-blocks-eq0 : goal.returns-then-blocks-eq0
returns-then-blocks-eq0 g c = record {
  inside = tt;
  root = tt;
  cause = inr (λ image told. omega (arith, c.in-Ok.ensures.count, c.if-blocks-eq0.true));
  disk = c.in-Ok.ensures.disk;
}

pub read_root-requires : goal.read_root-requires
read_root-requires g c = record { some = omega (arith, c.in-Ok.ensures.count, c.in-Ok.ensures.disk.same_size, c.if-blocks-eq0.false) }

pub returns-in-Ok-read_root : goal.returns-in-Ok-read_root
returns-in-Ok-read_root g c =
    let D = g.D.Disk in
    let old = c.args.disk.now in
    let disk = c.in-Ok.ensures.disk in
    let root = c.in-Ok-read_root.root in
    let r = c.within.result in
    record {
      inside = inside_root root c.in-Ok.blocks (D.size old) r c.in-Ok.ensures.count c.within.ensures;
      root = root_within root c.in-Ok.blocks (D.holds old) r c.within.ensures (λ image told. c.in-Ok-read_root.ensures.root image (disk.same_contents ∙ told));
      cause = outside_root root c.in-Ok.blocks (D.size old) (D.faults old) (D.faults c.read_root.new.disk) (D.holds old) r c.in-Ok.ensures.count c.within.ensures
          (λ image told. c.in-Ok-read_root.ensures.root image (disk.same_contents ∙ told));
      disk = reads_on D.size D.holds D.write_faults D.writes D.tells_stops D.moment D.may_leave D.left_since old c.count_blocks.new.disk c.read_root.new.disk disk c.in-Ok-read_root.ensures.disk;
    }

pub returns-in-Err-read_root : goal.returns-in-Err-read_root
returns-in-Err-read_root g c =
    let D = g.D.Disk in
    let old = c.args.disk.now in
    record {
      inside = tt;
      root = tt;
      cause = inl (rose_later (D.faults old) (D.faults c.count_blocks.new.disk) (D.faults c.read_root.new.disk) c.in-Ok.ensures.cause c.in-Err-read_root.ensures.cause);
      disk = reads_on D.size D.holds D.write_faults D.writes D.tells_stops D.moment D.may_leave D.left_since old c.count_blocks.new.disk c.read_root.new.disk c.in-Ok.ensures.disk c.in-Err-read_root.ensures.disk;
    }
