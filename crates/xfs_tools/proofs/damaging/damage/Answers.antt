-- The root is found, and then written as zeros.
use Rattle.std.proofs.Common.{◌<◌, ℕ, inl, ap, sym, ◌∙◌, subst, arith}
use Rattle.xfs_disk.specs.Counts.{raised_times}
use Rattle.xfs_disk.specs.Faults.{Rose}
use Rattle.xfs_mkfs.specs.Roots.{inode_root}
use Rattle.xfs_tools.proofs.Zeros.{partly_at, stopped_at}
use Rattle.xfs_tools.proofs.damaging.damage.Goals as goal

pub returns-in-Err : goal.returns-in-Err
returns-in-Err g c =
    let disk = c.in-Err.ensures.disk in
    record {
      ended = record {
        ends = record { cause = c.in-Err.ensures.cause; count = c.faults.ensures.count; unwritten = disk };
        stops = λ tells image told t stopped low left. inl ((disk.past tells).nothing_new t stopped low left);
        tells = disk.tells;
        later = λ tells. (disk.past tells).later;
      };
      size = disk.same_size;
    }

pub returns-in-Err-zeros : goal.returns-in-Err-zeros
returns-in-Err-zeros g c =
    let disk = c.in-Ok.ensures.disk in
    record {
      ended = record {
        ends = disk;
        stops = λ tells image told t stopped low left. inl ((disk.past tells).nothing_new t stopped low left);
        tells = disk.tells;
        later = λ tells. (disk.past tells).later;
      };
      size = disk.same_size;
    }

pub write_zeros-requires : goal.write_zeros-requires
write_zeros-requires g c = record {
  zeros = c.in-Ok-zeros.ensures;
  inside = subst (λ (n : ℕ). c.in-Ok.place < n) (sym c.in-Ok.ensures.disk.same_size) c.in-Ok.ensures.inside;
}

pub returns-in-Ok-write_zeros : goal.returns-in-Ok-write_zeros
returns-in-Ok-write_zeros g c =
    let D = g.D.Disk in
    let old = c.args.disk.now in
    let place = c.in-Ok.place in
    let disk = c.in-Ok.ensures.disk in
    let is = c.in-Ok-write_zeros.ensures in
    record {
      ended = record {
        ends = record {
          inside = c.in-Ok.ensures.inside;
          root = c.in-Ok.ensures.root;
          held = λ image told. is.done image (disk.same_contents ∙ told);
          counted = is.counted ∙ ap (raised_times 1) disk.same_writes;
          kept = λ tells. is.kept (disk.tells tells);
        };
        stops = λ tells image told t stopped low left.
            let past = disk.past tells in
            stopped_at place (inode_root image) image stopped (D.left_since c.find_root.new.disk t stopped) (D.left_since old t stopped) (c.in-Ok.ensures.root image told)
            (λ was. past.nothing_new t stopped low was)
            (is.stops (disk.tells tells) image (disk.same_contents ∙ told) t stopped (let later = past.later in omega (arith, low, later)) left);
        tells = λ tells. is.tells (disk.tells tells);
        later = λ tells. let first = (disk.past tells).later in let then = is.later (disk.tells tells) in omega (arith, first, then);
      };
      size = is.size ∙ disk.same_size;
    }

pub returns : goal.returns
returns g c =
    let D = g.D.Disk in
    let old = c.args.disk.now in
    let place = c.in-Ok.place in
    let n = c.in-Err-write_zeros.written in
    let disk = c.in-Ok.ensures.disk in
    let is = c.in-Err-write_zeros.ensures in
    record {
      ended = record {
        ends = record {
          cause = subst (λ (before : ℕ). Rose before (D.write_faults c.write_zeros.new.disk)) disk.same_write_faults is.cause;
          partly = λ image told. partly_at place (inode_root image) image n (D.holds c.write_zeros.new.disk) (c.in-Ok.ensures.root image told) (is.partly image (disk.same_contents ∙ told));
          most = is.most;
          counted = is.counted ∙ ap (raised_times n) disk.same_writes;
        };
        stops = λ tells image told t stopped low left.
            let past = disk.past tells in
            stopped_at place (inode_root image) image stopped (D.left_since c.find_root.new.disk t stopped) (D.left_since old t stopped) (c.in-Ok.ensures.root image told)
            (λ was. past.nothing_new t stopped low was)
            (is.stops (disk.tells tells) image (disk.same_contents ∙ told) t stopped (let later = past.later in omega (arith, low, later)) left);
        tells = λ tells. is.tells (disk.tells tells);
        later = λ tells. let first = (disk.past tells).later in let then = is.later (disk.tells tells) in omega (arith, first, then);
      };
      size = is.size ∙ disk.same_size;
    }
