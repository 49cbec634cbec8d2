-- The rows of the plan are written.
use Rattle.std.proofs.Common.{◌+◌, ℕ, length, refl, arith}
use Rattle.xfs_mend.proofs.Written.{left_all, left_part, left_stopped}
use Rattle.xfs_mend.specs.declared.outcome.Outcome.TheVariants as out
use Rattle.xfs_mend.specs.declared.outcome.Summary.TheVariants.{Rebuilt as Anew}
use Rattle.xfs_mend.proofs.rebuilding.write_rebuilt.Goals as goal

pub returns-in-Ok : goal.returns-in-Ok
returns-in-Ok g c =
    let D = g.D.Disk in
    let r = c.args.rebuilt in
    let first = c.as_slice-first.result.now in
    let last = c.as_slice-last.result.now in
    let blocks : ℕ = length first + length last in
    record {
      leaves = λ image told. left_all r first last image (D.holds c.write_parts.new.disk) blocks c.args.orphans c.as_slice-first.ensures c.as_slice-last.ensures
          (c.in-Ok.ensures.done image told) refl;
      stops = λ tells image told t stopped low left.
          left_stopped r first last image (out.Repaired (Anew blocks r.kept r.cleared c.args.orphans)) stopped (D.left_since c.args.disk.now t stopped)
          c.as_slice-first.ensures c.as_slice-last.ensures refl (c.in-Ok.ensures.stops tells image told t stopped low left);
      possible = λ o repairs. repairs;
      ends = record {
        cause = tt;
        kept = c.in-Ok.ensures.kept;
        counted = c.in-Ok.ensures.counted;
        only_read = λ says. cc;
        same_size = c.in-Ok.ensures.size;
        more_faults = omega (arith, c.in-Ok.ensures.faults);
        more_write_faults = c.in-Ok.ensures.cause;
        tells = c.in-Ok.ensures.tells;
        later = c.in-Ok.ensures.later;
      };
    }

pub returns : goal.returns
returns g c =
    let D = g.D.Disk in
    let r = c.args.rebuilt in
    let first = c.as_slice-first.result.now in
    let last = c.as_slice-last.result.now in
    let n = c.in-Err.written in
    record {
      leaves = λ image told. left_part r first last image (D.holds c.write_parts.new.disk) n c.args.orphans c.as_slice-first.ensures c.as_slice-last.ensures
          c.in-Err.ensures.most (c.in-Err.ensures.partly image told);
      stops = λ tells image told t stopped low left.
          left_stopped r first last image (out.WriteFault n) stopped (D.left_since c.args.disk.now t stopped)
          c.as_slice-first.ensures c.as_slice-last.ensures refl (c.in-Err.ensures.stops tells image told t stopped low left);
      possible = λ o repairs. repairs;
      ends = record {
        cause = c.in-Err.ensures.cause;
        kept = tt;
        counted = c.in-Err.ensures.counted;
        only_read = λ says. cc;
        same_size = c.in-Err.ensures.size;
        more_faults = omega (arith, c.in-Err.ensures.faults);
        more_write_faults = (let rose = c.in-Err.ensures.cause in rose.0);
        tells = c.in-Err.ensures.tells;
        later = c.in-Err.ensures.later;
      };
    }
