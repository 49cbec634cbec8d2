use Rattle.std.proofs.Common.{ℕ, ◌≤◌, List, length, arith, refl, sym, subst}
use Rattle.xfs_mkfs.specs.Counts.{CountsReads}
use Rattle.xfs_mkfs.specs.Outcome.{IsDueMake, IsMakingCause, IsPlanned}
use Rattle.xfs_mkfs.specs.declared.files.FilesAsked.{FilesAsked}
use Rattle.xfs_mkfs.specs.declared.outcome.MakeOutcome.{MakeOutcome}
use Rattle.xfs_mkfs.proofs.Asking.{can_be_planned}
use Rattle.xfs_mkfs.proofs.Failing.{caused_placing, due_placing, reads_placing}
use Rattle.xfs_mkfs.proofs.Geometries.{first_chunk}
use Rattle.xfs_mkfs.proofs.Refusing.{caused_files, due_files, early_files, files_rise, reads_files}
use Rattle.xfs_mkfs.proofs.preparing.prepare.Goals as goal

pub plan_volume-requires-clause-chunk : goal.plan_volume-requires-clause-chunk
plan_volume-requires-clause-chunk g c = λ κs lives.
    first_chunk c.args.options.now c.args.stamp.now (g.D.Disk.size c.args.disk.now) c.in-Ok.geometry c.in-Ok.ensures.chosen

pub plan_volume-requires-clause-listed : goal.plan_volume-requires-clause-listed
plan_volume-requires-clause-listed g c = λ κs lives. can_be_planned c.args.options.now.generate c.args.options.now.proto c.in-Ok-read_files.asked c.in-Ok-read_files.ensures.asked.kind

pub returns-in-Err : goal.returns-in-Err
returns-in-Err g c =
    record {
      due = c.in-Err.ensures.due (g.L.Library.files c.args.files.now);
      early = c.in-Err.ensures.early;
      cause = c.in-Err.ensures.cause (g.L.Library.faults c.args.files.now) (g.L.Library.faults c.args.files.now);
      none = tt;
      fits = tt;
      prepared = tt;
      inside = tt;
      held = tt;
      disk = c.in-Err.ensures.disk;
      reads = c.in-Err.ensures.reads;
      looked = tt;
      faults = c.decide.ensures.faults;
      files = refl;
      library_faults = omega arith;
      unasked = λ n is. refl;
    }

pub returns-in-Err-read_files : goal.returns-in-Err-read_files
returns-in-Err-read_files g c =
    record {
      due = λ image told.
          due_files c.args.options.now c.args.stamp.now (g.L.Library.files c.args.files.now) (g.D.Disk.size c.args.disk.now) image c.in-Err-read_files.outcome
          (c.in-Ok.ensures.none image told) c.in-Err-read_files.ensures.refusal;
      early = early_files c.args.options.now (g.L.Library.files c.args.files.now) c.in-Err-read_files.outcome c.in-Err-read_files.ensures.refusal;
      cause = caused_files FilesAsked c.args.options.now (g.L.Library.files c.args.files.now) (g.D.Disk.faults c.args.disk.now) (g.D.Disk.faults c.decide.new.disk)
          (g.D.Disk.write_faults c.args.disk.now) (g.D.Disk.write_faults c.decide.new.disk) (g.L.Library.faults c.args.files.now) (g.L.Library.faults c.read_files.new.files)
          c.in-Err-read_files.outcome c.in-Err-read_files.ensures.refusal c.in-Err-read_files.ensures.cause;
      none = tt;
      fits = tt;
      prepared = tt;
      inside = tt;
      held = tt;
      disk = c.in-Ok.ensures.disk;
      reads = reads_files c.args.options.now (g.L.Library.files c.args.files.now) c.args.options.now.force (g.D.Disk.reads c.args.disk.now) (g.D.Disk.reads c.decide.new.disk)
          c.in-Err-read_files.outcome c.in-Err-read_files.ensures.refusal c.in-Ok.ensures.looked;
      looked = tt;
      faults = c.decide.ensures.faults;
      files = c.read_files.ensures.files;
      library_faults = files_rise FilesAsked (g.L.Library.faults c.args.files.now) (g.L.Library.faults c.read_files.new.files) c.in-Err-read_files.outcome c.in-Err-read_files.ensures.cause;
      unasked = c.read_files.ensures.unasked;
    }

pub returns-in-Ok-plan_volume : goal.returns-in-Ok-plan_volume
returns-in-Ok-plan_volume g c =
    record {
      due = tt;
      early = tt;
      cause = tt;
      none = c.in-Ok.ensures.none;
      fits = c.in-Ok.ensures.fits;
      prepared = record {
        asked = c.in-Ok-read_files.asked;
        volume = record { chosen = c.in-Ok.ensures.chosen; files = c.in-Ok-read_files.ensures.asked };
        room = c.in-Ok-plan_volume.ensures.room;
        rendered =
            subst (λ (label : List ℕ). IsPlanned c.in-Ok.geometry label c.args.stamp.now c.in-Ok-read_files.asked c.in-Ok-plan_volume.plan) c.bytes.ensures
            c.in-Ok-plan_volume.ensures.rendered;
      };
      inside = c.in-Ok-plan_volume.ensures.inside;
      held = c.in-Ok-plan_volume.ensures.held;
      disk = c.in-Ok.ensures.disk;
      reads = tt;
      looked = c.in-Ok.ensures.looked;
      faults = c.decide.ensures.faults;
      files = c.read_files.ensures.files;
      library_faults = c.in-Ok-read_files.ensures.cause;
      unasked = c.read_files.ensures.unasked;
    }

pub returns-in-Err-plan_volume : goal.returns-in-Err-plan_volume
returns-in-Err-plan_volume g c =
    record {
      due = λ image told.
          let size = g.D.Disk.size c.args.disk.now in
          let files = g.L.Library.files c.args.files.now in
          subst (λ (x : MakeOutcome). IsDueMake c.args.options.now c.args.stamp.now files size image x) (sym c.place_outcome.ensures.value)
          (due_placing c.args.options.now c.args.stamp.now files size image c.in-Ok.geometry c.in-Ok-read_files.asked (c.in-Ok.ensures.none image told)
          (record { chosen = c.in-Ok.ensures.chosen; files = c.in-Ok-read_files.ensures.asked }) c.in-Err-plan_volume.fault c.in-Err-plan_volume.ensures.cause);
      early = c.place_outcome.ensures.early;
      cause = subst
          (λ (x : MakeOutcome). IsMakingCause (g.D.Disk.faults c.args.disk.now) (g.D.Disk.faults c.decide.new.disk) (g.D.Disk.write_faults c.args.disk.now)
          (g.D.Disk.write_faults c.decide.new.disk) (g.L.Library.faults c.args.files.now) (g.L.Library.faults c.read_files.new.files) x)
          (sym c.place_outcome.ensures.value) (caused_placing _ _ _ _ _ _ c.in-Err-plan_volume.fault);
      none = tt;
      fits = tt;
      prepared = tt;
      inside = tt;
      held = tt;
      disk = c.in-Ok.ensures.disk;
      reads = let force = c.args.options.now.force in
          let before = g.D.Disk.reads c.args.disk.now in
          let now = g.D.Disk.reads c.decide.new.disk in
          subst (λ (x : MakeOutcome). CountsReads force before now x) (sym c.place_outcome.ensures.value)
          (reads_placing force before now c.in-Err-plan_volume.fault c.in-Ok.ensures.looked);
      looked = tt;
      faults = c.decide.ensures.faults;
      files = c.read_files.ensures.files;
      library_faults = c.in-Ok-read_files.ensures.cause;
      unasked = c.read_files.ensures.unasked;
    }

pub plan_volume-requires-clause-label : goal.plan_volume-requires-clause-label
plan_volume-requires-clause-label g c = λ κs lives. subst (λ (l : List ℕ). length l ≤ 12) (sym c.bytes.ensures) c.requires.label
