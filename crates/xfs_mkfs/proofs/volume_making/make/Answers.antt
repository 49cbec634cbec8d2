use Rattle.std.proofs.Common.{◌≡◌, ℕ, ◌≤◌, ◌⊎◌, length, Err, arith, inl, inr, sym, ap, subst, ◌∙◌}
use Rattle.xfs_disk.specs.Counts.{raised_times}
use Rattle.xfs_disk.specs.Blocks.{IsImage}
use Rattle.xfs_disk.specs.Reads.{OnlyReads}
use Rattle.xfs_render.specs.Plans.{planned}
use Rattle.xfs_mkfs.specs.Counts.{CountsBlocks, CountsReads, IsUnwritten}
use Rattle.xfs_mkfs.specs.Outcome.{IsMakingCause, IsDueMake, MakeLeaves}
use Rattle.xfs_mkfs.specs.Putting.{CountsPut, HasPutCause}
use Rattle.xfs_mkfs.specs.Stops.{IsDurableMake, StopLeaves}
use Rattle.xfs_mkfs.specs.declared.outcome.MakeOutcome.{MakeOutcome}
use Rattle.xfs_mkfs.specs.declared.volume.PutFault.{PutFault}
use Rattle.xfs_mkfs.specs.declared.volume.PutFault.TheVariants.{NoMemory}
use Rattle.xfs_mkfs.proofs.Asking.{can_be_planned}
use Rattle.xfs_mkfs.proofs.Failing.{caused_putting, counts_putting, due_putting, kept_putting, leaves_putting, plan_of, put_rises, reads_putting, stops_putting, unwritten_putting}
use Rattle.xfs_mkfs.proofs.Geometries.{first_chunk, geometry_on_disk}
use Rattle.xfs_mkfs.proofs.Guarding.{made_stopped}
use Rattle.xfs_mkfs.proofs.Unwritten.{counts_unwritten, kept_unwritten, leaves_unwritten}
use Rattle.xfs_mkfs.proofs.Volumes.{put_is_volume}
use Rattle.xfs_mkfs.proofs.volume_making.make.Goals as goal

pub put_plan-requires-clause-inside : goal.put_plan-requires-clause-inside
put_plan-requires-clause-inside g c = λ k d low.
    let size = g.D.Disk.size c.args.disk.now in
    let volume = c.in-Ok.volume in
    let inside = geometry_on_disk c.args.options.now c.args.stamp.now size volume.geometry c.in-Ok.ensures.prepared.volume.chosen c.in-Ok.ensures.fits in
    let below = c.in-Ok.ensures.inside k d low in
    omega (arith, inside, below, c.in-Ok.ensures.disk.same_size)

pub returns-in-Err : goal.returns-in-Err
returns-in-Err g c =
    record {
      due = c.in-Err.ensures.due;
      leaves = λ image told.
          leaves_unwritten c.args.options.now c.args.stamp.now (g.L.Library.files c.args.files.now) (g.D.Disk.size c.args.disk.now) image
          (g.D.Disk.holds c.prepare.new.disk) c.in-Err.outcome c.in-Err.ensures.early (c.in-Err.ensures.disk.same_contents ∙ told);
      cause = c.in-Err.ensures.cause;
      counts = counts_unwritten c.args.options.now c.args.stamp.now (g.L.Library.files c.args.files.now) (g.D.Disk.size c.args.disk.now)
          (g.D.Disk.writes c.args.disk.now) (g.D.Disk.writes c.prepare.new.disk) c.in-Err.outcome c.in-Err.ensures.early c.in-Err.ensures.disk.same_writes;
      reads = c.in-Err.ensures.reads;
      unwritten = λ is. c.in-Err.ensures.disk;
      kept = kept_unwritten (g.D.Disk.tells_stops c.args.disk.now) (g.D.Disk.holds c.prepare.new.disk) (g.D.Disk.may_leave c.prepare.new.disk) c.in-Err.outcome
          c.in-Err.ensures.early;
      stops = λ tells image told t stopped low left.
          inl ((c.in-Err.ensures.disk.past tells).nothing_new t stopped low left);
      size = c.in-Err.ensures.disk.same_size;
      faults = c.in-Err.ensures.faults;
      write_faults = omega (arith, c.in-Err.ensures.disk.same_write_faults);
      later = λ tells. (c.in-Err.ensures.disk.past tells).later;
      tells = c.in-Err.ensures.disk.tells;
      files = c.in-Err.ensures.files;
      library_faults = c.in-Err.ensures.library_faults;
      unasked = c.in-Err.ensures.unasked;
    }

pub returns-in-Ok-put_plan : goal.returns-in-Ok-put_plan
returns-in-Ok-put_plan g c =
    record {
      due = λ image told. (
        c.in-Ok.ensures.none image told,
        record {
          geometry = c.in-Ok.volume.geometry;
          asked = c.in-Ok.ensures.prepared.asked;
          volume = c.in-Ok.ensures.prepared.volume;
          room = c.in-Ok.ensures.prepared.room;
          is = c.summary_of-summary.ensures;
        },
      );
      leaves = λ image told.
          let size = g.D.Disk.size c.args.disk.now in
          let volume = c.in-Ok.volume in
          let is = c.in-Ok.ensures.prepared in
          let put = c.in-Ok-put_plan.ensures.done image (c.in-Ok.ensures.disk.same_contents ∙ told) in
          let same : g.D.Disk.size c.put_plan.new.disk ≡ size = c.in-Ok-put_plan.ensures.size ∙ c.in-Ok.ensures.disk.same_size in
          record {
            geometry = volume.geometry;
            asked = is.asked;
            volume_asked = is.volume;
            is = c.summary_of-summary.ensures;
            plan = volume.plan;
            planned = is.rendered;
            put = put;
            volume =
                put_is_volume volume.geometry is.rendered.sector c.args.stamp.now is.asked volume.plan size image (g.D.Disk.holds c.put_plan.new.disk) is.rendered.is
                (can_be_planned c.args.options.now.generate c.args.options.now.proto is.asked is.volume.files.kind) is.room
                (first_chunk c.args.options.now c.args.stamp.now size volume.geometry is.volume.chosen) (g.met.D.Disk.shape c.args.disk.now image told)
                (geometry_on_disk c.args.options.now c.args.stamp.now size volume.geometry is.volume.chosen c.in-Ok.ensures.fits)
                c.in-Ok.ensures.inside put
                (λ held shown. subst (λ (n : ℕ). IsImage n held) same (g.met.D.Disk.shape c.put_plan.new.disk held shown));
          };
      cause = tt;
      counts = let size = g.D.Disk.size c.args.disk.now in
          let volume = c.in-Ok.volume in
          record {
            plan = volume.plan;
            due = plan_of c.args.options.now c.args.stamp.now (g.L.Library.files c.args.files.now) size volume.geometry volume.plan c.in-Ok.ensures.prepared;
            counted = c.in-Ok-put_plan.ensures.counted ∙ ap (raised_times (length (planned volume.plan))) c.in-Ok.ensures.disk.same_writes;
          };
      reads = c.in-Ok-put_plan.ensures.reads ∙ c.in-Ok.ensures.looked;
      unwritten = λ is. absurd is;
      kept = λ tells. c.in-Ok-put_plan.ensures.kept (c.in-Ok.ensures.disk.tells tells);
      stops = λ tells image told t stopped low left.
          let volume = c.in-Ok.volume in
          let past = c.in-Ok.ensures.disk.past tells in
          let later = past.later in
          elim
          (c.in-Ok-put_plan.ensures.stops (c.in-Ok.ensures.disk.tells tells) image (c.in-Ok.ensures.disk.same_contents ∙ told) t stopped
          (omega (arith, low, later)) left) [
            | inl was ↦ inl (past.nothing_new t stopped low was)
            | inr put ↦
                inr (made_stopped c.args.options.now c.args.stamp.now (g.L.Library.files c.args.files.now) (g.D.Disk.size c.args.disk.now) image stopped
                volume.geometry volume.plan c.in-Ok.ensures.prepared put)
          ];
      size = c.in-Ok-put_plan.ensures.size ∙ c.in-Ok.ensures.disk.same_size;
      faults = omega (arith, c.in-Ok-put_plan.ensures.faults, c.in-Ok.ensures.faults);
      write_faults = subst (λ (n : ℕ). n ≤ g.D.Disk.write_faults c.put_plan.new.disk) c.in-Ok.ensures.disk.same_write_faults c.in-Ok-put_plan.ensures.cause;
      later = λ tells.
          let past = c.in-Ok.ensures.disk.past tells in
          let read = past.later in
          let put = c.in-Ok-put_plan.ensures.later (c.in-Ok.ensures.disk.tells tells) in
          omega (arith, read, put);
      tells = λ tells. c.in-Ok-put_plan.ensures.tells (c.in-Ok.ensures.disk.tells tells);
      files = c.in-Ok.ensures.files;
      library_faults = c.in-Ok.ensures.library_faults;
      unasked = c.in-Ok.ensures.unasked;
    }

pub returns-in-Err-put_plan : goal.returns-in-Err-put_plan
returns-in-Err-put_plan g c =
    record {
      due = λ image told.
          let size = g.D.Disk.size c.args.disk.now in
          let files = g.L.Library.files c.args.files.now in
          subst (λ (x : MakeOutcome). IsDueMake c.args.options.now c.args.stamp.now files size image x) (sym c.put_outcome.ensures)
          (due_putting c.args.options.now c.args.stamp.now files size image c.in-Ok.volume.geometry c.in-Ok.volume.plan (c.in-Ok.ensures.none image told)
          c.in-Ok.ensures.prepared c.in-Err-put_plan.fault);
      leaves = λ image told.
          let size = g.D.Disk.size c.args.disk.now in
          let files = g.L.Library.files c.args.files.now in
          subst (λ (x : MakeOutcome). MakeLeaves c.args.options.now c.args.stamp.now files size image (g.D.Disk.holds c.put_plan.new.disk) x) (sym c.put_outcome.ensures)
          (leaves_putting c.args.options.now c.args.stamp.now files size image (g.D.Disk.holds c.put_plan.new.disk) c.in-Ok.volume.geometry c.in-Ok.volume.plan
          c.in-Ok.ensures.prepared c.in-Err-put_plan.fault (c.in-Err-put_plan.ensures.failed image (c.in-Ok.ensures.disk.same_contents ∙ told)));
      cause = subst
          (λ (x : MakeOutcome). IsMakingCause (g.D.Disk.faults c.args.disk.now) (g.D.Disk.faults c.put_plan.new.disk) (g.D.Disk.write_faults c.args.disk.now)
          (g.D.Disk.write_faults c.put_plan.new.disk) (g.L.Library.faults c.args.files.now) (g.L.Library.faults c.prepare.new.files) x)
          (sym c.put_outcome.ensures)
          (caused_putting _ _ _ _ _ _ c.in-Err-put_plan.fault
          (subst (λ (before : ℕ). HasPutCause before (g.D.Disk.write_faults c.put_plan.new.disk) (Err c.in-Err-put_plan.fault)) c.in-Ok.ensures.disk.same_write_faults
          c.in-Err-put_plan.ensures.cause));
      counts = let size = g.D.Disk.size c.args.disk.now in
          let files = g.L.Library.files c.args.files.now in
          let volume = c.in-Ok.volume in
          let before = g.D.Disk.writes c.args.disk.now in
          let now = g.D.Disk.writes c.put_plan.new.disk in
          let fault = c.in-Err-put_plan.fault in
          subst (λ (x : MakeOutcome). CountsBlocks c.args.options.now c.args.stamp.now files size before now x) (sym c.put_outcome.ensures)
          (counts_putting c.args.options.now c.args.stamp.now files size before now volume.plan
          (plan_of c.args.options.now c.args.stamp.now files size volume.geometry volume.plan c.in-Ok.ensures.prepared) fault
          (subst (λ (b : ℕ). CountsPut volume.plan b now (Err fault)) c.in-Ok.ensures.disk.same_writes c.in-Err-put_plan.ensures.counted));
      reads = let force = c.args.options.now.force in
          let before = g.D.Disk.reads c.args.disk.now in
          let now = g.D.Disk.reads c.put_plan.new.disk in
          subst (λ (x : MakeOutcome). CountsReads force before now x) (sym c.put_outcome.ensures)
          (reads_putting force before now c.in-Err-put_plan.fault (c.in-Err-put_plan.ensures.reads ∙ c.in-Ok.ensures.looked));
      unwritten = λ is.
          let fault = c.in-Err-put_plan.fault in
          let none : fault ≡ NoMemory = unwritten_putting fault (subst IsUnwritten c.put_outcome.ensures is) in
          let same : c.put_plan.new.disk ≡ c.prepare.new.disk = c.in-Err-put_plan.ensures.untouched (ap (λ (f : PutFault). Err f) none) in
          subst
          (λ (d : g.row.D.Denot). OnlyReads g.D.Disk.size g.D.Disk.holds g.D.Disk.write_faults g.D.Disk.writes g.D.Disk.tells_stops g.D.Disk.moment
          g.D.Disk.may_leave g.D.Disk.left_since c.args.disk.now d)
          (sym same) c.in-Ok.ensures.disk;
      kept = let tells = g.D.Disk.tells_stops c.args.disk.now in
          let now = g.D.Disk.holds c.put_plan.new.disk in
          let may_leave = g.D.Disk.may_leave c.put_plan.new.disk in
          subst (λ (x : MakeOutcome). IsDurableMake tells now may_leave x) (sym c.put_outcome.ensures) (kept_putting tells now may_leave c.in-Err-put_plan.fault);
      stops = λ tells image told t stopped low left.
          let o = c.args.options.now in
          let stamp = c.args.stamp.now in
          let size = g.D.Disk.size c.args.disk.now in
          let files = g.L.Library.files c.args.files.now in
          let volume = c.in-Ok.volume in
          let past = c.in-Ok.ensures.disk.past tells in
          let later = past.later in
          let before = g.D.Disk.left_since c.args.disk.now t stopped in
          let now = g.D.Disk.left_since c.put_plan.new.disk t stopped in
          let put =
          c.in-Err-put_plan.ensures.stops (c.in-Ok.ensures.disk.tells tells) image (c.in-Ok.ensures.disk.same_contents ∙ told) t stopped
          (omega (arith, low, later)) left in
          subst (λ (x : MakeOutcome). before ⊎ StopLeaves o stamp files size image stopped x) (sym c.put_outcome.ensures)
          (stops_putting o stamp files size image stopped c.in-Err-put_plan.fault before now
          (λ none it. past.nothing_new t stopped low
          (subst (λ (d : g.row.D.Denot). g.D.Disk.left_since d t stopped) (c.in-Err-put_plan.ensures.untouched (ap (λ (f : PutFault). Err f) none)) it))
          (λ it. elim put [
            | inl was ↦ inl (past.nothing_new t stopped low was)
            | inr of ↦ inr (made_stopped o stamp files size image stopped volume.geometry volume.plan c.in-Ok.ensures.prepared of)
          ])
          left);
      size = c.in-Err-put_plan.ensures.size ∙ c.in-Ok.ensures.disk.same_size;
      faults = omega (arith, c.in-Err-put_plan.ensures.faults, c.in-Ok.ensures.faults);
      write_faults = let before = g.D.Disk.write_faults c.prepare.new.disk in
          let now = g.D.Disk.write_faults c.put_plan.new.disk in
          let rises : before ≤ now = put_rises before now c.in-Err-put_plan.fault c.in-Err-put_plan.ensures.cause in
          subst (λ (n : ℕ). n ≤ now) c.in-Ok.ensures.disk.same_write_faults rises;
      later = λ tells.
          let past = c.in-Ok.ensures.disk.past tells in
          let read = past.later in
          let put = c.in-Err-put_plan.ensures.later (c.in-Ok.ensures.disk.tells tells) in
          omega (arith, read, put);
      tells = λ tells. c.in-Err-put_plan.ensures.tells (c.in-Ok.ensures.disk.tells tells);
      files = c.in-Ok.ensures.files;
      library_faults = c.in-Ok.ensures.library_faults;
      unasked = c.in-Ok.ensures.unasked;
    }

pub prepare-requires-clause-label : goal.prepare-requires-clause-label
prepare-requires-clause-label g c = λ κs lives. c.requires.label

pub prepare-requires-clause-generate : goal.prepare-requires-clause-generate
prepare-requires-clause-generate g c = λ κs lives. c.requires.generate

pub put_plan-requires-clause-held : goal.put_plan-requires-clause-held
put_plan-requires-clause-held g c = c.in-Ok.ensures.held
