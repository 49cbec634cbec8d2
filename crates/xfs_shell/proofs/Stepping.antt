-- Commands over any disk, one behind the other.
use Rattle.std.proofs.Common.{◌≡◌, ℕ, suc, ◌+◌, ◌≤◌, Bool, true, false, not, ◌&&◌, List, Option, Some, None, Result, Ok, Err, refl, sym, ◌∙◌, ap, inl, inr, subst, arith}
use Rattle.std.proofs.lemmas.Bool.{true≢false}
use Rattle.xfs_disk.specs.Blocks.{Image}
use Rattle.xfs_disk.specs.Counts.{raised, raised_times}
use Rattle.xfs_disk.specs.Reads.{OnlyReads}
use Rattle.xfs_disk.proofs.Reading.{reads_none, reads_on}
use Rattle.xfs_disk.specs.declared.failed.NoMemory.{NoMemory}
use Rattle.xfs_commands.specs.declared.cursor.Verdict.{Verdict}
use Rattle.xfs_shell.specs.Sessions.{stopped}
use Rattle.xfs_shell.specs.Shells.{IsEarly, RunsOver, finished_in, most_finished, outcome_behind, stopped_outcome, blocks_written}
use Rattle.xfs_shell.specs.Steps.{CountsStep, HasStopCause, IsDurable, IsOneRead, IsStep, IsWritten, stop_told, stop_of_line}
use Rattle.xfs_shell.specs.declared.outcomes.ShellOutcome.{ShellOutcome}
use Rattle.xfs_shell.specs.declared.outcomes.ShellOutcome.TheVariants as outcome
use Rattle.xfs_shell.specs.declared.running.LineEnd.{LineEnd}
use Rattle.xfs_shell.specs.declared.running.LineEnd.TheVariants as end
use Rattle.xfs_shell.specs.declared.session.Stop.{Stop}
use Rattle.xfs_shell.specs.declared.session.Stop.TheVariants as stop

-- so many commands were run over a disk
pub record AreRun {D : Type 0} (size : D → ℕ) (holds : D → Option Image) (reads writes write_faults : D → ℕ) (tells_stops : D → Type 0)
    (moment : D → ℕ) (may_leave : D → ℕ → List ℕ → Type 0) (left_since : D → ℕ → Image → Type 0) (may : Bool) (k : ℕ) (old new : D) : Type 0 where
  pub same_size : size new ≡ size old
  pub tells : tells_stops old → tells_stops new
  pub few_reads : reads new ≤ reads old + k
  pub few_writes : (m : ℕ) × (m ≤ k) × (writes new ≡ raised_times m (writes old))
  pub barred : may ≡ false → OnlyReads size holds write_faults writes tells_stops moment may_leave left_since old new
  pub early : k ≡ 0 → OnlyReads size holds write_faults writes tells_stops moment may_leave left_since old new
  pub kept : tells_stops old → IsDurable holds may_leave old → IsDurable holds may_leave new

-- how far a command that was stopped raised the count of writes
abbrev pub HasStopCount : ℕ → ℕ → Stop → Type 0
HasStopCount writes writes_now stop.ReadFault = writes_now ≡ writes
HasStopCount writes writes_now (stop.WriteFault written) = writes_now ≡ raised_times written writes
HasStopCount writes writes_now stop.NoMemory = writes_now ≡ writes

abbrev pub HasEndCount : ℕ → ℕ → LineEnd → Type 0
HasEndCount writes writes_now (end.Stopped stop) = HasStopCount writes writes_now stop
HasEndCount writes writes_now end.OutputFault = Unit {0}

-- an expert who does not only read may write
pub may_here : (expert read_only : Bool) → not expert ≡ false → read_only ≡ false → (expert && not read_only) ≡ true
may_here true false h r = refl
may_here true true h r = cc
may_here false read_only h r = cc

module _ {D : Type 0} (size : D → ℕ) (holds : D → Option Image) (faults write_faults reads writes : D → ℕ) (tells_stops : D → Type 0)
    (moment : D → ℕ) (may_leave : D → ℕ → List ℕ → Type 0) (left_since : D → ℕ → Image → Type 0) where
  -- what is kept stays so while the disk is read
  pub kept_reads : (a b : D) → OnlyReads size holds write_faults writes tells_stops moment may_leave left_since a b → tells_stops a
      → IsDurable holds may_leave a → IsDurable holds may_leave b
  kept_reads a b only told kept = λ image held block bytes may. kept image (sym only.same_contents ∙ held) block bytes (only.leaves told block bytes may)

  -- nothing was done
  pub rests : (a : D) → (result : Result Verdict NoMemory)
      → IsOneRead size holds faults write_faults reads writes tells_stops moment may_leave left_since a a (stop_told (stopped result))
  rests a (Ok verdict) = record {
    cause = (omega arith, omega arith);
    no_write_fault = tt;
    one_read = omega arith;
    only_reads = reads_none size holds write_faults writes tells_stops moment may_leave left_since a;
  }
  rests a (Err e) = record {
    cause = (omega arith, omega arith);
    no_write_fault = tt;
    one_read = omega arith;
    only_reads = reads_none size holds write_faults writes tells_stops moment may_leave left_since a;
  }

  -- nothing but a read was done
  pub read_then : (a b : D) → (result : Result Verdict NoMemory)
      → IsOneRead size holds faults write_faults reads writes tells_stops moment may_leave left_since a b None
      → IsOneRead size holds faults write_faults reads writes tells_stops moment may_leave left_since a b (stop_told (stopped result))
  read_then a b (Ok verdict) read = read
  read_then a b (Err e) read = record { cause = read.cause; no_write_fault = tt; one_read = read.one_read; only_reads = read.only_reads }

  causes_join : (f g h w v u : ℕ) → (why : Option Stop) → f ≤ g → w ≤ v → HasStopCause g h v u why → HasStopCause f h w u why
  causes_join f g h w v u None fg wv cause = (omega (arith, fg, cause.0), omega (arith, wv, cause.1))
  causes_join f g h w v u (Some stop.ReadFault) fg wv cause = ((omega (arith, fg, cause.0.0), omega (arith, fg, cause.0.1)), omega (arith, wv, cause.1))
  causes_join f g h w v u (Some (stop.WriteFault written)) fg wv cause = (omega (arith, fg, cause.0), (omega (arith, wv, cause.1.0), omega (arith, wv, cause.1.1)))
  causes_join f g h w v u (Some stop.NoMemory) fg wv cause = (omega (arith, fg, cause.0), omega (arith, wv, cause.1))

  -- a block was read, and then one was written
  pub read_put : (a b c : D) → (why : Option Stop)
      → IsOneRead size holds faults write_faults reads writes tells_stops moment may_leave left_since a b None
      → IsWritten size holds faults write_faults reads writes tells_stops may_leave true b c why → reads c ≡ reads b
      → IsWritten size holds faults write_faults reads writes tells_stops may_leave true a c why
  read_put a b c why read put same_reads = record {
    allowed = refl;
    same_size = put.same_size ∙ read.only_reads.same_size;
    tells = λ told. put.tells (read.only_reads.tells told);
    cause =
        causes_join (faults a) (faults b) (faults c) (write_faults a) (write_faults b) (write_faults c) why read.cause.0 read.cause.1 put.cause;
    one_read = omega (arith, read.one_read, same_reads);
    one_write = subst (λ (n : ℕ). CountsStep n (writes c) why) read.only_reads.same_writes put.one_write;
    kept = λ done told. put.kept done (read.only_reads.tells told);
  }

  -- nothing was done, as a call says of its outcome
  pub rested : (a : D) → (result : Result Verdict NoMemory) → (ended : Result Verdict Stop) → ended ≡ stopped result
      → IsOneRead size holds faults write_faults reads writes tells_stops moment may_leave left_since a a (stop_told ended)
  rested a result ended is =
      subst (λ (r : Result Verdict Stop). IsOneRead size holds faults write_faults reads writes tells_stops moment may_leave left_since a a (stop_told r)) (sym is)
      (rests a result)

  -- and nothing but a read was
  pub read_ended : (a b : D) → (result : Result Verdict NoMemory) → (ended : Result Verdict Stop) → ended ≡ stopped result
      → IsOneRead size holds faults write_faults reads writes tells_stops moment may_leave left_since a b None
      → IsOneRead size holds faults write_faults reads writes tells_stops moment may_leave left_since a b (stop_told ended)
  read_ended a b result ended is read =
      subst (λ (r : Result Verdict Stop). IsOneRead size holds faults write_faults reads writes tells_stops moment may_leave left_since a b (stop_told r)) (sym is)
      (read_then a b result read)

  -- why a command was stopped
  pub step_cause : (may : Bool) → (a b : D) → (why : Option Stop)
      → IsStep size holds faults write_faults reads writes tells_stops moment may_leave left_since may a b why
      → HasStopCause (faults a) (faults b) (write_faults a) (write_faults b) why
  step_cause may a b why (inl read) = read.cause
  step_cause may a b why (inr put) = put.cause

  -- a command that only reads is one
  pub reads_step : (may : Bool) → (a b : D) → (why : Option Stop)
      → IsOneRead size holds faults write_faults reads writes tells_stops moment may_leave left_since a b why
      → IsStep size holds faults write_faults reads writes tells_stops moment may_leave left_since may a b why
  reads_step may a b why read = inl read

  pub run_none : (may : Bool) → (a : D) → AreRun size holds reads writes write_faults tells_stops moment may_leave left_since may 0 a a
  run_none may a = record {
    same_size = refl;
    tells = λ told. told;
    few_reads = omega arith;
    few_writes = (0, omega arith, refl);
    barred = λ barred. reads_none size holds write_faults writes tells_stops moment may_leave left_since a;
    early = λ early. reads_none size holds write_faults writes tells_stops moment may_leave left_since a;
    kept = λ told kept. kept;
  }

  -- one command more
  pub run_more : (may : Bool) → (k : ℕ) → (a b c : D) → AreRun size holds reads writes write_faults tells_stops moment may_leave left_since may k a b
      → IsStep size holds faults write_faults reads writes tells_stops moment may_leave left_since may b c None
      → AreRun size holds reads writes write_faults tells_stops moment may_leave left_since may (k + 1) a c
  run_more may k a b c run (inl read) = record {
    same_size = read.only_reads.same_size ∙ run.same_size;
    tells = λ told. read.only_reads.tells (run.tells told);
    few_reads = omega (arith, run.few_reads, read.one_read);
    few_writes = (run.few_writes.0, omega (arith, run.few_writes.1), read.only_reads.same_writes ∙ run.few_writes.2);
    barred = λ barred. reads_on size holds write_faults writes tells_stops moment may_leave left_since a b c (run.barred barred) read.only_reads;
    early = λ early. absurd (omega (arith, early));
    kept = λ told kept. kept_reads b c read.only_reads (run.tells told) (run.kept told kept);
  }
  run_more may k a b c run (inr put) = record {
    same_size = put.same_size ∙ run.same_size;
    tells = λ told. put.tells (run.tells told);
    few_reads = omega (arith, run.few_reads, put.one_read);
    few_writes = (suc run.few_writes.0, omega (arith, run.few_writes.1), put.one_write ∙ ap raised run.few_writes.2);
    barred = λ barred. absurd (true≢false (sym put.allowed ∙ barred));
    early = λ early. absurd (omega (arith, early));
    kept = λ told kept. put.kept refl (run.tells told);
  }

  -- all commands were run
  pub over_done : (may : Bool) → (k most : ℕ) → (a b : D) → AreRun size holds reads writes write_faults tells_stops moment may_leave left_since may k a b
      → k ≤ most → RunsOver size holds reads writes write_faults tells_stops moment may_leave left_since may most most a b outcome.Done
  over_done may k most a b run few = record {
    same_size = run.same_size;
    tells = run.tells;
    few_reads = omega (arith, run.few_reads, few);
    few_finished = omega arith;
    few_writes = (run.few_writes.0, omega (arith, run.few_writes.1, few), run.few_writes.2);
    one_written = omega arith;
    barred = run.barred;
    early = λ early. absurd early;
    kept = λ synced told kept. run.kept told kept;
  }

  -- the lines of the last could not be put
  pub over_put : (may : Bool) → (k most : ℕ) → (a b : D) → AreRun size holds reads writes write_faults tells_stops moment may_leave left_since may k a b
      → k ≤ most → RunsOver size holds reads writes write_faults tells_stops moment may_leave left_since may most most a b (outcome.OutputFault k)
  over_put may k most a b run few = record {
    same_size = run.same_size;
    tells = run.tells;
    few_reads = omega (arith, run.few_reads, few);
    few_finished = few;
    few_writes = (run.few_writes.0, run.few_writes.1, run.few_writes.2);
    one_written = omega arith;
    barred = run.barred;
    early = λ early. absurd early;
    kept = λ synced told kept. run.kept told kept;
  }

  stopped_reading : (may : Bool) → (k most : ℕ) → (ended : ShellOutcome) → (a b c : D)
      → AreRun size holds reads writes write_faults tells_stops moment may_leave left_since may k a b
      → k + 1 ≤ most → finished_in ended ≡ k → most_finished most ended ≡ k → blocks_written ended ≡ 0 → (IsEarly ended → k ≡ 0)
      → (why : Option Stop) → IsOneRead size holds faults write_faults reads writes tells_stops moment may_leave left_since b c why
      → RunsOver size holds reads writes write_faults tells_stops moment may_leave left_since may most most a c ended
  stopped_reading may k most ended a b c run few finished finished_most none first why read = record {
    same_size = read.only_reads.same_size ∙ run.same_size;
    tells = λ told. read.only_reads.tells (run.tells told);
    few_reads = omega (arith, run.few_reads, read.one_read, few);
    few_finished = omega (arith, finished, few);
    few_writes = (
      run.few_writes.0,
      omega (arith, run.few_writes.1, finished_most),
      read.only_reads.same_writes ∙ run.few_writes.2 ∙ ap (λ (n : ℕ). raised_times n (raised_times run.few_writes.0 (writes a))) (sym none),
    );
    one_written = omega (arith, none);
    barred = λ barred. reads_on size holds write_faults writes tells_stops moment may_leave left_since a b c (run.barred barred) read.only_reads;
    early = λ early. reads_on size holds write_faults writes tells_stops moment may_leave left_since a b c (run.early (first early)) read.only_reads;
    kept = λ synced told kept. kept_reads b c read.only_reads (run.tells told) (run.kept told kept);
  }

  -- a command was stopped behind those that were finished
  pub over_stopped : (may : Bool) → (k most : ℕ) → (why : Stop) → (a b c : D)
      → AreRun size holds reads writes write_faults tells_stops moment may_leave left_since may k a b → k + 1 ≤ most
      → IsStep size holds faults write_faults reads writes tells_stops moment may_leave left_since may b c (Some why)
      → RunsOver size holds reads writes write_faults tells_stops moment may_leave left_since may most most a c (stopped_outcome why k)
  over_stopped may k most stop.ReadFault a b c run few (inl read) =
      stopped_reading may k most (outcome.ReadFault k) a b c run few refl refl refl (λ early. early) (Some stop.ReadFault) read
  over_stopped may k most stop.NoMemory a b c run few (inl read) =
      stopped_reading may k most (outcome.NoMemory k) a b c run few refl refl refl (λ early. early) (Some stop.NoMemory) read
  over_stopped may k most (stop.WriteFault written) a b c run few (inl read) = absurd read.no_write_fault
  over_stopped may k most stop.ReadFault a b c run few (inr put) = absurd put.one_write
  over_stopped may k most stop.NoMemory a b c run few (inr put) = absurd put.one_write
  over_stopped may k most (stop.WriteFault written) a b c run few (inr put) = record {
    same_size = put.same_size ∙ run.same_size;
    tells = λ told. put.tells (run.tells told);
    few_reads = omega (arith, run.few_reads, put.one_read, few);
    few_finished = omega (arith, few);
    few_writes = (run.few_writes.0, run.few_writes.1, put.one_write.1 ∙ ap (λ (n : ℕ). raised_times written n) run.few_writes.2);
    one_written = put.one_write.0;
    barred = λ barred. absurd (true≢false (sym put.allowed ∙ barred));
    early = λ early. absurd early;
    kept = λ synced told kept. absurd synced;
  }

  -- lines ended as one of them did
  pub over_ended : (may : Bool) → (k most : ℕ) → (ended : LineEnd) → (a b c : D)
      → AreRun size holds reads writes write_faults tells_stops moment may_leave left_since may k a b → k + 1 ≤ most
      → IsStep size holds faults write_faults reads writes tells_stops moment may_leave left_since may b c (stop_of_line {T = Verdict} (Err ended))
      → RunsOver size holds reads writes write_faults tells_stops moment may_leave left_since may most most a c (outcome_behind k ended)
  over_ended may k most (end.Stopped why) a b c run few step = over_stopped may k most why a b c run few step
  over_ended may k most end.OutputFault a b c run few step = over_put may (k + 1) most a c (run_more may k a b c run step) few

  -- how far the one that was stopped raised the count of writes
  stop_counted : (may : Bool) → (why : Stop) → (b c : D)
      → IsStep size holds faults write_faults reads writes tells_stops moment may_leave left_since may b c (Some why) → HasStopCount (writes b) (writes c) why
  stop_counted may stop.ReadFault b c (inl read) = read.only_reads.same_writes
  stop_counted may stop.NoMemory b c (inl read) = read.only_reads.same_writes
  stop_counted may (stop.WriteFault written) b c (inl read) = absurd read.no_write_fault
  stop_counted may stop.ReadFault b c (inr put) = absurd put.one_write
  stop_counted may stop.NoMemory b c (inr put) = absurd put.one_write
  stop_counted may (stop.WriteFault written) b c (inr put) = put.one_write.1

  pub end_counted : (may : Bool) → (ended : LineEnd) → (b c : D)
      → IsStep size holds faults write_faults reads writes tells_stops moment may_leave left_since may b c (stop_of_line {T = Verdict} (Err ended))
      → HasEndCount (writes b) (writes c) ended
  end_counted may (end.Stopped why) b c step = stop_counted may why b c step
  end_counted may end.OutputFault b c step = tt

  -- nothing was run, but maybe the disk read
  pub over_early : (may : Bool) → (readable most : ℕ) → (ended : ShellOutcome) → (a b : D) → finished_in ended ≡ 0 → blocks_written ended ≡ 0
      → OnlyReads size holds write_faults writes tells_stops moment may_leave left_since a b → reads b ≤ reads a + readable
      → RunsOver size holds reads writes write_faults tells_stops moment may_leave left_since may readable most a b ended
  over_early may readable most ended a b finished none only few = record {
    same_size = only.same_size;
    tells = only.tells;
    few_reads = few;
    few_finished = omega (arith, finished);
    few_writes = (0, omega arith, only.same_writes ∙ ap (λ (n : ℕ). raised_times n (writes a)) (sym none));
    one_written = omega (arith, none);
    barred = λ barred. only;
    early = λ early. only;
    kept = λ synced told kept. kept_reads a b only told kept;
  }

  more_finished : (ended : ShellOutcome) → (most more : ℕ) → most ≤ more → most_finished most ended ≤ most_finished more ended
  more_finished outcome.Done most more less = less
  more_finished outcome.NoGeometry most more less = omega arith
  more_finished (outcome.Unsupported word bits) most more less = omega arith
  more_finished (outcome.ReadFault k) most more less = omega arith
  more_finished (outcome.WriteFault written k) most more less = omega arith
  more_finished outcome.InputFault most more less = omega arith
  more_finished outcome.InputLong most more less = omega arith
  more_finished (outcome.OutputFault k) most more less = omega arith
  more_finished (outcome.NoMemory k) most more less = omega arith

  -- commands that were run behind reads
  pub over_behind : (may : Bool) → (read most more : ℕ) → (ended : ShellOutcome) → (a b c : D)
      → OnlyReads size holds write_faults writes tells_stops moment may_leave left_since a b → reads b ≤ reads a + read → most ≤ more
      → RunsOver size holds reads writes write_faults tells_stops moment may_leave left_since may most most b c ended
      → RunsOver size holds reads writes write_faults tells_stops moment may_leave left_since may (read + more) more a c ended
  over_behind may read most more ended a b c only few less run = record {
    same_size = run.same_size ∙ only.same_size;
    tells = λ told. run.tells (only.tells told);
    few_reads = omega (arith, run.few_reads, few, less);
    few_finished = omega (arith, run.few_finished, less);
    few_writes = (
      run.few_writes.0,
      omega (arith, run.few_writes.1, more_finished ended most more less),
      run.few_writes.2 ∙ ap (λ (n : ℕ). raised_times (blocks_written ended) (raised_times run.few_writes.0 n)) only.same_writes,
    );
    one_written = run.one_written;
    barred = λ barred. reads_on size holds write_faults writes tells_stops moment may_leave left_since a b c only (run.barred barred);
    early = λ early. reads_on size holds write_faults writes tells_stops moment may_leave left_since a b c only (run.early early);
    kept = λ synced told kept. run.kept synced (only.tells told) (kept_reads a b only told kept);
  }

  -- more commands may be run
  pub over_more : (may : Bool) → (most more : ℕ) → (ended : ShellOutcome) → (a c : D) → most ≤ more
      → RunsOver size holds reads writes write_faults tells_stops moment may_leave left_since may most most a c ended
      → RunsOver size holds reads writes write_faults tells_stops moment may_leave left_since may more more a c ended
  over_more may most more ended a c less run = record {
    same_size = run.same_size;
    tells = run.tells;
    few_reads = omega (arith, run.few_reads, less);
    few_finished = omega (arith, run.few_finished, less);
    few_writes = (run.few_writes.0, omega (arith, run.few_writes.1, more_finished ended most more less), run.few_writes.2);
    one_written = run.one_written;
    barred = run.barred;
    early = run.early;
    kept = run.kept;
  }
