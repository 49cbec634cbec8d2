-- What xfs_repair -v says in words of what was found, and where (xfs_repair(8)).
use Rattle.std.specs.Prelude.{◌≡◌, ℕ, ◌≤◌, ◌&&◌, ◌⊎◌, Bool, true, false, not, MatchBool, List, Option, Some, None, Result, Ok, Err}
use Rattle.std.specs.Option.{ForSome}
use Rattle.xfs_disk.specs.Blocks.{Image, bytes_of_block}
use Rattle.xfs_disk.specs.Faults.{Rose}
use Rattle.xfs_disk.specs.Reads.{OnlyReads}
use Rattle.xfs_disk.specs.declared.failed.Failed.{Failed}
use Rattle.xfs_disk.specs.declared.stamp.Stamp.{Stamp}
use Rattle.xfs_geom.specs.Election.{super_of}
use Rattle.xfs_geom.specs.Superblocks.{super_fault}
use Rattle.xfs_geom.specs.Volumes.{stated_volume}
use Rattle.xfs_geom.specs.declared.reading.SuperFault.{SuperFault}
use Rattle.xfs_image.specs.declared.findings.Finding.{Finding}
use Rattle.xfs_mend.specs.Asked.{repair_asked}
use Rattle.xfs_mend.specs.declared.outcome.Outcome.{Outcome}
use Rattle.xfs_mend.specs.declared.outcome.Outcome.TheVariants as mended
use Rattle.xfs_mend.specs.declared.outcome.RepairOptions.{RepairOptions}
use Rattle.xfs_texts.specs.Explaining.{explanation_text}
use Rattle.xfs_texts.specs.Lines.{PutsText}
use Rattle.xfs_tools.specs.Answers.{IsTold}
use Rattle.xfs_tools.specs.CommandLine.{options_of_words}
use Rattle.xfs_tools.specs.Repairing.{IsRepair}
use Rattle.xfs_tools.specs.declared.answer.Answer.{Answer}
use Rattle.xfs_tools.specs.declared.answer.Answer.TheVariants.{Damaged, Repaired, NoRoom}
use Rattle.xfs_tools.specs.declared.command_line.Call.{Call}
use Rattle.xfs_tools.specs.declared.command_line.Call.TheVariants.{Repair, Refused}
use Rattle.xfs_tools.specs.declared.command_line.RepairWords.{RepairWords}
use Rattle.xfs_tools.specs.declared.explaining.Look.{Look}

-- a check in the place of a repair
abbrev pub checking : RepairWords → RepairOptions
checking o = record (options_of_words o) { check = true }

-- what was found, by the outcome of a check
abbrev pub finding_in : Outcome → Option Finding
finding_in (mended.Damaged finding) = Some finding
finding_in outcome = None

-- the groups that the primary superblock states, where it is accepted
abbrev pub groups_if : Option SuperFault → ℕ → Option ℕ
groups_if None groups = Some groups
groups_if (Some fault) groups = None

abbrev pub groups_in : List ℕ → ℕ → Option ℕ
groups_in sector size = groups_if (super_fault sector 0 size) (stated_volume sector).agcount

-- the groups are those that the primary superblock states; they are not known where a read failed
abbrev pub IsGroups : {D : Type 0} → (D → Option Image) → (D → ℕ) → (D → ℕ) → D → D → Option ℕ → Type 0
IsGroups holds size faults old new groups =
    ForSome (holds old) (λ image. 1 ≤ size old → (groups ≡ groups_in (super_of (bytes_of_block image 0)) (size old)) ⊎ ((groups ≡ None) × Rose (faults old) (faults new)))

-- A volume was looked at before it is repaired. The disk was only read, and not at all unless what is found is to be told in words. Then the
-- groups are those that the primary superblock states and, unless the volume is only checked, the finding is that of a check.
pub record IsLook {D : Type 0} (holds : D → Option Image) (size faults write_faults writes : D → ℕ) (tells_stops : D → Type 0)
    (moment : D → ℕ) (may_leave : D → ℕ → List ℕ → Type 0) (left_since : D → ℕ → Image → Type 0) (s : Stamp) (o : RepairWords) (old new : D) (look : Look) : Type 0 where
  pub reads : OnlyReads size holds write_faults writes tells_stops moment may_leave left_since old new
  pub counted : faults old ≤ faults new
  pub untouched : o.verbose ≡ false → (new ≡ old) × (look.found ≡ None)
  pub groups : o.verbose ≡ true → IsGroups holds size faults old new look.groups
  pub found : o.verbose ≡ true → o.check ≡ false → (outcome : Outcome)
      × IsRepair holds size faults write_faults writes tells_stops moment may_leave left_since s old new (repair_asked (checking o)) outcome
      × (look.found ≡ finding_in outcome)

-- what is to be told in words: what was found, where damage is told, a repair was made, or one was due
abbrev pub told_in : Option Finding → Answer → Option Finding
told_in looked (Damaged finding) = Some finding
told_in looked (Repaired summary) = looked
told_in looked (NoRoom place) = looked
told_in looked answer = None

abbrev pub told_of : Bool → Option Finding → Answer → Option Finding
told_of false looked answer = None
told_of true looked answer = told_in looked answer

-- the text of it, where there is one
abbrev pub explained : Option ℕ → Option Finding → Option (List ℕ)
explained groups None = None
explained groups (Some finding) = Some (explanation_text groups finding)

-- A line was put to one stream, and behind it that of the answer to its own. Where the first could not be put, the other was not tried.
abbrev pub IsGoneOn : {O E : Type 0} → (O → Option (List ℕ)) → (O → ℕ) → (E → Option (List ℕ)) → (E → ℕ) → O → O → E → E → Answer
    → Result (Unit {0}) Failed → Result (Unit {0}) Failed → Type 0
IsGoneOn out_took out_faults err_took err_faults out out_now mid err_now answer (Ok done) put = IsTold out_took out_faults err_took err_faults out out_now mid err_now answer put
IsGoneOn out_took out_faults err_took err_faults out out_now mid err_now answer (Err failed) put = (out_now ≡ out) × (err_now ≡ mid) × (put ≡ Err failed)

abbrev pub IsToldBehindText : {O E : Type 0} → (O → Option (List ℕ)) → (O → ℕ) → (E → Option (List ℕ)) → (E → ℕ) → O → O → E → E → List ℕ → Answer
    → Result (Unit {0}) Failed → Type 0
IsToldBehindText {E} out_took out_faults err_took err_faults out out_now err err_now text answer put =
    (mid : E) × (first : Result (Unit {0}) Failed) × PutsText (err_took err) (err_took mid) (err_faults err) (err_faults mid) text first
    × IsGoneOn out_took out_faults err_took err_faults out out_now mid err_now answer first put

-- the line of the answer was put, behind a text on the stream of errors where there is one
abbrev pub IsToldBehind : {O E : Type 0} → (O → Option (List ℕ)) → (O → ℕ) → (E → Option (List ℕ)) → (E → ℕ) → O → O → E → E → Option (List ℕ) → Answer
    → Result (Unit {0}) Failed → Type 0
IsToldBehind out_took out_faults err_took err_faults out out_now err err_now None answer put = IsTold out_took out_faults err_took err_faults out out_now err err_now answer put
IsToldBehind out_took out_faults err_took err_faults out out_now err err_now (Some text) answer put =
    IsToldBehindText out_took out_faults err_took err_faults out out_now err err_now text answer put

-- The text that stands in front of the answer's line: under -v, what was found.
abbrev pub IsText : {D : Type 0} → (RepairWords → D → D → Look → Type 0) → D → Call → Answer → Option (List ℕ) → Type 0
IsText {D} looks old (Repair o) answer text =
    (mid : D) × (look : Look) × looks o old mid look × (text ≡ explained look.groups (told_of o.verbose look.found answer))
IsText looks old (Refused word) answer text = text ≡ None
