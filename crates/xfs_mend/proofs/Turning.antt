-- Whether a volume is turned away, by what its log says and what is asked for, and what is answered then.
use Rattle.std.proofs.Common.{◌≡◌, ℕ, ◌≤◌, ◌&&◌, Bool, true, false, Option, Some, None, Result, Ok, Err, IfErr, IfOk, refl, sym, ap, ◌∙◌, subst, arith}
use Rattle.std.specs.Option.{ForSome}
use Rattle.xfs_disk.specs.Blocks.{Image}
use Rattle.xfs_disk.specs.Faults.{Rose}
use Rattle.xfs_disk.specs.declared.stamp.Stamp.{Stamp}
use Rattle.xfs_geom.specs.Volumes.{Volume, volume_of}
use Rattle.xfs_geom.specs.declared.geometry.Geometry.{Geometry}
use Rattle.xfs_log.specs.xfs_heads.declared.log_state.LogState.{LogState}
use Rattle.xfs_image.specs.View.{log_of}
use Rattle.xfs_scan.specs.Evidence.{IsEvidence}
use Rattle.xfs_scan.specs.Refused.{refused}
use Rattle.xfs_scan.specs.declared.evidence.Evidence.{Evidence}
use Rattle.xfs_mend.specs.Due.{CanCome, IsOwed, asks_log, away_if, is_dirty, scan_refusal, turned_away}
use Rattle.xfs_backups.specs.Causes.{HasMendCause}
use Rattle.xfs_mend.specs.Outcome.{IsRepairCause, RepairLeaves, is_quiet}
use Rattle.xfs_mend.specs.Private.Refusing.{HasTurnCause, IsAdmitted, IsTurnCause, IsTurned, IsUnless, fault_outcome, first_of}
use Rattle.xfs_backups.specs.declared.faults.MendFault.{MendFault}
use Rattle.xfs_backups.specs.declared.faults.MendFault.TheVariants as faults
use Rattle.xfs_mend.specs.declared.outcome.Outcome.{Outcome}
use Rattle.xfs_mend.specs.declared.outcome.Outcome.TheVariants.{NoGeometry, Unsupported, DirtyLog, TooLarge, UnsupportedFile, Clean, Damaged, Repaired, NoRoom, ReadFault, WriteFault, NoMemory}
use Rattle.xfs_mend.specs.declared.outcome.Summary.TheVariants.{Backups, Rebuilt}
use Rattle.xfs_mend.specs.Asked.{Asked}

-- by whether the log stands in the way
by_log : (o : Asked) (v : Volume) (image : Image) (stands : Bool) → (asks_log o && is_dirty (log_of v image)) ≡ stands
    → turned_away o v image ≡ away_if stands (refused v image)
unfolding turned_away
by_log o v image stands is = ap (λ (b : Bool). away_if b (refused v image)) is

both_false : (asks : Bool) → (asks && false) ≡ false
both_false true = refl
both_false false = refl

-- the log is clean
pub not_dirty : (o : Asked) (v : Volume) (image : Image) (log : LogState) → log ≡ log_of v image → is_dirty log ≡ false
    → turned_away o v image ≡ scan_refusal (refused v image)
not_dirty o v image log same clean =
    by_log o v image false (ap (λ (l : LogState). asks_log o && is_dirty l) (sym same) ∙ (ap (λ (b : Bool). asks_log o && b) clean ∙ both_false (asks_log o)))

of_evidence : (o : Asked) (v : Volume) (image : Image) (log : LogState) (stands : Bool) → log ≡ log_of v image → (asks_log o && is_dirty log) ≡ stands
    → (asks_log o && is_dirty (log_of v image)) ≡ stands
of_evidence o v image log stands same is = ap (λ (l : LogState). asks_log o && is_dirty l) (sym same) ∙ is

-- of a volume with this evidence
pub admitted_unless : (o : Asked) (g : Geometry) (h : Option Image) (e : Evidence) (r : Result Evidence Outcome) → IsUnless (asks_log o && is_dirty e.log) e r
    → ForSome h (λ image. IsEvidence g image e) → ForSome h (λ image. refused (volume_of g) image ≡ None) → IfOk r (λ x. ForSome h (λ image. IsAdmitted o g image x))
admitted_unless o g h e (Ok x) (clear, same) evidence none = λ image told.
    let is = evidence image told in (
      by_log o (volume_of g) image false (of_evidence o (volume_of g) image e.log false is.log clear) ∙ ap scan_refusal (none image told),
      subst (λ (y : Evidence). IsEvidence g image y) (sym same) is,
    )
admitted_unless o g h e (Err outcome) is evidence none = tt

pub turned_unless : (o : Asked) (g : Geometry) (h : Option Image) (e : Evidence) (r : Result Evidence Outcome) → IsUnless (asks_log o && is_dirty e.log) e r
    → ForSome h (λ image. IsEvidence g image e) → IfErr r (λ outcome. ForSome h (λ image. IsTurned o g image outcome))
turned_unless o g h e (Ok x) is evidence = tt
turned_unless o g h e (Err outcome) (stands, same) evidence = λ image told.
    let is = evidence image told in
    subst (λ (x : Outcome). IsTurned o g image x) (sym same)
    (by_log o (volume_of g) image true (of_evidence o (volume_of g) image e.log true is.log stands))

pub cause_unless : (before now : ℕ) (stands : Bool) (e : Evidence) (r : Result Evidence Outcome) → IsUnless stands e r → before ≤ now → HasTurnCause before now r
cause_unless before now stands e (Ok x) is up = up
cause_unless before now stands e (Err outcome) (is, same) up = subst (λ (x : Outcome). IsTurnCause before now x) (sym same) up

-- what is answered where nothing was done but reads
pub record IsTurning (o : Asked) (before now writes writes_now : ℕ) (outcome : Outcome) : Type 0 where
  pub up : before ≤ now
  pub quiet : is_quiet outcome ≡ true
  pub possible : CanCome o outcome
  pub cause : IsRepairCause before now writes writes_now outcome

pub turning : (o : Asked) (before now writes writes_now : ℕ) (outcome : Outcome) → IsTurnCause before now outcome → IsTurning o before now writes writes_now outcome
turning o before now writes writes_now (ReadFault told) (rose, is) = record { up = rose.0; quiet = refl; possible = tt; cause = (rose, is) }
turning o before now writes writes_now NoMemory up = record { up = up; quiet = refl; possible = tt; cause = tt }
turning o before now writes writes_now DirtyLog up = record { up = up; quiet = refl; possible = tt; cause = tt }
turning o before now writes writes_now (TooLarge what count) up = record { up = up; quiet = refl; possible = tt; cause = tt }
turning o before now writes writes_now (UnsupportedFile ino what) up = record { up = up; quiet = refl; possible = tt; cause = tt }
turning o before now writes writes_now NoGeometry never = absurd never
turning o before now writes writes_now (Unsupported word bits) never = absurd never
turning o before now writes writes_now Clean never = absurd never
turning o before now writes writes_now (Damaged found) never = absurd never
turning o before now writes writes_now (Repaired summary) never = absurd never
turning o before now writes writes_now (NoRoom what) never = absurd never
turning o before now writes writes_now (WriteFault blocks) never = absurd never

pub quiet_leaves : (s : Stamp) (image : Image) (now : Option Image) (outcome : Outcome) → is_quiet outcome ≡ true → now ≡ Some image → RepairLeaves s image now outcome
quiet_leaves s image now (Repaired (Backups count)) quiet same = absurd cc
quiet_leaves s image now (Repaired (Rebuilt blocks kept cleared orphans)) quiet same = absurd cc
quiet_leaves s image now (WriteFault blocks) quiet same = absurd cc
quiet_leaves s image now (ReadFault told) quiet same = same
quiet_leaves s image now NoMemory quiet same = same
quiet_leaves s image now DirtyLog quiet same = same
quiet_leaves s image now (TooLarge what count) quiet same = same
quiet_leaves s image now (UnsupportedFile ino what) quiet same = same
quiet_leaves s image now NoGeometry quiet same = same
quiet_leaves s image now (Unsupported word bits) quiet same = same
quiet_leaves s image now Clean quiet same = same
quiet_leaves s image now (Damaged found) quiet same = same
quiet_leaves s image now (NoRoom what) quiet same = same

-- a cause that is seen from an earlier count on
rose_later : (a b c : ℕ) → a ≤ b → Rose b c → Rose a c
rose_later a b c up (le, rose) = (omega (arith, up, le), omega (arith, up, le, rose))

pub turned_later : (a b c : ℕ) (outcome : Outcome) → a ≤ b → IsTurnCause b c outcome → IsTurnCause a c outcome
turned_later a b c (ReadFault told) up (rose, is) = (rose_later a b c up rose, is)
turned_later a b c NoMemory up le = omega (arith, up, le)
turned_later a b c DirtyLog up le = omega (arith, up, le)
turned_later a b c (TooLarge what count) up le = omega (arith, up, le)
turned_later a b c (UnsupportedFile ino what) up le = omega (arith, up, le)
turned_later a b c NoGeometry up never = absurd never
turned_later a b c (Unsupported word bits) up never = absurd never
turned_later a b c Clean up never = absurd never
turned_later a b c (Damaged found) up never = absurd never
turned_later a b c (Repaired summary) up never = absurd never
turned_later a b c (NoRoom what) up never = absurd never
turned_later a b c (WriteFault blocks) up never = absurd never

-- a fault of a read, or want of memory
pub fault_owed : (due : Outcome → Type 0) (count : ℕ) (fault : MendFault) → IsOwed due (fault_outcome count fault)
fault_owed due count faults.ReadFault = tt
fault_owed due count faults.NoMemory = tt

pub fault_cause : (T : Type 0) (before now : ℕ) (fault : MendFault) → HasMendCause {T = T} before now (Err fault) → IsTurnCause before now (fault_outcome now fault)
fault_cause T before now faults.ReadFault rose = (rose, refl)
fault_cause T before now faults.NoMemory up = up

-- of a volume that is refused
owed_quiet : (due : Outcome → Type 0) (outcome : Outcome) → IsTurnCause 0 0 outcome → due outcome → IsOwed due outcome
owed_quiet due (ReadFault told) turns is = tt
owed_quiet due NoMemory turns is = tt
owed_quiet due DirtyLog turns is = is
owed_quiet due (TooLarge what count) turns is = is
owed_quiet due (UnsupportedFile ino what) turns is = is
owed_quiet due NoGeometry turns is = is
owed_quiet due (Unsupported word bits) turns is = is
owed_quiet due Clean turns is = is
owed_quiet due (Damaged found) turns is = is
owed_quiet due (Repaired summary) turns is = is
owed_quiet due (NoRoom what) turns is = is
owed_quiet due (WriteFault blocks) turns is = absurd turns

pub turned_first : (o : Asked) (g : Geometry) (image : Image) (stands : Bool) (refusal : Outcome) → stands ≡ (asks_log o && is_dirty (log_of (volume_of g) image))
    → scan_refusal (refused (volume_of g) image) ≡ Some refusal → IsTurnCause 0 0 refusal → IsTurned o g image (first_of stands refusal)
turned_first o g image true refusal is due turns = by_log o (volume_of g) image true (sym is)
turned_first o g image false refusal is due turns =
    owed_quiet (λ due. turned_away o (volume_of g) image ≡ Some due) refusal turns (by_log o (volume_of g) image false (sym is) ∙ due)

pub cause_first : (before now : ℕ) (stands : Bool) (refusal : Outcome) → before ≤ now → IsTurnCause before now refusal → IsTurnCause before now (first_of stands refusal)
cause_first before now true refusal up turns = up
cause_first before now false refusal up turns = turns
