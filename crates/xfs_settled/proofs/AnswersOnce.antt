-- Two repairs of one image that meet no fault have the same outcome and leave the same image.
use Rattle.std.proofs.Common.{◌≡◌, ℕ, ◌⊎◌, inl, inr, Bool, false, true, Option, Some, refl, sym, ap, ◌∙◌, subst}
use Rattle.std.proofs.lemmas.Bool.{false≢true}
use Rattle.xfs_disk.specs.Blocks.{Image}
use Rattle.xfs_disk.specs.declared.stamp.Stamp.{Stamp}
use Rattle.xfs_geom.specs.Election.{elected}
use Rattle.xfs_mend.proofs.Answering.{one_answer}
use Rattle.xfs_mend.specs.Asked.{Asked}
use Rattle.xfs_mend.specs.Due.{IsAnswer, IsDueRepair, IsOwed, uncounted}
use Rattle.xfs_mend.specs.Outcome.{IsRebuilt, RepairLeaves}
use Rattle.xfs_mend.specs.Rebuilding.{rebuild_writes}
use Rattle.xfs_mend.specs.declared.outcome.Outcome.{Outcome}
use Rattle.xfs_mend.specs.declared.outcome.Outcome.TheVariants.{NoGeometry, Unsupported, DirtyLog, TooLarge, UnsupportedFile, Clean, Damaged, Repaired, NoRoom, ReadFault, WriteFault, NoMemory}
use Rattle.xfs_mend.specs.declared.outcome.Summary.TheVariants.{Backups, Rebuilt}
use Rattle.xfs_writing.specs.Writing.{written}
use Rattle.xfs_settled.specs.Outcomes.{IsWholeAs, MeetsNoFault}
use Rattle.xfs_settled.proofs.RepairsOnce.{repairs_one}

-- an outcome without a fault is one that is due
answer_of : (due : Outcome → Type 0) (a : Outcome) → MeetsNoFault a → IsOwed due a → due a
answer_of due NoGeometry none is = is
answer_of due (Unsupported word bits) none is = is
answer_of due DirtyLog none is = is
answer_of due (TooLarge what count) none is = is
answer_of due (UnsupportedFile ino what) none is = is
answer_of due Clean none is = is
answer_of due (Damaged found) none is = is
answer_of due (Repaired summary) none is = is
answer_of due (NoRoom what) none is = is
answer_of due (ReadFault faults) none is = absurd none
answer_of due (WriteFault blocks) none is = absurd none
answer_of due NoMemory none is = absurd none

-- the outcome says that a volume was rebuilt, or another thing
abbrev is_anew : Outcome → Bool
is_anew (Repaired (Rebuilt blocks kept cleared orphans)) = true
is_anew outcome = false

record IsAnew (a : Outcome) : Type 0 where
  blocks : ℕ
  kept : ℕ
  cleared : ℕ
  orphans : ℕ
  is : a ≡ Repaired (Rebuilt blocks kept cleared orphans)

abbrev IsEither : Outcome → Type 0
IsEither a = IsAnew a ⊎ ((uncounted a ≡ a) × (is_anew a ≡ false))

either : (a : Outcome) → IsEither a
either NoGeometry = inr (refl, refl)
either (Unsupported word bits) = inr (refl, refl)
either DirtyLog = inr (refl, refl)
either (TooLarge what count) = inr (refl, refl)
either (UnsupportedFile ino what) = inr (refl, refl)
either Clean = inr (refl, refl)
either (Damaged found) = inr (refl, refl)
either (Repaired (Backups count)) = inr (refl, refl)
either (Repaired (Rebuilt blocks kept cleared orphans)) = inl (record { blocks = blocks; kept = kept; cleared = cleared; orphans = orphans; is = refl })
either (NoRoom what) = inr (refl, refl)
either (ReadFault faults) = inr (refl, refl)
either (WriteFault blocks) = inr (refl, refl)
either NoMemory = inr (refl, refl)

-- where nothing was rebuilt
left_one : (s : Stamp) (image : Image) (x y : Option Image) (a : Outcome) → MeetsNoFault a → is_anew a ≡ false → RepairLeaves s image x a → RepairLeaves s image y a → x ≡ y
left_one s image x y NoGeometry none other first second = first ∙ sym second
left_one s image x y (Unsupported word bits) none other first second = first ∙ sym second
left_one s image x y DirtyLog none other first second = first ∙ sym second
left_one s image x y (TooLarge what count) none other first second = first ∙ sym second
left_one s image x y (UnsupportedFile ino what) none other first second = first ∙ sym second
left_one s image x y Clean none other first second = first ∙ sym second
left_one s image x y (Damaged found) none other first second = first ∙ sym second
left_one s image x y (Repaired (Backups count)) none other first second = first.1.planned ∙ sym second.1.planned
left_one s image x y (Repaired (Rebuilt blocks kept cleared orphans)) none other first second = absurd (false≢true (sym other))
left_one s image x y (NoRoom what) none other first second = first ∙ sym second
left_one s image x y (ReadFault faults) none other first second = absurd none
left_one s image x y (WriteFault blocks) none other first second = absurd none
left_one s image x y NoMemory none other first second = absurd none

-- where a volume was
anew_one : (s : Stamp) (image : Image) (x y : Option Image) (blocks kept cleared orphans : ℕ) (more files freed unnamed : ℕ) → IsRebuilt s image x blocks kept cleared orphans
    → IsRebuilt s image y more files freed unnamed → IsWholeAs image x → IsWholeAs image y → (x ≡ y) × (blocks ≡ more)
anew_one s image x y blocks kept cleared orphans more files freed unnamed a b wx wy =
    let now : Image = written (rebuild_writes a.r) image in
    let other : Image = written (rebuild_writes b.r) image in
    let first : IsRebuilt s image (Some now) blocks kept cleared orphans = subst (λ (z : Option Image). IsRebuilt s image z blocks kept cleared orphans) a.is a in
    let second : IsRebuilt s image (Some other) more files freed unnamed = subst (λ (z : Option Image). IsRebuilt s image z more files freed unnamed) b.is b in
    let both = repairs_one s image now other blocks kept cleared orphans more files freed unnamed first second (subst (IsWholeAs image) a.is wx) (subst (IsWholeAs image) b.is wy) in
    (a.is ∙ ap (λ (i : Image). Some i) both.0 ∙ sym b.is, both.1)

same_counts : (m n k l c d o p : ℕ) → Repaired (Rebuilt 0 k c o) ≡ Repaired (Rebuilt 0 l d p) → m ≡ n → Repaired (Rebuilt m k c o) ≡ Repaired (Rebuilt n l d p)
same_counts m n k l c d o p counts same = cc

module _ (o : Asked) (s : Stamp) (image : Image) (a b : Outcome) (x y : Option Image) (na : MeetsNoFault a) (nb : MeetsNoFault b) (da : IsDueRepair o s image a)
    (db : IsDueRepair o s image b) (la : RepairLeaves s image x a) (lb : RepairLeaves s image y b) (wx : IsWholeAs image x) (wy : IsWholeAs image y) where
  alike : uncounted a ≡ uncounted b
  alike =
      let Due : Outcome → Type 0 = IsAnswer o s image (elected image) in
      one_answer o s image (elected image) a b (answer_of Due a na da) (answer_of Due b nb db)

  both_anew : IsAnew a → IsAnew b → (a ≡ b) × (x ≡ y)
  both_anew p q =
      let counts : Repaired (Rebuilt 0 p.kept p.cleared p.orphans) ≡ Repaired (Rebuilt 0 q.kept q.cleared q.orphans) = sym (ap uncounted p.is) ∙ alike ∙ ap uncounted q.is in
      let first : IsRebuilt s image x p.blocks p.kept p.cleared p.orphans = subst (RepairLeaves s image x) p.is la in
      let second : IsRebuilt s image y q.blocks q.kept q.cleared q.orphans = subst (RepairLeaves s image y) q.is lb in
      let both = anew_one s image x y p.blocks p.kept p.cleared p.orphans q.blocks q.kept q.cleared q.orphans first second wx wy in
      (p.is ∙ same_counts p.blocks q.blocks p.kept q.kept p.cleared q.cleared p.orphans q.orphans counts both.1 ∙ sym q.is, both.0)

  by_case : IsEither a → IsEither b → (a ≡ b) × (x ≡ y)
  by_case (inl p) (inl q) = both_anew p q
  by_case (inl p) (inr q) = absurd (false≢true (sym q.1 ∙ ap is_anew (sym q.0 ∙ sym alike ∙ ap uncounted p.is)))
  by_case (inr p) (inl q) = absurd (false≢true (sym p.1 ∙ ap is_anew (sym p.0 ∙ alike ∙ ap uncounted q.is)))
  by_case (inr p) (inr q) =
      let same : a ≡ b = sym p.0 ∙ alike ∙ q.0 in
      (same, left_one s image x y a na p.1 la (subst (RepairLeaves s image y) (sym same) lb))

  pub answers_one : (a ≡ b) × (x ≡ y)
  answers_one = by_case (either a) (either b)
