-- What was written of a plan, where its rows are handed on as two slices.
use Rattle.std.proofs.Common.{◌≡◌, ℕ, ◌≤◌, ◌+◌, ◌++◌, ◌⊎◌, inl, inr, false, List, length, Option, Some, refl, ap₂, ◌∙◌, subst}
use Rattle.xfs_disk.specs.Blocks.{Image}
use Rattle.xfs_rename.specs.xfs_rebuild.declared.planning.Rebuilt.{Rebuilt}
use Rattle.xfs_writing.specs.Stopped.{IsStopped}
use Rattle.xfs_writing.specs.Writing.{IsPartly, Writes, written, writes_of_rows}
use Rattle.xfs_writing.specs.declared.rows.Row.{Row}
use Rattle.xfs_mend.specs.Outcome.{is_quiet}
use Rattle.xfs_mend.specs.Private.Rebuilds.{LeavesOfRebuilt, StopsOfRebuilt}
use Rattle.xfs_mend.specs.Rebuilding.{rebuild_writes}
use Rattle.xfs_mend.specs.declared.outcome.Outcome.{Outcome}
use Rattle.xfs_mend.specs.declared.outcome.Outcome.TheVariants.{Repaired, WriteFault}
use Rattle.xfs_mend.specs.declared.outcome.Summary.TheVariants.{Rebuilt as Anew}

count_rows : (r : Rebuilt) (first last : List Row) → first ≡ r.fresh → last ≡ r.in_place → length first + length last ≡ length r.fresh + length r.in_place
count_rows r first last one two = ap₂ (λ (a b : List Row). length a + length b) one two

same_writes : (r : Rebuilt) (first last : List Row) → first ≡ r.fresh → last ≡ r.in_place → writes_of_rows r.bank (first ++ last) ≡ rebuild_writes r
same_writes r first last one two = ap₂ (λ (a b : List Row). writes_of_rows r.bank (a ++ b)) one two

-- all of it
pub left_all : (r : Rebuilt) (first last : List Row) (image : Image) (now : Option Image) (blocks orphans : ℕ) → first ≡ r.fresh → last ≡ r.in_place
    → now ≡ Some (written (writes_of_rows r.bank (first ++ last)) image) → blocks ≡ length first + length last
    → LeavesOfRebuilt r orphans image now (Repaired (Anew blocks r.kept r.cleared orphans))
left_all r first last image now blocks orphans one two done counted = (
  subst (λ (ws : Writes). now ≡ Some (written ws image)) (same_writes r first last one two) done,
  counted ∙ count_rows r first last one two,
  refl,
  refl,
  refl,
)

-- a part of it
pub left_part : (r : Rebuilt) (first last : List Row) (image : Image) (now : Option Image) (n orphans : ℕ) → first ≡ r.fresh → last ≡ r.in_place
    → n ≤ length first + length last → IsPartly (writes_of_rows r.bank (first ++ last)) image n now → LeavesOfRebuilt r orphans image now (WriteFault n)
left_part r first last image now n orphans one two most partly = (
  subst (λ (count : ℕ). n ≤ count) (count_rows r first last one two) most,
  subst (λ (ws : Writes). IsPartly ws image n now) (same_writes r first last one two) partly,
)

-- what a stop left of it
pub left_stopped : (r : Rebuilt) (first last : List Row) (image : Image) (a : Outcome) (stopped : Image) (Before : Type 0) → first ≡ r.fresh → last ≡ r.in_place
    → is_quiet a ≡ false → Before ⊎ IsStopped (writes_of_rows r.bank first) (writes_of_rows r.bank last) image stopped → Before ⊎ StopsOfRebuilt r image a stopped
left_stopped r first last image a stopped Before one two loud (inl was) = inl was
left_stopped r first last image a stopped Before one two loud (inr is) =
    inr (
      loud,
      subst (λ (rows : List Row). IsStopped (writes_of_rows r.bank r.fresh) (writes_of_rows r.bank rows) image stopped) two
          (subst (λ (rows : List Row). IsStopped (writes_of_rows r.bank rows) (writes_of_rows r.bank last) image stopped) one is),
    )
