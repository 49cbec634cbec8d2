-- What a stop leaves while blocks are written.
use Rattle.std.proofs.Common.{◌≡◌, ℕ, ◌≤◌, ◌<◌, ◌⊎◌, inl, inr, List, [], length, get_or, ap, sym, subst, ◌∙◌, arith}
use Rattle.std.specs.List.{Contains}
use Rattle.std.proofs.lemmas.List.{get_or-map, length-map}
use Rattle.xfs_disk.specs.Blocks.{Image}
use Rattle.xfs_disk.specs.Stops.{EachOf, Elapses, GoesOn}
use Rattle.xfs_writing.specs.Stopped.{IsMixed, IsOldOrDue, IsStopped, LeavesJust}
use Rattle.xfs_writing.specs.Writing.{Writes, write_of, written, writes_of_rows}
use Rattle.xfs_writing.specs.declared.rows.Row.{Row}

-- a row's write is among those of all rows
pub among : (bank : Image) (rows : List Row) (i : ℕ) (row d : Row) (bytes : List ℕ) → i < length rows → row ≡ get_or rows i d → bytes ≡ get_or bank row.index []
    → Contains (writes_of_rows bank rows) (row.at, bytes)
among bank rows i row d bytes within same value =
    let due : write_of bank row ≡ (row.at, bytes) = ap (λ (v : List ℕ). let w : ℕ × List ℕ = (row.at, v) in w) (sym value) in (
      i,
      omega (arith, length-map rows (write_of bank)),
      get_or-map (write_of bank) rows i d (row.at, bytes) within ∙ ap (write_of bank) (sym same) ∙ due,
    )

-- what a stop may leave of each block while these are written
pub record MayBe (writes : Writes) (image : Image) (may : ℕ → List ℕ → Type 0) : Type 0 where
  pub each : (b : ℕ) (v : List ℕ) → may b v → IsOldOrDue writes image b v

-- a stop leaves just what is held
pub may_none : (writes : Writes) (image : Image) (may : ℕ → List ℕ → Type 0) → LeavesJust may image → MayBe writes image may
may_none writes image may just = record { each = λ b v is. inl (just b v is) }

-- one more block is written
pub may_more : (writes : Writes) (image : Image) (at : ℕ) (from : List ℕ) (may may' : ℕ → List ℕ → Type 0) → Contains writes (at, from)
    → MayBe writes image may → ((b : ℕ) (v : List ℕ) → may' b v → may b v ⊎ ((b ≡ at) × (v ≡ from))) → MayBe writes image may'
may_more writes image at from may may' due before step = record {
  each = λ b v is. elim (step b v is) [
    | inl was ↦ before.each b v was
    | inr new ↦ inr (subst (λ (w : ℕ × List ℕ). Contains writes w) (λ i. (sym new.0 i, sym new.1 i)) due)
  ];
}

-- what a stop since an earlier moment may leave: what it might have left at first, or some of these blocks
pub record LeavesMixed (writes : Writes) (image : Image) (first : ℕ) (start since : ℕ → Image → Type 0) : Type 0 where
  pub each : (t : ℕ) (stopped : Image) → t ≤ first → since t stopped → start t stopped ⊎ IsMixed writes image stopped

pub mixed_none : (writes : Writes) (image : Image) (first : ℕ) (start : ℕ → Image → Type 0) → LeavesMixed writes image first start start
mixed_none writes image first start = record { each = λ t stopped low left. inl left }

pub mixed_more : (writes : Writes) (image : Image) (first before now : ℕ) (start past since : ℕ → Image → Type 0) (may : ℕ → List ℕ → Type 0)
    → first ≤ before → Elapses before now past since (EachOf may) → LeavesMixed writes image first start past → MayBe writes image may
    → LeavesMixed writes image first start since
mixed_more writes image first before now start past since may early time old values = record {
  each = λ t stopped low left. elim (time.nothing_else t stopped (omega (arith, early, low)) left) [
    | inl was ↦ old.each t stopped low was
    | inr is ↦ inr (record { each = λ b v held. values.each b v (is b v held) })
  ];
}

-- a sync, and then these blocks
pub mixed_behind : (writes : Writes) (image stopped : Image) (t first before : ℕ) (start past : ℕ → Image → Type 0) → GoesOn first before start past → t ≤ first
    → past t stopped ⊎ IsMixed writes image stopped → start t stopped ⊎ IsMixed writes image stopped
mixed_behind writes image stopped t first before start past time low (inl was) = inl (time.nothing_new t stopped low was)
mixed_behind writes image stopped t first before start past time low (inr is) = inr is

-- both parts
pub stopped_first : (first last : Writes) (image stopped : Image) (Before : Type 0) → Before ⊎ IsMixed first image stopped → Before ⊎ IsStopped first last image stopped
stopped_first first last image stopped Before (inl was) = inl was
stopped_first first last image stopped Before (inr is) = inr (inl is)

pub stopped_last : (first last : Writes) (image stopped : Image) (Before Between : Type 0) → (Between → Before ⊎ IsMixed first image stopped)
    → Between ⊎ IsMixed last (written first image) stopped → Before ⊎ IsStopped first last image stopped
stopped_last first last image stopped Before Between earlier (inl was) = stopped_first first last image stopped Before (earlier was)
stopped_last first last image stopped Before Between earlier (inr is) = inr (inr is)
