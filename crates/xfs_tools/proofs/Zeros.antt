-- What is written of a bank whose one block is zeros.
use Rattle.std.proofs.Common.{◌≡◌, ℕ, ◌⊎◌, inl, inr, List, [], ◌∷◌, ◌++◌, replicate, Option, Some, Result, Ok, Err, IfErr, OnOk, ap, subst}
use Rattle.std.specs.Option.{ForSome}
use Rattle.xfs_disk.specs.Blocks.{Image}
use Rattle.xfs_tools.specs.Damaging.{zeros_at}
use Rattle.xfs_writing.specs.Stopped.{IsStopped}
use Rattle.xfs_writing.specs.Writing.{IsPartly, Writes, writes_of_rows, written}
use Rattle.xfs_writing.specs.declared.rows.Row.{Row}

abbrev row_of : ℕ → List Row
row_of place = record { at = place; index = 0 } ∷ []

-- the block is any here, since so many zeros unfold far
of_one : (bank : Image) (block : List ℕ) (place : ℕ) → bank ≡ replicate 1 block → writes_of_rows bank (row_of place) ≡ (place, block) ∷ []
of_one bank block place is = ap (λ (b : Image). writes_of_rows b (row_of place)) is

written_one : (bank : Image) (block : List ℕ) (place : ℕ) (old now : Option Image) (r : Result (Unit {0}) ℕ) → bank ≡ replicate 1 block
    → OnOk r (ForSome old (λ image. now ≡ Some (written (writes_of_rows bank ([] ++ row_of place)) image)))
    → OnOk r (ForSome old (λ image. now ≡ Some (written ((place, block) ∷ []) image)))
written_one bank block place old now (Ok done) is held =
    subst (λ (w : Writes). ForSome old (λ image. now ≡ Some (written w image))) (of_one bank block place is) held
written_one bank block place old now (Err n) is held = tt

partly_one : (bank : Image) (block : List ℕ) (place : ℕ) (old now : Option Image) (r : Result (Unit {0}) ℕ) → bank ≡ replicate 1 block
    → IfErr r (λ n. ForSome old (λ image. IsPartly (writes_of_rows bank ([] ++ row_of place)) image n now))
    → IfErr r (λ n. ForSome old (λ image. IsPartly ((place, block) ∷ []) image n now))
partly_one bank block place old now (Ok done) is held = tt
partly_one bank block place old now (Err n) is held =
    subst (λ (w : Writes). ForSome old (λ image. IsPartly w image n now)) (of_one bank block place is) held

stopped_one : (bank : Image) (block : List ℕ) (place : ℕ) (image stopped : Image) (before : Type 0) → bank ≡ replicate 1 block
    → before ⊎ IsStopped (writes_of_rows bank []) (writes_of_rows bank (row_of place)) image stopped → before ⊎ IsStopped [] ((place, block) ∷ []) image stopped
stopped_one bank block place image stopped before is (inl was) = inl was
stopped_one bank block place image stopped before is (inr of) =
    inr (subst (λ (w : Writes). IsStopped [] w image stopped) (of_one bank block place is) of)

pub written_zeros : (bank : Image) (place : ℕ) (old now : Option Image) (r : Result (Unit {0}) ℕ) → bank ≡ replicate 1 (replicate 4096 0)
    → OnOk r (ForSome old (λ image. now ≡ Some (written (writes_of_rows bank ([] ++ row_of place)) image)))
    → OnOk r (ForSome old (λ image. now ≡ Some (written (zeros_at place) image)))
written_zeros bank = written_one bank (replicate 4096 0)

pub partly_zeros : (bank : Image) (place : ℕ) (old now : Option Image) (r : Result (Unit {0}) ℕ) → bank ≡ replicate 1 (replicate 4096 0)
    → IfErr r (λ n. ForSome old (λ image. IsPartly (writes_of_rows bank ([] ++ row_of place)) image n now))
    → IfErr r (λ n. ForSome old (λ image. IsPartly (zeros_at place) image n now))
partly_zeros bank = partly_one bank (replicate 4096 0)

pub stopped_zeros : (bank : Image) (place : ℕ) (image stopped : Image) (before : Type 0) → bank ≡ replicate 1 (replicate 4096 0)
    → before ⊎ IsStopped (writes_of_rows bank []) (writes_of_rows bank (row_of place)) image stopped → before ⊎ IsStopped [] (zeros_at place) image stopped
stopped_zeros bank = stopped_one bank (replicate 4096 0)

-- at the place that a root states
pub partly_at : (place root : ℕ) (image : Image) (n : ℕ) (now : Option Image) → place ≡ root → IsPartly (zeros_at place) image n now → IsPartly (zeros_at root) image n now
partly_at place root image n now is held = subst (λ (at : ℕ). IsPartly (zeros_at at) image n now) is held

pub stopped_at : (place root : ℕ) (image stopped : Image) (read old : Type 0) → place ≡ root → (read → old) → read ⊎ IsStopped [] (zeros_at place) image stopped
    → old ⊎ IsStopped [] (zeros_at root) image stopped
stopped_at place root image stopped read old is before (inl was) = inl (before was)
stopped_at place root image stopped read old is before (inr of) = inr (subst (λ (at : ℕ). IsStopped [] (zeros_at at) image stopped) is of)
