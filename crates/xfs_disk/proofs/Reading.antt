-- A disk that is read again and again is only read.
use Rattle.std.proofs.Common.{ℕ, List, Option, refl, ◌∙◌, arith}
use Rattle.xfs_disk.specs.Blocks.{Image}
use Rattle.xfs_disk.specs.Reads.{OnlyReads}
use Rattle.xfs_disk.specs.Stops.{GoesOn}

-- time that goes on further
pub goes_further : (a b c : ℕ) (first second third : ℕ → Image → Type 0) → GoesOn a b first second → GoesOn b c second third → GoesOn a c first third
goes_further a b c first second third x y = record {
  later = omega (arith, x.later, y.later);
  nothing_new = λ t image low left. x.nothing_new t image low (y.nothing_new t image (omega (arith, low, x.later)) left);
  keeps = λ t image low left. y.keeps t image (omega (arith, low, x.later)) (x.keeps t image low left);
}

module _ {D : Type 0} (size : D → ℕ) (holds : D → Option Image) (write_faults writes : D → ℕ) (tells_stops : D → Type 0)
    (moment : D → ℕ) (may_leave : D → ℕ → List ℕ → Type 0) (left_since : D → ℕ → Image → Type 0) where
  pub reads_none : (disk : D) → OnlyReads size holds write_faults writes tells_stops moment may_leave left_since disk disk
  reads_none disk = record {
    same_size = refl;
    same_contents = refl;
    same_write_faults = refl;
    same_writes = refl;
    tells = λ t. t;
    leaves = λ t b v may. may;
    past = λ t. record { later = omega arith; nothing_new = λ since image low left. left; keeps = λ since image low left. left };
  }

  pub reads_on : (a b c : D) → OnlyReads size holds write_faults writes tells_stops moment may_leave left_since a b
      → OnlyReads size holds write_faults writes tells_stops moment may_leave left_since b c
      → OnlyReads size holds write_faults writes tells_stops moment may_leave left_since a c
  reads_on a b c first then = record {
    same_size = then.same_size ∙ first.same_size;
    same_contents = then.same_contents ∙ first.same_contents;
    same_write_faults = then.same_write_faults ∙ first.same_write_faults;
    same_writes = then.same_writes ∙ first.same_writes;
    tells = λ t. then.tells (first.tells t);
    leaves = λ t block bytes may. first.leaves t block bytes (then.leaves (first.tells t) block bytes may);
    past = λ t. goes_further (moment a) (moment b) (moment c) (left_since a) (left_since b) (left_since c) (first.past t) (then.past (first.tells t));
  }
