-- A set of names that are taken.
use Rattle.std.specs.Prelude.{◌≡◌, ℕ, Bool, List}
use Rattle.std.specs.Ordering.{nat_cmp}
use Rattle.std.specs.declared.cmp.Ordering.{Ordering}
use Rattle.std.specs.Cmp.Lexicographic.{slice_cmp}
use Rattle.std.specs.BTreeSet.{contains}
use Rattle.std.specs.declared.collections.BTreeSet.{BTreeSet}
use Rattle.std.specs.declared.vec.Vec.{Vec}
use Rattle.std.specs.declared.alloc.Global.{Global}

-- the order of names
abbrev pub bytes_cmp : Vec ℕ Global → Vec ℕ Global → Ordering
bytes_cmp a b = slice_cmp nat_cmp a.items b.items

-- the set has the names that pass the test
pub record AreTaken (names : BTreeSet (Vec ℕ Global) Global) (f : List ℕ → Bool) : Type 0 where
  pub told : (k : Vec ℕ Global) → contains bytes_cmp names k ≡ f k.items
