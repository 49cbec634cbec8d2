-- A test that holds, or does not.
use Rattle.std.proofs.Common.{◌≡◌, Bool, true, false}

pub not_false : (b r : Bool) → r ≡ b → r ≡ true → b ≡ false → ⊥
not_false b r is holds fails = cc

pub not_true : (b r : Bool) → r ≡ b → r ≡ false → b ≡ true → ⊥
not_true b r is fails holds = cc
