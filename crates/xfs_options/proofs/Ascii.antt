-- Texts whose bytes are all ASCII.
use Rattle.std.proofs.Common.{◌≡◌, ℕ, zero, suc, ◌<◌, Bool, true, false, ◌&&◌, nat_lt, List, [], ◌∷◌, get_or, Option, Some, None, refl, arith, lit<}
use Rattle.std.specs.List.{list_all}
use Rattle.std.proofs.lemmas.Bool.Decides.{nat_tests}

pub none_of : (r : Option (List ℕ)) → ((u : List ℕ) × (r ≡ Some u) → ⊥) → r ≡ None
none_of None never = refl
none_of (Some u) never = absurd (never (u, refl))

both : (a b : Bool) → (a && b) ≡ true → (a ≡ true) × (b ≡ true)
both true b h = (refl, h)
both false b h = cc

small : (b : ℕ) → nat_lt b 128 ≡ true → b < 128
small b h = grind (arith, nat_tests)

-- each byte is below 128
pub all_ascii : (bs : List ℕ) → list_all (λ byte. nat_lt byte 128) bs ≡ true → (i : ℕ) → get_or bs i 0 < 128
all_ascii [] all zero = lit< tt
all_ascii [] all (suc i) = lit< tt
all_ascii (b ∷ bs) all zero = small b (both (nat_lt b 128) (list_all (λ byte. nat_lt byte 128) bs) all).0
all_ascii (b ∷ bs) all (suc i) = all_ascii bs (both (nat_lt b 128) (list_all (λ byte. nat_lt byte 128) bs) all).1 i
