-- Tests that pass and tests that fail.
use Rattle.std.proofs.Common.{◌≡◌, ℕ, ◌==◌, ◌&&◌, ◌||◌, Bool, true, false, List, refl, arith, bytes_eq}
use Rattle.std.proofs.lemmas.Bool.Decides.{nat_tests}
use Rattle.std.proofs.lemmas.Slice.Eq.{bytes_eq-Decides}

pub clash : {P : Type 0} → false ≡ true → P
clash e = cc

pub same_test : (a b : ℕ) → a ≡ b → (a == b) ≡ true
same_test a b e = grind (arith, nat_tests)

pub other_test : (a b : ℕ) → (a ≡ b → ⊥) → (a == b) ≡ false
other_test a b d = grind (arith, nat_tests)

pub same_bytes : (a b : List ℕ) → a ≡ b → bytes_eq a b ≡ true
same_bytes a b e = (bytes_eq-Decides a b).1 e

pub and_false : (p : Bool) → (p && false) ≡ false
and_false p = grind (arith, nat_tests)

pub and_true : (p : Bool) → (p && true) ≡ p
and_true p = grind (arith, nat_tests)

pub both : (p q : Bool) → p ≡ true → q ≡ true → (p && q) ≡ true
both p q e k = grind (arith, nat_tests)

pub first_of_both : (p q : Bool) → (p && q) ≡ true → p ≡ true
first_of_both p q k = grind (arith, nat_tests)

pub second_of_both : (p q : Bool) → (p && q) ≡ true → q ≡ true
second_of_both p q k = grind (arith, nat_tests)

pub or_true : (p q : Bool) → q ≡ true → (p || q) ≡ true
or_true p q e = grind (arith, nat_tests)

pub neither : (p q : Bool) → p ≡ false → q ≡ false → (p || q) ≡ false
neither p q e k = grind (arith, nat_tests)

pub not_first : (p q : Bool) → (p || q) ≡ false → p ≡ false
not_first p q k = grind (arith, nat_tests)

pub not_second : (p q : Bool) → (p || q) ≡ false → q ≡ false
not_second p q k = grind (arith, nat_tests)

pub the_second : (p q : Bool) → p ≡ false → (p || q) ≡ true → q ≡ true
the_second p q e k = grind (arith, nat_tests)

-- a number in a list that begins with it
pub first_here : (n : ℕ) (t : Bool) → (n == n || t) ≡ true
first_here n t = grind (arith, nat_tests)

-- a test that passes for one of a list
pub passed_on : (p q r : Bool) → (q ≡ true → r ≡ true) → (p || q) ≡ true → (p || r) ≡ true
passed_on true q r f k = refl
passed_on false q r f k = f k

pub passed_part : (p q r t : Bool) → (r ≡ true → t ≡ true) → ((p && q) || r) ≡ true → (p || t) ≡ true
passed_part true q r t f k = refl
passed_part false q r t f k = f k

-- equal numbers, by a test
pub test_same : (a b : ℕ) → (a == b) ≡ true → a ≡ b
test_same a b k = grind (arith, nat_tests)

pub or_false : (p : Bool) → (p || false) ≡ p
or_false p = grind (arith, nat_tests)
