-- The names of generated directories and files: a letter and a number.
use Rattle.std.proofs.Common.{◌≡◌, ℕ, suc, ◌+◌, ◌%◌, ◌^◌, ◌<◌, ◌≤◌, ◌==◌, ◌&&◌, ◌||◌, Bool, true, false, not, nat_le, List, [], ◌∷◌, ◌++◌, length, refl, arith, decimal}
use Rattle.std.specs.List.{list_any}
use Rattle.std.specs.Str.{bytes_eq}
use Rattle.std.proofs.lemmas.Bool.Decides.{nat_tests}
use Rattle.std.proofs.lemmas.Fmt.{decimal_by_steps, decimal_injective, length-decimal-le}
use Rattle.std.proofs.lemmas.Slice.Eq.{bytes_eq-Decides}
use Rattle.xfs_volume.specs.Names.{is_name}
use Rattle.xfs_generator.specs.Files.{directory_name, file_name}

-- no byte is 0 or a slash
abbrev AreFine : List ℕ → Type 0
AreFine [] = Unit {0}
AreFine (b ∷ bs) = ((b == 0 || b == 47) ≡ false) × AreFine bs

fine_byte : (b : ℕ) → 48 ≤ b → (b == 0 || b == 47) ≡ false
fine_byte b h = grind (arith, nat_tests)

fine_last : (bs : List ℕ) (d : ℕ) → AreFine bs → AreFine (bs ++ (48 + d) ∷ [])
fine_last [] d h = (fine_byte (48 + d) (omega arith), tt)
fine_last (b ∷ bs) d h = (h.0, fine_last bs d h.1)

fine_decimal : (n : ℕ) → n < 2 ^ 64 → AreFine (decimal n)
fine_decimal n low = decimal_by_steps (λ m ds. AreFine ds) (λ m l. (fine_byte (48 + m) (omega arith), tt)) (λ m ds l fine. fine_last ds (m % 10) fine) n low

none_bad : (bs : List ℕ) → AreFine bs → list_any (λ byte. byte == 0 || byte == 0x2f) bs ≡ false
none_bad [] h = refl
none_bad (b ∷ bs) h = both (b == 0 || b == 47) (list_any (λ byte. byte == 0 || byte == 0x2f) bs) h.0 (none_bad bs h.1)
  where
    both : (p q : Bool) → p ≡ false → q ≡ false → (p || q) ≡ false
    both p q e k = grind (arith, nat_tests)

-- what begins with a letter and goes on without a slash is a name
fine_name : (b : ℕ) (bs : List ℕ) → 48 ≤ b → length bs ≤ 254 → AreFine bs → is_name (b ∷ bs) ≡ true
unfolding is_name
fine_name b bs h l f = all (nat_le 1 (length (b ∷ bs))) (nat_le (length (b ∷ bs)) 255) (list_any (λ byte. byte == 0 || byte == 0x2f) (b ∷ bs)) (bytes_eq (b ∷ bs) (46 ∷ [])) (bytes_eq (b ∷ bs) (46 ∷ 46 ∷ []))
    (some (length bs)) (few (length bs) l) (none_bad (b ∷ bs) (fine_byte b h, f)) (no_dots []) (no_dots (46 ∷ []))
  where
    some : (n : ℕ) → nat_le 1 (suc n) ≡ true
    some n = grind (arith, nat_tests)

    few : (n : ℕ) → n ≤ 254 → nat_le (suc n) 255 ≡ true
    few n low = grind (arith, nat_tests)

    all : (p q r s t : Bool) → p ≡ true → q ≡ true → r ≡ false → s ≡ false → t ≡ false → (((p && q) && not r) && not (s || t)) ≡ true
    all p q r s t a c d e g = grind (arith, nat_tests)

    head : (ds : List ℕ) → b ∷ bs ≡ 46 ∷ ds → b ≡ 46
    head ds e = cc

    no_dots : (ds : List ℕ) → bytes_eq (b ∷ bs) (46 ∷ ds) ≡ false
    no_dots ds = either (bytes_eq (b ∷ bs) (46 ∷ ds)) refl
      where
        either : (t : Bool) → bytes_eq (b ∷ bs) (46 ∷ ds) ≡ t → t ≡ false
        either true e = let low : b ≡ 46 = head ds ((bytes_eq-Decides (b ∷ bs) (46 ∷ ds)).0 e) in absurd (omega arith)
        either false e = refl

short : (n : ℕ) → n < 2 ^ 64 → length (decimal n) ≤ 254
short n low = let few : length (decimal n) ≤ 20 = length-decimal-le 20 n (omega arith) (omega arith) low in omega (arith, few)

pub directory_is_name : (q : ℕ) → q < 2 ^ 64 → is_name (directory_name q) ≡ true
directory_is_name q low = fine_name 100 (decimal q) (omega arith) (short q low) (fine_decimal q low)

pub file_is_name : (i : ℕ) → i < 2 ^ 64 → is_name (file_name i) ≡ true
file_is_name i low = fine_name 102 (decimal i) (omega arith) (short i low) (fine_decimal i low)

-- names of two directories differ, and those of two files
same_tail : (a : ℕ) (xs ys : List ℕ) → a ∷ xs ≡ a ∷ ys → xs ≡ ys
same_tail a xs ys e = cc

pub directory_names_differ : (q p : ℕ) → q < 2 ^ 64 → p < 2 ^ 64 → directory_name q ≡ directory_name p → q ≡ p
directory_names_differ q p h l e = decimal_injective q p h l (same_tail 100 (decimal q) (decimal p) e)

pub file_names_differ : (i j : ℕ) → i < 2 ^ 64 → j < 2 ^ 64 → file_name i ≡ file_name j → i ≡ j
file_names_differ i j h l e = decimal_injective i j h l (same_tail 102 (decimal i) (decimal j) e)
