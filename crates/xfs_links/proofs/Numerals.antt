-- The names that orphans may get: each is a number in decimal, or two with a dot between them.
use Rattle.std.proofs.Common.{◌≡◌, ℕ, zero, suc, ◌+◌, ◌%◌, ◌^◌, ◌<◌, ◌≤◌, ◌==◌, ◌&&◌, ◌||◌, Bool, true, false, not, nat_le, List, [], ◌∷◌, ◌++◌, length, refl, sym, ◌∙◌, ap, subst, arith, if◌then◌else◌, append_assoc, append-nil, length-append, decimal}
use Rattle.std.specs.List.{list_any}
use Rattle.std.specs.Str.{bytes_eq}
use Rattle.std.proofs.lemmas.Bool.Decides.{nat_tests}
use Rattle.std.proofs.lemmas.Fmt.{decimal_by_steps, decimal_injective, decimal_nonempty, length-decimal-le}
use Rattle.std.proofs.lemmas.Slice.Eq.{bytes_eq-Decides}
use Rattle.xfs_volume.specs.Names.{is_name}
use Rattle.xfs_links.specs.Connected.{lost_name}

-- digits alone
abbrev pub AreDigits : List ℕ → Type 0
AreDigits [] = Unit {0}
AreDigits (b ∷ bs) = ((48 ≤ b) × (b ≤ 57)) × AreDigits bs

digits_last : (bs : List ℕ) (d : ℕ) → AreDigits bs → d < 10 → AreDigits (bs ++ (48 + d) ∷ [])
digits_last [] d h l = ((omega arith, omega arith), tt)
digits_last (b ∷ bs) d h l = (h.0, digits_last bs d h.1 l)

pub decimal_digits : (n : ℕ) → n < 2 ^ 64 → AreDigits (decimal n)
decimal_digits n h = decimal_by_steps (λ m ds. AreDigits ds) (λ m l. ((omega arith, omega arith), tt)) (λ m ds l k. digits_last ds (m % 10) k (omega arith)) n h

-- what stands before the first dot, and from it on
before_dot : List ℕ → List ℕ
before_dot [] = []
before_dot (b ∷ bs) = if b == 46 then [] else (b ∷ before_dot bs)

from_dot : List ℕ → List ℕ
from_dot [] = []
from_dot (b ∷ bs) = if b == 46 then (b ∷ bs) else from_dot bs

no_dot : (b : ℕ) → 48 ≤ b → (b == 46) ≡ false
no_dot b h = grind (arith, nat_tests)

before_whole : (bs : List ℕ) → AreDigits bs → before_dot bs ≡ bs
unfolding before_dot
before_whole [] h = refl
before_whole (b ∷ bs) h = ap (λ t. if t then [] else (b ∷ before_dot bs)) (no_dot b h.0.0) ∙ ap (λ r. b ∷ r) (before_whole bs h.1)

before_part : (bs rest : List ℕ) → AreDigits bs → before_dot (bs ++ 46 ∷ rest) ≡ bs
unfolding before_dot
before_part [] rest h = refl
before_part (b ∷ bs) rest h = ap (λ t. if t then [] else (b ∷ before_dot (bs ++ 46 ∷ rest))) (no_dot b h.0.0) ∙ ap (λ r. b ∷ r) (before_part bs rest h.1)

from_whole : (bs : List ℕ) → AreDigits bs → from_dot bs ≡ []
unfolding from_dot
from_whole [] h = refl
from_whole (b ∷ bs) h = ap (λ t. if t then (b ∷ bs) else from_dot bs) (no_dot b h.0.0) ∙ from_whole bs h.1

from_part : (bs rest : List ℕ) → AreDigits bs → from_dot (bs ++ 46 ∷ rest) ≡ 46 ∷ rest
unfolding from_dot
from_part [] rest h = refl
from_part (b ∷ bs) rest h = ap (λ t. if t then (b ∷ (bs ++ 46 ∷ rest)) else from_dot (bs ++ 46 ∷ rest)) (no_dot b h.0.0) ∙ from_part bs rest h.1

-- a later name, with its dot
name_later : (n k : ℕ) → lost_name n (suc k) ≡ decimal n ++ 46 ∷ decimal (suc k)
name_later n k = append_assoc (decimal n) (46 ∷ []) (decimal (suc k))

-- names of two files differ
before_name : (n k : ℕ) → n < 2 ^ 64 → before_dot (lost_name n k) ≡ decimal n
before_name n zero h = before_whole (decimal n) (decimal_digits n h)
before_name n (suc k) h = ap before_dot (name_later n k) ∙ before_part (decimal n) (decimal (suc k)) (decimal_digits n h)

pub names_apart : (n m j k : ℕ) → n < 2 ^ 64 → m < 2 ^ 64 → lost_name n j ≡ lost_name m k → n ≡ m
names_apart n m j k h l e = decimal_injective n m h l (sym (before_name n j h) ∙ ap before_dot e ∙ before_name m k l)

-- names of one file differ
from_first : (n : ℕ) → n < 2 ^ 64 → from_dot (lost_name n 0) ≡ []
from_first n h = from_whole (decimal n) (decimal_digits n h)

from_later : (n k : ℕ) → n < 2 ^ 64 → from_dot (lost_name n (suc k)) ≡ 46 ∷ decimal (suc k)
from_later n k h = ap from_dot (name_later n k) ∙ from_part (decimal n) (decimal (suc k)) (decimal_digits n h)

same_tail : (a : ℕ) (xs ys : List ℕ) → a ∷ xs ≡ a ∷ ys → xs ≡ ys
same_tail a xs ys e = cc

pub name_once : (n j k : ℕ) → n < 2 ^ 64 → j < 2 ^ 64 → k < 2 ^ 64 → lost_name n j ≡ lost_name n k → j ≡ k
name_once n zero zero h a b e = refl
name_once n zero (suc k) h a b e = let both : [] ≡ 46 ∷ decimal (suc k) = sym (from_first n h) ∙ ap from_dot e ∙ from_later n k h in cc
name_once n (suc j) zero h a b e = let both : 46 ∷ decimal (suc j) ≡ [] = sym (from_later n j h) ∙ ap from_dot e ∙ from_first n h in cc
name_once n (suc j) (suc k) h a b e =
    decimal_injective (suc j) (suc k) a b (same_tail 46 (decimal (suc j)) (decimal (suc k)) (sym (from_later n j h) ∙ ap from_dot e ∙ from_later n k h))

-- what can stand in such a name
abbrev pub AreFine : List ℕ → Type 0
AreFine [] = Unit {0}
AreFine (b ∷ bs) = ((b == 0 || b == 47) ≡ false) × AreFine bs

fine_digits : (bs : List ℕ) → AreDigits bs → AreFine bs
fine_digits [] h = tt
fine_digits (b ∷ bs) h = (fine b h.0.0, fine_digits bs h.1)
  where
    fine : (b : ℕ) → 48 ≤ b → (b == 0 || b == 47) ≡ false
    fine b h = grind (arith, nat_tests)

fine_append : (xs ys : List ℕ) → AreFine xs → AreFine ys → AreFine (xs ++ ys)
fine_append [] ys h k = k
fine_append (x ∷ xs) ys h k = (h.0, fine_append xs ys h.1 k)

none_bad : (bs : List ℕ) → AreFine bs → list_any (λ byte. byte == 0 || byte == 0x2f) bs ≡ false
none_bad [] h = refl
none_bad (b ∷ bs) h = both (b == 0 || b == 47) (list_any (λ byte. byte == 0 || byte == 0x2f) bs) h.0 (none_bad bs h.1)
  where
    both : (p q : Bool) → p ≡ false → q ≡ false → (p || q) ≡ false
    both p q e k = grind (arith, nat_tests)

-- a name of at most 255 bytes that begins with a digit is one that a file can have
begins_name : (b : ℕ) (bs : List ℕ) → 48 ≤ b → length (b ∷ bs) ≤ 255 → AreFine (b ∷ bs) → is_name (b ∷ bs) ≡ true
unfolding is_name
begins_name b bs h l f = all (nat_le 1 (length (b ∷ bs))) (nat_le (length (b ∷ bs)) 255) (list_any (λ byte. byte == 0 || byte == 0x2f) (b ∷ bs)) (bytes_eq (b ∷ bs) (46 ∷ [])) (bytes_eq (b ∷ bs) (46 ∷ 46 ∷ []))
    (some (length bs)) (grind (arith, nat_tests)) (none_bad (b ∷ bs) f) (no_dots []) (no_dots (46 ∷ []))
  where
    some : (n : ℕ) → nat_le 1 (suc n) ≡ true
    some n = grind (arith, nat_tests)

    all : (p q r s t : Bool) → p ≡ true → q ≡ true → r ≡ false → s ≡ false → t ≡ false → (((p && q) && not r) && not (s || t)) ≡ true
    all p q r s t a c d e g = grind (arith, nat_tests)

    head : (ds : List ℕ) → b ∷ bs ≡ 46 ∷ ds → b ≡ 46
    head ds e = cc

    no_dots : (ds : List ℕ) → bytes_eq (b ∷ bs) (46 ∷ ds) ≡ false
    no_dots ds = either (bytes_eq (b ∷ bs) (46 ∷ ds)) refl
      where
        either : (t : Bool) → bytes_eq (b ∷ bs) (46 ∷ ds) ≡ t → t ≡ false
        either true e = let low : b ≡ 46 = head ds ((bytes_eq-Decides (b ∷ bs) (46 ∷ ds)).0 e) in absurd (omega arith)
        either false e = refl

digit_name : (bs rest : List ℕ) → AreDigits bs → 0 < length bs → AreFine (bs ++ rest) → length (bs ++ rest) ≤ 255 → is_name (bs ++ rest) ≡ true
digit_name [] rest h some f l = absurd (omega arith)
digit_name (b ∷ bs) rest h some f l = begins_name b (bs ++ rest) h.0.0 l f

decimal_short : (n : ℕ) → n < 2 ^ 64 → length (decimal n) ≤ 20
decimal_short n h = length-decimal-le 20 n (omega arith) (omega arith) h

pub orphan_names_are_names : (n k : ℕ) → n < 2 ^ 64 → k < 2 ^ 64 → is_name (lost_name n k) ≡ true
orphan_names_are_names n zero h l = subst (λ r. is_name r ≡ true) (append-nil (decimal n))
    (digit_name (decimal n) [] (decimal_digits n h) (decimal_nonempty n h) (fine_append (decimal n) [] (fine_digits (decimal n) (decimal_digits n h)) tt)
    (subst (λ r. length r ≤ 255) (sym (append-nil (decimal n))) (omega (arith, decimal_short n h))))
orphan_names_are_names n (suc k) h l = subst (λ r. is_name r ≡ true) (sym (name_later n k))
    (digit_name (decimal n) (46 ∷ decimal (suc k)) (decimal_digits n h) (decimal_nonempty n h)
    (fine_append (decimal n) (46 ∷ decimal (suc k)) (fine_digits (decimal n) (decimal_digits n h)) (refl, fine_digits (decimal (suc k)) (decimal_digits (suc k) l)))
    (omega (arith, length-append (decimal n) (46 ∷ decimal (suc k)), decimal_short n h, decimal_short (suc k) l)))
