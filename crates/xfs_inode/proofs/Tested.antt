-- Lists of which each item is tested, one after the other.
use Rattle.std.proofs.Common.{◌≡◌, ℕ, suc, ◌+◌, ◌-◌, ◌<◌, ◌≤◌, Bool, true, false, ◌&&◌, List, length, get_or, drop, sym, ap, ◌∙◌, arith}
use Rattle.std.specs.List.{list_all, range_with_len}
use Rattle.std.proofs.lemmas.List.{at_drop_more, at_drop_all}

-- an item that passes, one that does not, and no item
pub tested_more : {X : Type 0} (test : X → Bool) (xs : List X) (i : ℕ) (d : X) (whole : Bool) → i < length xs → test (get_or xs i d) ≡ true
    → list_all test (drop i xs) ≡ whole → list_all test (drop (i + 1) xs) ≡ whole
tested_more test xs i d whole inside passes held = sym (at_drop_more (list_all test) xs i d inside ∙ ap (λ (t : Bool). t && list_all test (drop (i + 1) xs)) passes) ∙ held

pub tested_stop : {X : Type 0} (test : X → Bool) (xs : List X) (i : ℕ) (d : X) (whole : Bool) → i < length xs → test (get_or xs i d) ≡ false
    → list_all test (drop i xs) ≡ whole → false ≡ whole
tested_stop test xs i d whole inside fails held = sym (at_drop_more (list_all test) xs i d inside ∙ ap (λ (t : Bool). t && list_all test (drop (i + 1) xs)) fails) ∙ held

pub tested_all : {X : Type 0} (test : X → Bool) (xs : List X) (i : ℕ) (whole : Bool) → length xs ≤ i → list_all test (drop i xs) ≡ whole → true ≡ whole
tested_all test xs i whole end held = sym (at_drop_all (list_all test) xs i end) ∙ held

-- the same of the numbers from i on, below n
abbrev pub numbers_from : (ℕ → Bool) → ℕ → ℕ → Bool
numbers_from test i n = list_all test (range_with_len i (n - i))

pub number_more : (test : ℕ → Bool) (i n : ℕ) (whole : Bool) → i < n → test i ≡ true → numbers_from test i n ≡ whole → numbers_from test (i + 1) n ≡ whole
number_more test i n whole inside passes held =
    let more : n - i ≡ suc (n - (i + 1)) = omega arith in
    sym (ap (λ (k : ℕ). list_all test (range_with_len i k)) more ∙ ap (λ (t : Bool). t && numbers_from test (i + 1) n) passes) ∙ held

pub number_stop : (test : ℕ → Bool) (i n : ℕ) (whole : Bool) → i < n → test i ≡ false → numbers_from test i n ≡ whole → false ≡ whole
number_stop test i n whole inside fails held =
    let more : n - i ≡ suc (n - (i + 1)) = omega arith in
    sym (ap (λ (k : ℕ). list_all test (range_with_len i k)) more ∙ ap (λ (t : Bool). t && numbers_from test (i + 1) n) fails) ∙ held

pub number_all : (test : ℕ → Bool) (i n : ℕ) (whole : Bool) → n ≤ i → numbers_from test i n ≡ whole → true ≡ whole
number_all test i n whole end held =
    let none : n - i ≡ 0 = omega arith in
    sym (ap (λ (k : ℕ). list_all test (range_with_len i k)) none) ∙ held

pub number_first : (test : ℕ → Bool) (n : ℕ) → numbers_from test 0 n ≡ list_all test (range_with_len 0 n)
number_first test n =
    let whole : n - 0 ≡ n = omega arith in
    ap (λ (k : ℕ). list_all test (range_with_len 0 k)) whole
