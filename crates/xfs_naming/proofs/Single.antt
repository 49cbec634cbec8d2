-- Files that ascend: one for each number.
use Rattle.std.proofs.Common.{◌≡◌, ℕ, zero, suc, ◌+◌, ◌<◌, ◌≤◌, Bool, true, false, cond, ◌&&◌, ◌||◌, ◌==◌, List, [], ◌∷◌, length, get_or, Option, None, Some, refl, sym, ap, ◌∙◌, subst, arith, inl, inr}
use Rattle.std.specs.List.{list_any, Any}
use Rattle.std.proofs.lemmas.List.Folds.{Any-from_list_any}
use Rattle.std.proofs.lemmas.Bool.{and_parts, or_cases, or_left, or_right, eqb-true, eq-eqb, ne_eqb}
use Rattle.xfs_volume.specs.declared.files.FileRec.{FileRec}
use Rattle.xfs_volume.specs.Names.{is_directory}
use Rattle.xfs_naming.specs.Naming.{NumbersAscend, numbers_of, file_at, is_in_use, is_directory_at}
use Rattle.xfs_naming.proofs.Ascending.{ascend_low}

-- an element of which a test tells
pub any_of : {X : Type 0} (p : X → Bool) (P : X → Type 0) (xs : List X) → ((x : X) → p x ≡ true → P x) → list_any p xs ≡ true → Any P xs
any_of p P xs says any = let found = Any-from_list_any p xs any in (found.0, found.1, found.2, found.3, says found.1 found.4)

apart_low : (a b : ℕ) → b < a → a == b ≡ false
apart_low a b h = ne_eqb a b (λ e. omega arith)

apart_above : (a b : ℕ) → a < b → a == b ≡ false
apart_above a b h = ne_eqb a b (λ e. omega arith)

none_below : (k : ℕ) → k < 0 → ⊥
none_below k h = omega (arith, h)

below_next : (k n : ℕ) → suc k < suc n → k < n
below_next k n h = omega (arith, h)

next_below : (k n : ℕ) → k < n → suc k < suc n
next_below k n h = omega (arith, h)

first_below : (n : ℕ) → 0 < suc n
first_below n = omega arith

next_above : (n : ℕ) → n < n + 1
next_above n = omega arith

less_than_next : (n m : ℕ) → n + 1 ≤ m → n < m
less_than_next n m h = omega (arith, h)

still_less : (x low n : ℕ) → x < low → low ≤ n → x < n
still_less x low n less le = omega (arith, less, le)

less_than_more : (x low n : ℕ) → x < low → low ≤ n → x < n + 1
less_than_more x low n less le = omega (arith, less, le)

not_none : {X : Type 0} (x : X) → ◌≡◌ {A = Option X} None (Some x) → ⊥
not_none x e = cc

some_is : {X : Type 0} (a b : X) → ◌≡◌ {A = Option X} (Some a) (Some b) → a ≡ b
some_is a b e = cc

-- none has a number that is lower
pub none_lower : (q : FileRec → Bool) (low x : ℕ) (files : List FileRec) → NumbersAscend low (numbers_of files) → x < low → list_any (λ (f : FileRec). f.ino == x && q f) files ≡ false
none_lower q low x [] up less = refl
none_lower q low x (f ∷ fs) up less =
    let apart : f.ino == x ≡ false = apart_low f.ino x (still_less x low f.ino less up.0) in
    ap (λ (t : Bool). (t && q f) || list_any (λ (g : FileRec). g.ino == x && q g) fs) apart ∙ none_lower q (f.ino + 1) x fs up.1 (less_than_more x low f.ino less up.0)

number_at : (files : List FileRec) (k : ℕ) (d : FileRec) → k < length files → get_or (numbers_of files) k 0 ≡ (get_or files k d).ino
number_at [] k d h = absurd (none_below k h)
number_at (f ∷ fs) zero d h = refl
number_at (f ∷ fs) (suc k) d h = number_at fs k d (below_next k (length fs) h)

many_numbers : (files : List FileRec) → length (numbers_of files) ≡ length files
many_numbers [] = refl
many_numbers (f ∷ fs) = ap suc (many_numbers fs)

above : (low : ℕ) (files : List FileRec) → NumbersAscend low (numbers_of files) → (k : ℕ) (d : FileRec) → k < length files → low ≤ (get_or files k d).ino
above low files up k d h =
    subst (λ (n : ℕ). low ≤ n) (number_at files k d h) (ascend_low low (numbers_of files) up k (subst (λ (n : ℕ). k < n) (sym (many_numbers files)) h))

-- what a file of a number passes, the file that stands there passes
pub own_test : (q : FileRec → Bool) (low : ℕ) (files : List FileRec) → NumbersAscend low (numbers_of files) → (k : ℕ) (d : FileRec) → k < length files
    → list_any (λ (f : FileRec). f.ino == (get_or files k d).ino && q f) files ≡ q (get_or files k d)
own_test q low [] up k d h = absurd (none_below k h)
own_test q low (f ∷ fs) up zero d h =
    ap (λ (t : Bool). (t && q f) || list_any (λ (g : FileRec). g.ino == f.ino && q g) fs) (eq-eqb f.ino f.ino refl)
    ∙ ap (λ (t : Bool). q f || t) (none_lower q (f.ino + 1) f.ino fs up.1 (next_above f.ino)) ∙ plain (q f)
  where
    plain : (t : Bool) → (t || false) ≡ t
    plain true = refl
    plain false = refl
own_test q low (f ∷ fs) up (suc k) d h =
    let higher : f.ino + 1 ≤ (get_or fs k d).ino = above (f.ino + 1) fs up.1 k d (below_next k (length fs) h) in
    let apart : f.ino == (get_or fs k d).ino ≡ false = apart_above f.ino (get_or fs k d).ino (less_than_next f.ino (get_or fs k d).ino higher) in
    ap (λ (t : Bool). (t && q f) || list_any (λ (g : FileRec). g.ino == (get_or fs k d).ino && q g) fs) apart ∙ own_test q (f.ino + 1) fs up.1 k d (below_next k (length fs) h)

-- the file of its number
pub own_file : (low : ℕ) (files : List FileRec) → NumbersAscend low (numbers_of files) → (k : ℕ) (d : FileRec) → k < length files → file_at files (get_or files k d).ino ≡ Some (get_or files k d)
own_file low [] up k d h = absurd (none_below k h)
own_file low (f ∷ fs) up zero d h = ap (λ (t : Bool). cond t (Some f) (file_at fs f.ino)) (eq-eqb f.ino f.ino refl)
own_file low (f ∷ fs) up (suc k) d h =
    let higher : f.ino + 1 ≤ (get_or fs k d).ino = above (f.ino + 1) fs up.1 k d (below_next k (length fs) h) in
    let apart : f.ino == (get_or fs k d).ino ≡ false = apart_above f.ino (get_or fs k d).ino (less_than_next f.ino (get_or fs k d).ino higher) in
    ap (λ (t : Bool). cond t (Some f) (file_at fs (get_or fs k d).ino)) apart ∙ own_file (f.ino + 1) fs up.1 k d (below_next k (length fs) h)

-- the file of a number is one of the files, and has the number
pub file_any : (files : List FileRec) (x : ℕ) (f : FileRec) → file_at files x ≡ Some f → Any (λ (g : FileRec). (g ≡ f) × (g.ino ≡ x)) files
file_any [] x f e = absurd (not_none f e)
file_any (g ∷ gs) x f e = either (file_any gs x f) (g.ino == x) refl e
  where
    either : (file_at gs x ≡ Some f → Any (λ (g : FileRec). (g ≡ f) × (g.ino ≡ x)) gs) → (t : Bool) → g.ino == x ≡ t → cond t (Some g) (file_at gs x) ≡ Some f
        → Any (λ (g : FileRec). (g ≡ f) × (g.ino ≡ x)) (g ∷ gs)
    either rest true same e = (0, g, first_below (length gs), refl, (some_is g f e, eqb-true g.ino x same))
    either rest false same e = let found = rest e in (suc found.0, found.1, next_below found.0 (length gs) found.2, found.3, found.4)

-- a directory in use is a file in use
pub dir_in_use : (files : List FileRec) (x : ℕ) → is_directory_at files x ≡ true → is_in_use files x ≡ true
dir_in_use [] x h = h
dir_in_use (f ∷ fs) x h = elim (or_cases (f.ino == x && is_directory f) (is_directory_at fs x) h) [
  | inl here ↦ or_left (f.ino == x) _ (and_parts (f.ino == x) (is_directory f) here).0
  | inr later ↦ or_right (f.ino == x) _ (dir_in_use fs x later)
]

-- a file is in use
pub own_in_use : (files : List FileRec) (k : ℕ) (d : FileRec) → k < length files → is_in_use files (get_or files k d).ino ≡ true
own_in_use [] k d h = absurd (none_below k h)
own_in_use (f ∷ fs) zero d h = or_left (f.ino == f.ino) _ (eq-eqb f.ino f.ino refl)
own_in_use (f ∷ fs) (suc k) d h = or_right (f.ino == (get_or fs k d).ino) _ (own_in_use fs k d (below_next k (length fs) h))
