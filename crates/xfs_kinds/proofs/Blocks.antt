-- Runs of the blocks that pass a test.
use Rattle.std.proofs.Common.{◌≡◌, ℕ, zero, suc, Bool, true, false, ◌+◌, ◌≤◌, ◌<◌, ◌⊎◌, inl, inr, ◌&&◌, ◌||◌, ◌==◌, if◌then◌else◌, List, [], ◌∷◌, refl, sym, ◌∙◌, ap, ap₂, subst, arith}
use Rattle.std.proofs.lemmas.Bool.{true≢false, eqb-true, eqb-false}
use Rattle.std.proofs.lemmas.Bool.Decides.{nat_tests}
use Rattle.xfs_disk.specs.Lists.{is_in_range}
use Rattle.xfs_geom.specs.declared.records.Span.{Span}
use Rattle.xfs_kinds.specs.FreeRuns.{span, is_in_spans, AreSeparate, with_free_block, runs_where}

-- blocks that fail are passed over
pub runs_of-gap : (test : ℕ → Bool) (b k n m e : ℕ) → m ≡ k + n → e ≡ b + k → ((c : ℕ) → b ≤ c → c < e → test c ≡ false) → runs_where test b m ≡ runs_where test e n
runs_of-gap test b zero n m e many end fails =
    let same : b ≡ e = omega (arith, end) in
    let count : m ≡ n = omega (arith, many) in
    ap₂ (runs_where test) same count
runs_of-gap test b (suc k) n m e many end fails =
    let longer : m ≡ suc (k + n) = omega (arith, many) in
    let first = fails b (omega arith) (omega (arith, end)) in
    let next : e ≡ (b + 1) + k = omega (arith, end) in
    rw (longer, first) (runs_of-gap test (b + 1) k n (k + n) e refl next (λ c low high. fails c (omega (arith, low)) high))

-- the first run begins at low or behind
abbrev BeginAt : ℕ → List Span → Type 0
BeginAt low [] = Unit {0}
BeginAt low (s ∷ rest) = low ≤ s.start

begin_before : (low high : ℕ) (xs : List Span) → low ≤ high → BeginAt high xs → BeginAt low xs
begin_before low high [] h from = tt
begin_before low high (s ∷ rest) h from = omega (arith, h, from)

with_begins : (b : ℕ) (xs : List Span) → BeginAt b (with_free_block b xs)
with_begins b [] = omega arith
with_begins b (s ∷ rest) = by_case (s.start == b + 1)
  where
    by_case : (t : Bool) → BeginAt b (if t then span b (s.count + 1) ∷ rest else (span b 1 ∷ s ∷ rest))
    by_case true = omega arith
    by_case false = omega arith

-- no run begins before the blocks that are asked
runs_begin : (test : ℕ → Bool) (b n : ℕ) → BeginAt b (runs_where test b n)
runs_begin test b zero = tt
runs_begin test b (suc n) = by_case (test b) (runs_begin test (b + 1) n)
  where
    by_case : (t : Bool) → BeginAt (b + 1) (runs_where test (b + 1) n) → BeginAt b (if t then with_free_block b (runs_where test (b + 1) n) else runs_where test (b + 1) n)
    by_case true from = with_begins b (runs_where test (b + 1) n)
    by_case false from = begin_before b (b + 1) (runs_where test (b + 1) n) (omega arith) from

-- a block stays alone before runs that do not follow it
stands_alone : (b : ℕ) (xs : List Span) → BeginAt (b + 2) xs → with_free_block b xs ≡ span b 1 ∷ xs
stands_alone b [] from = refl
stands_alone b (s ∷ rest) from =
    let apart : (s.start == b + 1) ≡ false = grind (arith, nat_tests, from) in
    rw apart refl

-- a block that passes stays alone where there is no next one, or it fails
last_alone : (test : ℕ → Bool) (b n : ℕ) → (n ≡ 0) ⊎ (test (b + 1) ≡ false) → with_free_block b (runs_where test (b + 1) n) ≡ span b 1 ∷ runs_where test (b + 1) n
last_alone test b zero h = refl
last_alone test b (suc n) (inl none) = absurd (omega (arith, none))
last_alone test b (suc n) (inr fails) =
    let from = runs_begin test (b + 1 + 1) n in
    let far : b + 2 ≡ b + 1 + 1 = omega arith in
    rw fails (stands_alone b (runs_where test (b + 1 + 1) n) (subst (λ (x : ℕ). BeginAt x (runs_where test (b + 1 + 1) n)) (sym far) from))

-- blocks that pass, up to the end or a block that fails, are one run
pub runs_of-run : (test : ℕ → Bool) (b k n m e : ℕ) → 0 < k → m ≡ k + n → e ≡ b + k → ((c : ℕ) → b ≤ c → c < e → test c ≡ true) → (n ≡ 0) ⊎ (test e ≡ false)
    → runs_where test b m ≡ span b k ∷ runs_where test e n
runs_of-run test b zero n m e some many end passes stop = absurd (omega (arith, some))
runs_of-run test b (suc zero) n m e some many end passes stop =
    let longer : m ≡ suc n = omega (arith, many) in
    let next : e ≡ b + 1 = omega (arith, end) in
    let first = passes b (omega arith) (omega (arith, end)) in
    let there : (n ≡ 0) ⊎ (test (b + 1) ≡ false) = subst (λ (x : ℕ). (n ≡ 0) ⊎ (test x ≡ false)) next stop in
    rw (longer, first, next) (last_alone test b n there)
runs_of-run test b (suc (suc k)) n m e some many end passes stop =
    let longer : m ≡ suc (suc k + n) = omega (arith, many) in
    let first = passes b (omega arith) (omega (arith, end)) in
    let next : e ≡ (b + 1) + suc k = omega (arith, end) in
    let others = runs_of-run test (b + 1) (suc k) n (suc k + n) e (omega arith) refl next (λ c low high. passes c (omega (arith, low)) high) stop in
    let follows : (b + 1 == b + 1) ≡ true = grind (arith, nat_tests) in
    let size : suc k + 1 ≡ suc (suc k) = omega arith in
    rw (longer, first, others, follows) (ap (λ (x : ℕ). span b x ∷ runs_where test e n) size)

-- tests that agree have the same runs
pub runs_of-same : (p q : ℕ → Bool) (b n : ℕ) → ((c : ℕ) → b ≤ c → p c ≡ q c) → runs_where p b n ≡ runs_where q b n
runs_of-same p q b zero same = refl
runs_of-same p q b (suc n) same =
    let first = same b (omega arith) in
    let others = runs_of-same p q (b + 1) n (λ c low. same c (omega (arith, low))) in
    rw (first, others) refl

or_assoc : (x y z : Bool) → ((x || y) || z) ≡ (x || (y || z))
or_assoc true y z = refl
or_assoc false y z = refl

-- the first block passes
more_pass : (b n c : ℕ) (t : Bool) → ((c == b) ≡ true → t ≡ true) → ((c == b) || (is_in_range (b + 1) n c && t)) ≡ (is_in_range b (suc n) c && t)
more_pass b n c true h = grind (arith, nat_tests)
more_pass b n c false h = by_case (c == b) refl
  where
    by_case : (x : Bool) → (c == b) ≡ x → ((c == b) || (is_in_range (b + 1) n c && false)) ≡ (is_in_range b (suc n) c && false)
    by_case true e = absurd (true≢false (sym (h e)))
    by_case false e = grind (arith, nat_tests, e)

-- the first block fails
more_fail : (b n c : ℕ) (t : Bool) → ((c == b) ≡ true → t ≡ false) → (is_in_range (b + 1) n c && t) ≡ (is_in_range b (suc n) c && t)
more_fail b n c false h = grind (arith, nat_tests)
more_fail b n c true h = by_case (c == b) refl
  where
    by_case : (x : Bool) → (c == b) ≡ x → (is_in_range (b + 1) n c && true) ≡ (is_in_range b (suc n) c && true)
    by_case true e = absurd (true≢false (h e))
    by_case false e = grind (arith, nat_tests, e)

separate_before : (b : ℕ) (xs : List Span) → AreSeparate (b + 1) xs → AreSeparate b xs
separate_before b [] apart = tt
separate_before b (s ∷ rest) apart = (omega (arith, apart.0), apart.1, apart.2)

with_separate : (b : ℕ) (xs : List Span) → AreSeparate (b + 1) xs → AreSeparate b (with_free_block b xs)
with_separate b [] apart = (omega arith, omega arith, tt)
with_separate b (s ∷ rest) apart = by_case (s.start == b + 1) refl
  where
    by_case : (t : Bool) → (s.start == b + 1) ≡ t → AreSeparate b (if t then span b (s.count + 1) ∷ rest else (span b 1 ∷ s ∷ rest))
    by_case true h =
        let start = eqb-true s.start (b + 1) h in
        let end : s.start + s.count + 1 ≡ b + (s.count + 1) + 1 = omega (arith, start) in
        (omega arith, omega arith, subst (λ (x : ℕ). AreSeparate x rest) end apart.2)
    by_case false h =
        let other = eqb-false s.start (b + 1) h in
        let far : b + 1 + 1 ≤ s.start = omega (arith, apart.0, other) in
        (omega arith, omega arith, (far, apart.1, apart.2))

in_with : (b c : ℕ) (xs : List Span) → is_in_spans (with_free_block b xs) c ≡ ((c == b) || is_in_spans xs c)
in_with b c [] = grind (arith, nat_tests)
in_with b c (s ∷ rest) = by_case (s.start == b + 1) refl
  where
    by_case : (t : Bool) → (s.start == b + 1) ≡ t → is_in_spans (if t then span b (s.count + 1) ∷ rest else (span b 1 ∷ s ∷ rest)) c ≡ ((c == b) || (is_in_range s.start s.count c || is_in_spans rest c))
    by_case true h =
        let start : s.start ≡ b + 1 = eqb-true s.start (b + 1) h in
        let grown : is_in_range b (s.count + 1) c ≡ ((c == b) || is_in_range s.start s.count c) = grind (arith, nat_tests, start) in
        rw grown (or_assoc (c == b) (is_in_range s.start s.count c) (is_in_spans rest c))
    by_case false h =
        let one : is_in_range b 1 c ≡ (c == b) = grind (arith, nat_tests) in
        rw one refl

-- a block is in the runs where it is one of those that are asked and passes
pub in_runs : (test : ℕ → Bool) (b n c : ℕ) → is_in_spans (runs_where test b n) c ≡ (is_in_range b n c && test c)
in_runs test b zero c = let none : is_in_range b 0 c ≡ false = grind (arith, nat_tests) in rw none refl
in_runs test b (suc n) c = by_case (test b) refl (in_runs test (b + 1) n c)
  where
    by_case : (t : Bool) → test b ≡ t → is_in_spans (runs_where test (b + 1) n) c ≡ (is_in_range (b + 1) n c && test c)
        → is_in_spans (if t then with_free_block b (runs_where test (b + 1) n) else runs_where test (b + 1) n) c ≡ (is_in_range b (suc n) c && test c)
    by_case true h others =
        in_with b c (runs_where test (b + 1) n) ∙ ap (λ (x : Bool). (c == b) || x) others
        ∙ more_pass b n c (test c) (λ e. ap test (eqb-true c b e) ∙ h)
    by_case false h others = others ∙ more_fail b n c (test c) (λ e. ap test (eqb-true c b e) ∙ h)

-- runs are apart
pub runs_separate : (test : ℕ → Bool) (b n : ℕ) → AreSeparate b (runs_where test b n)
runs_separate test b zero = tt
runs_separate test b (suc n) = by_case (test b) (runs_separate test (b + 1) n)
  where
    by_case : (t : Bool) → AreSeparate (b + 1) (runs_where test (b + 1) n) → AreSeparate b (if t then with_free_block b (runs_where test (b + 1) n) else runs_where test (b + 1) n)
    by_case true apart = with_separate b (runs_where test (b + 1) n) apart
    by_case false apart = separate_before b (runs_where test (b + 1) n) apart
