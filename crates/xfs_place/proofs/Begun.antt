-- Runs that do not join are as many as the blocks that begin one.
use Rattle.std.proofs.Common.{◌≡◌, ℕ, zero, suc, ◌+◌, ◌-◌, ◌/◌, ◌%◌, ◌^◌, ◌≤◌, ◌<◌, inl, inr, Bool, true, false, not, ◌&&◌, ◌||◌, ◌==◌, nat_lt, if◌then◌else◌, List, [], ◌∷◌, length, Option, Some, None, refl, ◌∙◌, ap, ap₂, arith}
use Rattle.std.specs.Option.{is_some}
use Rattle.std.proofs.lemmas.Bool.{cases_lt, cases_eq, eq-eqb, lt-ltb, le-ltb}
use Rattle.std.proofs.lemmas.Bool.Decides.{nat_tests}
use Rattle.xfs_disk.specs.Lists.{is_in_range}
use Rattle.xfs_geom.specs.declared.records.Run.{Run}
use Rattle.xfs_kinds.specs.OffsetWords.{offset_in_fork, flags_of, is_file_data}
use Rattle.xfs_kinds.specs.MergedRuns.{AreRuns, NoneJoin, held_at, joins, offset_word_at}
use Rattle.xfs_place.specs.Choice.{begins_owned, goes_on, is_joined, one_if, total}
use Rattle.xfs_place.proofs.Totals.{total_more}

-- the runs have some blocks each and end by a block
abbrev pub AreSome : ℕ → List Run → Type 0
AreSome top [] = Unit {0}
AreSome top (r ∷ rest) = (1 ≤ r.count) × (r.start + r.count ≤ top) × AreSome top rest

-- the offsets of data stay below the flags
abbrev pub OffsetsFit : List Run → Type 0
OffsetsFit [] = Unit {0}
OffsetsFit (r ∷ rest) = (is_file_data r.owner r.offset_word ≡ true → offset_in_fork r.offset_word + r.count ≤ 2 ^ 54) × OffsetsFit rest

-- the first run does not go on where something ends before it
abbrev pub FirstApart : (ℕ → Option (ℕ × ℕ)) → List Run → Type 0
FirstApart owned [] = Unit {0}
FirstApart owned (r ∷ rest) = 0 < r.start → is_joined (owned (r.start - 1)) (Some (r.owner, r.offset_word)) ≡ false

pub held_before : (rs : List Run) (low b : ℕ) → AreRuns low rs → b < low → held_at rs b ≡ None
held_before [] low b runs h = refl
held_before (r ∷ rest) low b runs h =
    let out : is_in_range r.start r.count b ≡ false = grind (arith, nat_tests, runs.0, h) in
    let next = held_before rest (r.start + r.count) b runs.2 (omega (arith, runs.0, h)) in
    rw out next

held_in : (r : Run) (rest : List Run) (b : ℕ) → r.start ≤ b → b < r.start + r.count → held_at (r ∷ rest) b ≡ Some (r.owner, offset_word_at r b)
held_in r rest b low high = let here : is_in_range r.start r.count b ≡ true = grind (arith, nat_tests, low, high) in rw here refl

held_behind : (r : Run) (rest : List Run) (b : ℕ) → r.start + r.count ≤ b → held_at (r ∷ rest) b ≡ held_at rest b
held_behind r rest b h = let out : is_in_range r.start r.count b ≡ false = grind (arith, nat_tests, h) in rw out refl

-- a row in which nothing passes, and one in which one does
total_stays : (f : ℕ → ℕ) (from k : ℕ) → ((b : ℕ) → from ≤ b → b < from + k → f b ≡ 0) → total f (from + k) ≡ total f from
total_stays f from zero none = let e : from + 0 ≡ from = omega arith in ap (total f) e
total_stays f from (suc k) none =
    let e : from + suc k ≡ (from + k) + 1 = omega arith in
    let so = total_stays f from k (λ b low high. none b low (omega (arith, high))) in
    ap (total f) e ∙ total_more f (from + k) ∙ (omega (arith, so, none (from + k) (omega arith) (omega arith)))

pub stays_to : (f : ℕ → ℕ) (from to : ℕ) → from ≤ to → ((b : ℕ) → from ≤ b → b < to → f b ≡ 0) → total f to ≡ total f from
stays_to f from to low none =
    let e : to ≡ from + (to - from) = omega (arith, low) in
    ap (total f) e ∙ total_stays f from (to - from) (λ b l h. none b l (omega (arith, h, low)))

either : (t : Bool) → (true && true && (not t || true)) ≡ true
either true = refl
either false = refl

-- the block behind one of a run goes on where it ends
word_goes_on : (r : Run) (b : ℕ) → (is_file_data r.owner r.offset_word ≡ true → offset_in_fork r.offset_word + r.count ≤ 2 ^ 54) → r.start < b → b < r.start + r.count
    → goes_on (r.owner, offset_word_at r (b - 1)) (r.owner, offset_word_at r b) ≡ true
word_goes_on r b fits low high = by_case (is_file_data r.owner r.offset_word) refl
  where
    by_case : (t : Bool) → is_file_data r.owner r.offset_word ≡ t
        → goes_on (r.owner, (if t then r.offset_word + (b - 1 - r.start) else r.offset_word)) (r.owner, (if t then r.offset_word + (b - r.start) else r.offset_word)) ≡ true
    by_case false h =
        let o : (r.owner == r.owner) ≡ true = eq-eqb r.owner r.owner refl in
        let f : (flags_of r.offset_word == flags_of r.offset_word) ≡ true = eq-eqb (flags_of r.offset_word) (flags_of r.offset_word) refl in
        rw (o, f, h) refl
    by_case true h =
        let small = fits h in
        let w = r.offset_word + (b - 1 - r.start) in
        let x = r.offset_word + (b - r.start) in
        let o : (r.owner == r.owner) ≡ true = eq-eqb r.owner r.owner refl in
        let f : (flags_of w == flags_of x) ≡ true = eq-eqb (flags_of w) (flags_of x) (omega (arith, small, low, high)) in
        let n : (offset_in_fork w + 1 == offset_in_fork x) ≡ true = eq-eqb (offset_in_fork w + 1) (offset_in_fork x) (omega (arith, small, low, high)) in
        rw (o, f, n) (either (is_file_data r.owner w))

-- the first block of the next run goes on where the last of this one ends, where the runs join
last_goes_on : (r y : Run) → (is_file_data r.owner r.offset_word ≡ true → offset_in_fork r.offset_word + r.count ≤ 2 ^ 54) → 1 ≤ r.count → r.start + r.count ≡ y.start
    → goes_on (r.owner, offset_word_at r (y.start - 1)) (y.owner, y.offset_word) ≡ joins r y
last_goes_on r y fits some next = by_case (is_file_data r.owner r.offset_word) refl
  where
    at : (r.start + r.count == y.start) ≡ true
    at = eq-eqb (r.start + r.count) y.start next

    by_case : (t : Bool) → is_file_data r.owner r.offset_word ≡ t
        → goes_on (r.owner, (if t then r.offset_word + (y.start - 1 - r.start) else r.offset_word)) (y.owner, y.offset_word) ≡ joins r y
    by_case false h = rw (at, h) refl
    by_case true h =
        let small = fits h in
        let w = r.offset_word + (y.start - 1 - r.start) in
        let f : flags_of w ≡ flags_of r.offset_word = omega (arith, small, next, some) in
        let bit : w / 2 ^ 62 ≡ r.offset_word / 2 ^ 62 = omega (arith, f) in
        let same : is_file_data r.owner w ≡ true = ap (λ (b : ℕ). nat_lt r.owner (2 ^ 63) && not (b % 2 == 1)) bit ∙ h in
        let n : offset_in_fork w + 1 ≡ offset_in_fork r.offset_word + r.count = omega (arith, small, next, some) in
        rw (at, h, same, f, n) refl

word_start : (r : Run) → offset_word_at r r.start ≡ r.offset_word
word_start r = by_case (is_file_data r.owner r.offset_word)
  where
    by_case : (t : Bool) → (if t then r.offset_word + (r.start - r.start) else r.offset_word) ≡ r.offset_word
    by_case true = omega arith
    by_case false = refl

start_begins : (o : ℕ → Option (ℕ × ℕ)) (s : Run) → o s.start ≡ Some (s.owner, offset_word_at s s.start) → (0 < s.start → is_joined (o (s.start - 1)) (Some (s.owner, s.offset_word)) ≡ false)
    → one_if (begins_owned o s.start) ≡ 1
start_begins o s here apart =
    let at : o s.start ≡ Some (s.owner, s.offset_word) = here ∙ ap (λ (w : ℕ). let p : Option (ℕ × ℕ) = Some (s.owner, w) in p) (word_start s) in
    elim (cases_lt 0 s.start) [
      | inl pos ↦
          let e : nat_lt 0 s.start ≡ true = lt-ltb 0 s.start pos in
          let f = apart pos in
          rw (e, at, f) refl
      | inr none ↦
          let e : nat_lt 0 s.start ≡ false = le-ltb 0 s.start none in
          rw (e, at) refl
    ]

inner_goes_on : (o : ℕ → Option (ℕ × ℕ)) (s : Run) (b : ℕ) → (is_file_data s.owner s.offset_word ≡ true → offset_in_fork s.offset_word + s.count ≤ 2 ^ 54) → s.start < b → b < s.start + s.count
    → o (b - 1) ≡ Some (s.owner, offset_word_at s (b - 1)) → o b ≡ Some (s.owner, offset_word_at s b) → one_if (begins_owned o b) ≡ 0
inner_goes_on o s b fit l h was now =
    let pos : nat_lt 0 b ≡ true = lt-ltb 0 b (omega (arith, l)) in
    let on = word_goes_on s b fit l h in
    let both : is_joined (o (b - 1)) (o b) ≡ true = ap₂ is_joined was now ∙ on in
    rw (pos, both) (never (is_some (o b)))
  where
    never : (t : Bool) → one_if (t && not (true && true)) ≡ 0
    never true = refl
    never false = refl

none_rest : (x : Run) (ys : List Run) → NoneJoin (x ∷ ys) → NoneJoin ys
none_rest x [] n = tt
none_rest x (y ∷ ys) n = n.1

first_rest : (o : ℕ → Option (ℕ × ℕ)) (x : Run) (ys : List Run) (l t : ℕ) → AreRuns l (x ∷ ys) → AreSome t (x ∷ ys) → (is_file_data x.owner x.offset_word ≡ true → offset_in_fork x.offset_word + x.count ≤ 2 ^ 54)
    → NoneJoin (x ∷ ys) → ((b : ℕ) → l ≤ b → b < t → o b ≡ held_at (x ∷ ys) b) → FirstApart o ys
first_rest o x [] l t rs sm fit n held = tt
first_rest o x (y ∷ ys) l t rs sm fit n held = λ pos. elim (cases_eq (x.start + x.count) y.start) [
  | inl next ↦
      let was : o (y.start - 1) ≡ Some (x.owner, offset_word_at x (y.start - 1)) =
      held (y.start - 1) (omega (arith, rs.0, sm.0, next)) (omega (arith, sm.2.1, sm.2.0)) ∙ held_in x (y ∷ ys) (y.start - 1) (omega (arith, sm.0, next)) (omega (arith, next, sm.0)) in
      ap (λ (p : Option (ℕ × ℕ)). is_joined p (Some (y.owner, y.offset_word))) was ∙ last_goes_on x y fit sm.0 next ∙ n.0
  | inr gap ↦
      let far : x.start + x.count < y.start = omega (arith, rs.2.0, gap) in
      let was : o (y.start - 1) ≡ None =
      held (y.start - 1) (omega (arith, rs.0, far)) (omega (arith, sm.2.1, sm.2.0, pos)) ∙ held_behind x (y ∷ ys) (y.start - 1) (omega (arith, far))
      ∙ held_before (y ∷ ys) y.start (y.start - 1) (omega arith, rs.2.1, rs.2.2) (omega (arith, pos)) in
      ap (λ (p : Option (ℕ × ℕ)). is_joined p (Some (y.owner, y.offset_word))) was
]

-- The blocks that begin a run, of blocks that the runs own from low on, are as many as the runs.
pub begun : (owned : ℕ → Option (ℕ × ℕ)) (rs : List Run) (low top : ℕ) → AreRuns low rs → AreSome top rs → OffsetsFit rs → NoneJoin rs → FirstApart owned rs → low ≤ top
    → ((b : ℕ) → low ≤ b → b < top → owned b ≡ held_at rs b)
    → total (λ b. one_if (begins_owned owned b)) top ≡ total (λ b. one_if (begins_owned owned b)) low + length rs
begun owned [] low top runs some fits none first up is =
    let f : ℕ → ℕ = λ b. one_if (begins_owned owned b) in
    let zero' = stays_to f low top up (λ b l h. let e = is b l h in rw e refl) in
    omega (arith, zero')
begun owned (r ∷ rest) low top runs some fits none first up is =
    let f : ℕ → ℕ = λ b. one_if (begins_owned owned b) in
    let end = r.start + r.count in
    let before = stays_to f low r.start runs.0 (λ b l h.
    let e : owned b ≡ None = is b l (omega (arith, h, some.0, some.1)) ∙ held_before (r ∷ rest) r.start b (omega arith, runs.1, runs.2) h in
    rw e refl) in
    let mine = λ (b : ℕ) (l : r.start ≤ b) (h : b < end). is b (omega (arith, l, runs.0)) (omega (arith, h, some.1)) ∙ held_in r rest b l h in
    let starts : f r.start ≡ 1 = start_begins owned r (mine r.start (omega arith) (omega (arith, some.0))) first in
    let step = total_more f r.start in
    let inside = stays_to f (r.start + 1) end (omega (arith, some.0)) (λ b l h.
    inner_goes_on owned r b fits.0 (omega (arith, l)) h (mine (b - 1) (omega (arith, l)) (omega (arith, l, h))) (mine b (omega (arith, l)) h)) in
    let next = begun owned rest end top runs.2 some.2 fits.1 (none_rest r rest none) (first_rest owned r rest low top runs some fits.0 none is) some.1
    (λ b l h. is b (omega (arith, l, runs.0)) h ∙ held_behind r rest b l) in
    omega (arith, before, starts, step, inside, next)
