-- Claims in order, and joined.
use Rattle.std.proofs.Common.{◌≡◌, ℕ, ◌+◌, ◌-◌, ◌/◌, ◌%◌, ◌^◌, ◌≤◌, ◌<◌, inl, inr, Bool, true, false, not, ◌&&◌, ◌||◌, ◌==◌, nat_lt, if◌then◌else◌, List, [], ◌∷◌, length, Option, Some, None, refl, sym, ◌∙◌, ap, ap₂, subst, arith}
use Rattle.std.specs.List.{sum_by}
use Rattle.std.proofs.lemmas.List.Sums.{sum_by-cons}
use Rattle.std.specs.List.{All}
use Rattle.std.specs.List.Sorted.{IsNonDecreasingBy, IsPermutation}
use Rattle.std.proofs.lemmas.Bool.{cases_lt, ne_eqb, eqb-true, and_parts}
use Rattle.std.proofs.lemmas.Bool.Decides.{nat_tests}
use Rattle.std.proofs.lemmas.List.Elements.{All-head, All-tail, All-cons}
use Rattle.std.proofs.lemmas.List.Sorted.{IsNonDecreasingBy-drop, sum_by-IsPermutation}
use Rattle.xfs_geom.specs.Runs.{covers, runs_on}
use Rattle.xfs_geom.specs.declared.records.Run.{Run}
use Rattle.xfs_kinds.specs.OffsetWords.{offset_in_fork, flags_of, is_file_data}
use Rattle.xfs_kinds.specs.MergedRuns.{AreRuns, NoneJoin, OffsetsAreOfData, held_at, joins, longer, merged, offsets_follow, with_run, offset_word_at}
use Rattle.xfs_place.specs.Claims.{ClaimedOnce, AreClaims, IsClaimedRun}
use Rattle.xfs_place.specs.Choice.{begins_owned, how_many, is_joined, one_if, total}
use Rattle.xfs_place.proofs.Begun.{AreSome, FirstApart, OffsetsFit, begun, held_before}
use Rattle.xfs_place.proofs.Totals.{total_none}

-- the runs with a block, the sum of their owners and of their words tell what the block is held by
abbrev owners_on : List Run → ℕ → ℕ
owners_on runs b = sum_by (λ (r : Run). if covers b r then r.owner else 0) runs

abbrev words_on : List Run → ℕ → ℕ
words_on runs b = sum_by (λ (r : Run). if covers b r then offset_word_at r b else 0) runs

-- sums and counts of a list with a first run
abbrev own : ℕ → Bool → ℕ
own n t = if t then n else 0

pub on_first : (r : Run) (rest : List Run) (b : ℕ) → runs_on (r ∷ rest) b ≡ one_if (covers b r) + runs_on rest b
on_first r rest b = sum_by-cons (λ (x : Run). if covers b x then 1 else 0) r rest

pub none_on : (rs : List Run) (b : ℕ) → runs_on rs b ≡ 0 → held_at rs b ≡ None
none_on [] b h = refl
none_on (r ∷ rest) b h = by_case (covers b r) refl (on_first r rest b) (none_on rest b)
  where
    by_case : (t : Bool) → covers b r ≡ t → runs_on (r ∷ rest) b ≡ one_if (covers b r) + runs_on rest b → (runs_on rest b ≡ 0 → held_at rest b ≡ None)
        → (if covers b r then Some (r.owner, offset_word_at r b) else held_at rest b) ≡ None
    by_case true e sums next =
        let one : one_if (covers b r) ≡ 1 = ap one_if e in
        absurd (omega (arith, h, sums, one))
    by_case false e sums next =
        let none : one_if (covers b r) ≡ 0 = ap one_if e in
        rw e (next (omega (arith, h, sums, none)))

none_some : (p : ℕ × ℕ) (q : Option (ℕ × ℕ)) → q ≡ None → q ≡ Some p → ⊥
none_some p q e f = cc

pub none_held : (rs : List Run) (b : ℕ) → held_at rs b ≡ None → runs_on rs b ≡ 0
none_held [] b h = refl
none_held (r ∷ rest) b h = by_case (covers b r) refl (on_first r rest b) (none_held rest b)
  where
    by_case : (t : Bool) → covers b r ≡ t → runs_on (r ∷ rest) b ≡ one_if (covers b r) + runs_on rest b → (held_at rest b ≡ None → runs_on rest b ≡ 0)
        → runs_on (r ∷ rest) b ≡ 0
    by_case true e sums next =
        let held : held_at (r ∷ rest) b ≡ Some (r.owner, offset_word_at r b) = rw e refl in
        absurd (none_some (r.owner, offset_word_at r b) (held_at (r ∷ rest) b) h held)
    by_case false e sums next =
        let none : one_if (covers b r) ≡ 0 = ap one_if e in
        let held : held_at (r ∷ rest) b ≡ held_at rest b = rw e refl in
        omega (arith, sums, none, next (sym held ∙ h))

sums_none : (rs : List Run) (b : ℕ) → runs_on rs b ≡ 0 → (owners_on rs b ≡ 0) × (words_on rs b ≡ 0)
sums_none [] b h = (refl, refl)
sums_none (r ∷ rest) b h = by_case (covers b r) refl (on_first r rest b) (sums_none rest b)
    (sum_by-cons (λ (x : Run). if covers b x then x.owner else 0) r rest) (sum_by-cons (λ (x : Run). if covers b x then offset_word_at x b else 0) r rest)
  where
    by_case : (t : Bool) → covers b r ≡ t → runs_on (r ∷ rest) b ≡ one_if (covers b r) + runs_on rest b → (runs_on rest b ≡ 0 → (owners_on rest b ≡ 0) × (words_on rest b ≡ 0))
        → owners_on (r ∷ rest) b ≡ own r.owner (covers b r) + owners_on rest b → words_on (r ∷ rest) b ≡ own (offset_word_at r b) (covers b r) + words_on rest b
        → (owners_on (r ∷ rest) b ≡ 0) × (words_on (r ∷ rest) b ≡ 0)
    by_case true e sums next os ws =
        let one : one_if (covers b r) ≡ 1 = ap one_if e in
        absurd (omega (arith, h, sums, one))
    by_case false e sums next os ws =
        let none : one_if (covers b r) ≡ 0 = ap one_if e in
        let o : own r.owner (covers b r) ≡ 0 = ap (own r.owner) e in
        let w : own (offset_word_at r b) (covers b r) ≡ 0 = ap (own (offset_word_at r b)) e in
        let so = next (omega (arith, h, sums, none)) in
        (omega (arith, os, o, so.0), omega (arith, ws, w, so.1))

-- a block of one run is held as the sums say
held_is : (rs : List Run) (b : ℕ) → runs_on rs b ≤ 1 → held_at rs b ≡ (if runs_on rs b == 0 then None else Some (owners_on rs b, words_on rs b))
held_is [] b h = refl
held_is (r ∷ rest) b h = by_case (covers b r) refl (on_first r rest b) (held_is rest b) (sums_none rest b)
    (sum_by-cons (λ (x : Run). if covers b x then x.owner else 0) r rest) (sum_by-cons (λ (x : Run). if covers b x then offset_word_at x b else 0) r rest)
  where
    by_case : (t : Bool) → covers b r ≡ t → runs_on (r ∷ rest) b ≡ one_if (covers b r) + runs_on rest b
        → (runs_on rest b ≤ 1 → held_at rest b ≡ (if runs_on rest b == 0 then None else Some (owners_on rest b, words_on rest b)))
        → (runs_on rest b ≡ 0 → (owners_on rest b ≡ 0) × (words_on rest b ≡ 0))
        → owners_on (r ∷ rest) b ≡ own r.owner (covers b r) + owners_on rest b → words_on (r ∷ rest) b ≡ own (offset_word_at r b) (covers b r) + words_on rest b
        → (if covers b r then Some (r.owner, offset_word_at r b) else held_at rest b)
        ≡ (if runs_on (r ∷ rest) b == 0 then None else Some (owners_on (r ∷ rest) b, words_on (r ∷ rest) b))
    by_case true e sums next none os ws =
        let one : one_if (covers b r) ≡ 1 = ap one_if e in
        let zero' = none (omega (arith, h, sums, one)) in
        let o : owners_on (r ∷ rest) b ≡ r.owner = os ∙ ap (λ (t : Bool). own r.owner t + owners_on rest b) e ∙ (omega (arith, zero'.0)) in
        let w : words_on (r ∷ rest) b ≡ offset_word_at r b = ws ∙ ap (λ (t : Bool). own (offset_word_at r b) t + words_on rest b) e ∙ (omega (arith, zero'.1)) in
        let some : (runs_on (r ∷ rest) b == 0) ≡ false = ne_eqb (runs_on (r ∷ rest) b) 0 (λ z. omega (arith, z, sums, one)) in
        rw (some, o, w, e) refl
    by_case false e sums next none os ws =
        let nil : one_if (covers b r) ≡ 0 = ap one_if e in
        let same : runs_on (r ∷ rest) b ≡ runs_on rest b = omega (arith, sums, nil) in
        let o : owners_on (r ∷ rest) b ≡ owners_on rest b = os ∙ ap (λ (t : Bool). own r.owner t + owners_on rest b) e ∙ (omega arith) in
        let w : words_on (r ∷ rest) b ≡ words_on rest b = ws ∙ ap (λ (t : Bool). own (offset_word_at r b) t + words_on rest b) e ∙ (omega arith) in
        rw (same, o, w, e) (next (omega (arith, h, same)))

-- runs in another order hold the same
pub held_moved : (xs ys : List Run) → IsPermutation xs ys → ClaimedOnce xs → (b : ℕ) → held_at ys b ≡ held_at xs b
held_moved xs ys moved apart b =
    let n : runs_on ys b ≡ runs_on xs b = sum_by-IsPermutation (λ (x : Run). if covers b x then 1 else 0) xs ys moved in
    let o : owners_on ys b ≡ owners_on xs b = sum_by-IsPermutation (λ (x : Run). if covers b x then x.owner else 0) xs ys moved in
    let w : words_on ys b ≡ words_on xs b = sum_by-IsPermutation (λ (x : Run). if covers b x then offset_word_at x b else 0) xs ys moved in
    let left = held_is ys b (omega (arith, n, apart.once b)) in
    let right = held_is xs b (apart.once b) in
    left ∙ rw (n, o, w) (sym right)

pub apart_moved : (xs ys : List Run) → IsPermutation xs ys → ClaimedOnce xs → ClaimedOnce ys
apart_moved xs ys moved apart = record {
  once = λ b.
      let n : runs_on ys b ≡ runs_on xs b = sum_by-IsPermutation (λ (x : Run). if covers b x then 1 else 0) xs ys moved in
      omega (arith, n, apart.once b);
}

-- the first of the runs begins at low or behind
abbrev BeginsAt : ℕ → List Run → Type 0
BeginsAt low [] = Unit {0}
BeginsAt low (r ∷ rest) = low ≤ r.start

-- runs by their starts that are apart ascend
pub ascending : (top : ℕ) (rs : List Run) (low : ℕ) → top < 2 ^ 63 → BeginsAt low rs → IsNonDecreasingBy (λ (r : Run). r.start) rs → All (IsClaimedRun top) rs → ClaimedOnce rs → AreRuns low rs
ascending top [] low small begins rising each apart = tt
ascending top (r ∷ rest) low small begins rising each apart =
    let mine = All-head (IsClaimedRun top) r rest each in
    let others = All-tail (IsClaimedRun top) r rest each in
    let less : ClaimedOnce rest = record { once = λ b. omega (arith, apart.once b, on_first r rest b) } in
    let rise = IsNonDecreasingBy-drop (λ (x : Run). x.start) 1 (r ∷ rest) rising in
    (begins, omega (arith, mine.inside, small), ascending top rest (r.start + r.count) small (behind rest rising others apart) rise others less)
  where
    behind : (ys : List Run) → IsNonDecreasingBy (λ (x : Run). x.start) (r ∷ ys) → All (IsClaimedRun top) ys → ClaimedOnce (r ∷ ys) → BeginsAt (r.start + r.count) ys
    behind [] up all once = tt
    behind (y ∷ ys) up all once = elim (cases_lt y.start (r.start + r.count)) [
      | inr far ↦ far
      | inl near ↦
          let after : r.start ≤ y.start = up 0 1 r (omega arith) (omega arith) in
          let some = (All-head (IsClaimedRun top) y ys all).some in
          let first : covers y.start r ≡ true = grind (arith, nat_tests, after, near) in
          let second : covers y.start y ≡ true = grind (arith, nat_tests, some) in
          let one : one_if (covers y.start r) ≡ 1 = ap one_if first in
          let two : one_if (covers y.start y) ≡ 1 = ap one_if second in
          absurd (omega (arith, once.once y.start, on_first r (y ∷ ys) y.start, on_first y ys y.start, one, two))
    ]

-- what holds of each claim, run by run
pub are_some : (top : ℕ) (rs : List Run) → All (IsClaimedRun top) rs → AreSome top rs
are_some top [] each = tt
are_some top (r ∷ rest) each = let mine = All-head (IsClaimedRun top) r rest each in (mine.some, mine.inside, are_some top rest (All-tail (IsClaimedRun top) r rest each))

pub offsets_fit : (top : ℕ) (rs : List Run) → All (IsClaimedRun top) rs → OffsetsFit rs
offsets_fit top [] each = tt
offsets_fit top (r ∷ rest) each = ((All-head (IsClaimedRun top) r rest each).fits, offsets_fit top rest (All-tail (IsClaimedRun top) r rest each))

pub offsets_plain : (top : ℕ) (rs : List Run) → All (IsClaimedRun top) rs → OffsetsAreOfData rs
offsets_plain top [] each = tt
offsets_plain top (r ∷ rest) each = ((All-head (IsClaimedRun top) r rest each).plain, offsets_plain top rest (All-tail (IsClaimedRun top) r rest each))

-- joined claims are claims
joined_data : (x y : Run) → flags_of x.offset_word ≡ flags_of y.offset_word → x.owner ≡ y.owner → is_file_data x.owner x.offset_word ≡ is_file_data y.owner y.offset_word
joined_data x y flags owner =
    let bit : x.offset_word / 2 ^ 62 ≡ y.offset_word / 2 ^ 62 = omega (arith, flags) in
    ap₂ (λ (o b : ℕ). nat_lt o (2 ^ 63) && not (b % 2 == 1)) owner bit

longer_claim : (top : ℕ) (x y : Run) → joins x y ≡ true → IsClaimedRun top x → IsClaimedRun top y → IsClaimedRun top (longer x y.count)
longer_claim top x y h a b =
    let s = x.start + x.count == y.start in
    let o = x.owner == y.owner in
    let f = flags_of x.offset_word == flags_of y.offset_word in
    let p = and_parts (s && o && f) (offsets_follow x y) h in
    let q = and_parts (s && o) f p.0 in
    let r = and_parts s o q.0 in
    let next = eqb-true (x.start + x.count) y.start r.0 in
    let same = joined_data x y (eqb-true (flags_of x.offset_word) (flags_of y.offset_word) q.1) (eqb-true x.owner y.owner r.1) in
    record {
      some = omega (arith, a.some);
      inside = omega (arith, b.inside, next);
      fits = λ of_data.
          let follow : (not true || offset_in_fork x.offset_word + x.count == offset_in_fork y.offset_word) ≡ true =
          subst (λ (t : Bool). (not t || offset_in_fork x.offset_word + x.count == offset_in_fork y.offset_word) ≡ true) of_data p.1 in
          let at = eqb-true (offset_in_fork x.offset_word + x.count) (offset_in_fork y.offset_word) follow in
          omega (arith, at, b.fits (sym same ∙ of_data));
      plain = a.plain;
    }

merged_with : (top low : ℕ) (x : Run) (zs : List Run) → IsClaimedRun top x → All (IsClaimedRun top) zs → AreRuns low (x ∷ zs) → All (IsClaimedRun top) (with_run x zs) × AreRuns low (with_run x zs)
merged_with top low x [] mine each runs = (All-cons (IsClaimedRun top) x [] mine each, runs)
merged_with top low x (z ∷ rest) mine each runs = by_case (joins x z) refl
  where
    by_case : (t : Bool) → joins x z ≡ t → All (IsClaimedRun top) (if t then longer x z.count ∷ rest else (x ∷ z ∷ rest)) × AreRuns low (if t then longer x z.count ∷ rest else (x ∷ z ∷ rest))
    by_case false h = (All-cons (IsClaimedRun top) x (z ∷ rest) mine each, runs)
    by_case true h =
        let both = longer_claim top x z h mine (All-head (IsClaimedRun top) z rest each) in
        let next : x.start + x.count ≡ z.start = eqb-true (x.start + x.count) z.start
        (and_parts (x.start + x.count == z.start) (x.owner == z.owner) (and_parts (x.start + x.count == z.start && x.owner == z.owner) (flags_of x.offset_word == flags_of z.offset_word) (and_parts (x.start + x.count == z.start && x.owner == z.owner && flags_of x.offset_word == flags_of z.offset_word) (offsets_follow x z) h).0).0).0 in
        let end : z.start + z.count ≡ x.start + (x.count + z.count) = omega (arith, next) in (
          All-cons (IsClaimedRun top) (longer x z.count) rest both (All-tail (IsClaimedRun top) z rest each),
          (runs.0, omega (arith, runs.2.1, end), subst (λ (n : ℕ). AreRuns n rest) end runs.2.2),
        )

runs_from : (low high : ℕ) (rs : List Run) → AreRuns high rs → low ≤ high → AreRuns low rs
runs_from low high [] runs h = tt
runs_from low high (r ∷ rest) runs h = (omega (arith, h, runs.0), runs.1, runs.2)

merged_all : (top low : ℕ) (rs : List Run) → All (IsClaimedRun top) rs → AreRuns low rs → All (IsClaimedRun top) (merged rs) × AreRuns low (merged rs)
unfolding merged
merged_all top low [] each runs = (each, tt)
merged_all top low (r ∷ rest) each runs =
    let so = merged_all top (r.start + r.count) rest (All-tail (IsClaimedRun top) r rest each) runs.2 in
    merged_with top low r (merged rest) (All-head (IsClaimedRun top) r rest each) so.0 (runs.0, runs.1, so.1)

pub merged_claims : (top : ℕ) (rs : List Run) → AreClaims top rs → AreClaims top (merged rs)
merged_claims top rs claims = let so = merged_all top 0 rs claims.each claims.ascend in record { ascend = so.1; each = so.0 }

pub begins_any : (rs : List Run) → BeginsAt 0 rs
begins_any [] = tt
begins_any (r ∷ rest) = omega arith

first_any : (owned : ℕ → Option (ℕ × ℕ)) (top : ℕ) (rs : List Run) → AreRuns 0 rs → AreSome top rs → ((b : ℕ) → b < top → owned b ≡ held_at rs b) → FirstApart owned rs
first_any owned top [] runs some is = tt
first_any owned top (y ∷ ys) runs some is = λ pos.
    let none : owned (y.start - 1) ≡ None =
    is (y.start - 1) (omega (arith, some.0, some.1)) ∙ held_before (y ∷ ys) y.start (y.start - 1) (omega arith, runs.1, runs.2) (omega (arith, pos)) in
    ap (λ (o : Option (ℕ × ℕ)). is_joined o (Some (y.owner, y.offset_word))) none

-- runs that ascend and do not join are as many as the blocks that begin one
pub begun_all : (owned : ℕ → Option (ℕ × ℕ)) (top : ℕ) (rs : List Run) → AreClaims top rs → NoneJoin rs → ((b : ℕ) → b < top → owned b ≡ held_at rs b)
    → how_many (begins_owned owned) top ≡ length rs
begun_all owned top rs claims none is =
    let some = are_some top rs claims.each in
    let so : how_many (begins_owned owned) top ≡ total (λ b. one_if (begins_owned owned b)) 0 + length rs =
    begun owned rs 0 top claims.ascend some (offsets_fit top rs claims.each) none (first_any owned top rs claims.ascend some is) (omega arith) (λ b low high. is b high) in
    omega (arith, so, total_none (λ b. one_if (begins_owned owned b)))

-- claims are no more than the blocks that they may have
pub claims_few : (low top : ℕ) (rs : List Run) → AreRuns low rs → All (IsClaimedRun top) rs → low ≤ top → length rs + low ≤ top
claims_few low top [] runs each h = omega (arith, h)
claims_few low top (r ∷ rest) runs each h =
    let mine = All-head (IsClaimedRun top) r rest each in
    let so = claims_few (r.start + r.count) top rest runs.2 (All-tail (IsClaimedRun top) r rest each) mine.inside in
    omega (arith, so, mine.some, runs.0)
