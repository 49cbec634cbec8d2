-- Runs that ascend and do not join are given by the owners and the offset words that they give blocks.
use Rattle.std.proofs.Common.{◌≡◌, ℕ, ◌+◌, ◌-◌, ◌^◌, ◌<◌, ◌≤◌, ◌==◌, Bool, true, false, not, if◌then◌else◌, inl, inr, List, [], ◌∷◌, map, Option, Some, None, refl, sym, ◌∙◌, ap, subst, arith}
use Rattle.std.proofs.lemmas.Bool.{and_from, cases_Bool, cases_lt, eq-eqb, or_left, or_right}
use Rattle.std.proofs.lemmas.Bool.Decides.{nat_tests}
use Rattle.std.proofs.lemmas.List.Elements.{All-head, All-tail}
use Rattle.std.specs.List.{All}
use Rattle.xfs_disk.specs.Lists.{is_in_range}
use Rattle.xfs_geom.specs.declared.records.RmapRec.{RmapRec}
use Rattle.xfs_geom.specs.declared.records.Run.{Run}
use Rattle.xfs_kinds.specs.MergedRuns.{AreRuns, NoneJoin, held_at, joins, offset_word_at, offsets_follow}
use Rattle.xfs_kinds.specs.OffsetWords.{flags_of, is_file_data, offset_in_fork}
use Rattle.xfs_place.specs.Claims.{AreClaims, IsClaimedRun}
use Rattle.xfs_place.specs.Placing.{run_of_record}
use Rattle.xfs_place.proofs.Begun.{held_before}

held_in : (r : Run) (rest : List Run) (b : ℕ) → r.start ≤ b → b < r.start + r.count → held_at (r ∷ rest) b ≡ Some (r.owner, offset_word_at r b)
held_in r rest b low high = let here : is_in_range r.start r.count b ≡ true = grind (arith, nat_tests, low, high) in rw here refl

held_behind : (r : Run) (rest : List Run) (b : ℕ) → r.start + r.count ≤ b → held_at (r ∷ rest) b ≡ held_at rest b
held_behind r rest b h = let out : is_in_range r.start r.count b ≡ false = grind (arith, nat_tests, h) in rw out refl

-- nothing is held where all runs end
held_outside : (top : ℕ) (rs : List Run) (b : ℕ) → All (IsClaimedRun top) rs → top ≤ b → held_at rs b ≡ None
held_outside top [] b all high = refl
held_outside top (r ∷ rest) b all high =
    let ends = (All-head (IsClaimedRun top) r rest all).inside in
    held_behind r rest b (omega (arith, ends, high)) ∙ held_outside top rest b (All-tail (IsClaimedRun top) r rest all) high

first_word : (r : Run) → offset_word_at r r.start ≡ r.offset_word
first_word r = by_data (is_file_data r.owner r.offset_word)
  where
    by_data : (t : Bool) → (if t then r.offset_word + (r.start - r.start) else r.offset_word) ≡ r.offset_word
    by_data true = omega arith
    by_data false = refl

abbrev owned : ℕ → ℕ → Option (ℕ × ℕ)
owned owner word = Some (owner, word)

abbrev owner_in : Option (ℕ × ℕ) → ℕ
owner_in None = 0
owner_in (Some p) = p.0

abbrev word_in : Option (ℕ × ℕ) → ℕ
word_in None = 0
word_in (Some p) = p.1

both_of : (a b c d : ℕ) → owned a b ≡ owned c d → (a ≡ c) × (b ≡ d)
both_of a b c d is = (ap owner_in is, ap word_in is)

held_first : (r : Run) (rest : List Run) → 1 ≤ r.count → held_at (r ∷ rest) r.start ≡ Some (r.owner, r.offset_word)
held_first r rest some = held_in r rest r.start (omega arith) (omega (arith, some)) ∙ ap (λ (word : ℕ). Some (r.owner, word)) (first_word r)

never : (a b : ℕ) (held : Option (ℕ × ℕ)) → held ≡ Some (a, b) → held ≡ None → ⊥
never a b held is none = let both : owned a b ≡ None = sym is ∙ none in cc

-- one of two that hold the same does not begin before the other
begins_by : (low : ℕ) (x y : Run) (xs ys : List Run) → 1 ≤ x.count → AreRuns low (y ∷ ys) → ((b : ℕ) → held_at (x ∷ xs) b ≡ held_at (y ∷ ys) b) → y.start ≤ x.start
begins_by low x y xs ys some runs same = elim (cases_lt x.start y.start) [
  | inl before ↦
      absurd (never x.owner x.offset_word (held_at (x ∷ xs) x.start) (held_first x xs some)
      (same x.start ∙ held_before (y ∷ ys) y.start x.start (omega arith, runs.1, runs.2) before))
  | inr from ↦ from
]

joined_by : (x z : Run) → (is_file_data x.owner x.offset_word ≡ true → offset_in_fork x.offset_word + x.count ≤ 2 ^ 54) → z.start ≡ x.start + x.count → z.owner ≡ x.owner
    → z.offset_word ≡ (if is_file_data x.owner x.offset_word then x.offset_word + x.count else x.offset_word) → joins x z ≡ true
joined_by x z fits start owner word = elim (cases_Bool (is_file_data x.owner x.offset_word)) [
  | inl yes' ↦
      let up : z.offset_word ≡ x.offset_word + x.count = subst (λ (t : Bool). z.offset_word ≡ (if t then x.offset_word + x.count else x.offset_word)) yes' word in
      let few = fits yes' in
      let flags : flags_of x.offset_word ≡ flags_of z.offset_word = omega (arith, up, few) in
      let offset : offset_in_fork x.offset_word + x.count ≡ offset_in_fork z.offset_word = omega (arith, up, few) in
      all flags (or_right (not (is_file_data x.owner x.offset_word)) (offset_in_fork x.offset_word + x.count == offset_in_fork z.offset_word) (eq-eqb (offset_in_fork x.offset_word + x.count) (offset_in_fork z.offset_word) offset))
  | inr no' ↦
      let same : z.offset_word ≡ x.offset_word = subst (λ (t : Bool). z.offset_word ≡ (if t then x.offset_word + x.count else x.offset_word)) no' word in
      all (ap flags_of (sym same)) (or_left (not (is_file_data x.owner x.offset_word)) (offset_in_fork x.offset_word + x.count == offset_in_fork z.offset_word) (ap not no'))
]
  where
    all : flags_of x.offset_word ≡ flags_of z.offset_word → offsets_follow x z ≡ true → joins x z ≡ true
    all flags follows =
        and_from _ _
        (and_from _ _ (and_from _ _ (eq-eqb (x.start + x.count) z.start (sym start)) (eq-eqb x.owner z.owner (sym owner))) (eq-eqb (flags_of x.offset_word) (flags_of z.offset_word) flags))
        follows

first_joins : (x z : Run) (zs : List Run) → NoneJoin (x ∷ z ∷ zs) → joins x z ≡ true → ⊥
first_joins x z zs none is = let both : true ≡ false = sym is ∙ none.0 in cc

rest_apart : (x : Run) (xs : List Run) → NoneJoin (x ∷ xs) → NoneJoin xs
rest_apart x [] none = tt
rest_apart x (z ∷ zs) none = none.1

-- nor does it end before the other
module _ (top : ℕ) (x y : Run) (ys : List Run) (cx : IsClaimedRun top x) (start : x.start ≡ y.start) (owner : x.owner ≡ y.owner) (word : x.offset_word ≡ y.offset_word) (less : x.count < y.count) where
  there : held_at (y ∷ ys) (x.start + x.count) ≡ Some (x.owner, (if is_file_data x.owner x.offset_word then x.offset_word + x.count else x.offset_word))
  there =
      let far : x.start + x.count - y.start ≡ x.count = omega (arith, start) in
      held_in y ys (x.start + x.count) (omega (arith, start)) (omega (arith, start, less))
      ∙ (λ i. Some (sym owner i, (if is_file_data (sym owner i) (sym word i) then sym word i + far i else sym word i)))

  too_short : (xs : List Run) → AreRuns (x.start + x.count) xs → All (IsClaimedRun top) xs → NoneJoin (x ∷ xs) → ((b : ℕ) → held_at (x ∷ xs) b ≡ held_at (y ∷ ys) b) → ⊥
  too_short [] runs all none same =
      never x.owner (if is_file_data x.owner x.offset_word then x.offset_word + x.count else x.offset_word) (held_at [] (x.start + x.count))
      (sym (held_behind x [] (x.start + x.count) (omega arith)) ∙ same (x.start + x.count) ∙ there) refl
  too_short (z ∷ zs) runs all none same =
      let e : ℕ = x.start + x.count in
      let here : held_at (z ∷ zs) e ≡ Some (x.owner, (if is_file_data x.owner x.offset_word then x.offset_word + x.count else x.offset_word)) =
      sym (held_behind x (z ∷ zs) e (omega arith)) ∙ same e ∙ there in
      elim (cases_lt e z.start) [
        | inl before ↦
            absurd (never x.owner (if is_file_data x.owner x.offset_word then x.offset_word + x.count else x.offset_word) (held_at (z ∷ zs) e) here
            (held_before (z ∷ zs) z.start e (omega arith, runs.1, runs.2) before))
        | inr from ↦
            let at : z.start ≡ x.start + x.count = omega (arith, from, runs.0) in
            let is : owned z.owner z.offset_word ≡ owned x.owner (if is_file_data x.owner x.offset_word then x.offset_word + x.count else x.offset_word) =
            sym (held_first z zs (All-head (IsClaimedRun top) z zs all).some) ∙ ap (held_at (z ∷ zs)) at ∙ here in
            let parts = both_of z.owner z.offset_word x.owner (if is_file_data x.owner x.offset_word then x.offset_word + x.count else x.offset_word) is in
            first_joins x z zs none (joined_by x z cx.fits at parts.0 parts.1)
      ]

pub runs_one : (top low : ℕ) (xs ys : List Run) → AreRuns low xs → AreRuns low ys → All (IsClaimedRun top) xs → All (IsClaimedRun top) ys → NoneJoin xs → NoneJoin ys
    → ((b : ℕ) → held_at xs b ≡ held_at ys b) → xs ≡ ys
runs_one top low [] [] rx ry cx cy nx ny same = refl
runs_one top low [] (y ∷ ys) rx ry cx cy nx ny same =
    absurd (never y.owner y.offset_word (held_at (y ∷ ys) y.start) (held_first y ys (All-head (IsClaimedRun top) y ys cy).some) (sym (same y.start)))
runs_one top low (x ∷ xs) [] rx ry cx cy nx ny same =
    absurd (never x.owner x.offset_word (held_at (x ∷ xs) x.start) (held_first x xs (All-head (IsClaimedRun top) x xs cx).some) (same x.start))
runs_one top low (x ∷ xs) (y ∷ ys) rx ry cx cy nx ny same =
    let back = λ (b : ℕ). sym (same b) in
    let ox : IsClaimedRun top x = All-head (IsClaimedRun top) x xs cx in
    let oy : IsClaimedRun top y = All-head (IsClaimedRun top) y ys cy in
    let ax : All (IsClaimedRun top) xs = All-tail (IsClaimedRun top) x xs cx in
    let ay : All (IsClaimedRun top) ys = All-tail (IsClaimedRun top) y ys cy in
    let one : y.start ≤ x.start = begins_by low x y xs ys ox.some ry same in
    let two : x.start ≤ y.start = begins_by low y x ys xs oy.some rx back in
    let start : x.start ≡ y.start = omega (arith, one, two) in
    let first : owned x.owner x.offset_word ≡ owned y.owner y.offset_word =
    sym (held_first x xs ox.some) ∙ same x.start ∙ ap (held_at (y ∷ ys)) start ∙ held_first y ys oy.some in
    let parts = both_of x.owner x.offset_word y.owner y.offset_word first in
    let owner : x.owner ≡ y.owner = parts.0 in
    let word : x.offset_word ≡ y.offset_word = parts.1 in
    let count : x.count ≡ y.count = elim (cases_lt x.count y.count) [
      | inl less ↦ absurd (too_short top x y ys ox start owner word less xs rx.2 ax nx same)
      | inr from ↦ elim (cases_lt y.count x.count) [
        | inl more ↦ absurd (too_short top y x xs oy (sym start) (sym owner) (sym word) more ys ry.2 ay ny back)
        | inr to ↦ omega (arith, from, to)
      ]
    ] in
    let end : y.start + y.count ≡ x.start + x.count = omega (arith, start, count) in
    let behind : AreRuns (x.start + x.count) ys = subst (λ (n : ℕ). AreRuns n ys) end ry.2 in
    let rest : (b : ℕ) → held_at xs b ≡ held_at ys b = λ b. elim (cases_lt b (x.start + x.count)) [
      | inl before ↦ held_before xs (x.start + x.count) b rx.2 before ∙ sym (held_before ys (x.start + x.count) b behind before)
      | inr from ↦ sym (held_behind x xs b from) ∙ same b ∙ held_behind y ys b (omega (arith, from, end))
    ] in
    let tails : xs ≡ ys = runs_one top (x.start + x.count) xs ys rx.2 behind ax ay (rest_apart x xs nx) (rest_apart y ys ny) rest in
    λ i. record { start = start i; count = count i; owner = owner i; offset_word = word i } ∷ tails i

-- records are given by their runs
abbrev record_of_run : Run → RmapRec
record_of_run r = record { start = r.start; count = r.count; owner = r.owner; offset_word = r.offset_word }

again : (rs : List RmapRec) → map record_of_run (map run_of_record rs) ≡ rs
again [] = refl
again (r ∷ rs) = ap (λ (rest : List RmapRec). r ∷ rest) (again rs)

pub records_one : (top : ℕ) (xs ys : List RmapRec) → AreClaims top (map run_of_record xs) → AreClaims top (map run_of_record ys) → NoneJoin (map run_of_record xs)
    → NoneJoin (map run_of_record ys) → ((b : ℕ) → b < top → held_at (map run_of_record xs) b ≡ held_at (map run_of_record ys) b) → xs ≡ ys
records_one top xs ys cx cy nx ny same =
    let all : (b : ℕ) → held_at (map run_of_record xs) b ≡ held_at (map run_of_record ys) b = λ b. elim (cases_lt b top) [
      | inl low ↦ same b low
      | inr high ↦ held_outside top (map run_of_record xs) b cx.each high ∙ sym (held_outside top (map run_of_record ys) b cy.each high)
    ] in
    sym (again xs) ∙ ap (map record_of_run) (runs_one top 0 (map run_of_record xs) (map run_of_record ys) cx.ascend cy.ascend cx.each cy.each nx ny all) ∙ again ys
