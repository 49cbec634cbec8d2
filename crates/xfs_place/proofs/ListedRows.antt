-- Rows of open blocks, as one block after another is looked at.
use Rattle.std.proofs.Common.{◌≡◌, ℕ, zero, suc, ◌+◌, ◌-◌, ◌≤◌, ◌<◌, inl, inr, Bool, true, false, nat_lt, if◌then◌else◌, List, [], ◌∷◌, ◌++◌, length, get_or, refl, sym, ◌∙◌, ap, ap₂, subst, arith, length-append}
use Rattle.std.proofs.lemmas.Bool.{cases_eq, cases_lt, cases_Bool, le-ltb, lt-ltb, true≢false}
use Rattle.std.proofs.lemmas.List.{get_or_append_left, get_or_past, get_or_push}
use Rattle.xfs_place.specs.declared.uses.Use.{Use}
use Rattle.xfs_place.specs.declared.uses.Use.TheVariants.{Claimed}
use Rattle.xfs_place.specs.Choice.{in_pool}
use Rattle.xfs_place.specs.Finding.{AreOpenRows, AreRowsApart, InRow}
use Rattle.xfs_place.specs.Pool.{is_open}

closed_beyond : (uses : List Use) (b : ℕ) → length uses ≤ b → in_pool uses b ≡ false
closed_beyond uses b far = ap is_open (get_or_past uses b Claimed far)

pub open_inside : (uses : List Use) (b : ℕ) → in_pool uses b ≡ true → b < length uses
open_inside uses b here = elim (cases_lt b (length uses)) [
  | inl low ↦ low
  | inr far ↦ absurd (true≢false (sym here ∙ closed_beyond uses b far))
]

abbrev pub counted : List ℕ → ℕ → ℕ
counted counts k = get_or counts k 0

-- the rows that end before a block: those of the blocks before it, but for so many blocks right before it, which are open
pub record Listed (uses : List Use) (at found : ℕ) (starts counts : List ℕ) : Type 0 where
  pub all : length counts ≡ length starts
  pub behind : (b : ℕ) → at ≤ b + found → b < at → in_pool uses b ≡ true
  pub since : found ≤ at
  pub rows : AreRowsApart starts (counted counts)
  pub before : (k : ℕ) → k < length starts → get_or starts k 0 + get_or counts k 0 + found < at
  pub free : (b : ℕ) → InRow starts (counted counts) b → in_pool uses b ≡ true
  pub listed : (b : ℕ) → b + found < at → in_pool uses b ≡ true → InRow starts (counted counts) b

-- all rows of the blocks before it
pub record Ended (uses : List Use) (at : ℕ) (starts counts : List ℕ) : Type 0 where
  pub all : length counts ≡ length starts
  pub rows : AreRowsApart starts (counted counts)
  pub before : (k : ℕ) → k < length starts → get_or starts k 0 + get_or counts k 0 ≤ at
  pub free : (b : ℕ) → InRow starts (counted counts) b → in_pool uses b ≡ true
  pub listed : (b : ℕ) → b < at → in_pool uses b ≡ true → InRow starts (counted counts) b

pub listed_first : (uses : List Use) (starts counts : List ℕ) → starts ≡ [] → counts ≡ [] → Listed uses 0 0 starts counts
listed_first uses starts counts hs hc =
    let none : length starts ≡ 0 = ap length hs in
    record {
      all = ap length hc ∙ sym none;
      behind = λ b low high. absurd (omega (arith, high));
      since = omega arith;
      rows = record { apart = λ k low. absurd (omega (arith, low, none)) };
      before = λ k low. absurd (omega (arith, low, none));
      free = λ b in'. absurd (omega (arith, in'.1, none));
      listed = λ b low open'. absurd (omega (arith, low));
    }

module _ (uses : List Use) (at found : ℕ) (starts counts : List ℕ) (old : Listed uses at found starts counts) where
  -- a row more, of some blocks
  ended_more : 1 ≤ found → Ended uses at (starts ++ (at - found) ∷ []) (counts ++ found ∷ [])
  ended_more some = record {
    all = length-append counts (found ∷ []) ∙ (omega (arith, old.all, long));
    rows = record {
      apart = λ k low. elim (cases_eq (k + 1) (length starts)) [
        | inl last ↦
            let here : k < length starts = omega (arith, last) in
            omega (arith, start k here, count k here, start_last (k + 1) last, old.before k here, old.since)
        | inr other ↦
            let here : k + 1 < length starts = omega (arith, low, long, other) in
            omega (arith, start k (omega (arith, here)), count k (omega (arith, here)), start (k + 1) here, old.rows.apart k here)
      ];
    };
    before = λ k low. elim (cases_eq k (length starts)) [
      | inl last ↦ omega (arith, start_last k last, count_last k last, old.since)
      | inr other ↦
          let here : k < length starts = omega (arith, low, long, other) in
          omega (arith, start k here, count k here, old.before k here)
    ];
    free = λ b in'. elim (cases_eq in'.0 (length starts)) [
      | inl last ↦ old.behind b (omega (arith, in'.2, start_last in'.0 last, old.since)) (omega (arith, in'.3, start_last in'.0 last, count_last in'.0 last, old.since))
      | inr other ↦
          let here : in'.0 < length starts = omega (arith, in'.1, long, other) in
          old.free b (in'.0, here, omega (arith, in'.2, start in'.0 here), omega (arith, in'.3, start in'.0 here, count in'.0 here))
    ];
    listed = λ b low open'. elim (cases_lt (b + found) at) [
      | inl before ↦
          let row = old.listed b before open' in
          (row.0, omega (arith, row.1, long), omega (arith, row.2, start row.0 row.1), omega (arith, row.3, start row.0 row.1, count row.0 row.1))
      | inr behind ↦
          let last : length starts ≡ length starts = refl in
          (length starts, omega (arith, long), omega (arith, start_last (length starts) last, behind, old.since), omega (arith, start_last (length starts) last, count_last (length starts) last, low, old.since))
    ];
  }
    where
      long : length (starts ++ (at - found) ∷ []) ≡ length starts + 1
      long = length-append starts ((at - found) ∷ [])

      start : (k : ℕ) → k < length starts → get_or (starts ++ (at - found) ∷ []) k 0 ≡ get_or starts k 0
      start k low = get_or_append_left starts ((at - found) ∷ []) 0 k low

      count : (k : ℕ) → k < length starts → get_or (counts ++ found ∷ []) k 0 ≡ get_or counts k 0
      count k low = get_or_append_left counts (found ∷ []) 0 k (omega (arith, low, old.all))

      start_last : (k : ℕ) → k ≡ length starts → get_or (starts ++ (at - found) ∷ []) k 0 ≡ at - found
      start_last k last = get_or_push starts (at - found) 0 k (sym last)

      count_last : (k : ℕ) → k ≡ length starts → get_or (counts ++ found ∷ []) k 0 ≡ found
      count_last k last = get_or_push counts found 0 k (omega (arith, last, old.all))

  ended_same : found ≡ 0 → Ended uses at starts counts
  ended_same none = record {
    all = old.all;
    rows = old.rows;
    before = λ k low. omega (arith, old.before k low);
    free = old.free;
    listed = λ b low open'. old.listed b (omega (arith, low, none)) open';
  }

  pub ended_next : (starts' counts' : List ℕ) → starts' ≡ (if nat_lt 0 found then starts ++ (at - found) ∷ [] else starts) → counts' ≡ (if nat_lt 0 found then counts ++ found ∷ [] else counts)
      → Ended uses at starts' counts'
  ended_next starts' counts' hs hc = elim (cases_lt 0 found) [
    | inl some ↦
        let s = hs ∙ ap (λ (t : Bool). if t then starts ++ (at - found) ∷ [] else starts) (lt-ltb 0 found some) in
        let c = hc ∙ ap (λ (t : Bool). if t then counts ++ found ∷ [] else counts) (lt-ltb 0 found some) in
        subst (λ (xs : List ℕ). Ended uses at xs counts') (sym s) (subst (Ended uses at (starts ++ (at - found) ∷ [])) (sym c) (ended_more (omega (arith, some))))
    | inr none ↦
        let s = hs ∙ ap (λ (t : Bool). if t then starts ++ (at - found) ∷ [] else starts) (le-ltb 0 found none) in
        let c = hc ∙ ap (λ (t : Bool). if t then counts ++ found ∷ [] else counts) (le-ltb 0 found none) in
        subst (λ (xs : List ℕ). Ended uses at xs counts') (sym s) (subst (Ended uses at starts) (sym c) (ended_same (omega (arith, none))))
  ]

  -- an open block more
  pub listed_open : in_pool uses at ≡ true → Listed uses (at + 1) (found + 1) starts counts
  listed_open here = record {
    all = old.all;
    behind = λ b low high. elim (cases_eq b at) [
      | inl last ↦ ap (in_pool uses) last ∙ here
      | inr other ↦ old.behind b (omega (arith, low)) (omega (arith, high, other))
    ];
    since = omega (arith, old.since);
    rows = old.rows;
    before = λ k low. omega (arith, old.before k low);
    free = old.free;
    listed = λ b low open'. old.listed b (omega (arith, low)) open';
  }

-- a block that is not open, behind all rows before it
pub listed_closed : (uses : List Use) (at : ℕ) (starts counts : List ℕ) → Ended uses at starts counts → in_pool uses at ≡ false → Listed uses (at + 1) 0 starts counts
listed_closed uses at starts counts ended closed = record {
  all = ended.all;
  behind = λ b low high. absurd (omega (arith, low, high));
  since = omega arith;
  rows = ended.rows;
  before = λ k low. omega (arith, ended.before k low);
  free = ended.free;
  listed = λ b low open'. elim (cases_eq b at) [
    | inl last ↦ absurd (true≢false (sym open' ∙ ap (in_pool uses) last ∙ closed))
    | inr other ↦ ended.listed b (omega (arith, low, other)) open'
  ];
}

-- one block more
pub listed_next : (uses : List Use) (at found : ℕ) (starts counts starts' counts' : List ℕ) (open' : Bool) (ends next : ℕ) → Listed uses at found starts counts → open' ≡ in_pool uses at
    → ends ≡ (if open' then 0 else found) → starts' ≡ (if nat_lt 0 ends then starts ++ (at - ends) ∷ [] else starts) → counts' ≡ (if nat_lt 0 ends then counts ++ ends ∷ [] else counts)
    → next ≡ (if open' then found + 1 else 0) → Listed uses (at + 1) next starts' counts'
listed_next uses at found starts counts starts' counts' true ends next old here he hs hc hn =
    let s : starts' ≡ starts = hs ∙ ap (λ (n : ℕ). if nat_lt 0 n then starts ++ (at - n) ∷ [] else starts) he in
    let c : counts' ≡ counts = hc ∙ ap (λ (n : ℕ). if nat_lt 0 n then counts ++ n ∷ [] else counts) he in
    subst (λ (n : ℕ). Listed uses (at + 1) n starts' counts') (sym hn) (subst (λ (xs : List ℕ). Listed uses (at + 1) (found + 1) xs counts') (sym s)
    (subst (Listed uses (at + 1) (found + 1) starts) (sym c) (listed_open uses at found starts counts old (sym here))))
listed_next uses at found starts counts starts' counts' false ends next old here he hs hc hn =
    let s : starts' ≡ (if nat_lt 0 found then starts ++ (at - found) ∷ [] else starts) = hs ∙ ap (λ (n : ℕ). if nat_lt 0 n then starts ++ (at - n) ∷ [] else starts) he in
    let c : counts' ≡ (if nat_lt 0 found then counts ++ found ∷ [] else counts) = hc ∙ ap (λ (n : ℕ). if nat_lt 0 n then counts ++ n ∷ [] else counts) he in
    subst (λ (n : ℕ). Listed uses (at + 1) n starts' counts') (sym hn) (listed_closed uses at starts' counts' (ended_next uses at found starts counts old starts' counts' s c) (sym here))

-- all blocks are looked at
pub rows_listed : (uses : List Use) (at found : ℕ) (starts counts starts' counts' : List ℕ) → Listed uses at found starts counts → length uses ≤ at → at ≤ length uses
    → starts' ≡ (if nat_lt 0 found then starts ++ (length uses - found) ∷ [] else starts) → counts' ≡ (if nat_lt 0 found then counts ++ found ∷ [] else counts) → AreOpenRows uses starts' counts'
rows_listed uses at found starts counts starts' counts' listed low high hs hc =
    let whole : length uses ≡ at = omega (arith, low, high) in
    let end = ended_next uses at found starts counts listed starts' counts' (hs ∙ ap (λ (n : ℕ). if nat_lt 0 found then starts ++ (n - found) ∷ [] else starts) whole) hc in
    record {
      all = end.all;
      small = λ k inside. omega (arith, end.before k inside, whole);
      rows = end.rows;
      listed = λ b here. end.listed b (omega (arith, open_inside uses b here, whole)) here;
      free = end.free;
    }
