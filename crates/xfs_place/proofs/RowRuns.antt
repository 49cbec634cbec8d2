-- Runs of free blocks, which are parts of rows.
use Rattle.std.proofs.Common.{◌≡◌, ℕ, zero, suc, ◌+◌, ◌-◌, ◌^◌, ◌≤◌, ◌<◌, ◌≢◌, ◌⊎◌, inl, inr, min, Bool, true, false, ◌&&◌, nat_le, nat_lt, if◌then◌else◌, List, length, get_or, set, Some, None, refl, sym, ◌∙◌, ap, ap₂, subst, arith, get_or-set_same, get_or-set_other}
use Rattle.std.specs.Prelude.{Option, MatchOption, IfSome}
use Rattle.std.proofs.Math.ListN.{length-set}
use Rattle.std.proofs.lemmas.List.{get_or_past}
use Rattle.std.proofs.lemmas.Bool.{and_parts, cases_eq, cases_lt, false_from_ne_true, le-leb, leb-true, lt-ltb, ltb-true, true≢false}
use Rattle.xfs_place.specs.declared.open_blocks.Piece.{Piece}
use Rattle.xfs_place.specs.Choice.{IsLeast, IsNone}
use Rattle.xfs_place.specs.declared.uses.Use.{Use}
use Rattle.xfs_place.specs.Greatest.{AreGreatest, Holds, SetsNumber, leaves_of}
use Rattle.xfs_place.specs.Finding.{AllOpen, AreCounts, AreOpenRows, AreRowsApart, Finds, HasNone, HasRows, HasRun, InRow, IsFront, IsLongest, Takes, counts_in, pair_of_piece}
use Rattle.xfs_place.specs.declared.open_blocks.OpenBlocks.{OpenBlocks}
use Rattle.xfs_place.specs.declared.greatest.Greatest.{Greatest}
use Rattle.xfs_place.proofs.Branches.{all_small}
use Rattle.xfs_place.specs.Objects.{found_or, longest_run, most_blocks}
use Rattle.xfs_disk.specs.Lists.{is_in_range}

module _ (starts : List ℕ) (count : ℕ → ℕ) (rows : AreRowsApart starts count) where
  free : ℕ → Type 0
  free b = InRow starts count b

  -- a row ends before those behind it
  ends_by : (d j k : ℕ) → k ≡ j + suc d → k < length starts → get_or starts j 0 + count j < get_or starts k 0
  ends_by zero j k at inside =
      let next : k ≡ j + 1 = omega (arith, at) in
      omega (arith, rows.apart j (omega (arith, next, inside)), ap (λ (n : ℕ). get_or starts n 0) next)
  ends_by (suc d) j k at inside =
      let first = rows.apart j (omega (arith, at, inside)) in
      let rest = ends_by d (j + 1) k (omega (arith, at)) inside in
      omega (arith, first, rest)

  pub ends_before : (j k : ℕ) → j < k → k < length starts → get_or starts j 0 + count j < get_or starts k 0
  ends_before j k low inside = ends_by (k - j - 1) j k (omega (arith, low)) inside

  -- a run of free blocks is part of a row
  row_of_run : (n s : ℕ) → 1 ≤ n → AllOpen (InRow starts count) s n → (k : ℕ) × (k < length starts) × (get_or starts k 0 ≤ s) × (s + n ≤ get_or starts k 0 + count k)
  row_of_run zero s some all = absurd (omega (arith, some))
  row_of_run (suc zero) s some all =
      let here = all s (omega arith) (omega arith) in
      (here.0, here.1, here.2, omega (arith, here.3))
  row_of_run (suc (suc n)) s some all =
      let before = row_of_run (suc n) s (omega arith) (λ b low high. all b low (omega (arith, high))) in
      let last = all (s + suc n) (omega arith) (omega arith) in
      elim (cases_lt last.0 before.0) [
        | inl low ↦
            let apart = ends_before last.0 before.0 low before.1 in
            absurd (omega (arith, apart, before.2, last.3))
        | inr high ↦ elim (cases_lt before.0 last.0) [
          | inl behind ↦
              let apart = ends_before before.0 last.0 behind last.1 in
              absurd (omega (arith, apart, before.3, last.2))
          | inr not_behind ↦
              let same : last.0 ≡ before.0 = omega (arith, high, not_behind) in
              let ends : get_or starts last.0 0 + count last.0 ≡ get_or starts before.0 0 + count before.0 = ap (λ (k : ℕ). get_or starts k 0 + count k) same in
              (before.0, before.1, before.2, omega (arith, last.3, ends))
        ]
      ]

  -- the front of the first row that is long enough is the lowest run
  pub least_row : (n k : ℕ) → 1 ≤ n → n ≤ most_blocks → k < length starts → n ≤ count k → ((j : ℕ) → j < k → count j < n) → IsLeast (HasRun (InRow starts count) n) (get_or starts k 0)
  least_row n k some few inside fits before = (
    (few, λ b low high. (k, inside, low, omega (arith, high, fits))),
    λ t low has.
        let r = row_of_run n t some has.1 in
        elim (cases_lt r.0 k) [
          | inl first ↦ let short = before r.0 first in omega (arith, short, r.2, r.3)
          | inr late ↦ elim (cases_lt k r.0) [
            | inl behind ↦
                let apart = ends_before k r.0 behind r.1 in
                omega (arith, apart, r.2, low)
            | inr not_behind ↦
                let same : get_or starts r.0 0 ≡ get_or starts k 0 = ap (λ (j : ℕ). get_or starts j 0) (omega (arith, late, not_behind)) in
                omega (arith, same, r.2, low)
          ]
        ],
  )

  -- where no row is long enough, there is none
  pub none_row : (n : ℕ) → 1 ≤ n → ((j : ℕ) → j < length starts → count j < n) → IsNone (HasRun (InRow starts count) n)
  none_row n some short = λ t has.
      let r = row_of_run n t some has.1 in
      let few = short r.0 r.1 in
      omega (arith, few, r.2, r.3)

  -- the front of a row is given away, of rows and of parts of them that begin where they do
  module _ (part : ℕ → ℕ) (under : (j : ℕ) → j < length starts → part j ≤ count j) (k n : ℕ) (inside : k < length starts) (fits : n ≤ count k) (next : ℕ → ℕ) (here : next k ≡ part k - n)
      (others : (j : ℕ) → j < length starts → j ≢ k → next j ≡ part j) where
    at_row : get_or (set starts k (get_or starts k 0 + n)) k 0 ≡ get_or starts k 0 + n
    at_row = get_or-set_same starts k (get_or starts k 0 + n) 0 inside

    at_other : (j : ℕ) → j ≢ k → get_or (set starts k (get_or starts k 0 + n)) j 0 ≡ get_or starts j 0
    at_other j other = get_or-set_other starts k j (get_or starts k 0 + n) 0 other

    long : length (set starts k (get_or starts k 0 + n)) ≡ length starts
    long = length-set starts k (get_or starts k 0 + n)

    -- no row begins earlier, and none ends later
    moved : (j : ℕ) → j < length starts → (get_or starts j 0 ≤ get_or (set starts k (get_or starts k 0 + n)) j 0)
        × (get_or (set starts k (get_or starts k 0 + n)) j 0 + next j ≤ get_or starts j 0 + count j)
    moved j low = elim (cases_eq j k) [
      | inl same ↦
          let start : get_or (set starts k (get_or starts k 0 + n)) j 0 ≡ get_or starts j 0 + n =
          ap (λ (i : ℕ). get_or (set starts k (get_or starts k 0 + n)) i 0) same ∙ at_row ∙ ap (λ (i : ℕ). get_or starts i 0 + n) (sym same) in
          let left : next j ≡ part j - n = ap next same ∙ here ∙ ap (λ (i : ℕ). part i - n) (sym same) in
          let few : n ≤ count j = subst (λ (i : ℕ). n ≤ count i) (sym same) fits in
          (omega (arith, start), omega (arith, start, left, few, under j low))
      | inr other ↦ (omega (arith, at_other j other), omega (arith, at_other j other, others j low other, under j low))
    ]

    -- what is left of a part is of it
    stays : (j b : ℕ) → j < length starts → get_or (set starts k (get_or starts k 0 + n)) j 0 ≤ b → b < get_or (set starts k (get_or starts k 0 + n)) j 0 + next j → b < get_or starts j 0 + part j
    stays j b low from to = elim (cases_eq j k) [
      | inl same ↦
          let start : get_or (set starts k (get_or starts k 0 + n)) j 0 ≡ get_or starts j 0 + n =
          ap (λ (i : ℕ). get_or (set starts k (get_or starts k 0 + n)) i 0) same ∙ at_row ∙ ap (λ (i : ℕ). get_or starts i 0 + n) (sym same) in
          let left : next j ≡ part j - n = ap next same ∙ here ∙ ap (λ (i : ℕ). part i - n) (sym same) in
          omega (arith, start, left, from, to)
      | inr other ↦ omega (arith, at_other j other, others j low other, to)
    ]

    pub rows_taken : AreRowsApart (set starts k (get_or starts k 0 + n)) next
    rows_taken = record {
      apart = λ j low.
          let first = moved j (omega (arith, low, long)) in
          let second = moved (j + 1) (omega (arith, low, long)) in
          omega (arith, first.1, second.0, rows.apart j (omega (arith, low, long)));
    }

    pub small_taken : ((j : ℕ) → j < length starts → get_or starts j 0 + count j < 2 ^ 32)
        → (j : ℕ) → j < length (set starts k (get_or starts k 0 + n)) → get_or (set starts k (get_or starts k 0 + n)) j 0 + next j < 2 ^ 32
    small_taken small j low =
        let in' : j < length starts = omega (arith, low, long) in
        let first = moved j in' in
        omega (arith, first.1, small j in')

    pub takes_front : Takes (InRow starts part) (InRow (set starts k (get_or starts k 0 + n)) next) (get_or starts k 0) n
    takes_front = record {
      was = λ b free'.
          let in' : free'.0 < length starts = omega (arith, free'.1, long) in
          let low = (moved free'.0 in').0 in
          (free'.0, in', omega (arith, low, free'.2), stays free'.0 b in' free'.2 free'.3);
      other = λ b free'. false_from_ne_true (is_in_range (get_or starts k 0) n b) (λ among.
          let parts = and_parts (nat_le (get_or starts k 0) b) (nat_lt b (get_or starts k 0 + n)) among in
          let from : get_or starts k 0 ≤ b = leb-true (get_or starts k 0) b parts.0 in
          let to : b < get_or starts k 0 + n = ltb-true b (get_or starts k 0 + n) parts.1 in
          let inside' : free'.0 < length starts = omega (arith, free'.1, long) in
          let end = (moved free'.0 inside').1 in
          let low = (moved free'.0 inside').0 in
          elim (cases_lt free'.0 k) [
            | inl before ↦
                let apart = ends_before free'.0 k before inside in
                omega (arith, apart, from, end, free'.3)
            | inr not_before ↦ elim (cases_lt k free'.0) [
              | inl behind ↦
                  let apart = ends_before k free'.0 behind inside' in
                  omega (arith, apart, to, fits, low, free'.2)
              | inr not_behind ↦
                  let same : free'.0 ≡ k = omega (arith, not_before, not_behind) in
                  let start : get_or (set starts k (get_or starts k 0 + n)) free'.0 0 ≡ get_or starts k 0 + n = ap (λ (i : ℕ). get_or (set starts k (get_or starts k 0 + n)) i 0) same ∙ at_row in
                  omega (arith, start, free'.2, to)
            ]
          ]);
      rest = λ b old out. elim (cases_eq old.0 k) [
        | inl same ↦
            let start : get_or starts old.0 0 ≡ get_or starts k 0 = ap (λ (i : ℕ). get_or starts i 0) same in
            let end' : get_or starts old.0 0 + part old.0 ≡ get_or starts k 0 + part k = ap (λ (i : ℕ). get_or starts i 0 + part i) same in
            elim (cases_lt b (get_or starts k 0 + n)) [
              | inl among ↦ absurd (true≢false (sym (ap₂ ◌&&◌ (le-leb (get_or starts k 0) b (omega (arith, start, old.2))) (lt-ltb b (get_or starts k 0 + n) among)) ∙ out))
              | inr past ↦ (k, omega (arith, inside, long), omega (arith, at_row, past), omega (arith, at_row, here, past, end', old.3))
            ]
        | inr other ↦
            (old.0, omega (arith, old.1, long), omega (arith, at_other old.0 other, old.2), omega (arith, at_other old.0 other, others old.0 old.1 other, old.3))
      ];
    }

-- what is found is what the definition finds
pub longest_is : (free : ℕ → Type 0) (low : ℕ → Option ℕ) (most start blocks : ℕ) → Finds free low → IsLongest free most start blocks → longest_run low most ≡ Some (start, blocks)
unfolding longest_run
longest_is free low zero start blocks finds is = absurd (omega (arith, is.some, is.few))
longest_is free low (suc n) start blocks finds is = elim (cases_eq blocks (suc n)) [
  | inl whole ↦
      let found : low (suc n) ≡ Some start = finds.there (suc n) start (omega arith) (subst (λ (k : ℕ). IsLeast (HasRun free k) start) whole is.least) in
      ap (λ (o : Option ℕ). found_or o (suc n) (longest_run low n)) found ∙ ap (λ (k : ℕ). Some (start, k)) (sym whole)
  | inr less ↦
      let none : low (suc n) ≡ None = finds.none (suc n) (omega arith) (is.longer (suc n) (omega (arith, is.few, less)) (omega arith)) in
      ap (λ (o : Option ℕ). found_or o (suc n) (longest_run low n)) none
      ∙ longest_is free low n start blocks finds (record { some = is.some; few = omega (arith, is.few, less); least = is.least; longer = λ k more few'. is.longer k more (omega (arith, few')) })
]

pub longest_none : (free : ℕ → Type 0) (low : ℕ → Option ℕ) (most : ℕ) → Finds free low → HasNone free most → longest_run low most ≡ None
unfolding longest_run
longest_none free low zero finds none = refl
longest_none free low (suc n) finds none =
    let first : low (suc n) ≡ None = finds.none (suc n) (omega arith) (none.each (suc n) (omega arith) (omega arith)) in
    ap (λ (o : Option ℕ). found_or o (suc n) (longest_run low n)) first
    ∙ longest_none free low n finds (record { each = λ k some few. none.each k some (omega (arith, few)) })

-- the same of what a search answers
pub whole_found : (free : ℕ → Type 0) (low : ℕ → Option ℕ) (blocks : ℕ) (o : Option Piece) → Finds free low → 1 ≤ blocks
    → MatchOption o (IsNone (HasRun free blocks)) (λ (p : Piece). IsLeast (HasRun free blocks) p.start) → IfSome o (λ (p : Piece). p.blocks ≡ blocks) → found_or (low blocks) blocks None ≡ pair_of_piece o
whole_found free low blocks None finds some none same = ap (λ (x : Option ℕ). found_or x blocks None) (finds.none blocks some none)
whole_found free low blocks (Some p) finds some least same =
    ap (λ (x : Option ℕ). found_or x blocks None) (finds.there blocks p.start some least) ∙ ap (λ (n : ℕ). Some (p.start, n)) (sym same)

pub found_first : (o : Option ℕ) (n : ℕ) (other : Option (ℕ × ℕ)) (p : ℕ × ℕ) → found_or o n None ≡ Some p → found_or o n other ≡ Some p
found_first (Some s) n other p is = is
found_first None n other p is = cc

pub found_none : (o : Option ℕ) (n : ℕ) (other : Option (ℕ × ℕ)) → found_or o n None ≡ None → found_or o n other ≡ other
found_none (Some s) n other is = cc
found_none None n other is = refl

-- a run of as many blocks as are asked for
pub least_whole : (free : ℕ → Type 0) (blocks : ℕ) (o : Option Piece) → MatchOption o (IsNone (HasRun free blocks)) (λ (p : Piece). IsLeast (HasRun free blocks) p.start)
    → IfSome o (λ (p : Piece). p.blocks ≡ blocks) → IfSome o (λ (p : Piece). IsLeast (HasRun free p.blocks) p.start)
least_whole free blocks None none same = tt
least_whole free blocks (Some p) least same = subst (λ (n : ℕ). IsLeast (HasRun free n) p.start) (sym same) least

pub longest_found : (free : ℕ → Type 0) (low : ℕ → Option ℕ) (most : ℕ) (o : Option Piece) → Finds free low
    → MatchOption o (HasNone free most) (λ (p : Piece). IsLongest free most p.start p.blocks) → longest_run low most ≡ pair_of_piece o
longest_found free low most None finds none = longest_none free low most finds none
longest_found free low most (Some p) finds is = longest_is free low most p.start p.blocks finds is

pub least_found : (free : ℕ → Type 0) (most : ℕ) (o : Option Piece) → MatchOption o (HasNone free most) (λ (p : Piece). IsLongest free most p.start p.blocks)
    → IfSome o (λ (p : Piece). IsLeast (HasRun free p.blocks) p.start)
least_found free most None none = tt
least_found free most (Some p) is = is.least

-- rows by another function that counts the same
pub rows_same : (starts : List ℕ) (f g : ℕ → ℕ) → ((k : ℕ) → k < length starts → f k ≡ g k) → AreRowsApart starts f → AreRowsApart starts g
rows_same starts f g same rows = record { apart = λ k low. omega (arith, rows.apart k low, same k (omega (arith, low))) }

pub row_same : (starts : List ℕ) (f g : ℕ → ℕ) (b : ℕ) → ((k : ℕ) → k < length starts → f k ≡ g k) → InRow starts f b → InRow starts g b
row_same starts f g b same in' = (in'.0, in'.1, in'.2, omega (arith, in'.3, same in'.0 in'.1))

-- a number of blocks is that of a row
pub row_inside : (starts : List ℕ) (g : Greatest) (k n : ℕ) → AreCounts starts g → k < g.leaves → n ≤ leaves_of g k → 1 ≤ n → k < length starts
row_inside starts g k n are low fits some = elim (cases_lt k (length starts)) [
  | inl inside ↦ inside
  | inr past ↦ absurd (omega (arith, are.none k past low, fits, some))
]

-- the longest rows
module _ (starts : List ℕ) (g : Greatest) (are : AreCounts starts g) (most blocks : ℕ) (is : blocks ≡ min most (get_or g.nodes.items 1 0)) where
  none_over : (n : ℕ) → 1 ≤ n → blocks < n → n ≤ most → IsNone (HasRun (InRow starts (leaves_of g)) n)
  none_over n some more few =
      none_row starts (leaves_of g) are.rows n some (λ j low. all_small g.nodes.items g.leaves g.depth n are.greatest (omega (arith, is, more, few)) j (omega (arith, low, are.few)))

  pub longest_zero : blocks ≡ 0 → HasNone (InRow starts (leaves_of g)) most
  longest_zero none = record { each = λ n some few. none_over n some (omega (arith, none, some)) few }

  pub longest_row : (o : Option Piece) → most ≤ 2097151 → 1 ≤ blocks → MatchOption o (IsNone (HasRun (InRow starts (leaves_of g)) blocks)) (λ (p : Piece). IsLeast (HasRun (InRow starts (leaves_of g)) blocks) p.start)
      → IfSome o (λ (p : Piece). p.blocks ≡ blocks) → MatchOption o ((44040171 < blocks) ⊎ (get_or g.nodes.items 1 0 < blocks)) (λ (p : Piece). Unit {0})
      → MatchOption o (HasNone (InRow starts (leaves_of g)) most) (λ (p : Piece). IsLongest (InRow starts (leaves_of g)) most p.start p.blocks)
  longest_row None few some none same there = elim there [
    | inl long ↦ absurd (omega (arith, long, is, few))
    | inr low ↦ absurd (omega (arith, low, is))
  ]
  longest_row (Some p) few some least same there = record {
    some = omega (arith, same, some);
    few = omega (arith, same, is);
    least = subst (λ (n : ℕ). IsLeast (HasRun (InRow starts (leaves_of g)) n) p.start) (sym same) least;
    longer = λ n more few'. none_over n (omega (arith, more)) (omega (arith, more, same)) few';
  }

-- the numbers of blocks once the front of a row is given away
counts_taken : (starts : List ℕ) (whole : ℕ → ℕ) (g h : Greatest) (k n : ℕ) → AreRowsApart starts whole → ((j : ℕ) → j < length starts → get_or starts j 0 + whole j < 2 ^ 32)
    → ((j : ℕ) → j < length starts → leaves_of g j ≤ whole j) → k < length starts → n ≤ whole k → AreCounts starts g → SetsNumber g h k (leaves_of g k - n) → AreCounts (set starts k (get_or starts k 0 + n)) h
counts_taken starts whole g h k n rows small under inside fits are sets = record {
  greatest = sets.stands;
  few = omega (arith, are.few, length-set starts k (get_or starts k 0 + n), sets.leaves');
  none = λ j past low.
      sets.others j (omega (arith, low, sets.leaves')) (λ same. absurd (omega (arith, same, inside, past, length-set starts k (get_or starts k 0 + n))))
      ∙ are.none j (omega (arith, past, length-set starts k (get_or starts k 0 + n))) (omega (arith, low, sets.leaves'));
  rows = rows_taken starts whole rows (leaves_of g) under k n inside fits (leaves_of h) sets.here (λ j low other. sets.others j (omega (arith, low, are.few)) other);
  small = small_taken starts whole rows (leaves_of g) under k n inside fits (leaves_of h) sets.here (λ j low other. sets.others j (omega (arith, low, are.few)) other) small;
}

-- the same of all rows and of parts of them
module _ (starts now : List ℕ) (g h g' h' : Greatest) (k n : ℕ) (are : AreCounts starts g) (are' : AreCounts starts g') (under : (j : ℕ) → j < length starts → leaves_of g' j ≤ leaves_of g j)
    (inside : k < length starts) (fits : n ≤ leaves_of g k) (sets : SetsNumber g h k (leaves_of g k - n)) (sets' : SetsNumber g' h' k (leaves_of g' k - n)) (put : now ≡ set starts k (get_or starts k 0 + n)) where
  pub both_counts : (all : Bool) → AreCounts now (if all then h else h')
  both_counts true = subst (λ (xs : List ℕ). AreCounts xs h) (sym put) (counts_taken starts (leaves_of g) g h k n are.rows are.small (λ j low. omega arith) inside fits are sets)
  both_counts false = subst (λ (xs : List ℕ). AreCounts xs h') (sym put) (counts_taken starts (leaves_of g) g' h' k n are.rows are.small under inside fits are' sets')

  pub both_takes : (all : Bool) → Takes (InRow starts (leaves_of (if all then g else g'))) (InRow now (leaves_of (if all then h else h'))) (get_or starts k 0) n
  both_takes true = subst (λ (xs : List ℕ). Takes (InRow starts (leaves_of g)) (InRow xs (leaves_of h)) (get_or starts k 0) n) (sym put)
      (takes_front starts (leaves_of g) are.rows (leaves_of g) (λ j low. omega arith) k n inside fits (leaves_of h) sets.here (λ j low other. sets.others j (omega (arith, low, are.few)) other))
  both_takes false = subst (λ (xs : List ℕ). Takes (InRow starts (leaves_of g')) (InRow xs (leaves_of h')) (get_or starts k 0) n) (sym put)
      (takes_front starts (leaves_of g) are.rows (leaves_of g') under k n inside fits (leaves_of h') sets'.here (λ j low other. sets'.others j (omega (arith, low, are'.few)) other))

  pub both_under : (j : ℕ) → j < length now → leaves_of h' j ≤ leaves_of h j
  both_under j low =
      let in' : j < length starts = omega (arith, low, ap length put, length-set starts k (get_or starts k 0 + n)) in
      elim (cases_eq j k) [
        | inl same ↦
            let few : leaves_of g' k ≤ leaves_of g k = under k inside in
            omega (arith, few, ap (leaves_of h) same, ap (leaves_of h') same, sets.here, sets'.here)
        | inr other ↦ omega (arith, under j in', sets.others j (omega (arith, in', are.few)) other, sets'.others j (omega (arith, in', are'.few)) other)
      ]

-- the numbers of blocks of rows that are listed
pub counts_listed : (starts counts : List ℕ) (g : Greatest) (n : ℕ) → length counts ≡ length starts → Holds counts g → AreRowsApart starts (λ k. get_or counts k 0)
    → ((k : ℕ) → k < length starts → get_or starts k 0 + get_or counts k 0 ≤ n) → n < 2 ^ 32 → AreCounts starts g
counts_listed starts counts g n long holds rows small few = record {
  greatest = holds.stands;
  few = omega (arith, long, holds.there);
  none = λ k past low. holds.each k low ∙ get_or_past counts k 0 (omega (arith, long, past));
  rows = rows_same starts (λ k. get_or counts k 0) (leaves_of g) (λ k low. sym (holds.each k (omega (arith, low, long, holds.there)))) rows;
  small = λ k low. omega (arith, holds.each k (omega (arith, low, long, holds.there)), small k low, few);
}

-- parts of rows are rows
pub rows_under : (starts : List ℕ) (f g : ℕ → ℕ) → ((k : ℕ) → k < length starts → g k ≤ f k) → AreRowsApart starts f → AreRowsApart starts g
rows_under starts f g under rows = record { apart = λ k low. omega (arith, rows.apart k low, under k (omega (arith, low))) }

-- a piece of what is not spared is one of all
pub fits_all : (pool : OpenBlocks) (all : Bool) (piece : Piece) → HasRows pool → IsFront pool.starts.items (leaves_of (counts_in all pool)) piece → piece.blocks ≤ leaves_of pool.counts piece.row
fits_all pool true piece rows front = front.fits
fits_all pool false piece rows front = omega (arith, front.fits, rows.under piece.row front.inside)

-- there are no more rows than blocks
row_behind : (starts : List ℕ) (count : ℕ → ℕ) → AreRowsApart starts count → (k : ℕ) → k < length starts → k ≤ get_or starts k 0
row_behind starts count rows zero inside = omega arith
row_behind starts count rows (suc k) inside =
    let before = row_behind starts count rows k (omega (arith, inside)) in
    let next : suc k ≡ k + 1 = omega arith in
    omega (arith, before, rows.apart k (omega (arith, inside)), ap (λ (n : ℕ). get_or starts n 0) next)

pub rows_few : (uses : List Use) (starts counts : List ℕ) → AreOpenRows uses starts counts → length counts ≤ length uses + 1
rows_few uses starts counts rows = elim (cases_eq (length starts) 0) [
  | inl none ↦ omega (arith, rows.all, none)
  | inr some ↦
      let k = length starts - 1 in
      let inside : k < length starts = omega (arith, some) in
      let behind = row_behind starts (λ n. get_or counts n 0) rows.rows k inside in
      omega (arith, behind, rows.small k inside, rows.all)
]
