-- Lists of uses, as blocks are marked in them.
use Rattle.std.specs.Option.{unwrap_or}
use Rattle.std.proofs.lemmas.List.{drop_more}
use Rattle.std.proofs.Common.{Option, Some, subst, drop, ◌≡◌, ℕ, Bool, true, false, ◌+◌, ◌-◌, ◌*◌, ◌/◌, ◌%◌, ◌≤◌, ◌<◌, ◌&&◌, ◌||◌, ◌==◌, nat_lt, if◌then◌else◌, List, [], ◌∷◌, length, get_or, min, set, take, inl, inr, refl, sym, ◌∙◌, ap, arith, get_or-set_same, get_or-set_other}
use Rattle.std.specs.List.{list_any}
use Rattle.std.proofs.Math.ListN.{length-set}
use Rattle.std.proofs.Math.Nat.{mul-le-mul_right}
use Rattle.std.proofs.lemmas.Bool.{cases_eq, cases_lt, eq-eqb, ne_eqb, eqb-false, lt-ltb, le-ltb, true≢false}
use Rattle.std.proofs.lemmas.Bool.Decides.{nat_tests}
use Rattle.std.proofs.lemmas.List.Folds.{list_any_more}
use Rattle.std.proofs.lemmas.Nat.{mod-mul-add}
use Rattle.xfs_geom.specs.Runs.{covers}
use Rattle.xfs_disk.specs.Lists.{is_in_range}
use Rattle.xfs_geom.specs.Conversions.{group_length, is_fixed}
use Rattle.xfs_geom.specs.Shape.{HasGroups, HasLog}
use Rattle.xfs_geom.specs.Volumes.{Volume}
use Rattle.xfs_geom.specs.declared.records.Run.{Run}
use Rattle.xfs_place.specs.declared.uses.Use.{Use}
use Rattle.xfs_place.specs.declared.uses.Use.TheVariants.{Pool, Reserved, Claimed}
use Rattle.xfs_place.specs.Pool.{MarksUses, PutsUses, Shows, is_listed, use_at, use_by, use_held, use_of, use_of_run}

-- where no block passes, nothing is marked
pub marks_none : (uses : List Use) (test : ℕ → Bool) (now : Use) → ((b : ℕ) → test b ≡ false) → MarksUses uses uses test now
marks_none uses test now none = record { all = refl; each = λ b in'. rw (none b) refl }

-- one block is marked
pub marks_set : (uses : List Use) (i : ℕ) (now : Use) → i < length uses → MarksUses uses (set uses i now) (λ b. b == i) now
marks_set uses i now in' = record {
  all = length-set uses i now;
  each = λ b h. elim (cases_eq b i) [
    | inl same ↦
        let e : (b == i) ≡ true = eq-eqb b i same in
        rw (e, same) (get_or-set_same uses i now Claimed in')
    | inr other ↦
        let e : (b == i) ≡ false = ne_eqb b i other in
        rw e (get_or-set_other uses i b now Claimed other)
  ];
}

two_marks : (p q : Bool) (u v w now : Use) → v ≡ (if p then now else u) → w ≡ (if q then now else v) → w ≡ (if p || q then now else u)
two_marks true true u v w now hv hw = hw
two_marks true false u v w now hv hw = hw ∙ hv
two_marks false true u v w now hv hw = hw
two_marks false false u v w now hv hw = hw ∙ hv

-- some blocks are marked, then others
pub marks_then : (old mid new : List Use) (p q r : ℕ → Bool) (now : Use) → MarksUses old mid p now → MarksUses mid new q now
    → ((b : ℕ) → b < length old → r b ≡ (p b || q b)) → MarksUses old new r now
marks_then old mid new p q r now first next both = record {
  all = next.all ∙ first.all;
  each = λ b h.
      let here : b < length mid = omega (arith, first.all) in
      rw (both b h) (two_marks (p b) (q b) (use_at old b) (use_at mid b) (use_at new b) now (first.each b h) (next.each b here));
}

-- the blocks that pass are marked one after another
one_more_passes : (test : ℕ → Bool) (i b : ℕ) → test i ≡ true → (test b && nat_lt b (i + 1)) ≡ ((test b && nat_lt b i) || (b == i))
one_more_passes test i b passes = elim (cases_eq b i) [
  | inl same ↦
      let e : (b == i) ≡ true = eq-eqb b i same in
      let f : nat_lt b i ≡ false = le-ltb b i (omega (arith, same)) in
      let g : nat_lt b (i + 1) ≡ true = lt-ltb b (i + 1) (omega (arith, same)) in
      let h : test b ≡ true = ap test same ∙ passes in
      rw (e, f, g, h) refl
  | inr other ↦
      let e : (b == i) ≡ false = ne_eqb b i other in
      let f : nat_lt b (i + 1) ≡ nat_lt b i = grind (arith, nat_tests, other) in
      rw (e, f) (or_false (test b && nat_lt b i) false refl)
]
  where
    or_false : (x y : Bool) → y ≡ false → x ≡ (x || y)
    or_false true y h = refl
    or_false false y h = sym h

pub marks_put : (old mid new : List Use) (test : ℕ → Bool) (i : ℕ) (now : Use) → i < length old → test i ≡ true → MarksUses old mid (λ b. test b && nat_lt b i) now → new ≡ set mid i now
    → MarksUses old new (λ b. test b && nat_lt b (i + 1)) now
marks_put old mid new test i now low passes first is =
    let next : MarksUses mid new (λ b. b == i) now = subst (λ (us : List Use). MarksUses mid us (λ b. b == i) now) (sym is) (marks_set mid i now (omega (arith, low, first.all))) in
    marks_then old mid new (λ b. test b && nat_lt b i) (λ b. b == i) (λ b. test b && nat_lt b (i + 1)) now first next (λ b h. one_more_passes test i b passes)

pub marks_passed : (old mid new : List Use) (test : ℕ → Bool) (i : ℕ) (now : Use) → test i ≡ false → MarksUses old mid (λ b. test b && nat_lt b i) now → new ≡ mid
    → MarksUses old new (λ b. test b && nat_lt b (i + 1)) now
marks_passed old mid new test i now fails first is =
    subst (λ (us : List Use). MarksUses old us (λ b. test b && nat_lt b (i + 1)) now) (sym is) (record {
      all = first.all;
      each = λ b h. rw (none_more b) (first.each b h);
    })
  where
    none_more : (b : ℕ) → (test b && nat_lt b (i + 1)) ≡ (test b && nat_lt b i)
    none_more b = elim (cases_eq b i) [
      | inl same ↦
          let h : test b ≡ false = ap test same ∙ fails in
          rw h refl
      | inr other ↦
          let f : nat_lt b (i + 1) ≡ nat_lt b i = grind (arith, nat_tests, other) in
          rw f refl
    ]

-- one more of a list
pub listed_more : (blocks : List ℕ) (i : ℕ) (block : ℕ) → i < length blocks → (b : ℕ) → is_listed (take (i + 1) blocks) b ≡ (is_listed (take i blocks) b || (b == get_or blocks i block))
unfolding is_listed
listed_more blocks i block in' b =
    let turned : (get_or blocks i block == b) ≡ (b == get_or blocks i block) = grind (arith, nat_tests) in
    list_any_more (λ (x : ℕ). x == b) blocks i block in' ∙ ap (λ (t : Bool). list_any (λ (x : ℕ). x == b) (take i blocks) || t) turned

pub none_listed : (b : ℕ) → is_listed [] b ≡ false
unfolding is_listed
none_listed b = refl

-- where nothing is said, nothing changes
pub puts_none : (from : ℕ) (uses : List Use) → PutsUses uses uses (λ b. use_held [] (from + b))
unfolding use_held
puts_none from uses = record { all = refl; each = λ b h. refl }

-- one run in front of those that are said already
pub puts_more : (from : ℕ) (old mid new : List Use) (r : Run) (rest : List Run) → PutsUses old mid (λ b. use_held rest (from + b))
    → MarksUses mid new (λ b. is_in_range r.start r.count (from + b)) (use_of_run r) → PutsUses old new (λ b. use_held (r ∷ rest) (from + b))
unfolding use_held
puts_more from old mid new r rest first next = record {
  all = next.all ∙ first.all;
  each = λ b h.
      let here : b < length mid = omega (arith, first.all, h) in
      by_case (covers (from + b) r) (use_held rest (from + b)) (use_of_run r) (use_at old b) (use_at mid b) (use_at new b) (first.each b h) (next.each b here);
}
  where
    by_case : (t : Bool) (said : Option Use) (now u v w : Use) → v ≡ unwrap_or said u → w ≡ (if t then now else v) → w ≡ unwrap_or (if t then Some now else said) u
    by_case true said now u v w hv hw = hw
    by_case false said now u v w hv hw = hw ∙ hv

pub puts_at : (from : ℕ) (old mid new : List Use) (runs : List Run) (i : ℕ) (none : Run) → i < length runs → PutsUses old mid (λ b. use_held (drop (length runs - i) runs) (from + b))
    → MarksUses mid new (λ b. is_in_range (get_or runs (length runs - 1 - i) none).start (get_or runs (length runs - 1 - i) none).count (from + b)) (use_of_run (get_or runs (length runs - 1 - i) none))
    → PutsUses old new (λ b. use_held (drop (length runs - (i + 1)) runs) (from + b))
puts_at from old mid new runs i none in' first next =
    let at = length runs - 1 - i in
    let step : drop at runs ≡ get_or runs at none ∷ drop (at + 1) runs = drop_more runs at none (omega (arith, in')) in
    let after : at + 1 ≡ length runs - i = omega (arith, in') in
    let before : at ≡ length runs - (i + 1) = omega (arith, in') in
    let rest : PutsUses old mid (λ b. use_held (drop (at + 1) runs) (from + b)) = subst (λ (k : ℕ). PutsUses old mid (λ b. use_held (drop k runs) (from + b))) (sym after) first in
    let whole = puts_more from old mid new (get_or runs at none) (drop (at + 1) runs) rest next in
    subst (λ (rs : List Run). PutsUses old new (λ b. use_held rs (from + b))) (sym step ∙ ap (λ (k : ℕ). drop k runs) before) whole

-- a block beyond the list is not there
or_false : (x y : Bool) → y ≡ false → x ≡ (x || y)
or_false true y h = refl
or_false false y h = sym h

pub listed_beyond : (from : ℕ) (blocks : List ℕ) (i block n : ℕ) → i < length blocks → is_in_range from n (get_or blocks i block) ≡ false → (b : ℕ) → b < n
    → is_listed (take (i + 1) blocks) (from + b) ≡ is_listed (take i blocks) (from + b)
listed_beyond from blocks i block n in' far b h =
    let other : (from + b == get_or blocks i block) ≡ false = ne_eqb (from + b) (get_or blocks i block) (λ e.
    let here : is_in_range from n (from + b) ≡ true = grind (arith, nat_tests, h) in
    true≢false (sym here ∙ ap (is_in_range from n) e ∙ far)) in
    listed_more blocks i block in' (from + b) ∙ sym (or_false (is_listed (take i blocks) (from + b)) (from + b == get_or blocks i block) other)

first_only : (x y : Bool) → x ≡ y → (x && true) ≡ ((x && false) || y)
first_only true y h = h
first_only false y h = h

neither : (x : Bool) → (x && false) ≡ ((x && false) || false)
neither true = refl
neither false = refl

-- the first block of the next group is the one more that begins a group
headers_more : (width ag at b : ℕ) → at ≡ ag * width → 1 ≤ width
    → (b % width == 0 && nat_lt b ((ag + 1) * width)) ≡ ((b % width == 0 && nat_lt b (ag * width)) || (b == at))
headers_more width ag at b is some = elim (cases_lt b (ag * width)) [
  | inl low ↦
      let e : nat_lt b (ag * width) ≡ true = lt-ltb b (ag * width) low in
      let f : nat_lt b ((ag + 1) * width) ≡ true = lt-ltb b ((ag + 1) * width) (omega (arith, low)) in
      let g : (b == at) ≡ false = ne_eqb b at (λ h. omega (arith, low, is, h)) in
      rw (e, f, g) (or_false (b % width == 0 && true) false refl)
  | inr high ↦
      let e : nat_lt b (ag * width) ≡ false = le-ltb b (ag * width) high in
      elim (cases_lt (b - ag * width) width) [
        | inl near ↦
            let whole : b ≡ ag * width + (b - ag * width) = omega (arith, high) in
            let rest : b % width ≡ b - ag * width = ap (λ (n : ℕ). n % width) whole ∙ mod-mul-add ag width (b - ag * width) near in
            let f : nat_lt b ((ag + 1) * width) ≡ true = lt-ltb b ((ag + 1) * width) (omega (arith, high, near)) in
            let g : (b - ag * width == 0) ≡ (b == at) = grind (arith, nat_tests, is, high) in
            rw (e, f, rest) (first_only (b - ag * width == 0) (b == at) g)
        | inr far ↦
            let f : nat_lt b ((ag + 1) * width) ≡ false = le-ltb b ((ag + 1) * width) (omega (arith, high, far)) in
            let g : (b == at) ≡ false = ne_eqb b at (λ h. omega (arith, far, is, h, some)) in
            rw (e, f, g) (neither (b % width == 0))
      ]
]

pub headers_next : (width ag at b : ℕ) → at ≡ ag * width → 1 ≤ width
    → (b % width == 0 && nat_lt b ((ag + 1) * width)) ≡ ((b % width == 0 && nat_lt b (ag * width)) || is_in_range at 1 b)
headers_next width ag at b is some =
    let one : (b == at) ≡ is_in_range at 1 b = grind (arith, nat_tests) in
    headers_more width ag at b is some ∙ ap (λ (t : Bool). (b % width == 0 && nat_lt b (ag * width)) || t) one

-- a block of the volume behind the start of a group is of that group or of one behind
pub stands_in : (v : Volume) (ag b at length : ℕ) → at ≡ ag * v.agblocks → length ≡ group_length v ag → b < v.dblocks → b < at + v.agblocks → b < at + length
stands_in v ag b at length is long low near = by_case (ag + 1 == v.agcount) length long
  where
    by_case : (r : Bool) (n : ℕ) → n ≡ (if r then v.dblocks - ag * v.agblocks else v.agblocks) → b < at + n
    by_case true n h = omega (arith, h, low, is)
    by_case false n h = omega (arith, h, near)

-- the fronts of groups, of one group more
pub fronts_more : (width length from ag at blocks b : ℕ) → at ≡ ag * width → blocks ≡ min length from → length ≤ width → (b < at + width → b < at + length) → 1 ≤ width
    → (nat_lt (b % width) from && nat_lt b ((ag + 1) * width)) ≡ ((nat_lt (b % width) from && nat_lt b (ag * width)) || is_in_range at blocks b)
fronts_more width length from ag at blocks b is least short place some = elim (cases_lt b (ag * width)) [
  | inl low ↦
      let e : nat_lt b (ag * width) ≡ true = lt-ltb b (ag * width) low in
      let f : nat_lt b ((ag + 1) * width) ≡ true = lt-ltb b ((ag + 1) * width) (omega (arith, low)) in
      let g : is_in_range at blocks b ≡ false = grind (arith, nat_tests, low, is) in
      rw (e, f, g) (or_false (nat_lt (b % width) from && true) false refl)
  | inr high ↦
      let e : nat_lt b (ag * width) ≡ false = le-ltb b (ag * width) high in
      elim (cases_lt (b - ag * width) width) [
        | inl near ↦
            let whole : b ≡ ag * width + (b - ag * width) = omega (arith, high) in
            let rest : b % width ≡ b - ag * width = ap (λ (n : ℕ). n % width) whole ∙ mod-mul-add ag width (b - ag * width) near in
            let f : nat_lt b ((ag + 1) * width) ≡ true = lt-ltb b ((ag + 1) * width) (omega (arith, high, near)) in
            let inside : b < at + length = place (omega (arith, high, near, is)) in
            let few : blocks ≡ min length from = least in
            let g : nat_lt (b - ag * width) from ≡ is_in_range at blocks b = grind (arith, nat_tests, is, few, inside, high) in
            rw (e, f, rest) (first_only (nat_lt (b - ag * width) from) (is_in_range at blocks b) g)
        | inr far ↦
            let f : nat_lt b ((ag + 1) * width) ≡ false = le-ltb b ((ag + 1) * width) (omega (arith, high, far)) in
            let g : is_in_range at blocks b ≡ false = grind (arith, nat_tests, far, is, least, short) in
            rw (e, f, g) (neither (nat_lt (b % width) from))
      ]
]

-- the uses after all three marks
pub uses_set : (v : Volume) (runs : List Run) (reserved : List ℕ) (from : ℕ) (fresh kept fixed claimed : List Use) → ((b : ℕ) → b < length fresh → use_at fresh b ≡ Pool)
    → MarksUses fresh kept (λ b. is_listed reserved (from + b)) Reserved → MarksUses kept fixed (λ b. is_fixed v (from + b)) Claimed → PutsUses fixed claimed (λ b. use_held runs (from + b))
    → Shows claimed (length fresh) (λ b. use_of v runs reserved (from + b))
unfolding use_of
uses_set v runs reserved from fresh kept fixed claimed all first second third = record {
  all = third.all ∙ second.all ∙ first.all;
  each = λ b a.
      let k : b < length kept = omega (arith, first.all, a) in
      let f : b < length fixed = omega (arith, second.all, k) in
      by_cases (is_fixed v (from + b)) (is_listed reserved (from + b)) (use_held runs (from + b)) (use_at fresh b) (use_at kept b) (use_at fixed b) (use_at claimed b)
      (all b a) (first.each b a) (second.each b k) (third.each b f);
}
  where
    by_cases : (x l : Bool) (t : Option Use) (u k f c : Use) → u ≡ Pool → k ≡ (if l then Reserved else u) → f ≡ (if x then Claimed else k) → c ≡ unwrap_or t f → c ≡ use_by x t l
    by_cases true true t u k f c hu hk hf hc = hc ∙ ap (unwrap_or t) hf
    by_cases true false t u k f c hu hk hf hc = hc ∙ ap (unwrap_or t) hf
    by_cases false true t u k f c hu hk hf hc = hc ∙ ap (unwrap_or t) (hf ∙ hk)
    by_cases false false t u k f c hu hk hf hc = hc ∙ ap (unwrap_or t) (hf ∙ hk ∙ hu)

-- the log ends inside the volume
pub log_end : (d w n log l : ℕ) → HasGroups d w n → HasLog d w n log l → log + l ≤ d
log_end d w n log l groups has = by_case (log / w + 1 == n) refl has.inside
  where
    by_case : (r : Bool) → (log / w + 1 == n) ≡ r → log % w + l ≤ (if r then d - log / w * w else w) → log + l ≤ d
    by_case true last inside =
        let some : 0 < w = omega (arith, groups.large) in
        omega (arith, inside, has.large)
    by_case false other inside =
        let some : 0 < w = omega (arith, groups.large) in
        let before : log / w + 1 ≤ n - 1 = omega (arith, eqb-false (log / w + 1) n other, has.group) in
        let most : (log / w + 1) * w ≤ (n - 1) * w = mul-le-mul_right w before in
        omega (arith, most, inside, groups.last)

and_false : (x : Bool) → (x && false) ≡ false
and_false true = refl
and_false false = refl

and_true : (x : Bool) → x ≡ (x && true)
and_true true = refl
and_true false = refl

-- no block of the groups before the first is marked
pub marks_none_before : (width : ℕ) (uses : List Use) (test : ℕ → Bool) (at : ℕ → ℕ) (now : Use) → MarksUses uses uses (λ b. test b && nat_lt (at b) (0 * width)) now
marks_none_before width uses test at now = marks_none uses (λ b. test b && nat_lt (at b) (0 * width)) now none
  where
    none : (b : ℕ) → (test b && nat_lt (at b) (0 * width)) ≡ false
    none b =
        let past : nat_lt (at b) (0 * width) ≡ false = le-ltb (at b) (0 * width) (omega arith) in
        rw past (and_false (test b))

-- and behind the last all that pass are
pub marks_all_before : (ag blocks width groups : ℕ) (old new : List Use) (test : ℕ → Bool) (at : ℕ → ℕ) (now : Use) → HasGroups blocks width groups → ag ≡ groups
    → ((b : ℕ) → b < length old → at b < blocks) → MarksUses old new (λ b. test b && nat_lt (at b) (ag * width)) now → MarksUses old new test now
marks_all_before ag blocks width groups old new test at now has all inside marks = record {
  all = marks.all;
  each = λ b h. rw (each_passes b h) (marks.each b h);
}
  where
    each_passes : (b : ℕ) → b < length old → test b ≡ (test b && nat_lt (at b) (ag * width))
    each_passes b h =
        let whole : ag * width ≡ groups * width = ap (λ (n : ℕ). n * width) all in
        let low : nat_lt (at b) (ag * width) ≡ true = lt-ltb (at b) (ag * width) (omega (arith, inside b h, has.covered, whole)) in
        rw low (and_true (test b))

-- the blocks of a range are marked one after another
pub range_none : (uses : List Use) (start : ℕ) (now : Use) → MarksUses uses uses (is_in_range start (start - start)) now
range_none uses start now = marks_none uses (is_in_range start (start - start)) now (λ b. grind (arith, nat_tests))

pub range_more : (old mid : List Use) (start i : ℕ) (now : Use) → start ≤ i → i < length old → MarksUses old mid (is_in_range start (i - start)) now
    → MarksUses old (set mid i now) (is_in_range start (i + 1 - start)) now
range_more old mid start i now up low first =
    marks_then old mid (set mid i now) (is_in_range start (i - start)) (λ b. b == i) (is_in_range start (i + 1 - start)) now first
    (marks_set mid i now (omega (arith, low, first.all))) (λ b h. grind (arith, nat_tests, up))
