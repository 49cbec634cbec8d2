-- The claims of a whole volume.
use Rattle.std.proofs.Common.{◌≡◌, ◌≢◌, ℕ, zero, suc, ◌+◌, ◌-◌, ◌*◌, ◌/◌, ◌%◌, ◌^◌, ◌≤◌, ◌<◌, ◌⊎◌, inl, inr, Bool, true, false, ◌&&◌, ◌==◌, nat_le, nat_lt, if◌then◌else◌, List, [], ◌∷◌, ◌++◌, map, Option, Some, refl, sym, ◌∙◌, ap, ap₂, subst, arith}
use Rattle.std.specs.List.{All, filter, range_with_len}
use Rattle.std.proofs.lemmas.Bool.{cases_lt, cases_Bool, or_left, and_from, and_parts, eq-eqb, eqb-true, lt-ltb, le-leb, ltb-true, leb-true, true≢false, false_from_ne_true}
use Rattle.std.proofs.lemmas.Bool.Decides.{nat_tests}
use Rattle.std.proofs.lemmas.List.Elements.{All-append, All-cons, All-head, All-nil, All-tail}
use Rattle.std.proofs.lemmas.List.Sums.{sum_by-append}
use Rattle.std.proofs.Math.Nat.{mul-le-mul_right, mul-mod_left}
use Rattle.xfs_geom.specs.Runs.{covers, runs_on}
use Rattle.xfs_disk.specs.Lists.{is_in_range}
use Rattle.xfs_geom.specs.Conversions.{group_length, is_fixed}
use Rattle.xfs_geom.specs.Groups.{blocks_of_group}
use Rattle.xfs_geom.specs.Shape.{HasGroups, HasLog}
use Rattle.xfs_geom.specs.Volumes.{Volume}
use Rattle.xfs_geom.specs.declared.records.Run.{Run}
use Rattle.xfs_kinds.specs.OffsetWords.{is_file_data}
use Rattle.xfs_kinds.specs.MergedRuns.{AreRuns, held_at, offset_word_at}
use Rattle.xfs_place.specs.Choice.{one_if}
use Rattle.xfs_place.specs.Claims.{ClaimedOnce, IsClaimedRun}
use Rattle.xfs_place.specs.Wanted.{CanBeKept, IsOffFixed, StaysInGroup, begins_in, run_in_group}
use Rattle.xfs_kinds.specs.FixedRuns.{fixed_runs, header_run, log_run}
use Rattle.xfs_place.proofs.GroupIs.{fixed_none, headers_none}
use Rattle.xfs_place.proofs.Marking.{log_end}
use Rattle.xfs_place.proofs.Ordered.{none_held, on_first}
use Rattle.xfs_place.proofs.TreeRuns.{once_each}

-- the numbers of a volume that this rests on
pub record IsVolume (v : Volume) : Type 0 where
  pub groups : HasGroups v.dblocks v.agblocks v.agcount
  pub log_inside : HasLog v.dblocks v.agblocks v.agcount v.log v.logblocks
  pub short : v.log % v.agblocks + v.logblocks ≤ v.agblocks

runs_lower : (low high : ℕ) (rs : List Run) → AreRuns high rs → low ≤ high → AreRuns low rs
runs_lower low high [] runs h = tt
runs_lower low high (r ∷ rest) runs h = (omega (arith, runs.0, h), runs.1, runs.2)

module _ (v : Volume) (is : IsVolume v) where
  header_inside : (ag : ℕ) → ag < v.agcount → ag * v.agblocks + 1 ≤ v.dblocks
  header_inside ag low =
      let most : ag * v.agblocks ≤ (v.agcount - 1) * v.agblocks = mul-le-mul_right v.agblocks (omega (arith, low)) in
      omega (arith, most, is.groups.last)

  header_small : (ag : ℕ) → ag < v.agcount → ag * v.agblocks + 1 < 2 ^ 63
  header_small ag low = omega (arith, header_inside ag low, is.groups.small)

  headers_ascend : (a n : ℕ) → a + n ≤ v.agcount → AreRuns (a * v.agblocks) (map (header_run v) (range_with_len a n))
  headers_ascend a zero few = tt
  headers_ascend a (suc n) few =
      let next : a * v.agblocks + 1 ≤ (a + 1) * v.agblocks = omega (arith, is.groups.large) in
      let low : a * v.agblocks ≤ v.agcount * v.agblocks = mul-le-mul_right v.agblocks (omega (arith, few)) in
      (omega arith, header_small a (omega (arith, few)), runs_lower (a * v.agblocks + 1) ((a + 1) * v.agblocks) (map (header_run v) (range_with_len (a + 1) n)) (headers_ascend (a + 1) n (omega (arith, few))) next)

  -- a block of the log is no header's
  log_apart : (x : ℕ) → covers x (log_run v) ≡ true → (ag : ℕ) → x ≢ ag * v.agblocks
  log_apart x in' ag at =
      let parts = and_parts (nat_le v.log x) (nat_lt x (v.log + v.logblocks)) in' in
      let low = leb-true v.log x parts.0 in
      let high = ltb-true x (v.log + v.logblocks) parts.1 in
      let behind = is.log_inside.behind in
      let some : 0 < v.agblocks = omega (arith, is.groups.large) in
      elim (cases_lt ag (v.log / v.agblocks + 1)) [
        | inl before ↦
            let most : ag * v.agblocks ≤ v.log / v.agblocks * v.agblocks = mul-le-mul_right v.agblocks (omega (arith, before)) in
            omega (arith, most, at, low, behind, some)
        | inr after ↦
            let most : (v.log / v.agblocks + 1) * v.agblocks ≤ ag * v.agblocks = mul-le-mul_right v.agblocks after in
            omega (arith, most, at, high, is.short, some)
      ]

  fixed_once : (x : ℕ) → runs_on (fixed_runs v) x ≤ 1
  fixed_once x =
      let headers = map (header_run v) (range_with_len 0 v.agcount) in
      let sums = on_first (log_run v) headers x in
      let from : 0 * v.agblocks ≡ 0 = omega arith in
      let once = (once_each 0 headers x (subst (λ (n : ℕ). AreRuns n headers) from (headers_ascend 0 v.agcount (omega arith)))).0 in
      elim (cases_Bool (covers x (log_run v))) [
        | inl in' ↦
            let one : one_if (covers x (log_run v)) ≡ 1 = ap one_if in' in
            let none = none_held headers x (headers_none v 0 v.agcount x (log_apart x in')) in
            omega (arith, sums, one, none)
        | inr out ↦
            let zero' : one_if (covers x (log_run v)) ≡ 0 = ap one_if out in
            omega (arith, sums, zero', once)
      ]

  kept_none : (kept : List Run) (x : ℕ) → All (IsOffFixed v) kept → is_fixed v x ≡ true → runs_on kept x ≡ 0
  kept_none [] x clear fixed = refl
  kept_none (r ∷ rest) x clear fixed =
      let out : covers x r ≡ false = false_from_ne_true (covers x r) (λ h. true≢false (sym fixed ∙ All-head (IsOffFixed v) r rest clear x h)) in
      let zero' : one_if (covers x r) ≡ 0 = ap one_if out in
      omega (arith, on_first r rest x, zero', kept_none rest x (All-tail (IsOffFixed v) r rest clear) fixed)

  pub all_apart : (kept : List Run) → CanBeKept v kept → ClaimedOnce (fixed_runs v ++ kept)
  all_apart kept are = record {
    once = λ x.
        let parts : runs_on (fixed_runs v ++ kept) x ≡ runs_on (fixed_runs v) x + runs_on kept x = sum_by-append (λ (r : Run). if covers x r then 1 else 0) (fixed_runs v) kept in
        elim (cases_Bool (is_fixed v x)) [
          | inl fixed ↦ omega (arith, parts, fixed_once x, kept_none kept x are.clear fixed)
          | inr free ↦ omega (arith, parts, none_held (fixed_runs v) x (fixed_none v x free), are.apart.once x)
        ];
  }

  headers_each : (a n : ℕ) → a + n ≤ v.agcount → All (IsClaimedRun v.dblocks) (map (header_run v) (range_with_len a n))
  headers_each a zero few = All-nil (IsClaimedRun v.dblocks)
  headers_each a (suc n) few =
      All-cons (IsClaimedRun v.dblocks) (header_run v a) (map (header_run v) (range_with_len (a + 1) n))
      (record { some = omega arith; inside = header_inside a (omega (arith, few)); fits = λ h. absurd (true≢false (sym h)); plain = λ h. refl })
      (headers_each (a + 1) n (omega (arith, few)))

  pub all_each : (kept : List Run) → CanBeKept v kept → All (IsClaimedRun v.dblocks) (fixed_runs v ++ kept)
  all_each kept are =
      All-append (IsClaimedRun v.dblocks) (fixed_runs v) kept
      (All-cons (IsClaimedRun v.dblocks) (log_run v) (map (header_run v) (range_with_len 0 v.agcount))
      (record { some = omega (arith, is.log_inside.large); inside = log_end v.dblocks v.agblocks v.agcount v.log v.logblocks is.groups is.log_inside; fits = λ h. absurd (true≢false (sym h)); plain = λ h. refl })
      (headers_each 0 v.agcount (omega arith)))
      are.each

  -- no claim goes from one group into the next
  header_stays : (a : ℕ) → StaysInGroup v (header_run v a)
  header_stays a = λ ag low. elim (cases_lt a ag) [
    | inl before ↦
        let most : (a + 1) * v.agblocks ≤ ag * v.agblocks = mul-le-mul_right v.agblocks (omega (arith, before)) in
        omega (arith, most, is.groups.large)
    | inr after ↦
        let most : ag * v.agblocks ≤ a * v.agblocks = mul-le-mul_right v.agblocks after in
        absurd (omega (arith, most, low))
  ]

  headers_stay : (a n : ℕ) → All (StaysInGroup v) (map (header_run v) (range_with_len a n))
  headers_stay a zero = All-nil (StaysInGroup v)
  headers_stay a (suc n) = All-cons (StaysInGroup v) (header_run v a) (map (header_run v) (range_with_len (a + 1) n)) (header_stays a) (headers_stay (a + 1) n)

  log_stays : StaysInGroup v (log_run v)
  log_stays = λ ag low. elim (cases_lt (v.log / v.agblocks) ag) [
    | inl before ↦
        let some : 0 < v.agblocks = omega (arith, is.groups.large) in
        let most : (v.log / v.agblocks + 1) * v.agblocks ≤ ag * v.agblocks = mul-le-mul_right v.agblocks (omega (arith, before)) in
        omega (arith, most, is.short, some)
    | inr after ↦
        let some : 0 < v.agblocks = omega (arith, is.groups.large) in
        let most : ag * v.agblocks ≤ v.log / v.agblocks * v.agblocks = mul-le-mul_right v.agblocks after in
        absurd (omega (arith, most, low, some))
  ]

  clear_stays : (r : Run) → IsClaimedRun v.dblocks r → IsOffFixed v r → StaysInGroup v r
  clear_stays r claim clear = λ ag low. elim (cases_lt (ag * v.agblocks) (r.start + r.count)) [
    | inr far ↦ far
    | inl near ↦
        let has : covers (ag * v.agblocks) r ≡ true = grind (arith, nat_tests, low, near) in
        let rest : ag * v.agblocks % v.agblocks ≡ 0 = mul-mod_left ag v.agblocks in
        let fixed : is_fixed v (ag * v.agblocks) ≡ true = or_left (ag * v.agblocks % v.agblocks == 0) (nat_le v.log (ag * v.agblocks) && nat_lt (ag * v.agblocks) (v.log + v.logblocks)) (eq-eqb (ag * v.agblocks % v.agblocks) 0 rest) in
        absurd (true≢false (sym fixed ∙ clear (ag * v.agblocks) has))
  ]

  kept_stay : (kept : List Run) → All (IsClaimedRun v.dblocks) kept → All (IsOffFixed v) kept → All (StaysInGroup v) kept
  kept_stay [] each clear = All-nil (StaysInGroup v)
  kept_stay (r ∷ rest) each clear =
      All-cons (StaysInGroup v) r rest (clear_stays r (All-head (IsClaimedRun v.dblocks) r rest each) (All-head (IsOffFixed v) r rest clear))
      (kept_stay rest (All-tail (IsClaimedRun v.dblocks) r rest each) (All-tail (IsOffFixed v) r rest clear))

  pub all_stay : (kept : List Run) → CanBeKept v kept → All (StaysInGroup v) (fixed_runs v ++ kept)
  all_stay kept are =
      All-append (StaysInGroup v) (fixed_runs v) kept
      (All-cons (StaysInGroup v) (log_run v) (map (header_run v) (range_with_len 0 v.agcount)) log_stays (headers_stay 0 v.agcount))
      (kept_stay kept are.each are.clear)

group_small : (d w n k : ℕ) → d ≤ n * w → blocks_of_group d w n k ≤ w
group_small d w n k covered = by_case (k + 1 == n) refl
  where
    by_case : (t : Bool) → (k + 1 == n) ≡ t → (if t then d - k * w else w) ≤ w
    by_case true last =
        let same : n ≡ k + 1 = sym (eqb-true (k + 1) n last) in
        let most : n * w ≡ (k + 1) * w = ap (λ (m : ℕ). m * w) same in
        omega (arith, most, covered)
    by_case false other = omega arith

pub is_volume : (v : Volume) → HasGroups v.dblocks v.agblocks v.agcount → HasLog v.dblocks v.agblocks v.agcount v.log v.logblocks → IsVolume v
is_volume v groups log = record {
  groups = groups;
  log_inside = log;
  short = omega (arith, log.inside, group_small v.dblocks v.agblocks v.agcount (v.log / v.agblocks) groups.covered);
}

-- the claims of one group
pub group_ends : (v : Volume) (ag : ℕ) → HasGroups v.dblocks v.agblocks v.agcount → ag < v.agcount
    → (ag * v.agblocks + group_length v ag ≡ v.dblocks) ⊎ (ag * v.agblocks + group_length v ag ≡ (ag + 1) * v.agblocks)
group_ends v ag groups low = by_case (ag + 1 == v.agcount) refl
  where
    by_case : (t : Bool) → (ag + 1 == v.agcount) ≡ t → (ag * v.agblocks + (if t then v.dblocks - ag * v.agblocks else v.agblocks) ≡ v.dblocks)
        ⊎ (ag * v.agblocks + (if t then v.dblocks - ag * v.agblocks else v.agblocks) ≡ (ag + 1) * v.agblocks)
    by_case true last =
        let most : ag * v.agblocks ≤ (v.agcount - 1) * v.agblocks = mul-le-mul_right v.agblocks (omega (arith, low)) in
        inl (omega (arith, most, groups.last))
    by_case false other = inr (omega arith)

module _ (v : Volume) (ag : ℕ) (groups : HasGroups v.dblocks v.agblocks v.agcount) (low : ag < v.agcount) where
  part : List Run → List Run
  part rs = map (run_in_group (ag * v.agblocks)) (filter (begins_in (ag * v.agblocks) (group_length v ag)) rs)

  part_in : (r : Run) (rest : List Run) → begins_in (ag * v.agblocks) (group_length v ag) r ≡ true
      → map (run_in_group (ag * v.agblocks)) (filter (begins_in (ag * v.agblocks) (group_length v ag)) (r ∷ rest)) ≡ run_in_group (ag * v.agblocks) r ∷ map (run_in_group (ag * v.agblocks)) (filter (begins_in (ag * v.agblocks) (group_length v ag)) rest)
  part_in r rest h = ap (λ (t : Bool). map (run_in_group (ag * v.agblocks)) (if t then r ∷ filter (begins_in (ag * v.agblocks) (group_length v ag)) rest else filter (begins_in (ag * v.agblocks) (group_length v ag)) rest)) h

  part_out : (r : Run) (rest : List Run) → begins_in (ag * v.agblocks) (group_length v ag) r ≡ false
      → map (run_in_group (ag * v.agblocks)) (filter (begins_in (ag * v.agblocks) (group_length v ag)) (r ∷ rest)) ≡ map (run_in_group (ag * v.agblocks)) (filter (begins_in (ag * v.agblocks) (group_length v ag)) rest)
  part_out r rest h = ap (λ (t : Bool). map (run_in_group (ag * v.agblocks)) (if t then r ∷ filter (begins_in (ag * v.agblocks) (group_length v ag)) rest else filter (begins_in (ag * v.agblocks) (group_length v ag)) rest)) h

  moved_word : (r : Run) (b base : ℕ) → base ≤ r.start → offset_word_at (run_in_group base r) b ≡ offset_word_at r (base + b)
  moved_word r b base from = by_case (is_file_data r.owner r.offset_word)
    where
      by_case : (t : Bool) → (if t then r.offset_word + (b - (r.start - base)) else r.offset_word) ≡ (if t then r.offset_word + (base + b - r.start) else r.offset_word)
      by_case true = omega (arith, from)
      by_case false = refl

  pub part_held : (rs : List Run) (b : ℕ) → All (StaysInGroup v) rs → b < group_length v ag
      → held_at (map (run_in_group (ag * v.agblocks)) (filter (begins_in (ag * v.agblocks) (group_length v ag)) rs)) b ≡ held_at rs (ag * v.agblocks + b)
  part_held [] b stay in' = refl
  part_held (r ∷ rest) b stay in' =
      let base = ag * v.agblocks in
      let so = part_held rest b (All-tail (StaysInGroup v) r rest stay) in' in
      elim (cases_Bool (begins_in base (group_length v ag) r)) [
        | inl begins ↦
            let parts = and_parts (nat_le base r.start) (nat_lt r.start (base + group_length v ag)) begins in
            let from = leb-true base r.start parts.0 in
            let block : is_in_range (r.start - base) r.count b ≡ is_in_range r.start r.count (base + b) = grind (arith, nat_tests, from) in
            let word = moved_word r b base from in
            ap (λ (rs : List Run). held_at rs b) (part_in r rest begins)
            ∙ ap (λ (t : Bool). if t then Some (r.owner, offset_word_at (run_in_group base r) b) else held_at (map (run_in_group base) (filter (begins_in base (group_length v ag)) rest)) b) block
            ∙ ap₂ (λ (w : ℕ) (o : Option (ℕ × ℕ)). if is_in_range r.start r.count (base + b) then Some (r.owner, w) else o) word so
        | inr not' ↦
            let out : is_in_range r.start r.count (base + b) ≡ false = elim (cases_lt r.start base) [
              | inl before ↦
                  let end = All-head (StaysInGroup v) r rest stay ag before in
                  let p : is_in_range r.start r.count (base + b) ≡ false = grind (arith, nat_tests, end) in p
              | inr from ↦ elim (cases_lt r.start (base + group_length v ag)) [
                | inl in'' ↦ absurd (true≢false (sym (and_from (nat_le base r.start) (nat_lt r.start (base + group_length v ag)) (le-leb base r.start from) (lt-ltb r.start (base + group_length v ag) in'')) ∙ not'))
                | inr behind ↦
                    let p : is_in_range r.start r.count (base + b) ≡ false = grind (arith, nat_tests, behind, in') in p
              ]
            ] in
            ap (λ (rs : List Run). held_at rs b) (part_out r rest not') ∙ so
            ∙ sym (ap (λ (t : Bool). if t then Some (r.owner, offset_word_at r (base + b)) else held_at rest (base + b)) out)
      ]

  pub part_ascends : (rs : List Run) (from : ℕ) → AreRuns from rs → AreRuns (from - ag * v.agblocks) (map (run_in_group (ag * v.agblocks)) (filter (begins_in (ag * v.agblocks) (group_length v ag)) rs))
  part_ascends [] from runs = tt
  part_ascends (r ∷ rest) from runs =
      let base = ag * v.agblocks in
      let so = part_ascends rest (r.start + r.count) runs.2 in
      elim (cases_Bool (begins_in base (group_length v ag) r)) [
        | inl begins ↦
            let at = leb-true base r.start (and_parts (nat_le base r.start) (nat_lt r.start (base + group_length v ag)) begins).0 in
            let end : r.start + r.count - base ≡ r.start - base + r.count = omega (arith, at) in
            subst (AreRuns (from - base)) (sym (part_in r rest begins))
            (omega (arith, runs.0), omega (arith, runs.1), subst (λ (n : ℕ). AreRuns n (map (run_in_group base) (filter (begins_in base (group_length v ag)) rest))) end so)
        | inr not' ↦
            subst (AreRuns (from - base)) (sym (part_out r rest not'))
            (runs_lower (from - base) (r.start + r.count - base) (map (run_in_group base) (filter (begins_in base (group_length v ag)) rest)) so (omega (arith, runs.0)))
      ]

  pub part_each : (rs : List Run) → All (IsClaimedRun v.dblocks) rs → All (StaysInGroup v) rs
      → All (IsClaimedRun (group_length v ag)) (map (run_in_group (ag * v.agblocks)) (filter (begins_in (ag * v.agblocks) (group_length v ag)) rs))
  part_each [] each stay = All-nil (IsClaimedRun (group_length v ag))
  part_each (r ∷ rest) each stay =
      let base = ag * v.agblocks in
      let so = part_each rest (All-tail (IsClaimedRun v.dblocks) r rest each) (All-tail (StaysInGroup v) r rest stay) in
      elim (cases_Bool (begins_in base (group_length v ag) r)) [
        | inl begins ↦
            let parts = and_parts (nat_le base r.start) (nat_lt r.start (base + group_length v ag)) begins in
            let at = leb-true base r.start parts.0 in
            let before = ltb-true r.start (base + group_length v ag) parts.1 in
            let mine = All-head (IsClaimedRun v.dblocks) r rest each in
            let end : r.start + r.count ≤ base + group_length v ag = elim (group_ends v ag groups low) [
              | inl last ↦ omega (arith, last, mine.inside)
              | inr next ↦ omega (arith, next, All-head (StaysInGroup v) r rest stay (ag + 1) (omega (arith, next, before)))
            ] in
            subst (All (IsClaimedRun (group_length v ag))) (sym (part_in r rest begins))
            (All-cons (IsClaimedRun (group_length v ag)) (run_in_group base r) (map (run_in_group base) (filter (begins_in base (group_length v ag)) rest))
            (record { some = mine.some; inside = omega (arith, end, at); fits = mine.fits; plain = mine.plain }) so)
        | inr not' ↦ subst (All (IsClaimedRun (group_length v ag))) (sym (part_out r rest not')) so
      ]
