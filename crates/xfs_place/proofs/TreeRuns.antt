-- The claims of a group and the runs of the lowest blocks of its pool.
use Rattle.std.proofs.Common.{◌≡◌, ◌≢◌, ℕ, zero, suc, ◌+◌, ◌≤◌, ◌<◌, inl, inr, Bool, true, false, ◌&&◌, nat_lt, if◌then◌else◌, List, [], ◌∷◌, ◌++◌, length, get_or, Option, Some, None, refl, sym, ◌∙◌, ap, ap₂, subst, append_assoc, arith}
use Rattle.std.specs.List.{All}
use Rattle.std.proofs.lemmas.Bool.{cases_lt, cases_eq, cases_Bool, lt-ltb, le-ltb, true≢false}
use Rattle.std.proofs.lemmas.Bool.Decides.{nat_tests}
use Rattle.std.proofs.lemmas.List.Elements.{All-append, All-cons, All-nil}
use Rattle.std.proofs.lemmas.List.FromFn.{map-range_with_len_more}
use Rattle.std.proofs.lemmas.List.Sums.{sum_by-append}
use Rattle.xfs_geom.specs.Runs.{covers, runs_on}
use Rattle.xfs_disk.specs.Lists.{is_in_range}
use Rattle.xfs_geom.specs.declared.records.Run.{Run}
use Rattle.xfs_kinds.specs.OffsetWords.{is_file_data}
use Rattle.xfs_kinds.specs.MergedRuns.{AreRuns, held_at, offset_word_at}
use Rattle.xfs_place.specs.declared.uses.Use.{Use}
use Rattle.xfs_place.specs.Choice.{AreLowest, Group, IsPlacingGroup, group_claimed, in_pool, is_inner, one_if, owned_at, owner_by, owner_of, rank}
use Rattle.xfs_place.specs.Claims.{ClaimedOnce, AreClaims, IsClaimedRun}
use Rattle.xfs_place.specs.Placing.{tree_claims}
use Rattle.xfs_place.proofs.Ordered.{none_held, on_first}
use Rattle.xfs_place.proofs.Ranks.{pool_inside}
use Rattle.xfs_place.proofs.Totals.{one_rank}

not_none : (p : ℕ × ℕ) (q : Option (ℕ × ℕ)) → q ≡ None → q ≡ Some p → ⊥
not_none p q e f = cc

one_small : (t : Bool) → one_if t ≤ 1
one_small true = omega arith
one_small false = omega arith

-- runs in front of others
pub held_front : (xs ys : List Run) (b : ℕ) → held_at xs b ≡ None → held_at (xs ++ ys) b ≡ held_at ys b
held_front [] ys b none = refl
held_front (r ∷ rest) ys b none = by_case (is_in_range r.start r.count b) refl (held_front rest ys b)
  where
    by_case : (t : Bool) → is_in_range r.start r.count b ≡ t → (held_at rest b ≡ None → held_at (rest ++ ys) b ≡ held_at ys b)
        → (if t then Some (r.owner, offset_word_at r b) else held_at (rest ++ ys) b) ≡ held_at ys b
    by_case true e next =
        let held : held_at (r ∷ rest) b ≡ Some (r.owner, offset_word_at r b) = rw e refl in
        absurd (not_none (r.owner, offset_word_at r b) (held_at (r ∷ rest) b) none held)
    by_case false e next =
        let held : held_at (r ∷ rest) b ≡ held_at rest b = rw e refl in
        next (sym held ∙ none)

pub held_stays : (xs ys : List Run) (b : ℕ) (p : ℕ × ℕ) → held_at xs b ≡ Some p → held_at (xs ++ ys) b ≡ Some p
held_stays [] ys b p some = absurd (not_none p None refl some)
held_stays (r ∷ rest) ys b p some = by_case (is_in_range r.start r.count b) refl (held_stays rest ys b p)
  where
    by_case : (t : Bool) → is_in_range r.start r.count b ≡ t → (held_at rest b ≡ Some p → held_at (rest ++ ys) b ≡ Some p)
        → (if t then Some (r.owner, offset_word_at r b) else held_at (rest ++ ys) b) ≡ Some p
    by_case true e next =
        let held : held_at (r ∷ rest) b ≡ Some (r.owner, offset_word_at r b) = rw e refl in
        sym held ∙ some
    by_case false e next =
        let held : held_at (r ∷ rest) b ≡ held_at rest b = rw e refl in
        next (sym held ∙ some)

held_last : (xs : List Run) (u : Run) (b : ℕ) → is_in_range u.start u.count b ≡ false → held_at (xs ++ u ∷ []) b ≡ held_at xs b
held_last [] u b out = rw out refl
held_last (r ∷ rest) u b out = ap (λ (o : Option (ℕ × ℕ)). if is_in_range r.start r.count b then Some (r.owner, offset_word_at r b) else o) (held_last rest u b out)

tree_word : (t : Bool) (x b : ℕ) → offset_word_at (record { start = x; count = 1; owner = owner_of t; offset_word = 0 }) b ≡ 0
tree_word true x b = refl
tree_word false x b = refl

tree_plain : (t : Bool) → is_file_data (owner_of t) 0 ≡ false
tree_plain true = refl
tree_plain false = refl

-- runs that ascend have each block once at most
pub once_each : (low : ℕ) (rs : List Run) (b : ℕ) → AreRuns low rs → (runs_on rs b ≤ 1) × (b < low → runs_on rs b ≡ 0)
once_each low [] b runs = (omega arith, λ h. refl)
once_each low (r ∷ rest) b runs =
    let so = once_each (r.start + r.count) rest b runs.2 in
    let sums = on_first r rest b in
    elim (cases_lt b (r.start + r.count)) [
      | inl near ↦
          let none = so.1 near in
          let small : one_if (covers b r) ≤ 1 = one_small (covers b r) in (
            omega (arith, sums, none, small),
            λ h.
                let out : covers b r ≡ false = grind (arith, nat_tests, runs.0, h) in
                let zero' : one_if (covers b r) ≡ 0 = ap one_if out in
                omega (arith, sums, none, zero'),
          )
      | inr far ↦
          let out : covers b r ≡ false = grind (arith, nat_tests, far) in
          let zero' : one_if (covers b r) ≡ 0 = ap one_if out in
          (omega (arith, sums, zero', so.0), λ h. absurd (omega (arith, h, runs.0, far)))
    ]

module _ (g : Group) (is : IsPlacingGroup g) (space : ℕ) (blocks : List ℕ) (low : AreLowest g.uses blocks) where
  more_runs : (n : ℕ) → tree_claims g space blocks (n + 1) ≡ tree_claims g space blocks n ++ record { start = get_or blocks n 0; count = 1; owner = owner_by g space n; offset_word = 0 } ∷ []
  more_runs n = map-range_with_len_more (λ k. record { start = get_or blocks k 0; count = 1; owner = owner_by g space k; offset_word = 0 }) 0 n n (omega arith)

  -- a block is one of the n lowest
  abbrev is_low : ℕ → ℕ → Bool
  is_low n b = in_pool g.uses b && nat_lt (rank g.uses b) n

  low_same : (n b : ℕ) → n < length blocks → b ≢ get_or blocks n 0 → is_low (n + 1) b ≡ is_low n b
  low_same n b few other = by_case (in_pool g.uses b) refl
    where
      by_case : (t : Bool) → in_pool g.uses b ≡ t → (t && nat_lt (rank g.uses b) (n + 1)) ≡ (t && nat_lt (rank g.uses b) n)
      by_case false e = refl
      by_case true e =
          let differs : rank g.uses b ≢ n = λ h. other (one_rank (in_pool g.uses) b (get_or blocks n 0) e (low.open' n few) (h ∙ sym (low.ranks n few))) in
          let same : nat_lt (rank g.uses b) (n + 1) ≡ nat_lt (rank g.uses b) n = grind (arith, nat_tests, differs) in
          same

  low_new : (n b : ℕ) → n < length blocks → b ≡ get_or blocks n 0 → (is_low n b ≡ false) × (is_low (n + 1) b ≡ true) × (rank g.uses b ≡ n)
  low_new n b few at =
      let open' : in_pool g.uses b ≡ true = ap (in_pool g.uses) at ∙ low.open' n few in
      let here : rank g.uses b ≡ n = ap (rank g.uses) at ∙ low.ranks n few in
      let no : nat_lt (rank g.uses b) n ≡ false = le-ltb (rank g.uses b) n (omega (arith, here)) in
      let yes' : nat_lt (rank g.uses b) (n + 1) ≡ true = lt-ltb (rank g.uses b) (n + 1) (omega (arith, here)) in
      (rw (open', no) refl, rw (open', yes') refl, here)

  -- the lowest blocks are held by their ranks, and no others are
  pub tree_held : (n b : ℕ) → n ≤ length blocks → held_at (tree_claims g space blocks n) b ≡ (if is_low n b then Some (owner_by g space (rank g.uses b), 0) else None)
  tree_held zero b few =
      let none : is_low 0 b ≡ false = nothing (in_pool g.uses b) (rank g.uses b) in
      rw none refl
    where
      nothing : (t : Bool) (k : ℕ) → (t && nat_lt k 0) ≡ false
      nothing true k = le-ltb k 0 (omega arith)
      nothing false k = refl
  tree_held (suc n) b few =
      let up : suc n ≡ n + 1 = omega arith in
      let x = get_or blocks n 0 in
      let u : Run = record { start = x; count = 1; owner = owner_by g space n; offset_word = 0 } in
      let so = tree_held n b (omega (arith, few)) in
      let whole : held_at (tree_claims g space blocks (n + 1)) b ≡ (if is_low (n + 1) b then Some (owner_by g space (rank g.uses b), 0) else None) =
      ap (λ (rs : List Run). held_at rs b) (more_runs n) ∙ (elim (cases_eq b x) [
        | inl at ↦
            let new = low_new n b (omega (arith, few)) at in
            let none : held_at (tree_claims g space blocks n) b ≡ None = so ∙ rw new.0 refl in
            let inside : is_in_range x 1 b ≡ true = grind (arith, nat_tests, at) in
            let word = tree_word (is_inner g space n) x b in
            let held : held_at (u ∷ []) b ≡ Some (owner_by g space n, 0) = rw (inside, word) refl in
            held_front (tree_claims g space blocks n) (u ∷ []) b none ∙ held ∙ rw (new.1, new.2) refl
        | inr other ↦
            let out : is_in_range x 1 b ≡ false = grind (arith, nat_tests, other) in
            held_last (tree_claims g space blocks n) u b out ∙ so ∙ rw (low_same n b (omega (arith, few)) other) refl
      ]) in
      subst (λ (k : ℕ). held_at (tree_claims g space blocks k) b ≡ (if is_low k b then Some (owner_by g space (rank g.uses b), 0) else None)) (sym up) whole

  pub tree_once : (n b : ℕ) → n ≤ length blocks → runs_on (tree_claims g space blocks n) b ≡ one_if (is_low n b)
  tree_once zero b few =
      let none : is_low 0 b ≡ false = nothing (in_pool g.uses b) (rank g.uses b) in
      rw none refl
    where
      nothing : (t : Bool) (k : ℕ) → (t && nat_lt k 0) ≡ false
      nothing true k = le-ltb k 0 (omega arith)
      nothing false k = refl
  tree_once (suc n) b few =
      let up : suc n ≡ n + 1 = omega arith in
      let x = get_or blocks n 0 in
      let u : Run = record { start = x; count = 1; owner = owner_by g space n; offset_word = 0 } in
      let so = tree_once n b (omega (arith, few)) in
      let parts : runs_on (tree_claims g space blocks n ++ u ∷ []) b ≡ runs_on (tree_claims g space blocks n) b + runs_on (u ∷ []) b =
      sum_by-append (λ (r : Run). if covers b r then 1 else 0) (tree_claims g space blocks n) (u ∷ []) in
      let one = on_first u [] b in
      let whole : runs_on (tree_claims g space blocks (n + 1)) b ≡ one_if (is_low (n + 1) b) =
      ap (λ (rs : List Run). runs_on rs b) (more_runs n) ∙ (elim (cases_eq b x) [
        | inl at ↦
            let new = low_new n b (omega (arith, few)) at in
            let inside : covers b u ≡ true = grind (arith, nat_tests, at) in
            let here : one_if (covers b u) ≡ 1 = ap one_if inside in
            let was : one_if (is_low n b) ≡ 0 = ap one_if new.0 in
            let now : one_if (is_low (n + 1) b) ≡ 1 = ap one_if new.1 in
            omega (arith, parts, one, here, was, now, so)
        | inr other ↦
            let out : covers b u ≡ false = grind (arith, nat_tests, other) in
            let here : one_if (covers b u) ≡ 0 = ap one_if out in
            let same : one_if (is_low (n + 1) b) ≡ one_if (is_low n b) = ap one_if (low_same n b (omega (arith, few)) other) in
            omega (arith, parts, one, here, same, so)
      ]) in
      subst (λ (k : ℕ). runs_on (tree_claims g space blocks k) b ≡ one_if (is_low k b)) (sym up) whole

  pub tree_each : (top n : ℕ) → length g.uses ≤ top → n ≤ length blocks → All (IsClaimedRun top) (tree_claims g space blocks n)
  tree_each top zero all few = All-nil (IsClaimedRun top)
  tree_each top (suc n) all few =
      let up : suc n ≡ n + 1 = omega arith in
      let x = get_or blocks n 0 in
      let u : Run = record { start = x; count = 1; owner = owner_by g space n; offset_word = 0 } in
      let inside = pool_inside g.uses is.header x (low.open' n (omega (arith, few))) in
      let mine : IsClaimedRun top u = record { some = omega arith; inside = omega (arith, inside, all); fits = λ h. absurd (true≢false (sym h ∙ tree_plain (is_inner g space n))); plain = λ h. refl } in
      let so = tree_each top n all (omega (arith, few)) in
      let whole : All (IsClaimedRun top) (tree_claims g space blocks (n + 1)) =
      subst (All (IsClaimedRun top)) (sym (more_runs n)) (All-append (IsClaimedRun top) (tree_claims g space blocks n) (u ∷ []) so (All-cons (IsClaimedRun top) u [] mine (All-nil (IsClaimedRun top)))) in
      subst (λ (k : ℕ). All (IsClaimedRun top) (tree_claims g space blocks k)) (sym up) whole

  -- a block that is held by a claim is not of the pool
  closed_if : (b : ℕ) (p : ℕ × ℕ) → g.claim b ≡ Some p → in_pool g.uses b ≡ false
  closed_if b p some = by_case (in_pool g.uses b) refl
    where
      by_case : (t : Bool) → in_pool g.uses b ≡ t → t ≡ false
      by_case false e = refl
      by_case true e = absurd (not_none p (g.claim b) (is.free b e) some)

-- the claims and the lowest blocks together
module _ (uses : List Use) (claims : List Run) (inner space : ℕ) (is : IsPlacingGroup (group_claimed uses claims inner)) (are : AreClaims (length uses) claims) (blocks : List ℕ)
    (low : AreLowest uses blocks) where
  pub owned_apart : ClaimedOnce (claims ++ tree_claims (group_claimed uses claims inner) space blocks (length blocks))
  owned_apart = record {
    once = λ b.
        let g = group_claimed uses claims inner in
        let trees = tree_claims g space blocks (length blocks) in
        let parts : runs_on (claims ++ trees) b ≡ runs_on claims b + runs_on trees b = sum_by-append (λ (r : Run). if covers b r then 1 else 0) claims trees in
        let one = tree_once g is space blocks low (length blocks) b (omega arith) in
        let each = (once_each 0 claims b are.ascend).0 in
        elim (cases_Bool (in_pool uses b)) [
          | inl open' ↦
              let none = none_held claims b (is.free b open') in
              omega (arith, parts, one, none, one_small (in_pool uses b && nat_lt (rank uses b) (length blocks)))
          | inr closed ↦
              let zero' : one_if (in_pool uses b && nat_lt (rank uses b) (length blocks)) ≡ 0 = ap (λ (t : Bool). one_if (t && nat_lt (rank uses b) (length blocks))) closed in
              omega (arith, parts, one, zero', each)
        ];
  }

  pub owned_held : (b : ℕ) → held_at (claims ++ tree_claims (group_claimed uses claims inner) space blocks (length blocks)) b ≡ owned_at (group_claimed uses claims inner) space (length blocks) b
  owned_held b = by_case (held_at claims b) refl
    where
      by_case : (o : Option (ℕ × ℕ)) → held_at claims b ≡ o
          → held_at (claims ++ tree_claims (group_claimed uses claims inner) space blocks (length blocks)) b ≡ owned_at (group_claimed uses claims inner) space (length blocks) b
      by_case None none =
          held_front claims (tree_claims (group_claimed uses claims inner) space blocks (length blocks)) b none
          ∙ tree_held (group_claimed uses claims inner) is space blocks low (length blocks) b (omega arith)
          ∙ ap (λ (o : Option (ℕ × ℕ)). if in_pool uses b && nat_lt (rank uses b) (length blocks) then Some (owner_by (group_claimed uses claims inner) space (rank uses b), 0) else o) (sym none)
      by_case (Some p) some =
          held_stays claims (tree_claims (group_claimed uses claims inner) space blocks (length blocks)) b p some
          ∙ (let closed = closed_if (group_claimed uses claims inner) is space blocks low b p some in
          sym some ∙ sym (ap (λ (t : Bool). if t && nat_lt (rank uses b) (length blocks) then Some (owner_by (group_claimed uses claims inner) space (rank uses b), 0) else held_at claims b) closed))

  pub owned_each : All (IsClaimedRun (length uses)) (claims ++ tree_claims (group_claimed uses claims inner) space blocks (length blocks))
  owned_each =
      All-append (IsClaimedRun (length uses)) claims (tree_claims (group_claimed uses claims inner) space blocks (length blocks)) are.each
      (tree_each (group_claimed uses claims inner) is space blocks low (length uses) (length blocks) (omega arith) (omega arith))

-- one run more
pub pushed : (g : Group) (claims runs now : List Run) (space : ℕ) (blocks : List ℕ) (k owner : ℕ) → runs ≡ claims ++ tree_claims g space blocks k → owner ≡ owner_by g space k
    → now ≡ runs ++ record { start = get_or blocks k 0; count = 1; owner = owner; offset_word = 0 } ∷ [] → now ≡ claims ++ tree_claims g space blocks (k + 1)
pushed g claims runs now space blocks k owner so by put =
    put ∙ ap₂ (λ (rs : List Run) (o : ℕ). rs ++ record { start = get_or blocks k 0; count = 1; owner = o; offset_word = 0 } ∷ []) so by
    ∙ append_assoc claims (tree_claims g space blocks k) (record { start = get_or blocks k 0; count = 1; owner = owner_by g space k; offset_word = 0 } ∷ [])
    ∙ ap (λ (rs : List Run). claims ++ rs) (sym (map-range_with_len_more (λ j. record { start = get_or blocks j 0; count = 1; owner = owner_by g space j; offset_word = 0 }) 0 k k (omega arith)))
