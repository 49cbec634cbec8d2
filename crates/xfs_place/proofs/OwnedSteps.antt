-- How the number of records of owners changes when the lowest blocks of a group's pool are taken.
use Rattle.std.proofs.Common.{◌≡◌, ◌≢◌, ℕ, zero, suc, ◌+◌, ◌-◌, ◌≤◌, ◌<◌, inl, inr, min, Bool, true, false, not, ◌&&◌, ◌||◌, nat_le, nat_lt, if◌then◌else◌, List, length, get_or, Option, Some, None, refl, sym, ◌∙◌, ap, ap₂, arith}
use Rattle.std.specs.Option.{is_some}
use Rattle.std.proofs.lemmas.Bool.{cases_lt, cases_eq, lt-ltb, le-ltb}
use Rattle.std.proofs.lemmas.Bool.Decides.{nat_tests}
use Rattle.xfs_place.specs.declared.uses.Use.{Use}
use Rattle.xfs_place.specs.Pool.{use_at}
use Rattle.xfs_place.specs.Choice.{AreLowest, IsPlacingGroup, Group, begins_owned, claim_count, goes_on, group, how_many, in_pool, is_for_inodes, is_for_space, is_inner, is_joined, met_neighbours, one_if, owned_at, owner_by, owner_count, owner_of, rank, total}
use Rattle.xfs_place.proofs.Totals.{OneMore, one_rank, put_one, total_mixed, total_more, total_none, total_same}
use Rattle.xfs_place.proofs.Ranks.{pool_behind, pool_inside}

-- both are blocks of the inode trees, or neither
abbrev pub same_kind : Bool → Bool → Bool
same_kind s t = if s then t else not t

joined_kinds : (s t : Bool) → is_joined (Some (owner_of s, 0)) (Some (owner_of t, 0)) ≡ same_kind s t
joined_kinds true true = refl
joined_kinds true false = refl
joined_kinds false true = refl
joined_kinds false false = refl

-- the use of a block says whether a block of a kind would join it
abbrev pub is_for : Bool → Use → Bool
is_for inodes u = if inodes then is_for_inodes u else is_for_space u

meets_kind : (g : Group) (t : Bool) (x : ℕ) → met_neighbours g.uses t x ≡ one_if (in_pool g.uses (x - 1) || is_for t (use_at g.uses (x - 1))) + one_if (is_for t (use_at g.uses (x + 1)))
meets_kind g true x = refl
meets_kind g false x = refl

and_true : (x : Bool) → (x && true) ≡ x
and_true true = refl
and_true false = refl

plus_none : (n : ℕ) → n + 0 ≡ n
plus_none n = omega arith

none_behind : (o : ℕ × ℕ) (c : Option (ℕ × ℕ)) → one_if (is_some c && not (true && is_joined (Some o) c)) + one_if (is_joined (Some o) c) ≡ one_if (is_some c && not (true && is_joined None c))
none_behind o None = refl
none_behind o (Some d) = by_case (goes_on o d)
  where
    by_case : (t : Bool) → one_if (true && not (true && t)) + one_if t ≡ 1
    by_case true = refl
    by_case false = refl

inner_is : (f e k : ℕ) → f ≤ k → k < e → (nat_le f k && nat_lt k e) ≡ true
inner_is f e k from to = grind (arith, nat_tests, from, to)

inner_before : (f e k : ℕ) → k < f → (nat_le f k && nat_lt k e) ≡ false
inner_before f e k to = grind (arith, nat_tests, to)

inner_behind : (f e k : ℕ) → e ≤ k → (nat_le f k && nat_lt k e) ≡ false
inner_behind f e k from = grind (arith, nat_tests, from)

all_same : (s : Bool) → same_kind s s ≡ true
all_same true = refl
all_same false = refl

never_two : (t : Bool) → one_if (t && false) ≡ 0
never_two true = refl
never_two false = refl

-- neighbours of two kinds are those at the two borders
borders : (touch : ℕ → Bool) (f e : ℕ) → 0 < f → f < e → (n : ℕ)
    → total (λ k. one_if (touch k && not (same_kind (nat_le f (k - 1) && nat_lt (k - 1) e) (nat_le f k && nat_lt k e)))) n
    ≡ one_if (nat_lt f n && touch f) + one_if (nat_lt e n && touch e)
borders touch f e some more zero =
    let low : nat_lt f 0 ≡ false = le-ltb f 0 (omega arith) in
    let high : nat_lt e 0 ≡ false = le-ltb e 0 (omega arith) in
    rw (low, high) (total_none (λ k. one_if (touch k && not (same_kind (nat_le f (k - 1) && nat_lt (k - 1) e) (nat_le f k && nat_lt k e)))))
borders touch f e some more (suc n) =
    let kind : ℕ → Bool = λ k. nat_le f k && nat_lt k e in
    let step : ℕ → ℕ = λ k. one_if (touch k && not (same_kind (kind (k - 1)) (kind k))) in
    let up : suc n ≡ n + 1 = omega arith in
    let so = borders touch f e some more n in
    let next = total_more step n in
    rw up (elim (cases_eq n f) [
      | inl at ↦
          let was : kind (n - 1) ≡ false = inner_before f e (n - 1) (omega (arith, at, some)) in
          let now : kind n ≡ true = inner_is f e n (omega (arith, at)) (omega (arith, at, more)) in
          let here : step n ≡ one_if (touch n && true) = rw (was, now) refl in
          let this : one_if (touch n && true) ≡ one_if (touch f) = ap (λ (k : ℕ). one_if (touch k && true)) at ∙ ap one_if (and_true (touch f)) in
          let a : nat_lt f n ≡ false = le-ltb f n (omega (arith, at)) in
          let b : nat_lt e n ≡ false = le-ltb e n (omega (arith, at, more)) in
          let c : nat_lt f (n + 1) ≡ true = lt-ltb f (n + 1) (omega (arith, at)) in
          let d : nat_lt e (n + 1) ≡ false = le-ltb e (n + 1) (omega (arith, at, more)) in
          let zero' : total step n ≡ 0 = so ∙ (rw (a, b) refl) in
          rw (c, d) (omega (arith, next, zero', here, this))
      | inr other ↦ elim (cases_eq n e) [
        | inl at ↦
            let was : kind (n - 1) ≡ true = inner_is f e (n - 1) (omega (arith, at, more)) (omega (arith, at, more)) in
            let now : kind n ≡ false = inner_behind f e n (omega (arith, at)) in
            let here : step n ≡ one_if (touch n && true) = rw (was, now) refl in
            let this : one_if (touch n && true) ≡ one_if (touch e) = ap (λ (k : ℕ). one_if (touch k && true)) at ∙ ap one_if (and_true (touch e)) in
            let a : nat_lt f n ≡ true = lt-ltb f n (omega (arith, at, more)) in
            let b : nat_lt e n ≡ false = le-ltb e n (omega (arith, at)) in
            let c : nat_lt f (n + 1) ≡ true = lt-ltb f (n + 1) (omega (arith, at, more)) in
            let d : nat_lt e (n + 1) ≡ true = lt-ltb e (n + 1) (omega (arith, at)) in
            let one' : total step n ≡ one_if (touch f) = so ∙ (rw (a, b) (omega arith)) in
            rw (c, d) (omega (arith, next, one', here, this))
        | inr apart ↦
            let alike : kind (n - 1) ≡ kind n = grind (arith, nat_tests, other, apart, some, more) in
            let here : step n ≡ 0 = rw alike (ap (λ (t : Bool). one_if (touch n && not t)) (all_same (kind n)) ∙ never_two (touch n)) in
            let a : nat_lt f (n + 1) ≡ nat_lt f n = grind (arith, nat_tests, other) in
            let b : nat_lt e (n + 1) ≡ nat_lt e n = grind (arith, nat_tests, apart) in
            rw (a, b) (omega (arith, next, here, so))
      ]
    ])

module _ (g : Group) (is : IsPlacingGroup g) (space : ℕ) where
  claim_joins : (t : Bool) (b : ℕ) → is_joined (g.claim b) (Some (owner_of t, 0)) ≡ is_for t (use_at g.uses b)
  claim_joins true b = is.inodes b
  claim_joins false b = is.space b

  claim_joins_behind : (t : Bool) (b : ℕ) → is_joined (Some (owner_of t, 0)) (g.claim b) ≡ is_for t (use_at g.uses b)
  claim_joins_behind true b = is.inodes_behind b
  claim_joins_behind false b = is.space_behind b

  -- the block of rank j, before it is taken and after; the others stay
  owned_here : (j x : ℕ) → in_pool g.uses x ≡ true → rank g.uses x ≡ j → owned_at g space (j + 1) x ≡ Some (owner_by g space j, 0)
  owned_here j x open' at =
      let low : nat_lt (rank g.uses x) (j + 1) ≡ true = lt-ltb (rank g.uses x) (j + 1) (omega (arith, at)) in
      rw (open', low, at) refl

  owned_not : (j x : ℕ) → in_pool g.uses x ≡ true → rank g.uses x ≡ j → owned_at g space j x ≡ None
  owned_not j x open' at =
      let high : nat_lt (rank g.uses x) j ≡ false = le-ltb (rank g.uses x) j (omega (arith, at)) in
      rw (open', high) (is.free x open')

  owned_other : (j x b : ℕ) → in_pool g.uses x ≡ true → rank g.uses x ≡ j → b ≢ x → owned_at g space (j + 1) b ≡ owned_at g space j b
  owned_other j x b open' at other = by_case (in_pool g.uses b) refl
    where
      by_case : (t : Bool) → in_pool g.uses b ≡ t → (if t && nat_lt (rank g.uses b) (j + 1) then Some (owner_by g space (rank g.uses b), 0) else g.claim b)
          ≡ (if t && nat_lt (rank g.uses b) j then Some (owner_by g space (rank g.uses b), 0) else g.claim b)
      by_case false h = refl
      by_case true h =
          let differs : rank g.uses b ≢ j = λ e. other (one_rank (in_pool g.uses) b x h open' (e ∙ sym at)) in
          let same : nat_lt (rank g.uses b) (j + 1) ≡ nat_lt (rank g.uses b) j = grind (arith, nat_tests, differs) in
          rw same refl

  -- the block behind it has what is claimed of it
  owned_behind : (j x : ℕ) → in_pool g.uses x ≡ true → rank g.uses x ≡ j → owned_at g space j (x + 1) ≡ g.claim (x + 1)
  owned_behind j x open' at =
      let one : one_if (in_pool g.uses x) ≡ 1 = ap one_if open' in
      let high : nat_lt (rank g.uses (x + 1)) j ≡ false = le-ltb (rank g.uses (x + 1)) j (omega (arith, at, one, total_more (λ b. one_if (in_pool g.uses b)) x)) in
      rw high (never (in_pool g.uses (x + 1)))
    where
      never : (t : Bool) → (if t && false then Some (owner_by g space (rank g.uses (x + 1)), 0) else g.claim (x + 1)) ≡ g.claim (x + 1)
      never true = refl
      never false = refl

  -- whether it joins the block before it
  joins_before : (j x : ℕ) → in_pool g.uses x ≡ true → rank g.uses x ≡ j → 0 < x
      → one_if (is_joined (owned_at g space j (x - 1)) (Some (owner_by g space j, 0))) + one_if (in_pool g.uses (x - 1) && not (same_kind (is_inner g space (j - 1)) (is_inner g space j)))
      ≡ one_if (in_pool g.uses (x - 1) || is_for (is_inner g space j) (use_at g.uses (x - 1)))
  joins_before j x open' at some = by_case (in_pool g.uses (x - 1)) refl
    where
      turned : (t : Bool) → one_if t + one_if (true && not t) ≡ 1
      turned true = refl
      turned false = refl

      by_case : (t : Bool) → in_pool g.uses (x - 1) ≡ t
          → one_if (is_joined (if t && nat_lt (rank g.uses (x - 1)) j then Some (owner_by g space (rank g.uses (x - 1)), 0) else g.claim (x - 1)) (Some (owner_by g space j, 0)))
          + one_if (t && not (same_kind (is_inner g space (j - 1)) (is_inner g space j)))
          ≡ one_if (t || is_for (is_inner g space j) (use_at g.uses (x - 1)))
      by_case false h = let e = claim_joins (is_inner g space j) (x - 1) in rw e (plus_none (one_if (is_for (is_inner g space j) (use_at g.uses (x - 1)))))
      by_case true h =
          let e : x - 1 + 1 ≡ x = omega (arith, some) in
          let one : one_if (in_pool g.uses (x - 1)) ≡ 1 = ap one_if h in
          let step : rank g.uses x ≡ rank g.uses (x - 1) + one_if (in_pool g.uses (x - 1)) = ap (rank g.uses) (sym e) ∙ total_more (λ b. one_if (in_pool g.uses b)) (x - 1) in
          let before : rank g.uses (x - 1) ≡ j - 1 = omega (arith, at, step, one) in
          let low : nat_lt (rank g.uses (x - 1)) j ≡ true = lt-ltb (rank g.uses (x - 1)) j (omega (arith, at, step, one)) in
          let kinds = joined_kinds (is_inner g space (j - 1)) (is_inner g space j) in
          rw (low, before, kinds) (turned (same_kind (is_inner g space (j - 1)) (is_inner g space j)))

  -- one block more is taken: the records before and after
  pub owned_step : (j x : ℕ) → in_pool g.uses x ≡ true → rank g.uses x ≡ j
      → owner_count g space (j + 1) + met_neighbours g.uses (is_inner g space j) x
      ≡ owner_count g space j + 1 + one_if (in_pool g.uses (x - 1) && not (same_kind (is_inner g space (j - 1)) (is_inner g space j)))
  unfolding owner_count
  owned_step j x open' at =
      let some = pool_behind g.uses is.header x open' in
      let now = owned_at g space (j + 1) in
      let was = owned_at g space j in
      let p = begins_owned now in
      let q = begins_owned was in
      let mine : Option (ℕ × ℕ) = Some (owner_by g space j, 0) in
      let a = is_joined (was (x - 1)) mine in
      let c = is_joined mine (g.claim (x + 1)) in
      let put : OneMore p q x a c = record {
        same = λ b other after.
            let same = owned_other j x b open' at other in
            elim (cases_lt 0 b) [
              | inl pos ↦
                  let e : nat_lt 0 b ≡ true = lt-ltb 0 b pos in
                  let prior = owned_other j x (b - 1) open' at (λ h. after (omega (arith, h, pos))) in
                  rw (e, same, prior) refl
              | inr none ↦
                  let e : nat_lt 0 b ≡ false = le-ltb 0 b none in
                  rw (e, same) refl
            ];
        without = rw (owned_not j x open' at) refl;
        here =
            let e : nat_lt 0 x ≡ true = lt-ltb 0 x some in
            let prior = owned_other j x (x - 1) open' at (λ h. omega (arith, h, some)) in
            rw (e, owned_here j x open' at, prior) refl;
        next =
            let e : nat_lt 0 (x + 1) ≡ true = lt-ltb 0 (x + 1) (omega arith) in
            let back : x + 1 - 1 ≡ x = omega arith in
            let after = owned_other j x (x + 1) open' at (λ h. omega (arith, h)) ∙ owned_behind j x open' at in
            rw (e, back, after, owned_behind j x open' at, owned_here j x open' at, owned_not j x open' at) (none_behind (owner_by g space j, 0) (g.claim (x + 1)));
      } in
      let change = put_one p q x a c put (length g.uses) (pool_inside g.uses is.header x open')
      (λ last. ap (is_joined mine) (is.inside (x + 1) (omega (arith, last)))) in
      let beside = ap one_if (claim_joins_behind (is_inner g space j) (x + 1)) in
      omega (arith, change, joins_before j x open' at some, meets_kind g (is_inner g space j) x, beside)

  -- nothing is taken yet
  pub owned_none : owner_count g space 0 ≡ how_many (begins_owned g.claim) (length g.uses)
  unfolding owner_count
  owned_none =
      total_same (λ b. one_if (begins_owned (owned_at g space 0) b)) (λ b. one_if (begins_owned g.claim b)) (length g.uses)
      (λ b h. ap₂ (λ (o p : Option (ℕ × ℕ)). one_if (is_some o && not (nat_lt 0 b && is_joined p o))) (claimed b) (claimed (b - 1)))
    where
      claimed : (b : ℕ) → owned_at g space 0 b ≡ g.claim b
      claimed b =
          let none : nat_lt (rank g.uses b) 0 ≡ false = le-ltb (rank g.uses b) 0 (omega arith) in
          rw none (never (in_pool g.uses b))
        where
          never : (t : Bool) → (if t && false then Some (owner_by g space (rank g.uses b), 0) else g.claim b) ≡ g.claim b
          never true = refl
          never false = refl

  -- all of the lowest blocks are taken
  pub owned_all : (blocks : List ℕ) → AreLowest g.uses blocks → (n : ℕ) → n ≤ length blocks
      → owner_count g space n + total (λ k. met_neighbours g.uses (is_inner g space k) (get_or blocks k 0)) n
      ≡ how_many (begins_owned g.claim) (length g.uses) + n
      + total (λ k. one_if (in_pool g.uses (get_or blocks k 0 - 1) && not (same_kind (is_inner g space (k - 1)) (is_inner g space k)))) n
  owned_all blocks low zero few = omega (
    arith,
    owned_none,
    total_none (λ k. met_neighbours g.uses (is_inner g space k) (get_or blocks k 0)),
    total_none (λ k. one_if (in_pool g.uses (get_or blocks k 0 - 1) && not (same_kind (is_inner g space (k - 1)) (is_inner g space k)))),
  )
  owned_all blocks low (suc n) few =
      let e : suc n ≡ n + 1 = omega arith in
      let x = get_or blocks n 0 in
      let step = owned_step n x (low.open' n (omega (arith, few))) (low.ranks n (omega (arith, few))) in
      let so = owned_all blocks low n (omega (arith, few)) in
      rw e (omega (
        arith,
        step,
        so,
        total_more (λ k. met_neighbours g.uses (is_inner g space k) (get_or blocks k 0)) n,
        total_more (λ k. one_if (in_pool g.uses (get_or blocks k 0 - 1) && not (same_kind (is_inner g space (k - 1)) (is_inner g space k)))) n,
      ))

  -- the records by the sums for the two kinds of owners: a is where the blocks of the inode trees begin, b where they end, or n
  pub owned_sums : (blocks : List ℕ) → AreLowest g.uses blocks → (n a b : ℕ) → n ≤ length blocks → 0 < space → 0 < g.inner → a ≡ min space n → b ≡ min (space + g.inner) n
      → owner_count g space n + total (λ k. met_neighbours g.uses false (get_or blocks k 0)) a + total (λ k. met_neighbours g.uses true (get_or blocks k 0)) b
      + total (λ k. met_neighbours g.uses false (get_or blocks k 0)) n
      ≡ claim_count g + n + one_if (nat_lt space n && in_pool g.uses (get_or blocks space 0 - 1))
      + one_if (nat_lt (space + g.inner) n && in_pool g.uses (get_or blocks (space + g.inner) 0 - 1))
      + total (λ k. met_neighbours g.uses true (get_or blocks k 0)) a + total (λ k. met_neighbours g.uses false (get_or blocks k 0)) b
  unfolding claim_count
  owned_sums blocks low n a b few some inner ha hb =
      let one : ℕ → ℕ = λ k. met_neighbours g.uses false (get_or blocks k 0) in
      let two : ℕ → ℕ = λ k. met_neighbours g.uses true (get_or blocks k 0) in
      let mix : ℕ → ℕ = λ k. met_neighbours g.uses (is_inner g space k) (get_or blocks k 0) in
      let touch : ℕ → Bool = λ k. in_pool g.uses (get_or blocks k 0 - 1) in
      let all = owned_all blocks low n few in
      let mixed = total_mixed mix one two space (space + g.inner) (omega arith)
      (λ k from to. ap (λ (t : Bool). met_neighbours g.uses t (get_or blocks k 0)) (inner_is space (space + g.inner) k from to))
      (λ k to. ap (λ (t : Bool). met_neighbours g.uses t (get_or blocks k 0)) (inner_before space (space + g.inner) k to))
      (λ k from. ap (λ (t : Bool). met_neighbours g.uses t (get_or blocks k 0)) (inner_behind space (space + g.inner) k from)) n a b ha hb in
      let ends = borders touch space (space + g.inner) some (omega (arith, inner)) n in
      omega (arith, all, mixed, ends)

-- the number of records, from the numbers that the code has
pub owners_are : (uses : List Use) (claim : ℕ → Option (ℕ × ℕ)) (inner space : ℕ) → IsPlacingGroup (group uses claim inner) → (blocks : List ℕ) → AreLowest uses blocks
    → (a b records t u i s' s j r result : ℕ) → 0 < space → 0 < inner → a ≡ min space (length blocks) → b ≡ min (space + inner) (length blocks)
    → claim_count (group uses claim inner) ≡ records
    → t ≡ one_if (nat_lt space (length blocks) && in_pool uses (get_or blocks space 0 - 1))
    → u ≡ one_if (nat_lt (space + inner) (length blocks) && in_pool uses (get_or blocks (space + inner) 0 - 1))
    → i ≡ total (λ k. met_neighbours uses true (get_or blocks k 0)) a → s' ≡ total (λ k. met_neighbours uses false (get_or blocks k 0)) b
    → s ≡ total (λ k. met_neighbours uses false (get_or blocks k 0)) a → j ≡ total (λ k. met_neighbours uses true (get_or blocks k 0)) b
    → r ≡ total (λ k. met_neighbours uses false (get_or blocks k 0)) (length blocks)
    → result ≡ records + length blocks + t + u + i + s' - (s + j + r) → result ≡ owner_count (group uses claim inner) space (length blocks)
owners_are uses claim inner space is blocks low a b records t u i s' s j r result some inner' ha hb hc ht hu hi hs' hs hj hr says =
    let n = length blocks in
    let so : owner_count (group uses claim inner) space n + total (λ k. met_neighbours uses false (get_or blocks k 0)) a + total (λ k. met_neighbours uses true (get_or blocks k 0)) b
    + total (λ k. met_neighbours uses false (get_or blocks k 0)) n
    ≡ claim_count (group uses claim inner) + n + one_if (nat_lt space n && in_pool uses (get_or blocks space 0 - 1))
    + one_if (nat_lt (space + inner) n && in_pool uses (get_or blocks (space + inner) 0 - 1))
    + total (λ k. met_neighbours uses true (get_or blocks k 0)) a + total (λ k. met_neighbours uses false (get_or blocks k 0)) b
    = owned_sums (group uses claim inner) is space blocks low n a b (omega arith) some inner' ha hb in
    omega (arith, so, hc, ht, hu, hi, hs', hs, hj, hr, says)
