-- What changes when one block more of a group's pool is taken.
use Rattle.std.proofs.Common.{◌≡◌, ◌≢◌, ℕ, ◌+◌, ◌-◌, ◌<◌, inl, inr, Bool, true, false, not, ◌&&◌, ◌||◌, nat_le, nat_lt, List, length, refl, sym, ◌∙◌, ap, arith}
use Rattle.std.proofs.lemmas.Bool.{cases_lt, cases_eq, lt-ltb, le-ltb, le-leb, lt-leb, true≢false}
use Rattle.std.proofs.lemmas.Bool.Decides.{nat_tests}
use Rattle.std.proofs.lemmas.List.{get_or_past}
use Rattle.xfs_place.specs.declared.uses.Use.{Use}
use Rattle.xfs_place.specs.declared.uses.Use.TheVariants.{Pool, Reserved, Claimed, ForSpace, ForInodes}
use Rattle.xfs_place.specs.Pool.{is_open, use_at}
use Rattle.xfs_place.specs.Choice.{begins_free, free_run_count, in_pool, is_free_at, is_spare, one_if, rank}
use Rattle.xfs_place.proofs.Totals.{OneMore, one_rank, put_one, total_more}

or_true : (x : Bool) → (x || (true && true)) ≡ true
or_true true = refl
or_true false = refl

or_none : (x : Bool) → (x || false) ≡ x
or_none true = refl
or_none false = refl

and_true : (x : Bool) → (x && true) ≡ x
and_true true = refl
and_true false = refl

handed_on : (x : Bool) → one_if (x && not (true && true)) + one_if x ≡ one_if (x && not (true && false))
handed_on true = refl
handed_on false = refl

-- a block of the pool lies in the group, behind its first block
not_beyond : (u : List Use) (b : ℕ) → is_open (use_at u b) ≡ true → b < length u
not_beyond u b open' = elim (cases_lt b (length u)) [
  | inl low ↦ low
  | inr far ↦ absurd (true≢false (sym open' ∙ ap is_open (get_or_past u b Claimed far)))
]

module _ (u : List Use) (first : use_at u 0 ≡ Claimed) where
  pub pool_inside : (b : ℕ) → in_pool u b ≡ true → b < length u
  pool_inside b open' = not_beyond u b open'

  pub pool_behind : (b : ℕ) → in_pool u b ≡ true → 0 < b
  pool_behind b open' = elim (cases_eq b 0) [
    | inl start ↦ absurd (true≢false (sym open' ∙ ap (in_pool u) start ∙ ap is_open first))
    | inr other ↦ omega (arith, other)
  ]

  open_closed : (w : Use) → is_open w ≡ true → is_spare w ≡ false
  open_closed Pool h = refl
  open_closed Reserved h = absurd (true≢false (sym h))
  open_closed Claimed h = refl
  open_closed ForSpace h = refl
  open_closed ForInodes h = refl

  -- a block other than the one of rank n is free at n + 1 as it was at n
  free_other : (n x b : ℕ) → in_pool u x ≡ true → rank u x ≡ n → b ≢ x → is_free_at u n b ≡ is_free_at u (n + 1) b
  free_other n x b open' at other = by_case (in_pool u b) refl
    where
      by_case : (t : Bool) → in_pool u b ≡ t → (is_spare (use_at u b) || (t && nat_le n (rank u b))) ≡ (is_spare (use_at u b) || (t && nat_le (n + 1) (rank u b)))
      by_case false h = refl
      by_case true h =
          let differs : rank u b ≢ n = λ e. other (one_rank (in_pool u) b x h open' (e ∙ sym at)) in
          let same : nat_le n (rank u b) ≡ nat_le (n + 1) (rank u b) = grind (arith, nat_tests, differs) in
          ap (λ (t : Bool). is_spare (use_at u b) || t) same

  free_here : (n x : ℕ) → in_pool u x ≡ true → rank u x ≡ n → is_free_at u n x ≡ true
  free_here n x open' at =
      let low : nat_le n (rank u x) ≡ true = le-leb n (rank u x) (omega (arith, at)) in
      rw (open', low) (or_true (is_spare (use_at u x)))

  free_gone : (n x : ℕ) → in_pool u x ≡ true → rank u x ≡ n → is_free_at u (n + 1) x ≡ false
  free_gone n x open' at =
      let high : nat_le (n + 1) (rank u x) ≡ false = lt-leb (n + 1) (rank u x) (omega (arith, at)) in
      rw (open', high, open_closed (use_at u x) open') refl

  -- the blocks beside the one of rank n: the one before is taken where it is of the pool, the one behind is not yet
  free_before : (n x : ℕ) → in_pool u x ≡ true → rank u x ≡ n → 0 < x → is_free_at u n (x - 1) ≡ is_spare (use_at u (x - 1))
  free_before n x open' at some = by_case (in_pool u (x - 1)) refl
    where
      by_case : (t : Bool) → in_pool u (x - 1) ≡ t → (is_spare (use_at u (x - 1)) || (t && nat_le n (rank u (x - 1)))) ≡ is_spare (use_at u (x - 1))
      by_case false h = or_none (is_spare (use_at u (x - 1)))
      by_case true h =
          let e : x - 1 + 1 ≡ x = omega (arith, some) in
          let one : one_if (in_pool u (x - 1)) ≡ 1 = ap one_if h in
          let step : rank u x ≡ rank u (x - 1) + one_if (in_pool u (x - 1)) = ap (rank u) (sym e) ∙ total_more (λ b. one_if (in_pool u b)) (x - 1) in
          let low : nat_le n (rank u (x - 1)) ≡ false = lt-leb n (rank u (x - 1)) (omega (arith, at, step, one)) in
          rw low (or_none (is_spare (use_at u (x - 1))))

  free_behind : (n x : ℕ) → in_pool u x ≡ true → rank u x ≡ n → is_free_at u (n + 1) (x + 1) ≡ (is_spare (use_at u (x + 1)) || in_pool u (x + 1))
  free_behind n x open' at =
      let one : one_if (in_pool u x) ≡ 1 = ap one_if open' in
      let high : nat_le (n + 1) (rank u (x + 1)) ≡ true = le-leb (n + 1) (rank u (x + 1)) (omega (arith, at, one, total_more (λ b. one_if (in_pool u b)) x)) in
      rw high (ap (λ (t : Bool). is_spare (use_at u (x + 1)) || t) (and_true (in_pool u (x + 1))))

  -- one block more is taken: the runs of free blocks before and after
  pub free_step : (n x : ℕ) → in_pool u x ≡ true → rank u x ≡ n
      → free_run_count u n + one_if (is_spare (use_at u (x - 1))) + one_if (is_spare (use_at u (x + 1)) || in_pool u (x + 1)) ≡ free_run_count u (n + 1) + 1
  unfolding free_run_count
  free_step n x open' at =
      let some = pool_behind x open' in
      let p = begins_free u n in
      let q = begins_free u (n + 1) in
      let a = is_spare (use_at u (x - 1)) in
      let c = is_spare (use_at u (x + 1)) || in_pool u (x + 1) in
      let put : OneMore p q x a c = record {
        same = λ b other after.
            let now = free_other n x b open' at other in
            elim (cases_lt 0 b) [
              | inl pos ↦
                  let e : nat_lt 0 b ≡ true = lt-ltb 0 b pos in
                  let prior = free_other n x (b - 1) open' at (λ h. after (omega (arith, h, pos))) in
                  rw (e, now, prior) refl
              | inr none ↦
                  let e : nat_lt 0 b ≡ false = le-ltb 0 b none in
                  rw (e, now) refl
            ];
        without = rw (free_gone n x open' at) refl;
        here =
            let e : nat_lt 0 x ≡ true = lt-ltb 0 x some in
            rw (e, free_here n x open' at, free_before n x open' at some) refl;
        next =
            let e : nat_lt 0 (x + 1) ≡ true = lt-ltb 0 (x + 1) (omega arith) in
            let back : x + 1 - 1 ≡ x = omega arith in
            let was : is_free_at u n (x + 1) ≡ c = free_other n x (x + 1) open' at (λ h. omega (arith, h)) ∙ free_behind n x open' at in
            rw (e, back, was, free_here n x open' at, free_gone n x open' at, free_behind n x open' at) (handed_on c);
      } in
      put_one p q x a c put (length u) (pool_inside x open')
      (λ last.
      let far : use_at u (x + 1) ≡ Claimed = get_or_past u (x + 1) Claimed (omega (arith, last)) in
      ap (λ (w : Use). is_spare w || is_open w) far)
