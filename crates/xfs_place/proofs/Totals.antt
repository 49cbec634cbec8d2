-- Sums of a number for each number below a bound, and counts of those that pass.
use Rattle.std.proofs.Common.{◌≡◌, ◌≢◌, ℕ, zero, suc, ◌+◌, ◌-◌, ◌≤◌, ◌<◌, inl, inr, min, Bool, true, false, not, refl, sym, ◌∙◌, ap, ap₂, subst, arith}
use Rattle.std.proofs.lemmas.Bool.{cases_lt, cases_eq}
use Rattle.xfs_place.specs.Choice.{total, one_if, how_many}

pub total_none : (f : ℕ → ℕ) → total f 0 ≡ 0
unfolding total
total_none f = refl

pub total_more : (f : ℕ → ℕ) (n : ℕ) → total f (n + 1) ≡ total f n + f n
unfolding total
total_more f n = let e : n + 1 ≡ suc n = omega arith in rw e refl

pub total_same : (f g : ℕ → ℕ) (n : ℕ) → ((b : ℕ) → b < n → f b ≡ g b) → total f n ≡ total g n
unfolding total
total_same f g zero same = refl
total_same f g (suc n) same = ap₂ ◌+◌ (total_same f g n (λ b h. same b (omega (arith, h)))) (same n (omega arith))

pub total_up : (f : ℕ → ℕ) (b k : ℕ) → total f b ≤ total f (b + k)
total_up f b zero = let e : b + 0 ≡ b = omega arith in subst (λ (n : ℕ). total f b ≤ total f n) (sym e) (omega arith)
total_up f b (suc k) =
    let e : b + suc k ≡ (b + k) + 1 = omega arith in
    subst (λ (n : ℕ). total f b ≤ total f n) (sym e) (omega (arith, total_up f b k, total_more f (b + k)))

pub rank_up : (f : ℕ → ℕ) (b c : ℕ) → b ≤ c → total f b ≤ total f c
rank_up f b c low = let e : c ≡ b + (c - b) = omega (arith, low) in subst (λ (n : ℕ). total f b ≤ total f n) (sym e) (total_up f b (c - b))

-- among numbers that pass, those with as many before them are one
pub one_rank : (p : ℕ → Bool) (b c : ℕ) → p b ≡ true → p c ≡ true → how_many p b ≡ how_many p c → b ≡ c
one_rank p b c pb pc same = elim (cases_lt b c) [
  | inl low ↦
      let f : ℕ → ℕ = λ n. one_if (p n) in
      let here : f b ≡ 1 = rw pb refl in
      absurd (omega (arith, same, total_more f b, here, rank_up f (b + 1) c (omega (arith, low))))
  | inr high ↦ elim (cases_lt c b) [
    | inl lower ↦
        let f : ℕ → ℕ = λ n. one_if (p n) in
        let here : f c ≡ 1 = rw pc refl in
        absurd (omega (arith, same, total_more f c, here, rank_up f (c + 1) b (omega (arith, lower))))
    | inr equal ↦ omega (arith, high, equal)
  ]
]

sides : (a : Bool) → one_if (not a) + one_if a ≡ 1
sides true = refl
sides false = refl

-- One block x is put into a row: it passes with it (p) unless it joins the one before (a), and without it (q) it does not; the one
-- behind it does not begin any more where it joins (c). All others are as they were.
pub record OneMore (p q : ℕ → Bool) (x : ℕ) (a c : Bool) : Type 0 where
  pub same : (b : ℕ) → b ≢ x → b ≢ x + 1 → p b ≡ q b
  pub without : q x ≡ false
  pub here : p x ≡ not a
  pub next : one_if (p (x + 1)) + one_if c ≡ one_if (q (x + 1))

module _ (p q : ℕ → Bool) (x : ℕ) (a c : Bool) (put : OneMore p q x a c) where
  put_before : how_many p x ≡ how_many q x
  put_before = total_same (λ b. one_if (p b)) (λ b. one_if (q b)) x (λ b h. ap one_if (put.same b (λ e. omega (arith, h, e)) (λ e. omega (arith, h, e))))

  put_at : how_many p (x + 1) + one_if a ≡ how_many q (x + 1) + 1
  put_at =
      let now : one_if (p x) + one_if a ≡ 1 = ap (λ (t : Bool). one_if t + one_if a) put.here ∙ sides a in
      let none : one_if (q x) ≡ 0 = ap one_if put.without in
      omega (arith, put_before, now, none, total_more (λ b. one_if (p b)) x, total_more (λ b. one_if (q b)) x)

  put_behind : (k : ℕ) → how_many p (x + 2 + k) + one_if a + one_if c ≡ how_many q (x + 2 + k) + 1
  put_behind zero =
      let e : x + 2 + 0 ≡ (x + 1) + 1 = omega arith in
      subst (λ (m : ℕ). how_many p m + one_if a + one_if c ≡ how_many q m + 1) (sym e)
      (omega (arith, put_at, put.next, total_more (λ b. one_if (p b)) (x + 1), total_more (λ b. one_if (q b)) (x + 1)))
  put_behind (suc k) =
      let e : x + 2 + suc k ≡ (x + 2 + k) + 1 = omega arith in
      let same : one_if (p (x + 2 + k)) ≡ one_if (q (x + 2 + k)) = ap one_if (put.same (x + 2 + k) (λ h. omega (arith, h)) (λ h. omega (arith, h))) in
      subst (λ (m : ℕ). how_many p m + one_if a + one_if c ≡ how_many q m + 1) (sym e)
      (omega (arith, put_behind k, same, total_more (λ b. one_if (p b)) (x + 2 + k), total_more (λ b. one_if (q b)) (x + 2 + k)))

  pub put_one : (n : ℕ) → x < n → (n ≡ x + 1 → c ≡ false) → how_many p n + one_if a + one_if c ≡ how_many q n + 1
  put_one n in' end = elim (cases_eq n (x + 1)) [
    | inl last ↦
        let none : one_if c ≡ 0 = ap one_if (end last) in
        let done : how_many p n + one_if a ≡ how_many q n + 1 = subst (λ (m : ℕ). how_many p m + one_if a ≡ how_many q m + 1) (sym last) put_at in
        omega (arith, done, none)
    | inr more ↦
        let e : n ≡ x + 2 + (n - (x + 2)) = omega (arith, more, in') in
        subst (λ (m : ℕ). how_many p m + one_if a + one_if c ≡ how_many q m + 1) (sym e) (put_behind (n - (x + 2)))
  ]

-- the sum of numbers of two kinds, of which the second stands from f to g
module _ (mix one two : ℕ → ℕ) (f g : ℕ) (fg : f ≤ g) (inside : (k : ℕ) → f ≤ k → k < g → mix k ≡ two k) (before : (k : ℕ) → k < f → mix k ≡ one k)
    (behind : (k : ℕ) → g ≤ k → mix k ≡ one k) where
  pub total_mixed : (n a b : ℕ) → a ≡ min f n → b ≡ min g n → total mix n + total two a + total one b ≡ total one a + total two b + total one n
  total_mixed zero a b ha hb =
      let za : a ≡ 0 = omega (arith, ha) in
      let zb : b ≡ 0 = omega (arith, hb) in
      rw (za, zb) (omega (arith, total_none mix, total_none one, total_none two))
  total_mixed (suc n) a b ha hb =
      let so = total_mixed n (min f n) (min g n) refl refl in
      let e : suc n ≡ n + 1 = omega arith in
      let whole : total mix (n + 1) + total two a + total one b ≡ total one a + total two b + total one (n + 1) =
      elim (cases_lt n f) [
        | inl low ↦
            let ea : a ≡ n + 1 = omega (arith, ha, low) in
            let eb : b ≡ n + 1 = omega (arith, hb, low, fg) in
            let oa : min f n ≡ n = omega (arith, low) in
            let ob : min g n ≡ n = omega (arith, low, fg) in
            let old : total mix n + total two n + total one n ≡ total one n + total two n + total one n = subst (λ (m : ℕ). total mix n + total two m + total one n ≡ total one m + total two n + total one n) oa (subst (λ (m : ℕ). total mix n + total two (min f n) + total one m ≡ total one (min f n) + total two m + total one n) ob so) in
            rw (ea, eb) (omega (arith, old, before n low, total_more mix n, total_more one n, total_more two n))
        | inr high ↦ elim (cases_lt n g) [
          | inl mid ↦
              let ea : a ≡ f = omega (arith, ha, high) in
              let eb : b ≡ n + 1 = omega (arith, hb, mid) in
              let oa : min f n ≡ f = omega (arith, high) in
              let ob : min g n ≡ n = omega (arith, mid) in
              let old : total mix n + total two f + total one n ≡ total one f + total two n + total one n = subst (λ (m : ℕ). total mix n + total two m + total one n ≡ total one m + total two n + total one n) oa (subst (λ (m : ℕ). total mix n + total two (min f n) + total one m ≡ total one (min f n) + total two m + total one n) ob so) in
              rw (ea, eb) (omega (arith, old, inside n high mid, total_more mix n, total_more one n, total_more two n))
          | inr far ↦
              let ea : a ≡ f = omega (arith, ha, high) in
              let eb : b ≡ g = omega (arith, hb, far) in
              let oa : min f n ≡ f = omega (arith, high) in
              let ob : min g n ≡ g = omega (arith, far) in
              let old : total mix n + total two f + total one g ≡ total one f + total two g + total one n = subst (λ (m : ℕ). total mix n + total two m + total one g ≡ total one m + total two g + total one n) oa (subst (λ (m : ℕ). total mix n + total two (min f n) + total one m ≡ total one (min f n) + total two m + total one n) ob so) in
              rw (ea, eb) (omega (arith, old, behind n far, total_more mix n, total_more one n))
        ]
      ] in
      subst (λ (m : ℕ). total mix m + total two a + total one b ≡ total one a + total two b + total one m) (sym e) whole
