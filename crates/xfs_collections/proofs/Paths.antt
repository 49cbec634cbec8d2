-- Paths of links, and what a tie leaves of them.
use Rattle.std.proofs.Common.{◌≡◌, ◌≢◌, ℕ, ◌+◌, ◌<◌, ◌≤◌, ◌==◌, ◌||◌, ◌&&◌, inl, inr, Bool, true, false, List, [], ◌∷◌, ◌++◌, length, zero, suc, cond, not, nat_lt, refl, sym, ◌∙◌, ap, subst, arith}
use Rattle.std.proofs.lemmas.Bool.{cases_eq, eqb-false}
use Rattle.std.proofs.lemmas.Bool.Decides.{nat_tests}
use Rattle.xfs_collections.specs.Lists.{has_node, without, AreOnce}
use Rattle.xfs_collections.specs.Links.{Path, nodes_along}

-- the first of a path leads back
pub path_first : (a b : ℕ → ℕ) (u : ℕ) (xs : List ℕ) (v : ℕ) → Path a b u xs v → b (a u) ≡ u
path_first a b u [] v p = ap b p.0 ∙ p.1
path_first a b u (x ∷ xs) v p = ap b p.0 ∙ p.1

-- at a node of a path, back and on again leads to the node
pub path_turns : (a b : ℕ → ℕ) (u : ℕ) (xs : List ℕ) (v x : ℕ) → Path a b u xs v → has_node x xs ≡ true → (a (b x) ≡ x) × (b (a x) ≡ x)
path_turns a b u [] v x p h = cc
path_turns a b u (y ∷ ys) v x p h = elim (cases_eq y x) [
  | inl e ↦ (ap a (ap b (sym e) ∙ p.1) ∙ p.0 ∙ e, ap (λ k. b (a k)) (sym e) ∙ path_first a b y ys v p.2 ∙ e)
  | inr n ↦ path_turns a b y ys v x p.2 (grind (arith, nat_tests))
]

-- one link that the taking off of x leaves
pub pair_beside : (a b a' b' : ℕ → ℕ) (x s t : ℕ)
    → a' s ≡ cond (s == b x) (a x) (a s) → b' t ≡ cond (t == a x) (b x) (b t)
    → a (b x) ≡ x → b (a x) ≡ x → a s ≡ t → b t ≡ s → s ≢ x → t ≢ x → (a' s ≡ t) × (b' t ≡ s)
pair_beside a b a' b' x s t ea eb h k p q n m = (front, back)
  where
    front : a' s ≡ t
    front = elim (cases_eq s (b x)) [ inl e ↦ absurd (m (sym p ∙ ap a e ∙ h)) | inr d ↦ let off : (s == b x) ≡ false = grind (arith, nat_tests) in ea ∙ ap (λ r. cond r (a x) (a s)) off ∙ p ]

    back : b' t ≡ s
    back = elim (cases_eq t (a x)) [ inl e ↦ absurd (n (sym q ∙ ap b e ∙ k)) | inr d ↦ let off : (t == a x) ≡ false = grind (arith, nat_tests) in eb ∙ ap (λ r. cond r (b x) (b t)) off ∙ q ]

-- a path that x is not on stays
pub path_beside : (a b a' b' : ℕ → ℕ) (x u : ℕ) (xs : List ℕ) (v : ℕ)
    → ((k : ℕ) → a' k ≡ cond (k == b x) (a x) (a k)) → ((k : ℕ) → b' k ≡ cond (k == a x) (b x) (b k))
    → a (b x) ≡ x → b (a x) ≡ x → Path a b u xs v → u ≢ x → v ≢ x → has_node x xs ≡ false → Path a' b' u xs v
path_beside a b a' b' x u [] v ea eb h k p n m o = pair_beside a b a' b' x u v (ea u) (eb v) h k p.0 p.1 n m
path_beside a b a' b' x u (y ∷ ys) v ea eb h k p n m o =
    let off : (y == x) ≡ false = grind (arith, nat_tests) in
    let rest : has_node x ys ≡ false = grind (arith, nat_tests) in
    let pair : (a' u ≡ y) × (b' y ≡ u) = pair_beside a b a' b' x u y (ea u) (eb y) h k p.0 p.1 n (eqb-false y x off) in
    (pair.0, pair.1, path_beside a b a' b' x y ys v ea eb h k p.2 (eqb-false y x off) m rest)

-- a list that x is not in is the list without x
pub without_absent : (x : ℕ) (xs : List ℕ) → has_node x xs ≡ false → without x xs ≡ xs
without_absent x [] h = refl
without_absent x (y ∷ ys) h =
    let off : (y == x) ≡ false = grind (arith, nat_tests) in
    let rest : has_node x ys ≡ false = grind (arith, nat_tests) in
    ap (λ r. cond (not r) (y ∷ without x ys) (without x ys)) off ∙ ap (λ r. y ∷ r) (without_absent x ys rest)

-- what a tie gives at its own place
pub tied : (k p s old v : ℕ) → v ≡ cond (k == p) s old → k ≡ p → v ≡ s
tied k p s old v e h = grind (arith, nat_tests)

-- and elsewhere
pub untied : (k p s old v : ℕ) → v ≡ cond (k == p) s old → k ≢ p → v ≡ old
untied k p s old v e h = grind (arith, nat_tests)

-- a path from x on, once x has been taken off, begins where x's did
pub path_closed : (a b a' b' : ℕ → ℕ) (x u : ℕ) (xs : List ℕ) (v : ℕ)
    → ((k : ℕ) → a' k ≡ cond (k == b x) (a x) (a k)) → ((k : ℕ) → b' k ≡ cond (k == a x) (b x) (b k))
    → a (b x) ≡ x → b (a x) ≡ x → b x ≡ u → Path a b x xs v → v ≢ x → has_node x xs ≡ false → Path a' b' u xs v
path_closed a b a' b' x u [] v ea eb h k q p m o =
    (tied u (b x) (a x) (a u) (a' u) (ea u) (sym q) ∙ p.0, tied v (a x) (b x) (b v) (b' v) (eb v) (sym p.0) ∙ q)
path_closed a b a' b' x u (z ∷ zs) v ea eb h k q p m o =
    let off : (z == x) ≡ false = grind (arith, nat_tests) in
    let rest : has_node x zs ≡ false = grind (arith, nat_tests) in (
      tied u (b x) (a x) (a u) (a' u) (ea u) (sym q) ∙ p.0,
      tied z (a x) (b x) (b z) (b' z) (eb z) (sym p.0) ∙ q,
      path_beside a b a' b' x z zs v ea eb h k p.2 (eqb-false z x off) m rest,
    )

-- the path from u on, once x has been taken off it
pub path_without : (a b a' b' : ℕ → ℕ) (x u : ℕ) (xs : List ℕ) (v : ℕ)
    → ((k : ℕ) → a' k ≡ cond (k == b x) (a x) (a k)) → ((k : ℕ) → b' k ≡ cond (k == a x) (b x) (b k))
    → a (b x) ≡ x → b (a x) ≡ x → Path a b u xs v → u ≢ x → v ≢ x → AreOnce xs → Path a' b' u (without x xs) v
path_without a b a' b' x u [] v ea eb h k p n m o = pair_beside a b a' b' x u v (ea u) (eb v) h k p.0 p.1 n m
path_without a b a' b' x u (y ∷ ys) v ea eb h k p n m o = elim (cases_eq y x) [
  | inl e ↦
      let on : (y == x) ≡ true = grind (arith, nat_tests) in
      let gone : has_node x ys ≡ false = subst (λ r. has_node r ys ≡ false) e o.0 in
      subst (λ r. Path a' b' u (cond (not r) (y ∷ without x ys) (without x ys)) v) (sym on)
      (subst (λ r. Path a' b' u r v) (sym (without_absent x ys gone))
      (path_closed a b a' b' x u ys v ea eb h k (ap b (sym e) ∙ p.1) (subst (λ r. Path a b r ys v) e p.2) m gone))
  | inr d ↦
      let off : (y == x) ≡ false = grind (arith, nat_tests) in
      let pair : (a' u ≡ y) × (b' y ≡ u) = pair_beside a b a' b' x u y (ea u) (eb y) h k p.0 p.1 n d in
      subst (λ r. Path a' b' u (cond (not r) (y ∷ without x ys) (without x ys)) v) (sym off)
      (pair.0, pair.1, path_without a b a' b' x y ys v ea eb h k p.2 d m o.1)
]

-- a path elsewhere stays where x is put in front of e
pub path_apart : (a b a' b' : ℕ → ℕ) (x e u : ℕ) (xs : List ℕ) (v : ℕ)
    → ((k : ℕ) → a' k ≡ cond (k == x) e (cond (k == b e) x (a k))) → ((k : ℕ) → b' k ≡ cond (k == e) x (cond (k == x) (b e) (b k)))
    → a (b e) ≡ e → Path a b u xs v → u ≢ x → v ≢ x → v ≢ e → has_node x xs ≡ false → has_node e xs ≡ false → Path a' b' u xs v
path_apart a b a' b' x e u [] v ea eb h p n m l o q =
    let other : u ≢ b e = λ r. l (sym p.0 ∙ ap a r ∙ h) in (
      untied u (b e) x (a u) (a' u) (untied u x e _ (a' u) (ea u) n) other ∙ p.0,
      untied v x (b e) (b v) (b' v) (untied v e x _ (b' v) (eb v) l) m ∙ p.1,
    )
path_apart a b a' b' x e u (y ∷ ys) v ea eb h p n m l o q =
    let off : y ≢ x = eqb-false y x (grind (arith, nat_tests)) in
    let out : y ≢ e = eqb-false y e (grind (arith, nat_tests)) in
    let rest : has_node x ys ≡ false = grind (arith, nat_tests) in
    let more : has_node e ys ≡ false = grind (arith, nat_tests) in
    let other : u ≢ b e = λ r. out (sym p.0 ∙ ap a r ∙ h) in (
      untied u (b e) x (a u) (a' u) (untied u x e _ (a' u) (ea u) n) other ∙ p.0,
      untied y x (b e) (b y) (b' y) (untied y e x _ (b' y) (eb y) out) off ∙ p.1,
      path_apart a b a' b' x e y ys v ea eb h p.2 off m l rest more,
    )

-- the last of a path is what its end leads back to
pub path_end : (a b : ℕ → ℕ) (u : ℕ) (xs : List ℕ) (v : ℕ) → Path a b u xs v → a (b v) ≡ v
path_end a b u [] v p = ap a p.1 ∙ p.0
path_end a b u (x ∷ xs) v p = path_end a b x xs v p.2

-- the path to e, once x has been put in front of e
pub path_longer : (a b a' b' : ℕ → ℕ) (x e u : ℕ) (xs : List ℕ)
    → ((k : ℕ) → a' k ≡ cond (k == x) e (cond (k == b e) x (a k))) → ((k : ℕ) → b' k ≡ cond (k == e) x (cond (k == x) (b e) (b k)))
    → a (b e) ≡ e → e ≢ x → Path a b u xs e → u ≢ x → has_node x xs ≡ false → has_node e xs ≡ false → Path a' b' u (xs ++ x ∷ []) e
path_longer a b a' b' x e u [] ea eb h d p n o q = (
  tied u (b e) x (a u) (a' u) (untied u x e _ (a' u) (ea u) n) (sym p.1),
  tied x x (b e) (b x) (b' x) (untied x e x _ (b' x) (eb x) (λ r. d (sym r))) refl ∙ p.1,
  (tied x x e _ (a' x) (ea x) refl, tied e e x _ (b' e) (eb e) refl),
)
path_longer a b a' b' x e u (y ∷ ys) ea eb h d p n o q =
    let off : y ≢ x = eqb-false y x (grind (arith, nat_tests)) in
    let out : y ≢ e = eqb-false y e (grind (arith, nat_tests)) in
    let rest : has_node x ys ≡ false = grind (arith, nat_tests) in
    let more : has_node e ys ≡ false = grind (arith, nat_tests) in
    let other : u ≢ b e = λ r. out (sym p.0 ∙ ap a r ∙ h) in (
      untied u (b e) x (a u) (a' u) (untied u x e _ (a' u) (ea u) n) other ∙ p.0,
      untied y x (b e) (b y) (b' y) (untied y e x _ (b' y) (eb y) out) off ∙ p.1,
      path_longer a b a' b' x e y ys ea eb h d p.2 off rest more,
    )

-- a list without x has one node less at most, where each stands once
pub length_without : (x : ℕ) (xs : List ℕ) → AreOnce xs → length xs ≤ length (without x xs) + 1
length_without x [] o = omega arith
length_without x (y ∷ ys) o = elim (cases_eq y x) [
  | inl e ↦
      let on : (y == x) ≡ true = grind (arith, nat_tests) in
      let gone : has_node x ys ≡ false = subst (λ r. has_node r ys ≡ false) e o.0 in
      subst (λ r. suc (length ys) ≤ length (cond (not r) (y ∷ without x ys) (without x ys)) + 1) (sym on)
      (subst (λ r. suc (length ys) ≤ length r + 1) (sym (without_absent x ys gone)) (omega arith))
  | inr d ↦
      let off : (y == x) ≡ false = grind (arith, nat_tests) in
      subst (λ r. suc (length ys) ≤ length (cond (not r) (y ∷ without x ys) (without x ys)) + 1) (sym off)
      (omega (arith, length_without x ys o.1))
]

-- which nodes are left without x
pub has_without : (x y : ℕ) (xs : List ℕ) → has_node y (without x xs) ≡ (not (y == x) && has_node y xs)
has_without x y [] = grind (arith, nat_tests)
has_without x y (z ∷ zs) = either (z == x) refl (has_without x y zs)
  where
    either : (t : Bool) → (z == x) ≡ t → has_node y (without x zs) ≡ (not (y == x) && has_node y zs)
        → has_node y (cond (not t) (z ∷ without x zs) (without x zs)) ≡ (not (y == x) && ((z == y) || has_node y zs))
    either true e h = grind (arith, nat_tests)
    either false e h = grind (arith, nat_tests)

pub once_without : (x : ℕ) (xs : List ℕ) → AreOnce xs → AreOnce (without x xs)
once_without x [] o = tt
once_without x (y ∷ ys) o = either (y == x) (once_without x ys o.1)
  where
    gone : (p q : Bool) → q ≡ false → (p && q) ≡ false
    gone p q h = grind (arith, nat_tests)

    either : (t : Bool) → AreOnce (without x ys) → AreOnce (cond (not t) (y ∷ without x ys) (without x ys))
    either true h = h
    either false h = (has_without x y ys ∙ gone (not (y == x)) (has_node y ys) o.0, h)

-- the nodes of a list, where each stands once and is below n, are n at most
pub few : (n : ℕ) (xs : List ℕ) → AreOnce xs → ((y : ℕ) → has_node y xs ≡ true → y < n) → length xs ≤ n
few zero [] o h = omega arith
few zero (x ∷ xs) o h = absurd (omega (arith, h x (grind (arith, nat_tests))))
few (suc n) xs o h = omega (arith, length_without n xs o, few n (without n xs) (once_without n xs o) below)
  where
    below : (y : ℕ) → has_node y (without n xs) ≡ true → y < n
    below y e =
        let both : (not (y == n) && has_node y xs) ≡ true = sym (has_without n y xs) ∙ e in
        let there : has_node y xs ≡ true = grind (arith, nat_tests) in
        let other : (y == n) ≡ false = grind (arith, nat_tests) in
        omega (arith, h y there, eqb-false y n other)

-- walking from a path's start gives its nodes
pub path_walked : (a b : ℕ → ℕ) (n steps u : ℕ) (xs : List ℕ) (v : ℕ) → Path a b u xs v → n ≤ v
    → ((y : ℕ) → has_node y xs ≡ true → y < n) → length xs ≤ steps → nodes_along a n steps (a u) ≡ xs
path_walked a b n zero u [] v p e h l = refl
path_walked a b n zero u (x ∷ xs) v p e h l = absurd (omega arith)
path_walked a b n (suc steps) u [] v p e h l =
    let out : nat_lt (a u) n ≡ false = grind (arith, nat_tests, p.0) in
    ap (λ r. cond r (a u ∷ nodes_along a n steps (a (a u))) []) out
path_walked a b n (suc steps) u (x ∷ xs) v p e h l =
    let here : x < n = h x (grind (arith, nat_tests)) in
    let inside : nat_lt (a u) n ≡ true = grind (arith, nat_tests, p.0, here) in
    ap (λ r. cond r (a u ∷ nodes_along a n steps (a (a u))) []) inside
    ∙ subst (λ r. (r ∷ nodes_along a n steps (a r)) ≡ x ∷ xs) (sym p.0)
    (ap (λ r. x ∷ r) (path_walked a b n steps x xs v p.2 e (λ y m. h y (either x y m)) (omega arith)))
  where
    either : (z y : ℕ) → has_node y xs ≡ true → ((z == y) || has_node y xs) ≡ true
    either z y m = grind (arith, nat_tests)
