-- What each call leaves of the links and of the lists for which they stand.
use Rattle.std.proofs.Common.{◌≡◌, ◌≢◌, ℕ, ◌+◌, ◌<◌, ◌==◌, ◌||◌, ◌&&◌, inl, inr, Bool, true, false, List, [], ◌∷◌, ◌++◌, cond, not, nat_lt, refl, sym, ◌∙◌, ap, subst, arith, Option, Some, None, IfSome}
use Rattle.std.proofs.lemmas.Bool.{cases_eq, cases_lt, eqb-true}
use Rattle.std.proofs.lemmas.Bool.Decides.{nat_tests}
use Rattle.std.proofs.lemmas.List.Folds.{list_any-append}
use Rattle.xfs_collections.specs.Lists.{has_node, without, AreOnce}
use Rattle.xfs_collections.specs.Links.{Path, walked, is_list, AreLinked}
use Rattle.xfs_collections.proofs.Paths.{path_turns, path_without, path_apart, path_longer, path_end, path_walked, has_without, once_without, few}

-- the list that is noted is the one
pub is_list_some : (l : ℕ) (o : Option ℕ) → is_list l o ≡ true → o ≡ Some l
is_list_some l None h = cc
is_list_some l (Some k) h = ap (λ (r : ℕ). Some r) (eqb-true k l h)

-- a node on a list is one, and its list is noted
pub on_list : (n m : ℕ) (a b : ℕ → ℕ) (o : ℕ → Option ℕ) (f : ℕ → List ℕ) → AreLinked n m a b o f
    → (l x : ℕ) → l < m → has_node x (f l) ≡ true → (x < n) × (o x ≡ Some l)
on_list n m a b o f k l x h t =
    let both : (nat_lt x n && is_list l (o x)) ≡ true = sym (k.on l x h) ∙ t in
    let low : x < n = grind (arith, nat_tests) in
    let here : is_list l (o x) ≡ true = grind (arith, nat_tests) in
    (low, is_list_some l (o x) here)

-- and a node with a noted list is on it
pub list_on : (n m : ℕ) (a b : ℕ → ℕ) (o : ℕ → Option ℕ) (f : ℕ → List ℕ) → AreLinked n m a b o f
    → (l x : ℕ) → x < n → o x ≡ Some l → (l < m) × (has_node x (f l) ≡ true)
list_on n m a b o f k l x h e =
    let low : l < m = subst (λ r. IfSome r (λ l. l < m)) e (k.low x h) in
    (low, k.on l x low ∙ subst (λ r. (nat_lt x n && is_list l r) ≡ true) (sym e) (grind (arith, nat_tests)))

-- the lists that are walked are those for which the links stand
pub walked_is : (n m : ℕ) (a b : ℕ → ℕ) (o : ℕ → Option ℕ) (f : ℕ → List ℕ) → AreLinked n m a b o f
    → (l : ℕ) → l < m → walked a n l ≡ f l
walked_is n m a b o f k l h =
    path_walked a b n n (n + l) (f l) (n + l) (k.circle l h) (omega arith) below (few n (f l) (k.once l h) below)
  where
    below : (y : ℕ) → has_node y (f l) ≡ true → y < n
    below y t = (on_list n m a b o f k l y h t).0

pub linked_walked : (n m : ℕ) (a b : ℕ → ℕ) (o : ℕ → Option ℕ) (f : ℕ → List ℕ) → AreLinked n m a b o f
    → AreLinked n m a b o (walked a n)
linked_walked n m a b o f k = record {
  circle = λ l h. subst (λ r. Path a b (n + l) r (n + l)) (sym (walked_is n m a b o f k l h)) (k.circle l h);
  once = λ l h. subst AreOnce (sym (walked_is n m a b o f k l h)) (k.once l h);
  on = λ l x h. ap (has_node x) (walked_is n m a b o f k l h) ∙ k.on l x h;
  low = k.low;
  ahead = k.ahead;
  back = k.back;
}

-- links that lead to themselves stand for empty lists
pub made : (n m : ℕ) (a b : ℕ → ℕ) (o : ℕ → Option ℕ) → ((k : ℕ) → k < n + m → (a k ≡ k) × (b k ≡ k) × (o k ≡ None))
    → AreLinked n m a b o (λ _. [])
made n m a b o h = record {
  circle = λ l low. ((h (n + l) (omega arith)).0, (h (n + l) (omega arith)).1);
  once = λ l low. tt;
  on = λ l x low. off l x;
  low = λ x low. subst (λ r. IfSome r (λ l. l < m)) (sym (h x (omega arith)).2) tt;
  ahead = λ x low. subst (λ r. r < n + m) (sym (h x low).0) low;
  back = λ x low. subst (λ r. r < n + m) (sym (h x low).1) low;
}
  where
    off : (l x : ℕ) → false ≡ (nat_lt x n && is_list l (o x))
    off l x = elim (cases_lt x n) [
      | inl low ↦ subst (λ r. false ≡ (nat_lt x n && is_list l r)) (sym (h x (omega arith)).2) (grind (arith, nat_tests))
      | inr up ↦ grind (arith, nat_tests)
    ]

-- a number chosen from two is as low as both
chosen : (t : Bool) (p q c : ℕ) → p < c → q < c → cond t p q < c
chosen true p q c h k = h
chosen false p q c h k = k

-- a node is taken off
pub unlinked : (n m : ℕ) (a b : ℕ → ℕ) (o : ℕ → Option ℕ) (f : ℕ → List ℕ) (a' b' : ℕ → ℕ) (o' : ℕ → Option ℕ) (x l : ℕ)
    → AreLinked n m a b o f → l < m → has_node x (f l) ≡ true
    → ((k : ℕ) → a' k ≡ cond (k == b x) (a x) (a k)) → ((k : ℕ) → b' k ≡ cond (k == a x) (b x) (b k))
    → ((k : ℕ) → o' k ≡ cond (k == x) None (o k)) → AreLinked n m a' b' o' (λ k. without x (f k))
unlinked n m a b o f a' b' o' x l k h t ea eb eo = record {
  circle = λ i low. path_without a b a' b' x (n + i) (f i) (n + i) ea eb turns.0 turns.1 (k.circle i low) (omega (arith, inside)) (omega (arith, inside)) (k.once i low);
  once = λ i low. once_without x (f i) (k.once i low);
  on = λ i y low. has_without x y (f i) ∙ ap (λ r. not (y == x) && r) (k.on i y low) ∙ noted i y;
  low = lower;
  ahead = λ y low. subst (λ r. r < n + m) (sym (ea y)) (chosen (y == b x) (a x) (a y) (n + m) (k.ahead x (omega (arith, inside))) (k.ahead y low));
  back = λ y low. subst (λ r. r < n + m) (sym (eb y)) (chosen (y == a x) (b x) (b y) (n + m) (k.back x (omega (arith, inside))) (k.back y low));
}
  where
    inside : x < n
    inside = (on_list n m a b o f k l x h t).0

    turns : (a (b x) ≡ x) × (b (a x) ≡ x)
    turns = path_turns a b (n + l) (f l) (n + l) x (k.circle l h) t

    noted : (i y : ℕ) → (not (y == x) && (nat_lt y n && is_list i (o y))) ≡ (nat_lt y n && is_list i (o' y))
    noted i y = subst (λ r. (not (y == x) && (nat_lt y n && is_list i (o y))) ≡ (nat_lt y n && is_list i r)) (sym (eo y)) (either (y == x) (nat_lt y n))
      where
        either : (s r : Bool) → (not s && (r && is_list i (o y))) ≡ (r && is_list i (cond s None (o y)))
        either true true = refl
        either true false = refl
        either false r = refl

    lower : (y : ℕ) → y < n → IfSome (o' y) (λ i. i < m)
    lower y low = subst (λ r. IfSome r (λ i. i < m)) (sym (eo y)) (either (y == x) (k.low y low))
      where
        either : (s : Bool) → IfSome (o y) (λ i. i < m) → IfSome (cond s None (o y)) (λ i. i < m)
        either true g = tt
        either false g = g

-- which nodes a list has with one more behind
pub has_last : (x y : ℕ) (xs : List ℕ) → has_node y (xs ++ x ∷ []) ≡ (has_node y xs || x == y)
has_last x y xs = list_any-append (λ z. z == y) xs (x ∷ []) ∙ same (has_node y xs) (x == y)
  where
    same : (p q : Bool) → (p || (q || false)) ≡ (p || q)
    same p q = grind (arith, nat_tests)

pub once_last : (x : ℕ) (xs : List ℕ) → AreOnce xs → has_node x xs ≡ false → AreOnce (xs ++ x ∷ [])
once_last x [] o h = (refl, tt)
once_last x (y ∷ ys) o h =
    let rest : has_node x ys ≡ false = grind (arith, nat_tests) in
    let off : (y == x) ≡ false = grind (arith, nat_tests) in
    (has_last x y ys ∙ neither o.0 off, once_last x ys o.1 rest)
  where
    neither : has_node y ys ≡ false → (y == x) ≡ false → (has_node y ys || x == y) ≡ false
    neither p q = grind (arith, nat_tests)

-- a node is put last on list l
pub pushed : (n m : ℕ) (a b : ℕ → ℕ) (o : ℕ → Option ℕ) (f : ℕ → List ℕ) (a' b' : ℕ → ℕ) (o' : ℕ → Option ℕ) (x l e : ℕ)
    → AreLinked n m a b o f → l < m → x < n → o x ≡ None → e ≡ n + l
    → ((k : ℕ) → a' k ≡ cond (k == x) e (cond (k == b e) x (a k))) → ((k : ℕ) → b' k ≡ cond (k == e) x (cond (k == x) (b e) (b k)))
    → ((k : ℕ) → o' k ≡ cond (k == x) (Some l) (o k)) → AreLinked n m a' b' o' (λ k. cond (k == l) (f k ++ x ∷ []) (f k))
pushed n m a b o f a' b' o' x l e k h inside free at ea eb eo = record {
  circle = circles;
  once = onces;
  on = ons;
  low = lower;
  ahead = λ y low. subst (λ r. r < n + m) (sym (ea y)) (chosen (y == x) e (cond (y == b e) x (a y)) (n + m) (omega arith) (chosen (y == b e) x (a y) (n + m) (omega arith) (k.ahead y low)));
  back = λ y low. subst (λ r. r < n + m) (sym (eb y)) (chosen (y == e) x (cond (y == x) (b e) (b y)) (n + m) (omega arith) (chosen (y == x) (b e) (b y) (n + m) (k.back e (omega arith)) (k.back y low)));
}
  where
    absent : (i : ℕ) → i < m → has_node x (f i) ≡ false
    absent i low = k.on i x low ∙ subst (λ r. (nat_lt x n && is_list i r) ≡ false) (sym free) (grind (arith, nat_tests))

    no_end : (i : ℕ) → i < m → has_node e (f i) ≡ false
    no_end i low = let out : nat_lt e n ≡ false = grind (arith, nat_tests) in k.on i e low ∙ ap (λ r. r && is_list i (o e)) out

    ended : a (b e) ≡ e
    ended = subst (λ r. a (b r) ≡ r) (sym at) (path_end a b (n + l) (f l) (n + l) (k.circle l h))

    circles : (i : ℕ) → i < m → Path a' b' (n + i) (cond (i == l) (f i ++ x ∷ []) (f i)) (n + i)
    circles i low = elim (cases_eq i l) [
      | inl s ↦
          let on : (i == l) ≡ true = grind (arith, nat_tests) in
          let same : n + i ≡ e = omega arith in
          subst (λ r. Path a' b' (n + i) (cond r (f i ++ x ∷ []) (f i)) (n + i)) (sym on)
          (subst (λ r. Path a' b' (n + i) (f i ++ x ∷ []) r) (sym same)
          (path_longer a b a' b' x e (n + i) (f i) ea eb ended (omega arith) (subst (λ r. Path a b (n + i) (f i) r) same (k.circle i low)) (omega arith) (absent i low) (no_end i low)))
      | inr d ↦
          let off : (i == l) ≡ false = grind (arith, nat_tests) in
          subst (λ r. Path a' b' (n + i) (cond r (f i ++ x ∷ []) (f i)) (n + i)) (sym off)
          (path_apart a b a' b' x e (n + i) (f i) (n + i) ea eb ended (k.circle i low) (omega arith) (omega arith) (omega arith) (absent i low) (no_end i low))
    ]

    onces : (i : ℕ) → i < m → AreOnce (cond (i == l) (f i ++ x ∷ []) (f i))
    onces i low = either (i == l)
      where
        either : (t : Bool) → AreOnce (cond t (f i ++ x ∷ []) (f i))
        either true = once_last x (f i) (k.once i low) (absent i low)
        either false = k.once i low

    ons : (i y : ℕ) → i < m → has_node y (cond (i == l) (f i ++ x ∷ []) (f i)) ≡ (nat_lt y n && is_list i (o' y))
    ons i y low = subst (λ r. has_node y (cond (i == l) (f i ++ x ∷ []) (f i)) ≡ (nat_lt y n && is_list i r)) (sym (eo y)) (elim (cases_eq y x) [
      | inl s ↦
          let on : (y == x) ≡ true = grind (arith, nat_tests) in
          let lower : nat_lt y n ≡ true = grind (arith, nat_tests) in
          let out : has_node y (f i) ≡ false = subst (λ r. has_node r (f i) ≡ false) (sym s) (absent i low) in
          subst (λ r. has_node y (cond (i == l) (f i ++ x ∷ []) (f i)) ≡ (nat_lt y n && is_list i (cond r (Some l) (o y)))) (sym on)
          (subst (λ r. has_node y (cond (i == l) (f i ++ x ∷ []) (f i)) ≡ (r && (l == i))) (sym lower) (here (i == l) out s refl))
      | inr d ↦
          let off : (y == x) ≡ false = grind (arith, nat_tests) in
          subst (λ r. has_node y (cond (i == l) (f i ++ x ∷ []) (f i)) ≡ (nat_lt y n && is_list i (cond r (Some l) (o y)))) (sym off)
          (there (i == l) d)
    ])
      where
        here : (t : Bool) → has_node y (f i) ≡ false → y ≡ x → (i == l) ≡ t → has_node y (cond t (f i ++ x ∷ []) (f i)) ≡ (l == i)
        here true out s g = has_last x y (f i) ∙ ap (λ r. r || x == y) out ∙ grind (arith, nat_tests)
        here false out s g = out ∙ grind (arith, nat_tests)

        there : (t : Bool) → y ≢ x → has_node y (cond t (f i ++ x ∷ []) (f i)) ≡ (nat_lt y n && is_list i (o y))
        there true d = let off : (x == y) ≡ false = grind (arith, nat_tests) in has_last x y (f i) ∙ ap (λ r. has_node y (f i) || r) off ∙ plain (has_node y (f i)) ∙ k.on i y low
          where
            plain : (p : Bool) → (p || false) ≡ p
            plain p = grind (arith, nat_tests)
        there false d = k.on i y low

    lower : (y : ℕ) → y < n → IfSome (o' y) (λ i. i < m)
    lower y low = subst (λ r. IfSome r (λ i. i < m)) (sym (eo y)) (either (y == x) (k.low y low))
      where
        either : (s : Bool) → IfSome (o y) (λ i. i < m) → IfSome (cond s (Some l) (o y)) (λ i. i < m)
        either true g = h
        either false g = g
