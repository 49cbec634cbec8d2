-- The lists that callers see, and what is read of them.
use Rattle.std.proofs.Common.{◌≡◌, ℕ, ◌+◌, ◌<◌, ◌≤◌, ◌==◌, ◌||◌, ◌&&◌, inl, inr, Bool, true, false, List, [], ◌∷◌, ◌++◌, map, length, drop, reverse, replicate, zero, suc, cond, not, nat_lt, refl, sym, ◌∙◌, ap, subst, arith, Option, Some, None, MatchOption, is_some, slice_get, slice_index_or, slice_set}
use Rattle.std.specs.List.{range_with_len}
use mathlib.Core.List.{reverse-cons}
use Rattle.std.proofs.lemmas.Bool.{cases_eq, cases_Bool, eqb-true}
use Rattle.std.proofs.lemmas.Bool.Decides.{nat_tests}
use Rattle.std.proofs.lemmas.List.{get_or-set_other, get_or-set_same, ext_get_or, get_or_default}
use Rattle.std.proofs.Math.ListN.{length-set, length-map, get_or-map}
use Rattle.std.proofs.lemmas.List.FromFn.{get_or-map-range_with_len, length-map-range_with_len, fill_by_all}
use Rattle.std.proofs.lemmas.List.Folds.{list_any-append}
use Rattle.xfs_collections.specs.declared.links.NodeLink.{NodeLink}
use Rattle.xfs_collections.specs.Lists.{Woven, has_node, without, next_behind, list_at, IsOn, IsFree, AreOnce, ListsApart, put_last, with_list, taken_off}
use Rattle.xfs_collections.specs.Links.{Path, nodes_along, walked, AreLinked, AreWoven, woven_of, after_of, before_of, list_of, no_link}
use Rattle.xfs_collections.proofs.Paths.{without_absent, has_without}
use Rattle.xfs_collections.proofs.LinkSteps.{on_list, list_on, walked_is, linked_walked, made, unlinked, pushed}

-- list l of the lists that f gives
pub list_is : (f : ℕ → List ℕ) (m l : ℕ) → l < m → slice_index_or (map f (range_with_len 0 m)) l [] ≡ f l
list_is f m l h = get_or-map-range_with_len f 0 m l l [] h (omega arith)

pub lists_count : (f : ℕ → List ℕ) (m : ℕ) → length (map f (range_with_len 0 m)) ≡ m
lists_count f m = length-map-range_with_len f 0 m

pub lists_same : (f g : ℕ → List ℕ) (m : ℕ) → ((l : ℕ) → l < m → f l ≡ g l) → map f (range_with_len 0 m) ≡ map g (range_with_len 0 m)
lists_same f g m h = fill_by_all g (map f (range_with_len 0 m)) m [] (lists_count f m) (λ k low. list_is f m k low ∙ h k low)

pub lists_set : (f : ℕ → List ℕ) (m l : ℕ) (xs : List ℕ) → l < m
    → map (λ k. cond (k == l) xs (f k)) (range_with_len 0 m) ≡ slice_set (map f (range_with_len 0 m)) l xs
lists_set f m l xs h = sym (fill_by_all (λ k. cond (k == l) xs (f k)) (slice_set (map f (range_with_len 0 m)) l xs) m [] (length-set _ _ _ ∙ lists_count f m) each)
  where
    each : (k : ℕ) → k < m → slice_index_or (slice_set (map f (range_with_len 0 m)) l xs) k [] ≡ cond (k == l) xs (f k)
    each k low = elim (cases_eq k l) [
      | inl s ↦
          let on : (k == l) ≡ true = grind (arith, nat_tests) in
          ap (λ r. slice_index_or (slice_set (map f (range_with_len 0 m)) l xs) r []) s
          ∙ get_or-set_same (map f (range_with_len 0 m)) l xs [] (subst (λ r. l < r) (sym (lists_count f m)) h)
          ∙ sym (ap (λ r. cond r xs (f k)) on)
      | inr d ↦
          let off : (k == l) ≡ false = grind (arith, nat_tests) in
          get_or-set_other (map f (range_with_len 0 m)) l k xs [] d ∙ list_is f m k low ∙ sym (ap (λ r. cond r xs (f k)) off)
    ]

pub lists_mapped : (g : List ℕ → List ℕ) (f : ℕ → List ℕ) (ks : List ℕ) → map (λ k. g (f k)) ks ≡ map g (map f ks)
lists_mapped g f [] = refl
lists_mapped g f (k ∷ ks) = ap (λ r. g (f k) ∷ r) (lists_mapped g f ks)

-- a node on a list that is seen
pub seen_on : (n m : ℕ) (links : List NodeLink) → AreWoven n m links → (l x : ℕ) → IsOn (woven_of n m links) l x
    → (l < m) × (x < n) × (list_of links x ≡ Some l) × (has_node x (walked (after_of links) n l) ≡ true)
seen_on n m links w l x on =
    let low : l < m = subst (λ r. l < r) (lists_count (walked (after_of links) n) m) on.0 in
    let there : has_node x (walked (after_of links) n l) ≡ true = subst (λ r. has_node x r ≡ true) (list_is (walked (after_of links) n) m l low) on.1 in
    let both : (x < n) × (list_of links x ≡ Some l) = on_list n m (after_of links) (before_of links) (list_of links) (walked (after_of links) n) w.linked l x low there in
    (low, both.0, both.1, there)

pub on_seen : (n m : ℕ) (links : List NodeLink) → AreWoven n m links → (l x : ℕ) → x < n → list_of links x ≡ Some l → IsOn (woven_of n m links) l x
on_seen n m links w l x h e =
    let both : (l < m) × (has_node x (walked (after_of links) n l) ≡ true) = list_on n m (after_of links) (before_of links) (list_of links) (walked (after_of links) n) w.linked l x h e in (
      subst (λ r. l < r) (sym (lists_count (walked (after_of links) n) m)) both.0,
      subst (λ r. has_node x r ≡ true) (sym (list_is (walked (after_of links) n) m l both.0)) both.1,
    )

-- a node whose list is not noted is free, and the other way round
pub none_free : (n m : ℕ) (links : List NodeLink) → AreWoven n m links → (x : ℕ) → list_of links x ≡ None → IsFree (woven_of n m links) x
none_free n m links w x e l on = let s : list_of links x ≡ Some l = (seen_on n m links w l x on).2 in cc

pub free_none : (n m : ℕ) (links : List NodeLink) → AreWoven n m links → (x : ℕ) → x < n → IsFree (woven_of n m links) x → list_of links x ≡ None
free_none n m links w x h f = either (list_of links x) refl
  where
    either : (o : Option ℕ) → list_of links x ≡ o → o ≡ None
    either None e = refl
    either (Some l) e = absurd (f l (on_seen n m links w l x h e))

pub woven_apart : (n m : ℕ) (links : List NodeLink) → AreWoven n m links → ListsApart (woven_of n m links)
woven_apart n m links w = record {
  inside = λ l x on. (seen_on n m links w l x on).1;
  alone = λ k l x p q. same k l ((sym (seen_on n m links w k x p).2) ∙ (seen_on n m links w l x q).2);
  once = λ l h.
      let low : l < m = subst (λ r. l < r) (lists_count (walked (after_of links) n) m) h in
      subst AreOnce (sym (list_is (walked (after_of links) n) m l low)) (w.linked.once l low);
}
  where
    same : (k l : ℕ) → Some k ≡ Some l → k ≡ l
    same k l e = cc

-- a weave without nodes on lists
pub made_woven : (n m : ℕ) (links : List NodeLink) → length links ≡ n + m
    → ((k : ℕ) → k < n + m → slice_index_or links k no_link ≡ record { after = k; before = k; list = None }) → AreWoven n m links
made_woven n m links size h = record {
  size = size;
  linked = linked_walked n m (after_of links) (before_of links) (list_of links) (λ _. []) (made n m (after_of links) (before_of links) (list_of links) each);
}
  where
    each : (k : ℕ) → k < n + m → (after_of links k ≡ k) × (before_of links k ≡ k) × (list_of links k ≡ None)
    each k low = (ap (λ (r : NodeLink). r.after) (h k low), ap (λ (r : NodeLink). r.before) (h k low), ap (λ (r : NodeLink). r.list) (h k low))

abbrev no_list : ℕ → List ℕ
no_list l = []

empty : (a m : ℕ) → map no_list (range_with_len a m) ≡ replicate m []
empty a zero = refl
empty a (suc m) = ap (λ (r : List (List ℕ)). [] ∷ r) (empty (a + 1) m)

pub made_lists : (n m : ℕ) (links : List NodeLink)
    → ((k : ℕ) → k < n + m → slice_index_or links k no_link ≡ record { after = k; before = k; list = None })
    → (woven_of n m links).lists ≡ replicate m []
made_lists n m links h =
    lists_same (walked (after_of links) n) no_list m (λ l low. walked_is n m (after_of links) (before_of links) (list_of links) (λ _. []) (made n m (after_of links) (before_of links) (list_of links) each) l low)
    ∙ empty 0 m
  where
    each : (k : ℕ) → k < n + m → (after_of links k ≡ k) × (before_of links k ≡ k) × (list_of links k ≡ None)
    each k low = (ap (λ (r : NodeLink). r.after) (h k low), ap (λ (r : NodeLink). r.before) (h k low), ap (λ (r : NodeLink). r.list) (h k low))

-- a node taken off
pub unlinked_woven : (n m : ℕ) (links links' : List NodeLink) (x : ℕ) → AreWoven n m links → ((l : ℕ) × IsOn (woven_of n m links) l x)
    → length links' ≡ length links
    → ((k : ℕ) → after_of links' k ≡ cond (k == before_of links x) (after_of links x) (after_of links k))
    → ((k : ℕ) → before_of links' k ≡ cond (k == after_of links x) (before_of links x) (before_of links k))
    → ((k : ℕ) → list_of links' k ≡ cond (k == x) None (list_of links k))
    → AreWoven n m links' × (woven_of n m links' ≡ taken_off (woven_of n m links) x)
unlinked_woven n m links links' x w (l, on) size ea eb eo = (record { size = size ∙ w.size; linked = linked_walked n m (after_of links') (before_of links') (list_of links') _ after }, ap (λ (r : List (List ℕ)). (let v : Woven = record { nodes = n; lists = r } in v)) lists)
  where
    f : ℕ → List ℕ
    f = walked (after_of links) n

    seen : (l < m) × (x < n) × (list_of links x ≡ Some l) × (has_node x (walked (after_of links) n l) ≡ true)
    seen = seen_on n m links w l x on

    after : AreLinked n m (after_of links') (before_of links') (list_of links') (λ k. without x (walked (after_of links) n k))
    after = unlinked n m (after_of links) (before_of links) (list_of links) (walked (after_of links) n) (after_of links') (before_of links') (list_of links') x l w.linked seen.0 seen.3 ea eb eo

    lists : map (walked (after_of links') n) (range_with_len 0 m) ≡ map (without x) (map (walked (after_of links) n) (range_with_len 0 m))
    lists = lists_same (walked (after_of links') n) (λ k. without x (walked (after_of links) n k)) m (λ k low. walked_is n m (after_of links') (before_of links') (list_of links') _ after k low)
        ∙ lists_mapped (without x) (walked (after_of links) n) (range_with_len 0 m)

-- a node put last
pub pushed_woven : (n m : ℕ) (links links' : List NodeLink) (x l e : ℕ) → AreWoven n m links → l < m → x < n → IsFree (woven_of n m links) x → e ≡ n + l
    → length links' ≡ length links
    → ((k : ℕ) → after_of links' k ≡ cond (k == x) e (cond (k == before_of links e) x (after_of links k)))
    → ((k : ℕ) → before_of links' k ≡ cond (k == e) x (cond (k == x) (before_of links e) (before_of links k)))
    → ((k : ℕ) → list_of links' k ≡ cond (k == x) (Some l) (list_of links k))
    → AreWoven n m links' × (woven_of n m links' ≡ put_last (woven_of n m links) l x)
pushed_woven n m links links' x l e w h inside free at size ea eb eo = (record { size = size ∙ w.size; linked = linked_walked n m (after_of links') (before_of links') (list_of links') _ after }, ap (λ (r : List (List ℕ)). (let v : Woven = record { nodes = n; lists = r } in v)) lists)
  where
    f : ℕ → List ℕ
    f = walked (after_of links) n

    after : AreLinked n m (after_of links') (before_of links') (list_of links') (λ k. cond (k == l) (walked (after_of links) n k ++ x ∷ []) (walked (after_of links) n k))
    after = pushed n m (after_of links) (before_of links) (list_of links) (walked (after_of links) n) (after_of links') (before_of links') (list_of links') x l e w.linked h inside (free_none n m links w x inside free) at ea eb eo

    lists : map (walked (after_of links') n) (range_with_len 0 m)
        ≡ slice_set (map (walked (after_of links) n) (range_with_len 0 m)) l (slice_index_or (map (walked (after_of links) n) (range_with_len 0 m)) l [] ++ x ∷ [])
    lists = lists_same (walked (after_of links') n) (λ k. cond (k == l) (walked (after_of links) n l ++ x ∷ []) (walked (after_of links) n k)) m
        (λ k low. walked_is n m (after_of links') (before_of links') (list_of links') _ after k low ∙ same k (k == l) refl)
        ∙ lists_set (walked (after_of links) n) m l (walked (after_of links) n l ++ x ∷ []) h
        ∙ ap (λ r. slice_set (map (walked (after_of links) n) (range_with_len 0 m)) l (r ++ x ∷ [])) (sym (list_is (walked (after_of links) n) m l h))
      where
        same : (k : ℕ) (t : Bool) → (k == l) ≡ t → cond t (walked (after_of links) n k ++ x ∷ []) (walked (after_of links) n k) ≡ cond t (walked (after_of links) n l ++ x ∷ []) (walked (after_of links) n k)
        same k true s = ap (λ r. walked (after_of links) n r ++ x ∷ []) (eqb-true k l s)
        same k false s = refl

-- the first node of a list
walk_first : (a : ℕ → ℕ) (n steps x : ℕ) → n ≡ steps → slice_get (nodes_along a n steps x) 0 ≡ cond (nat_lt x n) (Some x) None
walk_first a n zero x e = sym (ap (λ r. cond r (Some x) None) (let out : nat_lt x n ≡ false = grind (arith, nat_tests) in out))
walk_first a n (suc steps) x e = either (nat_lt x n)
  where
    either : (t : Bool) → slice_get (cond t (x ∷ nodes_along a n steps (a x)) []) 0 ≡ cond t (Some x) None
    either true = refl
    either false = refl

pub first_is : (n m : ℕ) (links : List NodeLink) (l : ℕ) → AreWoven n m links → l < m
    → slice_get (list_at (woven_of n m links) l) 0 ≡ cond (nat_lt (after_of links (n + l)) n) (Some (after_of links (n + l))) None
first_is n m links l w h = ap (λ r. slice_get r 0) (list_is (walked (after_of links) n) m l h) ∙ walk_first (after_of links) n n (after_of links (n + l)) refl

-- the node behind one on a path
path_behind : (a b : ℕ → ℕ) (n u : ℕ) (xs : List ℕ) (v x : ℕ) → Path a b u xs v → n ≤ v → ((y : ℕ) → has_node y xs ≡ true → y < n) → has_node x xs ≡ true
    → next_behind x xs ≡ cond (nat_lt (a x) n) (Some (a x)) None
path_behind a b n u [] v x p e h t = cc
path_behind a b n u (y ∷ ys) v x p e h t = elim (cases_eq y x) [
  | inl s ↦
      let on : (y == x) ≡ true = grind (arith, nat_tests) in
      ap (λ r. cond r (slice_get ys 0) (next_behind x ys)) on ∙ head ys (subst (λ r. Path a b r ys v) s p.2) (λ z m. h z (either y z m))
  | inr d ↦
      let off : (y == x) ≡ false = grind (arith, nat_tests) in
      ap (λ r. cond r (slice_get ys 0) (next_behind x ys)) off ∙ path_behind a b n y ys v x p.2 e (λ z m. h z (either y z m)) (grind (arith, nat_tests))
]
  where
    either : (z y : ℕ) → has_node y ys ≡ true → ((z == y) || has_node y ys) ≡ true
    either z y m = grind (arith, nat_tests)

    head : (zs : List ℕ) → Path a b x zs v → ((y : ℕ) → has_node y zs ≡ true → y < n) → slice_get zs 0 ≡ cond (nat_lt (a x) n) (Some (a x)) None
    head [] q low = sym (ap (λ r. cond r (Some (a x)) None) (let out : nat_lt (a x) n ≡ false = grind (arith, nat_tests, q.0) in out))
    head (z ∷ zs) q low =
        let under : z < n = low z (grind (arith, nat_tests)) in
        let inside : nat_lt (a x) n ≡ true = grind (arith, nat_tests, q.0, under) in
        ap (λ (r : ℕ). Some r) (sym q.0) ∙ sym (ap (λ r. cond r (Some (a x)) None) inside)

-- a path with one node more behind, and the path back
path_snoc : (a b : ℕ → ℕ) (u : ℕ) (xs : List ℕ) (w v : ℕ) → Path a b u xs w → a w ≡ v → b v ≡ w → Path a b u (xs ++ w ∷ []) v
path_snoc a b u [] w v p s t = (p.0, p.1, (s, t))
path_snoc a b u (x ∷ xs) w v p s t = (p.0, p.1, path_snoc a b x xs w v p.2 s t)

path_back : (a b : ℕ → ℕ) (u : ℕ) (xs : List ℕ) (v : ℕ) → Path a b u xs v → Path b a v (reverse xs) u
path_back a b u [] v p = (p.1, p.0)
path_back a b u (x ∷ xs) v p = subst (λ r. Path b a v r u) (sym (reverse-cons x xs)) (path_snoc b a v (reverse xs) x u (path_back a b x xs v p.2) p.1 p.0)

has_back : (x : ℕ) (xs : List ℕ) → has_node x (reverse xs) ≡ has_node x xs
has_back x [] = refl
has_back x (y ∷ ys) = ap (has_node x) (reverse-cons y ys) ∙ list_any-append (λ z. z == x) (reverse ys) (y ∷ []) ∙ ap (λ r. r || ((y == x) || false)) (has_back x ys) ∙ turned (has_node x ys) (y == x)
  where
    turned : (p q : Bool) → (p || (q || false)) ≡ (q || p)
    turned p q = grind (arith, nat_tests)

pub next_is : (n m : ℕ) (links : List NodeLink) (l x : ℕ) → AreWoven n m links → IsOn (woven_of n m links) l x
    → next_behind x (list_at (woven_of n m links) l) ≡ cond (nat_lt (after_of links x) n) (Some (after_of links x)) None
next_is n m links l x w on =
    let seen : (l < m) × (x < n) × (list_of links x ≡ Some l) × (has_node x (walked (after_of links) n l) ≡ true) = seen_on n m links w l x on in
    ap (next_behind x) (list_is (walked (after_of links) n) m l seen.0)
    ∙ path_behind (after_of links) (before_of links) n (n + l) (walked (after_of links) n l) (n + l) x (w.linked.circle l seen.0) (omega arith)
    (λ y t. (on_list n m (after_of links) (before_of links) (list_of links) (walked (after_of links) n) w.linked l y seen.0 t).0) seen.3

pub prev_is : (n m : ℕ) (links : List NodeLink) (l x : ℕ) → AreWoven n m links → IsOn (woven_of n m links) l x
    → next_behind x (reverse (list_at (woven_of n m links) l)) ≡ cond (nat_lt (before_of links x) n) (Some (before_of links x)) None
prev_is n m links l x w on =
    let seen : (l < m) × (x < n) × (list_of links x ≡ Some l) × (has_node x (walked (after_of links) n l) ≡ true) = seen_on n m links w l x on in
    ap (λ r. next_behind x (reverse r)) (list_is (walked (after_of links) n) m l seen.0)
    ∙ path_behind (before_of links) (after_of links) n (n + l) (reverse (walked (after_of links) n l)) (n + l) x
    (path_back (after_of links) (before_of links) (n + l) (walked (after_of links) n l) (n + l) (w.linked.circle l seen.0)) (omega arith)
    (λ y t. (on_list n m (after_of links) (before_of links) (list_of links) (walked (after_of links) n) w.linked l y seen.0 (sym (has_back y _) ∙ t)).0)
    (has_back x _ ∙ seen.3)

-- the list without its first node
without_first : (x : ℕ) (xs : List ℕ) → AreOnce xs → slice_get xs 0 ≡ Some x → without x xs ≡ drop 1 xs
without_first x [] o e = cc
without_first x (y ∷ ys) o e =
    let s : y ≡ x = cc in
    let on : (y == x) ≡ true = grind (arith, nat_tests) in
    ap (λ r. cond (not r) (y ∷ without x ys) (without x ys)) on ∙ without_absent x ys (subst (λ r. has_node r ys ≡ false) s o.0)

has_first : (x : ℕ) (xs : List ℕ) → slice_get xs 0 ≡ Some x → has_node x xs ≡ true
has_first x [] e = cc
has_first x (y ∷ ys) e = let s : y ≡ x = cc in grind (arith, nat_tests)

-- taking off the first node of a list is the list without its first
pub first_on : (v : Woven) (l x : ℕ) → l < length v.lists → slice_get (list_at v l) 0 ≡ Some x → IsOn v l x
first_on v l x h e = (h, has_first x (list_at v l) e)

pub first_off : (v : Woven) (l x : ℕ) → ListsApart v → l < length v.lists → slice_get (list_at v l) 0 ≡ Some x → taken_off v x ≡ with_list v l (drop 1 (list_at v l))
first_off v l x p h e = ap (λ (r : List (List ℕ)). (let w : Woven = record { nodes = v.nodes; lists = r } in w))
    (ext_get_or [] (map (without x) v.lists) (slice_set v.lists l (drop 1 (list_at v l))) (length-map _ _ ∙ sym (length-set _ _ _)) each)
  where
    each : (k : ℕ) → k < length (map (without x) v.lists) → slice_index_or (map (without x) v.lists) k [] ≡ slice_index_or (slice_set v.lists l (drop 1 (list_at v l))) k []
    each k low = get_or-map (without x) v.lists k [] ∙ elim (cases_eq k l) [
      | inl s ↦ ap (λ r. without x (list_at v r)) s ∙ without_first x (list_at v l) (p.once l h) e
          ∙ sym (ap (λ r. slice_index_or (slice_set v.lists l (drop 1 (list_at v l))) r []) s ∙ get_or-set_same v.lists l (drop 1 (list_at v l)) [] h)
      | inr d ↦ without_absent x (list_at v k) (elim (cases_Bool (has_node x (list_at v k))) [
        | inl t ↦ absurd (d (p.alone k l x (subst (λ r. k < r) (length-map _ _) low, t) (first_on v l x h e)))
        | inr f ↦ f
      ])
          ∙ sym (get_or-set_other v.lists l k (drop 1 (list_at v l)) [] d)
    ]

-- a list that is seen is one of the weave's
pub low_list : (v : Woven) (n m : ℕ) (links : List NodeLink) (l : ℕ) → woven_of n m links ≡ v → l < length v.lists → l < m
low_list v n m links l e h = subst (λ r. l < r) (ap (λ (r : Woven). length r.lists) (sym e) ∙ lists_count (walked (after_of links) n) m) h

pub low_node : (v : Woven) (n m : ℕ) (links : List NodeLink) (x : ℕ) → woven_of n m links ≡ v → x < v.nodes → x < n
low_node v n m links x e h = subst (λ r. x < r) (ap (λ (r : Woven). r.nodes) (sym e)) h

-- the link at a place, whatever stands where there is none
pub link_is : (links : List NodeLink) (k : ℕ) (link : NodeLink) → k < length links → link ≡ slice_index_or links k link → link ≡ slice_index_or links k no_link
link_is links k link h e = e ∙ get_or_default links k link no_link h

-- what the calls answer
pub first_seen : (v : Woven) (n m : ℕ) (links : List NodeLink) (l e : ℕ) (link : NodeLink) (r : Option ℕ) → woven_of n m links ≡ v → AreWoven n m links
    → l < length v.lists → e ≡ n + l → link ≡ slice_index_or links e link → r ≡ cond (nat_lt link.after n) (Some link.after) None → r ≡ slice_get (list_at v l) 0
first_seen v n m links l e link r is w h at got answer =
    let low : l < m = low_list v n m links l is h in
    let inside : e < length links = omega (arith, w.size) in
    let after : link.after ≡ after_of links (n + l) = ap (λ (k : NodeLink). k.after) (link_is links e link inside got) ∙ ap (after_of links) at in
    answer ∙ ap (λ k. cond (nat_lt k n) (Some k) None) after ∙ sym (first_is n m links l w low) ∙ ap (λ u. slice_get (list_at u l) 0) is

pub list_seen : (v : Woven) (n m : ℕ) (links : List NodeLink) (x : ℕ) (link : NodeLink) → woven_of n m links ≡ v → AreWoven n m links
    → x < v.nodes → link ≡ slice_index_or links x link → MatchOption link.list (IsFree v x) (λ l. IsOn v l x)
list_seen v n m links x link is w h got = either link.list (ap (λ (k : NodeLink). k.list) (sym (link_is links x link (omega (arith, low, w.size)) got)))
  where
    low : x < n
    low = low_node v n m links x is h

    either : (o : Option ℕ) → list_of links x ≡ o → MatchOption o (IsFree v x) (λ l. IsOn v l x)
    either None e = subst (λ u. IsFree u x) is (none_free n m links w x e)
    either (Some l) e = subst (λ u. IsOn u l x) is (on_seen n m links w l x low e)

pub apart_seen : (v : Woven) (n m : ℕ) (links : List NodeLink) → woven_of n m links ≡ v → AreWoven n m links → ListsApart v
apart_seen v n m links is w = subst ListsApart is (woven_apart n m links w)

-- a node that is on a list has its list noted, and one that is free has none
pub on_noted : (v : Woven) (n m : ℕ) (links : List NodeLink) (x l : ℕ) (link : NodeLink) → woven_of n m links ≡ v → AreWoven n m links
    → x < v.nodes → link ≡ slice_index_or links x link → IsOn v l x → link.list ≡ Some l
on_noted v n m links x l link is w h got on =
    let low : x < n = low_node v n m links x is h in
    ap (λ (k : NodeLink). k.list) (link_is links x link (omega (arith, low, w.size)) got) ∙ (seen_on n m links w l x (subst (λ u. IsOn u l x) (sym is) on)).2

pub free_noted : (v : Woven) (n m : ℕ) (links : List NodeLink) (x : ℕ) (link : NodeLink) → woven_of n m links ≡ v → AreWoven n m links
    → x < v.nodes → link ≡ slice_index_or links x link → IsFree v x → link.list ≡ None
free_noted v n m links x link is w h got free =
    let low : x < n = low_node v n m links x is h in
    ap (λ (k : NodeLink). k.list) (link_is links x link (omega (arith, low, w.size)) got) ∙ free_none n m links w x low (subst (λ u. IsFree u x) (sym is) free)

pub next_seen : (v : Woven) (n m : ℕ) (links : List NodeLink) (x l : ℕ) (link : NodeLink) (r : Option ℕ) → woven_of n m links ≡ v → AreWoven n m links
    → x < v.nodes → link ≡ slice_index_or links x link → r ≡ cond (nat_lt link.after n) (Some link.after) None → IsOn v l x → r ≡ next_behind x (list_at v l)
next_seen v n m links x l link r is w h got answer on =
    let low : x < n = low_node v n m links x is h in
    answer ∙ ap (λ k. cond (nat_lt k n) (Some k) None) (ap (λ (k : NodeLink). k.after) (link_is links x link (omega (arith, low, w.size)) got))
    ∙ sym (next_is n m links l x w (subst (λ u. IsOn u l x) (sym is) on)) ∙ ap (λ u. next_behind x (list_at u l)) is

pub prev_seen : (v : Woven) (n m : ℕ) (links : List NodeLink) (x l : ℕ) (link : NodeLink) (r : Option ℕ) → woven_of n m links ≡ v → AreWoven n m links
    → x < v.nodes → link ≡ slice_index_or links x link → r ≡ cond (nat_lt link.before n) (Some link.before) None → IsOn v l x → r ≡ next_behind x (reverse (list_at v l))
prev_seen v n m links x l link r is w h got answer on =
    let low : x < n = low_node v n m links x is h in
    answer ∙ ap (λ k. cond (nat_lt k n) (Some k) None) (ap (λ (k : NodeLink). k.before) (link_is links x link (omega (arith, low, w.size)) got))
    ∙ sym (prev_is n m links l x w (subst (λ u. IsOn u l x) (sym is) on)) ∙ ap (λ u. next_behind x (reverse (list_at u l))) is

-- a test of an option, read
pub none_told : (o : Option ℕ) (l : ℕ) (t : Bool) → is_some o ≡ not t → t ≡ true → o ≡ Some l → ⊥
none_told None l t h e s = cc
none_told (Some k) l t h e s = cc

pub some_told : (o : Option ℕ) (t : Bool) → is_some o ≡ not t → t ≡ false → o ≡ None → ⊥
some_told None t h e s = cc
some_told (Some k) t h e s = cc

-- which link a call may look at
pub end_inside : (v : Woven) (n m : ℕ) (links : List NodeLink) (l e : ℕ) → woven_of n m links ≡ v → AreWoven n m links → l < length v.lists → e ≡ n + l → e < length links
end_inside v n m links l e is w h at = omega (arith, low_list v n m links l is h, w.size)

pub node_inside : (v : Woven) (n m : ℕ) (links : List NodeLink) (x : ℕ) → woven_of n m links ≡ v → AreWoven n m links → x < v.nodes → x < length links
node_inside v n m links x is w h = omega (arith, low_node v n m links x is h, w.size)

pub ahead_inside : (n m : ℕ) (links : List NodeLink) (k : ℕ) → AreWoven n m links → k < length links → after_of links k < length links
ahead_inside n m links k w h = subst (λ r. after_of links k < r) (sym w.size) (w.linked.ahead k (subst (λ r. k < r) w.size h))

pub back_inside : (n m : ℕ) (links : List NodeLink) (k : ℕ) → AreWoven n m links → k < length links → before_of links k < length links
back_inside n m links k w h = subst (λ r. before_of links k < r) (sym w.size) (w.linked.back k (subst (λ r. k < r) w.size h))

-- a node taken off, as the call sees it: the links as they were lent, and what they are afterwards
pub unlinked_seen : (v : Woven) (n m : ℕ) (links old links' items : List NodeLink) (x : ℕ) → woven_of n m links ≡ v → AreWoven n m links → old ≡ links → items ≡ links'
    → ((l : ℕ) × IsOn v l x) → length links' ≡ length old
    → ((k : ℕ) → after_of links' k ≡ cond (k == before_of old x) (after_of old x) (after_of old k))
    → ((k : ℕ) → before_of links' k ≡ cond (k == after_of old x) (before_of old x) (before_of old k))
    → ((k : ℕ) → list_of links' k ≡ cond (k == x) None (list_of old k))
    → AreWoven n m items × (woven_of n m items ≡ taken_off v x)
unlinked_seen v n m links old links' items x is w e i (l, on) size ea eb eo =
    let done : AreWoven n m links' × (woven_of n m links' ≡ taken_off (woven_of n m old) x) =
    unlinked_woven n m old links' x (subst (AreWoven n m) (sym e) w) (l, subst (λ u. IsOn u l x) (sym is ∙ sym (ap (woven_of n m) e)) on) size ea eb eo in
    (subst (AreWoven n m) (sym i) done.0, ap (woven_of n m) i ∙ done.1 ∙ ap (λ u. taken_off u x) (ap (woven_of n m) e ∙ is))

pub pushed_seen : (v : Woven) (n m : ℕ) (links old links' items : List NodeLink) (x l e : ℕ) → woven_of n m links ≡ v → AreWoven n m links → old ≡ links → items ≡ links'
    → l < length v.lists → x < v.nodes → IsFree v x → e ≡ n + l → length links' ≡ length old
    → ((k : ℕ) → after_of links' k ≡ cond (k == x) e (cond (k == before_of old e) x (after_of old k)))
    → ((k : ℕ) → before_of links' k ≡ cond (k == e) x (cond (k == x) (before_of old e) (before_of old k)))
    → ((k : ℕ) → list_of links' k ≡ cond (k == x) (Some l) (list_of old k))
    → AreWoven n m items × (woven_of n m items ≡ put_last v l x)
pushed_seen v n m links old links' items x l e is w o i h inside free at size ea eb eo =
    let done : AreWoven n m links' × (woven_of n m links' ≡ put_last (woven_of n m old) l x) =
    pushed_woven n m old links' x l e (subst (AreWoven n m) (sym o) w) (low_list v n m links l is h) (low_node v n m links x is inside)
    (subst (λ u. IsFree u x) (sym is ∙ sym (ap (woven_of n m) o)) free) at size ea eb eo in
    (subst (AreWoven n m) (sym i) done.0, ap (woven_of n m) i ∙ done.1 ∙ ap (λ u. put_last u l x) (ap (woven_of n m) o ∙ is))

-- a node that has been taken off is on no list
pub off_free : (v : Woven) (x : ℕ) → IsFree (taken_off v x) x
off_free v x l on = absurd (none (sym on.1 ∙ ap (has_node x) (get_or-map (without x) v.lists l []) ∙ has_without x x (slice_index_or v.lists l [])))
  where
    none : true ≡ (not (x == x) && has_node x (slice_index_or v.lists l [])) → ⊥
    none e = grind (arith, nat_tests)

-- and a node on no list stays where it is
pub free_off : (v : Woven) (x : ℕ) → IsFree v x → v ≡ taken_off v x
free_off v x free = ap (λ (r : List (List ℕ)). (let w : Woven = record { nodes = v.nodes; lists = r } in w))
    (ext_get_or [] v.lists (map (without x) v.lists) (sym (length-map _ _)) (λ k low. sym (get_or-map (without x) v.lists k [] ∙ without_absent x (slice_index_or v.lists k []) (absent k low))))
  where
    absent : (k : ℕ) → k < length v.lists → has_node x (slice_index_or v.lists k []) ≡ false
    absent k low = elim (cases_Bool (has_node x (slice_index_or v.lists k []))) [ inl t ↦ absurd (free k (low, t)) | inr f ↦ f ]

-- an answer of none says that the node is free
pub none_is_free : (o : Option ℕ) (v : Woven) (x : ℕ) → MatchOption o (IsFree v x) (λ l. IsOn v l x) → is_some o ≡ false → IsFree v x
none_is_free None v x m e = m
none_is_free (Some l) v x m e = cc
