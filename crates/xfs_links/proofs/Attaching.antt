-- How directories leave the pending list when they are attached.
use Rattle.std.proofs.Common.{◌≡◌, ℕ, ◌+◌, ◌-◌, ◌<◌, ◌≤◌, ◌==◌, ◌&&◌, ◌||◌, inl, inr, Bool, true, false, not, cond, nat_lt, List, [], ◌∷◌, ◌++◌, map, length, drop, zero, suc, refl, sym, ◌∙◌, ap, subst, arith, Option, Some, None, slice_get, slice_index_or, if◌then◌else◌}
use Rattle.std.specs.List.{filter}
use Rattle.std.proofs.lemmas.Bool.{cases_eq}
use Rattle.std.proofs.lemmas.Bool.Decides.{nat_tests}
use Rattle.std.proofs.lemmas.List.{get_or-set_other, get_or-set_same, drop_more, get_or_default}
use Rattle.std.proofs.Math.ListN.{length-set, length-map, get_or-map}
use Rattle.std.proofs.lemmas.List.Folds.{list_any-append}
use Rattle.xfs_collections.specs.Lists.{Woven, has_node, without, list_at, put_last, taken_off}
use Rattle.xfs_links.specs.declared.records.NodeRec.{NodeRec}
use Rattle.xfs_links.specs.declared.candidates.Candidate.{Candidate}
use Rattle.xfs_links.specs.declared.walk.Attached.{Attached}
use Rattle.xfs_links.specs.Entries.{is_directory_at_place}
use Rattle.xfs_links.specs.Walk.{is_attached, attached_at, see, see_all, turn_at, turns, begin, walk, start_at}
use Rattle.xfs_links.specs.Places.{IsSteady, targets}

-- the directories that are not attached
abbrev pub unattached : List Attached → ℕ → Bool
unattached s p = not (is_attached s p)

pub attached_last : (s : List Attached) (a : Attached) (p : ℕ) → is_attached (s ++ a ∷ []) p ≡ (is_attached s p || a.directory == p)
attached_last s a p = list_any-append (λ (b : Attached). b.directory == p) s (a ∷ []) ∙ plain (is_attached s p) (a.directory == p)
  where
    plain : (q r : Bool) → (q || (r || false)) ≡ (q || r)
    plain q r = grind (arith, nat_tests)

has_without : (x y : ℕ) (xs : List ℕ) → has_node y (without x xs) ≡ (not (y == x) && has_node y xs)
has_without x y [] = grind (arith, nat_tests)
has_without x y (z ∷ zs) = either (z == x) refl (has_without x y zs)
  where
    either : (t : Bool) → (z == x) ≡ t → has_node y (without x zs) ≡ (not (y == x) && has_node y zs)
        → has_node y (cond (not t) (z ∷ without x zs) (without x zs)) ≡ (not (y == x) && ((z == y) || has_node y zs))
    either true e h = grind (arith, nat_tests)
    either false e h = grind (arith, nat_tests)

-- to take one off the unattached is to attach it
without_unattached : (s : List Attached) (d : ℕ) (parent : Option ℕ) (xs : List ℕ) → ((x : ℕ) → has_node x xs ≡ true → is_attached s x ≡ false)
    → without d xs ≡ filter (unattached (s ++ attached_at d parent ∷ [])) xs
without_unattached s d parent [] h = refl
without_unattached s d parent (x ∷ xs) h =
    let free : is_attached s x ≡ false = h x (grind (arith, nat_tests)) in
    let same : not (x == d) ≡ not (is_attached (s ++ attached_at d parent ∷ []) x) = ap not (turned free) ∙ ap not (sym (attached_last s (attached_at d parent) x)) in
    ap (λ r. cond r (x ∷ without d xs) (without d xs)) same
    ∙ ap (λ r. cond (unattached (s ++ attached_at d parent ∷ []) x) (x ∷ r) r) (without_unattached s d parent xs (λ y m. h y (either y m)))
  where
    turned : is_attached s x ≡ false → (x == d) ≡ (is_attached s x || d == x)
    turned e = grind (arith, nat_tests)

    either : (y : ℕ) → has_node y xs ≡ true → ((x == y) || has_node y xs) ≡ true
    either y m = grind (arith, nat_tests)

first_list : (w : Woven) (k d : ℕ) → 1 ≤ k → list_at (put_last (taken_off w d) k d) 0 ≡ without d (list_at w 0)
first_list w k d some = get_or-set_other (map (without d) w.lists) k 0 _ [] (omega arith) ∙ get_or-map (without d) w.lists 0 []

-- the list of those that are pending, after one of them has been moved to another list
pub moved_pending : (files : List NodeRec) (w v : Woven) (s : List Attached) (k d : ℕ) (parent : Option ℕ) → IsSteady files w s → 1 ≤ k → v ≡ put_last (taken_off w d) k d
    → list_at v 0 ≡ filter (unattached (s ++ attached_at d parent ∷ [])) (list_at w 0)
moved_pending files w v s k d parent steady some is =
    ap (λ u. list_at u 0) is ∙ first_list w k d some ∙ without_unattached s d parent (list_at w 0) free
  where
    free : (x : ℕ) → has_node x (list_at w 0) ≡ true → is_attached s x ≡ false
    free x h = let both : (is_directory_at_place files x && not (is_attached s x)) ≡ true = sym (steady.pending x) ∙ h in grind (arith, nat_tests)

pub moved_steady : (files : List NodeRec) (w v : Woven) (s : List Attached) (k d : ℕ) (parent : Option ℕ) → IsSteady files w s → 1 ≤ k → v ≡ put_last (taken_off w d) k d
    → IsSteady files v (s ++ attached_at d parent ∷ [])
moved_steady files w v s k d parent steady some is = record {
  nodes = ap (λ (u : Woven). u.nodes) is ∙ steady.nodes;
  lists = ap (λ (u : Woven). length u.lists) is ∙ length-set _ _ _ ∙ length-map _ _ ∙ steady.lists;
  pending = λ p. ap (λ u. has_node p (list_at u 0)) is ∙ ap (has_node p) (first_list w k d some) ∙ has_without d p (list_at w 0) ∙ ap (λ r. not (p == d) && r) (steady.pending p)
      ∙ turned p ∙ ap (λ r. is_directory_at_place files p && not r) (sym (attached_last s (attached_at d parent) p));
}
  where
    turned : (p : ℕ) → (not (p == d) && (is_directory_at_place files p && not (is_attached s p))) ≡ (is_directory_at_place files p && not (is_attached s p || d == p))
    turned p = elim (cases_eq p d) [ inl e ↦ plain (p == d) (d == p) (grind (arith, nat_tests)) (grind (arith, nat_tests)) | inr n ↦ other (p == d) (d == p) (grind (arith, nat_tests)) (grind (arith, nat_tests)) ]
      where
        plain : (q r : Bool) → q ≡ true → r ≡ true → (not q && (is_directory_at_place files p && not (is_attached s p))) ≡ (is_directory_at_place files p && not (is_attached s p || r))
        plain q r e f = grind (arith, nat_tests)

        other : (q r : Bool) → q ≡ false → r ≡ false → (not q && (is_directory_at_place files p && not (is_attached s p))) ≡ (is_directory_at_place files p && not (is_attached s p || r))
        other q r e f = grind (arith, nat_tests)

-- what passes the second test, and so the first, is picked twice
pub filter_twice : (f g : ℕ → Bool) (xs : List ℕ) → ((x : ℕ) → g x ≡ true → f x ≡ true) → filter g (filter f xs) ≡ filter g xs
filter_twice f g [] h = refl
filter_twice f g (x ∷ xs) h = either (f x) refl (g x) refl (filter_twice f g xs h)
  where
    clash : false ≡ true → ⊥
    clash c = cc

    either : (t : Bool) → f x ≡ t → (u : Bool) → g x ≡ u → filter g (filter f xs) ≡ filter g xs → filter g (cond t (x ∷ filter f xs) (filter f xs)) ≡ cond u (x ∷ filter g xs) (filter g xs)
    either true e u k r = ap (λ r. cond r (x ∷ filter g (filter f xs)) (filter g (filter f xs))) k ∙ ap (λ r. cond u (x ∷ r) r) r
    either false e true k r = absurd (clash (sym e ∙ h x k))
    either false e false k r = r

-- all stay where none fails
pub filter_all : (f : ℕ → Bool) (xs : List ℕ) → ((x : ℕ) → has_node x xs ≡ true → f x ≡ true) → filter f xs ≡ xs
filter_all f [] h = refl
filter_all f (x ∷ xs) h = ap (λ r. cond r (x ∷ filter f xs) (filter f xs)) (h x (grind (arith, nat_tests))) ∙ ap (λ r. x ∷ r) (filter_all f xs (λ y m. h y (either y m)))
  where
    either : (y : ℕ) → has_node y xs ≡ true → ((x == y) || has_node y xs) ≡ true
    either y m = grind (arith, nat_tests)

-- fewer stay where one fails
filter_most : (f : ℕ → Bool) (xs : List ℕ) → length (filter f xs) ≤ length xs
filter_most f [] = omega arith
filter_most f (x ∷ xs) = either (f x) (filter_most f xs)
  where
    either : (t : Bool) → length (filter f xs) ≤ length xs → length (cond t (x ∷ filter f xs) (filter f xs)) ≤ suc (length xs)
    either true h = omega arith
    either false h = omega arith

pub filter_fewer : (f : ℕ → Bool) (xs : List ℕ) (y : ℕ) → has_node y xs ≡ true → f y ≡ false → length (filter f xs) < length xs
filter_fewer f [] y h e = cc
filter_fewer f (x ∷ xs) y h e = elim (cases_eq x y) [
  | inl s ↦ subst (λ r. length (cond r (x ∷ filter f xs) (filter f xs)) < suc (length xs)) (sym (ap f s ∙ e)) (omega (arith, filter_most f xs))
  | inr n ↦ either (f x) (filter_fewer f xs y (grind (arith, nat_tests)) e)
]
  where
    either : (t : Bool) → length (filter f xs) < length xs → length (cond t (x ∷ filter f xs) (filter f xs)) < suc (length xs)
    either true h = omega arith
    either false h = omega arith

-- at the start all that are pending are unattached
pub pending_same : (files : List NodeRec) (w : Woven) (s : List Attached) → IsSteady files w s → list_at w 0 ≡ filter (unattached s) (list_at w 0)
pending_same files w s steady = sym (filter_all (unattached s) (list_at w 0) (λ x h. let both : (is_directory_at_place files x && not (is_attached s x)) ≡ true = sym (steady.pending x) ∙ h in grind (arith, nat_tests)))

-- once more
pub pending_twice : (s t : List Attached) (xs ys zs : List ℕ) → ((p : ℕ) → is_attached s p ≡ true → is_attached t p ≡ true) → ys ≡ filter (unattached s) xs → zs ≡ filter (unattached t) ys
    → zs ≡ filter (unattached t) xs
pending_twice s t xs ys zs grown e f = f ∙ ap (filter (unattached t)) e ∙ filter_twice (unattached s) (unattached t) xs (λ x h. turned (is_attached s x) (is_attached t x) (grown x) h)
  where
    turned : (p q : Bool) → (p ≡ true → q ≡ true) → not q ≡ true → not p ≡ true
    turned true q g h = absurd (clash q (g refl) h)
      where
        clash : (r : Bool) → r ≡ true → not r ≡ true → ⊥
        clash true a b = cc
        clash false a b = cc
    turned false q g h = refl

-- what is attached stays attached
pub grown_last : (s : List Attached) (a : Attached) (p : ℕ) → is_attached s p ≡ true → is_attached (s ++ a ∷ []) p ≡ true
grown_last s a p h = attached_last s a p ∙ ap (λ r. r || a.directory == p) h

pub grown_see : (d : ℕ) (s : List Attached) (n p : ℕ) → is_attached s p ≡ true → is_attached (see d s n) p ≡ true
grown_see d s n p h = either (is_attached s n)
  where
    either : (t : Bool) → is_attached (if t then s else (s ++ attached_at n (Some d) ∷ [])) p ≡ true
    either true = h
    either false = grown_last s (attached_at n (Some d)) p h

pub grown_all : (d : ℕ) (s : List Attached) (ns : List ℕ) (p : ℕ) → is_attached s p ≡ true → is_attached (see_all d s ns) p ≡ true
grown_all d s [] p h = h
grown_all d s (n ∷ ns) p h = grown_all d (see d s n) ns p (grown_see d s n p h)

pub grown_turns : (named : ℕ → List ℕ) (steps k : ℕ) (s : List Attached) (p : ℕ) → is_attached s p ≡ true → is_attached (turns named steps k s) p ≡ true
grown_turns named zero k s p h = h
grown_turns named (suc steps) k s p h = either (nat_lt k (length s)) (grown_turns named steps (k + 1) (see_all (turn_at s k) s (named (turn_at s k))) p (grown_all (turn_at s k) s (named (turn_at s k)) p h))
  where
    either : (t : Bool) → is_attached (turns named steps (k + 1) (see_all (turn_at s k) s (named (turn_at s k)))) p ≡ true → is_attached (if t then turns named steps (k + 1) (see_all (turn_at s k) s (named (turn_at s k))) else s) p ≡ true
    either true r = r
    either false r = h

pub grown_begin : (named : ℕ → List ℕ) (steps root : ℕ) (s : List Attached) (n p : ℕ) → is_attached s p ≡ true → is_attached (begin named steps root s n) p ≡ true
grown_begin named steps root s n p h = either (is_attached s n)
  where
    either : (t : Bool) → is_attached (if t then s else turns named steps (length s) (s ++ start_at root n ∷ [])) p ≡ true
    either true = h
    either false = grown_turns named steps (length s) (s ++ start_at root n ∷ []) p (grown_last s (start_at root n) p h)

-- a starting point is attached afterwards
pub begin_attaches : (named : ℕ → List ℕ) (steps root : ℕ) (s : List Attached) (n : ℕ) → is_attached (begin named steps root s n) n ≡ true
begin_attaches named steps root s n = either (is_attached s n) refl
  where
    last : is_attached (s ++ start_at root n ∷ []) n ≡ true
    last = attached_last s (start_at root n) n ∙ plain (is_attached s n) (n == n) (grind (arith, nat_tests))
      where
        plain : (q r : Bool) → r ≡ true → (q || r) ≡ true
        plain q r e = grind (arith, nat_tests)

    either : (t : Bool) → is_attached s n ≡ t → is_attached (if t then s else turns named steps (length s) (s ++ start_at root n ∷ [])) n ≡ true
    either true e = e
    either false e = grown_turns named steps (length s) (s ++ start_at root n ∷ []) n last

-- starting points that are attached may be left out
pub walk_skips : (named : ℕ → List ℕ) (steps root : ℕ) (f : ℕ → Bool) (s : List Attached) (ns : List ℕ) → ((x : ℕ) → f x ≡ false → is_attached s x ≡ true)
    → walk named steps root s ns ≡ walk named steps root s (filter f ns)
walk_skips named steps root f s [] h = refl
walk_skips named steps root f s (n ∷ ns) h = either (f n) refl (walk_skips named steps root f s ns h)
    (walk_skips named steps root f (begin named steps root s n) ns (λ x e. grown_begin named steps root s n x (h x e)))
  where
    either : (t : Bool) → f n ≡ t → walk named steps root s ns ≡ walk named steps root s (filter f ns)
        → walk named steps root (begin named steps root s n) ns ≡ walk named steps root (begin named steps root s n) (filter f ns)
        → walk named steps root (begin named steps root s n) ns ≡ walk named steps root s (cond t (n ∷ filter f ns) (filter f ns))
    either true e p q = q
    either false e p q = ap (λ r. walk named steps root (if r then s else turns named steps (length s) (s ++ start_at root n ∷ [])) ns) (h n e) ∙ p

-- the next starting point
pub walk_next : (named : ℕ → List ℕ) (steps root : ℕ) (s t total : List Attached) (xs ys : List ℕ) (n : ℕ) → slice_get xs 0 ≡ Some n → t ≡ begin named steps root s n
    → ys ≡ filter (unattached t) xs → walk named steps root s xs ≡ total → walk named steps root t ys ≡ total
walk_next named steps root s t total [] ys n first is left leads = cc
walk_next named steps root s t total (x ∷ xs) ys n first is left leads =
    ap (walk named steps root t) left ∙ sym (walk_skips named steps root (unattached t) t (x ∷ xs) turned)
    ∙ ap (λ r. walk named steps root (if r then t else turns named steps (length t) (t ++ start_at root x ∷ [])) xs) there
    ∙ ap (λ r. walk named steps root r xs) (is ∙ ap (begin named steps root s) (sym same)) ∙ leads
  where
    same : x ≡ n
    same = cc

    there : is_attached t x ≡ true
    there = ap (is_attached t) same ∙ ap (λ r. is_attached r n) is ∙ begin_attaches named steps root s n

    turned : (y : ℕ) → unattached t y ≡ false → is_attached t y ≡ true
    turned y e = grind (arith, nat_tests)

pub first_has : (n : ℕ) (xs : List ℕ) → slice_get xs 0 ≡ Some n → has_node n xs ≡ true
first_has n [] e = cc
first_has n (x ∷ xs) e = let s : x ≡ n = cc in grind (arith, nat_tests)

pub none_first : (xs : List ℕ) → slice_get xs 0 ≡ None → xs ≡ []
none_first [] e = refl
none_first (x ∷ xs) e = cc

-- a starting point that has been attached is no longer pending
pub pending_fewer : (named : ℕ → List ℕ) (steps root : ℕ) (s t : List Attached) (xs ys : List ℕ) (n : ℕ) → has_node n xs ≡ true → t ≡ begin named steps root s n → ys ≡ filter (unattached t) xs → length ys < length xs
pending_fewer named steps root s t xs ys n h is left =
    subst (λ r. length r < length xs) (sym left) (filter_fewer (unattached t) xs n h (ap not (ap (λ r. is_attached r n) is ∙ begin_attaches named steps root s n)))

-- the directories that the candidates from the i-th on name
pub targets_next : (files : List NodeRec) (cs : List Candidate) (i : ℕ) (c : Candidate) → i < length cs → c ≡ slice_index_or cs i c
    → targets files (drop i cs) ≡ cond (is_directory_at_place files c.target) (c.target ∷ targets files (drop (i + 1) cs)) (targets files (drop (i + 1) cs))
targets_next files cs i c h is = ap (targets files) (drop_more cs i c h) ∙ ap (λ (k : Candidate). targets files (k ∷ drop (i + 1) cs)) (sym is) ∙ either (is_directory_at_place files c.target) refl
  where
    either : (t : Bool) → is_directory_at_place files c.target ≡ t → map (λ (c : Candidate). c.target) (cond t (c ∷ filter (λ c. is_directory_at_place files c.target) (drop (i + 1) cs)) (filter (λ c. is_directory_at_place files c.target) (drop (i + 1) cs)))
        ≡ cond t (c.target ∷ targets files (drop (i + 1) cs)) (targets files (drop (i + 1) cs))
    either true e = refl
    either false e = refl

-- a candidate whose file is pending
pub seen_pending : (files : List NodeRec) (cs : List Candidate) (i d : ℕ) (c : Candidate) (s total : List Attached) → i < length cs → c ≡ slice_index_or cs i c
    → (is_directory_at_place files c.target && not (is_attached s c.target)) ≡ true → see_all d s (targets files (drop i cs)) ≡ total
    → see_all d (s ++ attached_at c.target (Some d) ∷ []) (targets files (drop (i + 1) cs)) ≡ total
seen_pending files cs i d c s total h is p leads = sym (ap (see_all d s) (targets_next files cs i c h is) ∙ either (is_directory_at_place files c.target) refl (is_attached s c.target) refl p) ∙ leads
  where
    either : (t : Bool) → is_directory_at_place files c.target ≡ t → (u : Bool) → is_attached s c.target ≡ u → (t && not u) ≡ true → see_all d s (cond t (c.target ∷ targets files (drop (i + 1) cs)) (targets files (drop (i + 1) cs))) ≡ see_all d (s ++ attached_at c.target (Some d) ∷ []) (targets files (drop (i + 1) cs))
    either true e true k q = cc
    either true e false k q = ap (λ r. see_all d (if r then s else (s ++ attached_at c.target (Some d) ∷ [])) (targets files (drop (i + 1) cs))) k
    either false e u k q = cc

-- and one whose file is not
pub seen_other : (files : List NodeRec) (cs : List Candidate) (i d : ℕ) (c : Candidate) (s total : List Attached) → i < length cs → c ≡ slice_index_or cs i c
    → (is_directory_at_place files c.target && not (is_attached s c.target)) ≡ false → see_all d s (targets files (drop i cs)) ≡ total
    → see_all d s (targets files (drop (i + 1) cs)) ≡ total
seen_other files cs i d c s total h is p leads = sym (ap (see_all d s) (targets_next files cs i c h is) ∙ either (is_directory_at_place files c.target) refl (is_attached s c.target) refl p) ∙ leads
  where
    either : (t : Bool) → is_directory_at_place files c.target ≡ t → (u : Bool) → is_attached s c.target ≡ u → (t && not u) ≡ false → see_all d s (cond t (c.target ∷ targets files (drop (i + 1) cs)) (targets files (drop (i + 1) cs))) ≡ see_all d s (targets files (drop (i + 1) cs))
    either true e true k q = ap (λ r. see_all d (if r then s else (s ++ attached_at c.target (Some d) ∷ [])) (targets files (drop (i + 1) cs))) k
    either true e false k q = cc
    either false e u k q = refl

-- one directory taken, and the end of the turn
pub turns_next : (named : ℕ → List ℕ) (steps step from : ℕ) (s t total : List Attached) (d : ℕ) → step < steps → from + step < length s → d ≡ turn_at s (from + step) → t ≡ see_all d s (named d)
    → turns named (steps - step) (from + step) s ≡ total → turns named (steps - (step + 1)) (from + (step + 1)) t ≡ total
turns_next named steps step from s t total d more inside is seen leads =
    subst (λ r. turns named (steps - (step + 1)) r t ≡ total) (omega arith)
    (subst (λ r. turns named (steps - (step + 1)) (from + step + 1) r ≡ total) (sym seen)
    (subst (λ r. turns named (steps - (step + 1)) (from + step + 1) (see_all r s (named r)) ≡ total) (sym is)
    (sym (ap (λ r. if r then turns named (steps - (step + 1)) (from + step + 1) (see_all (turn_at s (from + step)) s (named (turn_at s (from + step)))) else s) here)
    ∙ subst (λ r. turns named r (from + step) s ≡ total) next leads)))
  where
    here : nat_lt (from + step) (length s) ≡ true
    here = grind (arith, nat_tests)

    next : steps - step ≡ suc (steps - (step + 1))
    next = omega arith

pub turns_done : (named : ℕ → List ℕ) (steps k : ℕ) (s : List Attached) → length s ≤ k → turns named steps k s ≡ s
turns_done named zero k s h = refl
turns_done named (suc steps) k s h = let out : nat_lt k (length s) ≡ false = grind (arith, nat_tests) in ap (λ r. if r then turns named steps (k + 1) (see_all (turn_at s k) s (named (turn_at s k))) else s) out

-- the same for the candidate at a place
pub pending_at : (files : List NodeRec) (cs : List Candidate) (i d : ℕ) (e : Candidate) (s total : List Attached) → i < length cs
    → (is_directory_at_place files (slice_index_or cs i e).target && not (is_attached s (slice_index_or cs i e).target)) ≡ true → see_all d s (targets files (drop i cs)) ≡ total
    → see_all d (s ++ attached_at (slice_index_or cs i e).target (Some d) ∷ []) (targets files (drop (i + 1) cs)) ≡ total
pending_at files cs i d e s total h = seen_pending files cs i d (slice_index_or cs i e) s total h (get_or_default cs i e (slice_index_or cs i e) h)

pub other_at : (files : List NodeRec) (cs : List Candidate) (i d : ℕ) (e : Candidate) (s total : List Attached) → i < length cs
    → (is_directory_at_place files (slice_index_or cs i e).target && not (is_attached s (slice_index_or cs i e).target)) ≡ false → see_all d s (targets files (drop i cs)) ≡ total
    → see_all d s (targets files (drop (i + 1) cs)) ≡ total
other_at files cs i d e s total h = seen_other files cs i d (slice_index_or cs i e) s total h (get_or_default cs i e (slice_index_or cs i e) h)

-- what the turn tells of a place
told_some : (u : List Attached) (k d : ℕ) → Some d ≡ (if nat_lt k (length u) then Some (turn_at u k) else None) → (k < length u) × (d ≡ turn_at u k)
told_some u k d e = either (nat_lt k (length u)) refl e
  where
    either : (t : Bool) → nat_lt k (length u) ≡ t → Some d ≡ (if t then Some (turn_at u k) else None) → (k < length u) × (d ≡ turn_at u k)
    either true h e = (grind (arith, nat_tests), cc)
    either false h e = cc

pub turn_told : (s u : List Attached) (k d : ℕ) → u ≡ s → Some d ≡ (if nat_lt k (length u) then Some (turn_at u k) else None) → (k < length s) × (d ≡ turn_at s k)
turn_told s u k d same e = subst (λ r. (k < length r) × (d ≡ turn_at r k)) same (told_some u k d e)

pub turn_over : (s u : List Attached) (k : ℕ) (r : Option ℕ) → u ≡ s → r ≡ (if nat_lt k (length u) then Some (turn_at u k) else None) → r ≡ None → length s ≤ k
turn_over s u k r same e n = subst (λ v. length v ≤ k) same (either (nat_lt k (length u)) refl (sym n ∙ e))
  where
    either : (t : Bool) → nat_lt k (length u) ≡ t → None ≡ (if t then Some (turn_at u k) else None) → length u ≤ k
    either true h e = cc
    either false h e = grind (arith, nat_tests)

-- a starting point that is pending is not attached
pub begin_is : (files : List NodeRec) (w : Woven) (named : ℕ → List ℕ) (steps root n from : ℕ) (s t u : List Attached) (parent : Option ℕ) → IsSteady files w s → has_node n (list_at w 0) ≡ true
    → u ≡ s → from ≡ length u → parent ≡ (if n == root then Some root else None) → t ≡ s ++ attached_at n parent ∷ [] → turns named steps from t ≡ begin named steps root s n
begin_is files w named steps root n from s t u parent steady there same at is made =
    ap (turns named steps from) (made ∙ ap (λ r. s ++ attached_at n r ∷ []) is) ∙ ap (λ r. turns named steps r (s ++ start_at root n ∷ [])) (at ∙ ap (λ (r : List Attached). length r) same)
    ∙ sym (ap (λ r. if r then s else turns named steps (length s) (s ++ start_at root n ∷ [])) free)
  where
    free : is_attached s n ≡ false
    free = let both : (is_directory_at_place files n && not (is_attached s n)) ≡ true = sym (steady.pending n) ∙ there in grind (arith, nat_tests)

-- a starting point that is put behind those that are pending
pub moved_first : (w v : Woven) (n : ℕ) → 0 < length w.lists → v ≡ put_last (taken_off w n) 0 n → list_at v 0 ≡ without n (list_at w 0) ++ n ∷ []
moved_first w v n some is =
    ap (λ u. list_at u 0) is ∙ get_or-set_same (map (without n) w.lists) 0 _ [] (subst (λ r. 0 < r) (sym (length-map _ _)) some) ∙ ap (λ r. r ++ n ∷ []) (get_or-map (without n) w.lists 0 [])

pub moved_lists : (w v : Woven) (k n : ℕ) → v ≡ put_last (taken_off w n) k n → length v.lists ≡ length w.lists
moved_lists w v k n is = ap (λ (u : Woven). length u.lists) is ∙ length-set _ _ _ ∙ length-map _ _
