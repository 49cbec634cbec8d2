-- The candidates of one directory, which stand one behind the other.
use Rattle.std.proofs.Common.{◌≡◌, ℕ, ◌+◌, ◌-◌, ◌<◌, ◌≤◌, ◌==◌, Bool, true, false, not, cond, leb, ltb, List, [], ◌∷◌, ◌++◌, length, take, drop, zero, suc, refl, sym, ◌∙◌, ap, subst, arith, add-one, add-zero, zero-add, append_assoc, append-nil, ◌||◌, map, Option, None, Some, slice_index_or}
use Rattle.std.specs.List.{filter, filter_map, cons_option, list_any, All, range_with_len}
use Rattle.std.proofs.lemmas.List.Folds.{list_any-append}
use Rattle.std.specs.List.Sorted.{IsNonDecreasingBy, IsPartitionedBy, IsPartitionPoint}
use Rattle.std.proofs.lemmas.Bool.Decides.{nat_tests}
use Rattle.std.proofs.lemmas.List.Elements.{filter-append, All-filter}
use Rattle.std.proofs.lemmas.List.{get_or-drop, map-append}
use Rattle.std.proofs.Common.{length-drop}
use Rattle.xfs_collections.specs.Lists.{has_node, AreOnce, without}
use Rattle.xfs_links.specs.declared.candidates.Candidate.{Candidate}
use Rattle.xfs_links.specs.Places.{candidates_at}

abbrev pub no_candidate : Candidate
no_candidate = record { entry = 0; directory = 0; target = 0 }

abbrev pub directory_of : List Candidate → ℕ → ℕ
directory_of cs k = (slice_index_or cs k no_candidate).directory

pub parted_below : (cs : List Candidate) (d : ℕ) → IsNonDecreasingBy (λ (c : Candidate). c.directory) cs → IsPartitionedBy (λ (c : Candidate). ltb c.directory d) cs
parted_below cs d sorted i j e le inside t = grind (arith, nat_tests, sorted i j e le inside, t)

-- those in front of a place, of which none has the directory, may be left out
pub low_group : (cs : List Candidate) (low d : ℕ) → ((k : ℕ) → k < low → directory_of cs k < d) → low ≤ length cs → candidates_at (drop low cs) d ≡ candidates_at cs d
low_group [] zero d e h = refl
low_group [] (suc low) d e h = refl
low_group (c ∷ cs) zero d e h = refl
low_group (c ∷ cs) (suc low) d e h =
    let off : (c.directory == d) ≡ false = grind (arith, nat_tests, e 0 (omega arith)) in
    low_group cs low d (λ k l. e (suc k) (omega arith)) (omega arith) ∙ sym (ap (λ r. cond r (c ∷ candidates_at cs d) (candidates_at cs d)) off)

-- of candidates from the directory on those up to a place have it
pub high_group : (cs : List Candidate) (n d : ℕ) → ((k : ℕ) → k < length cs → d ≤ directory_of cs k)
    → ((k : ℕ) → k < n → directory_of cs k ≤ d) → ((k : ℕ) → n ≤ k → k < length cs → d < directory_of cs k) → n ≤ length cs → take n cs ≡ candidates_at cs d
high_group [] zero d f g h b = refl
high_group [] (suc n) d f g h b = refl
high_group (c ∷ cs) zero d f g h b =
    let off : (c.directory == d) ≡ false = grind (arith, nat_tests, h 0 (omega arith) (omega arith)) in
    high_group cs zero d (λ k l. f (suc k) (omega arith)) (λ k l. absurd (omega arith)) (λ k l m. h (suc k) (omega arith) (omega arith)) (omega arith) ∙ sym (ap (λ r. cond r (c ∷ candidates_at cs d) (candidates_at cs d)) off)
high_group (c ∷ cs) (suc n) d f g h b =
    let on : (c.directory == d) ≡ true = grind (arith, nat_tests, f 0 (omega arith), g 0 (omega arith)) in
    ap (λ (r : List Candidate). c ∷ r) (high_group cs n d (λ k l. f (suc k) (omega arith)) (λ k l. g (suc k) (omega arith)) (λ k l m. h (suc k) (omega arith) (omega arith)) (omega arith))
    ∙ sym (ap (λ r. cond r (c ∷ candidates_at cs d) (candidates_at cs d)) on)

pub sorted_rest : (cs : List Candidate) (low : ℕ) → IsNonDecreasingBy (λ (c : Candidate). c.directory) cs → IsNonDecreasingBy (λ (c : Candidate). c.directory) (drop low cs)
sorted_rest cs low sorted i j d e h =
    subst (λ r. r.directory ≤ (slice_index_or (drop low cs) j d).directory) (sym (get_or-drop low cs i d))
    (subst (λ r. (slice_index_or cs (low + i) d).directory ≤ r.directory) (sym (get_or-drop low cs j d)) (sorted (low + i) (low + j) d (omega arith) (omega (arith, simp length-drop at h))))

-- both together
pub found_group : (cs : List Candidate) (low n d : ℕ) → low ≤ length cs → n ≤ length (drop low cs)
    → IsPartitionPoint (λ (c : Candidate). ltb c.directory d ≡ true) (λ (c : Candidate). ltb c.directory d ≡ false) cs low
    → IsPartitionPoint (λ (c : Candidate). leb c.directory d ≡ true) (λ (c : Candidate). leb c.directory d ≡ false) (drop low cs) n
    → take n (drop low cs) ≡ candidates_at cs d
found_group cs low n d b m p q =
    high_group (drop low cs) n d
    (λ k l. let e : ltb (directory_of cs (low + k)) d ≡ false = p.1 (low + k) no_candidate (omega arith) (omega (arith, simp length-drop at l)) in
    subst (λ r. d ≤ r.directory) (sym (get_or-drop low cs k no_candidate)) (grind (arith, nat_tests)))
    (λ k l. let e : leb (directory_of (drop low cs) k) d ≡ true = q.0 k no_candidate (omega arith) l in grind (arith, nat_tests))
    (λ k l g. let e : leb (directory_of (drop low cs) k) d ≡ false = q.1 k no_candidate l g in grind (arith, nat_tests))
    m
    ∙ low_group cs low d (λ k l. let e : ltb (directory_of cs k) d ≡ true = p.0 k no_candidate (omega arith) l in grind (arith, nat_tests)) b

-- one number more of a range
range_longer : (a n : ℕ) → range_with_len a (suc n) ≡ range_with_len a n ++ (a + n) ∷ []
range_longer a zero = ap (λ k. k ∷ []) (the_same a)
  where
    the_same : (a : ℕ) → a ≡ a + 0
    the_same a = omega arith
range_longer a (suc n) = ap (λ r. a ∷ r) (range_longer (a + 1) n ∙ ap (λ k. range_with_len (a + 1) n ++ k ∷ []) (the_same a n))
  where
    the_same : (a n : ℕ) → a + 1 + n ≡ a + suc n
    the_same a n = omega arith

pub range_more : (a n : ℕ) → range_with_len a (n + 1) ≡ range_with_len a n ++ (a + n) ∷ []
range_more a n = ap (range_with_len a) (add-one n) ∙ range_longer a n

pub picked_more : (f : ℕ → Bool) (n : ℕ) → filter f (range_with_len 0 (n + 1)) ≡ filter f (range_with_len 0 n) ++ cond (f n) (n ∷ []) []
picked_more f n = ap (filter f) (range_more 0 n ∙ ap (λ k. range_with_len 0 n ++ k ∷ []) (the_same n)) ∙ filter-append f (range_with_len 0 n) (n ∷ [])
  where
    the_same : (n : ℕ) → 0 + n ≡ n
    the_same n = omega arith

-- a list in which each stands once, up to a place
pub once_before : (xs : List ℕ) (i : ℕ) → AreOnce xs → i < length xs → has_node (slice_index_or xs i 0) (take i xs) ≡ false
once_before [] i o h = absurd (omega arith)
once_before (x ∷ xs) zero o h = refl
once_before (x ∷ xs) (suc i) o h =
    let rest : has_node (slice_index_or xs i 0) (take i xs) ≡ false = once_before xs i o.1 (omega arith) in
    let off : (x == slice_index_or xs i 0) ≡ false = apart x xs i o.0 (omega arith) in
    grind (arith, nat_tests)
  where
    apart : (x : ℕ) (ys : List ℕ) (i : ℕ) → has_node x ys ≡ false → i < length ys → (x == slice_index_or ys i 0) ≡ false
    apart x [] i e h = absurd (omega arith)
    apart x (y ∷ ys) zero e h = grind (arith, nat_tests)
    apart x (y ∷ ys) (suc i) e h = apart x ys i (grind (arith, nat_tests)) (omega arith)

pub without_absent : (x : ℕ) (xs : List ℕ) → has_node x xs ≡ false → without x xs ≡ xs
without_absent x [] h = refl
without_absent x (y ∷ ys) h =
    let off : (y == x) ≡ false = grind (arith, nat_tests) in
    let rest : has_node x ys ≡ false = grind (arith, nat_tests) in
    ap (λ r. cond (not r) (y ∷ without x ys) (without x ys)) off ∙ ap (λ r. y ∷ r) (without_absent x ys rest)

-- the files that the candidates of a directory name are among the files
pub targets_inside : (cs : List Candidate) (d n : ℕ) → All (λ (c : Candidate). c.target < n) cs → All (λ (c : Candidate). c.target < n) (candidates_at cs d)
targets_inside cs d n h = All-filter (λ (c : Candidate). c.directory == d) (λ (c : Candidate). c.target < n) cs h

pub picked_next : (f : ℕ → Bool) (n : ℕ) (front xs ys : List ℕ) → f n ≡ true → xs ≡ front ++ filter f (range_with_len 0 n) → ys ≡ xs ++ n ∷ [] → ys ≡ front ++ filter f (range_with_len 0 (n + 1))
picked_next f n front xs ys t is push =
    push ∙ ap (λ r. r ++ n ∷ []) is ∙ append_assoc front (filter f (range_with_len 0 n)) (n ∷ [])
    ∙ ap (λ r. front ++ r) (sym (picked_more f n ∙ ap (λ r. filter f (range_with_len 0 n) ++ cond r (n ∷ []) []) t))

pub picked_not : (f : ℕ → Bool) (n : ℕ) (front xs : List ℕ) → f n ≡ false → xs ≡ front ++ filter f (range_with_len 0 n) → xs ≡ front ++ filter f (range_with_len 0 (n + 1))
picked_not f n front xs t is =
    is ∙ ap (λ r. front ++ r) (sym (picked_more f n ∙ ap (λ r. filter f (range_with_len 0 n) ++ cond r (n ∷ []) []) t ∙ append-nil (filter f (range_with_len 0 n))))

pub any_more : (f : ℕ → Bool) (n : ℕ) → list_any f (range_with_len 0 n) ≡ false → f n ≡ false → list_any f (range_with_len 0 (n + 1)) ≡ false
any_more f n h t = ap (list_any f) (range_more 0 n ∙ ap (λ k. range_with_len 0 n ++ k ∷ []) (the_same n)) ∙ list_any-append f (range_with_len 0 n) (n ∷ []) ∙ neither (list_any f (range_with_len 0 n)) (f n) h t
  where
    the_same : (n : ℕ) → 0 + n ≡ n
    the_same n = omega arith

    neither : (p q : Bool) → p ≡ false → q ≡ false → (p || (q || false)) ≡ false
    neither p q h t = grind (arith, nat_tests)

any_from : (f : ℕ → Bool) (a k m : ℕ) → f (a + k) ≡ true → list_any f (range_with_len a (suc (k + m))) ≡ true
any_from f a zero m e = either (f a) (sym (ap f (add-zero a)) ∙ e)
  where
    either : (t : Bool) → t ≡ true → (t || list_any f (range_with_len (a + 1) (zero + m))) ≡ true
    either t e = ap (λ r. r || list_any f (range_with_len (a + 1) (zero + m))) e
any_from f a (suc k) m e = either (f a) (subst (λ r. list_any f (range_with_len (a + 1) r) ≡ true) (longer k m) (any_from f (a + 1) k m (ap f (moved a k) ∙ e)))
  where
    longer : (k m : ℕ) → suc (k + m) ≡ suc k + m
    longer k m = omega arith

    moved : (a k : ℕ) → a + 1 + k ≡ a + suc k
    moved a k = omega arith

    either : (t : Bool) → list_any f (range_with_len (a + 1) (suc k + m)) ≡ true → (t || list_any f (range_with_len (a + 1) (suc k + m))) ≡ true
    either true e = refl
    either false e = e

pub any_here : (f : ℕ → Bool) (p n : ℕ) → p < n → f p ≡ true → list_any f (range_with_len 0 n) ≡ true
any_here f p n h t = subst (λ r. list_any f (range_with_len 0 r) ≡ true) (the_same p n h) (any_from f 0 p (n - suc p) (ap f (zero-add p) ∙ t))
  where
    the_same : (p n : ℕ) → p < n → suc (p + (n - suc p)) ≡ n
    the_same p n h = omega arith

-- one more that is mapped, or passed over
pub mapped_next : {X : Type 0} (g : ℕ → X) (f : ℕ → Bool) (n : ℕ) (xs ys : List X) (y : X) → f n ≡ true → xs ≡ map g (filter f (range_with_len 0 n)) → ys ≡ xs ++ y ∷ [] → y ≡ g n
    → ys ≡ map g (filter f (range_with_len 0 (n + 1)))
mapped_next g f n xs ys y t is push item =
    push ∙ ap (λ r. r ++ y ∷ []) is ∙ ap (λ r. map g (filter f (range_with_len 0 n)) ++ r ∷ []) item ∙ sym (map-append g (filter f (range_with_len 0 n)) (n ∷ []))
    ∙ ap (map g) (sym (picked_more f n ∙ ap (λ r. filter f (range_with_len 0 n) ++ cond r (n ∷ []) []) t))

pub mapped_not : {X : Type 0} (g : ℕ → X) (f : ℕ → Bool) (n : ℕ) (xs : List X) → f n ≡ false → xs ≡ map g (filter f (range_with_len 0 n)) → xs ≡ map g (filter f (range_with_len 0 (n + 1)))
mapped_not g f n xs t is = is ∙ ap (map g) (sym (picked_more f n ∙ ap (λ r. filter f (range_with_len 0 n) ++ cond r (n ∷ []) []) t ∙ append-nil (filter f (range_with_len 0 n))))

gathered : {X : Type 0} (h : ℕ → Option X) (xs : List ℕ) (n : ℕ) → filter_map h (xs ++ n ∷ []) ≡ filter_map h xs ++ cons_option (h n) []
gathered h [] n = refl
gathered h (x ∷ xs) n = ap (cons_option (h x)) (gathered h xs n) ∙ either (h x)
  where
    either : (o : Option _) → cons_option o (filter_map h xs ++ cons_option (h n) []) ≡ cons_option o (filter_map h xs) ++ cons_option (h n) []
    either None = refl
    either (Some y) = refl

gathered_more : {X : Type 0} (h : ℕ → Option X) (n : ℕ) → filter_map h (range_with_len 0 (n + 1)) ≡ filter_map h (range_with_len 0 n) ++ cons_option (h n) []
gathered_more h n = ap (filter_map h) (range_more 0 n ∙ ap (λ k. range_with_len 0 n ++ k ∷ []) (the_same n)) ∙ gathered h (range_with_len 0 n) n
  where
    the_same : (n : ℕ) → 0 + n ≡ n
    the_same n = omega arith

pub gathered_next : {X : Type 0} (h : ℕ → Option X) (n : ℕ) (xs ys : List X) (y : X) → h n ≡ Some y → xs ≡ filter_map h (range_with_len 0 n) → ys ≡ xs ++ y ∷ [] → ys ≡ filter_map h (range_with_len 0 (n + 1))
gathered_next h n xs ys y t is push = push ∙ ap (λ r. r ++ y ∷ []) is ∙ sym (gathered_more h n ∙ ap (λ r. filter_map h (range_with_len 0 n) ++ cons_option r []) t)

pub gathered_not : {X : Type 0} (h : ℕ → Option X) (n : ℕ) (xs : List X) → h n ≡ None → xs ≡ filter_map h (range_with_len 0 n) → xs ≡ filter_map h (range_with_len 0 (n + 1))
gathered_not h n xs t is = is ∙ sym (gathered_more h n ∙ ap (λ r. filter_map h (range_with_len 0 n) ++ cons_option r []) t ∙ append-nil (filter_map h (range_with_len 0 n)))
