-- Entries by directory are the same entries.
use Rattle.std.proofs.Common.{◌≡◌, ◌≢◌, ℕ, ◌==◌, ◌&&◌, ◌||◌, ◌⊎◌, inl, inr, Bool, true, false, cond, List, [], ◌∷◌, ◌++◌, map, length, refl, sym, ◌∙◌, ap, subst, arith, AllPairs, slice_index_or}
use Rattle.std.specs.List.{filter, All}
use Rattle.std.proofs.lemmas.Bool.{cases_eq}
use Rattle.std.proofs.lemmas.Bool.Decides.{nat_tests}
use Rattle.std.proofs.lemmas.List.Elements.{All-nil, All-cons, All-head, All-tail, All-append, All-map, All-filter, All-weaker, filter_passes, filter-append}
use Rattle.std.proofs.lemmas.List.Folds.{list_any-append, list_any-from_Any}
use Rattle.std.proofs.lemmas.List.Kept.{AllPairs-cons, AllPairs-filter}
use Rattle.std.proofs.Math.ListN.{length-map}
use Rattle.xfs_collections.specs.Lists.{has_node, AreOnce}
use Rattle.xfs_dirdata.specs.declared.records.EntryRec.{EntryRec}
use Rattle.xfs_naming.specs.Naming.{entries_in, entries_to}
use Rattle.xfs_naming.specs.Lawful.IsReached.{at_root, by_entry}
use Rattle.xfs_naming.specs.Lawful.{IsReached}
use Rattle.xfs_links.proofs.Joined.{any_through, filter_through}
use Rattle.xfs_links.specs.Hanging.{IsNamedOnce}
use Rattle.xfs_links.specs.Together.{NamesDiffer}
use Rattle.xfs_links.specs.Settled.{untyped, by_directory}
use Rattle.xfs_links.proofs.Tests.{same_test, other_test, not_first, not_second, the_second}
use Rattle.xfs_links.proofs.Different.{pairs_nil, pairs_head, pairs_tail, pairs_append}
use Rattle.xfs_links.proofs.Reaching.{is_way, has_way, reached_by, any_weaker}

-- two tests, one after the other
filter_turned : (p q : EntryRec → Bool) (es : List EntryRec) → filter p (filter q es) ≡ filter q (filter p es)
filter_turned p q [] = refl
filter_turned p q (e ∷ es) = either (p e) refl (q e) refl (filter_turned p q es)
  where
    either : (s : Bool) → p e ≡ s → (t : Bool) → q e ≡ t → filter p (filter q es) ≡ filter q (filter p es) → filter p (cond t (e ∷ filter q es) (filter q es)) ≡ filter q (cond s (e ∷ filter p es) (filter p es))
    either true a true b r = ap (λ s. cond s (e ∷ filter p (filter q es)) (filter p (filter q es))) a ∙ ap (λ xs. e ∷ xs) r ∙ sym (ap (λ t. cond t (e ∷ filter q (filter p es)) (filter q (filter p es))) b)
    either true a false b r = r ∙ sym (ap (λ t. cond t (e ∷ filter q (filter p es)) (filter q (filter p es))) b)
    either false a true b r = ap (λ s. cond s (e ∷ filter p (filter q es)) (filter p (filter q es))) a ∙ r
    either false a false b r = r

-- what holds of all entries
pub all_by : (P : EntryRec → Type 0) (es : List EntryRec) (ds : List ℕ) → All P es → All P (by_directory es ds)
all_by P es [] h = All-nil P
all_by P es (d ∷ ds) h = All-append P (entries_in es d) (by_directory es ds) (All-filter (λ (e : EntryRec). e.dir == d) P es h) (all_by P es ds h)

-- names of one directory
off_dir : (es : List EntryRec) (d : ℕ) (ds : List ℕ) → has_node d ds ≡ false → All (λ (e : EntryRec). e.dir ≢ d) (by_directory es ds)
off_dir es d [] h = All-nil (λ (e : EntryRec). e.dir ≢ d)
off_dir es d (c ∷ ds) h = All-append (λ (e : EntryRec). e.dir ≢ d) (entries_in es c) (by_directory es ds)
    (All-weaker (λ (e : EntryRec). (e.dir == c) ≡ true) (λ (e : EntryRec). e.dir ≢ d) (λ e k same. apart e.dir c d (not_first (c == d) (has_node d ds) h) k same) (entries_in es c) (filter_passes (λ (e : EntryRec). e.dir == c) es))
    (off_dir es d ds (not_second (c == d) (has_node d ds) h))
  where
    apart : (a c d : ℕ) → (c == d) ≡ false → (a == c) ≡ true → a ≡ d → ⊥
    apart a c d k l m = grind (arith, nat_tests)

pub pairs_by : (es : List EntryRec) (ds : List ℕ) → AreOnce ds → AllPairs NamesDiffer es → AllPairs NamesDiffer (by_directory es ds)
pairs_by es [] once h = pairs_nil NamesDiffer
pairs_by es (d ∷ ds) once h = pairs_append NamesDiffer (entries_in es d) (by_directory es ds) (AllPairs-filter NamesDiffer (λ (e : EntryRec). e.dir == d) es h) (pairs_by es ds once.1 h)
    (λ k a l j b m dirs. absurd (off_dir es d ds once.0 j b m (sym dirs ∙ same (slice_index_or (entries_in es d) k a).dir d (filter_passes (λ (e : EntryRec). e.dir == d) es k a l))))
  where
    same : (a b : ℕ) → (a == b) ≡ true → a ≡ b
    same a b k = grind (arith, nat_tests)

-- the one entry that names a file
single : (es : List EntryRec) (n d : ℕ) (e : EntryRec) → entries_to es n ≡ e ∷ [] → entries_to (entries_in es d) n ≡ cond (e.dir == d) (e ∷ []) []
single es n d e one = filter_turned (λ (e : EntryRec). e.ino == n) (λ (e : EntryRec). e.dir == d) es ∙ ap (λ xs. entries_in xs d) one

away : (es : List EntryRec) (n : ℕ) (e : EntryRec) (ds : List ℕ) → entries_to es n ≡ e ∷ [] → has_node e.dir ds ≡ false → entries_to (by_directory es ds) n ≡ []
away es n e [] one h = refl
away es n e (d ∷ ds) one h =
    filter-append (λ (e : EntryRec). e.ino == n) (entries_in es d) (by_directory es ds)
    ∙ ap (λ xs. xs ++ entries_to (by_directory es ds) n) (single es n d e one ∙ ap (λ t. cond t (e ∷ []) []) (turned d e.dir (not_first (d == e.dir) (has_node e.dir ds) h)))
    ∙ away es n e ds one (not_second (d == e.dir) (has_node e.dir ds) h)
  where
    turned : (a b : ℕ) → (a == b) ≡ false → (b == a) ≡ false
    turned a b k = grind (arith, nat_tests)

still : (es : List EntryRec) (n : ℕ) (e : EntryRec) (ds : List ℕ) → entries_to es n ≡ e ∷ [] → AreOnce ds → has_node e.dir ds ≡ true → entries_to (by_directory es ds) n ≡ e ∷ []
still es n e [] one once h = cc
still es n e (d ∷ ds) one once h =
    filter-append (λ (e : EntryRec). e.ino == n) (entries_in es d) (by_directory es ds)
    ∙ ap (λ xs. xs ++ entries_to (by_directory es ds) n) (single es n d e one)
    ∙ elim (cases_eq d e.dir) [
      | inl same ↦ ap (λ t. cond t (e ∷ []) [] ++ entries_to (by_directory es ds) n) (same_test e.dir d (sym same)) ∙ ap (λ xs. e ∷ xs) (away es n e ds one (subst (λ c. has_node c ds ≡ false) same once.0))
      | inr other ↦ ap (λ t. cond t (e ∷ []) [] ++ entries_to (by_directory es ds) n) (other_test e.dir d (λ k. other (sym k)))
          ∙ still es n e ds one once.1 (the_second (d == e.dir) (has_node e.dir ds) (other_test d e.dir other) h)
    ]

pub once_by : (es : List EntryRec) (n p : ℕ) (ds : List ℕ) → IsNamedOnce es n p → AreOnce ds → has_node p ds ≡ true → IsNamedOnce (by_directory es ds) n p
once_by es n p ds (e, one, of) once h = (e, still es n e ds one once (ap (λ c. has_node c ds) of ∙ h), of)

-- the ways
way_in : (es : List EntryRec) (c d i : ℕ) → has_way (entries_in es c) d i ≡ ((c == d) && has_way es d i)
way_in [] c d i = none (c == d)
  where
    none : (t : Bool) → false ≡ (t && false)
    none t = grind (arith, nat_tests)
way_in (e ∷ es) c d i = either (cases_eq e.dir c) (way_in es c d i)
  where
    here : (a b x y z : Bool) → a ≡ b → z ≡ (b && y) → ((a && x) || z) ≡ (b && ((a && x) || y))
    here a b x y z k r = grind (arith, nat_tests)

    further : (a b x y z : Bool) → (b ≡ true → a ≡ false) → z ≡ (b && y) → z ≡ (b && ((a && x) || y))
    further a true x y z k r = r ∙ sym (ap (λ t. (t && x) || y) (k refl))
    further a false x y z k r = r

    both_same : (a c d : ℕ) → a ≡ c → (a == d) ≡ (c == d)
    both_same a c d k = ap (λ m. m == d) k

    not_both : (a c d : ℕ) → (a ≡ c → ⊥) → (c == d) ≡ true → (a == d) ≡ false
    not_both a c d k l = grind (arith, nat_tests)

    either : (e.dir ≡ c) ⊎ (e.dir ≡ c → ⊥) → has_way (entries_in es c) d i ≡ ((c == d) && has_way es d i)
        → has_way (cond (e.dir == c) (e ∷ entries_in es c) (entries_in es c)) d i ≡ ((c == d) && (is_way d i e || has_way es d i))
    either (inl same) r = ap (λ t. has_way (cond t (e ∷ entries_in es c) (entries_in es c)) d i) (same_test e.dir c same)
        ∙ here (e.dir == d) (c == d) (e.ino == i) (has_way es d i) (has_way (entries_in es c) d i) (both_same e.dir c d same) r
    either (inr other) r = ap (λ t. has_way (cond t (e ∷ entries_in es c) (entries_in es c)) d i) (other_test e.dir c other)
        ∙ further (e.dir == d) (c == d) (e.ino == i) (has_way es d i) (has_way (entries_in es c) d i) (not_both e.dir c d other) r

pub way_by : (es : List EntryRec) (ds : List ℕ) (d i : ℕ) → has_way (by_directory es ds) d i ≡ (has_node d ds && has_way es d i)
way_by es [] d i = refl
way_by es (c ∷ ds) d i = list_any-append (is_way d i) (entries_in es c) (by_directory es ds) ∙ ap (λ t. t || has_way (by_directory es ds) d i) (way_in es c d i)
    ∙ ap (λ t. (c == d && has_way es d i) || t) (way_by es ds d i) ∙ plain (c == d) (has_node d ds) (has_way es d i)
  where
    plain : (a b x : Bool) → ((a && x) || (b && x)) ≡ ((a || b) && x)
    plain a b x = grind (arith, nat_tests)

-- an entry that leads is of a directory of which all entries are
pub way_dir : (ds : List ℕ) (es : List EntryRec) (d i : ℕ) → All (λ (e : EntryRec). has_node e.dir ds ≡ true) es → has_way es d i ≡ true → has_node d ds ≡ true
way_dir ds [] d i h k = cc
way_dir ds (e ∷ es) d i h k = either (cases_eq e.dir d) (e.ino == i) k (way_dir ds es d i (All-tail (λ (e : EntryRec). has_node e.dir ds ≡ true) e es h))
  where
    either : (e.dir ≡ d) ⊎ (e.dir ≡ d → ⊥) → (t : Bool) → ((e.dir == d && t) || has_way es d i) ≡ true → (has_way es d i ≡ true → has_node d ds ≡ true) → has_node d ds ≡ true
    either (inl same) t k r = subst (λ c. has_node c ds ≡ true) same (All-head (λ (e : EntryRec). has_node e.dir ds ≡ true) e es h)
    either (inr other) t k r = r (the_second (e.dir == d && t) (has_way es d i) (ap (λ s. s && t) (other_test e.dir d other)) k)

-- a way over some entries is one over others that lead as far
pub reached_through : {es : List EntryRec} {root n : ℕ} (fs : List EntryRec) → ((d i : ℕ) → has_way es d i ≡ true → has_way fs d i ≡ true) → IsReached es root n → IsReached fs root n
reached_through fs f at_root = at_root
reached_through {es} {root} {n} fs f (by_entry {dir = dir} way last) = reached_by fs root dir n (reached_through fs f way)
    (f dir n (list_any-from_Any (is_way dir n) es (any_weaker (λ (e : EntryRec). (e.dir ≡ dir) × (e.ino ≡ n)) (λ (e : EntryRec). is_way dir n e ≡ true) es (λ e k. told e.dir dir e.ino n k.0 k.1) last)))
  where
    told : (a b c d : ℕ) → a ≡ b → c ≡ d → ((a == b) && (c == d)) ≡ true
    told a b c d k l = grind (arith, nat_tests)

-- lists through a function
all_back : {X Y : Type 0} (P : Y → Type 0) (f : X → Y) (xs : List X) → All P (map f xs) → All (λ x. P (f x)) xs
all_back P f [] h = All-nil (λ x. P (f x))
all_back P f (x ∷ xs) h = All-cons (λ x. P (f x)) x xs (All-head P (f x) (map f xs) h) (all_back P f xs (All-tail P (f x) (map f xs) h))

pairs_on : {X Y : Type 0} (R : Y → Y → Type 0) (f : X → Y) (xs : List X) → AllPairs (λ x y. R (f x) (f y)) xs → AllPairs R (map f xs)
pairs_on R f [] h = pairs_nil R
pairs_on R f (x ∷ xs) h = AllPairs-cons R (f x) (map f xs) (All-map (R (f x)) f xs (pairs_head (λ x y. R (f x) (f y)) x xs h)) (pairs_on R f xs (pairs_tail (λ x y. R (f x) (f y)) x xs h))

pairs_back : {X Y : Type 0} (R : Y → Y → Type 0) (f : X → Y) (xs : List X) → AllPairs R (map f xs) → AllPairs (λ x y. R (f x) (f y)) xs
pairs_back R f [] h = pairs_nil (λ x y. R (f x) (f y))
pairs_back R f (x ∷ xs) h = AllPairs-cons (λ x y. R (f x) (f y)) x xs (all_back (R (f x)) f xs (pairs_head R (f x) (map f xs) h)) (pairs_back R f xs (pairs_tail R (f x) (map f xs) h))

as_many : (es : List EntryRec) (n : ℕ) → length (entries_to es n) ≡ length (entries_to (map untyped es) n)
as_many es n = sym (length-map _ _) ∙ ap (λ (zs : List EntryRec). length zs) (sym (filter_through untyped (λ (e : EntryRec). e.ino == n) es))

-- entries that are the same but for their types
module _ (xs ys : List EntryRec) (same : map untyped xs ≡ map untyped ys) where
  -- what speaks of directory, name and number alone
  pub all_untyped : (Q : ℕ → List ℕ → ℕ → Type 0) → All (λ (e : EntryRec). Q e.dir e.name e.ino) ys → All (λ (e : EntryRec). Q e.dir e.name e.ino) xs
  all_untyped Q h = all_back (λ (e : EntryRec). Q e.dir e.name e.ino) untyped xs
      (subst (λ zs. All (λ (e : EntryRec). Q e.dir e.name e.ino) zs) (sym same) (All-map (λ (e : EntryRec). Q e.dir e.name e.ino) untyped ys h))

  pub pairs_untyped : AllPairs NamesDiffer ys → AllPairs NamesDiffer xs
  pairs_untyped h = pairs_back NamesDiffer untyped xs (subst (λ zs. AllPairs NamesDiffer zs) (sym same) (pairs_on NamesDiffer untyped ys h))

  pub as_many_untyped : (n : ℕ) → length (entries_to xs n) ≡ length (entries_to ys n)
  as_many_untyped n = as_many xs n ∙ ap (λ zs. length (entries_to zs n)) same ∙ sym (as_many ys n)

  pub way_untyped : (d i : ℕ) → has_way xs d i ≡ has_way ys d i
  way_untyped d i = sym (any_through untyped (is_way d i) xs) ∙ ap (λ zs. has_way zs d i) same ∙ any_through untyped (is_way d i) ys
