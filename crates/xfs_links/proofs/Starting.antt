-- The starting points.
use Rattle.std.proofs.Common.{◌≡◌, ◌≢◌, ℕ, ◌+◌, ◌<◌, ◌==◌, ◌&&◌, ◌||◌, ◌⊎◌, inl, inr, Bool, true, false, not, cond, nat_lt, nat_le, List, [], ◌∷◌, ◌++◌, length, zero, suc, refl, sym, ◌∙◌, ap, arith, slice_index_or}
use Rattle.std.specs.List.{filter, All, range_with_len}
use Rattle.std.proofs.lemmas.Bool.{cases_eq, cases_Bool}
use Rattle.std.proofs.lemmas.Bool.Decides.{nat_tests}
use Rattle.std.proofs.lemmas.List.Folds.{list_any-append}
use Rattle.xfs_collections.specs.Lists.{Woven, has_node, AreOnce, list_at}
use Rattle.xfs_links.specs.declared.records.NodeRec.{NodeRec}
use Rattle.xfs_links.specs.declared.candidates.Candidate.{Candidate}
use Rattle.xfs_links.specs.Entries.{is_directory_at_place}
use Rattle.xfs_links.specs.Places.{is_target, are_equal, starts_at, IsSteady}

pub has_filter : (f : ℕ → Bool) (p : ℕ) (xs : List ℕ) → has_node p (filter f xs) ≡ (f p && has_node p xs)
has_filter f p [] = none (f p)
  where
    none : (t : Bool) → false ≡ (t && false)
    none t = grind (arith, nat_tests)
has_filter f p (x ∷ xs) = either (f x) refl (x == p) refl (has_filter f p xs)
  where
    bring : f x ≡ true → (x == p) ≡ true → f p ≡ true
    bring e k = let same : x ≡ p = grind (arith, nat_tests) in sym (ap f same) ∙ e

    refuse : f x ≡ false → (x == p) ≡ true → f p ≡ false
    refuse e k = let same : x ≡ p = grind (arith, nat_tests) in sym (ap f same) ∙ e

    either : (t : Bool) → f x ≡ t → (u : Bool) → (x == p) ≡ u → has_node p (filter f xs) ≡ (f p && has_node p xs) → has_node p (cond t (x ∷ filter f xs) (filter f xs)) ≡ (f p && (u || has_node p xs))
    either true e true k h = ap (λ r. r || has_node p (filter f xs)) k ∙ sym (ap (λ r. r && true) (bring e k))
    either true e false k h = ap (λ r. r || has_node p (filter f xs)) k ∙ h
    either false e true k h = h ∙ ap (λ r. r && has_node p xs) (refuse e k) ∙ sym (ap (λ r. r && true) (refuse e k))
    either false e false k h = h

pub once_filter : (f : ℕ → Bool) (xs : List ℕ) → AreOnce xs → AreOnce (filter f xs)
once_filter f [] o = tt
once_filter f (x ∷ xs) o = either (f x) (once_filter f xs o.1)
  where
    gone : (t u : Bool) → u ≡ false → (t && u) ≡ false
    gone t u e = grind (arith, nat_tests)

    either : (t : Bool) → AreOnce (filter f xs) → AreOnce (cond t (x ∷ filter f xs) (filter f xs))
    either true h = (has_filter f x xs ∙ gone (f x) (has_node x xs) o.0, h)
    either false h = h

pub once_append : (xs ys : List ℕ) → AreOnce xs → AreOnce ys → ((p : ℕ) → has_node p xs ≡ true → has_node p ys ≡ false) → AreOnce (xs ++ ys)
once_append [] ys o q h = q
once_append (x ∷ xs) ys o q h = (list_any-append (λ z. z == x) xs ys ∙ neither (has_node x xs) (has_node x ys) o.0 (h x (grind (arith, nat_tests))), once_append xs ys o.1 q (λ p m. h p (either p m)))
  where
    neither : (t u : Bool) → t ≡ false → u ≡ false → (t || u) ≡ false
    neither t u e k = grind (arith, nat_tests)

    either : (p : ℕ) → has_node p xs ≡ true → ((x == p) || has_node p xs) ≡ true
    either p m = grind (arith, nat_tests)

pub has_range : (a n p : ℕ) → has_node p (range_with_len a n) ≡ (nat_le a p && nat_lt p (a + n))
has_range a zero p = grind (arith, nat_tests)
has_range a (suc n) p = let rest : has_node p (range_with_len (a + 1) n) ≡ (nat_le (a + 1) p && nat_lt p (a + 1 + n)) = has_range (a + 1) n p in grind (arith, nat_tests)

pub once_range : (a n : ℕ) → AreOnce (range_with_len a n)
once_range a zero = tt
once_range a (suc n) = (has_range (a + 1) n a ∙ above, once_range (a + 1) n)
  where
    above : (nat_le (a + 1) a && nat_lt a (a + 1 + n)) ≡ false
    above = grind (arith, nat_tests)

pub filter_same : (f g : ℕ → Bool) (xs : List ℕ) → ((x : ℕ) → has_node x xs ≡ true → f x ≡ g x) → filter f xs ≡ filter g xs
filter_same f g [] h = refl
filter_same f g (x ∷ xs) h = ap (λ r. cond r (x ∷ filter f xs) (filter f xs)) (h x (grind (arith, nat_tests))) ∙ ap (λ r. cond (g x) (x ∷ r) r) (filter_same f g xs (λ p m. h p (either p m)))
  where
    either : (p : ℕ) → has_node p xs ≡ true → ((x == p) || has_node p xs) ≡ true
    either p m = grind (arith, nat_tests)

-- only a place among the files has a directory
pub place_low : (files : List NodeRec) (p : ℕ) → is_directory_at_place files p ≡ true → p < length files
place_low [] p e = cc
place_low (f ∷ fs) zero e = omega arith
place_low (f ∷ fs) (suc p) e = omega (arith, place_low fs p e)

abbrev pub is_first : List NodeRec → List Candidate → ℕ → ℕ → Bool
is_first files cs root p = is_directory_at_place files p && (not (p == root) && not (is_target cs p))

abbrev pub is_later : List NodeRec → List Candidate → ℕ → ℕ → Bool
is_later files cs root p = is_directory_at_place files p && (not (p == root) && is_target cs p)

-- the starting points are all directories
pub starts_has : (files : List NodeRec) (cs : List Candidate) (root p : ℕ) → is_directory_at_place files root ≡ true → has_node p (starts_at files cs root) ≡ is_directory_at_place files p
starts_has files cs root p dir =
    list_any-append (λ z. z == p) (root ∷ filter (is_first files cs root) (range_with_len 0 (length files))) (filter (is_later files cs root) (range_with_len 0 (length files)))
    ∙ ap (λ r. ((root == p) || r) || has_node p (filter (is_later files cs root) (range_with_len 0 (length files)))) (has_filter (is_first files cs root) p (range_with_len 0 (length files)))
    ∙ ap (λ r. ((root == p) || (is_first files cs root p && has_node p (range_with_len 0 (length files)))) || r) (has_filter (is_later files cs root) p (range_with_len 0 (length files)))
    ∙ ap (λ r. ((root == p) || (is_first files cs root p && r)) || (is_later files cs root p && r)) (has_range 0 (length files) p)
    ∙ elim (cases_eq p root) [ inl e ↦ at_root e | inr n ↦ elsewhere n (cases_Bool (is_directory_at_place files p)) ]
  where
    at_root : p ≡ root → (((root == p) || (is_first files cs root p && (nat_le 0 p && nat_lt p (0 + length files)))) || (is_later files cs root p && (nat_le 0 p && nat_lt p (0 + length files)))) ≡ is_directory_at_place files p
    at_root e = sum (root == p) (is_first files cs root p && (nat_le 0 p && nat_lt p (0 + length files))) (is_later files cs root p && (nat_le 0 p && nat_lt p (0 + length files))) (grind (arith, nat_tests)) ∙ sym (ap (is_directory_at_place files) e ∙ dir)
      where
        sum : (a b c : Bool) → a ≡ true → ((a || b) || c) ≡ true
        sum a b c h = grind (arith, nat_tests)

    elsewhere : p ≢ root → (is_directory_at_place files p ≡ true) ⊎ (is_directory_at_place files p ≡ false) → (((root == p) || (is_first files cs root p && (nat_le 0 p && nat_lt p (0 + length files)))) || (is_later files cs root p && (nat_le 0 p && nat_lt p (0 + length files)))) ≡ is_directory_at_place files p
    elsewhere n (inl t) = plain (root == p) (p == root) (is_directory_at_place files p) (is_target cs p) (nat_le 0 p && nat_lt p (0 + length files)) (grind (arith, nat_tests)) (grind (arith, nat_tests)) (low (place_low files p t))
      where
        low : p < length files → (nat_le 0 p && nat_lt p (0 + length files)) ≡ true
        low h = grind (arith, nat_tests)

        plain : (a b t u r : Bool) → a ≡ false → b ≡ false → r ≡ true → ((a || ((t && (not b && not u)) && r)) || ((t && (not b && u)) && r)) ≡ t
        plain a b t u r e k h = grind (arith, nat_tests)
    elsewhere n (inr f) = none (root == p) (p == root) (is_directory_at_place files p) (is_target cs p) (nat_le 0 p && nat_lt p (0 + length files)) (grind (arith, nat_tests)) f
      where
        none : (a b t u r : Bool) → a ≡ false → t ≡ false → ((a || ((t && (not b && not u)) && r)) || ((t && (not b && u)) && r)) ≡ t
        none a b t u r e k = grind (arith, nat_tests)

pub starts_once : (files : List NodeRec) (cs : List Candidate) (root : ℕ) → AreOnce (starts_at files cs root)
starts_once files cs root =
    once_append (root ∷ filter (is_first files cs root) (range_with_len 0 (length files))) (filter (is_later files cs root) (range_with_len 0 (length files))) (
      has_filter (is_first files cs root) root (range_with_len 0 (length files)) ∙ not_root (is_directory_at_place files root) (root == root) (is_target cs root) (has_node root (range_with_len 0 (length files))) (grind (arith, nat_tests)),
      once_filter (is_first files cs root) (range_with_len 0 (length files)) (once_range 0 (length files)),
    )
    (once_filter (is_later files cs root) (range_with_len 0 (length files)) (once_range 0 (length files)))
    apart
  where
    not_root : (t r u v : Bool) → r ≡ true → ((t && (not r && not u)) && v) ≡ false
    not_root t r u v e = grind (arith, nat_tests)

    apart : (p : ℕ) → has_node p (root ∷ filter (is_first files cs root) (range_with_len 0 (length files))) ≡ true → has_node p (filter (is_later files cs root) (range_with_len 0 (length files))) ≡ false
    apart p h = has_filter (is_later files cs root) p (range_with_len 0 (length files))
        ∙ either (root == p) (p == root) (is_directory_at_place files p) (is_target cs p) (has_node p (range_with_len 0 (length files))) (grind (arith, nat_tests))
        (sym (ap (λ r. (root == p) || r) (has_filter (is_first files cs root) p (range_with_len 0 (length files)))) ∙ h)
      where
        either : (a b t u v : Bool) → a ≡ b → (a || ((t && (not b && not u)) && v)) ≡ true → ((t && (not b && u)) && v) ≡ false
        either a b t u v e k = grind (arith, nat_tests)

-- each of them is among the files
pub all_has : (n : ℕ) (xs : List ℕ) → ((p : ℕ) → has_node p xs ≡ true → p < n) → All (λ p. p < n) xs
all_has n [] h k d l = absurd (omega arith)
all_has n (x ∷ xs) h zero d l = h x (grind (arith, nat_tests))
all_has n (x ∷ xs) h (suc k) d l = all_has n xs (λ p m. h p (either p m)) k d (omega arith)
  where
    either : (p : ℕ) → has_node p xs ≡ true → ((x == p) || has_node p xs) ≡ true
    either p m = grind (arith, nat_tests)

pub starts_inside : (files : List NodeRec) (cs : List Candidate) (root : ℕ) → is_directory_at_place files root ≡ true → All (λ p. p < length files) (starts_at files cs root)
starts_inside files cs root dir = all_has (length files) (starts_at files cs root) (λ p h. place_low files p (sym (starts_has files cs root p dir) ∙ h))

-- when all of them are pending, none is attached
pub starts_steady : (files : List NodeRec) (cs : List Candidate) (root : ℕ) (w : Woven) → is_directory_at_place files root ≡ true → w.nodes ≡ length files → length w.lists ≡ 3 → list_at w 0 ≡ starts_at files cs root → IsSteady files w []
starts_steady files cs root w dir n l e = record {
  nodes = n;
  lists = l;
  pending = λ p. ap (has_node p) e ∙ starts_has files cs root p dir ∙ plain (is_directory_at_place files p);
}
  where
    plain : (t : Bool) → t ≡ (t && true)
    plain t = grind (arith, nat_tests)

-- the test of the code, by the flags of the named places
abbrev pub is_flagged : List NodeRec → List Bool → ℕ → Bool → ℕ → Bool
is_flagged files named root t p = is_directory_at_place files p && (not (p == root) && are_equal t (slice_index_or named p false))

pub starts_made : (files : List NodeRec) (cs : List Candidate) (root : ℕ) (named : List Bool) (none first second third : List ℕ)
    → ((p : ℕ) → p < length files → slice_index_or named p false ≡ is_target cs p) → none ≡ [] → first ≡ none ++ root ∷ []
    → second ≡ first ++ filter (is_flagged files named root false) (range_with_len 0 (length files)) → third ≡ second ++ filter (is_flagged files named root true) (range_with_len 0 (length files))
    → third ≡ starts_at files cs root
starts_made files cs root named none first second third flags a b c d =
    d ∙ ap (λ r. r ++ filter (is_flagged files named root true) (range_with_len 0 (length files))) (c ∙ ap (λ r. r ++ filter (is_flagged files named root false) (range_with_len 0 (length files))) (b ∙ ap (λ r. r ++ root ∷ []) a))
    ∙ ap (λ r. (root ∷ r) ++ filter (is_flagged files named root true) (range_with_len 0 (length files))) (filter_same (is_flagged files named root false) (is_first files cs root) (range_with_len 0 (length files)) (λ p h. ap (λ r. is_directory_at_place files p && (not (p == root) && not r)) (flags p (low p h))))
    ∙ ap (λ r. (root ∷ filter (is_first files cs root) (range_with_len 0 (length files))) ++ r) (filter_same (is_flagged files named root true) (is_later files cs root) (range_with_len 0 (length files)) (λ p h. ap (λ r. is_directory_at_place files p && (not (p == root) && r)) (flags p (low p h))))
  where
    low : (p : ℕ) → has_node p (range_with_len 0 (length files)) ≡ true → p < length files
    low p h = let e : (nat_le 0 p && nat_lt p (0 + length files)) ≡ true = sym (has_range 0 (length files) p) ∙ h in grind (arith, nat_tests)
