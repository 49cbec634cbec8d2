-- Each attached directory comes behind its parent, which names it.
use Rattle.std.proofs.Common.{◌≡◌, ℕ, ◌+◌, ◌<◌, ◌==◌, ◌&&◌, not, ◌⊎◌, inl, inr, Bool, true, false, nat_lt, List, [], ◌∷◌, ◌++◌, length, zero, suc, refl, sym, ◌∙◌, subst, arith, Option, None, Some, IfSome, if◌then◌else◌, append_assoc, append-nil}
use Rattle.std.specs.List.{filter}
use Rattle.std.proofs.lemmas.Bool.Decides.{nat_tests}
use Rattle.xfs_collections.specs.Lists.{has_node}
use Rattle.xfs_dirdata.specs.declared.records.EntryRec.{EntryRec}
use Rattle.xfs_links.specs.declared.records.NodeRec.{NodeRec}
use Rattle.xfs_links.specs.declared.walk.Attached.{Attached}
use Rattle.xfs_links.specs.Entries.{candidate_entries}
use Rattle.xfs_links.specs.Walk.{is_attached, attached_at, see, see_all, turn_at, turns, start_at, begin, walk, attached_parent}
use Rattle.xfs_links.specs.Connected.{has_entry, named_by, directory_numbers, starts, attached_directories}
use Rattle.xfs_links.proofs.Attaching.{grown_see}
use Rattle.xfs_links.proofs.Tests.{same_test, or_true, first_here}
use Rattle.xfs_links.specs.Hanging.{AreBehindParents}

-- its parent was attached before it, and has an entry that names it
abbrev pub IsHung : (ℕ → List ℕ) → ℕ → List Attached → Attached → Type 0
IsHung named root before a = IfSome a.parent (λ p. ((a.directory ≡ root) × (p ≡ root)) ⊎ ((is_attached before p ≡ true) × (has_node a.directory (named p) ≡ true)))

abbrev pub AreHung : (ℕ → List ℕ) → ℕ → List Attached → List Attached → Type 0
AreHung named root before [] = Unit {0}
AreHung named root before (a ∷ rest) = IsHung named root before a × AreHung named root (before ++ a ∷ []) rest

-- what one more that is attached does not change, the whole walk does not
module _ (P : List Attached → Type 0) (more : (s : List Attached) (a : Attached) → P s → P (s ++ a ∷ [])) where
  kept_see : (d : ℕ) (s : List Attached) (n : ℕ) → P s → P (see d s n)
  kept_see d s n h = either (is_attached s n)
    where
      either : (t : Bool) → P (if t then s else (s ++ attached_at n (Some d) ∷ []))
      either true = h
      either false = more s (attached_at n (Some d)) h

  kept_all : (d : ℕ) (s : List Attached) (ns : List ℕ) → P s → P (see_all d s ns)
  kept_all d s [] h = h
  kept_all d s (n ∷ ns) h = kept_all d (see d s n) ns (kept_see d s n h)

  kept_turns : (named : ℕ → List ℕ) (steps k : ℕ) (s : List Attached) → P s → P (turns named steps k s)
  kept_turns named zero k s h = h
  kept_turns named (suc steps) k s h = either (nat_lt k (length s)) (kept_turns named steps (k + 1) (see_all (turn_at s k) s (named (turn_at s k))) (kept_all (turn_at s k) s (named (turn_at s k)) h))
    where
      either : (t : Bool) → P (turns named steps (k + 1) (see_all (turn_at s k) s (named (turn_at s k)))) → P (if t then turns named steps (k + 1) (see_all (turn_at s k) s (named (turn_at s k))) else s)
      either true r = r
      either false r = h

  kept_begin : (named : ℕ → List ℕ) (steps root : ℕ) (s : List Attached) (n : ℕ) → P s → P (begin named steps root s n)
  kept_begin named steps root s n h = either (is_attached s n)
    where
      either : (t : Bool) → P (if t then s else turns named steps (length s) (s ++ start_at root n ∷ []))
      either true = h
      either false = kept_turns named steps (length s) (s ++ start_at root n ∷ []) (more s (start_at root n) h)

  kept_walk : (named : ℕ → List ℕ) (steps root : ℕ) (s : List Attached) (ns : List ℕ) → P s → P (walk named steps root s ns)
  kept_walk named steps root s [] h = h
  kept_walk named steps root s (n ∷ ns) h = kept_walk named steps root (begin named steps root s n) ns (kept_begin named steps root s n h)

-- one more behind them
hung_last : (named : ℕ → List ℕ) (root : ℕ) (before s : List Attached) (a : Attached) → AreHung named root before s → IsHung named root (before ++ s) a → AreHung named root before (s ++ a ∷ [])
hung_last named root before [] a h k = (subst (λ r. IsHung named root r a) (append-nil before) k, tt)
hung_last named root before (b ∷ s) a h k = (h.0, hung_last named root (before ++ b ∷ []) s a h.1 (subst (λ r. IsHung named root r a) (sym (append_assoc before (b ∷ []) s)) k))

-- the directory whose turn it is is attached
turn_attached : (s : List Attached) (k : ℕ) → k < length s → is_attached s (turn_at s k) ≡ true
turn_attached [] k h = absurd (omega arith)
turn_attached (a ∷ s) zero h = first_here a.directory (is_attached s a.directory)
turn_attached (a ∷ s) (suc k) h = or_true (a.directory == turn_at s k) (is_attached s (turn_at s k)) (turn_attached s k (omega arith))

hung_see : (named : ℕ → List ℕ) (root d n : ℕ) (s : List Attached) → AreHung named root [] s → is_attached s d ≡ true → has_node n (named d) ≡ true → AreHung named root [] (see d s n)
hung_see named root d n s h there names = either (is_attached s n)
  where
    either : (t : Bool) → AreHung named root [] (if t then s else (s ++ attached_at n (Some d) ∷ []))
    either true = h
    either false = hung_last named root [] s (attached_at n (Some d)) h (inr (there, names))

hung_all : (named : ℕ → List ℕ) (root d : ℕ) (ns : List ℕ) (s : List Attached) → AreHung named root [] s → is_attached s d ≡ true → ((n : ℕ) → has_node n ns ≡ true → has_node n (named d) ≡ true)
    → AreHung named root [] (see_all d s ns)
hung_all named root d [] s h there all = h
hung_all named root d (n ∷ ns) s h there all = hung_all named root d ns (see d s n) (hung_see named root d n s h there (all n (first_here n (has_node n ns)))) (grown_see d s n d there) (λ p m. all p (or_true (n == p) (has_node p ns) m))

hung_turns : (named : ℕ → List ℕ) (root steps k : ℕ) (s : List Attached) → AreHung named root [] s → AreHung named root [] (turns named steps k s)
hung_turns named root zero k s h = h
hung_turns named root (suc steps) k s h =
    either (nat_lt k (length s)) refl (λ inside. hung_turns named root steps (k + 1) (see_all (turn_at s k) s (named (turn_at s k))) (hung_all named root (turn_at s k) (named (turn_at s k)) s h (turn_attached s k inside) (λ n m. m)))
  where
    either : (t : Bool) → nat_lt k (length s) ≡ t → (k < length s → AreHung named root [] (turns named steps (k + 1) (see_all (turn_at s k) s (named (turn_at s k)))))
        → AreHung named root [] (if t then turns named steps (k + 1) (see_all (turn_at s k) s (named (turn_at s k))) else s)
    either true e r = r (grind (arith, nat_tests))
    either false e r = h

start_hung : (named : ℕ → List ℕ) (root n : ℕ) (s : List Attached) → IsHung named root s (start_at root n)
start_hung named root n s = either (n == root) refl
  where
    either : (t : Bool) → (n == root) ≡ t → IfSome (if t then Some root else None) (λ p. ((n ≡ root) × (p ≡ root)) ⊎ ((is_attached s p ≡ true) × (has_node n (named p) ≡ true)))
    either true e = let same : n ≡ root = grind (arith, nat_tests) in inl (same, refl)
    either false e = tt

hung_begin : (named : ℕ → List ℕ) (steps root : ℕ) (s : List Attached) (n : ℕ) → AreHung named root [] s → AreHung named root [] (begin named steps root s n)
hung_begin named steps root s n h = either (is_attached s n)
  where
    either : (t : Bool) → AreHung named root [] (if t then s else turns named steps (length s) (s ++ start_at root n ∷ []))
    either true = h
    either false = hung_turns named root steps (length s) (s ++ start_at root n ∷ []) (hung_last named root [] s (start_at root n) h (start_hung named root n s))

hung_walk : (named : ℕ → List ℕ) (steps root : ℕ) (s : List Attached) (ns : List ℕ) → AreHung named root [] s → AreHung named root [] (walk named steps root s ns)
hung_walk named steps root s [] h = h
hung_walk named steps root s (n ∷ ns) h = hung_walk named steps root (begin named steps root s n) ns (hung_begin named steps root s n h)

pub all_hung : (files : List NodeRec) (entries : List EntryRec) (root : ℕ) → AreHung (named_by files (candidate_entries files root entries)) root [] (attached_directories files entries root)
all_hung files entries root = hung_walk (named_by files (candidate_entries files root entries)) (length (directory_numbers files)) root [] (starts files (candidate_entries files root entries) root) tt

-- so each comes behind its parent
behind_hung : (named : ℕ → List ℕ) (root : ℕ) (before s : List Attached) → AreHung named root before s → AreBehindParents root before s
behind_hung named root before [] h = tt
behind_hung named root before (a ∷ s) h = (weaker a.parent h.0, behind_hung named root (before ++ a ∷ []) s h.1)
  where
    weaker : (o : Option ℕ) → IfSome o (λ p. ((a.directory ≡ root) × (p ≡ root)) ⊎ ((is_attached before p ≡ true) × (has_node a.directory (named p) ≡ true)))
        → IfSome o (λ p. ((a.directory ≡ root) × (p ≡ root)) ⊎ (is_attached before p ≡ true))
    weaker None k = tt
    weaker (Some p) (inl k) = inl k
    weaker (Some p) (inr k) = inr k.0

pub all_behind : (files : List NodeRec) (entries : List EntryRec) (root : ℕ) → AreBehindParents root [] (attached_directories files entries root)
all_behind files entries root = behind_hung (named_by files (candidate_entries files root entries)) root [] (attached_directories files entries root) (all_hung files entries root)

-- and its parent names it
pub named_hung : (named : ℕ → List ℕ) (root : ℕ) (before s : List Attached) (n p : ℕ) → AreHung named root before s → attached_parent s n ≡ Some p → (n ≡ root) ⊎ (has_node n (named p) ≡ true)
named_hung named root before [] n p h e = cc
named_hung named root before (a ∷ s) n p h e = either (a.directory == n) refl e (λ k. named_hung named root (before ++ a ∷ []) s n p h.1 k)
  where
    here : a.directory ≡ n → ((a.directory ≡ root) × (p ≡ root)) ⊎ ((is_attached before p ≡ true) × (has_node a.directory (named p) ≡ true)) → (n ≡ root) ⊎ (has_node n (named p) ≡ true)
    here same (inl k) = inl (sym same ∙ k.0)
    here same (inr k) = inr (subst (λ m. has_node m (named p) ≡ true) same k.1)

    either : (t : Bool) → (a.directory == n) ≡ t → (if t then a.parent else attached_parent s n) ≡ Some p → (attached_parent s n ≡ Some p → (n ≡ root) ⊎ (has_node n (named p) ≡ true)) → (n ≡ root) ⊎ (has_node n (named p) ≡ true)
    either true m k r = let same : a.directory ≡ n = grind (arith, nat_tests) in
        here same (subst (λ o. IfSome o (λ q. ((a.directory ≡ root) × (q ≡ root)) ⊎ ((is_attached before q ≡ true) × (has_node a.directory (named q) ≡ true)))) k h.0)
    either false m k r = r k

-- a parent that is known stays
parent_last : (s : List Attached) (n p : ℕ) (a : Attached) → attached_parent s n ≡ Some p → attached_parent (s ++ a ∷ []) n ≡ Some p
parent_last [] n p a e = cc
parent_last (b ∷ s) n p a e = either (b.directory == n) e (parent_last s n p a)
  where
    either : (t : Bool) → (if t then b.parent else attached_parent s n) ≡ Some p → (attached_parent s n ≡ Some p → attached_parent (s ++ a ∷ []) n ≡ Some p) → (if t then b.parent else attached_parent (s ++ a ∷ []) n) ≡ Some p
    either true k r = k
    either false k r = r k

-- the root is its own parent
module _ (files : List NodeRec) (entries : List EntryRec) (root : ℕ) where
  abbrev pub HasRoot : List Attached → Type 0
  HasRoot s = attached_parent s root ≡ Some root

  more_root : (s : List Attached) (a : Attached) → HasRoot s → HasRoot (s ++ a ∷ [])
  more_root s a h = parent_last s root root a h

  first_root : HasRoot (start_at root root ∷ [])
  first_root = plain (root == root) (same_test root root refl)
    where
      plain : (t : Bool) → t ≡ true → (if t then (if t then Some root else None) else None) ≡ Some root
      plain true e = refl
      plain false e = cc

  walk_root : (named : ℕ → List ℕ) (steps : ℕ) (ns : List ℕ) → HasRoot (walk named steps root [] (root ∷ ns))
  walk_root named steps ns = kept_walk HasRoot more_root named steps root (begin named steps root [] root) ns (kept_turns HasRoot more_root named steps 0 (start_at root root ∷ []) first_root)

  pub root_parent : attached_parent (attached_directories files entries root) root ≡ Some root
  root_parent = walk_root (named_by files (candidate_entries files root entries)) (length (directory_numbers files))
      (filter (λ n. not (n == root) && not (has_entry (candidate_entries files root entries) n)) (directory_numbers files) ++ filter (λ n. not (n == root) && has_entry (candidate_entries files root entries) n) (directory_numbers files))
