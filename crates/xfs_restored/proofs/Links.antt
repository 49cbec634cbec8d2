-- The changes of files by number: each file has its own, and the other inodes of a new cluster are free.
use Rattle.std.proofs.Common.{◌≡◌, inl, inr, ℕ, zero, suc, Bool, true, false, ◌+◌, ◌-◌, ◌*◌, ◌≤◌, ◌<◌, ◌==◌, if◌then◌else◌, List, [], ◌∷◌, ◌++◌, length, map, Option, Some, None, refl, sym, ap, ap₂, ◌∙◌, subst, append-nil, arith}
use Rattle.std.specs.List.{AllByRecursion, flat_map, range_with_len}
use Rattle.std.proofs.lemmas.Bool.{eq-eqb, ne_eqb}
use Rattle.xfs_disk.specs.declared.stamp.Stamp.{Stamp}
use Rattle.xfs_geom.specs.Features.{or_else}
use Rattle.xfs_geom.specs.Volumes.{Volume}
use Rattle.xfs_volume.specs.declared.files.FileRec.{FileRec}
use Rattle.xfs_views.proofs.Members.{Member}
use Rattle.xfs_rename.specs.xfs_changes.Slots.{change_listed, change_of, changes_of, changes_something, free_change}
use Rattle.xfs_rename.specs.xfs_changes.declared.changes.SlotChange.{SlotChange}
use Rattle.xfs_rename.specs.xfs_changes.declared.forks.DirectoryFork.{DirectoryFork}
use Rattle.xfs_rename.specs.xfs_changes.declared.lost_found.Lost.{Lost}
use Rattle.xfs_restored.specs.Changes.{ChangesAscend, LinksAscend, change_if, first_change, inodes_taken}
use Rattle.xfs_restored.proofs.Changing.{none_changed}
use Rattle.xfs_rename.proofs.xfs_built.Fronts.{all_append}

-- changes in front of others
first_append : (xs ys : List SlotChange) (ino : ℕ) → first_change (xs ++ ys) ino ≡ or_else (first_change xs ino) (first_change ys ino)
first_append [] ys ino = refl
first_append (c ∷ cs) ys ino = by_test (c.ino == ino) c (first_append cs ys ino)
  where
    by_test : (t : Bool) (x : SlotChange) → first_change (cs ++ ys) ino ≡ or_else (first_change cs ino) (first_change ys ino)
        → (if t then Some x else first_change (cs ++ ys) ino) ≡ or_else (if t then Some x else first_change cs ino) (first_change ys ino)
    by_test true x same = refl
    by_test false x same = same

abbrev IsBelow : ℕ → SlotChange → Type 0
IsBelow high c = c.ino < high

none_above : (xs : List SlotChange) (high ino : ℕ) → AllByRecursion (IsBelow high) xs → high ≤ ino → first_change xs ino ≡ None
none_above [] high ino all above = refl
none_above (c ∷ cs) high ino all above =
    let low = all.0 in
    ap (λ (t : Bool). if t then Some c else first_change cs ino) (ne_eqb c.ino ino (λ e. omega (arith, e, low, above))) ∙ none_above cs high ino all.1 above

ascend_from : (low mid : ℕ) (ys : List SlotChange) → low ≤ mid → ChangesAscend mid ys → ChangesAscend low ys
ascend_from low mid [] less ascend = tt
ascend_from low mid (c ∷ cs) less ascend = let least = ascend.0 in (omega (arith, less, least), ascend.1)

ascend_both : (low mid : ℕ) (xs ys : List SlotChange) → low ≤ mid → ChangesAscend low xs → AllByRecursion (IsBelow mid) xs → ChangesAscend mid ys → ChangesAscend low (xs ++ ys)
ascend_both low mid [] ys less first all second = ascend_from low mid ys less second
ascend_both low mid (c ∷ cs) ys less first all second =
    let below = all.0 in (first.0, ascend_both (c.ino + 1) mid cs ys (omega (arith, below)) first.1 all.1 second)

-- free inodes one behind the other
free_ascend : (k n : ℕ) → ChangesAscend k (map free_change (range_with_len k n))
free_ascend k zero = tt
free_ascend k (suc n) = (omega arith, free_ascend (k + 1) n)

free_below : (k n high : ℕ) → k + n ≤ high → AllByRecursion (IsBelow high) (map free_change (range_with_len k n))
free_below k zero high room = tt
free_below k (suc n) high room = (omega (arith, room), free_below (k + 1) n high (omega (arith, room)))

free_found : (k n j : ℕ) → j < n → first_change (map free_change (range_with_len k n)) (k + j) ≡ Some (free_change (k + j))
free_found k zero j low = absurd (omega (arith, low))
free_found k (suc n) zero low =
    let here : k + 0 ≡ k = omega arith in
    ap (λ (t : Bool). if t then Some (free_change k) else first_change (map free_change (range_with_len (k + 1) n)) (k + 0)) (eq-eqb k (k + 0) (omega arith))
    ∙ ap (λ (m : ℕ). Some (free_change m)) (sym here)
free_found k (suc n) (suc j) low =
    let there : k + 1 + j ≡ k + suc j = omega arith in
    ap (λ (t : Bool). if t then Some (free_change k) else first_change (map free_change (range_with_len (k + 1) n)) (k + suc j)) (ne_eqb k (k + suc j) (λ e. omega (arith, e)))
    ∙ (ap (first_change (map free_change (range_with_len (k + 1) n))) (sym there)
    ∙ (free_found (k + 1) n j (omega (arith, low)) ∙ ap (λ (m : ℕ). Some (free_change m)) there))

free_rows : (t : Bool) (ino : ℕ) (added : List ℕ) → length added ≤ 1
    → flat_map (λ (cluster : ℕ). if t then map free_change (range_with_len (ino + 1) 31) else []) added ≡ map free_change (range_with_len (ino + 1) ((if t then 1 + 31 * length added else 1) - 1))
free_rows true ino [] few = refl
free_rows false ino [] few = refl
free_rows true ino (c ∷ []) few = append-nil (map free_change (range_with_len (ino + 1) 31))
free_rows false ino (c ∷ []) few = refl
free_rows t ino (c ∷ d ∷ cs) few = absurd (omega (arith, few))

taken_some : (l : Lost) (ino : ℕ) → 1 ≤ inodes_taken l ino
taken_some l ino = by_test (l.new == ino)
  where
    by_test : (t : Bool) → 1 ≤ (if t then 1 + 31 * length l.added else 1)
    by_test true = omega arith
    by_test false = omega arith

module _ (v : Volume) (s : Stamp) (l : Lost) (files : List FileRec) (forks : List DirectoryFork) (few : length l.added ≤ 1) where
  abbrev change : ℕ × ℕ → SlotChange
  change p = change_of v s l files forks p

  abbrev changes_it : ℕ × ℕ → Bool
  changes_it p = changes_something v s l files forks (change p)

  abbrev own : ℕ × ℕ → List SlotChange
  own p = if changes_it p then change p ∷ [] else []

  abbrev free_row : ℕ → List SlotChange
  free_row ino = map free_change (range_with_len (ino + 1) (inodes_taken l ino - 1))

  abbrev all_changes : List (ℕ × ℕ) → List SlotChange
  all_changes links = changes_of v s l files forks links

  listed_is : (p : ℕ × ℕ) → change_listed v s l files forks p ≡ own p ++ free_row p.0
  listed_is p = ap (λ (cs : List SlotChange). own p ++ cs) (free_rows (l.new == p.0) p.0 l.added few)

  own_below : (p : ℕ × ℕ) (high : ℕ) → p.0 < high → AllByRecursion (IsBelow high) (own p)
  own_below p high low = by_test (changes_it p)
    where
      by_test : (t : Bool) → AllByRecursion (IsBelow high) (if t then change p ∷ [] else [])
      by_test true = (low, tt)
      by_test false = tt

  own_ascend : (p : ℕ × ℕ) → ChangesAscend p.0 (own p)
  own_ascend p = by_test (changes_it p)
    where
      by_test : (t : Bool) → ChangesAscend p.0 (if t then change p ∷ [] else [])
      by_test true = (omega arith, tt)
      by_test false = tt

  row_below : (p : ℕ × ℕ) → AllByRecursion (IsBelow (p.0 + inodes_taken l p.0)) (own p ++ free_row p.0)
  row_below p =
      let some = taken_some l p.0 in
      all_append (IsBelow (p.0 + inodes_taken l p.0)) (own p) (free_row p.0) (own_below p (p.0 + inodes_taken l p.0) (omega (arith, some)))
      (free_below (p.0 + 1) (inodes_taken l p.0 - 1) (p.0 + inodes_taken l p.0) (omega (arith, some)))

  row_ascend : (p : ℕ × ℕ) → ChangesAscend p.0 (own p ++ free_row p.0)
  row_ascend p =
      ascend_both p.0 (p.0 + 1) (own p) (free_row p.0) (omega arith) (own_ascend p) (own_below p (p.0 + 1) (omega arith)) (free_ascend (p.0 + 1) (inodes_taken l p.0 - 1))

  more_changes : (p : ℕ × ℕ) (ps : List (ℕ × ℕ)) → all_changes (p ∷ ps) ≡ (own p ++ free_row p.0) ++ all_changes ps
  unfolding changes_of
  more_changes p ps = ap (λ (cs : List SlotChange). cs ++ all_changes ps) (listed_is p)

  pub changes_ascend : (links : List (ℕ × ℕ)) (low : ℕ) → LinksAscend l low links → ChangesAscend low (all_changes links)
  unfolding changes_of
  changes_ascend [] low ascend = tt
  changes_ascend (p ∷ ps) low ascend =
      let least = ascend.0 in
      subst (ChangesAscend low) (sym (more_changes p ps))
      (ascend_both low (p.0 + inodes_taken l p.0) (own p ++ free_row p.0) (all_changes ps) (omega (arith, least)) (ascend_from low p.0 (own p ++ free_row p.0) least (row_ascend p))
      (row_below p) (changes_ascend ps (p.0 + inodes_taken l p.0) ascend.1))

  found_in : (p : ℕ × ℕ) (ps : List (ℕ × ℕ)) (ino : ℕ)
      → first_change (all_changes (p ∷ ps)) ino ≡ or_else (or_else (first_change (own p) ino) (first_change (free_row p.0) ino)) (first_change (all_changes ps) ino)
  found_in p ps ino =
      ap (λ (cs : List SlotChange). first_change cs ino) (more_changes p ps)
      ∙ (first_append (own p ++ free_row p.0) (all_changes ps) ino
      ∙ ap (λ (o : Option SlotChange). or_else o (first_change (all_changes ps) ino)) (first_append (own p) (free_row p.0) ino))

  behind_row : (p : ℕ × ℕ) (ps : List (ℕ × ℕ)) (ino : ℕ) → p.0 + inodes_taken l p.0 ≤ ino → first_change (all_changes (p ∷ ps)) ino ≡ first_change (all_changes ps) ino
  behind_row p ps ino above =
      ap (λ (cs : List SlotChange). first_change cs ino) (more_changes p ps)
      ∙ (first_append (own p ++ free_row p.0) (all_changes ps) ino
      ∙ ap (λ (o : Option SlotChange). or_else o (first_change (all_changes ps) ino)) (none_above (own p ++ free_row p.0) (p.0 + inodes_taken l p.0) ino (row_below p) above))

  member_low : (links : List (ℕ × ℕ)) (low : ℕ) (p : ℕ × ℕ) → LinksAscend l low links → Member p links → low ≤ p.0
  member_low [] low p ascend is = absurd is
  member_low (q ∷ qs) low p ascend is =
      let least = ascend.0 in
      elim is [
        | inl same ↦ let number : q.0 ≡ p.0 = ap (λ (x : ℕ × ℕ). x.0) same in omega (arith, least, number)
        | inr there ↦ let more = member_low qs (q.0 + inodes_taken l q.0) p ascend.1 there in omega (arith, least, more)
      ]

  own_found : (p : ℕ × ℕ) → first_change (own p) p.0 ≡ change_if (changes_it p) (change p)
  own_found p = by_test (changes_it p)
    where
      by_test : (t : Bool) → first_change (if t then change p ∷ [] else []) p.0 ≡ change_if t (change p)
      by_test true = ap (λ (t : Bool). if t then Some (change p) else None) (eq-eqb p.0 p.0 refl)
      by_test false = refl

  or_none : (o : Option SlotChange) → or_else o None ≡ o
  or_none None = refl
  or_none (Some c) = refl

  -- the change of a file
  pub file_change : (links : List (ℕ × ℕ)) (low : ℕ) (p : ℕ × ℕ) → LinksAscend l low links → Member p links → first_change (all_changes links) p.0 ≡ change_if (changes_it p) (change p)
  file_change [] low p ascend is = absurd is
  file_change (q ∷ qs) low p ascend is =
      elim is [
        | inl same ↦
            let some = taken_some l q.0 in
            let free_none : first_change (free_row q.0) q.0 ≡ None = none_changed q.0 (free_row q.0) (q.0 + 1) (free_ascend (q.0 + 1) (inodes_taken l q.0 - 1)) (omega arith) in
            let rest_none : first_change (all_changes qs) q.0 ≡ None =
            none_changed q.0 (all_changes qs) (q.0 + inodes_taken l q.0) (changes_ascend qs (q.0 + inodes_taken l q.0) ascend.1) (omega (arith, some)) in
            subst (λ (x : ℕ × ℕ). first_change (all_changes (q ∷ qs)) x.0 ≡ change_if (changes_it x) (change x)) same
            (found_in q qs q.0
            ∙ (ap₂ (λ (a b : Option SlotChange). or_else (or_else (first_change (own q) q.0) a) b) free_none rest_none
            ∙ (or_none (or_else (first_change (own q) q.0) None) ∙ (or_none (first_change (own q) q.0) ∙ own_found q))))
        | inr there ↦
            behind_row q qs p.0 (member_low qs (q.0 + inodes_taken l q.0) p ascend.1 there) ∙ file_change qs (q.0 + inodes_taken l q.0) p ascend.1 there
      ]

  -- another inode of a new cluster
  pub free_behind : (links : List (ℕ × ℕ)) (low : ℕ) (p : ℕ × ℕ) (j : ℕ) → LinksAscend l low links → Member p links → j + 1 < inodes_taken l p.0
      → first_change (all_changes links) (p.0 + 1 + j) ≡ Some (free_change (p.0 + 1 + j))
  free_behind [] low p j ascend is inside = absurd is
  free_behind (q ∷ qs) low p j ascend is inside =
      elim is [
        | inl same ↦
            let number : q.0 ≡ p.0 = ap (λ (x : ℕ × ℕ). x.0) same in
            let room : j + 1 < inodes_taken l q.0 = subst (λ (m : ℕ). j + 1 < inodes_taken l m) (sym number) inside in
            let own_none : first_change (own q) (q.0 + 1 + j) ≡ None = none_above (own q) (q.0 + 1) (q.0 + 1 + j) (own_below q (q.0 + 1) (omega arith)) (omega arith) in
            let free_some : first_change (free_row q.0) (q.0 + 1 + j) ≡ Some (free_change (q.0 + 1 + j)) = free_found (q.0 + 1) (inodes_taken l q.0 - 1) j (omega (arith, room)) in
            subst (λ (m : ℕ). first_change (all_changes (q ∷ qs)) (m + 1 + j) ≡ Some (free_change (m + 1 + j))) number
            (found_in q qs (q.0 + 1 + j)
            ∙ ap₂ (λ (a b : Option SlotChange). or_else (or_else a b) (first_change (all_changes qs) (q.0 + 1 + j))) own_none free_some)
        | inr there ↦
            let low_is = member_low qs (q.0 + inodes_taken l q.0) p ascend.1 there in
            behind_row q qs (p.0 + 1 + j) (omega (arith, low_is)) ∙ free_behind qs (q.0 + inodes_taken l q.0) p j ascend.1 there inside
      ]
