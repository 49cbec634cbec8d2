-- The place of lost+found, and which nodes a directory among files adds.
use Rattle.std.proofs.Common.{◌≡◌, ◌⊎◌, inl, inr, ℕ, Bool, true, false, cond, nat_lt, if◌then◌else◌, List, [], ◌∷◌, length, Option, Some, None, refl, sym, ap, ◌∙◌, arith}
use Rattle.std.specs.List.{find}
use Rattle.std.proofs.lemmas.Bool.{ne_eqb}
use Rattle.xfs_names.specs.Place.{new_place, old_or_new, place_for}
use Rattle.xfs_names.specs.Wanted.{directory_node, with_directory}
use Rattle.xfs_names.specs.declared.place.LostPlace.TheVariants as place
use Rattle.xfs_links.specs.Together.{is_new}
use Rattle.xfs_links.specs.declared.records.NodeRec.{NodeRec}
use Rattle.xfs_views.proofs.Members.{Member}
use Rattle.xfs_rename.specs.Lost.{is_lost_made}

-- what is found passes the test
pub find_passes : (test : ℕ → Bool) (xs : List ℕ) (x : ℕ) → find test xs ≡ Some x → test x ≡ true
find_passes test [] x is = absurd cc
find_passes test (y ∷ ys) x is = by_case (test y) refl is (find_passes test ys x)
  where
    by_case : (t : Bool) → test y ≡ t → cond t (Some y) (find test ys) ≡ Some x → (find test ys ≡ Some x → test x ≡ true) → test x ≡ true
    by_case true e is rest = let same : y ≡ x = cc in ap test (sym same) ∙ e
    by_case false e is rest = rest is

-- where there are orphans
place_some : (o : ℕ × List ℕ) (os : List (ℕ × List ℕ)) (old free : Option ℕ) → place_for (o ∷ os) old free ≡ old_or_new old free
place_some o os old free = ap (λ (t : Bool). if t then place.Unneeded else old_or_new old free) (ne_eqb (length (o ∷ os)) 0 (λ e. omega (arith, e)))

-- where a slot is taken it is the one that was found free
slot_found : (free : Option ℕ) (ino : ℕ) → new_place free ≡ place.Slot ino → free ≡ Some ino
slot_found None ino is = absurd cc
slot_found (Some m) ino is = let same : m ≡ ino = cc in ap (λ (x : ℕ). Some x) same

pub slot_free : (orphans : List (ℕ × List ℕ)) (old free : Option ℕ) (ino : ℕ) → place_for orphans old free ≡ place.Slot ino → free ≡ Some ino
slot_free [] old free ino is = absurd cc
slot_free (o ∷ os) None free ino is = slot_found free ino (sym (place_some o os None free) ∙ is)
slot_free (o ∷ os) (Some l) free ino is = let other : place.Old l ≡ place.Slot ino = sym (place_some o os (Some l) free) ∙ is in absurd cc

-- lost+found is made just where it is a directory more
new_made : (free : Option ℕ) → is_lost_made (new_place free) ≡ true
new_made None = refl
new_made (Some m) = refl

pub made_adds : (orphans : List (ℕ × List ℕ)) (old free : Option ℕ) → is_lost_made (place_for orphans old free) ≡ is_new old orphans
made_adds [] old free = refl
made_adds (o ∷ os) None free = ap is_lost_made (place_some o os None free) ∙ new_made free
made_adds (o ∷ os) (Some l) free = ap is_lost_made (place_some o os (Some l) free)

-- nodes with a directory more
pub directory_either : (x : NodeRec) (n : ℕ) (nodes : List NodeRec) → Member x (with_directory n nodes) → (directory_node n ≡ x) ⊎ Member x nodes
directory_either x n [] is = elim is [ inl same ↦ inl same | inr none ↦ absurd none ]
directory_either x n (f ∷ fs) is = by_case (nat_lt f.ino n) is (directory_either x n fs)
  where
    by_case : (t : Bool) → Member x (if t then f ∷ with_directory n fs else directory_node n ∷ f ∷ fs) → (Member x (with_directory n fs) → (directory_node n ≡ x) ⊎ Member x fs)
        → (directory_node n ≡ x) ⊎ Member x (f ∷ fs)
    by_case true is rest = elim is [
      | inl same ↦ inr (inl same)
      | inr there ↦ elim (rest there) [ inl new ↦ inl new | inr old ↦ inr (inr old) ]
    ]
    by_case false is rest = is

pub directory_there : (n : ℕ) (nodes : List NodeRec) → Member (directory_node n) (with_directory n nodes)
directory_there n [] = inl refl
directory_there n (f ∷ fs) = by_case (nat_lt f.ino n) (directory_there n fs)
  where
    by_case : (t : Bool) → Member (directory_node n) (with_directory n fs) → Member (directory_node n) (if t then f ∷ with_directory n fs else directory_node n ∷ f ∷ fs)
    by_case true rest = inr rest
    by_case false rest = inl refl

pub directory_keeps : (x : NodeRec) (n : ℕ) (nodes : List NodeRec) → Member x nodes → Member x (with_directory n nodes)
directory_keeps x n [] is = absurd is
directory_keeps x n (f ∷ fs) is = by_case (nat_lt f.ino n) (directory_keeps x n fs)
  where
    by_case : (t : Bool) → (Member x fs → Member x (with_directory n fs)) → Member x (if t then f ∷ with_directory n fs else directory_node n ∷ f ∷ fs)
    by_case true rest = elim is [ inl same ↦ inl same | inr there ↦ inr (rest there) ]
    by_case false rest = inr is
