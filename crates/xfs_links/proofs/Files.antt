-- Files by number and by place.
use Rattle.std.proofs.Common.{◌≡◌, ◌≢◌, ℕ, ◌+◌, ◌<◌, ◌≤◌, ◌==◌, ◌||◌, ◌&&◌, inl, inr, Bool, true, false, List, [], ◌∷◌, length, zero, suc, refl, sym, ◌∙◌, ap, arith}
use Rattle.std.proofs.lemmas.Bool.{cases_lt, cases_order}
use Rattle.std.proofs.lemmas.Bool.Decides.{nat_tests}
use Rattle.std.specs.List.{HoldsAt}
use Rattle.std.specs.List.Sorted.{IsNonDecreasingBy, IsPartitionPoint}
use Rattle.std.specs.Ordering.{nat_cmp, ordering_index}
use Rattle.std.specs.declared.cmp.Ordering.TheVariants.{Less, Equal, Greater}
use Rattle.std.proofs.lemmas.Cmp.{ranked}
use Rattle.std.proofs.lemmas.List.Sorted.{IsNonDecreasingBy-from_default}
use Rattle.xfs_links.specs.declared.records.NodeRec.{NodeRec}
use Rattle.xfs_links.specs.Entries.{is_kept_node, is_directory_number, node_number, is_directory_at_place, NodesAscend, no_node}

-- each number is as high as the list begins
pub number_low : (low : ℕ) (files : List NodeRec) (p : ℕ) → NodesAscend low files → p < length files → low ≤ node_number files p
number_low low [] p a h = absurd (omega arith)
number_low low (f ∷ fs) zero a h = a.0
number_low low (f ∷ fs) (suc p) a h = omega (arith, a.0, number_low (f.ino + 1) fs p a.1 (omega arith))

-- numbers rise
pub number_rises : (low : ℕ) (files : List NodeRec) (p q : ℕ) → NodesAscend low files → p < q → q < length files → node_number files p < node_number files q
number_rises low [] p q a l h = absurd (omega arith)
number_rises low (f ∷ fs) zero zero a l h = absurd (omega arith)
number_rises low (f ∷ fs) zero (suc q) a l h = omega (arith, number_low (f.ino + 1) fs q a.1 (omega arith))
number_rises low (f ∷ fs) (suc p) zero a l h = absurd (omega arith)
number_rises low (f ∷ fs) (suc p) (suc q) a l h = number_rises (f.ino + 1) fs p q a.1 (omega arith) (omega arith)

-- files of one number are one
pub number_one : (files : List NodeRec) (p q : ℕ) → NodesAscend 0 files → p < length files → q < length files → node_number files p ≡ node_number files q → p ≡ q
number_one files p q a h k e = elim (cases_order p q) [
  | inl s ↦ s
  | inr d ↦ elim d [
    | inl l ↦ absurd (omega (arith, number_rises 0 files p q a l k))
    | inr l ↦ absurd (omega (arith, number_rises 0 files q p a l h))
  ]
]

-- the file at a place is kept
pub number_kept : (files : List NodeRec) (p : ℕ) → p < length files → is_kept_node files (node_number files p) ≡ true
number_kept [] p h = absurd (omega arith)
number_kept (f ∷ fs) zero h = grind (arith, nat_tests)
number_kept (f ∷ fs) (suc p) h = let rest : is_kept_node fs (node_number fs p) ≡ true = number_kept fs p (omega arith) in grind (arith, nat_tests)

-- no file has a number that none of the places has
pub none_kept : (files : List NodeRec) (n : ℕ) → ((p : ℕ) → p < length files → node_number files p ≢ n) → is_kept_node files n ≡ false
none_kept [] n h = refl
none_kept (f ∷ fs) n h =
    let here : f.ino ≢ n = h 0 (omega arith) in
    let rest : is_kept_node fs n ≡ false = none_kept fs n (λ p l. h (suc p) (omega arith)) in
    grind (arith, nat_tests)

-- a number below all is none's
none_below : (low : ℕ) (files : List NodeRec) (n : ℕ) → NodesAscend low files → n < low → is_directory_number files n ≡ false
none_below low [] n a h = refl
none_below low (f ∷ fs) n a h =
    let rest : is_directory_number fs n ≡ false = none_below (f.ino + 1) fs n a.1 (omega (arith, a.0)) in
    let off : (f.ino == n) ≡ false = grind (arith, nat_tests, a.0) in
    both (f.ino == n) (f.kind == 4) (is_directory_number fs n) off rest
  where
    both : (p q r : Bool) → p ≡ false → r ≡ false → ((p && q) || r) ≡ false
    both p q r e k = grind (arith, nat_tests)

-- whether a file is a directory, by its number and by its place
pub directory_at : (low : ℕ) (files : List NodeRec) (p : ℕ) → NodesAscend low files → p < length files → is_directory_number files (node_number files p) ≡ is_directory_at_place files p
directory_at low [] p a h = absurd (omega arith)
directory_at low (f ∷ fs) zero a h =
    let rest : is_directory_number fs f.ino ≡ false = none_below (f.ino + 1) fs f.ino a.1 (omega arith) in
    let on : (f.ino == f.ino) ≡ true = grind (arith, nat_tests) in
    both (f.ino == f.ino) (f.kind == 4) (is_directory_number fs f.ino) on rest
  where
    both : (p q r : Bool) → p ≡ true → r ≡ false → ((p && q) || r) ≡ q
    both p q r e k = grind (arith, nat_tests)
directory_at low (f ∷ fs) (suc p) a h =
    let off : (f.ino == node_number fs p) ≡ false = grind (arith, nat_tests, number_low (f.ino + 1) fs p a.1 (omega arith)) in
    either (f.ino == node_number fs p) (f.kind == 4) (is_directory_number fs (node_number fs p)) off ∙ directory_at (f.ino + 1) fs p a.1 (omega arith)
  where
    either : (p q r : Bool) → p ≡ false → ((p && q) || r) ≡ r
    either p q r e = grind (arith, nat_tests)

-- what a search by number finds
pub place_found : (files : List NodeRec) (n p : ℕ) → p < length files → HoldsAt (λ (f : NodeRec). nat_cmp f.ino n ≡ Equal) files p → (p < length files) × (node_number files p ≡ n)
place_found files n p h e = (h, ranked _ n _ (sym (e no_node)))

pub place_missing : (files : List NodeRec) (n p : ℕ) → NodesAscend 0 files → (IsNonDecreasingBy (λ (f : NodeRec). ordering_index (nat_cmp f.ino n)) files → IsPartitionPoint (λ (f : NodeRec). nat_cmp f.ino n ≡ Less) (λ (f : NodeRec). nat_cmp f.ino n ≡ Greater) files p) → is_kept_node files n ≡ false
place_missing files n p a parted = none_kept files n absent
  where
    rise : IsNonDecreasingBy (λ (f : NodeRec). ordering_index (nat_cmp f.ino n)) files
    rise = IsNonDecreasingBy-from_default (λ (f : NodeRec). ordering_index (nat_cmp f.ino n)) files no_node (λ i j le inside.
        let up : node_number files i ≤ node_number files j = grind (arith, λ (l : i < j). number_rises 0 files i j a l inside, λ (same : i ≡ j). ap (node_number files) same) in
        grind (arith, nat_tests))

    absent : (q : ℕ) → q < length files → node_number files q ≢ n
    absent q h e = elim (cases_lt q p) [
      | inl l ↦ absurd (omega (arith, below q l, e))
      | inr g ↦ absurd (omega (arith, above q g h, e))
    ]
      where
        below : (q : ℕ) → q < p → node_number files q < n
        below q l = ranked _ n _ (sym ((parted rise).0 q no_node (omega arith) l))

        above : (q : ℕ) → p ≤ q → q < length files → n < node_number files q
        above q g h = ranked _ n _ (sym ((parted rise).1 q no_node g h))
