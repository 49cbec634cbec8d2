-- One block more of a level: the first fault of the row, what it holds, and the blocks met.
use Rattle.std.proofs.Common.{◌≡◌, ℕ, ◌+◌, ◌≤◌, ◌<◌, ◌==◌, ◌++◌, List, [], ◌∷◌, length, drop, get_or, Option, Some, None, if◌then◌else◌, false, sym, ◌∙◌, ap, arith}
use Rattle.std.specs.List.{flat_map}
use Rattle.std.proofs.lemmas.Bool.Decides.{nat_tests}
use Rattle.std.proofs.lemmas.List.{append-nil, drop_more, length-drop, nil_from_length}
use Rattle.xfs_disk.specs.Blocks.{Image, bytes_of_block}
use Rattle.xfs_geom.specs.Volumes.{Volume}
use Rattle.xfs_tree.specs.declared.seats.Seat.{Seat}
use Rattle.xfs_tree.specs.declared.unread.Unread.{Unread}
use Rattle.xfs_tree.specs.Shape.{Shape}
use Rattle.xfs_tree.specs.Rules.{last_of}
use Rattle.xfs_tree.specs.declared.layout.Layout.{Layout}
use Rattle.xfs_tree.specs.Blocks.{capacity, records_of}
use Rattle.xfs_tree.specs.Reading.{next_of, places_of, at_block, rule_at, row_fault, behind}
use Rattle.xfs_tree.proofs.Rest.{grown}

-- a level above the leaves
not_leaf : (level : ℕ) → 1 ≤ level → (level == 0) ≡ false
not_leaf level above = grind (arith, nat_tests, above)

pub capacity_node : (l : Layout) (level : ℕ) → 1 ≤ level → capacity l level ≡ l.node_cap
capacity_node l level above = ap (λ leaf. if leaf then l.leaf_cap else l.node_cap) (not_leaf level above)

-- what is left of a list, from an item on and behind the last
pub left_from : {A : Type 0} (xs : List A) (i : ℕ) (x : A) → i < length xs → x ≡ get_or xs i x → drop i xs ≡ x ∷ drop (i + 1) xs
left_from xs i x inside value = drop_more xs i x inside ∙ ap (λ y. y ∷ drop (i + 1) xs) (sym value)

pub none_left : {A : Type 0} (xs : List A) (i : ℕ) → length xs ≤ i → drop i xs ≡ []
none_left xs i past = let rest = length-drop i xs in nil_from_length (drop i xs) (omega (arith, rest))

-- behind an empty list
pub from_none : {A : Type 0} (old rest : List A) → old ≡ [] → old ++ rest ≡ rest
from_none old rest none = ap (λ xs. xs ++ rest) none

-- what the parts of a row hold, one part more
pub held_more : {A B : Type 0} (f : A → List B) (x : A) (xs rest : List A) (old new all : List B) → xs ≡ x ∷ rest → new ≡ old ++ f x
    → old ++ flat_map f xs ≡ all → new ++ flat_map f rest ≡ all
held_more f x xs rest old new all split more held = grown old new (f x) (flat_map f xs) (flat_map f rest) all more (ap (flat_map f) split) held

-- nothing is left
pub held_all : {A B : Type 0} (f : A → List B) (xs : List A) (new all : List B) → xs ≡ [] → new ++ flat_map f xs ≡ all → new ≡ all
held_all f xs new all none held = sym (append-nil new) ∙ ap (λ rest. new ++ flat_map f rest) (sym none) ∙ held

pub places_more : {K : Type 0} (x : Seat K) (xs rest : List (Seat K)) (old new all : List ℕ) → xs ≡ x ∷ rest → new ≡ old ++ x.place ∷ []
    → old ++ places_of xs ≡ all → new ++ places_of rest ≡ all
places_more x xs rest old new all split more held = grown old new (x.place ∷ []) (places_of xs) (places_of rest) all more (ap places_of split) held

pub places_all : {K : Type 0} (xs : List (Seat K)) (new all : List ℕ) → xs ≡ [] → new ++ places_of xs ≡ all → new ≡ all
places_all xs new all none held = sym (append-nil new) ∙ ap (λ rest. new ++ places_of rest) (sym none) ∙ held

module _ {R K : Type 0} (s : Shape R K) (v : Volume) (image : Image) where
  -- only leaves have records in front of them
  pub behind_node : (level : ℕ) (before : Option R) (seat : Seat K) → 1 ≤ level → before ≡ behind s v image level before seat
  behind_node level before seat above = sym (ap (λ leaf. if leaf then last_of before (records_of s (bytes_of_block image seat.place)) else before) (not_leaf level above))

  -- a block keeps the rules: the rest of the row decides
  pub row_more : (level : ℕ) (met met' : List ℕ) (left right right' : Option ℕ) (before before' : Option R) (seat : Seat K) (xs rest : List (Seat K)) (all : Option Unread)
      → xs ≡ seat ∷ rest → right' ≡ next_of right rest → met' ≡ met ++ seat.place ∷ [] → before' ≡ behind s v image level before seat
      → at_block seat.place (rule_at s v image level met left right' before seat) None ≡ None
      → row_fault s v image level met left right before xs ≡ all
      → row_fault s v image level met' (Some seat.place) right before' rest ≡ all
  unfolding row_fault
  row_more level met met' left right right' before before' seat xs rest all split next more last kept held =
      let whole : at_block seat.place (rule_at s v image level met left (next_of right rest) before seat)
      (row_fault s v image level (met ++ seat.place ∷ []) (Some seat.place) right (behind s v image level before seat) rest) ≡ all
      = ap (row_fault s v image level met left right before) (sym split) ∙ held in
      let here : at_block seat.place (rule_at s v image level met left (next_of right rest) before seat) None ≡ None
      = ap (λ side. at_block seat.place (rule_at s v image level met left side before seat) None) (sym next) ∙ kept in
      ap (λ m. row_fault s v image level m (Some seat.place) right before' rest) more
      ∙ ap (λ b. row_fault s v image level (met ++ seat.place ∷ []) (Some seat.place) right b rest) last
      ∙ passes seat.place (rule_at s v image level met left (next_of right rest) before seat) _ all here whole
    where
      passes : (place : ℕ) (rule : Option ℕ) (later all : Option Unread) → at_block place rule None ≡ None → at_block place rule later ≡ all → later ≡ all
      passes place None later all kept held = held
      passes place (Some rule) later all kept held = cc

  -- a block that breaks a rule is the first fault of the row
  pub row_stops : (level : ℕ) (met : List ℕ) (left right right' : Option ℕ) (before : Option R) (seat : Seat K) (xs rest : List (Seat K)) (all : Option Unread) (fault : Unread)
      → xs ≡ seat ∷ rest → right' ≡ next_of right rest
      → at_block seat.place (rule_at s v image level met left right' before seat) None ≡ Some fault
      → row_fault s v image level met left right before xs ≡ all → all ≡ Some fault
  unfolding row_fault
  row_stops level met left right right' before seat xs rest all fault split next broken held =
      let whole : at_block seat.place (rule_at s v image level met left (next_of right rest) before seat)
      (row_fault s v image level (met ++ seat.place ∷ []) (Some seat.place) right (behind s v image level before seat) rest) ≡ all
      = ap (row_fault s v image level met left right before) (sym split) ∙ held in
      let here : at_block seat.place (rule_at s v image level met left (next_of right rest) before seat) None ≡ Some fault
      = ap (λ side. at_block seat.place (rule_at s v image level met left side before seat) None) (sym next) ∙ broken in
      breaks seat.place (rule_at s v image level met left (next_of right rest) before seat) _ all here whole
    where
      breaks : (place : ℕ) (rule : Option ℕ) (later all : Option Unread) → at_block place rule None ≡ Some fault → at_block place rule later ≡ all → all ≡ Some fault
      breaks place None later all broken held = cc
      breaks place (Some rule) later all broken held = sym held ∙ broken

  -- no block is left
  pub row_ends : (level : ℕ) (met : List ℕ) (left right : Option ℕ) (before : Option R) (xs : List (Seat K)) (all : Option Unread)
      → xs ≡ [] → row_fault s v image level met left right before xs ≡ all → all ≡ None
  unfolding row_fault
  row_ends level met left right before xs all none held = sym held ∙ ap (row_fault s v image level met left right before) none
