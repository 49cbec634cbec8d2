-- A block that is headed, not overfull and in order breaks no rule, and so no row of such blocks does.
use Rattle.std.proofs.Common.{◌≡◌, ℕ, zero, suc, ◌+◌, ◌-◌, ◌<◌, ◌≤◌, ◌==◌, ◌⊎◌, inl, inr, Bool, true, false, not, ◌||◌, nat_le, if◌then◌else◌, List, [], ◌∷◌, map, length, drop, get_or, Option, Some, None, slice_get, refl, sym, ◌∙◌, ap, ap₂, arith}
use Rattle.std.specs.Cmp.Derive.{both_true}
use Rattle.std.proofs.lemmas.Bool.{cases_lt, le-leb, eq-eqb}
use Rattle.std.proofs.lemmas.Bool.Decides.{nat_tests}
use Rattle.std.proofs.lemmas.List.{drop_more, drop_all}
use Rattle.std.proofs.lemmas.Option.{slice_get-get_or}
use Rattle.std.specs.List.{range_with_len}
use Rattle.xfs_disk.specs.Blocks.{Image, bytes_of_block}
use Rattle.xfs_geom.specs.First.{first_false}
use Rattle.xfs_geom.specs.Volumes.{Volume}
use Rattle.xfs_tree.specs.declared.unread.Unread.{Unread}
use Rattle.xfs_tree.specs.Shape.{Shape, IsKind}
use Rattle.xfs_tree.specs.Blocks.{count_of, capacity, each_of}
use Rattle.xfs_tree.specs.Rules.{block_fault, least_of, bound_agrees, is_ordered, low_of, high_of}
use Rattle.xfs_tree.specs.Reading.{next_of, at_block, behind}
use Rattle.xfs_treebuild.specs.Packing.{own_seat, own_seats, run_fault}
use Rattle.xfs_treebuild.specs.Private.Placed.{left_in, right_in, IsHeaded, seat_of}

kept_all : (a b c d e f : Bool) → a ≡ true → b ≡ true → c ≡ true → d ≡ true → e ≡ true → f ≡ true
    → first_false ((3, a) ∷ (4, b) ∷ (5, c) ∷ (6, d) ∷ (7, e) ∷ (8, f) ∷ []) ≡ None
kept_all a b c d e f p q r s t u = rw (p, q, r, s, t, u) refl

pub first_of_some : {A : Type 0} (f : ℕ → A) (n : ℕ) → 1 ≤ n → slice_get (each_of n f) 0 ≡ Some (f 0)
first_of_some f n some =
    let more : n ≡ suc (n - 1) = omega arith in
    ap (λ (m : ℕ). slice_get (map f (range_with_len 0 m)) 0) more

first_of_none : {A : Type 0} (f : ℕ → A) (n : ℕ) → n ≡ 0 → slice_get (each_of n f) 0 ≡ None
first_of_none f n none = ap (λ (m : ℕ). slice_get (map f (range_with_len 0 m)) 0) none

least_most : {K : Type 0} (level : ℕ) (low : Option K) → least_of level low ≤ 1
least_most {K = K} level (Some low) = omega arith
least_most {K = K} level None = by_level (level == 0)
  where
    by_level : (r : Bool) → (if r then 0 else 1) ≤ 1
    by_level true = omega arith
    by_level false = omega arith

module _ {R K : Type 0} (s : Shape R K) where
  enough : (level : ℕ) (block : List ℕ) → (level ≡ 0) ⊎ (1 ≤ count_of block) → nat_le (least_of level (low_of s level block)) (count_of block) ≡ true
  enough level block some = by_count (cases_lt (count_of block) 1) some
    where
      by_count : (count_of block < 1) ⊎ (1 ≤ count_of block) → (level ≡ 0) ⊎ (1 ≤ count_of block)
          → nat_le (least_of level (low_of s level block)) (count_of block) ≡ true
      by_count (inr more) some = let most = least_most level (low_of s level block) in le-leb (least_of level (low_of s level block)) (count_of block) (omega (arith, most))
      by_count (inl none) (inr more) = absurd (omega arith)
      by_count (inl none) (inl leaf) =
          let low : low_of s level block ≡ None = first_of_none _ (count_of block) (omega arith) in
          let least : least_of level (low_of s level block) ≡ 0 = ap (least_of level) low ∙ ap (λ (l : ℕ). if l == 0 then 0 else 1) leaf in
          le-leb (least_of level (low_of s level block)) (count_of block) (omega (arith, least))

  agrees_itself : IsKind s → (key : Option K) → bound_agrees s key key ≡ true
  agrees_itself kind None = refl
  agrees_itself kind (Some key) = kind.same_as_itself key

  high_agrees : IsKind s → (r : Bool) (high : Option K) → (not r || bound_agrees s (if r then high else None) high) ≡ true
  high_agrees kind true high = agrees_itself kind high
  high_agrees kind false high = refl

  pub block_kept : IsKind s → (v : Volume) (level : ℕ) (row : List ℕ) (i : ℕ) (before : Option R) (block : List ℕ)
      → IsHeaded v s.layout s.owner level row i block → (level ≡ 0) ⊎ (1 ≤ count_of block) → count_of block ≤ capacity s.layout level
      → is_ordered s v level before block ≡ true
      → block_fault s v level (left_in row i) (right_in row i) before (seat_of s level (get_or row i 0) block) block ≡ None
  unfolding block_fault
  block_kept kind v level row i before block headed some full ordered =
      kept_all _ _ _ _ _ _ headed.sealed (eq-eqb _ _ headed.at_level)
      (both_true (enough level block some) (le-leb _ _ full))
      ordered
      (both_true (agrees_itself kind (low_of s level block)) (high_agrees kind s.layout.high (high_of s level block)))
      (both_true headed.at_left headed.at_right)

-- the neighbours in a row
left_next : (row : List ℕ) (i : ℕ) → i < length row → left_in row (i + 1) ≡ Some (get_or row i 0)
left_next row i inside =
    let more : ((i + 1) == 0) ≡ false = grind (arith, nat_tests) in
    let back : i + 1 - 1 ≡ i = omega arith in
    ap₂ (λ (r : Bool) (j : ℕ). if r then None else slice_get row j) more back ∙ slice_get-get_or row i 0 inside

module _ {R K : Type 0} (s : Shape R K) (v : Volume) (image : Image) (level : ℕ) where
  next_at : (row : List ℕ) (j : ℕ) → next_of None (own_seats s v image level (drop j row)) ≡ slice_get row j
  next_at [] zero = refl
  next_at [] (suc j) = refl
  next_at (place ∷ row) zero = refl
  next_at (place ∷ row) (suc j) = next_at row j

  at_clean : (block : ℕ) (fault : Option ℕ) (later : Option Unread) → fault ≡ None → later ≡ None → at_block block fault later ≡ None
  at_clean block fault later none rest = ap₂ (at_block block) none rest

  pub run_kept : (row : List ℕ) (before : ℕ → Option R)
      → ((i : ℕ) → i < length row → block_fault s v level (left_in row i) (right_in row i) (before i) (own_seat s v image level (get_or row i 0)) (bytes_of_block image (get_or row i 0)) ≡ None)
      → ((i : ℕ) → i < length row → behind s v image level (before i) (own_seat s v image level (get_or row i 0)) ≡ before (i + 1))
      → (i k : ℕ) → i + k ≡ length row → run_fault s v image level (left_in row i) None (before i) (own_seats s v image level (drop i row)) ≡ None
  unfolding run_fault
  run_kept row before here next i zero all =
      ap (λ (ps : List ℕ). run_fault s v image level (left_in row i) None (before i) (own_seats s v image level ps)) (drop_all i row (omega (arith, all)))
  run_kept row before here next i (suc k) all =
      let inside : i < length row = omega (arith, all) in
      let place = get_or row i 0 in
      let seat = own_seat s v image level place in
      let rest = own_seats s v image level (drop (i + 1) row) in
      let fault : block_fault s v level (left_in row i) (next_of None rest) (before i) seat (bytes_of_block image place) ≡ None =
      ap (λ (right : Option ℕ). block_fault s v level (left_in row i) right (before i) seat (bytes_of_block image place)) (next_at row (i + 1)) ∙ here i inside in
      let later : run_fault s v image level (Some place) None (behind s v image level (before i) seat) rest ≡ None =
      ap₂ (λ (left : Option ℕ) (b : Option R). run_fault s v image level left None b rest) (sym (left_next row i inside)) (next i inside)
      ∙ run_kept row before here next (i + 1) k (omega (arith, all)) in
      ap (λ (ps : List ℕ). run_fault s v image level (left_in row i) None (before i) (own_seats s v image level ps)) (drop_more row i 0 inside)
      ∙ at_clean place _ _ fault later
