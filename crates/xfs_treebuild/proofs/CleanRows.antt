-- A row whose blocks keep the rules 3 to 8 between their neighbours keeps all where its places are lawful and differ.
use Rattle.std.proofs.Common.{◌≡◌, ℕ, ◌==◌, nat_le, Bool, true, false, not, ◌||◌, ◌&&◌, if◌then◌else◌, List, [], ◌∷◌, ◌++◌, Option, Some, None, refl, sym, subst, arith}
use Rattle.std.proofs.lemmas.Bool.{and_parts, and_from, not_from_false, or_right, le-leb}
use Rattle.std.proofs.lemmas.List.{append_assoc}
use Rattle.std.specs.List.{list_any, AllByRecursion, IsDistinct}
use Rattle.xfs_geom.specs.Features.{or_else}
use Rattle.xfs_disk.specs.Blocks.{Image, bytes_of_block}
use Rattle.xfs_geom.specs.First.{first_false}
use Rattle.xfs_geom.specs.Volumes.{Volume}
use Rattle.xfs_tree.specs.declared.seats.Seat.{Seat}
use Rattle.xfs_tree.specs.declared.unread.Unread.{Unread}
use Rattle.xfs_tree.specs.Shape.{Shape}
use Rattle.xfs_tree.specs.Blocks.{level_of, count_of, capacity, left_of, right_of}
use Rattle.xfs_tree.specs.Rules.{can_hold, block_seal, least_of, is_sibling, is_ordered, bound_agrees, low_of, high_of, block_fault, place_fault}
use Rattle.xfs_tree.specs.Reading.{root_seat, next_of, places_of, at_block, behind, row_fault}
use Rattle.xfs_treebuild.specs.Packing.{own_seat, run_fault}
use Rattle.xfs_treebuild.proofs.Apart.{not_met}
use Rattle.xfs_word.specs.Seal.{is_sealed}

-- where no test of a list fails, the first does not, nor those behind it
passed : (number : ℕ) (test : Bool) (tests : List (ℕ × Bool)) → first_false ((number, test) ∷ tests) ≡ None → (test ≡ true) × (first_false tests ≡ None)
passed number true tests h = (refl, h)
passed number false tests h = cc

passes : (number : ℕ) (test : Bool) (tests : List (ℕ × Bool)) → test ≡ true → first_false tests ≡ None → first_false ((number, test) ∷ tests) ≡ None
passes number true tests kept h = h
passes number false tests kept h = cc

-- of six tests the third and the fifth may be weaker ones
weaker : (a b c d e f third fifth : Bool) → (c ≡ true → third ≡ true) → fifth ≡ true
    → first_false ((3, a) ∷ (4, b) ∷ (5, c) ∷ (6, d) ∷ (7, e) ∷ (8, f) ∷ []) ≡ None
    → first_false ((3, a) ∷ (4, b) ∷ (5, third) ∷ (6, d) ∷ (7, fifth) ∷ (8, f) ∷ []) ≡ None
weaker a b c d e f third fifth enough held h =
    let of_a = passed 3 a ((4, b) ∷ (5, c) ∷ (6, d) ∷ (7, e) ∷ (8, f) ∷ []) h in
    let of_b = passed 4 b ((5, c) ∷ (6, d) ∷ (7, e) ∷ (8, f) ∷ []) of_a.1 in
    let of_c = passed 5 c ((6, d) ∷ (7, e) ∷ (8, f) ∷ []) of_b.1 in
    let of_d = passed 6 d ((7, e) ∷ (8, f) ∷ []) of_c.1 in
    let of_e = passed 7 e ((8, f) ∷ []) of_d.1 in
    let from_fifth = passes 7 fifth ((8, f) ∷ []) held of_e.1 in
    let from_d = passes 6 d ((7, fifth) ∷ (8, f) ∷ []) of_d.0 from_fifth in
    let from_third = passes 5 third ((6, d) ∷ (7, fifth) ∷ (8, f) ∷ []) (enough of_c.0) from_d in
    let from_b = passes 4 b ((5, third) ∷ (6, d) ∷ (7, fifth) ∷ (8, f) ∷ []) of_b.0 from_third in
    passes 3 a ((4, b) ∷ (5, third) ∷ (6, d) ∷ (7, fifth) ∷ (8, f) ∷ []) of_a.0 from_b

no_fault : (block : ℕ) (rule : Option ℕ) (later : Option Unread) → at_block block rule later ≡ None → (rule ≡ None) × (later ≡ None)
no_fault block None later h = (refl, h)
no_fault block (Some rule) later h = cc

clean : (block : ℕ) (first rule : Option ℕ) (later : Option Unread) → first ≡ None → rule ≡ None → later ≡ None
    → at_block block (or_else first rule) later ≡ None
clean block None None later a b c = c
clean block None (Some rule) later a b c = cc
clean block (Some first) rule later a b c = cc

-- a block without a parent may have as many as one with a parent, and more
least_enough : {K : Type 0} (level n : ℕ) (low : Option K) → nat_le (least_of level low) n ≡ true → nat_le (least_of {K = K} level None) n ≡ true
least_enough level n None h = h
least_enough level n (Some low) h = by_level (level == 0) h
  where
    by_level : (leaf : Bool) → nat_le 1 n ≡ true → nat_le (if leaf then 0 else 1) n ≡ true
    by_level true h = le-leb 0 n (omega arith)
    by_level false h = h

module _ {R K : Type 0} (s : Shape R K) (v : Volume) where
  seat_clean : (met : List ℕ) (seat : Seat K) → can_hold v s.layout s.owner seat.place ≡ true
      → list_any (λ block. block == seat.place) met ≡ false → place_fault s v met seat.place ≡ None
  seat_clean met seat can apart =
      let new = not (list_any (λ block. block == seat.place) met) in
      let second = passes 2 new [] (not_from_false (list_any (λ block. block == seat.place) met) apart) refl in
      passes 1 (can_hold v s.layout s.owner seat.place) ((2, new) ∷ []) can second

  -- the rules ask of a root no more than of a block with its own keys
  root_sound : (level place : ℕ) (low high : Option K) (left right : Option ℕ) (before : Option R) (block : List ℕ)
      → block_fault s v level left right before (record { place = place; low = low; high = high }) block ≡ None
      → block_fault s v level left right before (root_seat place) block ≡ None
  unfolding block_fault
  root_sound level place low high left right before block h =
      let low_key = low_of s level block in
      let high_key = high_of s level block in
      let count = nat_le (least_of level low) (count_of block) in
      let room = nat_le (count_of block) (capacity s.layout level) in
      let enough = λ (held : (count && room) ≡ true).
      let counts = and_parts count room held in
      and_from (nat_le (least_of {K = K} level None) (count_of block)) room (least_enough level (count_of block) low counts.0) counts.1 in
      weaker
      (is_sealed (block_seal v s.layout s.owner place) block) (level_of block == level) (count && room)
      (is_ordered s v level before block)
      (bound_agrees s low low_key && (not s.layout.high || bound_agrees s high high_key))
      (is_sibling v s.layout s.owner left (left_of s.layout block) && is_sibling v s.layout s.owner right (right_of s.layout block))
      (nat_le (least_of {K = K} level None) (count_of block) && room)
      (not s.layout.high || true)
      enough (or_right (not s.layout.high) true refl) h

  module _ (image : Image) where
    pub root_run : (level place : ℕ) → run_fault s v image level None None None (own_seat s v image level place ∷ []) ≡ None
        → run_fault s v image level None None None (root_seat place ∷ []) ≡ None
    unfolding run_fault
    root_run level place h =
        let seat = own_seat s v image level place in
        let sound = no_fault place (block_fault s v level None None None seat (bytes_of_block image place)) None h in
        let root = root_sound level place seat.low seat.high None None None (bytes_of_block image place) sound.0 in
        clean place None (block_fault s v level None None None (root_seat place) (bytes_of_block image place)) None refl root refl

    pub row_clean : (level : ℕ) (met : List ℕ) (left right : Option ℕ) (before : Option R) (seats : List (Seat K))
        → run_fault s v image level left right before seats ≡ None
        → AllByRecursion (λ place. can_hold v s.layout s.owner place ≡ true) (places_of seats)
        → IsDistinct ◌==◌ (met ++ places_of seats)
        → row_fault s v image level met left right before seats ≡ None
    unfolding run_fault row_fault
    row_clean level met left right before [] sound can apart = refl
    row_clean level met left right before (seat ∷ seats) sound can apart =
        let rule = block_fault s v level left (next_of right seats) before seat (bytes_of_block image seat.place) in
        let next = behind s v image level before seat in
        let kept = no_fault seat.place rule (run_fault s v image level (Some seat.place) right next seats) sound in
        let first = seat_clean met seat can.0 (not_met met seat.place (places_of seats) apart) in
        let more = subst (IsDistinct ◌==◌) (sym (append_assoc met (seat.place ∷ []) (places_of seats))) apart in
        clean seat.place (place_fault s v met seat.place) rule _ first kept.0
        (row_clean level (met ++ seat.place ∷ []) (Some seat.place) right next seats kept.1 can.1 more)
