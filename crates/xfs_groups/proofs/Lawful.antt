-- The records of a tree that reads are lawful, and those of a tree of owners are apart.
use Rattle.std.proofs.Common.{◌≡◌, ℕ, suc, ◌+◌, ◌-◌, ◌&&◌, ◌||◌, ◌==◌, nat_le, not, Bool, true, false, List, [], ◌∷◌, ◌++◌, add-one, Option, Some, None, Result, Ok, Err, refl, sym, ap, ◌∙◌, subst, arith}
use Rattle.std.specs.List.{flat_map}
use Rattle.std.specs.Option.{option_and_then}
use Rattle.std.proofs.lemmas.Bool.{and_from, and_parts, leb-true}
use Rattle.xfs_geom.specs.Features.{or_else}
use Rattle.xfs_word.specs.Seal.{is_sealed}
use Rattle.xfs_disk.specs.Blocks.{Image, bytes_of_block}
use Rattle.xfs_geom.specs.First.{first_false}
use Rattle.xfs_geom.specs.Volumes.{Volume}
use Rattle.xfs_geom.specs.declared.records.RmapRec.{RmapRec}
use Rattle.xfs_heads.specs.declared.free_space.Agf.{Agf}
use Rattle.xfs_kinds.specs.declared.owners.RmapKey.{RmapKey}
use Rattle.xfs_kinds.specs.OwnerTrees.{follows_end, is_owned_run, rmap_shape}
use Rattle.xfs_tree.specs.declared.seats.Seat.{Seat}
use Rattle.xfs_tree.specs.declared.unread.Unread.{Unread}
use Rattle.xfs_tree.specs.Blocks.{capacity, count_of, left_of, level_of, records_of, right_of}
use Rattle.xfs_tree.specs.Reading.{Contents, at_block, fault_above, met_above, next_of, reading, records_under, row_fault, level_row, rule_at, unless}
use Rattle.xfs_tree.specs.Rules.{bound_agrees, are_lawful, block_fault, block_seal, high_of, is_ordered, is_sibling, last_of, least_of, low_of, place_fault}
use Rattle.xfs_tree.specs.Shape.{Shape}
use Rattle.xfs_tree.proofs.Depths.{records_from}
use Rattle.xfs_image.specs.Groups.{contents, rmap_at}
use Rattle.xfs_groups.specs.Named.{RecordsApart, AreOwnersApart}

no_fault : (block : ℕ) (rule : Option ℕ) (later : Option Unread) → at_block block rule later ≡ None → (rule ≡ None) × (later ≡ None)
no_fault block None later h = (refl, h)
no_fault block (Some rule) later h = absurd (cc)

second_none : {A : Type 0} (first later : Option A) → or_else first later ≡ None → later ≡ None
second_none None later h = h
second_none (Some fault) later h = absurd (cc)

passed : (number : ℕ) (test : Bool) (tests : List (ℕ × Bool)) → first_false ((number, test) ∷ tests) ≡ None → (test ≡ true) × (first_false tests ≡ None)
passed number true tests h = (refl, h)
passed number false tests h = absurd (cc)

fourth : (a b c d : ℕ) (w x y z : Bool) (tests : List (ℕ × Bool)) → first_false ((a, w) ∷ (b, x) ∷ (c, y) ∷ (d, z) ∷ tests) ≡ None → z ≡ true
fourth a b c d w x y z tests h =
    let one = passed a w ((b, x) ∷ (c, y) ∷ (d, z) ∷ tests) h in
    let two = passed b x ((c, y) ∷ (d, z) ∷ tests) one.1 in
    let three = passed c y ((d, z) ∷ tests) two.1 in
    (passed d z tests three.1).0

held_by : {A : Type 0} (fault : Option Unread) (held tree : A) → unless fault held ≡ Ok tree → (fault ≡ None) × (held ≡ tree)
held_by None held tree h = (refl, cc)
held_by (Some fault) held tree h = absurd (cc)

module _ {R K : Type 0} (s : Shape R K) (v : Volume) where
  lawful_then : (before : Option R) (xs ys : List R) → are_lawful s v before xs ≡ true → are_lawful s v (last_of before xs) ys ≡ true → are_lawful s v before (xs ++ ys) ≡ true
  lawful_then before [] ys one two = two
  lawful_then before (x ∷ xs) ys one two =
      let parts = and_parts (s.lawful v before x) (are_lawful s v (Some x) xs) one in
      and_from (s.lawful v before x) (are_lawful s v (Some x) (xs ++ ys)) parts.0 (lawful_then (Some x) xs ys parts.1 two)

  ordered : (left right : Option ℕ) (before : Option R) (seat : Seat K) (block : List ℕ) → block_fault s v 0 left right before seat block ≡ None
      → are_lawful s v before (records_of s block) ≡ true
  unfolding block_fault
  ordered left right before seat block h =
      fourth 3 4 5 6 (is_sealed (block_seal v s.layout s.owner seat.place) block) (level_of block == 0)
      (nat_le (least_of 0 seat.low) (count_of block) && nat_le (count_of block) (capacity s.layout 0)) (is_ordered s v 0 before block)
      ((7, bound_agrees s seat.low (low_of s 0 block) && (not s.layout.high || bound_agrees s seat.high (high_of s 0 block)))
      ∷ (8, is_sibling v s.layout s.owner left (left_of s.layout block) && is_sibling v s.layout s.owner right (right_of s.layout block)) ∷ []) h

  module _ (image : Image) where
    -- the records of leaves that keep the rules, one leaf behind the other
    row_lawful : (met : List ℕ) (left right : Option ℕ) (before : Option R) (seats : List (Seat K)) → row_fault s v image 0 met left right before seats ≡ None
        → are_lawful s v before (flat_map (records_under s v image 0) seats) ≡ true
    unfolding row_fault records_under
    row_lawful met left right before [] h = refl
    row_lawful met left right before (seat ∷ seats) h =
        let parts = no_fault seat.place (rule_at s v image 0 met left (next_of right seats) before seat) _ h in
        let sound = second_none (place_fault s v met seat.place) (block_fault s v 0 left (next_of right seats) before seat (bytes_of_block image seat.place)) parts.0 in
        let here = ordered left (next_of right seats) before seat (bytes_of_block image seat.place) sound in
        lawful_then before (records_of s (bytes_of_block image seat.place)) (flat_map (records_under s v image 0) seats) here
        (row_lawful (met ++ seat.place ∷ []) (Some seat.place) right (last_of before (records_of s (bytes_of_block image seat.place))) seats parts.1)

    pub reads_lawful : (tops : List (Seat K)) (height : ℕ) (tree : Contents R) → reading s v image tops height ≡ Ok tree → are_lawful s v None tree.records ≡ true
    unfolding fault_above
    reads_lawful tops height tree reads =
        let parts = held_by (fault_above s v image tops height (height + 1)) _ tree reads in
        let all : fault_above s v image tops height (suc height) ≡ None = ap (fault_above s v image tops height) (sym (add-one height)) ∙ parts.0 in
        let leaves : row_fault s v image (height - height) (met_above s v image tops height) None None None (level_row s v image tops height) ≡ None =
        second_none (fault_above s v image tops height height) _ all in
        let last : height - height ≡ 0 = omega arith in
        let row : row_fault s v image 0 (met_above s v image tops height) None None None (level_row s v image tops height) ≡ None =
        subst (λ (n : ℕ). row_fault s v image n (met_above s v image tops height) None None None (level_row s v image tops height) ≡ None) last leaves in
        let lawful = row_lawful (met_above s v image tops height) None None None (level_row s v image tops height) row in
        let under : flat_map (records_under s v image 0) (level_row s v image tops height) ≡ tree.records =
        records_from s v image 0 height height tops (omega arith) ∙ ap (λ (t : Contents R). t.records) parts.1 in
        subst (λ (rs : List R). are_lawful s v None rs ≡ true) under lawful

-- where the record in front ends
abbrev end_of : Option RmapRec → ℕ
end_of None = 0
end_of (Some r) = r.start + r.count

lawful_apart : (v : Volume) (ag : ℕ) (before : Option RmapRec) (rs : List RmapRec) → are_lawful (rmap_shape ag) v before rs ≡ true → RecordsApart (end_of before) rs
lawful_apart v ag before [] h = tt
lawful_apart v ag None (r ∷ rs) h =
    (omega arith, lawful_apart v ag (Some r) rs (and_parts ((rmap_shape ag).lawful v None r) (are_lawful (rmap_shape ag) v (Some r) rs) h).1)
lawful_apart v ag (Some b) (r ∷ rs) h =
    let parts = and_parts ((rmap_shape ag).lawful v (Some b) r) (are_lawful (rmap_shape ag) v (Some r) rs) h in
    let follows = (and_parts (is_owned_run v ag r) (follows_end (Some b) r) parts.0).1 in
    (leb-true (b.start + b.count) r.start follows, lawful_apart v ag (Some r) rs parts.1)

held_apart : (v : Volume) (image : Image) (ag : ℕ) (tops : List (Seat RmapKey)) (height : ℕ) (read : Result (Contents RmapRec) Unread)
    → reading (rmap_shape ag) v image tops height ≡ read → AreOwnersApart (contents read)
held_apart v image ag tops height (Ok tree) is = lawful_apart v ag None tree.records (reads_lawful (rmap_shape ag) v image tops height tree is)
held_apart v image ag tops height (Err fault) is = tt

at_apart : (v : Volume) (image : Image) (ag : ℕ) (agf : Option Agf) → AreOwnersApart (option_and_then (rmap_at v image ag) agf)
at_apart v image ag None = tt
at_apart v image ag (Some agf) = held_apart v image ag _ _ _ refl

-- the records of the tree of owners of a group are apart, where it reads
pub owners_apart : (v : Volume) (image : Image) (ag : ℕ) (agf : Option Agf) (tree : Option (Contents RmapRec)) → tree ≡ option_and_then (rmap_at v image ag) agf → AreOwnersApart tree
owners_apart v image ag agf tree is = subst AreOwnersApart (sym is) (at_apart v image ag agf)
