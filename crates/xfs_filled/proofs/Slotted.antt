-- What is wanted of the slots of chunks: by number, and it can be made of them.
use Rattle.std.proofs.Common.{◌≡◌, ◌≢◌, ℕ, zero, suc, ◌+◌, ◌-◌, ◌*◌, ◌==◌, ◌≤◌, ◌<◌, ◌⊎◌, inl, inr, Bool, true, false, cond, ◌||◌, nat_lt, List, length, map, get_or, Some, arith, refl, sym, subst, ap, ◌∙◌}
use Rattle.std.specs.List.{flat_map, range_with_len}
use Rattle.std.specs.List.Sorted.{IsNonDecreasingBy}
use Rattle.std.proofs.lemmas.Bool.{cases_eq, cases_lt, eq-eqb, eqb-true, eqb-false, false≢true, ne_eqb}
use Rattle.std.proofs.lemmas.List.FromFn.{get_or-map-range_with_len, length-map-range_with_len}
use Rattle.xfs_disk.specs.declared.stamp.Stamp.{Stamp}
use Rattle.xfs_empty.specs.Inodes.{system_slot, unused_slot}
use Rattle.xfs_geom.specs.Shape.{HasAddresses, HasGroups}
use Rattle.xfs_geom.specs.Volumes.{Volume}
use Rattle.xfs_geom.specs.declared.records.Run.{Run}
use Rattle.xfs_proto.specs.declared.protofile.ProtoNode.{ProtoNode}
use Rattle.xfs_render.specs.Slots.{wanted_of}
use Rattle.xfs_render.specs.declared.wanted_slots.SlotWanted.{SlotWanted}
use Rattle.xfs_filled.specs.Numbers.{index_of_place, inode_at, number_of}
use Rattle.xfs_filled.specs.Forks.{extents_of_run, owned_by}
use Rattle.xfs_filled.specs.Slots.{all_slots, core_at, slot_of_place, fork_of_place, made_slot, place_of_index, slot_of_index}
use Rattle.xfs_filled.proofs.Ascending.{inode_at_up}
use Rattle.xfs_filled.proofs.Rising.{Rise}

-- the place of a file and the number of its inode among all
place_index : (j : ℕ) → j ≢ 1 → j ≢ 2 → index_of_place (place_of_index j) ≡ j
place_index j first second = by_case (cases_eq j 0)
  where
    by_case : (j ≡ 0) ⊎ (j ≢ 0) → index_of_place (place_of_index j) ≡ j
    by_case (inl none) = subst (λ (m : ℕ). index_of_place (place_of_index m) ≡ m) (sym none) refl
    by_case (inr some) =
        let three : 3 ≤ j = omega (arith, first, second, some) in
        let place : place_of_index j ≡ j - 2 = ap (λ (t : Bool). cond t 0 (j - 2)) (ne_eqb j 0 some) in
        let other : j - 2 ≢ 0 = λ none. omega (arith, three, none) in
        let index : index_of_place (j - 2) ≡ j - 2 + 2 = ap (λ (t : Bool). cond t 0 (j - 2 + 2)) (ne_eqb (j - 2) 0 other) in
        let whole : j - 2 + 2 ≡ j = omega (arith, three) in
        ap index_of_place place ∙ index ∙ whole

pub place_is : (j : ℕ) → place_of_index j ≡ j - 2
place_is j = by_case (cases_eq j 0)
  where
    by_case : (j ≡ 0) ⊎ (j ≢ 0) → place_of_index j ≡ j - 2
    by_case (inl none) = subst (λ (m : ℕ). place_of_index m ≡ m - 2) (sym none) refl
    by_case (inr some) = ap (λ (t : Bool). cond t 0 (j - 2)) (ne_eqb j 0 some)

module _ (v : Volume) (s : Stamp) (starts : List ℕ) (ns : List ProtoNode) (contents : List (List ℕ)) (runs : List Run) where
  -- the slot of an inode is the one of its number
  pub slot_ino : (j : ℕ) → (slot_of_index v s starts ns contents runs j).ino ≡ inode_at v starts j
  slot_ino j = first (j == 1) refl
    where
      third : (r : Bool) → j ≢ 1 → j ≢ 2 → (cond r (slot_of_place v s starts ns contents runs (place_of_index j)) (unused_slot (inode_at v starts j))).ino ≡ inode_at v starts j
      third true one two = ap (λ (i : ℕ). inode_at v starts i) (place_index j one two)
      third false one two = refl

      second : (r : Bool) → (j == 2) ≡ r → j ≢ 1
          → (cond r (system_slot v s (inode_at v starts 2)) (cond (nat_lt j (length ns + 2)) (slot_of_place v s starts ns contents runs (place_of_index j)) (unused_slot (inode_at v starts j)))).ino ≡ inode_at v starts j
      second true is one = ap (λ (i : ℕ). inode_at v starts i) (sym (eqb-true j 2 is))
      second false is one = third (nat_lt j (length ns + 2)) one (eqb-false j 2 is)

      first : (r : Bool) → (j == 1) ≡ r
          → (cond r (system_slot v s (inode_at v starts 1)) (cond (j == 2) (system_slot v s (inode_at v starts 2)) (cond (nat_lt j (length ns + 2)) (slot_of_place v s starts ns contents runs (place_of_index j)) (unused_slot (inode_at v starts j))))).ino ≡ inode_at v starts j
      first true is = ap (λ (i : ℕ). inode_at v starts i) (sym (eqb-true j 1 is))
      first false is = second (j == 2) refl (eqb-false j 1 is)

  -- the slot of a file, whose runs are these
  pub slot_is : (j k : ℕ) (own : List Run) (slot : SlotWanted) → (j == 1) ≡ false → (j == 2) ≡ false → nat_lt j (length ns + 2) ≡ true → k ≡ j - 2
      → own ≡ owned_by (number_of v starts k) runs
      → slot ≡ made_slot (number_of v starts k) (core_at v s starts ns k) (fork_of_place v starts ns contents (flat_map (extents_of_run v) own) k)
      → slot ≡ slot_of_index v s starts ns contents runs j
  slot_is j k own slot one two inside at are is =
      is
      ∙ ap (λ (rs : List Run). made_slot (number_of v starts k) (core_at v s starts ns k) (fork_of_place v starts ns contents (flat_map (extents_of_run v) rs) k)) are
      ∙ ap (slot_of_place v s starts ns contents runs) (at ∙ sym (place_is j))
      ∙ sym
      (ap (λ (t : Bool). cond t (system_slot v s (inode_at v starts 1)) (cond (j == 2) (system_slot v s (inode_at v starts 2)) (cond (nat_lt j (length ns + 2)) (slot_of_place v s starts ns contents runs (place_of_index j)) (unused_slot (inode_at v starts j))))) one
      ∙ ap (λ (t : Bool). cond t (system_slot v s (inode_at v starts 2)) (cond (nat_lt j (length ns + 2)) (slot_of_place v s starts ns contents runs (place_of_index j)) (unused_slot (inode_at v starts j)))) two
      ∙ ap (λ (t : Bool). cond t (slot_of_place v s starts ns contents runs (place_of_index j)) (unused_slot (inode_at v starts j))) inside)

  -- the slot of a system inode
  pub system_is : (j ino : ℕ) (slot : SlotWanted) → (j == 1 || j == 2) ≡ true → ino ≡ inode_at v starts j → slot ≡ system_slot v s ino
      → slot ≡ slot_of_index v s starts ns contents runs j
  system_is j ino slot one number is =
      is ∙ ap (system_slot v s) number ∙ sym (first (j == 1) refl)
    where
      rest : SlotWanted
      rest = cond (nat_lt j (length ns + 2)) (slot_of_place v s starts ns contents runs (place_of_index j)) (unused_slot (inode_at v starts j))

      second : (r : Bool) → (j == 2) ≡ r → r ≡ true → cond r (system_slot v s (inode_at v starts 2)) rest ≡ system_slot v s (inode_at v starts j)
      second true is one = ap (λ (m : ℕ). system_slot v s (inode_at v starts m)) (sym (eqb-true j 2 is))
      second false is one = absurd (false≢true one)

      first : (r : Bool) → (j == 1) ≡ r
          → cond r (system_slot v s (inode_at v starts 1)) (cond (j == 2) (system_slot v s (inode_at v starts 2)) rest) ≡ system_slot v s (inode_at v starts j)
      first true is = ap (λ (m : ℕ). system_slot v s (inode_at v starts m)) (sym (eqb-true j 1 is))
      first false is = second (j == 2) refl (ap (λ (t : Bool). t || (j == 2)) (sym is) ∙ one)

  -- the slot of a free inode
  pub unused_is : (j ino : ℕ) (slot : SlotWanted) → (j == 1) ≡ false → (j == 2) ≡ false → nat_lt j (length ns + 2) ≡ false → ino ≡ inode_at v starts j
      → slot ≡ unused_slot ino → slot ≡ slot_of_index v s starts ns contents runs j
  unused_is j ino slot one two inside number is =
      is ∙ ap unused_slot number
      ∙ sym
      (ap (λ (t : Bool). cond t (system_slot v s (inode_at v starts 1)) (cond (j == 2) (system_slot v s (inode_at v starts 2)) (cond (nat_lt j (length ns + 2)) (slot_of_place v s starts ns contents runs (place_of_index j)) (unused_slot (inode_at v starts j))))) one
      ∙ ap (λ (t : Bool). cond t (system_slot v s (inode_at v starts 2)) (cond (nat_lt j (length ns + 2)) (slot_of_place v s starts ns contents runs (place_of_index j)) (unused_slot (inode_at v starts j)))) two
      ∙ ap (λ (t : Bool). cond t (slot_of_place v s starts ns contents runs (place_of_index j)) (unused_slot (inode_at v starts j))) inside)

  module _ (end least : ℕ) (groups : HasGroups v.dblocks v.agblocks v.agcount) (addresses : HasAddresses v.agblocks v.agblklog) (rise : Rise end least starts) where
    -- the slots stand by number
    pub slots_in_order : IsNonDecreasingBy (λ (w : SlotWanted). w.ino) (all_slots v s starts ns contents runs)
    unfolding all_slots
    slots_in_order i j d less inside =
        let f : ℕ → SlotWanted = slot_of_index v s starts ns contents runs in
        let n : ℕ = 64 * length starts in
        let low : j < n = let long = length-map-range_with_len f 0 n in omega (arith, long, inside) in
        let one : (get_or (map f (range_with_len 0 n)) i d).ino ≡ inode_at v starts i =
        ap (λ (w : SlotWanted). w.ino) (get_or-map-range_with_len f 0 n i i d (omega (arith, less, low)) (omega arith)) ∙ slot_ino i in
        let other : (get_or (map f (range_with_len 0 n)) j d).ino ≡ inode_at v starts j =
        ap (λ (w : SlotWanted). w.ino) (get_or-map-range_with_len f 0 n j j d low (omega arith)) ∙ slot_ino j in
        up one other (cases_lt i j) low
      where
        up : {a b : ℕ} → a ≡ inode_at v starts i → b ≡ inode_at v starts j → (i < j) ⊎ (j ≤ i) → j < 64 * length starts → a ≤ b
        up one other (inl before) low = let above = inode_at_up v end least i j starts groups addresses rise before low in omega (arith, one, other, above)
        up one other (inr behind) low = let same : i ≡ j = omega (arith, less, behind) in let numbers = ap (λ (k : ℕ). inode_at v starts k) same in omega (arith, one, other, numbers)

    -- what is wanted of the slot with a number
    wanted_from : (a n j : ℕ) → a ≤ j → j < a + n → a + n ≤ 64 * length starts
        → wanted_of (map (slot_of_index v s starts ns contents runs) (range_with_len a n)) (inode_at v starts j) ≡ Some (slot_of_index v s starts ns contents runs j)
    wanted_from a zero j low high inside = absurd (omega (arith, low, high))
    wanted_from a (suc n) j low high inside =
        by_case (λ before. wanted_from (a + 1) n j (omega (arith, before)) (omega (arith, high)) (omega (arith, inside))) (cases_lt a j)
      where
        by_case : (a < j → wanted_of (map (slot_of_index v s starts ns contents runs) (range_with_len (a + 1) n)) (inode_at v starts j) ≡ Some (slot_of_index v s starts ns contents runs j))
            → (a < j) ⊎ (j ≤ a)
            → cond ((slot_of_index v s starts ns contents runs a).ino == inode_at v starts j) (Some (slot_of_index v s starts ns contents runs a))
            (wanted_of (map (slot_of_index v s starts ns contents runs) (range_with_len (a + 1) n)) (inode_at v starts j)) ≡ Some (slot_of_index v s starts ns contents runs j)
        by_case rest (inl before) =
            let above = inode_at_up v end least a j starts groups addresses rise before (omega (arith, high, inside)) in
            let number = slot_ino a in
            let other : ((slot_of_index v s starts ns contents runs a).ino == inode_at v starts j) ≡ false = ne_eqb _ _ (λ same. absurd (omega (arith, same, number, above))) in
            rw other (rest before)
        by_case rest (inr behind) =
            let same : a ≡ j = omega (arith, low, behind) in
            let number : (slot_of_index v s starts ns contents runs a).ino ≡ inode_at v starts j = slot_ino a ∙ ap (λ (k : ℕ). inode_at v starts k) same in
            rw (eq-eqb _ _ number) (ap (λ (k : ℕ). Some (slot_of_index v s starts ns contents runs k)) same)

    pub wanted_slot : (j : ℕ) → j < 64 * length starts → wanted_of (all_slots v s starts ns contents runs) (inode_at v starts j) ≡ Some (slot_of_index v s starts ns contents runs j)
    unfolding all_slots
    wanted_slot j low = wanted_from 0 (64 * length starts) j (omega arith) (omega (arith, low)) (omega arith)

pub slots_are : (v : Volume) (s : Stamp) (starts : List ℕ) (ns : List ProtoNode) (contents : List (List ℕ)) (runs : List Run)
    → map (slot_of_index v s starts ns contents runs) (range_with_len 0 (64 * length starts)) ≡ all_slots v s starts ns contents runs
unfolding all_slots
slots_are v s starts ns contents runs = refl

-- an inode that is no system inode is not the second nor the third
pub neither : (p q : Bool) → (p || q) ≡ false → (p ≡ false) × (q ≡ false)
neither false false is = (refl, refl)
neither false true is = absurd (false≢true (sym is))
neither true q is = absurd (false≢true (sym is))
