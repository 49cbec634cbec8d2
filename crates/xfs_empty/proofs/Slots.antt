-- What is wanted of the first slots can be made.
use Rattle.std.proofs.Common.{◌≡◌, ℕ, zero, suc, ◌+◌, ◌%◌, ◌≤◌, ◌<◌, Bool, true, false, ◌==◌, ◌≢◌, cond, List, [], ◌∷◌, length, get_or, Some, arith, refl, sym, subst}
use Rattle.std.specs.List.Sorted.{IsNonDecreasingBy}
use Rattle.std.proofs.lemmas.Bool.{eq-eqb, eqb-true, eqb-false, ne_eqb}
use Rattle.xfs_disk.specs.declared.stamp.Stamp.{Stamp}
use Rattle.xfs_geom.specs.Volumes.{Volume}
use Rattle.xfs_render.specs.Slots.{CanMake, CanSlot, IsFreshCore, wanted_of}
use Rattle.xfs_render.specs.declared.wanted_slots.SlotWanted.{SlotWanted}
use Rattle.xfs_empty.specs.Inodes.{IsFirstSlot, IsRootSlot, unused_slot, root_core, system_core, system_slot}

-- slots with numbers that go up by one from a on
pub record AreNumbered (a : ℕ) (slots : List SlotWanted) : Type 0 where
  pub each : (k : ℕ) (d : SlotWanted) → k < length slots → (get_or slots k d).ino ≡ a + k

rest_numbered : (a : ℕ) (w : SlotWanted) (slots : List SlotWanted) → AreNumbered a (w ∷ slots) → AreNumbered (a + 1) slots
rest_numbered a w slots numbered =
    record { each = λ k d low. let at = numbered.each (suc k) d (omega (arith, low)) in omega (arith, at) }

-- the slot of a number
pub wanted_is : (a ino i : ℕ) (slots : List SlotWanted) (d : SlotWanted) → AreNumbered a slots → i < length slots → ino ≡ a + i
    → wanted_of slots ino ≡ Some (get_or slots i d)
wanted_is a ino i [] d numbered low at = absurd (omega (arith, low))
wanted_is a ino zero (w ∷ slots) d numbered low at =
    let first : w.ino ≡ a + 0 = numbered.each zero d (omega arith) in
    let same : (w.ino == ino) ≡ true = eq-eqb _ _ (omega (arith, first, at)) in
    rw same refl
wanted_is a ino (suc i) (w ∷ slots) d numbered low at =
    let first : w.ino ≡ a + 0 = numbered.each zero d (omega arith) in
    let other : (w.ino == ino) ≡ false = ne_eqb _ _ (λ same. absurd (omega (arith, first, at, same))) in
    rw other (wanted_is (a + 1) ino i slots d (rest_numbered a w slots numbered) (omega (arith, low)) (omega (arith, at)))

pub in_order : (a : ℕ) (slots : List SlotWanted) → AreNumbered a slots → IsNonDecreasingBy (λ (s : SlotWanted). s.ino) slots
in_order a slots numbered i j d low inside =
    let first = numbered.each i d (omega (arith, low, inside)) in
    let second = numbered.each j d inside in
    omega (arith, first, second, low)

root_fresh : (v : Volume) (s : Stamp) → IsFreshCore v 128 (root_core v s)
root_fresh v s =
    record {
      number = refl;
      magic = refl;
      version = refl;
      used = omega arith;
      uuid = refl;
      lsn = refl;
      no_attributes = refl;
      plain_data = refl;
      plain = refl;
    }

system_fresh : (v : Volume) (s : Stamp) (ino : ℕ) → IsFreshCore v ino (system_core v s ino)
system_fresh v s ino =
    record {
      number = refl;
      magic = refl;
      version = refl;
      used = omega arith;
      uuid = refl;
      lsn = refl;
      no_attributes = refl;
      plain_data = by_case (ino == 129);
      plain = refl;
    }
  where
    by_case : (r : Bool) → cond r 4 0 % 2 ≡ 0
    by_case true = refl
    by_case false = refl

root_can : (v : Volume) (s : Stamp) (w : SlotWanted) (old : List ℕ) → IsRootSlot v s w → CanMake v w old
root_can v s w old root =
    subst (λ (x : SlotWanted). CanMake v x old) (sym root.is)
    (record {
      base = root_fresh v s;
      forkoff = omega arith;
      fork = record { few = rw root.root.nextents (omega arith); short = rw root.root.bytes (omega arith) };
    })

system_can : (v : Volume) (s : Stamp) (ino : ℕ) (w : SlotWanted) (old : List ℕ) → w ≡ system_slot v s ino → CanMake v w old
system_can v s ino w old is =
    subst (λ (x : SlotWanted). CanMake v x old) (sym is) (record { base = system_fresh v s ino; forkoff = omega arith; fork = tt })

free_can : (v : Volume) (ino : ℕ) (w : SlotWanted) (old : List ℕ) → w ≡ unused_slot ino → CanMake v w old
free_can v ino w old is =
    subst (λ (x : SlotWanted). CanMake v x old) (sym is) (record { base = tt; forkoff = omega arith; fork = tt })

-- whatever stood there before
pub first_can : (v : Volume) (s : Stamp) (ino : ℕ) (w : SlotWanted) (old : List ℕ) → 128 ≤ ino → IsFirstSlot v s ino w → CanMake v w old
first_can v s ino w old low first = by_case (ino == 128) refl
  where
    rest : (r : Bool) → (ino == 129) ≡ r → (q : Bool) → (ino == 130) ≡ q → ino ≢ 128 → CanMake v w old
    rest true is q other not_root =
        let at : ino ≡ 129 = eqb-true _ _ is in system_can v s ino w old (first.system (omega arith) (omega arith))
    rest false is true other not_root =
        let at : ino ≡ 130 = eqb-true _ _ other in system_can v s ino w old (first.system (omega arith) (omega arith))
    rest false is false other not_root =
        let not_bitmap : ino ≢ 129 = eqb-false _ _ is in
        let not_summary : ino ≢ 130 = eqb-false _ _ other in
        free_can v ino w old (first.free (omega arith))

    by_case : (r : Bool) → (ino == 128) ≡ r → CanMake v w old
    by_case true is = root_can v s w old (first.root (eqb-true _ _ is))
    by_case false is = rest (ino == 129) refl (ino == 130) refl (eqb-false _ _ is)

pub slot_can : (v : Volume) (slots : List SlotWanted) (ino : ℕ) (w : SlotWanted) (old : List ℕ) → wanted_of slots ino ≡ Some w → CanMake v w old
    → CanSlot v slots ino old
slot_can v slots ino w old is can = rw is can
