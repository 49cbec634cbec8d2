-- What is wanted of a slot, found among slots in the order of their inodes.
use Rattle.std.proofs.Common.{◌≡◌, ℕ, zero, suc, ◌<◌, ◌≤◌, ◌==◌, Bool, false, if◌then◌else◌, List, [], ◌∷◌, length, get_or, Some, None, refl, ap, ◌∙◌, arith, inl, inr}
use Rattle.std.proofs.lemmas.Bool.{cases_lt, eq-eqb, ne_eqb}
use Rattle.xfs_render.specs.Slots.{wanted_of}
use Rattle.xfs_render.specs.declared.wanted_slots.SlotWanted.{SlotWanted}

-- none of the slots is the inode's
pub wanted_none : (slots : List SlotWanted) (ino : ℕ) → ((k : ℕ) (d : SlotWanted) → k < length slots → (get_or slots k d).ino ≡ ino → ⊥)
    → wanted_of slots ino ≡ None
wanted_none [] ino none = refl
wanted_none (w ∷ rest) ino none =
    let other : (w.ino == ino) ≡ false = ne_eqb w.ino ino (none 0 w (omega arith)) in
    ap (λ (t : Bool). if t then Some w else wanted_of rest ino) other
    ∙ wanted_none rest ino (λ k d inside. none (suc k) d (omega (arith, inside)))

-- the first of them that is
pub wanted_at : (slots : List SlotWanted) (ino place : ℕ) (d : SlotWanted) → place < length slots → (get_or slots place d).ino ≡ ino
    → ((k : ℕ) → k < place → (get_or slots k d).ino < ino) → wanted_of slots ino ≡ Some (get_or slots place d)
wanted_at [] ino place d inside here before = absurd (omega (arith, inside))
wanted_at (w ∷ rest) ino zero d inside here before = ap (λ (t : Bool). if t then Some w else wanted_of rest ino) (eq-eqb w.ino ino here)
wanted_at (w ∷ rest) ino (suc place) d inside here before =
    let low : w.ino < ino = before 0 (omega arith) in
    ap (λ (t : Bool). if t then Some w else wanted_of rest ino) (ne_eqb w.ino ino (λ e. omega (arith, e, low)))
    ∙ wanted_at rest ino place d (omega (arith, inside)) here (λ k early. before (suc k) (omega (arith, early)))

-- where the first that is not below the inode is not the inode's, none is
pub wanted_behind : (slots : List SlotWanted) (ino place : ℕ) → ((k : ℕ) (d : SlotWanted) → k < place → (get_or slots k d).ino < ino)
    → ((k : ℕ) (d : SlotWanted) → place ≤ k → k < length slots → ino < (get_or slots k d).ino) → wanted_of slots ino ≡ None
wanted_behind slots ino place before behind =
    wanted_none slots ino (λ k d inside here. elim (cases_lt k place) [
      | inl early ↦ omega (arith, before k d early, here)
      | inr late ↦ omega (arith, behind k d late inside, here)
    ])
