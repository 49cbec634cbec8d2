-- The first of the rooms that a new cluster can take, and where lost+found then stands.
use Rattle.std.proofs.Common.{◌≡◌, ◌⊎◌, ℕ, ◌<◌, inl, inr, List, [], ◌∷◌, length, take, refl, sym, ◌∙◌, ap, subst, arith, slice_get}
use Rattle.xfs_place.specs.declared.faults.PlaceFault.{PlaceFault}
use Rattle.xfs_place.specs.declared.faults.PlaceFault.TheVariants as fault
use Rattle.xfs_place.specs.declared.faults.Unplaced.{Unplaced}
use Rattle.xfs_rename.specs.Lost.{IsFirst}

-- where one room is found, it is the first
pub one_room : (rooms starts : List ℕ) → starts ≡ take 1 rooms → length starts ≡ 1 → IsFirst (slice_get starts 0) rooms
one_room [] starts e l = absurd (omega (arith, l, ap (λ (ss : List ℕ). length ss) e))
one_room (r ∷ rs) starts e l = subst (λ (ss : List ℕ). IsFirst (slice_get ss 0) (r ∷ rs)) (sym e) (rs, refl)

pub no_room : (rooms : List ℕ) → length rooms < 1 → rooms ≡ []
no_room [] h = refl
no_room (r ∷ rs) h = absurd (omega (arith, h))

-- a fault that is no want of memory has its other cause
abbrev rank : PlaceFault → ℕ
rank (fault.NoRoom what) = 0
rank fault.NoMemory = 1

pub other_cause : {A : Type 0} (f : PlaceFault) (what other : Unplaced) → f ≡ fault.NoRoom what → (f ≡ fault.NoMemory) ⊎ ((f ≡ fault.NoRoom other) × A) → A
other_cause f what other is (inl e) = absurd (let same : 0 ≡ 1 = sym (ap rank is) ∙ ap rank e in omega (arith, same))
other_cause f what other is (inr p) = p.1
