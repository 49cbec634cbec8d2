-- A log is clean just where it has a head.
use Rattle.std.proofs.Common.{◌≡◌, ℕ, ◌^◌, Bool, true, false, ◌||◌, ◌⊎◌, cond, List, length, inl, inr, refl, sym, ap, ap₂, ◌∙◌}
use Rattle.std.specs.List.{list_all}
use Rattle.std.proofs.lemmas.Bool.{cond-true, cond-false}
use Rattle.xfs_log.specs.Log.{is_unwritten_sector, first_cycle, front, is_unmounted, is_cleared, head_number, IsHead, state_of}
use Rattle.xfs_log.specs.declared.sectors.SectorSeen.{SectorSeen}
use Rattle.xfs_heads.specs.declared.log_state.LogState.{LogState}
use Rattle.xfs_heads.specs.declared.log_state.LogState.TheVariants.{Clean, Dirty}
use Rattle.xfs_log.proofs.Alone.{alone}

number_of : LogState → ℕ
number_of (Clean number) = number
number_of Dirty = 0

is_clean : LogState → Bool
is_clean (Clean number) = true
is_clean Dirty = false

differ : false ≡ true → ⊥
differ h = cc

-- the two of which one held
which : (a b : Bool) → (a || b) ≡ true → (a ≡ true) ⊎ (b ≡ true)
which true b h = inl refl
which false b h = inr h

either : (a b : Bool) → (a ≡ true) ⊎ (b ≡ true) → (a || b) ≡ true
either true b h = refl
either false b h = elim h [ inl wrong ↦ absurd (differ wrong) | inr is ↦ is ]

found : (seen : List SectorSeen) (number : ℕ) (r s : Bool) → list_all is_unwritten_sector seen ≡ r
    → (is_unmounted seen (first_cycle seen) (front seen) || is_cleared seen (first_cycle seen) (front seen)) ≡ s
    → cond r (Clean (2 ^ 32)) (cond s (Clean (head_number (first_cycle seen) (front seen) (length seen))) Dirty) ≡ Clean number
    → IsHead seen number
unfolding is_clean number_of
found seen number true s unwritten has is = inl (unwritten, sym (ap number_of is))
found seen number false true unwritten has is = inr (first_cycle seen, front seen, which _ _ has, sym (ap number_of is))
found seen number false false unwritten has is = absurd (differ (ap is_clean is))

pub has_head : (seen : List SectorSeen) (number : ℕ) → state_of seen ≡ Clean number → IsHead seen number
unfolding state_of
has_head seen number is = found seen number _ _ refl refl is

pub of_head : (seen : List SectorSeen) (number : ℕ) → IsHead seen number → state_of seen ≡ Clean number
unfolding state_of
of_head seen number h =
    elim h [
      | inl u ↦ cond-true _ _ _ u.0 ∙ ap Clean (sym u.1)
      | inr d ↦
          let only = alone seen in
          let cycle = d.0 in
          let head = d.1 in
          let same_cycle : cycle ≡ first_cycle seen = only.cycle cycle head d.2 in
          let same_head : head ≡ front seen = only.place cycle head d.2 in
          let one = either _ _ d.2 in
          let here : (is_unmounted seen (first_cycle seen) (front seen) || is_cleared seen (first_cycle seen) (front seen)) ≡ true =
          ap₂ (λ (c p : ℕ). is_unmounted seen c p || is_cleared seen c p) (sym same_cycle) (sym same_head) ∙ one in
          cond-false _ _ _ (only.written cycle head d.2)
          ∙ (cond-true _ _ _ here ∙ ap Clean (ap₂ (λ (c p : ℕ). head_number c p (length seen)) (sym same_cycle) (sym same_head) ∙ sym d.3))
    ]
