-- The blocks of a group that are free are those without an owner.
use Rattle.std.proofs.Common.{◌≡◌, ◌≢◌, ℕ, ◌<◌, inl, inr, Bool, true, false, not, ◌&&◌, ◌||◌, ◌==◌, nat_le, nat_lt, if◌then◌else◌, List, length, Option, Some, None, is_some, refl, sym, ◌∙◌, ap, true≢false}
use Rattle.std.proofs.lemmas.Bool.{cases_eq, cases_lt, eq-eqb, le-leb, le-ltb, lt-leb, lt-ltb, ne_eqb}
use Rattle.xfs_geom.specs.Runs.{runs_on}
use Rattle.xfs_geom.specs.declared.records.Run.{Run}
use Rattle.xfs_kinds.specs.MergedRuns.{held_at}
use Rattle.xfs_place.specs.Choice.{Group, IsPlacingGroup, in_pool, is_free_at, is_spare, owned_at, owner_by, rank}
use Rattle.xfs_place.specs.Pool.{is_open, use_at}
use Rattle.xfs_place.specs.declared.uses.Use.{Use}
use Rattle.xfs_place.specs.declared.uses.Use.TheVariants.{Pool, Reserved, Claimed, ForSpace, ForInodes}
use Rattle.xfs_place.proofs.Ordered.{none_held, none_on}

open_closed : (w : Use) → is_open w ≡ true → is_spare w ≡ false
open_closed Pool h = refl
open_closed Reserved h = absurd (true≢false (sym h))
open_closed Claimed h = refl
open_closed ForSpace h = refl
open_closed ForInodes h = refl

-- a block of the pool is free where it is not taken
opened : (s : Bool) (k n : ℕ) (mine : ℕ × ℕ) (claim : Option (ℕ × ℕ)) → s ≡ false → claim ≡ None
    → (s || (true && nat_le n k)) ≡ not (is_some (if true && nat_lt k n then Some mine else claim))
opened s k n mine claim spare none = elim (cases_lt k n) [
  | inl low ↦
      let high : nat_le n k ≡ false = lt-leb n k low in
      let taken : nat_lt k n ≡ true = lt-ltb k n low in
      rw (spare, high, taken) refl
  | inr far ↦
      let high : nat_le n k ≡ true = le-leb n k far in
      let taken : nat_lt k n ≡ false = le-ltb k n far in
      rw (spare, high, taken, none) refl
]

none_some : (p : ℕ × ℕ) (o : Option (ℕ × ℕ)) → o ≡ Some p → o ≡ None → ⊥
none_some p o some none = cc

-- another one is free where nothing is claimed of it
shut : (s : Bool) (claim : Option (ℕ × ℕ)) → (s ≡ true → claim ≡ None) → (claim ≡ None → s ≡ true) → (s || false) ≡ not (is_some claim)
shut true None free only = refl
shut true (Some p) free only = absurd (none_some p (Some p) refl (free refl))
shut false None free only = absurd (true≢false (sym (only refl)))
shut false (Some p) free only = refl

pub free_is : (g : Group) → IsPlacingGroup g → (space n b : ℕ) → b < length g.uses → is_free_at g.uses n b ≡ not (is_some (owned_at g space n b))
free_is g good space n b inside = by_case (in_pool g.uses b) refl
  where
    by_case : (t : Bool) → in_pool g.uses b ≡ t → (is_spare (use_at g.uses b) || (t && nat_le n (rank g.uses b)))
        ≡ not (is_some (if t && nat_lt (rank g.uses b) n then Some (owner_by g space (rank g.uses b), 0) else g.claim b))
    by_case true pool =
        opened (is_spare (use_at g.uses b)) (rank g.uses b) n (owner_by g space (rank g.uses b), 0) (g.claim b) (open_closed (use_at g.uses b) pool) (good.free b pool)
    by_case false closed =
        shut (is_spare (use_at g.uses b)) (g.claim b) (good.spare b) (λ none. sym (ap (λ (t : Bool). t || is_spare (use_at g.uses b)) closed) ∙ good.rest b inside none)

-- no run has a block where it has no owner
held_some : (rs : List Run) (x : ℕ) → runs_on rs x ≢ 0 → not (is_some (held_at rs x)) ≡ false
held_some rs x some = by_case (held_at rs x) refl
  where
    by_case : (o : Option (ℕ × ℕ)) → held_at rs x ≡ o → not (is_some (held_at rs x)) ≡ false
    by_case None e = absurd (some (none_held rs x e))
    by_case (Some p) e = ap (λ (o : Option (ℕ × ℕ)). not (is_some o)) e

pub without_owner : (rs : List Run) (x : ℕ) → (runs_on rs x == 0) ≡ not (is_some (held_at rs x))
without_owner rs x = elim (cases_eq (runs_on rs x) 0) [
  | inl none ↦ eq-eqb (runs_on rs x) 0 none ∙ sym (ap (λ (o : Option (ℕ × ℕ)). not (is_some o)) (none_on rs x none))
  | inr some ↦ ne_eqb (runs_on rs x) 0 some ∙ sym (held_some rs x some)
]
