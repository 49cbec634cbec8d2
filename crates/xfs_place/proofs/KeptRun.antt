-- One run alone, which is kept.
use Rattle.std.proofs.Common.{◌≡◌, ℕ, ◌+◌, ◌-◌, ◌*◌, ◌/◌, ◌%◌, ◌≤◌, ◌<◌, ◌⊎◌, ◌==◌, ◌&&◌, nat_le, nat_lt, inl, inr, [], ◌∷◌, refl, ◌∙◌, ap, arith}
use Rattle.std.proofs.lemmas.Bool.{or_cases, and_parts, eqb-true, leb-true, ltb-true, false_from_ne_true}
use Rattle.std.proofs.Math.Nat.{div-add-mod'}
use Rattle.std.proofs.lemmas.Nat.{mod-mul-add}
use Rattle.std.proofs.lemmas.List.Elements.{All-cons, All-nil}
use Rattle.xfs_geom.specs.Runs.{covers, runs_on}
use Rattle.xfs_geom.specs.Conversions.{is_fixed}
use Rattle.xfs_geom.specs.Volumes.{Volume}
use Rattle.xfs_geom.specs.declared.records.Run.{Run}
use Rattle.xfs_place.specs.Claims.{IsClaimedRun}
use Rattle.xfs_place.specs.Wanted.{CanBeKept, IsOffFixed}
use Rattle.xfs_place.proofs.Found.{one_small}
use Rattle.xfs_place.proofs.Ordered.{on_first}

clear_alone : (v : Volume) (r : Run) → 1 ≤ r.start % v.agblocks → r.start % v.agblocks + r.count ≤ v.agblocks
    → (r.start + r.count ≤ v.log) ⊎ (v.log + v.logblocks ≤ r.start) → IsOffFixed v r
clear_alone v r behind within log = λ x has. false_from_ne_true (is_fixed v x) (λ fixed.
    let parts = and_parts (nat_le r.start x) (nat_lt x (r.start + r.count)) has in
    let low : r.start ≤ x = leb-true r.start x parts.0 in
    let high : x < r.start + r.count = ltb-true x (r.start + r.count) parts.1 in
    elim (or_cases (x % v.agblocks == 0) (nat_le v.log x && nat_lt x (v.log + v.logblocks)) fixed) [
      | inl first ↦
          let w = v.agblocks in
          let at : x ≡ r.start / w * w + (r.start % w + (x - r.start)) = omega (arith, low, div-add-mod' r.start w) in
          let rest : x % w ≡ r.start % w + (x - r.start) = ap (λ (n : ℕ). n % w) at ∙ mod-mul-add (r.start / w) w (r.start % w + (x - r.start)) (omega (arith, low, high, within)) in
          let none : x % w ≡ 0 = eqb-true (x % w) 0 first in
          omega (arith, none, rest, behind)
      | inr inside ↦
          let sides = and_parts (nat_le v.log x) (nat_lt x (v.log + v.logblocks)) inside in
          let from : v.log ≤ x = leb-true v.log x sides.0 in
          let to : x < v.log + v.logblocks = ltb-true x (v.log + v.logblocks) sides.1 in
          elim log [
            | inl before ↦ omega (arith, before, from, high)
            | inr after ↦ omega (arith, after, to, low)
          ]
    ])

pub kept_alone : (v : Volume) (r : Run) → IsClaimedRun v.dblocks r → 1 ≤ r.start % v.agblocks → r.start % v.agblocks + r.count ≤ v.agblocks
    → (r.start + r.count ≤ v.log) ⊎ (v.log + v.logblocks ≤ r.start) → CanBeKept v (r ∷ [])
kept_alone v r claim behind within log = record {
  each = All-cons (IsClaimedRun v.dblocks) r [] claim (All-nil (IsClaimedRun v.dblocks));
  clear = All-cons (IsOffFixed v) r [] (clear_alone v r behind within log) (All-nil (IsOffFixed v));
  apart = record { once = λ block. omega (arith, on_first r [] block, one_small (covers block r), none block) };
}
  where
    none : (block : ℕ) → runs_on [] block ≡ 0
    none block = refl
