use Rattle.std.proofs.Common.{◌≡◌, ◌∙◌, ◌⊎◌, inl, inr, [], sym, ap}
use Rattle.std.proofs.lemmas.Result.{IfOk-weaker, IfErr-weaker}
use Rattle.xfs_names.specs.declared.place.LostPlace.{LostPlace}
use Rattle.xfs_names.specs.declared.place.LostPlace.TheVariants.{Cluster}
use Rattle.xfs_place.specs.declared.faults.PlaceFault.{PlaceFault}
use Rattle.xfs_place.specs.declared.faults.PlaceFault.TheVariants as fault
use Rattle.xfs_place.specs.declared.faults.Unplaced.TheVariants.{LostFound}
use Rattle.xfs_changes.specs.declared.lost_found.Lost.{Lost}
use Rattle.xfs_rename.specs.Lost.{cluster_found, lost_in, lost_due}
use Rattle.xfs_rename.specs.Renames.{LacksCluster}
use Rattle.xfs_rename.proofs.lost.find_lost.Goals as goal

pub returns-clause-lost : goal.returns-clause-lost
returns-clause-lost c =
    let g = c.args.g.now in
    let n = c.args.due.now in
    IfOk-weaker c.lost_in.result (λ (l : Lost). l ≡ lost_in g n c.in_ok-place.place) (λ (l : Lost). l ≡ lost_due g n)
    (λ l is. is ∙ ap (λ (p : LostPlace). lost_in g n p) c.in_ok-place.ensures) c.lost_in.ensures.lost

pub returns-clause-found : goal.returns-clause-found
returns-clause-found c =
    let g = c.args.g.now in
    let n = c.args.due.now in
    IfOk-weaker c.lost_in.result (λ (l : Lost). c.in_ok-place.place ≡ Cluster → cluster_found g n ≡ [] → ⊥) (λ (l : Lost). LacksCluster g n → ⊥)
    (λ l found lacks. found (c.in_ok-place.ensures ∙ lacks.0) lacks.1) c.lost_in.ensures.found

pub returns-clause-cause : goal.returns-clause-cause
returns-clause-cause c =
    let g = c.args.g.now in
    let n = c.args.due.now in
    IfErr-weaker c.lost_in.result
    (λ (f : PlaceFault). (f ≡ fault.NoMemory) ⊎ ((f ≡ fault.NoRoom LostFound) × ((c.in_ok-place.place ≡ Cluster) × (cluster_found g n ≡ []))))
    (λ (f : PlaceFault). (f ≡ fault.NoMemory) ⊎ ((f ≡ fault.NoRoom LostFound) × LacksCluster g n))
    (λ f why. elim why [
      | inl m ↦ inl m
      | inr p ↦ inr (p.0, (sym c.in_ok-place.ensures ∙ p.1.0, p.1.1))
    ]) c.lost_in.ensures.cause
