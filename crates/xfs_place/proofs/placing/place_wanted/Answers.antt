use Rattle.std.proofs.Common.{◌≡◌, ◌<◌, ◌^◌, ◌⊎◌, ℕ, List, length, IfErr, IfOk, sym, ap, subst, ◌∙◌}
use Rattle.std.specs.List.{All}
use Rattle.xfs_geom.specs.Volumes.{volume_of}
use Rattle.xfs_place.specs.declared.faults.PlaceFault.TheVariants as Fault
use Rattle.xfs_place.specs.declared.faults.Unplaced.TheVariants as What
use Rattle.xfs_place.specs.declared.wanted.GroupInodes.{GroupInodes}
use Rattle.xfs_place.specs.Standing.{AreOfPool}
use Rattle.xfs_place.specs.Wanted.{ArePlaced, IsWithoutRoom}
use Rattle.xfs_place.proofs.placing.place_wanted.Goals as goal

pub place_groups-requires-clause-inodes : goal.place_groups-requires-clause-inodes
place_groups-requires-clause-inodes c = ap length c.as_slice.ensures ∙ c.requires.inodes

pub place_groups-requires-clause-few : goal.place_groups-requires-clause-few
place_groups-requires-clause-few c = subst (All (λ (group : GroupInodes). length group.records < 2 ^ 32)) (sym c.as_slice.ensures) c.requires.few

pub returns-clause-placed : goal.returns-clause-placed
returns-clause-placed c =
    let w = c.args.wanted.now in
    let v = volume_of w.geometry in
    subst (λ (r : List ℕ). IfOk c.place_groups.result (λ groups. ArePlaced v c.args.all.now r w.inodes w.geometry.agcount groups.items)) c.as_slice-reserved.ensures
    (subst (λ (is : List GroupInodes). IfOk c.place_groups.result (λ groups. ArePlaced v c.args.all.now c.as_slice-reserved.result.now is w.geometry.agcount groups.items)) c.as_slice.ensures c.place_groups.ensures.placed)

pub returns-clause-pool : goal.returns-clause-pool
returns-clause-pool c =
    let w = c.args.wanted.now in
    let v = volume_of w.geometry in
    subst (λ (r : List ℕ). IfOk c.place_groups.result (λ groups. AreOfPool v c.args.all.now r w.inodes w.geometry.agcount groups.items)) c.as_slice-reserved.ensures
    (subst (λ (is : List GroupInodes). IfOk c.place_groups.result (λ groups. AreOfPool v c.args.all.now c.as_slice-reserved.result.now is w.geometry.agcount groups.items)) c.as_slice.ensures c.place_groups.ensures.pool)

pub returns-clause-cause : goal.returns-clause-cause
returns-clause-cause c =
    let w = c.args.wanted.now in
    let v = volume_of w.geometry in
    subst (λ (r : List ℕ). IfErr c.place_groups.result (λ fault. (fault ≡ Fault.NoMemory) ⊎ ((ag : ℕ) × (fault ≡ Fault.NoRoom (What.Group ag)) × IsWithoutRoom v c.args.all.now r w.inodes ag))) c.as_slice-reserved.ensures
    (subst (λ (is : List GroupInodes). IfErr c.place_groups.result (λ fault. (fault ≡ Fault.NoMemory) ⊎ ((ag : ℕ) × (fault ≡ Fault.NoRoom (What.Group ag)) × IsWithoutRoom v c.args.all.now c.as_slice-reserved.result.now is ag)))
    c.as_slice.ensures c.place_groups.ensures.cause)
