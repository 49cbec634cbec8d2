-- Where everything stands that is wanted, nothing is without room.
use Rattle.std.proofs.Common.{◌≡◌, ℕ, ◌++◌, inl, inr, List, [], length, Some, None, Result, Ok, Err, sym, subst, ap, ◌∙◌}
use Rattle.xfs_geom.specs.Volumes.{volume_of}
use Rattle.xfs_geom.specs.declared.records.Run.{Run}
use Rattle.xfs_place.specs.Choice.{Group, IsChosenCount}
use Rattle.xfs_place.specs.Wanted.{FindsNoRoom, IsWithoutRoom, all_kept, kept_runs, wanted_group}
use Rattle.xfs_place.specs.declared.faults.Unplaced.{Unplaced}
use Rattle.xfs_place.specs.declared.placed.Placed.{Placed}
use Rattle.xfs_place.specs.declared.wanted.Wanted.{Wanted}
use Rattle.xfs_render.specs.Rendering.{no_group}
use Rattle.xfs_empty.specs.Planning.{HasRoom, StandsFor}

-- the runs, where there are some
abbrev inner : Result (List Run) Unplaced → List Run
inner (Ok runs) = runs
inner (Err what) = []

-- a number and none are not both chosen
never_both : (g : Group) (n : ℕ) → IsChosenCount g (Some n) → IsChosenCount g None → ⊥
never_both g n (inl least) none = none.0 n least.0
never_both g n (inr rest) none = none.1 n rest.1.0

clash : (r : Result (List Run) Unplaced) (runs : List Run) (what : Unplaced) → r ≡ Ok runs → r ≡ Err what → ⊥
clash r runs what found none =
    let both : Ok runs ≡ Err what = sym found ∙ none in
    cc

group_clash : (w : Wanted) (p : Placed) → StandsFor w p → (all : List Run) (ag : ℕ) → all_kept w ≡ Ok all
    → IsWithoutRoom (volume_of w.geometry) all w.reserved w.inodes ag → ⊥
group_clash w p stands all ag found without =
    let same : kept_runs w ++ p.runs ≡ all = ap inner (sym stands.runs' ∙ found) in
    let placed = stands.groups'.each ag no_group without.inside in
    never_both (wanted_group (volume_of w.geometry) (kept_runs w ++ p.runs) w.reserved w.inodes ag) (length placed.blocks) placed.chosen
    (subst (λ (k : List Run). IsChosenCount (wanted_group (volume_of w.geometry) k w.reserved w.inodes ag) None) (sym same) without.none)

pub has_room : (w : Wanted) (p : Placed) → StandsFor w p → HasRoom w
has_room w p stands = record { all = λ what finds. refused what finds }
  where
    refused : (what : Unplaced) → FindsNoRoom w what → ⊥
    refused what (inl none) = clash (all_kept w) (kept_runs w ++ p.runs) what stands.runs' none
    refused what (inr room) = group_clash w p stands room.0 room.1 room.2 room.4
