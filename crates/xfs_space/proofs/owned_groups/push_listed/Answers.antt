use Rattle.std.proofs.Common.{◌≡◌, Vec, Global, sym, ◌∙◌, ap, if◌then◌else◌, Bool, ◌++◌, ◌∷◌, [], get_or, refl}
use Rattle.xfs_geom.specs.declared.records.Run.{Run}
use Rattle.xfs_space.specs.Owners.{listed_run}
use Rattle.xfs_space.proofs.OwnedRuns.{listed_end, listed_next}
use Rattle.xfs_space.proofs.owned_groups.push_listed.Goals as goal
use Rattle.xfs_space.proofs.owned_groups.push_listed.Goals.{then-not-contains+in_ok-push_run, else-not-contains}

pub loop-index-preserved : goal.loop-index-preserved
loop-index-preserved c =
    let runs = c.loop-index.runs.items in
    let more = runs ++ listed_run c.args.base (get_or c.args.ag_blocks.now c.loop-index.index 0) ∷ [] in
    let put = elim c.if-not-contains.branch as (λ w. c.if-not-contains.runs.items ≡ (if c.contains.result then runs else more)) [
      | then-not-contains+in_ok-push_run w ↦ ap (λ (rs : Vec Run Global). rs.items) w.runs-is ∙ w.in_ok-push_run.ensures ∙ ap (λ (t : Bool). if t then runs else more) (sym w.if-not-contains.true)
      | else-not-contains w ↦ ap (λ (rs : Vec Run Global). rs.items) w.runs-is ∙ ap (λ (t : Bool). if t then runs else more) (sym w.if-not-contains.false)
    ] in
    listed_next c.args.base c.args.ag_blocks.now c.loop-index.index c.contains.result runs c.if-not-contains.runs.items _ c.loop-index-test.true c.contains.ensures.value c.loop-index.invariant put

pub loop-index-init : goal.loop-index-init
loop-index-init c = refl

pub returns : goal.returns
returns c = listed_end c.args.base c.args.ag_blocks.now c.loop-index.index c.loop-index.runs.items _ c.loop-index-test.false c.loop-index.invariant
