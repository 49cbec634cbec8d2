use Rattle.std.proofs.Common.{◌≡◌, ◌∙◌, List, ℕ, ap, sym, subst}
use Rattle.std.specs.List.{All}
use Rattle.std.proofs.lemmas.Result.{IfOk-weaker, IfOk-from_err}
use Rattle.xfs_geom.specs.declared.records.Run.{Run}
use Rattle.xfs_place.specs.Pool.{IsRunOf}
use Rattle.xfs_place.specs.Objects.{ServeAsks, asks_of}
use Rattle.xfs_place.specs.declared.wanted.RunAsk.{RunAsk}
use Rattle.xfs_render.specs.Objects.{asks_with_kind, blocks_of_asks}
use Rattle.xfs_render.proofs.ObjectSteps.{plain_all, plain_asks}
use Rattle.xfs_render.proofs.object_blocks.object_blocks.Goals as goal

pub list_blocks-requires-clause-cuts : goal.list_blocks-requires-clause-cuts
list_blocks-requires-clause-cuts c =
    let p = c.args.placed.now in
    let objects = c.args.wanted.now.objects in
    let plain : plain_asks c.deref.result.now ≡ asks_of objects =
    ap plain_asks (c.deref.ensures.value ∙ c.in_ok-asks.ensures ∙ ap asks_with_kind c.as_slice.ensures) ∙ plain_all objects in
    subst (λ (runs : List Run). ServeAsks (plain_asks c.deref.result.now) c.as_slice-2.result.now runs) (sym c.as_slice-3.ensures)
    (subst (λ (cuts : List ℕ). ServeAsks (plain_asks c.deref.result.now) cuts p.runs) (sym c.as_slice-2.ensures)
    (subst (λ (asks : List RunAsk). ServeAsks asks p.cuts p.runs) (sym plain) c.requires.cuts))

pub list_blocks-requires-clause-runs : goal.list_blocks-requires-clause-runs
list_blocks-requires-clause-runs c = subst (λ (rs : List Run). All (IsRunOf c.args.wanted.now.geometry.dblocks) rs) (sym c.as_slice-3.ensures) c.requires.runs

pub returns-in_err-asks : goal.returns-in_err-asks
returns-in_err-asks c = IfOk-from_err c.from_residual.result _ c.from_residual.ensures.0

pub returns : goal.returns
returns c =
    let asks = c.deref.ensures.value ∙ c.in_ok-asks.ensures ∙ ap asks_with_kind c.as_slice.ensures in
    IfOk-weaker c.list_blocks.result _ _ (λ blocks is. is ∙ (λ i. blocks_of_asks (asks i) (c.as_slice-2.ensures i) (c.as_slice-3.ensures i))) c.list_blocks.ensures
