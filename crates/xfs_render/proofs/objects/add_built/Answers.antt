use Rattle.std.proofs.Common.{[], List, ℕ, sym, subst, OnOk}
use Rattle.std.proofs.lemmas.Option.{get_or_from_slice_get}
use Rattle.xfs_geom.specs.Volumes.{volume_of}
use Rattle.xfs_render.specs.Objects.{AddsObject}
use Rattle.xfs_render.proofs.objects.add_built.Goals as goal

pub view-requires : goal.view-requires
view-requires c = record { inside = c.requires.built }

pub add_sealed-requires-clause-inside : goal.add_sealed-requires-clause-inside
add_sealed-requires-clause-inside c = c.requires.inside

pub add_sealed-requires-clause-built : goal.add_sealed-requires-clause-built
add_sealed-requires-clause-built c = c.view.ensures.size

pub add_sealed-requires-clause-draft : goal.add_sealed-requires-clause-draft
add_sealed-requires-clause-draft c = c.requires.draft

pub returns : goal.returns
returns c =
    subst (λ (b : List ℕ). OnOk c.add_sealed.result (AddsObject (volume_of c.args.g.now) c.args.at.now b c.args.draft.now c.add_sealed.new.draft))
    (sym (get_or_from_slice_get c.args.built.now c.args.j c.view.result.now [] c.view.ensures.block)) c.add_sealed.ensures
