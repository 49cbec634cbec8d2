use Rattle.std.proofs.Common.{◌≡◌, [], get_or, refl, subst, sym, Result, Ok, Err, OnOk}
use Rattle.xfs_geom.specs.Volumes.{volume_of}
use Rattle.xfs_place.specs.declared.wanted.ObjectKind.{ObjectKind}
use Rattle.xfs_render.specs.Drafts.{AddsBlock}
use Rattle.xfs_render.specs.Objects.{AddsObject, IsKindBlock}
use Rattle.xfs_render.proofs.objects.add_object.Goals as goal

where_ok : {T E P Q : Type 0} (r : Result T E) → (P → Q) → OnOk r P → OnOk r Q
where_ok (Ok x) f p = f p
where_ok (Err e) f p = p

pub returns-in-Data : goal.returns-in-Data
returns-in-Data c =
    let v = volume_of c.args.g.now in
    let at = c.args.at.now in
    let b = get_or c.args.built.now c.args.j [] in
    let old = c.args.draft.now in
    let new = c.add_shared.new.self in
    let due : IsKindBlock at.kind v at b b = subst (λ (k : ObjectKind). IsKindBlock k v at b b) (sym c.in-Data.is) refl in
    where_ok c.add_shared.result (λ (adds : AddsBlock old new at.place b). record { block = b; due = due; adds = adds }) c.add_shared.ensures
