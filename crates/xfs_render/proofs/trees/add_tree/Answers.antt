use Rattle.std.proofs.Common.{◌≡◌, ◌∙◌, ◌≤◌, List, ℕ, length, drop, ap, sym, subst, arith, take_all}
use Rattle.std.proofs.lemmas.Result.{IfOk-from_err}
use Rattle.std.proofs.lemmas.List.{take-append-le}
use Rattle.std.proofs.lemmas.List.Elements.{All-from_get_or}
use Rattle.xfs_disk.specs.Blocks.{bytes_of_block}
use Rattle.xfs_treebuild.specs.Exact.{IsExact}
use Rattle.xfs_treebuild.specs.Packing.{HoldsParts, lsn_of}
use Rattle.xfs_render.proofs.trees.add_tree.Goals as goal

pub returns : goal.returns
returns g c =
    let part = c.pack.new.part in
    let n = c.in_ok-part.part.len in
    let low : n ≤ length part = omega (arith, c.pack.ensures.len, c.deref_mut.ensures.len) in
    let high : length part ≤ n = omega (arith, c.pack.ensures.len, c.deref_mut.ensures.len) in
    let same : c.deref.result.now ≡ part =
    c.deref.ensures.value ∙ take-append-le n part (drop (length part) c.in_ok-part.part.items) low ∙ take_all n part high in
    let s = g.K.Kind.shape c.args.kind.now in
    let layout = s.layout in
    let places = c.args.places.now in
    record {
      adds = c.in_ok-add.ensures.adds;
      has = λ image held.
          let blocks : HoldsParts image places part = subst (λ (b : List ℕ). HoldsParts image places b) same (c.in_ok-add.ensures.held image held) in
          record {
            reads = c.pack.ensures.reads image blocks;
            packed = c.pack.ensures.packed image blocks;
            lsns = All-from_get_or (λ place. lsn_of layout (bytes_of_block image place) ≡ 0) places 0
                (λ j inside. ap (lsn_of layout) (blocks j inside) ∙ c.pack.ensures.lsns j inside);
            exact = All-from_get_or (λ place. IsExact s (bytes_of_block image place)) places 0
                (λ j inside. subst (IsExact s) (sym (blocks j inside)) (c.pack.ensures.exact j inside));
          };
    }

pub pack-requires-clause-lawful : goal.pack-requires-clause-lawful
pack-requires-clause-lawful g c = λ κs lives. c.requires.can_pack.lawful

pub pack-requires-clause-size : goal.pack-requires-clause-size
pack-requires-clause-size g c = λ κs lives. c.requires.can_pack.size

pub pack-requires-clause-can_hold : goal.pack-requires-clause-can_hold
pack-requires-clause-can_hold g c = λ κs lives. c.requires.can_pack.held

pub pack-requires-clause-different : goal.pack-requires-clause-different
pack-requires-clause-different g c = λ κs lives. c.requires.can_pack.different

pub pack-requires-clause-few : goal.pack-requires-clause-few
pack-requires-clause-few g c = λ κs lives. omega (arith, c.requires.can_pack.few)

pub add-requires-clause-draft : goal.add-requires-clause-draft
add-requires-clause-draft g c = c.requires.draft

pub returns-in_err-part : goal.returns-in_err-part
returns-in_err-part g c = IfOk-from_err c.from_residual.result _ c.from_residual.ensures.0

pub returns-in_err-add : goal.returns-in_err-add
returns-in_err-add g c = IfOk-from_err c.from_residual-in_err-add.result _ c.from_residual-in_err-add.ensures.0

pub returns-in_default : goal.returns-in_default
returns-in_default g c = tt
