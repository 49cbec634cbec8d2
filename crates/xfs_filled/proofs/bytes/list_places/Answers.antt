use Rattle.std.proofs.Common.{ℕ, ◌*◌, ◌++◌, List, [], ◌∷◌, arith, sym, ap, ◌∙◌, ◌≡◌, append-nil, take_all}
use Rattle.std.proofs.lemmas.Result.{IfOk-from_err}
use Rattle.std.specs.List.{range_with_len}
use Rattle.std.proofs.lemmas.List.FromFn.{map-range_with_len_more}
use borrow.Author.Count.{falls}
use Rattle.xfs_render.proofs.ObjectSteps.{flat_more}
use Rattle.xfs_empty.specs.Bytes.{header_places}
use Rattle.xfs_filled.specs.Wanting.{blocks_of_chunks}
use Rattle.xfs_filled.proofs.bytes.list_places.Goals as goal

pub loop-ag-preserved : goal.loop-ag-preserved
loop-ag-preserved c =
    let ag = c.loop-ag.ag in
    let agblocks = c.args.g.now.agblocks in
    c.in_ok-push.ensures.items ∙ ap (λ (head : ℕ). c.loop-ag.places.items ++ head ∷ []) c.head_of.ensures
    ∙ ap (λ (xs : List ℕ). xs ++ (ag * agblocks) ∷ []) c.loop-ag.invariant
    ∙ sym (map-range_with_len_more (λ (k : ℕ). k * agblocks) 0 ag ag (omega arith))

pub loop-start-preserved : goal.loop-start-preserved
loop-start-preserved c =
    let heads = header_places c.args.g.now.agblocks c.args.g.now.agcount in
    record {
      all = flat_more (λ (start : ℕ). range_with_len start 8) heads c.loop-start.places.items c.push_chunk.new.places.items c.args.starts.now c.loop-start.start-index 0 c.loop-start-test.true
          c.loop-start.invariant.all c.in_ok-push_chunk.ensures;
    }

pub push_chunk-requires : goal.push_chunk-requires
push_chunk-requires c =
    let inside = c.requires.volume c.loop-start.start-index 0 c.loop-start-test.true in
    let small = c.args.g.now.shape.groups.small in
    omega (arith, inside, small)

pub loop-ag-init : goal.loop-ag-init
loop-ag-init c = c.new-places.ensures.items

pub loop-ag-smaller : goal.loop-ag-smaller
loop-ag-smaller c = falls _ c.loop-ag.ag c.loop-ag-test.true

pub returns-in_err-push : goal.returns-in_err-push
returns-in_err-push c = IfOk-from_err c.from_residual.result _ c.from_residual.ensures.0

pub returns-in_err-push_chunk : goal.returns-in_err-push_chunk
returns-in_err-push_chunk c = IfOk-from_err c.from_residual-in_err-push_chunk.result _ c.from_residual-in_err-push_chunk.ensures.0

pub loop-start-init : goal.loop-start-init
loop-start-init c =
    let g = c.args.g.now in
    let all : c.loop-ag.ag ≡ g.agcount = omega (arith, c.loop-ag-test.false, c.loop-ag.auto.ag-end) in
    record { all = c.loop-ag.invariant ∙ ap (header_places g.agblocks) all ∙ sym (append-nil (header_places g.agblocks g.agcount)) }

pub loop-start-smaller : goal.loop-start-smaller
loop-start-smaller c = falls _ c.loop-start.start-index c.loop-start-test.true

pub returns : goal.returns
returns c =
    let heads = header_places c.args.g.now.agblocks c.args.g.now.agcount in
    c.loop-start.invariant.all
    ∙ ap (λ (starts : List ℕ). heads ++ blocks_of_chunks starts) (take_all c.loop-start.start-index c.args.starts.now (omega (arith, c.loop-start-test.false)))
