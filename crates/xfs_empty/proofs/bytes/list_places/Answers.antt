use Rattle.std.proofs.Common.{◌≡◌, ◌<◌, ◌^◌, rules, ℕ, ◌+◌, ◌-◌, ◌*◌, ◌++◌, List, [], ◌∷◌, arith, sym, ap, ◌∙◌}
use Rattle.std.specs.List.{range_with_len}
use Rattle.std.proofs.lemmas.List.{append_assoc, append-nil}
use Rattle.std.proofs.lemmas.List.FromFn.{map-range_with_len_more}
use Rattle.std.proofs.lemmas.Result.{IfOk-from_err}
use Rattle.xfs_empty.specs.Bytes.{header_places}
use Rattle.xfs_empty.proofs.Pushed.{product_fits, range_more}
use Rattle.xfs_empty.proofs.bytes.list_places.Goals as goal

pub loop-ag-preserved : goal.loop-ag-preserved
loop-ag-preserved c =
    let ag = c.loop-ag.ag in
    let agblocks = c.args.g.now.agblocks in
    c.in_ok-push.ensures.items ∙ ap (λ (xs : List ℕ). xs ++ (ag * agblocks) ∷ []) c.loop-ag.invariant
    ∙ sym (map-range_with_len_more (λ (k : ℕ). k * agblocks) 0 ag ag (omega arith))

pub loop-block-preserved : goal.loop-block-preserved
loop-block-preserved c =
    let block = c.loop-block.block in
    let m = c.loop-block.block - 16 in
    let heads = header_places c.args.g.now.agblocks c.args.g.now.agcount in
    let at : c.loop-block.block ≡ 16 + (c.loop-block.block - 16) = omega (arith, c.loop-block.auto.block) in
    let next : c.loop-block.block + 1 - 16 ≡ c.loop-block.block - 16 + 1 = omega (arith, c.loop-block.auto.block) in
    c.in_ok-push-2.ensures.items ∙ ap (λ (xs : List ℕ). xs ++ block ∷ []) c.loop-block.invariant ∙ append_assoc heads (range_with_len 16 m) (block ∷ [])
    ∙ ap (λ (xs : List ℕ). heads ++ xs)
    (ap (λ (b : ℕ). range_with_len 16 m ++ b ∷ []) at ∙ sym (range_more 16 m) ∙ ap (λ (n : ℕ). range_with_len 16 n) (sym next))

pub returns : goal.returns
returns c =
    let eight : c.loop-block.block - 16 ≡ 8 = omega (arith, c.loop-block.auto.block, c.loop-block.auto.block-end, c.loop-block-test.false) in
    c.loop-block.invariant ∙ ap (λ (n : ℕ). header_places c.args.g.now.agblocks c.args.g.now.agcount ++ range_with_len 16 n) eight

pub loop-ag-init : goal.loop-ag-init
loop-ag-init c = c.new-places.ensures.items

pub overflow_mul-ag : goal.overflow_mul-ag
overflow_mul-ag c =
    let high : c.loop-ag.ag < 2 ^ 32 = search rules in
    let low : c.args.g.now.agblocks < 2 ^ 32 = search rules in
    product_fits c.loop-ag.ag c.args.g.now.agblocks high low

pub returns-in_err-push : goal.returns-in_err-push
returns-in_err-push c = IfOk-from_err c.from_residual.result _ c.from_residual.ensures.0

pub returns-in_err-push-2 : goal.returns-in_err-push-2
returns-in_err-push-2 c = IfOk-from_err c.from_residual-in_err-push-2.result _ c.from_residual-in_err-push-2.ensures.0

pub loop-block-init : goal.loop-block-init
loop-block-init c =
    let all : c.loop-ag.ag ≡ c.args.g.now.agcount = omega (arith, c.loop-ag-test.false, c.loop-ag.auto.ag-end) in
    c.loop-ag.invariant ∙ ap (header_places c.args.g.now.agblocks) all ∙ sym (append-nil (header_places c.args.g.now.agblocks c.args.g.now.agcount))
