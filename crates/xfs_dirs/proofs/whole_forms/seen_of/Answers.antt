use Rattle.std.proofs.Common.{◌∙◌, ap, length, arith, ◌≡◌, ℕ, ◌+◌, ◌<◌, ◌≤◌, List, [], ◌∷◌, ◌++◌, map, take, get_or, set, refl, sym, ap₂, subst}
use Rattle.xfs_dirs.proofs.Order.{whole_at}
use Rattle.std.proofs.lemmas.Result.{IfOk-from_err}
use Rattle.std.proofs.lemmas.List.{length-replicate, length-set, map-append, take_all, take_more, take_more_set}
use Rattle.xfs_dirs.specs.declared.gathered.KeptBlock.{KeptBlock}
use Rattle.xfs_dirs.proofs.whole_forms.seen_of.Goals as goal

pub put_block-requires-clause-whole : goal.put_block-requires-clause-whole
put_block-requires-clause-whole c =
    ap length c.bytes.ensures ∙ whole_at 0 c.loop-i.i c.args.kept.now c.index-kept-i-in-loop-i.result (omega arith) c.requires

made_more : {X Y : Type 0} (f : X → Y) (xs : List X) (i : ℕ) (d : X) (made new : List Y) → i < length xs → made ≡ map f (take i xs)
    → new ≡ made ++ f (get_or xs i d) ∷ [] → new ≡ map f (take (i + 1) xs)
made_more f xs i d made new inside were put =
    put
    ∙ (ap (λ ys. ys ++ f (get_or xs i d) ∷ []) were ∙ sym (ap (map f) (take_more xs i d inside) ∙ map-append f (take i xs) (get_or xs i d ∷ [])))

set_more : {X Y : Type 0} (f : X → Y) (xs : List X) (i : ℕ) (d : X) (made new : List Y) (y : Y) → i < length xs → length made ≡ length xs
    → take i made ≡ map f (take i xs) → new ≡ set made i y → y ≡ f (get_or xs i d) → take (i + 1) new ≡ map f (take (i + 1) xs)
set_more f xs i d made new y inside size were put is =
    ap (take (i + 1)) put
    ∙ (take_more_set made i y (subst (λ n. i < n) (sym size) inside)
    ∙ (ap₂ (λ ys z. ys ++ z ∷ []) were is ∙ sym (ap (map f) (take_more xs i d inside) ∙ map-append f (take i xs) (get_or xs i d ∷ []))))

pub returns-in_err-blocks : goal.returns-in_err-blocks
returns-in_err-blocks c = record {
  dir = IfOk-from_err c.from_residual-in_err-blocks.result _ c.from_residual-in_err-blocks.ensures.0;
  size = IfOk-from_err c.from_residual-in_err-blocks.result _ c.from_residual-in_err-blocks.ensures.0;
  offsets = IfOk-from_err c.from_residual-in_err-blocks.result _ c.from_residual-in_err-blocks.ensures.0;
  blocks = IfOk-from_err c.from_residual-in_err-blocks.result _ c.from_residual-in_err-blocks.ensures.0;
}

pub returns-in_err-push : goal.returns-in_err-push
returns-in_err-push c = record {
  dir = IfOk-from_err c.from_residual-in_err-push.result _ c.from_residual-in_err-push.ensures.0;
  size = IfOk-from_err c.from_residual-in_err-push.result _ c.from_residual-in_err-push.ensures.0;
  offsets = IfOk-from_err c.from_residual-in_err-push.result _ c.from_residual-in_err-push.ensures.0;
  blocks = IfOk-from_err c.from_residual-in_err-push.result _ c.from_residual-in_err-push.ensures.0;
}

pub loop-i-init : goal.loop-i-init
loop-i-init c = record {
  ends = refl;
  offsets = c.in_ok-offsets.ensures.items;
  size = ap length c.in_ok-blocks.ensures ∙ length-replicate (length c.args.kept.now) _;
  blocks = refl;
}

pub loop-i-preserved : goal.loop-i-preserved
loop-i-preserved c = record {
  ends = c.loop-i.invariant.ends;
  offsets = made_more (λ (k : KeptBlock). k.offset) c.args.kept.now c.loop-i.i c.index-kept-i.result c.loop-i.offsets.items c.push.new.self.items c.loop-i-test.true c.loop-i.invariant.offsets c.in_ok-push.ensures.items;
  size = ap length c.put_block.ensures ∙ (length-set c.loop-i.blocks c.loop-i.i c.bytes.result.now ∙ c.loop-i.invariant.size);
  blocks = set_more (λ (k : KeptBlock). k.bytes) c.args.kept.now c.loop-i.i c.index-kept-i-in-loop-i.result c.loop-i.blocks c.put_block.new.blocks c.bytes.result.now c.loop-i-test.true c.loop-i.invariant.size c.loop-i.invariant.blocks c.put_block.ensures c.bytes.ensures;
}

pub put_block-requires-clause-inside : goal.put_block-requires-clause-inside
put_block-requires-clause-inside c = subst (λ (n : ℕ). c.loop-i.i < n) (sym c.loop-i.invariant.size) c.loop-i-test.true

pub returns-clause-dir : goal.returns-clause-dir
returns-clause-dir c = refl

pub returns-clause-size : goal.returns-clause-size
returns-clause-size c = refl

pub returns-clause-offsets : goal.returns-clause-offsets
returns-clause-offsets c = c.loop-i.invariant.offsets ∙ ap (map (λ (k : KeptBlock). k.offset)) (take_all c.loop-i.i c.args.kept.now c.loop-i-test.false)

pub returns-clause-blocks : goal.returns-clause-blocks
returns-clause-blocks c =
    sym (take_all c.loop-i.i c.loop-i.blocks (subst (λ (n : ℕ). n ≤ c.loop-i.i) (sym c.loop-i.invariant.size) c.loop-i-test.false))
    ∙ (c.loop-i.invariant.blocks ∙ ap (map (λ (k : KeptBlock). k.bytes)) (take_all c.loop-i.i c.args.kept.now c.loop-i-test.false))
