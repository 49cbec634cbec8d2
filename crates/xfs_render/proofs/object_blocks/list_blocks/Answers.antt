use Rattle.std.proofs.Common.{◌≡◌, ◌∙◌, ◌++◌, [], List, get_or, drop, refl, ap, sym, append-nil, arith, length}
use Rattle.std.proofs.lemmas.List.Elements.{All-drop, All-take}
use Rattle.std.proofs.lemmas.Result.{IfOk-from_err}
use borrow.Author.Count.{falls}
use Rattle.xfs_place.specs.Pool.{IsRunOf}
use Rattle.xfs_place.specs.declared.wanted.ObjectKind.TheVariants.{Directory}
use Rattle.xfs_render.specs.Objects.{blocks_of_asks}
use Rattle.xfs_render.specs.declared.object_blocks.ObjectAsk.{ObjectAsk}
use Rattle.xfs_render.specs.declared.object_blocks.ObjectBlock.{ObjectBlock}
use Rattle.xfs_render.proofs.ObjectSteps.{next_all, next_cut, no_more}
use Rattle.xfs_render.proofs.object_blocks.list_blocks.Goals as goal

abbrev no_ask : ObjectAsk
no_ask = record { kind = Directory; ask = record { blocks = 0; owner = 0; offset_word = 0 } }

pub bounds-cuts-i : goal.bounds-cuts-i
bounds-cuts-i c =
    let l = c.loop-i in
    (next_cut c.args.asks.now c.args.cuts.now c.args.runs.now l.i l.at no_ask c.loop-i-test.true l.invariant.inside l.invariant.cuts).inside

pub slice_bounds-push_ask-end : goal.slice_bounds-push_ask-end
slice_bounds-push_ask-end c =
    let l = c.loop-i in
    let next = next_cut c.args.asks.now c.args.cuts.now c.args.runs.now l.i l.at no_ask c.loop-i-test.true l.invariant.inside l.invariant.cuts in
    omega (arith, next.few)

pub loop-i-preserved : goal.loop-i-preserved
loop-i-preserved c =
    let l = c.loop-i in
    let asks = c.args.asks.now in
    let cuts = c.args.cuts.now in
    let runs = c.args.runs.now in
    let next = next_cut asks cuts runs l.i l.at no_ask c.loop-i-test.true l.invariant.inside l.invariant.cuts in
    record {
      inside = next.few;
      cuts = next.cuts';
      all = next_all asks cuts runs l.i l.at _ no_ask l.blocks.items c.push_ask.new.blocks.items _ c.loop-i-test.true refl next l.invariant.all c.in_ok-push_ask.ensures;
    }

pub returns : goal.returns
returns c =
    let l = c.loop-i in
    let none = no_more c.args.asks.now (drop l.i c.args.cuts.now) (drop l.at c.args.runs.now) l.i c.loop-i-test.false in
    sym (append-nil l.blocks.items) ∙ ap (λ (xs : List ObjectBlock). l.blocks.items ++ xs) (sym none) ∙ l.invariant.all

pub loop-i-init : goal.loop-i-init
loop-i-init c = record {
  inside = omega arith;
  cuts = c.requires.cuts;
  all = ap (λ (xs : List ObjectBlock). xs ++ blocks_of_asks c.args.asks.now c.args.cuts.now c.args.runs.now) c.new-blocks.ensures.items;
}

pub push_ask-requires : goal.push_ask-requires
push_ask-requires c = record { runs = All-take (IsRunOf c.args._dblocks) _ _ (All-drop (IsRunOf c.args._dblocks) c.loop-i.at c.args.runs.now c.requires.runs) }

pub loop-i-smaller : goal.loop-i-smaller
loop-i-smaller c = falls (length c.args.asks.now) c.loop-i.i c.loop-i-test.true

pub returns-in_err-push_ask : goal.returns-in_err-push_ask
returns-in_err-push_ask c = IfOk-from_err c.from_residual.result _ c.from_residual.ensures.0
