use Rattle.std.proofs.Common.{map, ◌∙◌, ◌++◌, List, length, take, ap, sym, append-nil, take_all, arith}
use Rattle.std.proofs.lemmas.Result.{IfOk-from_err}
use borrow.Author.Count.{falls}
use Rattle.xfs_place.specs.declared.wanted.RunAsk.{RunAsk}
use Rattle.xfs_render.specs.declared.object_blocks.ObjectAsk.{ObjectAsk}
use Rattle.xfs_render.proofs.ObjectSteps.{map_more}
use Rattle.xfs_render.proofs.object_blocks.push_asks.Goals as goal

pub loop-ask-preserved : goal.loop-ask-preserved
loop-ask-preserved c =
    let f : RunAsk → ObjectAsk = λ ask. record { kind = c.args.kind.now; ask = ask } in
    let d : RunAsk = record { blocks = 0; owner = 0; offset_word = 0 } in
    record {
      all = map_more f c.args.asks.now.items c.loop-ask.asks.items c.push.new.self.items c.args.runs.now c.loop-ask.ask-index d c.loop-ask-test.true
          c.loop-ask.invariant.all c.in_ok-push.ensures.items;
    }

pub loop-ask-init : goal.loop-ask-init
loop-ask-init c = record { all = sym (append-nil c.args.asks.now.items) }

pub loop-ask-smaller : goal.loop-ask-smaller
loop-ask-smaller c = falls (length c.args.runs.now) c.loop-ask.ask-index c.loop-ask-test.true

pub returns-in_err-push : goal.returns-in_err-push
returns-in_err-push c = IfOk-from_err c.from_residual.result _ c.from_residual.ensures.0

pub returns : goal.returns
returns c =
    let f : RunAsk → ObjectAsk = λ ask. record { kind = c.args.kind.now; ask = ask } in
    c.loop-ask.invariant.all ∙ ap (λ (xs : List RunAsk). c.args.asks.now.items ++ map f xs) (take_all c.loop-ask.ask-index c.args.runs.now (omega (arith, c.loop-ask-test.false)))
