use Rattle.std.proofs.Common.{◌∙◌, ◌++◌, [], List, map, ap, sym, length, take, take_all, arith}
use Rattle.std.proofs.lemmas.Result.{IfOk-from_err}
use borrow.Author.Count.{falls}
use Rattle.xfs_place.specs.declared.wanted.Object.{Object}
use Rattle.xfs_place.specs.declared.wanted.RunAsk.{RunAsk}
use Rattle.xfs_render.specs.Objects.{asks_in, asks_with_kind}
use Rattle.xfs_render.specs.declared.object_blocks.ObjectAsk.{ObjectAsk}
use Rattle.xfs_render.proofs.ObjectSteps.{flat_more}
use Rattle.xfs_render.proofs.object_blocks.list_asks.Goals as goal

pub loop-object-preserved : goal.loop-object-preserved
loop-object-preserved c =
    let o : Object = c.object-item.result in
    let f : RunAsk → ObjectAsk = λ ask. record { kind = o.kind; ask = ask } in
    let now = c.loop-object.asks.items in
    record {
      all = flat_more asks_in [] now c.push_asks.new.asks.items c.args.objects.now c.loop-object.object-index o c.loop-object-test.true c.loop-object.invariant.all
          (c.in_ok-push_asks.ensures ∙ ap (λ (runs : List RunAsk). now ++ map f runs) c.as_slice.ensures ∙ ap (λ (x : Object). now ++ asks_in x) c.object-item.is);
    }

pub loop-object-init : goal.loop-object-init
loop-object-init c = record { all = c.new-asks.ensures.items }

pub loop-object-smaller : goal.loop-object-smaller
loop-object-smaller c = falls (length c.args.objects.now) c.loop-object.object-index c.loop-object-test.true

pub returns-in_err-push_asks : goal.returns-in_err-push_asks
returns-in_err-push_asks c = IfOk-from_err c.from_residual.result _ c.from_residual.ensures.0

pub returns : goal.returns
returns c = c.loop-object.invariant.all ∙ ap asks_with_kind (take_all c.loop-object.object-index c.args.objects.now (omega (arith, c.loop-object-test.false)))
