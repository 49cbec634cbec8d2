use Rattle.std.proofs.Common.{◌≡◌, ◌+◌, ◌==◌, true, false, [], ◌∷◌, ◌++◌, List, length, drop, get_or, ap, ◌∙◌, arith, rules, ℕ, sym, lit≤}
use Rattle.std.proofs.lemmas.List.{drop_all}
use Rattle.std.proofs.lemmas.Result.{IfOk-from_err}
use borrow.Author.Count.{falls}
use Rattle.xfs_options.specs.SubOptions.{items_from}
use Rattle.xfs_options.specs.declared.items.OptionItem.{OptionItem}
use Rattle.xfs_options.proofs.Cutting.{ended, grown}
use Rattle.xfs_options.proofs.items.push_parts.Goals as goal
use Rattle.xfs_options.proofs.items.push_parts.Goals.{then-byte-eq44+in_ok-push, else-byte-eq44+in_ok-push-2}

pub loop-byte-preserved : goal.loop-byte-preserved
loop-byte-preserved c =
    let given = c.args.given.now in
    let bytes = c.args.bytes.now in
    let i = c.loop-byte.byte-index in
    let items = c.loop-byte.items.items in
    let number = c.loop-byte.number in
    let text = c.loop-byte.text.items in
    elim c.if-byte-eq44.branch [
      | then-byte-eq44+in_ok-push w ↦
          let comma : (get_or bytes i 0 == 44) ≡ true = search rules in
          let more = w.in_ok-push.ensures.items ∙ ap (λ (item : OptionItem). items ++ item ∷ []) w.new_item.ensures in
          record {
            few = omega (arith, w.number-is);
            rest =
                (λ k. (w.items-is k).items ++ items_from given (w.number-is k) ((w.text-is k).items) (drop (i + 1) bytes))
                ∙ (λ k. more k ++ items_from given (number + 1) (w.new-text-then-byte-eq44.ensures.items k) (drop (i + 1) bytes))
                ∙ ended items given number i text bytes c.loop-byte-test.true comma
                ∙ c.loop-byte.invariant.rest;
          }
      | else-byte-eq44+in_ok-push-2 w ↦
          let other : (get_or bytes i 0 == 44) ≡ false = search rules in
          record {
            few = omega (arith, w.number-is);
            rest =
                (λ k. (w.items-is k).items ++ items_from given (w.number-is k) ((w.text-is k).items) (drop (i + 1) bytes))
                ∙ (λ k. items ++ items_from given number (w.in_ok-push-2.ensures.items k) (drop (i + 1) bytes))
                ∙ grown items given number i text bytes c.loop-byte-test.true other
                ∙ c.loop-byte.invariant.rest;
          }
    ]

pub loop-byte-smaller : goal.loop-byte-smaller
loop-byte-smaller c = falls (length c.args.bytes.now) c.loop-byte.byte-index c.loop-byte-test.true

pub returns-in_err-push : goal.returns-in_err-push
returns-in_err-push c = IfOk-from_err c.from_residual.result _ c.from_residual.ensures.0

pub returns-in_err-push-2 : goal.returns-in_err-push-2
returns-in_err-push-2 c = IfOk-from_err c.from_residual-in_err-push-2.result _ c.from_residual-in_err-push-2.ensures.0

pub returns-in_err-push-3 : goal.returns-in_err-push-3
returns-in_err-push-3 c = IfOk-from_err c.from_residual-in_err-push-3.result _ c.from_residual-in_err-push-3.ensures.0

pub loop-byte-init : goal.loop-byte-init
loop-byte-init c = record { few = lit≤ tt; rest = ap (λ (text : List ℕ). c.args.items.now.items ++ items_from c.args.given.now 1 text c.args.bytes.now) c.new-text.ensures.items }

pub returns : goal.returns
returns c =
    let l = c.loop-byte in
    let now = l.items.items in
    let given = c.args.given.now in
    c.in_ok-push-3.ensures.items
    ∙ ap (λ (item : OptionItem). now ++ item ∷ []) c.new_item-2.ensures
    ∙ ap (λ (bs : List ℕ). now ++ items_from given l.number l.text.items bs) (sym (drop_all l.byte-index c.args.bytes.now (omega (arith, c.loop-byte-test.false))))
    ∙ l.invariant.rest
