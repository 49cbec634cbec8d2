use Rattle.std.proofs.Common.{ℕ, List, [], ◌∷◌, ◌++◌, get_or, decimal, ap, append_assoc, ◌∙◌}
use Rattle.xfs_objects.proofs.Listing.{piece_more}
use Rattle.xfs_objects.proofs.values.push_listed.Goals as goal

pub loop-number-preserved : goal.loop-number-preserved
loop-number-preserved c =
    let number = get_or c.args.numbers.now c.loop-number.number-index 0 in
    piece_more (λ (n : ℕ). 44 ∷ decimal n) c.args.text.now.items c.loop-number.text.items c.push_decimal.new.text.items c.args.numbers.now c.loop-number.number-index 0 c.loop-number-test.true
    c.loop-number.invariant
    (c.in_ok-push_decimal.ensures ∙ ap (λ (t : List ℕ). t ++ decimal number) c.in_ok-push.ensures.items ∙ append_assoc c.loop-number.text.items (44 ∷ []) (decimal number))
