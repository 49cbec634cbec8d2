use Rattle.std.proofs.Common.{◌≡◌, ℕ, ◌+◌, ◌*◌, List, ◌++◌, ◌∷◌, [], map, sym, ap, ap₂, ◌∙◌, arith}
use Rattle.std.specs.List.{range_with_len}
use Rattle.std.proofs.lemmas.List.FromFn.{map-range_with_len_more}
use Rattle.xfs_dirindex.specs.declared.pairs.Pair.{Pair}
use Rattle.xfs_dirindex.specs.Pairs.{pair_at, pairs_at}
use Rattle.xfs_dirindex.proofs.pairs.read_pairs.Goals as goal

pub loop-k-init : goal.loop-k-init
loop-k-init c = c.in_ok-pairs.ensures.items

pub loop-k-preserved : goal.loop-k-preserved
loop-k-preserved c =
    let f : ℕ → Pair = λ k. pair_at c.args.bytes.now (c.args.at + 8 * k) in
    c.in_ok-push.ensures.items ∙ ap₂ (λ (xs : List Pair) (p : Pair). xs ++ p ∷ []) c.loop-k.invariant c.pair_at.ensures
    ∙ sym (map-range_with_len_more f 0 c.loop-k.k c.loop-k.k (omega arith))

pub returns : goal.returns
unfolding pairs_at
returns c =
    let f : ℕ → Pair = λ k. pair_at c.args.bytes.now (c.args.at + 8 * k) in
    let end : c.loop-k.k ≡ c.args.count = omega (arith, c.loop-k.auto.k-end, c.loop-k-test.false) in
    record { pairs = c.loop-k.invariant ∙ ap (λ (n : ℕ). map f (range_with_len 0 n)) end }
