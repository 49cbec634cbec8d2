use Rattle.std.proofs.Common.{◌≡◌, ◌<◌, ◌≤◌, ℕ, Option, None, ◌∷◌, sym, subst, ◌∙◌, ap, ◌+◌, arith}
use Rattle.xfs_tree.specs.Blocks.{count_of, low_key_at}
use Rattle.xfs_tree.specs.Rules.{ascend_behind}
use Rattle.xfs_tree.proofs.Rest.{rest_of, rest_all, rest_next, rest_none}
use Rattle.xfs_tree.proofs.Steps.{ascend_step, ascend_stop}
use Rattle.xfs_tree.proofs.rules.ascends.Goals as goal

below : (i n most : ℕ) → i < n → n ≤ most → i < most
below i n most inside few = omega (arith, inside, few)

pub loop-i-init : goal.loop-i-init
loop-i-init g c =
    let s = g.K.Kind.shape c.args.kind.now in
    record {
      ends = c.count_of-i-end.ensures.value;
      rest = ap (ascend_behind s None) (rest_all (count_of c.args.block.now) (low_key_at s c.args.level c.args.block.now));
    }

pub low_key_at-key-requires-clause-block : goal.low_key_at-key-requires-clause-block
low_key_at-key-requires-clause-block g c = λ κs lives. c.requires.block

pub low_key_at-key-requires-clause-inside : goal.low_key_at-key-requires-clause-inside
low_key_at-key-requires-clause-inside g c = λ κs lives.
    let i = c.loop-i.i in
    below i (count_of c.args.block.now) _ (subst (λ (m : ℕ). i < m) c.loop-i.invariant.ends c.loop-i-test.true) c.requires.count

pub returns-then-not-is_above : goal.returns-then-not-is_above
returns-then-not-is_above g c =
    let s = g.K.Kind.shape c.args.kind.now in
    let i = c.loop-i.i in
    let n = count_of c.args.block.now in
    let item = low_key_at s c.args.level c.args.block.now in
    let next = rest_next i n item (subst (λ (m : ℕ). i < m) c.loop-i.invariant.ends c.loop-i-test.true) in
    let split = next ∙ ap (λ key. key ∷ rest_of (i + 1) n item) (sym c.low_key_at-key.ensures) in
    ascend_stop s c.loop-i.before c.low_key_at-key.result _ _ _ split (sym c.is_above.ensures ∙ c.if-not-is_above.true) c.loop-i.invariant.rest

pub loop-i-preserved : goal.loop-i-preserved
loop-i-preserved g c =
    let s = g.K.Kind.shape c.args.kind.now in
    let i = c.loop-i.i in
    let n = count_of c.args.block.now in
    let item = low_key_at s c.args.level c.args.block.now in
    let next = rest_next i n item (subst (λ (m : ℕ). i < m) c.loop-i.invariant.ends c.loop-i-test.true) in
    let split = next ∙ ap (λ key. key ∷ rest_of (i + 1) n item) (sym c.low_key_at-key.ensures) in
    record {
      ends = c.loop-i.invariant.ends;
      rest = ascend_step s c.loop-i.before c.low_key_at-key.result _ _ _ split (sym c.is_above.ensures ∙ c.if-not-is_above.false) c.loop-i.invariant.rest;
    }

pub returns : goal.returns
returns g c =
    let s = g.K.Kind.shape c.args.kind.now in
    let i = c.loop-i.i in
    let past : count_of c.args.block.now ≤ i = subst (λ (m : ℕ). m ≤ i) c.loop-i.invariant.ends c.loop-i-test.false in
    sym (ap (ascend_behind s c.loop-i.before) (rest_none i (count_of c.args.block.now) (low_key_at s c.args.level c.args.block.now) past)) ∙ c.loop-i.invariant.rest
