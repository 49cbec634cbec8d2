use Rattle.std.proofs.Common.{◌≡◌, ◌+◌, ◌-◌, suc, length, sym, ◌∙◌, ap, arith}
use Rattle.std.proofs.lemmas.List.{get_or_default}
use Rattle.xfs_place.specs.declared.uses.Use.TheVariants.{Claimed, Pool}
use Rattle.xfs_place.specs.Pool.{is_open, use_at}
use Rattle.xfs_place.specs.Sparing.{spared_below}
use Rattle.xfs_place.proofs.Spared.{spared_next, spared_none, spared_over}
use Rattle.xfs_place.proofs.sparing.spared_below.Goals as goal

pub returns-then-is_over : goal.returns-then-is_over
returns-then-is_over c =
    let uses = c.args.uses.now in
    let l = c.loop-i in
    let block = length uses - 1 - l.i in
    let here : c.is_open-open.result ≡ is_open (use_at uses block) =
    c.is_open-open.ensures ∙ ap is_open (get_or_default uses block Pool Claimed (omega (arith, c.loop-i-test.true))) in
    let whole : length uses - l.i ≡ suc block = omega (arith, c.loop-i-test.true) in
    let next : block + 1 ≡ suc block = omega arith in
    next ∙ sym (l.invariant ∙ ap (spared_below (λ b. is_open (use_at uses b)) l.left) whole
    ∙ spared_over (λ b. is_open (use_at uses b)) l.left block c.is_open-open.result c.is_over.result here c.is_over.ensures c.if-is_over.true)

pub loop-i-preserved : goal.loop-i-preserved
loop-i-preserved c =
    let uses = c.args.uses.now in
    let l = c.loop-i in
    let block = length uses - 1 - l.i in
    let here : c.is_open-open.result ≡ is_open (use_at uses block) =
    c.is_open-open.ensures ∙ ap is_open (get_or_default uses block Pool Claimed (omega (arith, c.loop-i-test.true))) in
    let whole : length uses - l.i ≡ suc block = omega (arith, c.loop-i-test.true) in
    let rest : block ≡ length uses - (l.i + 1) = omega arith in
    l.invariant ∙ ap (spared_below (λ b. is_open (use_at uses b)) l.left) whole
    ∙ spared_next (λ b. is_open (use_at uses b)) l.left block c.less-left.result c.is_open-open.result c.is_over.result here c.is_over.ensures c.if-is_over.false c.less-left.ensures
    ∙ ap (spared_below (λ b. is_open (use_at uses b)) c.less-left.result) rest

pub returns : goal.returns
returns c =
    let uses = c.args.uses.now in
    let l = c.loop-i in
    let none : length uses - l.i ≡ 0 = omega (arith, c.loop-i-test.false) in
    sym (l.invariant ∙ ap (spared_below (λ b. is_open (use_at uses b)) l.left) none ∙ spared_none (λ b. is_open (use_at uses b)) l.left)
