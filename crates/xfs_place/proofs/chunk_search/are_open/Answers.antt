use Rattle.std.proofs.Common.{◌≡◌, false, sym, ◌∙◌, ap, arith}
use Rattle.std.proofs.lemmas.List.{get_or_default}
use Rattle.xfs_place.specs.declared.uses.Use.TheVariants.{Claimed, Pool}
use Rattle.xfs_place.specs.Pool.{is_open, use_at}
use Rattle.xfs_place.proofs.Ranges.{all_pass, one_fails}
use Rattle.xfs_place.proofs.chunk_search.are_open.Goals as goal

pub returns-then-not-is_open : goal.returns-then-not-is_open
returns-then-not-is_open c =
    let fails : is_open (use_at c.args.uses.now c.loop-block.block) ≡ false =
    ap is_open (get_or_default c.args.uses.now c.loop-block.block Claimed Pool (omega arith)) ∙ sym c.is_open.ensures ∙ c.if-not-is_open.true in
    sym (one_fails (λ b. is_open (use_at c.args.uses.now b)) c.args.start c.args.count c.loop-block.block (omega arith) (omega arith) fails)

pub returns : goal.returns
returns c = sym (all_pass (λ b. is_open (use_at c.args.uses.now b)) c.args.start c.args.count (λ b low high. c.loop-block.invariant b low (omega (arith, high))))
