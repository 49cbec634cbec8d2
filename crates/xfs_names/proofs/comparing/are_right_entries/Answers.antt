use Rattle.std.proofs.Common.{◌&&◌, ◌∙◌, sym, ap, arith, suc, drop, add-one}
use Rattle.xfs_names.specs.Rebuilt.{are_right_entries}
use Rattle.xfs_names.proofs.Compared.{not_as_many, right_next, all_right}
use Rattle.xfs_names.proofs.comparing.are_right_entries.Goals as goal

pub returns-then-held-due : goal.returns-then-held-due
returns-then-held-due c = sym (not_as_many c.args.held.now c.args.due.now (λ same. omega arith))

pub loop-k-preserved : goal.loop-k-preserved
loop-k-preserved c =
    ap (λ j. are_right_entries (drop j c.args.held.now) (drop j c.args.due.now)) (add-one c.loop-k.k)
    ∙ sym (right_next c.args.held.now c.args.due.now c.loop-k.k c.index-held-k.result c.index-due-k.result (omega arith) (omega arith) c.index-held-k.is c.index-due-k.is
    ∙ ap (λ t. t && are_right_entries (drop (suc c.loop-k.k) c.args.held.now) (drop (suc c.loop-k.k) c.args.due.now)) (sym c.is_right_entry.ensures ∙ c.if-not-is_right_entry.false))
    ∙ c.loop-k.invariant

pub returns-then-not-is_right_entry : goal.returns-then-not-is_right_entry
returns-then-not-is_right_entry c =
    sym (right_next c.args.held.now c.args.due.now c.loop-k.k c.index-held-k.result c.index-due-k.result (omega arith) (omega arith) c.index-held-k.is c.index-due-k.is
    ∙ ap (λ t. t && are_right_entries (drop (suc c.loop-k.k) c.args.held.now) (drop (suc c.loop-k.k) c.args.due.now)) (sym c.is_right_entry.ensures ∙ c.if-not-is_right_entry.true))
    ∙ c.loop-k.invariant

pub returns : goal.returns
returns c = all_right c.args.held.now c.args.due.now c.loop-k.k (omega arith) (omega arith) ∙ c.loop-k.invariant
