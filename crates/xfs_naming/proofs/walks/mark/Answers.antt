use Rattle.std.proofs.Common.{ℕ, Bool, cond, List, [], ◌∷◌, ◌++◌, sym, ap, ◌∙◌}
use Rattle.xfs_naming.proofs.Marked.{marked_other, marked_one}
use Rattle.xfs_naming.proofs.walks.mark.Goals as goal

pub returns-then-not-is_directory_at : goal.returns-then-not-is_directory_at
returns-then-not-is_directory_at c =
    marked_other c.args.names.now.files.now c.args.ino c.args.reached.now.keys c.args.waiting.now.items (sym c.is_directory_at.ensures ∙ c.if-not-is_directory_at.true)

pub returns-in_ok-push : goal.returns-in_ok-push
returns-in_ok-push c =
    let stack = c.args.waiting.now.items in
    marked_one c.args.names.now.files.now c.args.ino c.args.reached.now.keys c.reach.new.reached.keys stack c.push.new.self.items c.in_ok-reach.field-0
    (sym c.is_directory_at.ensures ∙ c.if-not-is_directory_at.false)
    c.in_ok-reach.ensures.added c.in_ok-reach.ensures.updates c.in_ok-reach.ensures.len c.in_ok-reach.ensures.unique
    (c.in_ok-push.ensures.items ∙ sym (ap (λ (added : Bool). cond added (stack ++ c.args.ino ∷ []) stack) c.if-branch.true))

pub returns-else-branch : goal.returns-else-branch
returns-else-branch c =
    let stack = c.args.waiting.now.items in
    marked_one c.args.names.now.files.now c.args.ino c.args.reached.now.keys c.reach.new.reached.keys stack stack c.in_ok-reach.field-0
    (sym c.is_directory_at.ensures ∙ c.if-not-is_directory_at.false)
    c.in_ok-reach.ensures.added c.in_ok-reach.ensures.updates c.in_ok-reach.ensures.len c.in_ok-reach.ensures.unique
    (sym (ap (λ (added : Bool). cond added (stack ++ c.args.ino ∷ []) stack) c.if-branch.false))
