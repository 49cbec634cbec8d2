use Rattle.std.proofs.Common.{◌≡◌, ℕ, Bool, true, cond, not, ap, subst, ◌∙◌}
use Rattle.std.specs.List.{list_any, IsDistinct}
use Rattle.std.proofs.lemmas.Map.Keys.{IsDistinct-from_sorted}
use Rattle.std.specs.Ordering.{nat_cmp}
use Rattle.xfs_naming.proofs.Numbers.{tied}
use Rattle.xfs_naming.proofs.reached.reach.Goals as goal

pub returns-clause-added : goal.returns-clause-added
returns-clause-added c =
    c.in_ok-added.ensures.added ∙ ap (λ (eq : ℕ → ℕ → Bool). not (list_any (eq c.args.ino) c.args.reached.now.keys)) tied

pub returns-clause-updates : goal.returns-clause-updates
returns-clause-updates c = λ q.
    subst (λ (eq : ℕ → ℕ → Bool). list_any (eq q) c.insert.new.self.keys ≡ cond (eq c.args.ino q) true (list_any (eq q) c.args.reached.now.keys)) tied (c.in_ok-added.ensures.updates.0 q)

pub returns-clause-unique : goal.returns-clause-unique
returns-clause-unique c =
    subst (λ (eq : ℕ → ℕ → Bool). IsDistinct eq c.insert.new.self.keys) tied (IsDistinct-from_sorted nat_cmp c.insert.new.self.keys c.in_ok-added.ensures.ordered)
