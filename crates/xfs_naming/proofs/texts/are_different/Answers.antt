use Rattle.std.proofs.Common.{ℕ, List, Bor, rules}
use Rattle.std.specs.HashSet.{contains}
use Rattle.std.specs.Str.{bytes_eq}
use Rattle.xfs_naming.proofs.Different.{unseen, seen_again}
use Rattle.xfs_naming.proofs.texts.are_different.Goals as goal

pub returns-then-not-branch : goal.returns-then-not-branch
returns-then-not-branch c =
    seen_again c.args.own.now c.loop-entry.entry-index c.entry-item.result c.bytes.result (λ (q : Bor (List ℕ)). contains (λ (a b : Bor (List ℕ)). bytes_eq a.now b.now) c.loop-entry.seen q) c.in_ok-insert.field-0
    (search rules) c.entry-item.is c.loop-entry.invariant c.bytes.ensures c.in_ok-insert.ensures.added (search rules)

pub loop-entry-preserved : goal.loop-entry-preserved
loop-entry-preserved c =
    unseen c.args.own.now c.loop-entry.entry-index c.entry-item.result c.bytes.result (λ (q : Bor (List ℕ)). contains (λ (a b : Bor (List ℕ)). bytes_eq a.now b.now) c.loop-entry.seen q) _ c.in_ok-insert.field-0
    (search rules) c.entry-item.is c.loop-entry.invariant c.bytes.ensures c.in_ok-insert.ensures.added (search rules) c.in_ok-insert.ensures.updates.0
