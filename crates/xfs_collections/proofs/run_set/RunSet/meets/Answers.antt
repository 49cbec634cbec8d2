use Rattle.std.proofs.Common.{◌≡◌, ℕ, ◌+◌, List, [], ◌∷◌, ◌++◌, sym, ◌∙◌, subst}
use Rattle.std.specs.Ordering.{nat_cmp}
use Rattle.std.specs.List.{filter}
use Rattle.std.specs.BTreeMap.Range.{range_contains}
use Rattle.std.specs.declared.ops.Bound.TheVariants.{Unbounded, Excluded}
use Rattle.xfs_collections.specs.Blocks.{RunsAscend}
use Rattle.xfs_collections.proofs.Last.{last_of, last_meets, none_meets, before_end}
use Rattle.xfs_collections.proofs.run_set.RunSet.meets.Goals as goal

pub returns-in-Some-clause-met : goal.returns-in-Some-clause-met
returns-in-Some-clause-met g c =
    let up : RunsAscend 0 c.args.self.now = subst (λ (x : List (ℕ × ℕ)). RunsAscend 0 x) c.self.view_is c.self.invariant in
    let last : ℕ × ℕ = (c.in-Some.first.now, c.in-Some.length.now) in
    let ends : filter (λ (e : ℕ × ℕ). range_contains nat_cmp Unbounded (Excluded (c.args.start + c.args.count)) e.0) c.args.self.now ≡ c.next_back.new.self ++ last ∷ [] =
    subst (λ (x : List (ℕ × ℕ)). filter (λ (e : ℕ × ℕ). range_contains nat_cmp Unbounded (Excluded (c.args.start + c.args.count)) e.0) x ≡ c.next_back.new.self ++ last ∷ []) c.self.view_is
    (sym (c.range.ensures.between tt) ∙ c.in-Some.ensures.steps) in
    c.ends_behind.ensures ∙ sym (last_meets 0 c.args.self.now last c.args.start c.args.count c.requires.some
    (last_of (c.args.start + c.args.count) _ (λ r. before_end (c.args.start + c.args.count) r.0) 0 c.args.self.now c.next_back.new.self last up ends))

pub returns-in-None-clause-met : goal.returns-in-None-clause-met
returns-in-None-clause-met g c =
    let up : RunsAscend 0 c.args.self.now = subst (λ (x : List (ℕ × ℕ)). RunsAscend 0 x) c.self.view_is c.self.invariant in
    let none : filter (λ (e : ℕ × ℕ). range_contains nat_cmp Unbounded (Excluded (c.args.start + c.args.count)) e.0) c.args.self.now ≡ [] =
    subst (λ (x : List (ℕ × ℕ)). filter (λ (e : ℕ × ℕ). range_contains nat_cmp Unbounded (Excluded (c.args.start + c.args.count)) e.0) x ≡ []) c.self.view_is
    (sym (c.range.ensures.between tt) ∙ c.in-None.ensures.steps.0) in
    sym (none_meets 0 c.args.self.now c.args.start c.args.count _ (λ r. before_end (c.args.start + c.args.count) r.0) up none)

pub returns-in-Some-clause-ticks : goal.returns-in-Some-clause-ticks
returns-in-Some-clause-ticks g c = c.tick.ensures

pub returns-in-None-clause-ticks : goal.returns-in-None-clause-ticks
returns-in-None-clause-ticks g c = c.tick.ensures
