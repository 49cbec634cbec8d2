use Rattle.std.proofs.Common.{◌≡◌, ℕ, List, rules, subst}
use Rattle.std.specs.List.Sorted.{IsPermutation, IsSortedBy}
use Rattle.std.proofs.lemmas.List.Sorted.{answers_always}
use Rattle.xfs_geom.specs.declared.records.Span.{Span}
use Rattle.xfs_kinds.specs.Lengths.{sorts_before}
use Rattle.xfs_kinds.proofs.ByLength.{sorted_is}
use Rattle.xfs_kinds.proofs.lengths.by_length.Goals as goal

pub returns-clause-value : goal.returns-clause-value
returns-clause-value c =
    let runs = c.args.runs.now in
    let sorted = c.sort_by_key.new.self.items in
    let moved : IsPermutation runs sorted = subst (λ (xs : List Span). IsPermutation xs sorted) c.in_ok-sorted.ensures.items c.in_ok-sort_by_key.ensures.permutation in
    let key : Span → ℕ × ℕ = λ s. (s.count, s.start) in
    let up : IsSortedBy sorts_before sorted = c.in_ok-sort_by_key.ensures.sorted key (answers_always _ (λ a r. r ≡ key a.0.now) _ (λ f a r q k. search rules)) in
    sorted_is runs sorted moved up

pub returns-clause-moved : goal.returns-clause-moved
returns-clause-moved c =
    subst (λ (xs : List Span). IsPermutation xs c.sort_by_key.new.self.items) c.in_ok-sorted.ensures.items c.in_ok-sort_by_key.ensures.permutation

pub returns-clause-sorted : goal.returns-clause-sorted
returns-clause-sorted c =
    let key : Span → ℕ × ℕ = λ s. (s.count, s.start) in
    c.in_ok-sort_by_key.ensures.sorted key (answers_always _ (λ a r. r ≡ key a.0.now) _ (λ f a r q k. search rules))
