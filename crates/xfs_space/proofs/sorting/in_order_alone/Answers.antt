use Rattle.std.proofs.Common.{List, length, sym, ◌∙◌, ap, subst, arith}
use Rattle.std.specs.List.Sorted.{IsPermutation}
use Rattle.std.proofs.lemmas.List.Sorted.{IsPermutation-trans}
use Rattle.xfs_geom.specs.declared.records.Run.{Run}
use Rattle.xfs_space.proofs.Order.{restored, rise_if_sorted}
use Rattle.xfs_space.proofs.sorting.in_order_alone.Goals as goal

pub returns-clause-moved : goal.returns-clause-moved
returns-clause-moved c =
    let pieces = c.sort_pieces.new.runs in
    let items = ap (λ (xs : List Run). length xs) (sym c.as_mut_slice.ensures.value) ∙ c.as_mut_slice.ensures.len in
    let whole = restored pieces c.args.runs.items c.args.runs.len (c.sort_pieces.auto.runs ∙ c.as_mut_slice.ensures.len) items in
    IsPermutation-trans c.args.runs.items pieces c.sort.new.self.items
    (subst (λ (xs : List Run). IsPermutation xs pieces) c.as_mut_slice.ensures.value c.sort_pieces.ensures)
    (subst (λ (xs : List Run). IsPermutation xs c.sort.new.self.items) whole c.in_ok-sort.ensures.permutation)

pub returns-clause-rise : goal.returns-clause-rise
returns-clause-rise c = rise_if_sorted c.sort.new.self.items 0 (λ some d. omega arith) c.in_ok-sort.ensures.sorted
