use Rattle.std.proofs.Common.{List, length, sym, ◌∙◌, ap, subst, arith}
use Rattle.xfs_geom.specs.declared.records.Run.{Run}
use Rattle.xfs_space.specs.Sorted.{StartsRise}
use Rattle.xfs_space.proofs.Order.{rise_if_sorted, restored}
use Rattle.xfs_space.proofs.sorting.in_order_beside.Goals as goal

pub returns-clause-rise : goal.returns-clause-rise
returns-clause-rise g c =
    let items = ap (λ (xs : List Run). length xs) (sym c.deref_mut.ensures.value) ∙ c.deref_mut.ensures.len in
    subst (λ (xs : List Run). StartsRise 0 xs) (sym (restored c.par_sort.new.s c.args.runs.items c.args.runs.len (c.in_ok-par_sort.ensures.len ∙ c.deref_mut.ensures.len) items))
    (rise_if_sorted c.par_sort.new.s 0 (λ some d. omega arith) c.in_ok-par_sort.ensures.sorted)
