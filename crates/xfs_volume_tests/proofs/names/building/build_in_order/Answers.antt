use Rattle.std.proofs.Common.{List, sym, subst, rules}
use Rattle.std.specs.List.Sorted.{IsNonDecreasingBy}
use Rattle.std.proofs.lemmas.List.Sorted.{IsNonDecreasingBy-from_sort_by_key}
use Rattle.xfs_names.specs.declared.building.ForkRoom.{ForkRoom}
use Rattle.xfs_volume_tests.proofs.names.building.build_in_order.Goals as goal

pub build_all-requires-clause-rooms : goal.build_all-requires-clause-rooms
build_all-requires-clause-rooms c = subst (λ (rs : List ForkRoom). IsNonDecreasingBy (λ (r : ForkRoom). r.ino) rs) (sym c.deref.ensures.value)
    (IsNonDecreasingBy-from_sort_by_key (λ (r : ForkRoom). r.ino) _ c.in_ok-sort_by_key.ensures.sorted (λ a r q k. search rules))
