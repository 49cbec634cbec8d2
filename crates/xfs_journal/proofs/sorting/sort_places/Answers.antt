use Rattle.std.proofs.lemmas.List.Sorted.{All-permutation}
use Rattle.xfs_journal.specs.Placed.{IsInBlock, listed}
use Rattle.xfs_journal.proofs.Ordering.{sorted_is}
use Rattle.xfs_journal.proofs.sorting.sort_places.Goals as goal

pub returns-clause-listed : goal.returns-clause-listed
returns-clause-listed c =
    sorted_is c.args.places.items c.sort.new.self.items c.in_ok-sort.ensures.permutation c.in_ok-sort.ensures.sorted
    (c.places_are_ordered.ensures.order (listed c.args.places.items)) (c.places_are_ordered.ensures.all (listed c.args.places.items))

pub returns-clause-inside : goal.returns-clause-inside
returns-clause-inside c = All-permutation IsInBlock c.args.places.items c.sort.new.self.items c.in_ok-sort.ensures.permutation c.requires.inside
