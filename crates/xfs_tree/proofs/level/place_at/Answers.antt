use Rattle.std.proofs.Common.{◌≡◌, ℕ, ◌+◌, ◌<◌, List, length, drop, get_or, Some, None, sym, ap}
use Rattle.std.proofs.lemmas.List.{drop_more}
use Rattle.xfs_tree.specs.declared.seats.Seat.{Seat}
use Rattle.xfs_tree.specs.Reading.{next_of}
use Rattle.xfs_tree.proofs.RowSteps.{none_left}
use Rattle.xfs_tree.proofs.level.place_at.Goals as goal

there : {K : Type 0} (row : List (Seat K)) (i : ℕ) (d : Seat K) → i < length row → Some (get_or row i d).place ≡ next_of None (drop i row)
there row i d inside = sym (ap (next_of None) (drop_more row i d inside))

pub returns-then-i-row : goal.returns-then-i-row
returns-then-i-row g c = there c.args.row.now c.args.i _ c.if-i-row.true

pub returns-else-i-row : goal.returns-else-i-row
returns-else-i-row g c = sym (ap (next_of None) (none_left c.args.row.now c.args.i c.if-i-row.false))

pub bounds-row-i : goal.bounds-row-i
bounds-row-i g c = c.if-i-row.true

pub bounds-row-i-then-i-row : goal.bounds-row-i-then-i-row
bounds-row-i-then-i-row g c = c.if-i-row.true
