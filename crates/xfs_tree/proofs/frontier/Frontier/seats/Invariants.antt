use Rattle.std.proofs.Common.{◌≡◌, ◌++◌, length}
use Rattle.xfs_tree.specs.Seats.{seat_at, seats_of}
use Rattle.xfs_tree.proofs.Rest.{rest_of}
use Rattle.xfs_tree.proofs.frontier.Frontier.seats.Given as goal

abbrev pub invariant-loop-i : goal.invariant-loop-i
invariant-loop-i g l = record {
  ends : l.i-end ≡ length l.self.places.items;
  pushed : l.seats.items ++ rest_of l.i (length l.self.places.items) (seat_at l.self.places.items l.self.lows.items l.self.highs.items)
      ≡ seats_of l.self.places.items l.self.lows.items l.self.highs.items;
}
