-- A test of four parts, and the part at which it ends.
use Rattle.std.proofs.Common.{◌≡◌, Bool, true, false, ◌&&◌}

abbrev pub fork_by : Bool → Bool → Bool → Bool → Bool
fork_by inside children ascend named = inside && children && ascend && named
