use Rattle.std.proofs.Common.{◌≡◌, ◌^◌, ◌<◌, ◌≤◌, false, drop}
use Rattle.std.specs.Fmt.{digits_onto}
use Rattle.xfs_objects.specs.Hexadecimal.{hexadecimal}
use Rattle.xfs_objects.proofs.hexadecimal.write_hexadecimal.Given as goal

abbrev pub invariant-loop-at : goal.invariant-loop-at
invariant-loop-at l =
    record {
      within : l.at ≤ 16;
      left : digits_onto l.at 16 false l.rest (drop l.at l.buffer) ≡ hexadecimal l.number;
      fits : l.rest < 16 ^ l.at;
      some : l.at < 16 → 0 < l.rest;
    }

abbrev pub decreases-loop-at : goal.decreases-loop-at
decreases-loop-at l = l.at
