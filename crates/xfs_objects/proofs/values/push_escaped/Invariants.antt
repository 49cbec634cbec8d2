use Rattle.std.proofs.Common.{◌≡◌, ℕ, ◌==◌, not, ◌++◌, drop}
use Rattle.std.specs.List.{flat_map, take_while}
use Rattle.xfs_objects.specs.Values.{escaped}
use Rattle.xfs_objects.proofs.values.push_escaped.Given as goal

abbrev pub invariant-loop-byte : goal.invariant-loop-byte
invariant-loop-byte l =
    let shown : ℕ → _ = λ byte. not (byte == 0) in
    l.text.items ++ flat_map escaped (take_while shown (drop l.byte-index l.bytes)) ≡ l.fn.text.items ++ flat_map escaped (take_while shown l.bytes)
