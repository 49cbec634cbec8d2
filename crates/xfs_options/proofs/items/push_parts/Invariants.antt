use Rattle.std.proofs.Common.{◌≡◌, ◌+◌, ◌≤◌, [], ◌++◌, drop}
use Rattle.xfs_options.specs.SubOptions.{items_from}
use Rattle.xfs_options.proofs.items.push_parts.Given as goal

abbrev pub invariant-loop-byte : goal.invariant-loop-byte
invariant-loop-byte l = record {
  few : l.number ≤ l.byte-index + 1;
  rest : l.items.items ++ items_from l.given l.number l.text.items (drop l.byte-index l.bytes) ≡ l.fn.items.items ++ items_from l.given 1 [] l.bytes;
}
