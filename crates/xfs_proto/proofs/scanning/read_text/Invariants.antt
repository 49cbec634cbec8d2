use Rattle.std.proofs.Common.{◌≡◌, Ok}
use Rattle.xfs_proto.specs.Reading.{after_tokens, start}
use Rattle.xfs_proto.specs.Tokens.{tokens_of}
use Rattle.xfs_proto.specs.Scanning.{IsScan, read_on}
use Rattle.xfs_proto.proofs.scanning.read_text.Given as goal

abbrev pub invariant-loop-at : goal.invariant-loop-at
invariant-loop-at l = record { scan : IsScan l.at l.scan; read : read_on l.text l.at l.scan ≡ after_tokens (tokens_of l.text) (Ok start) }
