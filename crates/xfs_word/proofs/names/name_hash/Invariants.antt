use Rattle.std.proofs.Common.{◌≡◌, fold, drop}
use Rattle.xfs_word.proofs.Rounds.{round}
use Rattle.xfs_word.proofs.names.name_hash.Given as goal

-- the hash and what is left lead to what the start and all lead to
abbrev pub invariant-loop-byte : goal.invariant-loop-byte
invariant-loop-byte l = fold round l.hash (drop l.byte-index l.name) ≡ fold round 0 l.name
