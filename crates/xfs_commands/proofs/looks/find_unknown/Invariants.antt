use Rattle.std.proofs.Common.{◌≡◌, drop}
use Rattle.std.specs.List.{find}
use Rattle.xfs_commands.specs.Commands.{is_unknown}
use Rattle.xfs_commands.proofs.looks.find_unknown.Given as goal

abbrev pub invariant-loop-word : goal.invariant-loop-word
invariant-loop-word l = find (is_unknown l.kind l.object) (drop l.word-index l.words) ≡ find (is_unknown l.kind l.object) l.words
