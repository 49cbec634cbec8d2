use Rattle.std.proofs.Common.{◌≡◌, drop}
use Rattle.std.specs.List.{find}
use Rattle.xfs_commands.specs.Verbs.{names_verb}
use Rattle.xfs_commands.proofs.commands.find_named.Given as goal

abbrev pub invariant-loop-verb : goal.invariant-loop-verb
invariant-loop-verb l = find (names_verb l.name) (drop l.verb-index l.verbs) ≡ find (names_verb l.name) l.verbs
