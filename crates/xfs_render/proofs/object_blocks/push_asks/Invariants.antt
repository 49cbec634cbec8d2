use Rattle.std.proofs.Common.{◌≡◌, ◌++◌, take, map}
use Rattle.xfs_place.specs.declared.wanted.RunAsk.{RunAsk}
use Rattle.xfs_render.proofs.object_blocks.push_asks.Given as goal

abbrev pub invariant-loop-ask : goal.invariant-loop-ask
invariant-loop-ask l = record { all : l.asks.items ≡ l.initial.asks.items ++ map (λ (ask : RunAsk). record { kind = l.kind; ask = ask }) (take l.ask-index l.runs) }
