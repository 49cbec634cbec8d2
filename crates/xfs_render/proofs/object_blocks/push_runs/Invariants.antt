use Rattle.std.proofs.Common.{◌≡◌, ◌++◌, take}
use Rattle.std.specs.List.{flat_map}
use Rattle.xfs_render.specs.Objects.{run_blocks}
use Rattle.xfs_render.proofs.object_blocks.push_runs.Given as goal

abbrev pub invariant-loop-run : goal.invariant-loop-run
invariant-loop-run l = record { all : l.blocks.items ≡ l.initial.blocks.items ++ flat_map (run_blocks l.ask.kind l.ask.ask.owner) (take l.run-index l.runs) }
