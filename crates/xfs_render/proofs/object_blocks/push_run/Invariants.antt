use Rattle.std.proofs.Common.{◌≡◌, ◌++◌, ◌-◌, ◌≤◌, ℕ, map}
use Rattle.std.specs.List.{range_with_len}
use Rattle.xfs_render.proofs.object_blocks.push_run.Given as goal

abbrev pub invariant-loop-place : goal.invariant-loop-place
invariant-loop-place l = record {
  all : l.blocks.items ≡ l.initial.blocks.items ++ map (λ (place : ℕ). record { kind = l.ask.kind; owner = l.ask.ask.owner; place = place }) (range_with_len l.run.start (l.place - l.run.start));
  from : l.run.start ≤ l.place;
}
