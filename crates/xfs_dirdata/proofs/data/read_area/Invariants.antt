use Rattle.std.proofs.Common.{◌≡◌, ℕ, ◌+◌, ◌*◌, ◌-◌, ◌≤◌, ◌%◌, List, length, map}
use Rattle.std.specs.List.{filter}
use Rattle.xfs_dirdata.specs.Data.{is_span, is_entry, span_at, entry_at, stated_bests, items}
use Rattle.xfs_dirdata.proofs.Leading.{behind}
use Rattle.xfs_dirdata.proofs.data.read_area.Given as goal

abbrev pub invariant-loop-at : goal.invariant-loop-at
invariant-loop-at l = record {
  inside : l.at ≤ length l.bytes;
  aligned : l.at % 8 ≡ 0;
  done : List ℕ;
  most : ℕ;
  enough : length l.bytes ≤ l.at + 8 * most;
  leads : items (length l.bytes) l.bytes 64 ≡ behind done (items most l.bytes l.at);
  entries : l.taken.entries.items ≡ map (entry_at l.dir l.bytes) (filter (is_entry l.bytes) done);
  places : l.taken.places.items ≡ filter (is_entry l.bytes) done;
  free : l.taken.free.items ≡ map (span_at l.bytes) (filter (is_span l.bytes) done);
  bests : l.taken.bests ≡ stated_bests l.bytes;
}

abbrev pub decreases-loop-at : goal.decreases-loop-at
decreases-loop-at l = length l.bytes - l.at
