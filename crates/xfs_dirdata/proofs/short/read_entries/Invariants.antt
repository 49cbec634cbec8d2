use Rattle.std.proofs.Common.{◌≡◌, ◌-◌, ◌<◌, ◌≤◌, length, vec_len}
use Rattle.xfs_dirdata.specs.Short.{short_entries, index_size}
use Rattle.xfs_dirdata.proofs.Leading.{behind}
use Rattle.xfs_dirdata.proofs.short.read_entries.Given as goal

abbrev pub invariant-loop-alloc : goal.invariant-loop-alloc
invariant-loop-alloc l = record {
  inside : l.at ≤ length l.form;
  small : l.least < 70000;
  few : vec_len l.entries ≤ l.count;
  leads : short_entries l.dir l.form (index_size l.count) l.count 6 96
      ≡ behind l.entries.items (short_entries l.dir l.form (index_size l.count) (l.count - vec_len l.entries) l.at l.least);
}

abbrev pub decreases-loop-alloc : goal.decreases-loop-alloc
decreases-loop-alloc l = l.count - vec_len l.entries
