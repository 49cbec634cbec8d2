use Rattle.xfs_volume_tests.proofs.names.wanted.place_and_names.Goals as goal

pub want_names-requires-clause-names : goal.want_names-requires-clause-names
want_names-requires-clause-names c = record {
  entries = c.in_ok-names.ensures.entries;
  parents_are = c.in_ok-names.ensures.parents;
  orphans = c.in_ok-names.ensures.orphans;
  lost = c.in_ok-names.ensures.lost;
}
