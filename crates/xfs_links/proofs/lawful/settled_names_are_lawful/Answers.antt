use Rattle.xfs_links.proofs.Lost.{kept_few}
use Rattle.xfs_links.proofs.Settling.{valid_due, differ_due, in_use_due, ordinary_entries_due, root_directory_due, root_unnamed_due, root_parent_due, all_once_due, by_parent_due, all_reached_due, all_named_due}
use Rattle.xfs_links.proofs.lawful.settled_names_are_lawful.Goals as goal

pub returns-clause-entries : goal.returns-clause-entries
returns-clause-entries c types = record {
  whole = c.requires.settled.directories_are.whole;
  valid = valid_due c.args._nodes.now c.args._listed.now c.args._root c.args._new c.args._files.now c.args._entries.now c.args._dirs.now c.requires.nodes c.requires.listed (kept_few c.args._nodes.now c.args._listed.now c.args._root c.requires.few) c.requires.root c.requires.system c.requires.new c.requires.free c.requires.settled;
  differ = differ_due c.args._nodes.now c.args._listed.now c.args._root c.args._new c.args._files.now c.args._entries.now c.args._dirs.now c.requires.nodes c.requires.listed (kept_few c.args._nodes.now c.args._listed.now c.args._root c.requires.few) c.requires.root c.requires.system c.requires.new c.requires.free c.requires.settled;
  in_use = in_use_due c.args._nodes.now c.args._listed.now c.args._root c.args._new c.args._files.now c.args._entries.now c.args._dirs.now c.requires.nodes c.requires.listed (kept_few c.args._nodes.now c.args._listed.now c.args._root c.requires.few) c.requires.root c.requires.system c.requires.new c.requires.free c.requires.settled;
  ordinary = ordinary_entries_due c.args._nodes.now c.args._listed.now c.args._root c.args._new c.args._files.now c.args._entries.now c.args._dirs.now c.requires.nodes c.requires.listed (kept_few c.args._nodes.now c.args._listed.now c.args._root c.requires.few) c.requires.root c.requires.system c.requires.new c.requires.free c.requires.settled;
  types = types;
}

pub returns-clause-places : goal.returns-clause-places
returns-clause-places c = record {
  root_directory = root_directory_due c.args._nodes.now c.args._listed.now c.args._root c.args._new c.args._files.now c.args._entries.now c.args._dirs.now c.requires.nodes c.requires.listed (kept_few c.args._nodes.now c.args._listed.now c.args._root c.requires.few) c.requires.root c.requires.system c.requires.new c.requires.free c.requires.settled;
  root_unnamed = root_unnamed_due c.args._nodes.now c.args._listed.now c.args._root c.args._new c.args._files.now c.args._entries.now c.args._dirs.now c.requires.nodes c.requires.listed (kept_few c.args._nodes.now c.args._listed.now c.args._root c.requires.few) c.requires.root c.requires.system c.requires.new c.requires.free c.requires.settled;
  root_parent = root_parent_due c.args._nodes.now c.args._listed.now c.args._root c.args._new c.args._files.now c.args._entries.now c.args._dirs.now c.requires.nodes c.requires.listed (kept_few c.args._nodes.now c.args._listed.now c.args._root c.requires.few) c.requires.root c.requires.system c.requires.new c.requires.free c.requires.settled;
  once = all_once_due c.args._nodes.now c.args._listed.now c.args._root c.args._new c.args._files.now c.args._entries.now c.args._dirs.now c.requires.nodes c.requires.listed (kept_few c.args._nodes.now c.args._listed.now c.args._root c.requires.few) c.requires.root c.requires.system c.requires.new c.requires.free c.requires.settled;
  by_parent = by_parent_due c.args._nodes.now c.args._listed.now c.args._root c.args._new c.args._files.now c.args._entries.now c.args._dirs.now c.requires.nodes c.requires.listed (kept_few c.args._nodes.now c.args._listed.now c.args._root c.requires.few) c.requires.root c.requires.system c.requires.new c.requires.free c.requires.settled;
  reached = all_reached_due c.args._nodes.now c.args._listed.now c.args._root c.args._new c.args._files.now c.args._entries.now c.args._dirs.now c.requires.nodes c.requires.listed (kept_few c.args._nodes.now c.args._listed.now c.args._root c.requires.few) c.requires.root c.requires.system c.requires.new c.requires.free c.requires.settled;
  named = all_named_due c.args._nodes.now c.args._listed.now c.args._root c.args._new c.args._files.now c.args._entries.now c.args._dirs.now c.requires.nodes c.requires.listed (kept_few c.args._nodes.now c.args._listed.now c.args._root c.requires.few) c.requires.root c.requires.system c.requires.new c.requires.free c.requires.settled;
}
