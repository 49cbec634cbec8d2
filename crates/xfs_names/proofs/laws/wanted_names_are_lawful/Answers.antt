use Rattle.xfs_names.proofs.Having.{settled, types, directory_links, other_links}
use Rattle.xfs_names.proofs.laws.wanted_names_are_lawful.Goals as goal

pub settled_names_are_lawful-requires-clause-settled : goal.settled_names_are_lawful-requires-clause-settled
settled_names_are_lawful-requires-clause-settled c = settled c.args.nodes.now c.args.listed.now c.args.root c.args.new c.args.files.now c.args.entries.now c.args.dirs.now c.requires.nodes.ascend c.requires.new c.requires.entries c.requires.wanted

pub returns : goal.returns
returns c = record {
  directories = c.settled_names_are_lawful.ensures.entries (types c.args.nodes.now c.args.listed.now c.args.root c.args.new c.args.files.now c.args.entries.now c.args.dirs.now c.requires.nodes.ascend c.requires.new c.requires.entries c.requires.wanted);
  places = c.settled_names_are_lawful.ensures.places;
  links = record {
    of_directories = directory_links c.args.nodes.now c.args.listed.now c.args.root c.args.new c.args.files.now c.args.entries.now c.args.dirs.now c.requires.nodes.ascend c.requires.new c.requires.entries c.requires.wanted;
    of_others = other_links c.args.nodes.now c.args.listed.now c.args.root c.args.new c.args.files.now c.args.entries.now c.args.dirs.now c.requires.nodes.ascend c.requires.new c.requires.entries c.requires.wanted c.requires.root;
    first = c.requires.first;
    second = c.requires.second;
  };
}
