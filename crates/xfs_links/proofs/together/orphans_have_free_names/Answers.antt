use Rattle.xfs_links.proofs.Lost.{kept_few, orphans_differ, orphans_free, orphans_valid}
use Rattle.xfs_links.proofs.together.orphans_have_free_names.Goals as goal

pub returns-clause-differ : goal.returns-clause-differ
returns-clause-differ c = orphans_differ c.args._files.now c.args._entries.now c.args._root c.requires.files (kept_few c.args._files.now c.args._entries.now c.args._root c.requires.few)

pub returns-clause-free : goal.returns-clause-free
returns-clause-free c = orphans_free c.args._files.now c.args._entries.now c.args._root c.requires.files (kept_few c.args._files.now c.args._entries.now c.args._root c.requires.few)

pub returns-clause-valid : goal.returns-clause-valid
returns-clause-valid c = orphans_valid c.args._files.now c.args._entries.now c.args._root c.requires.files (kept_few c.args._files.now c.args._entries.now c.args._root c.requires.few)
