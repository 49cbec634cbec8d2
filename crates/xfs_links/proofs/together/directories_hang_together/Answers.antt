use Rattle.xfs_links.proofs.Holding.{all_attached, all_sound}
use Rattle.xfs_links.proofs.Hung.{all_behind, root_parent as own_parent}
use Rattle.xfs_links.proofs.Naming.{named_once, orphan_unnamed, root_unnamed as no_name, unnamed_starts}
use Rattle.xfs_links.proofs.together.directories_hang_together.Goals as goal

pub returns-clause-attached : goal.returns-clause-attached
returns-clause-attached c n h = all_attached c.args._files.now c.args._entries.now c.args._root n h

pub returns-clause-known : goal.returns-clause-known
returns-clause-known c n h = (all_sound c.args._files.now c.args._entries.now c.args._root c.requires).known n h

pub returns-clause-once : goal.returns-clause-once
returns-clause-once c = (all_sound c.args._files.now c.args._entries.now c.args._root c.requires).once

pub returns-clause-behind : goal.returns-clause-behind
returns-clause-behind c = all_behind c.args._files.now c.args._entries.now c.args._root

pub returns-clause-root_parent : goal.returns-clause-root_parent
returns-clause-root_parent c = own_parent c.args._files.now c.args._entries.now c.args._root

pub returns-clause-root_unnamed : goal.returns-clause-root_unnamed
returns-clause-root_unnamed c = no_name c.args._files.now c.args._entries.now c.args._root

pub returns-clause-named : goal.returns-clause-named
returns-clause-named c n p other par = named_once c.args._files.now c.args._entries.now c.args._root n p c.requires other par

pub returns-clause-unnamed : goal.returns-clause-unnamed
returns-clause-unnamed c n dir none = orphan_unnamed c.args._files.now c.args._entries.now c.args._root n dir none

pub returns-clause-starting : goal.returns-clause-starting
returns-clause-starting c n dir other none = unnamed_starts c.args._files.now c.args._entries.now c.args._root n c.requires other none
