use Rattle.std.proofs.Common.{[]}
use Rattle.xfs_links.specs.Entries.{candidate_entries}
use Rattle.xfs_links.specs.Connected.{attached_directories}
use Rattle.xfs_links.proofs.Holding.{kept_pass, others_stay, all_attached, all_sound, steps_suffice}
use Rattle.xfs_links.proofs.laws.names_hold.Goals as goal

pub returns-clause-pass : goal.returns-clause-pass
returns-clause-pass c = kept_pass c.args._files.now c.args._entries.now c.args._root

pub returns-clause-others_stay : goal.returns-clause-others_stay
returns-clause-others_stay c = others_stay c.args._files.now (attached_directories c.args._files.now c.args._entries.now c.args._root) [] (candidate_entries c.args._files.now c.args._root c.args._entries.now)

pub returns-clause-attached : goal.returns-clause-attached
returns-clause-attached c n h = all_attached c.args._files.now c.args._entries.now c.args._root n h

pub returns-clause-once : goal.returns-clause-once
returns-clause-once c = (all_sound c.args._files.now c.args._entries.now c.args._root c.requires).once

pub returns-clause-known : goal.returns-clause-known
returns-clause-known c n h = (all_sound c.args._files.now c.args._entries.now c.args._root c.requires).known n h

pub returns-clause-enough : goal.returns-clause-enough
returns-clause-enough c more = steps_suffice c.args._files.now c.args._entries.now c.args._root more c.requires
