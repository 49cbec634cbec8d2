use Rattle.xfs_objects.proofs.items.push_aliases.Goals as goal

pub returns-in-Inode-clause-items : goal.returns-in-Inode-clause-items
returns-in-Inode-clause-items c = rw (c.in-Inode.is) c.push_fields.ensures.items
