use Rattle.xfs_inode.proofs.deciding.decide_file.Goals as goal

pub decide_read-requires : goal.decide_read-requires
decide_read-requires c = record { slot = c.requires.slot; read = c.read_slot-read.ensures; attr_leaf = c.requires.attr_leaf; link = c.requires.link }

pub returns : goal.returns
returns c = record { read = c.decide_read.ensures.read; sound = c.decide_read.ensures.sound }
