use Rattle.xfs_place.proofs.counting.count_all.Goals as goal

pub count_inodes-icount-requires-clause-groups : goal.count_inodes-icount-requires-clause-groups
count_inodes-icount-requires-clause-groups c = c.requires.groups.0

pub count_inodes-icount-requires-clause-few : goal.count_inodes-icount-requires-clause-few
count_inodes-icount-requires-clause-few c = c.requires.few

pub count_rooms-requires : goal.count_rooms-requires
count_rooms-requires c = c.requires.groups.1
