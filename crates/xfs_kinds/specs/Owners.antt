-- The owners of blocks that are no inode's (chapter "Reverse-Mapping B+tree").
use Rattle.std.specs.Prelude.{ℕ, ◌-◌, ◌^◌}

-- below 0 in two's complement: the headers of a group, the log, a group for its trees of blocks and its free list, the trees of
-- inodes, the clusters of inodes
abbrev pub headers_owner : ℕ
headers_owner = 2 ^ 64 - 3

abbrev pub log_owner : ℕ
log_owner = 2 ^ 64 - 4

abbrev pub group_owner : ℕ
group_owner = 2 ^ 64 - 5

abbrev pub inode_trees_owner : ℕ
inode_trees_owner = 2 ^ 64 - 6

abbrev pub clusters_owner : ℕ
clusters_owner = 2 ^ 64 - 7
