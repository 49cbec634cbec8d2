-- How the blocks of a kind of tree are laid out (chapter "Common B+trees").
use Rattle.std.specs.Prelude.{◌≡◌, ℕ, true, ◌+◌, ◌*◌, ◌≤◌, if◌then◌else◌}
use Rattle.xfs_tree.specs.declared.layout.Layout.{Layout}

abbrev pub header_len : Layout → ℕ
header_len l = if l.long then 72 else 56

-- a node's key, or pair of keys, for one child
abbrev pub keys_len : Layout → ℕ
keys_len l = if l.high then 2 * l.key_len else l.key_len

abbrev pub pointer_len : Layout → ℕ
pointer_len l = if l.long then 8 else 4

pub record IsLayout (l : Layout) : Type 0 where
  pub some_bytes : 1 ≤ l.record_len
  pub some_key : 1 ≤ l.key_len
  pub some_records : 1 ≤ l.leaf_cap
  pub two_children : 2 ≤ l.node_cap
  -- the long header belongs to the extent tree alone
  pub long_magic : l.long ≡ true → l.magic ≡ 0x424d4133
  pub leaf_fits : header_len l + l.leaf_cap * l.record_len ≤ 4096
  pub node_fits : header_len l + l.node_cap * (keys_len l + pointer_len l) ≤ 4096
