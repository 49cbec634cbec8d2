-- What a block is to its owner (chapter "Reverse-Mapping B+tree"): an inode's number below 2^63, or one of the
-- owners below 0; and an offset word, with the flags of attribute fork, extent-tree block and unwritten block above
-- 61 bits of offset in the owner's fork.
use Rattle.std.specs.Prelude.{ℕ, Bool, not, ◌-◌, ◌/◌, ◌%◌, ◌^◌, ◌&&◌, ◌==◌, nat_lt, if◌then◌else◌}

abbrev pub offset_in_fork : ℕ → ℕ
offset_in_fork word = word % 2 ^ 61

abbrev pub flags_of : ℕ → ℕ
flags_of word = word / 2 ^ 61

abbrev pub is_unwritten : ℕ → Bool
is_unwritten word = word / 2 ^ 61 % 2 == 1

abbrev pub is_tree_block : ℕ → Bool
is_tree_block word = word / 2 ^ 62 % 2 == 1

-- the block holds data of a file, or of its attributes: only its offset goes up with the block
abbrev pub is_file_data : ℕ → ℕ → Bool
is_file_data owner word = nat_lt owner (2 ^ 63) && not (is_tree_block word)

-- the word of a key has the unwritten bit 0
abbrev pub key_word : ℕ → ℕ
key_word word = if is_unwritten word then word - 2 ^ 61 else word
