-- How many bytes an entry takes whose name has so many bytes (chapter "Directories").
use Rattle.std.specs.Prelude.{ℕ, ◌+◌, ◌*◌, ◌/◌}

-- in a data block: the inode number of 8 bytes, the name's length, the name, the file type and the tag of 2 bytes,
-- rounded up to a multiple of 8
abbrev pub data_size : ℕ → ℕ
data_size name_length = (name_length + 19) / 8 * 8

-- in a short form: the name's length, the offset of 2 bytes, the name, the file type and the inode number of 4 bytes
abbrev pub short_size : ℕ → ℕ
short_size name_length = 8 + name_length
