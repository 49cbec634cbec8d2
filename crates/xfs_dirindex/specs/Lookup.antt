-- Mapped blocks by their file blocks.
use Rattle.std.specs.Prelude.{ℕ, Bool, ◌==◌, if◌then◌else◌, List, [], ◌∷◌, length}
use Rattle.xfs_dirindex.specs.Mapped.{Mapped}

-- the bytes of a file block; none where it is not mapped
abbrev pub bytes_mapped : List Mapped → ℕ → List ℕ
bytes_mapped [] block = []
bytes_mapped (m ∷ ms) block = if m.offset == block then m.bytes else bytes_mapped ms block

-- a block has 4096 bytes
abbrev pub is_mapped : List ℕ → Bool
is_mapped bytes = length bytes == 4096
