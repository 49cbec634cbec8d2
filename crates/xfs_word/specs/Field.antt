-- Fields of on-disk objects: numbers that stand big-endian at byte offsets. From the chapter "Common XFS Types" of
-- "XFS Algorithms and Data Structures".
use Rattle.std.specs.Prelude.{◌≡◌, ℕ, ◌+◌, ◌<◌, ◌≤◌, ◌⊎◌, ◌==◌, ◌||◌, Bool, List, take, drop, slice_index, replicate}
use Rattle.byteorder.specs.Endian.{big_number}

-- a field of a number has 1, 2, 4 or 8 bytes
abbrev pub is_width : ℕ → Bool
is_width width = width == 1 || width == 2 || width == 4 || width == 8

-- the big-endian number in the width bytes from an offset on
unfoldable pub field_of : List ℕ → ℕ → ℕ → ℕ
field_of bytes at width = big_number width (drop at bytes)

-- the width bytes from an offset on
unfoldable pub part_of : List ℕ → ℕ → ℕ → List ℕ
part_of bytes at width = take width (drop at bytes)

-- the w bytes from a on lie beside the width bytes from at on
abbrev pub Beside : ℕ → ℕ → ℕ → ℕ → Type 0
Beside at width a w = (a + w ≤ at) ⊎ (at + width ≤ a)

-- each byte beside the width bytes from at on is as before
abbrev pub SameBeside : List ℕ → List ℕ → ℕ → ℕ → Type 0
SameBeside old new at width = (k : ℕ) → (k < at) ⊎ (at + width ≤ k) → slice_index new k ≡ slice_index old k

-- each number beside the width bytes from at on is as before
abbrev pub KeepsBeside : List ℕ → List ℕ → ℕ → ℕ → Type 0
KeepsBeside old new at width = (a w : ℕ) → Beside at width a w → field_of new a w ≡ field_of old a w

-- each part beside the width bytes from at on is as before
abbrev pub KeepsParts : List ℕ → List ℕ → ℕ → ℕ → Type 0
KeepsParts old new at width = (a w : ℕ) → Beside at width a w → part_of new a w ≡ part_of old a w

-- bytes that are zero
unfoldable pub zeros : ℕ → List ℕ
zeros count = replicate count 0

-- the width bytes from an offset on are zero
abbrev pub IsZero : List ℕ → ℕ → ℕ → Type 0
IsZero bytes at width = part_of bytes at width ≡ zeros width
