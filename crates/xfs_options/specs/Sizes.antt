-- Sizes in words: a decimal number, and a letter for what it counts (mkfs.xfs(8)).
use Rattle.std.specs.Prelude.{ℕ, ◌-◌, ◌*◌, ◌/◌, ◌%◌, ◌^◌, Bool, ◌==◌, ◌&&◌, nat_lt, if◌then◌else◌, List, length, take, Option, Some, None}
use Rattle.std.specs.List.{slice_get}
use Rattle.xfs_options.specs.Numbers.{bounded_number}

-- the bytes of a unit: b blocks, s sectors, k, m and g powers of 1024
abbrev pub unit_of : ℕ → Option ℕ
unit_of letter =
    if letter == 98 then Some 4096
    else if letter == 115 then Some 512
    else if letter == 107 then Some (2 ^ 10)
    else if letter == 109 then Some (2 ^ 20)
    else if letter == 103 then Some (2 ^ 30)
    else None

abbrev pub unit_named : Option ℕ → Option ℕ
unit_named (Some letter) = unit_of letter
unit_named None = None

-- the bytes of the unit that stands at the end
abbrev pub unit_behind : List ℕ → Option ℕ
unit_behind text = unit_named (slice_get text (length text - 1))

-- the blocks of so many units, where they are whole blocks and below 2^63 bytes
abbrev pub blocks_of_number : ℕ → Option ℕ → Option ℕ
blocks_of_number unit None = None
blocks_of_number unit (Some number) =
    if (number * unit) % 4096 == 0 && nat_lt (number * unit) (2 ^ 63) then Some ((number * unit) / 4096) else None

abbrev pub size_with : List ℕ → Option ℕ → Option ℕ
size_with text (Some unit) = blocks_of_number unit (bounded_number (take (length text - 1) text))
size_with text None = blocks_of_number 1 (bounded_number text)

-- the number of blocks of 4096 bytes that a size names
unfoldable pub blocks_of_text : List ℕ → Option ℕ
blocks_of_text text = size_with text (unit_behind text)
