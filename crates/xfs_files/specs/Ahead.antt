-- What is held of a file's blocks.
use Rattle.std.specs.Prelude.{◌≡◌, ℕ, ◌*◌, List, take, drop, Option}
use Rattle.std.specs.Option.{ForSome}
use Rattle.xfs_files.specs.declared.ahead.Ahead.{Ahead}

-- the bytes of the blocks that are held are those of a file, where it tells its bytes
abbrev pub HoldsPart : Option (List ℕ) → Ahead → Type 0
HoldsPart told a = ForSome told (λ all. take (a.count * 4096) a.bytes.items ≡ take (a.count * 4096) (drop (a.first * 4096) all))
