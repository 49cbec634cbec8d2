-- Big-endian numbers that stand one behind the other in an on-disk object.
use Rattle.std.specs.Prelude.{ℕ, List, [], ◌∷◌, ◌++◌}
use Rattle.byteorder.specs.Endian.{big_bytes}

-- the bytes of numbers, each given with its width in bytes
unfoldable pub spelled : List (ℕ × ℕ) → List ℕ
spelled [] = []
spelled ((width, number) ∷ rest) = big_bytes width number ++ spelled rest
