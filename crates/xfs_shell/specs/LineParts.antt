-- Lines and their words (xfs_db(8)).
use Rattle.std.specs.Prelude.{ℕ, Bool, ◌==◌, ◌||◌, not, List, length}
use Rattle.std.specs.List.{filter, slice_split}
use Rattle.xfs_shell.specs.declared.line_parts.Cut.{Cut}
use Rattle.xfs_shell.specs.declared.line_parts.Cut.TheVariants.{Blanks, LineFeeds}

-- the byte ends a part: a blank is a space or a tab
abbrev pub is_cut : Cut → ℕ → Bool
is_cut Blanks byte = byte == 32 || byte == 9
is_cut LineFeeds byte = byte == 10

abbrev pub is_some : List ℕ → Bool
is_some part = not (length part == 0)

-- the parts between the bytes that cut, without the empty ones
unfoldable pub line_parts : Cut → List ℕ → List (List ℕ)
line_parts cut bytes = filter is_some (slice_split (is_cut cut) bytes)
