-- Where a byte of a text stands, by the place where its token begins.
use Rattle.std.specs.Prelude.{ℕ, ◌+◌, ◌≤◌, List, drop, slice_range, Result, Ok}
use Rattle.xfs_proto.specs.Tokens.{Place, tokens_from}
use Rattle.xfs_proto.specs.Tokens.Place.{between, inside, comment}
use Rattle.xfs_proto.specs.Reading.{State, SyntaxError, after_tokens, reader_state, HasEntryNames}
use Rattle.xfs_proto.specs.declared.scanning.Scan.{Scan}
use Rattle.xfs_proto.specs.declared.scanning.Place.{Place as Mark}
use Rattle.xfs_proto.specs.declared.scanning.Place.TheVariants as At

-- where the byte at this place stands: a token has the bytes from where it begins
abbrev pub place_of : List ℕ → ℕ → Mark → Place
place_of text at At.Between = between
place_of text at (At.Inside from) = inside (slice_range text from at)
place_of text at At.Comment = comment

-- a token has begun before this place
abbrev pub TokenBeginsBefore : ℕ → Mark → Type 0
TokenBeginsBefore at At.Between = Unit {0}
TokenBeginsBefore at (At.Inside from) = from ≤ at
TokenBeginsBefore at At.Comment = Unit {0}

-- what is read of a text from this place on, where so much was read before it
abbrev pub read_on : List ℕ → ℕ → Scan → Result State SyntaxError
read_on text at scan = after_tokens (tokens_from scan.line (place_of text at scan.place) (drop at text)) (Ok (reader_state scan.reader))

-- the text was read up to this place
pub record IsScan (at : ℕ) (scan : Scan) : Type 0 where
  pub steady : HasEntryNames scan.reader
  pub begins : TokenBeginsBefore at scan.place
  pub lines : scan.line ≤ at + 1
