-- The tokens of a protofile: what stands between blanks, tabs and line feeds, each with its line. One that begins with a
-- colon is no token, and drops what is left of its line (mkfs.xfs(8)).
use Rattle.std.specs.Prelude.{ℕ, ◌+◌, Bool, ◌==◌, ◌||◌, if◌then◌else◌, List, [], ◌∷◌, ◌++◌}

-- its bytes, and its line from 1
pub record Token : Type 0 where
  pub text : List ℕ
  pub line : ℕ

-- where a byte stands: between tokens, in one of which these bytes were read, or in what is dropped
pub data Place : Type 0 where
  between : Place
  inside : List ℕ → Place
  comment : Place

-- a blank, a tab or a line feed
abbrev pub is_blank : ℕ → Bool
is_blank byte = byte == 32 || byte == 9 || byte == 10

-- the token that ends here, where one does
abbrev pub ended : ℕ → Place → List Token
ended line between = []
ended line (inside text) = record { text = text; line = line } ∷ []
ended line comment = []

-- behind a blank: a comment goes on until the line feed
abbrev pub behind_blank : ℕ → Place → Place
behind_blank byte between = between
behind_blank byte (inside text) = between
behind_blank byte comment = if byte == 10 then between else comment

-- behind another byte: a colon begins a comment where a token could begin
abbrev pub behind_byte : ℕ → Place → Place
behind_byte byte between = if byte == 58 then comment else inside (byte ∷ [])
behind_byte byte (inside text) = inside (text ++ byte ∷ [])
behind_byte byte comment = comment

-- the line behind a byte
abbrev pub next_line : ℕ → ℕ → ℕ
next_line byte line = if byte == 10 then line + 1 else line

-- the tokens from here on, in a line of this number
abbrev pub tokens_from : ℕ → Place → List ℕ → List Token
tokens_from line place [] = ended line place
tokens_from line place (byte ∷ bytes) =
    if is_blank byte then ended line place ++ tokens_from (next_line byte line) (behind_blank byte place) bytes
    else tokens_from line (behind_byte byte place) bytes

-- the tokens of a text
unfoldable pub tokens_of : List ℕ → List Token
tokens_of text = tokens_from 1 between text
