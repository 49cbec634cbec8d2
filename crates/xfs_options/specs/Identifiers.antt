-- Identifiers of volumes in words.
use Rattle.std.specs.Prelude.{ℕ, Bool, nat_lt, if◌then◌else◌, List, Option, Some, None}
use Rattle.std.specs.List.{list_all}
use Rattle.uuid.specs.Text.{parsed}

-- the identifier that a text gives in one of the forms of `uuid`, which are all ASCII
unfoldable pub identifier_of : List ℕ → Option (List ℕ)
identifier_of text = if list_all (λ byte. nat_lt byte 128) text then parsed text else None
