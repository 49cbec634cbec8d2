-- How a command ends, and what the stack of places then holds.
use Rattle.std.specs.Prelude.{ℕ, zero, suc, Bool, true, false, [], ◌∷◌, ◌++◌, take}
use Rattle.xfs_commands.specs.Commands.{Session}
use Rattle.xfs_commands.specs.declared.cursor.Verdict.{Verdict}
use Rattle.xfs_commands.specs.declared.cursor.Verdict.TheVariants as verdict
use Rattle.xfs_objects.specs.declared.objects.ObjectPlace.{ObjectPlace}

-- no further command is to be run
abbrev pub is_quit : Verdict → Bool
is_quit verdict.Quit = true
is_quit verdict.Done = false
is_quit verdict.Refused = false

-- with the place on the stack, once or more often
abbrev pub saved : ObjectPlace → Session → Session
saved place s = record s { stack = s.stack ++ place ∷ [] }

abbrev pub pushed : ℕ → ObjectPlace → Session → Session
pushed zero place s = s
pushed (suc n) place s = pushed n place (saved place s)

-- a stack without what lies above so many places, where a command was refused
abbrev pub back_to : ℕ → Session → Session
back_to kept s = record { at = s.at; stack = take kept s.stack }

abbrev pub settled_session : Verdict → ℕ → Session → Session
settled_session verdict.Refused kept s = back_to kept s
settled_session verdict.Done kept s = s
settled_session verdict.Quit kept s = s
