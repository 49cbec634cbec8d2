-- The commands by their words, and what lines of them print and leave (xfs_db(8)).
use Rattle.std.specs.Prelude.{ℕ, suc, Bool, true, false, not, ◌&&◌, if◌then◌else◌, codes, List, [], ◌∷◌, ◌++◌, length, take, Option, Some, None, slice_set}
use Rattle.std.specs.List.{fold}
use Rattle.xfs_disk.specs.Blocks.{Image, bytes_of_block}
use Rattle.xfs_geom.specs.Volumes.{Volume}
use Rattle.xfs_commands.specs.Cursors.{is_quit, saved}
use Rattle.xfs_commands.specs.Verbs.{accepted, at_place, runs_alone, word_at}
use Rattle.xfs_commands.specs.Commands.{Session, Effect, Put, does, refuses, bad_command, no_address, addresses, prints, sets}
use Rattle.xfs_shell.specs.LineParts.{line_parts}
use Rattle.xfs_objects.specs.Objects.{object_in}
use Rattle.xfs_commands.specs.declared.commands.Verb.{Verb}
use Rattle.xfs_commands.specs.declared.commands.Verb.TheVariants.{Addr, Print, Push, Write, Quit}
use Rattle.xfs_commands.specs.declared.cursor.Verdict.{Verdict}
use Rattle.xfs_commands.specs.declared.cursor.Verdict.TheVariants as verdict
use Rattle.xfs_shell.specs.declared.line_parts.Cut.TheVariants.{Blanks}
use Rattle.xfs_objects.specs.declared.objects.ObjectPlace.{ObjectPlace}
use Rattle.xfs_shell.specs.declared.session.Leave.{Leave}

-- the bytes of the block of the current place
abbrev pub block_at_place : Image → Option ObjectPlace → List ℕ
block_at_place image None = []
block_at_place image (Some place) = bytes_of_block image place.block

-- the object at a place, of the bytes of its block
abbrev pub object_at : ObjectPlace → List ℕ → List ℕ
object_at place block = object_in place.kind place.sector block

abbrev pub runs_addr : Volume → List ℕ → List ℕ → Session → Effect
runs_addr v word block s = at_place s.at (λ place. addresses v place (object_at place block) word s) s

abbrev pub runs_print : List (List ℕ) → List ℕ → Session → Effect
runs_print args block s = at_place s.at (λ place. prints place.kind (object_at place block) args s) s

abbrev pub sets_here : List ℕ → List (List ℕ) → Session → Effect
sets_here block args s = at_place s.at (λ place. sets place block (word_at args 0) (word_at args 1) s) s

-- fields may be written
abbrev pub may_write : Leave → Bool
may_write leave = leave.expert && not leave.read_only

-- write, where it is allowed
abbrev pub writes : Leave → List ℕ → List (List ℕ) → Session → Effect
writes leave block args s =
    if leave.expert
    then (if leave.read_only then refuses (codes "write: read-only\n") s
    else sets_here block args s)
    else refuses (codes "write: needs -x\n") s

-- a command but push, by the bytes of the block of the current place
abbrev pub runs : Volume → Leave → Verb → List ℕ → List (List ℕ) → List ℕ → Session → Effect
runs v leave Addr name args block s = runs_addr v (word_at args 0) block s
runs v leave Print name args block s = runs_print args block s
runs v leave Write name args block s = writes leave block args s
runs v leave other name args block s = runs_alone v other name args s

-- a command that could not be run leaves all as it was
abbrev pub keeping : Verdict → Session → Session → Session
keeping verdict.Refused s now = s
keeping verdict.Done s now = now
keeping verdict.Quit s now = now

abbrev pub restored : Session → Effect → Effect
restored s e = record e { session = keeping e.verdict s e.session }

-- push: the command behind it is run with the current place on the stack
abbrev pub pushes : Option ObjectPlace → (Session → Effect) → Session → Effect
pushes None inner s = no_address s
pushes (Some place) inner s = restored s (inner (saved place s))

abbrev pub runs_accepted : Volume → Leave → Option Verb → List ℕ → List (List ℕ) → List ℕ → (Session → Effect) → Session → Effect
runs_accepted v leave None name args block inner s = bad_command name s
runs_accepted v leave (Some Push) name args block inner s = pushes s.at inner s
runs_accepted v leave (Some verb) name args block inner s = runs v leave verb name args block s

-- a command but push, by its name
abbrev pub runs_named : Volume → Leave → Option Verb → List ℕ → List (List ℕ) → List ℕ → Session → Effect
runs_named v leave None name args block s = bad_command name s
runs_named v leave (Some verb) name args block s = runs v leave verb name args block s

-- the words of a command but push
abbrev pub runs_first : Volume → Leave → List (List ℕ) → List ℕ → Session → Effect
runs_first v leave [] block s = does [] s
runs_first v leave (name ∷ args) block s = runs_named v leave (accepted name (length args)) name args block s

-- the words begin with push
abbrev pub is_push_verb : Option Verb → Bool
is_push_verb None = false
is_push_verb (Some Push) = true
is_push_verb (Some verb) = false

abbrev pub is_push : List (List ℕ) → Bool
is_push [] = false
is_push (name ∷ args) = is_push_verb (accepted name (length args))

-- with how many of them they begin
abbrev pub pushes_in : List (List ℕ) → ℕ
pushes_in [] = 0
pushes_in (name ∷ args) = if is_push_verb (accepted name (length args)) then suc (pushes_in args) else 0

-- words where there is no place
abbrev pub runs_placeless : Volume → Leave → List (List ℕ) → List ℕ → Session → Effect
runs_placeless v leave words block s = if is_push words then no_address s else runs_first v leave words block s

-- the words of a line
abbrev pub runs_words : Volume → Leave → List (List ℕ) → List ℕ → Session → Effect
runs_words v leave [] block s = does [] s
runs_words v leave (name ∷ args) block s =
    runs_accepted v leave (accepted name (length args)) name args block (λ inner. runs_words v leave args block inner) s

unfoldable pub attempts : Volume → Leave → List (List ℕ) → List ℕ → Session → Effect
attempts v leave words block s = restored s (runs_words v leave words block s)

-- the image with what was written
abbrev pub image_after : Put → Image → Image
image_after None image = image
image_after (Some put) image = slice_set image put.0 put.1

-- a number of blocks with the one that is written, if any
abbrev pub count_put : Put → ℕ → ℕ
count_put None count = count
count_put (Some put) count = suc count

-- what lines have printed, what they leave, and how many blocks they wrote
pub record SessionRun : Type 0 where
  pub text : List ℕ
  pub session : Session
  pub image : Image
  pub writes : ℕ
  pub quit : Bool

abbrev pub extended : SessionRun → Effect → SessionRun
extended r e = record {
  text = r.text ++ e.text;
  session = e.session;
  image = image_after e.put r.image;
  writes = count_put e.put r.writes;
  quit = is_quit e.verdict;
}

-- a run after one more line, which is run unless the run has ended
unfoldable pub after_line : Volume → Leave → SessionRun → List ℕ → SessionRun
after_line v leave r line =
    if r.quit then r
    else extended r (attempts v leave (line_parts Blanks line) (block_at_place r.image r.session.at) r.session)

-- nothing was run yet
abbrev pub begun : Image → SessionRun
begun image = record { text = []; session = record { at = None; stack = [] }; image = image; writes = 0; quit = false }

-- what the lines print and leave
abbrev pub shelled : Volume → Leave → List (List ℕ) → Image → SessionRun
shelled v leave lines image = fold (after_line v leave) (begun image) lines

-- the run of the first lines
abbrev pub shelled_first : Volume → Leave → List (List ℕ) → Image → ℕ → SessionRun
shelled_first v leave lines image k = shelled v leave (take k lines) image

-- the words are the command quit, which ends a session wherever it stands
abbrev pub is_quit_verb : Option Verb → Bool
is_quit_verb None = false
is_quit_verb (Some Quit) = true
is_quit_verb (Some verb) = false

abbrev pub is_quit_words : List (List ℕ) → Bool
is_quit_words [] = false
is_quit_words (name ∷ args) = is_quit_verb (accepted name (length args))

-- how many lines there are up to and with the first that is the command quit
abbrev pub until_quit : List (List ℕ) → ℕ
until_quit [] = 0
until_quit (line ∷ lines) = if is_quit_words (line_parts Blanks line) then 1 else suc (until_quit lines)
