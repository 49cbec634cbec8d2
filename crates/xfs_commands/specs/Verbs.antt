-- The commands by their names, and those that look at no object (xfs_db(8)).
use Rattle.std.specs.Prelude.{ℕ, Bool, true, ◌==◌, ◌||◌, nat_le, if◌then◌else◌, codes, bytes_eq, List, [], ◌∷◌, Option, Some, None, unwrap_or, slice_get}
use Rattle.std.specs.List.{find}
use Rattle.xfs_geom.specs.Volumes.{Volume}
use Rattle.xfs_objects.specs.Places.{is_place, measure_named}
use Rattle.xfs_objects.specs.declared.convert.Measure.{Measure}
use Rattle.xfs_objects.specs.declared.convert.Measure.TheVariants as measure
use Rattle.xfs_objects.specs.declared.objects.ObjectType.TheVariants as kind
use Rattle.xfs_objects.specs.declared.objects.ObjectPlace.{ObjectPlace}
use Rattle.xfs_commands.specs.Commands.{Session, Effect, does, bad_command, no_address, to_head, to_number, types, pops, stack_text, converts, hash_text}
use Rattle.xfs_commands.specs.declared.commands.Verb.{Verb}
use Rattle.xfs_commands.specs.declared.commands.Verb.TheVariants.{Sb, Agf, Agi, Agfl, Inode, FsBlock, DiskAddress, Addr, Retype, Print, Push, Pop, Stack, Write, Convert, Hash, Quit}
use Rattle.xfs_commands.specs.declared.cursor.Verdict.TheVariants as verdict

-- the name of a command
abbrev pub verb_name : Verb → List ℕ
verb_name Sb = codes "sb"
verb_name Agf = codes "agf"
verb_name Agi = codes "agi"
verb_name Agfl = codes "agfl"
verb_name Inode = codes "inode"
verb_name FsBlock = codes "fsblock"
verb_name DiskAddress = codes "daddr"
verb_name Addr = codes "addr"
verb_name Retype = codes "type"
verb_name Print = codes "print"
verb_name Push = codes "push"
verb_name Pop = codes "pop"
verb_name Stack = codes "stack"
verb_name Write = codes "write"
verb_name Convert = codes "convert"
verb_name Hash = codes "hash"
verb_name Quit = codes "quit"

-- the short name of a command, or its name again
abbrev pub short_name : Verb → List ℕ
short_name FsBlock = codes "fsb"
short_name Addr = codes "a"
short_name Print = codes "p"
short_name Quit = codes "q"
short_name other = verb_name other

abbrev pub names_verb : List ℕ → Verb → Bool
names_verb name verb = bytes_eq (verb_name verb) name || bytes_eq (short_name verb) name

abbrev pub all_verbs : List Verb
all_verbs =
    Sb ∷ Agf ∷ Agi ∷ Agfl ∷ Inode ∷ FsBlock ∷ DiskAddress ∷ Addr ∷ Retype ∷ Print ∷ Push ∷ Pop ∷ Stack ∷ Write ∷ Convert ∷ Hash ∷ Quit ∷ []

-- the command takes so many words behind its name
abbrev pub takes : Verb → ℕ → Bool
takes Sb n = nat_le n 1
takes Agf n = nat_le n 1
takes Agi n = nat_le n 1
takes Agfl n = nat_le n 1
takes Retype n = nat_le n 1
takes Print n = true
takes Push n = true
takes Pop n = n == 0
takes Stack n = n == 0
takes Quit n = n == 0
takes Write n = n == 2
takes Convert n = n == 3
takes other n = n == 1

-- the command of a name or a short name with so many words behind it
abbrev pub taking : Option Verb → ℕ → Option Verb
taking None n = None
taking (Some verb) n = if takes verb n then Some verb else None

unfoldable pub accepted : List ℕ → ℕ → Option Verb
accepted name n = taking (find (names_verb name) all_verbs) n

-- the word of this number
abbrev pub word_at : List (List ℕ) → ℕ → List ℕ
word_at words i = unwrap_or (slice_get words i) []

-- what is done at the current place
abbrev pub at_place : Option ObjectPlace → (ObjectPlace → Effect) → Session → Effect
at_place None next s = no_address s
at_place (Some place) next s = next place

-- convert, where its measures are known
abbrev pub converts_named : Volume → List ℕ → Option Measure → List ℕ → Option Measure → Session → Effect
converts_named v name None word target s = bad_command name s
converts_named v name (Some source) word None s = bad_command name s
converts_named v name (Some source) word (Some target) s =
    if is_place source then converts v source word target s else bad_command name s

-- a command that looks at no object
abbrev pub runs_alone : Volume → Verb → List ℕ → List (List ℕ) → Session → Effect
runs_alone v Sb name args s = to_head v kind.Sb 0 args s
runs_alone v Agf name args s = to_head v kind.Agf 1 args s
runs_alone v Agi name args s = to_head v kind.Agi 2 args s
runs_alone v Agfl name args s = to_head v kind.Agfl 3 args s
runs_alone v Inode name args s = to_number v measure.InodeNumber kind.Inode (word_at args 0) s
runs_alone v FsBlock name args s = to_number v measure.FsBlock kind.Data (word_at args 0) s
runs_alone v DiskAddress name args s = to_number v measure.DiskAddress kind.Data (word_at args 0) s
runs_alone v Retype name args s = at_place s.at (λ place. types place args s) s
runs_alone v Pop name args s = pops s
runs_alone v Stack name args s = does (stack_text s.stack) s
runs_alone v Convert name args s = converts_named v name (measure_named (word_at args 0)) (word_at args 1) (measure_named (word_at args 2)) s
runs_alone v Hash name args s = does (hash_text (word_at args 0)) s
runs_alone v Quit name args s = record { verdict = verdict.Quit; text = []; session = s; put = None }
runs_alone v other name args s = bad_command name s
