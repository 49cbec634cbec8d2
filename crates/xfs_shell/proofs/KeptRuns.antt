-- A command of a line that could not be run leaves where the language stands.
use Rattle.std.proofs.Common.{ℕ, Bool, true, false, if◌then◌else◌, List, refl, codes}
use Rattle.xfs_geom.specs.Volumes.{Volume}
use Rattle.xfs_commands.specs.Commands.{Session, refuses, addresses, prints, sets}
use Rattle.xfs_commands.specs.Verbs.{word_at}
use Rattle.xfs_shell.specs.Running.{runs, sets_here, writes, object_at}
use Rattle.xfs_commands.specs.declared.commands.Verb.{Verb}
use Rattle.xfs_commands.specs.declared.commands.Verb.TheVariants as verb
use Rattle.xfs_objects.specs.declared.objects.ObjectPlace.{ObjectPlace}
use Rattle.xfs_shell.specs.declared.session.Leave.{Leave}
use Rattle.xfs_commands.proofs.KeptSessions.{Keeps, prints_kept, addresses_kept, sets_kept, here_kept, alone_kept}

writes_kept : (leave : Leave) (block : List ℕ) (args : List (List ℕ)) (s : Session) → Keeps s (writes leave block args s)
writes_kept leave block args s = by_leave leave.expert leave.read_only
  where
    by_leave : (expert read_only : Bool)
        → Keeps s (if expert then (if read_only then refuses (codes "write: read-only\n") s else sets_here block args s) else refuses (codes "write: needs -x\n") s)
    by_leave true true = λ refused. refl
    by_leave true false =
        here_kept s.at (λ (place : ObjectPlace). sets place block (word_at args 0) (word_at args 1) s) s
        (λ place. sets_kept place block (word_at args 0) (word_at args 1) s)
    by_leave false read_only = λ refused. refl

pub runs_kept : (v : Volume) (leave : Leave) (verb : Verb) (name : List ℕ) (args : List (List ℕ)) (block : List ℕ) (s : Session)
    → Keeps s (runs v leave verb name args block s)
runs_kept v leave verb.Addr name args block s =
    here_kept s.at (λ (place : ObjectPlace). addresses v place (object_at place block) (word_at args 0) s) s
    (λ place. addresses_kept v place (object_at place block) (word_at args 0) s)
runs_kept v leave verb.Print name args block s =
    here_kept s.at (λ (place : ObjectPlace). prints place.kind (object_at place block) args s) s (λ place. prints_kept place.kind (object_at place block) args s)
runs_kept v leave verb.Write name args block s = writes_kept leave block args s
runs_kept v leave verb.Sb name args block s = alone_kept v verb.Sb name args s
runs_kept v leave verb.Agf name args block s = alone_kept v verb.Agf name args s
runs_kept v leave verb.Agi name args block s = alone_kept v verb.Agi name args s
runs_kept v leave verb.Agfl name args block s = alone_kept v verb.Agfl name args s
runs_kept v leave verb.Inode name args block s = alone_kept v verb.Inode name args s
runs_kept v leave verb.FsBlock name args block s = alone_kept v verb.FsBlock name args s
runs_kept v leave verb.DiskAddress name args block s = alone_kept v verb.DiskAddress name args s
runs_kept v leave verb.Retype name args block s = alone_kept v verb.Retype name args s
runs_kept v leave verb.Push name args block s = alone_kept v verb.Push name args s
runs_kept v leave verb.Pop name args block s = alone_kept v verb.Pop name args s
runs_kept v leave verb.Stack name args block s = alone_kept v verb.Stack name args s
runs_kept v leave verb.Convert name args block s = alone_kept v verb.Convert name args s
runs_kept v leave verb.Hash name args block s = alone_kept v verb.Hash name args s
runs_kept v leave verb.Quit name args block s = alone_kept v verb.Quit name args s
