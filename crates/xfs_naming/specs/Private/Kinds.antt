-- What is asked of files again and again, kept close together.
use Rattle.std.specs.Prelude.{ℕ, ◌+◌, ◌==◌, if◌then◌else◌, List, length, count_by}
use Rattle.xfs_dirdata.specs.declared.records.EntryRec.{EntryRec}
use Rattle.xfs_volume.specs.declared.files.FileRec.{FileRec}
use Rattle.xfs_volume.specs.declared.findings.Law.{Law}
use Rattle.xfs_volume.specs.Laws.{law_at}
use Rattle.xfs_volume.specs.Names.{type_of}
use Rattle.xfs_naming.specs.declared.kinds.FileKind.{FileKind}
use Rattle.xfs_naming.specs.Naming.{is_directory_at, is_empty_regular, entries_in, entries_to}

-- what is asked of a file
abbrev pub kind_of : FileRec → FileKind
kind_of f = record { ino = f.ino; nlink = f.core.nlink; kind = type_of f }

-- the links that a file of a kind should have
abbrev pub links_due : List FileRec → List EntryRec → FileKind → ℕ
links_due files entries k =
    if k.kind == 4 then 2 + count_by (λ (e : EntryRec). is_directory_at files e.ino) (entries_in entries k.ino)
    else length (entries_to entries k.ino)

-- what the ninth law says of a file of the system's own
abbrev pub empty_links : FileRec → ℕ → Law
empty_links f ino = if is_empty_regular f then law_at 9 ino f.core.nlink 1 else law_at 9 ino 0 1
