-- What contracts see of the library of the system's files.
use Rattle.std.specs.Prelude.{ℕ}
use Rattle.xfs_files.specs.declared.file_library.FileLibrary.{FileLibrary}

-- how many calls failed
abbrev pub faults_of : {R : Type 0} → FileLibrary R → ℕ
faults_of library = library.faults
