-- What is owed of one relation is owed of every wider one.
use Rattle.xfs_mend.specs.Due.{IsOwed}
use Rattle.xfs_mend.specs.declared.outcome.Outcome.{Outcome}
use Rattle.xfs_mend.specs.declared.outcome.Outcome.TheVariants.{NoGeometry, Unsupported, DirtyLog, TooLarge, UnsupportedFile, Clean, Damaged, Repaired, NoRoom, ReadFault, WriteFault, NoMemory}

pub owed_as : (due other : Outcome → Type 0) (outcome : Outcome) → ((x : Outcome) → due x → other x) → IsOwed due outcome → IsOwed other outcome
owed_as due other (ReadFault faults) step owed = tt
owed_as due other (WriteFault blocks) step (summary, most, owed) = (summary, most, step (Repaired summary) owed)
owed_as due other NoMemory step owed = tt
owed_as due other NoGeometry step owed = step NoGeometry owed
owed_as due other (Unsupported word bits) step owed = step (Unsupported word bits) owed
owed_as due other DirtyLog step owed = step DirtyLog owed
owed_as due other (TooLarge what count) step owed = step (TooLarge what count) owed
owed_as due other (UnsupportedFile ino what) step owed = step (UnsupportedFile ino what) owed
owed_as due other Clean step owed = step Clean owed
owed_as due other (Damaged finding) step owed = step (Damaged finding) owed
owed_as due other (Repaired summary) step owed = step (Repaired summary) owed
owed_as due other (NoRoom what) step owed = step (NoRoom what) owed
