-- What an election answers, and why.
use Rattle.std.specs.Prelude.{◌≡◌, ℕ, ◌≤◌, Result, Ok, Err}
use Rattle.xfs_disk.specs.Faults.{Rose}
use Rattle.xfs_geom.specs.Election.{Vote}
use Rattle.xfs_geom.specs.declared.election.Elected.{Elected}
use Rattle.xfs_geom.specs.declared.election.ElectFault.{ElectFault}
use Rattle.xfs_geom.specs.declared.election.ElectFault.TheVariants.{NoGeometry, Unsupported, ReadFault, NoMemory}

-- the vote that was elected
abbrev pub vote_of : Elected → Vote
vote_of e = record { place = e.from; sector = e.sector }

-- the answer is the one that is due, or a fault of the disk or want of memory stands in its place
abbrev pub IsElection : Result Vote ElectFault → Result Elected ElectFault → Type 0
IsElection due (Ok e) = due ≡ Ok (vote_of e)
IsElection due (Err ReadFault) = Unit {0}
IsElection due (Err NoMemory) = Unit {0}
IsElection due (Err NoGeometry) = due ≡ Err NoGeometry
IsElection due (Err (Unsupported word bits)) = due ≡ Err (Unsupported word bits)

-- the count of failed reads has not fallen, and a read fault is answered only where it rose
abbrev pub HasElectCause : {T : Type 0} → ℕ → ℕ → Result T ElectFault → Type 0
HasElectCause before now (Ok _) = before ≤ now
HasElectCause before now (Err ReadFault) = Rose before now
HasElectCause before now (Err NoMemory) = before ≤ now
HasElectCause before now (Err NoGeometry) = before ≤ now
HasElectCause before now (Err (Unsupported word bits)) = before ≤ now
