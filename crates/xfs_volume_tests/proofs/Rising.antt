-- Files that ascend stand in their order.
use Rattle.std.proofs.Common.{ℕ, ◌+◌, ◌≤◌, List, [], ◌∷◌, arith}
use Rattle.std.specs.List.Sorted.{IsNonDecreasingBy}
use Rattle.xfs_volume.specs.declared.files.FileRec.{FileRec}
use Rattle.xfs_naming.specs.Naming.{NumbersAscend, numbers_of}
use Rattle.xfs_naming.proofs.Order.{Rises, rises_by}

ascend_rise : (low least : ℕ) (xs : List ℕ) → least ≤ low → NumbersAscend low xs → Rises least xs
ascend_rise low least [] le up = tt
ascend_rise low least (x ∷ xs) le up = (omega (arith, le, up.0), ascend_rise (x + 1) x xs (omega arith) up.1)

pub files_in_order : (files : List FileRec) → NumbersAscend 0 (numbers_of files) → IsNonDecreasingBy (λ (f : FileRec). f.ino) files
files_in_order files up = rises_by (λ (f : FileRec). f.ino) 0 files (ascend_rise 0 0 (numbers_of files) (omega arith) up)
