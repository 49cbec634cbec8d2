use Rattle.std.proofs.Common.{◌≡◌, ℕ, ◌++◌, map, take, drop}
use Rattle.xfs_volume.specs.declared.files.FileRec.{FileRec}
use Rattle.xfs_rebuild.specs.Names.{with_nlink}
use Rattle.xfs_rebuild.proofs.due_files.set_links.Given as goal

abbrev pub invariant-loop-i : goal.invariant-loop-i
invariant-loop-i l =
    (due : FileRec → ℕ) → l.dues ≡ map due l.fn.files → l.files ≡ map (λ (f : FileRec). with_nlink f (due f)) (take l.i l.fn.files) ++ drop l.i l.fn.files
