-- A group from its parts, each where it reads.
use Rattle.std.specs.Prelude.{ℕ, List, [], ◌∷◌, ◌++◌, Option, Some, None, Result, Ok, Err}
use Rattle.xfs_heads.specs.declared.free_list.Agfl.{Agfl}
use Rattle.xfs_heads.specs.declared.free_space.Agf.{Agf}
use Rattle.xfs_heads.specs.declared.inodes.Agi.{Agi}
use Rattle.xfs_volume.specs.declared.groups.GroupRec.{GroupRec}
use Rattle.xfs_image.specs.Groups.{group_record, with_part}
use Rattle.xfs_image.specs.declared.findings.Finding.{Finding}
use Rattle.xfs_groups.specs.declared.heads.Heads.{Heads}
use Rattle.xfs_groups.specs.declared.trees.Trees.{Trees}

-- a group with these headers whose trees are these, or the first of the trees that is not there
abbrev pub with_trees : ℕ → Agf → Agi → Agfl → Trees → Result GroupRec Finding
with_trees ag agf agi agfl trees =
    with_part ag 4 trees.bno (λ bno.
    with_part ag 5 trees.cnt (λ cnt.
    with_part ag 6 trees.ino (λ ino.
    with_part ag 7 trees.fino (λ fino.
    with_part ag 8 trees.rmap (λ rmap.
    Ok (group_record agf agi agfl bno cnt ino fino rmap))))))

-- a group whose headers and trees are these, or the first of its eight parts that is not there
abbrev pub group_with : ℕ → Heads → Trees → Result GroupRec Finding
group_with ag heads trees =
    with_part ag 1 heads.agf (λ agf.
    with_part ag 2 heads.agi (λ agi.
    with_part ag 3 heads.agfl (λ agfl.
    with_trees ag agf agi agfl trees)))

-- the number of a part that is not there, or else that of a later one; the first of the eight parts of a group that is not there, or 0
abbrev pub unless_there : {A : Type 0} → Option A → ℕ → ℕ → ℕ
unless_there None number later = number
unless_there (Some a) number later = later

abbrev pub first_lacking : Heads → Trees → ℕ
first_lacking heads trees =
    unless_there heads.agf 1 (unless_there heads.agi 2 (unless_there heads.agfl 3 (
    unless_there trees.bno 4 (unless_there trees.cnt 5 (unless_there trees.ino 6 (
    unless_there trees.fino 7 (unless_there trees.rmap 8 0)))))))

-- groups that read with one more that does, or the first finding
abbrev pub then_read : Result (List GroupRec) Finding → Result GroupRec Finding → Result (List GroupRec) Finding
then_read (Err found) group = Err found
then_read (Ok groups) (Err found) = Err found
then_read (Ok groups) (Ok group) = Ok (groups ++ group ∷ [])
