-- What the parts of a catalog keep gives what each check asks.
use Rattle.std.proofs.Common.{ℕ, zero, suc, ◌+◌, ◌<◌, ◌≤◌, Bool, true, false, ◌&&◌, List, [], ◌∷◌, length, get_or, Option, Some, None, IsTrue, refl, arith}
use Rattle.xfs_geom.specs.Volumes.{Volume}
use Rattle.xfs_geom.specs.declared.records.InoRec.{InoRec}
use Rattle.xfs_tree.specs.Rules.{are_lawful}
use Rattle.xfs_kinds.specs.InodeTrees.{inode_shape, is_holemask}
use Rattle.xfs_volume.specs.declared.files.FileRec.{FileRec}
use Rattle.xfs_volume.specs.declared.groups.GroupRec.{GroupRec}
use Rattle.xfs_space.specs.Parts.{AreGroups}
use Rattle.xfs_naming.specs.Naming.{NumbersAscend, numbers_of}
use Rattle.xfs_laws.specs.Counting.{AllHaveChunks, AreChunks, FilesOrdered, AreShort}

-- the first and the second of two tests that both pass
left : (a b : Bool) → IsTrue (a && b) → IsTrue a
left true b both = refl
left false b both = cc

right : (a b : Bool) → IsTrue (a && b) → IsTrue b
right true b both = both
right false b both = cc

-- numbers that ascend from a least one on are not below it
from_least : (files : List FileRec) (least k : ℕ) (d : FileRec) → NumbersAscend least (numbers_of files) → k < length files → least ≤ (get_or files k d).ino
from_least [] least k d up inside = absurd (omega arith)
from_least (f ∷ fs) least zero d up inside = up.0
from_least (f ∷ fs) least (suc k) d up inside =
    let rest : f.ino + 1 ≤ (get_or fs k d).ino = from_least fs (f.ino + 1) k d up.1 (omega arith) in
    omega (arith, up.0)

pub ordered : (files : List FileRec) (least : ℕ) → NumbersAscend least (numbers_of files) → FilesOrdered files
ordered [] least up i j d le inside = absurd (omega arith)
ordered (f ∷ fs) least up zero zero d le inside = omega arith
ordered (f ∷ fs) least up zero (suc j) d le inside =
    let rest : f.ino + 1 ≤ (get_or fs j d).ino = from_least fs (f.ino + 1) j d up.1 (omega arith) in
    omega arith
ordered (f ∷ fs) least up (suc i) zero d le inside = absurd (omega arith)
ordered (f ∷ fs) least up (suc i) (suc j) d le inside = ordered fs (f.ino + 1) up.1 i j d (omega arith) (omega arith)

-- lawful chunks have masks that the trees have
has_mask : (magic ag : ℕ) (v : Volume) (before : Option InoRec) (r : InoRec) → IsTrue ((inode_shape magic ag).lawful v before r) → IsTrue (is_holemask r.holemask)
has_mask magic ag v before r lawful =
    let fits = left _ _ (left _ _ (left _ _ (left _ _ (left _ _ lawful)))) in
    right _ _ (left _ _ (left _ _ (left _ _ fits)))

pub masks : (magic ag : ℕ) (v : Volume) (before : Option InoRec) (rs : List InoRec) → IsTrue (are_lawful (inode_shape magic ag) v before rs) → AreChunks rs
masks magic ag v before [] lawful k d inside = absurd (omega arith)
masks magic ag v before (r ∷ rs) lawful zero d inside = has_mask magic ag v before r (left _ _ lawful)
masks magic ag v before (r ∷ rs) lawful (suc k) d inside = masks magic ag v (Some r) rs (right _ _ lawful) k d (omega arith)

pub chunks : (v : Volume) (ag : ℕ) (gs : List GroupRec) → AreGroups v ag gs → AllHaveChunks gs
chunks v ag [] groups k d inside = absurd (omega arith)
chunks v ag (g ∷ gs) groups zero d inside = (masks 0x4941_4233 ag v None g.ino groups.0.ino, masks 0x4649_4233 ag v None g.fino groups.0.fino)
chunks v ag (g ∷ gs) groups (suc k) d inside = chunks v (ag + 1) gs groups.1 k d (omega arith)

pub short : (v : Volume) (ag : ℕ) (gs : List GroupRec) → AreGroups v ag gs → AreShort gs
short v ag [] groups k d inside = absurd (omega arith)
short v ag (g ∷ gs) groups zero d inside = groups.0.count
short v ag (g ∷ gs) groups (suc k) d inside = short v (ag + 1) gs groups.1 k d (omega arith)
