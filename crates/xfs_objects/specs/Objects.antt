-- The types of objects that xfs_db looks at, and the places at which they stand (xfs_db(8)).
use Rattle.std.specs.Prelude.{ℕ, ◌*◌, ◌==◌, if◌then◌else◌, codes, bytes_eq, List, [], ◌∷◌, take, drop, Option}
use Rattle.std.specs.List.{find}
use Rattle.xfs_objects.specs.declared.objects.ObjectType.{ObjectType}
use Rattle.xfs_objects.specs.declared.objects.ObjectType.TheVariants.{Sb, Agf, Agi, Agfl, Bnobt, Cntbt, Inobt, Finobt, Rmapbt, Bmapbt, Inode, Data}

-- the name of a type
abbrev pub type_name : ObjectType → List ℕ
type_name Sb = codes "sb"
type_name Agf = codes "agf"
type_name Agi = codes "agi"
type_name Agfl = codes "agfl"
type_name Bnobt = codes "bnobt"
type_name Cntbt = codes "cntbt"
type_name Inobt = codes "inobt"
type_name Finobt = codes "finobt"
type_name Rmapbt = codes "rmapbt"
type_name Bmapbt = codes "bmapbt"
type_name Inode = codes "inode"
type_name Data = codes "data"

abbrev pub all_types : List ObjectType
all_types = Sb ∷ Agf ∷ Agi ∷ Agfl ∷ Bnobt ∷ Cntbt ∷ Inobt ∷ Finobt ∷ Rmapbt ∷ Bmapbt ∷ Inode ∷ Data ∷ []

-- the type of a name
unfoldable pub type_named : List ℕ → Option ObjectType
type_named word = find (λ (kind : ObjectType). bytes_eq (type_name kind) word) all_types

-- the bytes of an object: those of a sector, or of a block
abbrev pub object_size : ObjectType → ℕ
object_size Sb = 512
object_size Agf = 512
object_size Agi = 512
object_size Agfl = 512
object_size Inode = 512
object_size other = 4096

-- the bytes of the object in a sector of a block
abbrev pub object_in : ObjectType → ℕ → List ℕ → List ℕ
object_in kind sector block = if object_size kind == 512 then take 512 (drop (512 * sector) block) else block
