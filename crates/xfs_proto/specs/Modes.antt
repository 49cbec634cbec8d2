-- The mode of an entry: a letter for its type, `u` or `-`, `g` or `-`, and three octal digits (mkfs.xfs(8)).
use Rattle.std.specs.Prelude.{ℕ, ◌+◌, ◌-◌, ◌*◌, Bool, true, false, ◌==◌, ◌&&◌, nat_le, if◌then◌else◌, List, [], ◌∷◌, Option, Some, None}
use Rattle.xfs_proto.specs.declared.modes.FileType.{FileType}
use Rattle.xfs_proto.specs.declared.modes.FileType.TheVariants.{Regular, Directory, Link, Block, Character, Pipe}
use Rattle.xfs_proto.specs.declared.modes.Mode.{Mode}

-- the type that a letter names: `-` regular, d directory, l link, b block device, c character device, p fifo
abbrev pub type_of_letter : ℕ → Option FileType
type_of_letter letter =
    if letter == 45 then Some Regular
    else if letter == 100 then Some Directory
    else if letter == 108 then Some Link
    else if letter == 98 then Some Block
    else if letter == 99 then Some Character
    else if letter == 112 then Some Pipe
    else None

-- the type in the upper four bits of an inode's mode
abbrev pub type_bits : FileType → ℕ
type_bits Regular = 0x8000
type_bits Directory = 0x4000
type_bits Link = 0xa000
type_bits Block = 0x6000
type_bits Character = 0x2000
type_bits Pipe = 0x1000

-- whether a bit is set: its letter says so, and `-` that it isn't
abbrev pub flag_of : ℕ → ℕ → Option Bool
flag_of letter byte = if byte == letter then Some true else if byte == 45 then Some false else None

-- the octal digit that a byte writes
abbrev pub digit_of : ℕ → Option ℕ
digit_of byte = if nat_le 48 byte && nat_le byte 55 then Some (byte - 48) else None

abbrev pub permissions_with : Option ℕ → Option ℕ → Option ℕ → Option ℕ
permissions_with (Some owner) (Some members) (Some others) = Some (owner * 64 + members * 8 + others)
permissions_with owner members others = None

-- the permissions that three octal digits write
abbrev pub permissions_of : ℕ → ℕ → ℕ → Option ℕ
permissions_of owner members others = permissions_with (digit_of owner) (digit_of members) (digit_of others)

-- a mode as it stands in an inode: the type, the bits that set user and group, the permissions
abbrev pub bits_of : FileType → Bool → Bool → ℕ → ℕ
bits_of kind user group permissions =
    type_bits kind + (if user then 0x800 else 0) + (if group then 0x400 else 0) + permissions

abbrev pub new_mode : FileType → Bool → Bool → ℕ → Mode
new_mode kind user group permissions = record { kind = kind; bits = bits_of kind user group permissions }

abbrev pub mode_with : Option FileType → Option Bool → Option Bool → Option ℕ → Option Mode
mode_with (Some kind) (Some user) (Some group) (Some permissions) = Some (new_mode kind user group permissions)
mode_with kind user group permissions = None

-- the mode that a token writes
unfoldable pub mode_of : List ℕ → Option Mode
mode_of (kind ∷ user ∷ group ∷ owner ∷ members ∷ others ∷ []) =
    mode_with (type_of_letter kind) (flag_of 117 user) (flag_of 103 group) (permissions_of owner members others)
mode_of text = None
