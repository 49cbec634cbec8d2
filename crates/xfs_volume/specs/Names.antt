-- Names of files and types of files (chapters "Directories" and "On-disk Inode").
use Rattle.std.specs.Prelude.{ℕ, Bool, not, ◌/◌, ◌^◌, ◌==◌, ◌&&◌, ◌||◌, nat_le, if◌then◌else◌, List, [], ◌∷◌, length}
use Rattle.std.specs.List.{list_any}
use Rattle.std.specs.Str.{bytes_eq}
use Rattle.xfs_volume.specs.declared.files.FileRec.{FileRec}

-- a file can have the name: 1 to 255 bytes, none of them 0 or a slash, and neither `.` nor `..`
unfoldable pub is_name : List ℕ → Bool
is_name name =
    nat_le 1 (length name) && nat_le (length name) 255
    && not (list_any (λ byte. byte == 0 || byte == 0x2f) name)
    && not (bytes_eq name (0x2e ∷ []) || bytes_eq name (0x2e ∷ 0x2e ∷ []))

-- the type of a file, in the upper four bits of its mode: 1 fifo, 2 character device, 4 directory, 6 block device, 8 regular,
-- 10 symbolic link, 12 socket
abbrev pub type_of : FileRec → ℕ
type_of f = f.core.mode / 2 ^ 12

abbrev pub is_directory : FileRec → Bool
is_directory f = type_of f == 4

-- the number that an entry states for a type: 1 regular, 2 directory, 3 character device, 4 block device, 5 fifo, 6 socket,
-- 7 symbolic link; 0 is not known
unfoldable pub entry_type : ℕ → ℕ
entry_type kind =
    if kind == 8 then 1 else (if kind == 4 then 2 else (if kind == 2 then 3 else (if kind == 6 then 4
    else (if kind == 1 then 5 else (if kind == 12 then 6 else (if kind == 10 then 7 else 0))))))
