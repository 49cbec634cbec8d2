-- Objects of a sector, and those of a whole block.
use Rattle.std.proofs.Common.{◌≡◌, ℕ, ◌*◌, ◌==◌, Bool, true, false, if◌then◌else◌, List, take, drop, ap}
use Rattle.xfs_commands.specs.Commands.{patched, with_object}
use Rattle.xfs_objects.specs.Objects.{object_in, object_size}
use Rattle.xfs_objects.specs.declared.objects.ObjectType.{ObjectType}

pub sector_object : (kind : ObjectType) (sector : ℕ) (object block : List ℕ) → (object_size kind == 512) ≡ true
    → with_object kind sector object block ≡ patched block (512 * sector) object
unfolding with_object
sector_object kind sector object block is = ap (λ (t : Bool). if t then patched block (512 * sector) object else object) is

pub whole_object : (kind : ObjectType) (sector : ℕ) (object block : List ℕ) → (object_size kind == 512) ≡ false → with_object kind sector object block ≡ object
unfolding with_object
whole_object kind sector object block is = ap (λ (t : Bool). if t then patched block (512 * sector) object else object) is

pub whole_in : (kind : ObjectType) (sector : ℕ) (block : List ℕ) → (object_size kind == 512) ≡ false → object_in kind sector block ≡ block
whole_in kind sector block is = ap (λ (t : Bool). if t then take 512 (drop (512 * sector) block) else block) is
