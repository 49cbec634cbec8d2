-- Where block 0 states a root, and whether that is a block of the disk.
use Rattle.std.proofs.Common.{◌≡◌, ℕ, ◌≤◌, ◌<◌, ◌⊎◌, inr, Option, Result, Ok, Err, IfOk, OnErr, ◌∙◌, arith}
use Rattle.std.specs.Option.{ForSome}
use Rattle.xfs_disk.specs.Blocks.{Image}
use Rattle.xfs_disk.specs.Faults.{Rose}
use Rattle.xfs_disk.specs.declared.failed.Failed.{Failed}
use Rattle.xfs_mkfs.specs.Roots.{inode_root}
use Rattle.xfs_tools.specs.Damaging.{IsWithin}

pub rose_later : (a b c : ℕ) → a ≤ b → Rose b c → Rose a c
rose_later a b c up (le, rose) = (omega (arith, up, le), omega (arith, up, le, rose))

below : (place root blocks size : ℕ) → place ≡ root → root < blocks → blocks ≡ size → place < size
below place root blocks size is low same = omega (arith, is, low, same)

above : (root named blocks size : ℕ) → root ≡ named → blocks ≤ root → blocks ≡ size → size ≤ named
above root named blocks size is high same = omega (arith, is, high, same)

pub inside_root : (root blocks size : ℕ) (r : Result ℕ Failed) → blocks ≡ size → IsWithin root blocks r → IfOk r (λ place. place < size)
inside_root root blocks size (Ok place) same (is, low) = below place root blocks size is low same
inside_root root blocks size (Err failed) same is = tt

pub root_within : (root blocks : ℕ) (h : Option Image) (r : Result ℕ Failed) → IsWithin root blocks r → ForSome h (λ image. root ≡ inode_root image)
    → IfOk r (λ place. ForSome h (λ image. place ≡ inode_root image))
root_within root blocks h (Ok place) (is, low) stated = λ image told. is ∙ stated image told
root_within root blocks h (Err failed) is stated = tt

pub outside_root : (root blocks size before now : ℕ) (h : Option Image) (r : Result ℕ Failed) → blocks ≡ size → IsWithin root blocks r
    → ForSome h (λ image. root ≡ inode_root image) → OnErr r (Rose before now ⊎ ForSome h (λ image. size ≤ inode_root image))
outside_root root blocks size before now h (Ok place) same is stated = tt
outside_root root blocks size before now h (Err failed) same high stated = inr (λ image told. above root (inode_root image) blocks size (stated image told) high same)
