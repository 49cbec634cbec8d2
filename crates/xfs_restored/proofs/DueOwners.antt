-- What the due files own, and their numbers.
use Rattle.std.proofs.Common.{◌≡◌, ℕ, Bool, true, false, cond, inl, inr, ◌||◌, ◌==◌, nat_lt, List, [], ◌∷◌, ◌++◌, map, refl, ap, ap₂, ◌∙◌}
use Rattle.std.specs.List.{flat_map}
use Rattle.xfs_disk.specs.Lists.{is_among}
use Rattle.xfs_disk.specs.declared.stamp.Stamp.{Stamp}
use Rattle.xfs_geom.specs.Volumes.{Volume}
use Rattle.xfs_claims.specs.Ranks.{placed_by_number}
use Rattle.xfs_laws.specs.Counting.{is_used}
use Rattle.xfs_naming.specs.Naming.{is_in_use}
use Rattle.xfs_space.specs.Owners.{file_runs}
use Rattle.xfs_volume.specs.declared.files.FileRec.{FileRec}
use Rattle.xfs_views.proofs.Members.{Member}
use Rattle.xfs_salvage.specs.declared.found.Salvaged.{Salvaged}
use Rattle.xfs_rename.specs.xfs_request.Chunks.{is_inode_used}
use Rattle.xfs_rename.specs.xfs_request.declared.seen.SlotSeen.{SlotSeen}
use Rattle.xfs_restored.specs.DueFiles.{due_file, fresh_file, rebuilt_files, with_new}

abbrev number : FileRec → ℕ
number f = f.ino

-- a file that has nothing adds nothing, wherever it is put
pub placed_nothing : {X : Type 0} (f : FileRec → List X) (x : FileRec) (fs : List FileRec) → f x ≡ [] → flat_map f (placed_by_number number x fs) ≡ flat_map f fs
placed_nothing {X} f x [] none = ap (λ (xs : List X). xs ++ []) none
placed_nothing {X} f x (y ∷ fs) none = by_case (nat_lt y.ino x.ino) (placed_nothing f x fs none)
  where
    by_case : (t : Bool) → flat_map f (placed_by_number number x fs) ≡ flat_map f fs → flat_map f (cond t (y ∷ placed_by_number number x fs) (x ∷ y ∷ fs)) ≡ flat_map f (y ∷ fs)
    by_case true rest = ap (λ (xs : List X). f y ++ xs) rest
    by_case false rest = ap (λ (xs : List X). xs ++ flat_map f (y ∷ fs)) none

pub new_nothing : {X Y : Type 0} (f : FileRec → List X) (made : Y → FileRec) (ys : List Y) (fs : List FileRec) → ((y : Y) → Member y ys → f (made y) ≡ [])
    → flat_map f (with_new (map made ys) fs) ≡ flat_map f fs
new_nothing f made [] fs none = refl
new_nothing f made (y ∷ ys) fs none = new_nothing f made ys (placed_by_number number (made y) fs) (λ z is. none z (inr is)) ∙ placed_nothing f (made y) fs (none y (inl refl))

pub mapped_same : {X Y Z : Type 0} (f : Z → List X) (k : Y → List X) (h : Y → Z) (ys : List Y) → ((y : Y) → Member y ys → f (h y) ≡ k y) → flat_map f (map h ys) ≡ flat_map k ys
mapped_same f k h [] same = refl
mapped_same {X} f k h (y ∷ ys) same = ap₂ (λ (front rest : List X). front ++ rest) (same y (inl refl)) (mapped_same f k h ys (λ z is. same z (inr is)))

pub due_runs : (v : Volume) (s : Stamp) (kept : Salvaged) (seen : List SlotSeen) (crc : ℕ → ℕ) → flat_map (file_runs v) (rebuilt_files v s kept seen crc) ≡ flat_map (file_runs v) kept.files
unfolding rebuilt_files
due_runs v s kept seen crc =
    new_nothing (file_runs v) (fresh_file v s crc) kept.fresh (map (due_file v.rootino kept seen crc) kept.files) (λ ino is. refl)
    ∙ mapped_same (file_runs v) (file_runs v) (due_file v.rootino kept seen crc) kept.files (λ f is. refl)

-- the numbers
swapped : (a b c : Bool) → (a || (b || c)) ≡ (b || (a || c))
swapped true true c = refl
swapped true false c = refl
swapped false b c = refl

either_way : (a b c : Bool) → ((a || b) || c) ≡ (b || (a || c))
either_way true true c = refl
either_way true false c = refl
either_way false b c = refl

placed_used : (ino : ℕ) (x : FileRec) (fs : List FileRec) → is_used (placed_by_number number x fs) ino ≡ ((x.ino == ino) || is_used fs ino)
placed_used ino x [] = refl
placed_used ino x (y ∷ fs) = by_case (nat_lt y.ino x.ino) (placed_used ino x fs)
  where
    by_case : (t : Bool) → is_used (placed_by_number number x fs) ino ≡ ((x.ino == ino) || is_used fs ino)
        → is_used (cond t (y ∷ placed_by_number number x fs) (x ∷ y ∷ fs)) ino ≡ ((x.ino == ino) || ((y.ino == ino) || is_used fs ino))
    by_case true rest = ap (λ (t : Bool). (y.ino == ino) || t) rest ∙ swapped (y.ino == ino) (x.ino == ino) (is_used fs ino)
    by_case false rest = refl

new_used : (v : Volume) (s : Stamp) (crc : ℕ → ℕ) (ino : ℕ) (ns : List ℕ) (fs : List FileRec) → is_used (with_new (map (fresh_file v s crc) ns) fs) ino ≡ (is_used fs ino || is_among ns ino)
new_used v s crc ino [] fs = none (is_used fs ino)
  where
    none : (t : Bool) → t ≡ (t || false)
    none true = refl
    none false = refl
new_used v s crc ino (n ∷ ns) fs =
    new_used v s crc ino ns (placed_by_number number (fresh_file v s crc n) fs)
    ∙ (ap (λ (t : Bool). t || is_among ns ino) (placed_used ino (fresh_file v s crc n) fs) ∙ either_way (n == ino) (is_used fs ino) (is_among ns ino))

old_used : (root : ℕ) (kept : Salvaged) (seen : List SlotSeen) (crc : ℕ → ℕ) (ino : ℕ) (fs : List FileRec) → is_used (map (due_file root kept seen crc) fs) ino ≡ is_in_use fs ino
old_used root kept seen crc ino [] = refl
old_used root kept seen crc ino (f ∷ fs) = ap (λ (t : Bool). (f.ino == ino) || t) (old_used root kept seen crc ino fs)

pub due_used : (v : Volume) (s : Stamp) (kept : Salvaged) (seen : List SlotSeen) (crc : ℕ → ℕ) (ino : ℕ) → is_used (rebuilt_files v s kept seen crc) ino ≡ is_inode_used kept ino
unfolding rebuilt_files
due_used v s kept seen crc ino =
    new_used v s crc ino kept.fresh (map (due_file v.rootino kept seen crc) kept.files)
    ∙ ap (λ (t : Bool). t || is_among kept.fresh ino) (old_used v.rootino kept seen crc ino kept.files)
