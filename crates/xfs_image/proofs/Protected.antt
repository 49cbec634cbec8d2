-- No block is claimed by two protected files.
use Rattle.std.proofs.Common.{◌≡◌, ◌≢◌, ℕ, Bool, true, false, not, ◌==◌, ◌&&◌, ◌||◌, List, [], ◌∷◌, refl, sym, ap, ◌∙◌, subst}
use Rattle.std.specs.List.{flat_map, list_any}
use Rattle.std.proofs.lemmas.Bool.{and_from, eqb-true}
use Rattle.std.proofs.lemmas.List.Folds.{list_any-append}
use Rattle.xfs_disk.specs.Blocks.{Image}
use Rattle.xfs_geom.specs.Volumes.{Volume}
use Rattle.xfs_inode.specs.declared.files.FileRead.{FileRead}
use Rattle.xfs_inode.specs.declared.files.FileRead.TheVariants as Reads
use Rattle.xfs_inode.specs.Sound.{IsSound}
use Rattle.xfs_inode.proofs.Sound.{always_sound}
use Rattle.xfs_volume.specs.declared.files.FileRec.{FileRec}
use Rattle.xfs_image.specs.Claims.{AreDisjointSets, candidate_files, candidate_inodes, claims, file_if, is_candidate_inode, is_claimed_beside}
use Rattle.xfs_image.specs.Keeping.{Protected}
use Rattle.xfs_image.specs.Slots.{reads_as, slot_bytes}

or_left : (a b : Bool) → a ≡ true → (a || b) ≡ true
or_left a b e = rw e refl

or_right : (a b : Bool) → b ≡ true → (a || b) ≡ true
or_right true b e = refl
or_right false b e = e

-- a file that reads at one of some inodes is one of their files
found_among : (v : Volume) (image : Image) (ino : ℕ) (file : FileRec) (test : FileRec → Bool) → reads_as v image ino ≡ Reads.File file → test file ≡ true
    → (inos : List ℕ) → list_any (λ other. other == ino) inos ≡ true
    → list_any test (flat_map (λ other. file_if (reads_as v image other)) inos) ≡ true
found_among v image ino file test reads passes [] among = absurd cc
found_among v image ino file test reads passes (i ∷ inos) among =
    list_any-append test (file_if (reads_as v image i)) (flat_map (λ other. file_if (reads_as v image other)) inos)
    ∙ by_case (i == ino) refl among (λ rest. found_among v image ino file test reads passes inos rest)
  where
    by_case : (b : Bool) → (i == ino) ≡ b → (b || list_any (λ other. other == ino) inos) ≡ true
        → (list_any (λ other. other == ino) inos ≡ true → list_any test (flat_map (λ other. file_if (reads_as v image other)) inos) ≡ true)
        → (list_any test (file_if (reads_as v image i)) || list_any test (flat_map (λ other. file_if (reads_as v image other)) inos)) ≡ true
    by_case true e h rest =
        let here : reads_as v image i ≡ Reads.File file = ap (reads_as v image) (eqb-true i ino e) ∙ reads in
        let own : list_any test (file_if (reads_as v image i)) ≡ true = ap (λ (read : FileRead). list_any test (file_if read)) here ∙ or_left (test file) false passes in
        or_left (list_any test (file_if (reads_as v image i))) _ own
    by_case false e h rest = or_right (list_any test (file_if (reads_as v image i))) _ (rest h)

is_candidate_file : (v : Volume) (image : Image) (ino : ℕ) (file : FileRec) (test : FileRec → Bool) → reads_as v image ino ≡ Reads.File file → test file ≡ true
    → is_candidate_inode v image ino ≡ true → list_any test (candidate_files v image) ≡ true
unfolding candidate_files
is_candidate_file v image ino file test reads passes among = found_among v image ino file test reads passes (candidate_inodes v image) among

-- a file that reads at an inode has its number
file_number : (v : Volume) (image : Image) (ino : ℕ) (file : FileRec) → reads_as v image ino ≡ Reads.File file → file.ino ≡ ino
unfolding reads_as
file_number v image ino file reads =
    let sound : IsSound v ino (Reads.File file) = subst (IsSound v ino) reads (always_sound v ino (slot_bytes v image ino) _ _ _) in
    sound.keeps.number

is_other : (n a : ℕ) → n ≢ a → not (n == a) ≡ true
is_other n a other = by_case (n == a) refl
  where
    by_case : (b : Bool) → (n == a) ≡ b → not b ≡ true
    by_case true e = absurd (other (eqb-true n a e))
    by_case false e = refl

both_ways : (b : Bool) → b ≡ true → b ≡ false → ⊥
both_ways b is other = cc

pub protected_apart : (v : Volume) (image : Image) (a b : ℕ) (first : Protected v image a) (second : Protected v image b) → a ≢ b
    → AreDisjointSets (claims v first.file) (claims v second.file)
protected_apart v image a b first second differ block claimed = by_case (claims v second.file block) refl
  where
    by_case : (c : Bool) → claims v second.file block ≡ c → c ≡ false
    by_case false e = refl
    by_case true e =
        let number : second.file.ino ≡ b = file_number v image b second.file second.reads in
        let other : second.file.ino ≢ a = λ same. differ (sym same ∙ number) in
        let test : FileRec → Bool = λ f. not (f.ino == a) && claims v f block in
        let passes : test second.file ≡ true = and_from (not (second.file.ino == a)) (claims v second.file block) (is_other second.file.ino a other) e in
        let beside : is_claimed_beside v image a block ≡ true = is_candidate_file v image b second.file test second.reads passes second.candidate in
        absurd (both_ways (is_claimed_beside v image a block) beside (first.alone block claimed))
