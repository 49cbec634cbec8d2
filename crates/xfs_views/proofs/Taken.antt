-- What takes protection away.
use Rattle.std.proofs.Common.{◌≡◌, ℕ, Bool, true, false, ◌==◌, ◌||◌, ◌+◌, if◌then◌else◌, [], ◌∷◌, refl, sym, ◌∙◌, ap, subst}
use Rattle.std.proofs.lemmas.Bool.{both_ways, ne_eqb}
use Rattle.xfs_disk.specs.Blocks.{Image}
use Rattle.xfs_geom.specs.Volumes.{Volume}
use Rattle.xfs_inode.specs.declared.files.FileRead.TheVariants as Reads
use Rattle.xfs_volume.specs.Names.{is_directory}
use Rattle.xfs_volume.specs.declared.files.FileRec.{FileRec}
use Rattle.xfs_laws.specs.xfs_naming.Naming.{is_empty_regular}
use Rattle.xfs_image.specs.Claims.{AreDisjointSets, claims}
use Rattle.xfs_image.specs.Directories.{directories}
use Rattle.xfs_image.specs.Keeping.{Protected}
use Rattle.xfs_image.specs.Slots.{reads_as}
use Rattle.xfs_views.proofs.Files.{file_sound}
use Rattle.xfs_views.specs.Standing.{stands}

one_file : (a b : FileRec) → Reads.File a ≡ Reads.File b → a ≡ b
one_file a b e = cc

-- where a file claims one of some blocks, all that it claims is not apart from them
pub claimed : (v : Volume) (image : Image) (ino block : ℕ) (file : FileRec) (set : ℕ → Bool) → reads_as v image ino ≡ Reads.File file → claims v file block ≡ true → set block ≡ true
    → (is : Protected v image ino) → AreDisjointSets (claims v is.file) set → ⊥
claimed v image ino block file set reads claims_it in_set is apart =
    let same : file ≡ is.file = one_file file is.file (sym reads ∙ is.reads) in
    both_ways (set block) (apart block (subst (λ (f : FileRec). claims v f block ≡ true) same claims_it)) in_set

pub met : (xs ys : ℕ → Bool) (block : ℕ) → xs block ≡ true → ys block ≡ true → AreDisjointSets xs ys → ⊥
met xs ys block one other apart = both_ways (ys block) (apart block one) other

pub directory : (v : Volume) (image : Image) (ino : ℕ) (file : FileRec) → reads_as v image ino ≡ Reads.File file → is_directory file ≡ true → Protected v image ino → ⊥
directory v image ino file reads is_one is =
    let same : file ≡ is.file = one_file file is.file (sym reads ∙ is.reads) in
    both_ways (is_directory file) (ap is_directory same ∙ is.no_directory) is_one

pub none_of_directories : (file : FileRec) → is_directory file ≡ false → directories (file ∷ []) ≡ []
unfolding directories
none_of_directories file none = rw none refl

pub protected_stands : (v : Volume) (image : Image) (ino : ℕ) (is : Protected v image ino) → stands v.rootino is.file ≡ true
protected_stands v image ino is =
    let number : is.file.ino ≡ ino = (file_sound v image ino is.file is.reads).keeps.number in
    let a : (is.file.ino == v.rootino) ≡ false = ne_eqb is.file.ino v.rootino (λ e. is.no_root (sym number ∙ e)) in
    let b : (is.file.ino == v.rootino + 1) ≡ false = ne_eqb is.file.ino (v.rootino + 1) (λ e. is.no_bitmap (sym number ∙ e)) in
    let c : (is.file.ino == v.rootino + 2) ≡ false = ne_eqb is.file.ino (v.rootino + 2) (λ e. is.no_summary (sym number ∙ e)) in
    by_tests is.file (is.file.ino == v.rootino) (is.file.ino == v.rootino + 1) (is.file.ino == v.rootino + 2) a b c
  where
    by_tests : (f : FileRec) (a b c : Bool) → a ≡ false → b ≡ false → c ≡ false → (if a then is_directory f else (if b || c then is_empty_regular f else true)) ≡ true
    by_tests f false false false a b c = refl
    by_tests f false false true a b c = absurd cc
    by_tests f false true t a b c = absurd cc
    by_tests f true s t a b c = absurd cc
