-- Directories that are built of the same names are alike in all that is used of them.
use Rattle.std.proofs.Common.{◌≡◌, ℕ, Bool, true, false, cond, not, ◌+◌, ◌-◌, ◌*◌, ◌/◌, ◌<◌, ◌≤◌, ◌==◌, ◌⊎◌, inl, inr, if◌then◌else◌, List, [], ◌∷◌, ◌++◌, map, take, drop, length, get_or, refl, sym, ap, ap₂, ◌∙◌, subst, arith}
use Rattle.std.specs.List.{All, AllByRecursion, filter, flat_map}
use Rattle.std.proofs.lemmas.Bool.{cases_lt, eqb-true, false≢true}
use Rattle.std.proofs.lemmas.List.{length-append}
use Rattle.std.proofs.lemmas.List.Elements.{All-append, All-from_get_or, All-head, All-nil, All-tail}
use Rattle.std.proofs.lemmas.List.Sums.{sum_by-append, sum_by-cons}
use Rattle.xfs_dirbuild.specs.Index.{IsIndexed}
use Rattle.xfs_dirbuild.specs.Placed.{HaveMagics}
use Rattle.xfs_dirbuild.specs.declared.forms.DirectoryForm.{DirectoryForm}
use Rattle.xfs_dirbuild.specs.declared.forms.DirectoryForm.TheVariants.{Short, Single, Leaf, Node}
use Rattle.xfs_dirbuild.specs.declared.image.DirImage.{DirImage}
use Rattle.xfs_dirdata.specs.declared.records.EntryRec.{EntryRec}
use Rattle.xfs_geom.specs.Volumes.{Volume}
use Rattle.xfs_geom.specs.declared.records.Run.{Run}
use Rattle.xfs_kinds.specs.OffsetWords.{is_unwritten}
use Rattle.xfs_names.specs.Built.{IsBuiltAsWanted, IsImageIn, fork_room}
use Rattle.xfs_names.specs.Pairs.{parent_or_itself}
use Rattle.xfs_names.specs.declared.building.BuiltDirectory.{BuiltDirectory}
use Rattle.xfs_names.specs.declared.building.ForkRoom.{ForkRoom}
use Rattle.xfs_names.specs.declared.records.WantedNames.{WantedNames}
use Rattle.xfs_dirbuild.specs.Forms.{form_of}
use Rattle.xfs_naming.specs.Naming.{entries_in}
use Rattle.xfs_place.specs.Objects.{asks_of}
use Rattle.xfs_place.specs.declared.wanted.ObjectKind.TheVariants.{Directory}
use Rattle.xfs_changes.specs.Forks.{attribute_blocks_at, forks_of, run_bytes, runs_in}
use Rattle.xfs_built.specs.Asks.{asked_run, asks_for, blocks_of_built, object_of, objects_of, stands_in_blocks}
use Rattle.xfs_render.specs.Objects.{written_blocks, written_in}
use Rattle.xfs_built.specs.Directories.{HasOwnCounts}
use Rattle.xfs_volume.specs.declared.files.FileRec.{FileRec}
use Rattle.xfs_word.specs.Field.{field_of}
use Rattle.xfs_word.specs.Seal.{has_magic}
use Rattle.xfs_word.specs.declared.kinds.SealKind.TheVariants as Sealed
use Rattle.xfs_settled.specs.Sectors.{CanBeSealed}

-- two directories have the same number, the same short form, as many blocks of each kind, and the same blocks
pub record IsAlike (b c : BuiltDirectory) : Type 0 where
  pub number : b.ino ≡ c.ino
  pub short' : b.image.short.items ≡ c.image.short.items
  pub datas : b.image.data_blocks ≡ c.image.data_blocks
  pub indexes : b.image.index_blocks ≡ c.image.index_blocks
  pub frees : b.image.free_blocks ≡ c.image.free_blocks
  pub blocks' : b.image.blocks ≡ c.image.blocks

short_or : (form : DirectoryForm) → (form ≡ Short) ⊎ (form ≡ Short → ⊥)
short_or Short = inl refl
short_or Single = inr (λ is. absurd cc)
short_or Leaf = inr (λ is. absurd cc)
short_or Node = inr (λ is. absurd cc)

abbrev IsFor : WantedNames → List ForkRoom → ℕ → DirImage → Type 0
IsFor w rooms d image = IsImageIn (form_of (entries_in w.entries d) (fork_room rooms d)) (entries_in w.entries d) d (parent_or_itself w.parents d) image

short_alike : (form : DirectoryForm) (es : List EntryRec) (d parent : ℕ) (x y : DirImage) → IsImageIn form es d parent x → IsImageIn form es d parent y → x.short.items ≡ y.short.items
short_alike form es d parent x y a b = elim (short_or form) [
  | inl is ↦ a.short_bytes_are is ∙ sym (b.short_bytes_are is)
  | inr other ↦ a.short_none other ∙ sym (b.short_none other)
]

one_alike : (w : WantedNames) (rooms : List ForkRoom) (b c : BuiltDirectory) → b.ino ≡ c.ino → IsBuiltAsWanted w rooms b → IsBuiltAsWanted w rooms c → IsAlike b c
one_alike w rooms b c same ib ic =
    let other : IsFor w rooms b.ino c.image = subst (λ (d : ℕ). IsFor w rooms d c.image) (sym same) ic in
    record {
      number = same;
      short' =
          short_alike (form_of (entries_in w.entries b.ino) (fork_room rooms b.ino)) (entries_in w.entries b.ino) b.ino (parent_or_itself w.parents b.ino) b.image c.image ib other;
      datas = ib.data_count ∙ sym other.data_count;
      indexes = ib.index_count ∙ sym other.index_count;
      frees = ib.free_count ∙ sym other.free_count;
      blocks' = ib.blocks_are ∙ sym other.blocks_are;
    }

abbrev pub AreAlike : List BuiltDirectory → List BuiltDirectory → Type 0
AreAlike [] [] = Unit {0}
AreAlike [] (c ∷ cs) = ⊥
AreAlike (b ∷ bs) [] = ⊥
AreAlike (b ∷ bs) (c ∷ cs) = IsAlike b c × AreAlike bs cs

abbrev pub numbers_built : List BuiltDirectory → List ℕ
numbers_built built = map (λ (b : BuiltDirectory). b.ino) built

pub built_alike : (w : WantedNames) (rooms : List ForkRoom) (bs cs : List BuiltDirectory) → numbers_built bs ≡ numbers_built cs → All (IsBuiltAsWanted w rooms) bs
    → All (IsBuiltAsWanted w rooms) cs → AreAlike bs cs
built_alike w rooms [] [] same ib ic = tt
built_alike w rooms [] (c ∷ cs) same ib ic = absurd cc
built_alike w rooms (b ∷ bs) [] same ib ic = absurd cc
built_alike w rooms (b ∷ bs) (c ∷ cs) same ib ic = (
  one_alike w rooms b c (ap (λ (xs : List ℕ). get_or xs 0 0) same) (All-head (IsBuiltAsWanted w rooms) b bs ib) (All-head (IsBuiltAsWanted w rooms) c cs ic),
  built_alike w rooms bs cs (ap (λ (xs : List ℕ). drop 1 xs) same) (All-tail (IsBuiltAsWanted w rooms) b bs ib) (All-tail (IsBuiltAsWanted w rooms) c cs ic),
)

-- they ask for the same runs
object_alike : (rooms : List ForkRoom) (b c : BuiltDirectory) → IsAlike b c → object_of rooms b ≡ object_of rooms c
object_alike rooms b c is =
    let n = is.number in
    let asks : asks_for b.ino b.image ≡ asks_for c.ino c.image =
    (λ i. asked_run (n i) 0 (is.datas i) ++ asked_run (n i) 0x800000 (is.indexes i) ++ asked_run (n i) 0x1000000 (is.frees i)) in
    λ i. record { ino = n i; kind = Directory; runs = asks i; most = fork_room rooms (n i) / 16 }

stands_alike : (b c : BuiltDirectory) → IsAlike b c → stands_in_blocks b ≡ stands_in_blocks c
stands_alike b c is = ap (λ (n : ℕ). not (n == 0)) is.datas

pub objects_alike : (rooms : List ForkRoom) (bs cs : List BuiltDirectory) → AreAlike bs cs → objects_of rooms bs ≡ objects_of rooms cs
objects_alike rooms [] [] same = refl
objects_alike rooms [] (c ∷ cs) same = absurd same
objects_alike rooms (b ∷ bs) [] same = absurd same
objects_alike rooms (b ∷ bs) (c ∷ cs) same =
    by_case (stands_in_blocks b) (stands_in_blocks c) (stands_alike b c same.0) (object_alike rooms b c same.0) (objects_alike rooms bs cs same.1)
  where
    by_case : (s t : Bool) → s ≡ t → object_of rooms b ≡ object_of rooms c → objects_of rooms bs ≡ objects_of rooms cs
        → map (object_of rooms) (cond s (b ∷ filter stands_in_blocks bs) (filter stands_in_blocks bs)) ≡ map (object_of rooms) (cond t (c ∷ filter stands_in_blocks cs) (filter stands_in_blocks cs))
    by_case true true e first rest = ap₂ ◌∷◌ first rest
    by_case false false e first rest = rest
    by_case true false e first rest = absurd (false≢true (sym e))
    by_case false true e first rest = absurd (false≢true e)

-- their blocks are the same
pub blocks_alike : (bs cs : List BuiltDirectory) → AreAlike bs cs → blocks_of_built bs ≡ blocks_of_built cs
blocks_alike [] [] same = refl
blocks_alike [] (c ∷ cs) same = absurd same
blocks_alike (b ∷ bs) [] same = absurd same
blocks_alike (b ∷ bs) (c ∷ cs) same = ap₂ ◌++◌ same.0.blocks' (blocks_alike bs cs same.1)

-- and so are their forks, where they have the same runs
pub forks_alike : (v : Volume) (files : List FileRec) (bs cs : List BuiltDirectory) → AreAlike bs cs → (cuts : List ℕ) (runs : List Run)
    → forks_of v files bs cuts runs ≡ forks_of v files cs cuts runs
unfolding forks_of
forks_alike v files [] [] same cuts runs = refl
forks_alike v files [] (c ∷ cs) same cuts runs = absurd same
forks_alike v files (b ∷ bs) [] same cuts runs = absurd same
forks_alike v files (b ∷ bs) (c ∷ cs) same cuts runs =
    let n = same.0.number in
    let d = same.0.datas in
    let x = same.0.indexes in
    let f = same.0.frees in
    let bytes = same.0.short' in
    let rest : (ks : List ℕ) (rs : List Run) → forks_of v files bs ks rs ≡ forks_of v files cs ks rs = forks_alike v files bs cs same.1 in
    let asks : asks_for b.ino b.image ≡ asks_for c.ino c.image = (λ i. asked_run (n i) 0 (d i) ++ asked_run (n i) 0x800000 (x i) ++ asked_run (n i) 0x1000000 (f i)) in
    λ i. if not (d i == 0)
    then record {
      ino = n i;
      fork = record {
        format = 2;
        size = 4096 * d i;
        nblocks = d i + x i + f i + attribute_blocks_at files (n i);
        nextents = length (take (runs_in (take (length (asks i)) cuts)) runs);
        bytes = flat_map (run_bytes v) (take (runs_in (take (length (asks i)) cuts)) runs);
      };
    } ∷ rest (drop (length (asks i)) cuts) (drop (runs_in (take (length (asks i)) cuts)) runs) i
    else record {
      ino = n i;
      fork = record { format = 1; size = length (bytes i); nblocks = attribute_blocks_at files (n i); nextents = 0; bytes = bytes i };
    } ∷ rest cuts runs i

-- as many blocks were built as are written
run_written : (ino offset blocks : ℕ) → is_unwritten offset ≡ false → written_blocks (asked_run ino offset blocks) ≡ blocks
run_written ino offset blocks plain = by_case (blocks == 0) refl
  where
    by_case : (t : Bool) → (blocks == 0) ≡ t → written_blocks (if t then [] else (record { blocks = blocks; owner = ino; offset_word = offset } ∷ [])) ≡ blocks
    by_case true none = let is = eqb-true blocks 0 none in let nil : written_blocks [] ≡ 0 = refl in omega (arith, is, nil)
    by_case false some =
        let one = sum_by-cons written_in (record { blocks = blocks; owner = ino; offset_word = offset }) [] in
        let all : written_in (record { blocks = blocks; owner = ino; offset_word = offset }) ≡ blocks = ap (λ (t : Bool). if t then 0 else blocks) plain in
        let nil : written_blocks [] ≡ 0 = refl in
        omega (arith, one, all, nil)

image_written : (ino : ℕ) (image : DirImage) → written_blocks (asks_for ino image) ≡ image.data_blocks + image.index_blocks + image.free_blocks
image_written ino image =
    let first = sum_by-append written_in (asked_run ino 0 image.data_blocks ++ asked_run ino 0x800000 image.index_blocks) (asked_run ino 0x1000000 image.free_blocks) in
    let second = sum_by-append written_in (asked_run ino 0 image.data_blocks) (asked_run ino 0x800000 image.index_blocks) in
    let a = run_written ino 0 image.data_blocks refl in
    let b = run_written ino 0x800000 image.index_blocks refl in
    let c = run_written ino 0x1000000 image.free_blocks refl in
    omega (arith, first, second, a, b, c)

pub blocks_counted : (rooms : List ForkRoom) (built : List BuiltDirectory) → AllByRecursion HasOwnCounts built → length (blocks_of_built built) ≡ written_blocks (asks_of (objects_of rooms built))
blocks_counted rooms [] all = refl
blocks_counted rooms (b ∷ bs) all = by_case (b.image.data_blocks == 0) refl (blocks_counted rooms bs all.1)
  where
    by_case : (t : Bool) → (b.image.data_blocks == 0) ≡ t → length (blocks_of_built bs) ≡ written_blocks (asks_of (objects_of rooms bs))
        → length (b.image.blocks ++ blocks_of_built bs) ≡ written_blocks (asks_of (map (object_of rooms) (cond (not t) (b ∷ filter stands_in_blocks bs) (filter stands_in_blocks bs))))
    by_case true none rest =
        let empty : b.image.blocks ≡ [] = all.0.none (eqb-true b.image.data_blocks 0 none) in
        ap (λ (xs : List (List ℕ)). length (xs ++ blocks_of_built bs)) empty ∙ rest
    by_case false some rest =
        let sums = length-append b.image.blocks (blocks_of_built bs) in
        let long = all.0.count in
        let own = image_written b.ino b.image in
        let both = sum_by-append written_in (asks_for b.ino b.image) (asks_of (objects_of rooms bs)) in
        omega (arith, sums, long, own, both, rest)

-- a block with the magic number of a kind of blocks of directories has that of what it is sealed as
sealed_block : (block : List ℕ) → (has_magic Sealed.DirData block ≡ true) ⊎ ((has_magic Sealed.DirFree block ≡ true) ⊎ IsIndexed block) → CanBeSealed Directory block
sealed_block block is = by_case (has_magic Sealed.DirData block) (has_magic Sealed.DirFree block) refl refl is
  where
    by_case : (d f : Bool) → has_magic Sealed.DirData block ≡ d → has_magic Sealed.DirFree block ≡ f
        → (has_magic Sealed.DirData block ≡ true) ⊎ ((has_magic Sealed.DirFree block ≡ true) ⊎ IsIndexed block)
        → has_magic (if d then Sealed.DirData else if f then Sealed.DirFree else Sealed.Index (field_of block 8 2)) block ≡ true
    by_case true f ed ef either = ed
    by_case false true ed ef either = ef
    by_case false false ed ef (inl entries) = absurd (false≢true (sym ed ∙ entries))
    by_case false false ed ef (inr (inl free)) = absurd (false≢true (sym ef ∙ free))
    by_case false false ed ef (inr (inr index)) = index

module _ (image : DirImage) (count : length image.blocks ≡ image.data_blocks + image.index_blocks + image.free_blocks)
    (magics : HaveMagics image.data_blocks image.index_blocks image.free_blocks image.blocks) where
  behind_data : (j : ℕ) → image.data_blocks ≤ j → j < length image.blocks → CanBeSealed Directory (get_or image.blocks j [])
  behind_data j high low = elim (cases_lt j (image.data_blocks + image.index_blocks)) [
    | inl index ↦
        let at : image.data_blocks + (j - image.data_blocks) ≡ j = omega (arith, high) in
        let is = magics.index_blocks (j - image.data_blocks) (omega (arith, high, index)) in
        sealed_block (get_or image.blocks j []) (inr (inr (subst (λ (m : ℕ). IsIndexed (get_or image.blocks m [])) at is)))
    | inr free ↦
        let at : image.data_blocks + image.index_blocks + (j - (image.data_blocks + image.index_blocks)) ≡ j = omega (arith, free) in
        let is = magics.free_blocks (j - (image.data_blocks + image.index_blocks)) (omega (arith, free, low, count)) in
        sealed_block (get_or image.blocks j []) (inr (inl (subst (λ (m : ℕ). has_magic Sealed.DirFree (get_or image.blocks m []) ≡ true) at is)))
  ]

  image_sealed : All (CanBeSealed Directory) image.blocks
  image_sealed = All-from_get_or (CanBeSealed Directory) image.blocks [] (λ j low. elim (cases_lt j image.data_blocks) [
    | inl entries ↦ sealed_block (get_or image.blocks j []) (inl (magics.data_blocks j entries))
    | inr behind ↦ behind_data j behind low
  ])

pub built_sealed : (w : WantedNames) (rooms : List ForkRoom) (built : List BuiltDirectory) → All (IsBuiltAsWanted w rooms) built → All (CanBeSealed Directory) (blocks_of_built built)
built_sealed w rooms [] all = All-nil (CanBeSealed Directory)
built_sealed w rooms (b ∷ bs) all =
    let is : IsBuiltAsWanted w rooms b = All-head (IsBuiltAsWanted w rooms) b bs all in
    All-append (CanBeSealed Directory) b.image.blocks (blocks_of_built bs) (image_sealed b.image is.count is.magics)
    (built_sealed w rooms bs (All-tail (IsBuiltAsWanted w rooms) b bs all))
