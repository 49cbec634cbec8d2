-- The blocks that a directory is built of are whole, and read as its entries and its parent.
use Rattle.std.proofs.Common.{◌≡◌, ℕ, suc, Bool, true, false, not, ◌<◌, ◌==◌, ◌&&◌, ◌||◌, nat_lt, if◌then◌else◌, List, [], ◌∷◌, ◌++◌, length, map, get_or, Option, Some, None, is_some, unwrap_or, refl, sym, ap, ap₂, ◌∙◌, arith}
use Rattle.std.specs.List.{AllByRecursion, filter, find, flat_map, list_all, list_any}
use Rattle.std.proofs.lemmas.Bool.{and_from, and_parts, eqb-true, ltb-true, not-true, or_left, or_parts, or_right}
use Rattle.xfs_disk.specs.Blocks.{Image, bytes_of_block}
use Rattle.xfs_word.specs.Field.{field_of}
use Rattle.xfs_word.specs.Seal.{is_sealed}
use Rattle.xfs_word.specs.declared.kinds.SealKind.TheVariants as Kind
use Rattle.xfs_geom.specs.Volumes.{Volume}
use Rattle.xfs_dirdata.specs.Data.{DataArea, data_of}
use Rattle.xfs_dirdata.specs.Written.{in_directory}
use Rattle.xfs_dirdata.specs.declared.records.EntryRec.{EntryRec}
use Rattle.xfs_dirindex.specs.Block.{is_alone, is_single, is_whole_block}
use Rattle.xfs_dirindex.specs.Data.{are_data, area_in, have_no_dots, is_dots, is_first_block, is_later, is_parent_name, is_self, is_sound_data, magic_of, no_area}
use Rattle.xfs_dirindex.specs.Leaf.{is_whole_leaf}
use Rattle.xfs_dirindex.specs.Mapped.{Mapped, is_data, mapped, mapped_block}
use Rattle.xfs_dirindex.specs.Node.{is_whole_node}
use Rattle.xfs_dirbuild.specs.Filling.{all_entries}
use Rattle.xfs_dirbuild.specs.Placed.{built_entries, form_entries, has_single_form, is_whole_in_form}
use Rattle.xfs_dirbuild.specs.declared.forms.DirectoryForm.{DirectoryForm}
use Rattle.xfs_dirbuild.specs.declared.forms.DirectoryForm.TheVariants.{Leaf, Node, Short, Single}
use Rattle.xfs_image.specs.Directories.{entries_in_block, entries_of_area, entry_target, has_whole_form, is_beside_dots, is_own, is_single_form}
use Rattle.xfs_naming.specs.Naming.{entries_in}
use Rattle.xfs_built.specs.Directories.{directory_seal}
use Rattle.xfs_built.specs.Pieces.{placed_block, placed_blocks}

-- a directory that is whole in its form is whole in one
pub has_form : (form : DirectoryForm) (dir size : ℕ) (ms : List Mapped) → (form ≡ Short → ⊥) → is_whole_in_form form dir size ms ≡ true → has_whole_form dir size ms ≡ true
has_form Short dir size ms blocks is = absurd (blocks refl)
has_form Single dir size ms blocks is = or_left (is_whole_block dir size ms || is_whole_leaf dir size ms) (is_whole_node dir size ms) (or_left (is_whole_block dir size ms) (is_whole_leaf dir size ms) is)
has_form Leaf dir size ms blocks is = or_left (is_whole_block dir size ms || is_whole_leaf dir size ms) (is_whole_node dir size ms) (or_right (is_whole_block dir size ms) (is_whole_leaf dir size ms) is)
has_form Node dir size ms blocks is = or_right (is_whole_block dir size ms || is_whole_leaf dir size ms) (is_whole_node dir size ms) is

-- all data blocks have the magic number of the form
abbrev pub HasMagic : Bool → Mapped → Type 0
HasMagic single m = is_data m ≡ true → field_of m.bytes 0 4 ≡ magic_of single

sound_magic : (dir : ℕ) (single : Bool) (m : Mapped) → is_sound_data dir single m ≡ true → field_of m.bytes 0 4 ≡ magic_of single
unfolding is_sound_data
sound_magic dir single m is = eqb-true (field_of m.bytes 0 4) (magic_of single) (and_parts (field_of m.bytes 0 4 == magic_of single) (is_some (data_of dir m.bytes single)) is).0

first_magic : (dir : ℕ) (single : Bool) (m : Mapped) → is_first_block dir single m ≡ true → field_of m.bytes 0 4 ≡ magic_of single
unfolding is_first_block
first_magic dir single m is = sound_magic dir single m (and_parts _ _ (and_parts _ _ (and_parts _ _ is).0).0).1

later_magic : (dir : ℕ) (m : Mapped) → is_later dir m ≡ true → HasMagic false m
unfolding is_later
later_magic dir m is data' = sound_magic dir false m (and_parts _ _ (sym (ap (λ (t : Bool). if t then is_sound_data dir false m && have_no_dots (area_in dir false m).entries else true) data') ∙ is)).0

later_magics : (dir : ℕ) (ms : List Mapped) → list_all (is_later dir) ms ≡ true → AllByRecursion (HasMagic false) ms
later_magics dir [] is = tt
later_magics dir (m ∷ ms) is =
    let parts = and_parts (is_later dir m) (list_all (is_later dir) ms) is in
    (later_magic dir m parts.0, later_magics dir ms parts.1)

data_magics : (dir : ℕ) (ms : List Mapped) → are_data dir ms ≡ true → AllByRecursion (HasMagic false) ms
data_magics dir [] is = tt
data_magics dir (m ∷ ms) is =
    let parts = and_parts (is_first_block dir false m) (list_all (is_later dir) ms) is in
    (λ data'. first_magic dir false m parts.0, later_magics dir ms parts.1)

alone_magic : (dir : ℕ) (ms : List Mapped) → is_alone dir ms ≡ true → AllByRecursion (HasMagic true) ms
unfolding is_single
alone_magic dir [] is = tt
alone_magic dir (m ∷ []) is = (λ data'. first_magic dir true m (and_parts _ _ (and_parts _ _ is).0).1, tt)
alone_magic dir (m ∷ n ∷ ms) is = absurd cc

pub form_magics : (form : DirectoryForm) (dir size : ℕ) (ms : List Mapped) → (form ≡ Short → ⊥) → is_whole_in_form form dir size ms ≡ true → AllByRecursion (HasMagic (has_single_form form)) ms
unfolding is_whole_leaf is_whole_node
form_magics Short dir size ms blocks is = absurd (blocks refl)
form_magics Single dir size ms blocks is = alone_magic dir ms (and_parts (size == 4096) (is_alone dir ms) is).1
form_magics Leaf dir size ms blocks is = data_magics dir ms (and_parts _ _ (and_parts _ _ is).0).0
form_magics Node dir size ms blocks is = data_magics dir ms (and_parts _ _ (and_parts _ _ (and_parts _ _ is).0).0).0

-- the entries of a data block
single_is : (single : Bool) (bytes : List ℕ) → field_of bytes 0 4 ≡ magic_of single → is_single_form bytes ≡ single
single_is true bytes is = ap (λ (n : ℕ). n == 0x58444233) is
single_is false bytes is = ap (λ (n : ℕ). n == 0x58444233) is

stated : (o : Option DataArea) → entries_of_area o ≡ (unwrap_or o no_area).entries
stated None = refl
stated (Some area) = refl

area_entries : (dir offset : ℕ) (single : Bool) (bytes : List ℕ) → is_single_form bytes ≡ single
    → entries_of_area (data_of dir bytes (is_single_form bytes)) ≡ (area_in dir single (mapped_block offset bytes)).entries
unfolding area_in
area_entries dir offset single bytes is = ap (λ (s : Bool). entries_of_area (data_of dir bytes s)) is ∙ stated (data_of dir bytes single)

module _ (v : Volume) (image : Image) (dir : ℕ) where
  -- the blocks are all of the directory
  pub own_all : (ps os : List ℕ) → length ps ≡ length os → ((k : ℕ) → k < length ps → is_own v dir (placed_block image (get_or ps k 0) (get_or os k 0)) ≡ true)
      → list_all (is_own v dir) (placed_blocks image ps os) ≡ true
  own_all [] os long each = refl
  own_all (p ∷ ps) [] long each = absurd (omega (arith, long))
  own_all (p ∷ ps) (o ∷ os) long each =
      and_from (is_own v dir (placed_block image p o)) (list_all (is_own v dir) (placed_blocks image ps os)) (each 0 (omega arith))
      (own_all ps os (omega (arith, long)) (λ k low. each (suc k) (omega (arith, low))))

  abbrev sealed_data : ℕ → Bool
  sealed_data place = is_sealed (directory_seal v dir Kind.DirData place) (bytes_of_block image place)

  abbrev area_of_mapped : Bool → Mapped → List EntryRec
  area_of_mapped single m = (area_in dir single m).entries

  -- one block in front of others
  one_block : (single t : Bool) (p o : ℕ) (rest : List EntryRec) (ms : List Mapped) → nat_lt o 0x800000 ≡ t → (o < 0x800000 → sealed_data p ≡ true)
      → HasMagic single (mapped_block o (bytes_of_block image p)) → rest ≡ flat_map (area_of_mapped single) ms
      → (if t && sealed_data p then entries_of_area (data_of dir (bytes_of_block image p) (is_single_form (bytes_of_block image p))) else []) ++ rest
      ≡ flat_map (area_of_mapped single) (if t then mapped_block o (bytes_of_block image p) ∷ ms else ms)
  one_block single true p o rest ms is sealed magic behind =
      ap₂ (λ (a b : List EntryRec). a ++ b)
      (ap (λ (s : Bool). if s then entries_of_area (data_of dir (bytes_of_block image p) (is_single_form (bytes_of_block image p))) else []) (sealed (ltb-true o 0x800000 is))
      ∙ area_entries dir o single (bytes_of_block image p) (single_is single (bytes_of_block image p) (magic is)))
      behind
  one_block single false p o rest ms is sealed magic behind = behind

  pub entries_all : (single : Bool) (ps os : List ℕ) → length ps ≡ length os → ((k : ℕ) → k < length ps → get_or os k 0 < 0x800000 → sealed_data (get_or ps k 0) ≡ true)
      → AllByRecursion (HasMagic single) (mapped os (map (bytes_of_block image) ps))
      → flat_map (entries_in_block v dir) (placed_blocks image ps os) ≡ built_entries dir single (mapped os (map (bytes_of_block image) ps))
  unfolding entries_in_block built_entries
  entries_all single [] [] long each magics = refl
  entries_all single [] (o ∷ os) long each magics = absurd (omega (arith, long))
  entries_all single (p ∷ ps) [] long each magics = absurd (omega (arith, long))
  entries_all single (p ∷ ps) (o ∷ os) long each magics =
      one_block single (nat_lt o 0x800000) p o (flat_map (entries_in_block v dir) (placed_blocks image ps os)) (filter is_data (mapped os (map (bytes_of_block image) ps))) refl
      (each 0 (omega arith)) magics.0 (entries_all single ps os (omega (arith, long)) (λ k low. each (suc k) (omega (arith, low))) magics.1)

-- entries of a directory are its own
own_entry : (d : ℕ) (e : EntryRec) → e.dir ≡ d → in_directory d e ≡ e
own_entry d e is = ap (λ (n : ℕ). let x : EntryRec = record { dir = n; name = e.name; ino = e.ino; ftype = e.ftype } in x) (sym is)

own_step : (t : Bool) (d : ℕ) (e : EntryRec) (es : List EntryRec) → (e.dir == d) ≡ t → map (in_directory d) es ≡ es
    → map (in_directory d) (if t then e ∷ es else es) ≡ (if t then e ∷ es else es)
own_step true d e es is rest = ap₂ (λ (x : EntryRec) (xs : List EntryRec). x ∷ xs) (own_entry d e (eqb-true e.dir d is)) rest
own_step false d e es is rest = rest

pub own_entries : (d : ℕ) (es : List EntryRec) → map (in_directory d) (entries_in es d) ≡ entries_in es d
own_entries d [] = refl
own_entries d (e ∷ es) = own_step (e.dir == d) d e (entries_in es d) refl (own_entries d es)

-- beside the directory itself and its parent
beside_dots : (d : ℕ) (es : List EntryRec) → have_no_dots es ≡ true → filter is_beside_dots (map (in_directory d) es) ≡ map (in_directory d) es
unfolding is_dots
beside_dots d [] is = refl
beside_dots d (e ∷ es) is =
    let parts = or_parts (is_dots e) (list_any is_dots es) (not-true (list_any is_dots (e ∷ es)) is) in
    ap₂ (λ (t : Bool) (xs : List EntryRec). if not t then in_directory d e ∷ xs else xs) parts.0 (beside_dots d es (ap not parts.1))

pub entries_beside : (d parent : ℕ) (es : List EntryRec) → have_no_dots es ≡ true → filter is_beside_dots (map (in_directory d) (all_entries d parent es)) ≡ map (in_directory d) es
unfolding is_self is_parent_name is_dots
entries_beside d parent es is = beside_dots d es is

pub parent_stated : (d parent : ℕ) (es : List EntryRec) → entry_target (find (λ (e : EntryRec). is_parent_name e.name) (map (in_directory d) (all_entries d parent es))) ≡ parent
unfolding is_parent_name
parent_stated d parent es = refl

pub entries_in_form : (form : DirectoryForm) (d parent : ℕ) (es : List EntryRec) → (form ≡ Short → ⊥) → form_entries form d parent es ≡ map (in_directory d) (all_entries d parent es)
entries_in_form Short d parent es blocks = absurd (blocks refl)
entries_in_form Single d parent es blocks = refl
entries_in_form Leaf d parent es blocks = refl
entries_in_form Node d parent es blocks = refl
