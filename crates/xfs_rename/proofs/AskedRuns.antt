-- The runs that directories ask for, and their blocks.
use Rattle.std.proofs.Common.{◌≡◌, ℕ, zero, suc, Bool, true, false, cond, not, ◌+◌, ◌/◌, ◌%◌, ◌^◌, ◌≤◌, ◌<◌, ◌==◌, nat_le, nat_lt, if◌then◌else◌, List, [], ◌∷◌, ◌++◌, map, length, refl, sym, subst, ap, ◌∙◌, arith}
use Rattle.std.specs.List.{All, filter}
use Rattle.std.proofs.lemmas.Bool.{and_from, both_ways, eqb-false, eqb-true, lt-ltb, ne_eqb, not_from_false}
use Rattle.std.proofs.lemmas.List.{length-append}
use Rattle.std.proofs.lemmas.List.Elements.{All-append, All-cons, All-head, All-nil, All-tail}
use Rattle.std.proofs.lemmas.List.Sums.{sum_by-append, sum_by-cons}
use Rattle.xfs_dirdata.specs.declared.records.EntryRec.{EntryRec}
use Rattle.xfs_dirbuild.specs.declared.forms.DirectoryForm.{DirectoryForm}
use Rattle.xfs_dirbuild.specs.declared.forms.DirectoryForm.TheVariants.{Short, Single, Leaf, Node}
use Rattle.xfs_dirbuild.specs.declared.image.DirImage.{DirImage}
use Rattle.xfs_dirbuild.specs.Filling.{ahead, filled}
use Rattle.xfs_dirbuild.specs.Forms.{data_blocks_of, data_count, form_of, free_blocks_of, index_blocks_of, leaf_blocks, nodes_above, tree_count, value_blocks}
use Rattle.xfs_dirdata.specs.Written.{data_size_of}
use Rattle.xfs_kinds.specs.OffsetWords.{is_file_data, is_tree_block, is_unwritten}
use Rattle.xfs_naming.specs.Naming.{entries_in}
use Rattle.xfs_names.specs.Built.{IsBuiltAsWanted, fork_room}
use Rattle.xfs_names.specs.declared.building.BuiltDirectory.{BuiltDirectory}
use Rattle.xfs_names.specs.declared.building.ForkRoom.{ForkRoom}
use Rattle.xfs_names.specs.declared.records.WantedNames.{WantedNames}
use Rattle.xfs_names.proofs.OwnEntries.{own_few}
use Rattle.xfs_place.specs.Objects.{IsAsk, asks_of}
use Rattle.xfs_place.specs.declared.wanted.Object.{Object}
use Rattle.xfs_place.specs.declared.wanted.RunAsk.{RunAsk}
use Rattle.xfs_render.specs.Objects.{written_blocks, written_in}
use Rattle.xfs_render.specs.Readiness.{HasAsker}
use Rattle.xfs_changes.specs.xfs_built.Asks.{asked_run, asks_for, blocks_of_built, object_of, objects_of, stands_in_blocks}

-- a run of a file in its data is one that can be asked for
plain_data : (ino offset : ℕ) → ino < 2 ^ 32 → offset < 2 ^ 32 → is_file_data ino offset ≡ true
plain_data ino offset number low =
    and_from (nat_lt ino (2 ^ 63)) (not (is_tree_block offset)) (lt-ltb ino (2 ^ 63) (omega (arith, number)))
    (not_from_false (is_tree_block offset) (ne_eqb (offset / 2 ^ 62 % 2) 1 (λ e. omega (arith, e, low))))

one_ask : (ino offset blocks : ℕ) → ino < 2 ^ 32 → offset < 2 ^ 32 → 1 ≤ blocks → blocks < 2 ^ 32 → IsAsk (record { blocks = blocks; owner = ino; offset_word = offset })
one_ask ino offset blocks number low some few = record {
  some = some;
  fits = λ known. omega (arith, low, few);
  plain = λ other. absurd (both_ways (is_file_data ino offset) other (plain_data ino offset number low));
}

asked_each : (P : RunAsk → Type 0) (ino offset blocks : ℕ) → (1 ≤ blocks → P (record { blocks = blocks; owner = ino; offset_word = offset })) → All P (asked_run ino offset blocks)
asked_each P ino offset blocks each = by_case (blocks == 0) refl
  where
    by_case : (t : Bool) → (blocks == 0) ≡ t → All P (if t then [] else (record { blocks = blocks; owner = ino; offset_word = offset } ∷ []))
    by_case true none = All-nil P
    by_case false some = All-cons P (record { blocks = blocks; owner = ino; offset_word = offset }) [] (each (by_zero blocks (eqb-false blocks 0 some))) (All-nil P)
      where
        by_zero : (b : ℕ) → (b ≡ 0 → ⊥) → 1 ≤ b
        by_zero zero none = absurd (none refl)
        by_zero (suc b) none = omega arith

-- the blocks of a directory are few
record AreFew (image : DirImage) : Type 0 where
  pub datas : image.data_blocks < 2 ^ 32
  pub indexes : image.index_blocks < 2 ^ 32
  pub frees : image.free_blocks < 2 ^ 32

asks_each : (P : RunAsk → Type 0) (ino : ℕ) (image : DirImage)
    → ((offset blocks : ℕ) → offset < 2 ^ 32 → 1 ≤ blocks → blocks < 2 ^ 32 → P (record { blocks = blocks; owner = ino; offset_word = offset }))
    → AreFew image → All P (asks_for ino image)
asks_each P ino image each few =
    All-append P (asked_run ino 0 image.data_blocks ++ asked_run ino 0x800000 image.index_blocks) (asked_run ino 0x1000000 image.free_blocks)
    (All-append P (asked_run ino 0 image.data_blocks) (asked_run ino 0x800000 image.index_blocks)
    (asked_each P ino 0 image.data_blocks (λ some. each 0 image.data_blocks (omega arith) some few.datas))
    (asked_each P ino 0x800000 image.index_blocks (λ some. each 0x800000 image.index_blocks (omega arith) some few.indexes)))
    (asked_each P ino 0x1000000 image.free_blocks (λ some. each 0x1000000 image.free_blocks (omega arith) some few.frees))

-- how many data blocks entries fill
record IsFilling (blocks entries : ℕ) : Type 0 where
  pub some : 1 ≤ blocks
  pub most : blocks ≤ entries + 1

ahead_fills : (e : EntryRec) (blocks : List (List EntryRec)) (m : ℕ) → IsFilling (length blocks) m → IsFilling (length (ahead e blocks)) m
ahead_fills e [] m is = let some = is.some in absurd (omega (arith, some))
ahead_fills e (b ∷ bs) m is = let some = is.some in let most = is.most in record { some = omega (arith, some); most = omega (arith, most) }

fills : (at : ℕ) (es : List EntryRec) → IsFilling (length (filled at es)) (length es)
unfolding filled
fills at [] = record { some = omega arith; most = omega arith }
fills at (e ∷ es) = by_case (nat_le (at + data_size_of e) 4096) (fills (at + data_size_of e) es) (fills (64 + data_size_of e) es)
  where
    by_case : (t : Bool) → IsFilling (length (filled (at + data_size_of e) es)) (length es) → IsFilling (length (filled (64 + data_size_of e) es)) (length es)
        → IsFilling (length (if t then ahead e (filled (at + data_size_of e) es) else [] ∷ ahead e (filled (64 + data_size_of e) es))) (length (e ∷ es))
    by_case true same next =
        let is = ahead_fills e (filled (at + data_size_of e) es) (length es) same in
        let some = is.some in let most = is.most in
        record { some = some; most = omega (arith, most) }
    by_case false same next =
        let is = ahead_fills e (filled (64 + data_size_of e) es) (length es) next in
        let some = is.some in let most = is.most in
        record { some = omega arith; most = omega (arith, most) }

counted : (es : List EntryRec) → IsFilling (data_count es) (length es)
unfolding data_count
counted es = fills 96 es

above_few : (b : ℕ) → nodes_above b ≤ b + 1
above_few b = by_case (nat_le b 1)
  where
    by_case : (t : Bool) → (if t then 0 else (b + 503) / 504) ≤ b + 1
    by_case true = omega arith
    by_case false = omega arith

tree_few : (p : ℕ) → p ≤ 2 ^ 24 + 2 → tree_count p < 2 ^ 32
unfolding tree_count
tree_few p few =
    let leaves : leaf_blocks p ≤ p = omega arith in
    let one = above_few (leaf_blocks p) in
    let two = above_few (nodes_above (leaf_blocks p)) in
    omega (arith, leaves, one, two, few)

values_few : (p : ℕ) → p ≤ 2 ^ 24 + 1 → value_blocks p < 2 ^ 32
unfolding value_blocks
values_few p few = omega (arith, few)

datas_few : (form : DirectoryForm) (es : List EntryRec) → length es ≤ 2 ^ 24 → data_blocks_of form es < 2 ^ 32
datas_few Short es few = omega arith
datas_few Single es few = omega arith
datas_few Leaf es few = let most = (counted es).most in omega (arith, most, few)
datas_few Node es few = let most = (counted es).most in omega (arith, most, few)

indexes_few : (form : DirectoryForm) (es : List EntryRec) → length es ≤ 2 ^ 24 → index_blocks_of form es < 2 ^ 32
indexes_few Short es few = omega arith
indexes_few Single es few = omega arith
indexes_few Leaf es few = omega arith
indexes_few Node es few = tree_few (length es + 2) (omega (arith, few))

frees_few : (form : DirectoryForm) (es : List EntryRec) → length es ≤ 2 ^ 24 → free_blocks_of form es < 2 ^ 32
frees_few Short es few = omega arith
frees_few Single es few = omega arith
frees_few Leaf es few = omega arith
frees_few Node es few = let most = (counted es).most in values_few (data_count es) (omega (arith, most, few))

-- a form without data blocks has none at all
bare_indexes : (form : DirectoryForm) (es : List EntryRec) → data_blocks_of form es ≡ 0 → index_blocks_of form es + free_blocks_of form es ≡ 0
bare_indexes Short es none = refl
bare_indexes Single es none = absurd (omega (arith, none))
bare_indexes Leaf es none = let some = (counted es).some in absurd (omega (arith, none, some))
bare_indexes Node es none = let some = (counted es).some in absurd (omega (arith, none, some))

module _ (w : WantedNames) (rooms : List ForkRoom) (few : length w.entries ≤ 2 ^ 24) where
  abbrev own : BuiltDirectory → List EntryRec
  own b = entries_in w.entries b.ino

  abbrev form : BuiltDirectory → DirectoryForm
  form b = form_of (own b) (fork_room rooms b.ino)

  built_few : (b : BuiltDirectory) → IsBuiltAsWanted w rooms b → AreFew b.image
  built_few b is =
      let own' = own_few w.entries b.ino in
      let less : length (own b) ≤ 2 ^ 24 = omega (arith, own', few) in
      record {
        datas = subst (λ (m : ℕ). m < 2 ^ 32) (sym is.data_count) (datas_few (form b) (own b) less);
        indexes = subst (λ (m : ℕ). m < 2 ^ 32) (sym is.index_count) (indexes_few (form b) (own b) less);
        frees = subst (λ (m : ℕ). m < 2 ^ 32) (sym is.free_count) (frees_few (form b) (own b) less);
      }

  objects_each : (P : RunAsk → Type 0)
      → ((ino offset blocks : ℕ) → ino < 2 ^ 32 → offset < 2 ^ 32 → 1 ≤ blocks → blocks < 2 ^ 32 → P (record { blocks = blocks; owner = ino; offset_word = offset }))
      → (rs : List ForkRoom) (built : List BuiltDirectory) → All (λ (d : ℕ). d < 2 ^ 32) (map (λ (b : BuiltDirectory). b.ino) built) → All (IsBuiltAsWanted w rooms) built
      → All (λ (o : Object). All P o.runs) (objects_of rs built)
  objects_each P each rs [] low all = All-nil (λ (o : Object). All P o.runs)
  objects_each P each rs (b ∷ bs) low all =
      by_case (stands_in_blocks b) (objects_each P each rs bs (All-tail (λ (d : ℕ). d < 2 ^ 32) b.ino (map (λ (x : BuiltDirectory). x.ino) bs) low) (All-tail (IsBuiltAsWanted w rooms) b bs all))
    where
      by_case : (t : Bool) → All (λ (o : Object). All P o.runs) (objects_of rs bs)
          → All (λ (o : Object). All P o.runs) (map (object_of rs) (cond t (b ∷ filter stands_in_blocks bs) (filter stands_in_blocks bs)))
      by_case true rest =
          All-cons (λ (o : Object). All P o.runs) (object_of rs b) (objects_of rs bs)
          (asks_each P b.ino b.image (λ offset blocks. each b.ino offset blocks (All-head (λ (d : ℕ). d < 2 ^ 32) b.ino (map (λ (x : BuiltDirectory). x.ino) bs) low))
          (built_few b (All-head (IsBuiltAsWanted w rooms) b bs all))) rest
      by_case false rest = rest

  pub objects_asked : (rs : List ForkRoom) (built : List BuiltDirectory) → All (λ (d : ℕ). d < 2 ^ 32) (map (λ (b : BuiltDirectory). b.ino) built) → All (IsBuiltAsWanted w rooms) built
      → All (λ (o : Object). All IsAsk o.runs) (objects_of rs built)
  objects_asked rs built low all = objects_each IsAsk one_ask rs built low all

  pub objects_owned : (rs : List ForkRoom) (built : List BuiltDirectory) → All (λ (d : ℕ). d < 2 ^ 32) (map (λ (b : BuiltDirectory). b.ino) built) → All (IsBuiltAsWanted w rooms) built
      → All (λ (o : Object). All HasAsker o.runs) (objects_of rs built)
  objects_owned rs built low all =
      objects_each HasAsker (λ ino offset blocks number small some less. record { owner = omega (arith, number); offset = omega (arith, small) }) rs built low all

  -- as many blocks were built as are written
  run_written : (ino offset blocks : ℕ) → is_unwritten offset ≡ false → written_blocks (asked_run ino offset blocks) ≡ blocks
  run_written ino offset blocks plain = by_case (blocks == 0) refl
    where
      by_case : (t : Bool) → (blocks == 0) ≡ t → written_blocks (if t then [] else (record { blocks = blocks; owner = ino; offset_word = offset } ∷ [])) ≡ blocks
      by_case true none = let is = eqb-true blocks 0 none in let nil : written_blocks [] ≡ 0 = refl in omega (arith, is, nil)
      by_case false some =
          let one = sum_by-cons written_in (record { blocks = blocks; owner = ino; offset_word = offset }) [] in
          let all : written_in (record { blocks = blocks; owner = ino; offset_word = offset }) ≡ blocks = ap (λ (t : Bool). if t then 0 else blocks) plain in
          let nil : written_blocks [] ≡ 0 = refl in
          omega (arith, one, all, nil)

  image_written : (ino : ℕ) (image : DirImage) → written_blocks (asks_for ino image) ≡ image.data_blocks + image.index_blocks + image.free_blocks
  image_written ino image =
      let first = sum_by-append written_in (asked_run ino 0 image.data_blocks ++ asked_run ino 0x800000 image.index_blocks) (asked_run ino 0x1000000 image.free_blocks) in
      let second = sum_by-append written_in (asked_run ino 0 image.data_blocks) (asked_run ino 0x800000 image.index_blocks) in
      let a = run_written ino 0 image.data_blocks refl in
      let b = run_written ino 0x800000 image.index_blocks refl in
      let c = run_written ino 0x1000000 image.free_blocks refl in
      omega (arith, first, second, a, b, c)

  pub blocks_built : (rs : List ForkRoom) (built : List BuiltDirectory) → All (IsBuiltAsWanted w rooms) built → length (blocks_of_built built) ≡ written_blocks (asks_of (objects_of rs built))
  blocks_built rs [] all = refl
  blocks_built rs (b ∷ bs) all =
      let is : IsBuiltAsWanted w rooms b = All-head (IsBuiltAsWanted w rooms) b bs all in
      let sums = length-append b.image.blocks (blocks_of_built bs) in
      by_case (b.image.data_blocks == 0) refl is sums (blocks_built rs bs (All-tail (IsBuiltAsWanted w rooms) b bs all))
    where
      by_case : (t : Bool) → (b.image.data_blocks == 0) ≡ t → IsBuiltAsWanted w rooms b → length (b.image.blocks ++ blocks_of_built bs) ≡ length b.image.blocks + length (blocks_of_built bs)
          → length (blocks_of_built bs) ≡ written_blocks (asks_of (objects_of rs bs))
          → length (b.image.blocks ++ blocks_of_built bs) ≡ written_blocks (asks_of (map (object_of rs) (cond (not t) (b ∷ filter stands_in_blocks bs) (filter stands_in_blocks bs))))
      by_case true none is sums rest =
          let zero' = eqb-true b.image.data_blocks 0 none in
          let bare = bare_indexes (form b) (own b) (sym is.data_count ∙ zero') in
          let long = is.count in
          let indexes = is.index_count in
          let frees = is.free_count in
          omega (arith, zero', bare, long, indexes, frees, sums, rest)
      by_case false some is sums rest =
          let long = is.count in
          let own' = image_written b.ino b.image in
          let both = sum_by-append written_in (asks_for b.ino b.image) (asks_of (objects_of rs bs)) in
          omega (arith, long, own', both, sums, rest)
