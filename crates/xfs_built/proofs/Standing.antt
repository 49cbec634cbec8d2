-- The blocks of directories that were built anew stand in their runs.
use Rattle.std.proofs.Common.{◌≡◌, ℕ, Bool, true, false, ◌+◌, ◌^◌, ◌<◌, ◌==◌, if◌then◌else◌, List, [], ◌∷◌, ◌++◌, length, map, take, drop, get_or, refl, sym, ap, ap₂, ◌∙◌, subst, append-nil, arith}
use Rattle.std.specs.List.{AllByRecursion, filter, flat_map, range_with_len}
use Rattle.std.proofs.lemmas.Bool.{both_ways, eqb-true, not-false}
use Rattle.std.proofs.lemmas.List.{append_assoc, get_or-append-add, get_or-map, get_or_append_left, length-append, length-map, map-append}
use Rattle.std.proofs.lemmas.List.Concat.{flat_map-append}
use Rattle.xfs_disk.specs.Blocks.{Image, bytes_of_block}
use Rattle.xfs_geom.specs.Volumes.{Volume}
use Rattle.xfs_geom.specs.declared.records.Run.{Run}
use Rattle.xfs_dirbuild.specs.Placed.{file_blocks}
use Rattle.xfs_dirbuild.specs.declared.image.DirImage.{DirImage}
use Rattle.xfs_names.specs.declared.building.BuiltDirectory.{BuiltDirectory}
use Rattle.xfs_names.specs.declared.building.ForkRoom.{ForkRoom}
use Rattle.xfs_place.specs.Objects.{ServeAsks, asks_of}
use Rattle.xfs_place.specs.declared.wanted.Object.{Object}
use Rattle.xfs_place.specs.declared.wanted.ObjectKind.TheVariants.{Directory}
use Rattle.xfs_render.specs.Objects.{HasObjects, IsObjectBlock, asks_with_kind, blocks_of_asks}
use Rattle.xfs_render.specs.declared.object_blocks.ObjectBlock.{ObjectBlock}
use Rattle.xfs_built.specs.Asks.{asked_run, asks_for, blocks_of_built, object_of, objects_of, stands_in_blocks}
use Rattle.xfs_built.specs.Directories.{BuiltRuns, HasOwnCounts, StandsInRuns, StandsIn, asks_of_built, built_runs, runs_of_built, with_runs}
use Rattle.xfs_built.specs.Pieces.{IsFrontOfAsks, IsLowRun, IsPlainAsk, asked_offsets, offsets_in, blocks_of_owner, places_of_runs, run_offsets, run_places}
use Rattle.xfs_built.proofs.Fronts.{all_append, front_is}
use Rattle.xfs_built.proofs.Mapping.{length_range}

asked_plain : (ino offset blocks : ℕ) → blocks < 2 ^ 21 → offset + blocks < 2 ^ 54 → AllByRecursion (IsPlainAsk ino) (asked_run ino offset blocks)
asked_plain ino offset blocks few room = by_case (blocks == 0)
  where
    by_case : (t : Bool) → AllByRecursion (IsPlainAsk ino) (if t then [] else (record { blocks = blocks; owner = ino; offset_word = offset } ∷ []))
    by_case true = tt
    by_case false = (record { owner' = refl; few = few; room = room }, tt)

asked_blocks : (ino offset blocks : ℕ) → flat_map asked_offsets (asked_run ino offset blocks) ≡ range_with_len offset blocks
asked_blocks ino offset blocks = by_case (blocks == 0) refl
  where
    by_case : (t : Bool) → (blocks == 0) ≡ t
        → flat_map asked_offsets (if t then [] else (record { blocks = blocks; owner = ino; offset_word = offset } ∷ [])) ≡ range_with_len offset blocks
    by_case true is = ap (λ (n : ℕ). range_with_len offset n) (sym (eqb-true blocks 0 is))
    by_case false is = append-nil (range_with_len offset blocks)

pub asks_plain : (b : BuiltDirectory) → HasOwnCounts b → AllByRecursion (IsPlainAsk b.ino) (asks_for b.ino b.image)
asks_plain b sized =
    let data_low = sized.data' in
    let index_low = sized.index' in
    let free_low = sized.free' in
    all_append (IsPlainAsk b.ino) (asked_run b.ino 0 b.image.data_blocks ++ asked_run b.ino 0x800000 b.image.index_blocks) (asked_run b.ino 0x1000000 b.image.free_blocks)
    (all_append (IsPlainAsk b.ino) (asked_run b.ino 0 b.image.data_blocks) (asked_run b.ino 0x800000 b.image.index_blocks)
    (asked_plain b.ino 0 b.image.data_blocks data_low (omega (arith, data_low))) (asked_plain b.ino 0x800000 b.image.index_blocks index_low (omega (arith, index_low))))
    (asked_plain b.ino 0x1000000 b.image.free_blocks free_low (omega (arith, free_low)))

asks_blocks : (ino : ℕ) (image : DirImage) → flat_map asked_offsets (asks_for ino image) ≡ file_blocks image.data_blocks image.index_blocks image.free_blocks
asks_blocks ino image =
    let first = asked_run ino 0 image.data_blocks in
    let second = asked_run ino 0x800000 image.index_blocks in
    let third = asked_run ino 0x1000000 image.free_blocks in
    flat_map-append asked_offsets (first ++ second) third
    ∙ (ap (λ (xs : List ℕ). xs ++ flat_map asked_offsets third) (flat_map-append asked_offsets first second)
    ∙ (append_assoc (flat_map asked_offsets first) (flat_map asked_offsets second) (flat_map asked_offsets third)
    ∙ ap₂ (λ (xs ys : List ℕ). xs ++ ys) (asked_blocks ino 0 image.data_blocks)
    (ap₂ (λ (xs ys : List ℕ). xs ++ ys) (asked_blocks ino 0x800000 image.index_blocks) (asked_blocks ino 0x1000000 image.free_blocks))))

-- the blocks of runs are as many as their numbers in the file
pub counted_both : (runs : List Run) → length (places_of_runs runs) ≡ length (offsets_in runs)
counted_both [] = refl
counted_both (r ∷ runs) =
    length-append (run_places r) (places_of_runs runs)
    ∙ (ap₂ (λ (m n : ℕ). m + n) (length_range r.start r.count ∙ sym (length_range r.offset_word r.count)) (counted_both runs)
    ∙ sym (length-append (run_offsets r) (offsets_in runs)))

pub counted_file : (datas indexes frees : ℕ) → length (file_blocks datas indexes frees) ≡ datas + indexes + frees
counted_file datas indexes frees =
    let first = length_range 0 datas in
    let second = length_range 0x800000 indexes in
    let third = length_range 0x1000000 frees in
    let inner = length-append (range_with_len 0x800000 indexes) (range_with_len 0x1000000 frees) in
    let whole = length-append (range_with_len 0 datas) (range_with_len 0x800000 indexes ++ range_with_len 0x1000000 frees) in
    omega (arith, first, second, third, inner, whole)

-- the blocks of an object, by their places
abbrev own_at : ℕ → ℕ → ObjectBlock
own_at ino place = record { kind = Directory; owner = ino; place = place }

own_places : (ino : ℕ) (runs : List Run) → blocks_of_owner ino runs ≡ map (own_at ino) (places_of_runs runs)
own_places ino [] = refl
own_places ino (r ∷ runs) =
    ap (λ (bs : List ObjectBlock). map (own_at ino) (run_places r) ++ bs) (own_places ino runs) ∙ sym (map-append (own_at ino) (run_places r) (places_of_runs runs))

counted_own : (ino : ℕ) (runs : List Run) → length (blocks_of_owner ino runs) ≡ length (places_of_runs runs)
counted_own ino runs = ap length (own_places ino runs) ∙ length-map (places_of_runs runs) (own_at ino)

module _ (v : Volume) (image : Image) where
  -- of blocks that are held, some stand in front of others
  has_front : (own others : List ObjectBlock) (built more : List (List ℕ)) → length own ≡ length built
      → HasObjects v (own ++ others) (built ++ more) (length (own ++ others)) image → HasObjects v own built (length own) image
  has_front own others built more long has = record {
    each = λ j d low.
        let first : get_or (own ++ others) j d ≡ get_or own j d = get_or_append_left own others d j low in
        let second : get_or (built ++ more) j [] ≡ get_or built j [] = get_or_append_left built more [] j (omega (arith, low, long)) in
        let whole = length-append own others in
        subst (λ (x : ObjectBlock). IsObjectBlock v x (get_or built j []) (bytes_of_block image x.place)) first
        (subst (λ (bytes : List ℕ). IsObjectBlock v (get_or (own ++ others) j d) bytes (bytes_of_block image (get_or (own ++ others) j d).place)) second
        (has.each j d (omega (arith, low, whole))));
  }

  has_back : (own others : List ObjectBlock) (built more : List (List ℕ)) → length own ≡ length built
      → HasObjects v (own ++ others) (built ++ more) (length (own ++ others)) image → HasObjects v others more (length others) image
  has_back own others built more long has = record {
    each = λ j d low.
        let first : get_or (own ++ others) (length own + j) d ≡ get_or others j d = get_or-append-add own others j d in
        let second : get_or (built ++ more) (length own + j) [] ≡ get_or more j [] = ap (λ (n : ℕ). get_or (built ++ more) (n + j) []) long ∙ get_or-append-add built more j [] in
        let whole = length-append own others in
        subst (λ (x : ObjectBlock). IsObjectBlock v x (get_or more j []) (bytes_of_block image x.place)) first
        (subst (λ (bytes : List ℕ). IsObjectBlock v (get_or (own ++ others) (length own + j) d) bytes (bytes_of_block image (get_or (own ++ others) (length own + j) d).place)) second
        (has.each (length own + j) d (omega (arith, low, whole))));
  }

  -- the blocks of a directory
  stands_in : (b : BuiltDirectory) (runs : List Run) → HasOwnCounts b → offsets_in runs ≡ flat_map asked_offsets (asks_for b.ino b.image) → AllByRecursion IsLowRun runs
      → HasObjects v (blocks_of_owner b.ino runs) b.image.blocks (length (blocks_of_owner b.ino runs)) image → StandsIn v image b runs
  stands_in b runs sized offsets low_runs has =
      let offsets_are = offsets ∙ asks_blocks b.ino b.image in
      let long : length (offsets_in runs) ≡ length (file_blocks b.image.data_blocks b.image.index_blocks b.image.free_blocks) = ap length offsets_are in
      let counted : length (places_of_runs runs) ≡ length b.image.blocks = counted_both runs ∙ (long ∙ (counted_file b.image.data_blocks b.image.index_blocks b.image.free_blocks ∙ sym sized.count)) in
      record {
        offsets' = offsets_are;
        count = counted;
        low' = low_runs;
        each = λ k low.
            let inside : k < length (places_of_runs runs) = omega (arith, low, counted) in
            let own = counted_own b.ino runs in
            let here : get_or (blocks_of_owner b.ino runs) k (own_at b.ino 0) ≡ own_at b.ino (get_or (places_of_runs runs) k 0) =
            ap (λ (bs : List ObjectBlock). get_or bs k (own_at b.ino 0)) (own_places b.ino runs) ∙ get_or-map (own_at b.ino) (places_of_runs runs) k 0 (own_at b.ino 0) inside in
            subst (λ (x : ObjectBlock). IsObjectBlock v x (get_or b.image.blocks k []) (bytes_of_block image x.place)) here
            (has.each k (own_at b.ino 0) (omega (arith, inside, own)));
      }

  abbrev held : List Object → List ℕ → List Run → List BuiltDirectory → Type 0
  held objects cuts runs built = HasObjects v (blocks_of_asks (asks_with_kind objects) cuts runs) (blocks_of_built built) (length (blocks_of_asks (asks_with_kind objects) cuts runs)) image

  abbrev objects_if : Bool → List ForkRoom → BuiltDirectory → List BuiltDirectory → List Object
  objects_if t rooms b bs = map (object_of rooms) (if t then b ∷ filter stands_in_blocks bs else filter stands_in_blocks bs)

  abbrev runs_if : Bool → BuiltDirectory → List BuiltDirectory → List ℕ → List Run → List BuiltRuns
  runs_if t b bs cuts runs =
      if t then built_runs b (take (runs_of_built b cuts) runs) ∷ with_runs bs (drop (asks_of_built b) cuts) (drop (runs_of_built b cuts) runs)
      else built_runs b [] ∷ with_runs bs cuts runs

  -- one directory in front of others
  if_stands : (rooms : List ForkRoom) (b : BuiltDirectory) (bs : List BuiltDirectory) (cuts : List ℕ) (runs : List Run) → HasOwnCounts b
      → ((cs : List ℕ) (rs : List Run) → ServeAsks (asks_of (objects_of rooms bs)) cs rs → held (objects_of rooms bs) cs rs bs → AllByRecursion (StandsInRuns v image) (with_runs bs cs rs))
      → (t : Bool) → stands_in_blocks b ≡ t → ServeAsks (asks_of (objects_if t rooms b bs)) cuts runs → held (objects_if t rooms b bs) cuts runs (b ∷ bs)
      → AllByRecursion (StandsInRuns v image) (runs_if t b bs cuts runs)
  if_stands rooms b bs cuts runs sized next true is serve own =
      let others = asks_with_kind (objects_of rooms bs) in
      let front : IsFrontOfAsks b.ino (asks_for b.ino b.image) (asks_of (objects_of rooms bs)) others cuts runs =
      front_is b.ino (asks_for b.ino b.image) (asks_of (objects_of rooms bs)) others cuts runs sized.low (asks_plain b sized) serve in
      let mine : List Run = take (runs_of_built b cuts) runs in
      let rest : List ObjectBlock = blocks_of_asks others (drop (asks_of_built b) cuts) (drop (runs_of_built b cuts) runs) in
      let both : HasObjects v (blocks_of_owner b.ino mine ++ rest) (b.image.blocks ++ blocks_of_built bs) (length (blocks_of_owner b.ino mine ++ rest)) image =
      subst (λ (blocks : List ObjectBlock). HasObjects v blocks (b.image.blocks ++ blocks_of_built bs) (length blocks) image) front.blocks' own in
      let long : length (blocks_of_owner b.ino mine) ≡ length b.image.blocks =
      counted_own b.ino mine ∙ (counted_both mine ∙ (ap length (front.offsets' ∙ asks_blocks b.ino b.image)
      ∙ (counted_file b.image.data_blocks b.image.index_blocks b.image.free_blocks ∙ sym sized.count))) in (
        λ some. stands_in b mine sized front.offsets' front.low' (has_front (blocks_of_owner b.ino mine) rest b.image.blocks (blocks_of_built bs) long both),
        next (drop (asks_of_built b) cuts) (drop (runs_of_built b cuts) runs) front.rest'
            (has_back (blocks_of_owner b.ino mine) rest b.image.blocks (blocks_of_built bs) long both),
      )
  if_stands rooms b bs cuts runs sized next false is serve own =
      let empty : b.image.blocks ≡ [] = sized.none (eqb-true b.image.data_blocks 0 (not-false (b.image.data_blocks == 0) is)) in
      let blocks : List ObjectBlock = blocks_of_asks (asks_with_kind (objects_of rooms bs)) cuts runs in (
        λ some. absurd (both_ways (stands_in_blocks b) is some),
        next cuts runs serve (subst (λ (bytes : List (List ℕ)). HasObjects v blocks (bytes ++ blocks_of_built bs) (length blocks) image) empty own),
      )

  pub directories_stand : (rooms : List ForkRoom) (built : List BuiltDirectory) (cuts : List ℕ) (runs : List Run) → AllByRecursion HasOwnCounts built
      → ServeAsks (asks_of (objects_of rooms built)) cuts runs → held (objects_of rooms built) cuts runs built → AllByRecursion (StandsInRuns v image) (with_runs built cuts runs)
  unfolding with_runs
  directories_stand rooms [] cuts runs sized serves has = tt
  directories_stand rooms (b ∷ bs) cuts runs sized serves has =
      if_stands rooms b bs cuts runs sized.0 (λ cs rs serve own. directories_stand rooms bs cs rs sized.1 serve own) (stands_in_blocks b) refl serves has
