-- The runs that were placed for directories are those of their extents, one directory after the other.
use Rattle.std.proofs.Common.{◌≡◌, ℕ, Bool, true, false, ◌+◌, ◌^◌, ◌≤◌, ◌==◌, if◌then◌else◌, List, [], ◌∷◌, ◌++◌, length, map, take, drop, refl, sym, ap, ap₂, ◌∙◌, subst, arith}
use Rattle.std.specs.List.{AllByRecursion, filter, flat_map}
use Rattle.std.proofs.Math.Seq.{take-add}
use Rattle.std.proofs.lemmas.List.{drop-drop, take-append-drop}
use Rattle.std.proofs.lemmas.List.Sums.{sum_by-cons}
use Rattle.xfs_geom.specs.Volumes.{Volume}
use Rattle.xfs_geom.specs.declared.records.Run.{Run}
use Rattle.xfs_names.specs.declared.building.BuiltDirectory.{BuiltDirectory}
use Rattle.xfs_names.specs.declared.building.ForkRoom.{ForkRoom}
use Rattle.xfs_place.specs.Objects.{AreJoined, ServeAsks, asks_of, rest_of}
use Rattle.xfs_place.specs.declared.wanted.Object.{Object}
use Rattle.xfs_place.specs.declared.wanted.RunAsk.{RunAsk}
use Rattle.xfs_space.specs.Owners.{extent_run}
use Rattle.xfs_rename.specs.xfs_built.Extents.{extent_of_run}
use Rattle.xfs_rename.specs.xfs_built.Asks.{asked_run, asks_for, object_of, objects_of, stands_in_blocks}
use Rattle.xfs_rename.specs.xfs_built.Directories.{BuiltRuns, asks_of_built, built_runs, runs_of_built, with_runs}
use Rattle.xfs_rename.specs.xfs_built.Pieces.{taken}
use Rattle.xfs_rename.proofs.xfs_built.Fronts.{all_append}
use Rattle.xfs_rename.proofs.xfs_built.Mapping.{address_leads}
use Rattle.xfs_restored.specs.Relinking.{extents_built}

-- runs of an owner
abbrev AreOwned : ℕ → List Run → Type 0
AreOwned ino runs = AllByRecursion (λ (r : Run). r.owner ≡ ino) runs

abbrev AskedBy : ℕ → List RunAsk → Type 0
AskedBy ino asks = AllByRecursion (λ (a : RunAsk). a.owner ≡ ino) asks

joined_owned : (ask : RunAsk) (runs : List Run) → AreJoined ask runs → AreOwned ask.owner runs
joined_owned ask [] joined = tt
joined_owned ask (r ∷ rest) joined = (ap (λ (x : Run). x.owner) joined.0, joined_owned (rest_of ask r.count) rest joined.2)

-- the first of some asks have the first runs, the others those behind them
abbrev IsFront : ℕ → List RunAsk → List RunAsk → List ℕ → List Run → Type 0
IsFront ino front rest cuts runs = AreOwned ino (take (taken front cuts) runs) × ServeAsks rest (drop (length front) cuts) (drop (taken front cuts) runs)

one_more : (ino : ℕ) (a : RunAsk) (front rest : List RunAsk) (n : ℕ) (cuts : List ℕ) (runs : List Run) → a.owner ≡ ino → AreJoined a (take n runs)
    → IsFront ino front rest cuts (drop n runs) → IsFront ino (a ∷ front) rest (n ∷ cuts) runs
one_more ino a front rest n cuts runs own joined behind =
    let m : ℕ = taken front cuts in
    let count : taken (a ∷ front) (n ∷ cuts) ≡ n + m = sum_by-cons (λ (c : ℕ). c) n (take (length front) cuts) in
    let head : take (taken (a ∷ front) (n ∷ cuts)) runs ≡ take n runs ++ take m (drop n runs) = ap (λ (k : ℕ). take k runs) count ∙ take-add n m runs in
    let tail : drop m (drop n runs) ≡ drop (taken (a ∷ front) (n ∷ cuts)) runs = drop-drop m n runs ∙ ap (λ (k : ℕ). drop k runs) (sym count) in (
      subst (AreOwned ino) (sym head)
          (all_append (λ (r : Run). r.owner ≡ ino) (take n runs) (take m (drop n runs)) (subst (λ (o : ℕ). AreOwned o (take n runs)) own (joined_owned a (take n runs) joined)) behind.0),
      subst (λ (rs : List Run). ServeAsks rest (drop (length front) cuts) rs) tail behind.1,
    )

front_is : (ino : ℕ) (front rest : List RunAsk) (cuts : List ℕ) (runs : List Run) → AskedBy ino front → ServeAsks (front ++ rest) cuts runs → IsFront ino front rest cuts runs
front_is ino [] rest cuts runs own serve = (tt, serve)
front_is ino (a ∷ front) rest [] runs own serve = absurd serve
front_is ino (a ∷ front) rest (n ∷ cuts) runs own serve = one_more ino a front rest n cuts runs own.0 serve.1 (front_is ino front rest cuts (drop n runs) own.1 serve.2)

-- a directory asks for itself
run_asked : (ino offset blocks : ℕ) → AskedBy ino (asked_run ino offset blocks)
run_asked ino offset blocks = by_case (blocks == 0)
  where
    by_case : (t : Bool) → AskedBy ino (if t then [] else (record { blocks = blocks; owner = ino; offset_word = offset } ∷ []))
    by_case true = tt
    by_case false = (refl, tt)

all_asked : (b : BuiltDirectory) → AskedBy b.ino (asks_for b.ino b.image)
all_asked b =
    all_append (λ (a : RunAsk). a.owner ≡ b.ino) (asked_run b.ino 0 b.image.data_blocks ++ asked_run b.ino 0x800000 b.image.index_blocks) (asked_run b.ino 0x1000000 b.image.free_blocks)
    (all_append (λ (a : RunAsk). a.owner ≡ b.ino) (asked_run b.ino 0 b.image.data_blocks) (asked_run b.ino 0x800000 b.image.index_blocks) (run_asked b.ino 0 b.image.data_blocks)
    (run_asked b.ino 0x800000 b.image.index_blocks)) (run_asked b.ino 0x1000000 b.image.free_blocks)

-- what a directory has in its extents
abbrev pub runs_built : Volume → BuiltRuns → List Run
runs_built v d = map (extent_run v d.directory.ino 0) (extents_built v d)

module _ (v : Volume) (some : 1 ≤ v.agblocks) (enough : v.agblocks ≤ 2 ^ v.agblklog) where
  -- a run is that of its extent
  run_back : (ino : ℕ) (r : Run) → r.owner ≡ ino → extent_run v ino 0 (extent_of_run v r) ≡ r
  run_back ino r own =
      let word : 0 + 0 + r.offset_word ≡ r.offset_word = omega arith in
      λ i. record { start = address_leads v r.start some enough i; count = r.count; owner = sym own i; offset_word = word i }

  runs_back : (ino : ℕ) (runs : List Run) → AreOwned ino runs → map (extent_run v ino 0) (map (extent_of_run v) runs) ≡ runs
  runs_back ino [] own = refl
  runs_back ino (r ∷ runs) own = ap₂ (λ (x : Run) (xs : List Run). x ∷ xs) (run_back ino r own.0) (runs_back ino runs own.1)

  own_back : (b : BuiltDirectory) (mine : List Run) → stands_in_blocks b ≡ true → AreOwned b.ino mine → runs_built v (built_runs b mine) ≡ mine
  own_back b mine blocks own =
      ap (λ (t : Bool). map (extent_run v b.ino 0) (if t then map (extent_of_run v) mine else [])) blocks ∙ runs_back b.ino mine own

  none_back : (b : BuiltDirectory) → stands_in_blocks b ≡ false → runs_built v (built_runs b []) ≡ []
  none_back b short = ap (λ (t : Bool). map (extent_run v b.ino 0) (if t then map (extent_of_run v) [] else [])) short

  abbrev objects_if : Bool → List ForkRoom → BuiltDirectory → List BuiltDirectory → List Object
  objects_if t rooms b bs = map (object_of rooms) (if t then b ∷ filter stands_in_blocks bs else filter stands_in_blocks bs)

  abbrev runs_if : Bool → BuiltDirectory → List BuiltDirectory → List ℕ → List Run → List BuiltRuns
  runs_if t b bs cuts runs =
      if t then built_runs b (take (runs_of_built b cuts) runs) ∷ with_runs bs (drop (asks_of_built b) cuts) (drop (runs_of_built b cuts) runs)
      else built_runs b [] ∷ with_runs bs cuts runs

  if_served : (rooms : List ForkRoom) (b : BuiltDirectory) (bs : List BuiltDirectory) (cuts : List ℕ) (runs : List Run)
      → ((cs : List ℕ) (rs : List Run) → ServeAsks (asks_of (objects_of rooms bs)) cs rs → flat_map (runs_built v) (with_runs bs cs rs) ≡ rs)
      → (t : Bool) → stands_in_blocks b ≡ t → ServeAsks (asks_of (objects_if t rooms b bs)) cuts runs → flat_map (runs_built v) (runs_if t b bs cuts runs) ≡ runs
  if_served rooms b bs cuts runs next true is serve =
      let k : ℕ = runs_of_built b cuts in
      let front : IsFront b.ino (asks_for b.ino b.image) (asks_of (objects_of rooms bs)) cuts runs = front_is b.ino (asks_for b.ino b.image) (asks_of (objects_of rooms bs)) cuts runs (all_asked b) serve in
      ap₂ (λ (xs ys : List Run). xs ++ ys) (own_back b (take k runs) is front.0) (next (drop (asks_of_built b) cuts) (drop k runs) front.1) ∙ take-append-drop k runs
  if_served rooms b bs cuts runs next false is serve =
      ap (λ (xs : List Run). xs ++ flat_map (runs_built v) (with_runs bs cuts runs)) (none_back b is) ∙ next cuts runs serve

  pub all_served : (rooms : List ForkRoom) (built : List BuiltDirectory) (cuts : List ℕ) (runs : List Run) → ServeAsks (asks_of (objects_of rooms built)) cuts runs
      → flat_map (runs_built v) (with_runs built cuts runs) ≡ runs
  unfolding with_runs
  all_served rooms [] [] runs serve = sym serve
  all_served rooms [] (n ∷ cuts) runs serve = absurd serve
  all_served rooms (b ∷ bs) cuts runs serve = if_served rooms b bs cuts runs (λ cs rs next. all_served rooms bs cs rs next) (stands_in_blocks b) refl serve
