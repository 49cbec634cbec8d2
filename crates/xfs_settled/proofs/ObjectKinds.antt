-- The blocks of the objects of directories can be sealed.
use Rattle.std.proofs.Common.{◌≡◌, ℕ, Bool, true, false, cond, if◌then◌else◌, List, [], ◌∷◌, map, take, drop, length, get_or, refl, subst, arith}
use Rattle.std.specs.List.{All, AllByRecursion, filter, flat_map, range_with_len}
use Rattle.std.proofs.lemmas.List.Elements.{All-from_recursion}
use Rattle.xfs_disk.specs.Blocks.{Image}
use Rattle.xfs_geom.specs.declared.records.Run.{Run}
use Rattle.xfs_kinds.specs.OffsetWords.{is_unwritten}
use Rattle.xfs_names.specs.declared.building.BuiltDirectory.{BuiltDirectory}
use Rattle.xfs_names.specs.declared.building.ForkRoom.{ForkRoom}
use Rattle.xfs_place.specs.declared.wanted.Object.{Object}
use Rattle.xfs_place.specs.declared.wanted.ObjectKind.{ObjectKind}
use Rattle.xfs_place.specs.declared.wanted.ObjectKind.TheVariants.{Directory}
use Rattle.xfs_place.specs.declared.wanted.RunAsk.{RunAsk}
use Rattle.xfs_built.specs.Asks.{object_of, objects_of, stands_in_blocks}
use Rattle.xfs_render.specs.Objects.{ask_blocks, asks_with_kind, blocks_of_asks, run_blocks}
use Rattle.xfs_render.specs.declared.object_blocks.ObjectAsk.{ObjectAsk}
use Rattle.xfs_render.specs.declared.object_blocks.ObjectBlock.{ObjectBlock}
use Rattle.xfs_built.proofs.Fronts.{all_append}
use Rattle.xfs_settled.specs.Sectors.{CanBeSealed}
use Rattle.xfs_settled.proofs.ImagesOnce.{CanSeal}

abbrev OfDirectory : ObjectBlock → Type 0
OfDirectory o = Directory ≡ o.kind

abbrev AsksDirectory : ObjectAsk → Type 0
AsksDirectory a = Directory ≡ a.kind

places_of_directory : (kind : ObjectKind) (owner : ℕ) → Directory ≡ kind → (places : List ℕ)
    → AllByRecursion OfDirectory (map (λ (place : ℕ). let o : ObjectBlock = record { kind = kind; owner = owner; place = place } in o) places)
places_of_directory kind owner is [] = tt
places_of_directory kind owner is (place ∷ places) = (is, places_of_directory kind owner is places)

runs_of_directory : (kind : ObjectKind) (owner : ℕ) → Directory ≡ kind → (runs : List Run) → AllByRecursion OfDirectory (flat_map (run_blocks kind owner) runs)
runs_of_directory kind owner is [] = tt
runs_of_directory kind owner is (r ∷ rs) =
    all_append OfDirectory (run_blocks kind owner r) (flat_map (run_blocks kind owner) rs) (places_of_directory kind owner is (range_with_len r.start r.count))
    (runs_of_directory kind owner is rs)

ask_of_directory : (a : ObjectAsk) (runs : List Run) → AsksDirectory a → AllByRecursion OfDirectory (ask_blocks a runs)
ask_of_directory a runs is = by_case (is_unwritten a.ask.offset_word)
  where
    by_case : (t : Bool) → AllByRecursion OfDirectory (if t then [] else flat_map (run_blocks a.kind a.ask.owner) runs)
    by_case true = tt
    by_case false = runs_of_directory a.kind a.ask.owner is runs

blocks_of_directory : (asks : List ObjectAsk) (cuts : List ℕ) (runs : List Run) → AllByRecursion AsksDirectory asks → AllByRecursion OfDirectory (blocks_of_asks asks cuts runs)
unfolding blocks_of_asks
blocks_of_directory [] cuts runs are = tt
blocks_of_directory (a ∷ asks) [] runs are = tt
blocks_of_directory (a ∷ asks) (n ∷ cuts) runs are =
    all_append OfDirectory (ask_blocks a (take n runs)) (blocks_of_asks asks cuts (drop n runs)) (ask_of_directory a (take n runs) are.0)
    (blocks_of_directory asks cuts (drop n runs) are.1)

asks_directory : (kind : ObjectKind) → Directory ≡ kind → (asks : List RunAsk)
    → AllByRecursion AsksDirectory (map (λ (ask : RunAsk). let a : ObjectAsk = record { kind = kind; ask = ask } in a) asks)
asks_directory kind is [] = tt
asks_directory kind is (ask ∷ asks) = (is, asks_directory kind is asks)

asks_all : (objects : List Object) → AllByRecursion (λ (o : Object). Directory ≡ o.kind) objects → AllByRecursion AsksDirectory (asks_with_kind objects)
asks_all [] are = tt
asks_all (o ∷ os) are =
    all_append AsksDirectory (map (λ (ask : RunAsk). let a : ObjectAsk = record { kind = o.kind; ask = ask } in a) o.runs) (asks_with_kind os)
    (asks_directory o.kind are.0 o.runs) (asks_all os are.1)

objects_all : (rooms : List ForkRoom) (built : List BuiltDirectory) → AllByRecursion (λ (o : Object). Directory ≡ o.kind) (objects_of rooms built)
objects_all rooms [] = tt
objects_all rooms (b ∷ bs) = by_case (stands_in_blocks b) (objects_all rooms bs)
  where
    by_case : (t : Bool) → AllByRecursion (λ (o : Object). Directory ≡ o.kind) (objects_of rooms bs)
        → AllByRecursion (λ (o : Object). Directory ≡ o.kind) (map (object_of rooms) (cond t (b ∷ filter stands_in_blocks bs) (filter stands_in_blocks bs)))
    by_case true rest = (refl, rest)
    by_case false rest = rest

pub objects_seal : (rooms : List ForkRoom) (built : List BuiltDirectory) (cuts : List ℕ) (runs : List Run) (bank : Image)
    → length bank ≡ length (blocks_of_asks (asks_with_kind (objects_of rooms built)) cuts runs) → All (CanBeSealed Directory) bank
    → CanSeal (blocks_of_asks (asks_with_kind (objects_of rooms built)) cuts runs) bank
objects_seal rooms built cuts runs bank many sealed j d low =
    let blocks : List ObjectBlock = blocks_of_asks (asks_with_kind (objects_of rooms built)) cuts runs in
    let of : All OfDirectory blocks =
    All-from_recursion OfDirectory blocks (blocks_of_directory (asks_with_kind (objects_of rooms built)) cuts runs (asks_all (objects_of rooms built) (objects_all rooms built))) in
    subst (λ (kind : ObjectKind). CanBeSealed kind (get_or bank j [])) (of j d low) (sealed j [] (omega (arith, many, low)))
