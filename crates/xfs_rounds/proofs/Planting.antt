-- What is to be read of the trees of slots, and what they read as.
use Rattle.std.proofs.Common.{◌≡◌, ℕ, ◌+◌, ◌<◌, List, [], ◌∷◌, Option, Some, None, Result, map, length, get_or, refl, sym, ap, subst, ◌∙◌, arith, length-append}
use Rattle.std.proofs.lemmas.List.{get_or_append_left, get_or_default, get_or-map, get_or_push, length-map}
use Rattle.std.proofs.lemmas.Option.{slice_get-get_or}
use Rattle.xfs_disk.specs.Blocks.{Image}
use Rattle.xfs_forest.specs.Forest.{contents_of, reads_as}
use Rattle.xfs_forest.specs.declared.plants.Plant.{Plant}
use Rattle.xfs_geom.specs.Volumes.{Volume}
use Rattle.xfs_inode.specs.Named.{held_by, tree_below}
use Rattle.xfs_kinds.specs.FileTrees.{bmbt_shape}
use Rattle.xfs_kinds.specs.declared.file_trees.Bmbt.{Bmbt}
use Rattle.xfs_rounds.proofs.Rows.{below_more}
use Rattle.xfs_rounds.specs.Named.{ArePlantsOf, AreTreesOf, IsPlanted, IsPlantOf, height_of, tops_of, tree_found}
use Rattle.xfs_rounds.specs.declared.named.NamingSlot.{NamingSlot}
use Rattle.xfs_tree.specs.Reading.{Contents, reading}
use Rattle.xfs_tree.specs.declared.frontier.Frontier.{Frontier}
use Rattle.xfs_tree.specs.declared.seats.Seat.{Seat}
use Rattle.xfs_tree.specs.declared.tree.Tree.{Tree}
use Rattle.xfs_tree.specs.declared.unread.Unread.{Unread}
use Rattle.xfs_word.specs.declared.extents.Extent.{Extent}

-- one slot's tree more
pub plants_more : (slots : List NamingSlot) (count : ℕ) (old new : List (Plant Bmbt Extent ℕ)) (slot : NamingSlot) → count < length slots
    → slot ≡ get_or slots count slot → ArePlantsOf slots count old → IsPlanted slot old new → ArePlantsOf slots (count + 1) new
plants_more slots count old new slot inside is before planted =
    let plant = planted.plant in
    record {
      long = omega (arith, ap length planted.more, length-append old (plant ∷ []), before.long);
      each = λ i s p within. below_more (λ j. IsPlantOf (get_or slots j s) (get_or new j p)) count
          (λ j under. subst (IsPlantOf (get_or slots j s))
          (sym (ap (λ (plants : List (Plant Bmbt Extent ℕ)). get_or plants j p) planted.more ∙ get_or_append_left old (plant ∷ []) p j (omega (arith, under, before.long))))
          (before.each j s p under))
          (subst (IsPlantOf (get_or slots count s))
          (sym (ap (λ (plants : List (Plant Bmbt Extent ℕ)). get_or plants count p) planted.more ∙ get_or_push old plant p count before.long))
          (subst (λ (x : NamingSlot). IsPlantOf x plant) (is ∙ get_or_default slots count slot s inside) planted.is))
          i within;
    }

-- the tree of a slot, where it has one, is what reads below its root
tree_is : (v : Volume) (image : Image) (ino kind : ℕ) (top : Option (Frontier Bmbt Extent ℕ)) (tops : List (Seat ℕ)) (height : ℕ) (read : Result (Tree Bmbt Extent ℕ) Unread)
    → kind ≡ ino → tops ≡ tops_of top → height ≡ height_of top → contents_of read ≡ reading (bmbt_shape kind) v image tops height
    → tree_found top (Some read) ≡ tree_below v image ino top
tree_is v image ino kind None tops height read same_kind same_tops same_height is = refl
tree_is v image ino kind (Some top) tops height read same_kind same_tops same_height is =
    ap held_by is ∙ (λ i. held_by (reading (bmbt_shape (same_kind i)) v image (same_tops i) (same_height i)))

-- what is read of all plants, by their numbers
pub trees_are : (v : Volume) (image : Image) (slots : List NamingSlot) (plants : List (Plant Bmbt Extent ℕ)) (trees : List (Result (Tree Bmbt Extent ℕ) Unread))
    → ArePlantsOf slots (length slots) plants
    → map contents_of trees ≡ map (reads_as (λ (kind : Bmbt). bmbt_shape kind.ino) v image) plants
    → AreTreesOf v image slots trees
trees_are v image slots [] trees are is = λ i slot inside. absurd (omega (arith, inside, are.long))
trees_are v image slots (p ∷ ps) [] are is = λ i slot inside. absurd (omega (arith, ap length is))
trees_are v image slots (p ∷ ps) (t ∷ ts) are is = λ i slot inside.
    let plants = p ∷ ps in
    let trees = t ∷ ts in
    let long : length trees ≡ length slots =
    sym (length-map trees contents_of) ∙ ap length is ∙ length-map plants (reads_as (λ (kind : Bmbt). bmbt_shape kind.ino) v image) ∙ are.long in
    let it = get_or slots i slot in
    let plant = get_or plants i p in
    let its : IsPlantOf it plant = are.each i slot p inside in
    let none : Result (Contents Extent) Unread = contents_of t in
    ap (tree_found it.needs.top) (slice_get-get_or trees i t (omega (arith, inside, long)))
    ∙ tree_is v image it.ino plant.kind.ino it.needs.top plant.tops.items plant.height (get_or trees i t) its.ino its.tops its.height
    (sym (get_or-map contents_of trees i t none (omega (arith, inside, long)))
    ∙ ap (λ (reads : List (Result (Contents Extent) Unread)). get_or reads i none) is
    ∙ get_or-map (reads_as (λ (kind : Bmbt). bmbt_shape kind.ino) v image) plants i p none (omega (arith, inside, are.long)))
