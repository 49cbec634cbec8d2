-- A small volume with objects can be placed and rendered.
use Rattle.std.proofs.Common.{◌≡◌, ◌∙◌, ℕ, ◌+◌, ◌-◌, ◌*◌, ◌%◌, ◌≤◌, ◌<◌, ◌⊎◌, inl, inr, Bool, true, false, ◌==◌, cond, List, [], ◌∷◌, ◌++◌, length, get_or, None, IsTrue, refl, sym, subst, ap, arith}
use Rattle.std.specs.List.{All}
use Rattle.std.specs.Cmp.Derive.{both_true}
use Rattle.std.proofs.Math.Nat.{mul-mod_left}
use Rattle.std.proofs.lemmas.Bool.{cases_lt, eqb-true, eqb-false, le-leb, lt-ltb}
use Rattle.std.proofs.lemmas.List.{get_or-append-add, get_or_append_left}
use Rattle.xfs_disk.specs.Blocks.{Image}
use Rattle.xfs_disk.specs.declared.stamp.Stamp.{Stamp}
use Rattle.xfs_geom.specs.Conversions.{group_length, inode_of}
use Rattle.xfs_geom.specs.Shape.{HasGroups}
use Rattle.xfs_geom.specs.Superblocks.{super_fault}
use Rattle.xfs_geom.specs.Volumes.{Volume, stated_volume, volume_of}
use Rattle.xfs_geom.specs.Writing.{IsAcceptedSector}
use Rattle.xfs_geom.specs.declared.geometry.Geometry.{Geometry}
use Rattle.xfs_geom.specs.declared.records.InoRec.{InoRec}
use Rattle.xfs_kinds.specs.InodeTrees.{ino_shape}
use Rattle.xfs_tree.specs.Rules.{are_lawful}
use Rattle.xfs_place.specs.Objects.{IsAsk, asks_of}
use Rattle.xfs_place.specs.Wanted.{CanBeKept, kept_runs}
use Rattle.xfs_place.specs.declared.wanted.GroupInodes.{GroupInodes}
use Rattle.xfs_place.specs.declared.wanted.Object.{Object}
use Rattle.xfs_place.specs.declared.wanted.Wanted.{Wanted}
use Rattle.xfs_render.specs.Clusters.{CanCluster}
use Rattle.xfs_render.specs.Objects.{written_blocks}
use Rattle.xfs_render.specs.Readiness.{HasBytes, IsWritable}
use Rattle.xfs_render.specs.Rendering.{is_head, old_at}
use Rattle.xfs_render.specs.declared.bytes.Bytes.{Bytes}
use Rattle.xfs_render.specs.declared.wanted_slots.SlotWanted.{SlotWanted}
use Rattle.xfs_empty.specs.Bytes.{empty_places}
use Rattle.xfs_empty.specs.Geometry.{HasFirstChunk}
use Rattle.xfs_empty.specs.Inodes.{unused_slot}
use Rattle.xfs_empty.proofs.Chunk.{all_clear, first_length}
use Rattle.xfs_empty.proofs.Kept.{chunk_kept}
use Rattle.xfs_empty.proofs.Places.{IsChunkAt, IsHeadAt, chunk_inode, place_cases}
use Rattle.xfs_empty.proofs.Ready.{has_bytes, writable}
use Rattle.xfs_empty.proofs.Slots.{AreNumbered, in_order, slot_can, wanted_is}
use Rattle.xfs_volume_tests.specs.Rendered.{AreAsked, AreSmallBytes, AreSmallInodes, AreSmallSlots, IsSmall, five_used, small_chunks, small_wanted}

pub accepted_at : (sector : List ℕ) (place blocks : ℕ) → super_fault sector place blocks ≡ None → IsAcceptedSector sector
accepted_at sector place blocks none = record { place = place; blocks = blocks; none = none }

-- one item more
pub pushed_each : {X : Type 0} (P : ℕ → X → Type 0) (xs new : List X) (x : X) (n : ℕ) → length xs ≡ n → ((k : ℕ) (d : X) → k < n → P k (get_or xs k d)) → P n x
    → new ≡ xs ++ x ∷ [] → (k : ℕ) (d : X) → k < n + 1 → P k (get_or new k d)
pushed_each {X} P xs new x n count each this pushed k d low = by_case (cases_lt k n)
  where
    by_case : (k < n) ⊎ (n ≤ k) → P k (get_or new k d)
    by_case (inl less) =
        let is : get_or new k d ≡ get_or xs k d = ap (λ (ys : List X). get_or ys k d) pushed ∙ get_or_append_left xs (x ∷ []) d k (omega (arith, less, count)) in
        subst (P k) (sym is) (each k d less)
    by_case (inr more) =
        let there : k ≡ length xs + 0 = omega (arith, more, low, count) in
        let number : n ≡ k = omega (arith, more, low) in
        let is : get_or new k d ≡ x =
        ap (λ (ys : List X). get_or ys k d) pushed ∙ ap (λ (j : ℕ). get_or (xs ++ x ∷ []) j d) there ∙ get_or-append-add xs (x ∷ []) 0 d in
        subst (P k) (sym is) (subst (λ (j : ℕ). P j x) number this)

-- the first chunk is lawful with five inodes in use
chunks_lawful : (v : Volume) (ag : ℕ) → HasGroups v.dblocks v.agblocks v.agcount → HasFirstChunk v
    → IsTrue (are_lawful (ino_shape ag) v None (small_chunks ag))
chunks_lawful v ag groups first = by_case (ag == 0) refl
  where
    start : (ag : ℕ) → ag ≡ 0 → ag * v.agblocks + 16 ≡ 16
    start ag none = rw none (omega arith)

    lies : (ag : ℕ) → ag ≡ 0 → 24 ≤ group_length v ag
    lies ag none = rw none (omega (arith, first_length v groups))

    by_case : (r : Bool) → (ag == 0) ≡ r → IsTrue (are_lawful (ino_shape ag) v None (cond r (five_used ∷ []) []))
    by_case true is =
        let none : ag ≡ 0 = eqb-true ag 0 is in
        both_true
        (both_true
        (both_true (both_true (lt-ltb ag v.agcount (omega (arith, groups.two, none))) (le-leb 24 _ (lies ag none)))
        (all_clear v (ag * v.agblocks + 16) groups first (start ag none)))
        refl)
        refl
    by_case false is = refl

abbrev no_group : GroupInodes
no_group = record { records = [] }

plain : (g : Geometry) (objects : List Object) (groups : List GroupInodes) (n : ℕ) → HasFirstChunk (volume_of g) → AreSmallInodes g.agcount groups
    → AreAsked n objects → IsWritable (small_wanted g objects groups)
plain g objects groups n first are asked =
    let empty = writable g first in
    record {
      asks = asked.asks;
      askers = asked.askers;
      inodes = are.all;
      chunks = λ ag low.
          subst (λ (rs : List InoRec). IsTrue (are_lawful (ino_shape ag) (volume_of g) None rs)) (sym (are.each ag no_group low))
          (chunks_lawful (volume_of g) ag g.shape.groups first);
      owned = empty.owned;
      root = empty.root;
    }

pub small_writable : (g : Geometry) (w : Wanted) (objects : List Object) (n : ℕ) → HasFirstChunk (volume_of g) → IsSmall g objects w → AreAsked n objects → IsWritable w
small_writable g w objects n first small asked = subst IsWritable (sym small.is) (plain g objects small.groups n first small.are asked)

pub small_kept : (g : Geometry) (w : Wanted) (objects : List Object) → HasFirstChunk (volume_of g) → IsSmall g objects w → CanBeKept (volume_of w.geometry) (kept_runs w)
small_kept g w objects first small =
    subst (λ (x : Wanted). CanBeKept (volume_of x.geometry) (kept_runs x)) (sym small.is) (chunk_kept (volume_of g) g.shape.groups first)

numbered : (v : Volume) (slots : List SlotWanted) → AreSmallSlots v 64 slots → AreNumbered 128 slots
numbered v slots are = record { each = λ k d low. are.number k d (omega (arith, low, are.count)) }

chunk_can : (g : Geometry) (slots : List SlotWanted) (block place : ℕ) (old : List ℕ) → AreSmallSlots (volume_of g) 64 slots → block < 8 → place ≡ 16 + block
    → CanCluster (volume_of g) slots place old
chunk_can g slots block place old are few at =
    record {
      each = λ k low.
          let v = volume_of g in
          let inside : 8 * block + k < 64 = omega (arith, few, low) in
          let there : inode_of v place k ≡ 128 + (8 * block + k) = ap (λ (p : ℕ). inode_of v p k) at ∙ chunk_inode v block k g.shape.groups few in
          let is = wanted_is 128 (inode_of v place k) (8 * block + k) slots (unused_slot 0) (numbered v slots are) (omega (arith, inside, are.count)) there in
          slot_can v slots (inode_of v place k) (get_or slots (8 * block + k) (unused_slot 0)) _ is (are.can (8 * block + k) (unused_slot 0) _ inside);
    }

places_can : (g : Geometry) (slots : List SlotWanted) (i : ℕ) (old : List ℕ) → AreSmallSlots (volume_of g) 64 slots → i < length (empty_places g)
    → is_head (volume_of g) (get_or (empty_places g) i 0) ≡ false → CanCluster (volume_of g) slots (get_or (empty_places g) i 0) old
places_can g slots i old are low other = by_case (place_cases g i low)
  where
    by_case : IsHeadAt g i ⊎ IsChunkAt g i → CanCluster (volume_of g) slots (get_or (empty_places g) i 0) old
    by_case (inl head) =
        let none : get_or (empty_places g) i 0 % g.agblocks ≡ 0 = ap (λ (p : ℕ). p % g.agblocks) head.is ∙ mul-mod_left i g.agblocks in
        absurd (eqb-false _ _ other none)
    by_case (inr chunk) = chunk_can g slots chunk.block _ old are chunk.few chunk.is

at_places : (g : Geometry) (slots : List SlotWanted) (places : List ℕ) → AreSmallSlots (volume_of g) 64 slots → places ≡ empty_places g → (i : ℕ) (old : List ℕ)
    → i < length places → is_head (volume_of g) (get_or places i 0) ≡ false → CanCluster (volume_of g) slots (get_or places i 0) old
at_places g slots places are same i old low other =
    let inside : i < length (empty_places g) = omega (arith, ap length same, low) in
    let at = ap (λ (ps : List ℕ). get_or ps i 0) same in
    subst (λ (p : ℕ). CanCluster (volume_of g) slots p old) (sym at)
    (places_can g slots i old are inside (sym (ap (λ (p : ℕ). is_head (volume_of g) p) at) ∙ other))

pub small_bytes : (g : Geometry) (w : Wanted) (objects : List Object) (sector : List ℕ) (s : Stamp) (built : Image) (b : Bytes) → IsSmall g objects w
    → AreSmallBytes g sector s built b → IsAcceptedSector sector → stated_volume sector ≡ volume_of g → AreAsked (length built) objects → HasBytes w b
small_bytes g w objects sector s built b small bytes accepted states asked =
    let empty = has_bytes g sector s bytes.empty bytes.made accepted states in
    subst (λ (x : Wanted). HasBytes x b) (sym small.is)
    (subst (λ (y : Bytes). HasBytes (small_wanted g objects small.groups) y) (sym bytes.is)
    (record {
      accepted = empty.accepted;
      states = empty.states;
      objects = sym asked.count;
      old = empty.old;
      inside = empty.inside;
      order = in_order 128 bytes.slots' (numbered (volume_of g) bytes.slots' bytes.are);
      slots = λ i low other. at_places g bytes.slots' bytes.empty.places bytes.are bytes.made.places' i _ low other;
      cycle = empty.cycle;
    }))
