-- Two images of one size that have what is placed for one request, made of the same bytes, are one, where the blocks that are not
-- planned are those of one first image.
use Rattle.std.proofs.Common.{◌≡◌, ℕ, ◌+◌, ◌-◌, ◌<◌, ◌==◌, ◌||◌, Bool, true, false, not, List, [], ◌++◌, length, get_or, Option, Some, None, MatchOption, inl, inr, refl, sym, ap, ap₂, ◌∙◌, subst, arith}
use Rattle.std.specs.List.{count_by, flat_map}
use Rattle.std.proofs.lemmas.Bool.{eqb-true}
use Rattle.std.proofs.lemmas.List.{get_or_default, same_lists}
use Rattle.std.proofs.lemmas.List.Elements.{recursion_from_All}
use Rattle.std.proofs.lemmas.List.Folds.{list_any-append}
use Rattle.std.proofs.lemmas.List.Sorted.{list_any-IsPermutation}
use Rattle.xfs_disk.specs.Blocks.{Image, IsImage, bytes_of_block}
use Rattle.xfs_empty.specs.Planning.{StandsFor}
use Rattle.xfs_geom.specs.Writing.{IsSuperOf}
use Rattle.xfs_geom.specs.declared.records.Counts.{Counts}
use Rattle.xfs_place.specs.Pool.{is_listed, is_taken}
use Rattle.xfs_place.specs.declared.placed.GroupPlaced.{GroupPlaced}
use Rattle.xfs_place.specs.declared.placed.Placed.{Placed}
use Rattle.xfs_place.specs.declared.wanted.Wanted.{Wanted}
use Rattle.xfs_views.proofs.Members.{Member, any_member, contains, filter_member, map_member, member_all, member_either, row_member}
use Rattle.xfs_mend.specs.xfs_rebuild.Rebuilds.{IsLeft}
use Rattle.xfs_mend.specs.xfs_rebuild.declared.planning.Rebuilt.{Rebuilt}
use Rattle.xfs_render.specs.Clusters.{CanCluster}
use Rattle.xfs_render.specs.Drafts.{row_places}
use Rattle.xfs_render.specs.HeaderBlocks.{IsHeaderBlock}
use Rattle.xfs_render.specs.Logs.{IsBlankLog}
use Rattle.xfs_render.specs.Objects.{HasObjects, IsObjectBlock, block_places, object_blocks, object_places}
use Rattle.xfs_render.specs.Plans.{HoldsPlan, planned}
use Rattle.xfs_render.specs.Rendering.{HasVolume, IsDueSuper, IsRendered, blocks_in_place, byte_place, fresh_blocks, group_placed, is_head, kept_blocks, log_places, new_blocks, no_group, old_at, tree_blocks, volume, wanted_inodes}
use Rattle.xfs_render.specs.Trees.{HasTrees, group_tree_places}
use Rattle.xfs_render.specs.declared.bytes.Bytes.{Bytes}
use Rattle.xfs_render.specs.declared.object_blocks.ObjectBlock.{ObjectBlock}
use Rattle.xfs_render.specs.declared.plan.Plan.{Plan}
use Rattle.xfs_settled.specs.Sectors.{CanBeSealed}
use Rattle.xfs_settled.proofs.BlankLogs.{log_one}
use Rattle.xfs_settled.proofs.CountsOnce.{all_blocks, blocks_written, is_changed, written_counted}
use Rattle.xfs_settled.proofs.ObjectBlocks.{object_one}
use Rattle.xfs_settled.proofs.PlacedOnce.{counts_one, placed_one}
use Rattle.xfs_settled.proofs.Sharing.{place_one}
use Rattle.xfs_settled.proofs.TreeGroups.{image_sized, tree_blocks_one}

-- a listed number is one of the list
pub listed_member : (xs : List ℕ) (k : ℕ) → is_listed xs k ≡ true → Member k xs
unfolding is_listed
listed_member xs k is =
    let one = any_member (λ (x : ℕ). x == k) xs is in
    subst (λ (n : ℕ). Member n xs) (eqb-true one.0 k one.2) one.1

pub listed_is : (w : Wanted) (p : Placed) (b : Bytes) (plan : Plan) → IsRendered w p b plan → (k : ℕ) → is_listed (planned plan) k ≡ is_listed (all_blocks w p b) k
unfolding is_listed
listed_is w p b plan is k =
    let test : ℕ → Bool = λ x. x == k in
    let fresh = list_any-IsPermutation test (fresh_blocks w p b) (row_places plan.fresh) is.fresh in
    let in_place = list_any-IsPermutation test (blocks_in_place w b) (row_places plan.in_place) is.in_place in
    list_any-append test (row_places plan.fresh) (row_places plan.in_place)
    ∙ ap₂ (λ (x y : Bool). x || y) (sym fresh) (sym in_place)
    ∙ sym (list_any-append test (fresh_blocks w p b) (blocks_in_place w b))

-- what is wanted of the slots of the blocks at hand can be made of them
abbrev pub CanServe : Wanted → Bytes → Type 0
CanServe w b = (i : ℕ) → i < length b.places → is_head (volume w) (byte_place b i) ≡ false → CanCluster (volume w) b.slots (byte_place b i) (old_at b i)

-- the bytes that were built for blocks of objects can be sealed
abbrev pub CanSeal : List ObjectBlock → Image → Type 0
CanSeal blocks built = (j : ℕ) (d : ObjectBlock) → j < length blocks → CanBeSealed (get_or blocks j d).kind (get_or built j [])

-- two images have the same blocks of trees
abbrev SharesTrees : ℕ → List ℕ → Image → Image → Type 0
SharesTrees blocks places one two = (k : ℕ) → k < blocks → Member k places → bytes_of_block one k ≡ bytes_of_block two k

module _ (w : Wanted) (p : Placed) (b : Bytes) (super other : List ℕ) (blocks : ℕ) (one two : Image) (wa : IsImage blocks one) (wb : IsImage blocks two) (da : IsDueSuper w p b super)
    (db : IsDueSuper w p b other) (ha : HasVolume w p b super one) (hb : HasVolume w p b other two) (serve : CanServe w b) (seal : CanSeal (object_blocks w p) b.objects)
    (trees : SharesTrees blocks (tree_blocks p) one two) where
  abbrev Same : ℕ → Type 0
  Same k = bytes_of_block one k ≡ bytes_of_block two k

  same_object : (k : ℕ) → k < blocks → Member k (object_places w p) → Same k
  same_object k low is =
      let at = map_member (λ (o : ObjectBlock). o.place) k (object_blocks w p) is in
      let row = contains at.0 (object_blocks w p) at.1 in
      let built : List ℕ = get_or b.objects row.0 [] in
      let here : at.0.place < blocks = subst (λ (n : ℕ). n < blocks) (sym at.2) low in
      let first : IsObjectBlock (volume w) at.0 built (bytes_of_block one at.0.place) =
      subst (λ (o : ObjectBlock). IsObjectBlock (volume w) o built (bytes_of_block one o.place)) row.2 (ha.objects.each row.0 at.0 row.1) in
      let second : IsObjectBlock (volume w) at.0 built (bytes_of_block two at.0.place) =
      subst (λ (o : ObjectBlock). IsObjectBlock (volume w) o built (bytes_of_block two o.place)) row.2 (hb.objects.each row.0 at.0 row.1) in
      let sealed : CanBeSealed at.0.kind built = subst (λ (o : ObjectBlock). CanBeSealed o.kind built) row.2 (seal row.0 at.0 row.1) in
      subst Same at.2
      (object_one (volume w) at.0 built (bytes_of_block one at.0.place) (bytes_of_block two at.0.place) (image_sized blocks one wa at.0.place here)
      (image_sized blocks two wb at.0.place here) sealed first second)

  same_place : (k : ℕ) → k < blocks → Member k b.places → Same k
  same_place k low is =
      let row = contains k b.places is in
      let at : byte_place b row.0 ≡ k = get_or_default b.places row.0 0 k row.1 ∙ row.2 in
      let here : byte_place b row.0 < blocks = subst (λ (n : ℕ). n < blocks) (sym at) low in
      subst Same at
      (place_one w p b super other one two serve da db ha hb row.0 row.1 (image_sized blocks one wa (byte_place b row.0) here) (image_sized blocks two wb (byte_place b row.0) here))

  same_log : (cycle : Option ℕ) → MatchOption cycle (Unit {0}) (λ n. IsBlankLog (volume w) n one) → MatchOption cycle (Unit {0}) (λ n. IsBlankLog (volume w) n two)
      → (k : ℕ) → k < blocks → Member k (log_places w cycle) → Same k
  same_log None la lb k low is = absurd is
  same_log (Some n) la lb k low is =
      let row = row_member k w.geometry.log w.geometry.logblocks is in
      let i : ℕ = k - w.geometry.log in
      let at : w.geometry.log + i ≡ k = omega (arith, row.low) in
      let few : i < w.geometry.logblocks = omega (arith, row.low, row.high) in
      let here : w.geometry.log + i < blocks = subst (λ (n : ℕ). n < blocks) (sym at) low in
      subst Same at
      (log_one (volume w) n one two la lb i few (image_sized blocks one wa (w.geometry.log + i) here) (image_sized blocks two wb (w.geometry.log + i) here))

  same_fresh : (k : ℕ) → k < blocks → Member k (fresh_blocks w p b) → Same k
  same_fresh k low is = elim (member_either k (tree_blocks p) (object_places w p ++ new_blocks w b) is) [
    | inl tree ↦ trees k low tree
    | inr rest ↦ elim (member_either k (object_places w p) (new_blocks w b) rest) [
      | inl object ↦ same_object k low object
      | inr put ↦ same_place k low (filter_member (is_taken w.new) k b.places put).0
    ]
  ]

  same_in_place : (k : ℕ) → k < blocks → Member k (blocks_in_place w b) → Same k
  same_in_place k low is = elim (member_either k (kept_blocks w b) (log_places w b.cycle) is) [
    | inl kept ↦ same_place k low (filter_member (λ place. not (is_taken w.new place)) k b.places kept).0
    | inr log ↦ same_log b.cycle ha.log hb.log k low log
  ]

  pub planned_one : (k : ℕ) → k < blocks → Member k (all_blocks w p b) → Same k
  planned_one k low is = elim (member_either k (fresh_blocks w p b) (blocks_in_place w b) is) [
    | inl fresh ↦ same_fresh k low fresh
    | inr put ↦ same_in_place k low put
  ]

-- what is placed, given by its groups, its counts and the blocks of its objects
module _ (w : Wanted) (p q : Placed) (b : Bytes) (groups : q.groups ≡ p.groups) (counts : q.counts ≡ p.counts) (objects : object_blocks w q ≡ object_blocks w p) where
  pub same_super : (super : List ℕ) → IsDueSuper w q b super → IsDueSuper w p b super
  same_super super is = record { written = subst (λ (c : Counts). IsSuperOf b.sector c super) counts is.written; accepted = is.accepted; states = is.states }

  placed_at : (ag : ℕ) → group_placed q ag ≡ group_placed p ag
  placed_at ag = ap (λ (gs : List GroupPlaced). get_or gs ag no_group) groups

  pub same_volume : (super : List ℕ) (image : Image) → HasVolume w q b super image → HasVolume w p b super image
  same_volume super image is = record {
    trees = λ ag low. subst (λ (x : GroupPlaced). HasTrees (volume w) image ag (wanted_inodes w ag) x) (placed_at ag) (is.trees ag low);
    objects = subst (λ (os : List ObjectBlock). HasObjects (volume w) os b.objects (length os) image) objects is.objects;
    places = λ i low. record {
      heads = λ ag at.
          subst (λ (x : GroupPlaced). IsHeaderBlock (volume w) ag super (old_at b i) (wanted_inodes w ag) x (bytes_of_block image (byte_place b i))) (placed_at ag)
          ((is.places i low).heads ag at);
      clusters = (is.places i low).clusters;
    };
    log = is.log;
  }

  pub same_blocks : all_blocks w q b ≡ all_blocks w p b
  same_blocks =
      let trees : tree_blocks q ≡ tree_blocks p = ap (flat_map group_tree_places) groups in
      λ i. (trees i ++ (block_places (objects i) ++ new_blocks w b)) ++ blocks_in_place w b

-- what was written of a plan for a request, of which so much was left to write
pub record IsPut (w : Wanted) (p : Placed) (b : Bytes) (r : Rebuilt) (image now : Image) : Type 0 where
  pub stands : StandsFor w p
  pub plan : Plan
  pub rendered : IsRendered w p b plan
  pub holds : HoldsPlan now plan
  pub others : (block : ℕ) → is_listed (planned plan) block ≡ false → bytes_of_block now block ≡ bytes_of_block image block
  pub left : IsLeft image plan r

-- two images are the same, and as many blocks were written for both
pub record IsSameWork (r q : Rebuilt) (now other : Image) : Type 0 where
  pub image' : now ≡ other
  pub blocks' : blocks_written r ≡ blocks_written q

module _ (w : Wanted) (p q : Placed) (b : Bytes) (ra rb : Rebuilt) (blocks : ℕ) (image one two : Image) (wa : IsImage blocks one) (wb : IsImage blocks two) (pa : IsPut w p b ra image one)
    (pb : IsPut w q b rb image two) (objects : object_blocks w q ≡ object_blocks w p) (serve : CanServe w b) (seal : CanSeal (object_blocks w p) b.objects) where
  groups : q.groups ≡ p.groups
  groups = sym (placed_one w p q pa.stands pb.stands)

  counts : q.counts ≡ p.counts
  counts = sym (counts_one w p q pa.stands pb.stands)

  first_volume : HasVolume w p b pa.rendered.super one
  first_volume = pa.rendered.reads one pa.holds

  second_volume : HasVolume w p b pb.rendered.super two
  second_volume = same_volume w p q b groups counts objects pb.rendered.super two (pb.rendered.reads two pb.holds)

  planned_alike : (k : ℕ) → is_listed (planned pb.plan) k ≡ is_listed (planned pa.plan) k
  planned_alike k =
      listed_is w q b pb.plan pb.rendered k
      ∙ ap (λ (xs : List ℕ). is_listed xs k) (same_blocks w p q b groups counts objects)
      ∙ sym (listed_is w p b pa.plan pa.rendered k)

  trees : SharesTrees blocks (tree_blocks p) one two
  trees k low is =
      let Same : ℕ → Type 0 = λ k. bytes_of_block one k ≡ bytes_of_block two k in
      member_all Same k (tree_blocks p)
      (recursion_from_All Same (tree_blocks p) (tree_blocks_one w p blocks one two pa.stands wa wb first_volume.trees second_volume.trees)) is

  same_block : (k : ℕ) → k < blocks → bytes_of_block one k ≡ bytes_of_block two k
  same_block k low = by_case (is_listed (planned pa.plan) k) refl
    where
      by_case : (t : Bool) → is_listed (planned pa.plan) k ≡ t → bytes_of_block one k ≡ bytes_of_block two k
      by_case true is =
          planned_one w p b pa.rendered.super pb.rendered.super blocks one two wa wb pa.rendered.due (same_super w p q b groups counts objects pb.rendered.super pb.rendered.due) first_volume second_volume
          serve seal trees k low (listed_member (all_blocks w p b) k (sym (listed_is w p b pa.plan pa.rendered k) ∙ is))
      by_case false is = pa.others k is ∙ sym (pb.others k (planned_alike k ∙ is))

  images_one : one ≡ two
  images_one = same_lists one two (wa.count ∙ sym wb.count) (λ k d within.
      let low : k < blocks = omega (arith, within, wa.count) in
      let room : k < length two = omega (arith, low, wb.count) in
      get_or_default one k d [] within ∙ same_block k low ∙ get_or_default two k [] d room)

  pub works_one : IsSameWork ra rb one two
  works_one =
      let all : all_blocks w p b ≡ all_blocks w q b = sym (same_blocks w p q b groups counts objects) in
      record {
        image' = images_one;
        blocks' =
            written_counted image one w p b pa.plan ra pa.rendered pa.left pa.holds
            ∙ (λ i. count_by (is_changed image (images_one i)) (all i))
            ∙ sym (written_counted image two w q b pb.plan rb pb.rendered pb.left pb.holds);
      }
