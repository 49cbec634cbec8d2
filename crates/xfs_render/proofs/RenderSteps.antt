-- A volume, put down step by step.
use Rattle.std.proofs.Common.{◌≡◌, ℕ, ◌+◌, ◌*◌, ◌/◌, ◌%◌, ◌<◌, ◌≤◌, Bool, true, false, not, cond, List, [], ◌∷◌, ◌++◌, length, length-append, take, drop, inl, inr, refl, sym, subst, ap, ap₂, ◌∙◌, arith, append-nil, append_assoc, take_all}
use Rattle.std.specs.List.{filter, flat_map}
use Rattle.std.specs.List.Sorted.{IsPermutation}
use Rattle.std.proofs.lemmas.Bool.{cases_lt, eq-eqb}
use Rattle.std.proofs.lemmas.List.{drop_at, drop-map, length-map, take_at, take-map, take_more}
use Rattle.std.proofs.lemmas.List.Concat.{flat_map-append}
use Rattle.std.proofs.lemmas.List.Elements.{filter-append}
use Rattle.std.proofs.lemmas.Nat.{div-mul-add, div_below, mod-mul-add}
use Rattle.xfs_disk.specs.Blocks.{Image, bytes_of_block}
use Rattle.xfs_geom.specs.Shape.{HasGroups}
use Rattle.xfs_geom.specs.Volumes.{Volume}
use Rattle.xfs_geom.specs.declared.records.InoRec.{InoRec}
use Rattle.xfs_place.specs.Pool.{is_taken}
use Rattle.xfs_place.specs.declared.placed.GroupPlaced.{GroupPlaced}
use Rattle.xfs_place.specs.declared.placed.Placed.{Placed}
use Rattle.xfs_place.specs.declared.wanted.Wanted.{Wanted}
use Rattle.xfs_render.specs.Clusters.{IsClusterBlock}
use Rattle.xfs_writing.specs.declared.rows.Row.{Row}
use Rattle.xfs_render.specs.Drafts.{Adds, AddsBlock, HoldsDraft, IsDraft, row_places}
use Rattle.xfs_render.specs.HeaderBlocks.{IsHeaderBlock}
use Rattle.xfs_render.specs.Objects.{AddsObjects, HasObjects, block_places, object_blocks, object_places}
use Rattle.xfs_render.specs.Plans.{IsArranged, IsOnce}
use Rattle.xfs_render.specs.Rendering.{AddsBlank, AddsGroups, AddsPlaces, IsDueSuper, IsPlaceDue, IsReady, IsRendered, blocks_in_place, fresh_blocks, group_placed, wanted_inodes, is_head, is_put, kept_blocks, log_parts, log_places, new_blocks, no_group, old_at, byte_place, tree_blocks, volume}
use Rattle.xfs_render.specs.Trees.{AddsTrees, HasTrees, group_tree_places}
use Rattle.xfs_render.specs.declared.bytes.Bytes.{Bytes}
use Rattle.xfs_render.specs.declared.draft.Draft.{Draft}
use Rattle.xfs_render.specs.declared.object_blocks.ObjectBlock.{ObjectBlock}
use Rattle.xfs_render.specs.declared.plan.Plan.{Plan}
use Rattle.xfs_render.proofs.DraftSteps.{adds_as, adds_none, adds_then}

-- no row goes
pub grown : (old new : Draft) (places : List ℕ) (n : ℕ) → Adds old new places n → length old.rows.items ≤ length new.rows.items
grown old new places n adds =
    let at = λ (r : Row). r.at in
    let all : length (row_places new.rows.items) ≡ length (row_places old.rows.items) + length places =
    ap length adds.places' ∙ length-append (row_places old.rows.items) places in
    omega (arith, all, length-map old.rows.items at, length-map new.rows.items at)

-- a block of the volume lies in one of its groups
pub group_below : (v : Volume) (place : ℕ) → HasGroups v.dblocks v.agblocks v.agcount → place < v.dblocks → place / v.agblocks < v.agcount
group_below v place shape inside = div_below place v.agblocks v.agcount (omega (arith, shape.large)) (omega (arith, shape.covered, inside))

-- the block at a place whose bytes are at hand lies in one of the groups
pub place_below : (w : Wanted) (p : Placed) (b : Bytes) (i place : ℕ) → place ≡ byte_place b i → i < length b.places → IsReady w p b
    → place / w.geometry.agblocks < w.geometry.agcount
place_below w p b i place at inside ready =
    group_below (volume w) place w.geometry.shape.groups (subst (λ (n : ℕ). n < w.geometry.dblocks) (sym at) (ready.inside i 0 inside))

module _ (w : Wanted) (p : Placed) (b : Bytes) (super : List ℕ) where
  -- the first block of a group
  pub head_due : (i ag : ℕ) (old block : List ℕ) (inodes : List InoRec) (group : GroupPlaced) → 1 ≤ w.geometry.agblocks → byte_place b i % w.geometry.agblocks ≡ 0
      → ag ≡ byte_place b i / w.geometry.agblocks → old ≡ old_at b i → inodes ≡ wanted_inodes w ag → group ≡ group_placed p ag
      → IsHeaderBlock (volume w) ag super old inodes group block → IsPlaceDue w p b super i block
  head_due i ag old block inodes group some head is_ag is_old is_inodes is_group due =
      let first = subst (λ (x : List ℕ). IsHeaderBlock (volume w) ag super x inodes group block) is_old due in
      let second = subst (λ (x : List InoRec). IsHeaderBlock (volume w) ag super (old_at b i) x group block) is_inodes first in
      let third = subst (λ (x : GroupPlaced). IsHeaderBlock (volume w) ag super (old_at b i) (wanted_inodes w ag) x block) is_group second in
      record {
        heads = λ other at.
            let here : (other * w.geometry.agblocks + 0) / w.geometry.agblocks ≡ other = div-mul-add other w.geometry.agblocks 0 (omega (arith, some)) in
            let place : other * w.geometry.agblocks + 0 ≡ byte_place b i = omega (arith, at) in
            let same : ag ≡ other = is_ag ∙ ap (λ n. n / w.geometry.agblocks) (sym place) ∙ here in
            subst (λ (n : ℕ). IsHeaderBlock (volume w) n super (old_at b i) (wanted_inodes w n) (group_placed p n) block) same third;
        clusters = λ no.
            let yes : is_head (volume w) (byte_place b i) ≡ true = eq-eqb _ 0 head in
            absurd (true_false (sym yes ∙ no));
      }
    where
      true_false : true ≡ false → ⊥
      true_false e = cc

  -- a block of a cluster
  pub cluster_due : (i : ℕ) (old block : List ℕ) → 1 ≤ w.geometry.agblocks → (byte_place b i % w.geometry.agblocks ≡ 0 → ⊥) → old ≡ old_at b i
      → IsClusterBlock (volume w) b.stamp.generation b.slots (byte_place b i) old block → IsPlaceDue w p b super i block
  cluster_due i old block some other is_old due = record {
    heads = λ ag at.
        let here : (ag * w.geometry.agblocks + 0) % w.geometry.agblocks ≡ 0 = mod-mul-add ag w.geometry.agblocks 0 (omega (arith, some)) in
        let place : ag * w.geometry.agblocks + 0 ≡ byte_place b i = omega (arith, at) in
        absurd (other (ap (λ n. n % w.geometry.agblocks) (sym place) ∙ here));
    clusters = λ no. subst (λ (x : List ℕ). IsClusterBlock (volume w) b.stamp.generation b.slots (byte_place b i) x block) is_old due;
  }

  -- a place is put down where it is one of those that are
  put_yes : (new : Bool) (place : ℕ) → is_taken w.new place ≡ new → is_put w new place ≡ true
  put_yes true place is = is
  put_yes false place is = ap not is

  -- one place more: its block is put down, or it is not
  pub adds_put : (new : Bool) (i : ℕ) (block : List ℕ) (old now : Draft) → is_put w new (byte_place b i) ≡ true → AddsBlock old now (byte_place b i) block
      → IsPlaceDue w p b super i block → AddsPlaces w p b super new i (i + 1) (byte_place b i ∷ []) old now
  adds_put new i block old now put added due =
      let x = byte_place b i in
      let yes : filter (is_put w new) (x ∷ []) ≡ x ∷ [] = ap (λ (t : Bool). cond t (x ∷ []) []) put in
      record {
        adds = adds_as old now (x ∷ []) (filter (is_put w new) (x ∷ [])) 1 (length (filter (is_put w new) (x ∷ []))) (sym yes) (ap length (sym yes)) added.adds;
        due = λ image held j low high is.
            let same : i ≡ j = omega (arith, low, high) in
            let here = subst (λ (y : List ℕ). IsPlaceDue w p b super i y) (sym (added.held image held)) due in
            subst (λ (n : ℕ). IsPlaceDue w p b super n (bytes_of_block image (byte_place b n))) same here;
      }

  pub adds_not : (new : Bool) (i : ℕ) (old : Draft) → is_put w new (byte_place b i) ≡ false → IsDraft old → AddsPlaces w p b super new i (i + 1) (byte_place b i ∷ []) old old
  adds_not new i old other was =
      let x = byte_place b i in
      let no : filter (is_put w new) (x ∷ []) ≡ [] = ap (λ (t : Bool). cond t (x ∷ []) []) other in
      record {
        adds = adds_as old old [] (filter (is_put w new) (x ∷ [])) 0 (length (filter (is_put w new) (x ∷ []))) (sym no) (ap length (sym no)) (adds_none old was);
        due = λ image held j low high is.
            let same : j ≡ i = omega (arith, low, high) in
            let yes : is_put w new x ≡ true = put_yes new x (ap (λ (n : ℕ). is_taken w.new (byte_place b n)) (sym same) ∙ is) in
            absurd (true_false (sym yes ∙ other));
      }
    where
      true_false : true ≡ false → ⊥
      true_false e = cc

  -- no place, and one place more
  pub places_none : (new : Bool) (old : Draft) → IsDraft old → AddsPlaces w p b super new 0 0 [] old old
  places_none new old was = record {
    adds = adds_none old was;
    due = λ image held j low high is. absurd (omega (arith, high));
  }

  pub places_more : (new : Bool) (i : ℕ) (old mid now : Draft) → i < length b.places → AddsPlaces w p b super new 0 i (take i b.places) old mid
      → AddsPlaces w p b super new i (i + 1) (byte_place b i ∷ []) mid now → AddsPlaces w p b super new 0 (i + 1) (take (i + 1) b.places) old now
  places_more new i old mid now inside first next =
      let put = is_put w new in
      let front = take i b.places in
      let x = byte_place b i in
      let more : take (i + 1) b.places ≡ front ++ x ∷ [] = take_more b.places i 0 inside in
      let all : filter put front ++ filter put (x ∷ []) ≡ filter put (take (i + 1) b.places) = sym (filter-append put front (x ∷ [])) ∙ ap (filter put) (sym more) in
      record {
        adds = adds_as old now (filter put front ++ filter put (x ∷ [])) (filter put (take (i + 1) b.places)) (length (filter put front) + length (filter put (x ∷ [])))
            (length (filter put (take (i + 1) b.places))) all (sym (length-append (filter put front) (filter put (x ∷ []))) ∙ ap length all)
            (adds_then old mid now (filter put front) (filter put (x ∷ [])) (length (filter put front)) (length (filter put (x ∷ []))) first.adds next.adds);
        due = λ image held j low high is. elim (cases_lt j i) [
          | inl early ↦ first.due image (next.adds.before image held) j low early is
          | inr late ↦ next.due image held j late high is
        ];
      }

  -- no group, and one group more
  pub groups_none : (draft : Draft) → IsDraft draft → AddsGroups w p 0 draft draft
  groups_none draft was = record { adds = adds_none draft was; reads = λ image held ag low. absurd (omega (arith, low)) }

  pub groups_more : (n : ℕ) (a c d : Draft) (inodes : List InoRec) (group : GroupPlaced) → n < length p.groups → inodes ≡ wanted_inodes w n → group ≡ group_placed p n
      → AddsGroups w p n a c → AddsTrees (volume w) n inodes group c d → AddsGroups w p (n + 1) a d
  groups_more n a c d inodes group inside is_inodes is_group first next =
      let named = subst (λ (x : GroupPlaced). AddsTrees (volume w) n (wanted_inodes w n) x c d) is_group
      (subst (λ (x : List InoRec). AddsTrees (volume w) n x group c d) is_inodes next) in
      let front = take n p.groups in
      let g = group_placed p n in
      let more : take (n + 1) p.groups ≡ front ++ g ∷ [] = take_more p.groups n no_group inside in
      let alone : flat_map group_tree_places (g ∷ []) ≡ group_tree_places g = append-nil (group_tree_places g) in
      let some = flat_map group_tree_places front in
      let both = adds_then a c d some (group_tree_places g) (length some) (length (group_tree_places g)) first.adds named.adds in
      let all : some ++ group_tree_places g ≡ flat_map group_tree_places (take (n + 1) p.groups) =
      ap (λ (xs : List ℕ). some ++ xs) (sym alone) ∙ sym (flat_map-append group_tree_places front (g ∷ [])) ∙ ap (flat_map group_tree_places) (sym more) in
      record {
        adds = adds_as a d (some ++ group_tree_places g) (flat_map group_tree_places (take (n + 1) p.groups)) (length some + length (group_tree_places g))
            (length (flat_map group_tree_places (take (n + 1) p.groups))) all (sym (length-append some (group_tree_places g)) ∙ ap length all) both;
        reads = λ image held k low. elim (cases_lt k n) [
          | inl early ↦ first.reads image (named.adds.before image held) k early
          | inr late ↦
              let same : n ≡ k = omega (arith, low, late) in
              subst (λ (m : ℕ). HasTrees (volume w) image m (wanted_inodes w m) (group_placed p m)) same (named.reads image held)
        ];
      }

  -- each place was put down among those of new chunks, or among the others
  all_due : (image : Image) (a c d e : Draft) → AddsPlaces w p b super true 0 (length b.places) b.places a c → AddsPlaces w p b super false 0 (length b.places) b.places d e
      → HoldsDraft image c → HoldsDraft image e → (i : ℕ) → i < length b.places → IsPlaceDue w p b super i (bytes_of_block image (byte_place b i))
  all_due image a c d e new kept in_c in_e i inside = by_case (is_taken w.new (byte_place b i)) refl
    where
      by_case : (t : Bool) → is_taken w.new (byte_place b i) ≡ t → IsPlaceDue w p b super i (bytes_of_block image (byte_place b i))
      by_case true is = new.due image in_c i (omega arith) inside is
      by_case false is = kept.due image in_e i (omega arith) inside is

  -- all that was put down, in order
  pub rendered : (none f1 f2 f3 r1 r2 : Draft) (objects : List ObjectBlock) (plan : Plan) → none.rows.items ≡ [] → none.bank ≡ [] → length p.groups ≡ w.geometry.agcount
      → objects ≡ object_blocks w p → IsDueSuper w p b super → AddsGroups w p w.geometry.agcount none f1 → AddsObjects (volume w) objects b.objects (length objects) f1 f2
      → AddsPlaces w p b super true 0 (length b.places) b.places f2 f3 → AddsPlaces w p b super false 0 (length b.places) b.places f3 r1
      → AddsBlank w b.cycle r1 r2 → IsArranged r2 (length f3.rows.items) plan → IsRendered w p b plan
  rendered none f1 f2 f3 r1 r2 objects plan empty empty_bank all listed due groups blocks new kept blank arranged =
      let whole : take w.geometry.agcount p.groups ≡ p.groups = take_all w.geometry.agcount p.groups (omega (arith, all)) in
      let some : flat_map group_tree_places (take w.geometry.agcount p.groups) ≡ tree_blocks p = ap (flat_map group_tree_places) whole in
      let every : block_places (take (length objects) objects) ≡ object_places w p =
      ap block_places (take_all (length objects) objects (omega arith)) ∙ ap block_places listed in
      let trees : row_places f1.rows.items ≡ tree_blocks p =
      groups.adds.places' ∙ ap (λ (rows : List Row). row_places rows ++ flat_map group_tree_places (take w.geometry.agcount p.groups)) empty ∙ some in
      let second : row_places f2.rows.items ≡ tree_blocks p ++ object_places w p =
      blocks.adds.places' ∙ ap₂ (λ (xs ys : List ℕ). xs ++ ys) trees every in
      let fresh : row_places f3.rows.items ≡ fresh_blocks w p b =
      new.adds.places' ∙ ap (λ (xs : List ℕ). xs ++ new_blocks w b) second ∙ append_assoc (tree_blocks p) (object_places w p) (new_blocks w b) in
      let behind : row_places r2.rows.items ≡ row_places f3.rows.items ++ blocks_in_place w b =
      blank.adds.places' ∙ ap (λ (xs : List ℕ). xs ++ log_places w b.cycle) kept.adds.places' ∙ append_assoc (row_places f3.rows.items) (kept_blocks w b) (log_places w b.cycle) in
      let long : length f3.rows.items ≡ length (row_places f3.rows.items) = sym (length-map f3.rows.items (λ (r : Row). r.at)) in
      let front : row_places (take (length f3.rows.items) r2.rows.items) ≡ fresh_blocks w p b =
      sym (take-map (λ (r : Row). r.at) (length f3.rows.items) r2.rows.items) ∙ ap₂ (λ (n : ℕ) (xs : List ℕ). take n xs) long behind
      ∙ take_front (row_places f3.rows.items) (blocks_in_place w b) ∙ fresh in
      let back : row_places (drop (length f3.rows.items) r2.rows.items) ≡ blocks_in_place w b =
      sym (drop-map (λ (r : Row). r.at) (length f3.rows.items) r2.rows.items) ∙ ap₂ (λ (n : ℕ) (xs : List ℕ). drop n xs) long behind
      ∙ drop_front (row_places f3.rows.items) (blocks_in_place w b) in
      let c0 : length none.bank ≡ 0 = ap length empty_bank in
      let c1 : length f1.bank ≡ length none.bank + length (flat_map group_tree_places (take w.geometry.agcount p.groups)) = groups.adds.count in
      let c2 : length f2.bank ≡ length f1.bank + length objects = blocks.adds.count in
      let c3 : length f3.bank ≡ length f2.bank + length (new_blocks w b) = new.adds.count in
      let c4 : length r1.bank ≡ length f3.bank + length (kept_blocks w b) = kept.adds.count in
      let c5 : length r2.bank ≡ length r1.bank + log_parts b.cycle = blank.adds.count in
      let d1 : length (flat_map group_tree_places (take w.geometry.agcount p.groups)) ≡ length (tree_blocks p) = ap length some in
      let d2 : length (object_places w p) ≡ length objects = ap length (ap block_places (sym listed)) ∙ length-map objects (λ (at : ObjectBlock). at.place) in
      let d3 : length (fresh_blocks w p b) ≡ length (tree_blocks p) + length (object_places w p ++ new_blocks w b) = length-append (tree_blocks p) (object_places w p ++ new_blocks w b) in
      let d4 : length (object_places w p ++ new_blocks w b) ≡ length (object_places w p) + length (new_blocks w b) = length-append (object_places w p) (new_blocks w b) in
      let bank : length plan.bank ≡ length r2.bank = ap length arranged.bank' in
      let sum : length plan.bank ≡ length (fresh_blocks w p b) + length (kept_blocks w b) + log_parts b.cycle =
      omega (arith, bank, c0, c1, c2, c3, c4, c5, d1, d2, d3, d4) in
      record {
        super = super;
        due = due;
        fresh = subst (λ (xs : List ℕ). IsPermutation xs (row_places plan.fresh)) front arranged.fresh';
        in_place = subst (λ (xs : List ℕ). IsPermutation xs (row_places plan.in_place)) back arranged.in_place';
        fresh_ascend = λ once. arranged.fresh_ascend (subst IsOnce (sym front) once);
        in_place_ascend = λ once. arranged.in_place_ascend (subst IsOnce (sym back) once);
        apart = λ once. arranged.apart (subst IsOnce (sym (ap₂ (λ (xs ys : List ℕ). xs ++ ys) front back)) once);
        inside = arranged.inside;
        count = sum;
        reads = λ image held.
            let in_r2 = arranged.held image held in
            let in_r1 = blank.adds.before image in_r2 in
            let in_f3 = kept.adds.before image in_r1 in
            let in_f2 = new.adds.before image in_f3 in
            record {
              trees = groups.reads image (blocks.adds.before image in_f2);
              objects = subst (λ (xs : List ObjectBlock). HasObjects (volume w) xs b.objects (length xs) image) listed (blocks.reads image in_f2);
              places = all_due image f2 f3 f3 r1 new kept in_f3 in_r1;
              log = blank.reads image in_r2;
            };
      }
    where
      take_front : (xs ys : List ℕ) → take (length xs) (xs ++ ys) ≡ xs
      take_front xs ys = take_at xs ys (length xs) refl

      drop_front : (xs ys : List ℕ) → drop (length xs) (xs ++ ys) ≡ ys
      drop_front xs ys = drop_at xs ys (length xs) refl
