-- A group that is placed can be written, and so can all groups of a volume.
use Rattle.std.proofs.Common.{◌≡◌, ℕ, ◌+◌, ◌-◌, ◌*◌, ◌^◌, ◌<◌, ◌≤◌, ◌==◌, inl, inr, Bool, true, false, ◌&&◌, ◌||◌, nat_le, if◌then◌else◌, List, [], ◌∷◌, ◌++◌, length, get_or, map, Some, None, Ok, refl, sym, ap, ◌∙◌, subst, arith}
use Rattle.std.specs.Prelude.{IsTrue}
use Rattle.std.specs.List.{All, sum}
use Rattle.std.proofs.lemmas.Bool.{cases_lt, eqb-true, eqb-false, true≢false}
use Rattle.std.proofs.lemmas.List.{get_or-map, length-map}
use Rattle.std.proofs.lemmas.List.Elements.{All-drop, All-from_get_or, All-weaker}
use Rattle.std.proofs.Math.Nat.{mul-le-mul_right}
use Rattle.xfs_geom.specs.Sums.{has_free}
use Rattle.xfs_geom.specs.Conversions.{group_length, is_fixed}
use Rattle.xfs_geom.specs.Shape.{HasGroups, HasLog}
use Rattle.xfs_geom.specs.Volumes.{Volume}
use Rattle.xfs_geom.specs.declared.records.InoRec.{InoRec}
use Rattle.xfs_geom.specs.declared.records.Run.{Run}
use Rattle.xfs_kinds.specs.FreeRuns.{is_in_spans}
use Rattle.xfs_kinds.specs.FreeTrees.{bno_shape, cnt_shape}
use Rattle.xfs_kinds.specs.InodeTrees.{ino_shape, fino_shape}
use Rattle.xfs_kinds.specs.OwnerTrees.{rmap_shape}
use Rattle.xfs_tree.specs.Rules.{are_lawful, can_hold, is_of_root_cluster}
use Rattle.xfs_tree.specs.Shape.{Shape}
use Rattle.xfs_treebuild.specs.Size.{rows_of}
use Rattle.xfs_volume.specs.declared.groups.TreeBlocks.{TreeBlocks}
use Rattle.xfs_place.proofs.AllClaims.{all_each, is_volume}
use Rattle.xfs_place.proofs.GroupIs.{group_is, length_uses}
use Rattle.xfs_place.proofs.ListedRows.{open_inside}
use Rattle.xfs_place.proofs.Ordered.{claims_few}
use Rattle.xfs_place.proofs.Spanned.{separate_few}
use Rattle.xfs_place.specs.Choice.{Group, IsChosenCount, is_spare, need, owned_at, rank, space_blocks}
use Rattle.xfs_place.specs.Claims.{IsClaimedRun}
use Rattle.xfs_place.specs.Placing.{IsPlacedGroup, inner_blocks, run_of_record, tree_sizes}
use Rattle.xfs_place.specs.Pool.{is_open, is_pool, is_taken, use_at}
use Rattle.xfs_place.specs.Standing.{IsOfPool}
use Rattle.xfs_place.specs.Wanted.{CanBeKept, claim_in, group_in, uses_in}
use Rattle.xfs_place.specs.declared.placed.GroupPlaced.{GroupPlaced}
use Rattle.xfs_place.specs.declared.uses.Use.{Use}
use Rattle.xfs_place.specs.declared.uses.Use.TheVariants.{Claimed}
use Rattle.xfs_render.specs.Groups.{CanPack, IsSoundGroup, no_tree, tree_places}
use Rattle.xfs_render.specs.Readiness.{HasOwner}
use Rattle.xfs_render.proofs.LawfulChunks.{chunks_few, chunks_kept}
use Rattle.xfs_render.proofs.LawfulOwners.{IsWord, claim_owned, fixed_owned, owners_lawful, placed_owned}
use Rattle.xfs_render.proofs.LawfulRuns.{as_many, lengths_lawful, runs_lawful}
use Rattle.xfs_render.proofs.TreePlaces.{IsOpen, all_of_cut, all_of_list, all_of_tree, list_listable, open_holds, pool_parts, tree_different}

-- a block of the group, by its AG block
abbrev IsAt : Volume → ℕ → ℕ → Type 0
IsAt v ag block = (at : ℕ) × (at < group_length v ag) × (block ≡ ag * v.agblocks + at)

-- what holds of a group that is placed
record IsGiven (v : Volume) (kept : List Run) (reserved : List ℕ) (ag : ℕ) (inodes : List InoRec) (p : GroupPlaced) : Type 0 where
  there : ag < v.agcount
  some : 1 ≤ group_length v ag
  short : group_length v ag ≤ v.agblocks
  inside : ag * v.agblocks + group_length v ag ≤ v.dblocks
  few : group_length v ag ≤ 2 ^ 26
  header : use_at (uses_in v kept reserved ag) 0 ≡ Claimed
  words : (b o w : ℕ) → claim_in v kept ag b ≡ Some (o, w) → IsWord o w
  root : (b : ℕ) → is_of_root_cluster v b ≡ true → is_taken kept b ≡ true
  chunks : IsTrue (are_lawful (ino_shape ag) v None inodes)
  placed : IsPlacedGroup (group_in v kept reserved ag (inner_blocks inodes)) (ag * v.agblocks) inodes p
  pool : IsOfPool v kept reserved (ag * v.agblocks) inodes p

module _ (v : Volume) (kept : List Run) (reserved : List ℕ) (ag : ℕ) (inodes : List InoRec) (p : GroupPlaced) (is : IsGiven v kept reserved ag inodes p) where
  small : group_length v ag < 2 ^ 32
  small = omega (arith, is.few)

  -- no free run has a block behind the group, or its first
  far : (b : ℕ) → group_length v ag ≤ b → is_in_spans p.bno b ≡ false
  far b past = is.placed.bno.inside b (omega (arith, past, length_uses v kept reserved ag))

  none : is_in_spans p.bno 0 ≡ false
  none =
      let n = length is.placed.blocks in
      let uses = uses_in v kept reserved ag in
      is.placed.bno.blocks 0 (omega (arith, is.some, length_uses v kept reserved ag))
      ∙ ap (λ (u : Use). is_spare u || (is_open u && nat_le n (rank uses 0))) is.header

  low_blocks : All (λ b. b < group_length v ag) is.placed.blocks
  low_blocks = All-from_get_or (λ b. b < group_length v ag) is.placed.blocks 0 (λ k inside.
      omega (arith, open_inside (uses_in v kept reserved ag) (get_or is.placed.blocks k 0) (is.placed.low.open' k inside), length_uses v kept reserved ag))

  -- the blocks of the trees
  opened : (i : ℕ) → All (IsOpen v kept ag) (tree_places p i)
  opened i =
      let base = ag * v.agblocks in
      let sizes = tree_sizes (length p.bno) (length inodes) (length p.fino) (length p.rmap) in
      let pool = all_of_tree (λ block. is_pool v kept reserved block ≡ true) p.trees (map (λ b. base + b) p.agfl) i is.pool.pool in
      let at : All (IsAt v ag) (get_or p.trees i no_tree).blocks =
      subst (λ (ts : List TreeBlocks). All (IsAt v ag) (get_or ts i no_tree).blocks) (sym is.placed.trees)
      (all_of_cut (IsAt v ag) base sizes is.placed.blocks i (All-weaker (λ b. b < group_length v ag) (λ b. IsAt v ag (base + b)) (λ b low. (b, low, refl)) is.placed.blocks low_blocks)) in
      λ k d low.
      let parts = pool_parts v kept reserved (get_or (tree_places p i) k d) (pool k d low) in
      let here = at k d low in
      record { at = here.0; low = here.1; is = here.2; clear = parts.0; free = parts.1 }

  five : length p.trees ≡ 5
  five = ap length is.placed.trees

  size_is : (i : ℕ) → i < 5 → length (tree_places p i) ≡ get_or (tree_sizes (length p.bno) (length inodes) (length p.fino) (length p.rmap)) i 0
  size_is i low =
      let f : TreeBlocks → ℕ = λ t. length t.blocks in
      sym (get_or-map f p.trees i no_tree 0 (omega (arith, low, five))) ∙ ap (λ (xs : List ℕ). get_or xs i 0) is.pool.sizes

  pack : {R K : Type 0} (s : Shape R K) (records : List R) (i : ℕ) → s.owner ≡ ag → IsTrue (are_lawful s v None records) → length records ≤ 2 ^ 26 + 1
      → length (tree_places p i) ≡ sum (rows_of s.layout.leaf_cap s.layout.node_cap (length records)) → CanPack s v records (tree_places p i)
  pack s records i owner lawful few size = record {
    lawful = lawful;
    few = omega (arith, few);
    size = size;
    held = All-weaker (IsOpen v kept ag) (λ place. IsTrue (can_hold v s.layout s.owner place))
        (λ block open'. subst (λ (o : ℕ). IsTrue (can_hold v s.layout o block)) (sym owner) (open_holds v s.layout kept ag block is.short is.inside is.root open')) (tree_places p i) (opened i);
    different = tree_different p.trees (map (λ b. ag * v.agblocks + b) p.agfl) i is.pool.ascend;
  }

  free_few : length p.bno ≤ 2 ^ 26 + 1
  free_few =
      let so = separate_few 0 (group_length v ag) p.bno is.placed.bno.separate (omega arith) (λ b in'. elim (cases_lt b (group_length v ag)) [
        | inl low ↦ low
        | inr past ↦ absurd (true≢false (sym in' ∙ far b past))
      ]) in
      omega (arith, so, is.few)

  claims : All (IsClaimedRun (group_length v ag)) (map run_of_record p.rmap)
  claims = subst (λ (n : ℕ). All (IsClaimedRun n) (map run_of_record p.rmap)) (length_uses v kept reserved ag) is.placed.rmap.owned.claims.each

  owners_few : length p.rmap ≤ 2 ^ 26 + 1
  owners_few =
      let so = claims_few 0 (group_length v ag) (map run_of_record p.rmap) is.placed.rmap.owned.claims.ascend claims (omega arith) in
      omega (arith, so, length-map p.rmap run_of_record, is.few)

  owners_are : IsTrue (are_lawful (rmap_shape ag) v None p.rmap)
  owners_are =
      let g = group_in v kept reserved ag (inner_blocks inodes) in
      let n = length is.placed.blocks in
      let space = space_blocks g n in
      owners_lawful v ag is.there small (owned_at g space n) 0 None p.rmap (λ b o w. placed_owned g space n b o w (is.words b o w)) tt is.placed.rmap.owned.claims.ascend claims
      (λ b from inside. is.placed.rmap.owned.held b (omega (arith, inside, length_uses v kept reserved ag)))

  free_chunks : IsTrue (are_lawful (fino_shape ag) v None p.fino)
  free_chunks = subst (λ (rs : List InoRec). IsTrue (are_lawful (fino_shape ag) v None rs)) (sym is.placed.fino) (chunks_kept 0x4941_4233 0x4649_4233 v ag has_free None inodes is.chunks)

  list_short : length p.agfl ≤ 118
  list_short = by_case is.placed.chosen
    where
      by_case : IsChosenCount (group_in v kept reserved ag (inner_blocks inodes)) (Some (length is.placed.blocks)) → length p.agfl ≤ 118
      by_case (inl rich) = omega (arith, rich.0.2, is.placed.left)
      by_case (inr little) = omega (arith, little.1.0.2, is.placed.left)

  given_sound : IsSoundGroup v ag inodes p
  given_sound =
      let base = ag * v.agblocks in
      let many = as_many p.bno p.cnt is.placed.cnt in
      let inodes_few = chunks_few 0x4941_4233 v ag inodes is.chunks in
      let free_inodes_few = chunks_few 0x4649_4233 v ag p.fino free_chunks in
      let clear = All-weaker (λ block. is_pool v kept reserved block ≡ true) (λ block. is_fixed v block ≡ false) (λ block open'. (pool_parts v kept reserved block open').0) (map (λ b. base + b) p.agfl)
      (all_of_list (λ block. is_pool v kept reserved block ≡ true) p.trees (map (λ b. base + b) p.agfl) is.pool.pool) in
      let sizes = tree_sizes (length p.bno) (length inodes) (length p.fino) (length p.rmap) in
      let listed = subst (All (λ b. b < group_length v ag)) (sym is.placed.agfl) (All-drop (λ b. b < group_length v ag) (sum sizes) is.placed.blocks low_blocks) in
      record {
        five = five;
        bno = pack (bno_shape ag) p.bno 0 refl (runs_lawful v ag is.there small p.bno is.placed.bno.separate none far) free_few (size_is 0 (omega arith));
        cnt = pack (cnt_shape ag) p.cnt 1 refl (lengths_lawful v ag is.there small p.bno p.cnt is.placed.bno.separate none far is.placed.cnt) (omega (arith, many, free_few))
            (size_is 1 (omega arith) ∙ ap (λ (n : ℕ). sum (rows_of 505 336 n)) (sym many));
        ino = pack (ino_shape ag) inodes 2 refl is.chunks (omega (arith, inodes_few, is.few)) (size_is 2 (omega arith));
        fino = pack (fino_shape ag) p.fino 3 refl free_chunks (omega (arith, free_inodes_few, is.few)) (size_is 3 (omega arith));
        rmap = pack (rmap_shape ag) p.rmap 4 refl owners_are owners_few (size_is 4 (omega arith));
        chunks = omega (arith, inodes_few, is.few);
        short = list_short;
        listable = list_listable v ag p.agfl listed clear;
      }

-- a group is no longer than the others, and ends in the volume
record HasLength (v : Volume) (ag : ℕ) : Type 0 where
  some : 1 ≤ group_length v ag
  short : group_length v ag ≤ v.agblocks
  inside : ag * v.agblocks + group_length v ag ≤ v.dblocks

has_length : (v : Volume) (ag : ℕ) → HasGroups v.dblocks v.agblocks v.agcount → ag < v.agcount → HasLength v ag
has_length v ag groups there =
    let by = by_case (ag + 1 == v.agcount) refl in
    record { some = by.0; short = by.1; inside = by.2 }
  where
    by_case : (t : Bool) → (ag + 1 == v.agcount) ≡ t → let length = if t then v.dblocks - ag * v.agblocks else v.agblocks in
        (1 ≤ length) × (length ≤ v.agblocks) × (ag * v.agblocks + length ≤ v.dblocks)
    by_case true last =
        let same : v.agcount ≡ ag + 1 = sym (eqb-true (ag + 1) v.agcount last) in
        let most : v.agcount * v.agblocks ≡ (ag + 1) * v.agblocks = ap (λ (n : ℕ). n * v.agblocks) same in
        let one : v.agcount - 1 ≡ ag = omega (arith, same) in
        let least : (v.agcount - 1) * v.agblocks ≡ ag * v.agblocks = ap (λ (n : ℕ). n * v.agblocks) one in
        (omega (arith, least, groups.last), omega (arith, most, groups.covered), omega (arith, least, groups.last))
    by_case false other =
        let low : (ag + 1) * v.agblocks ≤ (v.agcount - 1) * v.agblocks = mul-le-mul_right v.agblocks (omega (arith, eqb-false (ag + 1) v.agcount other, there)) in
        (omega (arith, groups.large), omega arith, omega (arith, low, groups.last))

pub length_small : (v : Volume) (ag : ℕ) → HasGroups v.dblocks v.agblocks v.agcount → ag < v.agcount → group_length v ag ≤ 2 ^ 26
length_small v ag groups there = omega (arith, (has_length v ag groups there).inside, groups.small)

pub group_sound : (v : Volume) (kept : List Run) (reserved : List ℕ) (ag : ℕ) (inodes : List InoRec) (p : GroupPlaced) → HasGroups v.dblocks v.agblocks v.agcount
    → HasLog v.dblocks v.agblocks v.agcount v.log v.logblocks → ag < v.agcount → CanBeKept v kept → All HasOwner kept
    → ((b : ℕ) → is_of_root_cluster v b ≡ true → is_taken kept b ≡ true) → IsTrue (are_lawful (ino_shape ag) v None inodes)
    → IsPlacedGroup (group_in v kept reserved ag (inner_blocks inodes)) (ag * v.agblocks) inodes p → IsOfPool v kept reserved (ag * v.agblocks) inodes p → IsSoundGroup v ag inodes p
group_sound v kept reserved ag inodes p groups log there are owned root chunks placed pool =
    let has = has_length v ag groups there in
    given_sound v kept reserved ag inodes p (record {
      there = there;
      some = has.some;
      short = has.short;
      inside = has.inside;
      few = omega (arith, has.inside, groups.small);
      header = (group_is v kept reserved ag (inner_blocks inodes) are there (omega (arith, groups.large)) has.some has.short).header;
      words = λ b o w. claim_owned v kept ag b o w (fixed_owned v kept owned) (all_each v (is_volume v groups log) kept are);
      root = root;
      chunks = chunks;
      placed = placed;
      pool = pool;
    })
