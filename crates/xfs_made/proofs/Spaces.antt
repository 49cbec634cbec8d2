-- What is placed keeps the laws of space.
use Rattle.std.proofs.Common.{◌≡◌, ℕ, zero, suc, ◌+◌, ◌-◌, ◌*◌, ◌≤◌, ◌<◌, inl, inr, Bool, true, false, not, ◌&&◌, ◌==◌, nat_lt, if◌then◌else◌, List, ◌++◌, length, get_or, map, Option, Some, None, is_some, refl, sym, ◌∙◌, ap, ap₂, subst, arith, map-id}
use Rattle.std.specs.List.{All, flat_map, range_with_len}
use Rattle.std.specs.Option.{option_or}
use Rattle.std.proofs.lemmas.Bool.{and_parts, cases_Bool, cases_eq, cases_lt, lt-ltb}
use Rattle.std.proofs.lemmas.Bool.Decides.{nat_tests}
use Rattle.std.proofs.lemmas.List.Elements.{All-weaker}
use Rattle.std.proofs.Math.Nat.{mul-le-mul_right}
use Rattle.xfs_geom.specs.Runs.{runs_on}
use Rattle.xfs_disk.specs.Lists.{is_in_range}
use Rattle.xfs_geom.specs.Conversions.{group_length}
use Rattle.xfs_geom.specs.Shape.{HasGroups, HasLog}
use Rattle.xfs_geom.specs.Volumes.{Volume}
use Rattle.xfs_geom.specs.declared.records.RmapRec.{RmapRec}
use Rattle.xfs_geom.specs.declared.records.Run.{Run}
use Rattle.xfs_kinds.specs.FreeRuns.{is_in_spans, runs_where}
use Rattle.xfs_kinds.specs.MergedRuns.{held_at}
use Rattle.xfs_kinds.proofs.Blocks.{in_runs, runs_separate}
use Rattle.xfs_volume.specs.declared.files.FileRec.{FileRec}
use Rattle.xfs_volume.specs.declared.groups.GroupRec.{GroupRec}
use Rattle.xfs_space.specs.Owners.{owned_runs}
use Rattle.xfs_kinds.specs.Lengths.{by_length}
use Rattle.xfs_space.specs.SpaceLaws.{AllAreFree, HasFreeTrees, IsSpaceLawful, free_spans, recorded_run, recorded_runs}
use Rattle.xfs_space.proofs.FreeSpans.{group_short}
use Rattle.xfs_space.proofs.Splits.{EndsBy, none_on_front}
use Rattle.xfs_place.specs.Choice.{IsPlacingGroup, in_pool, one_if, owned_at, owner_by, rank, space_blocks}
use Rattle.xfs_place.specs.Claims.{IsClaimedRun}
use Rattle.xfs_place.specs.Placing.{inner_blocks}
use Rattle.xfs_place.specs.Wanted.{CanBeKept, ArePlaced, claim_in, inodes_in_group, uses_in, wanted_group}
use Rattle.xfs_kinds.specs.FixedRuns.{fixed_runs}
use Rattle.xfs_place.specs.declared.placed.GroupPlaced.{GroupPlaced}
use Rattle.xfs_place.specs.declared.wanted.GroupInodes.{GroupInodes}
use Rattle.xfs_place.proofs.AllClaims.{all_apart, all_each, group_ends, is_volume}
use Rattle.xfs_place.proofs.GroupIs.{group_is, length_uses}
use Rattle.xfs_place.proofs.OfPool.{all_of_pool}
use Rattle.xfs_place.proofs.Ordered.{none_held, none_on}
use Rattle.xfs_render.specs.Rendering.{no_group}
use Rattle.xfs_made.specs.Groups.{due_group_at, due_groups}
use Rattle.xfs_made.specs.Keeping.{KeepsJust, all_used}
use Rattle.xfs_made.proofs.AllOwned.{owned_same, recorded, recorded_is, standing}
use Rattle.xfs_made.proofs.Entries.{list_ascends}
use Rattle.xfs_made.proofs.GroupFree.{free_is, without_owner}
use Rattle.xfs_made.proofs.GroupOwned.{IsOwnedBy, IsRecordedBy, is_lowest, owned_by, recorded_by}
use Rattle.xfs_made.proofs.OverGroups.{AreOfGroups, is_in_group, of_group, of_none}
use Rattle.xfs_made.proofs.SameRuns.{held_both, on_both, same_held, same_on}
use Rattle.xfs_made.proofs.Separate.{by_length_is, one_separate}
use Rattle.xfs_made.proofs.Totals.{sized}

some_none : (p : ℕ × ℕ) (o : Option (ℕ × ℕ)) → o ≡ Some p → o ≡ None → ⊥
some_none p o some none = cc

-- what is placed stands where nothing is claimed
placed_or : (low : Bool) (mine fixed kept claim : Option (ℕ × ℕ)) → claim ≡ option_or fixed kept → (low ≡ true → claim ≡ None)
    → option_or fixed (option_or kept (if low then mine else None)) ≡ (if low then mine else claim)
placed_or true mine (Some p) kept claim is free = absurd (some_none p claim is (free refl))
placed_or true mine None (Some p) claim is free = absurd (some_none p claim is (free refl))
placed_or true mine None None claim is free = refl
placed_or false mine (Some p) kept claim is free = sym is
placed_or false mine None (Some p) claim is free = sym is
placed_or false mine None None claim is free = sym is

-- groups from one on whose trees have just the blocks without an owner
all_free : (v : Volume) (runs : List Run) (group : ℕ → GroupRec) (a n : ℕ) → ((ag : ℕ) → a ≤ ag → ag < a + n → HasFreeTrees v runs ag (group ag)) → AllAreFree v runs a (map group (range_with_len a n))
all_free v runs group a zero each = tt
all_free v runs group a (suc n) each =
    (each a (omega arith) (omega arith), all_free v runs group (a + 1) n (λ ag low high. each ag (omega (arith, low)) (omega (arith, high))))

module _ (v : Volume) (shape : HasGroups v.dblocks v.agblocks v.agcount) (log : HasLog v.dblocks v.agblocks v.agcount v.log v.logblocks) (kept : List Run) (reserved : List ℕ)
    (inodes : List GroupInodes) (groups : List GroupPlaced) (files : List FileRec) (agf_crc agi_crc : ℕ → ℕ) (are : CanBeKept v kept)
    (placed : ArePlaced v kept reserved inodes v.agcount groups) (just : KeepsJust v kept inodes files) where
  -- the groups before and after placing
  length_some : (ag : ℕ) → ag < v.agcount → 1 ≤ group_length v ag
  length_some ag low = elim (group_ends v ag shape low) [
    | inl last ↦
        let most : ag * v.agblocks ≤ (v.agcount - 1) * v.agblocks = mul-le-mul_right v.agblocks (omega (arith, low)) in
        omega (arith, last, most, shape.last)
    | inr next ↦ omega (arith, next, shape.large)
  ]

  good : (ag : ℕ) → ag < v.agcount → IsPlacingGroup (wanted_group v kept reserved inodes ag)
  good ag low = group_is v kept reserved ag (inner_blocks (inodes_in_group inodes ag)) are low (omega (arith, shape.large)) (length_some ag low) (group_short v ag shape.covered)

  abbrev taken : (ag : ℕ) → ag < v.agcount → ℕ
  taken ag low = length (placed.each ag no_group low).blocks

  abbrev space : (ag : ℕ) → ag < v.agcount → ℕ
  space ag low = space_blocks (wanted_group v kept reserved inodes ag) (taken ag low)

  standing_of : (ag : ℕ) (low : ag < v.agcount) → IsOwnedBy (wanted_group v kept reserved inodes ag) (space ag low) (taken ag low) (ag * v.agblocks) (standing v inodes groups agf_crc agi_crc ag)
  standing_of ag low =
      let p = get_or groups ag no_group in
      let records = inodes_in_group inodes ag in
      let pool = all_of_pool v kept reserved inodes v.agcount groups placed in
      owned_by v ag (ag * v.agblocks) records p (agf_crc ag) (agi_crc ag) (wanted_group v kept reserved inodes ag) (placed.each ag no_group low)
      (sized v kept reserved inodes groups agf_crc agi_crc placed ag low) (list_ascends v kept reserved (ag * v.agblocks) records p (pool.each ag no_group low)) refl (good ag low)

  recorded_of : (ag : ℕ) (low : ag < v.agcount) → IsRecordedBy (wanted_group v kept reserved inodes ag) (space ag low) (taken ag low) (ag * v.agblocks) (recorded v inodes groups agf_crc agi_crc ag)
  recorded_of ag low =
      let p = get_or groups ag no_group in
      let g = wanted_group v kept reserved inodes ag in
      subst (λ (rs : List RmapRec). IsRecordedBy g (space ag low) (taken ag low) (ag * v.agblocks) (map (recorded_run (ag * v.agblocks)) rs)) (sym (map-id p.rmap))
      (recorded_by (ag * v.agblocks) g (space ag low) (taken ag low) p.rmap (placed.each ag no_group low).rmap)

  standing_apart : AreOfGroups v (standing v inodes groups agf_crc agi_crc)
  standing_apart = record {
    before = λ ag x low h. (standing_of ag low).before x h;
    behind = λ ag x low h. (standing_of ag low).behind x (omega (arith, h, length_uses v kept reserved ag));
  }

  recorded_apart : AreOfGroups v (recorded v inodes groups agf_crc agi_crc)
  recorded_apart = record {
    before = λ ag x low h. (recorded_of ag low).before x h;
    behind = λ ag x low h. (recorded_of ag low).behind x (omega (arith, h, length_uses v kept reserved ag));
  }

  abbrev all_standing : List Run
  all_standing = flat_map (standing v inodes groups agf_crc agi_crc) (range_with_len 0 v.agcount)

  abbrev all_runs : List Run
  all_runs = fixed_runs v ++ (all_used v inodes files ++ all_standing)

  all_on : (x : ℕ) → runs_on all_runs x ≡ runs_on (fixed_runs v) x + (runs_on (all_used v inodes files) x + runs_on all_standing x)
  all_on x = on_both (fixed_runs v) (all_used v inodes files ++ all_standing) x ∙ ap (λ (n : ℕ). runs_on (fixed_runs v) x + n) (on_both (all_used v inodes files) all_standing x)

  fixed_on : (x : ℕ) → runs_on (fixed_runs v ++ kept) x ≤ 1
  fixed_on x = (all_apart v (is_volume v shape log) kept are).once x

  -- what clusters and files own has no block with a fixed use
  used_once : (x : ℕ) → runs_on (fixed_runs v) x + runs_on (all_used v inodes files) x ≤ 1
  used_once x =
      let both : runs_on (fixed_runs v ++ kept) x ≡ runs_on (fixed_runs v) x + runs_on kept x = on_both (fixed_runs v) kept x in
      let apart : runs_on (fixed_runs v ++ kept) x ≤ 1 = fixed_on x in
      let few : runs_on (all_used v inodes files) x ≤ 1 = just.once x in
      elim (cases_eq (runs_on kept x) 0) [
        | inl none ↦
            let free : runs_on (all_used v inodes files) x ≡ 0 = none_held (all_used v inodes files) x (just.held x ∙ none_on kept x none) in
            omega (arith, both, apart, free)
        | inr some ↦ omega (arith, both, apart, some, few)
      ]

  -- a block of nothing that is claimed
  unclaimed : (x : ℕ) → runs_on (fixed_runs v ++ kept) x ≡ 0 → runs_on (fixed_runs v) x + runs_on (all_used v inodes files) x ≡ 0
  unclaimed x none =
      let both : runs_on (fixed_runs v ++ kept) x ≡ runs_on (fixed_runs v) x + runs_on kept x = on_both (fixed_runs v) kept x in
      let no_kept : runs_on kept x ≡ 0 = omega (arith, both, none) in
      let free : runs_on (all_used v inodes files) x ≡ 0 = none_held (all_used v inodes files) x (just.held x ∙ none_on kept x no_kept) in
      omega (arith, both, none, free)

  -- in a group
  module _ (ag b : ℕ) (low : ag < v.agcount) (inside : b < group_length v ag) where
    claim_is : claim_in v kept ag b ≡ held_at (fixed_runs v ++ kept) (ag * v.agblocks + b)
    unfolding claim_in
    claim_is = ap (λ (t : Bool). if t then held_at (fixed_runs v ++ kept) (ag * v.agblocks + b) else None) (lt-ltb b (group_length v ag) inside)

    pool_free : is_lowest (wanted_group v kept reserved inodes ag) (taken ag low) b ≡ true → claim_in v kept ag b ≡ None
    pool_free yes' = (good ag low).free b (and_parts (in_pool (uses_in v kept reserved ag) b) (nat_lt (rank (uses_in v kept reserved ag) b) (taken ag low)) yes').0

    standing_on : runs_on all_standing (ag * v.agblocks + b) ≡ one_if (is_lowest (wanted_group v kept reserved inodes ag) (taken ag low) b)
    standing_on = (of_group v shape (standing v inodes groups agf_crc agi_crc) standing_apart ag b low inside).on ∙ (standing_of ag low).on b

    standing_held : held_at all_standing (ag * v.agblocks + b)
        ≡ (if is_lowest (wanted_group v kept reserved inodes ag) (taken ag low) b then Some (owner_by (wanted_group v kept reserved inodes ag) (space ag low) (rank (uses_in v kept reserved ag) b), 0) else None)
    standing_held = (of_group v shape (standing v inodes groups agf_crc agi_crc) standing_apart ag b low inside).held ∙ (standing_of ag low).held b

    once_in : runs_on all_runs (ag * v.agblocks + b) ≤ 1
    once_in =
        let x = ag * v.agblocks + b in
        let t = is_lowest (wanted_group v kept reserved inodes ag) (taken ag low) b in
        elim (cases_Bool t) [
          | inl yes' ↦
              let one : one_if t ≡ 1 = ap one_if yes' in
              let none : runs_on (fixed_runs v ++ kept) x ≡ 0 = none_held (fixed_runs v ++ kept) x (sym claim_is ∙ pool_free yes') in
              omega (arith, all_on x, standing_on, one, unclaimed x none)
          | inr no' ↦
              let zero' : one_if t ≡ 0 = ap one_if no' in
              omega (arith, all_on x, standing_on, zero', used_once x)
        ]

    held_in : held_at all_runs (ag * v.agblocks + b) ≡ owned_at (wanted_group v kept reserved inodes ag) (space ag low) (taken ag low) b
    held_in =
        let x = ag * v.agblocks + b in
        let g = wanted_group v kept reserved inodes ag in
        let t = is_lowest g (taken ag low) b in
        let mine : Option (ℕ × ℕ) = Some (owner_by g (space ag low) (rank (uses_in v kept reserved ag) b), 0) in
        held_both (fixed_runs v) (all_used v inodes files ++ all_standing) x
        ∙ ap (option_or (held_at (fixed_runs v) x)) (held_both (all_used v inodes files) all_standing x ∙ ap₂ option_or (just.held x) standing_held)
        ∙ placed_or t mine (held_at (fixed_runs v) x) (held_at kept x) (claim_in v kept ag b) (claim_is ∙ held_both (fixed_runs v) kept x) pool_free

  -- behind the volume
  none_outside : (x : ℕ) → v.dblocks ≤ x → runs_on all_runs x ≡ 0
  none_outside x outside =
      let claims = fixed_runs v ++ kept in
      let ends : All (EndsBy v.dblocks) claims = All-weaker (IsClaimedRun v.dblocks) (EndsBy v.dblocks) (λ r claim. claim.inside) claims (all_each v (is_volume v shape log) kept are) in
      let none : runs_on claims x ≡ 0 = none_on_front claims v.dblocks x ends outside in
      let no_standing : runs_on all_standing x ≡ 0 = of_none v shape (standing v inodes groups agf_crc agi_crc) standing_apart x outside in
      omega (arith, all_on x, unclaimed x none, no_standing)

  all_once : (x : ℕ) → runs_on all_runs x ≤ 1
  all_once x = elim (cases_lt x v.dblocks) [
    | inl inside ↦
        let at = is_in_group v shape x inside in
        subst (λ (y : ℕ). runs_on all_runs y ≤ 1) (sym at.is) (once_in at.ag at.b at.group at.low)
    | inr outside ↦ omega (arith, none_outside x outside)
  ]

  abbrev owned : List Run
  owned = owned_runs v (due_groups v inodes groups agf_crc agi_crc) files

  owned_on : (x : ℕ) → runs_on owned x ≡ runs_on all_runs x
  owned_on x = same_on owned all_runs (owned_same v inodes groups agf_crc agi_crc files) x

  owned_held : (x : ℕ) → held_at owned x ≡ held_at all_runs x
  owned_held x = same_held owned all_runs (owned_same v inodes groups agf_crc agi_crc files) x (all_once x)

  -- the records of owners give each block the owner that it has
  recorded_in : (ag b : ℕ) → ag < v.agcount → b < group_length v ag
      → held_at (recorded_runs v.agblocks 0 (due_groups v inodes groups agf_crc agi_crc)) (ag * v.agblocks + b) ≡ held_at owned (ag * v.agblocks + b)
  recorded_in ag b low inside =
      let x = ag * v.agblocks + b in
      ap (λ (rs : List Run). held_at rs x) (recorded_is v inodes groups agf_crc agi_crc)
      ∙ (of_group v shape (recorded v inodes groups agf_crc agi_crc) recorded_apart ag b low inside).held
      ∙ (recorded_of ag low).held b (omega (arith, inside, length_uses v kept reserved ag))
      ∙ sym (owned_held x ∙ held_in ag b low inside)

  owners_are : (x : ℕ) → held_at (recorded_runs v.agblocks 0 (due_groups v inodes groups agf_crc agi_crc)) x ≡ held_at owned x
  owners_are x = elim (cases_lt x v.dblocks) [
    | inl inside ↦
        let at = is_in_group v shape x inside in
        subst (λ (y : ℕ). held_at (recorded_runs v.agblocks 0 (due_groups v inodes groups agf_crc agi_crc)) y ≡ held_at owned y) (sym at.is) (recorded_in at.ag at.b at.group at.low)
    | inr outside ↦
        let none = of_none v shape (recorded v inodes groups agf_crc agi_crc) recorded_apart x outside in
        ap (λ (rs : List Run). held_at rs x) (recorded_is v inodes groups agf_crc agi_crc)
        ∙ none_on (flat_map (recorded v inodes groups agf_crc agi_crc) (range_with_len 0 v.agcount)) x none
        ∙ sym (none_on owned x (owned_on x ∙ none_outside x outside))
  ]

  -- the free runs of a group are those of the blocks without an owner
  free_in : (ag b : ℕ) → ag < v.agcount → b < group_length v ag → is_in_spans (get_or groups ag no_group).bno b ≡ (runs_on owned (ag * v.agblocks + b) == 0)
  free_in ag b low inside =
      let g = wanted_group v kept reserved inodes ag in
      let here : b < length (uses_in v kept reserved ag) = omega (arith, inside, length_uses v kept reserved ag) in
      (placed.each ag no_group low).bno.blocks b here
      ∙ free_is g (good ag low) (space ag low) (taken ag low) b here
      ∙ ap (λ (o : Option (ℕ × ℕ)). not (is_some o)) (sym (owned_held (ag * v.agblocks + b) ∙ held_in ag b low inside))
      ∙ sym (without_owner owned (ag * v.agblocks + b))

  free_are : (ag : ℕ) → ag < v.agcount → (get_or groups ag no_group).bno ≡ free_spans v owned ag
  unfolding free_spans
  free_are ag low =
      let bno = (get_or groups ag no_group).bno in
      let n = group_length v ag in
      let test : ℕ → Bool = λ block. runs_on owned (ag * v.agblocks + block) == 0 in
      one_separate 0 bno (runs_where test 0 n) (placed.each ag no_group low).bno.separate (runs_separate test 0 n) (λ b. elim (cases_lt b n) [
        | inl inside ↦
            let here : is_in_range 0 n b ≡ true = grind (arith, nat_tests, inside) in
            free_in ag b low inside ∙ sym (in_runs test 0 n b ∙ ap (λ (t : Bool). t && test b) here)
        | inr outside ↦
            let out : is_in_range 0 n b ≡ false = grind (arith, nat_tests, outside) in
            (placed.each ag no_group low).bno.inside b (omega (arith, outside, length_uses v kept reserved ag)) ∙ sym (in_runs test 0 n b ∙ ap (λ (t : Bool). t && test b) out)
      ])

  free_group : (ag : ℕ) → ag < v.agcount → HasFreeTrees v owned ag (due_group_at v inodes groups agf_crc agi_crc ag)
  free_group ag low =
      let p = get_or groups ag no_group in
      record {
        by_start = map-id p.bno ∙ free_are ag low;
        by_count = map-id p.cnt ∙ by_length_is p.bno p.cnt (placed.each ag no_group low).cnt ∙ ap by_length (free_are ag low);
      }

  pub space_lawful : IsSpaceLawful v (due_groups v inodes groups agf_crc agi_crc) files
  space_lawful = record {
    once = λ x. omega (arith, owned_on x, all_once x);
    free = all_free v owned (due_group_at v inodes groups agf_crc agi_crc) 0 v.agcount (λ ag from low. free_group ag (omega (arith, low)));
    owners = owners_are;
  }
