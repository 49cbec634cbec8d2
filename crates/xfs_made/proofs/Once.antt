-- No block is planned twice for an empty volume.
use Rattle.std.proofs.Common.{◌≡◌, ℕ, ◌+◌, ◌*◌, ◌/◌, ◌%◌, ◌≤◌, ◌<◌, inl, inr, false, ◌&&◌, ◌==◌, nat_le, nat_lt, List, [], ◌∷◌, ◌++◌, Option, refl, sym, ap, ◌∙◌, subst, arith}
use Rattle.std.specs.List.{All, range_with_len}
use Rattle.std.proofs.Math.Nat.{mul-le-mul_right, mul-mod_left}
use Rattle.std.proofs.lemmas.Bool.{and_cases, cases_lt, eqb-false, leb-false, ltb-false, or_parts}
use Rattle.std.proofs.lemmas.List.Elements.{All-append}
use Rattle.std.proofs.lemmas.Nat.{div-add-mod'}
use Rattle.xfs_disk.specs.declared.stamp.Stamp.{Stamp}
use Rattle.xfs_geom.proofs.LogPlace.{group_small}
use Rattle.xfs_geom.specs.Groups.{blocks_of_group}
use Rattle.xfs_geom.specs.Shape.{HasGroups, HasLog}
use Rattle.xfs_geom.specs.Volumes.{Volume, volume_of}
use Rattle.xfs_geom.specs.declared.geometry.Geometry.{Geometry}
use Rattle.xfs_geom.specs.declared.records.Run.{Run}
use Rattle.xfs_place.specs.Pool.{is_taken}
use Rattle.xfs_place.specs.Standing.{AreOfPool}
use Rattle.xfs_place.specs.Wanted.{ArePlaced, kept_runs}
use Rattle.xfs_place.specs.declared.placed.Placed.{Placed}
use Rattle.xfs_render.specs.Plans.{IsOnce, planned}
use Rattle.xfs_render.specs.Objects.{blocks_of_asks, object_places}
use Rattle.xfs_render.specs.Rendering.{blocks_in_place, log_places, new_blocks, tree_blocks}
use Rattle.xfs_render.specs.declared.bytes.Bytes.{Bytes}
use Rattle.xfs_render.specs.declared.plan.Plan.{Plan}
use Rattle.xfs_empty.proofs.Kept.{none_placed}
use Rattle.xfs_empty.specs.Bytes.{empty_places, header_places}
use Rattle.xfs_empty.specs.Geometry.{HasFirstChunk}
use Rattle.xfs_empty.specs.Placing.{all_inodes, chunk_run, empty_wanted}
use Rattle.xfs_empty.specs.Planning.{IsEmptyPlan, StandsFor}
use Rattle.xfs_made.proofs.OnceLists.{all_range, in_parts, joined, range_once, rising_once}
use Rattle.xfs_made.proofs.RowLists.{all_items}
use Rattle.xfs_made.proofs.TreesOnce.{AreBehind, IsFree, trees_once}

-- first blocks of groups, blocks of the log and those of the first chunk have a use
head_used : (v : Volume) (ag block : ℕ) → block ≡ ag * v.agblocks → IsFree v block → ⊥
head_used v ag block at is =
    let parts = or_parts (block % v.agblocks == 0) (nat_le v.log block && nat_lt block (v.log + v.logblocks)) is.clear in
    eqb-false (block % v.agblocks) 0 parts.0 (ap (λ (b : ℕ). b % v.agblocks) at ∙ mul-mod_left ag v.agblocks)

log_used : (v : Volume) (block : ℕ) → v.log ≤ block → block < v.log + v.logblocks → IsFree v block → ⊥
log_used v block low high is =
    let parts = or_parts (block % v.agblocks == 0) (nat_le v.log block && nat_lt block (v.log + v.logblocks)) is.clear in
    elim (and_cases (nat_le v.log block) (nat_lt block (v.log + v.logblocks)) parts.1) [
      | inl before ↦ let less = leb-false v.log block before in absurd (omega (arith, less, low))
      | inr behind ↦ let more = ltb-false block (v.log + v.logblocks) behind in absurd (omega (arith, more, high))
    ]

chunk_used : (v : Volume) (block : ℕ) → 16 ≤ block → block < 24 → IsFree v block → ⊥
unfolding is_taken
chunk_used v block low high is =
    let parts = or_parts (nat_le 16 block && nat_lt block 24) false is.free in
    elim (and_cases (nat_le 16 block) (nat_lt block 24) parts.0) [
      | inl before ↦ let less = leb-false 16 block before in absurd (omega (arith, less, low))
      | inr behind ↦ let more = ltb-false block 24 behind in absurd (omega (arith, more, high))
    ]

-- a block of the log is no first block of a group
head_beside : (d w n log l ag block : ℕ) → HasGroups d w n → HasLog d w n log l → block ≡ ag * w → log ≤ block → block < log + l → ⊥
head_beside d w n log l ag block groups has at low high = elim (cases_lt (log / w) ag) [
  | inl before ↦
      let most : (log / w + 1) * w ≤ ag * w = mul-le-mul_right w (omega (arith, before)) in
      absurd (omega (arith, whole, short, has.inside, most, at, high))
  | inr behind ↦
      let most : ag * w ≤ log / w * w = mul-le-mul_right w behind in
      absurd (omega (arith, whole, has.behind, most, at, low))
]
  where
    whole : log / w * w + log % w ≡ log
    whole = div-add-mod' log w

    short : blocks_of_group d w n (log / w) ≤ w
    short = group_small d w n (log / w) groups.covered

-- the places whose bytes are at hand, and the log
module _ (g : Geometry) (first : HasFirstChunk (volume_of g)) where
  abbrev IsHead : ℕ → Type 0
  IsHead block = (ag : ℕ) × (block ≡ ag * g.agblocks)

  abbrev IsOfLog : ℕ → Type 0
  IsOfLog block = (g.log ≤ block) × (block < g.log + g.logblocks)

  abbrev heads : List ℕ
  heads = header_places g.agblocks g.agcount

  all_heads : (P : ℕ → Type 0) → ((ag : ℕ) → P (ag * g.agblocks)) → All P heads
  all_heads P each = all_items P (λ ag. ag * g.agblocks) 0 g.agcount (λ k low high. each k)

  heads_once : IsOnce heads
  heads_once =
      let large = g.shape.groups.large in
      rising_once (λ ag. ag * g.agblocks) 0 g.agcount (λ i j less.
      let most : (i + 1) * g.agblocks ≤ j * g.agblocks = mul-le-mul_right g.agblocks (omega (arith, less)) in
      omega (arith, most, large))

  -- no group begins at a block of the first chunk
  chunk_behind : (block : ℕ) → 16 ≤ block → block < 24 → IsHead block → ⊥
  chunk_behind block low high head =
      let large = g.shape.groups.large in
      let at : block ≡ head.0 * g.agblocks = head.1 in
      elim (cases_lt 0 head.0) [
        | inl some ↦
            let most : 1 * g.agblocks ≤ head.0 * g.agblocks = mul-le-mul_right g.agblocks (omega (arith, some)) in
            absurd (omega (arith, most, large, at, high))
        | inr none ↦
            let most : head.0 * g.agblocks ≤ 0 * g.agblocks = mul-le-mul_right g.agblocks none in
            absurd (omega (arith, most, at, low))
      ]

  places_once : IsOnce (empty_places g)
  places_once =
      joined IsHead heads (range_with_len 16 8) heads_once (range_once 16 8) (all_heads IsHead (λ ag. (ag, refl)))
      (all_range (λ block. IsHead block → ⊥) 16 8 (λ k low high. chunk_behind k low (omega (arith, high))))

  -- none of them is of the log
  places_beside : All (λ block. IsOfLog block → ⊥) (empty_places g)
  places_beside =
      let behind : 24 ≤ g.log = first.log in
      let P : ℕ → Type 0 = λ block. IsOfLog block → ⊥ in
      All-append P heads (range_with_len 16 8)
      (all_heads P (λ ag is. head_beside g.dblocks g.agblocks g.agcount g.log g.logblocks ag (ag * g.agblocks) g.shape.groups g.shape.log_inside refl is.0 is.1))
      (all_range P 16 8 (λ k low high is. let from = is.0 in absurd (omega (arith, high, from, behind))))

  with_log_once : IsOnce (empty_places g ++ range_with_len g.log g.logblocks)
  with_log_once =
      joined (λ block. IsOfLog block → ⊥) (empty_places g) (range_with_len g.log g.logblocks) places_once (range_once g.log g.logblocks) places_beside
      (all_range (λ block. (IsOfLog block → ⊥) → ⊥) g.log g.logblocks (λ k low high beside. beside (low, high)))

  -- all have a use that no block of a tree has
  all_used : All (λ block. IsFree (volume_of g) block → ⊥) (empty_places g ++ range_with_len g.log g.logblocks)
  all_used =
      let v = volume_of g in
      let P : ℕ → Type 0 = λ block. IsFree v block → ⊥ in
      All-append P (empty_places g) (range_with_len g.log g.logblocks)
      (All-append P heads (range_with_len 16 8) (all_heads P (λ ag. head_used v ag (ag * g.agblocks) refl))
      (all_range P 16 8 (λ k low high. chunk_used v k low (omega (arith, high)))))
      (all_range P g.log g.logblocks (λ k low high. log_used v k low high))

-- there are no objects
no_objects : (g : Geometry) (p : Placed) → object_places (empty_wanted g) p ≡ []
unfolding blocks_of_asks
no_objects g p = refl

pub planned_once : (g : Geometry) (sector : List ℕ) (s : Stamp) (plan : Plan) → IsEmptyPlan g sector s plan → HasFirstChunk (volume_of g) → IsOnce (planned plan)
planned_once g sector s plan is first =
    is.is.rendered.apart
    (subst (λ (objects : List ℕ). IsOnce (tree_blocks p ++ (objects ++ new_blocks (empty_wanted g) b) ++ blocks_in_place (empty_wanted g) b)) (sym (no_objects g p))
    (in_parts (is_taken (chunk_run ∷ [])) (tree_blocks p) b.places (log_places (empty_wanted g) b.cycle) here))
  where
    v : Volume
    v = volume_of g

    p : Placed
    p = is.is.placed

    b : Bytes
    b = is.bytes

    placed : StandsFor (empty_wanted g) p
    placed = is.is.stands

    only_chunk : kept_runs (empty_wanted g) ++ p.runs ≡ chunk_run ∷ []
    only_chunk = ap (λ (rs : List Run). chunk_run ∷ rs) (none_placed g p.runs placed.runs')

    trees : AreBehind v (0 * v.agblocks) (tree_blocks p)
    trees =
        trees_once v g.shape.groups (all_inodes g.agcount) g.agcount p.groups
        (subst (λ (ks : List Run). ArePlaced v ks [] (all_inodes g.agcount) g.agcount p.groups) only_chunk placed.groups')
        (subst (λ (ks : List Run). AreOfPool v ks [] (all_inodes g.agcount) g.agcount p.groups) only_chunk placed.pool)

    whole : IsOnce (tree_blocks p ++ (empty_places g ++ range_with_len g.log g.logblocks))
    whole = joined (IsFree v) (tree_blocks p) (empty_places g ++ range_with_len g.log g.logblocks) trees.once (with_log_once g first) trees.free (all_used g first)

    here : IsOnce (tree_blocks p ++ (b.places ++ log_places (empty_wanted g) b.cycle))
    here =
        subst (λ (ps : List ℕ). IsOnce (tree_blocks p ++ (ps ++ log_places (empty_wanted g) b.cycle))) (sym is.made.places')
        (subst (λ (cycle : Option ℕ). IsOnce (tree_blocks p ++ (empty_places g ++ log_places (empty_wanted g) cycle))) (sym is.made.cycle') whole)
