-- One group of a volume as placing has it.
use Rattle.std.proofs.Common.{◌≡◌, ℕ, ◌+◌, ◌-◌, ◌*◌, ◌≤◌, ◌<◌, inl, inr, Bool, false, if◌then◌else◌, List, [], ◌∷◌, ◌++◌, length, map, Option, None, refl, sym, ◌∙◌, ap, ap₂, subst, arith}
use Rattle.std.specs.List.{filter}
use Rattle.std.proofs.lemmas.Bool.{cases_lt, lt-ltb, le-ltb}
use Rattle.std.proofs.lemmas.Bool.Decides.{nat_tests}
use Rattle.xfs_disk.specs.Lists.{is_in_range}
use Rattle.xfs_geom.specs.Conversions.{group_length}
use Rattle.xfs_geom.specs.Shape.{HasGroups}
use Rattle.xfs_geom.specs.Volumes.{Volume}
use Rattle.xfs_geom.specs.declared.records.Run.{Run}
use Rattle.xfs_kinds.specs.MergedRuns.{AreRuns, held_at}
use Rattle.xfs_place.specs.declared.uses.Use.{Use}
use Rattle.xfs_place.specs.Choice.{Group, IsChosenCount, group, group_claimed}
use Rattle.xfs_place.specs.Placing.{IsPlacedGroup}
use Rattle.xfs_place.specs.declared.placed.GroupPlaced.{GroupPlaced}
use Rattle.xfs_geom.specs.declared.records.InoRec.{InoRec}
use Rattle.std.specs.Option.{MatchOption}
use Rattle.xfs_place.proofs.GroupIs.{length_uses}
use Rattle.xfs_place.specs.Claims.{AreClaims}
use Rattle.xfs_place.specs.Wanted.{AreAllClaims, begins_in, claim_in, group_in, run_in_group, uses_in}
use Rattle.xfs_kinds.specs.FixedRuns.{fixed_runs}
use Rattle.xfs_place.proofs.AllClaims.{part_ascends, part_each, part_held}
use Rattle.xfs_place.proofs.Begun.{AreSome}
use Rattle.xfs_place.proofs.Ordered.{are_some}

held_beyond : (top : ℕ) (rs : List Run) (b : ℕ) → AreSome top rs → top ≤ b → held_at rs b ≡ None
held_beyond top [] b some far = refl
held_beyond top (r ∷ rest) b some far =
    let end = some.1 in
    let out : is_in_range r.start r.count b ≡ false = grind (arith, nat_tests, end, far) in
    rw out (held_beyond top rest b some.2 far)

module _ (v : Volume) (kept : List Run) (reserved : List ℕ) (claims : List Run) (ag : ℕ) (groups : HasGroups v.dblocks v.agblocks v.agcount) (low : ag < v.agcount)
    (all : AreAllClaims v kept claims) (part : List Run) (is : part ≡ map (run_in_group (ag * v.agblocks)) (filter (begins_in (ag * v.agblocks) (group_length v ag)) claims)) where
  pub part_claims : AreClaims (group_length v ag) part
  part_claims = subst (AreClaims (group_length v ag)) (sym is) (record {
    ascend = subst (λ (n : ℕ). AreRuns n (map (run_in_group (ag * v.agblocks)) (filter (begins_in (ag * v.agblocks) (group_length v ag)) claims))) none (part_ascends v ag groups low claims 0 all.claims'.ascend);
    each = part_each v ag groups low claims all.claims'.each all.stay;
  })
    where
      none : 0 - ag * v.agblocks ≡ 0
      none = omega arith

  pub part_claim : (b : ℕ) → held_at part b ≡ claim_in v kept ag b
  unfolding claim_in
  part_claim b = elim (cases_lt b (group_length v ag)) [
    | inl in' ↦
        ap (λ (rs : List Run). held_at rs b) is ∙ part_held v ag groups low claims b all.stay in' ∙ all.held (ag * v.agblocks + b)
        ∙ sym (ap (λ (t : Bool). if t then held_at (fixed_runs v ++ kept) (ag * v.agblocks + b) else None) (lt-ltb b (group_length v ag) in'))
    | inr far ↦
        held_beyond (group_length v ag) part b (are_some (group_length v ag) part part_claims.each) far
        ∙ sym (ap (λ (t : Bool). if t then held_at (fixed_runs v ++ kept) (ag * v.agblocks + b) else None) (le-ltb b (group_length v ag) far))
  ]

  -- the group that is placed is that of the volume
  pub same_group : (uses : List Use) (inner : ℕ) → uses ≡ uses_in v kept reserved ag → group_claimed uses part inner ≡ group_in v kept reserved ag inner
  same_group uses inner hu = ap₂ (λ (us : List Use) (claim : ℕ → Option (ℕ × ℕ)). group us claim inner) hu (λ k b. part_claim b k)

-- by the numbers and the lists that the code has
module _ (v : Volume) (kept : List Run) (reserved : List ℕ) (claims : List Run) (ag : ℕ) (groups : HasGroups v.dblocks v.agblocks v.agcount) (low : ag < v.agcount)
    (all : AreAllClaims v kept claims) (base blocks : ℕ) (hb : base ≡ ag * v.agblocks) (hn : blocks ≡ group_length v ag) (mine part : List Run) (here : part ≡ mine)
    (is : mine ≡ map (run_in_group base) (filter (begins_in base blocks) claims)) where
  part_is : part ≡ map (run_in_group (ag * v.agblocks)) (filter (begins_in (ag * v.agblocks) (group_length v ag)) claims)
  part_is = here ∙ is ∙ ap₂ (λ (b n : ℕ). map (run_in_group b) (filter (begins_in b n) claims)) hb hn

  pub same_here : (uses : List Use) (inner : ℕ) → uses ≡ uses_in v kept reserved ag → group_claimed uses part inner ≡ group_in v kept reserved ag inner
  same_here uses inner hu = same_group v kept reserved claims ag groups low all part part_is uses inner hu

  pub claims_here : (uses : List Use) → uses ≡ uses_in v kept reserved ag → AreClaims (length uses) part
  claims_here uses hu =
      let long : length uses ≡ group_length v ag = ap length hu ∙ length_uses v kept reserved ag in
      subst (λ (n : ℕ). AreClaims n part) (sym long) (part_claims v kept reserved claims ag groups low all part part_is)

pub placed_here : (o : Option GroupPlaced) (g h : Group) (base due : ℕ) (inodes : List InoRec) → h ≡ g → base ≡ due
    → MatchOption o (IsChosenCount h None) (IsPlacedGroup h base inodes) → MatchOption o (IsChosenCount g None) (IsPlacedGroup g due inodes)
placed_here o g h base due inodes hg hb placed =
    subst (λ (x : Group). MatchOption o (IsChosenCount x None) (IsPlacedGroup x due inodes)) hg (subst (λ (b : ℕ). MatchOption o (IsChosenCount h None) (IsPlacedGroup h b inodes)) hb placed)
