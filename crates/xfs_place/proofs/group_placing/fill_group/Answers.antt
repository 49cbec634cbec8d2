use Rattle.std.proofs.Common.{◌≡◌, ◌≤◌, ◌<◌, ◌^◌, ℕ, List, length, map, drop, sym, ◌∙◌, ap, ap₂, subst, arith}
use Rattle.std.proofs.lemmas.List.Sums.{count_by-le-length, length-filter}
use Rattle.std.proofs.lemmas.Result.{IfOk-from_err}
use Rattle.xfs_geom.specs.Sums.{has_free}
use Rattle.xfs_geom.specs.declared.records.Run.{Run}
use Rattle.xfs_geom.specs.declared.records.Span.{Span}
use Rattle.xfs_kinds.specs.MergedRuns.{held_at}
use Rattle.xfs_place.specs.Claims.{AreClaims}
use Rattle.xfs_place.specs.Choice.{AreLowest, Group, IsPlacingGroup, group_claimed, space_blocks}
use Rattle.std.specs.List.Sorted.{IsPermutation}
use Rattle.xfs_place.proofs.ByLength.{by_length_is}
use Rattle.xfs_place.specs.Placing.{AreOwned, cut, inner_blocks, tree_blocks_at}
use Rattle.xfs_place.proofs.Filled.{is_placed}
use Rattle.xfs_place.proofs.group_placing.fill_group.Goals as goal

pub list_sizes-sizes-requires : goal.list_sizes-sizes-requires
list_sizes-sizes-requires c =
    let inodes = c.args.inodes.now in
    let few : length c.args.fino.items ≤ length inodes = omega (arith, ap length c.requires.free, length-filter has_free inodes, count_by-le-length has_free inodes) in (
      omega (arith, c.len.ensures, c.in_ok-bno.bno.ok.0, c.in_ok-bno.ensures.few, c.requires.few),
      omega (arith, c.requires.few),
      omega (arith, c.len-2.ensures, c.args.fino.ok.0, few, c.requires.few),
      omega (arith, c.len-3.ensures, c.in_ok-rmap.rmap.ok.0, c.in_ok-rmap.ensures.few, c.requires.few),
    )

-- the owners by the numbers that the code has
owned_is : (g h : Group) (space due n : ℕ) (runs : List Run) → h ≡ g → space ≡ due → AreOwned h space n runs → AreOwned g due n runs
owned_is g h space due n runs hg hs are = subst (λ (x : Group). AreOwned x due n runs) hg (subst (λ (s : ℕ). AreOwned h s n runs) hs are)

pub returns : goal.returns
returns c = λ chosen.
    let uses = c.args.uses.now in
    let claims = c.args.claims.now in
    let inodes = c.args.inodes.now in
    let blocks = c.args.taken.now.blocks.items in
    let n = length blocks in
    let inner : c.inner_size-inner.result ≡ inner_blocks inodes = c.inner_size-inner.ensures.value in
    let g = group_claimed uses claims (inner_blocks inodes) in
    let same : group_claimed uses claims c.inner_size-inner.result ≡ g = ap (group_claimed uses claims) inner in
    let is : IsPlacingGroup (group_claimed uses claims c.inner_size-inner.result) = subst IsPlacingGroup (sym same) c.requires.group in
    let here = c.deref-2.ensures.value in
    let listed : AreOwned (group_claimed uses claims c.inner_size-inner.result) c.space_blocks-space.result n c.in_ok-owned.owned.items =
    subst (λ (bs : List ℕ). AreOwned (group_claimed uses claims c.inner_size-inner.result) c.space_blocks-space.result (length bs) c.in_ok-owned.owned.items) here
    (c.in_ok-owned.ensures uses (omega (arith, c.requires.few)) is c.requires.claims (subst (AreLowest uses) (sym here) c.requires.taken.low)) in
    let owned : AreOwned g (space_blocks g n) n c.in_ok-owned.owned.items =
    owned_is g (group_claimed uses claims c.inner_size-inner.result) c.space_blocks-space.result (space_blocks g n) n c.in_ok-owned.owned.items same c.space_blocks-space.ensures.value listed in
    let runs : c.deref-3.result.now ≡ c.in_ok-owned.owned.items = c.deref-3.ensures.value in
    let again : c.deref-5.result.now ≡ c.in_ok-owned.owned.items = c.deref-5.ensures.value in
    is_placed uses claims inodes c.args.base c.requires.group blocks chosen c.requires.taken.low c.in_ok-owned.owned.items owned
    (record { bno = c.from_vec.result; cnt = c.from_vec-2.result; fino = c.from_vec-3.result; rmap = c.from_vec-4.result; trees = c.from_vec-5.result; agfl = c.from_vec-6.result })
    c.in_ok-bno.bno.items c.from_vec.ensures c.in_ok-cnt.cnt.items c.from_vec-2.ensures c.args.fino.items c.from_vec-3.ensures c.in_ok-rmap.rmap.items c.from_vec-4.ensures
    (λ b low none. c.in_ok-bno.ensures.held b low (ap (λ (rs : List Run). held_at rs b) runs ∙ none))
    (λ b free. let so = c.in_ok-bno.ensures.taken b free in (so.0, sym (ap (λ (rs : List Run). held_at rs b) runs) ∙ so.1))
    c.in_ok-bno.ensures.separate
    (by_length_is c.in_ok-bno.bno.items c.in_ok-cnt.cnt.items c.in_ok-bno.ensures.separate
    (subst (λ (ss : List Span). IsPermutation ss c.in_ok-cnt.cnt.items) c.deref-4.ensures.value c.in_ok-cnt.ensures.moved) c.in_ok-cnt.ensures.sorted)
    c.requires.free c.in_ok-rmap.ensures.claims (λ b. c.in_ok-rmap.ensures.held b ∙ ap (λ (rs : List Run). held_at rs b) again) c.in_ok-rmap.ensures.apart
    c.len.result c.len-2.result c.len-3.result (omega (arith, c.len.ensures, c.in_ok-bno.bno.ok.0)) (omega (arith, c.len-2.ensures, c.args.fino.ok.0)) (omega (arith, c.len-3.ensures, c.in_ok-rmap.rmap.ok.0))
    c.list_sizes-sizes.result c.list_sizes-sizes.ensures.sizes
    (c.from_vec-5.ensures ∙ c.in_ok-trees.ensures ∙ ap (λ (bs : List ℕ). map (tree_blocks_at c.args.base) (cut c.list_sizes-sizes.result bs)) c.deref-6.ensures.value)
    (c.from_vec-6.ensures ∙ c.in_ok-agfl.ensures ∙ ap₂ (λ (k : ℕ) (bs : List ℕ). drop k bs) c.all_of.ensures c.deref-7.ensures.value)

fits : (n : ℕ) → n < 2 ^ 36 → n < 2 ^ 40
fits n small = omega (arith, small)

pub list_owned-requires : goal.list_owned-requires
list_owned-requires c = record { space = (fits c.space_blocks-space.result c.space_blocks-space.ensures.small, fits c.inner_size-inner.result c.inner_size-inner.ensures.small) }

pub list_free-requires : goal.list_free-requires
list_free-requires c =
    let uses = c.args.uses.now in
    let inner = ap (group_claimed uses c.args.claims.now) c.inner_size-inner.ensures.value in
    let listed = c.in_ok-owned.ensures uses (omega (arith, c.requires.few)) (subst IsPlacingGroup (sym inner) c.requires.group) c.requires.claims
    (subst (AreLowest uses) (sym c.deref-2.ensures.value) c.requires.taken.low) in
    subst (AreClaims (length uses)) (sym c.deref-3.ensures.value) listed.claims

pub list_records-requires : goal.list_records-requires
list_records-requires c =
    let uses = c.args.uses.now in
    let inner = ap (group_claimed uses c.args.claims.now) c.inner_size-inner.ensures.value in
    let listed = c.in_ok-owned.ensures uses (omega (arith, c.requires.few)) (subst IsPlacingGroup (sym inner) c.requires.group) c.requires.claims
    (subst (AreLowest uses) (sym c.deref-2.ensures.value) c.requires.taken.low) in
    subst (AreClaims (length uses)) (sym c.deref-5.ensures.value) listed.claims

pub cut_trees-requires-clause-base : goal.cut_trees-requires-clause-base
cut_trees-requires-clause-base c = c.requires.base

pub returns-in_err-owned : goal.returns-in_err-owned
returns-in_err-owned c = IfOk-from_err c.from_residual.result _ c.from_residual.ensures.0

pub returns-in_err-bno : goal.returns-in_err-bno
returns-in_err-bno c = IfOk-from_err c.from_residual-in_err-bno.result _ c.from_residual-in_err-bno.ensures.0

pub returns-in_err-cnt : goal.returns-in_err-cnt
returns-in_err-cnt c = IfOk-from_err c.from_residual-in_err-cnt.result _ c.from_residual-in_err-cnt.ensures.0

pub returns-in_err-rmap : goal.returns-in_err-rmap
returns-in_err-rmap c = IfOk-from_err c.from_residual-in_err-rmap.result _ c.from_residual-in_err-rmap.ensures.0

pub returns-in_err-trees : goal.returns-in_err-trees
returns-in_err-trees c = IfOk-from_err c.from_residual-in_err-trees.result _ c.from_residual-in_err-trees.ensures.0

pub returns-in_err-agfl : goal.returns-in_err-agfl
returns-in_err-agfl c = IfOk-from_err c.from_residual-in_err-agfl.result _ c.from_residual-in_err-agfl.ensures.0

pub inner_size-inner-requires-clause-few : goal.inner_size-inner-requires-clause-few
inner_size-inner-requires-clause-few c = c.requires.few.1

pub inner_size-inner-requires-clause-free : goal.inner_size-inner-requires-clause-free
inner_size-inner-requires-clause-free c = c.deref.ensures.value ∙ c.requires.free

pub space_blocks-space-requires-clause-few : goal.space_blocks-space-requires-clause-few
space_blocks-space-requires-clause-few c = omega (arith, c.requires.few)

pub space_blocks-space-requires-clause-stands : goal.space_blocks-space-requires-clause-stands
space_blocks-space-requires-clause-stands c = c.requires.taken

pub cut_trees-requires-clause-sizes : goal.cut_trees-requires-clause-sizes
cut_trees-requires-clause-sizes c = c.list_sizes-sizes.ensures.small

pub all_of-requires : goal.all_of-requires
all_of-requires c = c.list_sizes-sizes.ensures.small
