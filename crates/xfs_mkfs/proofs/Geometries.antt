-- What the geometry keeps that is chosen.
use Rattle.std.proofs.Common.{◌≡◌, ℕ, ◌+◌, ◌*◌, ◌/◌, ◌^◌, ◌≤◌, nat_le, ◌&&◌, not, Bool, true, false, List, [], ◌∷◌, Option, Some, None, arith, refl, sym, ap, ◌∙◌, subst}
use Rattle.std.proofs.lemmas.Bool.{leb-true}
use Rattle.xfs_disk.specs.Blocks.{Image}
use Rattle.xfs_disk.specs.declared.stamp.Stamp.{Stamp}
use Rattle.xfs_geom.proofs.Votes.{left}
use Rattle.xfs_geom.specs.First.{first_false}
use Rattle.xfs_geom.specs.Volumes.{volume_of}
use Rattle.xfs_geom.specs.declared.geometry.Geometry.{Geometry}
use Rattle.xfs_options.specs.declared.make_words.MakeOptions.{MakeOptions}
use Rattle.xfs_empty.proofs.Shapes.{log_behind}
use Rattle.xfs_empty.specs.Sizes.{IsChosenGeometry, are_groups, fits_disk, groups_of, has_log_room, log_blocks, too_small, volume_blocks}
use Rattle.xfs_empty.specs.declared.asked.SizesAsked.{SizesAsked}
use Rattle.xfs_empty.specs.Geometry.{HasFirstChunk}
use Rattle.xfs_mkfs.specs.Due.{IsGeometry, asked_of, by_size, by_volume, identifier, refusal}
use Rattle.xfs_mkfs.specs.Marks.{is_marked}
use Rattle.xfs_mkfs.specs.declared.outcome.MakeOutcome.TheVariants.{TooSmall}

first_holds : (k : ℕ) (b : Bool) (rest : List (ℕ × Bool)) → first_false ((k, b) ∷ rest) ≡ None → b ≡ true
first_holds k true rest h = refl
first_holds k false rest h = cc

-- a volume that is not too large lies on the disk
pub on_disk : (a : SizesAsked) (blocks : ℕ) → too_small a blocks ≡ None → volume_blocks a blocks ≤ blocks
unfolding too_small
on_disk a blocks h =
    let d = volume_blocks a blocks in
    let groups = groups_of a d in
    let fits : fits_disk d blocks ≡ true =
    first_holds 1 (fits_disk d blocks) ((2, are_groups groups d) ∷ (3, has_log_room groups d (log_blocks a.logblocks groups d)) ∷ []) h in
    leb-true d blocks (left (nat_le d blocks) (nat_le d (2 ^ 26)) fits)

-- the geometry that is chosen has the first chunk before its log
pub first_chunk : (o : MakeOptions) (s : Stamp) (blocks : ℕ) (g : Geometry) → IsGeometry o s blocks g → HasFirstChunk (volume_of g)
first_chunk o s blocks g chosen =
    let behind : 1030 ≤ g.agcount / 2 * g.agblocks + 6 = log_behind g.agcount g.agblocks g.shape.groups.two g.shape.groups.large in
    record { root = chosen.rootino; log = omega (arith, chosen.log, behind) }

-- it lies on the disk
pub geometry_on_disk : (o : MakeOptions) (s : Stamp) (blocks : ℕ) (g : Geometry) → IsGeometry o s blocks g → too_small (asked_of o) blocks ≡ None
    → g.dblocks ≤ blocks
geometry_on_disk o s blocks g chosen fits =
    subst (λ (n : ℕ). n ≤ blocks) (sym chosen.dblocks) (on_disk (asked_of o) blocks fits)

-- what was found of these sizes was found of what is asked
pub chosen_for : (o : MakeOptions) (s : Stamp) (a : SizesAsked) (blocks size : ℕ) (uuid : List ℕ) (g : Geometry) → a ≡ asked_of o → blocks ≡ size → uuid ≡ identifier o s
    → IsChosenGeometry a blocks uuid g → IsGeometry o s size g
chosen_for o s a blocks size uuid g asked count same chosen =
    subst (λ (u : List ℕ). IsChosenGeometry (asked_of o) size u g) same
    (subst (λ (n : ℕ). IsChosenGeometry (asked_of o) n uuid g) count
    (subst (λ (x : SizesAsked). IsChosenGeometry x blocks uuid g) asked chosen))

pub sized_for : (o : MakeOptions) (a : SizesAsked) (blocks size : ℕ) (answer : Option ℕ) → a ≡ asked_of o → blocks ≡ size → too_small a blocks ≡ answer
    → too_small (asked_of o) size ≡ answer
sized_for o a blocks size answer asked count is =
    sym (ap (λ (x : SizesAsked). too_small x blocks) asked ∙ ap (λ (n : ℕ). too_small (asked_of o) n) count) ∙ is

-- what is refused of it
pub refused_size : (o : MakeOptions) (size : ℕ) (image : Image) (what : ℕ) → too_small (asked_of o) size ≡ Some what → refusal o size image ≡ Some (TooSmall what)
unfolding refusal
refused_size o size image what is = ap (λ (t : Option ℕ). by_size t (by_volume (not o.force && is_marked image))) is

pub refused_mark : (o : MakeOptions) (size : ℕ) (image : Image) (marked : Bool) → too_small (asked_of o) size ≡ None → (not o.force && is_marked image) ≡ marked
    → refusal o size image ≡ by_volume marked
unfolding refusal
refused_mark o size image marked fits is =
    ap (λ (t : Option ℕ). by_size t (by_volume (not o.force && is_marked image))) fits ∙ ap by_volume is
