-- A group that reads has all its parts.
use Rattle.std.proofs.Common.{◌≡◌, ℕ, zero, suc, ◌+◌, List, [], ◌∷◌, length, Option, Some, None, Result, Ok, Err, refl, sym, ap, ◌∙◌, subst}
use Rattle.std.specs.List.{range_with_len}
use Rattle.xfs_disk.specs.Blocks.{Image}
use Rattle.xfs_geom.specs.Volumes.{Volume}
use Rattle.xfs_volume.specs.declared.groups.GroupRec.{GroupRec}
use Rattle.xfs_image.specs.GroupParts.{AreGroupsRead, IsGroupRead}
use Rattle.xfs_image.specs.Groups.{agf_at, agi_at, agfl_at, bno_at, cnt_at, ino_at, fino_at, rmap_at, group_record, group_read, groups_from, groups_read, read_then, with_part}
use Rattle.xfs_image.specs.declared.findings.Finding.{Finding}
use Rattle.xfs_image.specs.declared.findings.Finding.TheVariants as Found

abbrev ok : {B : Type 0} → B → Result B Finding
ok b = Ok b

one : {B : Type 0} (x y : B) → ok x ≡ ok y → x ≡ y
one x y e = cc

not_ok : {B : Type 0} (found : Finding) (b : B) → Err found ≡ ok b → ⊥
not_ok found b e = cc

-- a part in front of what reads has read
part_reads : {A B : Type 0} (ag part : ℕ) (o : Option A) (next : A → Result B Finding) (b : B) → with_part ag part o next ≡ ok b
    → (a : A) × (o ≡ Some a) × (next a ≡ ok b)
part_reads ag part None next b e = absurd (not_ok (Found.Part part ag) b e)
part_reads ag part (Some a) next b e = (a, refl, e)

pub group_has_parts : (v : Volume) (image : Image) (ag : ℕ) (g : GroupRec) → group_read v image ag ≡ Ok g → IsGroupRead v image ag g
unfolding group_read
group_has_parts v image ag g reads =
    let agf = part_reads ag 1 (agf_at v image ag) _ g reads in
    let agi = part_reads ag 2 (agi_at v image ag) _ g agf.2 in
    let agfl = part_reads ag 3 (agfl_at v image ag agf.0) _ g agi.2 in
    let bno = part_reads ag 4 (bno_at v image ag agf.0) _ g agfl.2 in
    let cnt = part_reads ag 5 (cnt_at v image ag agf.0) _ g bno.2 in
    let ino = part_reads ag 6 (ino_at v image ag agi.0) _ g cnt.2 in
    let fino = part_reads ag 7 (fino_at v image ag agi.0) _ g ino.2 in
    let rmap = part_reads ag 8 (rmap_at v image ag agf.0) _ g fino.2 in
    let held : GroupRec = group_record agf.0 agi.0 agfl.0 bno.0 cnt.0 ino.0 fino.0 rmap.0 in
    let is : held ≡ g = one held g rmap.2 in
    let all : IsGroupRead v image ag held = record {
      bno_blocks = bno.0.blocks;
      cnt_blocks = cnt.0.blocks;
      ino_blocks = ino.0.blocks;
      fino_blocks = fino.0.blocks;
      rmap_blocks = rmap.0.blocks;
      agf = agf.1;
      agi = agi.1;
      agfl = agfl.1;
      bno = bno.1;
      cnt = cnt.1;
      ino = ino.1;
      fino = fino.1;
      rmap = rmap.1;
      blocks = refl;
    } in
    subst (IsGroupRead v image ag) is all

-- where all of a list read, the first does, and the rest
first_reads : {A : Type 0} (r : Result A Finding) (rest : Result (List A) Finding) (all : List A) → read_then r rest ≡ ok all
    → (a : A) × (others : List A) × (r ≡ ok a) × (rest ≡ ok others) × (all ≡ a ∷ others)
first_reads (Err found) rest all e = absurd (not_ok found all e)
first_reads (Ok a) (Err found) all e = absurd (not_ok found all e)
first_reads (Ok a) (Ok others) all e = (a, others, refl, refl, sym (one (a ∷ others) all e))

groups_have_parts : (v : Volume) (image : Image) (ag n : ℕ) (gs : List GroupRec) → groups_from v image (range_with_len ag n) ≡ Ok gs
    → AreGroupsRead v image ag gs × (length gs ≡ n)
groups_have_parts v image ag zero gs reads =
    let none : [] ≡ gs = one [] gs reads in
    (subst (AreGroupsRead v image ag) none tt, ap length (sym none))
groups_have_parts v image ag (suc n) gs reads =
    let parts = first_reads (group_read v image ag) (groups_from v image (range_with_len (ag + 1) n)) gs reads in
    let rest = groups_have_parts v image (ag + 1) n parts.1 parts.3 in (
      subst (AreGroupsRead v image ag) (sym parts.4) (group_has_parts v image ag parts.0 parts.2, rest.0),
      ap length parts.4 ∙ ap (λ k. suc k) rest.1,
    )

pub all_have_parts : (v : Volume) (image : Image) (gs : List GroupRec) → groups_read v image ≡ Ok gs
    → AreGroupsRead v image 0 gs × (length gs ≡ v.agcount)
unfolding groups_read
all_have_parts v image gs reads = groups_have_parts v image 0 v.agcount gs reads
