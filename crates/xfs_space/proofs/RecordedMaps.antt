-- What the reverse-mapping trees record, group by group.
use Rattle.std.proofs.Common.{◌≡◌, ℕ, Bool, true, false, ◌+◌, ◌-◌, ◌*◌, ◌^◌, ◌≤◌, ◌<◌, ◌&&◌, ◌==◌, if◌then◌else◌, nat_le, nat_lt, List, [], ◌∷◌, length, get_or, map, Option, Some, None, refl, ap, subst, arith}
use Rattle.std.specs.List.{All}
use Rattle.std.proofs.Math.Nat.{mul-le-mul_right}
use Rattle.std.proofs.lemmas.Bool.{and_parts, eqb-true, eqb-false, leb-true, ltb-true}
use Rattle.std.proofs.lemmas.List.Elements.{All-append, All-map, All-nil}
use Rattle.xfs_geom.specs.Conversions.{group_length}
use Rattle.xfs_geom.specs.Volumes.{Volume}
use Rattle.xfs_geom.specs.declared.records.RmapRec.{RmapRec}
use Rattle.xfs_geom.specs.declared.records.Run.{Run}
use Rattle.xfs_kinds.specs.Groups.{lies_in_group}
use Rattle.xfs_kinds.specs.OffsetWords.{offset_in_fork}
use Rattle.xfs_kinds.specs.OwnerTrees.{fits_owner, follows_end, is_owned_run, is_owner, rmap_shape}
use Rattle.xfs_kinds.specs.xfs_tree.Rules.{are_lawful}
use Rattle.xfs_volume.specs.declared.groups.GroupRec.{GroupRec}
use Rattle.xfs_space.specs.Maps.{AreMapped, IsMapped}
use Rattle.xfs_space.specs.SpaceLaws.{recorded_run, recorded_runs}
use Rattle.xfs_space.specs.Sorted.{Follow}
use Rattle.xfs_space.proofs.FreeLaws.{follow_low}
use Rattle.xfs_space.proofs.FreeSpans.{group_short}
use Rattle.xfs_space.proofs.Lawful.{each_lawful}
use Rattle.xfs_space.proofs.Splits.{EndsBy, StartsFrom}

-- a group lies inside the volume
pub group_inside : (v : Volume) (ag : ℕ) → ag < v.agcount → (v.agcount - 1) * v.agblocks + 64 ≤ v.dblocks → ag * v.agblocks + group_length v ag ≤ v.dblocks
group_inside v ag there last = by_case (ag + 1 == v.agcount) refl
  where
    by_case : (t : Bool) → (ag + 1 == v.agcount) ≡ t → ag * v.agblocks + (if t then v.dblocks - ag * v.agblocks else v.agblocks) ≤ v.dblocks
    by_case true e =
        let is_last : ag ≡ v.agcount - 1 = omega (arith, eqb-true (ag + 1) v.agcount e) in
        let same : ag * v.agblocks ≡ (v.agcount - 1) * v.agblocks = ap (λ (n : ℕ). n * v.agblocks) is_last in
        omega (arith, same, last)
    by_case false e =
        let other = eqb-false (ag + 1) v.agcount e in
        let before : ag + 1 ≤ v.agcount - 1 = omega (arith, there, other) in
        let most : (ag + 1) * v.agblocks ≤ (v.agcount - 1) * v.agblocks = mul-le-mul_right v.agblocks before in
        omega (arith, most, last)

-- what a record says
pub record IsRecorded (v : Volume) (ag : ℕ) (r : RmapRec) : Type 0 where
  pub some : 1 ≤ r.count
  pub owner : r.owner < 2 ^ 64
  pub offset : r.offset_word < 2 ^ 64
  pub fork : offset_in_fork r.offset_word + r.count ≤ 2 ^ 54
  pub inside : r.start + r.count ≤ group_length v ag

recorded_each : (v : Volume) (ag : ℕ) (before : Option RmapRec) (r : RmapRec) → (is_owned_run v ag r && follows_end before r) ≡ true → IsRecorded v ag r
recorded_each v ag before r h =
    let fork = offset_in_fork r.offset_word + r.count in
    let run = (and_parts (is_owned_run v ag r) (follows_end before r) h).0 in
    let a = and_parts (fits_owner r && nat_le 1 r.count && is_owner r.owner && nat_le fork (2 ^ 54)) (lies_in_group v ag r.start r.count) run in
    let b = and_parts (fits_owner r && nat_le 1 r.count && is_owner r.owner) (nat_le fork (2 ^ 54)) a.0 in
    let c = and_parts (fits_owner r && nat_le 1 r.count) (is_owner r.owner) b.0 in
    let d = and_parts (fits_owner r) (nat_le 1 r.count) c.0 in
    let e = and_parts (nat_lt r.start (2 ^ 32) && nat_lt r.count (2 ^ 32) && nat_lt r.owner (2 ^ 64)) (nat_lt r.offset_word (2 ^ 64)) d.0 in
    let f = and_parts (nat_lt r.start (2 ^ 32) && nat_lt r.count (2 ^ 32)) (nat_lt r.owner (2 ^ 64)) e.0 in
    let g = and_parts (nat_lt ag v.agcount) (nat_le (r.start + r.count) (group_length v ag)) a.1 in
    record {
      some = leb-true 1 r.count d.1;
      owner = ltb-true r.owner (2 ^ 64) f.1;
      offset = ltb-true r.offset_word (2 ^ 64) e.1;
      fork = leb-true fork (2 ^ 54) b.1;
      inside = leb-true (r.start + r.count) (group_length v ag) g.1;
    }

pub all_recorded : (v : Volume) (ag : ℕ) (rs : List RmapRec) → are_lawful (rmap_shape ag) v None rs ≡ true → All (IsRecorded v ag) rs
all_recorded v ag rs h = each_lawful (rmap_shape ag) v (IsRecorded v ag) (recorded_each v ag) None rs h

end_of : Option RmapRec → ℕ
end_of None = 0
end_of (Some r) = r.start + r.count

follows : (before : Option RmapRec) (r : RmapRec) → follows_end before r ≡ true → end_of before ≤ r.start
unfolding end_of
follows None r h = omega arith
follows (Some b) r h = leb-true (b.start + b.count) r.start h

-- the records of a group follow each other
follow_recorded : (v : Volume) (ag base : ℕ) (before : Option RmapRec) (rs : List RmapRec) → are_lawful (rmap_shape ag) v before rs ≡ true → Follow (base + end_of before) (map (recorded_run base) rs)
unfolding end_of
follow_recorded v ag base before [] h = tt
follow_recorded v ag base before (r ∷ rs) h =
    let parts = and_parts (is_owned_run v ag r && follows_end before r) (are_lawful (rmap_shape ag) v (Some r) rs) h in
    let here = recorded_each v ag before r parts.0 in
    let some = here.some in
    let behind : end_of before ≤ r.start = follows before r (and_parts (is_owned_run v ag r) (follows_end before r) parts.0).1 in
    let same : base + (r.start + r.count) ≡ base + r.start + r.count = omega arith in
    (omega (arith, behind), some, subst (λ (n : ℕ). Follow n (map (recorded_run base) rs)) same (follow_recorded v ag base (Some r) rs parts.1))

-- the records of a group are a map
pub mapped_group : (v : Volume) (ag base : ℕ) (rs : List RmapRec) → base + group_length v ag ≤ v.dblocks → v.dblocks ≤ 2 ^ 26 → are_lawful (rmap_shape ag) v None rs ≡ true
    → AreMapped (map (recorded_run base) rs)
unfolding end_of
mapped_group v ag base rs inside small h =
    let each = λ (k : ℕ) (d : RmapRec) (less : k < length rs).
    let r = all_recorded v ag rs h k d less in
    let in_group = r.inside in
    let m : IsMapped (recorded_run base (get_or rs k d)) = record { some = r.some; end = omega (arith, in_group, inside, small); owner = r.owner; offset = r.offset; fork = r.fork } in
    m in
    record {
      each = All-map IsMapped (recorded_run base) rs each;
      follow = follow_low (map (recorded_run base) rs) 0 (base + 0) (omega arith) (follow_recorded v ag base None rs h);
    }

-- the records of a group end by the next one, those behind it begin there
pub ends_by : (v : Volume) (ag base : ℕ) (rs : List RmapRec) → v.dblocks ≤ v.agcount * v.agblocks → are_lawful (rmap_shape ag) v None rs ≡ true
    → All (EndsBy (base + v.agblocks)) (map (recorded_run base) rs)
ends_by v ag base rs covered h =
    let each = λ (k : ℕ) (d : RmapRec) (less : k < length rs).
    let inside = (all_recorded v ag rs h k d less).inside in
    let short = group_short v ag covered in
    let m : EndsBy (base + v.agblocks) (recorded_run base (get_or rs k d)) = omega (arith, inside, short) in
    m in
    All-map (EndsBy (base + v.agblocks)) (recorded_run base) rs each

pub ends_inside : (v : Volume) (ag base : ℕ) (rs : List RmapRec) → base + group_length v ag ≤ v.dblocks → are_lawful (rmap_shape ag) v None rs ≡ true
    → All (EndsBy v.dblocks) (map (recorded_run base) rs)
ends_inside v ag base rs whole h =
    let each = λ (k : ℕ) (d : RmapRec) (less : k < length rs).
    let inside = (all_recorded v ag rs h k d less).inside in
    let m : EndsBy v.dblocks (recorded_run base (get_or rs k d)) = omega (arith, inside, whole) in
    m in
    All-map (EndsBy v.dblocks) (recorded_run base) rs each

pub starts_group : (base : ℕ) (rs : List RmapRec) → All (StartsFrom base) (map (recorded_run base) rs)
starts_group base rs =
    let each = λ (k : ℕ) (d : RmapRec) (less : k < length rs). let m : StartsFrom base (recorded_run base (get_or rs k d)) = omega arith in m in
    All-map (StartsFrom base) (recorded_run base) rs each

starts_low : (rs : List Run) (low base : ℕ) → low ≤ base → All (StartsFrom base) rs → All (StartsFrom low) rs
starts_low rs low base h all = λ k d less. let start : base ≤ (get_or rs k d).start = all k d less in omega (arith, start, h)

pub starts_from : (n base : ℕ) (gs : List GroupRec) → All (StartsFrom base) (recorded_runs n base gs)
starts_from n base [] = All-nil (StartsFrom base)
starts_from n base (g ∷ gs) =
    All-append (StartsFrom base) (map (recorded_run base) g.rmap) (recorded_runs n (base + n) gs) (starts_group base g.rmap)
    (starts_low (recorded_runs n (base + n) gs) base (base + n) (omega arith) (starts_from n (base + n) gs))
