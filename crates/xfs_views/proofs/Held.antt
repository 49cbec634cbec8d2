-- The owner that runs give a block.
use Rattle.std.proofs.Common.{◌≡◌, ◌⊎◌, ℕ, Bool, true, false, ◌+◌, ◌*◌, ◌≤◌, ◌<◌, inl, inr, ◌/◌, nat_le, nat_lt, List, [], ◌∷◌, map, length, refl, sym, ◌∙◌, ap, subst, arith, Some, None}
use Rattle.std.proofs.Math.Nat.{mul-le-mul_right}
use Rattle.std.proofs.lemmas.Bool.{and_parts, cases_eq, cases_lt, leb-true, ltb-true}
use Rattle.std.proofs.lemmas.List.Elements.{recursion_from_All}
use Rattle.xfs_geom.specs.Runs.{covers, runs_on}
use Rattle.xfs_disk.specs.Blocks.{Image}
use Rattle.xfs_geom.specs.Volumes.{Volume, volume_of}
use Rattle.xfs_geom.specs.declared.geometry.Geometry.{Geometry}
use Rattle.xfs_geom.specs.declared.records.Run.{Run}
use Rattle.xfs_kinds.specs.MergedRuns.{held_at, offset_word_at}
use Rattle.xfs_volume.specs.declared.groups.GroupRec.{GroupRec}
use Rattle.xfs_laws.specs.xfs_space.Parts.{AreGroups, IsLawfulGroup}
use Rattle.xfs_laws.specs.xfs_space.SpaceLaws.{recorded_run, recorded_runs}
use Rattle.xfs_laws.proofs.xfs_space.RecordedMaps.{ends_by, group_inside, mapped_group, starts_from}
use Rattle.xfs_laws.proofs.xfs_space.Shared.{follow_once, on-cons}
use Rattle.xfs_laws.proofs.xfs_space.Splits.{EndsBy, StartsFrom, none_on_back, none_on_front}
use Rattle.xfs_image.specs.Clusters.{chunk_clusters}
use Rattle.xfs_image.specs.Files.{clusters_from}
use Rattle.xfs_image.specs.GroupParts.{AreGroupsRead, IsGroupRead}
use Rattle.xfs_image.specs.Groups.{head_block}
use Rattle.xfs_views.proofs.Counted.{member_on, on_both, on_head}
use Rattle.xfs_views.proofs.Members.{Member, member_all, member_either, member_left, member_right}
use Rattle.xfs_views.proofs.Places.{as_placed, chunk_in, chunked, group_is, named}

-- the run that gives a block its owner
pub record IsHeldBy (rs : List Run) (b : ℕ) (r : Run) : Type 0 where
  pub is : Member r rs
  pub on : covers b r ≡ true
  pub held : held_at rs b ≡ Some (r.owner, offset_word_at r b)

pub held_of : (rs : List Run) (b : ℕ) → (held_at rs b ≡ None) ⊎ ((r : Run) × IsHeldBy rs b r)
held_of [] b = inl refl
held_of (r ∷ rs) b = by_case (covers b r) refl (held_of rs b)
  where
    by_case : (t : Bool) → covers b r ≡ t → (held_at rs b ≡ None) ⊎ ((q : Run) × IsHeldBy rs b q) → (held_at (r ∷ rs) b ≡ None) ⊎ ((q : Run) × IsHeldBy (r ∷ rs) b q)
    by_case true e rest = inr (r, record { is = inl refl; on = e; held = rw e refl })
    by_case false e rest =
        elim rest [
          | inl none ↦ inl (rw e none)
          | inr one ↦ inr (one.0, record { is = inr one.1.is; on = one.1.on; held = rw e one.1.held })
        ]

-- where no more than one run has the block, that is each that has it
pub held_member : (r : Run) (rs : List Run) (b : ℕ) → Member r rs → covers b r ≡ true → runs_on rs b ≤ 1 → held_at rs b ≡ Some (r.owner, offset_word_at r b)
held_member r [] b is on most = absurd is
held_member r (x ∷ xs) b is on most =
    elim is [
      | inl same ↦ subst (λ (y : Run). held_at (x ∷ xs) b ≡ Some (y.owner, offset_word_at y b)) same (let e : covers b x ≡ true = ap (covers b) same ∙ on in rw e refl)
      | inr there ↦ by_case (covers b x) refl there (λ few. held_member r xs b there on few)
    ]
  where
    by_case : (t : Bool) → covers b x ≡ t → Member r xs → (runs_on xs b ≤ 1 → held_at xs b ≡ Some (r.owner, offset_word_at r b)) → held_at (x ∷ xs) b ≡ Some (r.owner, offset_word_at r b)
    by_case true e there rest =
        let all = on_head x xs b e in
        let more = member_on r xs b there on in
        absurd (omega (arith, all, more, most))
    by_case false e there rest = rw e (rest (let all = on-cons x xs b in omega (arith, all, most)))

next_base : (ag w : ℕ) → (ag + 1) * w ≡ ag * w + w
next_base ag w = omega arith

-- no more than one record has a block
pub once_recorded : (g : Geometry) (ag b : ℕ) (gs : List GroupRec) → ag + length gs ≤ g.agcount → AreGroups (volume_of g) ag gs → runs_on (recorded_runs g.agblocks (ag * g.agblocks) gs) b ≤ 1
once_recorded g ag b [] few are = omega arith
once_recorded g ag b (one ∷ gs) few are =
    let v : Volume = volume_of g in
    let base : ℕ = ag * g.agblocks in
    let here : List Run = map (recorded_run base) one.rmap in
    let behind : List Run = recorded_runs g.agblocks (base + g.agblocks) gs in
    let all = on_both here behind b in
    elim (cases_lt b (base + g.agblocks)) [
      | inl less ↦
          let none = none_on_back behind (base + g.agblocks) b (starts_from g.agblocks (base + g.agblocks) gs) less in
          let inside = group_inside v ag (omega (arith, few)) g.shape.groups.last in
          let most = follow_once here 0 (mapped_group v ag base one.rmap inside g.shape.groups.small are.0.rmap).follow b in
          omega (arith, all, none, most)
      | inr past ↦
          let none = none_on_front here (base + g.agblocks) b (ends_by v ag base one.rmap g.shape.groups.covered are.0.rmap) past in
          let rest = once_recorded g (ag + 1) b gs (omega (arith, few)) are.1 in
          let most : runs_on behind b ≤ 1 = subst (λ (n : ℕ). runs_on (recorded_runs g.agblocks n gs) b ≤ 1) (next_base ag g.agblocks) rest in
          omega (arith, all, none, most)
    ]

-- a group of a view, by its number among those from one on: what it reads, its clusters and its records
pub record HasGroup (g : Geometry) (image : Image) (a : ℕ) (gs : List GroupRec) (n : ℕ) : Type 0 where
  pub group : GroupRec
  pub read : IsGroupRead (volume_of g) image n group
  pub is : IsLawfulGroup (volume_of g) n group
  pub clusters : (x : ℕ) → Member x (chunk_clusters (volume_of g) n group.ino) → Member x (clusters_from (volume_of g) a gs)
  pub clusters_back : (x : ℕ) → Member x (clusters_from (volume_of g) a gs) → x / g.agblocks ≡ n → Member x (chunk_clusters (volume_of g) n group.ino)
  pub records : (r : Run) → Member r (map (recorded_run (n * g.agblocks)) group.rmap) → Member r (recorded_runs g.agblocks (a * g.agblocks) gs)
  pub records_back : (r : Run) (b : ℕ) → Member r (recorded_runs g.agblocks (a * g.agblocks) gs) → covers b r ≡ true → n * g.agblocks ≤ b → b < n * g.agblocks + g.agblocks
      → Member r (map (recorded_run (n * g.agblocks)) group.rmap)

covers_parts : (b : ℕ) (r : Run) → covers b r ≡ true → (r.start ≤ b) × (b < r.start + r.count)
covers_parts b r on = let both = and_parts (nat_le r.start b) (nat_lt b (r.start + r.count)) on in (leb-true r.start b both.0, ltb-true b (r.start + r.count) both.1)

cluster_group : (g : Geometry) (a x : ℕ) (one : GroupRec) → IsLawfulGroup (volume_of g) a one → Member x (chunk_clusters (volume_of g) a one.ino) → x / g.agblocks ≡ a
cluster_group g a x one is here =
    let of = chunk_in (volume_of g) a (head_block (volume_of g) a) x None one.ino is.ino here in
    group_is g x (as_placed g a x (chunked g a x of.chunk of.lawful of.is))

cluster_later : (g : Geometry) (a x : ℕ) (gs : List GroupRec) → AreGroups (volume_of g) a gs → Member x (clusters_from (volume_of g) a gs) → a ≤ x / g.agblocks
cluster_later g a x gs are is =
    let of = named (volume_of g) a x gs are is in
    let at = group_is g x (as_placed g (a + of.j) x (chunked g (a + of.j) x of.chunk of.lawful of.is)) in
    omega (arith, at)

first_group : (g : Geometry) (image : Image) (a : ℕ) (one : GroupRec) (gs : List GroupRec) → IsGroupRead (volume_of g) image a one → IsLawfulGroup (volume_of g) a one → AreGroups (volume_of g) (a + 1) gs
    → HasGroup g image a (one ∷ gs) a
first_group g image a one gs read is are =
    let v : Volume = volume_of g in
    let base : ℕ = a * g.agblocks in
    record {
      group = one;
      read = read;
      is = is;
      clusters = λ x here. member_left x (chunk_clusters v a one.ino) (clusters_from v (a + 1) gs) here;
      clusters_back = λ x among at.
          elim (member_either x (chunk_clusters v a one.ino) (clusters_from v (a + 1) gs) among) [
            | inl here ↦ here
            | inr there ↦ let later = cluster_later g (a + 1) x gs are there in absurd (omega (arith, later, at))
          ];
      records = λ r here. member_left r (map (recorded_run base) one.rmap) (recorded_runs g.agblocks (base + g.agblocks) gs) here;
      records_back = λ r b among on low high.
          elim (member_either r (map (recorded_run base) one.rmap) (recorded_runs g.agblocks (base + g.agblocks) gs) among) [
            | inl here ↦ here
            | inr there ↦
                let all = recursion_from_All (StartsFrom (base + g.agblocks)) (recorded_runs g.agblocks (base + g.agblocks) gs) (starts_from g.agblocks (base + g.agblocks) gs) in
                let start : base + g.agblocks ≤ r.start = member_all (StartsFrom (base + g.agblocks)) r (recorded_runs g.agblocks (base + g.agblocks) gs) all there in
                let at = covers_parts b r on in
                let first = at.0 in
                absurd (omega (arith, start, first, high))
          ];
    }

later_group : (g : Geometry) (image : Image) (a n : ℕ) (one : GroupRec) (gs : List GroupRec) → a + 1 ≤ n → IsLawfulGroup (volume_of g) a one → HasGroup g image (a + 1) gs n → HasGroup g image a (one ∷ gs) n
later_group g image a n one gs behind is rest =
    let v : Volume = volume_of g in
    let base : ℕ = a * g.agblocks in
    let next : (a + 1) * g.agblocks ≡ base + g.agblocks = next_base a g.agblocks in
    record {
      group = rest.group;
      read = rest.read;
      is = rest.is;
      clusters = λ x here. member_right x (chunk_clusters v a one.ino) (clusters_from v (a + 1) gs) (rest.clusters x here);
      clusters_back = λ x among at.
          elim (member_either x (chunk_clusters v a one.ino) (clusters_from v (a + 1) gs) among) [
            | inl here ↦ let own = cluster_group g a x one is here in absurd (omega (arith, own, at, behind))
            | inr there ↦ rest.clusters_back x there at
          ];
      records = λ r here.
          member_right r (map (recorded_run base) one.rmap) (recorded_runs g.agblocks (base + g.agblocks) gs)
          (subst (λ (k : ℕ). Member r (recorded_runs g.agblocks k gs)) next (rest.records r here));
      records_back = λ r b among on low high.
          elim (member_either r (map (recorded_run base) one.rmap) (recorded_runs g.agblocks (base + g.agblocks) gs) among) [
            | inl here ↦
                let all = recursion_from_All (EndsBy (base + g.agblocks)) (map (recorded_run base) one.rmap) (ends_by v a base one.rmap g.shape.groups.covered is.rmap) in
                let end : r.start + r.count ≤ base + g.agblocks = member_all (EndsBy (base + g.agblocks)) r (map (recorded_run base) one.rmap) all here in
                let at = covers_parts b r on in
                let last = at.1 in
                let most : (a + 1) * g.agblocks ≤ n * g.agblocks = mul-le-mul_right g.agblocks behind in
                absurd (omega (arith, end, last, most, next, low))
            | inr there ↦ rest.records_back r b (subst (λ (k : ℕ). Member r (recorded_runs g.agblocks k gs)) (sym next) there) on low high
          ];
    }

pub group_at : (g : Geometry) (image : Image) (a n : ℕ) (gs : List GroupRec) → AreGroupsRead (volume_of g) image a gs → AreGroups (volume_of g) a gs → a ≤ n → n < a + length gs → HasGroup g image a gs n
group_at g image a n [] read are low high = absurd (omega (arith, low, high))
group_at g image a n (one ∷ gs) read are low high =
    elim (cases_eq a n) [
      | inl same ↦ subst (λ (k : ℕ). HasGroup g image a (one ∷ gs) k) same (first_group g image a one gs read.0 are.0 are.1)
      | inr other ↦ later_group g image a n one gs (omega (arith, low, other)) are.0 (group_at g image (a + 1) n gs read.1 are.1 (omega (arith, low, other)) (omega (arith, high)))
    ]
