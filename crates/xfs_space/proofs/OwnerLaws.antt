-- The third law, group by group.
use Rattle.std.proofs.Common.{◌≡◌, ◌≢◌, ℕ, Bool, true, false, if◌then◌else◌, ◌%◌, ◌+◌, ◌-◌, ◌*◌, ◌^◌, ◌≤◌, ◌<◌, inl, inr, List, [], ◌∷◌, ◌++◌, length, get_or, map, drop, Option, Some, None, refl, sym, ◌∙◌, ap, ap₂, subst, arith}
use Rattle.std.specs.List.{All}
use Rattle.std.proofs.lemmas.Bool.{cases_lt}
use Rattle.std.proofs.lemmas.Bool.Decides.{nat_tests}
use Rattle.std.proofs.lemmas.List.{drop_all}
use Rattle.std.proofs.lemmas.List.Elements.{All-head, All-tail, All-cons, All-nil}
use Rattle.xfs_disk.specs.Lists.{is_in_range}
use Rattle.xfs_geom.specs.Conversions.{group_length}
use Rattle.xfs_geom.specs.Volumes.{Volume, volume_of}
use Rattle.xfs_geom.specs.declared.geometry.Geometry.{Geometry}
use Rattle.xfs_geom.specs.declared.records.Run.{Run}
use Rattle.xfs_kinds.specs.MergedRuns.{held_at, offset_word_at}
use Rattle.xfs_kinds.specs.OffsetWords.{is_file_data}
use Rattle.xfs_volume.specs.declared.findings.Law.{Law}
use Rattle.xfs_volume.specs.declared.groups.GroupRec.{GroupRec}
use Rattle.xfs_volume.specs.Laws.{first_broken, law_at}
use Rattle.xfs_space.specs.Maps.{AreAlike, AreMapped, IsFirstUnlike, IsMapped}
use Rattle.xfs_space.specs.Parts.{AreGroups, IsLawfulGroup}
use Rattle.xfs_space.specs.SpaceLaws.{owner_at, owner_laws, owner_number, recorded_run, recorded_runs}
use Rattle.xfs_space.specs.Sorted.{Follow, IsOfOneGroup, IsOwned, IsSplit}
use Rattle.xfs_space.proofs.Broken.{least_broken, none_broken}
use Rattle.xfs_space.proofs.FreeLaws.{Rest, follow_low, rest_next, rest_whole, all_back}
use Rattle.xfs_space.proofs.OwnedRuns.{from_head, groups_next}
use Rattle.xfs_space.proofs.RecordedMaps.{ends_by, ends_inside, group_inside, mapped_group, starts_from, starts_group}
use Rattle.xfs_space.proofs.Splits.{all_behind, held_back, held_front, none_held_back, none_held_front, parts_of}

-- an owner and an offset word that a number tells apart from others
abbrev IsBounded : Option (ℕ × ℕ) → Type 0
IsBounded None = Unit {0}
IsBounded (Some (owner, word)) = (owner < 2 ^ 64) × (word + 1 < 2 ^ 64)

held_bounded : (xs : List Run) (b : ℕ) → All IsMapped xs → IsBounded (held_at xs b)
held_bounded [] b all = tt
held_bounded (x ∷ xs) b all = by_case (is_in_range x.start x.count b) refl (held_bounded xs b (All-tail IsMapped x xs all))
  where
    low_word : (offset count k : ℕ) → offset < 2 ^ 64 → offset % 2 ^ 61 + count ≤ 2 ^ 54 → k < count → offset + k + 1 < 2 ^ 64
    low_word offset count k small fork less = omega arith

    word_case : (t : Bool) → b < x.start + x.count → (if t then x.offset_word + (b - x.start) else x.offset_word) + 1 < 2 ^ 64
    word_case true inside =
        let mapped = All-head IsMapped x xs all in
        let some = mapped.some in
        low_word x.offset_word x.count (b - x.start) mapped.offset mapped.fork (omega (arith, inside, some))
    word_case false inside =
        let mapped = All-head IsMapped x xs all in
        let some = mapped.some in
        let low = low_word x.offset_word x.count 0 mapped.offset mapped.fork (omega (arith, some)) in
        omega (arith, low)

    by_case : (t : Bool) → is_in_range x.start x.count b ≡ t → IsBounded (held_at xs b) → IsBounded (if t then Some (x.owner, offset_word_at x b) else held_at xs b)
    by_case true e rest =
        let inside : b < x.start + x.count = grind (arith, nat_tests) in
        ((All-head IsMapped x xs all).owner, word_case (is_file_data x.owner x.offset_word) inside)
    by_case false e rest = rest

one_number : (p q : Option (ℕ × ℕ)) → IsBounded p → IsBounded q → owner_number p ≡ owner_number q → p ≡ q
one_number None None bp bq e = refl
one_number None (Some (o, w)) bp bq e = absurd (omega (arith, bq.0, bq.1, e))
one_number (Some (o, w)) None bp bq e = absurd (omega (arith, bp.0, bp.1, e))
one_number (Some (o, w)) (Some (p, x)) bp bq e =
    let owner : o ≡ p = omega (arith, bp.0, bp.1, bq.0, bq.1, e) in
    let word : w ≡ x = omega (arith, bp.0, bp.1, bq.0, bq.1, e) in
    ap₂ (λ (o w : ℕ). Some (o, w)) owner word

all_front : (P : Run → Type 0) (front back : List Run) → All P (front ++ back) → All P front
all_front P [] back all = All-nil P
all_front P (x ∷ xs) back all = All-cons P x xs (All-head P x (xs ++ back) all) (all_front P xs back (All-tail P x (xs ++ back) all))

-- a group's records and owned runs, seen from the whole volume
pub record Alike (v : Volume) (gs : List GroupRec) (runs rest : List Run) (ag : ℕ) : Type 0 where
  pub lawful : AreGroups v ag (drop ag gs)
  pub left : Rest v (ag * v.agblocks) runs rest
  pub owned : All (IsOwned v) rest
  pub before : (b : ℕ) → b < ag * v.agblocks → held_at (recorded_runs v.agblocks 0 gs) b ≡ held_at runs b
  pub recorded : (b : ℕ) → ag * v.agblocks ≤ b → held_at (recorded_runs v.agblocks 0 gs) b ≡ held_at (recorded_runs v.agblocks (ag * v.agblocks) (drop ag gs)) b

pub alike_whole : (v : Volume) (gs : List GroupRec) (runs : List Run) → AreGroups v 0 gs → Follow 0 runs → All (IsOfOneGroup v) runs → All (IsOwned v) runs → Alike v gs runs runs 0
alike_whole v gs runs lawful follow groups owned =
    let none : 0 * v.agblocks ≡ 0 = omega arith in
    record {
      lawful = lawful;
      left = rest_whole v (0 * v.agblocks) runs none follow groups;
      owned = owned;
      before = λ b h. absurd (omega (arith, h));
      recorded = λ b h. ap (λ (n : ℕ). held_at (recorded_runs v.agblocks n gs) b) (sym none);
    }

-- what a group is in a volume that is lawful so far
pub record Here (v : Volume) (gs : List GroupRec) (runs rest : List Run) (ag : ℕ) (g : GroupRec) (front back : List Run) : Type 0 where
  pub alike : Alike v gs runs rest ag
  pub less : ag < length gs
  pub is : g ≡ get_or gs ag g
  pub split : IsSplit (ag * v.agblocks + v.agblocks) rest front back
  pub covered : v.dblocks ≤ v.agcount * v.agblocks
  pub last : (v.agcount - 1) * v.agblocks + 64 ≤ v.dblocks
  pub small : v.dblocks ≤ 2 ^ 26
  pub count : length gs ≡ v.agcount

module _ (v : Volume) (gs : List GroupRec) (runs rest : List Run) (ag : ℕ) (g : GroupRec) (front back : List Run) (here : Here v gs runs rest ag g front back) where
  records : List Run
  records = map (recorded_run (ag * v.agblocks)) g.rmap

  lawful_group : IsLawfulGroup v ag g × AreGroups v (ag + 1) (drop (ag + 1) gs)
  lawful_group = groups_next v ag gs ag g here.less here.is here.alike.lawful

  inside : ag * v.agblocks + group_length v ag ≤ v.dblocks
  inside = let less = here.less in let count = here.count in group_inside v ag (omega (arith, less, count)) here.last

  pub records_mapped : AreMapped (map (recorded_run (ag * v.agblocks)) g.rmap)
  records_mapped = mapped_group v ag (ag * v.agblocks) g.rmap inside here.small lawful_group.0.rmap

  front_owned : All (IsOwned v) front
  front_owned = all_front (IsOwned v) front back (subst (λ (rs : List Run). All (IsOwned v) rs) here.split.whole here.alike.owned)

  pub front_mapped : AreMapped front
  front_mapped =
      let each = λ (k : ℕ) (d : Run) (less : k < length front).
      let r = front_owned k d less in
      let end = r.inside in
      let small = here.small in
      let m : IsMapped (get_or front k d) = record { some = r.some; end = omega (arith, end, small); owner = r.owner; offset = r.offset; fork = r.fork } in
      m in
      record { each = each; follow = follow_low front 0 (ag * v.agblocks) (omega arith) (parts_of (ag * v.agblocks) (ag * v.agblocks + v.agblocks) rest front back here.alike.left.follow here.split).follow_front }

  held_recorded : (b : ℕ) → ag * v.agblocks ≤ b → b < ag * v.agblocks + v.agblocks → held_at (recorded_runs v.agblocks 0 gs) b ≡ held_at (map (recorded_run (ag * v.agblocks)) g.rmap) b
  held_recorded b low high =
      here.alike.recorded b low
      ∙ ap (λ (rest : List GroupRec). held_at (recorded_runs v.agblocks (ag * v.agblocks) rest) b) (from_head gs ag g here.less here.is)
      ∙ held_front (map (recorded_run (ag * v.agblocks)) g.rmap) (recorded_runs v.agblocks (ag * v.agblocks + v.agblocks) (drop (ag + 1) gs)) (ag * v.agblocks + v.agblocks) b
      (starts_from v.agblocks (ag * v.agblocks + v.agblocks) (drop (ag + 1) gs)) high

  held_owned : (b : ℕ) → ag * v.agblocks ≤ b → b < ag * v.agblocks + v.agblocks → held_at runs b ≡ held_at front b
  held_owned b low high =
      here.alike.left.held b low ∙ (parts_of (ag * v.agblocks) (ag * v.agblocks + v.agblocks) rest front back here.alike.left.follow here.split).held_front b high

  -- the next group, where this one is alike
  pub alike_next : AreAlike (map (recorded_run (ag * v.agblocks)) g.rmap) front → Alike v gs runs back (ag + 1)
  alike_next alike =
      let end : ag * v.agblocks + v.agblocks ≡ (ag + 1) * v.agblocks = omega arith in
      record {
        lawful = lawful_group.1;
        left = subst (λ (n : ℕ). Rest v n runs back) end (rest_next v (ag * v.agblocks) (ag * v.agblocks + v.agblocks) runs rest front back (omega arith) here.alike.left here.split);
        owned = all_back (IsOwned v) front back (subst (λ (rs : List Run). All (IsOwned v) rs) here.split.whole here.alike.owned);
        before = λ b h.
            elim (cases_lt b (ag * v.agblocks)) [
              | inl low ↦ here.alike.before b low
              | inr from ↦ held_recorded b from (omega (arith, h)) ∙ alike b ∙ sym (held_owned b from (omega (arith, h)))
            ];
        recorded = λ b h.
            let behind : ag * v.agblocks + v.agblocks ≤ b = omega (arith, h) in
            here.alike.recorded b (omega (arith, h))
            ∙ ap (λ (rest : List GroupRec). held_at (recorded_runs v.agblocks (ag * v.agblocks) rest) b) (from_head gs ag g here.less here.is)
            ∙ held_back (map (recorded_run (ag * v.agblocks)) g.rmap) (recorded_runs v.agblocks (ag * v.agblocks + v.agblocks) (drop (ag + 1) gs)) (ag * v.agblocks + v.agblocks) b
            (ends_by v ag (ag * v.agblocks) g.rmap here.covered lawful_group.0.rmap) behind
            ∙ ap (λ (n : ℕ). held_at (recorded_runs v.agblocks n (drop (ag + 1) gs)) b) end;
      }

  both_none : (b : ℕ) → held_at (map (recorded_run (ag * v.agblocks)) g.rmap) b ≡ None → held_at front b ≡ None → held_at (map (recorded_run (ag * v.agblocks)) g.rmap) b ≢ held_at front b → ⊥
  both_none b one other differ = differ (one ∙ sym other)

  -- a block that differs is one of the group, and of the volume
  place_low : (b : ℕ) → held_at (map (recorded_run (ag * v.agblocks)) g.rmap) b ≢ held_at front b → ag * v.agblocks ≤ b
  place_low b differ =
      let at = ag * v.agblocks in
      let follow = (parts_of at (at + v.agblocks) rest front back here.alike.left.follow here.split).follow_front in
      elim (cases_lt b at) [
        | inl low ↦
            absurd (both_none b (none_held_back (map (recorded_run at) g.rmap) at b (starts_group at g.rmap) low) (none_held_back front at b (all_behind front at at follow (omega arith)) low) differ)
        | inr from ↦ from
      ]

  place_high : (b : ℕ) → held_at (map (recorded_run (ag * v.agblocks)) g.rmap) b ≢ held_at front b → b < ag * v.agblocks + v.agblocks
  place_high b differ =
      let at = ag * v.agblocks in
      elim (cases_lt b (at + v.agblocks)) [
        | inl low ↦ low
        | inr from ↦
            absurd (both_none b (none_held_front (map (recorded_run at) g.rmap) (at + v.agblocks) b (ends_by v ag at g.rmap here.covered lawful_group.0.rmap) from)
            (none_held_front front (at + v.agblocks) b here.split.before from) differ)
      ]

  place_inside : (b : ℕ) → held_at (map (recorded_run (ag * v.agblocks)) g.rmap) b ≢ held_at front b → b < v.dblocks
  place_inside b differ =
      let at = ag * v.agblocks in
      elim (cases_lt b v.dblocks) [
        | inl low ↦ low
        | inr from ↦
            absurd (both_none b (none_held_front (map (recorded_run at) g.rmap) v.dblocks b (ends_inside v ag at g.rmap inside lawful_group.0.rmap) from)
            (none_held_front front v.dblocks b (λ k d less. (front_owned k d less).inside) from) differ)
      ]

  -- the law of the group is that of the volume
  pub law_differs : (law : Law) → IsFirstUnlike (map (recorded_run (ag * v.agblocks)) g.rmap) front law → Some law ≡ first_broken (owner_laws v (recorded_runs v.agblocks 0 gs) runs)
  unfolding owner_laws
  law_differs law unlike =
      let b = law.place in
      let differ = unlike.first.differs in
      let low = place_low b differ in
      let high = place_high b differ in
      let one = held_recorded b low high in
      let other = held_owned b low high in
      let all = recorded_runs v.agblocks 0 gs in
      let numbers = λ (e : owner_number (held_at all b) ≡ owner_number (held_at runs b)).
      differ (one_number (held_at (map (recorded_run (ag * v.agblocks)) g.rmap) b) (held_at front b)
      (held_bounded (map (recorded_run (ag * v.agblocks)) g.rmap) b records_mapped.each) (held_bounded front b front_mapped.each)
      (ap owner_number (sym one) ∙ e ∙ ap owner_number other)) in
      let least = λ (c : ℕ) (from : 0 ≤ c) (before : c < b).
      elim (cases_lt c (ag * v.agblocks)) as (λ _. owner_number (held_at all c) ≡ owner_number (held_at runs c)) [
        | inl under ↦ ap owner_number (here.alike.before c under)
        | inr from_here ↦
            ap owner_number (held_recorded c from_here (omega (arith, before, high)) ∙ unlike.first.least c before ∙ sym (held_owned c from_here (omega (arith, before, high))))
      ] in
      ap (λ (l : Law). Some l) unlike.is
      ∙ ap₂ (λ (p q : Option (ℕ × ℕ)). Some (law_at 3 b (owner_number p) (owner_number q))) (sym one) (sym other)
      ∙ sym (least_broken (owner_at all runs) 0 v.dblocks b (omega arith) (omega (arith, place_inside b differ)) numbers least)

-- no group is left
pub all_alike : (v : Volume) (gs : List GroupRec) (runs rest : List Run) (ag : ℕ) → Alike v gs runs rest ag → length gs ≤ ag → v.dblocks ≤ ag * v.agblocks → AreAlike (recorded_runs v.agblocks 0 gs) runs
all_alike v gs runs rest ag alike end covered b =
    elim (cases_lt b (ag * v.agblocks)) [
      | inl low ↦ alike.before b low
      | inr from ↦
          let none = none_held_front rest v.dblocks b (λ k d less. (alike.owned k d less).inside) (omega (arith, from, covered)) in
          alike.recorded b from ∙ ap (λ (rest : List GroupRec). held_at (recorded_runs v.agblocks (ag * v.agblocks) rest) b) (drop_all ag gs end) ∙ sym (alike.left.held b from ∙ none)
    ]

pub law_kept : (v : Volume) (recorded runs : List Run) → AreAlike recorded runs → first_broken (owner_laws v recorded runs) ≡ None
unfolding owner_laws
law_kept v recorded runs alike = none_broken (owner_at recorded runs) 0 v.dblocks (λ b low high. ap owner_number (alike b))

-- a group of a geometry
pub here_of : (geometry : Geometry) (gs : List GroupRec) (runs rest : List Run) (ag : ℕ) (g : GroupRec) (base : ℕ) (front back : List Run) → base ≡ ag * geometry.agblocks
    → Alike (volume_of geometry) gs runs rest ag → ag < length gs → g ≡ get_or gs ag g → IsSplit (base + geometry.agblocks) rest front back → length gs ≡ geometry.agcount
    → Here (volume_of geometry) gs runs rest ag g front back
here_of geometry gs runs rest ag g base front back start alike less is split count = record {
  alike = alike;
  less = less;
  is = is;
  split = subst (λ (n : ℕ). IsSplit (n + geometry.agblocks) rest front back) start split;
  covered = geometry.shape.groups.covered;
  last = geometry.shape.groups.last;
  small = geometry.shape.groups.small;
  count = count;
}
