-- The second law, group by group.
use Rattle.std.proofs.Common.{◌≡◌, ◌≢◌, ℕ, true, ◌+◌, ◌*◌, ◌≤◌, ◌<◌, ◌==◌, List, [], ◌∷◌, ◌++◌, length, map, drop, get_or, Option, Some, None, refl, sym, ◌∙◌, ap, ap₂, subst, arith, add-one, drop-cons}
use Rattle.std.specs.List.{All}
use Rattle.std.proofs.lemmas.Bool.Decides.{nat_tests}
use Rattle.std.proofs.lemmas.List.Elements.{All-tail}
use Rattle.xfs_geom.specs.Runs.{runs_on}
use Rattle.xfs_geom.specs.Volumes.{Volume}
use Rattle.xfs_geom.specs.declared.records.Run.{Run}
use Rattle.xfs_geom.specs.declared.records.Span.{Span}
use Rattle.xfs_kinds.specs.MergedRuns.{held_at}
use Rattle.xfs_volume.specs.declared.findings.Law.{Law}
use Rattle.xfs_volume.specs.declared.groups.GroupRec.{GroupRec}
use Rattle.xfs_volume.specs.Laws.{first_broken, first_difference, law_at}
use Rattle.xfs_kinds.specs.Lengths.{by_length}
use Rattle.xfs_space.specs.SpaceLaws.{free_laws, free_spans, span_number, spans_at}
use Rattle.xfs_space.specs.Sorted.{Follow, IsOfOneGroup, IsSplit}
use Rattle.xfs_volume.proofs.First.{first_behind, first_empty, first_in}
use Rattle.xfs_space.proofs.Broken.{first_here, first_next}
use Rattle.xfs_space.proofs.FreeSpans.{free_same, group_short}
use Rattle.xfs_space.proofs.OwnedRuns.{from_head}
use Rattle.xfs_space.proofs.Splits.{parts_of}

-- the runs from a block on
pub record Rest (v : Volume) (at : ℕ) (runs rest : List Run) : Type 0 where
  pub follow : Follow at rest
  pub groups : All (IsOfOneGroup v) rest
  pub on : (b : ℕ) → at ≤ b → runs_on runs b ≡ runs_on rest b
  pub held : (b : ℕ) → at ≤ b → held_at runs b ≡ held_at rest b

pub rest_whole : (v : Volume) (at : ℕ) (runs : List Run) → at ≡ 0 → Follow 0 runs → All (IsOfOneGroup v) runs → Rest v at runs runs
rest_whole v at runs zero_at follow groups = record {
  follow = subst (λ (n : ℕ). Follow n runs) (sym zero_at) follow;
  groups = groups;
  on = λ b h. refl;
  held = λ b h. refl;
}

pub follow_low : (rs : List Run) (low at : ℕ) → low ≤ at → Follow at rs → Follow low rs
follow_low [] low at h follow = tt
follow_low (r ∷ rs) low at h follow = (omega (arith, h, follow.0), follow.1, follow.2)

pub all_back : (P : Run → Type 0) (front back : List Run) → All P (front ++ back) → All P back
all_back P [] back all = all
all_back P (x ∷ xs) back all = all_back P xs back (All-tail P x (xs ++ back) all)

-- none goes across the start of the next group
pub apart : (v : Volume) (rs : List Run) (ag end : ℕ) → end ≡ (ag + 1) * v.agblocks → All (IsOfOneGroup v) rs → All (λ (r : Run). r.start < end → r.start + r.count ≤ end) rs
apart v rs ag end e all = λ k d h before. subst (λ (n : ℕ). (get_or rs k d).start + (get_or rs k d).count ≤ n) (sym e) (all k d h (ag + 1) (subst (λ (n : ℕ). (get_or rs k d).start < n) e before))

-- behind a group, the runs behind the split
pub rest_next : (v : Volume) (at end : ℕ) (runs rest front back : List Run) → at ≤ end → Rest v at runs rest → IsSplit end rest front back → Rest v end runs back
rest_next v at end runs rest front back up left split =
    let parts = parts_of at end rest front back left.follow split in
    record {
      follow = parts.follow_back;
      groups = all_back (IsOfOneGroup v) front back (subst (λ (rs : List Run). All (IsOfOneGroup v) rs) split.whole left.groups);
      on = λ b h. left.on b (omega (arith, h, up)) ∙ parts.on_back b h;
      held = λ b h. left.held b (omega (arith, h, up)) ∙ parts.held_back b h;
    }

-- the law of a group
abbrev pub group_laws : Volume → ℕ → GroupRec → List Run → List Law
group_laws v ag g runs = spans_at (2 * ag) g.bno (free_spans v runs ag) ∷ spans_at (2 * ag + 1) g.cnt (by_length (free_spans v runs ag)) ∷ []

-- the free runs of a group by all runs, or by those before the split
pub free_front : (v : Volume) (ag at end : ℕ) (runs rest front back : List Run) → at ≡ ag * v.agblocks → end ≡ at + v.agblocks → v.dblocks ≤ v.agcount * v.agblocks
    → Rest v at runs rest → IsSplit end rest front back → free_spans v runs ag ≡ free_spans v front ag
free_front v ag at end runs rest front back is_at is_end covered left split =
    let parts = parts_of at end rest front back left.follow split in
    let short = group_short v ag covered in
    free_same v ag runs front
    (λ b h. left.on (ag * v.agblocks + b) (omega (arith, is_at)) ∙ parts.on_front (ag * v.agblocks + b) (omega (arith, is_at, is_end, short, h)))

laws_next : (v : Volume) (ag : ℕ) (gs : List GroupRec) (g : GroupRec) (runs front : List Run) → ag < length gs → g ≡ get_or gs ag g → free_spans v runs ag ≡ free_spans v front ag
    → free_laws v runs ag (drop ag gs) ≡ group_laws v ag g front ++ free_laws v runs (ag + 1) (drop (ag + 1) gs)
laws_next v ag gs g runs front h is same =
    ap (free_laws v runs ag) (from_head gs ag g h is)
    ∙ ap (λ (ss : List Span). spans_at (2 * ag) g.bno ss ∷ spans_at (2 * ag + 1) g.cnt (by_length ss) ∷ free_laws v runs (ag + 1) (drop (ag + 1) gs)) same

-- a group whose law is kept, and one whose law is broken
pub law_kept : (v : Volume) (ag : ℕ) (gs : List GroupRec) (g : GroupRec) (runs front : List Run) (whole : Option Law) → ag < length gs → g ≡ get_or gs ag g
    → free_spans v runs ag ≡ free_spans v front ag → first_broken (group_laws v ag g front) ≡ None → first_broken (free_laws v runs ag (drop ag gs)) ≡ whole
    → first_broken (free_laws v runs (ag + 1) (drop (ag + 1) gs)) ≡ whole
law_kept v ag gs g runs front whole h is same none left =
    sym (first_behind (group_laws v ag g front) (free_laws v runs (ag + 1) (drop (ag + 1) gs)) none) ∙ ap first_broken (sym (laws_next v ag gs g runs front h is same)) ∙ left

pub law_broken : (v : Volume) (ag : ℕ) (gs : List GroupRec) (g : GroupRec) (runs front : List Run) (law : Law) (whole : Option Law) → ag < length gs → g ≡ get_or gs ag g
    → free_spans v runs ag ≡ free_spans v front ag → first_broken (group_laws v ag g front) ≡ Some law → first_broken (free_laws v runs ag (drop ag gs)) ≡ whole → Some law ≡ whole
law_broken v ag gs g runs front law whole h is same some left =
    sym (first_in (group_laws v ag g front) (free_laws v runs (ag + 1) (drop (ag + 1) gs)) law some) ∙ ap first_broken (sym (laws_next v ag gs g runs front h is same)) ∙ left

-- two lists of runs, from a place on
pub equal_here : (held due : List Span) (i : ℕ) (d : Span) → i < length held → i < length due → span_number (get_or held i d) ≡ span_number (get_or due i d)
    → first_difference (map span_number (drop i held)) (map span_number (drop i due)) ≡ first_difference (map span_number (drop (i + 1) held)) (map span_number (drop (i + 1) due))
equal_here held due i d h k same =
    let equal : (span_number (get_or held i d) == span_number (get_or due i d)) ≡ true = grind (arith, nat_tests, same) in
    rw (drop-cons held i d h, drop-cons due i d k, add-one i, equal) refl

-- the law of one tree
pub spans_kept : (place : ℕ) (held due : List Span) (found : ℕ × ℕ) → found ≡ first_difference (map span_number held) (map span_number due) → found.0 ≡ found.1
    → None ≡ first_broken (spans_at place held due ∷ [])
spans_kept place held due found is same = sym (first_next (spans_at place held due) [] (subst (λ (p : ℕ × ℕ). p.0 ≡ p.1) is same) ∙ first_empty)

pub spans_broken : (place : ℕ) (held due : List Span) (found : ℕ × ℕ) → found ≡ first_difference (map span_number held) (map span_number due) → found.0 ≢ found.1
    → Some (law_at 2 place found.0 found.1) ≡ first_broken (spans_at place held due ∷ [])
spans_broken place held due found is differ =
    ap (λ (p : ℕ × ℕ). Some (law_at 2 place p.0 p.1)) is ∙ sym (first_here (spans_at place held due) [] (subst (λ (p : ℕ × ℕ). p.0 ≢ p.1) is differ))

-- the laws of a group's two trees
pub first_tree : (v : Volume) (ag : ℕ) (g : GroupRec) (runs : List Run) (held due : List Span) (law : Law) → held ≡ g.bno → due ≡ free_spans v runs ag
    → Some law ≡ first_broken (spans_at (2 * ag) held due ∷ []) → Some law ≡ first_broken (group_laws v ag g runs)
first_tree v ag g runs held due law is_held is_due some =
    sym (first_in (spans_at (2 * ag) g.bno (free_spans v runs ag) ∷ []) (spans_at (2 * ag + 1) g.cnt (by_length (free_spans v runs ag)) ∷ []) law
    (sym (some ∙ ap₂ (λ (h d : List Span). first_broken (spans_at (2 * ag) h d ∷ [])) is_held is_due)))

pub second_tree : (v : Volume) (ag : ℕ) (g : GroupRec) (runs : List Run) (held due held_ranked due_ranked : List Span) (law : Option Law) → held ≡ g.bno → due ≡ free_spans v runs ag
    → held_ranked ≡ g.cnt → due_ranked ≡ by_length (free_spans v runs ag) → None ≡ first_broken (spans_at (2 * ag) held due ∷ [])
    → law ≡ first_broken (spans_at (2 * ag + 1) held_ranked due_ranked ∷ []) → law ≡ first_broken (group_laws v ag g runs)
second_tree v ag g runs held due held_ranked due_ranked law is_held is_due is_ranked is_due_ranked none is =
    is ∙ ap₂ (λ (h d : List Span). first_broken (spans_at (2 * ag + 1) h d ∷ [])) is_ranked is_due_ranked
    ∙ sym (first_behind (spans_at (2 * ag) g.bno (free_spans v runs ag) ∷ []) (spans_at (2 * ag + 1) g.cnt (by_length (free_spans v runs ag)) ∷ [])
    (sym (none ∙ ap₂ (λ (h d : List Span). first_broken (spans_at (2 * ag) h d ∷ [])) is_held is_due)))
