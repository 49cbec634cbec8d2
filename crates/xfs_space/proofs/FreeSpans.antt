-- The free runs of a group, from the runs that are owned.
use Rattle.std.proofs.Common.{◌≡◌, ℕ, zero, suc, Bool, true, false, not, cond, ◌+◌, ◌-◌, ◌*◌, ◌≤◌, ◌<◌, ◌==◌, ◌||◌, if◌then◌else◌, List, [], ◌∷◌, map, refl, sym, ◌∙◌, ap, ap₂, arith}
use Rattle.std.specs.List.{All}
use Rattle.std.proofs.lemmas.Bool.{eqb-true}
use Rattle.std.proofs.lemmas.Bool.Decides.{nat_tests}
use Rattle.std.proofs.lemmas.List.Elements.{All-head, All-tail}
use Rattle.xfs_geom.specs.Runs.{covers, runs_on}
use Rattle.xfs_disk.specs.Lists.{is_in_range}
use Rattle.xfs_geom.specs.Conversions.{group_length}
use Rattle.xfs_geom.specs.Volumes.{Volume}
use Rattle.xfs_geom.specs.declared.records.Run.{Run}
use Rattle.xfs_kinds.specs.FreeRuns.{SpansAscend, is_in_spans, is_outside_spans, free_of, runs_where}
use Rattle.xfs_space.specs.SpaceLaws.{free_spans}
use Rattle.xfs_space.specs.Sorted.{Follow, span_in}
use Rattle.xfs_space.proofs.Shared.{on-cons}
use Rattle.xfs_space.proofs.Splits.{StartsFrom, all_behind}

-- runs of a group ascend as AG blocks
pub ascends : (base n low : ℕ) (rs : List Run) → n + base ≤ low → Follow low rs → SpansAscend n (map (span_in base) rs)
ascends base n low [] h follow = tt
ascends base n low (r ∷ rs) h follow =
    (omega (arith, h, follow.0), ascends base (r.start - base + r.count) (r.start + r.count) rs (omega (arith, h, follow.0)) follow.2)

-- an AG block is in them where a run has the block
pub used_is : (base : ℕ) (rs : List Run) (b : ℕ) → All (StartsFrom base) rs → is_in_spans (map (span_in base) rs) b ≡ not (runs_on rs (base + b) == 0)
used_is base [] b starts = refl
used_is base (r ∷ rs) b starts =
    let start : base ≤ r.start = All-head (StartsFrom base) r rs starts in
    let same : is_in_range (r.start - base) r.count b ≡ covers (base + b) r = grind (arith, nat_tests, start) in
    let count : runs_on (r ∷ rs) (base + b) ≡ cond (covers (base + b) r) 1 0 + runs_on rs (base + b) = on-cons r rs (base + b) in
    ap₂ ◌||◌ same (used_is base rs b (All-tail (StartsFrom base) r rs starts)) ∙ either (covers (base + b) r) (runs_on rs (base + b)) ∙ ap (λ (n : ℕ). not (n == 0)) (sym count)
  where
    either : (t : Bool) (n : ℕ) → (t || not (n == 0)) ≡ not (cond t 1 0 + n == 0)
    either true n = let some : (1 + n == 0) ≡ false = grind (arith, nat_tests) in rw some refl
    either false n = let same : 0 + n ≡ n = omega arith in rw same refl

-- tests that agree on the blocks that are asked have the same runs
pub runs_within : (p q : ℕ → Bool) (b n : ℕ) → ((c : ℕ) → b ≤ c → c < b + n → p c ≡ q c) → runs_where p b n ≡ runs_where q b n
runs_within p q b zero same = refl
runs_within p q b (suc n) same =
    let first = same b (omega arith) (omega arith) in
    let others = runs_within p q (b + 1) n (λ c low high. same c (omega (arith, low)) (omega (arith, high))) in
    rw (first, others) refl

not_not : (t : Bool) → not (not t) ≡ t
not_not true = refl
not_not false = refl

-- the free runs between the owned ones are those of the blocks without an owner
pub free_is : (v : Volume) (ag : ℕ) (rs : List Run) → Follow (ag * v.agblocks) rs → free_of (map (span_in (ag * v.agblocks)) rs) (group_length v ag) ≡ free_spans v rs ag
unfolding free_of free_spans
free_is v ag rs follow =
    let base = ag * v.agblocks in
    let starts = all_behind rs base base follow (omega arith) in
    runs_within (is_outside_spans (map (span_in base) rs)) (λ b. runs_on rs (base + b) == 0) 0 (group_length v ag)
    (λ b low high. ap not (used_is base rs b starts) ∙ not_not (runs_on rs (base + b) == 0))

-- runs that agree on the blocks of a group leave the same blocks free
pub free_same : (v : Volume) (ag : ℕ) (xs ys : List Run) → ((b : ℕ) → b < group_length v ag → runs_on xs (ag * v.agblocks + b) ≡ runs_on ys (ag * v.agblocks + b))
    → free_spans v xs ag ≡ free_spans v ys ag
unfolding free_spans
free_same v ag xs ys same =
    runs_within (λ b. runs_on xs (ag * v.agblocks + b) == 0) (λ b. runs_on ys (ag * v.agblocks + b) == 0) 0 (group_length v ag)
    (λ b low high. ap (λ (n : ℕ). n == 0) (same b (omega (arith, high))))

-- no group has more blocks than others
pub group_short : (v : Volume) (ag : ℕ) → v.dblocks ≤ v.agcount * v.agblocks → group_length v ag ≤ v.agblocks
group_short v ag covered = by_case (ag + 1 == v.agcount) refl
  where
    by_case : (t : Bool) → (ag + 1 == v.agcount) ≡ t → (if t then v.dblocks - ag * v.agblocks else v.agblocks) ≤ v.agblocks
    by_case true e =
        let last : ag + 1 ≡ v.agcount = eqb-true (ag + 1) v.agcount e in
        let whole : (ag + 1) * v.agblocks ≡ v.agcount * v.agblocks = ap (λ (n : ℕ). n * v.agblocks) last in
        omega (arith, whole, covered)
    by_case false e = omega arith
