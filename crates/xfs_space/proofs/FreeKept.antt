-- Where the second law is kept, the trees are the free runs.
use Rattle.std.proofs.Common.{◌≡◌, ℕ, zero, suc, Bool, true, false, ◌+◌, ◌-◌, ◌*◌, ◌^◌, ◌≤◌, ◌<◌, ◌&&◌, ◌==◌, if◌then◌else◌, nat_le, nat_lt, List, [], ◌∷◌, length, get_or, map, Some, None, refl, sym, ◌∙◌, ap₂, subst, arith}
use Rattle.std.specs.List.{All}
use Rattle.std.proofs.lemmas.Bool.{and_parts, eq-eqb, eqb-true, ltb-true, true≢false}
use Rattle.std.proofs.lemmas.List.Elements.{All-cons, All-head, All-nil, All-tail}
use Rattle.xfs_geom.specs.Runs.{runs_on}
use Rattle.xfs_geom.specs.Conversions.{group_length}
use Rattle.xfs_geom.specs.Volumes.{Volume}
use Rattle.xfs_geom.specs.declared.records.Run.{Run}
use Rattle.xfs_geom.specs.declared.records.Span.{Span}
use Rattle.xfs_kinds.specs.FreeRuns.{runs_where, span, with_free_block}
use Rattle.xfs_kinds.specs.FreeTrees.{begins_behind, bno_shape, cnt_shape, is_free_run, ranks_behind}
use Rattle.xfs_kinds.specs.Groups.{lies_in_group}
use Rattle.xfs_kinds.specs.Spans.{fits_span}
use Rattle.xfs_volume.specs.declared.findings.Law.{Law}
use Rattle.xfs_volume.specs.declared.groups.GroupRec.{GroupRec}
use Rattle.xfs_volume.specs.Laws.{first_broken, first_difference}
use Rattle.xfs_space.specs.Parts.{AreGroups}
use Rattle.xfs_kinds.specs.Lengths.{by_length, is_shorter, put_by_length}
use Rattle.xfs_space.specs.SpaceLaws.{AllAreFree, free_laws, free_spans, span_number, spans_at}
use Rattle.xfs_volume.proofs.First.{first_empty}
use Rattle.xfs_space.proofs.Broken.{first_here, first_next}
use Rattle.xfs_space.proofs.Lawful.{each_lawful}
use Rattle.xfs_space.proofs.RecordedMaps.{group_inside}

-- a run that a record can hold
record IsSmall (s : Span) : Type 0 where
  start : s.start < 2 ^ 32
  count : s.count < 2 ^ 32

-- lists of such runs that do not differ as numbers are equal
no_difference : (xs ys : List Span) → All IsSmall xs → All IsSmall ys → (first_difference (map span_number xs) (map span_number ys)).0 ≡ (first_difference (map span_number xs) (map span_number ys)).1 → xs ≡ ys
no_difference [] [] a b e = refl
no_difference [] (y ∷ ys) a b e =
    let small = All-head IsSmall y ys b in
    let start = small.start in
    let count = small.count in
    absurd (omega (arith, e, start, count))
no_difference (x ∷ xs) [] a b e =
    let small = All-head IsSmall x xs a in
    let start = small.start in
    let count = small.count in
    absurd (omega (arith, e, start, count))
no_difference (x ∷ xs) (y ∷ ys) a b e = by_case (span_number x == span_number y) refl e (no_difference xs ys (All-tail IsSmall x xs a) (All-tail IsSmall y ys b))
  where
    starts : (s c t d : ℕ) → c < 2 ^ 32 → d < 2 ^ 32 → s * 2 ^ 32 + c ≡ t * 2 ^ 32 + d → s ≡ t
    starts s c t d p q e = omega arith

    counts : (s c t d : ℕ) → c < 2 ^ 32 → d < 2 ^ 32 → s * 2 ^ 32 + c ≡ t * 2 ^ 32 + d → c ≡ d
    counts s c t d p q e = omega arith

    rest : ℕ × ℕ
    rest = first_difference (map span_number xs) (map span_number ys)

    by_case : (t : Bool) → (span_number x == span_number y) ≡ t
        → (if t then first_difference (map span_number xs) (map span_number ys) else (span_number x, span_number y)).0
        ≡ (if t then first_difference (map span_number xs) (map span_number ys) else (span_number x, span_number y)).1
        → ((first_difference (map span_number xs) (map span_number ys)).0 ≡ (first_difference (map span_number xs) (map span_number ys)).1 → xs ≡ ys) → x ∷ xs ≡ y ∷ ys
    by_case true same e others =
        let number = eqb-true (span_number x) (span_number y) same in
        let p = (All-head IsSmall x xs a).count in
        let q = (All-head IsSmall y ys b).count in
        let start = starts x.start x.count y.start y.count p q number in
        let count = counts x.start x.count y.start y.count p q number in
        ap₂ (λ (s : Span) (ss : List Span). s ∷ ss) (ap₂ (λ (s c : ℕ). let r : Span = record { start = s; count = c } in r) start count) (others e)
    by_case false differ e others = absurd (true≢false (sym (eq-eqb (span_number x) (span_number y) e) ∙ differ))

-- a list does not differ from itself
itself : (xs : List ℕ) → (first_difference xs xs).0 ≡ (first_difference xs xs).1
itself [] = refl
itself (x ∷ xs) = let same : (x == x) ≡ true = eq-eqb x x refl in rw same (itself xs)

-- runs end where the blocks end that are asked
abbrev EndsIn : ℕ → Span → Type 0
EndsIn end s = s.start + s.count ≤ end

with_ends : (b end : ℕ) (ss : List Span) → b + 1 ≤ end → All (EndsIn end) ss → All (EndsIn end) (with_free_block b ss)
with_ends b end [] h all = All-cons (EndsIn end) (span b 1) [] h (All-nil (EndsIn end))
with_ends b end (s ∷ ss) h all = by_case (s.start == b + 1) refl
  where
    by_case : (t : Bool) → (s.start == b + 1) ≡ t → All (EndsIn end) (if t then span b (s.count + 1) ∷ ss else (span b 1 ∷ s ∷ ss))
    by_case true e =
        let start = eqb-true s.start (b + 1) e in
        let here : s.start + s.count ≤ end = All-head (EndsIn end) s ss all in
        All-cons (EndsIn end) (span b (s.count + 1)) ss (omega (arith, start, here)) (All-tail (EndsIn end) s ss all)
    by_case false e = All-cons (EndsIn end) (span b 1) (s ∷ ss) h all

runs_end : (test : ℕ → Bool) (b n end : ℕ) → b + n ≡ end → All (EndsIn end) (runs_where test b n)
runs_end test b zero end e = All-nil (EndsIn end)
runs_end test b (suc n) end e = by_case (test b) (runs_end test (b + 1) n end (omega (arith, e)))
  where
    by_case : (t : Bool) → All (EndsIn end) (runs_where test (b + 1) n) → All (EndsIn end) (if t then with_free_block b (runs_where test (b + 1) n) else runs_where test (b + 1) n)
    by_case true rest = with_ends b end (runs_where test (b + 1) n) (omega (arith, e)) rest
    by_case false rest = rest

free_small : (v : Volume) (runs : List Run) (ag : ℕ) → group_length v ag ≤ 2 ^ 26 → All IsSmall (free_spans v runs ag)
unfolding free_spans
free_small v runs ag small = λ k d less.
    let none : 0 + group_length v ag ≡ group_length v ag = omega arith in
    let test = λ (block : ℕ). runs_on runs (ag * v.agblocks + block) == 0 in
    let s = get_or (runs_where test 0 (group_length v ag)) k d in
    let end : s.start + s.count ≤ group_length v ag = runs_end test 0 (group_length v ag) (group_length v ag) none k d less in
    let m : IsSmall s = record { start = omega (arith, end, small); count = omega (arith, end, small) } in
    m

put_small : (s : Span) (xs : List Span) → IsSmall s → All IsSmall xs → All IsSmall (put_by_length s xs)
put_small s [] one all = All-cons IsSmall s [] one (All-nil IsSmall)
put_small s (x ∷ xs) one all = by_case (is_shorter x s) (put_small s xs one (All-tail IsSmall x xs all))
  where
    by_case : (t : Bool) → All IsSmall (put_by_length s xs) → All IsSmall (if t then x ∷ put_by_length s xs else (s ∷ x ∷ xs))
    by_case true rest = All-cons IsSmall x (put_by_length s xs) (All-head IsSmall x xs all) rest
    by_case false rest = All-cons IsSmall s (x ∷ xs) one all

ordered_small : (ss : List Span) → All IsSmall ss → All IsSmall (by_length ss)
unfolding by_length
ordered_small [] all = All-nil IsSmall
ordered_small (s ∷ ss) all = put_small s (by_length ss) (All-head IsSmall s ss all) (ordered_small ss (All-tail IsSmall s ss all))

-- the records of the trees are small
free_run_small : (v : Volume) (ag : ℕ) (s : Span) (t : Bool) → (is_free_run v ag s && t) ≡ true → IsSmall s
free_run_small v ag s t h =
    let a = and_parts (fits_span s && nat_le 1 s.count && nat_le 1 s.start) (lies_in_group v ag s.start s.count) (and_parts (is_free_run v ag s) t h).0 in
    let b = and_parts (fits_span s && nat_le 1 s.count) (nat_le 1 s.start) a.0 in
    let c = and_parts (fits_span s) (nat_le 1 s.count) b.0 in
    let d = and_parts (nat_lt s.start (2 ^ 32)) (nat_lt s.count (2 ^ 32)) c.0 in
    record { start = ltb-true s.start (2 ^ 32) d.0; count = ltb-true s.count (2 ^ 32) d.1 }

-- the first law of some is kept
head_kept : (l : Law) (ls : List Law) → first_broken (l ∷ ls) ≡ None → l.held ≡ l.due
head_kept l ls none = by_case (l.held == l.due) refl
  where
    by_case : (t : Bool) → (l.held == l.due) ≡ t → l.held ≡ l.due
    by_case true e = eqb-true l.held l.due e
    by_case false e =
        let broken = first_here l ls (λ same. true≢false (sym (eq-eqb l.held l.due same) ∙ e)) in
        let both : Some l ≡ None = sym broken ∙ none in
        absurd (cc)

tail_kept : (l : Law) (ls : List Law) → first_broken (l ∷ ls) ≡ None → first_broken ls ≡ None
tail_kept l ls none = sym (first_next l ls (head_kept l ls none)) ∙ none

pub free_kept : (v : Volume) (runs : List Run) (ag : ℕ) (gs : List GroupRec) → (v.agcount - 1) * v.agblocks + 64 ≤ v.dblocks → v.dblocks ≤ 2 ^ 26 → ag + length gs ≤ v.agcount → AreGroups v ag gs
    → first_broken (free_laws v runs ag gs) ≡ None → AllAreFree v runs ag gs
free_kept v runs ag [] last small count lawful none = tt
free_kept v runs ag (g ∷ gs) last small count lawful none =
    let inside = group_inside v ag (omega (arith, count)) last in
    let due = free_small v runs ag (omega (arith, inside, small)) in
    let first = spans_at (2 * ag) g.bno (free_spans v runs ag) in
    let second = spans_at (2 * ag + 1) g.cnt (by_length (free_spans v runs ag)) in
    let others = tail_kept first (second ∷ free_laws v runs (ag + 1) gs) none in
    let held = each_lawful (bno_shape ag) v IsSmall (λ before s h. free_run_small v ag s (begins_behind before s) h) None g.bno lawful.0.bno in
    let held_ranked = each_lawful (cnt_shape ag) v IsSmall (λ before s h. free_run_small v ag s (ranks_behind before s) h) None g.cnt lawful.0.cnt in (
      record {
        by_start = no_difference g.bno (free_spans v runs ag) held due (head_kept first (second ∷ free_laws v runs (ag + 1) gs) none);
        by_count = no_difference g.cnt (by_length (free_spans v runs ag)) held_ranked (ordered_small (free_spans v runs ag) due) (head_kept second (free_laws v runs (ag + 1) gs) others);
      },
      free_kept v runs (ag + 1) gs last small (omega (arith, count)) lawful.1 (tail_kept second (free_laws v runs (ag + 1) gs) others),
    )

-- and the other way around
pub free_none : (v : Volume) (runs : List Run) (ag : ℕ) (gs : List GroupRec) → AllAreFree v runs ag gs → first_broken (free_laws v runs ag gs) ≡ None
free_none v runs ag [] free = first_empty
free_none v runs ag (g ∷ gs) free =
    let first = spans_at (2 * ag) g.bno (free_spans v runs ag) in
    let second = spans_at (2 * ag + 1) g.cnt (by_length (free_spans v runs ag)) in
    let same = λ (xs ys : List Span) (e : xs ≡ ys).
    subst (λ (zs : List Span). (first_difference (map span_number xs) (map span_number zs)).0 ≡ (first_difference (map span_number xs) (map span_number zs)).1) e (itself (map span_number xs)) in
    first_next first (second ∷ free_laws v runs (ag + 1) gs) (same g.bno (free_spans v runs ag) free.0.by_start)
    ∙ first_next second (free_laws v runs (ag + 1) gs) (same g.cnt (by_length (free_spans v runs ag)) free.0.by_count)
    ∙ free_none v runs (ag + 1) gs free.1
