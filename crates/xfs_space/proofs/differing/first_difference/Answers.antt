use Rattle.std.proofs.Common.{ℕ, max, min, ◌+◌, ◌<◌, ◌==◌, ◌&&◌, drop, get_or, length, map, sym, ◌∙◌, ap, ap₂, subst, arith}
use Rattle.std.proofs.lemmas.Bool.{and_parts, eqb-true}
use Rattle.xfs_geom.specs.declared.records.RmapRec.{RmapRec}
use Rattle.xfs_kinds.specs.MergedRuns.{offset_word_at}
use Rattle.xfs_space.specs.Maps.{IsFirstDifference}
use Rattle.xfs_space.specs.SpaceLaws.{recorded_run}
use Rattle.xfs_space.proofs.Splits.{no_run}
use Rattle.xfs_space.proofs.Sweep.{both_ended, due_left, head_inside, held_left, mapped_at, passes_one, starts_differ, swept_heads, swept_step, swept_whole, words_differ}
use Rattle.xfs_space.proofs.differing.first_difference.Goals as goal
use Rattle.xfs_space.proofs.differing.first_difference.Goals.{then-loop-i-test+else-j-runs, else-loop-i-test}

abbrev no_record : RmapRec
no_record = record { start = 0; count = 0; owner = 0; offset_word = 0 }

pub returns-then-held-due : goal.returns-then-held-due
returns-then-held-due c =
    let f = recorded_run c.args.base in
    let x = c.recorded_run-x.result in
    let y = get_or c.args.runs.now c.loop-i.j no_run in
    let swept = swept_heads f (map f c.args.records.now) c.args.runs.now c.args.records.now c.args.runs.now c.loop-i.i c.loop-i.j c.loop-i.at no_record no_run x c.loop-i-test.true c.if-j-runs.true
    c.recorded_run-x.ensures c.loop-i.invariant in
    subst (λ (n : ℕ). IsFirstDifference (map f c.args.records.now) c.args.runs.now n) (sym (c.earlier.ensures ∙ ap₂ min c.later-held.ensures c.later-due.ensures))
    (starts_differ (map f c.args.records.now) c.args.runs.now x y (map f (drop (c.loop-i.i + 1) c.args.records.now)) (drop (c.loop-i.j + 1) c.args.runs.now) c.loop-i.at swept
    (λ same. c.if-held-due.true (c.later-held.ensures ∙ same ∙ sym c.later-due.ensures)))

pub agree-requires-clause-x : goal.agree-requires-clause-x
agree-requires-clause-x c =
    mapped_at (recorded_run c.args.base) c.args.records.now c.loop-i.i no_record c.recorded_run-x.result c.loop-i-test.true c.recorded_run-x.ensures c.requires.recorded.each

pub agree-requires-clause-on_x : goal.agree-requires-clause-on_x
agree-requires-clause-on_x c =
    let f = recorded_run c.args.base in
    let x = c.recorded_run-x.result in
    let swept = swept_heads f (map f c.args.records.now) c.args.runs.now c.args.records.now c.args.runs.now c.loop-i.i c.loop-i.j c.loop-i.at no_record no_run x c.loop-i-test.true c.if-j-runs.true
    c.recorded_run-x.ensures c.loop-i.invariant in
    subst (λ (n : ℕ). n < x.start + x.count) (sym c.later-held.ensures) (head_inside (map f c.args.records.now) x (map f (drop (c.loop-i.i + 1) c.args.records.now)) c.loop-i.at swept.left)

pub agree-requires-clause-y : goal.agree-requires-clause-y
agree-requires-clause-y c = c.requires.owned.each c.loop-i.j no_run c.if-j-runs.true

pub agree-requires-clause-on_y : goal.agree-requires-clause-on_y
agree-requires-clause-on_y c =
    let f = recorded_run c.args.base in
    let x = c.recorded_run-x.result in
    let y = get_or c.args.runs.now c.loop-i.j no_run in
    let swept = swept_heads f (map f c.args.records.now) c.args.runs.now c.args.records.now c.args.runs.now c.loop-i.i c.loop-i.j c.loop-i.at no_record no_run x c.loop-i-test.true c.if-j-runs.true
    c.recorded_run-x.ensures c.loop-i.invariant in
    subst (λ (n : ℕ). n < y.start + y.count) (sym (c.if-held-due.false ∙ c.later-due.ensures)) (head_inside c.args.runs.now y (drop (c.loop-i.j + 1) c.args.runs.now) c.loop-i.at swept.right)

pub returns-then-not-agree : goal.returns-then-not-agree
returns-then-not-agree c =
    let f = recorded_run c.args.base in
    let x = c.recorded_run-x.result in
    let y = get_or c.args.runs.now c.loop-i.j no_run in
    let swept = swept_heads f (map f c.args.records.now) c.args.runs.now c.args.records.now c.args.runs.now c.loop-i.i c.loop-i.j c.loop-i.at no_record no_run x c.loop-i-test.true c.if-j-runs.true
    c.recorded_run-x.ensures c.loop-i.invariant in
    let same = sym c.later-held.ensures ∙ c.if-held-due.false ∙ c.later-due.ensures in
    let unlike = ap (λ (n : ℕ). x.owner == y.owner && offset_word_at x n == offset_word_at y n) (sym c.later-held.ensures) ∙ sym c.agree.ensures ∙ c.if-not-agree.true in
    subst (λ (n : ℕ). IsFirstDifference (map f c.args.records.now) c.args.runs.now n) (sym c.later-held.ensures)
    (words_differ (map f c.args.records.now) c.args.runs.now x y (map f (drop (c.loop-i.i + 1) c.args.records.now)) (drop (c.loop-i.j + 1) c.args.runs.now) c.loop-i.at swept same unlike)

pub overflow_add-x : goal.overflow_add-x
overflow_add-x c =
    let mapped = mapped_at (recorded_run c.args.base) c.args.records.now c.loop-i.i no_record c.recorded_run-x.result c.loop-i-test.true c.recorded_run-x.ensures c.requires.recorded.each in
    omega (arith, mapped.end)

pub overflow_add-y : goal.overflow_add-y
overflow_add-y c = let mapped = c.requires.owned.each c.loop-i.j no_run c.if-j-runs.true in omega (arith, mapped.end)

pub passed-j-requires-clause-run : goal.passed-j-requires-clause-run
passed-j-requires-clause-run c = c.requires.owned.each c.loop-i.j no_run c.if-j-runs.true

pub passed-i-requires-clause-run : goal.passed-i-requires-clause-run
passed-i-requires-clause-run c =
    mapped_at (recorded_run c.args.base) c.args.records.now c.loop-i.i no_record c.recorded_run-x.result c.loop-i-test.true c.recorded_run-x.ensures c.requires.recorded.each

pub loop-i-init : goal.loop-i-init
loop-i-init c = swept_whole (map (recorded_run c.args.base) c.args.records.now) c.args.runs.now c.requires.recorded c.requires.owned

pub loop-i-smaller : goal.loop-i-smaller
loop-i-smaller c =
    let x = c.recorded_run-x.result in
    let y = get_or c.args.runs.now c.loop-i.j no_run in
    passes_one (x.start + x.count) (y.start + y.count) c.earlier-at.result c.loop-i.i c.loop-i.j (length c.args.records.now) (length c.args.runs.now) c.passed-i.result c.passed-j.result
    c.earlier-at.ensures c.passed-i.ensures c.passed-j.ensures c.loop-i-test.true c.if-j-runs.true

pub loop-i-preserved : goal.loop-i-preserved
loop-i-preserved c =
    let f = recorded_run c.args.base in
    let x = c.recorded_run-x.result in
    let y = get_or c.args.runs.now c.loop-i.j no_run in
    let swept = swept_heads f (map f c.args.records.now) c.args.runs.now c.args.records.now c.args.runs.now c.loop-i.i c.loop-i.j c.loop-i.at no_record no_run x c.loop-i-test.true c.if-j-runs.true
    c.recorded_run-x.ensures c.loop-i.invariant in
    let same = sym c.later-held.ensures ∙ c.if-held-due.false ∙ c.later-due.ensures in
    let alike = ap (λ (n : ℕ). x.owner == y.owner && offset_word_at x n == offset_word_at y n) (sym c.later-held.ensures) ∙ sym c.agree.ensures ∙ c.if-not-agree.false in
    let h = max x.start c.loop-i.at in
    let parts = and_parts (x.owner == y.owner) (offset_word_at x h == offset_word_at y h) alike in
    swept_step f (map f c.args.records.now) c.args.runs.now c.args.records.now c.args.runs.now c.loop-i.i c.loop-i.j c.loop-i.at c.earlier-at.result c.passed-i.result c.passed-j.result no_record no_run x
    c.loop-i-test.true c.if-j-runs.true c.recorded_run-x.ensures swept same (eqb-true x.owner y.owner parts.0) (eqb-true (offset_word_at x h) (offset_word_at y h) parts.1) c.earlier-at.ensures
    c.passed-i.ensures c.passed-j.ensures

pub returns-then-i-records : goal.returns-then-i-records
returns-then-i-records c =
    let f = recorded_run c.args.base in
    elim c.loop-i-test.branch [
      | then-loop-i-test+else-j-runs w ↦
          held_left f (map f c.args.records.now) c.args.runs.now c.args.records.now c.args.runs.now c.loop-i.i c.loop-i.j c.loop-i.at c.later.result no_record c.if-i-records.true w.if-j-runs.false
          c.loop-i.invariant c.later.ensures
      | else-loop-i-test w ↦ absurd (omega arith)
    ]

pub returns-then-j-runs-2 : goal.returns-then-j-runs-2
returns-then-j-runs-2 c =
    let f = recorded_run c.args.base in
    due_left f (map f c.args.records.now) c.args.runs.now c.args.records.now c.args.runs.now c.loop-i.i c.loop-i.j c.loop-i.at c.later-then-j-runs-2.result no_run c.if-i-records.false c.if-j-runs-2.true
    c.loop-i.invariant c.later-then-j-runs-2.ensures

pub returns : goal.returns
returns c =
    let f = recorded_run c.args.base in
    both_ended f (map f c.args.records.now) c.args.runs.now c.args.records.now c.args.runs.now c.loop-i.i c.loop-i.j c.loop-i.at c.if-i-records.false c.if-j-runs-2.false c.loop-i.invariant
