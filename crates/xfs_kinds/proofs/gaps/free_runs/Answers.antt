use Rattle.std.proofs.Common.{Vec, Global, ◌≡◌, ℕ, ◌+◌, ◌++◌, ◌≤◌, length, get_or, drop, List, sym, ◌∙◌, ap, ap₂, subst}
use Rattle.std.proofs.lemmas.List.{drop_all}
use Rattle.xfs_geom.specs.declared.records.Span.{Span}
use Rattle.xfs_kinds.specs.FreeRuns.{AreSeparate, free_of, gap, is_in_spans}
use Rattle.xfs_kinds.proofs.Sweep.{sweep, swept_free, free_blocks, free_separate}
use Rattle.xfs_kinds.proofs.Swept.{gaps_same, gaps_more, gaps_next}
use Rattle.xfs_kinds.proofs.gaps.free_runs.Goals.{then-span-ne0+in_ok-push_gap, else-span-ne0}
use Rattle.xfs_kinds.proofs.gaps.free_runs.Goals as goal

-- what the loop leads to, and the last gap
found : (used free items : List Span) (at blocks i : ℕ) → items ≡ free ++ gap at blocks → free ++ sweep at blocks (drop i used) ≡ sweep 0 blocks used → length used ≤ i
    → sweep 0 blocks used ≡ free_of used blocks → items ≡ free_of used blocks
found used free items at blocks i last left end is =
    last ∙ ap (λ (xs : List Span). free ++ sweep at blocks xs) (sym (drop_all i used end)) ∙ left ∙ is

pub returns-clause-runs : goal.returns-clause-runs
returns-clause-runs c =
    found c.args.used.now c.loop-span.free.items c.push_gap-2.new.free.items c.loop-span.at c.args.length c.loop-span.span-index
    c.in_ok-push_gap-2.ensures c.loop-span.invariant c.loop-span-test.false (swept_free c.args.used.now c.args.length c.requires)

pub returns-clause-blocks : goal.returns-clause-blocks
returns-clause-blocks c block =
    ap (λ (xs : List Span). is_in_spans xs block) (returns-clause-runs c) ∙ free_blocks c.args.used.now c.args.length block

pub returns-clause-separate : goal.returns-clause-separate
returns-clause-separate c =
    subst (λ (xs : List Span). AreSeparate 0 xs) (sym (returns-clause-runs c)) (free_separate c.args.used.now c.args.length)

abbrev no_span : Span
no_span = record { start = 0; count = 0 }

pub loop-span-init : goal.loop-span-init
loop-span-init c = ap (λ (xs : List Span). xs ++ sweep 0 c.args.length c.args.used.now) c.new-free.ensures.items

pub loop-span-preserved : goal.loop-span-preserved
loop-span-preserved c =
    let used = c.args.used.now in
    let i = c.loop-span.span-index in
    let left = drop (i + 1) used in
    let blocks = c.args.length in
    let span = get_or used i no_span in
    let free = c.loop-span.free.items in
    let all = sweep 0 blocks used in
    let next = gaps_next c.loop-span.at blocks used free all i no_span c.loop-span-test.true c.loop-span.invariant in
    elim c.if-span-ne0.branch [
      | then-span-ne0+in_ok-push_gap w ↦
          ap₂ (λ (v : Vec Span Global) (at : ℕ). v.items ++ sweep at blocks left) w.free-is w.at-is
          ∙ gaps_more c.loop-span.at blocks w.lesser.result span left free w.push_gap.new.free.items all w.if-span-ne0.true w.lesser.ensures w.in_ok-push_gap.ensures next
      | else-span-ne0 w ↦
          ap₂ (λ (v : Vec Span Global) (at : ℕ). v.items ++ sweep at blocks left) w.free-is w.at-is
          ∙ gaps_same c.loop-span.at blocks span left free all w.if-span-ne0.false next
    ]
