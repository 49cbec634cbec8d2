use Rattle.std.proofs.Common.{◌≡◌, ◌∙◌, ◌-◌, ◌<◌, ℕ, suc, nat_lt, length, ap, sym, arith}
use Rattle.xfs_render.proofs.Reaching.{end_at, end_before, lies_in_runs, none_before, starts_ascend}
use Rattle.xfs_render.proofs.new_blocks.lies_in_runs.Goals as goal

pub returns-then-count-eq0 : goal.returns-then-count-eq0
returns-then-count-eq0 c runs are =
    let reaches = c.args.reaches.now in
    let block = c.args.block in
    let n = c.count_begun-count.result in
    let parts = c.count_begun-count.ensures in
    let up = starts_ascend runs reaches are in
    let none : n ≡ 0 = c.if-count-eq0.true in
    sym (none_before block reaches) ∙ ap (λ (k : ℕ). nat_lt block (end_before 0 k reaches)) (sym none)
    ∙ lies_in_runs runs reaches block n are parts.within (parts.begun up) (parts.behind up)

pub returns : goal.returns
returns c runs are =
    let reaches = c.args.reaches.now in
    let block = c.args.block in
    let n = c.count_begun-count.result in
    let parts = c.count_begun-count.ensures in
    let up = starts_ascend runs reaches are in
    let inside : n - 1 < length reaches = omega (arith, parts.within, c.if-count-eq0.false) in
    let back : suc (n - 1) ≡ n = omega (arith, c.if-count-eq0.false) in
    ap (nat_lt block) (sym (end_at 0 (n - 1) reaches _ inside))
    ∙ ap (λ (k : ℕ). nat_lt block (end_before 0 k reaches)) back
    ∙ lies_in_runs runs reaches block n are parts.within (parts.begun up) (parts.behind up)
