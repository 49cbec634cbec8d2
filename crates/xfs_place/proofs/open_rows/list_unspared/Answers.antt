use Rattle.std.proofs.Common.{◌≡◌, ℕ, inl, inr, get_or, sym, ◌∙◌, ap, ap₂, arith, List, [], ◌∷◌}
use Rattle.std.proofs.lemmas.Bool.{cases_eq}
use Rattle.std.proofs.lemmas.List.{get_or_append_left, get_or_default, get_or_push}
use Rattle.xfs_geom.specs.Volumes.{volume_of}
use Rattle.xfs_place.specs.Finding.{unspared_part}
use Rattle.std.proofs.lemmas.Result.{IfOk-from_err}
use borrow.Author.Count.{falls}
use Rattle.xfs_place.proofs.open_rows.list_unspared.Goals as goal

pub loop-row-preserved : goal.loop-row-preserved
loop-row-preserved c =
    let l = c.loop-row in
    let s = c.args.site.now in
    let rows = c.args.rows.now in
    let old = l.unspared.items in
    let put = c.in_ok-push.ensures.items in
    let start : c.index.result.now ≡ get_or rows.starts.items l.row 0 = c.index.ensures ∙ get_or_default rows.starts.items l.row c.index.result.now 0 (omega (arith, c.len-row-end.ensures, c.loop-row-test.true)) in
    let count : c.index-in-loop-row.result.now ≡ get_or rows.counts.items l.row 0 =
    c.index-in-loop-row.ensures ∙ get_or_default rows.counts.items l.row c.index-in-loop-row.result.now 0 (omega (arith, c.requires.all, c.len-row-end.ensures, c.loop-row-test.true)) in
    record {
      all = omega (arith, l.invariant.all, c.in_ok-push.ensures.len);
      each = λ k low. elim (cases_eq k l.row) [
        | inl same ↦
            ap (λ (xs : List ℕ). get_or xs k 0) put ∙ get_or_push old c.unspared_part.result 0 k (omega (arith, l.invariant.all, same)) ∙ c.unspared_part.ensures
            ∙ ap₂ (unspared_part (volume_of s.geometry.now) s.spared.now) (start ∙ ap (λ (i : ℕ). get_or rows.starts.items i 0) (sym same)) (count ∙ ap (λ (i : ℕ). get_or rows.counts.items i 0) (sym same))
        | inr other ↦
            ap (λ (xs : List ℕ). get_or xs k 0) put ∙ get_or_append_left old (c.unspared_part.result ∷ []) 0 k (omega (arith, l.invariant.all, low, other)) ∙ l.invariant.each k (omega (arith, low, other))
      ];
    }

pub returns-in_err-push-clause-all : goal.returns-in_err-push-clause-all
returns-in_err-push-clause-all c = IfOk-from_err c.from_residual.result _ c.from_residual.ensures.0

pub returns-in_err-push-clause-each : goal.returns-in_err-push-clause-each
returns-in_err-push-clause-each c = IfOk-from_err c.from_residual.result _ c.from_residual.ensures.0

pub loop-row-smaller : goal.loop-row-smaller
loop-row-smaller c = falls _ c.loop-row.row c.loop-row-test.true
