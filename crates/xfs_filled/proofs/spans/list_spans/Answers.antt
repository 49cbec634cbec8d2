use Rattle.std.proofs.Common.{◌≡◌, ℕ, ◌<◌, length, set, get_or, arith, sym, subst, ◌∙◌}
use Rattle.std.specs.List.{All}
use Rattle.std.proofs.lemmas.List.{get_or-set_other, get_or-set_same, length-set}
use Rattle.xfs_geom.specs.Volumes.{volume_of}
use Rattle.xfs_filled.specs.Numbers.{number_of}
use Rattle.xfs_filled.specs.Spans.{no_span}
use Rattle.xfs_filled.specs.declared.spans.RunSpan.{RunSpan}
use Rattle.xfs_filled.proofs.Asking.{order_inside}
use Rattle.xfs_filled.proofs.Ordered.{order_apart, owners_differ}
use Rattle.xfs_filled.proofs.Spanned.{spanned_all, spanned_more}
use Rattle.xfs_filled.proofs.spans.list_spans.Goals as goal

pub ino_at-requires-clause-inside : goal.ino_at-requires-clause-inside
ino_at-requires-clause-inside c =
    let ns = c.args.site.now.nodes.now in
    subst (All (λ k. k < length ns)) (sym c.requires.site.order') (order_inside ns) c.loop-k.k-index 0 c.loop-k-test.true

pub index_mut-requires : goal.index_mut-requires
index_mut-requires c =
    let ns = c.args.site.now.nodes.now in
    let low = subst (All (λ k. k < length ns)) (sym c.requires.site.order') (order_inside ns) c.loop-k.k-index 0 c.loop-k-test.true in
    let count = c.loop-k.invariant.count in
    omega (arith, low, count)

pub loop-k-preserved : goal.loop-k-preserved
loop-k-preserved c =
    let site = c.args.site.now in
    let ns = site.nodes.now in
    let order = site.order.now in
    let starts = site.starts.now in
    let v = volume_of site.geometry.now in
    let runs = c.args.runs.now in
    let i = c.loop-k.k-index in
    let at = c.loop-k.at in
    let to = c.end_of_runs-to.result in
    let spans = c.loop-k.spans.items in
    let k : ℕ = get_or order i 0 in
    let low = c.loop-k-test.true in
    let span : RunSpan = record { from = at; to = to } in
    let inside : k < length ns = subst (All (λ m. m < length ns)) (sym c.requires.site.order') (order_inside ns) i 0 low in
    let count = c.loop-k.invariant.count in
    let owner : c.ino_at.result ≡ number_of v starts k = c.ino_at.ensures.value in
    record {
      count = length-set spans k span ∙ count;
      so = spanned_more v starts order runs i at to spans (set spans k span) low (λ j m less few differ. owners_differ site.geometry.now starts ns order j m c.requires.site.placed c.requires.site.order' less few differ)
          c.loop-k.invariant.so c.end_of_runs-to.ensures.inside.0 c.end_of_runs-to.ensures.inside.1
          (λ m up less. c.end_of_runs-to.ensures.same m up less ∙ owner) (λ few same. c.end_of_runs-to.ensures.other few (same ∙ sym owner))
          (get_or-set_same spans k span no_span (omega (arith, inside, count)))
          (λ j less. get_or-set_other spans k (get_or order j 0) span no_span (order_apart ns order j i c.requires.site.order' (omega (arith, less, low)) low (omega (arith, less))));
    }

pub returns : goal.returns
returns c =
    let site = c.args.site.now in
    let past = c.loop-k-test.false in
    record {
      count = c.loop-k.invariant.count;
      each = spanned_all (volume_of site.geometry.now) site.starts.now site.nodes.now site.order.now c.args.runs.now c.loop-k.k-index c.loop-k.at c.loop-k.spans.items c.requires.site.order'
          (omega (arith, past)) c.loop-k.invariant.so;
    }
