use Rattle.std.proofs.Common.{◌≡◌, ◌≤◌, ℕ, List, length, ap, subst, arith, ◌<◌, ◌^◌, sym}
use Rattle.std.proofs.lemmas.Result.{IfOk-from_err}
use Rattle.xfs_geom.specs.Volumes.{volume_of}
use Rattle.xfs_place.specs.declared.uses.Use.{Use}
use Rattle.xfs_place.specs.Finding.{AreOpenRows}
use Rattle.xfs_place.specs.Greatest.{Holds}
use Rattle.xfs_place.proofs.HeldRuns.{rows_counts, rows_less, rows_opens}
use Rattle.xfs_place.proofs.RowRuns.{rows_few}
use Rattle.xfs_place.proofs.open_blocks.OpenBlocks.new.Goals as goal

pub returns : goal.returns
returns c =
    let s = c.args.site.now in
    let g = s.geometry.now in
    let kept = c.args.kept.now in
    let uses = c.in_ok-uses.uses.items in
    let rows = c.in_ok-rows.rows in
    let parts = c.in_ok-parts.parts.items in
    let listed = subst (λ (us : List Use). AreOpenRows us rows.starts.items rows.counts.items) c.deref.ensures.value c.in_ok-rows.ensures in
    let holds = subst (λ (ns : List ℕ). Holds ns c.in_ok-counts.counts) c.deref-2.ensures.value c.in_ok-counts.ensures in
    let holds' = subst (λ (ns : List ℕ). Holds ns c.in_ok-unspared.unspared) c.deref-3.ensures.value c.in_ok-unspared.ensures in
    let u = c.in_ok-uses.ensures in
    let p = c.in_ok-parts.ensures in
    record {
      rows' = record {
        each = rows_counts (volume_of g) g.shape.groups kept s.reserved.now s.from s.spared.now uses rows.starts.items rows.counts.items parts c.in_ok-counts.counts c.in_ok-unspared.unspared u.all u.few u.each
            listed p.all p.each holds holds';
        under = rows_less (volume_of g) g.shape.groups kept s.reserved.now s.from s.spared.now uses rows.starts.items rows.counts.items parts c.in_ok-counts.counts c.in_ok-unspared.unspared u.all u.few u.each
            listed p.all p.each holds holds';
      };
      opens = rows_opens (volume_of g) g.shape.groups kept s.reserved.now s.from s.spared.now uses rows.starts.items rows.counts.items parts c.in_ok-counts.counts c.in_ok-unspared.unspared u.all u.few u.each
          listed p.all p.each holds holds';
    }

pub new-requires : goal.new-requires
new-requires c =
    let rows = c.in_ok-rows.rows in
    let listed = subst (λ (us : List Use). AreOpenRows us rows.starts.items rows.counts.items) c.deref.ensures.value c.in_ok-rows.ensures in
    omega (arith, rows_few c.in_ok-uses.uses.items rows.starts.items rows.counts.items listed, c.in_ok-uses.ensures.few, ap length c.deref-2.ensures.value)

pub list_uses_open-requires : goal.list_uses_open-requires
list_uses_open-requires c = record { kept = c.requires.kept }

pub returns-in_err-uses : goal.returns-in_err-uses
returns-in_err-uses c = IfOk-from_err c.from_residual.result _ c.from_residual.ensures.0

pub returns-in_err-rows : goal.returns-in_err-rows
returns-in_err-rows c = IfOk-from_err c.from_residual-in_err-rows.result _ c.from_residual-in_err-rows.ensures.0

pub returns-in_err-parts : goal.returns-in_err-parts
returns-in_err-parts c = IfOk-from_err c.from_residual-in_err-parts.result _ c.from_residual-in_err-parts.ensures.0

pub returns-in_err-counts : goal.returns-in_err-counts
returns-in_err-counts c = IfOk-from_err c.from_residual-in_err-counts.result _ c.from_residual-in_err-counts.ensures.0

pub returns-in_err-unspared : goal.returns-in_err-unspared
returns-in_err-unspared c = IfOk-from_err c.from_residual-in_err-unspared.result _ c.from_residual-in_err-unspared.ensures.0

pub list_rows-requires : goal.list_rows-requires
list_rows-requires c = subst (λ (us : List Use). length us < 2 ^ 32) (sym c.deref.ensures.value) c.in_ok-uses.ensures.few

pub list_unspared-requires : goal.list_unspared-requires
list_unspared-requires c = record { all = c.in_ok-rows.ensures.all }
