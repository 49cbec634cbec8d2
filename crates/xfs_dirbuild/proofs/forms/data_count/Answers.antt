use Rattle.std.proofs.Common.{◌≡◌, ◌+◌, ◌<◌, ℕ, List, ◌∷◌, length, drop, sym, ◌∙◌, ap, subst, arith}
use Rattle.std.proofs.lemmas.List.{drop_all, drop_more}
use Rattle.xfs_dirdata.specs.declared.records.EntryRec.{EntryRec}
use Rattle.xfs_dirdata.specs.Sizes.{data_size}
use Rattle.xfs_dirdata.specs.Written.{IsWritableEntry, data_size_of}
use Rattle.xfs_dirbuild.specs.Forms.{data_count}
use Rattle.xfs_dirbuild.specs.Filling.{filled}
use Rattle.xfs_dirbuild.proofs.Filled.{filled-end, counted-full, counted-fits}
use Rattle.xfs_dirbuild.proofs.forms.data_count.Goals as goal
use Rattle.xfs_dirbuild.proofs.forms.data_count.Goals.{then-used-size-gt-BLOCK_SIZE, else-used-size-gt-BLOCK_SIZE}

pub loop-entry-preserved : goal.loop-entry-preserved
loop-entry-preserved c =
    let e = c.entry-item.result in
    let i = c.loop-entry.entry-index in
    let es = c.args.entries.now in
    let inside : i < length es = omega arith in
    let step : drop i es ≡ e ∷ drop (i + 1) es = drop_more es i e inside ∙ ap (λ (x : EntryRec). x ∷ drop (i + 1) es) (sym c.entry-item.is) in
    let size : c.data_size-size.result ≡ data_size_of e = c.data_size-size.ensures.value ∙ ap (λ (n : List ℕ). data_size (length n)) c.bytes.ensures in
    let writable : IsWritableEntry e = subst IsWritableEntry (sym c.entry-item.is) (c.requires.writable i e inside) in
    let name : length e.name < 256 = writable.name in
    elim c.if-used-size-gt-BLOCK_SIZE.branch [
      | then-used-size-gt-BLOCK_SIZE w ↦ record {
        counted = counted-full c.loop-entry.count c.loop-entry.used c.data_size-size.result c.if-used-size-gt-BLOCK_SIZE.used c.if-used-size-gt-BLOCK_SIZE.count i e es
            (drop (i + 1) es) (length (filled 96 es) + 1) size (omega arith) w.used-is w.count-is step c.loop-entry.invariant.counted;
        some = omega arith;
        bound = omega arith;
        used = omega (arith, size);
      }
      | else-used-size-gt-BLOCK_SIZE w ↦ record {
        counted = counted-fits c.loop-entry.count c.loop-entry.used c.data_size-size.result c.if-used-size-gt-BLOCK_SIZE.used c.if-used-size-gt-BLOCK_SIZE.count i e es
            (drop (i + 1) es) (length (filled 96 es) + 1) size (omega arith) w.used-is w.count-is step c.loop-entry.invariant.counted;
        some = omega arith;
        bound = omega arith;
        used = omega arith;
      }
    ]

pub returns-clause-value : goal.returns-clause-value
unfolding data_count
returns-clause-value c =
    omega (
      arith,
      c.loop-entry.invariant.counted,
      filled-end c.loop-entry.used (drop c.loop-entry.entry-index c.args.entries.now)
          (drop_all c.loop-entry.entry-index c.args.entries.now (omega arith)),
    )
