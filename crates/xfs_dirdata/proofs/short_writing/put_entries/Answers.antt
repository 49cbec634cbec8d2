use Rattle.std.proofs.Common.{◌≡◌, ℕ, ◌+◌, ◌<◌, take, List, length, ◌++◌, [], ◌∷◌, ◌∙◌, sym, ap, subst, inl, inr, arith}
use Rattle.xfs_dirdata.specs.Sizes.{data_size, short_size}
use Rattle.std.proofs.lemmas.List.{take_more}
use Rattle.xfs_dirdata.specs.declared.records.EntryRec.{EntryRec}
use Rattle.xfs_dirdata.specs.Written.{short_size_of, data_size_of, short_length, data_length, IsShortEntry}
use Rattle.xfs_dirdata.proofs.Same.{same_before}
use Rattle.xfs_dirdata.proofs.Standing.{short_entries-stay, short_entries-more, bytes-more}
use Rattle.xfs_dirdata.proofs.short_writing.put_entries.Goals as goal

pub loop-entry-preserved : goal.loop-entry-preserved
loop-entry-preserved c =
    let kept = c.loop-entry.invariant in
    let es = take c.loop-entry.entry-index c.args.entries.now in
    let e = c.entry-item.result in
    let before : c.loop-entry.entry-index < length c.args.entries.now = omega arith in
    let more : take (c.loop-entry.entry-index + 1) c.args.entries.now ≡ es ++ e ∷ [] =
    take_more c.args.entries.now c.loop-entry.entry-index e before ∙ ap (λ (x : EntryRec). es ++ x ∷ []) (sym c.entry-item.is) in
    let size : short_length (es ++ e ∷ []) ≡ short_length es + short_size_of e = bytes-more short_size_of es e in
    let data_bytes : data_length (es ++ e ∷ []) ≡ data_length es + data_size_of e = bytes-more data_size_of es e in
    let step : c.short_size-at.result ≡ short_size_of e = c.short_size-at.ensures ∙ ap (λ (n : List ℕ). short_size (length n)) c.bytes-name_length.ensures in
    let data_step : c.data_size-offset.result ≡ data_size_of e = c.data_size-offset.ensures.value ∙ ap (λ (n : List ℕ). data_size (length n)) c.bytes-name_length.ensures in
    let form = c.put_entry.new.form in
    let same = same_before c.loop-entry.form form 0 c.loop-entry.at (short_size_of e) c.put_entry.auto.form c.put_entry.ensures.others in
    record {
      at = rw more (omega (arith, kept.at, step, size));
      offset = rw more (omega (arith, kept.offset, data_step, data_bytes));
      stand = rw more (short_entries-more form 6 96 es e (short_entries-stay c.loop-entry.at c.loop-entry.form form 6 96 es same (omega (arith, kept.at)) kept.stand)
          (subst (λ (o : ℕ). IsShortEntry form (6 + short_length es) o e) kept.offset
          (subst (λ (a : ℕ). IsShortEntry form a c.loop-entry.offset e) kept.at c.put_entry.ensures.stands)));
      others = rw more (λ k side. elim side [
        | inl low ↦ c.put_entry.ensures.others k (inl (omega (arith, kept.at))) ∙ kept.others k (inl low)
        | inr high ↦ c.put_entry.ensures.others k (inr (omega (arith, kept.at, size))) ∙ kept.others k (inr (omega (arith, size)))
      ]);
    }
