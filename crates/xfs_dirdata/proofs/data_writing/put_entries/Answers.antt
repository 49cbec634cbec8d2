use Rattle.std.proofs.Common.{◌≡◌, ℕ, ◌+◌, ◌<◌, take, List, length, ◌++◌, [], ◌∷◌, ◌∙◌, sym, ap, subst, inl, inr, arith}
use Rattle.std.proofs.lemmas.List.{take_more}
use Rattle.xfs_word.specs.Field.{SameBeside}
use Rattle.xfs_dirdata.specs.declared.records.EntryRec.{EntryRec}
use Rattle.xfs_dirdata.specs.Sizes.{data_size}
use Rattle.xfs_dirdata.specs.Written.{data_size_of, data_length, IsDataEntry}
use Rattle.xfs_dirdata.proofs.Same.{same_before}
use Rattle.xfs_dirdata.proofs.Standing.{bytes-more}
use Rattle.xfs_dirdata.proofs.Placing.{data_entries-stay, data_entries-join}
use Rattle.xfs_dirdata.proofs.data_writing.put_entries.Goals as goal

pub loop-entry-preserved : goal.loop-entry-preserved
loop-entry-preserved c =
    let kept = c.loop-entry.invariant in
    let es = take c.loop-entry.entry-index c.args.entries.now in
    let e = c.entry-item.result in
    let before : c.loop-entry.entry-index < length c.args.entries.now = omega arith in
    let more : take (c.loop-entry.entry-index + 1) c.args.entries.now ≡ es ++ e ∷ [] =
    take_more c.args.entries.now c.loop-entry.entry-index e before ∙ ap (λ (x : EntryRec). es ++ x ∷ []) (sym c.entry-item.is) in
    let size : data_length (es ++ e ∷ []) ≡ data_length es + data_size_of e = bytes-more data_size_of es e in
    let name = c.bytes-name.ensures in
    let step : c.data_size-at.result ≡ data_size_of e = c.data_size-at.ensures.value ∙ ap (λ (n : List ℕ). data_size (length n)) name in
    let block = c.put_entry.new.block in
    let put : SameBeside c.loop-entry.block block c.loop-entry.at (data_size_of e) =
    subst (λ (n : List ℕ). SameBeside c.loop-entry.block block c.loop-entry.at (data_size (length n))) name c.put_entry.ensures.others in
    let same = same_before c.loop-entry.block block c.args.start c.loop-entry.at (data_size_of e) c.put_entry.auto.block put in
    record {
      at = rw more (omega (arith, kept.at, step, size));
      stand = rw more (data_entries-join block c.args.start es (e ∷ [])
          (data_entries-stay c.args.start c.loop-entry.at c.loop-entry.block block c.args.start es same (omega arith) (omega (arith, kept.at)) kept.stand) (
            subst (λ (a : ℕ). IsDataEntry block a e.name e.ino e.ftype) kept.at
                (subst (λ (n : List ℕ). IsDataEntry block c.loop-entry.at n e.ino e.ftype) name c.put_entry.ensures.stands),
            tt,
          ));
      others = rw more (λ k side. elim side [
        | inl low ↦ put k (inl (omega (arith, kept.at))) ∙ kept.others k (inl low)
        | inr high ↦ put k (inr (omega (arith, kept.at, size))) ∙ kept.others k (inr (omega (arith, size)))
      ]);
    }
