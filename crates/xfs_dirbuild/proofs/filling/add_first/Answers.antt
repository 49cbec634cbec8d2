use Rattle.std.proofs.lemmas.Result.{IfOk-from_err}
use Rattle.std.proofs.Common.{◌+◌, ◌++◌, List, length, sym, ◌∙◌, ap, add-zero}
use Rattle.std.proofs.lemmas.List.{append-nil}
use Rattle.xfs_dirdata.specs.declared.records.EntryRec.{EntryRec}
use Rattle.xfs_dirdata.specs.Written.{data_length, first_entries, offsets}
use Rattle.xfs_dirindex.specs.Data.{due_pairs}
use Rattle.xfs_dirbuild.proofs.Adding.{no-first, first-size, first-count, first-pairs, first-inside, first-end, first-more}
use Rattle.xfs_dirbuild.proofs.filling.add_first.Goals as goal

pub returns-then-is_none-clause-end : goal.returns-then-is_none-clause-end
returns-then-is_none-clause-end c = ap (λ (es : List EntryRec). 64 + data_length es) (sym (no-first c.args.first c.if-is_none.ensures))

pub returns-then-is_none-clause-pairs : goal.returns-then-is_none-clause-pairs
returns-then-is_none-clause-pairs c =
    sym (append-nil c.args.pairs.now.items) ∙ ap (λ (es : List EntryRec). c.args.pairs.now.items ++ due_pairs c.args.number es (offsets 64 es)) (sym (no-first c.args.first c.if-is_none.ensures))

pub returns-then-is_none-clause-count : goal.returns-then-is_none-clause-count
returns-then-is_none-clause-count c =
    sym (add-zero (length c.args.pairs.now.items)) ∙ ap (λ (es : List EntryRec). length c.args.pairs.now.items + length es) (sym (no-first c.args.first c.if-is_none.ensures))

pub returns-then-is_none-clause-sound : goal.returns-then-is_none-clause-sound
returns-then-is_none-clause-sound c = c.requires.sound

pub returns-in_err-add_pair-clause-end : goal.returns-in_err-add_pair-clause-end
returns-in_err-add_pair-clause-end c = IfOk-from_err c.from_residual.result _ c.from_residual.ensures.0

pub returns-in_err-add_pair-clause-pairs : goal.returns-in_err-add_pair-clause-pairs
returns-in_err-add_pair-clause-pairs c = IfOk-from_err c.from_residual.result _ c.from_residual.ensures.0

pub returns-in_err-add_pair-clause-count : goal.returns-in_err-add_pair-clause-count
returns-in_err-add_pair-clause-count c = IfOk-from_err c.from_residual.result _ c.from_residual.ensures.0

pub returns-in_err-add_pair-clause-sound : goal.returns-in_err-add_pair-clause-sound
returns-in_err-add_pair-clause-sound c = IfOk-from_err c.from_residual.result _ c.from_residual.ensures.0

pub returns-in_err-add_pair-2-clause-end : goal.returns-in_err-add_pair-2-clause-end
returns-in_err-add_pair-2-clause-end c = IfOk-from_err c.from_residual-in_err-add_pair-2.result _ c.from_residual-in_err-add_pair-2.ensures.0

pub returns-in_err-add_pair-2-clause-pairs : goal.returns-in_err-add_pair-2-clause-pairs
returns-in_err-add_pair-2-clause-pairs c = IfOk-from_err c.from_residual-in_err-add_pair-2.result _ c.from_residual-in_err-add_pair-2.ensures.0

pub returns-in_err-add_pair-2-clause-count : goal.returns-in_err-add_pair-2-clause-count
returns-in_err-add_pair-2-clause-count c = IfOk-from_err c.from_residual-in_err-add_pair-2.result _ c.from_residual-in_err-add_pair-2.ensures.0

pub returns-in_err-add_pair-2-clause-sound : goal.returns-in_err-add_pair-2-clause-sound
returns-in_err-add_pair-2-clause-sound c = IfOk-from_err c.from_residual-in_err-add_pair-2.result _ c.from_residual-in_err-add_pair-2.ensures.0

pub add_pair-requires-clause-low : goal.add_pair-requires-clause-low
add_pair-requires-clause-low c = c.requires.low

pub add_pair-requires-2-clause-low : goal.add_pair-requires-2-clause-low
add_pair-requires-2-clause-low c = c.requires.low

pub add_pair-requires-clause-sound : goal.add_pair-requires-clause-sound
add_pair-requires-clause-sound c = c.requires.sound

pub add_pair-requires-2-clause-sound : goal.add_pair-requires-2-clause-sound
add_pair-requires-2-clause-sound c = c.in_ok-add_pair.ensures.sound

pub add_pair-requires-2-clause-inside : goal.add_pair-requires-2-clause-inside
add_pair-requires-2-clause-inside c = first-inside c.data_size.result c.data_size.ensures.value

pub returns-clause-end : goal.returns-clause-end
returns-clause-end c =
    first-end c.data_size-2.result c.data_size-3.result (data_length (first_entries c.args.first)) c.data_size-2.ensures.value c.data_size-3.ensures.value
    (first-size c.args.first c.if-is_none.ensures)

pub returns-clause-pairs : goal.returns-clause-pairs
returns-clause-pairs c =
    first-pairs c.args.first c.args.number c.data_size.result c.args.pairs.now.items c.add_pair.new.pairs.items c.add_pair-2.new.pairs.items c.if-is_none.ensures
    c.data_size.ensures.value c.in_ok-add_pair.ensures.pair c.in_ok-add_pair-2.ensures.pair

pub returns-clause-count : goal.returns-clause-count
returns-clause-count c =
    first-more c.args.pairs.now.items c.add_pair.new.pairs.items c.add_pair-2.new.pairs.items _ _ (length (first_entries c.args.first)) c.in_ok-add_pair.ensures.pair
    c.in_ok-add_pair-2.ensures.pair (first-count c.args.first c.if-is_none.ensures)

pub returns-clause-sound : goal.returns-clause-sound
returns-clause-sound c = c.in_ok-add_pair-2.ensures.sound
