use Rattle.std.proofs.Common.{sym, ◌∙◌, ap, slice_index_or}
use Rattle.std.proofs.lemmas.List.{get_or_default}
use Rattle.xfs_dirdata.specs.declared.records.EntryRec.{EntryRec}
use Rattle.xfs_links.specs.Places.{no_entry}
use Rattle.xfs_links.proofs.Groups.{no_candidate}
use Rattle.xfs_links.proofs.Lonely.{taken_kept, taken_put}
use Rattle.xfs_links.proofs.orphans.taken_names.Goals as goal

pub loop-candidate-preserved-then-not-is_of : goal.loop-candidate-preserved-then-not-is_of
loop-candidate-preserved-then-not-is_of c = taken_kept c.loop-candidate.taken c.args.entries.now c.args.kept.now c.loop-candidate.candidate-index no_candidate c.args.lost c.loop-candidate-test.true
    (sym c.is_of.ensures ∙ c.if-not-is_of.true) c.loop-candidate.invariant

pub loop-candidate-preserved : goal.loop-candidate-preserved
loop-candidate-preserved c = taken_put c.loop-candidate.taken c.insert.new.self c.args.entries.now c.args.kept.now c.loop-candidate.candidate-index no_candidate c.args.lost c.in_ok-name.name c.loop-candidate-test.true
    (sym c.is_of.ensures ∙ c.if-not-is_of.false)
    (c.in_ok-name.ensures.items ∙ c.bytes.ensures ∙ ap (λ (e : EntryRec). e.name) (get_or_default c.args.entries.now (slice_index_or c.args.kept.now c.loop-candidate.candidate-index no_candidate).entry c.index-entries-candidate.result no_entry
    (c.requires.entries c.loop-candidate.candidate-index no_candidate c.loop-candidate-test.true)))
    c.in_ok-insert.ensures.updates.0 c.loop-candidate.invariant
