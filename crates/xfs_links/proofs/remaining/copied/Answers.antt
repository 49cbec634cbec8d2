use Rattle.std.proofs.Common.{ℕ, List, get_or, map, ◌∙◌, ap}
use Rattle.std.proofs.lemmas.List.{take_all}
use Rattle.xfs_dirdata.specs.declared.records.EntryRec.{EntryRec}
use Rattle.xfs_links.specs.declared.candidates.Candidate.{Candidate}
use Rattle.xfs_links.specs.Places.{candidate_entry}
use Rattle.xfs_links.proofs.Groups.{no_candidate}
use Rattle.xfs_links.proofs.Lonely.{entry_is}
use Rattle.xfs_links.proofs.Prefixed.{made_next}
use Rattle.xfs_links.proofs.remaining.copied.Goals as goal

abbrev with_name : EntryRec → List ℕ → EntryRec
with_name e name = record { dir = e.dir; name = name; ino = e.ino; ftype = e.ftype }

pub loop-candidate-init : goal.loop-candidate-init
loop-candidate-init c = c.in_ok-copies.ensures.items

pub loop-candidate-preserved : goal.loop-candidate-preserved
loop-candidate-preserved c =
    let i = c.loop-candidate.candidate-index in
    let candidate = get_or c.args.candidates.now i no_candidate in
    let e = c.index-entries-candidate.result in
    let here = entry_is c.args.entries.now candidate e (c.requires.entries i no_candidate c.loop-candidate-test.true) c.index-entries-candidate.is in
    let same = ap (with_name e) (c.in_ok-from_slice.ensures ∙ c.bytes.ensures) in
    made_next (candidate_entry c.args.entries.now) c.args.candidates.now i no_candidate c.loop-candidate.copies.items c.push.new.self.items _ c.loop-candidate-test.true c.loop-candidate.invariant
    c.in_ok-push.ensures.items (same ∙ here)

pub returns : goal.returns
returns c =
    c.from_vec.ensures ∙ c.loop-candidate.invariant
    ∙ ap (λ (cs : List Candidate). map (candidate_entry c.args.entries.now) cs) (take_all c.loop-candidate.candidate-index c.args.candidates.now c.loop-candidate-test.false)
