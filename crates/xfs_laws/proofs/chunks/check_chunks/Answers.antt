use Rattle.std.proofs.Common.{ℕ, ◌*◌, IsTrue, refl, sym, ap, ◌∙◌, subst}
use Rattle.xfs_geom.specs.declared.records.InoRec.{InoRec}
use Rattle.xfs_geom.specs.Volumes.{volume_of}
use Rattle.xfs_kinds.specs.InodeTrees.{is_holemask}
use Rattle.xfs_laws.specs.Counting.{chunk_number, due_chunk}
use Rattle.xfs_laws.proofs.Differences.{differs, kept, none_left, same_more, told}
use Rattle.xfs_laws.proofs.chunks.check_chunks.Goals as goal

abbrev no_chunk : InoRec
no_chunk = record { startino = 0; holemask = 0; count = 0; freecount = 0; free = 0 }

pub chunk_number-held-requires : goal.chunk_number-held-requires
chunk_number-held-requires c = c.requires.chunks c.loop-chunk.chunk-index no_chunk c.loop-chunk-test.true

pub chunk_number-due-requires : goal.chunk_number-due-requires
chunk_number-due-requires c =
    subst (λ (m : ℕ). IsTrue (is_holemask m)) (sym c.due_chunk.ensures.mask) (c.requires.chunks c.loop-chunk.chunk-index no_chunk c.loop-chunk-test.true)

pub due_chunk-requires-clause-group : goal.due_chunk-requires-clause-group
due_chunk-requires-clause-group c = c.requires.group

pub due_chunk-requires-clause-files : goal.due_chunk-requires-clause-files
due_chunk-requires-clause-files c = c.requires.files

pub loop-chunk-init : goal.loop-chunk-init
loop-chunk-init c = refl

pub loop-chunk-preserved : goal.loop-chunk-preserved
loop-chunk-preserved c =
    let due = due_chunk (volume_of c.args.g.now) c.args.files.now c.args.ag in
    let number_due = c.chunk_number-due.ensures.value ∙ ap chunk_number c.due_chunk.ensures.value in
    same_more chunk_number due c.args.chunks.now c.loop-chunk.chunk-index c.loop-chunk.invariant no_chunk c.loop-chunk-test.true
    (sym c.chunk_number-held.ensures.value ∙ (c.if-held-due.false ∙ number_due))

pub returns-then-held-due : goal.returns-then-held-due
returns-then-held-due c =
    let due = due_chunk (volume_of c.args.g.now) c.args.files.now c.args.ag in
    let number_due = c.chunk_number-due.ensures.value ∙ ap chunk_number c.due_chunk.ensures.value in
    told 4 (2 * c.args.ag) c.chunk_number-held.ensures.value number_due
    (differs chunk_number due c.args.chunks.now c.loop-chunk.chunk-index c.loop-chunk.invariant no_chunk c.loop-chunk-test.true
    (λ same. c.if-held-due.true (c.chunk_number-held.ensures.value ∙ (same ∙ sym number_due))))
    c.broken.ensures

pub returns : goal.returns
returns c =
    sym (kept 4 (2 * c.args.ag) _ (none_left chunk_number (due_chunk (volume_of c.args.g.now) c.args.files.now c.args.ag) c.args.chunks.now
    c.loop-chunk.chunk-index c.loop-chunk-test.false c.loop-chunk.invariant))
