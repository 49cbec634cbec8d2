use Rattle.std.proofs.Common.{◌+◌, ◌*◌, [], ◌∷◌, List, filter, map, sym, ap, ◌∙◌, subst}
use Rattle.xfs_geom.specs.Sums.{has_free}
use Rattle.xfs_geom.specs.Volumes.{volume_of}
use Rattle.xfs_geom.specs.declared.records.InoRec.{InoRec}
use Rattle.xfs_volume.specs.Laws.{first_broken}
use Rattle.xfs_laws.specs.Counting.{AreChunks, chunks_at, due_chunk}
use Rattle.xfs_laws.proofs.Firsts.{first_one, first_rest}
use Rattle.xfs_laws.proofs.chunks.check_group.Goals as goal

pub check_chunks-requires-clause-group : goal.check_chunks-requires-clause-group
check_chunks-requires-clause-group c = c.requires.group

pub check_chunks-requires-clause-files : goal.check_chunks-requires-clause-files
check_chunks-requires-clause-files c = c.requires.files

pub check_chunks-requires-clause-chunks : goal.check_chunks-requires-clause-chunks
check_chunks-requires-clause-chunks c = subst AreChunks (sym c.as_slice-chunks.ensures) c.requires.chunks.0

pub check_free_chunks-requires-clause-held : goal.check_free_chunks-requires-clause-held
check_free_chunks-requires-clause-held c = subst AreChunks (sym c.as_slice.ensures) c.requires.chunks.1

pub check_free_chunks-requires-clause-chunks : goal.check_free_chunks-requires-clause-chunks
check_free_chunks-requires-clause-chunks c = subst AreChunks (sym c.as_slice-chunks.ensures) c.requires.chunks.0

pub returns-in-Some : goal.returns-in-Some
returns-in-Some c =
    let ag = c.args.ag in
    let group = c.args.group.now in
    let due = due_chunk (volume_of c.args.g.now) c.args.files.now ag in
    let first = λ (chunks : List InoRec). first_broken (chunks_at (2 * ag) chunks (map due chunks) ∷ []) in
    sym (first_one (chunks_at (2 * ag) group.ino (map due group.ino)) (chunks_at (2 * ag + 1) group.fino (filter has_free group.ino) ∷ []) c.in-Some.law
    (ap first (sym c.as_slice-chunks.ensures) ∙ (sym c.check_chunks.ensures ∙ c.in-Some.is)))

pub returns-in-None : goal.returns-in-None
returns-in-None c =
    let ag = c.args.ag in
    let group = c.args.group.now in
    let due = due_chunk (volume_of c.args.g.now) c.args.files.now ag in
    let first = λ (chunks : List InoRec). first_broken (chunks_at (2 * ag) chunks (map due chunks) ∷ []) in
    c.check_free_chunks.ensures
    ∙ ((λ k. first_broken (chunks_at (2 * ag + 1) (c.as_slice.ensures k) (filter has_free (c.as_slice-chunks.ensures k)) ∷ []))
    ∙ sym (first_rest (chunks_at (2 * ag) group.ino (map due group.ino)) (chunks_at (2 * ag + 1) group.fino (filter has_free group.ino) ∷ [])
    (ap first (sym c.as_slice-chunks.ensures) ∙ (sym c.check_chunks.ensures ∙ c.in-None.is))))
