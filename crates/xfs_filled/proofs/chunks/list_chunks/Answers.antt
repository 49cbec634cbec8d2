use Rattle.std.proofs.Common.{ℕ, ◌/◌, ◌==◌, ◌++◌, ◌∷◌, [], Bool, Vec, Global, get_or, arith, sym, ap, ◌∙◌, ◌≡◌, length, map}
use Rattle.std.proofs.lemmas.Result.{IfOk-from_err}
use Rattle.std.specs.List.{filter, range_with_len}
use borrow.Author.Count.{falls}
use Rattle.xfs_geom.specs.Volumes.{volume_of}
use Rattle.xfs_geom.specs.declared.records.InoRec.{InoRec}
use Rattle.xfs_filled.specs.Chunks.{chunk_record}
use Rattle.xfs_filled.proofs.Lists.{mapped_next, mapped_same}
use Rattle.xfs_filled.proofs.chunks.list_chunks.Goals.{then-is_in_group+in_ok-push, else-is_in_group}
use Rattle.xfs_filled.proofs.chunks.list_chunks.Goals as goal

pub loop-c-preserved : goal.loop-c-preserved
loop-c-preserved c =
    let g = c.args.g.now in
    let starts = c.args.starts.now in
    let f : ℕ → InoRec = chunk_record (volume_of g) c.args.files starts in
    let p : ℕ → Bool = λ m. get_or starts m 0 / g.agblocks == c.args.ag in
    let i = c.loop-c.c in
    let now = c.loop-c.records.items in
    elim c.if-is_in_group.branch [
      | then-is_in_group+in_ok-push w ↦
          record {
            all = ap (λ (rs : Vec InoRec Global). rs.items) w.records-is
                ∙ mapped_next f p 0 i i now w.push.new.self.items (omega arith) (sym c.is_in_group.ensures ∙ w.if-is_in_group.true) c.loop-c.invariant.all
                (w.in_ok-push.ensures.items ∙ ap (λ (r : InoRec). now ++ r ∷ []) w.chunk_record.ensures);
          }
      | else-is_in_group w ↦
          record { all = ap (λ (rs : Vec InoRec Global). rs.items) w.records-is ∙ mapped_same f p 0 i i now (omega arith) (sym c.is_in_group.ensures ∙ w.if-is_in_group.false) c.loop-c.invariant.all }
    ]

pub loop-c-init : goal.loop-c-init
loop-c-init c = record { all = c.new-records.ensures.items }

pub chunk_record-requires-clause-files : goal.chunk_record-requires-clause-files
chunk_record-requires-clause-files c = c.requires.files

pub chunk_record-requires-clause-chunks : goal.chunk_record-requires-clause-chunks
chunk_record-requires-clause-chunks c = c.requires.chunks

pub chunk_record-requires-clause-inside : goal.chunk_record-requires-clause-inside
chunk_record-requires-clause-inside c = c.loop-c-test.true

pub loop-c-smaller : goal.loop-c-smaller
loop-c-smaller c = falls _ c.loop-c.c c.loop-c-test.true

pub returns-in_err-push : goal.returns-in_err-push
returns-in_err-push c = IfOk-from_err c.from_residual.result _ c.from_residual.ensures.0

pub returns : goal.returns
returns c =
    let g = c.args.g.now in
    let starts = c.args.starts.now in
    let f : ℕ → InoRec = chunk_record (volume_of g) c.args.files starts in
    let p : ℕ → Bool = λ m. get_or starts m 0 / g.agblocks == c.args.ag in
    let all : c.loop-c.c ≡ length starts = omega (arith, c.loop-c-test.false, c.loop-c.auto.c-end) in
    c.loop-c.invariant.all ∙ ap (λ (n : ℕ). map f (filter p (range_with_len 0 n))) all
