use Rattle.std.proofs.Common.{◌≡◌, ℕ, ◌+◌, ◌*◌, ◌<◌, ◌≤◌, length, map, filter, drop, arith, refl, sym, ◌∙◌, subst}
use Rattle.xfs_geom.specs.Sums.{has_free}
use Rattle.xfs_geom.specs.declared.records.InoRec.{InoRec}
use Rattle.xfs_volume.specs.Laws.{first_difference}
use Rattle.xfs_laws.specs.Counting.{chunk_number}
use Rattle.xfs_laws.proofs.Differences.{kept, none_left_of, told}
use Rattle.xfs_laws.proofs.Filtered.{both_differ, both_more, none_due, none_held, passed_over}
use Rattle.xfs_laws.proofs.chunks.check_free_chunks.Goals.{then-has_free+else-at-held+else-held_number-due_number, else-has_free}
use Rattle.xfs_laws.proofs.chunks.check_free_chunks.Goals as goal

abbrev no_chunk : InoRec
no_chunk = record { startino = 0; holemask = 0; count = 0; freecount = 0; free = 0 }

below : (at n : ℕ) → at ≤ n → (at ≡ n → ⊥) → at < n
below at n within other = omega arith

pub chunk_number-due_number-requires : goal.chunk_number-due_number-requires
chunk_number-due_number-requires c = c.requires.chunks c.loop-chunk.chunk-index no_chunk c.loop-chunk-test.true

pub chunk_number-held_number-requires : goal.chunk_number-held_number-requires
chunk_number-held_number-requires c =
    c.requires.held c.loop-chunk.at no_chunk (below c.loop-chunk.at _ c.loop-chunk.invariant.within c.if-at-held.false)

pub chunk_number-requires : goal.chunk_number-requires
chunk_number-requires c = c.requires.held c.loop-chunk.at no_chunk (below c.loop-chunk.at _ c.loop-chunk.invariant.within c.if-at-held-2.false)

more_within : (at n : ℕ) → at < n → at + 1 ≤ n
more_within at n less = omega arith

pub loop-chunk-preserved : goal.loop-chunk-preserved
loop-chunk-preserved c =
    let held = c.args.held.now in
    let chunks = c.args.chunks.now in
    let at = c.loop-chunk.at in
    let i = c.loop-chunk.chunk-index in
    let whole = first_difference (map chunk_number held) (map chunk_number (filter has_free chunks)) in
    let Within : ℕ → Type 0 = λ n. n ≤ length held in
    let Left : ℕ → Type 0 = λ n. first_difference (map chunk_number (drop n held)) (map chunk_number (filter has_free (drop (i + 1) chunks))) ≡ whole in
    elim c.if-has_free.branch [
      | then-has_free+else-at-held+else-held_number-due_number w ↦
          let less = below at (length held) c.loop-chunk.invariant.within w.if-at-held.false in
          record {
            within = subst Within (sym w.at-is) (more_within at (length held) less);
            left = subst Left (sym w.at-is) (both_more chunk_number has_free held chunks at i c.loop-chunk.invariant.left no_chunk c.loop-chunk-test.true
                (sym c.has_free.ensures ∙ w.if-has_free.true) less
                (sym w.chunk_number-held_number.ensures.value ∙ (w.if-held_number-due_number.false ∙ w.chunk_number-due_number.ensures.value)));
          }
      | else-has_free w ↦
          record {
            within = subst Within (sym w.at-is) c.loop-chunk.invariant.within;
            left = subst Left (sym w.at-is) (passed_over chunk_number has_free held chunks at i c.loop-chunk.invariant.left no_chunk c.loop-chunk-test.true
                (sym c.has_free.ensures ∙ w.if-has_free.false));
          }
    ]

pub returns-then-at-held : goal.returns-then-at-held
returns-then-at-held c =
    told 4 (2 * c.args.ag + 1) refl c.chunk_number-due_number.ensures.value
    (none_held chunk_number has_free c.args.held.now c.args.chunks.now c.loop-chunk.at c.loop-chunk.chunk-index c.loop-chunk.invariant.left no_chunk
    c.loop-chunk-test.true (sym c.has_free.ensures ∙ c.if-has_free.true) (omega (arith, c.if-at-held.true)))
    c.broken.ensures

pub returns-then-held_number-due_number : goal.returns-then-held_number-due_number
returns-then-held_number-due_number c =
    told 4 (2 * c.args.ag + 1) c.chunk_number-held_number.ensures.value c.chunk_number-due_number.ensures.value
    (both_differ chunk_number has_free c.args.held.now c.args.chunks.now c.loop-chunk.at c.loop-chunk.chunk-index c.loop-chunk.invariant.left no_chunk
    c.loop-chunk-test.true (sym c.has_free.ensures ∙ c.if-has_free.true) (below c.loop-chunk.at _ c.loop-chunk.invariant.within c.if-at-held.false)
    (λ same. c.if-held_number-due_number.true (c.chunk_number-held_number.ensures.value ∙ (same ∙ sym c.chunk_number-due_number.ensures.value))))
    c.broken-then-held_number-due_number.ensures

pub returns-then-at-held-2 : goal.returns-then-at-held-2
returns-then-at-held-2 c =
    sym (kept 4 (2 * c.args.ag + 1) _ (none_left_of chunk_number has_free c.args.held.now c.args.chunks.now c.loop-chunk.at c.loop-chunk.chunk-index
    (omega (arith, c.if-at-held-2.true)) c.loop-chunk-test.false c.loop-chunk.invariant.left))

pub returns : goal.returns
returns c =
    told 4 (2 * c.args.ag + 1) c.chunk_number.ensures.value refl
    (none_due chunk_number has_free c.args.held.now c.args.chunks.now c.loop-chunk.at c.loop-chunk.chunk-index c.loop-chunk.invariant.left no_chunk
    c.loop-chunk-test.false (below c.loop-chunk.at _ c.loop-chunk.invariant.within c.if-at-held-2.false))
    c.broken-2.ensures
