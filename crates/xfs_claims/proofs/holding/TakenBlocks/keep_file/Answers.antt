use Rattle.std.proofs.Common.{◌≡◌, ℕ, false, List, [], refl, sym, ◌∙◌, ap, subst}
use Rattle.xfs_collections.specs.Blocks.{is_in}
use Rattle.xfs_claims.specs.Spans.{spans_of, meets_any, with_blocks}
use Rattle.xfs_claims.specs.Private.Arrived.{arrived}
use Rattle.xfs_claims.specs.Private.Held.{held_of}
use Rattle.xfs_claims.proofs.Arrived.{arrived_more}
use Rattle.xfs_claims.proofs.Numbers.{asked_is}
use Rattle.xfs_claims.proofs.Steady.{file_kept}
use Rattle.xfs_geom.specs.declared.records.Run.{Run}
use Rattle.xfs_claims.proofs.holding.TakenBlocks.keep_file.Goals as goal

pub returns-in_ok-push-clause-held : goal.returns-in_ok-push-clause-held
returns-in_ok-push-clause-held g c =
    let held = c.args.self.now in
    let runs = c.args.file.now.runs in
    let off : meets_any (is_in held.blocks) (spans_of runs) ≡ false =
    subst (λ (x : List Run). meets_any (is_in held.blocks) (spans_of x) ≡ false) c.as_slice-runs.ensures (sym c.if-not-meets_runs.ensures.met) in
    let blocks : is_in c.take_runs.new.set ≡ with_blocks (is_in held.blocks) (spans_of runs) =
    subst (λ (x : List Run). is_in c.take_runs.new.set ≡ with_blocks (is_in held.blocks) (spans_of x)) c.as_slice-runs.ensures c.in_ok-take_runs.ensures.blocks in
    file_kept (held_of held) (held_of (record { blocks = c.take_runs.new.set; clusters = held.clusters; files = c.push.new.self })) c.args.file.now
    (sym (asked_is c.args.file.now.cluster held.clusters.keys) ∙ sym c.if-contains.ensures) off blocks refl
    (ap (λ (xs : List ℕ). arrived [] xs) c.in_ok-push.ensures.items ∙ arrived_more [] held.files.items c.args.file.now.ino)
