use Rattle.std.proofs.Common.{◌≡◌, ◌++◌, refl, ◌∙◌}
use Rattle.std.proofs.lemmas.Result.{IfOk-weaker}
use Rattle.xfs_geom.specs.Volumes.{volume_of}
use Rattle.xfs_place.specs.declared.wanted.Wanted.{Wanted}
use Rattle.xfs_salvage.specs.Kept.{taken_of}
use Rattle.xfs_salvage.specs.declared.found.Salvaged.{Salvaged}
use Rattle.xfs_changes.specs.xfs_built.Asks.{objects_of}
use Rattle.xfs_changes.specs.Replaced.{replaced_blocks}
use Rattle.xfs_rename.specs.Objects.{asked_with, wanted_with, with_added}
use Rattle.xfs_rename.specs.Settled.{settled}
use Rattle.xfs_rename.proofs.SettledAsked.{asked_is, first_forks, parted_kept, rooms_rise, settled_clusters, settled_files, settled_is}
use Rattle.xfs_rename.proofs.wanting.ask_parts.Goals as goal

pub asked_of-requires-clause-forks : goal.asked_of-requires-clause-forks
asked_of-requires-clause-forks c =
    let n = c.requires.parts.0 in
    let is = c.requires.parts.1 in
    first_forks c.args.g.now c.args.stamp.now n is.due c.args.settling.now is.settling
    c.as_slice-rebuilt.result.now c.as_slice-rebuilt.ensures c.in_ok-kept.kept
    (parted_kept n c.as_slice-rebuilt.result.now c.args.clusters c.args.fresh c.args.files c.args.settling.now.lost c.in_ok-kept.kept is.clusters' is.files' is.fresh' c.in_ok-kept.ensures)

pub asked_of-requires-clause-files : goal.asked_of-requires-clause-files
asked_of-requires-clause-files c =
    let n = c.requires.parts.0 in
    let is = c.requires.parts.1 in
    settled_files c.args.g.now c.args.stamp.now n is.due c.args.settling.now is.settling
    c.as_slice-rebuilt.result.now c.as_slice-rebuilt.ensures c.in_ok-kept.kept
    (parted_kept n c.as_slice-rebuilt.result.now c.args.clusters c.args.fresh c.args.files c.args.settling.now.lost c.in_ok-kept.kept is.clusters' is.files' is.fresh' c.in_ok-kept.ensures)
    c.args.settling.now.lost.added refl (with_added c.args.settling.now.lost.added c.in_ok-kept.kept) refl

pub asked_of-requires-clause-clusters : goal.asked_of-requires-clause-clusters
asked_of-requires-clause-clusters c =
    let n = c.requires.parts.0 in
    let is = c.requires.parts.1 in
    settled_clusters c.args.g.now c.args.stamp.now n is.due c.args.settling.now is.settling
    c.as_slice-rebuilt.result.now c.as_slice-rebuilt.ensures c.in_ok-kept.kept
    (parted_kept n c.as_slice-rebuilt.result.now c.args.clusters c.args.fresh c.args.files c.args.settling.now.lost c.in_ok-kept.kept is.clusters' is.files' is.fresh' c.in_ok-kept.ensures)
    c.args.settling.now.lost.added refl (with_added c.args.settling.now.lost.added c.in_ok-kept.kept) refl

pub asked_of-requires-clause-rooms : goal.asked_of-requires-clause-rooms
asked_of-requires-clause-rooms c =
    let n = c.requires.parts.0 in
    let is = c.requires.parts.1 in
    rooms_rise c.args.g.now c.args.stamp.now n is.due c.args.settling.now is.settling c.args.settling.now.rooms refl

pub returns : goal.returns
returns c =
    let g = c.args.g.now in
    let t = c.args.settling.now in
    record {
      wanted = λ n is.
          IfOk-weaker c.asked_of.result
          (λ (both : Wanted × Salvaged). both.0 ≡ asked_with g t (taken_of (volume_of g) c.in_ok-kept.kept.clusters c.in_ok-kept.kept.files) c.in_ok-reserved.reserved.items (with_added t.lost.added c.in_ok-kept.kept))
          (λ (both : Wanted × Salvaged). both.0 ≡ wanted_with g n t.lost t.names (objects_of t.rooms t.built))
          (λ both asked.
          asked
          ∙ asked_is g c.args.stamp.now n is.due t is.settling
          c.as_slice-rebuilt.result.now c.as_slice-rebuilt.ensures c.in_ok-kept.kept
          (parted_kept n c.as_slice-rebuilt.result.now c.args.clusters c.args.fresh c.args.files t.lost c.in_ok-kept.kept is.clusters' is.files' is.fresh' c.in_ok-kept.ensures)
          c.in_ok-reserved.reserved.items
          (c.in_ok-reserved.ensures ∙ (λ i. (is.wanted' i).reserved ++ replaced_blocks (volume_of g) c.as_slice-rebuilt.result.now ((c.as_slice.ensures ∙ is.files') i))))
          c.asked_of.ensures.wanted;
      kept = λ n is.
          IfOk-weaker c.asked_of.result
          (λ (both : Wanted × Salvaged). both.1 ≡ with_added t.lost.added c.in_ok-kept.kept)
          (λ (both : Wanted × Salvaged). both.1 ≡ settled n t.lost t.names)
          (λ both added.
          added
          ∙ settled_is g c.args.stamp.now n is.due t is.settling
          c.as_slice-rebuilt.result.now c.as_slice-rebuilt.ensures c.in_ok-kept.kept
          (parted_kept n c.as_slice-rebuilt.result.now c.args.clusters c.args.fresh c.args.files t.lost c.in_ok-kept.kept is.clusters' is.files' is.fresh' c.in_ok-kept.ensures)
          t.lost.added refl (with_added t.lost.added c.in_ok-kept.kept) refl)
          c.asked_of.ensures.kept;
    }
