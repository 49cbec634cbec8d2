use Rattle.std.proofs.Common.{◌≡◌, Bool, true, not, ◌&&◌, ◌||◌, sym, ap, ap₂, ◌∙◌}
use Rattle.xfs_disk.specs.Lists.{is_among}
use Rattle.xfs_geom.specs.Volumes.{volume_of}
use Rattle.xfs_salvage.specs.xfs_image.Clusters.{cluster_of}
use Rattle.xfs_request.specs.Slots.{is_free}
use Rattle.xfs_request.proofs.Numbers.{used_by}
use Rattle.xfs_request.proofs.log.keeps_lsn.Goals as goal

pub returns-then-is_in_use : goal.returns-then-is_in_use
returns-then-is_in_use c =
    let kept = c.args.kept.now in
    let slot = c.args.slot.now in
    let there : is_among kept.clusters (cluster_of (volume_of c.args.g.now) slot.ino) ≡ true =
    sym (c.is_among.ensures ∙ ap₂ is_among c.as_slice.ensures c.cluster_of.ensures) ∙ c.if-not-is_among.false in
    let same = c.is_in_use.ensures ∙ used_by kept.files c.args.used.now slot.ino c.requires.used in
    c.if-is_in_use.true ∙ sym (ap₂ (λ (s t : Bool). s && (t || (is_free slot.state && not (is_among kept.fresh slot.ino)))) there (sym same ∙ c.if-is_in_use.true))

pub returns-else-is_in_use : goal.returns-else-is_in_use
returns-else-is_in_use c =
    let kept = c.args.kept.now in
    let slot = c.args.slot.now in
    let there : is_among kept.clusters (cluster_of (volume_of c.args.g.now) slot.ino) ≡ true =
    sym (c.is_among.ensures ∙ ap₂ is_among c.as_slice.ensures c.cluster_of.ensures) ∙ c.if-not-is_among.false in
    let same = c.is_in_use.ensures ∙ used_by kept.files c.args.used.now slot.ino c.requires.used in
    c.stays_free.ensures ∙ sym (ap₂ (λ (s t : Bool). s && (t || (is_free slot.state && not (is_among kept.fresh slot.ino)))) there (sym same ∙ c.if-is_in_use.false))
