-- Two images in which rebuilds of one image were written are one.
use Rattle.std.proofs.Common.{◌≡◌, ℕ, inl, inr, true, List, length, sym, ◌∙◌, ap}
use Rattle.std.proofs.lemmas.Bool.{false≢true}
use Rattle.xfs_disk.specs.Blocks.{Image, IsImage}
use Rattle.xfs_disk.specs.declared.stamp.Stamp.{Stamp}
use Rattle.xfs_geom.specs.declared.geometry.Geometry.{Geometry}
use Rattle.xfs_mend.specs.xfs_rebuild.Rebuilds.{Ground, names_change}
use Rattle.xfs_settled.specs.Rewrites.{IsNamedRewrite, IsPlainRewrite, IsRewriteOf}
use Rattle.xfs_settled.proofs.Grounding.{ground_one}
use Rattle.xfs_settled.proofs.ImagesJoined.{rebuilds_one}
use Rattle.xfs_settled.proofs.NamesJoined.{relinked_one}

-- whether names change is given by the image
not_both : (g : Geometry) (sector : List ℕ) (s : Stamp) (image now other : Image) → IsPlainRewrite g sector s image now → IsNamedRewrite g sector s image other → ⊥
not_both g sector s image now other a c =
    let same : a.is.on ≡ c.is.on = ground_one g image a.evidence c.evidence a.is.on c.is.on a.seen c.is.evidence a.is.ground c.is.ground in
    let change : names_change g s a.is.on ≡ true = ap (λ (on : Ground). names_change g s on) same ∙ c.is.change in
    false≢true (sym a.is.planned.named ∙ change)

pub rewrites_one : (g : Geometry) (sector : List ℕ) (s : Stamp) (image now other : Image) → IsImage (length image) now → IsImage (length image) other
    → IsRewriteOf g sector s image now → IsRewriteOf g sector s image other → now ≡ other
rewrites_one g sector s image now other whole entire (inl a) (inl c) =
    (rebuilds_one g sector s image now other a.evidence c.evidence a.rebuilt c.rebuilt a.seen a.is a.new whole c.seen c.is c.new entire).image'
rewrites_one g sector s image now other whole entire (inr a) (inr c) =
    (relinked_one g sector s image now other a.evidence c.evidence a.due c.due a.renamed c.renamed a.is whole c.is entire).image'
rewrites_one g sector s image now other whole entire (inl a) (inr c) = absurd (not_both g sector s image now other a c)
rewrites_one g sector s image now other whole entire (inr a) (inl c) = absurd (not_both g sector s image other now c a)
