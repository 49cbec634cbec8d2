-- Two repairs that rebuild one image leave the same image.
use Rattle.std.proofs.Common.{◌≡◌, ℕ, ◌≤◌, inl, inr, List, length, Some, Result, Ok, sym, ap, ◌∙◌, subst}
use Rattle.std.proofs.lemmas.Bool.{false≢true}
use Rattle.xfs_disk.specs.Blocks.{Image, IsImage}
use Rattle.xfs_disk.specs.declared.stamp.Stamp.{Stamp}
use Rattle.xfs_geom.specs.Election.{Vote, elected}
use Rattle.xfs_geom.specs.declared.geometry.Geometry.{Geometry}
use Rattle.xfs_image.proofs.Consistent.{one_geometry}
use Rattle.xfs_mend.specs.Outcome.{IsRebuilt}
use Rattle.xfs_mend.specs.Rebuilding.{IsRenamingOf, IsRepairPlan, rebuild_writes}
use Rattle.xfs_mend.specs.xfs_rebuild.Rebuilds.{AreNamesDue, Ground, names_change}
use Rattle.xfs_mend.specs.xfs_rebuild.declared.planning.Rebuilt.{Rebuilt}
use Rattle.xfs_mend.proofs.xfs_restored.Sizes.{elected_fits}
use Rattle.xfs_mend.specs.xfs_restored.Rewriting.{IsRewritten}
use Rattle.xfs_scan.specs.Evidence.{IsEvidence}
use Rattle.xfs_scan.specs.declared.evidence.Evidence.{Evidence}
use Rattle.xfs_writing.specs.Writing.{written}
use Rattle.xfs_settled.proofs.Grounding.{ground_one}
use Rattle.xfs_settled.proofs.ImagesOnce.{IsSameWork}
use Rattle.xfs_settled.proofs.ImagesJoined.{rebuilds_one}
use Rattle.xfs_settled.proofs.NamesJoined.{renamings_one}

ok_one : {A E : Type 0} (r : Result A E) (a b : A) → r ≡ Ok a → r ≡ Ok b → a ≡ b
ok_one {A = A} {E = E} r a b first second =
    let both : ◌≡◌ {A = Result A E} (Ok a) (Ok b) = sym first ∙ second in
    cc

some_one : (a b : Image) → Some a ≡ Some b → a ≡ b
some_one a b same = cc

-- by two evidences of one image
module _ (g : Geometry) (sector : List ℕ) (s : Stamp) (image now other : Image) (e f : Evidence) (te : IsEvidence g image e) (tf : IsEvidence g image f) (r q : Rebuilt)
    (new : IsRewritten g r image now) (next : IsRewritten g q image other) (whole : IsImage (length image) now) (entire : IsImage (length image) other) where
  both_name : (m n : ℕ) → IsRenamingOf g sector s image e r m → IsRenamingOf g sector s image f q n → IsSameWork r q now other
  both_name m n a c =
      let same : c.on ≡ a.on = ground_one g image f e c.on a.on tf te c.ground a.ground in
      renamings_one g sector s image now other a.on a.n c.n (record { rebuilt = r; orphans = m }) (record { rebuilt = q; orphans = n }) a.due
      (subst (λ (on : Ground). AreNamesDue g s on c.n) same c.due) a.renamed c.renamed new next whole entire

  plans_one : (m n : ℕ) → IsRepairPlan g sector s image e r m → IsRepairPlan g sector s image f q n → IsSameWork r q now other
  plans_one m n (inl a) (inl c) = rebuilds_one g sector s image now other e f r q te a.0 new whole tf c.0 next entire
  plans_one m n (inr a) (inr c) = both_name m n a c
  plans_one m n (inl a) (inr c) =
      let same : a.0.on ≡ c.on = ground_one g image e f a.0.on c.on te tf a.0.ground c.ground in
      absurd (false≢true (sym a.0.planned.named ∙ ap (λ (on : Ground). names_change g s on) same ∙ c.named))
  plans_one m n (inr a) (inl c) =
      let same : c.0.on ≡ a.on = ground_one g image f e c.0.on a.on tf te c.0.ground a.ground in
      absurd (false≢true (sym c.0.planned.named ∙ ap (λ (on : Ground). names_change g s on) same ∙ a.named))

pub repairs_one : (s : Stamp) (image now other : Image) (blocks kept cleared orphans : ℕ) (more files freed unnamed : ℕ)
    → IsRebuilt s image (Some now) blocks kept cleared orphans → IsRebuilt s image (Some other) more files freed unnamed
    → IsImage (length image) now → IsImage (length image) other → (now ≡ other) × (blocks ≡ more)
repairs_one s image now other blocks kept cleared orphans more files freed unnamed a c whole entire =
    let g : Geometry = a.plan.has.geometry in
    let h : Geometry = c.plan.has.geometry in
    let sector : List ℕ = a.plan.has.elected.vote.sector in
    let geometry : h ≡ g = one_geometry h g image c.plan.has.elected a.plan.has.elected in
    let vote : c.plan.has.elected.vote ≡ a.plan.has.elected.vote = ok_one (elected image) c.plan.has.elected.vote a.plan.has.elected.vote c.plan.has.elected.due a.plan.has.elected.due in
    let evidence : IsEvidence g image c.plan.e = subst (λ (x : Geometry). IsEvidence x image c.plan.e) geometry c.plan.evidence in
    let by_sector : IsRepairPlan h sector s image c.plan.e c.r unnamed = subst (λ (v : Vote). IsRepairPlan h v.sector s image c.plan.e c.r unnamed) vote c.plan.is in
    let by_geometry : IsRepairPlan g sector s image c.plan.e c.r unnamed = subst (λ (x : Geometry). IsRepairPlan x sector s image c.plan.e c.r unnamed) geometry by_sector in
    let fits : g.dblocks ≤ length image = elected_fits g image a.plan.has.elected in
    let new : IsRewritten g a.r image now = record { enough = fits; is = some_one now (written (rebuild_writes a.r) image) a.is } in
    let next : IsRewritten g c.r image other = record { enough = fits; is = some_one other (written (rebuild_writes c.r) image) c.is } in
    let same : IsSameWork a.r c.r now other =
    plans_one g sector s image now other a.plan.e c.plan.e a.plan.evidence evidence a.r c.r new next whole entire orphans unnamed a.plan.is by_geometry in
    (same.image', a.counted ∙ same.blocks' ∙ sym c.counted)
