-- A repaired image is consistent, its protected files are kept, and a further repair leaves it as it is.
use Rattle.std.proofs.Common.{◌≡◌, ℕ, ◌*◌, Bool, true, false, List, length, drop, Option, Some, None, refl, sym, ap, ◌∙◌, subst}
use Rattle.std.proofs.lemmas.Bool.{eqb-true}
use Rattle.std.proofs.lemmas.List.{drop_at}
use Rattle.xfs_disk.specs.Blocks.{Image, bytes_of_block}
use Rattle.xfs_geom.specs.Election.{super_of}
use Rattle.xfs_geom.specs.Superblocks.{is_agreeing}
use Rattle.xfs_geom.specs.Volumes.{Volume, stated_volume, volume_of}
use Rattle.xfs_geom.specs.declared.geometry.Geometry.{Geometry}
use Rattle.xfs_laws.specs.Lawful.{broken_law}
use Rattle.xfs_image.proofs.Backups.{only_backups}
use Rattle.xfs_image.specs.Consistent.{HasBackupFault, IsConsistent, IsElected, finding}
use Rattle.xfs_image.specs.declared.findings.Finding.{Finding}
use Rattle.xfs_image.specs.declared.findings.Finding.TheVariants as Found
use Rattle.xfs_restored.specs.xfs_views.Backups.{DifferInBackups}
use Rattle.xfs_restored.proofs.xfs_views.ProtectedStay.{protected_stay}
use Rattle.xfs_restored.proofs.xfs_views.ViewsStay.{views_stay}
use Rattle.xfs_mend.proofs.Deciding.{is_elected}
use Rattle.xfs_backups.proofs.Electing.{elected_primary}
use Rattle.xfs_backups.proofs.Mending.{mended_agreeing, mended_block, mended_other}
use Rattle.xfs_mend.proofs.Repaired.{IsAccepted, agree_written, backup_written, elects_written, is_mended, none_found, primary_of}
use Rattle.xfs_scan.specs.Refused.{refused}
use Rattle.xfs_mend.proofs.Staying.{is_left}
use Rattle.xfs_backups.specs.Backups.{backup_plan, start_of}
use Rattle.xfs_mend.specs.Due.{scan_refusal}
use Rattle.xfs_mend.specs.Rebuilding.{is_backup}
use Rattle.xfs_mend.specs.Outcome.{IsRepaired}
use Rattle.xfs_writing.specs.Writing.{written}

-- behind its first sector the block of a backup is as it was
behind_mended : (primary block : List ℕ) → length primary ≡ 512 → drop 512 (mended_block primary block) ≡ drop 512 block
behind_mended primary block sector = by_case (is_agreeing (stated_volume primary) (super_of block)) refl
  where
    by_case : (r : Bool) → is_agreeing (stated_volume primary) (super_of block) ≡ r → drop 512 (mended_block primary block) ≡ drop 512 block
    by_case true agreeing = ap (λ (b : List ℕ). drop 512 b) (mended_agreeing primary block agreeing)
    by_case false other = ap (λ (b : List ℕ). drop 512 b) (mended_other primary block other) ∙ drop_at primary (drop 512 block) 512 sector

-- the written image differs in backups alone
differ_written : (image : Image) (g : Geometry) → IsAccepted image → volume_of g ≡ stated_volume (super_of (bytes_of_block image 0)) → DifferInBackups (volume_of g) image (written (backup_plan image) image)
unfolding start_of
differ_written image g known stated =
    let primary : List ℕ = super_of (bytes_of_block image 0) in
    let now : Image = written (backup_plan image) image in
    let mended = is_mended image known in
    let all : DifferInBackups (stated_volume primary) image now =
    record {
      behind = λ ag low high.
          ap (λ (b : List ℕ). drop 512 b) (backup_written image known ag low high)
          ∙ behind_mended primary (bytes_of_block image (ag * (stated_volume primary).agblocks)) known.sector;
      others = λ block apart. mended.kept block (λ group low high same. apart group low high same);
    } in
    subst (λ (v : Volume). DifferInBackups v image now) (sym stated) all

-- where a backup is found first, all else is right
pub has_fault : (g : Geometry) (image : Image) (found : Finding) → Some found ≡ finding broken_law g image → is_backup found ≡ true → (ag : ℕ) × HasBackupFault broken_law g image ag
has_fault g image (Found.Law law) same backup = absurd cc
has_fault g image (Found.Part part place) same backup =
    let number : part ≡ 10 = eqb-true part 10 backup in
    (place, only_backups broken_law g image place (sym same ∙ ap (λ (p : ℕ). Some (Found.Part p place)) number))

pub is_repaired : (image : Image) (now : Option Image) (g : Geometry) (ag : ℕ) → IsAccepted image → volume_of g ≡ stated_volume (super_of (bytes_of_block image 0))
    → HasBackupFault broken_law g image ag → scan_refusal (refused (volume_of g) image) ≡ None → now ≡ Some (written (backup_plan image) image) → IsRepaired image now
is_repaired image now g ag known stated fault none planned =
    let due : Image = written (backup_plan image) image in
    let differ : DifferInBackups (volume_of g) image due = differ_written image g known stated in
    let elects : IsElected (volume_of g) due = is_elected g due (primary_of image) (elects_written image known) stated in
    let consistent : IsConsistent broken_law g due =
    record {
      elected = elects;
      first = refl;
      catalog = fault.catalog;
      reads = views_stay g image due fault.catalog fault.reads fault.lawful differ;
      lawful = fault.lawful;
      backups = agree_written image known g elects;
    } in
    record {
      planned = planned;
      mended = is_mended image known;
      elects = elects_written image known ∙ sym (elected_primary image known.some known.accepted);
      agree = agree_written image known;
      found_elsewhere = none_found image known;
      geometry = g;
      states = fault.elected;
      consistent = consistent;
      keeps = λ ino protected. protected_stay g image due ino differ protected;
      stays = is_left g image due consistent differ none;
    }
