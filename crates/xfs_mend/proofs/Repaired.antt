-- A repaired image is mended, and none of its backups is found from then on.
use Rattle.std.proofs.Common.{◌≡◌, ◌≢◌, ℕ, ◌-◌, ◌*◌, ◌<◌, ◌≤◌, Bool, true, false, List, length, drop, None, Result, Ok, refl, sym, ap, ◌∙◌, subst, arith}
use Rattle.std.proofs.lemmas.List.{take_at}
use Rattle.std.proofs.Math.Nat.{mul-le-mul_right}
use Rattle.xfs_word.specs.Field.{part_of}
use Rattle.xfs_disk.specs.Blocks.{Image, bytes_of_block}
use Rattle.xfs_geom.specs.Superblocks.{is_agreeing, super_fault}
use Rattle.xfs_geom.specs.Volumes.{Volume, stated_volume, volume_of}
use Rattle.xfs_geom.specs.declared.election.ElectFault.{ElectFault}
use Rattle.xfs_geom.specs.declared.geometry.Geometry.{Geometry}
use Rattle.xfs_geom.proofs.OwnVolume.{agrees_with_itself}
use Rattle.xfs_geom.proofs.Votes.{same_equal}
use Rattle.xfs_geom.specs.Election.{Vote, choice, elected, super_of}
use Rattle.xfs_laws.specs.Lawful.{broken_law}
use Rattle.xfs_image.proofs.Backups.{only_backups}
use Rattle.xfs_image.specs.Consistent.{HasBackupFault, HasFinding, IsElected, backup_agrees}
use Rattle.xfs_log.specs.Sectors.{sector_in}
use Rattle.xfs_image.specs.declared.findings.Finding.TheVariants as Found
use Rattle.xfs_backups.proofs.Electing.{elected_primary}
use Rattle.xfs_backups.proofs.Mending.{length-written, mended_block, mended_agreeing, mended_other, steps_other, steps_same}
use Rattle.xfs_backups.specs.Backups.{start_of, backup_plan}
use Rattle.xfs_mend.specs.Outcome.{IsMended}
use Rattle.xfs_writing.specs.Writing.{written}

-- what is known of an image whose primary superblock is accepted
pub record IsAccepted (image : Image) : Type 0 where
  pub some : 0 < length image
  pub sector : length (super_of (bytes_of_block image 0)) ≡ 512
  pub accepted : super_fault (super_of (bytes_of_block image 0)) 0 (length image) ≡ None
  pub groups : 0 < (stated_volume (super_of (bytes_of_block image 0))).agblocks
  pub inside : (k : ℕ) → k < (stated_volume (super_of (bytes_of_block image 0))).agcount → start_of (super_of (bytes_of_block image 0)) k < length image

-- the first group begins before every other
pub start_above : (primary : List ℕ) (k : ℕ) → 0 < (stated_volume primary).agblocks → 1 ≤ k → 0 ≢ start_of primary k
unfolding start_of
start_above primary k some above same =
    let w : ℕ = (stated_volume primary).agblocks in
    let least : 1 * w ≤ k * w = mul-le-mul_right w above in
    absurd (omega arith)

-- a mended backup agrees
pub mended_agrees : (primary block : List ℕ) → length primary ≡ 512 → is_agreeing (stated_volume primary) primary ≡ true
    → is_agreeing (stated_volume primary) (super_of (mended_block primary block)) ≡ true
mended_agrees primary block sector itself = by_case (is_agreeing (stated_volume primary) (super_of block)) refl
  where
    by_case : (r : Bool) → is_agreeing (stated_volume primary) (super_of block) ≡ r
        → is_agreeing (stated_volume primary) (super_of (mended_block primary block)) ≡ true
    by_case true agreeing = rw (mended_agreeing primary block agreeing) agreeing
    by_case false other =
        rw (mended_other primary block other, take_at primary (drop 512 block) 512 sector) itself

-- the block of each backup once the plan is written
pub backup_written : (image : Image) → IsAccepted image → (k : ℕ) → 1 ≤ k → k < (stated_volume (super_of (bytes_of_block image 0))).agcount
    → bytes_of_block (written (backup_plan image) image) (start_of (super_of (bytes_of_block image 0)) k)
    ≡ mended_block (super_of (bytes_of_block image 0)) (bytes_of_block image (start_of (super_of (bytes_of_block image 0)) k))
backup_written image known k low high =
    steps_same (super_of (bytes_of_block image 0)) image ((stated_volume (super_of (bytes_of_block image 0))).agcount - 1) 1 image k known.groups low (omega arith)
    (known.inside k high) refl

-- the primary's block once the plan is written
pub primary_written : (image : Image) → IsAccepted image → bytes_of_block (written (backup_plan image) image) 0 ≡ bytes_of_block image 0
primary_written image known =
    steps_other (super_of (bytes_of_block image 0)) image ((stated_volume (super_of (bytes_of_block image 0))).agcount - 1) 1 image 0
    (λ k low high. start_above (super_of (bytes_of_block image 0)) k known.groups low)

pub is_mended : (image : Image) → IsAccepted image → IsMended image (written (backup_plan image) image)
is_mended image known =
    let primary : List ℕ = super_of (bytes_of_block image 0) in
    record {
      count = length-written (backup_plan image) image;
      primary = primary_written image known;
      kept =
          λ b apart.
          steps_other primary image ((stated_volume primary).agcount - 1) 1 image b (λ k low high same. apart k low (omega arith) same);
      agreed = λ k low high agreeing. backup_written image known k low high ∙ mended_agreeing primary (bytes_of_block image (start_of primary k)) agreeing;
      mended = λ k low high other. backup_written image known k low high ∙ mended_other primary (bytes_of_block image (start_of primary k)) other;
    }

-- all backups of the written image agree
backups_agree : (image : Image) → IsAccepted image → (k : ℕ) → 1 ≤ k → k < (stated_volume (super_of (bytes_of_block image 0))).agcount
    → is_agreeing (stated_volume (super_of (bytes_of_block image 0))) (super_of (bytes_of_block (written (backup_plan image) image) (start_of (super_of (bytes_of_block image 0)) k))) ≡ true
backups_agree image known k low high =
    let primary : List ℕ = super_of (bytes_of_block image 0) in
    rw (backup_written image known k low high)
    (mended_agrees primary (bytes_of_block image (start_of primary k)) known.sector (agrees_with_itself primary (length image) known.accepted))

-- the first sector of a block, by its two names
pub first_sector : (image : Image) (b : ℕ) → sector_in image b 0 ≡ super_of (bytes_of_block image b)
unfolding part_of
first_sector image b = refl

-- the written image elects its primary superblock, which is the image's
abbrev pub primary_of : Image → Vote
primary_of image = record { place = 0; sector = super_of (bytes_of_block image 0) }

pub elects_written : (image : Image) → IsAccepted image → elected (written (backup_plan image) image) ≡ Ok (primary_of image)
elects_written image known =
    let now : Image = written (backup_plan image) image in
    let same : bytes_of_block now 0 ≡ bytes_of_block image 0 = primary_written image known in
    let count : length now ≡ length image = length-written (backup_plan image) image in
    let accepted : super_fault (super_of (bytes_of_block now 0)) 0 (length now) ≡ None = rw (same, count) known.accepted in
    elected_primary now (subst (λ (n : ℕ). 0 < n) (sym count) known.some) accepted
    ∙ ap (λ (block : List ℕ). Ok (record { place = 0; sector = super_of block })) same

abbrev vote_answer : Vote → Result Vote ElectFault
vote_answer vote = Ok vote

one_vote : (x y : Vote) → vote_answer x ≡ vote_answer y → x ≡ y
one_vote x y e = cc

-- so of whatever geometry it elects all backups agree
pub agree_written : (image : Image) → IsAccepted image → (g : Geometry) → IsElected (volume_of g) (written (backup_plan image) image)
    → (ag : ℕ) → 1 ≤ ag → ag < g.agcount → backup_agrees (volume_of g) (written (backup_plan image) image) ag ≡ true
unfolding start_of
agree_written image known g is ag low high =
    let now : Image = written (backup_plan image) image in
    let vote : is.vote ≡ primary_of image = one_vote is.vote (primary_of image) (sym is.due ∙ elects_written image known) in
    let states : stated_volume is.vote.sector ≡ volume_of g = same_equal (choice is.vote) (volume_of g) is.states in
    let volume : stated_volume (super_of (bytes_of_block image 0)) ≡ volume_of g = ap choice (sym vote) ∙ states in
    let count : ag < (stated_volume (super_of (bytes_of_block image 0))).agcount = subst (λ (v : Volume). ag < v.agcount) (sym volume) high in
    ap (is_agreeing (volume_of g)) (first_sector now (ag * g.agblocks))
    ∙ subst (λ (v : Volume). is_agreeing v (super_of (bytes_of_block now (ag * v.agblocks))) ≡ true) volume (backups_agree image known ag low count)

not_both : (b : Bool) → b ≡ true → b ≡ false → ⊥
not_both b holds fails = cc

pub none_found : (image : Image) → IsAccepted image → (ag : ℕ) → HasFinding broken_law (written (backup_plan image) image) (Found.Part 10 ag) → ⊥
none_found image known ag has =
    let fault : HasBackupFault broken_law has.geometry (written (backup_plan image) image) ag =
    only_backups broken_law has.geometry (written (backup_plan image) image) ag has.is in
    let agrees : backup_agrees (volume_of has.geometry) (written (backup_plan image) image) ag ≡ true =
    agree_written image known has.geometry has.elected ag fault.some fault.few in
    not_both (backup_agrees (volume_of has.geometry) (written (backup_plan image) image) ag) agrees fault.differs
