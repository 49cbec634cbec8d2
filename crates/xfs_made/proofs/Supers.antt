-- The primary superblock is elected, all backups agree with it, and it has the counters of what was placed.
use Rattle.std.proofs.Common.{◌≡◌, ℕ, ◌+◌, ◌*◌, ◌%◌, ◌<◌, ◌≤◌, true, false, ◌==◌, if◌then◌else◌, List, [], ◌∷◌, length, Option, None, Ok, Err, refl, sym, ap, ◌∙◌, subst, arith}
use Rattle.std.proofs.lemmas.Bool.{eq-eqb}
use Rattle.std.proofs.lemmas.Bool.Decides.{nat_tests}
use Rattle.xfs_word.specs.Field.{field_of, part_of}
use Rattle.xfs_disk.specs.Blocks.{Image, bytes_of_block}
use Rattle.xfs_geom.specs.Election.{elected, elected_after, same_volume, super_of, votes_below}
use Rattle.xfs_geom.specs.Superblocks.{is_agreeing, super_fault}
use Rattle.xfs_geom.specs.Volumes.{Volume}
use Rattle.xfs_geom.specs.declared.election.ElectFault.TheVariants.{NoGeometry}
use Rattle.xfs_geom.specs.declared.reading.SuperFault.{SuperFault}
use Rattle.xfs_geom.proofs.OwnVolume.{agrees_with_itself}
use Rattle.xfs_geom.proofs.Votes.{same_itself}
use Rattle.xfs_place.specs.declared.placed.Placed.{Placed}
use Rattle.xfs_place.specs.declared.wanted.Wanted.{Wanted}
use Rattle.xfs_image.specs.Consistent.{IsElected, backup_agrees}
use Rattle.xfs_image.specs.Groups.{head_block}
use Rattle.xfs_log.specs.Sectors.{sector_in}
use Rattle.xfs_image.specs.View.{counts_of}
use Rattle.xfs_render.specs.Rendering.{volume}
use Rattle.xfs_render.specs.declared.bytes.Bytes.{Bytes}
use Rattle.xfs_made.specs.Standing.{IsStanding}
use Rattle.xfs_made.proofs.Headers.{headers_stand}
use Rattle.xfs_made.proofs.Numbers.{number_in_part}

-- the first block, in the words of the election
first_block : (image : Image) → bytes_of_block image 0 ≡ bytes_of_block image 0
first_block [] = refl
first_block (block ∷ blocks) = refl

-- an image elects the superblock of its first block, where it is accepted there
primary_elected : (image : Image) (super : List ℕ) → 0 < length image → super_of (bytes_of_block image 0) ≡ super → super_fault super 0 (length image) ≡ None
    → elected image ≡ Ok (record { place = 0; sector = super })
unfolding elected
primary_elected image super some first accepted =
    let filled : (length image == 0) ≡ false = grind (arith, nat_tests) in
    let votes = votes_below image (length image) in
    (λ i. if filled i then Err NoGeometry else elected_after (super_fault (first i) 0 (length image)) (record { place = 0; sector = first i }) votes)
    ∙ ap (λ (fault : Option SuperFault). elected_after fault (record { place = 0; sector = super }) votes) accepted

module _ (w : Wanted) (p : Placed) (b : Bytes) (super : List ℕ) (image : Image) (is : IsStanding w p b super image) where
  some_blocks : 0 < w.geometry.dblocks
  some_blocks = let last = w.geometry.shape.groups.last in omega (arith, last)

  some_groups : 0 < w.geometry.agcount
  some_groups = let two = w.geometry.shape.groups.two in omega (arith, two)

  -- each group begins with the superblock
  super_at : (ag : ℕ) → ag < w.geometry.agcount → sector_in image (head_block (volume w) ag) 0 ≡ super
  super_at ag inside = (headers_stand w p b super image is ag inside).1.super'

  super_first : part_of (bytes_of_block image 0) 0 512 ≡ super
  super_first =
      let none : 0 * w.geometry.agblocks ≡ 0 = omega arith in
      ap (λ (place : ℕ). part_of (bytes_of_block image place) 0 512) (sym none) ∙ super_at 0 some_groups

  accepted : (blocks : ℕ) → w.geometry.dblocks ≤ blocks → super_fault super 0 blocks ≡ None
  accepted blocks enough =
      let large = w.geometry.shape.groups.large in
      let none : 0 % w.geometry.agblocks ≡ 0 = omega (arith, large) in
      is.due.accepted 0 blocks (eq-eqb (0 % w.geometry.agblocks) 0 none) some_blocks enough

  pub primary_stands : (elects : IsElected (volume w) image) × (elects.vote.place ≡ 0)
  unfolding part_of
  primary_stands =
      let size = is.size in
      let some = some_blocks in
      let first : super_of (bytes_of_block image 0) ≡ super = ap super_of (first_block image) ∙ super_first in
      let due = primary_elected image super (omega (arith, size, some)) first (accepted (length image) size) in
      let states = subst (λ (v : Volume). same_volume v (volume w) ≡ true) (sym is.due.states) (same_itself (volume w)) in
      (record { vote = record { place = 0; sector = super }; due = due; states = states }, refl)

  pub backups_agree : (ag : ℕ) → 1 ≤ ag → ag < w.geometry.agcount → backup_agrees (volume w) image ag ≡ true
  backups_agree ag some inside =
      ap (is_agreeing (volume w)) (super_at ag inside)
      ∙ subst (λ (v : Volume). is_agreeing v super ≡ true) is.due.states (agrees_with_itself super w.geometry.dblocks (accepted w.geometry.dblocks (omega arith)))

  -- a number of the superblock stands in the first block
  pub number_of_super : (at width : ℕ) → at + width ≤ 512 → field_of (bytes_of_block image 0) at width ≡ field_of super at width
  number_of_super at width inside =
      let front : 0 + at ≡ at = omega arith in
      ap (λ (k : ℕ). field_of (bytes_of_block image 0) k width) (sym front)
      ∙ sym (number_in_part (bytes_of_block image 0) 0 512 at width inside)
      ∙ ap (λ (sector : List ℕ). field_of sector at width) super_first

  pub counts_stand : counts_of image ≡ p.counts
  counts_stand =
      let icount = number_of_super 128 8 (omega arith) ∙ is.due.written.icount in
      let ifree = number_of_super 136 8 (omega arith) ∙ is.due.written.ifree in
      let fdblocks = number_of_super 144 8 (omega arith) ∙ is.due.written.fdblocks in
      λ i. record { icount = icount i; ifree = ifree i; fdblocks = fdblocks i }
