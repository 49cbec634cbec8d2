-- What is elected, by what is wrong with the primary.
use Rattle.std.proofs.Common.{◌≡◌, ℕ, ◌<◌, ◌==◌, Bool, false, if◌then◌else◌, List, length, Option, Some, None, Ok, Err, sym, ◌∙◌, ap, arith}
use Rattle.std.proofs.lemmas.Bool.Decides.{nat_tests}
use Rattle.xfs_disk.specs.Blocks.{Image, bytes_of_block}
use Rattle.xfs_geom.specs.Election.{Vote, super_of, votes_below, elected_after, elected}
use Rattle.xfs_geom.specs.Electing.{vote_of}
use Rattle.xfs_geom.specs.Superblocks.{super_fault}
use Rattle.xfs_geom.specs.declared.election.Elected.{Elected}
use Rattle.xfs_geom.specs.declared.election.ElectFault.TheVariants.{NoGeometry, Unsupported}
use Rattle.xfs_geom.specs.declared.reading.SuperFault.{SuperFault}
use Rattle.xfs_geom.specs.declared.reading.SuperFault.TheVariants as fault

-- the vote of the superblock of block 0
abbrev pub primary : List ℕ → Vote
primary sector = record { place = 0; sector = sector }

some_blocks : (n size : ℕ) → n ≡ size → 0 < size → (n == 0) ≡ false
some_blocks n size is some = grind (arith, nat_tests)

-- nothing, where the disk has no block
pub none_elected : (image : Image) (size : ℕ) → length image ≡ size → size ≡ 0 → elected image ≡ Err NoGeometry
unfolding elected
none_elected image size len none =
    ap (λ (n : ℕ). if n == 0 then Err NoGeometry
    else elected_after (super_fault (super_of (bytes_of_block image 0)) 0 (length image)) (primary (super_of (bytes_of_block image 0))) (votes_below image (length image)))
    (len ∙ none)

-- what is elected, by the superblock that was read at block 0
pub by_primary : (image : Image) (size : ℕ) (sector : List ℕ) → length image ≡ size → 0 < size → sector ≡ super_of (bytes_of_block image 0)
    → elected image ≡ elected_after (super_fault sector 0 size) (primary sector) (votes_below image size)
unfolding elected
by_primary image size sector len some first =
    ap (λ (none : Bool). if none then Err NoGeometry else elected_after (super_fault (super_of (bytes_of_block image 0)) 0 (length image)) (primary (super_of (bytes_of_block image 0))) (votes_below image (length image)))
    (some_blocks (length image) size len some)
    ∙ ap (λ (n : ℕ). elected_after (super_fault (super_of (bytes_of_block image 0)) 0 n) (primary (super_of (bytes_of_block image 0))) (votes_below image n)) len
    ∙ ap (λ (s : List ℕ). elected_after (super_fault s 0 size) (primary s) (votes_below image size)) (sym first)

-- the primary, where it is accepted
pub primary_elected : (image : Image) (size : ℕ) (sector : List ℕ) (e : Elected) → length image ≡ size → 0 < size → sector ≡ super_of (bytes_of_block image 0)
    → super_fault sector 0 size ≡ None → vote_of e ≡ primary sector → elected image ≡ Ok (vote_of e)
primary_elected image size sector e len some first accepted vote =
    by_primary image size sector len some first
    ∙ ap (λ (f : Option SuperFault). elected_after f (primary sector) (votes_below image size)) accepted
    ∙ ap (λ (v : Vote). Ok v) (sym vote)

-- nothing, where a feature of the primary is refused
pub feature_refused : (image : Image) (size : ℕ) (sector : List ℕ) (word bits : ℕ) → length image ≡ size → 0 < size → sector ≡ super_of (bytes_of_block image 0)
    → super_fault sector 0 size ≡ Some (fault.Unsupported word bits) → elected image ≡ Err (Unsupported word bits)
feature_refused image size sector word bits len some first refused =
    by_primary image size sector len some first
    ∙ ap (λ (f : Option SuperFault). elected_after f (primary sector) (votes_below image size)) refused
