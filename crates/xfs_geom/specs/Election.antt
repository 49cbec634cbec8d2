-- Which superblock of an image says what its volume is: the primary, or else the backups by their votes
-- (chapter "Superblocks"; xfs_repair(8)).
use Rattle.std.specs.Prelude.{ℕ, ◌-◌, ◌&&◌, ◌==◌, nat_le, Bool, if◌then◌else◌, List, [], ◌∷◌, length, take, bytes_eq, Option, Some, None, is_none, Result, Ok, Err}
use Rattle.std.specs.List.{count_by, find, flat_map, list_all, range_with_len}
use Rattle.std.specs.Option.{ok_or}
use Rattle.xfs_disk.specs.Blocks.{Image, bytes_of_block}
use Rattle.xfs_geom.specs.Superblocks.{super_fault}
use Rattle.xfs_geom.specs.Volumes.{Volume, stated_volume}
use Rattle.xfs_geom.specs.declared.election.ElectFault.{ElectFault}
use Rattle.xfs_geom.specs.declared.election.ElectFault.TheVariants.{NoGeometry, Unsupported}
use Rattle.xfs_geom.specs.declared.reading.SuperFault.{SuperFault}
use Rattle.xfs_geom.specs.declared.reading.SuperFault.TheVariants as fault

-- the superblock of a block: its first sector
abbrev pub super_of : List ℕ → List ℕ
super_of block = take 512 block

-- a superblock and the block at which it stands
pub record Vote : Type 0 where
  pub place : ℕ
  pub sector : List ℕ

-- the volume that a vote is for: the one that its superblock states
abbrev pub choice : Vote → Volume
choice vote = stated_volume vote.sector

-- both volumes have the same geometry
unfoldable pub same_volume : Volume → Volume → Bool
same_volume a b =
    a.dblocks == b.dblocks
    && a.agblocks == b.agblocks
    && a.agcount == b.agcount
    && a.agblklog == b.agblklog
    && a.log == b.log
    && a.logblocks == b.logblocks
    && a.rootino == b.rootino
    && a.logsectlog == b.logsectlog
    && bytes_eq a.uuid b.uuid

-- the vote of a superblock that stands at a block: there is one where it is accepted there
unfoldable pub vote_in : List ℕ → ℕ → ℕ → List Vote
vote_in sector place blocks =
    if is_none (super_fault sector place blocks) then record { place = place; sector = sector } ∷ [] else []

-- the vote of a block of the image
abbrev pub vote_at : Image → ℕ → List Vote
vote_at image place = vote_in (super_of (bytes_of_block image place)) place (length image)

-- the votes of the blocks above 0 and below end, by block
unfoldable pub votes_below : Image → ℕ → List Vote
votes_below image end = flat_map (vote_at image) (range_with_len 1 (end - 1))

-- how many of the votes are for the volume
unfoldable pub votes_for : List Vote → Volume → ℕ
votes_for votes v = count_by (λ (vote : Vote). same_volume (choice vote) v) votes

-- no volume has more of the votes than the one that this vote is for
unfoldable pub has_most : List Vote → Vote → Bool
has_most votes vote = list_all (λ (other : Vote). nat_le (votes_for votes (choice other)) (votes_for votes (choice vote))) votes

-- of the votes for a volume that has the most votes, the one at the lowest block
unfoldable pub winner : List Vote → Option Vote
winner votes = find (has_most votes) votes

-- what is elected, given what is wrong with the primary: the primary where it is accepted, nothing where
-- a feature is refused, else the winner of the backups
abbrev pub elected_after : Option SuperFault → Vote → List Vote → Result Vote ElectFault
elected_after None primary votes = Ok primary
elected_after (Some (fault.Unsupported word bits)) primary votes = Err (Unsupported word bits)
elected_after (Some fault.NotSealed) primary votes = ok_or (winner votes) NoGeometry
elected_after (Some (fault.Shape word)) primary votes = ok_or (winner votes) NoGeometry

-- the superblock that says what the image's volume is
unfoldable pub elected : Image → Result Vote ElectFault
elected image =
    let primary = super_of (bytes_of_block image 0) in
    if length image == 0 then Err NoGeometry
    else elected_after (super_fault primary 0 (length image)) (record { place = 0; sector = primary }) (votes_below image (length image))
