-- The votes of an election as they are counted.
use Rattle.std.specs.Prelude.{◌≡◌, ℕ, ◌+◌, ◌<◌, ◌≤◌, ◌⊎◌, ◌&&◌, ◌||◌, ◌==◌, nat_lt, if◌then◌else◌, List, [], ◌∷◌, length, Option, Some, None}
use Rattle.std.specs.Map.{lookup}
use Rattle.std.specs.Option.{ForSome}
use Rattle.xfs_disk.specs.Blocks.{Image}
use Rattle.xfs_geom.specs.Superblocks.{super_fault}
use Rattle.xfs_geom.specs.Volumes.{Volume, volume_of}
use Rattle.xfs_geom.specs.Election.{Vote, choice, same_volume, votes_for, votes_below, winner}
use Rattle.xfs_geom.specs.Electing.{vote_of}
use Rattle.xfs_geom.specs.declared.geometry.Geometry.{Geometry}
use Rattle.xfs_geom.specs.declared.election.Elected.{Elected}
use Rattle.xfs_geom.specs.declared.polls.Poll.{Poll}
use Rattle.xfs_geom.specs.declared.polls.Tally.{Tally}

-- the tally of a volume, where it has votes
abbrev pub tally_at : Poll → Geometry → Option Tally
tally_at poll g = lookup (λ (other : Geometry). same_volume (volume_of g) (volume_of other)) poll.tallies.entries

-- the tally of a volume once a vote is counted: the first of its votes stays
abbrev pub with_vote : Option Tally → Elected → Tally
with_vote None vote = record { first = vote; votes = 1 }
with_vote (Some tally) vote = record { first = tally.first; votes = tally.votes + 1 }

-- the one of two tallies that has more votes, or as many and the first of them at a lower block
abbrev pub leading : Option Tally → Tally → Tally
leading None tally = tally
leading (Some leader) tally =
    if nat_lt leader.votes tally.votes || (leader.votes == tally.votes && nat_lt tally.first.from leader.first.from) then tally else leader

-- the vote is one of these
abbrev pub IsAmong : Vote → List Vote → Type 0
IsAmong vote [] = ⊥
IsAmong vote (other ∷ votes) = (vote ≡ other) ⊎ IsAmong vote votes

-- the votes stand by block
abbrev pub Ascends : List Vote → Type 0
Ascends [] = Unit {0}
Ascends (vote ∷ votes) = ((other : Vote) → IsAmong other votes → vote.place < other.place) × Ascends votes

-- how many votes a volume has, and the first of them
pub record IsTally (votes : List Vote) (v : Volume) (tally : Tally) : Type 0 where
  pub count : tally.votes ≡ votes_for votes v
  pub stands : IsAmong (vote_of tally.first) votes
  pub states : choice (vote_of tally.first) ≡ v
  pub geometry : volume_of tally.first.geometry ≡ v
  pub lowest : (vote : Vote) → IsAmong vote votes → choice vote ≡ v → tally.first.from ≤ vote.place

-- a volume has a tally where it has votes
abbrev pub Tallies : List Vote → Volume → Option Tally → Type 0
Tallies votes v None = votes_for votes v ≡ 0
Tallies votes v (Some tally) = IsTally votes v tally

-- no volume has more votes than the leader's, and of those with as many it is the first
pub record Leads (votes : List Vote) (leader : Tally) : Type 0 where
  pub tally : IsTally votes (choice (vote_of leader.first)) leader
  pub most : (vote : Vote) → IsAmong vote votes
      → (votes_for votes (choice vote) < leader.votes) ⊎ ((votes_for votes (choice vote) ≡ leader.votes) × (leader.first.from ≤ vote.place))

-- there is a leader where there are votes
abbrev pub HasLeader : List Vote → Option Tally → Type 0
HasLeader votes None = votes ≡ []
HasLeader votes (Some leader) = Leads votes leader

-- the votes of the blocks below end are counted
pub record IsPoll (blocks end : ℕ) (votes : List Vote) (poll : Poll) : Type 0 where
  pub few : length votes < end
  pub below : (vote : Vote) → IsAmong vote votes → vote.place < end
  pub ascend : Ascends votes
  pub accepted : (vote : Vote) → IsAmong vote votes → super_fault vote.sector vote.place blocks ≡ None
  pub tallies : (g : Geometry) → Tallies votes (volume_of g) (tally_at poll g)
  pub leader : HasLeader votes poll.leader

-- the votes of the image's blocks below end are counted, where the image is told
pub record HasPolled (image : Option Image) (blocks end : ℕ) (poll : Poll) : Type 0 where
  pub votes : List Vote
  pub counted : IsPoll blocks end votes poll
  pub told : ForSome image (λ image. votes ≡ votes_below image end)

-- the superblock is elected of the votes, and states a volume of the image
pub record IsDecided (blocks : ℕ) (votes : List Vote) (e : Elected) : Type 0 where
  pub winner : winner votes ≡ Some (vote_of e)
  pub accepted : super_fault e.sector e.from blocks ≡ None
  pub states : volume_of e.geometry ≡ choice (vote_of e)
  pub inside : e.geometry.dblocks ≤ blocks
