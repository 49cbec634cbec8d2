-- What the leader of a poll is elected for.
use Rattle.std.proofs.Common.{◌≡◌, ℕ, ◌≤◌, ◌⊎◌, inl, inr, List, Option, Some, None, Result, Err, true, sym, ap, ◌∙◌, subst, arith}
use Rattle.std.specs.Option.{MatchOption, ok_or, option_map}
use Rattle.std.proofs.lemmas.Bool.{leb-true}
use Rattle.xfs_disk.specs.Blocks.{Image}
use Rattle.xfs_geom.specs.Election.{Vote, votes_below, winner}
use Rattle.xfs_geom.specs.Electing.{vote_of, IsElection}
use Rattle.xfs_geom.specs.Polls.{IsAmong, Ascends, Leads, HasLeader, IsDecided}
use Rattle.xfs_geom.specs.Stated.{stated, first_place_fault, shape_tests}
use Rattle.xfs_geom.specs.Superblocks.{super_fault}
use Rattle.xfs_geom.specs.Volumes.{Volume}
use Rattle.xfs_geom.specs.declared.election.ElectFault.{ElectFault}
use Rattle.xfs_geom.specs.declared.election.ElectFault.TheVariants.{NoGeometry, ReadFault, NoMemory}
use Rattle.xfs_geom.specs.declared.polls.Tally.{Tally}
use Rattle.xfs_geom.proofs.Leaders.{winner_is}
use Rattle.xfs_geom.proofs.OwnVolume.{has_passed, each_holds}

-- an accepted superblock's volume lies in the image
pub volume_inside : (sector : List ℕ) (place blocks : ℕ) → super_fault sector place blocks ≡ None → (stated sector).dblocks ≤ blocks
unfolding first_place_fault
volume_inside sector place blocks accepted =
    let passed = has_passed sector place blocks accepted in
    leb-true (stated sector).dblocks blocks (each_holds (shape_tests (stated sector) place blocks) passed.standing 1 (0, true) (omega arith))

decide : (blocks : ℕ) (votes : List Vote) (leader : Tally) → Ascends votes
    → ((vote : Vote) → IsAmong vote votes → super_fault vote.sector vote.place blocks ≡ None) → Leads votes leader → IsDecided blocks votes leader.first
decide blocks votes leader ascend accepted leads =
    let own = accepted (vote_of leader.first) leads.tally.stands in
    record {
      winner = winner_is votes (Some leader) ascend leads;
      accepted = own;
      states = leads.tally.geometry;
      inside =
          let inside = volume_inside leader.first.sector leader.first.from blocks own in
          let same : leader.first.geometry.dblocks ≡ (stated leader.first.sector).dblocks = ap (λ (v : Volume). v.dblocks) leads.tally.geometry in
          omega arith;
    }

-- what a poll's leader is
pub leader_is : (blocks : ℕ) (votes : List Vote) (leader : Option Tally) → Ascends votes
    → ((vote : Vote) → IsAmong vote votes → super_fault vote.sector vote.place blocks ≡ None) → HasLeader votes leader
    → MatchOption (option_map (λ (tally : Tally). tally.first) leader) (winner votes ≡ None) (IsDecided blocks votes)
leader_is blocks votes None ascend accepted has = winner_is votes None ascend has
leader_is blocks votes (Some leader) ascend accepted has = decide blocks votes leader ascend accepted has

-- what is due of the votes of all blocks, once they are told
pub due_is : (image : Image) (size end : ℕ) (votes : List Vote) (best : Option Vote) → end ≡ size → votes ≡ votes_below image end → winner votes ≡ best
    → ok_or (winner (votes_below image size)) NoGeometry ≡ ok_or best NoGeometry
due_is image size end votes best last told is =
    ap (λ (w : Option Vote). ok_or w NoGeometry) (ap winner (ap (votes_below image) (sym last) ∙ sym told) ∙ is)

-- a fault of the disk or want of memory may stand in place of what is due
pub stopped : (due : Result Vote ElectFault) (fault : ElectFault) → (fault ≡ ReadFault) ⊎ (fault ≡ NoMemory) → IsElection due (Err fault)
stopped due fault is =
    elim is [
      | inl e ↦ subst (λ (f : ElectFault). IsElection due (Err f)) (sym e) tt
      | inr e ↦ subst (λ (f : ElectFault). IsElection due (Err f)) (sym e) tt
    ]
