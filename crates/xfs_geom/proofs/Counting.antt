-- A poll as one block after the other is asked.
use Rattle.std.proofs.Common.{◌≡◌, ℕ, ◌+◌, ◌-◌, ◌^◌, ◌<◌, ◌≤◌, inl, inr, Bool, true, false, zero, suc, List, [], ◌∷◌, ◌++◌, length, Option, Some, None, IfSome, cond, refl, sym, ap, ◌∙◌, subst, arith}
use Rattle.std.specs.List.{flat_map, range_with_len}
use Rattle.std.proofs.lemmas.List.{append-nil, length-append}
use Rattle.std.proofs.lemmas.List.Concat.{flat_map-append}
use Rattle.std.proofs.lemmas.List.Sums.{count_by-le-length}
use Rattle.xfs_disk.specs.Blocks.{Image, bytes_of_block}
use Rattle.xfs_geom.specs.Election.{Vote, choice, same_volume, vote_in, vote_at, votes_below, votes_for, super_of}
use Rattle.xfs_geom.specs.Electing.{vote_of}
use Rattle.xfs_geom.specs.Polls.{IsAmong, IsTally, Tallies, HasLeader, IsPoll, tally_at, with_vote, leading}
use Rattle.xfs_geom.specs.Superblocks.{super_fault}
use Rattle.xfs_geom.specs.Volumes.{Volume, volume_of, stated_volume}
use Rattle.xfs_geom.specs.declared.election.Elected.{Elected}
use Rattle.xfs_geom.specs.declared.geometry.Geometry.{Geometry}
use Rattle.xfs_geom.specs.declared.polls.Poll.{Poll}
use Rattle.xfs_geom.specs.declared.polls.Tally.{Tally}
use Rattle.xfs_geom.specs.declared.reading.SuperFault.{SuperFault}
use Rattle.xfs_geom.proofs.Votes.{same_equal, among_push, ascends_push}
use Rattle.xfs_geom.proofs.Leaders.{tally_grows, tallies_stay, leader_grows}

-- the vote of a superblock that is accepted, and of one that is not
pub vote_in_some : (sector : List ℕ) (place blocks : ℕ) → super_fault sector place blocks ≡ None
    → vote_in sector place blocks ≡ record { place = place; sector = sector } ∷ []
unfolding vote_in
vote_in_some sector place blocks accepted = rw accepted refl

pub vote_in_none : (sector : List ℕ) (place blocks : ℕ) (fault : SuperFault) → super_fault sector place blocks ≡ Some fault
    → vote_in sector place blocks ≡ []
unfolding vote_in
vote_in_none sector place blocks fault refused = rw refused refl

-- one more block is behind the votes so far
pub poll_waits : (blocks end : ℕ) (votes : List Vote) (poll : Poll) → IsPoll blocks end votes poll → IsPoll blocks (end + 1) votes poll
poll_waits blocks end votes poll is = record {
  few = let few = is.few in omega arith;
  below = λ vote among. let before = is.below vote among in omega arith;
  ascend = is.ascend;
  accepted = is.accepted;
  tallies = is.tallies;
  leader = is.leader;
}

pub few_votes : (votes : List Vote) (v : Volume) → votes_for votes v ≤ length votes
unfolding votes_for
few_votes votes v = count_by-le-length (λ (vote : Vote). same_volume (choice vote) v) votes

-- a tally can grow
pub has_room : (blocks end : ℕ) (votes : List Vote) (poll : Poll) (g : Geometry) → end < 2 ^ 64 → IsPoll blocks end votes poll
    → IfSome (tally_at poll g) (λ tally. tally.votes + 1 < 2 ^ 64)
has_room blocks end votes poll g short is = by_case (tally_at poll g) (is.tallies g)
  where
    by_case : (tally : Option Tally) → Tallies votes (volume_of g) tally → IfSome tally (λ t. t.votes + 1 < 2 ^ 64)
    by_case None none = tt
    by_case (Some t) tally =
        let count = tally.count in
        let most = few_votes votes (volume_of g) in
        let few = is.few in
        omega arith

-- one more vote is counted
pub poll_grows : (blocks end : ℕ) (votes : List Vote) (old new : Poll) (last : Elected)
    → last.from ≡ end → volume_of last.geometry ≡ choice (vote_of last) → super_fault last.sector last.from blocks ≡ None
    → ((g : Geometry) → tally_at new g ≡ cond (same_volume (volume_of last.geometry) (volume_of g)) (Some (with_vote (tally_at old last.geometry) last)) (tally_at old g))
    → new.leader ≡ Some (leading old.leader (with_vote (tally_at old last.geometry) last))
    → IsPoll blocks end votes old → IsPoll blocks (end + 1) (votes ++ vote_of last ∷ []) new
poll_grows blocks end votes old new last here states accepted tallies leader is =
    let grown = tally_grows votes last (volume_of last.geometry) (tally_at old last.geometry) (sym states) refl behind (is.tallies last.geometry) in
    record {
      few = let few = is.few in let more = length-append votes (vote_of last ∷ []) in omega arith;
      below = λ vote among.
          elim (among_push votes (vote_of last) vote among) [
            | inl rest ↦ let before = is.below vote rest in omega arith
            | inr e ↦ let place : vote.place ≡ last.from = ap (λ (w : Vote). w.place) e in omega arith
          ];
      ascend = ascends_push votes (vote_of last) is.ascend behind;
      accepted = λ vote among.
          elim (among_push votes (vote_of last) vote among) [
            | inl rest ↦ is.accepted vote rest
            | inr e ↦ ap (λ (w : Vote). super_fault w.sector w.place blocks) e ∙ accepted
          ];
      tallies = λ g. subst (λ (t : Option Tally). Tallies (votes ++ vote_of last ∷ []) (volume_of g) t) (sym (tallies g))
          (by_case g grown (same_volume (volume_of last.geometry) (volume_of g)) refl);
      leader = subst (λ (t : Option Tally). HasLeader (votes ++ vote_of last ∷ []) t) (sym leader)
          (leader_grows votes (vote_of last) old.leader (with_vote (tally_at old last.geometry) last) is.leader
          (subst (λ (v : Volume). IsTally (votes ++ vote_of last ∷ []) v (with_vote (tally_at old last.geometry) last)) states grown));
    }
  where
    behind : (vote : Vote) → IsAmong vote votes → vote.place < last.from
    behind vote among = let before = is.below vote among in omega arith

    by_case : (g : Geometry) → IsTally (votes ++ vote_of last ∷ []) (volume_of last.geometry) (with_vote (tally_at old last.geometry) last)
        → (r : Bool) → same_volume (volume_of last.geometry) (volume_of g) ≡ r
        → Tallies (votes ++ vote_of last ∷ []) (volume_of g) (cond r (Some (with_vote (tally_at old last.geometry) last)) (tally_at old g))
    by_case g grown true same =
        subst (λ (v : Volume). IsTally (votes ++ vote_of last ∷ []) v (with_vote (tally_at old last.geometry) last))
        (same_equal (volume_of last.geometry) (volume_of g) same) grown
    by_case g grown false other =
        tallies_stay votes (vote_of last) (volume_of g) (tally_at old g)
        (ap (λ (v : Volume). same_volume v (volume_of g)) (sym states) ∙ other) (is.tallies g)

-- a block is asked whose superblock is accepted, and one whose isn't
pub poll_asked : (blocks place : ℕ) (sector : List ℕ) (votes : List Vote) (old new : Poll) (last : Elected)
    → last.from ≡ place → last.sector ≡ sector → volume_of last.geometry ≡ stated_volume sector → super_fault sector place blocks ≡ None
    → ((g : Geometry) → tally_at new g ≡ cond (same_volume (volume_of last.geometry) (volume_of g)) (Some (with_vote (tally_at old last.geometry) last)) (tally_at old g))
    → new.leader ≡ Some (leading old.leader (with_vote (tally_at old last.geometry) last))
    → IsPoll blocks place votes old → IsPoll blocks (place + 1) (votes ++ vote_in sector place blocks) new
poll_asked blocks place sector votes old new last here bytes states accepted tallies leader is =
    let vote : vote_in sector place blocks ≡ vote_of last ∷ [] =
    vote_in_some sector place blocks accepted ∙ (λ i. record { place = sym here i; sector = sym bytes i } ∷ []) in
    subst (λ (more : List Vote). IsPoll blocks (place + 1) (votes ++ more) new) (sym vote)
    (poll_grows blocks place votes old new last here
    (states ∙ ap stated_volume (sym bytes))
    ((λ i. super_fault (bytes i) (here i) blocks) ∙ accepted)
    tallies leader is)

pub poll_passed : (blocks place : ℕ) (sector : List ℕ) (fault : SuperFault) (votes : List Vote) (poll : Poll)
    → super_fault sector place blocks ≡ Some fault → IsPoll blocks place votes poll
    → IsPoll blocks (place + 1) (votes ++ vote_in sector place blocks) poll
poll_passed blocks place sector fault votes poll refused is =
    subst (λ (all : List Vote). IsPoll blocks (place + 1) all poll)
    (sym (ap (λ (more : List Vote). votes ++ more) (vote_in_none sector place blocks fault refused) ∙ append-nil votes))
    (poll_waits blocks place votes poll is)

range_push : (n a : ℕ) → range_with_len a (n + 1) ≡ range_with_len a n ++ (a + n) ∷ []
range_push zero a = let e : a ≡ a + 0 = omega arith in ap (λ (b : ℕ). b ∷ []) e
range_push (suc n) a =
    let next : suc n + 1 ≡ suc (n + 1) = omega arith in
    let e : a + 1 + n ≡ a + suc n = omega arith in
    ap (range_with_len a) next ∙ ap (λ (rest : List ℕ). a ∷ rest) (range_push n (a + 1) ∙ ap (λ (b : ℕ). range_with_len (a + 1) n ++ b ∷ []) e)

-- the votes below the next block
pub votes_below_next : (image : Image) (place : ℕ) → 1 ≤ place → votes_below image (place + 1) ≡ votes_below image place ++ vote_at image place
unfolding votes_below
votes_below_next image place some =
    let next : place + 1 - 1 ≡ place - 1 + 1 = omega arith in
    let last : 1 + (place - 1) ≡ place = omega arith in
    ap (λ (n : ℕ). flat_map (vote_at image) (range_with_len 1 n)) next
    ∙ (ap (flat_map (vote_at image)) (range_push (place - 1) 1)
    ∙ (flat_map-append (vote_at image) (range_with_len 1 (place - 1)) ((1 + (place - 1)) ∷ [])
    ∙ ap (λ (votes : List Vote). flat_map (vote_at image) (range_with_len 1 (place - 1)) ++ votes)
    (append-nil (vote_at image (1 + (place - 1))) ∙ ap (vote_at image) last)))

-- the votes that are told once a block is asked
pub told_next : (image : Image) (place size : ℕ) (sector : List ℕ) (votes : List Vote) → 1 ≤ place → length image ≡ size
    → sector ≡ super_of (bytes_of_block image place) → votes ≡ votes_below image place
    → votes ++ vote_in sector place size ≡ votes_below image (place + 1)
told_next image place size sector votes some count same told =
    let vote : vote_in sector place size ≡ vote_at image place = λ i. vote_in (same i) place (sym count i) in
    (λ i. told i ++ vote i) ∙ sym (votes_below_next image place some)
