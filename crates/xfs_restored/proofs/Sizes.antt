-- An image is as large as the volume that it elects.
use Rattle.std.proofs.Common.{◌≡◌, ℕ, ◌≤◌, ◌-◌, ◌==◌, Bool, true, false, if◌then◌else◌, inl, inr, List, [], ◌∷◌, length, Option, Some, None, is_none, Result, Ok, Err, refl, ap, subst, arith}
use Rattle.std.specs.List.{find, flat_map, range_with_len}
use Rattle.std.specs.Option.{ok_or}
use Rattle.xfs_disk.specs.Blocks.{Image, bytes_of_block}
use Rattle.xfs_geom.proofs.Decided.{volume_inside}
use Rattle.xfs_geom.proofs.Votes.{same_equal}
use Rattle.xfs_geom.specs.Election.{Vote, choice, elected, elected_after, has_most, super_of, vote_at, vote_in, votes_below, winner}
use Rattle.xfs_geom.specs.Stated.{stated}
use Rattle.xfs_geom.specs.Superblocks.{super_fault}
use Rattle.xfs_geom.specs.Volumes.{Volume, volume_of}
use Rattle.xfs_geom.specs.declared.election.ElectFault.{ElectFault}
use Rattle.xfs_geom.specs.declared.election.ElectFault.TheVariants.{NoGeometry}
use Rattle.xfs_geom.specs.declared.geometry.Geometry.{Geometry}
use Rattle.xfs_geom.specs.declared.reading.SuperFault.{SuperFault}
use Rattle.xfs_geom.specs.declared.reading.SuperFault.TheVariants as fault
use Rattle.xfs_image.specs.Consistent.{IsElected}
use Rattle.xfs_views.proofs.Members.{Member, flat_member}

abbrev or_other : {X : Type 0} → X → Option X → X
or_other other None = other
or_other other (Some x) = x

-- what is found is one of those that are looked at
found_among : {X : Type 0} (test : X → Bool) (x : X) (xs : List X) → find test xs ≡ Some x → Member x xs
found_among test x [] is = absurd cc
found_among {X} test x (y ∷ ys) is = by_case (test y) is (found_among test x ys)
  where
    by_case : (t : Bool) → (if t then Some y else find test ys) ≡ Some x → (find test ys ≡ Some x → Member x ys) → Member x (y ∷ ys)
    by_case true here later = inl (ap (or_other y) here)
    by_case false there later = inr (later there)

-- a superblock is accepted at some block of an image of so many blocks
record IsAcceptedAt (blocks : ℕ) (sector : List ℕ) : Type 0 where
  place : ℕ
  accepted : super_fault sector place blocks ≡ None

vote_accepted : (sector : List ℕ) (place blocks : ℕ) (vote : Vote) → Member vote (vote_in sector place blocks) → IsAcceptedAt blocks vote.sector
unfolding vote_in
vote_accepted sector place blocks vote is = by_fault (super_fault sector place blocks) refl is
  where
    by_fault : (f : Option SuperFault) → super_fault sector place blocks ≡ f
        → Member vote (if is_none f then record { place = place; sector = sector } ∷ [] else []) → IsAcceptedAt blocks vote.sector
    by_fault None none at = elim at [
      | inl same ↦ subst (λ (v : Vote). IsAcceptedAt blocks v.sector) same (record { place = place; accepted = none })
      | inr there ↦ absurd there
    ]
    by_fault (Some f) some at = absurd at

winner_accepted : (image : Image) (end : ℕ) (vote : Vote) → winner (votes_below image end) ≡ Some vote → IsAcceptedAt (length image) vote.sector
unfolding winner votes_below
winner_accepted image end vote is =
    let votes : List Vote = flat_map (vote_at image) (range_with_len 1 (end - 1)) in
    let from = flat_member (vote_at image) vote (range_with_len 1 (end - 1)) (found_among (has_most votes) vote votes is) in
    vote_accepted (super_of (bytes_of_block image from.0)) from.0 (length image) vote from.2

abbrev vote_or : Vote → Result Vote ElectFault → Vote
vote_or other (Ok vote) = vote
vote_or other (Err e) = other

elected_accepted : (image : Image) (vote : Vote) → elected image ≡ Ok vote → IsAcceptedAt (length image) vote.sector
unfolding elected
elected_accepted image vote is = by_size (length image == 0) is
  where
    primary : List ℕ
    primary = super_of (bytes_of_block image 0)

    by_winner : (o : Option Vote) → winner (votes_below image (length image)) ≡ o → ok_or o NoGeometry ≡ Ok vote → IsAcceptedAt (length image) vote.sector
    by_winner None none at = absurd cc
    by_winner (Some v) some at = subst (λ (x : Vote). IsAcceptedAt (length image) x.sector) (ap (vote_or v) at) (winner_accepted image (length image) v some)

    by_fault : (f : Option SuperFault) → super_fault primary 0 (length image) ≡ f
        → elected_after f (record { place = 0; sector = primary }) (votes_below image (length image)) ≡ Ok vote → IsAcceptedAt (length image) vote.sector
    by_fault None none at =
        subst (λ (x : Vote). IsAcceptedAt (length image) x.sector) (ap (vote_or (record { place = 0; sector = primary })) at) (record { place = 0; accepted = none })
    by_fault (Some (fault.Unsupported word bits)) some at = absurd cc
    by_fault (Some fault.NotSealed) some at = by_winner (winner (votes_below image (length image))) refl at
    by_fault (Some (fault.Shape word)) some at = by_winner (winner (votes_below image (length image))) refl at

    by_size : (t : Bool) → (if t then Err NoGeometry else elected_after (super_fault primary 0 (length image)) (record { place = 0; sector = primary }) (votes_below image (length image))) ≡ Ok vote
        → IsAcceptedAt (length image) vote.sector
    by_size true at = absurd cc
    by_size false at = by_fault (super_fault primary 0 (length image)) refl at

pub elected_fits : (g : Geometry) (image : Image) → IsElected (volume_of g) image → g.dblocks ≤ length image
elected_fits g image is =
    let at = elected_accepted image is.vote is.due in
    let inside = volume_inside is.vote.sector at.place (length image) at.accepted in
    let same : (stated is.vote.sector).dblocks ≡ g.dblocks = ap (λ (v : Volume). v.dblocks) (same_equal (choice is.vote) (volume_of g) is.states) in
    omega (arith, inside, same)
