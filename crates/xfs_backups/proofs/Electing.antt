-- What was elected from block 0 is the primary superblock.
use Rattle.std.proofs.Common.{◌≡◌, ℕ, zero, suc, ◌+◌, ◌-◌, ◌<◌, ◌≤◌, ◌==◌, Bool, true, false, cond, if◌then◌else◌, is_none, List, [], ◌∷◌, ◌++◌, length, Option, Some, None, Ok, Err, refl, ap, subst, arith}
use Rattle.std.proofs.lemmas.Bool.Decides.{nat_tests}
use Rattle.std.specs.List.{find, flat_map, range_with_len}
use Rattle.std.specs.Option.{ok_or}
use Rattle.xfs_disk.specs.Blocks.{Image, bytes_of_block}
use Rattle.xfs_geom.specs.Election.{Vote, super_of, elected, elected_after, vote_at, vote_in, votes_below, winner}
use Rattle.xfs_geom.specs.Superblocks.{super_fault}
use Rattle.xfs_geom.specs.declared.election.ElectFault.TheVariants.{NoGeometry}
use Rattle.xfs_geom.specs.declared.reading.SuperFault.{SuperFault}
use Rattle.xfs_geom.specs.declared.reading.SuperFault.TheVariants as fault

-- each vote stands behind block 0
abbrev pub Behind : List Vote → Type 0
Behind [] = Unit {0}
Behind (vote ∷ votes) = (1 ≤ vote.place) × Behind votes

behind-append : (a b : List Vote) → Behind a → Behind b → Behind (a ++ b)
behind-append [] b ha hb = hb
behind-append (vote ∷ a) b ha hb = (ha.0, behind-append a b ha.1 hb)

vote_behind : (sector : List ℕ) (place n : ℕ) → 1 ≤ place → Behind (vote_in sector place n)
unfolding vote_in
vote_behind sector place n above = by_case (is_none (super_fault sector place n))
  where
    by_case : (r : Bool) → Behind (if r then record { place = place; sector = sector } ∷ [] else [])
    by_case true = (above, tt {0})
    by_case false = tt {0}

votes_behind : (image : Image) (g n : ℕ) → 1 ≤ g → Behind (flat_map (vote_at image) (range_with_len g n))
votes_behind image g zero above = tt {0}
votes_behind image g (suc n) above =
    behind-append (vote_at image g) (flat_map (vote_at image) (range_with_len (g + 1) n))
    (vote_behind (super_of (bytes_of_block image g)) g (length image) above) (votes_behind image (g + 1) n (omega arith))

found_behind : (test : Vote → Bool) (votes : List Vote) (v : Vote) → Behind votes → find test votes ≡ Some v → 1 ≤ v.place
found_behind test [] v behind found = cc
found_behind test (vote ∷ votes) v behind found = by_case (test vote) found (found_behind test votes v behind.1)
  where
    by_case : (r : Bool) → cond r (Some vote) (find test votes) ≡ Some v → (find test votes ≡ Some v → 1 ≤ v.place) → 1 ≤ v.place
    by_case true same later = let equal : vote ≡ v = cc in subst (λ (w : Vote). 1 ≤ w.place) equal behind.0
    by_case false same later = later same

-- the backup that wins stands behind block 0
winner_behind : (image : Image) (n : ℕ) (v : Vote) → winner (votes_below image n) ≡ Some v → 1 ≤ v.place
unfolding winner votes_below
winner_behind image n v won = found_behind _ _ v (votes_behind image 1 (n - 1) (omega arith)) won

won : (x : Option Vote) (v : Vote) → ok_or x NoGeometry ≡ Ok v → x ≡ Some v
won None v same = cc
won (Some w) v same = cc

-- what is elected from block 0 is the primary, which is accepted
pub record IsPrimary (image : Image) (v : Vote) : Type 0 where
  pub sector : v.sector ≡ super_of (bytes_of_block image 0)
  pub accepted : super_fault (super_of (bytes_of_block image 0)) 0 (length image) ≡ None
  pub some : 0 < length image

-- an accepted primary is elected
pub elected_primary : (image : Image) → 0 < length image → super_fault (super_of (bytes_of_block image 0)) 0 (length image) ≡ None
    → elected image ≡ Ok (record { place = 0; sector = super_of (bytes_of_block image 0) })
unfolding elected
elected_primary image some accepted =
    let not_zero : (length image == 0) ≡ false = grind (arith, nat_tests) in
    rw (not_zero, accepted) refl

after_primary : (image : Image) (f : Option SuperFault) (v : Vote) → super_fault (super_of (bytes_of_block image 0)) 0 (length image) ≡ f → 0 < length image → v.place ≡ 0
    → elected_after f (record { place = 0; sector = super_of (bytes_of_block image 0) }) (votes_below image (length image)) ≡ Ok v → IsPrimary image v
after_primary image None v accepted some from same =
    let equal : v ≡ record { place = 0; sector = super_of (bytes_of_block image 0) } = cc in
    record { sector = ap (λ (w : Vote). w.sector) equal; accepted = accepted; some = some }
after_primary image (Some fault.NotSealed) v accepted some from same =
    absurd (omega (arith, winner_behind image (length image) v (won _ v same)))
after_primary image (Some (fault.Shape word)) v accepted some from same =
    absurd (omega (arith, winner_behind image (length image) v (won _ v same)))
after_primary image (Some (fault.Unsupported word bits)) v accepted some from same = cc

pub is_primary : (image : Image) (v : Vote) → elected image ≡ Ok v → v.place ≡ 0 → IsPrimary image v
unfolding elected
is_primary image v same from = by_case (length image == 0) refl same
  where
    by_case : (r : Bool) → (length image == 0) ≡ r
        → (if r then Err NoGeometry else elected_after (super_fault (super_of (bytes_of_block image 0)) 0 (length image)) (record { place = 0; sector = super_of (bytes_of_block image 0) }) (votes_below image (length image))) ≡ Ok v
        → IsPrimary image v
    by_case true none same = cc
    by_case false some same =
        let above : 0 < length image = grind (arith, nat_tests) in
        after_primary image (super_fault (super_of (bytes_of_block image 0)) 0 (length image)) v refl above from same
