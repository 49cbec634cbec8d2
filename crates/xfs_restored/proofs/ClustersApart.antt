-- The clusters that the volume then has stand apart, and so their inodes ascend.
use Rattle.std.proofs.Common.{◌≡◌, inl, inr, ℕ, Bool, true, false, ◌+◌, ◌≤◌, ◌<◌, ◌⊎◌, nat_le, nat_lt, if◌then◌else◌, List, [], ◌∷◌, length, refl, arith}
use Rattle.std.specs.List.{flat_map}
use Rattle.std.proofs.lemmas.Bool.{and_from, cases_lt, le-leb, lt-ltb, ltb-false, ltb-true}
use Rattle.xfs_disk.specs.Blocks.{Image}
use Rattle.xfs_disk.specs.declared.stamp.Stamp.{Stamp}
use Rattle.xfs_geom.specs.Runs.{covers}
use Rattle.xfs_geom.specs.Volumes.{volume_of}
use Rattle.xfs_geom.specs.declared.geometry.Geometry.{Geometry}
use Rattle.xfs_image.specs.Slots.{cluster_inodes}
use Rattle.xfs_naming.specs.Naming.{NumbersAscend}
use Rattle.xfs_rename.proofs.xfs_made.Inodes.{first_in}
use Rattle.xfs_views.proofs.Members.{Member}
use Rattle.xfs_rename.proofs.xfs_made.Spaced.{AreSpaced, inodes_up}
use Rattle.xfs_salvage.specs.Kept.{run_of_cluster}
use Rattle.xfs_rename.specs.xfs_rebuild.declared.names_due.NamesDue.{NamesDue}
use Rattle.xfs_rename.specs.Lost.{lost_due}
use Rattle.xfs_rename.specs.Renames.{IsRenamed}
use Rattle.xfs_rename.specs.Settled.{settled, with_number_in_order, with_numbers}
use Rattle.xfs_rename.specs.declared.planning.Renamed.{Renamed}
use Rattle.xfs_restored.proofs.NewSlots.{added_few}
use Rattle.xfs_restored.proofs.ClaimsStay.{counted, run_taken}

-- a cluster stands apart from others
abbrev AreApart : ℕ → List ℕ → Type 0
AreApart x ys = (y : ℕ) → Member y ys → (x + 4 ≤ y) ⊎ (y + 4 ≤ x)

lower : (low high : ℕ) (ys : List ℕ) → low ≤ high → AreSpaced high ys → AreSpaced low ys
lower low high [] le up = tt
lower low high (y ∷ ys) le up = (let first = up.0 in omega (arith, le, first), up.1)

put_apart : (x low : ℕ) (ys : List ℕ) → low ≤ x → AreSpaced low ys → AreApart x ys → AreSpaced low (with_number_in_order x ys)
put_apart x low [] least up apart = (least, tt)
put_apart x low (y ∷ ys) least up apart = by_test (nat_lt y x) refl (λ less. put_apart x (y + 4) ys less up.1 (λ z is. apart z (inr is)))
  where
    by_test : (t : Bool) → nat_lt y x ≡ t → (y + 4 ≤ x → AreSpaced (y + 4) (with_number_in_order x ys)) → AreSpaced low (if t then y ∷ with_number_in_order x ys else x ∷ y ∷ ys)
    by_test true is next =
        let below = ltb-true y x is in
        (up.0, next (elim (apart y (inl refl)) [ inl high ↦ absurd (omega (arith, below, high)) | inr low' ↦ low' ]))
    by_test false is next =
        let above = ltb-false y x is in
        (least, (elim (apart y (inl refl)) [ inl high ↦ high | inr low' ↦ absurd (omega (arith, above, low')) ], up.1))

covered : (c b : ℕ) → c ≤ b → b < c + 4 → covers b (run_of_cluster c) ≡ true
covered c b low high = and_from (nat_le c b) (nat_lt b (c + 4)) (le-leb c b low) (lt-ltb b (c + 4) high)

module _ (g : Geometry) (sector : List ℕ) (s : Stamp) (image : Image) (n : NamesDue) (r : Renamed) (is : IsRenamed g sector s image n r) (old : AreSpaced 0 n.clusters) where
  both_covered : (x y b : ℕ) → Member x (lost_due g n).added → Member y n.clusters → covers b (run_of_cluster x) ≡ true → covers b (run_of_cluster y) ≡ true → ⊥
  both_covered x y b new kept one other =
      let first = run_taken g sector s image n r is x b (lost_due g n).added new one in
      let second = run_taken g sector s image n r is y b n.clusters kept other in
      let most = counted g sector s image n r is b in
      omega (arith, first, second, most)

  new_apart : (x : ℕ) → Member x (lost_due g n).added → AreApart x n.clusters
  new_apart x new y kept =
      elim (cases_lt y (x + 4)) [
        | inr above ↦ inl above
        | inl low ↦ elim (cases_lt x (y + 4)) [
          | inr below ↦ inr below
          | inl high ↦ elim (cases_lt x y) [
            | inl less ↦ absurd (both_covered x y y new kept (covered x y (omega (arith, less)) low) (covered y y (omega arith) (omega arith)))
            | inr upto ↦ absurd (both_covered x y x new kept (covered x x (omega arith) (omega arith)) (covered y x upto high))
          ]
        ]
      ]

  all_spaced : (added : List ℕ) → length added ≤ 1 → ((x : ℕ) → Member x added → AreApart x n.clusters) → AreSpaced 0 (with_numbers added n.clusters)
  all_spaced [] few apart = old
  all_spaced (x ∷ []) few apart = put_apart x 0 n.clusters (omega arith) old (apart x (inl refl))
  all_spaced (x ∷ y ∷ rest) few apart = absurd (omega (arith, few))

  pub inodes_rise : NumbersAscend (first_in g 0) (flat_map (cluster_inodes (volume_of g)) (settled n (lost_due g n) is.w).clusters)
  inodes_rise = inodes_up g 0 (with_numbers (lost_due g n).added n.clusters) (all_spaced (lost_due g n).added (added_few g n) new_apart)
