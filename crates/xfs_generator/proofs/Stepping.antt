-- What stands at a place, by the numbers of a directory and of a file.
use Rattle.std.proofs.Common.{◌≡◌, ℕ, zero, suc, ◌+◌, ◌-◌, ◌*◌, ◌/◌, ◌%◌, ◌<◌, ◌≤◌, ◌==◌, false, Bool, arith, refl, sym, ap, subst, ◌∙◌, if◌then◌else◌}
use Rattle.std.proofs.lemmas.Bool.Decides.{nat_tests}
use Rattle.xfs_generator.specs.Files.{spot_in, spot_of}
use Rattle.xfs_generator.specs.declared.spots.Spot.{Spot}
use Rattle.xfs_generator.specs.declared.spots.Spot.TheVariants.{Root, Directory, File}

not_zero : (k : ℕ) → 1 ≤ k → (k == 0) ≡ false
not_zero k some = grind (arith, nat_tests)

-- a place behind the root, by its directory and its step in that
pub spot_at : (k q r : ℕ) → k ≡ 1 + 101 * q + r → r < 101 → spot_of k ≡ spot_in q r
unfolding spot_of
spot_at k q r is low =
    let quotient : (k - 1) / 101 ≡ q = omega (arith, is, low) in
    let rest : (k - 1) % 101 ≡ r = omega (arith, is, low) in
    ap (λ (t : Bool). if t then Root else spot_in ((k - 1) / 101) ((k - 1) % 101)) (not_zero k (omega (arith, is)))
    ∙ ap (λ (a : ℕ). spot_in a ((k - 1) % 101)) quotient
    ∙ ap (λ (b : ℕ). spot_in q b) rest

pub spot_root : spot_of 0 ≡ Root
unfolding spot_of
spot_root = refl

pub spot_directory : (q : ℕ) → spot_of (1 + 101 * q) ≡ Directory q
spot_directory q = spot_at (1 + 101 * q) q 0 (omega arith) (omega arith)

in_file : (q r i : ℕ) → 1 ≤ r → 100 * q + (r - 1) ≡ i → spot_in q r ≡ File q i
in_file q r i some is =
    ap (λ (t : Bool). if t then Directory q else File q (100 * q + (r - 1))) (not_zero r some) ∙ ap (λ (n : ℕ). File q n) is

pub spot_file : (k q i : ℕ) → 100 * q ≤ i → i < 100 * q + 100 → k ≡ 2 + q + i → spot_of k ≡ File q i
spot_file k q i low high is =
    spot_at k q (1 + (i - 100 * q)) (omega (arith, low, is)) (omega (arith, low, high)) ∙ in_file q (1 + (i - 100 * q)) i (omega arith) (omega (arith, low))

-- the numbers of what stands at a place
pub record IsFileSpot (k q i : ℕ) : Type 0 where
  pub low : 100 * q ≤ i
  pub high : i < 100 * q + 100
  pub place : k ≡ 2 + q + i

abbrev pub IsSpot : ℕ → Spot → Type 0
IsSpot k Root = k ≡ 0
IsSpot k (Directory q) = k ≡ 1 + 101 * q
IsSpot k (File q i) = IsFileSpot k q i

in_spot : (k q r : ℕ) → k ≡ 1 + 101 * q + r → r < 101 → IsSpot k (spot_in q r)
in_spot k q zero is low = omega (arith, is)
in_spot k q (suc j) is low =
    subst (IsSpot k) (sym (in_file q (suc j) (100 * q + j) (omega arith) (omega arith)))
    (record { low = omega arith; high = omega (arith, low); place = omega (arith, is) })

pub spot_is : (k : ℕ) → IsSpot k (spot_of k)
spot_is zero = subst (IsSpot 0) (sym spot_root) refl
spot_is (suc m) =
    let split : suc m ≡ 1 + 101 * (m / 101) + m % 101 = omega arith in
    let low : m % 101 < 101 = omega arith in
    subst (IsSpot (suc m)) (sym (spot_at (suc m) (m / 101) (m % 101) split low)) (in_spot (suc m) (m / 101) (m % 101) split low)
