-- An accepted primary superblock agrees with the volume that it states.
use Rattle.std.proofs.Common.{◌≡◌, ℕ, ◌+◌, ◌-◌, ◌^◌, ◌<◌, zero, suc, Bool, true, false, ◌==◌, ◌&&◌, ◌||◌, List, [], ◌∷◌, length, get_or, Option, Some, None, cond, bytes_eq, refl, arith}
use Rattle.std.specs.Cmp.Derive.{both_true}
use Rattle.std.proofs.lemmas.Bool.{eq-eqb}
use Rattle.std.proofs.lemmas.Slice.Eq.{bytes_eq-Decides}
use Rattle.xfs_word.specs.Field.{part_of}
use Rattle.xfs_word.specs.Seal.{is_sealed}
use Rattle.xfs_geom.specs.Features.{or_else, refused_feature}
use Rattle.xfs_geom.specs.First.{first_false}
use Rattle.xfs_geom.specs.Fixed.{fixed_fault}
use Rattle.xfs_geom.specs.Stated.{stated, stated_log, parts_fault, first_place_fault, shape_tests}
use Rattle.xfs_geom.specs.Superblocks.{super_seal, progress_fault, feature_fault, shape_fault, super_fault, is_agreeing, agrees_on_inode, states_volume}
use Rattle.xfs_geom.specs.Volumes.{stated_volume}
use Rattle.xfs_geom.specs.declared.features.Departure.{Departure}
use Rattle.xfs_geom.specs.declared.reading.SuperFault.{SuperFault}
use Rattle.xfs_geom.specs.declared.reading.SuperFault.TheVariants.{NotSealed}

-- where no test of a list fails, each of them holds
pub each_holds : (tests : List (ℕ × Bool)) → first_false tests ≡ None → (k : ℕ) (d : ℕ × Bool) → k < length tests → (get_or tests k d).1 ≡ true
each_holds [] none k d within = absurd (omega arith)
each_holds ((n, true) ∷ tests) none zero d within = refl
each_holds ((n, true) ∷ tests) none (suc k) d within = each_holds tests none k d (omega arith)
each_holds ((n, false) ∷ tests) none k d within = cc

-- neither of two answers is there
pub neither : {A : Type 0} (x y : Option A) → or_else x y ≡ None → (x ≡ None) × (y ≡ None)
neither (Some a) y none = cc
neither None y none = (refl, none)

no_feature : (x : Option Departure) → feature_fault x ≡ None → x ≡ None
no_feature None none = refl
no_feature (Some departure) none = cc

no_word : (x : Option ℕ) → shape_fault x ≡ None → x ≡ None
no_word None none = refl
no_word (Some word) none = cc

sealed_first : (b : Bool) (rest : Option SuperFault) → cond b rest (Some NotSealed) ≡ None → (b ≡ true) × (rest ≡ None)
sealed_first true rest none = (refl, none)
sealed_first false rest none = cc

-- the tests that an accepted superblock has passed
pub record HasPassed (sector : List ℕ) (place blocks : ℕ) : Type 0 where
  pub seal : is_sealed super_seal sector ≡ true
  pub progress : progress_fault place sector ≡ None
  pub features : refused_feature sector ≡ None
  pub fixed : fixed_fault sector ≡ None
  pub parts : parts_fault (stated sector) ≡ None
  pub standing : first_place_fault (stated sector) place blocks ≡ None

pub has_passed : (sector : List ℕ) (place blocks : ℕ) → super_fault sector place blocks ≡ None → HasPassed sector place blocks
unfolding super_fault
has_passed sector place blocks none =
    let seal = sealed_first (is_sealed super_seal sector) _ none in
    let progress = neither (progress_fault place sector) _ seal.1 in
    let features = neither (feature_fault (refused_feature sector)) _ progress.1 in
    let fixed = neither (shape_fault (fixed_fault sector)) _ features.1 in
    let parts = neither (shape_fault (parts_fault (stated sector))) _ fixed.1 in
    record {
      seal = seal.0;
      progress = progress.0;
      features = no_feature _ features.0;
      fixed = no_word _ fixed.0;
      parts = no_word _ parts.0;
      standing = no_word _ parts.1;
    }

same : (n : ℕ) → (n == n) ≡ true
same n = eq-eqb n n refl

left_true : (a b : Bool) → a ≡ true → (a || b) ≡ true
left_true true b h = refl
left_true false b h = cc

left_alone : (a : Bool) → (a || false) ≡ true → a ≡ true
left_alone true h = refl
left_alone false h = h

-- the words on the system inodes, at the primary's place
pub system_inodes : (sector : List ℕ) (blocks : ℕ) → first_place_fault (stated sector) 0 blocks ≡ None
    → (((stated sector).rbmino == (stated sector).rootino + 1) ≡ true) × (((stated sector).rsumino == (stated sector).rootino + 2) ≡ true)
unfolding first_place_fault
system_inodes sector blocks none = (
  left_alone _ (each_holds (shape_tests (stated sector) 0 blocks) none 3 (0, true) (omega arith)),
  left_alone _ (each_holds (shape_tests (stated sector) 0 blocks) none 4 (0, true) (omega arith)),
)

-- a conjunction of comparisons of things with themselves, and of three tests that hold
all_same : (a b c d e f g : ℕ) (u : List ℕ) (p q r : Bool) → p ≡ true → q ≡ true → r ≡ true
    → (a == a && b == b && c == c && d == d && e == e && f == f && g == g && bytes_eq u u && p && q && r) ≡ true
all_same a b c d e f g u p q r hp hq hr =
    both_true (both_true (both_true (both_true
    (both_true (both_true (both_true (both_true (both_true (both_true
    (same a) (same b)) (same c)) (same d)) (same e)) (same f)) (same g))
    ((bytes_eq-Decides u u).1 refl)) hp) hq) hr

-- it states its own volume
pub states_itself : (sector : List ℕ) (blocks : ℕ) → first_place_fault (stated sector) 0 blocks ≡ None
    → states_volume (stated_volume sector) sector ≡ true
states_itself sector blocks none =
    let inodes = system_inodes sector blocks none in
    let v = stated sector in
    all_same v.dblocks v.agblocks v.agcount v.agblklog (stated_log v) v.logblocks v.logsectlog (part_of sector 32 16)
    (agrees_on_inode v.rootino v.rootino) (agrees_on_inode (v.rootino + 1) v.rbmino) (agrees_on_inode (v.rootino + 2) v.rsumino)
    (left_true (v.rootino == v.rootino) (v.rootino == 2 ^ 64 - 1) (same v.rootino))
    (left_true (v.rbmino == v.rootino + 1) (v.rbmino == 2 ^ 64 - 1) inodes.0)
    (left_true (v.rsumino == v.rootino + 2) (v.rsumino == 2 ^ 64 - 1) inodes.1)

pub agrees_with_itself : (sector : List ℕ) (blocks : ℕ) → super_fault sector 0 blocks ≡ None → is_agreeing (stated_volume sector) sector ≡ true
unfolding is_agreeing
agrees_with_itself sector blocks none =
    let passed = has_passed sector 0 blocks none in
    both_true
    (both_true (both_true (both_true passed.seal (rw passed.features refl)) (rw passed.fixed refl)) (rw passed.parts refl))
    (states_itself sector blocks passed.standing)
