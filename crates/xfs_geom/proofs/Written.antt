-- A superblock that is written anew is accepted where its volume has superblocks.
use Rattle.std.proofs.Common.{◌≡◌, ℕ, ◌+◌, ◌%◌, ◌≤◌, ◌<◌, ◌⊎◌, inl, inr, Bool, true, false, not, ◌==◌, ◌&&◌, ◌||◌, leb, List, [], ◌∷◌, Option, Some, None, cond, IsTrue, arith, refl, sym, ap, ap₂, ◌∙◌}
use Rattle.std.specs.Cmp.Derive.{both_true}
use Rattle.std.specs.List.{list_all}
use Rattle.std.proofs.lemmas.Bool.{eq-eqb, leb-true, le-leb, ltb-true, lt-ltb}
use Rattle.xfs_word.specs.Field.{field_of, Beside}
use Rattle.xfs_word.specs.Seal.{is_sealed, is_ready, has_magic}
use Rattle.xfs_geom.specs.Features.{FeatureWord, feature_words, first_departure, refused_feature, or_else, departure_by, departing_bits}
use Rattle.xfs_geom.specs.First.{first_false}
use Rattle.xfs_geom.specs.Fixed.{FixedWord, fixed_words, fixed_tests, fixed_fault}
use Rattle.xfs_geom.specs.Stated.{stated, has_root, parts_fault, first_place_fault, shape_tests, is_system_inode}
use Rattle.xfs_geom.specs.Superblocks.{super_seal, progress_fault, feature_fault, shape_fault, super_fault}
use Rattle.xfs_geom.specs.Groups.{block_of_address}
use Rattle.xfs_geom.specs.Volumes.{stated_volume}
use Rattle.xfs_geom.specs.Writing.{IsAcceptedSector, IsSuperOf, is_beside, is_kept_field}
use Rattle.xfs_geom.specs.declared.features.Departure.{Departure}
use Rattle.xfs_geom.specs.declared.reading.SuperFault.{SuperFault}
use Rattle.xfs_geom.specs.declared.reading.SuperFault.TheVariants.{NotSealed, Shape}
use Rattle.xfs_geom.specs.declared.records.Counts.{Counts}
use Rattle.xfs_geom.specs.declared.stated.Stated.{Stated}
use Rattle.xfs_geom.proofs.OwnVolume.{has_passed, each_holds}
use Rattle.xfs_geom.proofs.Votes.{left, right}

either : (a b : Bool) → (a || b) ≡ true → (a ≡ true) ⊎ (b ≡ true)
either true b h = inl refl
either false b h = inr h

beside : (at width a w : ℕ) → is_beside at width a w ≡ true → Beside at width a w
beside at width a w h =
    elim (either (leb (a + w) at) (leb (at + width) a) h) [ inl p ↦ inl (leb-true _ _ p) | inr p ↦ inr (leb-true _ _ p) ]

-- bytes beside each of the five writes
pub record IsApart (a w : ℕ) : Type 0 where
  pub inodes : Beside 64 16 a w
  pub progress : Beside 126 1 a w
  pub counters : Beside 128 32 a w
  pub checksum : Beside 224 4 a w
  pub lsn : Beside 240 8 a w

pub apart : (a w : ℕ) → is_kept_field a w ≡ true → IsApart a w
apart a w h =
    let four = left _ (is_beside 240 8 a w) h in
    let three = left _ (is_beside 224 4 a w) four in
    let two = left _ (is_beside 128 32 a w) three in
    record {
      inodes = beside 64 16 a w (left _ (is_beside 126 1 a w) two);
      progress = beside 126 1 a w (right (is_beside 64 16 a w) _ two);
      counters = beside 128 32 a w (right (is_beside 64 16 a w && is_beside 126 1 a w) _ three);
      checksum = beside 224 4 a w (right (is_beside 64 16 a w && is_beside 126 1 a w && is_beside 128 32 a w) _ four);
      lsn = beside 240 8 a w (right (is_beside 64 16 a w && is_beside 126 1 a w && is_beside 128 32 a w && is_beside 224 4 a w) _ h);
    }

-- what is read beside four writes is what was read before them
pub read_through : {X : Type 0} (read : List ℕ → ℕ → ℕ → X) (b0 b1 b2 b3 b4 : List ℕ) (a w : ℕ) → IsApart a w
    → (Beside 64 16 a w → read b1 a w ≡ read b0 a w) → (Beside 126 1 a w → read b2 a w ≡ read b1 a w)
    → (Beside 128 32 a w → read b3 a w ≡ read b2 a w) → (Beside 240 8 a w → read b4 a w ≡ read b3 a w)
    → read b4 a w ≡ read b0 a w
read_through read b0 b1 b2 b3 b4 a w h inodes progress counters lsn =
    lsn h.lsn ∙ (counters h.counters ∙ (progress h.progress ∙ inodes h.inodes))

-- a superblock is ready to be sealed where its magic number and version are a sealed one's and its log number is 0
pub ready : (base new : List ℕ) → IsAcceptedSector base → field_of new 0 4 ≡ field_of base 0 4 → field_of new 100 2 ≡ field_of base 100 2
    → field_of new 240 8 ≡ 0 → IsTrue (is_ready super_seal new)
unfolding is_ready has_magic is_sealed
ready base new accepted magic version lsn =
    let passed = has_passed base accepted.place accepted.blocks accepted.none in
    let was : is_ready super_seal base ≡ true = left _ _ passed.seal in
    let magic_was : has_magic super_seal.kind base ≡ true = left _ _ (left _ _ (left _ _ (left _ _ was))) in
    rw (magic, version, lsn) (both_true (both_true (both_true (both_true magic_was refl) refl) refl) refl)

same_departure : (words : List FeatureWord) (new base : List ℕ) → ((a w : ℕ) → is_kept_field a w ≡ true → field_of new a w ≡ field_of base a w)
    → list_all (λ (f : FeatureWord). is_kept_field f.offset f.width) words ≡ true → first_departure words new ≡ first_departure words base
same_departure [] new base same all = refl
same_departure (f ∷ words) new base same all =
    ap₂ (λ (n : ℕ) (rest : Option Departure). or_else (departure_by f.word (departing_bits f.rule n)) rest)
    (same f.offset f.width (left (is_kept_field f.offset f.width) _ all))
    (same_departure words new base same (right (is_kept_field f.offset f.width) _ all))

same_features : (new base : List ℕ) → ((a w : ℕ) → is_kept_field a w ≡ true → field_of new a w ≡ field_of base a w)
    → refused_feature new ≡ refused_feature base
unfolding refused_feature
same_features new base same = same_departure feature_words new base same refl

same_tests : (words : List FixedWord) (new base : List ℕ) → ((a w : ℕ) → is_kept_field a w ≡ true → field_of new a w ≡ field_of base a w)
    → list_all (λ (f : FixedWord). is_kept_field f.offset f.width) words ≡ true → fixed_tests words new ≡ fixed_tests words base
same_tests [] new base same all = refl
same_tests (f ∷ words) new base same all =
    ap₂ (λ (n : ℕ) (rest : List (ℕ × Bool)). (f.word, n == f.number) ∷ rest)
    (same f.offset f.width (left (is_kept_field f.offset f.width) _ all))
    (same_tests words new base same (right (is_kept_field f.offset f.width) _ all))

same_fixed : (new base : List ℕ) → ((a w : ℕ) → is_kept_field a w ≡ true → field_of new a w ≡ field_of base a w)
    → fixed_fault new ≡ fixed_fault base
unfolding fixed_fault
same_fixed new base same = ap first_false (same_tests fixed_words new base same refl)

-- the numbers that it states are the base's but those that are written anew
restated : List ℕ → Stated
restated base = record (stated base) { rbmino = (stated base).rootino + 1; rsumino = (stated base).rootino + 2; inprogress = 0 }

same_stated : (base : List ℕ) (counts : Counts) (new : List ℕ) → IsSuperOf base counts new → stated new ≡ restated base
unfolding restated
same_stated base counts new w = λ i. record {
  dblocks = w.numbers 8 8 refl i;
  logstart = w.numbers 48 8 refl i;
  rootino = w.numbers 56 8 refl i;
  rbmino = w.rbmino i;
  rsumino = w.rsumino i;
  agblocks = w.numbers 84 4 refl i;
  agcount = w.numbers 88 4 refl i;
  logblocks = w.numbers 96 4 refl i;
  agblklog = w.numbers 124 1 refl i;
  inprogress = w.inprogress i;
  logsectlog = w.numbers 193 1 refl i;
  logsectsize = w.numbers 194 2 refl i;
}

-- it states the volume that the base states
pub same_volume_stated : (base : List ℕ) (counts : Counts) (new : List ℕ) → IsSuperOf base counts new → stated_volume new ≡ stated_volume base
same_volume_stated base counts new w = λ i. record {
  dblocks = w.numbers 8 8 refl i;
  agblocks = w.numbers 84 4 refl i;
  agcount = w.numbers 88 4 refl i;
  agblklog = w.numbers 124 1 refl i;
  log = block_of_address (w.numbers 84 4 refl i) (w.numbers 124 1 refl i) (w.numbers 48 8 refl i);
  logblocks = w.numbers 96 4 refl i;
  rootino = w.numbers 56 8 refl i;
  logsectlog = w.numbers 193 1 refl i;
  uuid = w.parts 32 16 refl i;
}

same_parts : (base : List ℕ) (counts : Counts) (new : List ℕ) → IsSuperOf base counts new → parts_fault (stated new) ≡ parts_fault (stated base)
unfolding parts_fault restated
same_parts base counts new w = ap parts_fault (same_stated base counts new w)

same_root : (base : List ℕ) (counts : Counts) (new : List ℕ) → IsSuperOf base counts new → has_root (stated new) ≡ has_root (stated base)
unfolding restated
same_root base counts new w = ap has_root (same_stated base counts new w)

none_fails : (a b c d e : Bool) → a ≡ true → b ≡ true → c ≡ true → d ≡ true → e ≡ true
    → first_false ((14, a) ∷ (15, b) ∷ (16, c) ∷ (17, d) ∷ (18, e) ∷ []) ≡ None
none_fails a b c d e pa pb pc pd pe = rw (pa, pb, pc, pd, pe) refl

left_or : (a b : Bool) → a ≡ true → (a || b) ≡ true
left_or true b h = refl
left_or false b h = cc

system_inode : (place due ino : ℕ) → ino ≡ due → is_system_inode place due ino ≡ true
system_inode place due ino same = left_or (ino == due) _ (eq-eqb ino due same)

-- the root's test at an accepted superblock
root_holds : (base : List ℕ) → IsAcceptedSector base → has_root (stated base) ≡ true
unfolding first_place_fault
root_holds base accepted =
    let passed = has_passed base accepted.place accepted.blocks accepted.none in
    each_holds (shape_tests (stated base) accepted.place accepted.blocks) passed.standing 2 (0, true) (omega arith)

-- the root inode and the two after it lie in one cluster
pub low_root : (base : List ℕ) → IsAcceptedSector base → (stated base).rootino % 32 ≤ 29
low_root base accepted =
    leb-true ((stated base).rootino % 32) 29 (left _ _ (left _ _ (left _ _ (left _ _ (root_holds base accepted)))))

-- the volume has a block
pub some_blocks : (base : List ℕ) → IsAcceptedSector base → 0 < (stated base).dblocks
unfolding first_place_fault
some_blocks base accepted =
    let passed = has_passed base accepted.place accepted.blocks accepted.none in
    let place = each_holds (shape_tests (stated base) accepted.place accepted.blocks) passed.standing 0 (0, true) (omega arith) in
    let inside : accepted.place < (stated base).dblocks = ltb-true _ _ (right _ _ place) in
    omega arith

stands : (base : List ℕ) (counts : Counts) (new : List ℕ) (place blocks : ℕ) → IsAcceptedSector base → IsSuperOf base counts new
    → place % (stated base).agblocks ≡ 0 → place < (stated base).dblocks → (stated base).dblocks ≤ blocks
    → first_place_fault (stated new) place blocks ≡ None
unfolding first_place_fault
stands base counts new place blocks accepted w first inside enough =
    let rootino = w.numbers 56 8 refl in
    none_fails _ _ _ _ _
    (rw (w.numbers 84 4 refl, w.numbers 8 8 refl) (both_true (eq-eqb _ _ first) (lt-ltb _ _ inside)))
    (rw (w.numbers 8 8 refl) (le-leb _ _ enough))
    (same_root base counts new w ∙ root_holds base accepted)
    (system_inode place _ _ (w.rbmino ∙ ap (λ (n : ℕ). n + 1) (sym rootino)))
    (system_inode place _ _ (w.rsumino ∙ ap (λ (n : ℕ). n + 2) (sym rootino)))

all_pass : (s : Bool) (p f x y z : Option SuperFault) → s ≡ true → p ≡ None → f ≡ None → x ≡ None → y ≡ None → z ≡ None
    → cond s (or_else p (or_else f (or_else x (or_else y z)))) (Some NotSealed) ≡ None
all_pass s p f x y z hs hp hf hx hy hz = rw (hs, hp, hf, hx, hy, hz) refl

pub accepted_anew : (base : List ℕ) (counts : Counts) (new : List ℕ) (place blocks : ℕ) → IsAcceptedSector base → IsSuperOf base counts new
    → place % (stated base).agblocks ≡ 0 → place < (stated base).dblocks → (stated base).dblocks ≤ blocks
    → super_fault new place blocks ≡ None
unfolding super_fault
accepted_anew base counts new place blocks accepted w first inside enough =
    let passed = has_passed base accepted.place accepted.blocks accepted.none in
    all_pass (is_sealed super_seal new) (progress_fault place new) (feature_fault (refused_feature new)) (shape_fault (fixed_fault new))
    (shape_fault (parts_fault (stated new))) (shape_fault (first_place_fault (stated new) place blocks))
    w.sealed
    (progress place new w.inprogress)
    (ap feature_fault (same_features new base w.numbers ∙ passed.features))
    (ap shape_fault (same_fixed new base w.numbers ∙ passed.fixed))
    (ap shape_fault (same_parts base counts new w ∙ passed.parts))
    (ap shape_fault (stands base counts new place blocks accepted w first inside enough))
  where
    by_case : (first : Bool) (n : ℕ) → n ≡ 0 → cond (first && not (n == 0)) (Some (Shape 19)) None ≡ None
    by_case true n h = rw h refl
    by_case false n h = refl

    progress : (place : ℕ) (new : List ℕ) → field_of new 126 1 ≡ 0 → progress_fault place new ≡ None
    progress place new h = by_case (place == 0) (field_of new 126 1) h
