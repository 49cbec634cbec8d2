-- A superblock with the numbers of a new volume is accepted, and states the volume.
use Rattle.std.proofs.Common.{◌≡◌, ℕ, ◌+◌, ◌%◌, ◌≤◌, Bool, true, false, ◌==◌, ◌||◌, List, [], ◌∷◌, Option, Some, None, cond, IsTrue, arith, refl, sym, ap, ap₂, ◌∙◌}
use Rattle.std.specs.Cmp.Derive.{both_true}
use Rattle.std.proofs.Math.Nat.{zero-mod}
use Rattle.std.proofs.lemmas.Bool.{eq-eqb, le-leb, lt-ltb, ne_eqb}
use Rattle.xfs_word.specs.Field.{field_of, part_of}
use Rattle.xfs_word.specs.Seal.{is_sealed, is_ready, has_magic}
use Rattle.xfs_geom.specs.Conversions.{address_of}
use Rattle.xfs_geom.specs.Features.{FeatureWord, feature_words, first_departure, refused_feature, or_else, departing_bits, departure_by}
use Rattle.xfs_geom.specs.First.{first_false}
use Rattle.xfs_geom.specs.Fixed.{fixed_fault}
use Rattle.xfs_geom.specs.Shape.{IsShaped}
use Rattle.xfs_geom.specs.Stated.{stated, stated_log, parts_fault, first_place_fault}
use Rattle.xfs_geom.specs.Superblocks.{super_seal, progress_fault, feature_fault, shape_fault, super_fault}
use Rattle.xfs_geom.specs.Volumes.{Volume, stated_volume}
use Rattle.xfs_geom.specs.Writing.{IsAcceptedSector}
use Rattle.xfs_geom.specs.declared.reading.SuperFault.{SuperFault}
use Rattle.xfs_geom.specs.declared.reading.SuperFault.TheVariants.{NotSealed}
use Rattle.xfs_geom.specs.declared.stated.Stated.{Stated}
use Rattle.xfs_empty.specs.Supers.{HasNumbers, PlacedNumber, number, place_numbers, part_numbers, size_numbers, counter_numbers, feature_numbers}
use Rattle.xfs_empty.proofs.Numbers.{read}
use Rattle.xfs_empty.proofs.Stated.{log_inside, group_of, ag_block_of, block_of}

-- all numbers of a new superblock
pub record HasAll (v : Volume) (s : List ℕ) : Type 0 where
  pub places : HasNumbers s (place_numbers v)
  pub parts : HasNumbers s (part_numbers v)
  pub sizes : HasNumbers s (size_numbers v)
  pub counters : HasNumbers s counter_numbers
  pub features : HasNumbers s feature_numbers

-- what the geometry of a new volume keeps
pub record IsNew (v : Volume) : Type 0 where
  pub shape : IsShaped v.dblocks v.agblocks v.agcount v.agblklog v.log v.logblocks v.rootino v.logsectlog
  pub no_sectors : v.logsectlog ≡ 0

d : PlacedNumber
d = number 0 0 0

-- it is ready to be sealed
pub ready : (v : Volume) (s : List ℕ) → HasAll v s → IsTrue (is_ready super_seal s)
unfolding is_ready has_magic
ready v s h =
    let magic : field_of s 0 4 ≡ 0x5846_5342 = h.places.0 in
    let version : field_of s 100 2 ≡ 0xb4a5 = h.sizes.0 in
    let lsn : field_of s 240 8 ≡ 0 = read s feature_numbers h.features 15 d (omega arith) in
    rw (magic, version, lsn) refl

-- no feature word departs from its rule
AllKept : List FeatureWord → List ℕ → Type 0
AllKept [] s = Unit {0}
AllKept (w ∷ ws) s = (departing_bits w.rule (field_of s w.offset w.width) ≡ None) × AllKept ws s

no_departure : (ws : List FeatureWord) (s : List ℕ) → AllKept ws s → first_departure ws s ≡ None
unfolding AllKept
no_departure [] s kept = refl
no_departure (w ∷ ws) s kept =
    ap₂ (λ bits rest. or_else (departure_by w.word bits) rest) kept.0 (no_departure ws s kept.1)

-- the log's address is not 0
log_address : (v : Volume) → IsNew v → (address_of v v.log == 0) ≡ false
unfolding address_of
log_address v new =
    ne_eqb _ 0 (λ none. let behind : 1 ≤ v.log % v.agblocks = new.shape.log_inside.behind in absurd (omega arith))

pub no_feature : (v : Volume) (s : List ℕ) → IsNew v → HasAll v s → refused_feature s ≡ None
unfolding refused_feature AllKept
no_feature v s new h =
    let f : (k : ℕ) → ℕ = λ k. k in
    let blocksize : field_of s 4 4 ≡ 4096 = h.places.1.0 in
    let logstart : field_of s 48 8 ≡ address_of v v.log = read s (place_numbers v) h.places 5 d (omega arith) in
    let rblocks : field_of s 16 8 ≡ 0 = read s (place_numbers v) h.places 3 d (omega arith) in
    let sectsize : field_of s 102 2 ≡ 512 = h.sizes.1.0 in
    let inodesize : field_of s 104 2 ≡ 512 = h.sizes.1.1.0 in
    let version : field_of s 100 2 ≡ 0xb4a5 = h.sizes.0 in
    let uquotino : field_of s 160 8 ≡ 0 = read s counter_numbers h.counters 4 d (omega arith) in
    let gquotino : field_of s 168 8 ≡ 0 = read s counter_numbers h.counters 5 d (omega arith) in
    let dirblklog : field_of s 192 1 ≡ 0 = read s feature_numbers h.features 3 d (omega arith) in
    let compat : field_of s 208 4 ≡ 0 = read s feature_numbers h.features 9 d (omega arith) in
    let ro_compat : field_of s 212 4 ≡ 3 = read s feature_numbers h.features 10 d (omega arith) in
    let incompat : field_of s 216 4 ≡ 3 = read s feature_numbers h.features 11 d (omega arith) in
    let log_incompat : field_of s 220 4 ≡ 0 = read s feature_numbers h.features 12 d (omega arith) in
    let spino_align : field_of s 228 4 ≡ 4 = read s feature_numbers h.features 13 d (omega arith) in
    let pquotino : field_of s 232 8 ≡ 0 = read s feature_numbers h.features 14 d (omega arith) in
    let inoalignmt : field_of s 180 4 ≡ 8 = h.features.0 in
    no_departure feature_words s (
      rw blocksize refl,
      (
        rw sectsize refl,
        (
          rw inodesize refl,
          (
            rw dirblklog refl,
            (
              rw (logstart, log_address v new) refl,
              (
                rw rblocks refl,
                (
                  rw uquotino refl,
                  (
                    rw gquotino refl,
                    (
                      rw pquotino refl,
                      (
                        rw compat refl,
                        (
                          rw ro_compat refl,
                          (
                            rw incompat refl,
                            (
                              rw log_incompat refl,
                              (
                                rw inoalignmt refl,
                                (
                                  rw spino_align refl,
                                  (
                                    rw version refl,
                                    tt,
                                  ),
                                ),
                              ),
                            ),
                          ),
                        ),
                      ),
                    ),
                  ),
                ),
              ),
            ),
          ),
        ),
      ),
    )

pub no_fixed : (v : Volume) (s : List ℕ) → HasAll v s → fixed_fault s ≡ None
unfolding fixed_fault
no_fixed v s h =
    let blocklog : field_of s 120 1 ≡ 12 = read s (size_numbers v) h.sizes 4 d (omega arith) in
    let sectlog : field_of s 121 1 ≡ 9 = read s (size_numbers v) h.sizes 5 d (omega arith) in
    let inodelog : field_of s 122 1 ≡ 9 = read s (size_numbers v) h.sizes 6 d (omega arith) in
    let inopblock : field_of s 106 2 ≡ 8 = read s (size_numbers v) h.sizes 3 d (omega arith) in
    let inopblog : field_of s 123 1 ≡ 3 = read s (size_numbers v) h.sizes 7 d (omega arith) in
    let rextents : field_of s 24 8 ≡ 0 = read s (place_numbers v) h.places 4 d (omega arith) in
    let rbmblocks : field_of s 92 4 ≡ 0 = read s (part_numbers v) h.parts 6 d (omega arith) in
    rw (blocklog, sectlog, inodelog, inopblock, inopblog, rextents, rbmblocks) refl

-- the numbers that it states
pub new_stated : Volume → Stated
new_stated v = record {
  dblocks = v.dblocks;
  logstart = address_of v v.log;
  rootino = v.rootino;
  rbmino = v.rootino + 1;
  rsumino = v.rootino + 2;
  agblocks = v.agblocks;
  agcount = v.agcount;
  logblocks = v.logblocks;
  agblklog = v.agblklog;
  inprogress = 0;
  logsectlog = 0;
  logsectsize = 0;
}

pub states : (v : Volume) (s : List ℕ) → HasAll v s → stated s ≡ new_stated v
unfolding new_stated
states v s h =
    let dblocks : field_of s 8 8 ≡ v.dblocks = h.places.1.1.0 in
    let logstart : field_of s 48 8 ≡ address_of v v.log = read s (place_numbers v) h.places 5 d (omega arith) in
    let rootino : field_of s 56 8 ≡ v.rootino = h.parts.0 in
    let rbmino : field_of s 64 8 ≡ v.rootino + 1 = h.parts.1.0 in
    let rsumino : field_of s 72 8 ≡ v.rootino + 2 = h.parts.1.1.0 in
    let agblocks : field_of s 84 4 ≡ v.agblocks = read s (part_numbers v) h.parts 4 d (omega arith) in
    let agcount : field_of s 88 4 ≡ v.agcount = read s (part_numbers v) h.parts 5 d (omega arith) in
    let logblocks : field_of s 96 4 ≡ v.logblocks = read s (part_numbers v) h.parts 7 d (omega arith) in
    let agblklog : field_of s 124 1 ≡ v.agblklog = read s (size_numbers v) h.sizes 8 d (omega arith) in
    let inprogress : field_of s 126 1 ≡ 0 = read s (size_numbers v) h.sizes 10 d (omega arith) in
    let logsectlog : field_of s 193 1 ≡ 0 = read s feature_numbers h.features 4 d (omega arith) in
    let logsectsize : field_of s 194 2 ≡ 0 = read s feature_numbers h.features 5 d (omega arith) in
    λ i. record {
      dblocks = dblocks i;
      logstart = logstart i;
      rootino = rootino i;
      rbmino = rbmino i;
      rsumino = rsumino i;
      agblocks = agblocks i;
      agcount = agcount i;
      logblocks = logblocks i;
      agblklog = agblklog i;
      inprogress = inprogress i;
      logsectlog = logsectlog i;
      logsectsize = logsectsize i;
    }

six_hold : (a b c e f g : Bool) → a ≡ true → b ≡ true → c ≡ true → e ≡ true → f ≡ true → g ≡ true
    → first_false ((8, a) ∷ (9, b) ∷ (10, c) ∷ (11, e) ∷ (12, f) ∷ (13, g) ∷ []) ≡ None
six_hold a b c e f g pa pb pc pe pf pg = rw (pa, pb, pc, pe, pf, pg) refl

five_hold : (a b c e f : Bool) → a ≡ true → b ≡ true → c ≡ true → e ≡ true → f ≡ true
    → first_false ((14, a) ∷ (15, b) ∷ (16, c) ∷ (17, e) ∷ (18, f) ∷ []) ≡ None
five_hold a b c e f pa pb pc pe pf = rw (pa, pb, pc, pe, pf) refl

left_or : (a b : Bool) → a ≡ true → (a || b) ≡ true
left_or a b h = rw h refl

pub parts_hold : (v : Volume) → IsNew v → parts_fault (new_stated v) ≡ None
unfolding parts_fault new_stated
parts_hold v new =
    let groups = new.shape.groups in
    let addresses = new.shape.addresses in
    let log = new.shape.log_inside in
    let group = group_of v v.log groups.large addresses.enough in
    let rest = ag_block_of v v.log groups.large addresses.enough in
    six_hold _ _ _ _ _ _
    (both_true (le-leb _ _ groups.two) (le-leb _ _ groups.few))
    (le-leb _ _ groups.large)
    (both_true (both_true (le-leb _ _ groups.small) (le-leb _ _ groups.covered)) (le-leb _ _ groups.last))
    (both_true (both_true (le-leb _ _ addresses.short) (le-leb _ _ addresses.enough)) (lt-ltb _ _ addresses.least))
    refl
    (rw (group, rest)
    (both_true (both_true (both_true (both_true (le-leb _ _ log.large) (le-leb _ _ log.small)) (lt-ltb _ _ log.group)) (le-leb _ _ log.behind))
    (le-leb _ _ log.inside)))

pub place_holds : (v : Volume) → IsNew v → first_place_fault (new_stated v) 0 v.dblocks ≡ None
unfolding first_place_fault new_stated
place_holds v new =
    let groups = new.shape.groups in
    let addresses = new.shape.addresses in
    let root = new.shape.root in
    let log = log_inside v.dblocks v.agblocks v.agcount v.log v.logblocks groups new.shape.log_inside in
    let back = block_of v v.log groups.large addresses.enough in
    five_hold _ _ _ _ _
    (both_true (eq-eqb _ 0 (zero-mod v.agblocks)) (lt-ltb 0 v.dblocks (omega (arith, log))))
    (le-leb _ _ (omega arith))
    (rw back
    (both_true (both_true (both_true (both_true (le-leb _ _ root.slot) (lt-ltb _ _ root.group)) (le-leb _ _ root.behind)) (le-leb _ _ root.inside)) root.apart))
    (left_or _ _ (eq-eqb (v.rootino + 1) _ refl))
    (left_or _ _ (eq-eqb (v.rootino + 2) _ refl))

all_pass : (s : Bool) (p f x y z : Option SuperFault) → s ≡ true → p ≡ None → f ≡ None → x ≡ None → y ≡ None → z ≡ None
    → cond s (or_else p (or_else f (or_else x (or_else y z)))) (Some NotSealed) ≡ None
all_pass s p f x y z hs hp hf hx hy hz = rw (hs, hp, hf, hx, hy, hz) refl

progress : (s : List ℕ) → field_of s 126 1 ≡ 0 → progress_fault 0 s ≡ None
progress s h = rw h refl

pub accepted : (v : Volume) (s : List ℕ) → IsNew v → HasAll v s → IsTrue (is_sealed super_seal s) → IsAcceptedSector s
unfolding super_fault
accepted v s new h sealed =
    record {
      place = 0;
      blocks = v.dblocks;
      none =
          all_pass _ _ _ _ _ _ sealed
          (progress s (read s (size_numbers v) h.sizes 10 d (omega arith)))
          (ap feature_fault (no_feature v s new h))
          (ap shape_fault (no_fixed v s h))
          (ap shape_fault (ap parts_fault (states v s h) ∙ parts_hold v new))
          (ap shape_fault (ap (λ (n : Stated). first_place_fault n 0 v.dblocks) (states v s h) ∙ place_holds v new));
    }

-- it states the volume
pub volume_stated : (v : Volume) (s : List ℕ) → IsNew v → HasAll v s → part_of s 32 16 ≡ v.uuid → stated_volume s ≡ v
unfolding new_stated
volume_stated v s new h uuid =
    let is = states v s h in
    let log : stated_log (new_stated v) ≡ v.log = block_of v v.log new.shape.groups.large new.shape.addresses.enough in
    λ i. record {
      dblocks = (is i).dblocks;
      agblocks = (is i).agblocks;
      agcount = (is i).agcount;
      agblklog = (is i).agblklog;
      log = (ap stated_log is ∙ log) i;
      logblocks = (is i).logblocks;
      rootino = (is i).rootino;
      logsectlog = (ap (λ (n : Stated). n.logsectlog) is ∙ sym new.no_sectors) i;
      uuid = uuid i;
    }
