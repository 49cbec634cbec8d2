-- What a slot that was written reads as.
use Rattle.std.proofs.Common.{◌≡◌, ℕ, ◌<◌, ◌/◌, ◌%◌, ◌==◌, not, Bool, true, false, cond, List, None, refl, ◌∙◌, ap, arith}
use Rattle.std.proofs.lemmas.Bool.{ne_eqb, and_left}
use Rattle.xfs_word.specs.Seal.{is_sealed}
use Rattle.xfs_geom.specs.Volumes.{Volume}
use Rattle.xfs_volume.specs.declared.cores.Core.{Core}
use Rattle.xfs_inode.specs.Cores.{stated_core}
use Rattle.xfs_inode.specs.Slots.{slot_seal, slot_read, unsupported, used_read, has_bit}
use Rattle.xfs_inode.specs.declared.reading.SlotRead.TheVariants as Read

if_true : {X : Type 0} (b : Bool) (x y : X) → b ≡ true → cond b x y ≡ x
if_true true x y h = refl
if_true false x y h = cc

pub if_false : {X : Type 0} (b : Bool) (x y : X) → b ≡ false → cond b x y ≡ y
if_false true x y h = cc
if_false false x y h = refl

-- equal cores with one checksum
pub with_checksum : {a b : Core} (crc : ℕ) → a ≡ b → record a { crc = crc } ≡ record b { crc = crc }
with_checksum {a} {b} crc same = ap (λ (core : Core). let r : Core = record core { crc = crc } in r) same

-- a sealed slot of mode 0
pub read_free : (v : Volume) (ino : ℕ) (slot : List ℕ) → is_sealed (slot_seal v ino) slot ≡ true → (stated_core slot).mode ≡ 0
    → slot_read v ino slot ≡ Read.Free
unfolding slot_read
read_free v ino slot sealed free =
    if_false _ _ _ (ap not sealed) ∙ if_true _ _ _ (ap (λ (n : ℕ). n == 0) free)

used : (n : ℕ) → 0 < n → (n == 0) ≡ false
used n h = ne_eqb n 0 (λ none. omega (arith, h, none))

-- a sealed slot of another mode with no feature that is not supported
pub read_used : (v : Volume) (ino : ℕ) (slot : List ℕ) (core : Core) → is_sealed (slot_seal v ino) slot ≡ true → stated_core slot ≡ core
    → 0 < core.mode → unsupported core slot ≡ None → slot_read v ino slot ≡ Read.InUse core
unfolding slot_read
read_used v ino slot core sealed stated mode supported =
    if_false _ _ _ (ap not sealed)
    ∙ (if_false _ _ _ (ap (λ (c : Core). c.mode == 0) stated ∙ used core.mode mode)
    ∙ (ap (λ (c : Core). used_read c (unsupported c slot)) stated ∙ ap (used_read core) supported))

-- a number without its lowest bit
no_bit : (n : ℕ) → n % 2 ≡ 0 → has_bit n 0 ≡ false
no_bit n h =
    let whole : n / 1 % 2 ≡ 0 = omega arith in ap (λ (k : ℕ). k == 1) whole

-- an inode with no flag of what is not supported, and no attribute fork
pub supported_core : (core : Core) (slot : List ℕ) → core.flags % 2 ≡ 0 → core.flags2 ≡ 0 → core.forkoff ≡ 0 → unsupported core slot ≡ None
unfolding unsupported
supported_core core slot flags flags2 forkoff =
    if_false _ _ _ (no_bit core.flags flags)
    ∙ (if_false _ _ _ (ap (λ (n : ℕ). has_bit n 1) flags2)
    ∙ (if_false _ _ _ (ap (λ (n : ℕ). has_bit n 3) flags2)
    ∙ (if_false _ _ _ (ap (λ (n : ℕ). has_bit n 4) flags2)
    ∙ if_false _ _ _ (and_left _ _ (ap (λ (n : ℕ). not (n == 0)) forkoff)))))
