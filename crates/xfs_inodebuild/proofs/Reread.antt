-- A slot in use of which a few fields change is in use.
use Rattle.std.proofs.Common.{◌≡◌, ℕ, ◌+◌, ◌*◌, ◌%◌, ◌^◌, ◌==◌, ◌&&◌, ◌||◌, not, nat_le, nat_lt, Bool, true, false, cond, List, Option, Some, None, refl, ◌∙◌, ap, ◌≤◌, arith}
use Rattle.std.proofs.lemmas.Bool.{and_right}
use Rattle.xfs_word.specs.Field.{field_of}
use Rattle.xfs_word.specs.Seal.{is_sealed}
use Rattle.xfs_geom.specs.Volumes.{Volume}
use Rattle.xfs_volume.specs.declared.cores.Core.{Core}
use Rattle.xfs_inode.specs.Cores.{stated_core}
use Rattle.xfs_inode.specs.Slots.{slot_seal, slot_read, unsupported, used_read, has_bit, has_wide_attributes, extent_count, fork_bytes}
use Rattle.xfs_inode.specs.declared.reading.SlotRead.TheVariants as Read
use Rattle.xfs_inodebuild.proofs.ReadBack.{if_false}

-- the tests of a slot that reads as in use
passed : (sealed free : Bool) (what : Option ℕ) (a c : Core)
    → cond (not sealed) Read.Unsound (cond free Read.Free (used_read a what)) ≡ Read.InUse c → (free ≡ false) × (what ≡ None)
passed true false None a c h = (refl, refl)
passed true false (Some what) a c h = cc
passed true true what a c h = cc
passed false free what a c h = cc

-- a slot whose old bytes read as in use, and which uses no more of what is not supported
pub in_use_again : (v : Volume) (ino : ℕ) (old new : List ℕ) (after core : Core) → stated_core new ≡ after
    → is_sealed (slot_seal v ino) new ≡ true → after.mode ≡ (stated_core old).mode
    → (unsupported (stated_core old) old ≡ None → unsupported after new ≡ None)
    → slot_read v ino old ≡ Read.InUse core → slot_read v ino new ≡ Read.InUse (stated_core new)
unfolding slot_read
in_use_again v ino old new after core stated sealed mode supported was =
    let tests = passed (is_sealed (slot_seal v ino) old) ((stated_core old).mode == 0) (unsupported (stated_core old) old) (stated_core old) core was in
    let used : ((stated_core new).mode == 0) ≡ false = ap (λ (c : Core). c.mode == 0) stated ∙ (ap (λ (m : ℕ). m == 0) mode ∙ tests.0) in
    let none : unsupported (stated_core new) new ≡ None = ap (λ (c : Core). unsupported c new) stated ∙ supported tests.1 in
    if_false _ _ _ (ap not sealed) ∙ (if_false _ _ _ used ∙ ap (used_read (stated_core new)) none)

-- the five tests, the last of them by itself
abbrev first_of : ℕ → ℕ → Bool → Option ℕ
first_of flags flags2 wide =
    cond (has_bit flags 0) (Some 3)
    (cond (has_bit flags2 1) (Some 4)
    (cond (has_bit flags2 3) (Some 5)
    (cond (has_bit flags2 4) (Some 6)
    (cond wide (Some 2) None))))

guarded : (none : Bool) (rest : ℕ → Bool) (x y : ℕ) → (none ≡ false → x ≡ y) → (not none && rest x) ≡ (not none && rest y)
guarded true rest x y same = refl
guarded false rest x y same = ap rest (same refl)

-- what is not supported goes by the core, and where there is an attribute fork by its first extent
pub same_extent : (core : Core) (old new : List ℕ)
    → ((core.forkoff == 0) ≡ false → field_of new (176 + 8 * core.forkoff + 12) 4 ≡ field_of old (176 + 8 * core.forkoff + 12) 4)
    → unsupported core new ≡ unsupported core old
unfolding unsupported extent_count
same_extent core old new same =
    let at = 176 + 8 * core.forkoff in
    let rest = λ (k : ℕ). core.aformat == 3 || (core.aformat == 2 && (nat_lt 1 core.anextents
    || (core.anextents == 1 && nat_le (176 + 8 * core.forkoff + 16) 512 && nat_lt 1 k))) in
    let wide = guarded (core.forkoff == 0) rest (extent_count new at) (extent_count old at) (λ h. ap (λ (n : ℕ). n % 2 ^ 21) (same h)) in
    ap (first_of core.flags core.flags2) wide

-- the data fork ends where an attribute fork begins
pub fork_ends : (forkoff : ℕ) → (forkoff == 0) ≡ false → 176 + fork_bytes forkoff ≤ 176 + 8 * forkoff + 12
fork_ends forkoff h =
    let long : fork_bytes forkoff ≡ 8 * forkoff = if_false _ _ _ h in omega (arith, long)

-- four tests of which none holds, without the last
fewer_of : (a b c d w : Bool) (last some : Option ℕ) → last ≡ None
    → cond a (Some 3) (cond b (Some 4) (cond c (Some 5) (cond d (Some 6) (cond w some last)))) ≡ None
    → cond a (Some 3) (cond b (Some 4) (cond c (Some 5) (cond d (Some 6) last))) ≡ None
fewer_of false false false false w last some is h = is
fewer_of false false false true w last some is h = h
fewer_of false false true d w last some is h = h
fewer_of false true c d w last some is h = h
fewer_of true b c d w last some is h = h

-- without the last test
fewer : (flags flags2 : ℕ) (wide : Bool) → first_of flags flags2 wide ≡ None → first_of flags flags2 false ≡ None
fewer flags flags2 wide h =
    fewer_of (has_bit flags 0) (has_bit flags2 1) (has_bit flags2 3) (has_bit flags2 4) wide None (Some 2) refl h

-- an attribute fork of no extent is supported where the old one was
pub no_extents : (core : Core) (old new : List ℕ) (nblocks crc : ℕ) → unsupported core old ≡ None
    → unsupported (record core { nblocks = nblocks; anextents = 0; aformat = 2; crc = crc }) new ≡ None
unfolding unsupported
no_extents core old new nblocks crc none =
    let after : Core = record core { nblocks = nblocks; anextents = 0; aformat = 2; crc = crc } in
    let narrow : has_wide_attributes after new ≡ false = and_right (not (core.forkoff == 0)) false refl in
    ap (first_of core.flags core.flags2) narrow ∙ fewer core.flags core.flags2 (has_wide_attributes core old) none
