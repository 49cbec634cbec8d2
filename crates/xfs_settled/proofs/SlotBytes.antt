-- Of what is wanted of a slot there is one slot.
use Rattle.std.proofs.Common.{◌≡◌, ℕ, ◌+◌, ◌-◌, ◌*◌, ◌≤◌, ◌==◌, Bool, true, false, not, if◌then◌else◌, Option, List, [], ◌∷◌, length, inl, inr, refl, sym, ◌∙◌, ap, subst, arith}
use Rattle.xfs_word.specs.Crc.{little_field_of}
use Rattle.xfs_word.specs.Field.{field_of, part_of, IsZero}
use Rattle.xfs_word.specs.Seal.{is_sealed}
use Rattle.xfs_geom.specs.Volumes.{Volume}
use Rattle.xfs_volume.specs.declared.cores.Core.{Core}
use Rattle.xfs_inode.specs.Cores.{stated_core}
use Rattle.xfs_inode.specs.Slots.{fork_bytes, slot_read, slot_seal, unsupported, used_read}
use Rattle.xfs_inode.specs.declared.reading.SlotRead.TheVariants as Read
use Rattle.xfs_inodebuild.specs.Writing.{KeepsOthers, IsBesideEach, field_place}
use Rattle.xfs_inodebuild.specs.declared.forks.ForkWanted.{ForkWanted}
use Rattle.xfs_word.specs.declared.kinds.FieldPlace.{FieldPlace}
use Rattle.xfs_render.specs.Slots.{DropsAttrs, IsFreeSlot, IsFreshSlot, SetsFork, SetsLinks}
use Rattle.xfs_settled.specs.Sectors.{AreSized}
use Rattle.xfs_settled.proofs.Sealing.{same_join, same_number, same_parts, sealed_one}
use Rattle.xfs_settled.proofs.Supers.{checked}

-- a slot that reads as free, or as in use, is sealed
pub free_sealed : (v : Volume) (ino : ℕ) (slot : List ℕ) → slot_read v ino slot ≡ Read.Free → is_sealed (slot_seal v ino) slot ≡ true
unfolding slot_read
free_sealed v ino slot is = by_seal (is_sealed (slot_seal v ino) slot) ((stated_core slot).mode == 0) (unsupported (stated_core slot) slot) is
  where
    by_seal : (sealed free : Bool) (what : Option ℕ) → (if not sealed then Read.Unsound else (if free then Read.Free else used_read (stated_core slot) what)) ≡ Read.Free → sealed ≡ true
    by_seal true free what read = refl
    by_seal false free what read = absurd cc

pub used_sealed : (v : Volume) (ino : ℕ) (slot : List ℕ) (core : Core) → slot_read v ino slot ≡ Read.InUse core → is_sealed (slot_seal v ino) slot ≡ true
unfolding slot_read
used_sealed v ino slot core is = by_seal (is_sealed (slot_seal v ino) slot) ((stated_core slot).mode == 0) (unsupported (stated_core slot) slot) is
  where
    by_seal : (sealed free : Bool) (what : Option ℕ) → (if not sealed then Read.Unsound else (if free then Read.Free else used_read (stated_core slot) what)) ≡ Read.InUse core → sealed ≡ true
    by_seal true free what read = refl
    by_seal false free what read = absurd cc

-- zeros beside the fields of a core
record HasZeros (slot : List ℕ) : Type 0 where
  behind_format : IsZero slot 6 2
  before_times : IsZero slot 24 8
  before_flags : IsZero slot 84 6
  before_crtime : IsZero slot 132 12
  forks : IsZero slot 176 336

abbrev pub unsealed_core : List ℕ → Core
unsealed_core slot = record (stated_core slot) { crc = 0 }

module _ (v : Volume) (ino : ℕ) (a b : List ℕ) (sa : AreSized 512 a) (sb : AreSized 512 b) (ca : is_sealed (slot_seal v ino) a ≡ true) (cb : is_sealed (slot_seal v ino) b ≡ true) where
  number : (at w : ℕ) → at + w ≤ 512 → field_of a at w ≡ field_of b at w → part_of a at w ≡ part_of b at w
  number at w inside same = same_number a b 512 at w sa sb inside same

  pub sealed_slot : part_of a 0 100 ≡ part_of b 0 100 → part_of a 104 408 ≡ part_of b 104 408 → a ≡ b
  sealed_slot front back = sealed_one a b 100 408 512 (omega arith) sa sb front back (checked (slot_seal v ino) a ca) (checked (slot_seal v ino) b cb)

  spelt_one : unsealed_core a ≡ unsealed_core b → HasZeros a → HasZeros b → a ≡ b
  spelt_one same za zb =
      sealed_slot
      (same_parts a b 0 (2 ∷ 2 ∷ 1 ∷ 1 ∷ 2 ∷ 4 ∷ 4 ∷ 4 ∷ 2 ∷ 2 ∷ 8 ∷ 8 ∷ 8 ∷ 8 ∷ 8 ∷ 8 ∷ 4 ∷ 4 ∷ 2 ∷ 1 ∷ 1 ∷ 6 ∷ 2 ∷ 4 ∷ 4 ∷ []) (number 0 2 (omega arith) (ap (λ (x : Core). x.magic) same), (number 2 2 (omega arith) (ap (λ (x : Core). x.mode) same), (number 4 1 (omega arith) (ap (λ (x : Core). x.version) same), (number 5 1 (omega arith) (ap (λ (x : Core). x.format) same), (za.behind_format ∙ sym zb.behind_format, (number 8 4 (omega arith) (ap (λ (x : Core). x.uid) same), (number 12 4 (omega arith) (ap (λ (x : Core). x.gid) same), (number 16 4 (omega arith) (ap (λ (x : Core). x.nlink) same), (number 20 2 (omega arith) (ap (λ (x : Core). x.projid_lo) same), (number 22 2 (omega arith) (ap (λ (x : Core). x.projid_hi) same), (za.before_times ∙ sym zb.before_times, (number 32 8 (omega arith) (ap (λ (x : Core). x.atime) same), (number 40 8 (omega arith) (ap (λ (x : Core). x.mtime) same), (number 48 8 (omega arith) (ap (λ (x : Core). x.ctime) same), (number 56 8 (omega arith) (ap (λ (x : Core). x.size) same), (number 64 8 (omega arith) (ap (λ (x : Core). x.nblocks) same), (number 72 4 (omega arith) (ap (λ (x : Core). x.extsize) same), (number 76 4 (omega arith) (ap (λ (x : Core). x.nextents) same), (number 80 2 (omega arith) (ap (λ (x : Core). x.anextents) same), (number 82 1 (omega arith) (ap (λ (x : Core). x.forkoff) same), (number 83 1 (omega arith) (ap (λ (x : Core). x.aformat) same), (za.before_flags ∙ sym zb.before_flags, (number 90 2 (omega arith) (ap (λ (x : Core). x.flags) same), (number 92 4 (omega arith) (ap (λ (x : Core). x.generation) same), (number 96 4 (omega arith) (ap (λ (x : Core). x.next_unlinked) same), tt))))))))))))))))))))))))))
      (same_parts a b 104 (8 ∷ 8 ∷ 8 ∷ 4 ∷ 12 ∷ 8 ∷ 8 ∷ 16 ∷ 336 ∷ []) (number 104 8 (omega arith) (ap (λ (x : Core). x.changecount) same), (number 112 8 (omega arith) (ap (λ (x : Core). x.lsn) same), (number 120 8 (omega arith) (ap (λ (x : Core). x.flags2) same), (number 128 4 (omega arith) (ap (λ (x : Core). x.cowextsize) same), (za.before_crtime ∙ sym zb.before_crtime, (number 144 8 (omega arith) (ap (λ (x : Core). x.crtime) same), (number 152 8 (omega arith) (ap (λ (x : Core). x.ino) same), (ap (λ (x : Core). x.uuid) same, (za.forks ∙ sym zb.forks, tt))))))))))

pub free_one : (v : Volume) (ino generation : ℕ) (a b : List ℕ) → AreSized 512 a → AreSized 512 b → IsFreeSlot v ino generation a → IsFreeSlot v ino generation b → a ≡ b
free_one v ino generation a b sa sb ia ib =
    let beside = λ (x : Core). let r : Core = record x { crc = 0 } in r in
    spelt_one v ino a b sa sb (free_sealed v ino a ia.read) (free_sealed v ino b ib.read) (ap beside ia.stated ∙ sym (ap beside ib.stated))
    (record { behind_format = ia.zero_behind_format; before_times = ia.zero_before_times; before_flags = ia.zero_before_flags; before_crtime = ia.zero_before_crtime; forks = ia.zero_forks })
    (record { behind_format = ib.zero_behind_format; before_times = ib.zero_before_times; before_flags = ib.zero_before_flags; before_crtime = ib.zero_before_crtime; forks = ib.zero_forks })

pub fresh_one : (v : Volume) (core : Core) (a b : List ℕ) → AreSized 512 a → AreSized 512 b → IsFreshSlot v core a → IsFreshSlot v core b → a ≡ b
fresh_one v core a b sa sb ia ib =
    let beside = λ (x : Core). let r : Core = record x { crc = 0 } in r in
    spelt_one v core.ino a b sa sb (used_sealed v core.ino a (record core { crc = little_field_of a 100 4 }) ia.read) (used_sealed v core.ino b (record core { crc = little_field_of b 100 4 }) ib.read)
    (ap beside ia.stated ∙ sym (ap beside ib.stated))
    (record { behind_format = ia.zero_behind_format; before_times = ia.zero_before_times; before_flags = ia.zero_before_flags; before_crtime = ia.zero_before_crtime; forks = ia.zero_forks })
    (record { behind_format = ib.zero_behind_format; before_times = ib.zero_before_times; before_flags = ib.zero_before_flags; before_crtime = ib.zero_before_crtime; forks = ib.zero_forks })

-- a slot of which some fields are changed
module _ (v : Volume) (ino : ℕ) (old a b : List ℕ) (sa : AreSized 512 a) (sb : AreSized 512 b) (places : List FieldPlace) (ka : KeepsOthers old a places) (kb : KeepsOthers old b places) where
  kept : (at w : ℕ) → IsBesideEach places at w → part_of a at w ≡ part_of b at w
  kept at w beside = (ka at w beside).1 ∙ sym (kb at w beside).1

pub links_one : (v : Volume) (ino nlink : ℕ) (old a b : List ℕ) → AreSized 512 a → AreSized 512 b → SetsLinks v ino nlink old a → SetsLinks v ino nlink old b → a ≡ b
links_one v ino nlink old a b sa sb ia ib =
    let beside = λ (x : Core). let r : Core = record x { crc = 0 } in r in
    let same : unsealed_core a ≡ unsealed_core b = ap beside ia.stated ∙ sym (ap beside ib.stated) in
    let places : List FieldPlace = field_place 16 4 ∷ field_place 96 4 ∷ field_place 100 4 ∷ [] in
    sealed_slot v ino a b sa sb ia.sealed ib.sealed
    (same_parts a b 0 (16 ∷ 4 ∷ 76 ∷ 4 ∷ []) (kept v ino old a b sa sb places ia.others ib.others 0 16 (inl (omega arith), (inl (omega arith), (inl (omega arith), tt))), (same_number a b 512 16 4 sa sb (omega arith) (ap (λ (x : Core). x.nlink) same), (kept v ino old a b sa sb places ia.others ib.others 20 76 (inr (omega arith), (inl (omega arith), (inl (omega arith), tt))), (same_number a b 512 96 4 sa sb (omega arith) (ap (λ (x : Core). x.next_unlinked) same), tt)))))
    (kept v ino old a b sa sb places ia.others ib.others 104 408 (inr (omega arith), (inr (omega arith), (inr (omega arith), tt))))

-- the bytes of a data fork, where an attribute fork begins inside the slot or there is none
pub fork_inside : (forkoff : ℕ) → forkoff ≤ 41 → fork_bytes forkoff ≤ 336
fork_inside forkoff low = by_none (forkoff == 0)
  where
    by_none : (none : Bool) → (if none then 336 else 8 * forkoff) ≤ 336
    by_none true = omega arith
    by_none false = omega arith

pub attrs_one : (v : Volume) (ino nblocks : ℕ) (old a b : List ℕ) → field_of old 82 1 ≤ 41 → AreSized 512 a → AreSized 512 b → DropsAttrs v ino nblocks old a → DropsAttrs v ino nblocks old b → a ≡ b
attrs_one v ino nblocks old a b low sa sb ia ib =
    let beside = λ (x : Core). let r : Core = record x { crc = 0 } in r in
    let same : unsealed_core a ≡ unsealed_core b = ap beside ia.stated ∙ sym (ap beside ib.stated) in
    let bytes : ℕ = fork_bytes (field_of old 82 1) in
    let few : bytes ≤ 336 = fork_inside (field_of old 82 1) low in
    let places : List FieldPlace = field_place 64 8 ∷ field_place 80 2 ∷ field_place 83 1 ∷ field_place (176 + bytes) (336 - bytes) ∷ field_place 100 4 ∷ [] in
    let kept = kept v ino old a b sa sb places ia.others ib.others in
    let back : part_of a 104 (72 + (bytes + (336 - bytes))) ≡ part_of b 104 (72 + (bytes + (336 - bytes))) =
    same_join a b 104 72 (bytes + (336 - bytes)) (kept 104 72 (inr (omega arith), (inr (omega arith), (inr (omega arith), (inl (omega arith), (inr (omega arith), tt))))))
    (same_join a b 176 bytes (336 - bytes) (kept 176 bytes (inr (omega arith), (inr (omega arith), (inr (omega arith), (inl (omega arith), (inr (omega arith), tt)))))) (ia.zero' ∙ sym ib.zero')) in
    let long : 72 + (bytes + (336 - bytes)) ≡ 408 = omega (arith, few) in
    sealed_slot v ino a b sa sb ia.sealed ib.sealed
    (same_parts a b 0 (64 ∷ 8 ∷ 8 ∷ 2 ∷ 1 ∷ 1 ∷ 16 ∷ []) (kept 0 64 (inl (omega arith), (inl (omega arith), (inl (omega arith), (inl (omega arith), (inl (omega arith), tt))))), (same_number a b 512 64 8 sa sb (omega arith) (ap (λ (x : Core). x.nblocks) same), (kept 72 8 (inr (omega arith), (inl (omega arith), (inl (omega arith), (inl (omega arith), (inl (omega arith), tt))))), (same_number a b 512 80 2 sa sb (omega arith) (ap (λ (x : Core). x.anextents) same), (kept 82 1 (inr (omega arith), (inr (omega arith), (inl (omega arith), (inl (omega arith), (inl (omega arith), tt))))), (same_number a b 512 83 1 sa sb (omega arith) (ap (λ (x : Core). x.aformat) same), (kept 84 16 (inr (omega arith), (inr (omega arith), (inr (omega arith), (inl (omega arith), (inl (omega arith), tt))))), tt))))))))
    (subst (λ (n : ℕ). part_of a 104 n ≡ part_of b 104 n) long back)

pub fork_one : (v : Volume) (ino : ℕ) (fork : ForkWanted) (old a b : List ℕ) → field_of old 82 1 ≤ 41 → length fork.bytes ≤ fork_bytes (field_of old 82 1)
    → AreSized 512 a → AreSized 512 b → SetsFork v ino fork old a → SetsFork v ino fork old b → a ≡ b
fork_one v ino fork old a b low short sa sb ia ib =
    let beside = λ (x : Core). let r : Core = record x { crc = 0 } in r in
    let same : unsealed_core a ≡ unsealed_core b = ap beside ia.stated ∙ sym (ap beside ib.stated) in
    let bytes : ℕ = fork_bytes (field_of old 82 1) in
    let few : bytes ≤ 336 = fork_inside (field_of old 82 1) low in
    let put : ℕ = length fork.bytes in
    let places : List FieldPlace = field_place 5 1 ∷ field_place 56 8 ∷ field_place 64 8 ∷ field_place 76 4 ∷ field_place 176 bytes ∷ field_place 100 4 ∷ [] in
    let kept = kept v ino old a b sa sb places ia.others ib.others in
    let front : part_of a 176 (put + (bytes - put)) ≡ part_of b 176 (put + (bytes - put)) =
    same_join a b 176 put (bytes - put) (ia.put ∙ sym ib.put) (ia.zero' ∙ sym ib.zero') in
    let all : put + (bytes - put) ≡ bytes = omega (arith, short) in
    let fork_same : part_of a 176 bytes ≡ part_of b 176 bytes = subst (λ (n : ℕ). part_of a 176 n ≡ part_of b 176 n) all front in
    let back : part_of a 104 (72 + (bytes + (336 - bytes))) ≡ part_of b 104 (72 + (bytes + (336 - bytes))) =
    same_join a b 104 72 (bytes + (336 - bytes)) (kept 104 72 (inr (omega arith), (inr (omega arith), (inr (omega arith), (inr (omega arith), (inl (omega arith), (inr (omega arith), tt)))))))
    (same_join a b 176 bytes (336 - bytes) fork_same (kept (176 + bytes) (336 - bytes) (inr (omega arith), (inr (omega arith), (inr (omega arith), (inr (omega arith), (inr (omega arith), (inr (omega arith), tt)))))))) in
    let long : 72 + (bytes + (336 - bytes)) ≡ 408 = omega (arith, few) in
    sealed_slot v ino a b sa sb ia.sealed ib.sealed
    (same_parts a b 0 (5 ∷ 1 ∷ 50 ∷ 8 ∷ 8 ∷ 4 ∷ 4 ∷ 20 ∷ []) (kept 0 5 (inl (omega arith), (inl (omega arith), (inl (omega arith), (inl (omega arith), (inl (omega arith), (inl (omega arith), tt)))))), (same_number a b 512 5 1 sa sb (omega arith) (ap (λ (x : Core). x.format) same), (kept 6 50 (inr (omega arith), (inl (omega arith), (inl (omega arith), (inl (omega arith), (inl (omega arith), (inl (omega arith), tt)))))), (same_number a b 512 56 8 sa sb (omega arith) (ap (λ (x : Core). x.size) same), (same_number a b 512 64 8 sa sb (omega arith) (ap (λ (x : Core). x.nblocks) same), (kept 72 4 (inr (omega arith), (inr (omega arith), (inr (omega arith), (inl (omega arith), (inl (omega arith), (inl (omega arith), tt)))))), (same_number a b 512 76 4 sa sb (omega arith) (ap (λ (x : Core). x.nextents) same), (kept 80 20 (inr (omega arith), (inr (omega arith), (inr (omega arith), (inr (omega arith), (inl (omega arith), (inl (omega arith), tt)))))), tt)))))))))
    (subst (λ (n : ℕ). part_of a 104 n ≡ part_of b 104 n) long back)
