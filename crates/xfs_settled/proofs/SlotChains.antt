-- Of what is wanted of a slot, change by change, there is one slot.
use Rattle.std.proofs.Common.{◌≡◌, ℕ, zero, suc, ◌+◌, ◌-◌, ◌*◌, ◌<◌, ◌≤◌, true, Option, Some, None, MatchOption, List, [], ◌∷◌, length, take, drop, inl, inr, refl, sym, ◌∙◌, ap, subst, arith}
use Rattle.std.proofs.lemmas.List.{drop-drop, drop-take}
use Rattle.xfs_word.specs.Crc.{little_field_of}
use Rattle.xfs_word.specs.Field.{field_of, part_of, zeros}
use Rattle.xfs_word.specs.Seal.{is_sealed}
use Rattle.xfs_word.specs.declared.kinds.FieldPlace.{FieldPlace}
use Rattle.xfs_geom.specs.Conversions.{inode_of}
use Rattle.xfs_geom.specs.Volumes.{Volume}
use Rattle.xfs_volume.specs.declared.cores.Core.{Core}
use Rattle.xfs_inode.specs.Slots.{fork_bytes, slot_seal}
use Rattle.xfs_inodebuild.specs.Writing.{KeepsOthers, IsBesideEach, field_place}
use Rattle.xfs_inodebuild.specs.declared.forks.ForkWanted.{ForkWanted}
use Rattle.xfs_render.specs.Clusters.{CanCluster, IsClusterBlock, slot_in}
use Rattle.xfs_render.specs.Slots.{CanBase, CanFork, CanMake, DropsAttrs, IsBased, IsMadeSlot, SetsFork, SetsLinks, forkoff_of, wanted_of}
use Rattle.xfs_render.specs.declared.wanted_slots.SlotBase.{SlotBase}
use Rattle.xfs_render.specs.declared.wanted_slots.SlotBase.TheVariants as Base
use Rattle.xfs_render.specs.declared.wanted_slots.SlotWanted.{SlotWanted}
use Rattle.xfs_settled.specs.Sectors.{AreSized}
use Rattle.xfs_settled.proofs.Sealing.{same_join, same_number, same_parts, whole_part}
use Rattle.xfs_settled.proofs.Headers.{part_sized}
use Rattle.xfs_settled.proofs.SlotBytes.{fork_inside, free_sealed, sealed_slot, unsealed_core, used_sealed}

-- two slots state the same in all but the checksum, and have the same bytes beside what they state
record SameSlot (a b : List ℕ) : Type 0 where
  core : unsealed_core a ≡ unsealed_core b
  behind_format : part_of a 6 2 ≡ part_of b 6 2
  before_times : part_of a 24 8 ≡ part_of b 24 8
  before_flags : part_of a 84 6 ≡ part_of b 84 6
  before_crtime : part_of a 132 12 ≡ part_of b 132 12
  fork : part_of a 176 336 ≡ part_of b 176 336

itself : (a : List ℕ) → SameSlot a a
itself a = record { core = refl; behind_format = refl; before_times = refl; before_flags = refl; before_crtime = refl; fork = refl }

-- so they are one, where both are sealed
one_of : (v : Volume) (ino : ℕ) (a b : List ℕ) → AreSized 512 a → AreSized 512 b → is_sealed (slot_seal v ino) a ≡ true → is_sealed (slot_seal v ino) b ≡ true → SameSlot a b → a ≡ b
one_of v ino a b sa sb ca cb is =
    sealed_slot v ino a b sa sb ca cb
    (same_parts a b 0 (2 ∷ 2 ∷ 1 ∷ 1 ∷ 2 ∷ 4 ∷ 4 ∷ 4 ∷ 2 ∷ 2 ∷ 8 ∷ 8 ∷ 8 ∷ 8 ∷ 8 ∷ 8 ∷ 4 ∷ 4 ∷ 2 ∷ 1 ∷ 1 ∷ 6 ∷ 2 ∷ 4 ∷ 4 ∷ []) (same_number a b 512 0 2 sa sb (omega arith) (ap (λ (x : Core). x.magic) is.core), (same_number a b 512 2 2 sa sb (omega arith) (ap (λ (x : Core). x.mode) is.core), (same_number a b 512 4 1 sa sb (omega arith) (ap (λ (x : Core). x.version) is.core), (same_number a b 512 5 1 sa sb (omega arith) (ap (λ (x : Core). x.format) is.core), (is.behind_format, (same_number a b 512 8 4 sa sb (omega arith) (ap (λ (x : Core). x.uid) is.core), (same_number a b 512 12 4 sa sb (omega arith) (ap (λ (x : Core). x.gid) is.core), (same_number a b 512 16 4 sa sb (omega arith) (ap (λ (x : Core). x.nlink) is.core), (same_number a b 512 20 2 sa sb (omega arith) (ap (λ (x : Core). x.projid_lo) is.core), (same_number a b 512 22 2 sa sb (omega arith) (ap (λ (x : Core). x.projid_hi) is.core), (is.before_times, (same_number a b 512 32 8 sa sb (omega arith) (ap (λ (x : Core). x.atime) is.core), (same_number a b 512 40 8 sa sb (omega arith) (ap (λ (x : Core). x.mtime) is.core), (same_number a b 512 48 8 sa sb (omega arith) (ap (λ (x : Core). x.ctime) is.core), (same_number a b 512 56 8 sa sb (omega arith) (ap (λ (x : Core). x.size) is.core), (same_number a b 512 64 8 sa sb (omega arith) (ap (λ (x : Core). x.nblocks) is.core), (same_number a b 512 72 4 sa sb (omega arith) (ap (λ (x : Core). x.extsize) is.core), (same_number a b 512 76 4 sa sb (omega arith) (ap (λ (x : Core). x.nextents) is.core), (same_number a b 512 80 2 sa sb (omega arith) (ap (λ (x : Core). x.anextents) is.core), (same_number a b 512 82 1 sa sb (omega arith) (ap (λ (x : Core). x.forkoff) is.core), (same_number a b 512 83 1 sa sb (omega arith) (ap (λ (x : Core). x.aformat) is.core), (is.before_flags, (same_number a b 512 90 2 sa sb (omega arith) (ap (λ (x : Core). x.flags) is.core), (same_number a b 512 92 4 sa sb (omega arith) (ap (λ (x : Core). x.generation) is.core), (same_number a b 512 96 4 sa sb (omega arith) (ap (λ (x : Core). x.next_unlinked) is.core), tt))))))))))))))))))))))))))
    (same_parts a b 104 (8 ∷ 8 ∷ 8 ∷ 4 ∷ 12 ∷ 8 ∷ 8 ∷ 16 ∷ 336 ∷ []) (same_number a b 512 104 8 sa sb (omega arith) (ap (λ (x : Core). x.changecount) is.core), (same_number a b 512 112 8 sa sb (omega arith) (ap (λ (x : Core). x.lsn) is.core), (same_number a b 512 120 8 sa sb (omega arith) (ap (λ (x : Core). x.flags2) is.core), (same_number a b 512 128 4 sa sb (omega arith) (ap (λ (x : Core). x.cowextsize) is.core), (is.before_crtime, (same_number a b 512 144 8 sa sb (omega arith) (ap (λ (x : Core). x.crtime) is.core), (same_number a b 512 152 8 sa sb (omega arith) (ap (λ (x : Core). x.ino) is.core), (ap (λ (x : Core). x.uuid) is.core, (is.fork, tt))))))))))

shorter : (w n : ℕ) (xs : List ℕ) → w ≤ n → take w (take n xs) ≡ take w xs
shorter zero n xs low = refl
shorter (suc w) zero xs low = absurd (omega (arith, low))
shorter (suc w) (suc n) [] low = refl
shorter (suc w) (suc n) (x ∷ xs) low = ap (λ (rest : List ℕ). x ∷ rest) (shorter w n xs (omega (arith, low)))

-- a part of a part
part_inside : (x : List ℕ) (at n a w : ℕ) → a + w ≤ n → part_of (part_of x at n) a w ≡ part_of x (at + a) w
unfolding part_of
part_inside x at n a w low =
    let more : n ≡ a + (n - a) = omega (arith, low) in
    let cut : drop a (take n (drop at x)) ≡ take (n - a) (drop a (drop at x)) = ap (λ (k : ℕ). drop a (take k (drop at x))) more ∙ drop-take a (n - a) (drop at x) in
    ap (take w) (cut ∙ ap (λ (xs : List ℕ). take (n - a) xs) (drop-drop a at x)) ∙ shorter w (n - a) (drop (at + a) x) (omega (arith, low))

inside_same : (x y : List ℕ) (at n a w : ℕ) → a + w ≤ n → part_of x at n ≡ part_of y at n → part_of x (at + a) w ≡ part_of y (at + a) w
inside_same x y at n a w low same = sym (part_inside x at n a w low) ∙ ap (λ (p : List ℕ). part_of p a w) same ∙ part_inside y at n a w low

-- what a change leaves
module _ (x y a b : List ℕ) (places : List FieldPlace) (ka : KeepsOthers x a places) (kb : KeepsOthers y b places) where
  stays : (at w : ℕ) → IsBesideEach places at w → part_of x at w ≡ part_of y at w → part_of a at w ≡ part_of b at w
  stays at w beside same = (ka at w beside).1 ∙ same ∙ sym (kb at w beside).1

links_same : (v : Volume) (ino nlink : ℕ) (x y a b : List ℕ) → SameSlot x y → SetsLinks v ino nlink x a → SetsLinks v ino nlink y b → SameSlot a b
links_same v ino nlink x y a b is ia ib =
    let beside = λ (c : Core). let r : Core = record c { crc = 0 } in r in
    let set = λ (c : Core). let r : Core = record c { nlink = nlink; next_unlinked = 0xffff_ffff; crc = 0 } in r in
    let places : List FieldPlace = field_place 16 4 ∷ field_place 96 4 ∷ field_place 100 4 ∷ [] in
    record { core = ap beside ia.stated ∙ ap set is.core ∙ sym (ap beside ib.stated); behind_format = stays x y a b places ia.others ib.others 6 2 (inl (omega arith), (inl (omega arith), (inl (omega arith), tt))) is.behind_format; before_times = stays x y a b places ia.others ib.others 24 8 (inr (omega arith), (inl (omega arith), (inl (omega arith), tt))) is.before_times; before_flags = stays x y a b places ia.others ib.others 84 6 (inr (omega arith), (inl (omega arith), (inl (omega arith), tt))) is.before_flags; before_crtime = stays x y a b places ia.others ib.others 132 12 (inr (omega arith), (inr (omega arith), (inr (omega arith), tt))) is.before_crtime; fork = stays x y a b places ia.others ib.others 176 336 (inr (omega arith), (inr (omega arith), (inr (omega arith), tt))) is.fork }

-- what stays of the forks
fork_front : (x y : List ℕ) (n : ℕ) → n ≤ 336 → part_of x 176 336 ≡ part_of y 176 336 → part_of x 176 n ≡ part_of y 176 n
fork_front x y n low same = inside_same x y 176 336 0 n (omega (arith, low)) same

fork_back : (x y : List ℕ) (n : ℕ) → n ≤ 336 → part_of x 176 336 ≡ part_of y 176 336 → part_of x (176 + n) (336 - n) ≡ part_of y (176 + n) (336 - n)
fork_back x y n low same = inside_same x y 176 336 n (336 - n) (omega (arith, low)) same

attrs_same : (v : Volume) (ino nblocks : ℕ) (x y a b : List ℕ) → field_of x 82 1 ≤ 41 → SameSlot x y → DropsAttrs v ino nblocks x a → DropsAttrs v ino nblocks y b → SameSlot a b
attrs_same v ino nblocks x y a b low is ia ib =
    let beside = λ (c : Core). let r : Core = record c { crc = 0 } in r in
    let set = λ (c : Core). let r : Core = record c { nblocks = nblocks; anextents = 0; aformat = 2; crc = 0 } in r in
    let off : field_of y 82 1 ≡ field_of x 82 1 = sym (ap (λ (c : Core). c.forkoff) is.core) in
    let bytes : ℕ = fork_bytes (field_of x 82 1) in
    let few : bytes ≤ 336 = fork_inside (field_of x 82 1) low in
    let places : List FieldPlace = field_place 64 8 ∷ field_place 80 2 ∷ field_place 83 1 ∷ field_place (176 + bytes) (336 - bytes) ∷ field_place 100 4 ∷ [] in
    let others : KeepsOthers y b places =
    subst (λ (o : ℕ). KeepsOthers y b (field_place 64 8 ∷ field_place 80 2 ∷ field_place 83 1 ∷ field_place (176 + fork_bytes o) (336 - fork_bytes o) ∷ field_place 100 4 ∷ [])) off ib.others in
    let clear : part_of b (176 + bytes) (336 - bytes) ≡ zeros (336 - bytes) =
    subst (λ (o : ℕ). part_of b (176 + fork_bytes o) (336 - fork_bytes o) ≡ zeros (336 - fork_bytes o)) off ib.zero' in
    let forks : part_of a 176 (bytes + (336 - bytes)) ≡ part_of b 176 (bytes + (336 - bytes)) =
    same_join a b 176 bytes (336 - bytes) (stays x y a b places ia.others others 176 bytes (inr (omega arith), (inr (omega arith), (inr (omega arith), (inl (omega arith), (inr (omega arith), tt))))) (fork_front x y bytes few is.fork)) (ia.zero' ∙ sym clear) in
    let long : bytes + (336 - bytes) ≡ 336 = omega (arith, few) in
    record { core = ap beside ia.stated ∙ ap set is.core ∙ sym (ap beside ib.stated); behind_format = stays x y a b places ia.others others 6 2 (inl (omega arith), (inl (omega arith), (inl (omega arith), (inl (omega arith), (inl (omega arith), tt))))) is.behind_format; before_times = stays x y a b places ia.others others 24 8 (inl (omega arith), (inl (omega arith), (inl (omega arith), (inl (omega arith), (inl (omega arith), tt))))) is.before_times; before_flags = stays x y a b places ia.others others 84 6 (inr (omega arith), (inr (omega arith), (inr (omega arith), (inl (omega arith), (inl (omega arith), tt))))) is.before_flags; before_crtime = stays x y a b places ia.others others 132 12 (inr (omega arith), (inr (omega arith), (inr (omega arith), (inl (omega arith), (inr (omega arith), tt))))) is.before_crtime; fork = subst (λ (n : ℕ). part_of a 176 n ≡ part_of b 176 n) long forks }

fork_same : (v : Volume) (ino : ℕ) (fork : ForkWanted) (x y a b : List ℕ) → field_of x 82 1 ≤ 41 → length fork.bytes ≤ fork_bytes (field_of x 82 1)
    → SameSlot x y → SetsFork v ino fork x a → SetsFork v ino fork y b → SameSlot a b
fork_same v ino fork x y a b low short is ia ib =
    let beside = λ (c : Core). let r : Core = record c { crc = 0 } in r in
    let set = λ (c : Core). let r : Core = record c { format = fork.format; size = fork.size; nblocks = fork.nblocks; nextents = fork.nextents; crc = 0 } in r in
    let off : field_of y 82 1 ≡ field_of x 82 1 = sym (ap (λ (c : Core). c.forkoff) is.core) in
    let bytes : ℕ = fork_bytes (field_of x 82 1) in
    let put : ℕ = length fork.bytes in
    let few : bytes ≤ 336 = fork_inside (field_of x 82 1) low in
    let places : List FieldPlace = field_place 5 1 ∷ field_place 56 8 ∷ field_place 64 8 ∷ field_place 76 4 ∷ field_place 176 bytes ∷ field_place 100 4 ∷ [] in
    let others : KeepsOthers y b places =
    subst (λ (o : ℕ). KeepsOthers y b (field_place 5 1 ∷ field_place 56 8 ∷ field_place 64 8 ∷ field_place 76 4 ∷ field_place 176 (fork_bytes o) ∷ field_place 100 4 ∷ [])) off ib.others in
    let clear : part_of b (176 + put) (bytes - put) ≡ zeros (bytes - put) =
    subst (λ (o : ℕ). part_of b (176 + put) (fork_bytes o - put) ≡ zeros (fork_bytes o - put)) off ib.zero' in
    let first : part_of a 176 (put + (bytes - put)) ≡ part_of b 176 (put + (bytes - put)) = same_join a b 176 put (bytes - put) (ia.put ∙ sym ib.put) (ia.zero' ∙ sym clear) in
    let all : put + (bytes - put) ≡ bytes = omega (arith, short) in
    let forks : part_of a 176 (bytes + (336 - bytes)) ≡ part_of b 176 (bytes + (336 - bytes)) =
    same_join a b 176 bytes (336 - bytes) (subst (λ (n : ℕ). part_of a 176 n ≡ part_of b 176 n) all first) (stays x y a b places ia.others others (176 + bytes) (336 - bytes) (inr (omega arith), (inr (omega arith), (inr (omega arith), (inr (omega arith), (inr (omega arith), (inr (omega arith), tt)))))) (fork_back x y bytes few is.fork)) in
    let long : bytes + (336 - bytes) ≡ 336 = omega (arith, few) in
    record { core = ap beside ia.stated ∙ ap set is.core ∙ sym (ap beside ib.stated); behind_format = stays x y a b places ia.others others 6 2 (inr (omega arith), (inl (omega arith), (inl (omega arith), (inl (omega arith), (inl (omega arith), (inl (omega arith), tt)))))) is.behind_format; before_times = stays x y a b places ia.others others 24 8 (inr (omega arith), (inl (omega arith), (inl (omega arith), (inl (omega arith), (inl (omega arith), (inl (omega arith), tt)))))) is.before_times; before_flags = stays x y a b places ia.others others 84 6 (inr (omega arith), (inr (omega arith), (inr (omega arith), (inr (omega arith), (inl (omega arith), (inl (omega arith), tt)))))) is.before_flags; before_crtime = stays x y a b places ia.others others 132 12 (inr (omega arith), (inr (omega arith), (inr (omega arith), (inr (omega arith), (inl (omega arith), (inr (omega arith), tt)))))) is.before_crtime; fork = subst (λ (n : ℕ). part_of a 176 n ≡ part_of b 176 n) long forks }

-- two bases that are one
module _ (v : Volume) (ino generation : ℕ) (old : List ℕ) where
  base_same : (base : SlotBase) (a b : List ℕ) → IsBased v generation ino base old a → IsBased v generation ino base old b → SameSlot a b
  base_same Base.Kept a b ia ib = subst (SameSlot a) (ia ∙ sym ib) (itself a)
  base_same Base.Free a b ia ib =
      let beside = λ (c : Core). let r : Core = record c { crc = 0 } in r in
      record {
        core = ap beside ia.stated ∙ sym (ap beside ib.stated);
        behind_format = ia.zero_behind_format ∙ sym ib.zero_behind_format;
        before_times = ia.zero_before_times ∙ sym ib.zero_before_times;
        before_flags = ia.zero_before_flags ∙ sym ib.zero_before_flags;
        before_crtime = ia.zero_before_crtime ∙ sym ib.zero_before_crtime;
        fork = ia.zero_forks ∙ sym ib.zero_forks;
      }
  base_same (Base.Fresh core) a b ia ib =
      let beside = λ (c : Core). let r : Core = record c { crc = 0 } in r in
      record {
        core = ap beside ia.stated ∙ sym (ap beside ib.stated);
        behind_format = ia.zero_behind_format ∙ sym ib.zero_behind_format;
        before_times = ia.zero_before_times ∙ sym ib.zero_before_times;
        before_flags = ia.zero_before_flags ∙ sym ib.zero_before_flags;
        before_crtime = ia.zero_before_crtime ∙ sym ib.zero_before_crtime;
        fork = ia.zero_forks ∙ sym ib.zero_forks;
      }

  -- where the attribute fork of a base begins
  base_forkoff : (base : SlotBase) (a : List ℕ) → CanBase v ino base old → IsBased v generation ino base old a → field_of a 82 1 ≡ forkoff_of base old
  base_forkoff Base.Kept a can is = ap (λ (s : List ℕ). field_of s 82 1) is
  base_forkoff Base.Free a can is = ap (λ (c : Core). c.forkoff) is.stated
  base_forkoff (Base.Fresh core) a can is = ap (λ (c : Core). c.forkoff) is.stated ∙ can.no_attributes

  -- a base is sealed
  base_sealed : (base : SlotBase) (a : List ℕ) → CanBase v ino base old → IsBased v generation ino base old a → is_sealed (slot_seal v ino) a ≡ true
  base_sealed Base.Kept a can is = subst (λ (s : List ℕ). is_sealed (slot_seal v ino) s ≡ true) (sym is) can
  base_sealed Base.Free a can is = free_sealed v ino a is.read
  base_sealed (Base.Fresh core) a can is =
      subst (λ (n : ℕ). is_sealed (slot_seal v n) a ≡ true) can.number (used_sealed v core.ino a (record core { crc = little_field_of a 100 4 }) is.read)

module _ (v : Volume) (ino : ℕ) where
  -- what holds of two slots on the way: they are the same, the attribute fork begins here, and both are sealed
  record OnWay (forkoff : ℕ) (a b : List ℕ) : Type 0 where
    same : SameSlot a b
    off : field_of a 82 1 ≡ forkoff
    first : is_sealed (slot_seal v ino) a ≡ true
    second : is_sealed (slot_seal v ino) b ≡ true

  module _ (forkoff : ℕ) (low : forkoff ≤ 41) (x y a b : List ℕ) (on : OnWay forkoff x y) where
    inside_of : field_of x 82 1 ≤ 41
    inside_of = subst (λ (n : ℕ). n ≤ 41) (sym on.off) low

    by_attrs : (drop : Option ℕ) → MatchOption drop (a ≡ x) (λ nblocks. DropsAttrs v ino nblocks x a) → MatchOption drop (b ≡ y) (λ nblocks. DropsAttrs v ino nblocks y b) → OnWay forkoff a b
    by_attrs None ia ib = subst (λ (p : List ℕ). OnWay forkoff a p) (sym ib) (subst (λ (p : List ℕ). OnWay forkoff p y) (sym ia) on)
    by_attrs (Some n) ia ib = record {
      same = attrs_same v ino n x y a b inside_of on.same ia ib;
      off = ap (λ (c : Core). c.forkoff) ia.stated ∙ on.off;
      first = ia.sealed;
      second = ib.sealed;
    }

    by_fork : (fork : Option ForkWanted) → MatchOption fork (Unit {0}) (CanFork forkoff) → MatchOption fork (a ≡ x) (λ f. SetsFork v ino f x a) → MatchOption fork (b ≡ y) (λ f. SetsFork v ino f y b) → OnWay forkoff a b
    by_fork None can ia ib = subst (λ (p : List ℕ). OnWay forkoff a p) (sym ib) (subst (λ (p : List ℕ). OnWay forkoff p y) (sym ia) on)
    by_fork (Some f) can ia ib = record {
      same = fork_same v ino f x y a b inside_of (subst (λ (n : ℕ). length f.bytes ≤ fork_bytes n) (sym on.off) can.short) on.same ia ib;
      off = ap (λ (c : Core). c.forkoff) ia.stated ∙ on.off;
      first = ia.sealed;
      second = ib.sealed;
    }

    by_links : (nlink : Option ℕ) → MatchOption nlink (a ≡ x) (λ n. SetsLinks v ino n x a) → MatchOption nlink (b ≡ y) (λ n. SetsLinks v ino n y b) → OnWay forkoff a b
    by_links None ia ib = subst (λ (p : List ℕ). OnWay forkoff a p) (sym ib) (subst (λ (p : List ℕ). OnWay forkoff p y) (sym ia) on)
    by_links (Some n) ia ib = record {
      same = links_same v ino n x y a b on.same ia ib;
      off = ap (λ (c : Core). c.forkoff) ia.stated ∙ on.off;
      first = ia.sealed;
      second = ib.sealed;
    }

pub made_one : (v : Volume) (generation : ℕ) (w : SlotWanted) (old a b : List ℕ) → CanMake v w old → AreSized 512 a → AreSized 512 b → IsMadeSlot v generation w old a → IsMadeSlot v generation w old b → a ≡ b
made_one v generation w old a b can sa sb ia ib =
    let forkoff : ℕ = forkoff_of w.base old in
    let based : OnWay v w.ino forkoff ia.based ib.based = record {
      same = base_same v w.ino generation old w.base ia.based ib.based ia.base ib.base;
      off = base_forkoff v w.ino generation old w.base ia.based can.base ia.base;
      first = base_sealed v w.ino generation old w.base ia.based can.base ia.base;
      second = base_sealed v w.ino generation old w.base ib.based can.base ib.base;
    } in
    let bare = by_attrs v w.ino forkoff can.forkoff ia.based ib.based ia.bare ib.bare based w.drop_attrs ia.attrs ib.attrs in
    let forked = by_fork v w.ino forkoff can.forkoff ia.bare ib.bare ia.forked ib.forked bare w.fork can.fork ia.fork ib.fork in
    let new = by_links v w.ino forkoff can.forkoff ia.forked ib.forked a b forked w.nlink ia.links ib.links in
    one_of v w.ino a b sa sb new.first new.second new.same

-- what is wanted of a slot, where something is
module _ (v : Volume) (generation : ℕ) (old a b : List ℕ) (sa : AreSized 512 a) (sb : AreSized 512 b) where
  due_one : (w : Option SlotWanted) → MatchOption w (Unit {0}) (λ w. CanMake v w old) → MatchOption w (a ≡ old) (λ w. IsMadeSlot v generation w old a)
      → MatchOption w (b ≡ old) (λ w. IsMadeSlot v generation w old b) → a ≡ b
  due_one None can ia ib = ia ∙ sym ib
  due_one (Some w) can ia ib = made_one v generation w old a b can sa sb ia ib

-- and of the eight slots of a block
module _ (v : Volume) (generation : ℕ) (slots : List SlotWanted) (number : ℕ) (old a b : List ℕ) (can : CanCluster v slots number old) (sa : AreSized 4096 a) (sb : AreSized 4096 b)
    (ia : IsClusterBlock v generation slots number old a) (ib : IsClusterBlock v generation slots number old b) where
  at_slot : (k : ℕ) → k < 8 → part_of a (512 * k) 512 ≡ part_of b (512 * k) 512
  at_slot k low =
      due_one v generation (slot_in old k) (slot_in a k) (slot_in b k) (part_sized 4096 (512 * k) 512 a (omega (arith, low)) sa) (part_sized 4096 (512 * k) 512 b (omega (arith, low)) sb)
      (wanted_of slots (inode_of v number k)) (can.each k low) (ia.each k low) (ib.each k low)

  pub cluster_one : a ≡ b
  cluster_one =
      sym (whole_part a 4096 sa.size)
      ∙ same_parts a b 0 (512 ∷ 512 ∷ 512 ∷ 512 ∷ 512 ∷ 512 ∷ 512 ∷ 512 ∷ []) (at_slot 0 (omega arith), (at_slot 1 (omega arith), (at_slot 2 (omega arith), (at_slot 3 (omega arith), (at_slot 4 (omega arith), (at_slot 5 (omega arith), (at_slot 6 (omega arith), (at_slot 7 (omega arith), tt))))))))
      ∙ whole_part b 4096 sb.size
