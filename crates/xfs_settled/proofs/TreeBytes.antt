-- A block of a tree is given by its header, its items and the zeros behind them.
use Rattle.std.proofs.Common.{◌≡◌, ℕ, zero, suc, ◌+◌, ◌-◌, ◌*◌, ◌<◌, ◌≤◌, true, List, [], ◌∷◌, Some, refl, sym, ◌∙◌, subst, arith}
use Rattle.std.proofs.Math.Nat.{mul-le-mul_right}
use Rattle.std.proofs.lemmas.Bool.{and_parts, eqb-true}
use Rattle.std.proofs.lemmas.Slice.Eq.{bytes_eq-Decides}
use Rattle.xfs_word.specs.Crc.{has_checksum}
use Rattle.xfs_word.specs.Field.{field_of, part_of}
use Rattle.xfs_word.specs.Seal.{has_magic, is_ready, is_sealed}
use Rattle.xfs_word.specs.declared.kinds.SealKind.TheVariants.{ShortTree}
use Rattle.xfs_tree.specs.Blocks.{key_place, pointer_place, record_place}
use Rattle.xfs_tree.specs.Layout.{header_len, keys_len, pointer_len}
use Rattle.xfs_tree.specs.declared.layout.Layout.{Layout}
use Rattle.xfs_treebuild.specs.Exact.{AreZero}
use Rattle.xfs_settled.specs.Sectors.{AreSized}
use Rattle.xfs_settled.proofs.Sealing.{same_join, same_number, same_parts, sealed_one}

none_same : (a b : List ℕ) (at : ℕ) → part_of a at 0 ≡ part_of b at 0
unfolding part_of
none_same a b at = refl

-- parts of one width, one behind the other, are the same
pub items_same : (a b : List ℕ) (at w n : ℕ) → ((k : ℕ) → k < n → part_of a (at + k * w) w ≡ part_of b (at + k * w) w) → part_of a at (n * w) ≡ part_of b at (n * w)
items_same a b at w zero each = let none : 0 ≡ 0 * w = omega arith in subst (λ (m : ℕ). part_of a at m ≡ part_of b at m) none (none_same a b at)
items_same a b at w (suc n) each =
    let more : n * w + w ≡ suc n * w = omega arith in
    subst (λ (m : ℕ). part_of a at m ≡ part_of b at m) more
    (same_join a b at (n * w) w (items_same a b at w n (λ k low. each k (omega (arith, low)))) (each n (omega arith)))

-- a part up to one place, and the part from there up to another
pub up_to : (a b : List ℕ) (from mid to : ℕ) → from ≤ mid → mid ≤ to → part_of a from (mid - from) ≡ part_of b from (mid - from)
    → part_of a mid (to - mid) ≡ part_of b mid (to - mid) → part_of a from (to - from) ≡ part_of b from (to - from)
up_to a b from mid to low high front back =
    let at : mid ≡ from + (mid - from) = omega (arith, low) in
    let all : mid - from + (to - mid) ≡ to - from = omega (arith, low, high) in
    subst (λ (m : ℕ). part_of a from m ≡ part_of b from m) all
    (same_join a b from (mid - from) (to - mid) front (subst (λ (m : ℕ). part_of a m (to - mid) ≡ part_of b m (to - mid)) at back))

-- so many items, as the part up to their end
pub items_up : (a b : List ℕ) (from w n to : ℕ) → to ≡ from + n * w → ((k : ℕ) → k < n → part_of a (from + k * w) w ≡ part_of b (from + k * w) w)
    → part_of a from (to - from) ≡ part_of b from (to - from)
items_up a b from w n to end each =
    let long : n * w ≡ to - from = omega (arith, end) in
    subst (λ (m : ℕ). part_of a from m ≡ part_of b from m) long (items_same a b from w n each)

module _ (l : Layout) (a b : List ℕ) (n : ℕ) where
  -- what stands behind the header of a leaf
  pub leaf_body : record_place l n ≤ 4096 → ((k : ℕ) → k < n → part_of a (record_place l k) l.record_len ≡ part_of b (record_place l k) l.record_len)
      → AreZero a (record_place l n) 4096 → AreZero b (record_place l n) 4096 → part_of a (header_len l) (4096 - header_len l) ≡ part_of b (header_len l) (4096 - header_len l)
  leaf_body inside each za zb =
      up_to a b (header_len l) (record_place l n) 4096 (omega arith) inside (items_up a b (header_len l) l.record_len n (record_place l n) refl each) (za ∙ sym zb)

  -- and behind the header of a node
  pub node_body : n ≤ l.node_cap → pointer_place l n ≤ 4096
      → ((k : ℕ) → k < n → part_of a (key_place l k) (keys_len l) ≡ part_of b (key_place l k) (keys_len l))
      → ((k : ℕ) → k < n → part_of a (pointer_place l k) (pointer_len l) ≡ part_of b (pointer_place l k) (pointer_len l))
      → AreZero a (key_place l n) (pointer_place l 0) → AreZero b (key_place l n) (pointer_place l 0) → AreZero a (pointer_place l n) 4096 → AreZero b (pointer_place l n) 4096
      → part_of a (header_len l) (4096 - header_len l) ≡ part_of b (header_len l) (4096 - header_len l)
  node_body few inside keys pointers za zb ya yb =
      let h = header_len l in
      let w = keys_len l in
      let p = pointer_len l in
      let times : n * w ≤ l.node_cap * w = mul-le-mul_right w few in
      let first : pointer_place l 0 ≡ h + l.node_cap * w = omega arith in
      let front = up_to a b h (key_place l n) (pointer_place l 0) (omega arith) (omega (arith, first, times)) (items_up a b h w n (key_place l n) refl keys) (za ∙ sym zb) in
      let end : pointer_place l n ≡ pointer_place l 0 + n * p = omega (arith, first) in
      let each : (k : ℕ) → k < n → part_of a (pointer_place l 0 + k * p) p ≡ part_of b (pointer_place l 0 + k * p) p =
      λ k low.
      let there : pointer_place l k ≡ pointer_place l 0 + k * p = omega (arith, first) in
      subst (λ (m : ℕ). part_of a m p ≡ part_of b m p) there (pointers k low) in
      let back = items_up a b (pointer_place l 0) p n (pointer_place l n) end each in
      let reach : pointer_place l 0 ≤ pointer_place l n = omega (arith, end) in
      up_to a b h (pointer_place l 0) 4096 (omega (arith, first)) (omega (arith, reach, inside)) front
      (up_to a b (pointer_place l 0) (pointer_place l n) 4096 reach inside back (ya ∙ sym yb))

-- the fields of a short header but its checksum
pub record SameHead (a b : List ℕ) : Type 0 where
  pub magic : field_of a 0 4 ≡ field_of b 0 4
  pub level : field_of a 4 2 ≡ field_of b 4 2
  pub count : field_of a 6 2 ≡ field_of b 6 2
  pub left : field_of a 8 4 ≡ field_of b 8 4
  pub right : field_of a 12 4 ≡ field_of b 12 4
  pub address : field_of a 16 8 ≡ field_of b 16 8
  pub lsn : field_of a 24 8 ≡ field_of b 24 8
  pub identifier : part_of a 32 16 ≡ part_of b 32 16
  pub owner : field_of a 48 4 ≡ field_of b 48 4

pub block_one : (a b : List ℕ) → AreSized 4096 a → AreSized 4096 b → SameHead a b → has_checksum a 52 ≡ true → has_checksum b 52 ≡ true
    → part_of a 56 4040 ≡ part_of b 56 4040 → a ≡ b
block_one a b sa sb head ca cb body =
    let number : (at w : ℕ) → at + w ≤ 4096 → field_of a at w ≡ field_of b at w → part_of a at w ≡ part_of b at w =
    λ at w inside same. same_number a b 4096 at w sa sb inside same in
    sealed_one a b 52 4040 4096 (omega arith) sa sb
    (same_parts a b 0 (4 ∷ 2 ∷ 2 ∷ 4 ∷ 4 ∷ 8 ∷ 8 ∷ 16 ∷ 4 ∷ []) (number 0 4 (omega arith) head.magic, (number 4 2 (omega arith) head.level, (number 6 2 (omega arith) head.count, (number 8 4 (omega arith) head.left, (number 12 4 (omega arith) head.right, (number 16 8 (omega arith) head.address, (number 24 8 (omega arith) head.lsn, (head.identifier, (number 48 4 (omega arith) head.owner, tt))))))))))
    body ca cb

-- what a short block states of its seal
pub record ShortSeal (magic place owner : ℕ) (uuid block : List ℕ) : Type 0 where
  pub magic' : field_of block 0 4 ≡ magic
  pub identifier : part_of block 32 16 ≡ uuid
  pub address : field_of block 16 8 ≡ place
  pub owner' : field_of block 48 4 ≡ owner
  pub checksum : has_checksum block 52 ≡ true

pub short_seal : (magic place owner : ℕ) (uuid block : List ℕ) → is_sealed (record { kind = ShortTree magic; place = place; owner = Some owner; uuid = uuid }) block ≡ true
    → ShortSeal magic place owner uuid block
unfolding is_sealed is_ready has_magic
short_seal magic place owner uuid block sealed =
    let a = and_parts _ _ sealed in
    let b = and_parts _ _ a.0 in
    let c = and_parts _ _ b.0 in
    let d = and_parts _ _ c.0 in
    let e = and_parts _ _ d.0 in
    record {
      magic' = eqb-true (field_of block 0 4) magic e.0;
      identifier = (bytes_eq-Decides (part_of block 32 16) uuid).0 e.1;
      address = eqb-true (field_of block 16 8) place d.1;
      owner' = eqb-true (field_of block 48 4) owner c.1;
      checksum = a.1;
    }
