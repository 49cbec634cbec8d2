-- The items of a block stay where others are written.
use Rattle.std.proofs.Common.{◌≡◌, ℕ, ◌+◌, ◌*◌, ◌<◌, ◌≤◌, inl, inr, Bool, true, false, if◌then◌else◌, List, length, get_or, Option, Some, None, refl, sym, ◌∙◌, ap, below_more, arith}
use Rattle.std.proofs.lemmas.List.{get_or_default}
use Rattle.std.proofs.Math.Nat.{mul-le-mul_right}
use Rattle.xfs_word.specs.Field.{part_of, KeepsBeside, KeepsParts}
use Rattle.xfs_geom.specs.Volumes.{Volume}
use Rattle.xfs_tree.specs.declared.layout.Layout.{Layout}
use Rattle.xfs_tree.specs.declared.seats.Seat.{Seat}
use Rattle.xfs_tree.specs.Layout.{header_len, keys_len, pointer_len}
use Rattle.xfs_tree.specs.Shape.{Shape}
use Rattle.xfs_tree.specs.Blocks.{record_place, key_place, pointer_place, pointer_at, block_of_pointer, record_at, low_at, high_at, child_at}

-- items of one length stand one behind the other
pub apart : (h w k i : ℕ) → k < i → h + k * w + w ≤ h + i * w
apart h w k i before =
    let next : (k + 1) * w ≤ i * w = mul-le-mul_right w (omega arith) in
    omega (arith, next)

pub pairs_len : (l : Layout) → l.high ≡ true → keys_len l ≡ 2 * l.key_len
pairs_len l pairs = ap (λ (r : Bool). if r then 2 * l.key_len else l.key_len) pairs

by_pairs : (r : Bool) (n : ℕ) → n ≤ (if r then 2 * n else n)
by_pairs true n = omega arith
by_pairs false n = omega arith

pub key_within : (l : Layout) → l.key_len ≤ keys_len l
key_within l = by_pairs l.high l.key_len

high_kept : {K : Type 0} (r : Bool) (a b : K) → (r ≡ true → a ≡ b) → (if r then Some a else None) ≡ (if r then Some b else None)
high_kept {K = K} true a b same = ap (λ (k : K). Some k) (same refl)
high_kept {K = K} false a b same = refl

high_put : {K : Type 0} (r : Bool) (a : K) (due : Option K) → (r ≡ true → Some a ≡ due) → (r ≡ false → due ≡ None) → (if r then Some a else None) ≡ due
high_put true a due some none = some refl
high_put false a due some none = sym (none refl)

pub seat_is : {K : Type 0} (p q : ℕ) (low due : Option K) (high top : Option K) → p ≡ q → low ≡ due → high ≡ top
    → ◌≡◌ {A = Seat K} (record { place = p; low = low; high = high }) (record { place = q; low = due; high = top })
seat_is p q low due high top place_is low_is high_is = cc

module _ {R K : Type 0} (s : Shape R K) where
  -- the records of a leaf stay where its header is written
  pub record_under_header : (old new : List ℕ) (k : ℕ) → KeepsParts old new 0 (header_len s.layout) → record_at s new k ≡ record_at s old k
  record_under_header old new k same =
      let behind : 0 + header_len s.layout ≤ record_place s.layout k = omega arith in
      ap s.record_of (same (record_place s.layout k) s.layout.record_len (inr behind))

  -- a record stays where one behind it is written
  pub record_beside : (old new : List ℕ) (k i : ℕ) → k < i → KeepsParts old new (record_place s.layout i) s.layout.record_len
      → record_at s new k ≡ record_at s old k
  record_beside old new k i before same =
      ap s.record_of (same (record_place s.layout k) s.layout.record_len (inl (apart (header_len s.layout) s.layout.record_len k i before)))

  -- a record more
  pub record_more : (records : List R) (old new : List ℕ) (i : ℕ) (item : R) → i < length records → item ≡ get_or records i item
      → record_at s new i ≡ s.settled item → KeepsParts old new (record_place s.layout i) s.layout.record_len
      → ((k : ℕ) (d : R) → k < i → record_at s old k ≡ s.settled (get_or records k d))
      → (k : ℕ) (d : R) → k < i + 1 → record_at s new k ≡ s.settled (get_or records k d)
  record_more records old new i item inside is put same below k d less =
      below_more (λ (j : ℕ). record_at s new j ≡ s.settled (get_or records j d)) i
      (λ j before. record_beside old new j i before same ∙ below j d before)
      (put ∙ ap s.settled (is ∙ get_or_default records i item d inside)) k less

  child_same : (v : Volume) (old new : List ℕ) (k : ℕ) → pointer_at s.layout new k ≡ pointer_at s.layout old k
      → part_of new (key_place s.layout k) s.layout.key_len ≡ part_of old (key_place s.layout k) s.layout.key_len
      → (s.layout.high ≡ true → part_of new (key_place s.layout k + s.layout.key_len) s.layout.key_len ≡ part_of old (key_place s.layout k + s.layout.key_len) s.layout.key_len)
      → child_at s v new k ≡ child_at s v old k
  child_same v old new k pointer low high =
      seat_is _ _ _ _ _ _
      (ap (λ p. block_of_pointer v s.layout s.owner p) pointer)
      (ap (λ (bytes : List ℕ). Some (s.key_of bytes)) low)
      (high_kept s.layout.high (high_at s new k) (high_at s old k) (λ pairs. ap s.key_of (high pairs)))

  -- the children of a node stay where its header is written
  pub child_under_header : (v : Volume) (old new : List ℕ) (k : ℕ) → KeepsBeside old new 0 (header_len s.layout) → KeepsParts old new 0 (header_len s.layout)
      → child_at s v new k ≡ child_at s v old k
  child_under_header v old new k same same_parts =
      let l = s.layout in
      let pointer : 0 + header_len l ≤ pointer_place l k = omega arith in
      let low : 0 + header_len l ≤ key_place l k = omega arith in
      let high : 0 + header_len l ≤ key_place l k + l.key_len = omega arith in
      child_same v old new k
      (same (pointer_place l k) (pointer_len l) (inr pointer))
      (same_parts (key_place l k) l.key_len (inr low))
      (λ pairs. same_parts (key_place l k + l.key_len) l.key_len (inr high))

  -- a child stays where the keys and the pointer of one behind it are written
  pub child_beside : (v : Volume) (old mid new : List ℕ) (k i : ℕ) → k < i → i < s.layout.node_cap
      → KeepsBeside old mid (key_place s.layout i) (keys_len s.layout) → KeepsParts old mid (key_place s.layout i) (keys_len s.layout)
      → KeepsBeside mid new (pointer_place s.layout i) (pointer_len s.layout) → KeepsParts mid new (pointer_place s.layout i) (pointer_len s.layout)
      → child_at s v new k ≡ child_at s v old k
  child_beside v old mid new k i before inside keys keys_parts pointers pointers_parts =
      let l = s.layout in
      let h = header_len l in
      let w = keys_len l in
      let cap_keys : h + i * w + w ≤ h + l.node_cap * w = apart h w i l.node_cap inside in
      let low_keys : h + k * w + w ≤ h + i * w = apart h w k i before in
      let within : l.key_len ≤ w = key_within l in
      let base : ℕ = h + l.node_cap * w in
      let a : base + k * pointer_len l + pointer_len l ≤ base + i * pointer_len l = apart base (pointer_len l) k i before in
      let b : key_place l i + w ≤ pointer_place l k = omega (arith, cap_keys) in
      let c : key_place l k + l.key_len ≤ pointer_place l i = omega (arith, cap_keys, low_keys, within) in
      let d : key_place l k + l.key_len ≤ key_place l i = omega (arith, low_keys, within) in
      child_same v old new k
      (pointers (pointer_place l k) (pointer_len l) (inl a) ∙ keys (pointer_place l k) (pointer_len l) (inr b))
      (pointers_parts (key_place l k) l.key_len (inl c) ∙ keys_parts (key_place l k) l.key_len (inl d))
      (λ pairs.
      let two : w ≡ 2 * l.key_len = pairs_len l pairs in
      let e : key_place l k + l.key_len + l.key_len ≤ pointer_place l i = omega (arith, cap_keys, low_keys, two) in
      let f : key_place l k + l.key_len + l.key_len ≤ key_place l i = omega (arith, low_keys, two) in
      pointers_parts (key_place l k + l.key_len) l.key_len (inl e) ∙ keys_parts (key_place l k + l.key_len) l.key_len (inl f))

  -- a child whose keys were written, and then its pointer
  pub child_put : (v : Volume) (mid new : List ℕ) (i : ℕ) (seat : Seat K) → i < s.layout.node_cap
      → KeepsParts mid new (pointer_place s.layout i) (pointer_len s.layout)
      → block_of_pointer v s.layout s.owner (pointer_at s.layout new i) ≡ seat.place
      → Some (low_at s mid i) ≡ seat.low → (s.layout.high ≡ true → Some (high_at s mid i) ≡ seat.high) → (s.layout.high ≡ false → seat.high ≡ None)
      → child_at s v new i ≡ seat
  child_put v mid new i seat inside same place low high one =
      let l = s.layout in
      let h = header_len l in
      let w = keys_len l in
      let cap_keys : h + i * w + w ≤ h + l.node_cap * w = apart h w i l.node_cap inside in
      let within : l.key_len ≤ w = key_within l in
      let a : key_place l i + l.key_len ≤ pointer_place l i = omega (arith, cap_keys, within) in
      seat_is _ _ _ _ _ _ place
      (ap (λ (bytes : List ℕ). Some (s.key_of bytes)) (same (key_place l i) l.key_len (inl a)) ∙ low)
      (high_put l.high (high_at s new i) seat.high
      (λ pairs.
      let two : w ≡ 2 * l.key_len = pairs_len l pairs in
      let e : key_place l i + l.key_len + l.key_len ≤ pointer_place l i = omega (arith, cap_keys, two) in
      ap (λ (bytes : List ℕ). Some (s.key_of bytes)) (same (key_place l i + l.key_len) l.key_len (inl e)) ∙ high pairs) one)
