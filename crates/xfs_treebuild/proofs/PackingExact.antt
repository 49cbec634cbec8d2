-- Blocks of which nothing is left open: what was zero before the items and the header were written is zero behind them.
use Rattle.std.proofs.Common.{◌≡◌, ℕ, ◌+◌, ◌-◌, ◌*◌, ◌<◌, ◌≤◌, inl, inr, true, List, length, take, drop, replicate, sym, ◌∙◌, ap, subst, below_more, arith}
use Rattle.std.proofs.lemmas.List.{take-replicate, drop-replicate, length-take-le, length-drop}
use Rattle.std.proofs.Math.Nat.{mul-le-mul_right}
use Rattle.xfs_word.specs.Field.{part_of, Beside, KeepsParts}
use Rattle.xfs_geom.specs.Volumes.{Volume}
use Rattle.xfs_tree.specs.declared.layout.Layout.{Layout}
use Rattle.xfs_tree.specs.Layout.{IsLayout, header_len, keys_len, pointer_len}
use Rattle.xfs_tree.specs.Shape.{Shape}
use Rattle.xfs_tree.specs.Blocks.{count_of, record_place, key_place, pointer_place}
use Rattle.xfs_treebuild.specs.Exact.{AreZero, IsZeroBlock, pointers_place, KeepsBesideChild, KeepsBesideChildren, IsSpelt, HasSpeltKeys, IsExact}
use Rattle.xfs_treebuild.specs.Private.Placed.{IsHeaded}
use Rattle.xfs_treebuild.proofs.PackingItems.{apart, pairs_len, key_within}

-- a run of zeros
pub clear_run : (block : List ℕ) (n at width : ℕ) → block ≡ replicate n 0 → at + width ≤ n → part_of block at width ≡ replicate width 0
unfolding part_of
clear_run block n at width all inside =
    let fits : width ≤ n - at = omega arith in
    ap (λ (b : List ℕ). take width (drop at b)) all
    ∙ (ap (λ (b : List ℕ). take width b) (drop-replicate at n 0) ∙ take-replicate width (n - at) 0 fits)

-- beside so many items and one more lies what lies beside both
beside_first : (at i w a n : ℕ) → Beside at ((i + 1) * w) a n → Beside at (i * w) a n
beside_first at i w a n b = elim b [ inl low ↦ inl low | inr high ↦ inr (omega (arith, high)) ]

beside_next : (at i w a n : ℕ) → Beside at ((i + 1) * w) a n → Beside (at + i * w) w a n
beside_next at i w a n b = elim b [ inl low ↦ inl (omega (arith, low)) | inr high ↦ inr (omega (arith, high)) ]

pub items_on : (old mid new : List ℕ) (at i w : ℕ) → KeepsParts old mid at (i * w) → KeepsParts mid new (at + i * w) w → KeepsParts old new at ((i + 1) * w)
items_on old mid new at i w first next = λ a n beside. next a n (beside_next at i w a n beside) ∙ first a n (beside_first at i w a n beside)

pub children_on : (l : Layout) (old mid new : List ℕ) (i : ℕ) → KeepsBesideChildren l i old mid → KeepsBesideChild l i mid new
    → KeepsBesideChildren l (i + 1) old new
children_on l old mid new i first next = λ a n keys pointers.
    next a n (beside_next (header_len l) i (keys_len l) a n keys) (beside_next (pointers_place l) i (pointer_len l) a n pointers)
    ∙ first a n (beside_first (header_len l) i (keys_len l) a n keys) (beside_first (pointers_place l) i (pointer_len l) a n pointers)

-- how many items a share has
pub share_length : {A : Type 0} (items : List A) (from share : ℕ) → from + share ≤ length items
    → length (take (from + share - from) (drop from items)) ≡ share
share_length items from share inside =
    let rest = length-drop from items in
    let width : from + share - from ≡ share = omega arith in
    length-take-le (from + share - from) (drop from items) (omega (arith, rest, inside)) ∙ width

-- the items of a block lie inside it
full_items : (h n most w : ℕ) → n ≤ most → h + most * w ≤ 4096 → h + n * w ≤ 4096
full_items h n most w few fits =
    let times : n * w ≤ most * w = mul-le-mul_right w few in
    omega (arith, times, fits)

module _ {R K : Type 0} (s : Shape R K) where
  spelt_same : (old new : List ℕ) (at : ℕ) → part_of new at s.layout.key_len ≡ part_of old at s.layout.key_len
      → IsSpelt s (part_of old at s.layout.key_len) → IsSpelt s (part_of new at s.layout.key_len)
  spelt_same old new at same was = subst (IsSpelt s) (sym same) was

  -- a key that was put is spelt
  pub spelt_put : (bytes : List ℕ) (key : K) → bytes ≡ s.key_bytes key → s.key_of (s.key_bytes key) ≡ key → IsSpelt s bytes
  spelt_put bytes key is again = is ∙ ap s.key_bytes (sym (ap s.key_of is ∙ again))

  keys_same : (old new : List ℕ) (k : ℕ) → part_of new (key_place s.layout k) s.layout.key_len ≡ part_of old (key_place s.layout k) s.layout.key_len
      → (s.layout.high ≡ true → part_of new (key_place s.layout k + s.layout.key_len) s.layout.key_len ≡ part_of old (key_place s.layout k + s.layout.key_len) s.layout.key_len)
      → HasSpeltKeys s k old → HasSpeltKeys s k new
  keys_same old new k low high was = record {
    low = spelt_same old new (key_place s.layout k) low was.low;
    high = λ pairs. spelt_same old new (key_place s.layout k + s.layout.key_len) (high pairs) (was.high pairs);
  }

  -- keys stay where the pointer of their child is written
  pub keys_put : (mid new : List ℕ) (i : ℕ) → i < s.layout.node_cap → KeepsParts mid new (pointer_place s.layout i) (pointer_len s.layout)
      → HasSpeltKeys s i mid → HasSpeltKeys s i new
  keys_put mid new i inside same was =
      let l = s.layout in
      let h = header_len l in
      let w = keys_len l in
      let cap_keys : h + i * w + w ≤ h + l.node_cap * w = apart h w i l.node_cap inside in
      let within : l.key_len ≤ w = key_within l in
      let a : key_place l i + l.key_len ≤ pointer_place l i = omega (arith, cap_keys, within) in
      keys_same mid new i (same (key_place l i) l.key_len (inl a))
      (λ pairs.
      let two : w ≡ 2 * l.key_len = pairs_len l pairs in
      let e : key_place l i + l.key_len + l.key_len ≤ pointer_place l i = omega (arith, cap_keys, two) in
      same (key_place l i + l.key_len) l.key_len (inl e)) was

  -- and where a child behind it is written
  keys_beside : (old new : List ℕ) (k i : ℕ) → k < i → i < s.layout.node_cap → KeepsBesideChild s.layout i old new
      → HasSpeltKeys s k old → HasSpeltKeys s k new
  keys_beside old new k i before inside same was =
      let l = s.layout in
      let h = header_len l in
      let w = keys_len l in
      let cap_keys : h + i * w + w ≤ h + l.node_cap * w = apart h w i l.node_cap inside in
      let low_keys : h + k * w + w ≤ h + i * w = apart h w k i before in
      let within : l.key_len ≤ w = key_within l in
      let c : key_place l k + l.key_len ≤ pointer_place l i = omega (arith, cap_keys, low_keys, within) in
      let d : key_place l k + l.key_len ≤ key_place l i = omega (arith, low_keys, within) in
      keys_same old new k (same (key_place l k) l.key_len (inl d) (inl c))
      (λ pairs.
      let two : w ≡ 2 * l.key_len = pairs_len l pairs in
      let e : key_place l k + l.key_len + l.key_len ≤ pointer_place l i = omega (arith, cap_keys, low_keys, two) in
      let f : key_place l k + l.key_len + l.key_len ≤ key_place l i = omega (arith, low_keys, two) in
      same (key_place l k + l.key_len) l.key_len (inl f) (inl e)) was

  -- a child more
  pub keys_more : (old new : List ℕ) (i : ℕ) → i < s.layout.node_cap → KeepsBesideChild s.layout i old new
      → ((k : ℕ) → k < i → HasSpeltKeys s k old) → HasSpeltKeys s i new → (k : ℕ) → k < i + 1 → HasSpeltKeys s k new
  keys_more old new i inside same below here =
      below_more (λ k. HasSpeltKeys s k new) i (λ k before. keys_beside old new k i before inside same (below k before)) here

  -- a leaf of so many records that was zero before
  pub leaf_exact : (v : Volume) (row : List ℕ) (i n : ℕ) (start mid new : List ℕ) → IsLayout s.layout → n ≤ s.layout.leaf_cap → IsZeroBlock start
      → KeepsParts start mid (header_len s.layout) (n * s.layout.record_len) → KeepsParts mid new 0 (header_len s.layout)
      → IsHeaded v s.layout s.owner 0 row i new → count_of new ≡ n → IsExact s new
  leaf_exact v row i n start mid new sound few clear items head headed count =
      let l = s.layout in
      let inside : record_place l n ≤ 4096 = full_items (header_len l) n l.leaf_cap l.record_len few sound.leaf_fits in
      let behind : 0 + header_len l ≤ record_place l n = omega arith in
      let end : header_len l + n * l.record_len ≤ record_place l n = omega arith in
      record {
        pad = headed.at_pad;
        blank = record {
          records = λ _. subst (λ (m : ℕ). AreZero new (record_place l m) 4096) (sym count)
              (head (record_place l n) (4096 - record_place l n) (inr behind)
              ∙ items (record_place l n) (4096 - record_place l n) (inr end)
              ∙ clear (record_place l n) (4096 - record_place l n) (omega (arith, inside)));
          keys = λ up. absurd (omega (arith, up, headed.at_level));
          pointers = λ up. absurd (omega (arith, up, headed.at_level));
        };
        keys = λ up. absurd (omega (arith, up, headed.at_level));
      }

  -- a node of so many children that was zero before
  pub node_exact : (v : Volume) (level : ℕ) (row : List ℕ) (i n : ℕ) (start mid new : List ℕ) → IsLayout s.layout → n ≤ s.layout.node_cap → IsZeroBlock start
      → KeepsBesideChildren s.layout n start mid → KeepsParts mid new 0 (header_len s.layout) → ((k : ℕ) → k < n → HasSpeltKeys s k mid)
      → IsHeaded v s.layout s.owner (level + 1) row i new → count_of new ≡ n → IsExact s new
  node_exact v level row i n start mid new sound few clear items head spelt headed count =
      let l = s.layout in
      let w = keys_len l in
      let keys_fit : header_len l + n * w ≤ pointers_place l =
      let times : n * w ≤ l.node_cap * w = mul-le-mul_right w few in omega (arith, times) in
      let pointers_fit : pointers_place l + n * pointer_len l ≤ 4096 =
      let times : n * pointer_len l ≤ l.node_cap * pointer_len l = mul-le-mul_right (pointer_len l) few in omega (arith, times, sound.node_fits) in
      record {
        pad = headed.at_pad;
        blank = record {
          records = λ leaf. absurd (omega (arith, leaf, headed.at_level));
          keys = λ _. subst (λ (m : ℕ). AreZero new (key_place l m) (pointer_place l 0)) (sym count)
              (let from = key_place l n in
              let width = pointer_place l 0 - from in
              head from width (inr (omega arith))
              ∙ items from width (inr (omega arith)) (inl (omega (arith, keys_fit)))
              ∙ clear from width (omega (arith, keys_fit, pointers_fit)));
          pointers = λ _. subst (λ (m : ℕ). AreZero new (pointer_place l m) 4096) (sym count)
              (let from = pointer_place l n in
              let width = 4096 - from in
              head from width (inr (omega arith))
              ∙ items from width (inr (omega (arith, keys_fit))) (inr (omega arith))
              ∙ clear from width (omega (arith, pointers_fit)));
        };
        keys = λ up k less.
            let low : 0 + header_len l ≤ key_place l k = omega arith in
            let high : 0 + header_len l ≤ key_place l k + l.key_len = omega arith in
            keys_same mid new k (head (key_place l k) l.key_len (inr low)) (λ pairs. head (key_place l k + l.key_len) l.key_len (inr high))
            (spelt k (omega (arith, less, count)));
      }
