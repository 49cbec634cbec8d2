-- Two blocks of one place of a tree that hold the same items are the same.
use Rattle.std.proofs.Common.{◌≡◌, ℕ, ◌+◌, ◌-◌, ◌*◌, ◌<◌, ◌≤◌, ◌==◌, ◌&&◌, ◌||◌, not, Bool, true, false, nat_le, if◌then◌else◌, List, [], ◌∷◌, get_or, Option, Some, None, refl, sym, ◌∙◌, ap, subst, arith}
use Rattle.std.proofs.Math.Nat.{mul-le-mul_right}
use Rattle.std.proofs.lemmas.Bool.{and_parts, eqb-true, leb-true}
use Rattle.std.proofs.lemmas.Bool.Decides.{nat_tests}
use Rattle.std.proofs.lemmas.List.FromFn.{get_or-map-range_with_len}
use Rattle.xfs_word.specs.Field.{field_of, part_of}
use Rattle.xfs_word.specs.Seal.{is_sealed}
use Rattle.xfs_word.specs.declared.kinds.Seal.{Seal}
use Rattle.xfs_word.specs.declared.kinds.SealKind.TheVariants.{ShortTree, LongTree}
use Rattle.xfs_geom.specs.Conversions.{block_at}
use Rattle.xfs_geom.specs.First.{first_false}
use Rattle.xfs_geom.specs.Volumes.{Volume}
use Rattle.xfs_tree.specs.declared.layout.Layout.{Layout}
use Rattle.xfs_tree.specs.declared.seats.Seat.{Seat}
use Rattle.xfs_tree.specs.Blocks.{block_of_pointer, capacity, child_at, count_of, each_of, high_at, key_place, left_of, level_of, low_at, no_sibling, number_or_ones, pointer_at, pointer_place, record_at, record_place, right_of}
use Rattle.xfs_tree.specs.Layout.{IsLayout, header_len, keys_len, pointer_len}
use Rattle.xfs_tree.specs.Rules.{address_or_ones, block_fault, block_seal, bound_agrees, high_of, is_ordered, is_sibling, least_of, low_of}
use Rattle.xfs_tree.specs.Shape.{Shape}
use Rattle.xfs_treebuild.specs.Exact.{AreZero, IsExact, IsSpelt}
use Rattle.xfs_treebuild.specs.Packing.{lsn_of}
use Rattle.xfs_settled.specs.Sectors.{AreSized}
use Rattle.xfs_settled.proofs.Headers.{part_sized}
use Rattle.xfs_settled.proofs.Sealing.{same_join, same_number}
use Rattle.xfs_settled.proofs.TreeBytes.{SameHead, ShortSeal, block_one, leaf_body, node_body, short_seal}

passed : (number : ℕ) (test : Bool) (tests : List (ℕ × Bool)) → first_false ((number, test) ∷ tests) ≡ None → (test ≡ true) × (first_false tests ≡ None)
passed number true tests h = (refl, h)
passed number false tests h = cc

-- of six tests those that say something of the bytes
six_passed : (a b c d e f : Bool) → first_false ((3, a) ∷ (4, b) ∷ (5, c) ∷ (6, d) ∷ (7, e) ∷ (8, f) ∷ []) ≡ None → (a ≡ true) × (b ≡ true) × (c ≡ true) × (f ≡ true)
six_passed a b c d e f h =
    let of_a = passed 3 a ((4, b) ∷ (5, c) ∷ (6, d) ∷ (7, e) ∷ (8, f) ∷ []) h in
    let of_b = passed 4 b ((5, c) ∷ (6, d) ∷ (7, e) ∷ (8, f) ∷ []) of_a.1 in
    let of_c = passed 5 c ((6, d) ∷ (7, e) ∷ (8, f) ∷ []) of_b.1 in
    let of_d = passed 6 d ((7, e) ∷ (8, f) ∷ []) of_c.1 in
    let of_e = passed 7 e ((8, f) ∷ []) of_d.1 in
    let of_f = passed 8 f [] of_e.1 in
    (of_a.0, of_b.0, of_c.0, of_f.0)

-- a sibling is given by the neighbour
sibling_one : (v : Volume) (l : Layout) (owner : ℕ) (beside : Option ℕ) (x y : ℕ) → is_sibling v l owner beside x ≡ true → is_sibling v l owner beside y ≡ true → x ≡ y
sibling_one v l owner None x y hx hy = eqb-true x (no_sibling l) hx ∙ sym (eqb-true y (no_sibling l) hy)
sibling_one v l owner (Some block) x y hx hy = by_long l.long hx hy
  where
    by_long : (r : Bool) → (if r then x == address_or_ones v block else (owner * v.agblocks + x == block)) ≡ true
        → (if r then y == address_or_ones v block else (owner * v.agblocks + y == block)) ≡ true → x ≡ y
    by_long true hx hy = eqb-true x (address_or_ones v block) hx ∙ sym (eqb-true y (address_or_ones v block) hy)
    by_long false hx hy =
        let ex : owner * v.agblocks + x ≡ block = eqb-true (owner * v.agblocks + x) block hx in
        let ey : owner * v.agblocks + y ≡ block = eqb-true (owner * v.agblocks + y) block hy in
        omega (arith, ex, ey)

not_leaf : (level : ℕ) → 1 ≤ level → (level == 0) ≡ false
not_leaf level up = grind (arith, nat_tests)

some_one : {A : Type 0} (x y : A) → Some x ≡ Some y → x ≡ y
some_one x y same = cc

-- what each of so many is, where all are the same
pub each_one : {A : Type 0} (f g : ℕ → A) (n : ℕ) → each_of n f ≡ each_of n g → (k : ℕ) → k < n → f k ≡ g k
each_one f g n same k low =
    sym (get_or-map-range_with_len f 0 n k k (f k) low (omega arith)) ∙ ap (λ xs. get_or xs k (f k)) same
    ∙ get_or-map-range_with_len g 0 n k k (f k) low (omega arith)

module _ {R K : Type 0} (s : Shape R K) (v : Volume) where
  -- what is read of a block that breaks no rule
  pub record IsTested (level : ℕ) (left right : Option ℕ) (place : ℕ) (block : List ℕ) : Type 0 where
    pub sealed : is_sealed (block_seal v s.layout s.owner place) block ≡ true
    pub level' : level_of block ≡ level
    pub room : count_of block ≤ capacity s.layout level
    pub left' : is_sibling v s.layout s.owner left (left_of s.layout block) ≡ true
    pub right' : is_sibling v s.layout s.owner right (right_of s.layout block) ≡ true

  pub tested : (level : ℕ) (left right : Option ℕ) (before : Option R) (seat : Seat K) (block : List ℕ) → block_fault s v level left right before seat block ≡ None
      → IsTested level left right seat.place block
  unfolding block_fault
  tested level left right before seat block none =
      let count = nat_le (least_of level seat.low) (count_of block) in
      let room = nat_le (count_of block) (capacity s.layout level) in
      let to_left = is_sibling v s.layout s.owner left (left_of s.layout block) in
      let to_right = is_sibling v s.layout s.owner right (right_of s.layout block) in
      let six =
      six_passed (is_sealed (block_seal v s.layout s.owner seat.place) block) (level_of block == level) (count && room) (is_ordered s v level before block)
      (bound_agrees s seat.low (low_of s level block) && (not s.layout.high || bound_agrees s seat.high (high_of s level block)))
      (to_left && to_right) none in
      let beside = and_parts to_left to_right six.3 in
      record {
        sealed = six.0;
        level' = eqb-true (level_of block) level six.1;
        room = leb-true (count_of block) (capacity s.layout level) (and_parts count room six.2).1;
        left' = beside.0;
        right' = beside.1;
      }

  -- a tree with the short header, whose records are given by what is read of their bytes
  pub record IsShort : Type 0 where
    pub short : s.layout.long ≡ false
    pub laid : IsLayout s.layout
    pub records : (x y : List ℕ) → AreSized s.layout.record_len x → AreSized s.layout.record_len y → s.record_of x ≡ s.record_of y → x ≡ y

  module _ (is : IsShort) (level place : ℕ) (left right : Option ℕ) (a b : List ℕ) (sa : AreSized 4096 a) (sb : AreSized 4096 b)
      (ta : IsTested level left right place a) (tb : IsTested level left right place b) (count : count_of a ≡ count_of b)
      (la : lsn_of s.layout a ≡ 0) (lb : lsn_of s.layout b ≡ 0) (xa : IsExact s a) (xb : IsExact s b) where
    seal_of : (block : List ℕ) → is_sealed (block_seal v s.layout s.owner place) block ≡ true → ShortSeal s.layout.magic (8 * place) s.owner v.uuid block
    seal_of block sealed =
        let seal : Bool → Seal = λ r. let q : Seal = record { kind = if r then LongTree else ShortTree s.layout.magic; place = 8 * place; owner = Some s.owner; uuid = v.uuid } in q in
        short_seal s.layout.magic (8 * place) s.owner v.uuid block (subst (λ (r : Bool). is_sealed (seal r) block ≡ true) is.short sealed)

    lsn_short : (block : List ℕ) → lsn_of s.layout block ≡ 0 → field_of block 24 8 ≡ 0
    lsn_short block none = subst (λ (r : Bool). field_of block (if r then 32 else 24) 8 ≡ 0) is.short none

    head_same : SameHead a b
    head_same =
        let ka = seal_of a ta.sealed in
        let kb = seal_of b tb.sealed in
        let to_left : left_of s.layout a ≡ left_of s.layout b = sibling_one v s.layout s.owner left (left_of s.layout a) (left_of s.layout b) ta.left' tb.left' in
        let to_right : right_of s.layout a ≡ right_of s.layout b = sibling_one v s.layout s.owner right (right_of s.layout a) (right_of s.layout b) ta.right' tb.right' in
        record {
          magic = ka.magic' ∙ sym kb.magic';
          level = ta.level' ∙ sym tb.level';
          count = count;
          left = subst (λ (r : Bool). field_of a 8 (if r then 8 else 4) ≡ field_of b 8 (if r then 8 else 4)) is.short to_left;
          right = subst (λ (r : Bool). field_of a (8 + (if r then 8 else 4)) (if r then 8 else 4) ≡ field_of b (8 + (if r then 8 else 4)) (if r then 8 else 4)) is.short to_right;
          address = ka.address ∙ sym kb.address;
          lsn = lsn_short a la ∙ sym (lsn_short b lb);
          identifier = ka.identifier ∙ sym kb.identifier;
          owner = ka.owner' ∙ sym kb.owner';
        }

    by_body : part_of a (header_len s.layout) (4096 - header_len s.layout) ≡ part_of b (header_len s.layout) (4096 - header_len s.layout) → a ≡ b
    by_body body =
        block_one a b sa sb head_same (seal_of a ta.sealed).checksum (seal_of b tb.sealed).checksum
        (subst (λ (r : Bool). part_of a (if r then 72 else 56) (4096 - (if r then 72 else 56)) ≡ part_of b (if r then 72 else 56) (4096 - (if r then 72 else 56))) is.short body)

    -- the zeros of the second block begin where those of the first do
    zero_from : (from : ℕ → ℕ) (to : ℕ) → AreZero b (from (count_of b)) to → AreZero b (from (count_of a)) to
    zero_from from to none = subst (λ (n : ℕ). AreZero b (from n) to) (sym count) none

    -- a leaf
    pub leaf_same : level ≡ 0 → each_of (count_of a) (record_at s a) ≡ each_of (count_of b) (record_at s b) → a ≡ b
    leaf_same none same =
        let l = s.layout in
        let n : ℕ = count_of a in
        let all : each_of n (record_at s a) ≡ each_of n (record_at s b) = same ∙ ap (λ (m : ℕ). each_of m (record_at s b)) (sym count) in
        let few : n ≤ l.leaf_cap = subst (λ (m : ℕ). n ≤ capacity l m) none ta.room in
        let times : n * l.record_len ≤ l.leaf_cap * l.record_len = mul-le-mul_right l.record_len few in
        let inside : record_place l n ≤ 4096 = omega (arith, times, is.laid.leaf_fits) in
        let each : (k : ℕ) → k < n → part_of a (record_place l k) l.record_len ≡ part_of b (record_place l k) l.record_len =
        λ k low.
        let part : (k + 1) * l.record_len ≤ n * l.record_len = mul-le-mul_right l.record_len (omega (arith, low)) in
        let next : (k + 1) * l.record_len ≡ k * l.record_len + l.record_len = omega arith in
        let within : record_place l k + l.record_len ≤ 4096 = omega (arith, part, next, inside) in
        is.records (part_of a (record_place l k) l.record_len) (part_of b (record_place l k) l.record_len)
        (part_sized 4096 (record_place l k) l.record_len a within sa) (part_sized 4096 (record_place l k) l.record_len b within sb)
        (each_one (record_at s a) (record_at s b) n all k low) in
        by_body (leaf_body l a b n inside each (xa.blank.records (ta.level' ∙ none)) (zero_from (λ m. record_place l m) 4096 (xb.blank.records (tb.level' ∙ none))))

    -- the keys of a child
    spelt_same : (at : ℕ) → IsSpelt s (part_of a at s.layout.key_len) → IsSpelt s (part_of b at s.layout.key_len)
        → s.key_of (part_of a at s.layout.key_len) ≡ s.key_of (part_of b at s.layout.key_len) → part_of a at s.layout.key_len ≡ part_of b at s.layout.key_len
    spelt_same at ia ib same = ia ∙ ap s.key_bytes same ∙ sym ib

    keys_same : (r : Bool) → s.layout.high ≡ r → (at w : ℕ) → part_of a at w ≡ part_of b at w → (s.layout.high ≡ true → part_of a (at + w) w ≡ part_of b (at + w) w)
        → part_of a at (if r then 2 * w else w) ≡ part_of b at (if r then 2 * w else w)
    keys_same true pairs at w low high =
        let two : w + w ≡ 2 * w = omega arith in
        subst (λ (m : ℕ). part_of a at m ≡ part_of b at m) two (same_join a b at w w low (high pairs))
    keys_same false single at w low high = low

    high_same : (r : Bool) (x y : K) → (if r then Some x else None) ≡ (if r then Some y else None) → r ≡ true → x ≡ y
    high_same true x y same yes' = some_one x y same
    high_same false x y same yes' = absurd cc

    -- the pointer to a child
    pointer_same : (k : ℕ) → pointer_place s.layout k + pointer_len s.layout ≤ 4096
        → block_of_pointer v s.layout s.owner (pointer_at s.layout a k) ≡ block_of_pointer v s.layout s.owner (pointer_at s.layout b k)
        → part_of a (pointer_place s.layout k) (pointer_len s.layout) ≡ part_of b (pointer_place s.layout k) (pointer_len s.layout)
    pointer_same k within same =
        let x : ℕ = pointer_at s.layout a k in
        let y : ℕ = pointer_at s.layout b k in
        let summed : s.owner * v.agblocks + x ≡ s.owner * v.agblocks + y =
        subst (λ (r : Bool). (if r then number_or_ones (block_at v x) else (s.owner * v.agblocks + x)) ≡ (if r then number_or_ones (block_at v y) else (s.owner * v.agblocks + y))) is.short same in
        same_number a b 4096 (pointer_place s.layout k) (pointer_len s.layout) sa sb within (omega (arith, summed))

    -- a node
    pub node_same : 1 ≤ level → each_of (count_of a) (child_at s v a) ≡ each_of (count_of b) (child_at s v b) → a ≡ b
    node_same up same =
        let l = s.layout in
        let n : ℕ = count_of a in
        let all : each_of n (child_at s v a) ≡ each_of n (child_at s v b) = same ∙ ap (λ (m : ℕ). each_of m (child_at s v b)) (sym count) in
        let no : (level == 0) ≡ false = not_leaf level up in
        let few : n ≤ l.node_cap = subst (λ (r : Bool). n ≤ (if r then l.leaf_cap else l.node_cap)) no ta.room in
        let times : n * pointer_len l ≤ l.node_cap * pointer_len l = mul-le-mul_right (pointer_len l) few in
        let both : l.node_cap * (keys_len l + pointer_len l) ≡ l.node_cap * keys_len l + l.node_cap * pointer_len l = omega arith in
        let inside : pointer_place l n ≤ 4096 = omega (arith, times, both, is.laid.node_fits) in
        let child : (k : ℕ) → k < n → child_at s v a k ≡ child_at s v b k = each_one (child_at s v a) (child_at s v b) n all in
        let ua : 1 ≤ level_of a = omega (arith, up, ta.level') in
        let ub : 1 ≤ level_of b = omega (arith, up, tb.level') in
        let pointers : (k : ℕ) → k < n → part_of a (pointer_place l k) (pointer_len l) ≡ part_of b (pointer_place l k) (pointer_len l) =
        λ k low.
        let part : (k + 1) * pointer_len l ≤ n * pointer_len l = mul-le-mul_right (pointer_len l) (omega (arith, low)) in
        let next : (k + 1) * pointer_len l ≡ k * pointer_len l + pointer_len l = omega arith in
        pointer_same k (omega (arith, part, next, inside)) (ap (λ (c : Seat K). c.place) (child k low)) in
        let keys : (k : ℕ) → k < n → part_of a (key_place l k) (keys_len l) ≡ part_of b (key_place l k) (keys_len l) =
        λ k low.
        let spelt_a = xa.keys ua k low in
        let spelt_b = xb.keys ub k (omega (arith, low, count)) in
        keys_same l.high refl (key_place l k) l.key_len
        (spelt_same (key_place l k) spelt_a.low spelt_b.low (some_one (low_at s a k) (low_at s b k) (ap (λ (c : Seat K). c.low) (child k low))))
        (λ pairs. spelt_same (key_place l k + l.key_len) (spelt_a.high pairs) (spelt_b.high pairs)
        (high_same l.high (high_at s a k) (high_at s b k) (ap (λ (c : Seat K). c.high) (child k low)) pairs)) in
        by_body (node_body l a b n few inside keys pointers (xa.blank.keys ua) (zero_from (λ m. key_place l m) (pointer_place l 0) (xb.blank.keys ub)) (xa.blank.pointers ua) (zero_from (λ m. pointer_place l m) 4096 (xb.blank.pointers ub)))
