-- The uses of the blocks of a group, as a window of the volume has them.
use Rattle.std.proofs.Common.{◌≡◌, ℕ, zero, suc, ◌+◌, ◌-◌, ◌*◌, ◌≤◌, ◌<◌, inl, inr, Bool, true, false, ◌&&◌, nat_le, nat_lt, List, length, get_or, take, drop, refl, sym, ◌∙◌, ap, ap₂, arith, length-drop, length-take, get_or-take, get_or-drop}
use Rattle.std.specs.List.{list_all, range_with_len}
use Rattle.std.proofs.lemmas.Bool.{cases_lt, false_from_ne_true, le-leb, le-ltb, leb-true, lt-ltb}
use Rattle.std.proofs.lemmas.List.FromFn.{fill_by_all}
use Rattle.std.proofs.lemmas.Nat.{div-mul-add, mod-mul-add}
use Rattle.xfs_geom.specs.Conversions.{group_length}
use Rattle.xfs_geom.specs.Volumes.{Volume}
use Rattle.xfs_geom.specs.declared.records.Run.{Run}
use Rattle.xfs_place.specs.declared.uses.Use.{Use}
use Rattle.xfs_place.specs.declared.uses.Use.TheVariants.{Claimed}
use Rattle.xfs_place.specs.declared.windows.Window.{Window}
use Rattle.xfs_place.specs.Pool.{is_open, is_pool, is_pool_unspared, use_at, use_of}
use Rattle.xfs_place.specs.Wanted.{uses_in}
use Rattle.xfs_place.specs.Windows.{HasBlocks, IsWindow}
use Rattle.xfs_place.proofs.GroupIs.{use_in}
use Rattle.xfs_place.proofs.Ranges.{one_fails, same_tests}
use Rattle.xfs_place.proofs.Rooms.{open_is}

-- the part of a window that a group has
pub group_part : (v : Volume) (runs : List Run) (reserved : List ℕ) (w : Window) (ag first end : ℕ) → HasBlocks w (ag * v.agblocks) (group_length v ag) → IsWindow v runs reserved w
    → first ≡ ag * v.agblocks - w.from → end ≡ first + group_length v ag → take (end - first) (drop first w.uses.items) ≡ uses_in v runs reserved ag
unfolding uses_in
group_part v runs reserved w ag first end has stands at to =
    let n = group_length v ag in
    let count : end - first ≡ n = omega (arith, to) in
    let inside : first + n ≤ length w.uses.items = omega (arith, has.from', has.end, at) in
    ap (λ (k : ℕ). take k (drop first w.uses.items)) count
    ∙ fill_by_all (λ b. use_of v runs reserved (ag * v.agblocks + b)) (take n (drop first w.uses.items)) n Claimed
    (omega (arith, length-take n (drop first w.uses.items), length-drop first w.uses.items, inside))
    (λ k h.
    let here : w.from + (first + k) ≡ ag * v.agblocks + k = omega (arith, has.from', at) in
    get_or-take n (drop first w.uses.items) k Claimed h ∙ get_or-drop first w.uses.items k Claimed ∙ stands.shows.each (first + k) (omega (arith, h, inside)) ∙ ap (use_of v runs reserved) here)

-- a block of a group may be given to something new where it is of the pool
pub open_in : (v : Volume) (runs : List Run) (reserved : List ℕ) (uses : List Use) (ag k : ℕ) → uses ≡ uses_in v runs reserved ag → k < group_length v ag
    → is_open (use_at uses k) ≡ is_pool v runs reserved (ag * v.agblocks + k)
open_in v runs reserved uses ag k is low =
    ap (λ (us : List Use). is_open (use_at us k)) is ∙ ap is_open (use_in v runs reserved ag k low) ∙ open_is v runs reserved (ag * v.agblocks + k)

-- a test of the numbers behind another one
shifted : (p : ℕ → Bool) (base at n : ℕ) → list_all p (range_with_len (base + at) n) ≡ list_all (λ k. p (base + k)) (range_with_len at n)
shifted p base at zero = refl
shifted p base at (suc n) =
    let next : (base + at) + 1 ≡ base + (at + 1) = omega arith in
    ap (λ (t : Bool). p (base + at) && t) (ap (λ (m : ℕ). list_all p (range_with_len m n)) next ∙ shifted p base (at + 1) n)

and_true : (x : Bool) → (x && true) ≡ x
and_true true = refl
and_true false = refl

and_false : (x : Bool) → (x && false) ≡ false
and_false true = refl
and_false false = refl

-- some blocks of a group are of the pool and not spared
pub asked_blocks : (v : Volume) (runs : List Run) (reserved spared : List ℕ) (uses : List Use) (ag at size : ℕ) → uses ≡ uses_in v runs reserved ag → group_length v ag ≤ v.agblocks
    → at + size ≤ group_length v ag → 1 ≤ size
    → (nat_le (at + size) (get_or spared ag v.agblocks) && list_all (λ b. is_open (use_at uses b)) (range_with_len at size))
    ≡ list_all (is_pool_unspared v runs reserved spared) (range_with_len (ag * v.agblocks + at) size)
asked_blocks v runs reserved spared uses ag at size is short inside some = by_place ∙ sym (shifted (is_pool_unspared v runs reserved spared) (ag * v.agblocks) at size)
  where
    limit : ℕ
    limit = get_or spared ag v.agblocks

    passes : ℕ → Bool
    passes k = is_pool_unspared v runs reserved spared (ag * v.agblocks + k)

    each : (k : ℕ) → k < at + size → passes k ≡ (is_open (use_at uses k) && nat_lt k limit)
    each k high =
        let low : k < group_length v ag = omega (arith, high, inside) in
        let near : k < v.agblocks = omega (arith, low, short) in
        ap₂ (λ (a q : ℕ). is_pool v runs reserved (ag * v.agblocks + k) && nat_lt a (get_or spared q v.agblocks)) (mod-mul-add ag v.agblocks k near) (div-mul-add ag v.agblocks k near)
        ∙ ap (λ (t : Bool). t && nat_lt k limit) (sym (open_in v runs reserved uses ag k is low))

    by_place : (nat_le (at + size) limit && list_all (λ b. is_open (use_at uses b)) (range_with_len at size)) ≡ list_all passes (range_with_len at size)
    by_place = elim (cases_lt limit (at + size)) [
      | inl over ↦
          let last = at + size - 1 in
          let out : nat_le (at + size) limit ≡ false = false_from_ne_true (nat_le (at + size) limit) (λ h. let so = leb-true (at + size) limit h in omega (arith, so, over)) in
          let beyond : nat_lt last limit ≡ false = le-ltb last limit (omega (arith, over)) in
          let fails : passes last ≡ false = each last (omega (arith, some)) ∙ ap (λ (t : Bool). is_open (use_at uses last) && t) beyond ∙ and_false (is_open (use_at uses last)) in
          ap (λ (t : Bool). t && list_all (λ b. is_open (use_at uses b)) (range_with_len at size)) out
          ∙ sym (one_fails passes at size last (omega (arith, some)) (omega (arith, some)) fails)
      | inr fits ↦
          let in' : nat_le (at + size) limit ≡ true = le-leb (at + size) limit fits in
          ap (λ (t : Bool). t && list_all (λ b. is_open (use_at uses b)) (range_with_len at size)) in'
          ∙ same_tests (λ b. is_open (use_at uses b)) passes at size (λ k low high.
          let before : nat_lt k limit ≡ true = lt-ltb k limit (omega (arith, high, fits)) in
          sym (each k high ∙ ap (λ (t : Bool). is_open (use_at uses k) && t) before ∙ and_true (is_open (use_at uses k))))
    ]
