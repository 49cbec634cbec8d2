-- The records of the chunks of a new volume are lawful (chapter "AG Inode Management").
use Rattle.std.proofs.Common.{◌≡◌, ℕ, zero, suc, ◌+◌, ◌-◌, ◌*◌, ◌/◌, ◌%◌, ◌^◌, ◌==◌, ◌≤◌, ◌<◌, Bool, true, false, not, cond, IsTrue, List, ◌∷◌, length, map, get_or, Option, Some, None, arith, refl, sym, subst, ap, ◌∙◌}
use Rattle.std.specs.List.{filter, range_with_len}
use Rattle.std.specs.Cmp.Derive.{both_true}
use Rattle.std.proofs.Math.Nat.{mul-le-mul_right}
use Rattle.std.proofs.Math.Pow.{pow-sub-lt}
use Rattle.std.proofs.lemmas.Bool.{eq-eqb, eqb-true, le-leb, lt-ltb}
use Rattle.std.proofs.lemmas.Nat.{div-mul-add, mod-mul-add, pow_pos}
use Rattle.xfs_geom.specs.Conversions.{group_length, is_fixed}
use Rattle.xfs_geom.specs.Shape.{HasGroups}
use Rattle.xfs_geom.specs.Volumes.{Volume}
use Rattle.xfs_geom.specs.declared.records.InoRec.{InoRec}
use Rattle.xfs_kinds.specs.InodeTrees.{are_free_of_use, ascends_inode, fits_chunk, ino_shape, is_chunk}
use Rattle.xfs_tree.specs.Rules.{are_lawful}
use Rattle.xfs_filled.specs.Chunks.{chunk_record, chunks_of_group, used_in_chunk}
use Rattle.xfs_filled.proofs.Asked.{group_few}
use Rattle.xfs_filled.proofs.Rising.{rise_apart}
use Rattle.xfs_filled.proofs.Starting.{AreChunks, IsChunkAt}

-- where a chunk lies in its group
record LiesAt (v : Volume) (start : ℕ) : Type 0 where
  pub number : ℕ
  pub rest : start % v.agblocks ≡ number * 8
  pub at : start / v.agblocks * v.agblocks + number * 8 ≡ start
  pub behind : 2 ≤ number
  pub inside : start / v.agblocks < v.agcount
  pub ends : number * 8 + 8 ≤ group_length v (start / v.agblocks)

lies_at : (v : Volume) (start : ℕ) → HasGroups v.dblocks v.agblocks v.agcount → IsChunkAt v start → LiesAt v start
lies_at v start groups chunk =
    let few = group_few v chunk.group groups in
    let ends = chunk.ends in
    let short : chunk.number * 8 < v.agblocks = omega (arith, few, ends) in
    let rest : start % v.agblocks ≡ chunk.number * 8 = ap (λ (s : ℕ). s % v.agblocks) chunk.at ∙ mod-mul-add chunk.group v.agblocks (chunk.number * 8) short in
    let group : start / v.agblocks ≡ chunk.group = ap (λ (s : ℕ). s / v.agblocks) chunk.at ∙ div-mul-add chunk.group v.agblocks (chunk.number * 8) short in
    record {
      number = chunk.number;
      rest = rest;
      at = ap (λ (a : ℕ). a * v.agblocks + chunk.number * 8) group ∙ sym chunk.at;
      behind = chunk.behind;
      inside = subst (λ (a : ℕ). a < v.agcount) (sym group) chunk.inside;
      ends = subst (λ (a : ℕ). chunk.number * 8 + 8 ≤ group_length v a) (sym group) ends;
    }

clear_all : (v : Volume) (start : ℕ) → ((b : ℕ) → start ≤ b → b < start + 8 → is_fixed v b ≡ false) → are_free_of_use v 0 start ≡ true
unfolding are_free_of_use
clear_all v start clear =
    let free : (b : ℕ) → start ≤ b → b < start + 8 → not (is_fixed v b) ≡ true = λ b low high. rw (clear b low high) refl in
    both_true (free (start + 0) (omega arith) (omega arith))
    (both_true (free (start + 1) (omega arith) (omega arith))
    (both_true (free (start + 2) (omega arith) (omega arith))
    (both_true (free (start + 3) (omega arith) (omega arith))
    (both_true (free (start + 4) (omega arith) (omega arith))
    (both_true (free (start + 5) (omega arith) (omega arith))
    (both_true (free (start + 6) (omega arith) (omega arith))
    (both_true (free (start + 7) (omega arith) (omega arith)) refl)))))))

module _ (v : Volume) (files : ℕ) (starts : List ℕ) (groups : HasGroups v.dblocks v.agblocks v.agcount) (chunks : AreChunks v starts) where
  lies : (c : ℕ) → c < length starts → LiesAt v (get_or starts c 0)
  lies c low = lies_at v (get_or starts c 0) groups (chunks.each c 0 low)

  fits : (c : ℕ) → c < length starts → fits_chunk (chunk_record v files starts c) ≡ true
  fits c low =
      let at = lies c low in
      let rest = at.rest in
      let ends = at.ends in
      let few = group_few v (get_or starts c 0 / v.agblocks) groups in
      let most : v.agblocks ≤ 2 ^ 26 = omega (arith, groups.last, groups.small, one_group v groups) in
      let some = pow_pos (used_in_chunk files c) in
      both_true (both_true (both_true (both_true
      (lt-ltb (get_or starts c 0 % v.agblocks * 8) (2 ^ 32) (omega (arith, rest, ends, few, most)))
      refl)
      refl)
      (lt-ltb (64 - used_in_chunk files c) (2 ^ 8) (omega arith)))
      (lt-ltb (2 ^ 64 - 2 ^ used_in_chunk files c) (2 ^ 64) (pow-sub-lt 64 some))
    where
      one_group : (v : Volume) → HasGroups v.dblocks v.agblocks v.agcount → v.agblocks ≤ (v.agcount - 1) * v.agblocks
      one_group v groups =
          let most : 1 * v.agblocks ≤ (v.agcount - 1) * v.agblocks = mul-le-mul_right v.agblocks (omega (arith, groups.two)) in
          omega (arith, most)

  chunk_lawful : (ag c : ℕ) → c < length starts → get_or starts c 0 / v.agblocks ≡ ag → is_chunk v ag (chunk_record v files starts c) ≡ true
  chunk_lawful ag c low group =
      let at = lies c low in
      let rest = at.rest in
      let behind = at.behind in
      let first : get_or starts c 0 % v.agblocks * 8 ≡ at.number * 64 = omega (arith, rest) in
      let block : get_or starts c 0 % v.agblocks * 8 / 8 ≡ at.number * 8 = omega (arith, rest) in
      let there : ag * v.agblocks + get_or starts c 0 % v.agblocks * 8 / 8 ≡ get_or starts c 0 =
      ap (λ (n : ℕ). ag * v.agblocks + n) block ∙ ap (λ (a : ℕ). a * v.agblocks + at.number * 8) (sym group) ∙ at.at in
      both_true (both_true (both_true (both_true
      (fits c low)
      refl)
      (both_true (eq-eqb (get_or starts c 0 % v.agblocks * 8 % 64) 0 (omega (arith, first))) (le-leb 64 (get_or starts c 0 % v.agblocks * 8) (omega (arith, first, behind)))))
      (both_true (lt-ltb ag v.agcount (subst (λ (a : ℕ). a < v.agcount) group at.inside))
      (le-leb (get_or starts c 0 % v.agblocks * 8 / 8 + 8) (group_length v ag)
      (subst (λ (a : ℕ). get_or starts c 0 % v.agblocks * 8 / 8 + 8 ≤ group_length v a) group (let ends = at.ends in omega (arith, ends, block))))))
      (subst (λ (s : ℕ). are_free_of_use v 0 s ≡ true) (sym there) (clear_all v (get_or starts c 0) (chunks.each c 0 low).clear))

  -- of two chunks of a group the first has lower inodes
  below : (ag c e : ℕ) → c < e → e < length starts → get_or starts c 0 / v.agblocks ≡ ag → get_or starts e 0 / v.agblocks ≡ ag
      → (chunk_record v files starts c).startino < (chunk_record v files starts e).startino
  below ag c e less low first second =
      let one = lies c (omega (arith, less, low)) in
      let other = lies e low in
      let apart = rise_apart (v.agcount * v.agblocks) 16 c e 0 starts chunks.rise less low in
      let here : ag * v.agblocks + one.number * 8 ≡ get_or starts c 0 = ap (λ (a : ℕ). a * v.agblocks + one.number * 8) (sym first) ∙ one.at in
      let there : ag * v.agblocks + other.number * 8 ≡ get_or starts e 0 = ap (λ (a : ℕ). a * v.agblocks + other.number * 8) (sym second) ∙ other.at in
      let rest = one.rest in
      let rests = other.rest in
      omega (arith, apart, here, there, rest, rests)

  abbrev Before : ℕ → ℕ → Option InoRec → Type 0
  Before ag a None = Unit {0}
  Before ag a (Some r) = (c : ℕ) → a ≤ c → c < length starts → get_or starts c 0 / v.agblocks ≡ ag → r.startino < (chunk_record v files starts c).startino

  later : (ag a : ℕ) (before : Option InoRec) → Before ag a before → Before ag (a + 1) before
  later ag a None at = tt
  later ag a (Some r) at = λ c low inside group. at c (omega (arith, low)) inside group

  ascends : (ag a : ℕ) (before : Option InoRec) → a < length starts → get_or starts a 0 / v.agblocks ≡ ag → Before ag a before
      → ascends_inode before (chunk_record v files starts a) ≡ true
  ascends ag a None low group at = refl
  ascends ag a (Some r) low group at = lt-ltb r.startino (chunk_record v files starts a).startino (at a (omega arith) low group)

  lawful_from : (ag n a : ℕ) (before : Option InoRec) → a + n ≡ length starts → Before ag a before
      → are_lawful (ino_shape ag) v before (map (chunk_record v files starts) (filter (λ (c : ℕ). get_or starts c 0 / v.agblocks == ag) (range_with_len a n))) ≡ true
  lawful_from ag zero a before all at = refl
  lawful_from ag (suc n) a before all at =
      by_case (get_or starts a 0 / v.agblocks == ag) refl
      (λ group. lawful_from ag n (a + 1) (Some (chunk_record v files starts a)) (omega (arith, all)) (λ c more inside same. below ag a c (omega (arith, more)) inside group same))
      (lawful_from ag n (a + 1) before (omega (arith, all)) (later ag a before at))
    where
      low : a < length starts
      low = omega (arith, all)

      by_case : (r : Bool) → (get_or starts a 0 / v.agblocks == ag) ≡ r
          → (get_or starts a 0 / v.agblocks ≡ ag
          → are_lawful (ino_shape ag) v (Some (chunk_record v files starts a)) (map (chunk_record v files starts) (filter (λ (c : ℕ). get_or starts c 0 / v.agblocks == ag) (range_with_len (a + 1) n))) ≡ true)
          → are_lawful (ino_shape ag) v before (map (chunk_record v files starts) (filter (λ (c : ℕ). get_or starts c 0 / v.agblocks == ag) (range_with_len (a + 1) n))) ≡ true
          → are_lawful (ino_shape ag) v before (map (chunk_record v files starts) (cond r (a ∷ filter (λ (c : ℕ). get_or starts c 0 / v.agblocks == ag) (range_with_len (a + 1) n)) (filter (λ (c : ℕ). get_or starts c 0 / v.agblocks == ag) (range_with_len (a + 1) n)))) ≡ true
      by_case true is behind same =
          let group : get_or starts a 0 / v.agblocks ≡ ag = eqb-true _ _ is in
          both_true (both_true (chunk_lawful ag a low group) (ascends ag a before low group at)) (behind group)
      by_case false is behind same = same

  pub groups_lawful : (ag : ℕ) → IsTrue (are_lawful (ino_shape ag) v None (chunks_of_group v files starts ag))
  groups_lawful ag = lawful_from ag (length starts) 0 None (omega arith) tt
