-- The entries of a free list.
use Rattle.std.proofs.Common.{◌≡◌, ℕ, ◌+◌, ◌-◌, ◌%◌, ◌<◌, ◌≤◌, Bool, true, false, cond, ◌&&◌, List, ◌++◌, length, get_or, take, drop, replicate, Some, None, refl, sym, ap, ap₂, ◌∙◌, arith, get_or-take, get_or-drop, take-append-drop, length-take, length-drop}
use Rattle.std.specs.List.{list_all}
use Rattle.std.proofs.lemmas.Bool.{leb-true}
use Rattle.std.proofs.lemmas.List.{same_lists, length-replicate, get_or-replicate, get_or_default}
use Rattle.std.proofs.Math.Seq.{take-append_seam}
use Rattle.std.proofs.lemmas.List.FromFn.{fill_by_all, length-map-range_with_len}
use Rattle.xfs_word.specs.Seal.{is_sealed}
use Rattle.xfs_word.specs.declared.kinds.SealKind.TheVariants as Kind
use Rattle.xfs_geom.specs.Volumes.{Volume}
use Rattle.xfs_heads.specs.Heads.{head_seal, is_listable, numbers}
use Rattle.xfs_heads.specs.FreeSpace.{has_free_list}
use Rattle.xfs_heads.specs.FreeList.{entry, active, unused, stated_agfl, has_blocks, agfl_of}
use Rattle.xfs_heads.specs.declared.free_space.Agf.{Agf}
use Rattle.xfs_heads.specs.declared.free_list.Agfl.{Agfl}
use Rattle.xfs_heads.proofs.Kept.{numbers_at}
use Rattle.xfs_heads.proofs.ReadBack.{if_true}

left : (a b : Bool) → (a && b) ≡ true → a ≡ true
left true b h = refl
left false b h = cc

right : (a b : Bool) → (a && b) ≡ true → b ≡ true
right true b h = h
right false b h = cc

active_long : (sector : List ℕ) (first count : ℕ) → length (active sector first count) ≡ count
unfolding active
active_long sector first count = length-map-range_with_len (λ i. entry sector ((first + i) % 119)) 0 count

as_active : (sector : List ℕ) (first count : ℕ) (xs : List ℕ) → length xs ≡ count
    → ((k : ℕ) → k < count → get_or xs k 0 ≡ entry sector ((first + k) % 119)) → xs ≡ active sector first count
unfolding active
as_active sector first count xs long same = fill_by_all (λ i. entry sector ((first + i) % 119)) xs count 0 long same

as_unused : (n : ℕ) (xs : List ℕ) → length xs ≡ n → ((k : ℕ) → k < n → get_or xs k 0 ≡ 0xffff_ffff) → xs ≡ unused n
unfolding unused
as_unused n xs long same =
    same_lists xs (replicate n 0xffff_ffff) (long ∙ sym (length-replicate n 0xffff_ffff))
    (λ k d h.
    let low : k < n = omega arith in
    get_or_default xs k d 0 h ∙ (same k low ∙ sym (get_or-replicate n k 0xffff_ffff d low)))

taken_long : (n : ℕ) (xs : List ℕ) → n ≤ length xs → length (take n xs) ≡ n
taken_long n xs h = grind (arith, length-take)

-- entries of which the first are these, and none of the rest holds a block
pub record IsListed (xs entries : List ℕ) : Type 0 where
  pub taken : take (length xs) entries ≡ xs
  pub dropped : drop (length xs) entries ≡ unused (119 - length xs)

pub listed : (xs entries : List ℕ) → length xs ≤ 119 → length entries ≡ 119
    → ((k : ℕ) → k < length xs → get_or entries k 0 ≡ get_or xs k 0)
    → ((k : ℕ) → length xs ≤ k → k < 119 → get_or entries k 0 ≡ 0xffff_ffff)
    → IsListed xs entries
listed xs entries small long front rest =
    let enough : length xs ≤ length entries = omega arith in
    let n_long : length (take (length xs) entries) ≡ length xs = taken_long (length xs) entries enough in
    let left_long : length (drop (length xs) entries) ≡ 119 - length xs = omega (arith, length-drop {A = ℕ}) in
    record {
      taken =
          same_lists (take (length xs) entries) xs n_long
          (λ k d h.
          let low : k < length xs = omega arith in
          get_or_default _ k d 0 h ∙ (get_or-take (length xs) entries k 0 low ∙ (front k low ∙ sym (get_or_default xs k d 0 low))));
      dropped =
          as_unused (119 - length xs) (drop (length xs) entries) left_long
          (λ k h. get_or-drop (length xs) entries k 0 ∙ rest (length xs + k) (omega arith) (omega arith));
    }

-- entries of which so many are active, and none of the rest holds a block
pub filled : (sector : List ℕ) (first count : ℕ) (entries : List ℕ) → count ≤ 119 → length entries ≡ 119
    → ((k : ℕ) → k < count → get_or entries k 0 ≡ entry sector ((first + k) % 119))
    → ((k : ℕ) → count ≤ k → k < 119 → get_or entries k 0 ≡ 0xffff_ffff)
    → entries ≡ active sector first count ++ unused (119 - count)
filled sector first count entries small long front rest =
    let enough : count ≤ length entries = omega arith in
    let taken : take count entries ≡ active sector first count =
    as_active sector first count (take count entries) (taken_long count entries enough) (λ k h. get_or-take count entries k 0 h ∙ front k h) in
    let left_long : length (drop count entries) ≡ 119 - count = omega (arith, length-drop {A = ℕ}) in
    let dropped : drop count entries ≡ unused (119 - count) =
    as_unused (119 - count) (drop count entries) left_long (λ k h. get_or-drop count entries k 0 ∙ rest (count + k) (omega arith) (omega arith)) in
    sym (take-append-drop count entries) ∙ ap₂ (λ (a b : List ℕ). a ++ b) taken dropped

pub few : (agf : Agf) → has_free_list agf ≡ true → agf.flcount ≤ 119
few agf h = leb-true agf.flcount 119 (right _ _ (left _ _ h))

seam : (xs ys : List ℕ) (n : ℕ) → length xs ≡ n → take n (xs ++ ys) ≡ xs
seam xs ys n h = ap (λ (k : ℕ). take k (xs ++ ys)) (sym h) ∙ take-append_seam xs ys

-- where the bounds agree and the sector is sealed, the blocks decide
pub by_blocks : (v : Volume) (ag : ℕ) (agf : Agf) (sector : List ℕ) → has_free_list agf ≡ true → is_sealed (head_seal Kind.Agfl v ag) sector ≡ true
    → agfl_of v ag agf sector ≡ cond (has_blocks v ag (stated_agfl agf sector)) (Some (stated_agfl agf sector)) None
unfolding agfl_of
by_blocks v ag agf sector bounds sealed =
    let same = seam (active sector agf.flfirst agf.flcount) (unused (119 - agf.flcount)) agf.flcount (active_long sector agf.flfirst agf.flcount) in
    ap (λ (b : Bool). cond b (Some (stated_agfl agf sector)) None)
    (both (has_free_list agf) _ _ bounds sealed ∙ ap (list_all (is_listable v ag)) (sym same))
  where
    both : (a b d : Bool) → a ≡ true → b ≡ true → (a && b && d) ≡ d
    both a b d ha hb = rw (ha, hb) refl

-- the entries from 0 on are the first
first_taken : (sector entries : List ℕ) (count : ℕ) → count ≤ 119 → length entries ≡ 119 → numbers sector 36 119 ≡ entries
    → take count entries ≡ active sector 0 count
first_taken sector entries count small long same =
    let enough : count ≤ length entries = omega arith in
    as_active sector 0 count (take count entries) (taken_long count entries enough)
    (λ k h.
    let low : k < 119 = omega arith in
    let place : k ≡ (0 + k) % 119 = omega arith in
    get_or-take count entries k 0 h ∙ (ap (λ (xs : List ℕ). get_or xs k 0) (sym same) ∙ (numbers_at sector 36 119 k low ∙ ap (entry sector) place)))

pub read_back_agfl : (v : Volume) (ag : ℕ) (agf : Agf) (agfl : Agfl) (sector : List ℕ) → length agfl.entries ≡ 119 → agfl.count ≤ 119
    → has_blocks v ag agfl ≡ true → drop agfl.count agfl.entries ≡ unused (119 - agfl.count)
    → is_sealed (head_seal Kind.Agfl v ag) sector ≡ true → numbers sector 36 119 ≡ agfl.entries
    → agf.flfirst ≡ 0 → agf.flcount ≡ agfl.count → has_free_list agf ≡ true
    → agfl_of v ag agf sector ≡ Some agfl
read_back_agfl v ag agf agfl sector long small blocks rest sealed same first count bounds =
    let entries : active sector agf.flfirst agf.flcount ++ unused (119 - agf.flcount) ≡ agfl.entries =
    ap₂ (λ (f n : ℕ). active sector f n ++ unused (119 - n)) first count
    ∙ (ap₂ (λ (a b : List ℕ). a ++ b) (sym (first_taken sector agfl.entries agfl.count small long same)) (sym rest)
    ∙ take-append-drop agfl.count agfl.entries) in
    let stated : stated_agfl agf sector ≡ agfl = λ i. record { entries = entries i; count = count i } in
    by_blocks v ag agf sector bounds sealed ∙ (if_true _ _ _ (ap (has_blocks v ag) stated ∙ blocks) ∙ ap Some stated)
