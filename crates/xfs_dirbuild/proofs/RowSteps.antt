-- One block more of a row is written.
use Rattle.std.proofs.Common.{◌≡◌, ℕ, ◌+◌, ◌-◌, ◌*◌, ◌^◌, ◌<◌, ◌≤◌, Fits, w64, inr, true, false, List, [], ◌∷◌, ◌++◌, map, length, take, drop, get_or, sym, ◌∙◌, ap, ap₂, subst, arith}
use Rattle.std.specs.List.{All, range_with_len}
use Rattle.std.proofs.Math.Seq.{take-add}
use Rattle.std.proofs.lemmas.List.{length-take-le, length-drop, take_all}
use Rattle.std.proofs.lemmas.List.FromFn.{map-range_with_len_more}
use Rattle.std.proofs.lemmas.Bool.Decides.{nat_tests}
use Rattle.xfs_disk.specs.Shares.{share_of, first_of_share}
use Rattle.xfs_word.specs.Field.{field_of}
use Rattle.xfs_word.proofs.Written.{keeps}
use Rattle.xfs_dirindex.specs.declared.pairs.Pair.{Pair}
use Rattle.xfs_dirindex.specs.Mapped.{Mapped}
use Rattle.xfs_dirindex.specs.Lookup.{bytes_mapped}
use Rattle.xfs_dirindex.specs.IndexTree.{next_link, is_member, are_members, pairs_below}
use Rattle.xfs_dirindex.specs.Pairs.{pairs_at}
use Rattle.xfs_dirbuild.specs.Blocks.{index_block, row_block, share_at, last_pair_hash, link_at}
use Rattle.xfs_dirbuild.specs.Index.{IsPointer, IsIndexBlock, before_at, next_at, IsPlacedBlock, HoldsIndex}
use Rattle.xfs_disk.proofs.Shares.{share_inside, first_end}
use Rattle.xfs_dirbuild.proofs.BlockBytes.{last-part}
use Rattle.xfs_dirbuild.proofs.Rows.{index-placed, member, members-more, below-more}

-- how long a share is
pub share-long : (pairs : List Pair) (m i start share : ℕ) → start ≡ first_of_share (length pairs) m i → share ≡ share_of (length pairs) m i → i < m
    → length (take (start + share - start) (drop start pairs)) ≡ share
share-long pairs m i start share start_is share_is inside =
    let room = share_inside (length pairs) m i inside in
    let width : start + share - start ≡ share = omega arith in
    ap (λ (n : ℕ). length (take n (drop start pairs))) width
    ∙ length-take-le share (drop start pairs) (omega (arith, length-drop start pairs, room, start_is, share_is))

-- what is known of a block of the row as it was written
pub record IsWritten (level before next first i share : ℕ) (part : List Pair) (x : Pair) (block : List ℕ) : Type 0 where
  pub pointers : All IsPointer part
  pub some : 1 ≤ length part
  pub most : length part ≤ 504
  pub long : length part ≡ share
  pub stands : IsIndexBlock level before next part block
  pub hash : x.hash ≡ field_of block (56 + 8 * share) 4
  pub address : x.address ≡ 0x800000 + (first + i)

-- and what of it wherever it stands
pub record IsSeen (ms : List Mapped) (level before next : ℕ) (part : List Pair) (x : Pair) : Type 0 where
  pub one : is_member ms false level before x next ≡ true
  pub stands : IsIndexBlock level before next part (bytes_mapped ms x.address)

pub seen : (ms : List Mapped) (bank : List (List ℕ)) (base first i level before next share : ℕ) (part : List Pair) (x : Pair) (block : List ℕ)
    → IsWritten level before next first i share part x block → get_or bank (base + first + i) [] ≡ block → HoldsIndex ms bank base first (i + 1)
    → IsSeen ms level before next part x
seen ms bank base first i level before next share part x block was put holds =
    let place : 0x800000 + first + i ≡ x.address = omega (arith, was.address) in
    let there : IsPlacedBlock 12 (get_or bank (base + first + i) []) (bytes_mapped ms (0x800000 + first + i)) = holds.each i (omega arith) in
    let placed : IsPlacedBlock 12 block (bytes_mapped ms x.address) =
    subst (λ (n : ℕ). IsPlacedBlock 12 block (bytes_mapped ms n)) place (subst (λ (b : List ℕ). IsPlacedBlock 12 b (bytes_mapped ms (0x800000 + first + i))) put there) in
    let stands = index-placed level before next part block (bytes_mapped ms x.address) was.stands placed in
    let hash : x.hash ≡ field_of (bytes_mapped ms x.address) (56 + 8 * length part) 4 =
    was.hash ∙ (sym (keeps block (bytes_mapped ms x.address) 12 44 placed.same (56 + 8 * share) 4 (inr (omega arith)))
    ∙ ap (λ (n : ℕ). field_of (bytes_mapped ms x.address) (56 + 8 * n) 4) (sym was.long)) in
    record {
      one = member ms level before next x part was.pointers was.some was.most placed.long stands hash;
      stands = stands;
    }

-- the row goes on
pub row-members : (ms : List Mapped) (level before next first count i : ℕ) (part links rest : List Pair) (x : Pair) → IsSeen ms level before next part x
    → i < count → before ≡ before_at first i → next ≡ next_at first count (i + 1) → x.address ≡ 0x800000 + (first + i)
    → ((more : List Pair) → next_link more ≡ next_at first count i → are_members ms false level (before_at first i) more ≡ true → are_members ms false level 0 (links ++ more) ≡ true)
    → next_link rest ≡ next_at first count (i + 1) → are_members ms false level (before_at first (i + 1)) rest ≡ true
    → are_members ms false level 0 ((links ++ x ∷ []) ++ rest) ≡ true
row-members ms level before next first count i part links rest x block inside before_is next_is address leads rest_next others =
    let here : before_at first (i + 1) ≡ x.address = grind (arith, nat_tests) in
    let mine : x.address ≡ next_at first count i = grind (arith, nat_tests) in
    members-more ms level before next links rest x block.one (next_is ∙ sym rest_next)
    (subst (λ (n : ℕ). are_members ms false level n rest ≡ true) here others)
    (λ all. leads (x ∷ rest) mine (subst (λ (n : ℕ). are_members ms false level n (x ∷ rest) ≡ true) before_is all))

pub row-below : (ms : List Mapped) (level before next start share : ℕ) (pairs links : List Pair) (x : Pair)
    → IsSeen ms level before next (take (start + share - start) (drop start pairs)) x → pairs_below ms links ≡ take start pairs
    → pairs_below ms (links ++ x ∷ []) ≡ take (start + share) pairs
row-below ms level before next start share pairs links x block were =
    let width : start + share - start ≡ share = omega arith in
    below-more ms links x level before next (take (start + share - start) (drop start pairs)) (take start pairs) (take (start + share) pairs) block.stands were
    (take-add start share pairs ∙ ap (λ (n : ℕ). take start pairs ++ take n (drop start pairs)) (sym width))

-- what a block of the row has
pub share-is : (pairs : List Pair) (m i start share : ℕ) → start ≡ first_of_share (length pairs) m i → share ≡ share_of (length pairs) m i
    → take (start + share - start) (drop start pairs) ≡ share_at m pairs i
share-is pairs m i start share start_is share_is =
    let width : start + share - start ≡ share_of (length pairs) m i = omega (arith, share_is) in
    ap₂ (λ (n a : ℕ). take n (drop a pairs)) width start_is

-- its link, and its bytes
pub link-is : (first m i share : ℕ) (pairs part : List Pair) (x : Pair) (block : List ℕ) → part ≡ share_at m pairs i → 1 ≤ share → length part ≡ share
    → pairs_at block 64 (length part) ≡ part → x.hash ≡ field_of block (56 + 8 * share) 4 → x.address ≡ 0x800000 + (first + i) → x ≡ link_at first m pairs i
link-is first m i share pairs part x block is some long stand hash address =
    ap₂ (λ (h a : ℕ). let p : Pair = record { hash = h; address = a } in p) (hash ∙ (last-part block share part some long stand ∙ ap last_pair_hash is)) address

pub block-is : (level before next first m i : ℕ) (pairs part : List Pair) (block : List ℕ) → part ≡ share_at m pairs i → before ≡ before_at first i
    → next ≡ next_at first m (i + 1) → block ≡ index_block level before next part → block ≡ row_block level first m pairs i
block-is level before next first m i pairs part block is before_is next_is bytes =
    bytes
    ∙ (ap₂ (λ (b n : ℕ). index_block level b n part) before_is next_is ∙ ap (index_block level (before_at first i) (next_at first m (i + 1))) is)

-- one link more
pub links-more : (first m i : ℕ) (pairs old new : List Pair) (x : Pair) → new ≡ old ++ x ∷ [] → x ≡ link_at first m pairs i
    → old ≡ map (link_at first m pairs) (range_with_len 0 i) → new ≡ map (link_at first m pairs) (range_with_len 0 (i + 1))
links-more first m i pairs old new x pushed is were =
    pushed
    ∙ (ap₂ (λ (xs : List Pair) (y : Pair). xs ++ y ∷ []) were is ∙ sym (map-range_with_len_more (link_at first m pairs) 0 i i (omega arith)))

-- numbers on the way through a row
pub row-ended : (i count : ℕ) → i ≤ count → count ≤ i → i ≡ count
row-ended i count low high = omega arith

pub row-low : (first count i : ℕ) → i < count → first + count ≤ 0x800000 → first + i < 0x800000
row-low first count i inside low = omega arith

pub row-before : (first count i : ℕ) → i < count → first + count ≤ 0x800000 → first + i ≤ 0x800000
row-before first count i inside low = omega arith

pub row-next : (first count i : ℕ) → i < count → first + count ≤ 0x800000 → first + (i + 1) ≤ 0x800000
row-next first count i inside low = omega arith

pub row-fits : (n : ℕ) → n ≤ 2 ^ 33 → Fits w64 n
row-fits n small = omega arith

pub row-place : (base first count i : ℕ) → i < count → first + count ≤ 0x800000 → base ≤ 2 ^ 32 → base + first + i ≤ 2 ^ 33
row-place base first count i inside low small = omega arith

pub row-front : (base first count i : ℕ) → i < count → first + count ≤ 0x800000 → base ≤ 2 ^ 32 → base + first ≤ 2 ^ 33
row-front base first count i inside low small = omega arith

pub row-room : (base first count i len was : ℕ) → len ≡ was → base + first + count ≤ was → i < count → base + first + i < len
row-room base first count i len was same room inside = omega arith

pub row-some : (n : ℕ) → n < 0x800000 → n ≤ 2 ^ 33
row-some n low = omega arith

pub row-more : (first count i : ℕ) → i < count → first + count ≤ 0x800000 → i + 1 ≤ 2 ^ 33
row-more first count i inside low = omega arith

-- where a share ends
pub share-inside : (n begins start share : ℕ) → start ≡ begins → begins + share ≤ n → start + share ≤ n
share-inside n begins start share is inside = omega arith

pub share-small : (n k : ℕ) → k ≤ n → n ≤ 2 ^ 24 + 2 → k ≤ 2 ^ 33
share-small n k inside few = omega arith

no-less : (a b : ℕ) → a ≡ b → b ≤ a
no-less a b is = omega arith

-- all pairs are shared out
pub share-all : (pairs : List Pair) (m i start : ℕ) → 1 ≤ m → i ≡ m → start ≡ first_of_share (length pairs) m i → take start pairs ≡ pairs
share-all pairs m i start some end is =
    take_all start pairs (no-less start (length pairs) (is ∙ (ap (first_of_share (length pairs) m) end ∙ first_end (length pairs) m some)))

-- blocks beside those that are written
pub before-row : (base first i k : ℕ) → k < base + first → k < base + first + i
before-row base first i k low = omega arith

pub behind-row : (base first count i k : ℕ) → i < count → base + first + count ≤ k → base + first + i < k
behind-row base first count i k inside high = omega arith

pub from-row : (base first count i k : ℕ) → i < count → base + first + count ≤ k → base + first + i ≤ k
from-row base first count i k inside high = omega arith

pub share-width : (start share : ℕ) → start ≤ start + share
share-width start share = omega arith

pub share-offset : (n start share : ℕ) → start + share ≤ n → n ≤ 2 ^ 24 + 2 → Fits w64 (start * 16)
share-offset n start share inside few = omega arith
