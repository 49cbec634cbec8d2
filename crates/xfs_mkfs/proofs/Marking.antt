-- The marks of a disk, block by block.
use Rattle.std.proofs.Common.{◌≡◌, ℕ, suc, ◌+◌, ◌/◌, ◌<◌, ◌≤◌, ◌==◌, ◌&&◌, ◌||◌, Bool, true, false, List, [], ◌∷◌, length, take, get_or, slice_get, Option, Some, Result, Ok, Err, IfOk, OnErr, refl, sym, ap, ap₂, subst, ◌∙◌, arith}
use Rattle.std.specs.List.{list_all, list_any}
use Rattle.std.proofs.lemmas.Bool.{eqb-true}
use Rattle.std.proofs.lemmas.Option.{get_or_from_slice_get}
use Rattle.std.proofs.lemmas.List.Folds.{list_any_more}
use Rattle.std.specs.Option.{ForSome}
use Rattle.xfs_disk.specs.Blocks.{Image, bytes_of_block}
use Rattle.xfs_disk.specs.declared.failed.Failed.{Failed}
use Rattle.xfs_disk.specs.Counts.{raised, raised_times}
use Rattle.xfs_mkfs.specs.Marks.{Mark, bears, is_marked, mark_blocks, marks, has_mark, stands_at}

-- one block more
pub one_more : (image : Image) (blocks : List ℕ) (i : ℕ) (there now stood : Bool) (block : ℕ) (bytes : List ℕ) → i < length blocks → block ≡ get_or blocks i 0
    → bytes_of_block image block ≡ bytes → there ≡ list_any (λ (b : ℕ). bears b (bytes_of_block image b)) (take i blocks) → stood ≡ bears block bytes
    → now ≡ (there || stood) → now ≡ list_any (λ (b : ℕ). bears b (bytes_of_block image b)) (take (i + 1) blocks)
one_more image blocks i there now stood block bytes low at read before bore is =
    let same : stood ≡ bears (get_or blocks i 0) (bytes_of_block image (get_or blocks i 0)) =
    bore ∙ ap (bears block) (sym read) ∙ ap (λ (b : ℕ). bears b (bytes_of_block image b)) at in
    is ∙ ap₂ (λ (x y : Bool). x || y) before same ∙ sym (list_any_more (λ (b : ℕ). bears b (bytes_of_block image b)) blocks i 0 low)

pub reads_more : (before mid now i : ℕ) → mid ≡ raised_times i before → now ≡ raised mid → now ≡ raised_times (i + 1) before
reads_more before mid now i was is =
    let next : suc i ≡ i + 1 = omega arith in is ∙ ap raised was ∙ ap (λ (n : ℕ). raised_times n before) next

swap : (a b c d : Bool) → ((a || b) || (c || d)) ≡ ((a || c) || (b || d))
swap true b c d = refl
swap false true true d = refl
swap false true false d = refl
swap false false c d = refl

left : (a b : Bool) → (a && b) ≡ true → a ≡ true
left true b h = refl
left false b h = h

right : (a b : Bool) → (a && b) ≡ true → b ≡ true
right true b h = h
right false b h = cc

or_false : (a : Bool) → (a || false) ≡ a
or_false true = refl
or_false false = refl

-- a mark is due in one of the four blocks
abbrev due : Mark → Bool
due m = (m.0 / 4096 == 0) || ((m.0 / 4096 == 1) || ((m.0 / 4096 == 8) || (m.0 / 4096 == 16)))

-- what is so of a number is so of the one of the four that it is
abbrev AtOne : (ℕ → Bool) → ℕ → Type 0
AtOne test n = list_any (λ (b : ℕ). (n == b) && test b) mark_blocks ≡ test n

at_one : (test : ℕ → Bool) (n k : ℕ) → AtOne test k → (n == k) ≡ true → AtOne test n
at_one test n k at is = subst (λ (b : ℕ). AtOne test b) (sym (eqb-true n k is)) at

by_last : (test : ℕ → Bool) (n : ℕ) (a b c d : Bool) → (n == 0) ≡ a → (n == 1) ≡ b → (n == 8) ≡ c → (n == 16) ≡ d → (a || (b || (c || d))) ≡ true → AtOne test n
by_last test n true b c d first one eight last among = at_one test n 0 (or_false (test 0)) first
by_last test n false true c d first one eight last among = at_one test n 1 (or_false (test 1)) one
by_last test n false false true d first one eight last among = at_one test n 8 (or_false (test 8)) eight
by_last test n false false false true first one eight last among = at_one test n 16 (or_false (test 16)) last
by_last test n false false false false first one eight last among = cc

one_of : (n : ℕ) (test : ℕ → Bool) → ((n == 0) || ((n == 1) || ((n == 8) || (n == 16)))) ≡ true → AtOne test n
one_of n test among = by_last test n (n == 0) (n == 1) (n == 8) (n == 16) refl refl refl refl among

-- one mark of several, in some blocks
split : (f : ℕ → Mark → Bool) (m : Mark) (ms : List Mark) (bs : List ℕ)
    → list_any (λ (b : ℕ). list_any (f b) (m ∷ ms)) bs ≡ (list_any (λ (b : ℕ). f b m) bs || list_any (λ (b : ℕ). list_any (f b) ms) bs)
split f m ms [] = refl
split f m ms (b ∷ bs) =
    ap (λ (t : Bool). (f b m || list_any (f b) ms) || t) (split f m ms bs)
    ∙ swap (f b m) (list_any (f b) ms) (list_any (λ (o : ℕ). f o m) bs) (list_any (λ (o : ℕ). list_any (f o) ms) bs)

by_blocks : (image : Image) (ms : List Mark) → list_all due ms ≡ true
    → list_any (λ (b : ℕ). list_any (stands_at b (bytes_of_block image b)) ms) mark_blocks ≡ list_any (λ (m : Mark). has_mark (bytes_of_block image (m.0 / 4096)) m) ms
by_blocks image [] all = refl
by_blocks image (m ∷ ms) all =
    split (λ (b : ℕ). stands_at b (bytes_of_block image b)) m ms mark_blocks
    ∙ ap₂ (λ (x y : Bool). x || y)
    (one_of (m.0 / 4096) (λ (b : ℕ). has_mark (bytes_of_block image b) m) (left (due m) (list_all due ms) all))
    (by_blocks image ms (right (due m) (list_all due ms) all))

-- the four blocks bear a mark where the disk does
pub marked : (image : Image) → list_any (λ (b : ℕ). bears b (bytes_of_block image b)) mark_blocks ≡ is_marked image
unfolding is_marked bears marks
marked image = by_blocks image marks refl

pub told_marked : (result : Result Bool Failed) (held : Option Image)
    → IfOk result (λ there. ForSome held (λ image. there ≡ list_any (λ (b : ℕ). bears b (bytes_of_block image b)) mark_blocks))
    → IfOk result (λ there. ForSome held (λ image. there ≡ is_marked image))
told_marked (Ok there) held told = λ image is. told image is ∙ marked image
told_marked (Err fault) held told = tt

-- the bytes of a block that was read
pub block_bytes : (image : Image) (block : ℕ) (bytes : List ℕ) → slice_get image block ≡ Some bytes → bytes_of_block image block ≡ bytes
block_bytes image block bytes read = get_or_from_slice_get image block bytes [] read

pub few_read : (result : Result Bool Failed) (before now : ℕ) → OnErr result ((k : ℕ) × (k < 4) × (now ≡ raised_times k before))
    → OnErr result ((k : ℕ) × (k ≤ 3) × (now ≡ raised_times k before))
few_read (Ok there) before now some = tt
few_read (Err fault) before now some = let low = some.1 in (some.0, omega (arith, low), some.2)
