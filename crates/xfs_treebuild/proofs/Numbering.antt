-- Numbers of blocks and shares on the way through a row.
use Rattle.std.proofs.Common.{◌≡◌, ℕ, ◌+◌, ◌*◌, ◌^◌, ◌<◌, ◌≤◌, Bool, false, Fits, w16, w64, List, sym, ◌∙◌, ap, subst, arith}
use Rattle.xfs_tree.specs.declared.layout.Layout.{Layout}
use Rattle.xfs_tree.specs.declared.seats.Seat.{Seat}
use Rattle.xfs_tree.specs.Shape.{Shape}
use Rattle.xfs_treebuild.specs.Private.Placed.{seat_of}

pub level-fits : (level : ℕ) → level < 2 ^ 16 → Fits w16 level
level-fits level low = omega arith

-- an owner is short where the headers are
pub owner-short : (l due : Layout) (long : Bool) (owner : ℕ) → l ≡ due → due.long ≡ long → (long ≡ false → owner < 2 ^ 32) → l.long ≡ false → owner < 2 ^ 32
owner-short l due long owner is long_is short not_long = short (sym (ap (λ (m : Layout). m.long) is ∙ long_is) ∙ not_long)

-- shares
pub share-ends : (first share n start : ℕ) → first ≡ start → start + share ≤ n → first + share ≤ n
share-ends first share n start is inside = omega arith

pub fits-62 : (k n : ℕ) → k ≤ n → n < 2 ^ 62 → Fits w64 k
fits-62 k n inside few = omega arith

pub part-room : (i m len was : ℕ) → len ≡ was → 4096 * m ≤ was → i < m → 4096 * (i + 1) ≤ len
part-room i m len was same room inside = omega arith

pub before-end : (j m i : ℕ) → j < m → m ≤ i → j < i
before-end j m i low past = omega arith

-- nodes behind the blocks below them
pub nodes-room : (first below i m len was : ℕ) → len ≡ was → 4096 * (first + below + m) ≤ was → i < m → 4096 * (first + below + i + 1) ≤ len
nodes-room first below i m len was same room inside = omega arith

pub children-room : (first from share below m len was : ℕ) → len ≡ was → from + share ≤ below → 4096 * (first + below + m) ≤ was → 4096 * (first + from + share) ≤ len
children-room first from share below m len was same inside room = omega arith

pub child-room : (from i n len : ℕ) → 4096 * (from + n) ≤ len → i < n → 4096 * (from + i + 1) ≤ len
child-room from i n len room inside = omega arith

pub child-inside : (i n cap' : ℕ) → i < n → n ≤ cap' → i < cap'
child-inside i n cap' inside room = omega arith

-- the place of a block's seat
pub seat-held : {R K : Type 0} (s : Shape R K) (P : ℕ → Type 0) (level place : ℕ) (block : List ℕ) (seat : Seat K) → seat ≡ seat_of s level place block → P place → P seat.place
seat-held {K = K} s P level place block seat is held = subst P (sym (ap (λ (q : Seat K). q.place) is)) held

-- levels of a tree in its places
pub less-63 : (n : ℕ) → n < 2 ^ 62 → n < 2 ^ 63
less-63 n few = omega arith

pub part-holds : (row count places len : ℕ) → row ≡ count → count ≤ places → len ≡ 4096 * places → 4096 * row ≤ len
part-holds row count places len is inside long = omega arith

pub one-of-two : (n : ℕ) → 2 ≤ n → 1 ≤ n
one-of-two n two = omega arith

pub front-inside : (front rest all : ℕ) → front + rest ≡ all → front ≤ all
front-inside front rest all is = omega arith

pub above-inside : (front above due rest all : ℕ) → front + due + rest ≡ all → above ≡ due → front + above ≤ all
above-inside front above due rest all is above_is = omega arith

pub nodes-hold : (first count above below row places len was : ℕ) → below ≡ count → row ≡ above → first + count + above ≤ places → len ≡ was → was ≡ 4096 * places
    → 4096 * (first + below + row) ≤ len
nodes-hold first count above below row places len was below_is row_is inside same long = omega arith

pub is-two : (n : ℕ) → 1 < n → 2 ≤ n
is-two n more = omega arith

pub shrinks : (above count : ℕ) → 2 ≤ count → 2 * above ≤ count + 1 → above < count
shrinks above count more half = omega arith
