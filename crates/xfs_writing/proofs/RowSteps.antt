-- Rows of blocks that stand in a bank one behind the other.
use Rattle.std.proofs.Common.{◌≡◌, ℕ, suc, ◌+◌, ◌<◌, ◌≤◌, List, [], ◌∷◌, ◌++◌, length, map, take, get_or, arith, refl, sym, subst, ap, ap₂, ◌∙◌}
use Rattle.std.specs.Prelude.{slice_index_or}
use Rattle.std.specs.List.{All}
use Rattle.std.proofs.lemmas.List.{append_assoc, length-append, take_more}
use Rattle.std.proofs.lemmas.List.Elements.{All-cons, All-head, All-nil, All-tail}
use Rattle.xfs_disk.specs.Blocks.{Image}
use Rattle.xfs_writing.specs.Writing.{Writes, rows_from, writes_of_rows}
use Rattle.xfs_writing.specs.declared.rows.Row.{Row}

pub count_from : (index : ℕ) (places : List ℕ) → length (rows_from index places) ≡ length places
count_from index [] = refl
count_from index (at ∷ places) = ap suc (count_from (index + 1) places)

pub from_append : (index : ℕ) (a b : List ℕ) → rows_from index (a ++ b) ≡ rows_from index a ++ rows_from (index + length a) b
from_append index [] b = ap (λ (n : ℕ). rows_from n b) (plus_zero index)
  where
    plus_zero : (n : ℕ) → n ≡ n + 0
    plus_zero n = omega arith
from_append index (at ∷ a) b =
    let further : index + 1 + length a ≡ index + suc (length a) = omega arith in
    ap (λ (rows : List Row). record { at = at; index = index } ∷ rows)
    (from_append (index + 1) a b ∙ ap (λ (n : ℕ). rows_from (index + 1) a ++ rows_from n b) further)

-- one more row
pub next_row : (before now new : List Row) (places : List ℕ) (i place index : ℕ) → i < length places → place ≡ get_or places i place
    → now ≡ before ++ rows_from (length before) (take i places) → index ≡ length now → new ≡ now ++ record { at = place; index = index } ∷ []
    → new ≡ before ++ rows_from (length before) (take (i + 1) places)
next_row before now new places i place index low there is number pushed =
    let n = length before in
    let all : length now ≡ n + length (take i places) =
    ap length is ∙ length-append before (rows_from n (take i places)) ∙ ap (λ (m : ℕ). n + m) (count_from n (take i places)) in
    let same : index ≡ n + length (take i places) = number ∙ all in
    let more : rows_from n (take (i + 1) places) ≡ rows_from n (take i places) ++ record { at = place; index = index } ∷ [] =
    ap (rows_from n) (take_more places i place low) ∙ from_append n (take i places) (get_or places i place ∷ [])
    ∙ ap₂ (λ (at number : ℕ). rows_from n (take i places) ++ record { at = at; index = number } ∷ []) (sym there) (sym same) in
    pushed ∙ ap (λ (rows : List Row). rows ++ record { at = place; index = index } ∷ []) is
    ∙ append_assoc before (rows_from n (take i places)) (record { at = place; index = index } ∷ [])
    ∙ ap (λ (rows : List Row). before ++ rows) (sym more)

-- a block behind some others
block_behind : (front : Image) (block : List ℕ) (rest : Image) → slice_index_or (front ++ block ∷ rest) (length front) [] ≡ block
block_behind [] block rest = refl
block_behind (first ∷ front) block rest = block_behind front block rest

-- what is written of rows whose bytes stand in a bank behind some others, where each block is a function of its number
pub writes_behind : (f : ℕ → List ℕ) (places : List ℕ) (front : Image) (index : ℕ) → index ≡ length front
    → writes_of_rows (front ++ map f places) (rows_from index places) ≡ map (λ (at : ℕ). (at, f at)) places
writes_behind f [] front index same = refl
writes_behind f (at ∷ places) front index same =
    let here : slice_index_or (front ++ f at ∷ map f places) index [] ≡ f at =
    ap (λ (k : ℕ). slice_index_or (front ++ f at ∷ map f places) k []) same ∙ block_behind front (f at) (map f places) in
    let joined : (front ++ f at ∷ []) ++ map f places ≡ front ++ f at ∷ map f places = append_assoc front (f at ∷ []) (map f places) in
    let count : index + 1 ≡ length (front ++ f at ∷ []) = omega (arith, same, length-append front (f at ∷ [])) in
    let later : writes_of_rows (front ++ f at ∷ map f places) (rows_from (index + 1) places) ≡ map (λ (p : ℕ). (p, f p)) places =
    subst (λ (bank : Image). writes_of_rows bank (rows_from (index + 1) places) ≡ map (λ (p : ℕ). (p, f p)) places) joined
    (writes_behind f places (front ++ f at ∷ []) (index + 1) count) in
    let head : Writes → List ℕ → Writes = λ ws v. (at, v) ∷ ws in
    ap (head (writes_of_rows (front ++ f at ∷ map f places) (rows_from (index + 1) places))) here ∙ ap (λ (ws : Writes). head ws (f at)) later

-- what is so of all places is so of their rows, and each index is below the number of all
pub rows_at : (P : ℕ → Type 0) (places : List ℕ) (index : ℕ) → All P places → All (λ (r : Row). P r.at) (rows_from index places)
rows_at P [] index all = All-nil (λ (r : Row). P r.at)
rows_at P (at ∷ places) index all =
    All-cons (λ (r : Row). P r.at) (record { at = at; index = index }) (rows_from (index + 1) places) (All-head P at places all)
    (rows_at P places (index + 1) (All-tail P at places all))

pub rows_below : (places : List ℕ) (index count : ℕ) → index + length places ≤ count → All (λ (r : Row). r.index < count) (rows_from index places)
rows_below [] index count few = All-nil (λ (r : Row). r.index < count)
rows_below (at ∷ places) index count few =
    All-cons (λ (r : Row). r.index < count) (record { at = at; index = index }) (rows_from (index + 1) places) (omega (arith, few))
    (rows_below places (index + 1) count (omega (arith, few)))
