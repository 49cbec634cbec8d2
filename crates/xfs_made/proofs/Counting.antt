-- How often a number stands in a list, beside how many runs have the block.
use Rattle.std.proofs.Common.{◌≡◌, ℕ, zero, suc, ◌+◌, ◌≤◌, ◌⊎◌, inl, inr, Bool, true, false, not, ◌==◌, nat_le, nat_lt, if◌then◌else◌, List, [], ◌∷◌, ◌++◌, map, take, drop, refl, sym, ap, ◌∙◌, subst, arith}
use Rattle.std.specs.List.{All, filter, flat_map, list_any, range_with_len}
use Rattle.std.proofs.lemmas.Bool.{and_from, cases_eq, le-leb, lt-ltb, ne_eqb, or_parts}
use Rattle.std.proofs.lemmas.List.{map-append}
use Rattle.std.proofs.lemmas.List.Elements.{All-head, All-tail}
use Rattle.std.proofs.lemmas.List.Filters.{sum_by-filter_both}
use Rattle.std.proofs.lemmas.List.Sums.{sum_by-cons, sum_by-take-drop}
use Rattle.xfs_geom.specs.Runs.{covers, runs_on}
use Rattle.xfs_geom.specs.declared.records.Run.{Run}
use Rattle.xfs_kinds.specs.OffsetWords.{is_unwritten}
use Rattle.xfs_place.specs.Pool.{is_listed, is_taken}
use Rattle.xfs_place.specs.declared.wanted.ObjectKind.{ObjectKind}
use Rattle.xfs_views.proofs.Counted.{any_on}
use Rattle.xfs_render.specs.Objects.{ask_blocks, block_places, blocks_of_asks, run_blocks}
use Rattle.xfs_render.specs.Plans.{IsOnce}
use Rattle.xfs_render.specs.declared.object_blocks.ObjectAsk.{ObjectAsk}
use Rattle.xfs_render.specs.declared.object_blocks.ObjectBlock.{ObjectBlock}
use Rattle.xfs_space.proofs.Shared.{on-cons}
use Rattle.xfs_made.proofs.OnceLists.{all_range, counted, counted_append, range_once}

abbrev pub one_if : Bool → ℕ
one_if t = if t then 1 else 0

pub counted_cons : (at x : ℕ) (xs : List ℕ) → counted at (x ∷ xs) ≡ one_if (x == at) + counted at xs
counted_cons at x xs = sum_by-cons (λ (o : ℕ). one_if (o == at)) x xs

-- what holds of all numbers of a list holds of each that is counted there
held_more : (P : ℕ → Type 0) (x : ℕ) (xs : List ℕ) (at : ℕ) → P x → (counted at xs ≡ 0) ⊎ P at → (counted at (x ∷ xs) ≡ 0) ⊎ P at
held_more P x xs at here (inl none) = elim (cases_eq x at) [
  | inl same ↦ inr (subst P same here)
  | inr other ↦
      let first : one_if (x == at) ≡ 0 = ap one_if (ne_eqb x at other) in
      inl (omega (arith, counted_cons at x xs, first, none))
]
held_more P x xs at here (inr there) = inr there

pub held : (P : ℕ → Type 0) (xs : List ℕ) (at : ℕ) → All P xs → (counted at xs ≡ 0) ⊎ P at
held P [] at all = inl refl
held P (x ∷ xs) at all = held_more P x xs at (All-head P x xs all) (held P xs at (All-tail P x xs all))

-- a number that is not listed is counted nowhere
pub unlisted : (xs : List ℕ) (at : ℕ) → is_listed xs at ≡ false → counted at xs ≡ 0
unfolding is_listed
unlisted [] at out = refl
unlisted (x ∷ xs) at out =
    let parts = or_parts (x == at) (list_any (λ (b : ℕ). b == at) xs) out in
    let first : one_if (x == at) ≡ 0 = ap one_if parts.0 in
    omega (arith, counted_cons at x xs, first, unlisted xs at parts.1)

-- a list that stands once has no number twice, and neither has its rest
pub once_rest : (x : ℕ) (xs : List ℕ) → IsOnce (x ∷ xs) → IsOnce xs
once_rest x xs once = record { each = λ at. let all = counted_cons at x xs in let most = once.each at in omega (arith, all, most) }

-- what is taken is of some run
pub is_any : (rs : List Run) (block : ℕ) → is_taken rs block ≡ list_any (covers block) rs
unfolding is_taken
is_any rs block = refl

pub taken_on : (rs : List Run) (block : ℕ) → is_taken rs block ≡ true → 1 ≤ runs_on rs block
taken_on rs block taken = any_on rs block (sym (is_any rs block) ∙ taken)

none_on : (rs : List Run) (block : ℕ) → list_any (covers block) rs ≡ false → runs_on rs block ≡ 0
none_on [] block off = refl
none_on (r ∷ rs) block off =
    let parts = or_parts (covers block r) (list_any (covers block) rs) off in
    let none : one_if (covers block r) ≡ 0 = ap one_if parts.0 in
    omega (arith, on-cons r rs block, none, none_on rs block parts.1)

pub untaken_on : (rs : List Run) (block : ℕ) → is_taken rs block ≡ false → runs_on rs block ≡ 0
untaken_on rs block off = none_on rs block (sym (is_any rs block) ∙ off)

-- the blocks of a run, and those of objects
pub row_on : (r : Run) (at : ℕ) → counted at (range_with_len r.start r.count) ≤ one_if (covers at r)
row_on r at =
    by_case
    (held (λ block. covers block r ≡ true) (range_with_len r.start r.count) at
    (all_range (λ block. covers block r ≡ true) r.start r.count
    (λ k low high. and_from (nat_le r.start k) (nat_lt k (r.start + r.count)) (le-leb r.start k low) (lt-ltb k (r.start + r.count) high))))
    ((range_once r.start r.count).each at)
  where
    by_case : (counted at (range_with_len r.start r.count) ≡ 0) ⊎ (covers at r ≡ true) → counted at (range_with_len r.start r.count) ≤ 1
        → counted at (range_with_len r.start r.count) ≤ one_if (covers at r)
    by_case (inl none) most = omega (arith, none)
    by_case (inr is) most = let one : one_if (covers at r) ≡ 1 = ap one_if is in omega (arith, one, most)

places_are : (kind : ObjectKind) (owner a n : ℕ) → block_places (map (λ (place : ℕ). record { kind = kind; owner = owner; place = place }) (range_with_len a n)) ≡ range_with_len a n
places_are kind owner a zero = refl
places_are kind owner a (suc n) = ap (λ (xs : List ℕ). a ∷ xs) (places_are kind owner (a + 1) n)

runs_count : (kind : ObjectKind) (owner at : ℕ) (rs : List Run) → counted at (block_places (flat_map (run_blocks kind owner) rs)) ≤ runs_on rs at
runs_count kind owner at [] = omega arith
runs_count kind owner at (r ∷ rs) =
    let first = run_blocks kind owner r in
    let rest = flat_map (run_blocks kind owner) rs in
    let parts : block_places (first ++ rest) ≡ block_places first ++ block_places rest = map-append (λ (b : ObjectBlock). b.place) first rest in
    let all : counted at (block_places (first ++ rest)) ≡ counted at (block_places first) + counted at (block_places rest) =
    ap (counted at) parts ∙ counted_append at (block_places first) (block_places rest) in
    let here : counted at (block_places first) ≡ counted at (range_with_len r.start r.count) = ap (counted at) (places_are kind owner r.start r.count) in
    omega (arith, all, here, row_on r at, on-cons r rs at, runs_count kind owner at rs)

ask_count : (a : ObjectAsk) (rs : List Run) (at : ℕ) → counted at (block_places (ask_blocks a rs)) ≤ runs_on rs at
ask_count a rs at = by_case (is_unwritten a.ask.offset_word)
  where
    by_case : (t : Bool) → counted at (block_places (if t then [] else flat_map (run_blocks a.kind a.ask.owner) rs)) ≤ runs_on rs at
    by_case true = omega arith
    by_case false = runs_count a.kind a.ask.owner at rs

parts_on : (n : ℕ) (rs : List Run) (at : ℕ) → runs_on (take n rs) at + runs_on (drop n rs) at ≡ runs_on rs at
parts_on n rs at = sum_by-take-drop (λ (r : Run). one_if (covers at r)) rs n

pub objects_on : (asks : List ObjectAsk) (cuts : List ℕ) (rs : List Run) (at : ℕ) → counted at (block_places (blocks_of_asks asks cuts rs)) ≤ runs_on rs at
unfolding blocks_of_asks
objects_on [] cuts rs at = omega arith
objects_on (a ∷ asks) [] rs at = omega arith
objects_on (a ∷ asks) (n ∷ cuts) rs at =
    let first = ask_blocks a (take n rs) in
    let rest = blocks_of_asks asks cuts (drop n rs) in
    let parts : block_places (first ++ rest) ≡ block_places first ++ block_places rest = map-append (λ (b : ObjectBlock). b.place) first rest in
    let all : counted at (block_places (first ++ rest)) ≡ counted at (block_places first) + counted at (block_places rest) =
    ap (counted at) parts ∙ counted_append at (block_places first) (block_places rest) in
    omega (arith, all, ask_count a (take n rs) at, objects_on asks cuts (drop n rs) at, parts_on n rs at)

-- numbers in four lists, of which the third is parted by a test
pub arranged : (test : ℕ → Bool) (trees objects places log : List ℕ) → IsOnce (trees ++ (objects ++ (places ++ log)))
    → IsOnce ((trees ++ (objects ++ filter test places)) ++ (filter (λ place. not (test place)) places ++ log))
arranged test trees objects places log once = record {
  each = λ at.
      let new = filter test places in
      let old = filter (λ place. not (test place)) places in
      let parted : counted at new + counted at old ≡ counted at places =
      sum_by-filter_both test (λ place. not (test place)) (λ x. refl) (λ (o : ℕ). one_if (o == at)) places in
      let one = counted_append at trees (objects ++ (places ++ log)) in
      let two = counted_append at objects (places ++ log) in
      let three = counted_append at places log in
      let all = counted_append at (trees ++ (objects ++ new)) (old ++ log) in
      let fresh = counted_append at trees (objects ++ new) in
      let put = counted_append at objects new in
      let rest = counted_append at old log in
      omega (arith, once.each at, parted, one, two, three, all, fresh, put, rest);
}
