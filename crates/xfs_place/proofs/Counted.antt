-- The runs of free blocks and the records of owners, counted: what is left for the free list.
use Rattle.std.proofs.Common.{◌≡◌, ℕ, ◌+◌, ◌-◌, ◌≤◌, ◌<◌, inl, inr, Bool, true, false, not, ◌&&◌, nat_lt, List, [], ◌∷◌, Some, length, map, refl, sym, ◌∙◌, ap, arith}
use Rattle.std.specs.List.{filter, sum}
use Rattle.std.proofs.lemmas.List.{length-map}
use Rattle.std.proofs.lemmas.Bool.{cases_lt, lt-ltb, le-ltb, true≢false}
use Rattle.std.proofs.lemmas.Bool.Decides.{nat_tests}
use Rattle.xfs_geom.specs.Sums.{has_free}
use Rattle.xfs_disk.specs.Lists.{is_in_range}
use Rattle.xfs_geom.specs.declared.records.Span.{Span}
use Rattle.xfs_geom.specs.declared.records.InoRec.{InoRec}
use Rattle.xfs_geom.specs.declared.records.RmapRec.{RmapRec}
use Rattle.xfs_kinds.specs.FreeRuns.{AreSeparate, is_in_spans}
use Rattle.xfs_place.specs.Choice.{Group, IsChosenCount, free_run_count, is_free_at, need, one_if, owned_at, owner_count, blocks_of_size, space_blocks, total}
use Rattle.xfs_place.specs.Placing.{AreFreeRuns, AreRecords, inner_blocks, run_of_record, tree_sizes}
use Rattle.xfs_place.proofs.Begun.{stays_to}
use Rattle.xfs_place.proofs.Ordered.{begun_all}
use Rattle.xfs_place.proofs.Totals.{total_more, total_none}

-- a block where a run of those that pass begins
abbrev begins : (ℕ → Bool) → ℕ → Bool
begins free b = free b && not (nat_lt 0 b && free (b - 1))

in_before : (rs : List Span) (low b : ℕ) → AreSeparate low rs → b < low → is_in_spans rs b ≡ false
in_before [] low b apart h = refl
in_before (r ∷ rest) low b apart h =
    let out : is_in_range r.start r.count b ≡ false = grind (arith, nat_tests, apart.0, h) in
    let next = in_before rest (r.start + r.count + 1) b apart.2 (omega (arith, apart.0, h)) in
    rw out next

in_first : (r : Span) (rest : List Span) (b : ℕ) → r.start ≤ b → b < r.start + r.count → is_in_spans (r ∷ rest) b ≡ true
in_first r rest b low high = let here : is_in_range r.start r.count b ≡ true = grind (arith, nat_tests, low, high) in rw here refl

pub in_behind : (r : Span) (rest : List Span) (b : ℕ) → r.start + r.count ≤ b → is_in_spans (r ∷ rest) b ≡ is_in_spans rest b
in_behind r rest b h = let out : is_in_range r.start r.count b ≡ false = grind (arith, nat_tests, h) in rw out refl

-- the first run does not follow a block that passes
abbrev FirstAlone : (ℕ → Bool) → List Span → Type 0
FirstAlone free [] = Unit {0}
FirstAlone free (r ∷ rest) = 0 < r.start → free (r.start - 1) ≡ false

-- the runs end by a block
pub ends : (r : Span) (rest : List Span) (low top : ℕ) → AreSeparate low (r ∷ rest) → ((b : ℕ) → top ≤ b → is_in_spans (r ∷ rest) b ≡ false) → r.start + r.count ≤ top
ends r rest low top apart out = elim (cases_lt top (r.start + r.count)) [
  | inr inside ↦ inside
  | inl far ↦
      let last = in_first r rest (r.start + r.count - 1) (omega (arith, apart.1)) (omega (arith, apart.1)) in
      absurd (true≢false (sym last ∙ out (r.start + r.count - 1) (omega (arith, far))))
]

begun_at : (free : ℕ → Bool) (b : ℕ) → free b ≡ true → (0 < b → free (b - 1) ≡ false) → one_if (begins free b) ≡ 1
begun_at free b here apart = elim (cases_lt 0 b) [
  | inl pos ↦
      let e : nat_lt 0 b ≡ true = lt-ltb 0 b pos in
      let f = apart pos in
      rw (here, e, f) refl
  | inr none ↦
      let e : nat_lt 0 b ≡ false = le-ltb 0 b none in
      rw (here, e) refl
]

goes_on_at : (free : ℕ → Bool) (b : ℕ) → 0 < b → free b ≡ true → free (b - 1) ≡ true → one_if (begins free b) ≡ 0
goes_on_at free b pos here before =
    let e : nat_lt 0 b ≡ true = lt-ltb 0 b pos in
    rw (here, e, before) refl

begun_spans : (free : ℕ → Bool) (rs : List Span) (low at top : ℕ) → AreSeparate low rs → FirstAlone free rs → at ≤ low → at ≤ top
    → ((b : ℕ) → at ≤ b → b < top → free b ≡ is_in_spans rs b) → ((b : ℕ) → top ≤ b → is_in_spans rs b ≡ false)
    → total (λ b. one_if (begins free b)) top ≡ total (λ b. one_if (begins free b)) at + length rs
begun_spans free [] low at top apart first from up is out =
    let zero' = stays_to (λ b. one_if (begins free b)) at top up (λ b l h. let e : free b ≡ false = is b l h in rw e refl) in
    omega (arith, zero')
begun_spans free (r ∷ rest) low at top apart first from up is out =
    let f : ℕ → ℕ = λ b. one_if (begins free b) in
    let end = r.start + r.count in
    let inside : end ≤ top = ends r rest low top apart out in
    let before = stays_to f at r.start (omega (arith, from, apart.0)) (λ b l h.
    let e : free b ≡ false = is b l (omega (arith, h, inside)) ∙ in_before (r ∷ rest) r.start b (omega arith, apart.1, apart.2) h in
    rw e refl) in
    let mine = λ (b : ℕ) (l : r.start ≤ b) (h : b < end). is b (omega (arith, l, from, apart.0)) (omega (arith, h, inside)) ∙ in_first r rest b l h in
    let starts : f r.start ≡ 1 = begun_at free r.start (mine r.start (omega arith) (omega (arith, apart.1))) first in
    let step = total_more f r.start in
    let within = stays_to f (r.start + 1) end (omega (arith, apart.1)) (λ b l h.
    goes_on_at free b (omega (arith, l)) (mine b (omega (arith, l)) h) (mine (b - 1) (omega (arith, l)) (omega (arith, l, h)))) in
    let rest_out = λ (b : ℕ) (l : top ≤ b). sym (in_behind r rest b (omega (arith, l, inside))) ∙ out b l in
    let next = begun_spans free rest (end + 1) end top apart.2 (alone rest apart.2 rest_out (λ b l h. is b (omega (arith, l, from, apart.0)) h ∙ in_behind r rest b l)) (omega arith) inside
    (λ b l h. is b (omega (arith, l, from, apart.0)) h ∙ in_behind r rest b l) rest_out in
    omega (arith, before, starts, step, within, next)
  where
    alone : (ys : List Span) → AreSeparate (r.start + r.count + 1) ys → ((b : ℕ) → top ≤ b → is_in_spans ys b ≡ false)
        → ((b : ℕ) → r.start + r.count ≤ b → b < top → free b ≡ is_in_spans ys b) → FirstAlone free ys
    alone [] ys far held = tt
    alone (y ∷ ys) sep far held = λ pos.
        let there = ends y ys (r.start + r.count + 1) top sep far in
        held (y.start - 1) (omega (arith, sep.0)) (omega (arith, there, sep.1, pos)) ∙ in_before (y ∷ ys) y.start (y.start - 1) (omega arith, sep.1, sep.2) (omega (arith, pos))

-- the runs of free blocks are as many as the blocks that begin one
pub free_all : (g : Group) (n : ℕ) (runs : List Span) → AreFreeRuns g n runs → free_run_count g.uses n ≡ length runs
unfolding free_run_count
free_all g n runs are =
    let so = begun_spans (is_free_at g.uses n) runs 0 0 (length g.uses) are.separate (first runs are.separate are.inside (λ b h. sym (are.blocks b h))) (omega arith) (omega arith)
    (λ b low high. sym (are.blocks b high)) are.inside in
    omega (arith, so, total_none (λ b. one_if (begins (is_free_at g.uses n) b)))
  where
    first : (ys : List Span) → AreSeparate 0 ys → ((b : ℕ) → length g.uses ≤ b → is_in_spans ys b ≡ false) → ((b : ℕ) → b < length g.uses → is_free_at g.uses n b ≡ is_in_spans ys b)
        → FirstAlone (is_free_at g.uses n) ys
    first [] sep far held = tt
    first (y ∷ ys) sep far held = λ pos.
        let there = ends y ys 0 (length g.uses) sep far in
        held (y.start - 1) (omega (arith, there, sep.1, pos)) ∙ in_before (y ∷ ys) y.start (y.start - 1) (omega arith, sep.1, sep.2) (omega (arith, pos))

-- the records of owners are as many as the blocks that begin one
pub owners_all : (g : Group) (space n : ℕ) (records : List RmapRec) → AreRecords g space n records → owner_count g space n ≡ length (map run_of_record records)
unfolding owner_count
owners_all g space n records are =
    begun_all (owned_at g space n) (length g.uses) (map run_of_record records) are.owned.claims are.apart (λ b h. sym (are.owned.held b h))

-- the blocks of the trees by their records are those by which they were chosen
pub sizes_all : (g : Group) (n : ℕ) (bno : List Span) (inodes fino : List InoRec) (rmap : List RmapRec) → g.inner ≡ inner_blocks inodes → fino ≡ filter has_free inodes
    → AreFreeRuns g n bno → AreRecords g (space_blocks g n) n rmap → sum (tree_sizes (length bno) (length inodes) (length fino) (length rmap)) ≡ need g n
unfolding need
sizes_all g n bno inodes fino rmap inner free frees owners =
    let a : blocks_of_size 505 336 (length bno) ≡ blocks_of_size 505 336 (free_run_count g.uses n) = ap (blocks_of_size 505 336) (sym (free_all g n bno frees)) in
    let b : blocks_of_size 168 91 (length rmap) ≡ blocks_of_size 168 91 (owner_count g (space_blocks g n) n) =
    ap (blocks_of_size 168 91) (sym (owners_all g (space_blocks g n) n rmap owners ∙ length-map rmap run_of_record)) in
    let c : blocks_of_size 252 505 (length fino) ≡ blocks_of_size 252 505 (length (filter has_free inodes)) = ap (λ (xs : List InoRec). blocks_of_size 252 505 (length xs)) free in
    let parts : sum (tree_sizes (length bno) (length inodes) (length fino) (length rmap))
    ≡ 0 + blocks_of_size 505 336 (length bno) + blocks_of_size 505 336 (length bno) + blocks_of_size 252 505 (length inodes) + blocks_of_size 252 505 (length fino) + blocks_of_size 168 91 (length rmap) = refl in
    omega (arith, a, b, c, inner, parts)

pub chosen_fits : (g : Group) (n : ℕ) → IsChosenCount g (Some n) → need g n ≤ n
chosen_fits g n (inl rich) = omega (arith, rich.0.1)
chosen_fits g n (inr little) = omega (arith, little.1.0.1)
