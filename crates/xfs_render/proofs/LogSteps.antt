-- The sectors of a log, block by block.
use Rattle.std.proofs.Common.{◌≡◌, ℕ, zero, suc, ◌+◌, ◌-◌, ◌*◌, ◌^◌, ◌<◌, ◌≤◌, inl, inr, List, [], ◌∷◌, ◌++◌, map, refl, sym, subst, ap, ap₂, ◌∙◌, arith}
use Rattle.std.specs.List.{flat_map, range_with_len}
use Rattle.std.proofs.lemmas.List.{map-append, map-id}
use Rattle.std.proofs.lemmas.List.FromFn.{map-range_with_len_more}
use Rattle.std.proofs.lemmas.Bool.{cases_lt}
use Rattle.xfs_disk.specs.Blocks.{Image, bytes_of_block}
use Rattle.xfs_geom.specs.Volumes.{Volume}
use Rattle.xfs_log.proofs.BlankIsClean.{blank_is_clean}
use Rattle.xfs_log.specs.BlankLog.{blank_log, blank_seen}
use Rattle.xfs_log.specs.Log.{seen_of, state_of}
use Rattle.xfs_tree.specs.Blocks.{each_of}
use Rattle.xfs_render.specs.Drafts.{AddsAgain, AddsBlock, HoldsDraft, IsDraft, last_block}
use Rattle.xfs_render.specs.Logs.{AddsLog, AddsRest, IsBlankAt, IsBlankBlock, sector_of}
use Rattle.xfs_render.specs.declared.draft.Draft.{Draft}
use Rattle.xfs_render.proofs.DraftSteps.{adds_as, adds_none, adds_then}

-- one number more
pub range_more : (a n : ℕ) → range_with_len a (n + 1) ≡ range_with_len a n ++ (a + n) ∷ []
range_more a n =
    sym (map-id (range_with_len a (n + 1))) ∙ map-range_with_len_more (λ (x : ℕ). x) a n (a + n) refl ∙ ap (λ (xs : List ℕ). xs ++ (a + n) ∷ []) (map-id (range_with_len a n))

-- the first of some numbers, and the others
range_split : (a k m n : ℕ) → n ≡ k + m → range_with_len a n ≡ range_with_len a k ++ range_with_len (a + k) m
range_split a zero m n e =
    let same : n ≡ m = omega (arith, e) in
    let at : a ≡ a + 0 = omega arith in
    ap₂ range_with_len at same
range_split a (suc k) m zero e = absurd (omega (arith, e))
range_split a (suc k) m (suc n) e =
    let at : a + 1 + k ≡ a + suc k = omega arith in
    ap (λ (xs : List ℕ). a ∷ xs) (range_split (a + 1) k m n (omega (arith, e)) ∙ ap (λ b. range_with_len (a + 1) k ++ range_with_len b m) at)

-- two lists from numbers that go up together
both_from : {A : Type 0} (p q : ℕ → A) (b a c : ℕ) → ((k : ℕ) → k < c → p (b + k) ≡ q (a + k)) → map p (range_with_len b c) ≡ map q (range_with_len a c)
both_from p q b a zero each = refl
both_from p q b a (suc c) each =
    let first_b : b ≡ b + 0 = omega arith in
    let first_a : a + 0 ≡ a = omega arith in
    let head = ap p first_b ∙ each 0 (omega arith) ∙ ap q first_a in
    let rest = both_from p q (b + 1) (a + 1) c (λ k low.
    let next_b : b + 1 + k ≡ b + suc k = omega arith in
    let next_a : a + suc k ≡ a + 1 + k = omega arith in
    ap p next_b ∙ each (suc k) (omega (arith, low)) ∙ ap q next_a) in
    ap₂ (λ x xs. x ∷ xs) head rest

map_twice : {A B C : Type 0} (f : A → B) (g : B → C) (xs : List A) → map g (map f xs) ≡ map (λ x. g (f x)) xs
map_twice f g [] = refl
map_twice f g (x ∷ xs) = ap (λ ys. g (f x) ∷ ys) (map_twice f g xs)

-- what the sectors of blocks of a blank log say
seen_rows : (bytes : ℕ → List ℕ) (cycle : ℕ) (uuid : List ℕ) (n first number : ℕ) → ((i : ℕ) → i < n → IsBlankBlock cycle uuid (number + i) (bytes (first + i)))
    → map seen_of (flat_map (λ block. each_of 8 (sector_of (bytes block))) (range_with_len first n)) ≡ map (blank_seen cycle) (range_with_len (8 * number) (8 * n))
seen_rows bytes cycle uuid zero first number blank = refl
seen_rows bytes cycle uuid (suc n) first number blank =
    let g = λ (block : ℕ). each_of 8 (sector_of (bytes block)) in
    let here = blank 0 (omega arith) in
    let eight : map seen_of (g first) ≡ map (blank_seen cycle) (range_with_len (8 * number) 8) =
    map_twice (sector_of (bytes first)) seen_of (range_with_len 0 8)
    ∙ both_from (λ k. seen_of (sector_of (bytes first) k)) (blank_seen cycle) 0 (8 * number) 8 (λ k low.
    let at : first + 0 ≡ first = omega arith in
    let zero_k : 0 + k ≡ k = omega arith in
    let place : 8 * (number + 0) + k ≡ 8 * number + k = omega arith in
    ap (λ j. seen_of (sector_of (bytes first) j)) zero_k ∙ ap (λ b. seen_of (sector_of (bytes b) k)) (sym at) ∙ (here.each k low).seen ∙ ap (blank_seen cycle) place) in
    let rest : map seen_of (flat_map g (range_with_len (first + 1) n)) ≡ map (blank_seen cycle) (range_with_len (8 * (number + 1)) (8 * n)) =
    seen_rows bytes cycle uuid n (first + 1) (number + 1) (λ i low.
    let at : first + suc i ≡ first + 1 + i = omega arith in
    let next : number + suc i ≡ number + 1 + i = omega arith in
    let moved = subst (λ (m : ℕ). IsBlankBlock cycle uuid m (bytes (first + suc i))) next (blank (suc i) (omega (arith, low))) in
    subst (λ (m : ℕ). IsBlankBlock cycle uuid (number + 1 + i) (bytes m)) at moved) in
    let next : 8 * (number + 1) ≡ 8 * number + 8 = omega arith in
    map-append seen_of (g first) (flat_map g (range_with_len (first + 1) n))
    ∙ ap₂ (λ xs ys. xs ++ ys) eight (rest ∙ ap (λ a. map (blank_seen cycle) (range_with_len a (8 * n))) next)
    ∙ sym (ap (map (blank_seen cycle)) (range_split (8 * number) 8 (8 * n) (8 * suc n) (omega arith)) ∙ map-append (blank_seen cycle) (range_with_len (8 * number) 8) (range_with_len (8 * number + 8) (8 * n)))

pub log_seen : (bytes : ℕ → List ℕ) (cycle : ℕ) (uuid : List ℕ) (n first : ℕ) → ((i : ℕ) → i < n → IsBlankBlock cycle uuid i (bytes (first + i)))
    → map seen_of (flat_map (λ block. each_of 8 (sector_of (bytes block))) (range_with_len first n)) ≡ blank_log cycle (8 * n)
unfolding blank_log
log_seen bytes cycle uuid n first blank = seen_rows bytes cycle uuid n first 0 (λ i low.
    let at : i ≡ 0 + i = omega arith in
    subst (λ (m : ℕ). IsBlankBlock cycle uuid m (bytes (first + i))) at (blank i low))

-- a sector behind the first two is the same at each place
same_rest : (cycle : ℕ) (uuid : List ℕ) (p q : ℕ) (sector : List ℕ) → 2 ≤ p → 2 ≤ q → IsBlankAt cycle uuid p sector → IsBlankAt cycle uuid q sector
same_rest cycle uuid zero q sector some more is = absurd (omega (arith, some))
same_rest cycle uuid (suc zero) q sector some more is = absurd (omega (arith, some))
same_rest cycle uuid (suc (suc p)) zero sector some more is = absurd (omega (arith, more))
same_rest cycle uuid (suc (suc p)) (suc zero) sector some more is = absurd (omega (arith, more))
same_rest cycle uuid (suc (suc p)) (suc (suc q)) sector some more is = record { blank = is.blank; seen = is.seen }

-- so is a block behind the first
pub same_block : (cycle : ℕ) (uuid block : List ℕ) (number : ℕ) → 1 ≤ number → IsBlankBlock cycle uuid 1 block → IsBlankBlock cycle uuid number block
same_block cycle uuid block number some is = record {
  each = λ k low. same_rest cycle uuid (8 * 1 + k) (8 * number + k) (sector_of block k) (omega arith) (omega (arith, some)) (is.each k low);
}

-- no block behind the second, and one more
pub rest_none : (v : Volume) (cycle : ℕ) (draft : Draft) → IsDraft draft → AddsRest v cycle 2 draft draft
rest_none v cycle draft was = record {
  adds = adds_none draft was;
  reads = λ image held i some low. absurd (omega (arith, some, low));
  last = refl;
}

pub rest_more : (v : Volume) (cycle i place : ℕ) (old mid new : Draft) → 2 ≤ i → place ≡ v.log + i → IsBlankBlock cycle v.uuid 1 (last_block old.bank)
    → AddsRest v cycle i old mid → AddsAgain mid new place → AddsRest v cycle (i + 1) old new
rest_more v cycle i place old mid new some at is first next =
    let count : i + 1 - 2 ≡ i - 2 + 1 = omega (arith, some) in
    let here : v.log + 2 + (i - 2) ≡ place = omega (arith, some, at) in
    let more : range_with_len (v.log + 2) (i - 2) ++ place ∷ [] ≡ range_with_len (v.log + 2) (i + 1 - 2) =
    ap (λ (n : ℕ). range_with_len (v.log + 2) (i - 2) ++ n ∷ []) (sym here) ∙ sym (range_more (v.log + 2) (i - 2)) ∙ ap (range_with_len (v.log + 2)) (sym count) in
    record {
      adds = adds_as old new (range_with_len (v.log + 2) (i - 2) ++ place ∷ []) (range_with_len (v.log + 2) (i + 1 - 2)) (0 + 0) 0 more (omega arith)
          (adds_then old mid new (range_with_len (v.log + 2) (i - 2)) (place ∷ []) 0 0 first.adds next.adds);
      reads = λ image held j low high. elim (cases_lt j i) [
        | inl early ↦ first.reads image (next.adds.before image held) j low early
        | inr late ↦
            let same : i ≡ j = omega (arith, high, late) in
            let bytes : bytes_of_block image place ≡ last_block old.bank = next.held image held ∙ first.last in
            let blank : IsBlankBlock cycle v.uuid i (last_block old.bank) = same_block cycle v.uuid (last_block old.bank) i (omega (arith, some)) is in
            subst (λ (n : ℕ). IsBlankBlock cycle v.uuid n (bytes_of_block image (v.log + n))) same
            (subst (λ (n : ℕ). IsBlankBlock cycle v.uuid i (bytes_of_block image n)) at
            (subst (λ (b : List ℕ). IsBlankBlock cycle v.uuid i b) (sym bytes) blank))
      ];
      last = next.last ∙ first.last;
    }

-- the first block, the second, and those behind them
pub whole_log : (v : Volume) (cycle : ℕ) (first second : List ℕ) (old one two new : Draft) → 2 ≤ v.logblocks → 1 ≤ cycle → cycle < 2 ^ 31
    → IsBlankBlock cycle v.uuid 0 first → IsBlankBlock cycle v.uuid 1 second
    → AddsBlock old one v.log first → AddsBlock one two (v.log + 1) second → AddsRest v cycle v.logblocks two new → AddsLog v cycle old new
whole_log v cycle first second old one two new large some few is_first is_second a b rest =
    let n = v.logblocks in
    let log = v.log in
    let at : log ≡ log + 0 = omega arith in
    let zero_first : IsBlankBlock cycle v.uuid 0 first = is_first in
    let blank = λ (image : Image) (held : HoldsDraft image new) (i : ℕ) (low : i < n). blank_at image held i low in
    let next : log + 1 + 1 ≡ log + 2 = omega arith in
    let left : n - 1 - 1 ≡ n - 2 = omega arith in
    let all : log ∷ [] ++ (log + 1) ∷ [] ++ range_with_len (log + 2) (n - 2) ≡ range_with_len log n = sym (range_split log 2 (n - 2) n (omega (arith, large))) in
    record {
      adds = adds_as old new (log ∷ [] ++ (log + 1) ∷ [] ++ range_with_len (log + 2) (n - 2)) (range_with_len log n) (1 + 1 + 0) 2 all (omega arith)
          (adds_then old two new (log ∷ [] ++ (log + 1) ∷ []) (range_with_len (log + 2) (n - 2)) (1 + 1) 0
          (adds_then old one two (log ∷ []) ((log + 1) ∷ []) 1 1 a.adds b.adds) rest.adds);
      reads = λ image held. record {
        blank = blank image held;
        clean = ap state_of (log_seen (bytes_of_block image) cycle v.uuid n log (blank image held)) ∙ blank_is_clean cycle (8 * n) some few (omega (arith, large));
      };
    }
  where
    blank_at : (image : Image) → HoldsDraft image new → (i : ℕ) → i < v.logblocks → IsBlankBlock cycle v.uuid i (bytes_of_block image (v.log + i))
    blank_at image held zero low =
        let at : v.log ≡ v.log + 0 = omega arith in
        let bytes : bytes_of_block image (v.log + 0) ≡ first = ap (bytes_of_block image) (sym at) ∙ a.held image (b.adds.before image (rest.adds.before image held)) in
        subst (λ (x : List ℕ). IsBlankBlock cycle v.uuid 0 x) (sym bytes) is_first
    blank_at image held (suc zero) low =
        let bytes : bytes_of_block image (v.log + 1) ≡ second = b.held image (rest.adds.before image held) in
        subst (λ (x : List ℕ). IsBlankBlock cycle v.uuid 1 x) (sym bytes) is_second
    blank_at image held (suc (suc i)) low = rest.reads image held (suc (suc i)) (omega arith) low
