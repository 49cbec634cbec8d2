-- The lowest blocks of a pool, as one after another is found.
use Rattle.std.proofs.Common.{◌≡◌, ℕ, zero, suc, ◌+◌, ◌-◌, ◌*◌, ◌≤◌, ◌<◌, inl, inr, Bool, true, false, ◌||◌, List, [], ◌∷◌, ◌++◌, length, get_or, refl, sym, ◌∙◌, ap, subst, arith, length-append}
use Rattle.std.proofs.lemmas.Bool.{cases_eq}
use Rattle.std.proofs.lemmas.List.{get_or_append_left, get_or_push, get_or_read}
use Rattle.xfs_place.specs.declared.uses.Use.{Use}
use Rattle.xfs_place.specs.declared.uses.Use.TheVariants.{Claimed}
use Rattle.xfs_place.specs.Pool.{use_at}
use Rattle.xfs_place.specs.Choice.{Group, begins_owned, claim_count, AreFound, AreSums, NoneOpen, begins_free, free_run_count, in_pool, is_for_inodes, is_for_space, is_spare, met_neighbours, one_if, rank, total}
use Rattle.xfs_place.proofs.Totals.{rank_up, total_more, total_none, total_same}
use Rattle.xfs_place.proofs.Ranks.{free_step}

-- where no block is of the pool the rank stays
pub rank_stays : (uses : List Use) (from k : ℕ) → NoneOpen uses from (from + k) → rank uses (from + k) ≡ rank uses from
rank_stays uses from zero none = let e : from + 0 ≡ from = omega arith in ap (rank uses) e
rank_stays uses from (suc k) none =
    let e : from + suc k ≡ (from + k) + 1 = omega arith in
    let closed : one_if (in_pool uses (from + k)) ≡ 0 = ap one_if (none (from + k) (omega arith) (omega arith)) in
    let so = rank_stays uses from k (λ b low high. none b low (omega (arith, high))) in
    ap (rank uses) e ∙ total_more (λ b. one_if (in_pool uses b)) (from + k) ∙ (omega (arith, so, closed))

pub rank_on : (uses : List Use) (from to : ℕ) → from ≤ to → NoneOpen uses from to → rank uses to ≡ rank uses from
rank_on uses from to low none =
    let e : to ≡ from + (to - from) = omega (arith, low) in
    ap (rank uses) e ∙ rank_stays uses from (to - from) (subst (NoneOpen uses from) e none)

sums_none : (uses : List Use) (t : Bool) (blocks sums : List ℕ) → blocks ≡ [] → sums ≡ 0 ∷ [] → AreSums uses t blocks sums
sums_none uses t blocks sums hb hs = record {
  all = ap length hs ∙ sym (ap (λ (xs : List ℕ). length xs + 1) hb);
  each = λ n few.
      let none : n ≡ 0 = omega (arith, few, ap length hb) in
      let first : get_or sums 0 0 ≡ 0 = ap (λ (xs : List ℕ). get_or xs 0 0) hs in
      subst (λ (k : ℕ). get_or sums k 0 ≡ total (λ j. met_neighbours uses t (get_or blocks j 0)) k) (sym none) (first ∙ sym (total_none (λ j. met_neighbours uses t (get_or blocks j 0))));
}

-- none is found yet
pub found_none : (uses : List Use) (blocks space inodes : List ℕ) (free : ℕ) → blocks ≡ [] → space ≡ 0 ∷ [] → inodes ≡ 0 ∷ [] → free ≡ free_run_count uses 0
    → AreFound uses blocks space inodes 0 free
found_none uses blocks space inodes free hb hs hi hf = record {
  low = record {
    open' = λ k few. absurd (omega (arith, few, ap length hb));
    ranks = λ k few. absurd (omega (arith, few, ap length hb));
  };
  space' = sums_none uses false blocks space hb hs;
  inodes' = sums_none uses true blocks inodes hb hi;
  at = total_none (λ b. one_if (in_pool uses b)) ∙ sym (ap length hb);
  inside = omega arith;
  free' = hf ∙ ap (free_run_count uses) (sym (ap length hb));
}

sums_more : (uses : List Use) (t : Bool) (blocks sums : List ℕ) (x s : ℕ) → AreSums uses t blocks sums → s ≡ get_or sums (length blocks) 0 + met_neighbours uses t x
    → AreSums uses t (blocks ++ x ∷ []) (sums ++ s ∷ [])
sums_more uses t blocks sums x s are is =
    let long : length (blocks ++ x ∷ []) ≡ length blocks + 1 = length-append blocks (x ∷ []) in
    let old : ℕ → ℕ = λ k. met_neighbours uses t (get_or blocks k 0) in
    let now : ℕ → ℕ = λ k. met_neighbours uses t (get_or (blocks ++ x ∷ []) k 0) in
    let same = λ (n : ℕ) (few : n ≤ length blocks). total_same now old n (λ k h. ap (met_neighbours uses t) (get_or_append_left blocks (x ∷ []) 0 k (omega (arith, few, h)))) in
    record {
      all = length-append sums (s ∷ []) ∙ (omega (arith, are.all, long));
      each = λ n few. elim (cases_eq n (length blocks + 1)) [
        | inl last ↦
            let put : get_or (sums ++ s ∷ []) (length blocks + 1) 0 ≡ s = get_or_push sums s 0 (length blocks + 1) are.all in
            let here : now (length blocks) ≡ met_neighbours uses t x = ap (met_neighbours uses t) (get_or_push blocks x 0 (length blocks) refl) in
            subst (λ (k : ℕ). get_or (sums ++ s ∷ []) k 0 ≡ total now k) (sym last)
            (put ∙ (omega (arith, is, are.each (length blocks) (omega arith), same (length blocks) (omega arith), total_more now (length blocks), here)))
        | inr other ↦
            let before : n ≤ length blocks = omega (arith, few, other, long) in
            get_or_append_left sums (s ∷ []) 0 n (omega (arith, before, are.all)) ∙ are.each n before ∙ sym (same n before)
      ];
    }

-- one block more is found
pub found_more : (uses : List Use) (blocks space inodes : List ℕ) (next free x s i f : ℕ) → use_at uses 0 ≡ Claimed → AreFound uses blocks space inodes next free
    → next ≤ x → x < length uses → in_pool uses x ≡ true → NoneOpen uses next x
    → s ≡ get_or space (length blocks) 0 + met_neighbours uses false x → i ≡ get_or inodes (length blocks) 0 + met_neighbours uses true x
    → f ≡ free + (one_if (is_spare (use_at uses (x - 1))) + one_if (is_spare (use_at uses (x + 1)) || in_pool uses (x + 1))) - 1
    → AreFound uses (blocks ++ x ∷ []) (space ++ s ∷ []) (inodes ++ i ∷ []) (x + 1) f
found_more uses blocks space inodes next free x s i f header found low in' open' none hs hi hf =
    let at : rank uses x ≡ length blocks = rank_on uses next x low none ∙ found.at in
    let long : length (blocks ++ x ∷ []) ≡ length blocks + 1 = length-append blocks (x ∷ []) in
    let step = free_step uses header (length blocks) x open' at in
    let one : one_if (in_pool uses x) ≡ 1 = ap one_if open' in
    record {
      low = record {
        open' = λ k few. elim (cases_eq k (length blocks)) [
          | inl last ↦ subst (λ (b : ℕ). in_pool uses b ≡ true) (sym (get_or_push blocks x 0 k (sym last))) open'
          | inr other ↦ subst (λ (b : ℕ). in_pool uses b ≡ true) (sym (get_or_append_left blocks (x ∷ []) 0 k (omega (arith, few, long, other)))) (found.low.open' k (omega (arith, few, long, other)))
        ];
        ranks = λ k few. elim (cases_eq k (length blocks)) [
          | inl last ↦ ap (rank uses) (get_or_push blocks x 0 k (sym last)) ∙ at ∙ sym last
          | inr other ↦ ap (rank uses) (get_or_append_left blocks (x ∷ []) 0 k (omega (arith, few, long, other))) ∙ found.low.ranks k (omega (arith, few, long, other))
        ];
      };
      space' = sums_more uses false blocks space x s found.space' hs;
      inodes' = sums_more uses true blocks inodes x i found.inodes' hi;
      at = total_more (λ b. one_if (in_pool uses b)) x ∙ (omega (arith, at, one, long));
      inside = omega (arith, in');
      free' = subst (λ (n : ℕ). f ≡ free_run_count uses n) (sym long) (omega (arith, step, found.free', hf));
    }

-- sums of small numbers are small
pub total_small : (f : ℕ → ℕ) (m n : ℕ) → ((k : ℕ) → f k ≤ m) → total f n ≤ n * m
total_small f m zero small = omega (arith, total_none f)
total_small f m (suc n) small =
    let e : suc n ≡ n + 1 = omega arith in
    subst (λ (k : ℕ). total f k ≤ k * m) (sym e) (omega (arith, total_small f m n small, small n, total_more f n))

pub one_small : (t : Bool) → one_if t ≤ 1
one_small true = omega arith
one_small false = omega arith

meets_small : (uses : List Use) (t : Bool) (x : ℕ) → met_neighbours uses t x ≤ 2
meets_small uses true x = omega (arith, one_small (in_pool uses (x - 1) || is_for_inodes (use_at uses (x - 1))), one_small (is_for_inodes (use_at uses (x + 1))))
meets_small uses false x = omega (arith, one_small (in_pool uses (x - 1) || is_for_space (use_at uses (x - 1))), one_small (is_for_space (use_at uses (x + 1))))

pub sums_small : (uses : List Use) (t : Bool) (blocks sums : List ℕ) (n : ℕ) → AreSums uses t blocks sums → n ≤ length blocks → get_or sums n 0 ≤ 2 * n
sums_small uses t blocks sums n are few =
    let small = total_small (λ k. met_neighbours uses t (get_or blocks k 0)) 2 n (λ k. meets_small uses t (get_or blocks k 0)) in
    omega (arith, are.each n few, small)

-- no more blocks are found than the group has, nor more runs of free ones
pub found_few : (uses : List Use) (blocks space inodes : List ℕ) (next free : ℕ) → AreFound uses blocks space inodes next free → length blocks ≤ length uses
found_few uses blocks space inodes next free found =
    let small = total_small (λ b. one_if (in_pool uses b)) 1 next (λ b. one_small (in_pool uses b)) in
    omega (arith, small, found.at, found.inside)

pub free_few : (uses : List Use) (n : ℕ) → free_run_count uses n ≤ length uses
unfolding free_run_count
free_few uses n =
    let small = total_small (λ b. one_if (begins_free uses n b)) 1 (length uses) (λ b. one_small (begins_free uses n b)) in
    omega (arith, small)

-- all of the pool is found where none is left
pub found_all : (uses : List Use) (blocks space inodes : List ℕ) (next free : ℕ) → AreFound uses blocks space inodes next free → NoneOpen uses next (length uses)
    → rank uses (length uses) ≡ length blocks
found_all uses blocks space inodes next free found none = rank_on uses next (length uses) found.inside none ∙ found.at

-- as many blocks as are found are there
pub found_there : (uses : List Use) (blocks space inodes : List ℕ) (next free : ℕ) → AreFound uses blocks space inodes next free → length blocks ≤ rank uses (length uses)
found_there uses blocks space inodes next free found = omega (arith, found.at, rank_up (λ b. one_if (in_pool uses b)) next (length uses) found.inside)

-- the sum for all blocks that are found, as it is read
pub sum_read : (sums blocks : List ℕ) (n x : ℕ) → x ≡ get_or sums n x → n ≡ length blocks → length sums ≡ length blocks + 1 → x ≡ get_or sums (length blocks) 0
sum_read sums blocks n x read at all =
    get_or_read sums n x (omega (arith, at, all)) read 0 ∙ ap (λ (k : ℕ). get_or sums k 0) at

pub rank_few : (uses : List Use) → rank uses (length uses) ≤ length uses
rank_few uses =
    let small = total_small (λ b. one_if (in_pool uses b)) 1 (length uses) (λ b. one_small (in_pool uses b)) in
    omega (arith, small)

pub claims_small : (g : Group) → claim_count g ≤ length g.uses
unfolding claim_count
claims_small g =
    let small = total_small (λ b. one_if (begins_owned g.claim b)) 1 (length g.uses) (λ b. one_small (begins_owned g.claim b)) in
    omega (arith, small)
