-- The runs that an ask takes are few, and extents unless it takes a single one.
use Rattle.std.proofs.Common.{◌≡◌, ℕ, zero, suc, ◌+◌, ◌-◌, ◌==◌, ◌≤◌, ◌⊎◌, inl, inr, Bool, true, false, cond, min, nat_le, nat_lt, List, [], ◌∷◌, ◌++◌, length, Option, Some, None, arith, refl, sym, subst, ap, ◌∙◌, append_assoc}
use Rattle.std.specs.List.{All}
use Rattle.std.proofs.lemmas.Bool.{and_parts, eqb-true, eqb-false, leb-true, ltb-false, true≢false}
use Rattle.xfs_geom.specs.Volumes.{Volume}
use Rattle.xfs_geom.specs.declared.records.Run.{Run}
use Rattle.xfs_place.specs.Objects.{can_hold_object, first_with, found_or, front_of, keep_pieces, longest_run, lowest, lowest_run, most_blocks, most_extent_blocks, piece_of, rest_of, run_at, with_found}
use Rattle.xfs_place.specs.Pool.{is_pool_unspared}
use Rattle.xfs_place.specs.declared.wanted.RunAsk.{RunAsk}

abbrev pub value : Option ℕ → ℕ
value None = 0
value (Some n) = n

abbrev pub first : Option (ℕ × ℕ) → ℕ
first None = 0
first (Some p) = p.0

abbrev pub second : Option (ℕ × ℕ) → ℕ
second None = 0
second (Some p) = p.1

abbrev pub runs_in : Option (List Run) → List Run
runs_in None = []
runs_in (Some runs) = runs

-- a run that is found for so many blocks has at most the most that one may have
first_passes : (test : ℕ → Bool) (i n s : ℕ) → first_with test i n ≡ Some s → test s ≡ true
unfolding first_with
first_passes test i zero s found = cc
first_passes test i (suc n) s found = by_case (test i) refl found (first_passes test (i + 1) n s)
  where
    by_case : (r : Bool) → test i ≡ r → cond r (Some i) (first_with test (i + 1) n) ≡ Some s → (first_with test (i + 1) n ≡ Some s → test s ≡ true) → test s ≡ true
    by_case true is found rest = subst (λ (m : ℕ). test m ≡ true) (ap value found) is
    by_case false is found rest = rest found

low_few : (v : Volume) (pool : ℕ → Bool) (from blocks s : ℕ) → lowest_run v pool from blocks ≡ Some s → blocks ≤ most_blocks
unfolding lowest_run
low_few v pool from blocks s found =
    leb-true blocks most_blocks (and_parts (nat_le blocks most_blocks) _ (first_passes (can_hold_object v pool from blocks) 0 v.dblocks s found)).0

-- the longest run has at most so many blocks
longest_few : (low : ℕ → Option ℕ) (n s m : ℕ) → longest_run low n ≡ Some (s, m) → m ≤ n
unfolding longest_run
longest_few low zero s m found = cc
longest_few low (suc n) s m found = by_case (low (suc n)) found (longest_few low n s m)
  where
    by_case : (o : Option ℕ) → found_or o (suc n) (longest_run low n) ≡ Some (s, m) → (longest_run low n ≡ Some (s, m) → m ≤ n) → m ≤ suc n
    by_case None found rest = let less = rest found in omega (arith, less)
    by_case (Some start) found rest = let same : suc n ≡ m = ap second found in omega (arith, same)

-- what is found for some blocks: all of them, as an extent where others stand elsewhere, or fewer, as an extent
abbrev pub IsPiece : Bool → ℕ → ℕ → Type 0
IsPiece split blocks m =
    ((m ≡ blocks) × (m ≤ most_blocks) × (split ≡ true → m ≤ most_extent_blocks)) ⊎ ((m ≤ most_extent_blocks) × (m ≤ blocks))

fewer_piece : (low : ℕ → Option ℕ) (split : Bool) (blocks s m : ℕ) → longest_run low (min (blocks - 1) most_extent_blocks) ≡ Some (s, m) → IsPiece split blocks m
fewer_piece low split blocks s m found =
    let most = longest_few low (min (blocks - 1) most_extent_blocks) s m found in inr (omega (arith, most), omega (arith, most))

whole_piece : (low : ℕ → Option ℕ) (split : Bool) (blocks s m : ℕ) → ((n start : ℕ) → low n ≡ Some start → n ≤ most_blocks) → (split ≡ true → blocks ≤ most_extent_blocks)
    → (o : Option ℕ) → low blocks ≡ o → found_or o blocks (longest_run low (min (blocks - 1) most_extent_blocks)) ≡ Some (s, m) → IsPiece split blocks m
whole_piece low split blocks s m few extent None is found = fewer_piece low split blocks s m found
whole_piece low split blocks s m few extent (Some start) is found =
    let same : blocks ≡ m = ap second found in
    let most = few blocks start is in
    inl (sym same, omega (arith, most, same), λ yes'. let short = extent yes' in omega (arith, short, same))

piece_few : (low : ℕ → Option ℕ) (split : Bool) (blocks s m : ℕ) → ((n start : ℕ) → low n ≡ Some start → n ≤ most_blocks) → piece_of low split blocks ≡ Some (s, m) → IsPiece split blocks m
piece_few low false blocks s m few found = whole_piece low false blocks s m few (λ is. absurd (true≢false (sym is))) (low blocks) refl found
piece_few low true blocks s m few found = by_case (nat_lt most_extent_blocks blocks) refl found
  where
    by_case : (long : Bool) → nat_lt most_extent_blocks blocks ≡ long
        → found_or (cond long None (low blocks)) blocks (longest_run low (min (blocks - 1) most_extent_blocks)) ≡ Some (s, m) → IsPiece true blocks m
    by_case true is found = fewer_piece low true blocks s m found
    by_case false is found = whole_piece low true blocks s m few (λ _. let short = ltb-false most_extent_blocks blocks is in omega (arith, short)) (low blocks) refl found

-- the runs of an ask: at most so many, each an extent, but for a single one
pub record Pieces (split : Bool) (more : ℕ) (kept : List Run) (ask : RunAsk) (all : List Run) : Type 0 where
  pub pieces : List Run
  pub behind : all ≡ kept ++ pieces
  pub few : length pieces ≤ more
  pub small : All (λ (r : Run). (r.count ≤ ask.blocks) × (r.owner ≡ ask.owner)) pieces
  pub extents : All (λ (r : Run). r.count ≤ most_extent_blocks) pieces ⊎ ((split ≡ false) × (length pieces ≡ 1) × All (λ (r : Run). r.count ≤ most_blocks) pieces)

one_run : (P : Run → Type 0) (r : Run) → P r → All P (r ∷ [])
one_run P r p zero d low = p
one_run P r p (suc k) d low = absurd (omega (arith, low))

more_runs : (P : Run → Type 0) (r : Run) (rest : List Run) → P r → All P rest → All P (r ∷ rest)
more_runs P r rest p all zero d low = p
more_runs P r rest p all (suc k) d low = all k d (omega (arith, low))

module _ (v : Volume) (reserved : List ℕ) (from : ℕ) (spared : List ℕ) where
  last_piece : (split : Bool) (more start m : ℕ) (kept : List Run) (ask : RunAsk) (all : List Run) → IsPiece split ask.blocks m → m ≡ ask.blocks → Some (kept ++ run_at start ask ∷ []) ≡ Some all
      → Pieces split (suc more) kept ask all
  last_piece split more start m kept ask all piece same is =
      record {
        pieces = run_at start ask ∷ [];
        behind = sym (ap runs_in is);
        few = omega arith;
        small = one_run (λ (r : Run). (r.count ≤ ask.blocks) × (r.owner ≡ ask.owner)) (run_at start ask) (omega arith, refl);
        extents = sized split piece;
      }
    where
      sized : (split : Bool) → IsPiece split ask.blocks m
          → All (λ (r : Run). r.count ≤ most_extent_blocks) (run_at start ask ∷ []) ⊎ ((split ≡ false) × (length (run_at start ask ∷ []) ≡ 1) × All (λ (r : Run). r.count ≤ most_blocks) (run_at start ask ∷ []))
      sized split (inr short) = let few = short.0 in inl (one_run (λ (r : Run). r.count ≤ most_extent_blocks) (run_at start ask) (omega (arith, few, same)))
      sized true (inl whole) = let few = whole.2 refl in inl (one_run (λ (r : Run). r.count ≤ most_extent_blocks) (run_at start ask) (omega (arith, few, same)))
      sized false (inl whole) = let few = whole.1 in inr (refl, refl, one_run (λ (r : Run). r.count ≤ most_blocks) (run_at start ask) (omega (arith, few, same)))

  pub kept_pieces : (more : ℕ) (split : Bool) (kept : List Run) (ask : RunAsk) (all : List Run) → keep_pieces v reserved from spared more split kept ask ≡ Some all → Pieces split more kept ask all
  unfolding keep_pieces
  kept_pieces zero split kept ask all is = cc
  kept_pieces (suc more) split kept ask all is =
      by_piece (piece_of (lowest v reserved from spared kept) split ask.blocks) refl (λ start m. kept_pieces more true (kept ++ run_at start (front_of ask m) ∷ []) (rest_of ask m) all) is
    where
      fewer : (m : ℕ) → (m == ask.blocks) ≡ false → IsPiece split ask.blocks m → (m ≤ most_extent_blocks) × (m ≤ ask.blocks)
      fewer m other (inl whole) = absurd (eqb-false m ask.blocks other whole.0)
      fewer m other (inr short) = short

      all_extents : (ps : List Run) → All (λ (r : Run). r.count ≤ most_extent_blocks) ps ⊎ ((true ≡ false) × (length ps ≡ 1) × All (λ (r : Run). r.count ≤ most_blocks) ps)
          → All (λ (r : Run). r.count ≤ most_extent_blocks) ps
      all_extents ps (inl all) = all
      all_extents ps (inr single) = absurd (true≢false single.0)

      by_rest : (start m : ℕ) → (m == ask.blocks) ≡ false → IsPiece split ask.blocks m → Pieces true more (kept ++ run_at start (front_of ask m) ∷ []) (rest_of ask m) all → Pieces split (suc more) kept ask all
      by_rest start m other piece rest =
          let short = fewer m other piece in
          let one : Run = run_at start (front_of ask m) in
          let less = rest.few in
          record {
            pieces = one ∷ rest.pieces;
            behind = rest.behind ∙ append_assoc kept (one ∷ []) rest.pieces;
            few = omega (arith, less);
            small = more_runs (λ (r : Run). (r.count ≤ ask.blocks) × (r.owner ≡ ask.owner)) one rest.pieces (short.1, refl) (λ k d low.
                let here = rest.small k d low in let count = here.0 in (omega (arith, count), here.1));
            extents = inl (more_runs (λ (r : Run). r.count ≤ most_extent_blocks) one rest.pieces short.0 (all_extents rest.pieces rest.extents));
          }

      by_case : (start m : ℕ) (r : Bool) → (m == ask.blocks) ≡ r → IsPiece split ask.blocks m
          → (keep_pieces v reserved from spared more true (kept ++ run_at start (front_of ask m) ∷ []) (rest_of ask m) ≡ Some all
          → Pieces true more (kept ++ run_at start (front_of ask m) ∷ []) (rest_of ask m) all)
          → cond r (Some (kept ++ run_at start ask ∷ [])) (keep_pieces v reserved from spared more true (kept ++ run_at start (front_of ask m) ∷ []) (rest_of ask m)) ≡ Some all
          → Pieces split (suc more) kept ask all
      by_case start m true same piece rest is = last_piece split more start m kept ask all piece (eqb-true m ask.blocks same) is
      by_case start m false other piece rest is = by_rest start m other piece (rest is)

      by_piece : (o : Option (ℕ × ℕ)) → piece_of (lowest v reserved from spared kept) split ask.blocks ≡ o
          → ((start m : ℕ) → keep_pieces v reserved from spared more true (kept ++ run_at start (front_of ask m) ∷ []) (rest_of ask m) ≡ Some all
          → Pieces true more (kept ++ run_at start (front_of ask m) ∷ []) (rest_of ask m) all)
          → with_found o (λ start blocks. cond (blocks == ask.blocks) (Some (kept ++ run_at start ask ∷ []))
          (keep_pieces v reserved from spared more true (kept ++ run_at start (front_of ask blocks) ∷ []) (rest_of ask blocks))) ≡ Some all → Pieces split (suc more) kept ask all
      by_piece None found rest is = cc
      by_piece (Some (start, m)) found rest is =
          by_case start m (m == ask.blocks) refl
          (piece_few (lowest v reserved from spared kept) split ask.blocks start m (λ n s low. low_few v (is_pool_unspared v kept reserved spared) from n s low) found) (rest start m) is
