-- The runs that objects get: they stand in the order of their files, and fill no more than a fork each.
use Rattle.std.proofs.Common.{◌≡◌, ℕ, zero, suc, ◌+◌, ◌-◌, ◌/◌, ◌≤◌, ◌⊎◌, inl, inr, false, List, [], ◌∷◌, ◌++◌, length, length-append, Option, Some, None, arith, refl, sym, ap, ◌∙◌, append_assoc, append-nil}
use Rattle.std.specs.List.{All, flat_map}
use Rattle.std.proofs.lemmas.List.Elements.{All-append}
use Rattle.std.proofs.lemmas.List.FromFn.{length-map-range_with_len}
use Rattle.xfs_geom.specs.Volumes.{Volume}
use Rattle.xfs_geom.specs.declared.records.Run.{Run}
use Rattle.xfs_place.specs.Objects.{keep_asks, keep_pieces, most_blocks, most_extent_blocks, with_kept}
use Rattle.xfs_place.specs.declared.wanted.RunAsk.{RunAsk}
use Rattle.xfs_filled.specs.Forks.{extent_of_piece, extents_of_run}
use Rattle.xfs_filled.proofs.Few.{kept_pieces, runs_in}

-- how many extents a run has
run_extents : (v : Volume) (r : Run) → length (extents_of_run v r) ≡ (r.count + 2097150) / 2097151
run_extents v r = length-map-range_with_len (extent_of_piece v r) 0 ((r.count + 2097150) / 2097151)

-- runs that are extents have no more of them than they are
extents_few : (v : Volume) (runs : List Run) → All (λ (r : Run). r.count ≤ most_extent_blocks) runs → length (flat_map (extents_of_run v) runs) ≤ length runs
extents_few v [] all = omega arith
extents_few v (r ∷ runs) all =
    let here = run_extents v r in
    let count = all zero r (omega arith) in
    let one : (r.count + 2097150) / 2097151 ≤ 1 = omega (arith, count) in
    let rest = extents_few v runs (λ k d low. all (suc k) d (omega (arith, low))) in
    let both = length-append (extents_of_run v r) (flat_map (extents_of_run v) runs) in
    omega (arith, here, one, rest, both)

-- a single run has no more than fill a fork
single_few : (v : Volume) (runs : List Run) → length runs ≡ 1 → All (λ (r : Run). r.count ≤ most_blocks) runs → length (flat_map (extents_of_run v) runs) ≤ 21
single_few v [] one all = absurd (omega (arith, one))
single_few v (r ∷ []) one all =
    let here = run_extents v r in
    let count = all zero r (omega arith) in
    let few : (r.count + 2097150) / 2097151 ≤ 21 = omega (arith, count) in
    let both = length-append (extents_of_run v r) [] in
    omega (arith, here, few, both)
single_few v (r ∷ q ∷ runs) one all = absurd (omega (arith, one))

sized_few : (v : Volume) (ps : List Run) → All (λ (r : Run). r.count ≤ most_extent_blocks) ps ⊎ ((false ≡ false) × (length ps ≡ 1) × All (λ (r : Run). r.count ≤ most_blocks) ps) → length ps ≤ 21
    → length (flat_map (extents_of_run v) ps) ≤ 21
sized_few v ps (inl all) few = let less = extents_few v ps all in omega (arith, less, few)
sized_few v ps (inr single) few = single_few v ps single.1 single.2

-- what an object takes: runs of its owner behind those that are kept, with no more extents than fill a fork
pub record Takes (v : Volume) (owner : ℕ) (kept all : List Run) : Type 0 where
  pub runs : List Run
  pub behind : all ≡ kept ++ runs
  pub owned : All (λ (r : Run). r.owner ≡ owner) runs
  pub few : length (flat_map (extents_of_run v) runs) ≤ 21

-- the runs of asks of extents
record Small (left owner : ℕ) (kept all : List Run) : Type 0 where
  pub runs : List Run
  pub behind : all ≡ kept ++ runs
  pub owned : All (λ (r : Run). r.owner ≡ owner) runs
  pub few : length runs ≤ left
  pub extents : All (λ (r : Run). r.count ≤ most_extent_blocks) runs

module _ (v : Volume) (reserved : List ℕ) (from : ℕ) (spared : List ℕ) where
  small_asks : (owner left : ℕ) (kept : List Run) (asks : List RunAsk) (all : List Run) → All (λ (a : RunAsk). (a.owner ≡ owner) × (a.blocks ≤ most_extent_blocks)) asks
      → keep_asks v reserved from spared left kept asks ≡ Some all → Small left owner kept all
  unfolding keep_asks
  small_asks owner left kept [] all fine is =
      record {
        runs = [];
        behind = sym (ap runs_in is) ∙ sym (append-nil kept);
        owned = λ k d low. absurd (omega (arith, low));
        few = omega arith;
        extents = λ k d low. absurd (omega (arith, low));
      }
  small_asks owner left kept (ask ∷ rest) all fine is =
      by_pieces (keep_pieces v reserved from spared (left - length rest) false kept ask) refl
      (λ now. small_asks owner (left - (length now - length kept)) now rest all (λ k d low. fine (suc k) d (omega (arith, low)))) is
    where
      own : (ask.owner ≡ owner) × (ask.blocks ≤ most_extent_blocks)
      own = fine zero ask (omega arith)

      by_pieces : (o : Option (List Run)) → keep_pieces v reserved from spared (left - length rest) false kept ask ≡ o
          → ((now : List Run) → keep_asks v reserved from spared (left - (length now - length kept)) now rest ≡ Some all → Small (left - (length now - length kept)) owner now all)
          → with_kept o (λ now. keep_asks v reserved from spared (left - (length now - length kept)) now rest) ≡ Some all → Small left owner kept all
      by_pieces None found behind is = cc
      by_pieces (Some now) found behind is =
          let pieces = kept_pieces v reserved from spared (left - length rest) false kept ask now found in
          let next = behind now is in
          let long : length now ≡ length kept + length pieces.pieces = ap length pieces.behind ∙ length-append kept pieces.pieces in
          let few = pieces.few in
          let less = next.few in
          let both = length-append pieces.pieces next.runs in
          record {
            runs = pieces.pieces ++ next.runs;
            behind = next.behind ∙ ap (λ (xs : List Run). xs ++ next.runs) pieces.behind ∙ append_assoc kept pieces.pieces next.runs;
            owned = All-append (λ (r : Run). r.owner ≡ owner) pieces.pieces next.runs (λ k d low. (pieces.small k d low).1 ∙ own.0) next.owned;
            few = omega (arith, long, few, less, both);
            extents = All-append (λ (r : Run). r.count ≤ most_extent_blocks) pieces.pieces next.runs (λ k d low. let here = (pieces.small k d low).0 in let most = own.1 in omega (arith, here, most)) next.extents;
          }

  -- asks of extents take no more than fill a fork
  pub takes_small : (owner : ℕ) (kept : List Run) (asks : List RunAsk) (all : List Run) → All (λ (a : RunAsk). (a.owner ≡ owner) × (a.blocks ≤ most_extent_blocks)) asks
      → keep_asks v reserved from spared 21 kept asks ≡ Some all → Takes v owner kept all
  takes_small owner kept asks all fine is =
      let small = small_asks owner 21 kept asks all fine is in
      let few = extents_few v small.runs small.extents in
      let most = small.few in
      record { runs = small.runs; behind = small.behind; owned = small.owned; few = omega (arith, few, most) }

  -- and so does one ask, whatever its length
  pub takes_one : (kept : List Run) (ask : RunAsk) (all : List Run) → keep_asks v reserved from spared 21 kept (ask ∷ []) ≡ Some all → Takes v ask.owner kept all
  unfolding keep_asks
  takes_one kept ask all is = by_pieces (keep_pieces v reserved from spared 21 false kept ask) refl is
    where
      by_pieces : (o : Option (List Run)) → keep_pieces v reserved from spared 21 false kept ask ≡ o
          → with_kept o (λ now. keep_asks v reserved from spared (21 - (length now - length kept)) now []) ≡ Some all → Takes v ask.owner kept all
      by_pieces None found is = cc
      by_pieces (Some now) found is =
          let pieces = kept_pieces v reserved from spared 21 false kept ask now found in
          record {
            runs = pieces.pieces;
            behind = sym (ap runs_in is) ∙ pieces.behind;
            owned = λ k d low. (pieces.small k d low).1;
            few = sized_few v pieces.pieces pieces.extents pieces.few;
          }
