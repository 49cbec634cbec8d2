-- A directory has at most as many runs as there is room for extents in its fork.
use Rattle.std.proofs.Common.{◌≡◌, ℕ, zero, suc, Bool, true, false, ◌+◌, ◌-◌, ◌/◌, ◌≤◌, ◌==◌, if◌then◌else◌, List, [], ◌∷◌, ◌++◌, length, map, take, drop, Option, Some, None, Ok, refl, sym, ap, ap₂, ◌∙◌, subst, append-nil, arith}
use Rattle.std.specs.List.{AllByRecursion, filter, flat_map}
use Rattle.std.proofs.lemmas.Bool.{both_ways}
use Rattle.std.proofs.lemmas.List.{append_assoc, length-append, take-append-drop}
use Rattle.xfs_geom.specs.Features.{or_else}
use Rattle.xfs_geom.specs.Volumes.{Volume}
use Rattle.xfs_geom.specs.declared.records.Run.{Run}
use Rattle.xfs_names.specs.Built.{fork_room}
use Rattle.xfs_names.specs.declared.building.BuiltDirectory.{BuiltDirectory}
use Rattle.xfs_names.specs.declared.building.ForkRoom.{ForkRoom}
use Rattle.xfs_place.specs.Objects.{AreJoined, ServeAsks, asks_of, front_of, keep_asks, keep_object, keep_pieces, keep_with, lowest, or_no_room, piece_of, place_of_object, rest_of, run_at, with_found, with_kept}
use Rattle.xfs_place.specs.declared.wanted.Object.{Object}
use Rattle.xfs_place.specs.declared.wanted.RunAsk.{RunAsk}
use Rattle.xfs_place.proofs.Pieces.{objects_behind, pieces_behind}
use Rattle.xfs_render.specs.Objects.{asks_with_kind}
use Rattle.xfs_rename.specs.xfs_built.Asks.{asks_for, object_of, objects_of, stands_in_blocks}
use Rattle.xfs_rename.specs.xfs_built.Directories.{BuiltRuns, HasOwnCounts, asks_of_built, built_runs, runs_of_built, with_runs}
use Rattle.xfs_rename.specs.xfs_built.Pieces.{IsFrontOfAsks, asked_offsets, offsets_in, run_offsets}
use Rattle.xfs_rename.proofs.xfs_built.Fronts.{front_is}
use Rattle.xfs_rename.proofs.xfs_built.Mapping.{length_range}
use Rattle.xfs_rename.proofs.xfs_built.Standing.{asks_plain}

-- how many blocks runs have, and how many asks ask for
abbrev blocks_of : List Run → ℕ
blocks_of runs = length (offsets_in runs)

abbrev asked : List RunAsk → ℕ
asked asks = length (flat_map asked_offsets asks)

blocks_first : (r : Run) (rest : List Run) → blocks_of (r ∷ rest) ≡ r.count + blocks_of rest
blocks_first r rest = length-append (run_offsets r) (offsets_in rest) ∙ ap (λ (n : ℕ). n + blocks_of rest) (length_range r.offset_word r.count)

asked_first : (a : RunAsk) (rest : List RunAsk) → asked (a ∷ rest) ≡ a.blocks + asked rest
asked_first a rest = length-append (asked_offsets a) (flat_map asked_offsets rest) ∙ ap (λ (n : ℕ). n + asked rest) (length_range a.offset_word a.blocks)

blocks_both : (xs ys : List Run) → blocks_of (xs ++ ys) ≡ blocks_of xs + blocks_of ys
blocks_both [] ys = omega arith
blocks_both (r ∷ xs) ys =
    let first = blocks_first r xs in
    let whole = blocks_first r (xs ++ ys) in
    let rest = blocks_both xs ys in
    omega (arith, first, whole, rest)

joined_blocks : (ask : RunAsk) (runs : List Run) → AreJoined ask runs → blocks_of runs ≡ ask.blocks
joined_blocks ask [] none = sym none
joined_blocks ask (r ∷ rest) joined =
    let few = joined.1 in
    let first = blocks_first r rest in
    let more = joined_blocks (rest_of ask r.count) rest joined.2 in
    omega (arith, first, more, few)

-- two fronts of a list with as many blocks are one
same_front : (xs ys us ws : List Run) → xs ++ us ≡ ys ++ ws → AllByRecursion (λ (r : Run). 1 ≤ r.count) (ys ++ ws) → blocks_of xs ≡ blocks_of ys → (xs ≡ ys) × (us ≡ ws)
same_front [] [] us ws same some equal = (refl, same)
same_front [] (y ∷ ys) us ws same some equal = let first = blocks_first y ys in let least = some.0 in absurd (omega (arith, equal, first, least))
same_front (x ∷ xs) [] us [] same some equal = absurd cc
same_front (x ∷ xs) [] us (w ∷ ws) same some equal =
    let head : x ≡ w = cc in
    let count : x.count ≡ w.count = ap (λ (r : Run). r.count) head in
    let first = blocks_first x xs in
    let least = some.0 in
    absurd (omega (arith, equal, first, least, count))
same_front (x ∷ xs) (y ∷ ys) us ws same some equal =
    let head : x ≡ y = cc in
    let tail : xs ++ us ≡ ys ++ ws = cc in
    let count : x.count ≡ y.count = ap (λ (r : Run). r.count) head in
    let first = blocks_first x xs in
    let second = blocks_first y ys in
    let rest = same_front xs ys us ws tail some.1 (omega (arith, equal, first, second, count)) in
    (ap₂ (λ (r : Run) (rs : List Run). r ∷ rs) head rest.0, rest.1)

-- the runs of asks, and of an object: as many blocks as are asked for, and no more runs than there may be
record IsServed (kept all : List Run) (blocks most : ℕ) : Type 0 where
  runs : List Run
  behind : all ≡ kept ++ runs
  blocks' : blocks_of runs ≡ blocks
  few : length runs ≤ most

module _ (v : Volume) (reserved : List ℕ) (from : ℕ) (spared : List ℕ) where
  pieces_few : (more : ℕ) (split : Bool) (kept : List Run) (ask : RunAsk) (all : List Run) → keep_pieces v reserved from spared more split kept ask ≡ Some all → length all ≤ length kept + more
  unfolding keep_pieces
  pieces_few zero split kept ask all is = absurd cc
  pieces_few (suc more) split kept ask all is = by_case (piece_of (lowest v reserved from spared kept) split ask.blocks) (λ k a. pieces_few more true k a all) is
    where
      by_test : (start blocks : ℕ) (t : Bool) → ((k : List Run) (a : RunAsk) → keep_pieces v reserved from spared more true k a ≡ Some all → length all ≤ length k + more)
          → (if t then Some (kept ++ run_at start ask ∷ []) else keep_pieces v reserved from spared more true (kept ++ run_at start (front_of ask blocks) ∷ []) (rest_of ask blocks)) ≡ Some all
          → length all ≤ length kept + suc more
      by_test start blocks true next here =
          let put : all ≡ kept ++ run_at start ask ∷ [] = cc in
          let long = ap length put ∙ length-append kept (run_at start ask ∷ []) in
          omega (arith, long)
      by_test start blocks false next here =
          let rest = next (kept ++ run_at start (front_of ask blocks) ∷ []) (rest_of ask blocks) here in
          let long = length-append kept (run_at start (front_of ask blocks) ∷ []) in
          omega (arith, rest, long)

      by_case : (o : Option (ℕ × ℕ)) → ((k : List Run) (a : RunAsk) → keep_pieces v reserved from spared more true k a ≡ Some all → length all ≤ length k + more)
          → with_found o (λ s n. if n == ask.blocks then Some (kept ++ run_at s ask ∷ []) else keep_pieces v reserved from spared more true (kept ++ run_at s (front_of ask n) ∷ []) (rest_of ask n)) ≡ Some all
          → length all ≤ length kept + suc more
      by_case None next here = absurd cc
      by_case (Some (start, blocks)) next here = by_test start blocks (blocks == ask.blocks) next here

  asks_served : (left : ℕ) (kept : List Run) (asks : List RunAsk) (all : List Run) → keep_asks v reserved from spared left kept asks ≡ Some all → IsServed kept all (asked asks) left
  unfolding keep_asks
  asks_served left kept [] all is = let same : all ≡ kept = cc in record { runs = []; behind = same ∙ sym (append-nil kept); blocks' = refl; few = omega arith }
  asks_served left kept (ask ∷ rest) all is = by_case (keep_pieces v reserved from spared (left - length rest) false kept ask) refl (λ n k here. asks_served n k rest all here) is
    where
      by_case : (o : Option (List Run)) → keep_pieces v reserved from spared (left - length rest) false kept ask ≡ o
          → ((n : ℕ) (k : List Run) → keep_asks v reserved from spared n k rest ≡ Some all → IsServed k all (asked rest) n)
          → with_kept o (λ k. keep_asks v reserved from spared (left - (length k - length kept)) k rest) ≡ Some all → IsServed kept all (asked (ask ∷ rest)) left
      by_case None found next here = absurd cc
      by_case (Some k) found next here =
          let first = pieces_behind v reserved from spared (left - length rest) false kept ask k found in
          let short = pieces_few (left - length rest) false kept ask k found in
          let more = next (left - (length k - length kept)) k here in
          let long = ap length first.1 ∙ length-append kept first.0 in
          let own = joined_blocks ask first.0 first.2 in
          let both = blocks_both first.0 more.runs in
          let counted = more.blocks' in
          let total = asked_first ask rest in
          let all_long = length-append first.0 more.runs in
          let few = more.few in
          record {
            runs = first.0 ++ more.runs;
            behind = more.behind ∙ (ap (λ (xs : List Run). xs ++ more.runs) first.1 ∙ append_assoc kept first.0 more.runs);
            blocks' = omega (arith, own, both, counted, total);
            few = omega (arith, short, long, all_long, few);
          }

module _ (v : Volume) (reserved : List ℕ) (from : ℕ) (spared : List ℕ) (takes : Bool) where
  object_served : (kept : List Run) (o : Object) (all : List Run) → keep_object v reserved from spared takes kept o ≡ Some all → IsServed kept all (asked o.runs) o.most
  object_served kept o all is = by_case (keep_asks v reserved from spared o.most kept o.runs) refl is
    where
      by_takes : (t : Bool) → (if t then keep_asks v reserved from [] o.most kept o.runs else None) ≡ Some all → IsServed kept all (asked o.runs) o.most
      by_takes true here = asks_served v reserved from [] o.most kept o.runs all here
      by_takes false here = absurd cc

      by_case : (k : Option (List Run)) → keep_asks v reserved from spared o.most kept o.runs ≡ k
          → or_else k (if takes then keep_asks v reserved from [] o.most kept o.runs else None) ≡ Some all → IsServed kept all (asked o.runs) o.most
      by_case None first here = by_takes takes here
      by_case (Some k) first here = asks_served v reserved from spared o.most kept o.runs all (first ∙ here)

  -- the first object, and what is then kept with the others
  record IsFirstServed (kept all : List Run) (o : Object) (rest : List Object) : Type 0 where
    now : List Run
    served : IsServed kept now (asked o.runs) o.most
    others : keep_with v reserved from spared takes now rest ≡ Ok all

  first_served : (kept all : List Run) (o : Object) (rest : List Object) → keep_with v reserved from spared takes kept (o ∷ rest) ≡ Ok all → IsFirstServed kept all o rest
  unfolding keep_with
  first_served kept all o rest is = by_case (keep_object v reserved from spared takes kept o) refl is
    where
      by_case : (ks : Option (List Run)) → keep_object v reserved from spared takes kept o ≡ ks
          → or_no_room ks (place_of_object o.kind o.ino) (λ k. keep_with v reserved from spared takes k rest) ≡ Ok all → IsFirstServed kept all o rest
      by_case None found here = absurd cc
      by_case (Some k) found here = record { now = k; served = object_served kept o k found; others = here }

  abbrev HasFew : List ForkRoom → BuiltRuns → Type 0
  HasFew rooms p = stands_in_blocks p.directory ≡ true → length p.runs ≤ fork_room rooms p.directory.ino / 16

  abbrev objects_when : Bool → List ForkRoom → BuiltDirectory → List BuiltDirectory → List Object
  objects_when t rooms b bs = map (object_of rooms) (if t then b ∷ filter stands_in_blocks bs else filter stands_in_blocks bs)

  abbrev runs_when : Bool → BuiltDirectory → List BuiltDirectory → List ℕ → List Run → List BuiltRuns
  runs_when t b bs cuts runs =
      if t then built_runs b (take (runs_of_built b cuts) runs) ∷ with_runs bs (drop (asks_of_built b) cuts) (drop (runs_of_built b cuts) runs)
      else built_runs b [] ∷ with_runs bs cuts runs

  few_if : (rooms : List ForkRoom) (b : BuiltDirectory) (bs : List BuiltDirectory) (cuts : List ℕ) (kept runs : List Run) → HasOwnCounts b → AllByRecursion (λ (r : Run). 1 ≤ r.count) runs
      → ((cs : List ℕ) (k rs : List Run) → AllByRecursion (λ (r : Run). 1 ≤ r.count) rs → ServeAsks (asks_of (objects_of rooms bs)) cs rs
      → keep_with v reserved from spared takes k (objects_of rooms bs) ≡ Ok (k ++ rs) → AllByRecursion (HasFew rooms) (with_runs bs cs rs))
      → (t : Bool) → stands_in_blocks b ≡ t → ServeAsks (asks_of (objects_when t rooms b bs)) cuts runs
      → keep_with v reserved from spared takes kept (objects_when t rooms b bs) ≡ Ok (kept ++ runs) → AllByRecursion (HasFew rooms) (runs_when t b bs cuts runs)
  few_if rooms b bs cuts kept runs sized some next true is serve placed =
      let objects : List Object = objects_of rooms bs in
      let m : ℕ = runs_of_built b cuts in
      let front : IsFrontOfAsks b.ino (asks_for b.ino b.image) (asks_of objects) (asks_with_kind objects) cuts runs =
      front_is b.ino (asks_for b.ino b.image) (asks_of objects) (asks_with_kind objects) cuts runs sized.low (asks_plain b sized) serve in
      let first = first_served kept (kept ++ runs) (object_of rooms b) objects placed in
      let own : List Run = first.served.runs in
      let rest = objects_behind v reserved from spared takes first.now objects (kept ++ runs) first.others in
      let whole : kept ++ runs ≡ kept ++ (own ++ rest.0) = rest.1 ∙ (ap (λ (xs : List Run). xs ++ rest.0) first.served.behind ∙ append_assoc kept own rest.0) in
      let cut : own ++ rest.0 ≡ take m runs ++ drop m runs = sym (same_behind kept runs (own ++ rest.0) whole) ∙ sym (take-append-drop m runs) in
      let one = same_front own (take m runs) rest.0 (drop m runs) cut (subst (AllByRecursion (λ (r : Run). 1 ≤ r.count)) (sym (take-append-drop m runs)) some)
      (first.served.blocks' ∙ sym (ap length front.offsets')) in
      let few = first.served.few in
      let long : length own ≡ length (take m runs) = ap length one.0 in
      let now_is : first.now ++ drop m runs ≡ kept ++ runs = ap (λ (xs : List Run). first.now ++ xs) (sym one.1) ∙ sym rest.1 in (
        λ yes_blocks. subst (λ (k : ℕ). k ≤ fork_room rooms b.ino / 16) long few,
        next (drop (asks_of_built b) cuts) first.now (drop m runs) (some_drop m runs some) front.rest' (first.others ∙ ap (λ (xs : List Run). Ok xs) (sym now_is)),
      )
    where
      same_behind : (xs ys zs : List Run) → xs ++ ys ≡ xs ++ zs → ys ≡ zs
      same_behind [] ys zs same = same
      same_behind (x ∷ xs) ys zs same = same_behind xs ys zs cc

      some_drop : (k : ℕ) (xs : List Run) → AllByRecursion (λ (r : Run). 1 ≤ r.count) xs → AllByRecursion (λ (r : Run). 1 ≤ r.count) (drop k xs)
      some_drop zero xs all = all
      some_drop (suc k) [] all = tt
      some_drop (suc k) (x ∷ xs) all = some_drop k xs all.1
  few_if rooms b bs cuts kept runs sized some next false is serve placed =
      (λ some_blocks. absurd (both_ways (stands_in_blocks b) is some_blocks), next cuts kept runs some serve placed)

  pub all_few : (rooms : List ForkRoom) (built : List BuiltDirectory) (cuts : List ℕ) (kept runs : List Run) → AllByRecursion HasOwnCounts built → AllByRecursion (λ (r : Run). 1 ≤ r.count) runs
      → ServeAsks (asks_of (objects_of rooms built)) cuts runs → keep_with v reserved from spared takes kept (objects_of rooms built) ≡ Ok (kept ++ runs)
      → AllByRecursion (HasFew rooms) (with_runs built cuts runs)
  unfolding with_runs
  all_few rooms [] cuts kept runs sized some serve placed = tt
  all_few rooms (b ∷ bs) cuts kept runs sized some serve placed =
      few_if rooms b bs cuts kept runs sized.0 some (λ cs k rs least served found. all_few rooms bs cs k rs sized.1 least served found) (stands_in_blocks b) refl serve placed
