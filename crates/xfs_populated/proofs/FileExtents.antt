-- The extents of the files of a new volume are as they should be, and their contents are not too long.
use Rattle.std.proofs.Common.{◌≡◌, ℕ, zero, suc, ◌+◌, ◌-◌, ◌*◌, ◌/◌, ◌^◌, ◌==◌, ◌≤◌, ◌<◌, Bool, true, false, cond, List, [], ◌∷◌, ◌++◌, length, length-append, take, drop, map, Option, Some, None, arith, refl, sym, subst, ap, ◌∙◌}
use Rattle.std.specs.Prelude.{if◌then◌else◌}
use Rattle.std.specs.List.{All, AllByRecursion, filter, flat_map}
use Rattle.std.proofs.lemmas.Bool.{eqb-true}
use Rattle.std.proofs.lemmas.List.{get_or-append-add, length-take, take-append-drop}
use Rattle.std.proofs.lemmas.List.Elements.{All-append, All-filter}
use Rattle.std.proofs.lemmas.List.FromFn.{length-map-range_with_len}
use Rattle.std.proofs.Math.Nat.{mod-eq_of_lt}
use Rattle.xfs_word.specs.declared.extents.Extent.{Extent}
use Rattle.xfs_disk.proofs.OneOrder.{count-cons}
use Rattle.xfs_geom.specs.Runs.{covers, runs_on}
use Rattle.xfs_geom.specs.Volumes.{Volume, volume_of}
use Rattle.xfs_geom.specs.declared.geometry.Geometry.{Geometry}
use Rattle.xfs_geom.specs.declared.records.Run.{Run}
use Rattle.xfs_kinds.specs.OffsetWords.{offset_in_fork}
use Rattle.xfs_inode.specs.Files.{are_extents, range_of, ranges_apart}
use Rattle.xfs_place.specs.Claims.{IsClaimedRun}
use Rattle.xfs_place.specs.Objects.{AreJoined, ServeAsks, asks_of, rest_of}
use Rattle.xfs_place.specs.Wanted.{CanBeKept, IsOffFixed}
use Rattle.xfs_place.specs.declared.wanted.RunAsk.{RunAsk}
use Rattle.xfs_proto.specs.declared.protofile.ProtoNode.{ProtoNode}
use Rattle.xfs_filled.specs.Directories.{IsSoundWhere, made_directory_at}
use Rattle.xfs_filled.specs.FileTrees.{AreProtoNodes, node_at, object_order}
use Rattle.xfs_filled.specs.Forks.{extent_of_piece, extents_of_owner, extents_of_run, owned_by}
use Rattle.xfs_filled.specs.Numbers.{number_of}
use Rattle.xfs_filled.specs.Objects.{all_objects, blocks_of_length, content_at, run_of, runs_at}
use Rattle.xfs_filled.specs.Sites.{AreChunksPlaced}
use Rattle.xfs_filled.specs.Spans.{AreRunsOf}
use Rattle.xfs_filled.specs.declared.directories.MadeDirectory.{MadeDirectory}
use Rattle.xfs_filled.proofs.Numbering.{number_low}
use Rattle.xfs_filled.proofs.Readied.{extents_few}
use Rattle.xfs_populated.proofs.FileCuts.{CanCut, count_append, cut, cuts_are, cuts_on, cuts_placed}
use Rattle.xfs_populated.proofs.FileLawful.{parts_apart, parts_follow}
use Rattle.xfs_populated.proofs.FileOrder.{AreFew, AsksInOrder, kind_order, served_order}
use Rattle.xfs_populated.proofs.FileServed.{AreServed, file_served}
use Rattle.xfs_populated.proofs.FileSized.{sound_at}
use Rattle.xfs_populated.proofs.SlotKinds.{AreFileExtents}

-- runs end at low offsets
abbrev EndsLow : Run → Type 0
EndsLow r = offset_in_fork r.offset_word + r.count ≤ 2 ^ 33

joined_low : (runs : List Run) (ask : RunAsk) → AreJoined ask runs → ask.offset_word + ask.blocks ≤ 2 ^ 33 → All EndsLow runs
joined_low [] ask joined small k d low = absurd (omega (arith, low))
joined_low (r ∷ runs) ask joined small zero d low =
    let word : r.offset_word ≡ ask.offset_word = ap (λ (x : Run). x.offset_word) joined.0 in
    let few = joined.1 in
    let plain : offset_in_fork r.offset_word ≡ r.offset_word = mod-eq_of_lt (omega (arith, word, small)) in
    omega (arith, plain, word, few, small)
joined_low (r ∷ runs) ask joined small (suc k) d low =
    let few = joined.1 in
    let next = rest_low ask.offset_word r.count ask.blocks (rest_of ask r.count).offset_word small few (behind ask r.count) in
    joined_low runs (rest_of ask r.count) joined.2 next k d (omega (arith, low))
  where
    behind : (ask : RunAsk) (n : ℕ) → (rest_of ask n).offset_word ≤ ask.offset_word + n
    behind ask n = by_case _
      where
        by_case : (t : Bool) → (if t then ask.offset_word + n else ask.offset_word) ≤ ask.offset_word + n
        by_case true = omega arith
        by_case false = omega arith

    rest_low : (offset n blocks next : ℕ) → offset + blocks ≤ 2 ^ 33 → n ≤ blocks → next ≤ offset + n → next + (blocks - n) ≤ 2 ^ 33
    rest_low offset n blocks next small few at = omega (arith, small, few, at)

served_low : (asks : List RunAsk) (runs : List Run) (least : ℕ) → AreServed asks runs → AsksInOrder least asks → All EndsLow runs
served_low [] runs least served order = subst (All EndsLow) (sym served) (λ k d low. absurd (omega (arith, low)))
served_low (a ∷ asks) runs least served order =
    subst (All EndsLow) (take-append-drop served.0 runs)
    (All-append EndsLow (take served.0 runs) (drop served.0 runs) (joined_low (take served.0 runs) a served.2 order.2)
    (served_low asks (drop served.0 runs) (a.offset_word + a.blocks) served.3 order.3))

-- what holds of all runs holds of those of an owner
pub all_behind : (P : Run → Type 0) (kept runs : List Run) → All P (kept ++ runs) → All P runs
all_behind P kept runs all k d low =
    let long = length-append kept runs in
    subst P (get_or-append-add kept runs k d) (all (length kept + k) d (omega (arith, long, low)))

can_cut : (v : Volume) (runs : List Run) → All (IsClaimedRun v.dblocks) runs → All (IsOffFixed v) runs → All EndsLow runs → AllByRecursion (CanCut v) runs
can_cut v [] claims clear ends = tt
can_cut v (r ∷ runs) claims clear ends = (
  record { clear = clear zero r (omega arith); inside = (claims zero r (omega arith)).inside; room = let low = ends zero r (omega arith) in omega (arith, low) },
  can_cut v runs (λ k d low. claims (suc k) d (omega (arith, low))) (λ k d low. clear (suc k) d (omega (arith, low))) (λ k d low. ends (suc k) d (omega (arith, low))),
)

filter_on : (p : Run → Bool) (runs : List Run) (b : ℕ) → runs_on (filter p runs) b ≤ runs_on runs b
filter_on p [] b = omega arith
filter_on p (r ∷ runs) b = by_case (p r) (filter_on p runs b)
  where
    by_case : (t : Bool) → runs_on (filter p runs) b ≤ runs_on runs b → runs_on (cond t (r ∷ filter p runs) (filter p runs)) b ≤ runs_on (r ∷ runs) b
    by_case true less =
        let all = count-cons (covers b) r runs in
        let own = count-cons (covers b) r (filter p runs) in
        omega (arith, all, own, less)
    by_case false less = let all = count-cons (covers b) r runs in omega (arith, all, less)

few_of : (made : Option MadeDirectory) → IsSoundWhere made → AreFew made
few_of None sound = tt
few_of (Some d) sound = (sound.data_few, sound.index_few, sound.free_few)

-- a run has some extents, so runs are no more than these
run_some : (v : Volume) (runs : List Run) → All (λ (r : Run). 1 ≤ r.count) runs → length runs ≤ length (flat_map (extents_of_run v) runs)
run_some v [] some = omega arith
run_some v (r ∷ runs) some =
    let count = some zero r (omega arith) in
    let here : length (extents_of_run v r) ≡ (r.count + 2097150) / 2097151 = length-map-range_with_len (extent_of_piece v r) 0 ((r.count + 2097150) / 2097151) in
    let one : 1 ≤ (r.count + 2097150) / 2097151 = omega (arith, count) in
    let rest = run_some v runs (λ k d low. some (suc k) d (omega (arith, low))) in
    let both = length-append (extents_of_run v r) (flat_map (extents_of_run v) runs) in
    omega (arith, here, one, rest, both)

joined_few : (runs : List Run) (ask : RunAsk) → AreJoined ask runs → All (λ (r : Run). r.count ≤ 2 ^ 26) runs → ask.blocks ≤ 2 ^ 26 * length runs
joined_few [] ask joined few = omega (arith, joined)
joined_few (r ∷ runs) ask joined few =
    let here = few zero r (omega arith) in
    let inside = joined.1 in
    let rest = joined_few runs (rest_of ask r.count) joined.2 (λ k d low. few (suc k) d (omega (arith, low))) in
    omega (arith, here, inside, rest)

single_few : (blocks owner : ℕ) (runs : List Run) → AreServed (run_of blocks owner 0) runs → length runs ≤ 21 → All (λ (r : Run). r.count ≤ 2 ^ 26) runs → blocks ≤ 2 ^ 26 * 21
single_few blocks owner runs served most few = by_case (blocks == 0) refl served
  where
    by_case : (t : Bool) → (blocks == 0) ≡ t → AreServed (cond t [] (record { blocks = blocks; owner = owner; offset_word = 0 } ∷ [])) runs → blocks ≤ 2 ^ 26 * 21
    by_case true is none = let zero' = eqb-true blocks 0 is in omega (arith, zero')
    by_case false is has =
        let n = has.0 in
        let long = length-take n runs in
        let part = joined_few (take n runs) (record { blocks = blocks; owner = owner; offset_word = 0 }) has.2 (λ k d low. first n runs few k d low) in
        omega (arith, long, part, most)
      where
        first : (n : ℕ) (xs : List Run) → All (λ (r : Run). r.count ≤ 2 ^ 26) xs → All (λ (r : Run). r.count ≤ 2 ^ 26) (take n xs)
        first zero xs all k d low = absurd (omega (arith, low))
        first (suc n) [] all k d low = absurd (omega (arith, low))
        first (suc n) (x ∷ xs) all zero d low = all zero d (omega arith)
        first (suc n) (x ∷ xs) all (suc k) d low = first n xs (λ i e less. all (suc i) e (omega (arith, less))) k d (omega (arith, low))

module _ (g : Geometry) (starts : List ℕ) (ns : List ProtoNode) (contents : List (List ℕ)) (kept runs : List Run) (cuts : List ℕ) (k : ℕ)
    (placed : AreChunksPlaced g starts ns) (files : AreProtoNodes ns) (low : k < length ns) (serve : ServeAsks (asks_of (all_objects (volume_of g) starts ns contents)) cuts runs)
    (apart : CanBeKept (volume_of g) (kept ++ runs)) (are : AreRunsOf (volume_of g) starts (object_order ns) runs) where
  abbrev ino : ℕ
  ino = number_of (volume_of g) starts k

  abbrev own : List Run
  own = owned_by ino runs

  pub served : AreServed (runs_at (volume_of g) starts ns contents k) own
  served = file_served g starts ns contents cuts runs k placed low serve

  order : AsksInOrder 0 (runs_at (volume_of g) starts ns contents k)
  order =
      let number = number_low g starts ns k placed low in
      kind_order (node_at ns k).kind (made_directory_at (volume_of g) starts ns k) (content_at contents k) ino (omega (arith, number)) (few_of (made_directory_at (volume_of g) starts ns k) (sound_at g starts ns k placed files))

  pub own_claims : All (IsClaimedRun g.dblocks) own
  own_claims = All-filter (λ (r : Run). r.owner == ino) (IsClaimedRun g.dblocks) runs (all_behind (IsClaimedRun g.dblocks) kept runs apart.each)

  own_clear : All (IsOffFixed (volume_of g)) own
  own_clear = All-filter (λ (r : Run). r.owner == ino) (IsOffFixed (volume_of g)) runs (all_behind (IsOffFixed (volume_of g)) kept runs apart.clear)

  own_once : (b : ℕ) → runs_on (flat_map cut own) b ≤ 1
  own_once b =
      let parts = cuts_on own b in
      let mine = filter_on (λ (r : Run). r.owner == ino) runs b in
      let all = count_append b kept runs in
      let once = apart.apart.once b in
      omega (arith, parts, mine, all, once)

  own_few : length (extents_of_owner (volume_of g) ino runs) ≤ 21
  own_few = extents_few g starts ns runs placed are k low

  pub file_extents : AreFileExtents (volume_of g) (extents_of_owner (volume_of g) ino runs)
  file_extents =
      let parts = cuts_placed (volume_of g) own (can_cut (volume_of g) own own_claims own_clear (served_low (runs_at (volume_of g) starts ns contents k) own 0 served order)) in
      record {
        placed = ap (are_extents (volume_of g) None) (cuts_are (volume_of g) own) ∙ parts_follow g (flat_map cut own) parts (served_order (runs_at (volume_of g) starts ns contents k) own 0 served order);
        apart = ap (λ (es : List Extent). ranges_apart (map (range_of (volume_of g)) es)) (cuts_are (volume_of g) own) ∙ parts_apart g (flat_map cut own) parts own_once;
        few = own_few;
      }

  -- a content that is placed is not too long
  pub content_few : runs_at (volume_of g) starts ns contents k ≡ run_of (blocks_of_length (length (content_at contents k))) ino 0 → blocks_of_length (length (content_at contents k)) ≤ 2 ^ 26 * 21
  content_few asks =
      let small = g.shape.groups.small in
      let many = run_some (volume_of g) own (λ i d less. (own_claims i d less).some) in
      let most = own_few in
      single_few (blocks_of_length (length (content_at contents k))) ino own (subst (λ (xs : List RunAsk). AreServed xs own) asks served) (omega (arith, many, most))
      (λ i d less. let inside = (own_claims i d less).inside in omega (arith, inside, small))

  pub content_small : runs_at (volume_of g) starts ns contents k ≡ run_of (blocks_of_length (length (content_at contents k))) ino 0 → length (content_at contents k) < 2 ^ 63
  content_small asks = sized (length (content_at contents k)) (content_few asks)
    where
      sized : (n : ℕ) → blocks_of_length n ≤ 2 ^ 26 * 21 → n < 2 ^ 63
      sized n few = omega (arith, few)
