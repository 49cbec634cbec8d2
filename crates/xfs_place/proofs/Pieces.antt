-- Asks that are kept in pieces.
use Rattle.std.proofs.Common.{length-append, ◌≡◌, ℕ, zero, suc, ◌+◌, ◌-◌, ◌≤◌, ◌<◌, ◌==◌, ◌/◌, ◌%◌, ◌^◌, Bool, true, false, not, ◌&&◌, nat_lt, min, if◌then◌else◌, List, [], ◌∷◌, ◌++◌, length, take, drop, get_or, Some, None, Ok, Err, refl, sym, ◌∙◌, ap, subst, arith, append_assoc, length-drop}
use Rattle.std.specs.Prelude.{Option}
use Rattle.std.proofs.lemmas.Bool.{eq-eqb, lt-ltb, ne_eqb, true≢false}
use Rattle.std.proofs.lemmas.List.{append-nil, drop_more, drop_all, take_more, take_all, take-append-le, drop-append-le, flat_map_more}
use Rattle.xfs_geom.specs.Features.{or_else}
use Rattle.xfs_geom.specs.Volumes.{Volume}
use Rattle.xfs_geom.specs.declared.records.Run.{Run}
use Rattle.xfs_kinds.specs.OffsetWords.{is_file_data, is_tree_block}
use Rattle.xfs_place.specs.declared.wanted.Object.{Object}
use Rattle.xfs_place.specs.declared.wanted.RunAsk.{RunAsk}
use Rattle.xfs_place.specs.Finding.{IsFrontOf}
use Rattle.xfs_place.specs.Objects.{ServeAsks, AreJoined, IsAsk, asks_of, most_extent_blocks, found_or, front_of, keep_asks, keep_object, keep_pieces, keep_with, longest_run, lowest, or_no_room, piece_of, place_of_object, rest_of, run_at, with_kept, with_found}

append_none : (xs : List Run) → xs ++ [] ≡ xs
append_none [] = refl
append_none (x ∷ xs) = ap (λ (ys : List Run). x ∷ ys) (append_none xs)

-- the blocks of a run that is found
abbrev blocks_of : Option (ℕ × ℕ) → ℕ
blocks_of None = 0
blocks_of (Some (start, blocks)) = blocks

-- no piece has more blocks than are asked for
longest_few : (low : ℕ → Option ℕ) (n start blocks : ℕ) → longest_run low n ≡ Some (start, blocks) → blocks ≤ n
unfolding longest_run
longest_few low zero start blocks is = cc
longest_few low (suc n) start blocks is = by_case (low (suc n)) (longest_few low n start blocks) is
  where
    by_case : (o : Option ℕ) → (longest_run low n ≡ Some (start, blocks) → blocks ≤ n) → found_or o (suc n) (longest_run low n) ≡ Some (start, blocks) → blocks ≤ suc n
    by_case (Some s) next here = let whole : suc n ≡ blocks = ap blocks_of here in omega (arith, whole)
    by_case None next here = omega (arith, next here)

pub piece_few : (low : ℕ → Option ℕ) (split : Bool) (most start blocks : ℕ) → piece_of low split most ≡ Some (start, blocks) → blocks ≤ most
piece_few low split most start blocks is = by_case (if split && nat_lt most_extent_blocks most then None else low most) is
  where
    by_case : (o : Option ℕ) → found_or o most (longest_run low (min (most - 1) most_extent_blocks)) ≡ Some (start, blocks) → blocks ≤ most
    by_case (Some s) here = let whole : most ≡ blocks = ap blocks_of here in omega (arith, whole)
    by_case None here = omega (arith, longest_few low (min (most - 1) most_extent_blocks) start blocks here)

-- the parts of an ask are asks
pub front_is : (ask : RunAsk) (m : ℕ) → IsAsk ask → 1 ≤ m → m ≤ ask.blocks → IsAsk (front_of ask m)
front_is ask m is some few = record { some = some; fits = λ data'. let small = is.fits data' in omega (arith, small, few); plain = is.plain }

half : (x : ℕ) → x / 2 ^ 62 ≡ x / 2 ^ 61 / 2
half x = omega arith

-- a word that goes up by few blocks keeps its flags
word_on : (word m : ℕ) → word % 2 ^ 61 + m ≤ 2 ^ 54 → is_tree_block (word + m) ≡ is_tree_block word
word_on word m small =
    let flags : (word + m) / 2 ^ 61 ≡ word / 2 ^ 61 = omega (arith, small) in
    let same : (word + m) / 2 ^ 62 ≡ word / 2 ^ 62 = half (word + m) ∙ ap (λ (n : ℕ). n / 2) flags ∙ sym (half word) in
    ap (λ (n : ℕ). n % 2 == 1) same

pub rest_is : (ask : RunAsk) (m : ℕ) → IsAsk ask → m < ask.blocks → IsAsk (rest_of ask m)
rest_is ask m is few = by_case (is_file_data ask.owner ask.offset_word) refl
  where
    by_case : (t : Bool) → is_file_data ask.owner ask.offset_word ≡ t → IsAsk (record { blocks = ask.blocks - m; owner = ask.owner; offset_word = if t then ask.offset_word + m else ask.offset_word })
    by_case true here =
        let small = is.fits here in
        let same : is_file_data ask.owner (ask.offset_word + m) ≡ is_file_data ask.owner ask.offset_word =
        ap (λ (t : Bool). nat_lt ask.owner (2 ^ 63) && not t) (word_on ask.offset_word m (omega (arith, small, few))) in
        record {
          some = omega (arith, few);
          fits = λ data'. omega (arith, small, few);
          plain = λ other. absurd (true≢false (sym (same ∙ here) ∙ other));
        }
    by_case false here = record {
      some = omega (arith, few);
      fits = λ data'. absurd (true≢false (sym data' ∙ here));
      plain = is.plain;
    }

module _ (v : Volume) (reserved : List ℕ) (from : ℕ) (spared : List ℕ) where
  -- one piece more
  pub piece_on : (more : ℕ) (split : Bool) (kept : List Run) (ask : RunAsk) (start blocks : ℕ) → piece_of (lowest v reserved from spared kept) split ask.blocks ≡ Some (start, blocks)
      → (blocks == ask.blocks) ≡ false
      → keep_pieces v reserved from spared (suc more) split kept ask ≡ keep_pieces v reserved from spared more true (kept ++ run_at start (front_of ask blocks) ∷ []) (rest_of ask blocks)
  unfolding keep_pieces
  piece_on more split kept ask start blocks is other =
      ap (λ (o : Option (ℕ × ℕ)). with_found o (λ s n. if n == ask.blocks then Some (kept ++ run_at s ask ∷ []) else keep_pieces v reserved from spared more true (kept ++ run_at s (front_of ask n) ∷ []) (rest_of ask n))) is
      ∙ ap (λ (t : Bool). if t then Some (kept ++ run_at start ask ∷ []) else keep_pieces v reserved from spared more true (kept ++ run_at start (front_of ask blocks) ∷ []) (rest_of ask blocks)) other

  -- the last piece
  pub piece_last : (more : ℕ) (split : Bool) (kept : List Run) (ask : RunAsk) (start blocks : ℕ) → piece_of (lowest v reserved from spared kept) split ask.blocks ≡ Some (start, blocks)
      → blocks ≡ ask.blocks
      → keep_pieces v reserved from spared (suc more) split kept ask ≡ Some (kept ++ run_at start (front_of ask blocks) ∷ [])
  unfolding keep_pieces
  piece_last more split kept ask start blocks is whole =
      ap (λ (o : Option (ℕ × ℕ)). with_found o (λ s n. if n == ask.blocks then Some (kept ++ run_at s ask ∷ []) else keep_pieces v reserved from spared more true (kept ++ run_at s (front_of ask n) ∷ []) (rest_of ask n))) is
      ∙ ap (λ (t : Bool). if t then Some (kept ++ run_at start ask ∷ []) else keep_pieces v reserved from spared more true (kept ++ run_at start (front_of ask blocks) ∷ []) (rest_of ask blocks)) (eq-eqb blocks ask.blocks whole)
      ∙ ap (λ (n : ℕ). Some (kept ++ run_at start (front_of ask n) ∷ [])) (sym whole)

  -- or none
  pub piece_none : (more : ℕ) (split : Bool) (kept : List Run) (ask : RunAsk) → piece_of (lowest v reserved from spared kept) split ask.blocks ≡ None → keep_pieces v reserved from spared (suc more) split kept ask ≡ None
  unfolding keep_pieces
  piece_none more split kept ask is =
      ap (λ (o : Option (ℕ × ℕ)). with_found o (λ s n. if n == ask.blocks then Some (kept ++ run_at s ask ∷ []) else keep_pieces v reserved from spared more true (kept ++ run_at s (front_of ask n) ∷ []) (rest_of ask n))) is

  pub pieces_none : (split : Bool) (kept : List Run) (ask : RunAsk) → keep_pieces v reserved from spared 0 split kept ask ≡ None
  unfolding keep_pieces
  pieces_none split kept ask = refl

  -- the runs of an ask stand behind what is kept, from its first block to its last
  pub pieces_behind : (most : ℕ) (split : Bool) (kept : List Run) (ask : RunAsk) (all : List Run) → keep_pieces v reserved from spared most split kept ask ≡ Some all
      → (runs : List Run) × (all ≡ kept ++ runs) × AreJoined ask runs
  unfolding keep_pieces
  pieces_behind zero split kept ask all is = cc
  pieces_behind (suc more) split kept ask all is = by_case (piece_of (lowest v reserved from spared kept) split ask.blocks) refl (λ k a. pieces_behind more true k a all) is
    where
      by_test : (start blocks : ℕ) (t : Bool) → (blocks == ask.blocks) ≡ t → blocks ≤ ask.blocks
          → ((k : List Run) (a : RunAsk) → keep_pieces v reserved from spared more true k a ≡ Some all → (runs : List Run) × (all ≡ k ++ runs) × AreJoined a runs)
          → (if t then Some (kept ++ run_at start ask ∷ []) else keep_pieces v reserved from spared more true (kept ++ run_at start (front_of ask blocks) ∷ []) (rest_of ask blocks)) ≡ Some all
          → (runs : List Run) × (all ≡ kept ++ runs) × AreJoined ask runs
      by_test start blocks true same few next here =
          let put : all ≡ kept ++ run_at start ask ∷ [] = cc in
          (run_at start ask ∷ [], put, (refl, omega arith, omega arith))
      by_test start blocks false other few next here =
          let rest = next (kept ++ run_at start (front_of ask blocks) ∷ []) (rest_of ask blocks) here in
          (run_at start (front_of ask blocks) ∷ rest.0, rest.1 ∙ append_assoc kept (run_at start (front_of ask blocks) ∷ []) rest.0, (refl, few, rest.2))

      by_case : (o : Option (ℕ × ℕ)) → piece_of (lowest v reserved from spared kept) split ask.blocks ≡ o
          → ((k : List Run) (a : RunAsk) → keep_pieces v reserved from spared more true k a ≡ Some all → (runs : List Run) × (all ≡ k ++ runs) × AreJoined a runs)
          → with_found o (λ s n. if n == ask.blocks then Some (kept ++ run_at s ask ∷ []) else keep_pieces v reserved from spared more true (kept ++ run_at s (front_of ask n) ∷ []) (rest_of ask n)) ≡ Some all
          → (runs : List Run) × (all ≡ kept ++ runs) × AreJoined ask runs
      by_case None found next here = cc
      by_case (Some (start, blocks)) found next here =
          by_test start blocks (blocks == ask.blocks) refl (piece_few (lowest v reserved from spared kept) split ask.blocks start blocks found) next here

  -- one ask more, or none
  pub asks_on : (left : ℕ) (kept : List Run) (ask : RunAsk) (rest : List RunAsk) (all : List Run) → keep_pieces v reserved from spared (left - length rest) false kept ask ≡ Some all
      → keep_asks v reserved from spared left kept (ask ∷ rest) ≡ keep_asks v reserved from spared (left - (length all - length kept)) all rest
  unfolding keep_asks
  asks_on left kept ask rest all is = ap (λ (o : Option (List Run)). with_kept o (λ k. keep_asks v reserved from spared (left - (length k - length kept)) k rest)) is

  pub asks_none : (left : ℕ) (kept : List Run) (ask : RunAsk) (rest : List RunAsk) → keep_pieces v reserved from spared (left - length rest) false kept ask ≡ None
      → keep_asks v reserved from spared left kept (ask ∷ rest) ≡ None
  unfolding keep_asks
  asks_none left kept ask rest is = ap (λ (o : Option (List Run)). with_kept o (λ k. keep_asks v reserved from spared (left - (length k - length kept)) k rest)) is

  pub asks_end : (left : ℕ) (kept : List Run) (asks : List RunAsk) → asks ≡ [] → keep_asks v reserved from spared left kept asks ≡ Some kept
  unfolding keep_asks
  asks_end left kept asks none = ap (keep_asks v reserved from spared left kept) none

  -- the runs of all asks stand behind what is kept
  pub asks_behind : (left : ℕ) (kept : List Run) (asks : List RunAsk) (all : List Run) → keep_asks v reserved from spared left kept asks ≡ Some all → (runs : List Run) × (all ≡ kept ++ runs)
  unfolding keep_asks
  asks_behind left kept [] all is = let same : all ≡ kept = cc in ([], same ∙ sym (append_none kept))
  asks_behind left kept (ask ∷ rest) all is = by_case (keep_pieces v reserved from spared (left - length rest) false kept ask) refl (λ n k. asks_behind n k rest all) is
    where
      by_case : (o : Option (List Run)) → keep_pieces v reserved from spared (left - length rest) false kept ask ≡ o
          → ((n : ℕ) (k : List Run) → keep_asks v reserved from spared n k rest ≡ Some all → (runs : List Run) × (all ≡ k ++ runs))
          → with_kept o (λ k. keep_asks v reserved from spared (left - (length k - length kept)) k rest) ≡ Some all → (runs : List Run) × (all ≡ kept ++ runs)
      by_case None found next here = cc
      by_case (Some k) found next here =
          let first = pieces_behind (left - length rest) false kept ask k found in
          let more = next (left - (length k - length kept)) k here in
          (first.0 ++ more.0, more.1 ∙ ap (λ (xs : List Run). xs ++ more.0) first.1 ∙ append_assoc kept first.0 more.0)

  -- the pieces of an ask in a loop: n of at most so many are there
  pub pieces_stop : (most n : ℕ) (split : Bool) (kept : List Run) (ask : RunAsk) → n < most → piece_of (lowest v reserved from spared kept) split ask.blocks ≡ None
      → keep_pieces v reserved from spared (most - n) split kept ask ≡ None
  pieces_stop most n split kept ask low is =
      let e : most - n ≡ suc (most - (n + 1)) = omega (arith, low) in
      ap (λ (k : ℕ). keep_pieces v reserved from spared k split kept ask) e ∙ piece_none (most - (n + 1)) split kept ask is

  pub pieces_last : (most n : ℕ) (split : Bool) (kept : List Run) (ask : RunAsk) (start blocks : ℕ) → n < most → piece_of (lowest v reserved from spared kept) split ask.blocks ≡ Some (start, blocks)
      → blocks ≡ ask.blocks → keep_pieces v reserved from spared (most - n) split kept ask ≡ Some (kept ++ run_at start (front_of ask blocks) ∷ [])
  pieces_last most n split kept ask start blocks low is whole =
      let e : most - n ≡ suc (most - (n + 1)) = omega (arith, low) in
      ap (λ (k : ℕ). keep_pieces v reserved from spared k split kept ask) e ∙ piece_last (most - (n + 1)) split kept ask start blocks is whole

  pub pieces_next : (most n : ℕ) (split : Bool) (kept now : List Run) (ask rest : RunAsk) (start blocks : ℕ) → n < most
      → piece_of (lowest v reserved from spared kept) split ask.blocks ≡ Some (start, blocks) → (blocks ≡ ask.blocks → ⊥)
      → now ≡ kept ++ run_at start (front_of ask blocks) ∷ [] → rest ≡ rest_of ask blocks
      → keep_pieces v reserved from spared (most - n) split kept ask ≡ keep_pieces v reserved from spared (most - (n + 1)) (nat_lt 0 (n + 1)) now rest
  pieces_next most n split kept now ask rest start blocks low is other put behind =
      let e : most - n ≡ suc (most - (n + 1)) = omega (arith, low) in
      let on : nat_lt 0 (n + 1) ≡ true = lt-ltb 0 (n + 1) (omega arith) in
      ap (λ (k : ℕ). keep_pieces v reserved from spared k split kept ask) e ∙ piece_on (most - (n + 1)) split kept ask start blocks is (ne_eqb blocks ask.blocks other)
      ∙ ap (λ (t : Bool). keep_pieces v reserved from spared (most - (n + 1)) t (kept ++ run_at start (front_of ask blocks) ∷ []) (rest_of ask blocks)) (sym on)
      ∙ ap (λ (k : List Run). keep_pieces v reserved from spared (most - (n + 1)) (nat_lt 0 (n + 1)) k (rest_of ask blocks)) (sym put)
      ∙ ap (λ (a : RunAsk). keep_pieces v reserved from spared (most - (n + 1)) (nat_lt 0 (n + 1)) now a) (sym behind)

  pub pieces_over : (most n : ℕ) (split : Bool) (kept : List Run) (ask : RunAsk) → most ≤ n → keep_pieces v reserved from spared (most - n) split kept ask ≡ None
  pieces_over most n split kept ask over =
      let e : most - n ≡ 0 = omega (arith, over) in
      ap (λ (k : ℕ). keep_pieces v reserved from spared k split kept ask) e ∙ pieces_none split kept ask

  -- the asks of an object in a loop, from one on
  pub asks_stop : (left most : ℕ) (kept : List Run) (asks : List RunAsk) (i : ℕ) (d : RunAsk) → i < length asks → most ≡ left - (length asks - 1 - i)
      → keep_pieces v reserved from spared most false kept (get_or asks i d) ≡ None → keep_asks v reserved from spared left kept (drop i asks) ≡ None
  asks_stop left most kept asks i d in' is none =
      let e : left - length (drop (i + 1) asks) ≡ most = omega (arith, length-drop (i + 1) asks, is) in
      ap (keep_asks v reserved from spared left kept) (drop_more asks i d in')
      ∙ asks_none left kept (get_or asks i d) (drop (i + 1) asks) (ap (λ (k : ℕ). keep_pieces v reserved from spared k false kept (get_or asks i d)) e ∙ none)

  pub asks_next : (left most count : ℕ) (kept now : List Run) (asks : List RunAsk) (i : ℕ) (d : RunAsk) → i < length asks → most ≡ left - (length asks - 1 - i)
      → keep_pieces v reserved from spared most false kept (get_or asks i d) ≡ Some now → length now ≡ length kept + count
      → keep_asks v reserved from spared left kept (drop i asks) ≡ keep_asks v reserved from spared (left - count) now (drop (i + 1) asks)
  asks_next left most count kept now asks i d in' is some long =
      let e : left - length (drop (i + 1) asks) ≡ most = omega (arith, length-drop (i + 1) asks, is) in
      let f : left - (length now - length kept) ≡ left - count = omega (arith, long) in
      ap (keep_asks v reserved from spared left kept) (drop_more asks i d in')
      ∙ asks_on left kept (get_or asks i d) (drop (i + 1) asks) now (ap (λ (k : ℕ). keep_pieces v reserved from spared k false kept (get_or asks i d)) e ∙ some)
      ∙ ap (λ (k : ℕ). keep_asks v reserved from spared k now (drop (i + 1) asks)) f

module _ (v : Volume) (reserved : List ℕ) (from : ℕ) (spared : List ℕ) (takes : Bool) where
  -- an object stands on blocks that are not spared, or else on all where it may
  pub object_first : (kept : List Run) (o : Object) (all : List Run) → keep_asks v reserved from spared o.most kept o.runs ≡ Some all → keep_object v reserved from spared takes kept o ≡ Some all
  object_first kept o all is = ap (λ (k : Option (List Run)). or_else k (if takes then keep_asks v reserved from [] o.most kept o.runs else None)) is

  pub object_none : (kept : List Run) (o : Object) → keep_asks v reserved from spared o.most kept o.runs ≡ None → takes ≡ false → keep_object v reserved from spared takes kept o ≡ None
  object_none kept o none bound =
      ap (λ (k : Option (List Run)). or_else k (if takes then keep_asks v reserved from [] o.most kept o.runs else None)) none
      ∙ ap (λ (t : Bool). if t then keep_asks v reserved from [] o.most kept o.runs else None) bound

  pub object_second : (kept : List Run) (o : Object) → keep_asks v reserved from spared o.most kept o.runs ≡ None → takes ≡ true
      → keep_object v reserved from spared takes kept o ≡ keep_asks v reserved from [] o.most kept o.runs
  object_second kept o none free =
      ap (λ (k : Option (List Run)). or_else k (if takes then keep_asks v reserved from [] o.most kept o.runs else None)) none
      ∙ ap (λ (t : Bool). if t then keep_asks v reserved from [] o.most kept o.runs else None) free

  -- its runs stand behind what is kept
  pub object_behind : (kept : List Run) (o : Object) (all : List Run) → keep_object v reserved from spared takes kept o ≡ Some all → (runs : List Run) × (all ≡ kept ++ runs)
  object_behind kept o all is = by_case (keep_asks v reserved from spared o.most kept o.runs) refl is
    where
      by_takes : (t : Bool) → (if t then keep_asks v reserved from [] o.most kept o.runs else None) ≡ Some all → (runs : List Run) × (all ≡ kept ++ runs)
      by_takes true here = asks_behind v reserved from [] o.most kept o.runs all here
      by_takes false here = cc

      by_case : (k : Option (List Run)) → keep_asks v reserved from spared o.most kept o.runs ≡ k
          → or_else k (if takes then keep_asks v reserved from [] o.most kept o.runs else None) ≡ Some all → (runs : List Run) × (all ≡ kept ++ runs)
      by_case None first here = by_takes takes here
      by_case (Some k) first here = asks_behind v reserved from spared o.most kept o.runs all (first ∙ here)

  -- one object more, or none
  pub objects_on : (kept : List Run) (o : Object) (rest : List Object) (all : List Run) → keep_object v reserved from spared takes kept o ≡ Some all
      → keep_with v reserved from spared takes kept (o ∷ rest) ≡ keep_with v reserved from spared takes all rest
  unfolding keep_with
  objects_on kept o rest all is = ap (λ (k : Option (List Run)). or_no_room k (place_of_object o.kind o.ino) (λ ks. keep_with v reserved from spared takes ks rest)) is

  pub objects_none : (kept : List Run) (o : Object) (rest : List Object) → keep_object v reserved from spared takes kept o ≡ None
      → keep_with v reserved from spared takes kept (o ∷ rest) ≡ Err (place_of_object o.kind o.ino)
  unfolding keep_with
  objects_none kept o rest is = ap (λ (k : Option (List Run)). or_no_room k (place_of_object o.kind o.ino) (λ ks. keep_with v reserved from spared takes ks rest)) is

  pub objects_end : (kept : List Run) (objects : List Object) → objects ≡ [] → keep_with v reserved from spared takes kept objects ≡ Ok kept
  unfolding keep_with
  objects_end kept objects none = ap (keep_with v reserved from spared takes kept) none

  -- the runs of all objects stand behind what is kept
  pub objects_behind : (kept : List Run) (objects : List Object) (all : List Run) → keep_with v reserved from spared takes kept objects ≡ Ok all → (runs : List Run) × (all ≡ kept ++ runs)
  unfolding keep_with
  objects_behind kept [] all is = let same : all ≡ kept = cc in ([], same ∙ sym (append_none kept))
  objects_behind kept (o ∷ rest) all is = by_case (keep_object v reserved from spared takes kept o) refl (λ k. objects_behind k rest all) is
    where
      by_case : (ks : Option (List Run)) → keep_object v reserved from spared takes kept o ≡ ks → ((k : List Run) → keep_with v reserved from spared takes k rest ≡ Ok all → (runs : List Run) × (all ≡ k ++ runs))
          → or_no_room ks (place_of_object o.kind o.ino) (λ k. keep_with v reserved from spared takes k rest) ≡ Ok all → (runs : List Run) × (all ≡ kept ++ runs)
      by_case None found next here = cc
      by_case (Some k) found next here =
          let first = object_behind kept o k found in
          let more = next k here in
          (first.0 ++ more.0, more.1 ∙ ap (λ (xs : List Run). xs ++ more.0) first.1 ∙ append_assoc kept first.0 more.0)

  pub first_stays : (kept : List Run) (objects : List Object) (all : List Run) → keep_with v reserved from spared takes kept objects ≡ Ok all → take (length kept) all ≡ kept
  first_stays kept objects all is =
      let behind = objects_behind kept objects all is in
      ap (take (length kept)) behind.1 ∙ take-append-le (length kept) kept behind.0 (omega arith) ∙ take_all (length kept) kept (omega arith)

  -- the objects in a loop, from one on
  pub objects_stop : (kept : List Run) (objects : List Object) (i : ℕ) (o : Object) → i < length objects → o ≡ get_or objects i o → keep_object v reserved from spared takes kept o ≡ None
      → keep_with v reserved from spared takes kept (drop i objects) ≡ Err (place_of_object o.kind o.ino)
  objects_stop kept objects i o in' is none =
      ap (keep_with v reserved from spared takes kept) (drop_more objects i o in' ∙ ap (λ (x : Object). x ∷ drop (i + 1) objects) (sym is)) ∙ objects_none kept o (drop (i + 1) objects) none

  pub objects_next : (kept now : List Run) (objects : List Object) (i : ℕ) (o : Object) → i < length objects → o ≡ get_or objects i o → keep_object v reserved from spared takes kept o ≡ Some now
      → keep_with v reserved from spared takes kept (drop i objects) ≡ keep_with v reserved from spared takes now (drop (i + 1) objects)
  objects_next kept now objects i o in' is some =
      ap (keep_with v reserved from spared takes kept) (drop_more objects i o in' ∙ ap (λ (x : Object). x ∷ drop (i + 1) objects) (sym is)) ∙ objects_on kept o (drop (i + 1) objects) now some

-- the runs of one ask more
pub cuts_more : (asks : List RunAsk) (cuts : List ℕ) (runs : List Run) (ask : RunAsk) (more : List Run) → ServeAsks asks cuts runs → AreJoined ask more
    → ServeAsks (asks ++ ask ∷ []) (cuts ++ length more ∷ []) (runs ++ more)
cuts_more [] [] runs ask more none joined =
    subst (λ (rs : List Run). ServeAsks (ask ∷ []) (length more ∷ []) (rs ++ more)) (sym none)
    (omega arith, subst (AreJoined ask) (sym (take_all (length more) more (omega arith))) joined, drop_all (length more) more (omega arith))
cuts_more [] (n ∷ cuts) runs ask more are joined = absurd are
cuts_more (a ∷ asks) [] runs ask more are joined = absurd are
cuts_more (a ∷ asks) (n ∷ cuts) runs ask more are joined = (
  omega (arith, are.0, length-append runs more),
  subst (AreJoined a) (sym (take-append-le n runs more are.0)) are.1,
  subst (ServeAsks (asks ++ ask ∷ []) (cuts ++ length more ∷ [])) (sym (drop-append-le n runs more are.0)) (cuts_more asks cuts (drop n runs) ask more are.2 joined),
)

pub cuts_next : (v : Volume) (reserved : List ℕ) (from : ℕ) (spared : List ℕ) (most count first : ℕ) (kept now : List Run) (done asks : List RunAsk) (i : ℕ) (d : RunAsk) (cuts next : List ℕ) → first ≤ length kept → i < length asks
    → keep_pieces v reserved from spared most false kept (get_or asks i d) ≡ Some now → length now ≡ length kept + count → next ≡ cuts ++ count ∷ []
    → ServeAsks (done ++ take i asks) cuts (drop first kept) → ServeAsks (done ++ take (i + 1) asks) next (drop first now)
cuts_next v reserved from spared most count first kept now done asks i d cuts next low in' some long put are =
    let behind = pieces_behind v reserved from spared most false kept (get_or asks i d) now some in
    let whole : count ≡ length behind.0 = omega (arith, long, ap length behind.1, length-append kept behind.0) in
    let more = cuts_more (done ++ take i asks) cuts (drop first kept) (get_or asks i d) behind.0 are behind.2 in
    let asks' : done ++ take (i + 1) asks ≡ (done ++ take i asks) ++ get_or asks i d ∷ [] =
    ap (λ (xs : List RunAsk). done ++ xs) (take_more asks i d in') ∙ sym (append_assoc done (take i asks) (get_or asks i d ∷ [])) in
    let next' : next ≡ cuts ++ length behind.0 ∷ [] = put ∙ ap (λ (n : ℕ). cuts ++ n ∷ []) whole in
    let runs' : drop first now ≡ drop first kept ++ behind.0 = ap (drop first) behind.1 ∙ drop-append-le first kept behind.0 low in
    subst (λ (xs : List RunAsk). ServeAsks xs next (drop first now)) (sym asks')
    (subst (λ (ns : List ℕ). ServeAsks ((done ++ take i asks) ++ get_or asks i d ∷ []) ns (drop first now)) (sym next')
    (subst (ServeAsks ((done ++ take i asks) ++ get_or asks i d ∷ []) (cuts ++ length behind.0 ∷ [])) (sym runs') more))

-- the asks of one object more
pub asks_more : (objects : List Object) (i : ℕ) (o : Object) → i < length objects → o ≡ get_or objects i o → asks_of (take (i + 1) objects) ≡ asks_of (take i objects) ++ o.runs
asks_more objects i o in' is = ap asks_of (take_more objects i o in') ∙ sym (flat_map_more (λ (x : Object). x.runs) [] (take i objects) (get_or objects i o)) ∙ ap (λ (x : Object). asks_of (take i objects) ++ x.runs) (sym is)

-- lists that go on
pub front_same : {X : Type 0} (xs : List X) → IsFrontOf xs xs
front_same xs = ([], sym (append-nil xs))

pub front_push : {X : Type 0} (old now next tail : List X) → IsFrontOf old now → next ≡ now ++ tail → IsFrontOf old next
front_push {X} old now next tail front is = (front.0 ++ tail, is ∙ ap (λ (xs : List X). xs ++ tail) front.1 ∙ append_assoc old front.0 tail)

pub front_then : {X : Type 0} (old now next : List X) → IsFrontOf old now → IsFrontOf now next → IsFrontOf old next
front_then old now next first second = front_push old now next second.0 first second.1

pub front_long : {X : Type 0} (old now : List X) → IsFrontOf old now → length old ≤ length now
front_long old now front = omega (arith, ap length front.1, length-append old front.0)

pub front_take : {X : Type 0} (old now : List X) (n : ℕ) → IsFrontOf old now → n ≡ length old → take n now ≡ old
front_take old now n front is = ap (take n) front.1 ∙ take-append-le n old front.0 (omega (arith, is)) ∙ take_all n old (omega (arith, is))

pub one_longer : {X : Type 0} (old now next : List X) (x : X) (n : ℕ) → length now ≡ length old + n → next ≡ now ++ x ∷ [] → length next ≡ length old + (n + 1)
one_longer old now next x n long put = let more : length next ≡ length now + 1 = ap length put ∙ length-append now (x ∷ []) in omega arith

pub one_below : (n most : ℕ) → n < most → n + 1 ≤ most
one_below n most h = omega arith

-- no object asks for anything
pub serve_none : (objects : List Object) (after : List ℕ) (runs : List Run) → objects ≡ [] → after ≡ [] → runs ≡ [] → ServeAsks (asks_of objects) after runs
serve_none objects after runs none no_cuts no_runs =
    subst (λ (os : List Object). ServeAsks (asks_of os) after runs) (sym none) (subst (λ (ns : List ℕ). ServeAsks [] ns runs) (sym no_cuts) no_runs)
