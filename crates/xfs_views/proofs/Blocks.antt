-- The data blocks of a directory and the pairs of its index: tests say what the words say.
use Rattle.std.proofs.Common.{◌≡◌, ℕ, ◌+◌, ◌*◌, ◌<◌, Bool, true, false, ◌&&◌, ◌==◌, nat_lt, if◌then◌else◌, List, [], ◌∷◌, length, filter, count_by, slice_index, is_some, refl, sym, ap, ◌∙◌, subst, arith}
use Rattle.std.specs.List.{All, list_all, list_any}
use Rattle.std.proofs.lemmas.Bool.{and_parts, and_from, eqb-true, eq-eqb, lt-ltb, ltb-true, not-true, not_from_false, or_from, or_parts, true≢false}
use Rattle.std.proofs.lemmas.List.Elements.{All-cons, All-head, All-nil, All-tail}
use Rattle.xfs_word.specs.Field.{field_of}
use Rattle.xfs_dirdata.specs.Data.{data_of}
use Rattle.xfs_dirdata.specs.declared.records.EntryRec.{EntryRec}
use Rattle.xfs_dirindex.specs.Data.{are_data, area_in, begin_with_dots, have_no_dots, is_dots, is_first_block, is_later, is_parent_name, is_self, is_sound_data, magic_of, stand_first}
use Rattle.xfs_dirindex.specs.Leaf.{are_values, best_length_of}
use Rattle.xfs_dirindex.specs.Mapped.{Mapped}
use Rattle.xfs_dirindex.specs.Pairs.{same_pairs, is_index, is_live, is_stale, rises}
use Rattle.xfs_dirindex.specs.declared.data.Best.{Best}
use Rattle.xfs_dirindex.specs.declared.pairs.Pair.{Pair}
use Rattle.xfs_views.specs.DirectoriesInWords.{AreDataBlocks, BeginWithDots, HaveLengths, IsDataBlock, IsFirstBlock, IsIndex, IsLaterBlock, IsBesideDots, StandFirst}
use Rattle.xfs_views.proofs.Tests.{all_pass, all_say, range_passes, range_says, rise_passes, rise_says, same_passes, same_says}

-- the names "." and ".."
self_says : (name : List ℕ) → is_self name ≡ true → name ≡ 46 ∷ []
unfolding is_self
self_says [] is = absurd (true≢false (sym is))
self_says (x ∷ []) is = ap (λ (y : ℕ). y ∷ []) (eqb-true x 46 (and_parts (length (x ∷ []) == 1) (slice_index (x ∷ []) 0 == 46) is).1)
self_says (x ∷ y ∷ ys) is =
    let long = eqb-true (length (x ∷ y ∷ ys)) 1 (and_parts (length (x ∷ y ∷ ys) == 1) (slice_index (x ∷ y ∷ ys) 0 == 46) is).0 in
    absurd (omega (arith, long))

self_passes : (name : List ℕ) → name ≡ 46 ∷ [] → is_self name ≡ true
unfolding is_self
self_passes name is = subst (λ (n : List ℕ). is_self n ≡ true) (sym is) refl

parent_says : (name : List ℕ) → is_parent_name name ≡ true → name ≡ 46 ∷ 46 ∷ []
unfolding is_parent_name
parent_says [] is = absurd (true≢false (sym is))
parent_says (x ∷ []) is = absurd (true≢false (sym is))
parent_says (x ∷ y ∷ []) is =
    let two = and_parts (length (x ∷ y ∷ []) == 2 && slice_index (x ∷ y ∷ []) 0 == 46) (slice_index (x ∷ y ∷ []) 1 == 46) is in
    let one = and_parts (length (x ∷ y ∷ []) == 2) (slice_index (x ∷ y ∷ []) 0 == 46) two.0 in
    ap (λ (a : ℕ). a ∷ y ∷ []) (eqb-true x 46 one.1) ∙ ap (λ (b : ℕ). 46 ∷ b ∷ []) (eqb-true y 46 two.1)
parent_says (x ∷ y ∷ z ∷ zs) is =
    let two = and_parts (length (x ∷ y ∷ z ∷ zs) == 2 && slice_index (x ∷ y ∷ z ∷ zs) 0 == 46) (slice_index (x ∷ y ∷ z ∷ zs) 1 == 46) is in
    let long = eqb-true (length (x ∷ y ∷ z ∷ zs)) 2 (and_parts (length (x ∷ y ∷ z ∷ zs) == 2) (slice_index (x ∷ y ∷ z ∷ zs) 0 == 46) two.0).0 in
    absurd (omega (arith, long))

parent_passes : (name : List ℕ) → name ≡ 46 ∷ 46 ∷ [] → is_parent_name name ≡ true
unfolding is_parent_name
parent_passes name is = subst (λ (n : List ℕ). is_parent_name n ≡ true) (sym is) refl

-- a test that is not passed
not_passed : (t : Bool) → (t ≡ true → ⊥) → t ≡ false
not_passed true never = absurd (never refl)
not_passed false never = refl

named_says : (e : EntryRec) → is_dots e ≡ false → IsBesideDots e
unfolding is_dots
named_says e none =
    let parts = or_parts (is_self e.name) (is_parent_name e.name) none in
    record {
      not_self = λ is. true≢false (sym (self_passes e.name is) ∙ parts.0);
      not_parent = λ is. true≢false (sym (parent_passes e.name is) ∙ parts.1);
    }

named_passes : (e : EntryRec) → IsBesideDots e → is_dots e ≡ false
unfolding is_dots
named_passes e is = or_from (is_self e.name) (is_parent_name e.name) (not_passed (is_self e.name) (λ t. is.not_self (self_says e.name t))) (not_passed (is_parent_name e.name) (λ t. is.not_parent (parent_says e.name t)))

no_dots_say : (entries : List EntryRec) → have_no_dots entries ≡ true → All IsBesideDots entries
no_dots_say entries none = each entries (not-true (list_any is_dots entries) none)
  where
    each : (entries : List EntryRec) → list_any is_dots entries ≡ false → All IsBesideDots entries
    each [] none = All-nil IsBesideDots
    each (e ∷ es) none =
        let parts = or_parts (is_dots e) (list_any is_dots es) none in
        All-cons IsBesideDots e es (named_says e parts.0) (each es parts.1)

no_dots_pass : (entries : List EntryRec) → All IsBesideDots entries → have_no_dots entries ≡ true
no_dots_pass entries all = not_from_false (list_any is_dots entries) (none entries all)
  where
    none : (entries : List EntryRec) → All IsBesideDots entries → list_any is_dots entries ≡ false
    none [] all = refl
    none (e ∷ es) all = or_from (is_dots e) (list_any is_dots es) (named_passes e (All-head IsBesideDots e es all)) (none es (All-tail IsBesideDots e es all))

dots_say : (dir : ℕ) (entries : List EntryRec) → begin_with_dots dir entries ≡ true → BeginWithDots dir entries
dots_say dir [] is = absurd (true≢false (sym is))
dots_say dir (a ∷ []) is = absurd (true≢false (sym is))
dots_say dir (a ∷ b ∷ rest) is =
    let third = and_parts (is_self a.name && a.ino == dir && is_parent_name b.name) (have_no_dots rest) is in
    let second = and_parts (is_self a.name && a.ino == dir) (is_parent_name b.name) third.0 in
    let first = and_parts (is_self a.name) (a.ino == dir) second.0 in
    record {
      self = a;
      parent = b;
      rest = rest;
      stand = refl;
      self_name = self_says a.name first.0;
      self_ino = eqb-true a.ino dir first.1;
      parent_name = parent_says b.name second.1;
      others = no_dots_say rest third.1;
    }

dots_pass : (dir : ℕ) (entries : List EntryRec) → BeginWithDots dir entries → begin_with_dots dir entries ≡ true
dots_pass dir entries is = subst (λ (es : List EntryRec). begin_with_dots dir es ≡ true) (sym is.stand) (
    let a = is.self in let b = is.parent in
    and_from (is_self a.name && a.ino == dir && is_parent_name b.name) (have_no_dots is.rest)
    (and_from (is_self a.name && a.ino == dir) (is_parent_name b.name)
    (and_from (is_self a.name) (a.ino == dir) (self_passes a.name is.self_name) (eq-eqb a.ino dir is.self_ino))
    (parent_passes b.name is.parent_name))
    (no_dots_pass is.rest is.others))

-- data blocks
sound_says : (dir : ℕ) (whole : Bool) (m : Mapped) → is_sound_data dir whole m ≡ true → IsDataBlock dir whole m
unfolding is_sound_data
sound_says dir whole m is =
    let parts = and_parts (field_of m.bytes 0 4 == magic_of whole) (is_some (data_of dir m.bytes whole)) is in
    record { magic = eqb-true (field_of m.bytes 0 4) (magic_of whole) parts.0; reads = parts.1 }

sound_passes : (dir : ℕ) (whole : Bool) (m : Mapped) → IsDataBlock dir whole m → is_sound_data dir whole m ≡ true
unfolding is_sound_data
sound_passes dir whole m is = and_from (field_of m.bytes 0 4 == magic_of whole) (is_some (data_of dir m.bytes whole)) (eq-eqb (field_of m.bytes 0 4) (magic_of whole) is.magic) is.reads

-- their places
places_say : (places : List ℕ) → stand_first places ≡ true → StandFirst places
places_say [] is = absurd (true≢false (sym is))
places_say (a ∷ []) is = absurd (true≢false (sym is))
places_say (a ∷ b ∷ rest) is =
    let both = and_parts (a == 64) (b == 80) is in
    record { rest = rest; stand = ap (λ (x : ℕ). x ∷ b ∷ rest) (eqb-true a 64 both.0) ∙ ap (λ (y : ℕ). 64 ∷ y ∷ rest) (eqb-true b 80 both.1) }

places_pass : (places : List ℕ) → StandFirst places → stand_first places ≡ true
places_pass places is = subst (λ (ps : List ℕ). stand_first ps ≡ true) (sym is.stand) refl

pub first_says : (dir : ℕ) (whole : Bool) (m : Mapped) → is_first_block dir whole m ≡ true → IsFirstBlock dir whole m
unfolding is_first_block
first_says dir whole m is =
    let entries = begin_with_dots dir (area_in dir whole m).entries in
    let all = and_parts (m.offset == 0 && is_sound_data dir whole m && entries) (stand_first (area_in dir whole m).places) is in
    let both = and_parts (m.offset == 0 && is_sound_data dir whole m) entries all.0 in
    let parts = and_parts (m.offset == 0) (is_sound_data dir whole m) both.0 in
    record {
      at_start = eqb-true m.offset 0 parts.0;
      sound = sound_says dir whole m parts.1;
      dots = dots_say dir (area_in dir whole m).entries both.1;
      places = places_say (area_in dir whole m).places all.1;
    }

pub first_passes : (dir : ℕ) (whole : Bool) (m : Mapped) → IsFirstBlock dir whole m → is_first_block dir whole m ≡ true
unfolding is_first_block
first_passes dir whole m is =
    let entries = begin_with_dots dir (area_in dir whole m).entries in
    and_from (m.offset == 0 && is_sound_data dir whole m && entries) (stand_first (area_in dir whole m).places)
    (and_from (m.offset == 0 && is_sound_data dir whole m) entries
    (and_from (m.offset == 0) (is_sound_data dir whole m) (eq-eqb m.offset 0 is.at_start) (sound_passes dir whole m is.sound))
    (dots_pass dir (area_in dir whole m).entries is.dots))
    (places_pass (area_in dir whole m).places is.places)

-- a test that is asked for numbers below a limit alone, or from one on
below_says : (n limit : ℕ) (t : Bool) → (if nat_lt n limit then t else true) ≡ true → n < limit → t ≡ true
below_says n limit t is less = subst (λ (b : Bool). (if b then t else true) ≡ true) (lt-ltb n limit less) is

below_passes : (n limit : ℕ) (t : Bool) → (n < limit → t ≡ true) → (if nat_lt n limit then t else true) ≡ true
below_passes n limit t each = by_test (nat_lt n limit) refl
  where
    by_test : (b : Bool) → nat_lt n limit ≡ b → (if b then t else true) ≡ true
    by_test true is = each (ltb-true n limit is)
    by_test false is = refl

later_says : (dir : ℕ) (m : Mapped) → is_later dir m ≡ true → m.offset < 0x800000 → IsLaterBlock dir m
unfolding is_later
later_says dir m is less =
    let parts = and_parts (is_sound_data dir false m) (have_no_dots (area_in dir false m).entries)
    (below_says m.offset 0x800000 (is_sound_data dir false m && have_no_dots (area_in dir false m).entries) is less) in
    record { sound = sound_says dir false m parts.0; named = no_dots_say (area_in dir false m).entries parts.1 }

later_passes : (dir : ℕ) (m : Mapped) → (m.offset < 0x800000 → IsLaterBlock dir m) → is_later dir m ≡ true
unfolding is_later
later_passes dir m each =
    below_passes m.offset 0x800000 (is_sound_data dir false m && have_no_dots (area_in dir false m).entries) (λ less. let is = each less in
    and_from (is_sound_data dir false m) (have_no_dots (area_in dir false m).entries) (sound_passes dir false m is.sound) (no_dots_pass (area_in dir false m).entries is.named))

pub data_says : (dir : ℕ) (ms : List Mapped) → are_data dir ms ≡ true → AreDataBlocks dir ms
data_says dir [] is = absurd (true≢false (sym is))
data_says dir (m ∷ ms) is =
    let parts = and_parts (is_first_block dir false m) (list_all (is_later dir) ms) is in
    record {
      first = m;
      rest = ms;
      stand = refl;
      begins = first_says dir false m parts.0;
      later = all_say (is_later dir) (λ (m : Mapped). m.offset < 0x800000 → IsLaterBlock dir m) (later_says dir) ms parts.1;
    }

pub data_passes : (dir : ℕ) (ms : List Mapped) → AreDataBlocks dir ms → are_data dir ms ≡ true
data_passes dir ms is =
    subst (λ (all : List Mapped). are_data dir all ≡ true) (sym is.stand)
    (and_from (is_first_block dir false is.first) (list_all (is_later dir) is.rest) (first_passes dir false is.first is.begins)
    (all_pass (is_later dir) (λ (m : Mapped). m.offset < 0x800000 → IsLaterBlock dir m) (later_passes dir) is.rest is.later))

-- the pairs of an index
pub index_says : (pairs : List Pair) (stale : ℕ) (due : List Pair) → is_index pairs stale due ≡ true → IsIndex pairs stale due
unfolding is_index
index_says pairs stale due is =
    let both = and_parts (rises 0 pairs && count_by is_stale pairs == stale) (same_pairs (filter is_live pairs) due) is in
    let parts = and_parts (rises 0 pairs) (count_by is_stale pairs == stale) both.0 in
    record {
      ascend = (rise_says 0 pairs parts.0).1;
      stated = eqb-true (count_by is_stale pairs) stale parts.1;
      exact = same_says (filter is_live pairs) due both.1;
    }

pub index_passes : (pairs : List Pair) (stale : ℕ) (due : List Pair) → IsIndex pairs stale due → is_index pairs stale due ≡ true
unfolding is_index
index_passes pairs stale due is =
    and_from (rises 0 pairs && count_by is_stale pairs == stale) (same_pairs (filter is_live pairs) due)
    (and_from (rises 0 pairs) (count_by is_stale pairs == stale) (rise_passes 0 pairs (λ k d lt. omega arith) is.ascend) (eq-eqb (count_by is_stale pairs) stale is.stated))
    (same_passes (filter is_live pairs) due is.exact)

-- the values of the longest unused spans
pub values_say : (bests : List Best) (bytes : List ℕ) (at first count : ℕ) → are_values bests bytes at first count ≡ true → HaveLengths bests bytes at first count
unfolding are_values
values_say bests bytes at first count is j less =
    let same : 0 + j ≡ j = omega arith in
    eqb-true (field_of bytes (at + 2 * j) 2) (best_length_of bests (first + j))
    (subst (λ (n : ℕ). (field_of bytes (at + 2 * n) 2 == best_length_of bests (first + n)) ≡ true) same
    (range_says (λ j. field_of bytes (at + 2 * j) 2 == best_length_of bests (first + j)) 0 count is j less))

pub values_pass : (bests : List Best) (bytes : List ℕ) (at first count : ℕ) → HaveLengths bests bytes at first count → are_values bests bytes at first count ≡ true
unfolding are_values
values_pass bests bytes at first count is =
    range_passes (λ j. field_of bytes (at + 2 * j) 2 == best_length_of bests (first + j)) 0 count
    (λ (j : ℕ) less. let same : j ≡ 0 + j = omega arith in
    subst (λ (n : ℕ). (field_of bytes (at + 2 * n) 2 == best_length_of bests (first + n)) ≡ true) same
    (eq-eqb (field_of bytes (at + 2 * j) 2) (best_length_of bests (first + j)) (is j less)))
