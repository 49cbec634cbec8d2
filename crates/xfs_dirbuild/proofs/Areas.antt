-- What a data block states goes by its bytes behind the seal.
use Rattle.std.proofs.Common.{◌≡◌, ℕ, ◌+◌, ◌-◌, ◌*◌, ◌%◌, ◌≤◌, Bool, true, false, not, ◌&&◌, ◌||◌, ◌==◌, nat_le, if◌then◌else◌, List, [], ◌∷◌, length, map, get_or, Some, refl, sym, ◌∙◌, ap, ap₂, subst, arith}
use Rattle.std.specs.List.{filter}
use Rattle.xfs_word.specs.Field.{field_of, part_of}
use Rattle.xfs_dirdata.specs.declared.records.EntryRec.{EntryRec}
use Rattle.xfs_dirdata.specs.declared.records.FreeSpan.{FreeSpan}
use Rattle.xfs_dirdata.specs.Sizes.{data_size}
use Rattle.xfs_dirdata.specs.Best.{are_bests}
use Rattle.xfs_dirdata.specs.Data.{DataArea, is_span, is_entry, span_at, entry_at, entry_size_at, size_at, is_tagged, is_sound_span, is_item, best_at, stated_bests, stated_area, has_bests, area_of, Fill}
use Rattle.xfs_dirdata.proofs.Same.{same_between}
use Rattle.xfs_dirdata.proofs.Filling.{states-from, read-from}

-- each number and part from an offset on is the same
pub record SameBehind (from : ℕ) (old new : List ℕ) : Type 0 where
  pub long : length new ≡ length old
  pub numbers : (a w : ℕ) → from ≤ a → field_of new a w ≡ field_of old a w
  pub parts : (a w : ℕ) → from ≤ a → part_of new a w ≡ part_of old a w

pub same-behind : (from : ℕ) (old new : List ℕ) → length new ≡ length old → ((k : ℕ) → from ≤ k → get_or new k 0 ≡ get_or old k 0) → SameBehind from old new
same-behind from old new long same = record {
  long = long;
  numbers = λ a w low. (same_between old new from (a + w) long (λ k above below. same k above)).numbers a w low (omega arith);
  parts = λ a w low. (same_between old new from (a + w) long (λ k above below. same k above)).parts a w low (omega arith);
}

module _ (old new : List ℕ) (same : SameBehind 48 old new) where
  span-same : (at : ℕ) → 48 ≤ at → is_span new at ≡ is_span old at
  unfolding is_span
  span-same at low = ap (λ (n : ℕ). n == 0xffff) (same.numbers at 2 low)

  entry-same : (at : ℕ) → 48 ≤ at → is_entry new at ≡ is_entry old at
  entry-same at low = ap not (span-same at low)

  size-same : (at : ℕ) → 48 ≤ at → size_at new at ≡ size_at old at
  size-same at low =
      ap₂ (λ (s : Bool) (n : ℕ). if s then n else entry_size_at new at) (span-same at low) (same.numbers (at + 2) 2 (omega arith))
      ∙ ap (λ (n : ℕ). if is_span old at then field_of old (at + 2) 2 else data_size n) (same.numbers (at + 8) 1 (omega arith))

  tagged-same : (at size : ℕ) → 64 ≤ at → is_tagged new at size ≡ is_tagged old at size
  tagged-same at size low =
      ap₂ (λ (l n : ℕ). nat_le (at + size) l && n == at) same.long (same.numbers (at + size - 2) 2 (omega arith))

  sound-same : (at size : ℕ) → 64 ≤ at → is_sound_span new at size ≡ is_sound_span old at size
  sound-same at size low =
      ap₂ (λ (t e : Bool). nat_le 8 size && size % 8 == 0 && t && (at + size == length new || e)) (tagged-same at size low) (entry-same (at + size) (omega arith))
      ∙ ap (λ (l : ℕ). nat_le 8 size && size % 8 == 0 && is_tagged old at size && (at + size == l || is_entry old (at + size))) same.long

  item-same : (at : ℕ) → 64 ≤ at → is_item new at ≡ is_item old at
  unfolding is_item
  item-same at low =
      ap₂ (λ (s : Bool) (z : ℕ). if s then is_sound_span new at z else is_tagged new at z) (span-same at (omega arith)) (size-same at (omega arith))
      ∙ ap₂ (λ (a b : Bool). if is_span old at then a else b) (sound-same at (size_at old at) low) (tagged-same at (size_at old at) low)

  fill-same : (at : ℕ) (os : List ℕ) → 64 ≤ at → Fill old at os → Fill new at os
  fill-same at [] low fill = fill ∙ sym same.long
  fill-same at (o ∷ os) low fill = (
    fill.0,
    item-same at low ∙ fill.1,
    subst (λ (n : ℕ). Fill new (at + n) os) (sym (size-same at (omega arith))) (fill-same (at + size_at old at) os (omega arith) fill.2),
  )

  entry_at-same : (dir at : ℕ) → 48 ≤ at → entry_at dir new at ≡ entry_at dir old at
  unfolding entry_at
  entry_at-same dir at low =
      let n : field_of new (at + 8) 1 ≡ field_of old (at + 8) 1 = same.numbers (at + 8) 1 (omega arith) in
      let name : part_of new (at + 9) (field_of new (at + 8) 1) ≡ part_of old (at + 9) (field_of old (at + 8) 1) =
      ap (λ (k : ℕ). part_of new (at + 9) k) n ∙ same.parts (at + 9) (field_of old (at + 8) 1) (omega arith) in
      let ino = same.numbers at 8 low in
      let ftype : field_of new (at + 9 + field_of new (at + 8) 1) 1 ≡ field_of old (at + 9 + field_of old (at + 8) 1) 1 =
      ap (λ (k : ℕ). field_of new (at + 9 + k) 1) n ∙ same.numbers (at + 9 + field_of old (at + 8) 1) 1 (omega arith) in
      ap (λ (x : List ℕ). let r : EntryRec = record { dir = dir; name = x; ino = field_of new at 8; ftype = field_of new (at + 9 + field_of new (at + 8) 1) 1 } in r) name
      ∙ ap₂ (λ (i f : ℕ). let r : EntryRec = record { dir = dir; name = part_of old (at + 9) (field_of old (at + 8) 1); ino = i; ftype = f } in r) ino ftype

  span_at-same : (at : ℕ) → 48 ≤ at → span_at new at ≡ span_at old at
  span_at-same at low = ap (λ (n : ℕ). let r : FreeSpan = record { offset = at; length = n } in r) (same.numbers (at + 2) 2 (omega arith))

  best_at-same : (k : ℕ) → best_at new k ≡ best_at old k
  best_at-same k =
      ap₂ (λ (o l : ℕ). let r : FreeSpan = record { offset = o; length = l } in r) (same.numbers (48 + 4 * k) 2 (omega arith)) (same.numbers (50 + 4 * k) 2 (omega arith))

  -- what is taken from offsets behind the seal
  filter-same : (p q : ℕ → Bool) → ((a : ℕ) → 48 ≤ a → p a ≡ q a) → (at : ℕ) (os : List ℕ) → 64 ≤ at → Fill old at os → filter p os ≡ filter q os
  filter-same p q agree at [] low fill = refl
  filter-same p q agree at (o ∷ os) low fill =
      let place : 48 ≤ o = omega (arith, fill.0) in
      let rest = filter-same p q agree (at + size_at old at) os (omega arith) fill.2 in
      ap₂ (λ (b : Bool) (xs : List ℕ). if b then o ∷ xs else xs) (agree o place) rest

  map-same : {X : Type 0} (f g : ℕ → X) (q : ℕ → Bool) → ((a : ℕ) → 48 ≤ a → f a ≡ g a) → (at : ℕ) (os : List ℕ) → 64 ≤ at → Fill old at os
      → map f (filter q os) ≡ map g (filter q os)
  map-same f g q agree at [] low fill = refl
  map-same f g q agree at (o ∷ os) low fill =
      let place : 48 ≤ o = omega (arith, fill.0) in
      let rest = map-same f g q agree (at + size_at old at) os (omega arith) fill.2 in
      by_test (q o) (agree o place) rest
    where
      by_test : (t : Bool) → f o ≡ g o → map f (filter q os) ≡ map g (filter q os)
          → map f (if t then o ∷ filter q os else filter q os) ≡ map g (if t then o ∷ filter q os else filter q os)
      by_test true here rest = ap₂ ◌∷◌ here rest
      by_test false here rest = rest

  stated-same : (dir : ℕ) (os : List ℕ) → Fill old 64 os → stated_area dir new os ≡ stated_area dir old os
  unfolding stated_area
  stated-same dir os fill =
      let places : filter (is_entry new) os ≡ filter (is_entry old) os = filter-same (is_entry new) (is_entry old) entry-same 64 os (omega arith) fill in
      let spans : filter (is_span new) os ≡ filter (is_span old) os = filter-same (is_span new) (is_span old) span-same 64 os (omega arith) fill in
      let entries : map (entry_at dir new) (filter (is_entry new) os) ≡ map (entry_at dir old) (filter (is_entry old) os) =
      ap (map (entry_at dir new)) places ∙ map-same (entry_at dir new) (entry_at dir old) (is_entry old) (entry_at-same dir) 64 os (omega arith) fill in
      let free : map (span_at new) (filter (is_span new) os) ≡ map (span_at old) (filter (is_span old) os) =
      ap (map (span_at new)) spans ∙ map-same (span_at new) (span_at old) (is_span old) span_at-same 64 os (omega arith) fill in
      let bests : stated_bests new ≡ stated_bests old =
      ap₂ (λ (a b : FreeSpan). a ∷ b ∷ best_at new 2 ∷ []) (best_at-same 0) (best_at-same 1)
      ∙ ap (λ (c : FreeSpan). best_at old 0 ∷ best_at old 1 ∷ c ∷ []) (best_at-same 2) in
      ap₂ (λ (e : List EntryRec) (p : List ℕ). let r : DataArea = record { entries = e; places = p; free = map (span_at new) (filter (is_span new) os); bests = stated_bests new } in r) entries places
      ∙ ap₂ (λ (f b : List FreeSpan). let r : DataArea = record { entries = map (entry_at dir old) (filter (is_entry old) os); places = filter (is_entry old) os; free = f; bests = b } in r) free bests

  has_bests-same : (free : List FreeSpan) → has_bests new free ≡ has_bests old free
  has_bests-same free =
      ap₂ (λ (a b : FreeSpan). are_bests free a b (best_at new 2)) (best_at-same 0) (best_at-same 1)
      ∙ ap (λ (c : FreeSpan). are_bests free (best_at old 0) (best_at old 1) c) (best_at-same 2)

  pub area-same : (dir : ℕ) (area : DataArea) → area_of dir old ≡ Some area → area_of dir new ≡ Some area
  area-same dir area read =
      let states = states-from dir old area read in
      read-from dir new area (record {
        header = omega (arith, states.header, same.long);
        offsets = states.offsets;
        fill = fill-same 64 states.offsets (omega arith) states.fill;
        is = states.is ∙ sym (stated-same dir states.offsets states.fill);
        bests = has_bests-same area.free ∙ states.bests;
      })
