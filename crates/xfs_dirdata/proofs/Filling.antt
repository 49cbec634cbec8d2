-- What a data block states is what fills it.
use Rattle.std.proofs.Common.{◌≡◌, ℕ, suc, zero, Bool, true, false, ◌+◌, ◌-◌, ◌*◌, ◌/◌, ◌%◌, ◌<◌, ◌≤◌, ◌==◌, ◌&&◌, ◌||◌, nat_le, [], ◌∷◌, List, length, if◌then◌else◌, Option, Some, None, refl, sym, ◌∙◌, ap, subst, arith}
use Rattle.std.specs.Option.{option_map, option_and_then}
use Rattle.std.proofs.lemmas.Bool.{cond-true, and_parts, eqb-true, leb-true}
use Rattle.xfs_word.specs.Field.{field_of}
use Rattle.xfs_dirdata.specs.Data.{DataArea, is_span, is_entry, is_item, is_tagged, is_sound_span, size_at, entry_size_at, items, stated_area, has_bests, with_bests, area_of, Fill, States, StatesNothing}
use Rattle.xfs_dirdata.proofs.Items.{items-end, items-step, area-is}

first_and_third : (a b c d : Bool) → (a && b && c && d) ≡ true → (a ≡ true) × (c ≡ true)
first_and_third true b true d h = (refl, refl)
first_and_third true true false d h = cc
first_and_third true false false d h = cc
first_and_third false true c d h = cc
first_and_third false false c d h = cc

-- an item that keeps its rules has some bytes, which lie inside
tagged_inside : (bytes : List ℕ) (at size : ℕ) → is_tagged bytes at size ≡ true → at + size ≤ length bytes
tagged_inside bytes at size tagged =
    leb-true (at + size) (length bytes) (and_parts (nat_le (at + size) (length bytes)) (field_of bytes (at + size - 2) 2 == at) tagged).0

span_fits : (bytes : List ℕ) (at size : ℕ) → is_sound_span bytes at size ≡ true → (8 ≤ size) × (at + size ≤ length bytes)
span_fits bytes at size sound =
    let parts = first_and_third (nat_le 8 size) (size % 8 == 0) (is_tagged bytes at size) (at + size == length bytes || is_entry bytes (at + size)) sound in
    (leb-true 8 size parts.0, tagged_inside bytes at size parts.1)

entry_fits : (bytes : List ℕ) (at n : ℕ) → is_tagged bytes at ((n + 19) / 8 * 8) ≡ true → (8 ≤ (n + 19) / 8 * 8) × (at + (n + 19) / 8 * 8 ≤ length bytes)
entry_fits bytes at n sound = (omega arith, tagged_inside bytes at ((n + 19) / 8 * 8) sound)

item_fits : (bytes : List ℕ) (at : ℕ) → is_item bytes at ≡ true → (8 ≤ size_at bytes at) × (at + size_at bytes at ≤ length bytes)
unfolding is_item
item_fits bytes at sound = by_case (is_span bytes at) sound
  where
    by_case : (b : Bool) → (if b then is_sound_span bytes at (if b then field_of bytes (at + 2) 2 else entry_size_at bytes at)
        else is_tagged bytes at (if b then field_of bytes (at + 2) 2 else entry_size_at bytes at)) ≡ true
        → (8 ≤ (if b then field_of bytes (at + 2) 2 else entry_size_at bytes at))
        × (at + (if b then field_of bytes (at + 2) 2 else entry_size_at bytes at) ≤ length bytes)
    by_case true h = span_fits bytes at (field_of bytes (at + 2) 2) h
    by_case false h = entry_fits bytes at (field_of bytes (at + 8) 1) h

few_items : (bytes : List ℕ) (at : ℕ) (os : List ℕ) → Fill bytes at os → at + 8 * length os ≤ length bytes
few_items bytes at [] fill = omega (arith, fill)
few_items bytes at (o ∷ os) fill =
    let fits = item_fits bytes at fill.1 in
    let rest = few_items bytes (at + size_at bytes at) os fill.2 in
    omega (arith, fits.0)

-- what fills the bytes is found
items-from : (most : ℕ) (bytes : List ℕ) (at : ℕ) (os : List ℕ) → Fill bytes at os → length os ≤ most → items most bytes at ≡ Some os
items-from most bytes at [] fill enough = items-end most bytes at fill
items-from zero bytes at (o ∷ os) fill enough = absurd (omega arith)
items-from (suc most) bytes at (o ∷ os) fill enough =
    let fits = item_fits bytes at fill.1 in
    let before : at < length bytes = omega (arith, fits.0, fits.1) in
    let left : length os ≤ most = omega arith in
    items-step most bytes at before fill.1
    ∙ (ap (option_map (λ more. at ∷ more)) (items-from most bytes (at + size_at bytes at) os fill.2 left)
    ∙ ap (λ (p : ℕ). Some (p ∷ os)) (sym fill.0))

-- what is found fills the bytes
fill-step : (bytes : List ℕ) (at : ℕ) (os : List ℕ) (end sound : Bool) (rest : Option (List ℕ)) → (at == length bytes) ≡ end → is_item bytes at ≡ sound
    → ((more : List ℕ) → rest ≡ Some more → Fill bytes (at + size_at bytes at) more)
    → (if end then Some [] else if sound then option_map (λ more. at ∷ more) rest else None) ≡ Some os → Fill bytes at os
fill-step bytes at os true sound rest end_is sound_is next found =
    let none : [] ≡ os = cc in subst (λ (xs : List ℕ). Fill bytes at xs) none (eqb-true at (length bytes) end_is)
fill-step bytes at os false true None end_is sound_is next found = cc
fill-step bytes at os false true (Some more) end_is sound_is next found =
    let all : at ∷ more ≡ os = cc in subst (λ (xs : List ℕ). Fill bytes at xs) all (refl, sound_is, next more refl)
fill-step bytes at os false false rest end_is sound_is next found = cc

fill-end : (bytes : List ℕ) (at : ℕ) (os : List ℕ) (end : Bool) → (at == length bytes) ≡ end → (if end then Some [] else None) ≡ Some os → Fill bytes at os
fill-end bytes at os true end_is found =
    let none : [] ≡ os = cc in subst (λ (xs : List ℕ). Fill bytes at xs) none (eqb-true at (length bytes) end_is)
fill-end bytes at os false end_is found = cc

fill-from : (most : ℕ) (bytes : List ℕ) (at : ℕ) (os : List ℕ) → items most bytes at ≡ Some os → Fill bytes at os
unfolding items
fill-from zero bytes at os found = fill-end bytes at os (at == length bytes) refl found
fill-from (suc most) bytes at os found =
    fill-step bytes at os (at == length bytes) (is_item bytes at) (items most bytes (at + size_at bytes at)) refl refl
    (λ more e. fill-from most bytes (at + size_at bytes at) more e) found

-- so the bytes state what is read, and nothing else
bests-case : (dir : ℕ) (bytes os : List ℕ) (area : DataArea) (right : Bool) → 64 ≤ length bytes → Fill bytes 64 os
    → has_bests bytes (stated_area dir bytes os).free ≡ right → (if right then Some (stated_area dir bytes os) else None) ≡ Some area → States dir bytes area
bests-case dir bytes os area true long fill right_is read =
    let same : stated_area dir bytes os ≡ area = cc in
    record {
      header = long;
      offsets = os;
      fill = fill;
      is = sym same;
      bests = subst (λ (a : DataArea). has_bests bytes a.free ≡ true) same right_is;
    }
bests-case dir bytes os area false long fill right_is read = cc

area-case : (dir : ℕ) (bytes : List ℕ) (area : DataArea) (long : Bool) (found : Option (List ℕ)) → nat_le 64 (length bytes) ≡ long
    → items (length bytes) bytes 64 ≡ found
    → (if long then option_and_then (λ offsets. with_bests bytes (stated_area dir bytes offsets)) found else None) ≡ Some area → States dir bytes area
area-case dir bytes area true None long_is found_is read = cc
area-case dir bytes area true (Some os) long_is found_is read =
    bests-case dir bytes os area (has_bests bytes (stated_area dir bytes os).free) (leb-true 64 (length bytes) long_is)
    (fill-from (length bytes) bytes 64 os found_is) refl read
area-case dir bytes area false found long_is found_is read = cc

pub states-from : (dir : ℕ) (bytes : List ℕ) (area : DataArea) → area_of dir bytes ≡ Some area → States dir bytes area
unfolding area_of
states-from dir bytes area read = area-case dir bytes area (nat_le 64 (length bytes)) (items (length bytes) bytes 64) refl refl read

pub read-from : (dir : ℕ) (bytes : List ℕ) (area : DataArea) → States dir bytes area → area_of dir bytes ≡ Some area
read-from dir bytes area states =
    let few = few_items bytes 64 states.offsets states.fill in
    let enough : length states.offsets ≤ length bytes = omega arith in
    let all = items-from (length bytes) bytes 64 states.offsets states.fill enough in
    area-is dir bytes states.offsets all states.header ∙ (ap (with_bests bytes) (sym states.is) ∙ cond-true _ _ _ states.bests)

pub none-from : (dir : ℕ) (bytes : List ℕ) → area_of dir bytes ≡ None → StatesNothing dir bytes
none-from dir bytes none = record { none = λ area states. let read = read-from dir bytes area states in cc }
