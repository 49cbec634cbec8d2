-- What a data block states, item by item.
use Rattle.std.proofs.Common.{◌≡◌, ℕ, suc, zero, true, false, ◌+◌, ◌*◌, ◌<◌, ◌≤◌, ◌==◌, nat_le, ◌++◌, [], ◌∷◌, List, length, map, if◌then◌else◌, Option, Some, None, refl, sym, ◌∙◌, ap, subst, arith}
use Rattle.std.specs.List.{filter}
use Rattle.std.specs.Option.{option_map}
use Rattle.std.proofs.lemmas.Bool.Decides.{nat_tests}
use Rattle.xfs_dirdata.specs.declared.records.EntryRec.{EntryRec}
use Rattle.xfs_dirdata.specs.declared.records.FreeSpan.{FreeSpan}
use Rattle.xfs_dirdata.specs.Data.{DataArea, is_span, is_entry, is_item, size_at, span_at, entry_at, stated_bests, items, stated_area, has_bests, with_bests, area_of}
use Rattle.xfs_dirdata.proofs.Leading.{behind, behind-more}

-- one item more
pub items-step : (most : ℕ) (bytes : List ℕ) (at : ℕ) → at < length bytes → is_item bytes at ≡ true
    → items (suc most) bytes at ≡ option_map (λ rest. at ∷ rest) (items most bytes (at + size_at bytes at))
unfolding items
items-step most bytes at before sound =
    let e : (at == length bytes) ≡ false = grind (arith, nat_tests) in
    rw (e, sound) refl

pub items-more : (done : List ℕ) (most : ℕ) (bytes : List ℕ) (at size : ℕ) (whole : Option (List ℕ)) → at < length bytes → length bytes ≤ at + 8 * most
    → is_item bytes at ≡ true → size ≡ size_at bytes at → 8 ≤ size → whole ≡ behind done (items most bytes at)
    → (m : ℕ) × (length bytes ≤ at + size + 8 * m) × (whole ≡ behind (done ++ at ∷ []) (items m bytes (at + size)))
items-more done zero bytes at size whole before enough sound long some leads = absurd (omega arith)
items-more done (suc m) bytes at size whole before enough sound long some leads =
    let step : items (suc m) bytes at ≡ option_map (λ rest. at ∷ rest) (items m bytes (at + size)) =
    subst (λ (s : ℕ). items (suc m) bytes at ≡ option_map (λ rest. at ∷ rest) (items m bytes (at + s))) (sym long) (items-step m bytes at before sound) in
    (m, omega arith, leads ∙ (ap (behind done) step ∙ behind-more done at (items m bytes (at + size))))

-- an item that breaks a rule
pub items-unsound : (most : ℕ) (bytes : List ℕ) (at : ℕ) → at < length bytes → is_item bytes at ≡ false → items most bytes at ≡ None
unfolding items
items-unsound zero bytes at before unsound = let e : (at == length bytes) ≡ false = grind (arith, nat_tests) in rw e refl
items-unsound (suc most) bytes at before unsound = let e : (at == length bytes) ≡ false = grind (arith, nat_tests) in rw (e, unsound) refl

-- the end
pub items-end : (most : ℕ) (bytes : List ℕ) (at : ℕ) → at ≡ length bytes → items most bytes at ≡ Some []
unfolding items
items-end zero bytes at end = let e : (at == length bytes) ≡ true = grind (arith, nat_tests) in rw e refl
items-end (suc most) bytes at end = let e : (at == length bytes) ≡ true = grind (arith, nat_tests) in rw e refl

-- nothing is stated where an item breaks a rule
pub area-unsound : (dir : ℕ) (bytes done : List ℕ) (most at : ℕ) → items (length bytes) bytes 64 ≡ behind done (items most bytes at)
    → at < length bytes → is_item bytes at ≡ false → area_of dir bytes ≡ None
unfolding area_of
area-unsound dir bytes done most at leads before unsound =
    let e : items (length bytes) bytes 64 ≡ None = leads ∙ ap (behind done) (items-unsound most bytes at before unsound) in
    rw e (elim (nat_le 64 (length bytes)) as (λ b. (if◌then◌else◌ {A = Option DataArea} b None None) ≡ None) [ true ↦ refl | false ↦ refl ])

-- what is stated where all keep the rules
pub area-is : (dir : ℕ) (bytes done : List ℕ) → items (length bytes) bytes 64 ≡ Some done → 64 ≤ length bytes
    → area_of dir bytes ≡ with_bests bytes (stated_area dir bytes done)
unfolding area_of
area-is dir bytes done all long = let e : nat_le 64 (length bytes) ≡ true = grind (arith, nat_tests) in rw (e, all) refl

-- the record of what was read
stated-is : (dir : ℕ) (bytes done : List ℕ) (entries : List EntryRec) (places : List ℕ) (free bests : List FreeSpan)
    → entries ≡ map (entry_at dir bytes) (filter (is_entry bytes) done) → places ≡ filter (is_entry bytes) done
    → free ≡ map (span_at bytes) (filter (is_span bytes) done) → bests ≡ stated_bests bytes
    → stated_area dir bytes done ≡ record { entries = entries; places = places; free = free; bests = bests }
unfolding stated_area
stated-is dir bytes done entries places free bests e p f b = rw (e, p, f, b) refl

pub area-read : (dir : ℕ) (bytes done : List ℕ) (entries : List EntryRec) (places : List ℕ) (free bests : List FreeSpan)
    → items (length bytes) bytes 64 ≡ Some done → 64 ≤ length bytes
    → entries ≡ map (entry_at dir bytes) (filter (is_entry bytes) done) → places ≡ filter (is_entry bytes) done
    → free ≡ map (span_at bytes) (filter (is_span bytes) done) → bests ≡ stated_bests bytes
    → (area_of dir bytes ≡ (if has_bests bytes free then Some (record { entries = entries; places = places; free = free; bests = bests }) else None))
area-read dir bytes done entries places free bests all long e p f b =
    area-is dir bytes done all long ∙ ap (with_bests bytes) (stated-is dir bytes done entries places free bests e p f b)

-- nothing is stated by fewer bytes than a header has
pub area-short : (dir : ℕ) (bytes : List ℕ) → length bytes < 64 → area_of dir bytes ≡ None
unfolding area_of
area-short dir bytes short = let e : nat_le 64 (length bytes) ≡ false = grind (arith, nat_tests) in rw e refl
