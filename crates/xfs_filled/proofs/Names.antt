-- Names that files can have.
use Rattle.std.proofs.Common.{◌≡◌, ℕ, ◌<◌, ◌==◌, ◌&&◌, ◌||◌, nat_le, not, Bool, true, false, List, [], ◌∷◌, length, refl, sym, ap, ◌∙◌, arith, slice_index}
use Rattle.std.specs.List.{All, list_any}
use Rattle.std.proofs.lemmas.Bool.{and_parts, eqb-true, true≢false}
use Rattle.std.proofs.lemmas.Bool.Decides.{nat_tests}
use Rattle.std.proofs.lemmas.List.Elements.{All-head, All-tail}
use Rattle.xfs_dirdata.specs.declared.records.EntryRec.{EntryRec}
use Rattle.xfs_dirindex.specs.Data.{is_self, is_parent_name, is_dots, have_no_dots}
use Rattle.xfs_volume.specs.Names.{is_name}

neither : (a b : Bool) → a ≡ false → b ≡ false → (a || b) ≡ false
neither a b p q = rw (p, q) refl

-- the names "." and ".." are none that a file can have
self_barred : is_name (46 ∷ []) ≡ false
unfolding is_name
self_barred = refl

parent_barred : is_name (46 ∷ 46 ∷ []) ≡ false
unfolding is_name
parent_barred = refl

self_says : (name : List ℕ) → is_self name ≡ true → name ≡ 46 ∷ []
unfolding is_self
self_says [] is = absurd (true≢false (sym is))
self_says (x ∷ []) is = ap (λ (y : ℕ). y ∷ []) (eqb-true x 46 (and_parts (length (x ∷ []) == 1) (slice_index (x ∷ []) 0 == 46) is).1)
self_says (x ∷ y ∷ ys) is =
    let long = eqb-true (length (x ∷ y ∷ ys)) 1 (and_parts (length (x ∷ y ∷ ys) == 1) (slice_index (x ∷ y ∷ ys) 0 == 46) is).0 in
    absurd (omega (arith, long))

parent_says : (name : List ℕ) → is_parent_name name ≡ true → name ≡ 46 ∷ 46 ∷ []
unfolding is_parent_name
parent_says [] is = absurd (true≢false (sym is))
parent_says (x ∷ []) is = absurd (true≢false (sym is))
parent_says (x ∷ y ∷ []) is =
    let two = and_parts (length (x ∷ y ∷ []) == 2 && slice_index (x ∷ y ∷ []) 0 == 46) (slice_index (x ∷ y ∷ []) 1 == 46) is in
    let one = and_parts (length (x ∷ y ∷ []) == 2) (slice_index (x ∷ y ∷ []) 0 == 46) two.0 in
    ap (λ (a : ℕ). a ∷ y ∷ []) (eqb-true x 46 one.1) ∙ ap (λ (b : ℕ). 46 ∷ b ∷ []) (eqb-true y 46 two.1)
parent_says (x ∷ y ∷ z ∷ zs) is =
    let two = and_parts (length (x ∷ y ∷ z ∷ zs) == 2 && slice_index (x ∷ y ∷ z ∷ zs) 0 == 46) (slice_index (x ∷ y ∷ z ∷ zs) 1 == 46) is in
    let long = eqb-true (length (x ∷ y ∷ z ∷ zs)) 2 (and_parts (length (x ∷ y ∷ z ∷ zs) == 2) (slice_index (x ∷ y ∷ z ∷ zs) 0 == 46) two.0).0 in
    absurd (omega (arith, long))

not_self : (name : List ℕ) → is_name name ≡ true → (t : Bool) → is_self name ≡ t → t ≡ false
not_self name h true e = absurd (true≢false (sym h ∙ ap is_name (self_says name e) ∙ self_barred))
not_self name h false e = refl

not_parent : (name : List ℕ) → is_name name ≡ true → (t : Bool) → is_parent_name name ≡ t → t ≡ false
not_parent name h true e = absurd (true≢false (sym h ∙ ap is_name (parent_says name e) ∙ parent_barred))
not_parent name h false e = refl

not_dots : (e : EntryRec) → is_name e.name ≡ true → is_dots e ≡ false
unfolding is_dots
not_dots e h = neither (is_self e.name) (is_parent_name e.name) (not_self e.name h (is_self e.name) refl) (not_parent e.name h (is_parent_name e.name) refl)

pub valid_no_dots : (es : List EntryRec) → All (λ (e : EntryRec). is_name e.name ≡ true) es → have_no_dots es ≡ true
valid_no_dots es h = ap not (none es h)
  where
    none : (es : List EntryRec) → All (λ (e : EntryRec). is_name e.name ≡ true) es → list_any is_dots es ≡ false
    none [] h = refl
    none (e ∷ es) h = neither (is_dots e) (list_any is_dots es) (not_dots e (All-head (λ (e : EntryRec). is_name e.name ≡ true) e es h)) (none es (All-tail (λ (e : EntryRec). is_name e.name ≡ true) e es h))

-- and they are short
pub short_name : (name : List ℕ) → is_name name ≡ true → length name < 256
unfolding is_name
short_name name h =
    few (nat_le 1 (length name)) (nat_le (length name) 255) (not (list_any (λ byte. byte == 0 || byte == 0x2f) name)) _ refl h
  where
    few : (p q r s : Bool) → q ≡ nat_le (length name) 255 → (((p && q) && r) && s) ≡ true → length name < 256
    few p q r s e k = grind (arith, nat_tests)
