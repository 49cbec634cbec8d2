-- Lists that grow by one item at a time.
use Rattle.std.proofs.Common.{◌≡◌, ℕ, zero, suc, ◌+◌, ◌*◌, ◌<◌, ◌≤◌, List, [], ◌∷◌, ◌++◌, length, map, take, get_or, ◌∙◌, ap, append_assoc, arith}
use Rattle.std.proofs.lemmas.List.{map-append, take_more, append-nil}
use Rattle.std.proofs.lemmas.List.FromFn.{map-range_with_len_more}
use Rattle.std.specs.List.{flat_map, range_with_len}
use Rattle.std.proofs.lemmas.List.Concat.{flat_map-append}
use Rattle.std.proofs.Math.Nat.{mul-le-mul_right}

-- one more of the items that others become
pub mapped_more : {X Y Z : Type 0} (f : X → Z) (g : Y → Z) (all old : List X) (x : X) (ys : List Y) (i : ℕ) (d : Y) → i < length ys
    → map f all ≡ map f old ++ map g (take i ys) → f x ≡ g (get_or ys i d)
    → map f (all ++ x ∷ []) ≡ map f old ++ map g (take (i + 1) ys)
mapped_more f g all old x ys i d within so same =
    rw (take_more ys i d within, map-append, map-append, so, same) (append_assoc (map f old) (map g (take i ys)) (g (get_or ys i d) ∷ []))

-- one more of the items that numbers become
pub counted_more : {X Z : Type 0} (f : X → Z) (g : ℕ → Z) (all old : List X) (x : X) (i : ℕ)
    → map f all ≡ map f old ++ map g (range_with_len 0 i) → f x ≡ g i
    → map f (all ++ x ∷ []) ≡ map f old ++ map g (range_with_len 0 (i + 1))
counted_more f g all old x i so same =
    rw (map-range_with_len_more g 0 i i (omega arith), map-append, so, same) (append_assoc (map f old) (map g (range_with_len 0 i)) (g i ∷ []))

-- a part, and then another
pub two_parts : {X Z : Type 0} (h : X → Z) (none mid all : List X) (f r : List Z) → none ≡ []
    → map h mid ≡ map h none ++ f → map h all ≡ map h mid ++ r → map h all ≡ f ++ r
two_parts h none mid all f r empty first second = second ∙ ap (λ (zs : List _). zs ++ r) (first ∙ ap (λ (xs : List _). map h xs ++ f) empty)

pub three_parts : {X Z : Type 0} (h : X → Z) (none mid more all : List X) (f r t : List Z) → none ≡ []
    → map h mid ≡ map h none ++ f → map h more ≡ map h mid ++ r → map h all ≡ map h more ++ t → map h all ≡ f ++ r ++ t
three_parts h none mid more all f r t empty first second third =
    third ∙ ap (λ (zs : List _). zs ++ t) (two_parts h none mid more f r empty first second)

-- an item of a run lies in the object in which the run does
pub in_run : (offset step count i len size : ℕ) → i < count → offset + count * step ≤ size → len ≤ step → offset + i * step + len ≤ size
in_run offset step count i len size within fits short =
    let more : (i + 1) * step ≤ count * step = mul-le-mul_right step (omega (arith, within)) in omega (arith, more, fits, short)

counted : (a n : ℕ) → range_with_len a (n + 1) ≡ range_with_len a n ++ (a + n) ∷ []
counted a n = let more : n + 1 ≡ suc n = omega arith in rw more (by_count a n)
  where
    by_count : (a n : ℕ) → range_with_len a (suc n) ≡ range_with_len a n ++ (a + n) ∷ []
    by_count a zero = let none : a ≡ a + 0 = omega arith in ap (λ (k : ℕ). k ∷ []) none
    by_count a (suc n) =
        let on : a + 1 + n ≡ a + suc n = omega arith in
        ap (λ (ks : List ℕ). a ∷ ks) (by_count (a + 1) n ∙ ap (λ (k : ℕ). range_with_len (a + 1) n ++ k ∷ []) on)

-- one more piece of a text
pub piece_counted : (f : ℕ → List ℕ) (old mid new : List ℕ) (i : ℕ)
    → mid ≡ old ++ flat_map f (range_with_len 0 i) → new ≡ mid ++ f i → new ≡ old ++ flat_map f (range_with_len 0 (i + 1))
piece_counted f old mid new i before now =
    let last : 0 + i ≡ i = omega arith in
    rw (counted 0 i, last, flat_map-append, append-nil, ← append_assoc, ← before) now

-- the same of items of a list
pub piece_more : {X : Type 0} (f : X → List ℕ) (old mid new : List ℕ) (xs : List X) (i : ℕ) (d : X) → i < length xs
    → mid ≡ old ++ flat_map f (take i xs) → new ≡ mid ++ f (get_or xs i d) → new ≡ old ++ flat_map f (take (i + 1) xs)
piece_more f old mid new xs i d within before now =
    rw (take_more xs i d within, flat_map-append, append-nil, ← append_assoc, ← before) now

pub piece_mapped : {X Y : Type 0} (f : Y → List ℕ) (g : X → Y) (old mid new : List ℕ) (xs : List X) (i : ℕ) (d : X) → i < length xs
    → mid ≡ old ++ flat_map f (map g (take i xs)) → new ≡ mid ++ f (g (get_or xs i d)) → new ≡ old ++ flat_map f (map g (take (i + 1) xs))
piece_mapped f g old mid new xs i d within before now =
    rw (take_more xs i d within, map-append, flat_map-append, append-nil, ← append_assoc, ← before) now
