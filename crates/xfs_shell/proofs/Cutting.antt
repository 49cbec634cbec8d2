-- Bytes that are cut into parts, one byte after the other.
use Rattle.std.proofs.Common.{◌≡◌, ℕ, ◌+◌, ◌<◌, ◌≤◌, Bool, true, false, not, ◌==◌, cond, List, [], ◌∷◌, ◌++◌, length, get_or, drop, refl, sym, ◌∙◌, ap, ap₂, append_assoc, arith}
use Rattle.std.specs.List.{filter, slice_split, onto_first}
use Rattle.std.proofs.lemmas.Bool.{eqb-true}
use Rattle.std.proofs.lemmas.List.{append-nil, drop_more}
use Rattle.xfs_shell.specs.LineParts.{is_cut, is_some, line_parts}
use Rattle.xfs_shell.specs.declared.line_parts.Cut.{Cut}

-- the parts, with these bytes before the first
abbrev pub onto : List ℕ → List (List ℕ) → List (List ℕ)
onto part [] = part ∷ []
onto part (first ∷ rest) = (part ++ first) ∷ rest

-- the parts that are still to come: a part is begun, and the rest of the bytes follows
abbrev pub ahead : Cut → List ℕ → List ℕ → List (List ℕ)
ahead cut part rest = filter is_some (onto part (slice_split (is_cut cut) rest))

onto_none : (parts : List (List ℕ)) → (first : List ℕ) → onto [] (first ∷ parts) ≡ first ∷ parts
onto_none parts first = refl

onto_more : (part : List ℕ) (byte : ℕ) (parts : List (List ℕ)) → onto part (onto_first byte parts) ≡ onto (part ++ (byte ∷ [])) parts
onto_more part byte [] = refl
onto_more part byte (first ∷ rest) = ap (λ (p : List ℕ). p ∷ rest) (sym (append_assoc part (byte ∷ []) first))

onto_first_some : (b : ℕ) (parts : List (List ℕ)) → onto [] (onto_first b parts) ≡ onto_first b parts
onto_first_some b [] = refl
onto_first_some b (first ∷ rest) = refl

split_some : (p : ℕ → Bool) (bytes : List ℕ) → onto [] (slice_split p bytes) ≡ slice_split p bytes
split_some p [] = refl
split_some p (b ∷ bs) = by_case (p b) refl
  where
    by_case : (r : Bool) → p b ≡ r → onto [] (cond (p b) ([] ∷ slice_split p bs) (onto_first b (slice_split p bs))) ≡ cond (p b) ([] ∷ slice_split p bs) (onto_first b (slice_split p bs))
    by_case true is = rw is refl
    by_case false is = rw is (onto_first_some b (slice_split p bs))

-- a byte that does not cut belongs to the part
pub grown : (cut : Cut) (part : List ℕ) (byte : ℕ) (rest : List ℕ) → is_cut cut byte ≡ false
    → ahead cut part (byte ∷ rest) ≡ ahead cut (part ++ (byte ∷ [])) rest
grown cut part byte rest none =
    ap (λ (b : Bool). filter is_some (onto part (cond b ([] ∷ slice_split (is_cut cut) rest) (onto_first byte (slice_split (is_cut cut) rest))))) none
    ∙ ap (λ (parts : List (List ℕ)). filter is_some parts) (onto_more part byte (slice_split (is_cut cut) rest))

cut_off : (cut : Cut) (part : List ℕ) (byte : ℕ) (rest : List ℕ) → is_cut cut byte ≡ true
    → ahead cut part (byte ∷ rest) ≡ filter is_some (part ∷ slice_split (is_cut cut) rest)
cut_off cut part byte rest cuts =
    ap (λ (b : Bool). filter is_some (onto part (cond b ([] ∷ slice_split (is_cut cut) rest) (onto_first byte (slice_split (is_cut cut) rest))))) cuts
    ∙ ap (λ (p : List ℕ). filter is_some (p ∷ slice_split (is_cut cut) rest)) (append-nil part)

-- a byte that cuts ends the part
pub ended : (cut : Cut) (part : List ℕ) (byte : ℕ) (rest : List ℕ) → is_cut cut byte ≡ true → is_some part ≡ true
    → ahead cut part (byte ∷ rest) ≡ part ∷ ahead cut [] rest
ended cut part byte rest cuts some =
    cut_off cut part byte rest cuts
    ∙ ap (λ (b : Bool). cond b (part ∷ filter is_some (slice_split (is_cut cut) rest)) (filter is_some (slice_split (is_cut cut) rest))) some
    ∙ ap (λ (parts : List (List ℕ)). part ∷ filter is_some parts) (sym (split_some (is_cut cut) rest))

-- a byte that cuts where no part is begun
pub passed : (cut : Cut) (part : List ℕ) (byte : ℕ) (rest : List ℕ) → is_cut cut byte ≡ true → is_some part ≡ false
    → ahead cut part (byte ∷ rest) ≡ ahead cut [] rest
passed cut part byte rest cuts none =
    cut_off cut part byte rest cuts
    ∙ ap (λ (b : Bool). cond b (part ∷ filter is_some (slice_split (is_cut cut) rest)) (filter is_some (slice_split (is_cut cut) rest))) none
    ∙ ap (λ (parts : List (List ℕ)). filter is_some parts) (sym (split_some (is_cut cut) rest))

-- all bytes are still to come
pub begun : (cut : Cut) (bytes : List ℕ) → ahead cut [] bytes ≡ line_parts cut bytes
unfolding line_parts
begun cut bytes = ap (λ (parts : List (List ℕ)). filter is_some parts) (split_some (is_cut cut) bytes)

-- no byte is still to come
pub done : (cut : Cut) (part : List ℕ) → is_some part ≡ true → ahead cut part [] ≡ part ∷ []
done cut part some =
    ap (λ (p : List ℕ). filter is_some (p ∷ [])) (append-nil part)
    ∙ ap (λ (b : Bool). cond b (part ∷ []) []) some

pub done_empty : (cut : Cut) (part : List ℕ) → is_some part ≡ false → ahead cut part [] ≡ []
done_empty cut part none =
    ap (λ (p : List ℕ). filter is_some (p ∷ [])) (append-nil part)
    ∙ ap (λ (b : Bool). cond b (part ∷ []) []) none

-- one byte more was passed: it belongs to the part
pub step_grown : (cut : Cut) (parts now : List (List ℕ)) (part grows bytes : List ℕ) (i : ℕ) (cuts : Bool) (due : List (List ℕ)) → i < length bytes
    → cuts ≡ is_cut cut (get_or bytes i 0) → cuts ≡ false → now ≡ parts → grows ≡ part ++ (get_or bytes i 0 ∷ [])
    → parts ++ ahead cut part (drop i bytes) ≡ due → now ++ ahead cut grows (drop (i + 1) bytes) ≡ due
step_grown cut parts now part grows bytes i cuts due low is off same more so_far =
    ap₂ (λ (ps : List (List ℕ)) (p : List ℕ). ps ++ ahead cut p (drop (i + 1) bytes)) same more
    ∙ sym (ap (λ (rest : List (List ℕ)). parts ++ rest) (ap (λ (bs : List ℕ). ahead cut part bs) (drop_more bytes i 0 low)
    ∙ grown cut part (get_or bytes i 0) (drop (i + 1) bytes) (sym is ∙ off)))
    ∙ so_far

-- it ends the part
pub step_ended : (cut : Cut) (parts now : List (List ℕ)) (part none bytes : List ℕ) (i : ℕ) (cuts : Bool) (due : List (List ℕ)) → i < length bytes
    → cuts ≡ is_cut cut (get_or bytes i 0) → cuts ≡ true → is_some part ≡ true → now ≡ parts ++ (part ∷ []) → none ≡ []
    → parts ++ ahead cut part (drop i bytes) ≡ due → now ++ ahead cut none (drop (i + 1) bytes) ≡ due
step_ended cut parts now part none bytes i cuts due low is on some more nothing so_far =
    ap₂ (λ (ps : List (List ℕ)) (p : List ℕ). ps ++ ahead cut p (drop (i + 1) bytes)) more nothing
    ∙ append_assoc parts (part ∷ []) (ahead cut [] (drop (i + 1) bytes))
    ∙ sym (ap (λ (rest : List (List ℕ)). parts ++ rest) (ap (λ (bs : List ℕ). ahead cut part bs) (drop_more bytes i 0 low)
    ∙ ended cut part (get_or bytes i 0) (drop (i + 1) bytes) (sym is ∙ on) some))
    ∙ so_far

-- no part is begun
pub step_passed : (cut : Cut) (parts now : List (List ℕ)) (part none bytes : List ℕ) (i : ℕ) (cuts : Bool) (due : List (List ℕ)) → i < length bytes
    → cuts ≡ is_cut cut (get_or bytes i 0) → cuts ≡ true → part ≡ [] → now ≡ parts → none ≡ part
    → parts ++ ahead cut part (drop i bytes) ≡ due → now ++ ahead cut none (drop (i + 1) bytes) ≡ due
step_passed cut parts now part none bytes i cuts due low is on nothing same kept so_far =
    ap₂ (λ (ps : List (List ℕ)) (p : List ℕ). ps ++ ahead cut p (drop (i + 1) bytes)) same (kept ∙ nothing)
    ∙ sym (ap (λ (rest : List (List ℕ)). parts ++ rest) (ap (λ (bs : List ℕ). ahead cut part bs) (drop_more bytes i 0 low)
    ∙ passed cut part (get_or bytes i 0) (drop (i + 1) bytes) (sym is ∙ on) (ap is_some nothing)))
    ∙ so_far

-- a part has bytes, or none
pub part_some : (part : List ℕ) (e : Bool) → e ≡ (length part == 0) → e ≡ false → is_some part ≡ true
part_some part e is off = ap not (sym is ∙ off)

empty_is : (part : List ℕ) → length part ≡ 0 → part ≡ []
empty_is [] h = refl
empty_is (b ∷ bs) h = absurd (omega (arith, h))

pub part_none : (part : List ℕ) (e : Bool) → e ≡ (length part == 0) → e ≡ true → part ≡ []
part_none part e is on = empty_is part (eqb-true (length part) 0 (sym is ∙ on))
