-- A walk over the entries of a short form.
use Rattle.std.proofs.Common.{◌≡◌, ℕ, suc, Bool, true, false, cond, List, [], ◌∷◌, ◌++◌, length, drop, Option, Some, None, refl, sym, ap, ◌∙◌, append_assoc, eqb, ◌<◌, arith}
use Rattle.std.specs.Prelude.{option_map}
use Rattle.std.proofs.lemmas.Bool.{eq-eqb, ne_eqb}
use Rattle.std.proofs.lemmas.List.{append-nil}
use Rattle.xfs_attr.specs.declared.attributes.Attr.{Attr}
use Rattle.xfs_attr.specs.ShortForm.{size_of_entry, begin_with_entry, attribute_of_entry, attributes_of}

-- these attributes, and then those of the rest
pub behind : List Attr → Option (List Attr) → Option (List Attr)
behind front None = None
behind front (Some rest) = Some (front ++ rest)

pub behind_none : (rest : Option (List Attr)) → behind [] rest ≡ rest
unfolding behind
behind_none None = refl
behind_none (Some rest) = refl

pub behind_nothing : (front : List Attr) → behind front None ≡ None
unfolding behind
behind_nothing front = refl

pub behind_all : (front : List Attr) → behind front (Some []) ≡ Some front
unfolding behind
behind_all front = ap Some (append-nil front)

behind_more : (front : List Attr) (a : Attr) (rest : Option (List Attr)) → behind front (option_map (λ attrs. a ∷ attrs) rest) ≡ behind (front ++ (a ∷ [])) rest
unfolding behind
behind_more front a None = refl
behind_more front a (Some rest) = ap Some (sym (append_assoc front (a ∷ []) rest))

pub if_true : {A : Type 0} (b : Bool) (x y : A) → b ≡ true → cond b x y ≡ x
if_true b x y h = rw h refl

pub if_false : {A : Type 0} (b : Bool) (x y : A) → b ≡ false → cond b x y ≡ y
if_false b x y h = rw h refl

-- one entry more
pub walk : (front : List Attr) (left n : ℕ) (bytes : List ℕ) → left ≡ suc n → begin_with_entry bytes ≡ true
    → behind front (attributes_of left bytes) ≡ behind (front ++ (attribute_of_entry bytes ∷ [])) (attributes_of n (drop (size_of_entry bytes) bytes))
unfolding attributes_of
walk front left n bytes h begins =
    ap (λ (k : ℕ). behind front (attributes_of k bytes)) h
    ∙ (ap (behind front) (if_true (begin_with_entry bytes) _ _ begins)
    ∙ behind_more front (attribute_of_entry bytes) (attributes_of n (drop (size_of_entry bytes) bytes)))

-- no entry where one is to be
pub stuck : (left n : ℕ) (bytes : List ℕ) → left ≡ suc n → begin_with_entry bytes ≡ false → attributes_of left bytes ≡ None
unfolding attributes_of
stuck left n bytes h fails = ap (λ (k : ℕ). attributes_of k bytes) h ∙ if_false (begin_with_entry bytes) _ _ fails

-- where no entry is left, the bytes have to end
pub ends : (left : ℕ) (bytes : List ℕ) → left ≡ 0 → length bytes ≡ 0 → attributes_of left bytes ≡ Some []
unfolding attributes_of
ends left bytes h empty = ap (λ (k : ℕ). attributes_of k bytes) h ∙ if_true (eqb (length bytes) 0) _ _ (eq-eqb (length bytes) 0 empty)

pub goes_on : (left : ℕ) (bytes : List ℕ) → left ≡ 0 → 0 < length bytes → attributes_of left bytes ≡ None
unfolding attributes_of
goes_on left bytes h some =
    ap (λ (k : ℕ). attributes_of k bytes) h ∙ if_false (eqb (length bytes) 0) _ _ (ne_eqb (length bytes) 0 (λ e. absurd (omega arith)))
