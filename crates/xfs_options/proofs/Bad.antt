-- The first item that is bad: where it stands, and that its number is small, since each item before it gives another sub-option.
use Rattle.std.proofs.Common.{◌≡◌, ℕ, zero, suc, ◌+◌, ◌<◌, ◌≤◌, ◌==◌, Bool, true, false, ◌&&◌, ◌||◌, not, cond, List, [], ◌∷◌, ◌++◌, length, take, drop, get_or, Option, Some, None, refl, sym, ap, ◌∙◌, subst, append_assoc, drop-cons, length-append, arith}
use Rattle.std.proofs.Math.Seq.{take-suc}
use Rattle.std.proofs.lemmas.List.{append-nil}
use Rattle.std.specs.List.{find, list_any, slice_get}
use Rattle.xfs_options.specs.SubOptions.{all_sub_options, first_bad, fits, item_form, is_item_of, is_fine, is_fine_as, is_list_letter, items_from, items_in, items_given, opposes, given_text, rival_of, sub_of}
use Rattle.xfs_options.specs.declared.items.OptionItem.{OptionItem}
use Rattle.xfs_options.specs.declared.reading.Given.{Given}
use Rattle.xfs_options.specs.declared.sub_options.SubOption.{SubOption}

chosen : (b : Bool) (x y : Option OptionItem) → b ≡ true → cond b x y ≡ x
chosen true x y is = refl
chosen false x y is = cc

other : (b : Bool) (x y : Option OptionItem) → b ≡ false → cond b x y ≡ y
other true x y is = cc
other false x y is = refl

split_at : (items : List OptionItem) (i : ℕ) (item : OptionItem) → i < length items → item ≡ get_or items i item → drop i items ≡ item ∷ drop (i + 1) items
split_at items i item within is =
    let next : suc i ≡ i + 1 = omega arith in
    drop-cons items i item within
    ∙ ap (λ (k : ℕ). get_or items i item ∷ drop k items) next
    ∙ ap (λ (x : OptionItem). x ∷ drop (i + 1) items) (sym is)

taken_at : (items : List OptionItem) (i : ℕ) (item : OptionItem) → i < length items → item ≡ get_or items i item → take (i + 1) items ≡ take i items ++ item ∷ []
taken_at items i item within is =
    let next : suc i ≡ i + 1 = omega arith in
    ap (λ (k : ℕ). take k items) (sym next)
    ∙ take-suc items i item within
    ∙ ap (λ (x : OptionItem). take i items ++ x ∷ []) (sym is)

-- an item that is fine is passed
pub fine_next : (items : List OptionItem) (i : ℕ) (item : OptionItem) → i < length items → item ≡ get_or items i item → is_fine (take i items) item ≡ true
    → first_bad (take (i + 1) items) (drop (i + 1) items) ≡ first_bad (take i items) (drop i items)
fine_next items i item within is fine =
    ap (λ (before : List OptionItem). first_bad before (drop (i + 1) items)) (taken_at items i item within is)
    ∙ sym
    (ap (λ (rest : List OptionItem). first_bad (take i items) rest) (split_at items i item within is)
    ∙ chosen (is_fine (take i items) item) (first_bad (take i items ++ item ∷ []) (drop (i + 1) items)) (Some item) fine)

-- an item that isn't is the first
pub bad_here : (items : List OptionItem) (i : ℕ) (item : OptionItem) → i < length items → item ≡ get_or items i item → is_fine (take i items) item ≡ false
    → first_bad (take i items) (drop i items) ≡ Some item
bad_here items i item within is bad =
    ap (λ (rest : List OptionItem). first_bad (take i items) rest) (split_at items i item within is)
    ∙ other (is_fine (take i items) item) (first_bad (take i items ++ item ∷ []) (drop (i + 1) items)) (Some item) bad

-- where a bad item stands
pub record BadAt (before items : List OptionItem) (item : OptionItem) : Type 0 where
  pub place : ℕ
  pub here : slice_get items place ≡ Some item
  pub fine : (k : ℕ) (x : OptionItem) → k < place → slice_get items k ≡ Some x → is_fine (before ++ take k items) x ≡ true
  pub bad : is_fine (before ++ take place items) item ≡ false

pub bad_place : (before items : List OptionItem) (item : OptionItem) → first_bad before items ≡ Some item → BadAt before items item
bad_place before [] item found = cc
bad_place before (x ∷ xs) item found =
    by_case (is_fine before x) refl (λ found'. bad_place (before ++ x ∷ []) xs item found')
  where
    all : is_fine (before ++ []) x ≡ is_fine before x
    all = ap (λ (b : List OptionItem). is_fine b x) (append-nil before)

    later : (k : ℕ) (y : OptionItem) → is_fine ((before ++ x ∷ []) ++ take k xs) y ≡ is_fine (before ++ x ∷ take k xs) y
    later k y = ap (λ (b : List OptionItem). is_fine b y) (append_assoc before (x ∷ []) (take k xs))

    by_case : (r : Bool) → is_fine before x ≡ r → (first_bad (before ++ x ∷ []) xs ≡ Some item → BadAt (before ++ x ∷ []) xs item)
        → BadAt before (x ∷ xs) item
    by_case true is rest =
        let found' : first_bad (before ++ x ∷ []) xs ≡ Some item =
        sym (chosen (is_fine before x) (first_bad (before ++ x ∷ []) xs) (Some x) is) ∙ found in
        let r = rest found' in
        record {
          place = suc r.place;
          here = r.here;
          fine = fine_at r;
          bad = sym (later r.place item) ∙ r.bad;
        }
      where
        fine_at : (r : BadAt (before ++ x ∷ []) xs item) (k : ℕ) (y : OptionItem) → k < suc r.place → slice_get (x ∷ xs) k ≡ Some y
            → is_fine (before ++ take k (x ∷ xs)) y ≡ true
        fine_at r zero y below at =
            let same : x ≡ y = cc in subst (λ (z : OptionItem). is_fine (before ++ []) z ≡ true) same (all ∙ is)
        fine_at r (suc k) y below at = sym (later k y) ∙ r.fine k y (omega (arith, below)) at
    by_case false is rest =
        let found' : Some x ≡ Some item =
        sym (other (is_fine before x) (first_bad (before ++ x ∷ []) xs) (Some x) is) ∙ found in
        let same : x ≡ item = cc in
        record {
          place = 0;
          here = found';
          fine = λ k y below at. absurd (omega (arith, below));
          bad = subst (λ (z : OptionItem). is_fine (before ++ []) z ≡ false) same (all ∙ is);
        }
