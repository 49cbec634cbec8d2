-- The number of the first bad item is small: each item before it gives another of the sub-options.
use Rattle.std.proofs.Common.{◌≡◌, ℕ, ◌+◌, ◌≤◌, ◌==◌, Bool, true, false, ◌&&◌, ◌||◌, not, cond, List, [], ◌∷◌, ◌++◌, length, Option, Some, None, refl, sym, ap, ◌∙◌, subst, length-append, arith}
use Rattle.std.specs.List.{find, list_any}
use Rattle.xfs_options.specs.SubOptions.{all_sub_options, first_bad, fits, item_form, is_item_of, is_fine, is_fine_as, is_list_letter, items_from, items_in, items_given, new_item, opposes, given_text, rival_of, sub_of}
use Rattle.xfs_options.specs.declared.items.OptionItem.{OptionItem}
use Rattle.xfs_options.specs.declared.reading.Given.{Given}
use Rattle.xfs_options.specs.declared.sub_options.SubOption.{SubOption}

or_left : (a b : Bool) → a ≡ true → (a || b) ≡ true
or_left true b h = refl
or_left false b h = cc

or_right : (a b : Bool) → b ≡ true → (a || b) ≡ true
or_right true b h = refl
or_right false b h = h

or_more : (a b c : Bool) → (b ≡ true → c ≡ true) → (a || b) ≡ true → (a || c) ≡ true
or_more true b c f h = refl
or_more false b c f h = f h

or_false : (a b : Bool) → (a || b) ≡ false → (a ≡ false) × (b ≡ false)
or_false true b h = cc
or_false false b h = (refl, h)

none_or : (a b : Bool) → a ≡ false → b ≡ false → (a || b) ≡ false
none_or true b ha hb = cc
none_or false b ha hb = hb

and_right : (a b : Bool) → (a && b) ≡ true → b ≡ true
and_right true b h = h
and_right false b h = cc

not_true : (b : Bool) → not b ≡ true → b ≡ false
not_true true h = cc
not_true false h = refl

any_new : (p : OptionItem → Bool) (xs : List OptionItem) (x : OptionItem) → p x ≡ true → list_any p (xs ++ x ∷ []) ≡ true
any_new p [] x h = or_left (p x) false h
any_new p (y ∷ ys) x h = or_right (p y) (list_any p (ys ++ x ∷ [])) (any_new p ys x h)

any_more : (p : OptionItem → Bool) (xs : List OptionItem) (x : OptionItem) → list_any p xs ≡ true → list_any p (xs ++ x ∷ []) ≡ true
any_more p [] x h = cc
any_more p (y ∷ ys) x h = or_more (p y) (list_any p ys) (list_any p (ys ++ x ∷ [])) (any_more p ys x) h

abbrev bit : Bool → ℕ
bit true = 0
bit false = 1

-- how many of these sub-options no item gives
untaken : List SubOption → List OptionItem → ℕ
untaken [] before = 0
untaken (sub ∷ subs) before = bit (list_any (is_item_of sub) before) + untaken subs before

less : (a b : Bool) → (a ≡ true → b ≡ true) → bit b ≤ bit a
less true true f = omega arith
less true false f = let no : false ≡ true = f refl in cc
less false true f = omega arith
less false false f = omega arith

untaken_less : (subs : List SubOption) (before : List OptionItem) (item : OptionItem) → untaken subs (before ++ item ∷ []) ≤ untaken subs before
unfolding untaken
untaken_less [] before item = omega arith
untaken_less (s ∷ ss) before item =
    let h = less (list_any (is_item_of s) before) (list_any (is_item_of s) (before ++ item ∷ [])) (any_more (is_item_of s) before item) in
    let r = untaken_less ss before item in
    omega (arith, h, r)

untaken_falls : (subs : List SubOption) (before : List OptionItem) (item : OptionItem) (sub : SubOption) → find (λ (s : SubOption). is_item_of s item) subs ≡ Some sub
    → list_any (is_item_of sub) before ≡ false → untaken subs (before ++ item ∷ []) + 1 ≤ untaken subs before
unfolding untaken
untaken_falls [] before item sub found free = cc
untaken_falls (s ∷ ss) before item sub found free =
    by_case (is_item_of s item) refl (λ found'. untaken_falls ss before item sub found' free)
  where
    by_case : (r : Bool) → is_item_of s item ≡ r
        → (find (λ (s : SubOption). is_item_of s item) ss ≡ Some sub → untaken ss (before ++ item ∷ []) + 1 ≤ untaken ss before)
        → bit (list_any (is_item_of s) (before ++ item ∷ [])) + untaken ss (before ++ item ∷ []) + 1 ≤ bit (list_any (is_item_of s) before) + untaken ss before
    by_case true is rest =
        let found' : Some s ≡ Some sub = subst (λ (b : Bool). cond b (Some s) (find (λ (s : SubOption). is_item_of s item) ss) ≡ Some sub) is found in
        let same : s ≡ sub = cc in
        let free' : list_any (is_item_of s) before ≡ false = subst (λ (t : SubOption). list_any (is_item_of t) before ≡ false) (sym same) free in
        let h : bit (list_any (is_item_of s) before) ≡ 1 = ap bit free' in
        let g : bit (list_any (is_item_of s) (before ++ item ∷ [])) ≡ 0 = ap bit (any_new (is_item_of s) before item is) in
        let r = untaken_less ss before item in
        omega (arith, h, g, r)
    by_case false is rest =
        let found' : find (λ (s : SubOption). is_item_of s item) ss ≡ Some sub =
        subst (λ (b : Bool). cond b (Some s) (find (λ (s : SubOption). is_item_of s item) ss) ≡ Some sub) is found in
        let h = less (list_any (is_item_of s) before) (list_any (is_item_of s) (before ++ item ∷ [])) (any_more (is_item_of s) before item) in
        let r = rest found' in
        omega (arith, h, r)

unopposed : (sub : SubOption) (before : List OptionItem) → list_any (opposes sub) before ≡ false → list_any (is_item_of sub) before ≡ false
unopposed sub [] h = refl
unopposed sub (x ∷ xs) h =
    let o = or_false (opposes sub x) (list_any (opposes sub) xs) h in
    none_or (is_item_of sub x) (list_any (is_item_of sub) xs) (or_false (is_item_of sub x) (is_item_of (rival_of sub) x) o.0).0 (unopposed sub xs o.1)

fine_falls : (before : List OptionItem) (item : OptionItem) → is_fine before item ≡ true
    → untaken all_sub_options (before ++ item ∷ []) + 1 ≤ untaken all_sub_options before
unfolding sub_of
fine_falls before item fine = by_sub (sub_of item) refl fine
  where
    by_sub : (r : Option SubOption) → sub_of item ≡ r → is_fine_as r before item ≡ true
        → untaken all_sub_options (before ++ item ∷ []) + 1 ≤ untaken all_sub_options before
    by_sub None is fine = cc
    by_sub (Some sub) is fine =
        untaken_falls all_sub_options before item sub is
        (unopposed sub before
        (not_true (list_any (opposes sub) before) (and_right (fits (item_form sub) (given_text sub item)) (not (list_any (opposes sub) before)) fine)))

-- the numbers of items are no more than those of their places
Numbered : ℕ → List OptionItem → Type 0
Numbered n [] = Unit {0}
Numbered n (item ∷ items) = (item.number ≤ n + 1) × Numbered (n + 1) items

either : (n : ℕ) (b : Bool) (xs ys : List OptionItem) → Numbered n xs → Numbered n ys → Numbered n (cond b xs ys)
either n true xs ys hx hy = hx
either n false xs ys hx hy = hy

from_numbered : (given : Given) (number n : ℕ) (text bytes : List ℕ) → number ≤ n + 1 → Numbered n (items_from given number text bytes)
unfolding Numbered
from_numbered given number n text [] h = (h, tt)
from_numbered given number n text (byte ∷ bytes) h =
    either n (byte == 44) (new_item given number text ∷ items_from given (number + 1) [] bytes) (items_from given number (text ++ byte ∷ []) bytes)
    (h, from_numbered given (number + 1) (n + 1) [] bytes (omega (arith, h)))
    (from_numbered given number n (text ++ byte ∷ []) bytes h)

append_numbered : (n : ℕ) (xs ys : List OptionItem) → Numbered n xs → ((m : ℕ) → Numbered m ys) → Numbered n (xs ++ ys)
unfolding Numbered
append_numbered n [] ys hx hy = hy n
append_numbered n (x ∷ xs) ys hx hy = (hx.0, append_numbered (n + 1) xs ys hx.1 hy)

in_numbered : (n : ℕ) (given : Given) → Numbered n (items_in given)
unfolding Numbered
in_numbered n given = either n (is_list_letter given.letter) (items_from given 1 [] given.value) [] (from_numbered given 1 n [] given.value (omega arith)) tt

items_numbered : (given : List Given) (n : ℕ) → Numbered n (items_given given)
unfolding Numbered
items_numbered [] n = tt
items_numbered (g ∷ gs) n = append_numbered n (items_in g) (items_given gs) (in_numbered n g) (items_numbered gs)

bad_number : (before items : List OptionItem) (item : OptionItem) → Numbered (length before) items → length before + untaken all_sub_options before ≤ 17
    → first_bad before items ≡ Some item → item.number ≤ 18
unfolding Numbered
bad_number before [] item numbered few found = cc
bad_number before (x ∷ xs) item numbered few found =
    by_case (is_fine before x) refl (λ n f g. bad_number (before ++ x ∷ []) xs item n f g)
  where
    size : length (before ++ x ∷ []) ≡ length before + 1
    size = length-append before (x ∷ [])

    by_case : (r : Bool) → is_fine before x ≡ r
        → (Numbered (length (before ++ x ∷ [])) xs → length (before ++ x ∷ []) + untaken all_sub_options (before ++ x ∷ []) ≤ 17
        → first_bad (before ++ x ∷ []) xs ≡ Some item → item.number ≤ 18) → item.number ≤ 18
    by_case true is rest =
        let falls = fine_falls before x is in
        let found' : first_bad (before ++ x ∷ []) xs ≡ Some item =
        subst (λ (b : Bool). cond b (first_bad (before ++ x ∷ []) xs) (Some x) ≡ Some item) is found in
        rest (subst (λ (k : ℕ). Numbered k xs) (sym size) numbered.1) (omega (arith, falls, few, size)) found'
    by_case false is rest =
        let found' : Some x ≡ Some item = subst (λ (b : Bool). cond b (first_bad (before ++ x ∷ []) xs) (Some x) ≡ Some item) is found in
        let same : x ≡ item = cc in
        subst (λ (y : OptionItem). y.number ≤ 18) same (omega (arith, numbered.0, few))

-- the number of the first bad item fits a byte
pub small_number : (given : List Given) (item : OptionItem) → first_bad [] (items_given given) ≡ Some item → item.number ≤ 18
unfolding untaken
small_number given item found = bad_number [] (items_given given) item (items_numbered given 0) (omega arith) found
