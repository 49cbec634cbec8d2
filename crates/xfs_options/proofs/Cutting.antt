-- Items, byte by byte and option by option.
use Rattle.std.proofs.Common.{◌≡◌, ℕ, suc, ◌+◌, ◌<◌, ◌==◌, Bool, true, false, cond, List, [], ◌∷◌, ◌++◌, length, drop, get_or, refl, sym, ap, ◌∙◌, append_assoc, drop-cons, arith}
use Rattle.xfs_options.specs.SubOptions.{items_from, items_in, items_given, new_item}
use Rattle.xfs_options.specs.declared.items.OptionItem.{OptionItem}
use Rattle.xfs_options.specs.declared.reading.Given.{Given}

rest_from : (bytes : List ℕ) (i : ℕ) → i < length bytes → drop i bytes ≡ get_or bytes i 0 ∷ drop (i + 1) bytes
rest_from bytes i within =
    let next : suc i ≡ i + 1 = omega arith in drop-cons bytes i 0 within ∙ ap (λ (k : ℕ). get_or bytes i 0 ∷ drop k bytes) next

stepped : (b : Bool) (xs ys zs : List OptionItem) → b ≡ true → xs ≡ zs → cond b xs ys ≡ zs
stepped true xs ys zs is same = same
stepped false xs ys zs is same = cc

passed : (b : Bool) (xs ys : List OptionItem) → b ≡ false → cond b xs ys ≡ ys
passed true xs ys is = cc
passed false xs ys is = refl

-- a comma ends an item
pub ended : (before : List OptionItem) (given : Given) (number i : ℕ) (text bytes : List ℕ) → i < length bytes → (get_or bytes i 0 == 44) ≡ true
    → (before ++ new_item given number text ∷ []) ++ items_from given (number + 1) [] (drop (i + 1) bytes) ≡ before ++ items_from given number text (drop i bytes)
ended before given number i text bytes within comma =
    append_assoc before (new_item given number text ∷ []) (items_from given (number + 1) [] (drop (i + 1) bytes))
    ∙ ap (λ (xs : List OptionItem). before ++ xs)
    (sym
    (ap (λ (bs : List ℕ). items_from given number text bs) (rest_from bytes i within)
    ∙ stepped (get_or bytes i 0 == 44) (new_item given number text ∷ items_from given (number + 1) [] (drop (i + 1) bytes))
    (items_from given number (text ++ get_or bytes i 0 ∷ []) (drop (i + 1) bytes))
    (new_item given number text ∷ items_from given (number + 1) [] (drop (i + 1) bytes)) comma refl))

-- another byte belongs to the item
pub grown : (before : List OptionItem) (given : Given) (number i : ℕ) (text bytes : List ℕ) → i < length bytes → (get_or bytes i 0 == 44) ≡ false
    → before ++ items_from given number (text ++ get_or bytes i 0 ∷ []) (drop (i + 1) bytes) ≡ before ++ items_from given number text (drop i bytes)
grown before given number i text bytes within other =
    ap (λ (xs : List OptionItem). before ++ xs)
    (sym
    (ap (λ (bs : List ℕ). items_from given number text bs) (rest_from bytes i within)
    ∙ passed (get_or bytes i 0 == 44) (new_item given number text ∷ items_from given (number + 1) [] (drop (i + 1) bytes))
    (items_from given number (text ++ get_or bytes i 0 ∷ []) (drop (i + 1) bytes)) other))

-- the items of one more option
pub pushed : (before : List OptionItem) (given : List Given) (i : ℕ) (option : Given) → i < length given → option ≡ get_or given i option
    → (before ++ items_in option) ++ items_given (drop (i + 1) given) ≡ before ++ items_given (drop i given)
pushed before given i option within is =
    let next : suc i ≡ i + 1 = omega arith in
    append_assoc before (items_in option) (items_given (drop (i + 1) given))
    ∙ ap (λ (xs : List OptionItem). before ++ xs)
    (sym
    (ap items_given
    (drop-cons given i option within
    ∙ ap (λ (k : ℕ). get_or given i option ∷ drop k given) next
    ∙ ap (λ (o : Given). o ∷ drop (i + 1) given) (sym is))))
