-- The number that a refusal tells is that of the first word that offends, for any table of options.
use Rattle.std.proofs.Common.{◌≡◌, ℕ, suc, ◌+◌, ◌-◌, ◌<◌, ◌≤◌, ◌==◌, Bool, true, false, cond, List, [], ◌∷◌, ◌++◌, length, take, Option, Some, None, Result, Ok, Err, bytes_eq, codes, add-zero, refl, sym, ap, ◌∙◌, subst, arith}
use Rattle.std.proofs.lemmas.List.{append-nil, take_all}
use Rattle.std.proofs.lemmas.Bool.Decides.{nat_tests}
use Rattle.xfs_options.specs.Numbers.{bounded_number}
use Rattle.xfs_options.specs.Options.{HasValue, HaveValues, accepts, row_of}
use Rattle.xfs_options.specs.Words.{Words, Read, IsBegun, OffendsFirst, after_form, after_letters, after_option, after_rest, after_row, after_value, after_word, after_words, free_row, is_not_excluded, is_option, options_of, reading_of_words, row_for, finished_reading}
use Rattle.xfs_options.specs.Words.Read.{in_options, in_value, in_image, complete, offended}
use Rattle.xfs_options.specs.declared.options.OptionRow.{OptionRow}
use Rattle.xfs_options.specs.declared.options.ValueForm.{ValueForm}
use Rattle.xfs_options.specs.declared.options.ValueForm.TheVariants.{Any, Label, Number}
use Rattle.xfs_options.specs.declared.reading.Given.{Given}

-- no word has offended yet, and a value that is to follow can be given
abbrev pub Stands : Read → Type 0
Stands (offended n) = ⊥
Stands (in_value letter form given) = HasValue (Some form)
Stands read = Unit {0}

-- the reading stands, or the word of this number has offended
abbrev pub StandsOr : ℕ → Read → Type 0
StandsOr at (offended n) = n ≡ at
StandsOr at (in_value letter form given) = HasValue (Some form)
StandsOr at read = Unit {0}

-- the option of a row can be given
abbrev pub CanBeGiven : Option OptionRow → Type 0
CanBeGiven None = Unit {0}
CanBeGiven (Some row) = HasValue row.value

either : (b : Bool) (r s : Option OptionRow) → CanBeGiven r → CanBeGiven s → CanBeGiven (cond b r s)
either true r s hr hs = hr
either false r s hr hs = hs

row_can : (letter : ℕ) (rows : List OptionRow) → HaveValues rows → CanBeGiven (row_of letter rows)
row_can letter [] have = tt
row_can letter (row ∷ rows) have = either (row.letter == letter) (Some row) (row_of letter rows) have.0 (row_can letter rows have.1)

free_can : (row : Option OptionRow) (given : List Given) → CanBeGiven row → CanBeGiven (free_row row given)
free_can None given can = tt
free_can (Some row) given can = either (is_not_excluded row.excludes given) (Some row) None can tt

choice : (at : ℕ) (b : Bool) (r s : Read) → StandsOr at r → StandsOr at s → StandsOr at (cond b r s)
choice at true r s hr hs = hr
choice at false r s hr hs = hs

value_stands : (at letter : ℕ) (form : ValueForm) (value : List ℕ) (given : List Given) → StandsOr at (after_value at letter form value given)
value_stands at letter form value given =
    choice at (accepts form value) (in_options (given ++ record { letter = letter; word = at; value = value } ∷ [])) (offended at) (tt {0}) refl

rest_stands : (at letter : ℕ) (form : ValueForm) (rest : List ℕ) (given : List Given) → HasValue (Some form)
    → StandsOr at (after_rest at letter form rest given)
rest_stands at letter form [] given has = has
rest_stands at letter form (byte ∷ bytes) given has = value_stands at letter form (byte ∷ bytes) given

form_stands : (at letter : ℕ) (form : Option ValueForm) (rest : List ℕ) (given : List Given) (next : Read) → HasValue form → StandsOr at next
    → StandsOr at (after_form at letter form rest given next)
form_stands at letter None rest given next has stands = stands
form_stands at letter (Some form) rest given next has stands = rest_stands at letter form rest given has

row_stands : (at letter : ℕ) (row : Option OptionRow) (rest : List ℕ) (given : List Given) (next : Read) → CanBeGiven row → StandsOr at next
    → StandsOr at (after_row at letter row rest given next)
row_stands at letter None rest given next can stands = refl
row_stands at letter (Some row) rest given next can stands = form_stands at letter row.value rest given next can stands

letters_stand : (rows : List OptionRow) → HaveValues rows → (at : ℕ) (letters : List ℕ) (given : List Given)
    → StandsOr at (after_letters rows at letters given)
letters_stand rows have at [] given = tt
letters_stand rows have at (letter ∷ rest) given =
    let flagged : List Given = given ++ record { letter = letter; word = at; value = [] } ∷ [] in
    row_stands at letter (row_for letter rows given) rest given (after_letters rows at rest flagged)
    (free_can (row_of letter rows) given (row_can letter rows have))
    (letters_stand rows have at rest flagged)

option_stands : (rows : List OptionRow) → HaveValues rows → (at : ℕ) (word : List ℕ) (given : List Given)
    → StandsOr at (after_option rows at word given)
option_stands rows have at [] given = tt
option_stands rows have at (first ∷ rest) given =
    choice at (bytes_eq (first ∷ rest) (codes "--")) (in_image given)
    (cond (is_option (first ∷ rest)) (after_letters rows at rest given) (complete given)) (tt {0})
    (choice at (is_option (first ∷ rest)) (after_letters rows at rest given) (complete given) (letters_stand rows have at rest given) (tt {0}))

word_stands : (rows : List OptionRow) → HaveValues rows → (at : ℕ) (word : List ℕ) (r : Read) → Stands r → StandsOr at (after_word rows at word r)
word_stands rows have at word (in_options given) stands = option_stands rows have at word given
word_stands rows have at word (in_value letter form given) stands = value_stands at letter form word given
word_stands rows have at word (in_image given) stands = tt
word_stands rows have at word (complete given) stands = refl
word_stands rows have at word (offended n) stands = absurd stands

-- words that were read, and then more
after_words-append : (rows : List OptionRow) (at : ℕ) (words more : Words) (r : Read)
    → after_words rows at (words ++ more) r ≡ after_words rows (at + length words) more (after_words rows at words r)
after_words-append rows at [] more r = rw add-zero refl
after_words-append rows at (word ∷ words) more r =
    after_words-append rows (at + 1) words more (after_word rows at word r)
    ∙ ap (λ (n : ℕ). after_words rows n more (after_words rows (at + 1) words (after_word rows at word r))) (omega arith)

-- a word that has offended stays
offended_stays : (rows : List OptionRow) (at n : ℕ) (words : Words) → after_words rows at words (offended n) ≡ offended n
offended_stays rows at n [] = refl
offended_stays rows at n (word ∷ words) = offended_stays rows (at + 1) n words

-- where the first word that offends stands
record Splits (rows : List OptionRow) (at n : ℕ) (words : Words) (r : Read) : Type 0 where
  place : ℕ
  within : place < length words
  number : n ≡ at + place
  before : Stands (after_words rows at (take place words) r)
  with : after_words rows at (take (place + 1) words) r ≡ offended n

-- a split of the words behind one is a split of all
moved : (rows : List OptionRow) (at n : ℕ) (word : List ℕ) (words : Words) (r s : Read) → after_word rows at word r ≡ s
    → Splits rows (at + 1) n words s → Splits rows at n (word ∷ words) r
moved rows at n word words r s same split =
    let next : suc split.place ≡ split.place + 1 = omega arith in
    let further : suc (split.place + 1) ≡ (split.place + 1) + 1 = omega arith in
    record {
      place = split.place + 1;
      within = omega (arith, split.within);
      number = omega (arith, split.number);
      before =
          subst (λ (k : ℕ). Stands (after_words rows at (take k (word ∷ words)) r)) next
          (subst (λ (t : Read). Stands (after_words rows (at + 1) (take split.place words) t)) (sym same) split.before);
      with =
          subst (λ (k : ℕ). after_words rows at (take k (word ∷ words)) r ≡ offended n) further
          (subst (λ (t : Read). after_words rows (at + 1) (take (split.place + 1) words) t ≡ offended n) (sym same) split.with);
    }

-- the first of the words offends
here : (rows : List OptionRow) (at n k : ℕ) (word : List ℕ) (words : Words) (r : Read) → Stands r → after_word rows at word r ≡ offended k → k ≡ at
    → after_words rows (at + 1) words (after_word rows at word r) ≡ offended n → Splits rows at n (word ∷ words) r
here rows at n k word words r stands same place end =
    let stays : offended k ≡ offended n =
    sym (offended_stays rows (at + 1) k words) ∙ subst (λ (t : Read). after_words rows (at + 1) words t ≡ offended n) same end in
    let number : k ≡ n = cc in
    record { place = 0; within = omega arith; number = omega arith; before = stands; with = same ∙ ap (λ (m : ℕ). offended m) number }

first_offending : (rows : List OptionRow) → HaveValues rows → (at n : ℕ) (words : Words) (r : Read) → Stands r → after_words rows at words r ≡ offended n
    → Splits rows at n words r
first_offending rows have at n [] (in_options given) stands end = cc
first_offending rows have at n [] (in_value letter form given) stands end = cc
first_offending rows have at n [] (in_image given) stands end = cc
first_offending rows have at n [] (complete given) stands end = cc
first_offending rows have at n [] (offended k) stands end = absurd stands
first_offending rows have at n (word ∷ words) r stands end =
    here_or_later (after_word rows at word r) refl (word_stands rows have at word r stands)
    (λ s stands' same.
    first_offending rows have (at + 1) n words s stands' (subst (λ (t : Read). after_words rows (at + 1) words t ≡ offended n) same end))
  where
    here_or_later : (s : Read) → after_word rows at word r ≡ s → StandsOr at (after_word rows at word r)
        → ((s : Read) → Stands s → after_word rows at word r ≡ s → Splits rows (at + 1) n words s) → Splits rows at n (word ∷ words) r
    here_or_later (in_options given) same at_most later =
        moved rows at n word words r (in_options given) same (later (in_options given) (tt {0}) same)
    here_or_later (in_value letter form given) same at_most later =
        moved rows at n word words r (in_value letter form given) same
        (later (in_value letter form given) (subst (λ (t : Read). StandsOr at t) same at_most) same)
    here_or_later (in_image given) same at_most later =
        moved rows at n word words r (in_image given) same (later (in_image given) (tt {0}) same)
    here_or_later (complete given) same at_most later =
        moved rows at n word words r (complete given) same (later (complete given) (tt {0}) same)
    here_or_later (offended k) same at_most later =
        here rows at n k word words r stands same (subst (λ (t : Read). StandsOr at t) same at_most) end

-- a value of each form
sample : ValueForm → List ℕ
sample Any = []
sample Label = []
sample (Number most) = 49 ∷ []

sampled : (form : ValueForm) → HasValue (Some form) → accepts form (sample form) ≡ true
unfolding sample bounded_number
sampled Any has = refl
sampled Label has = refl
sampled (Number most) has = grind (arith, nat_tests)

image : Words
image = (86 ∷ []) ∷ []

with_value : ℕ → ℕ → ValueForm → List Given → List Given
with_value at letter form given = given ++ record { letter = letter; word = at; value = sample form } ∷ []

value_ends : (rows : List OptionRow) (at letter : ℕ) (form : ValueForm) (given : List Given) → HasValue (Some form)
    → after_words rows at (sample form ∷ image) (in_value letter form given) ≡ complete (with_value at letter form given)
unfolding image with_value
value_ends rows at letter form given has =
    ap
    (λ (b : Bool). after_words rows (at + 1) ((86 ∷ []) ∷ []) (cond b (in_options (given ++ record { letter = letter; word = at; value = sample form } ∷ [])) (offended at)))
    (sampled form has)

-- a reading that stands can be continued to a command line
continued : (rows : List OptionRow) (rest : Words) (r : Read) → reading_of_words rows rest ≡ r → Stands r → IsBegun rows rest
unfolding image
continued rows rest (in_options given) same stands = (
  image,
  given,
  after_words-append rows 1 rest image (in_options []) ∙ ap (λ (t : Read). after_words rows (1 + length rest) image t) same,
)
continued rows rest (in_value letter form given) same stands = (
  sample form ∷ image,
  with_value (1 + length rest) letter form given,
  after_words-append rows 1 rest (sample form ∷ image) (in_options [])
      ∙ ap (λ (t : Read). after_words rows (1 + length rest) (sample form ∷ image) t) same
      ∙ value_ends rows (1 + length rest) letter form given stands,
)
continued rows rest (in_image given) same stands = (
  image,
  given,
  after_words-append rows 1 rest image (in_options []) ∙ ap (λ (t : Read). after_words rows (1 + length rest) image t) same,
)
continued rows rest (complete given) same stands = ([], given, ap (reading_of_words rows) (append-nil rest) ∙ same)
continued rows rest (offended n) same stands = absurd stands

-- words of which one has offended are no beginning of a command line
not_begun : (rows : List OptionRow) (rest : Words) (n : ℕ) → reading_of_words rows rest ≡ offended n → IsBegun rows rest → ⊥
not_begun rows rest n same begun =
    let more : Words = begun.0 in
    let end : reading_of_words rows (rest ++ more) ≡ offended n =
    after_words-append rows 1 rest more (in_options [])
    ∙ ap (λ (t : Read). after_words rows (1 + length rest) more t) same
    ∙ offended_stays rows (1 + length rest) n more in
    let whole : reading_of_words rows (rest ++ more) ≡ complete begun.1 = begun.2 in
    cc

-- a word that offends is the first that does
offended_first : (rows : List OptionRow) → HaveValues rows → (rest : Words) (n : ℕ) → reading_of_words rows rest ≡ offended n → OffendsFirst rows rest n
offended_first rows have rest n same =
    let split = first_offending rows have 1 n rest (in_options []) (tt {0}) same in
    let before : n - 1 ≡ split.place = omega (arith, split.number) in
    let with_it : n ≡ split.place + 1 = omega (arith, split.number) in
    record {
      within = omega (arith, split.number, split.within);
      before = subst (λ (k : ℕ). IsBegun rows (take k rest)) (sym before) (continued rows (take split.place rest) _ refl split.before);
      with = λ given whole. let end : complete given ≡ offended n = sym whole ∙ same in cc;
      after =
          λ within.
          subst (λ (k : ℕ). IsBegun rows (take k rest) → ⊥) (sym with_it)
          (not_begun rows (take (split.place + 1) rest) n split.with);
    }

-- where a word lacks, its number is that of all words
lacking_first : (rows : List OptionRow) (rest : Words) (r : Read) → reading_of_words rows rest ≡ r → Stands r → ((given : List Given) → r ≡ complete given → ⊥)
    → OffendsFirst rows rest (length rest + 1)
lacking_first rows rest r same stands open_ended =
    let all : take (length rest + 1 - 1) rest ≡ rest = take_all (length rest + 1 - 1) rest (omega arith) in
    record {
      within = omega arith;
      before = rw all (continued rows rest r same stands);
      with = λ given whole. open_ended given (sym same ∙ whole);
      after = λ within. absurd (omega arith);
    }

-- a value that is to follow can be given
abbrev pub Keeps : Read → Type 0
Keeps (in_value letter form given) = HasValue (Some form)
Keeps read = Unit {0}

kept : (at : ℕ) (r : Read) → StandsOr at r → Keeps r
kept at (in_options given) stands = tt
kept at (in_value letter form given) stands = stands
kept at (in_image given) stands = tt
kept at (complete given) stands = tt
kept at (offended n) stands = tt

word_keeps : (rows : List OptionRow) → HaveValues rows → (at : ℕ) (word : List ℕ) (r : Read) → Keeps r → Keeps (after_word rows at word r)
word_keeps rows have at word (in_options given) keeps = kept at (after_option rows at word given) (option_stands rows have at word given)
word_keeps rows have at word (in_value letter form given) keeps =
    kept at (after_value at letter form word given) (value_stands at letter form word given)
word_keeps rows have at word (in_image given) keeps = tt
word_keeps rows have at word (complete given) keeps = tt
word_keeps rows have at word (offended n) keeps = tt

words_keep : (rows : List OptionRow) → HaveValues rows → (at : ℕ) (words : Words) (r : Read) → Keeps r → Keeps (after_words rows at words r)
words_keep rows have at [] r keeps = keeps
words_keep rows have at (word ∷ words) r keeps =
    words_keep rows have (at + 1) words (after_word rows at word r) (word_keeps rows have at word r keeps)

-- the number of a refusal
refused_first : (rows : List OptionRow) → HaveValues rows → (rest : Words) (r : Read) (n : ℕ) → reading_of_words rows rest ≡ r → Keeps r
    → finished_reading (length rest + 1) r ≡ Err n → OffendsFirst rows rest n
refused_first rows have rest (complete given) n same keeps refusal = cc
refused_first rows have rest (offended k) n same keeps refusal =
    let number : k ≡ n = cc in
    subst (λ (m : ℕ). OffendsFirst rows rest m) number (offended_first rows have rest k same)
refused_first rows have rest (in_options given) n same keeps refusal =
    let number : length rest + 1 ≡ n = cc in
    subst (λ (m : ℕ). OffendsFirst rows rest m) number (lacking_first rows rest (in_options given) same (tt {0}) (λ p e. cc))
refused_first rows have rest (in_value letter form given) n same keeps refusal =
    let number : length rest + 1 ≡ n = cc in
    subst (λ (m : ℕ). OffendsFirst rows rest m) number (lacking_first rows rest (in_value letter form given) same keeps (λ p e. cc))
refused_first rows have rest (in_image given) n same keeps refusal =
    let number : length rest + 1 ≡ n = cc in
    subst (λ (m : ℕ). OffendsFirst rows rest m) number (lacking_first rows rest (in_image given) same (tt {0}) (λ p e. cc))

-- the number of a refusal of words is that of the first that offends
pub refusal_first : (rows : List OptionRow) (rest : Words) (n : ℕ) → HaveValues rows → options_of rows rest ≡ Err n → OffendsFirst rows rest n
unfolding options_of
refusal_first rows rest n have refusal =
    refused_first rows have rest (reading_of_words rows rest) n refl (words_keep rows have 1 rest (in_options []) (tt {0})) refusal
