-- The label that words give is short, and the files are few that they ask for, as the values of options that were read are of the forms that their rows state.
use Rattle.std.proofs.Common.{◌≡◌, ℕ, ◌+◌, ◌≤◌, ◌==◌, Bool, true, false, cond, nat_le, not, List, [], ◌∷◌, ◌++◌, length, Option, Some, None, Result, Ok, Err, bytes_eq, codes, refl, sym, subst, arith}
use Rattle.std.specs.List.{All, list_any}
use Rattle.std.specs.Option.{ForSome}
use Rattle.std.proofs.lemmas.Bool.{and_parts, eqb-true, leb-true}
use Rattle.std.proofs.lemmas.List.Elements.{All-append, All-cons, All-head, All-nil, All-tail}
use Rattle.xfs_options.specs.MakeWords.{Refusal, counted, judged_making, judged_by, label_of, last_from, last_value, make_from, make_line, make_of, make_options, small_count}
use Rattle.xfs_options.specs.Options.{accepts, is_label, row_of}
use Rattle.xfs_options.specs.SubOptions.{first_bad, items_given}
use Rattle.xfs_options.specs.Words.{Words, Read, after_form, after_letters, after_option, after_rest, after_row, after_value, after_word, after_words, free_row, is_not_excluded, is_option, options_of, reading_of_words, finished_reading}
use Rattle.xfs_options.specs.Words.Read.{in_options, in_value, in_image, complete, offended}
use Rattle.xfs_options.specs.declared.make_words.MakeLine.{MakeLine}
use Rattle.xfs_options.specs.declared.options.OptionRow.{OptionRow}
use Rattle.xfs_options.specs.declared.options.ValueForm.{ValueForm}
use Rattle.xfs_options.specs.declared.reading.Given.{Given}

-- the value is of a form, where there is one
abbrev HasForm : Option ValueForm → List ℕ → Type 0
HasForm None value = Unit {0}
HasForm (Some form) value = accepts form value ≡ true

abbrev HasRow : Option OptionRow → List ℕ → Type 0
HasRow None value = Unit {0}
HasRow (Some row) value = HasForm row.value value

-- the value of an option is of the form that its row states
abbrev IsSound : List OptionRow → Given → Type 0
IsSound rows given = HasRow (row_of given.letter rows) given.value

abbrev AreSound : List OptionRow → List Given → Type 0
AreSound rows given = All (IsSound rows) given

-- a value of this form is one of the row
abbrev Takes : Option OptionRow → ValueForm → Type 0
Takes row form = (value : List ℕ) → accepts form value ≡ true → HasRow row value

abbrev IsSoundRead : List OptionRow → Read → Type 0
IsSoundRead rows (in_options given) = AreSound rows given
IsSoundRead rows (in_value letter form given) = Takes (row_of letter rows) form × AreSound rows given
IsSoundRead rows (in_image given) = AreSound rows given
IsSoundRead rows (complete given) = AreSound rows given
IsSoundRead rows (offended n) = Unit {0}

one_more : (rows : List OptionRow) (given : List Given) (next : Given) → AreSound rows given → IsSound rows next → AreSound rows (given ++ next ∷ [])
one_more rows given next sound last =
    All-append (IsSound rows) given (next ∷ []) sound (All-cons (IsSound rows) next [] last (All-nil (IsSound rows)))

choice : (rows : List OptionRow) (b : Bool) (r s : Read) → IsSoundRead rows r → IsSoundRead rows s → IsSoundRead rows (cond b r s)
choice rows true r s hr hs = hr
choice rows false r s hr hs = hs

value_sound : (rows : List OptionRow) (at letter : ℕ) (form : ValueForm) (value : List ℕ) (given : List Given) → Takes (row_of letter rows) form
    → AreSound rows given → IsSoundRead rows (after_value at letter form value given)
value_sound rows at letter form value given takes sound = by_test (accepts form value) refl
  where
    next : Given
    next = record { letter = letter; word = at; value = value }

    by_test : (test : Bool) → accepts form value ≡ test → IsSoundRead rows (cond test (in_options (given ++ next ∷ [])) (offended at))
    by_test true is = one_more rows given next sound (takes value is)
    by_test false is = tt

rest_sound : (rows : List OptionRow) (at letter : ℕ) (form : ValueForm) (rest : List ℕ) (given : List Given) → Takes (row_of letter rows) form
    → AreSound rows given → IsSoundRead rows (after_rest at letter form rest given)
rest_sound rows at letter form [] given takes sound = (takes, sound)
rest_sound rows at letter form (byte ∷ bytes) given takes sound = value_sound rows at letter form (byte ∷ bytes) given takes sound

form_sound : (rows : List OptionRow) (at letter : ℕ) (form : Option ValueForm) (rest : List ℕ) (given : List Given) (next : Read)
    → ((value : List ℕ) → HasForm form value → HasRow (row_of letter rows) value) → AreSound rows given
    → ((HasForm form []) → IsSoundRead rows next) → IsSoundRead rows (after_form at letter form rest given next)
form_sound rows at letter None rest given next takes sound later = later tt
form_sound rows at letter (Some form) rest given next takes sound later = rest_sound rows at letter form rest given takes sound

row_sound : (rows : List OptionRow) (at letter : ℕ) (row : Option OptionRow) → row_of letter rows ≡ row → (rest : List ℕ) (given : List Given) (next : Read)
    → AreSound rows given → (HasRow (row_of letter rows) [] → IsSoundRead rows next) → IsSoundRead rows (after_row at letter (free_row row given) rest given next)
row_sound rows at letter None is rest given next sound later = tt
row_sound rows at letter (Some row) is rest given next sound later = by_free (is_not_excluded row.excludes given)
  where
    takes : (value : List ℕ) → HasForm row.value value → HasRow (row_of letter rows) value
    takes value has = subst (λ (r : Option OptionRow). HasRow r value) (sym is) has

    by_free : (test : Bool) → IsSoundRead rows (after_row at letter (cond test (Some row) None) rest given next)
    by_free true = form_sound rows at letter row.value rest given next takes sound (λ has. later (takes [] has))
    by_free false = tt

letters_sound : (rows : List OptionRow) (at : ℕ) (letters : List ℕ) (given : List Given) → AreSound rows given
    → IsSoundRead rows (after_letters rows at letters given)
letters_sound rows at [] given sound = sound
letters_sound rows at (letter ∷ rest) given sound =
    let flag : Given = record { letter = letter; word = at; value = [] } in
    row_sound rows at letter (row_of letter rows) refl rest given (after_letters rows at rest (given ++ flag ∷ [])) sound
    (λ has. letters_sound rows at rest (given ++ flag ∷ []) (one_more rows given flag sound has))

option_sound : (rows : List OptionRow) (at : ℕ) (word : List ℕ) (given : List Given) → AreSound rows given → IsSoundRead rows (after_option rows at word given)
option_sound rows at [] given sound = sound
option_sound rows at (first ∷ rest) given sound =
    choice rows (bytes_eq (first ∷ rest) (codes "--")) (in_image given)
    (cond (is_option (first ∷ rest)) (after_letters rows at rest given) (complete given)) sound
    (choice rows (is_option (first ∷ rest)) (after_letters rows at rest given) (complete given) (letters_sound rows at rest given sound) sound)

word_sound : (rows : List OptionRow) (at : ℕ) (word : List ℕ) (r : Read) → IsSoundRead rows r → IsSoundRead rows (after_word rows at word r)
word_sound rows at word (in_options given) sound = option_sound rows at word given sound
word_sound rows at word (in_value letter form given) sound = value_sound rows at letter form word given sound.0 sound.1
word_sound rows at word (in_image given) sound = sound
word_sound rows at word (complete given) sound = tt
word_sound rows at word (offended n) sound = tt

words_sound : (rows : List OptionRow) (at : ℕ) (words : Words) (r : Read) → IsSoundRead rows r → IsSoundRead rows (after_words rows at words r)
words_sound rows at [] r sound = sound
words_sound rows at (word ∷ words) r sound = words_sound rows (at + 1) words (after_word rows at word r) (word_sound rows at word r sound)

settled_sound : (rows : List OptionRow) (count : ℕ) (r : Read) (given : List Given) → IsSoundRead rows r → finished_reading count r ≡ Ok given → AreSound rows given
settled_sound rows count (in_options g) given sound is = cc
settled_sound rows count (in_value letter form g) given sound is = cc
settled_sound rows count (in_image g) given sound is = cc
settled_sound rows count (complete g) given sound is =
    let same : g ≡ given = cc in
    subst (AreSound rows) same sound
settled_sound rows count (offended n) given sound is = cc

-- the values of all options that words give are of their forms
pub options_sound : (rows : List OptionRow) (rest : Words) (given : List Given) → options_of rows rest ≡ Ok given → AreSound rows given
unfolding options_of
options_sound rows rest given is =
    settled_sound rows (length rest + 1) (reading_of_words rows rest) given (words_sound rows 1 rest (in_options []) (All-nil (IsSound rows))) is

-- a label, where there is one
abbrev HasLabel : Option (List ℕ) → Type 0
HasLabel None = Unit {0}
HasLabel (Some label) = is_label label ≡ true

next_label : (last : Option (List ℕ)) (g : Given) (test : Bool) → (g.letter == 76) ≡ test → HasLabel last → IsSound make_options g
    → HasLabel (cond test (Some g.value) last)
next_label last g true is has sound = subst (λ (letter : ℕ). HasRow (row_of letter make_options) g.value) (eqb-true g.letter 76 is) sound
next_label last g false is has sound = has

last_label : (last : Option (List ℕ)) (given : List Given) → HasLabel last → AreSound make_options given → HasLabel (last_from 76 last given)
last_label last [] has sound = has
last_label last (g ∷ gs) has sound =
    last_label (cond (g.letter == 76) (Some g.value) last) gs
    (next_label last g (g.letter == 76) refl has (All-head (IsSound make_options) g gs sound)) (All-tail (IsSound make_options) g gs sound)

label_short : (label : Option (List ℕ)) → HasLabel label → length (label_of label) ≤ 12
label_short None has = omega arith
label_short (Some label) has = leb-true (length label) 12 (and_parts (nat_le (length label) 12) (not (list_any (λ byte. byte == 0) label)) has).0

-- what is said where nothing is found, of what says otherwise where something is
none_found : {I : Type 0} (f : Option I → Result MakeLine Refusal) (line : MakeLine) → ((i : I) → f (Some i) ≡ Ok line → ⊥) → (found : Option I)
    → f found ≡ Ok line → f None ≡ Ok line
none_found f line never None is = is
none_found f line never (Some i) is = absurd (never i is)

by_given : (given : List Given) (line : MakeLine) → AreSound make_options given → judged_making given ≡ Ok line → length line.options.label ≤ 12
by_given given line sound is =
    let items = items_given given in
    let said : judged_by None given items ≡ Ok line =
    none_found (λ found. judged_by found given items) line (λ i refused. cc) (first_bad [] items) is in
    let same : make_line given items ≡ line = cc in
    subst (λ (l : MakeLine). length l.options.label ≤ 12) same (label_short (last_value 76 given) (last_label None given tt sound))

by_said : (rest : Words) (said : Result (List Given) ℕ) → options_of make_options rest ≡ said → (line : MakeLine) → make_from said ≡ Ok line → length line.options.label ≤ 12
by_said rest (Ok given) accepted line is =
    by_given given line (options_sound make_options rest given accepted) is
by_said rest (Err n) accepted line is = cc

-- the label of a command line is short
pub line_label : (rest : Words) (line : MakeLine) → make_of rest ≡ Ok line → length line.options.label ≤ 12
unfolding make_of
line_label rest line is = by_said rest (options_of make_options rest) refl line is

few_by : (n : ℕ) (test : Bool) → nat_le n 100000 ≡ test → (k : ℕ) → cond test (Some n) None ≡ Some k → k ≤ 100000
few_by n true is k e =
    let same : n ≡ k = cc in
    subst (λ (m : ℕ). m ≤ 100000) same (leb-true n 100000 is)
few_by n false is k e = cc

few_files : (n : Option ℕ) (k : ℕ) → small_count n ≡ Some k → k ≤ 100000
few_files None k e = cc
few_files (Some n) k e = few_by n (nat_le n 100000) refl k e

files_by_given : (given : List Given) (line : MakeLine) → judged_making given ≡ Ok line → ForSome line.options.generate (λ (n : ℕ). n ≤ 100000)
files_by_given given line is =
    let items = items_given given in
    let said : judged_by None given items ≡ Ok line =
    none_found (λ found. judged_by found given items) line (λ i refused. cc) (first_bad [] items) is in
    let same : make_line given items ≡ line = cc in
    subst (λ (l : MakeLine). ForSome l.options.generate (λ (n : ℕ). n ≤ 100000)) same (few_files (counted (last_value 71 given)))

files_by_said : (said : Result (List Given) ℕ) (line : MakeLine) → make_from said ≡ Ok line → ForSome line.options.generate (λ (n : ℕ). n ≤ 100000)
files_by_said (Ok given) line is = files_by_given given line is
files_by_said (Err n) line is = cc

-- the files are few that a command line asks for
pub line_files : (rest : Words) (line : MakeLine) → make_of rest ≡ Ok line → ForSome line.options.generate (λ (n : ℕ). n ≤ 100000)
unfolding make_of
line_files rest line is = files_by_said (options_of make_options rest) line is
