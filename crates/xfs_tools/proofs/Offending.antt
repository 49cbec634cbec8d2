-- The number that a refusal tells is that of the first word that offends.
use Rattle.std.proofs.Common.{◌≡◌, ℕ, suc, ◌+◌, ◌-◌, ◌<◌, ◌==◌, Bool, true, false, cond, List, [], ◌∷◌, ◌++◌, length, take, Option, Some, None, bytes_eq, codes, add-zero, refl, sym, ap, ◌∙◌, subst, arith}
use Rattle.std.proofs.lemmas.List.{append-nil, take_all}
use Rattle.xfs_options.specs.Words.{Words, is_option}
use Rattle.xfs_tools.specs.CommandLine.{BeginRepairWords, OffendsRepairFirst, after_letter_w, after_repair_letters, after_repair_option, after_repair_word, after_repair_words, after_workers, no_options, repair_reading, repair_call, workers_of}
use Rattle.xfs_tools.specs.declared.command_line.Call.TheVariants.{Refused}
use Rattle.xfs_tools.specs.declared.command_line.RepairWords.{RepairWords}
use Rattle.xfs_tools.specs.declared.command_line.Reading.{Reading}
use Rattle.xfs_tools.specs.declared.command_line.Reading.TheVariants.{Options, Workers, Image, Complete, Offended}

-- no word has offended yet
abbrev pub Stands : Reading → Type 0
Stands (Offended n) = ⊥
Stands reading = Unit {0}

-- the reading stands, or the word of this number has offended
abbrev pub StandsOr : ℕ → Reading → Type 0
StandsOr at (Offended n) = n ≡ at
StandsOr at reading = Unit {0}

workers_stand : (at : ℕ) (value : Option ℕ) (o : RepairWords) → StandsOr at (after_workers at value o)
workers_stand at (Some workers) o = tt
workers_stand at None o = refl

letter_w_stands : (at : ℕ) (rest : List ℕ) (o : RepairWords) → StandsOr at (after_letter_w at rest o)
letter_w_stands at [] o = tt
letter_w_stands at (digit ∷ digits) o = workers_stand at (workers_of (digit ∷ digits)) o

choice : (at : ℕ) (b : Bool) (r s : Reading) → StandsOr at r → StandsOr at s → StandsOr at (cond b r s)
choice at true r s hr hs = hr
choice at false r s hr hs = hs

letters_stand : (at : ℕ) (letters : List ℕ) (o : RepairWords) → StandsOr at (after_repair_letters at letters o)
letters_stand at [] o = tt
letters_stand at (letter ∷ rest) o =
    choice at (letter == 110) _ _ (letters_stand at rest (record o { check = true }))
    (choice at (letter == 76) _ _ (letters_stand at rest (record o { drop_log = true }))
    (choice at (letter == 101) _ _ (letters_stand at rest (record o { tells_repair = true }))
    (choice at (letter == 102) _ _ (letters_stand at rest o)
    (choice at (letter == 118) _ _ (letters_stand at rest (record o { verbose = true }))
    (choice at (letter == 119) _ _ (letter_w_stands at rest o) refl)))))

option_stands : (at : ℕ) (word : List ℕ) (o : RepairWords) → StandsOr at (after_repair_option at word o)
option_stands at [] o = tt
option_stands at (first ∷ rest) o =
    choice at (bytes_eq (first ∷ rest) (codes "--")) (Image o) (cond (is_option (first ∷ rest)) (after_repair_letters at rest o) (Complete o)) (tt {0})
    (choice at (is_option (first ∷ rest)) (after_repair_letters at rest o) (Complete o) (letters_stand at rest o) (tt {0}))

word_stands : (at : ℕ) (word : List ℕ) (r : Reading) → Stands r → StandsOr at (after_repair_word at word r)
word_stands at word (Options o) stands = option_stands at word o
word_stands at word (Workers o) stands = workers_stand at (workers_of word) o
word_stands at word (Image o) stands = tt
word_stands at word (Complete o) stands = refl
word_stands at word (Offended n) stands = absurd stands

-- words that were read, and then more
pub after_words-append : (at : ℕ) (words more : Words) (r : Reading) → after_repair_words at (words ++ more) r ≡ after_repair_words (at + length words) more (after_repair_words at words r)
after_words-append at [] more r = rw add-zero refl
after_words-append at (word ∷ words) more r =
    after_words-append (at + 1) words more (after_repair_word at word r)
    ∙ ap (λ (n : ℕ). after_repair_words n more (after_repair_words (at + 1) words (after_repair_word at word r))) (omega arith)

-- a word that has offended stays
pub offended_stays : (at n : ℕ) (words : Words) → after_repair_words at words (Offended n) ≡ Offended n
offended_stays at n [] = refl
offended_stays at n (word ∷ words) = offended_stays (at + 1) n words

-- where the first word that offends stands
pub record Splits (at n : ℕ) (words : Words) (r : Reading) : Type 0 where
  pub place : ℕ
  pub within : place < length words
  pub number : n ≡ at + place
  pub before : Stands (after_repair_words at (take place words) r)
  pub with : after_repair_words at (take (place + 1) words) r ≡ Offended n

-- a split of the words behind one is a split of all
moved : (at n : ℕ) (word : List ℕ) (words : Words) (r s : Reading) → after_repair_word at word r ≡ s → Splits (at + 1) n words s → Splits at n (word ∷ words) r
moved at n word words r s same split =
    let next : suc split.place ≡ split.place + 1 = omega arith in
    let further : suc (split.place + 1) ≡ (split.place + 1) + 1 = omega arith in
    record {
      place = split.place + 1;
      within = omega (arith, split.within);
      number = omega (arith, split.number);
      before =
          subst (λ (k : ℕ). Stands (after_repair_words at (take k (word ∷ words)) r)) next
          (subst (λ (t : Reading). Stands (after_repair_words (at + 1) (take split.place words) t)) (sym same) split.before);
      with =
          subst (λ (k : ℕ). after_repair_words at (take k (word ∷ words)) r ≡ Offended n) further
          (subst (λ (t : Reading). after_repair_words (at + 1) (take (split.place + 1) words) t ≡ Offended n) (sym same) split.with);
    }

-- the first of the words offends
here : (at n k : ℕ) (word : List ℕ) (words : Words) (r : Reading) → Stands r → after_repair_word at word r ≡ Offended k → k ≡ at
    → after_repair_words (at + 1) words (after_repair_word at word r) ≡ Offended n → Splits at n (word ∷ words) r
here at n k word words r stands same place end =
    let stays : Offended k ≡ Offended n =
    sym (offended_stays (at + 1) k words) ∙ subst (λ (t : Reading). after_repair_words (at + 1) words t ≡ Offended n) same end in
    let number : k ≡ n = cc in
    record { place = 0; within = omega arith; number = omega arith; before = stands; with = same ∙ ap (λ (m : ℕ). Offended m) number }

first_offending : (at n : ℕ) (words : Words) (r : Reading) → Stands r → after_repair_words at words r ≡ Offended n → Splits at n words r
first_offending at n [] (Options o) stands end = cc
first_offending at n [] (Workers o) stands end = cc
first_offending at n [] (Image o) stands end = cc
first_offending at n [] (Complete o) stands end = cc
first_offending at n [] (Offended k) stands end = absurd stands
first_offending at n (word ∷ words) r stands end =
    here_or_later (after_repair_word at word r) refl (word_stands at word r stands)
    (λ s stands' same. first_offending (at + 1) n words s stands' (subst (λ (t : Reading). after_repair_words (at + 1) words t ≡ Offended n) same end))
  where
    here_or_later : (s : Reading) → after_repair_word at word r ≡ s → StandsOr at (after_repair_word at word r)
        → ((s : Reading) → Stands s → after_repair_word at word r ≡ s → Splits (at + 1) n words s) → Splits at n (word ∷ words) r
    here_or_later (Options o) same at_most later = moved at n word words r (Options o) same (later (Options o) (tt {0}) same)
    here_or_later (Workers o) same at_most later = moved at n word words r (Workers o) same (later (Workers o) (tt {0}) same)
    here_or_later (Image o) same at_most later = moved at n word words r (Image o) same (later (Image o) (tt {0}) same)
    here_or_later (Complete o) same at_most later = moved at n word words r (Complete o) same (later (Complete o) (tt {0}) same)
    here_or_later (Offended k) same at_most later =
        here at n k word words r stands same (subst (λ (t : Reading). StandsOr at t) same at_most) end

-- a reading that stands can be continued to a command line
pub continued : (rest : Words) (r : Reading) → repair_reading rest ≡ r → Stands r → BeginRepairWords rest
continued rest (Options o) same stands =
    ((86 ∷ []) ∷ [], o, after_words-append 1 rest ((86 ∷ []) ∷ []) (Options no_options) ∙ ap (λ (t : Reading). after_repair_words (1 + length rest) ((86 ∷ []) ∷ []) t) same)
continued rest (Workers o) same stands = (
  (49 ∷ []) ∷ (86 ∷ []) ∷ [],
  record o { workers = 1 },
  after_words-append 1 rest ((49 ∷ []) ∷ (86 ∷ []) ∷ []) (Options no_options)
      ∙ ap (λ (t : Reading). after_repair_words (1 + length rest) ((49 ∷ []) ∷ (86 ∷ []) ∷ []) t) same,
)
continued rest (Image o) same stands =
    ((86 ∷ []) ∷ [], o, after_words-append 1 rest ((86 ∷ []) ∷ []) (Options no_options) ∙ ap (λ (t : Reading). after_repair_words (1 + length rest) ((86 ∷ []) ∷ []) t) same)
continued rest (Complete o) same stands = ([], o, ap repair_reading (append-nil rest) ∙ same)
continued rest (Offended n) same stands = absurd stands

-- words of which one has offended are no beginning of a command line
pub not_begun : (rest : Words) (n : ℕ) → repair_reading rest ≡ Offended n → BeginRepairWords rest → ⊥
not_begun rest n same begun =
    let more : Words = begun.0 in
    let end : repair_reading (rest ++ more) ≡ Offended n =
    after_words-append 1 rest more (Options no_options)
    ∙ ap (λ (t : Reading). after_repair_words (1 + length rest) more t) same
    ∙ offended_stays (1 + length rest) n more in
    let complete : repair_reading (rest ++ more) ≡ Complete begun.1 = begun.2 in
    cc

-- a word that offends is the first that does
pub offended_first : (rest : Words) (n : ℕ) → repair_reading rest ≡ Offended n → OffendsRepairFirst rest n
offended_first rest n same =
    let split = first_offending 1 n rest (Options no_options) (tt {0}) same in
    let before : n - 1 ≡ split.place = omega (arith, split.number) in
    let with_it : n ≡ split.place + 1 = omega (arith, split.number) in
    record {
      within = omega (arith, split.number, split.within);
      before = subst (λ (k : ℕ). BeginRepairWords (take k rest)) (sym before) (continued (take split.place rest) _ refl split.before);
      with = λ o complete. let end : Complete o ≡ Offended n = sym complete ∙ same in cc;
      after = λ within. subst (λ (k : ℕ). BeginRepairWords (take k rest) → ⊥) (sym with_it) (not_begun (take (split.place + 1) rest) n split.with);
    }

-- where a word lacks, its number is that of all words
pub lacking_first : (rest : Words) (r : Reading) → repair_reading rest ≡ r → Stands r → ((o : RepairWords) → r ≡ Complete o → ⊥)
    → OffendsRepairFirst rest (length rest + 1)
lacking_first rest r same stands open_ended =
    let all : take (length rest + 1 - 1) rest ≡ rest = take_all (length rest + 1 - 1) rest (omega arith) in
    record {
      within = omega arith;
      before = rw all (continued rest r same stands);
      with = λ o complete. open_ended o (sym same ∙ complete);
      after = λ within. absurd (omega arith);
    }

-- the number of a refusal
pub refused_first : (rest : Words) (r : Reading) (n : ℕ) → repair_reading rest ≡ r → repair_call (length rest + 1) r ≡ Refused n → OffendsRepairFirst rest n
refused_first rest (Complete o) n same refusal = cc
refused_first rest (Offended k) n same refusal =
    let number : k ≡ n = cc in
    subst (λ (m : ℕ). OffendsRepairFirst rest m) number (offended_first rest k same)
refused_first rest (Options o) n same refusal =
    let number : length rest + 1 ≡ n = cc in
    subst (λ (m : ℕ). OffendsRepairFirst rest m) number (lacking_first rest (Options o) same (tt {0}) (λ p e. cc))
refused_first rest (Workers o) n same refusal =
    let number : length rest + 1 ≡ n = cc in
    subst (λ (m : ℕ). OffendsRepairFirst rest m) number (lacking_first rest (Workers o) same (tt {0}) (λ p e. cc))
refused_first rest (Image o) n same refusal =
    let number : length rest + 1 ≡ n = cc in
    subst (λ (m : ℕ). OffendsRepairFirst rest m) number (lacking_first rest (Image o) same (tt {0}) (λ p e. cc))
