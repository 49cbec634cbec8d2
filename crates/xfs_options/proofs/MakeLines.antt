-- Why the words of mkfs.xfs are refused: the first word that offends, or else the first bad item.
use Rattle.std.proofs.Common.{◌≡◌, ℕ, List, [], Option, Some, None, Result, Ok, Err, refl, sym, ap, ◌∙◌, lit≤}
use Rattle.xfs_options.proofs.Bad.{BadAt, bad_place}
use Rattle.xfs_options.proofs.Offending.{refusal_first}
use Rattle.xfs_options.specs.MakeWords.{OffendsFirstItem, Refusal, judged_making, judged_by, make_from, make_of, make_options}
use Rattle.xfs_options.specs.MakeWords.Refusal.{usage, bad}
use Rattle.xfs_options.specs.SubOptions.{first_bad, items_given}
use Rattle.xfs_options.specs.Words.{OffendsFirst, Words, options_of}
use Rattle.xfs_options.specs.declared.items.OptionItem.{OptionItem}
use Rattle.xfs_options.specs.declared.make_words.MakeLine.{MakeLine}
use Rattle.xfs_options.specs.declared.reading.Given.{Given}

-- what the words say, by the options that they give
pub made_as : (rest : Words) (given : List Given) → options_of make_options rest ≡ Ok given → make_of rest ≡ judged_making given
unfolding make_of
made_as rest given accepted = ap make_from accepted

no_usage : (found : Option OptionItem) (given : List Given) (items : List OptionItem) (n : ℕ) → judged_by found given items ≡ Err (usage n) → ⊥
no_usage None given items n refusal = cc
no_usage (Some item) given items n refusal = cc

by_options : (said : Result (List Given) ℕ) (n : ℕ) → make_from said ≡ Err (usage n) → said ≡ Err n
by_options (Ok given) n refusal = absurd (no_usage (first_bad [] (items_given given)) given (items_given given) n refusal)
by_options (Err k) n refusal = cc

-- the number of a usage refusal is that of the first word that offends
pub make_first : (rest : Words) (n : ℕ) → make_of rest ≡ Err (usage n) → OffendsFirst make_options rest n
unfolding make_of
make_first rest n refusal =
    refusal_first make_options rest n
    (tt, (tt, (tt, (tt, (tt, (tt, (tt, (tt, (tt, (tt, (tt, (tt, (lit≤ tt, tt))))))))))))) (by_options (options_of make_options rest) n refusal)

by_item : (rest : Words) (word number : ℕ) (given : List Given) → options_of make_options rest ≡ Ok given → (found : Option OptionItem)
    → first_bad [] (items_given given) ≡ found → judged_by found given (items_given given) ≡ Err (bad word number) → OffendsFirstItem rest word number
by_item rest word number given accepted None is refusal = cc
by_item rest word number given accepted (Some item) is refusal =
    let r = bad_place [] (items_given given) item is in
    let same : bad item.word item.number ≡ bad word number = cc in
    record {
      given = given;
      accepted = accepted;
      place = r.place;
      item = item;
      here = r.here;
      named = (cc, cc);
      before = r.fine;
      refused = r.bad;
    }

by_given : (rest : Words) (word number : ℕ) (said : Result (List Given) ℕ) → options_of make_options rest ≡ said
    → make_from said ≡ Err (bad word number) → OffendsFirstItem rest word number
by_given rest word number (Err n) is refusal = cc
by_given rest word number (Ok given) is refusal = by_item rest word number given is (first_bad [] (items_given given)) refl refusal

-- the word and number of a bad item are those of the first
pub item_first : (rest : Words) (word number : ℕ) → make_of rest ≡ Err (bad word number) → OffendsFirstItem rest word number
unfolding make_of
item_first rest word number refusal = by_given rest word number (options_of make_options rest) refl refusal
