use Rattle.std.proofs.Common.{◌≡◌, ℕ, Bool, true, false, if◌then◌else◌, List, [], ◌∷◌, drop, bytes_eq, codes, refl, sym, ap, ◌∙◌}
use Rattle.std.proofs.lemmas.List.{take_rest}
use Rattle.xfs_options.specs.Words.{is_option}
use Rattle.xfs_tools.specs.CommandLine.{after_repair_letters, after_repair_option}
use Rattle.xfs_tools.specs.declared.command_line.Reading.{Reading}
use Rattle.xfs_tools.specs.declared.command_line.Reading.TheVariants.{Complete, Image}
use Rattle.xfs_tools.specs.declared.command_line.RepairWords.{RepairWords}
use Rattle.xfs_tools.proofs.command_line.RepairWords.after_option.Goals as goal

by_tests : (at : ℕ) (word : List ℕ) (o : RepairWords)
    → (if bytes_eq word (codes "--") then Image o else if is_option word then after_repair_letters at (drop 1 word) o else Complete o) ≡ after_repair_option at word o
by_tests at [] o = refl
by_tests at (first ∷ rest) o = refl

ends : (at : ℕ) (word : List ℕ) (o : RepairWords) → bytes_eq word (codes "--") ≡ true → Image o ≡ after_repair_option at word o
ends at word o is = rw (← by_tests at word o, is) refl

letters : (at : ℕ) (word : List ℕ) (o : RepairWords) (reading : Reading) → bytes_eq word (codes "--") ≡ false → is_option word ≡ true
    → reading ≡ after_repair_letters at (drop 1 word) o → reading ≡ after_repair_option at word o
letters at word o reading ends is read = rw (← by_tests at word o, ends, is) read

image : (at : ℕ) (word : List ℕ) (o : RepairWords) → bytes_eq word (codes "--") ≡ false → is_option word ≡ false → Complete o ≡ after_repair_option at word o
image at word o ends is = rw (← by_tests at word o, ends, is) refl

pub returns-then-ends_options : goal.returns-then-ends_options
returns-then-ends_options c = ends c.args.at c.args.word.now c.args.self (sym c.ends_options.ensures ∙ c.if-ends_options.true)

pub returns-then-is_option : goal.returns-then-is_option
returns-then-is_option c =
    letters c.args.at c.args.word.now c.args.self _ (sym c.ends_options.ensures ∙ c.if-ends_options.false) (sym c.is_option.ensures.value ∙ c.if-is_option.true)
    (c.after_letters.ensures ∙ ap (λ (rest : List ℕ). after_repair_letters c.args.at rest c.args.self) (take_rest c.args.word.now 1))

pub returns : goal.returns
returns c = image c.args.at c.args.word.now c.args.self (sym c.ends_options.ensures ∙ c.if-ends_options.false) (sym c.is_option.ensures.value ∙ c.if-is_option.false)
