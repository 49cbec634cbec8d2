-- Labelled numbers and rows of the code, seen as the definitions'.
use Rattle.std.specs.Prelude.{ℕ, List}
use denote.Bor.{Bor}
use Rattle.xfs_texts.specs.Explaining.{Explained}
use Rattle.xfs_texts.specs.declared.explanation.Explanation.{Explanation}
use Rattle.xfs_texts.specs.declared.help.OptionLine.{OptionLine}
use Rattle.xfs_texts.specs.declared.lines.Number.{Number}

-- a label's bytes and its number
abbrev pub label_now : Bor (List ℕ) × Number → List ℕ × Number
label_now p = (p.0.now, p.1)

-- a letter, and the bytes of what is said of it
abbrev pub row_now : OptionLine → ℕ × List ℕ
row_now row = (row.letter, row.says.now)

-- an explanation of the code
abbrev pub explained_as : Explanation → Explained
explained_as e = record {
  object = e.object.now;
  place = e.place;
  says = e.says.now;
  held = e.held;
  between = e.between.now;
  due = e.due;
  advice = e.advice.now;
}
