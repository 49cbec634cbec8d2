-- Texts that are put to a stream: labelled numbers, and what ends their line.
use Rattle.std.specs.Prelude.{◌≡◌, ℕ, ◌≤◌, decimal, List, [], ◌∷◌, ◌++◌, length, take, Option, Some, Result, Ok, Err, OnOk, OnErr}
use Rattle.std.specs.List.{flat_map}
use Rattle.std.specs.Option.{ForSome}
use Rattle.xfs_disk.specs.Faults.{HasCause}
use Rattle.xfs_disk.specs.declared.failed.Failed.{Failed}
use Rattle.xfs_objects.specs.Hexadecimal.{hexadecimal}
use Rattle.xfs_texts.specs.declared.lines.Number.{Number}
use Rattle.xfs_texts.specs.declared.lines.Number.TheVariants.{Decimal, Large, Hexadecimal, Letter}

-- a number as text, in its form
abbrev pub number_text : Number → List ℕ
number_text (Decimal n) = decimal n
number_text (Large n) = decimal n
number_text (Hexadecimal n) = hexadecimal n
number_text (Letter n) = n ∷ []

-- numbers with a label before each, one after the other
abbrev pub labelled : List (List ℕ × Number) → List ℕ
labelled = flat_map (λ (p : List ℕ × Number). p.0 ++ number_text p.1)

-- labelled numbers, and what ends their line
unfoldable pub line : List (List ℕ × Number) → List ℕ → List ℕ
line numbers end = labelled numbers ++ end

-- a text was put: the whole of it, or a prefix where the sink failed
pub record PutsText (was now : Option (List ℕ)) (faults faults_now : ℕ) (text : List ℕ) (result : Result (Unit {0}) Failed) : Type 0 where
  pub whole : OnOk result (ForSome was (λ before. now ≡ Some (before ++ text)))
  pub part : OnErr result (ForSome was (λ before. (n : ℕ) × (n ≤ length text) × (now ≡ Some (before ++ take n text))))
  pub cause : HasCause faults faults_now result
