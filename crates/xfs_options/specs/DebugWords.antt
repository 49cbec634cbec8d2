-- What a command line of xfs_db says (xfs_db(8)).
use Rattle.std.specs.Prelude.{ℕ, Bool, ◌==◌, List, [], ◌∷◌, map, Option, Some, None, Result, Ok, Err}
use Rattle.std.specs.List.{filter}
use Rattle.xfs_options.specs.Words.{Words, is_given, options_of}
use Rattle.xfs_options.specs.declared.debug_words.DebugLine.{DebugLine}
use Rattle.xfs_options.specs.declared.options.OptionRow.{OptionRow}
use Rattle.xfs_options.specs.declared.options.ValueForm.TheVariants.{Any}
use Rattle.xfs_options.specs.declared.reading.Given.{Given}

-- whether nothing is written, whether fields may be written, and the commands in place of an input
pub record Debug : Type 0 where
  pub read_only : Bool
  pub expert : Bool
  pub commands : Words

abbrev pub said : DebugLine → Debug
said line = record { read_only = line.read_only; expert = line.expert; commands = line.commands.items }

-- the options of xfs_db: r, x and f, and c with any value
abbrev pub debug_options : List OptionRow
debug_options =
    record { letter = 114; value = None; excludes = None }
    ∷ record { letter = 120; value = None; excludes = None }
    ∷ record { letter = 102; value = None; excludes = None }
    ∷ record { letter = 99; value = Some Any; excludes = None }
    ∷ []

-- the values of an option, in order
abbrev pub values_of : ℕ → List Given → Words
values_of letter given = map (λ (g : Given). g.value) (filter (λ (g : Given). g.letter == letter) given)

-- what these options say: -r, -x and the commands of all -c
abbrev pub debug_line : List Given → Debug
debug_line given = record { read_only = is_given 114 given; expert = is_given 120 given; commands = values_of 99 given }

abbrev pub debug_from : Result (List Given) ℕ → Result Debug ℕ
debug_from (Ok given) = Ok (debug_line given)
debug_from (Err n) = Err n

-- what the words behind the tool's say, or the number of the first that offends
unfoldable pub debug_of : Words → Result Debug ℕ
debug_of rest = debug_from (options_of debug_options rest)
