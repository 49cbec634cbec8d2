-- The options of a tool, and what their values may be (mkfs.xfs(8), xfs_db(8)).
use Rattle.std.specs.Prelude.{ℕ, ◌≤◌, Bool, true, false, ◌==◌, ◌&&◌, nat_le, not, List, [], ◌∷◌, length, Option, Some, None}
use Rattle.std.specs.List.{find, list_any}
use Rattle.xfs_options.specs.Numbers.{bounded_number}
use Rattle.xfs_options.specs.declared.options.OptionRow.{OptionRow}
use Rattle.xfs_options.specs.declared.options.ValueForm.{ValueForm}
use Rattle.xfs_options.specs.declared.options.ValueForm.TheVariants.{Any, Label, Number}

-- a label fits the superblock's field and has no zero byte
abbrev pub is_label : List ℕ → Bool
is_label value = nat_le (length value) 12 && not (list_any (λ byte. byte == 0) value)

-- a number is there, from 1 to the most
abbrev pub is_up_to : ℕ → Option ℕ → Bool
is_up_to most (Some number) = nat_le 1 number && nat_le number most
is_up_to most None = false

-- the value is of this form
abbrev pub accepts : ValueForm → List ℕ → Bool
accepts Any value = true
accepts Label value = is_label value
accepts (Number most) value = is_up_to most (bounded_number value)

-- the row of a letter
abbrev pub row_of : ℕ → List OptionRow → Option OptionRow
row_of letter rows = find (λ row. row.letter == letter) rows

-- a value of this form exists
abbrev pub HasValue : Option ValueForm → Type 0
HasValue (Some (Number most)) = 1 ≤ most
HasValue form = Unit {0}

-- each option that takes a value can be given one
abbrev pub HaveValues : List OptionRow → Type 0
HaveValues [] = Unit {0}
HaveValues (row ∷ rows) = HasValue row.value × HaveValues rows
