-- Lines of options that are put one after the other.
use Rattle.std.proofs.Common.{◌≡◌, ℕ, ◌+◌, ◌≤◌, ◌<◌, List, [], ◌++◌, length, map, take, drop, get_or, codes, refl, append_assoc}
use Rattle.std.proofs.lemmas.List.{append-nil, map-append, take_more, take-append-drop, take_all}
use Rattle.std.proofs.lemmas.List.Concat.{flat_map-append}
use Rattle.xfs_texts.specs.declared.help.OptionLine.{OptionLine}
use Rattle.xfs_texts.specs.Help.{option_line, option_lines}
use Rattle.xfs_texts.specs.Private.Labels.{row_now}

-- one more line
pub next_row : (rows : List OptionLine) (i : ℕ) (d : OptionLine) → i < length rows
    → option_lines (map row_now (take (i + 1) rows)) ≡ option_lines (map row_now (take i rows)) ++ option_line (row_now (get_or rows i d))
next_row rows i d within = rw (take_more rows i d within, map-append, flat_map-append, append-nil) refl

-- all lines begin with the first of them
pub page_of_first : (rows : List OptionLine) (i : ℕ) (ends : List ℕ)
    → option_lines (map row_now rows) ++ ends ≡ option_lines (map row_now (take i rows)) ++ (option_lines (map row_now (drop i rows)) ++ ends)
page_of_first rows i ends =
    rw (
      ← append_assoc (option_lines (map row_now (take i rows))) (option_lines (map row_now (drop i rows))) ends,
      ← flat_map-append,
      ← map-append,
      take-append-drop,
    ) refl

-- all lines, and then the end
pub page_of_all : (rows : List OptionLine) (i : ℕ) (ends : List ℕ) → length rows ≤ i
    → option_lines (map row_now rows) ++ ends ≡ option_lines (map row_now (take i rows)) ++ ends
page_of_all rows i ends all = rw (take_all i rows all) refl
