-- The values of an option, list by list.
use Rattle.std.proofs.Common.{◌≡◌, ℕ, ◌==◌, List, ◌++◌, map, ap, ◌∙◌}
use Rattle.std.proofs.lemmas.List.{map-append}
use Rattle.std.proofs.lemmas.List.Elements.{filter-append}
use Rattle.std.specs.List.{filter}
use Rattle.xfs_options.specs.DebugWords.{values_of}
use Rattle.xfs_options.specs.declared.reading.Given.{Given}

-- the values of one list behind another
pub values_further : (letter : ℕ) (xs ys : List Given) → values_of letter (xs ++ ys) ≡ values_of letter xs ++ values_of letter ys
values_further letter xs ys =
    let named = λ (g : Given). g.letter == letter in
    let value = λ (g : Given). g.value in
    ap (map value) (filter-append named xs ys) ∙ map-append value (filter named xs) (filter named ys)
