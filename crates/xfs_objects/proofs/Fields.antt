-- Tables of fields that lie in their objects.
use Rattle.std.proofs.Common.{ℕ, ◌<◌, List, length, get_or, IsTrue}
use Rattle.std.specs.List.{list_all}
use Rattle.std.proofs.lemmas.List.Sums.{AllPass-from_list_all}
use Rattle.xfs_word.specs.declared.layout.FieldLayout.{FieldLayout}
use Rattle.xfs_objects.specs.Items.{is_inside, field_item}

pub field_inside : (size : ℕ) (fields : List FieldLayout) (k : ℕ) (d : FieldLayout) → IsTrue (list_all (λ (f : FieldLayout). is_inside size (field_item f)) fields)
    → k < length fields → IsTrue (is_inside size (field_item (get_or fields k d)))
field_inside size fields k d all within = AllPass-from_list_all (λ (f : FieldLayout). is_inside size (field_item f)) fields all k d within

pub ruleset fields_inside = (field_inside)
