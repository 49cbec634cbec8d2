-- A directory is whole by its tests where it is whole in words, and the other way round.
use Rattle.std.proofs.Common.{◌≡◌, inl, inr, ℕ, Bool, true, false, ◌&&◌, ◌||◌, if◌then◌else◌, List, Option, Some, None, is_some, refl, sym, subst}
use Rattle.std.specs.List.{list_all}
use Rattle.std.proofs.lemmas.Bool.{and_parts, and_from, eqb-false, eqb-true, eq-eqb, ne_eqb, or_cases, or_left, or_right, true≢false}
use Rattle.std.proofs.lemmas.List.Folds.{Any-from_list_any, list_any-from_Any}
use Rattle.xfs_disk.specs.Blocks.{Image}
use Rattle.xfs_geom.specs.Volumes.{Volume}
use Rattle.xfs_dirdata.specs.Short.{ShortForm}
use Rattle.xfs_dirindex.specs.Block.{is_whole_block}
use Rattle.xfs_dirindex.specs.Leaf.{is_whole_leaf}
use Rattle.xfs_dirindex.specs.Mapped.{Mapped}
use Rattle.xfs_dirindex.specs.Node.{is_whole_node}
use Rattle.xfs_volume.specs.declared.files.FileRec.{FileRec}
use Rattle.xfs_image.specs.Directories.{FileBlock, data_blocks, has_whole_form, is_own, is_sealed_as, is_short, is_whole, kinds_at, mapped_blocks, short_form}
use Rattle.xfs_views.specs.DirectoriesInWords.{HasForm, IsLeafForm, IsNodeForm, IsOwn, IsSingleForm, IsWholeDirectory}
use Rattle.xfs_views.proofs.Forms.{leaf_form_passes, leaf_form_says, node_form_passes, node_form_says, single_passes, single_says}
use Rattle.xfs_views.proofs.Tests.{all_pass, all_say}

pub single_both : (dir size : ℕ) (ms : List Mapped) → (is_whole_block dir size ms ≡ true → IsSingleForm dir size ms) × (IsSingleForm dir size ms → is_whole_block dir size ms ≡ true)
single_both dir size ms = (single_says dir size ms, single_passes dir size ms)

pub leaf_both : (dir size : ℕ) (ms : List Mapped) → (is_whole_leaf dir size ms ≡ true → IsLeafForm dir size ms) × (IsLeafForm dir size ms → is_whole_leaf dir size ms ≡ true)
leaf_both dir size ms = (leaf_form_says dir size ms, leaf_form_passes dir size ms)

pub node_both : (dir size : ℕ) (ms : List Mapped) → (is_whole_node dir size ms ≡ true → IsNodeForm dir size ms) × (IsNodeForm dir size ms → is_whole_node dir size ms ≡ true)
node_both dir size ms = (node_form_says dir size ms, node_form_passes dir size ms)

-- one of the three forms
form_says : (dir size : ℕ) (ms : List Mapped) → has_whole_form dir size ms ≡ true → HasForm dir size ms
form_says dir size ms is =
    elim (or_cases (is_whole_block dir size ms || is_whole_leaf dir size ms) (is_whole_node dir size ms) is) [
      | inl one ↦ elim (or_cases (is_whole_block dir size ms) (is_whole_leaf dir size ms) one) [
        | inl single ↦ inl (inl (single_says dir size ms single))
        | inr leaf ↦ inl (inr (leaf_form_says dir size ms leaf))
      ]
      | inr node ↦ inr (node_form_says dir size ms node)
    ]

form_passes : (dir size : ℕ) (ms : List Mapped) → HasForm dir size ms → has_whole_form dir size ms ≡ true
form_passes dir size ms (inl (inl single)) =
    or_left (is_whole_block dir size ms || is_whole_leaf dir size ms) (is_whole_node dir size ms)
    (or_left (is_whole_block dir size ms) (is_whole_leaf dir size ms) (single_passes dir size ms single))
form_passes dir size ms (inl (inr leaf)) =
    or_left (is_whole_block dir size ms || is_whole_leaf dir size ms) (is_whole_node dir size ms)
    (or_right (is_whole_block dir size ms) (is_whole_leaf dir size ms) (leaf_form_passes dir size ms leaf))
form_passes dir size ms (inr node) = or_right (is_whole_block dir size ms || is_whole_leaf dir size ms) (is_whole_node dir size ms) (node_form_passes dir size ms node)

-- a form that reads
some_says : (form : Option ShortForm) → is_some form ≡ true → (stated : ShortForm) × (form ≡ Some stated)
some_says (Some stated) is = (stated, refl)
some_says None is = absurd (true≢false (sym is))

some_passes : (form : Option ShortForm) (stated : ShortForm) → form ≡ Some stated → is_some form ≡ true
some_passes form stated is = subst (λ (f : Option ShortForm). is_some f ≡ true) (sym is) refl

-- each block is sealed
own_says : (v : Volume) (dir : ℕ) (b : FileBlock) → is_own v dir b ≡ true → IsOwn v dir b
own_says v dir b is = Any-from_list_any (is_sealed_as v dir b) (kinds_at b.mapped) is

own_passes : (v : Volume) (dir : ℕ) (b : FileBlock) → IsOwn v dir b → is_own v dir b ≡ true
own_passes v dir b is = list_any-from_Any (is_sealed_as v dir b) (kinds_at b.mapped) is

pub whole_says : (v : Volume) (image : Image) (f : FileRec) → is_whole v image f ≡ true → IsWholeDirectory v image f
unfolding is_whole
whole_says v image f is = by_form (is_short f) refl is
  where
    blocks : Bool
    blocks = has_whole_form f.ino f.core.size (mapped_blocks v image f) && list_all (is_own v f.ino) (data_blocks v image f)

    by_form : (t : Bool) → is_short f ≡ t → (if t then is_some (short_form v image f) else blocks) ≡ true → IsWholeDirectory v image f
    by_form true short is =
        let form = some_says (short_form v image f) is in
        inl (record { format = eqb-true f.core.format 1 short; form = form.0; reads = form.1 })
    by_form false short is =
        let parts = and_parts (has_whole_form f.ino f.core.size (mapped_blocks v image f)) (list_all (is_own v f.ino) (data_blocks v image f)) is in
        inr (record {
          format = eqb-false f.core.format 1 short;
          form = form_says f.ino f.core.size (mapped_blocks v image f) parts.0;
          sealed = all_say (is_own v f.ino) (IsOwn v f.ino) (own_says v f.ino) (data_blocks v image f) parts.1;
        })

pub whole_passes : (v : Volume) (image : Image) (f : FileRec) → IsWholeDirectory v image f → is_whole v image f ≡ true
unfolding is_whole
whole_passes v image f (inl is) =
    subst (λ (t : Bool). (if t then is_some (short_form v image f) else has_whole_form f.ino f.core.size (mapped_blocks v image f) && list_all (is_own v f.ino) (data_blocks v image f)) ≡ true)
    (sym (eq-eqb f.core.format 1 is.format)) (some_passes (short_form v image f) is.form is.reads)
whole_passes v image f (inr is) =
    subst (λ (t : Bool). (if t then is_some (short_form v image f) else has_whole_form f.ino f.core.size (mapped_blocks v image f) && list_all (is_own v f.ino) (data_blocks v image f)) ≡ true)
    (sym (ne_eqb f.core.format 1 is.format))
    (and_from (has_whole_form f.ino f.core.size (mapped_blocks v image f)) (list_all (is_own v f.ino) (data_blocks v image f))
    (form_passes f.ino f.core.size (mapped_blocks v image f) is.form)
    (all_pass (is_own v f.ino) (IsOwn v f.ino) (own_passes v f.ino) (data_blocks v image f) is.sealed))

pub whole_both : (v : Volume) (image : Image) (f : FileRec) → (is_whole v image f ≡ true → IsWholeDirectory v image f) × (IsWholeDirectory v image f → is_whole v image f ≡ true)
whole_both v image f = (whole_says v image f, whole_passes v image f)
