-- The places of groups, one group after another.
use Rattle.std.proofs.Common.{◌≡◌, ℕ, ◌+◌, ◌<◌, ◌≤◌, List, ◌++◌, length, drop, get_or, sym, ◌∙◌, ap}
use Rattle.std.proofs.lemmas.List.{append_assoc, append-nil}
use Rattle.xfs_geom.specs.Volumes.{Volume}
use Rattle.xfs_volume.specs.declared.groups.GroupRec.{GroupRec}
use Rattle.xfs_image.specs.Lsns.{LsnPlace, groups_places, head_places, tree_lsn_places}
use Rattle.xfs_journal.proofs.Listing.{grown, left_from, none_left}

-- one group more
pub group_more : (v : Volume) (x : GroupRec) (xs : List GroupRec) (i : ℕ) (old heads new all : List LsnPlace) → i < length xs → x ≡ get_or xs i x
    → heads ≡ old ++ head_places v i → new ≡ heads ++ tree_lsn_places x → old ++ groups_places v i (drop i xs) ≡ all
    → new ++ groups_places v (i + 1) (drop (i + 1) xs) ≡ all
group_more v x xs i old heads new all inside value first second held =
    grown old new (head_places v i ++ tree_lsn_places x) (groups_places v i (drop i xs)) (groups_places v (i + 1) (drop (i + 1) xs)) all
    (second ∙ ap (λ ys. ys ++ tree_lsn_places x) first ∙ append_assoc old (head_places v i) (tree_lsn_places x)) (ap (groups_places v i) (left_from xs i x inside value)) held

-- all groups
pub groups_all : (v : Volume) (xs : List GroupRec) (i : ℕ) (new all : List LsnPlace) → length xs ≤ i → new ++ groups_places v i (drop i xs) ≡ all → new ≡ all
groups_all v xs i new all past held = sym (append-nil new) ∙ ap (λ rest. new ++ groups_places v i rest) (sym (none_left xs i past)) ∙ held
