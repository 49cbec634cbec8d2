-- Lists that grow at their end.
use Rattle.std.proofs.Common.{◌≡◌, ℕ, suc, ◌+◌, ◌-◌, ◌<◌, ◌≤◌, List, [], ◌∷◌, ◌++◌, map, drop, length, get_or, sym, ap, ◌∙◌, arith}
use Rattle.std.specs.List.{flat_map, range_with_len}
use Rattle.std.proofs.lemmas.List.{append_assoc, append-nil, drop_all, drop_more}
use Rattle.xfs_geom.specs.Volumes.{Volume}
use Rattle.xfs_geom.specs.declared.records.Run.{Run}
use Rattle.xfs_volume.specs.declared.files.FileRec.{FileRec}
use Rattle.xfs_names.specs.declared.building.BuiltDirectory.{BuiltDirectory}
use Rattle.xfs_changes.specs.Forks.{fork_listed, forks_of, IsNextFork}
use Rattle.xfs_changes.specs.declared.forks.DirectoryFork.{DirectoryFork}
use Rattle.xfs_changes.specs.declared.forks.TakenFork.{TakenFork}

-- what n numbers from the place i behind a first one give, where what one of them gives was added
pub number_more : {A : Type 0} (item : ℕ → A) (first i n : ℕ) (old new all : List A) → i < n → new ≡ old ++ item (first + i) ∷ [] → old ++ map item (range_with_len (first + i) (n - i)) ≡ all
    → new ++ map item (range_with_len (first + (i + 1)) (n - (i + 1))) ≡ all
number_more item first i n old new all low added held =
    let more : n - i ≡ suc (n - (i + 1)) = omega (arith, low) in
    let next : first + (i + 1) ≡ first + i + 1 = omega arith in
    ap (λ xs. xs ++ map item (range_with_len (first + (i + 1)) (n - (i + 1)))) added
    ∙ append_assoc old (item (first + i) ∷ []) (map item (range_with_len (first + (i + 1)) (n - (i + 1))))
    ∙ ap (λ k. old ++ item (first + i) ∷ map item (range_with_len k (n - (i + 1)))) next
    ∙ ap (λ k. old ++ map item (range_with_len (first + i) k)) (sym more) ∙ held

-- what is left of a list from the place of an item on
from_place : {A : Type 0} (xs : List A) (i : ℕ) (x : A) → i < length xs → get_or xs i x ≡ x → drop i xs ≡ x ∷ drop (i + 1) xs
from_place xs i x low is = drop_more xs i x low ∙ ap (λ y. y ∷ drop (i + 1) xs) is

-- forks, of which one more was added
pub fork_more : (v : Volume) (files : List FileRec) (built : List BuiltDirectory) (i : ℕ) (b : BuiltDirectory) (t : TakenFork) (old new all : List DirectoryFork) (cuts cuts' : List ℕ) (runs runs' : List Run)
    → i < length built → b ≡ get_or built i b → new ≡ old ++ fork_listed v files b t.fork ∷ [] → IsNextFork v files b cuts runs t → cuts' ≡ drop t.asks cuts → runs' ≡ drop t.count runs
    → old ++ forks_of v files (drop i built) cuts runs ≡ all → new ++ forks_of v files (drop (i + 1) built) cuts' runs' ≡ all
fork_more v files built i b t old new all cuts cuts' runs runs' low is added h ce re held =
    ap (λ fs. fs ++ forks_of v files (drop (i + 1) built) cuts' runs') added
    ∙ append_assoc old (fork_listed v files b t.fork ∷ []) (forks_of v files (drop (i + 1) built) cuts' runs')
    ∙ ap (λ (cs : List ℕ). old ++ (fork_listed v files b t.fork ∷ forks_of v files (drop (i + 1) built) cs runs')) ce
    ∙ ap (λ (rs : List Run). old ++ (fork_listed v files b t.fork ∷ forks_of v files (drop (i + 1) built) (drop t.asks cuts) rs)) re
    ∙ ap (λ fs. old ++ fs) (sym (h.next (drop (i + 1) built)))
    ∙ ap (λ bs. old ++ forks_of v files bs cuts runs) (sym (from_place built i b low (sym is))) ∙ held

pub forks_done : (v : Volume) (files : List FileRec) (built : List BuiltDirectory) (i : ℕ) (old all : List DirectoryFork) (cuts : List ℕ) (runs : List Run) → length built ≤ i
    → old ++ forks_of v files (drop i built) cuts runs ≡ all → old ≡ all
unfolding forks_of
forks_done v files built i old all cuts runs end held = sym (append-nil old) ∙ ap (λ bs. old ++ forks_of v files bs cuts runs) (sym (drop_all i built end)) ∙ held

-- rows, of which one more was added
pub rows_more : {A B : Type 0} (of : B → List A) (xs : List B) (i : ℕ) (d : B) (old new all : List A) → i < length xs → new ≡ old ++ of (get_or xs i d) → old ++ flat_map of (drop i xs) ≡ all → new ++ flat_map of (drop (i + 1) xs) ≡ all
rows_more of xs i d old new all low added held =
    ap (λ ys. ys ++ flat_map of (drop (i + 1) xs)) added
    ∙ append_assoc old (of (get_or xs i d)) (flat_map of (drop (i + 1) xs))
    ∙ ap (λ ys. old ++ flat_map of ys) (sym (drop_more xs i d low)) ∙ held

-- the same for an item that is named
pub rows_item : {A B : Type 0} (of : B → List A) (xs : List B) (i : ℕ) (x : B) (old new all : List A) → i < length xs → x ≡ get_or xs i x → new ≡ old ++ of x
    → old ++ flat_map of (drop i xs) ≡ all → new ++ flat_map of (drop (i + 1) xs) ≡ all
rows_item of xs i x old new all low is added held = rows_more of xs i x old new all low (added ∙ ap (λ y. old ++ of y) is) held

-- no row is left
pub rows_end : {A B : Type 0} (of : B → List A) (xs : List B) (i : ℕ) (old all : List A) → length xs ≤ i → old ++ flat_map of (drop i xs) ≡ all → old ≡ all
rows_end of xs i old all end held = sym (append-nil old) ∙ ap (λ ys. old ++ flat_map of ys) (sym (drop_all i xs end)) ∙ held

-- items that give one each, of which one more was added, and where none is left
pub items_more : {A B : Type 0} (of : B → A) (xs : List B) (i : ℕ) (d : B) (old new all : List A) → i < length xs → new ≡ old ++ of (get_or xs i d) ∷ [] → old ++ map of (drop i xs) ≡ all → new ++ map of (drop (i + 1) xs) ≡ all
items_more of xs i d old new all low added held =
    ap (λ ys. ys ++ map of (drop (i + 1) xs)) added
    ∙ append_assoc old (of (get_or xs i d) ∷ []) (map of (drop (i + 1) xs))
    ∙ ap (λ ys. old ++ map of ys) (sym (drop_more xs i d low)) ∙ held

pub items_end : {A B : Type 0} (of : B → A) (xs : List B) (i : ℕ) (old all : List A) → length xs ≤ i → old ++ map of (drop i xs) ≡ all → old ≡ all
items_end of xs i old all end held = sym (append-nil old) ∙ ap (λ ys. old ++ map of ys) (sym (drop_all i xs end)) ∙ held
