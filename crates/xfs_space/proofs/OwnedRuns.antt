-- Owned runs, one step after the other.
use Rattle.std.proofs.Common.{◌≡◌, ℕ, Bool, true, false, ◌+◌, ◌-◌, ◌*◌, ◌<◌, ◌≤◌, ◌^◌, ◌==◌, if◌then◌else◌, List, [], ◌∷◌, ◌++◌, length, map, take, drop, get_or, refl, sym, ◌∙◌, ap, ap₂, arith, add-one, drop-cons, append_assoc}
use Rattle.std.specs.List.{flat_map, list_any}
use Rattle.std.proofs.lemmas.List.{append-nil, drop_all, drop_more, take_all, length-drop, map-append}
use Rattle.xfs_geom.specs.Volumes.{Volume}
use Rattle.xfs_geom.specs.declared.records.Run.{Run}
use Rattle.xfs_volume.specs.declared.groups.GroupRec.{GroupRec}
use Rattle.xfs_space.specs.Owners.{different, group_runs, groups_runs, listed_run, tree_runs}
use Rattle.xfs_space.specs.Parts.{AreGroups, IsLawfulGroup}

-- no trees have no blocks
pub no_trees : (owners : List ℕ) → tree_runs owners [] ≡ []
no_trees [] = refl
no_trees (owner ∷ owners) = refl

-- a list from one on
pub from_head : {A : Type 0} (xs : List A) (i : ℕ) (x : A) → i < length xs → x ≡ get_or xs i x → drop i xs ≡ x ∷ drop (i + 1) xs
from_head {A = A} xs i x h is = drop-cons xs i x h ∙ ap₂ (λ (y : A) (ys : List A). y ∷ ys) (sym is) (ap (λ (k : ℕ). drop k xs) (sym (add-one i)))

-- what is put is all, where nothing is left
pub filled : {A B : Type 0} (f : A → B) (items : List B) (xs : List A) (i : ℕ) → items ++ map f (drop i xs) ≡ map f xs → length xs ≤ i → items ≡ map f xs
filled {A = A} f items xs i left end = sym (append-nil items) ∙ ap (λ (ys : List A). items ++ map f ys) (sym (drop_all i xs end)) ∙ left

-- an entry of a free list is put with the others where it does not come again
pub listed_next : (base : ℕ) (xs : List ℕ) (i : ℕ) (t : Bool) (runs new whole : List Run) → i < length xs
    → t ≡ list_any (λ y. y == get_or xs i 0) (take (length xs - (i + 1)) (drop (i + 1) xs))
    → runs ++ map (listed_run base) (different (drop i xs)) ≡ whole → new ≡ (if t then runs else (runs ++ listed_run base (get_or xs i 0) ∷ []))
    → new ++ map (listed_run base) (different (drop (i + 1) xs)) ≡ whole
listed_next base xs i t runs new whole h any left put =
    let size : length (drop (i + 1) xs) ≡ length xs - (i + 1) = length-drop (i + 1) xs in
    let rest : take (length xs - (i + 1)) (drop (i + 1) xs) ≡ drop (i + 1) xs = take_all (length xs - (i + 1)) (drop (i + 1) xs) (omega (arith, size)) in
    by_case t (any ∙ ap (list_any (λ y. y == get_or xs i 0)) rest) put
  where
    from : different (drop i xs) ≡ (if list_any (λ y. y == get_or xs i 0) (drop (i + 1) xs) then different (drop (i + 1) xs) else (get_or xs i 0 ∷ different (drop (i + 1) xs)))
    from = rw (drop-cons xs i 0 h, add-one i) refl

    by_case : (t : Bool) → t ≡ list_any (λ y. y == get_or xs i 0) (drop (i + 1) xs) → new ≡ (if t then runs else (runs ++ listed_run base (get_or xs i 0) ∷ []))
        → new ++ map (listed_run base) (different (drop (i + 1) xs)) ≡ whole
    by_case true again same =
        let e : different (drop i xs) ≡ different (drop (i + 1) xs) = from ∙ rw (sym again) refl in
        ap (λ (rs : List Run). rs ++ map (listed_run base) (different (drop (i + 1) xs))) same
        ∙ ap (λ (ys : List ℕ). runs ++ map (listed_run base) ys) (sym e) ∙ left
    by_case false again more =
        let e : different (drop i xs) ≡ get_or xs i 0 ∷ different (drop (i + 1) xs) = from ∙ rw (sym again) refl in
        ap (λ (rs : List Run). rs ++ map (listed_run base) (different (drop (i + 1) xs))) more
        ∙ append_assoc runs (listed_run base (get_or xs i 0) ∷ []) (map (listed_run base) (different (drop (i + 1) xs)))
        ∙ ap (λ (ys : List ℕ). runs ++ map (listed_run base) ys) (sym e) ∙ left

pub listed_end : (base : ℕ) (xs : List ℕ) (i : ℕ) (runs whole : List Run) → length xs ≤ i → runs ++ map (listed_run base) (different (drop i xs)) ≡ whole → runs ≡ whole
listed_end base xs i runs whole end left = sym (append-nil runs) ∙ ap (λ ys. runs ++ map (listed_run base) (different ys)) (sym (drop_all i xs end)) ∙ left

-- the runs of a group are put with the others
pub group_next : (n i : ℕ) (gs : List GroupRec) (g : GroupRec) (base : ℕ) (runs new whole : List Run) → i < length gs → g ≡ get_or gs i g → base ≡ i * n
    → runs ++ groups_runs n (i * n) (drop i gs) ≡ whole → new ≡ runs ++ group_runs base g → new ++ groups_runs n ((i + 1) * n) (drop (i + 1) gs) ≡ whole
group_next n i gs g base runs new whole h is from left put =
    let e : i * n + n ≡ (i + 1) * n = omega arith in
    let step : groups_runs n (i * n) (drop i gs) ≡ group_runs base g ++ groups_runs n ((i + 1) * n) (drop (i + 1) gs) =
    ap (groups_runs n (i * n)) (from_head gs i g h is) ∙ ap₂ (λ (b k : ℕ). group_runs b g ++ groups_runs n k (drop (i + 1) gs)) (sym from) e in
    ap (λ (rs : List Run). rs ++ groups_runs n ((i + 1) * n) (drop (i + 1) gs)) put
    ∙ append_assoc runs (group_runs base g) (groups_runs n ((i + 1) * n) (drop (i + 1) gs))
    ∙ ap (λ (rs : List Run). runs ++ rs) (sym step) ∙ left

-- a group and those behind it
pub groups_next : (v : Volume) (ag : ℕ) (gs : List GroupRec) (i : ℕ) (g : GroupRec) → i < length gs → g ≡ get_or gs i g → AreGroups v ag (drop i gs)
    → IsLawfulGroup v ag g × AreGroups v (ag + 1) (drop (i + 1) gs)
groups_next v ag gs i g h is all = rw (from_head gs i g h is) at all

-- the runs of a file are put with the others
pub file_next : {A : Type 0} (f : A → List Run) (xs : List A) (i : ℕ) (x : A) (runs new whole : List Run) → i < length xs → x ≡ get_or xs i x → runs ++ flat_map f (drop i xs) ≡ whole → new ≡ runs ++ f x
    → new ++ flat_map f (drop (i + 1) xs) ≡ whole
file_next f xs i x runs new whole h is left put =
    ap (λ (rs : List Run). rs ++ flat_map f (drop (i + 1) xs)) put
    ∙ append_assoc runs (f x) (flat_map f (drop (i + 1) xs))
    ∙ ap (λ (rs : List Run). runs ++ rs) (sym (ap (flat_map f) (from_head xs i x h is)))
    ∙ left

-- what groups own, the log and what files own
pub joined : (empty a b c groups files : List Run) (log : Run) → empty ≡ [] → a ≡ empty ++ groups → b ≡ a ++ log ∷ [] → c ≡ b ++ files → c ≡ groups ++ log ∷ files
joined empty a b c groups files log none put_groups put_log put_files =
    put_files
    ∙ ap (λ (rs : List Run). rs ++ files) (put_log ∙ ap (λ (rs : List Run). rs ++ log ∷ []) (put_groups ∙ ap (λ (rs : List Run). rs ++ groups) none))
    ∙ append_assoc groups (log ∷ []) files

-- one more is put with the others, and the last
pub run_next : {A B : Type 0} (f : A → B) (xs : List A) (i : ℕ) (d : A) (r : B) (runs new whole : List B) → i < length xs → r ≡ f (get_or xs i d) → new ≡ runs ++ r ∷ []
    → runs ++ map f (drop i xs) ≡ whole → new ++ map f (drop (i + 1) xs) ≡ whole
run_next {B = B} f xs i d r runs new whole h made put left =
    ap (λ (rs : List B). rs ++ map f (drop (i + 1) xs)) put
    ∙ append_assoc runs (r ∷ []) (map f (drop (i + 1) xs))
    ∙ ap (λ (x : B). runs ++ x ∷ map f (drop (i + 1) xs)) made
    ∙ ap (λ ys. runs ++ map f ys) (sym (drop_more xs i d h))
    ∙ left

pub runs_end : {A B : Type 0} (f : A → B) (xs : List A) (i : ℕ) (runs whole : List B) → length xs ≤ i → runs ++ map f (drop i xs) ≡ whole → runs ≡ whole
runs_end f xs i runs whole end left = sym (append-nil runs) ∙ ap (λ ys. runs ++ map f ys) (sym (drop_all i xs end)) ∙ left

pub files_end : {A : Type 0} (f : A → List Run) (xs : List A) (i : ℕ) (runs whole : List Run) → length xs ≤ i → runs ++ flat_map f (drop i xs) ≡ whole → runs ≡ whole
files_end f xs i runs whole end left = sym (append-nil runs) ∙ ap (λ ys. runs ++ flat_map f ys) (sym (drop_all i xs end)) ∙ left

pub groups_end : (n base i : ℕ) (gs : List GroupRec) (runs whole : List Run) → length gs ≤ i → runs ++ groups_runs n base (drop i gs) ≡ whole → runs ≡ whole
groups_end n base i gs runs whole end left = sym (append-nil runs) ∙ ap (λ ys. runs ++ groups_runs n base ys) (sym (drop_all i gs end)) ∙ left

-- the runs at the numbers of one more are put with the others, and the last
pub chunk_next : {A : Type 0} (m : ℕ → Run) (f : A → List ℕ) (xs : List A) (i : ℕ) (d : A) (runs new whole : List Run) → i < length xs → new ≡ runs ++ map m (f (get_or xs i d))
    → runs ++ map m (flat_map f (drop i xs)) ≡ whole → new ++ map m (flat_map f (drop (i + 1) xs)) ≡ whole
chunk_next m f xs i d runs new whole h put left =
    let rest = flat_map f (drop (i + 1) xs) in
    ap (λ (rs : List Run). rs ++ map m rest) put
    ∙ append_assoc runs (map m (f (get_or xs i d))) (map m rest)
    ∙ ap (λ (rs : List Run). runs ++ rs) (sym (map-append m (f (get_or xs i d)) rest) ∙ ap (λ ys. map m (flat_map f ys)) (sym (drop_more xs i d h)))
    ∙ left

pub chunks_end : {A : Type 0} (m : ℕ → Run) (f : A → List ℕ) (xs : List A) (i : ℕ) (runs whole : List Run) → length xs ≤ i → runs ++ map m (flat_map f (drop i xs)) ≡ whole → runs ≡ whole
chunks_end m f xs i runs whole end left = sym (append-nil runs) ∙ ap (λ ys. runs ++ map m (flat_map f ys)) (sym (drop_all i xs end)) ∙ left

-- three lists are put one behind the other
pub three_put : (old one two three a b c : List Run) → one ≡ old ++ a → two ≡ one ++ b → three ≡ two ++ c → three ≡ old ++ (a ++ b ++ c)
three_put old one two three a b c put_a put_b put_c =
    put_c
    ∙ ap (λ (rs : List Run). rs ++ c) (put_b ∙ ap (λ (rs : List Run). rs ++ b) put_a ∙ append_assoc old a b)
    ∙ append_assoc old (a ++ b) c

-- the runs of the first group begin at block 0
pub groups_start : (n : ℕ) (gs : List GroupRec) (runs : List Run) → runs ++ groups_runs n (0 * n) gs ≡ runs ++ groups_runs n 0 gs
groups_start n gs runs = let none : 0 * n ≡ 0 = omega arith in ap (λ (base : ℕ). runs ++ groups_runs n base gs) none

-- numbers of blocks and of groups are small
pub small_start : (start dblocks : ℕ) → start < dblocks → dblocks ≤ 2 ^ 26 → start < 2 ^ 26
small_start start dblocks inside small = omega (arith, inside, small)

pub of_volume : (i n count : ℕ) → i < n → n ≡ count → i < count
of_volume i n count h is = omega (arith, h, is)

pub low_offset : (offset count : ℕ) → offset + count < 2 ^ 54 → offset < 2 ^ 54
low_offset offset count h = omega (arith, h)
