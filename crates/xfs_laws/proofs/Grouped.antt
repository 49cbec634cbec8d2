-- Entries that stand by directory: what comes first belongs to the first directory, all of it.
use Rattle.std.proofs.Common.{◌≡◌, ◌↔◌, ℕ, zero, suc, ◌+◌, ◌≤◌, ◌<◌, ◌==◌, Bool, true, false, cond, ◌&&◌, List, [], ◌∷◌, ◌++◌, length, get_or, take, drop, refl, sym, ap, subst, ◌∙◌, add-one, drop-cons, length-drop, map, filter, IsTrue, arith}
use Rattle.std.specs.List.{list_all, prefix_len}
use Rattle.std.proofs.lemmas.Bool.{and_from, eqb-true, eq-eqb}
use Rattle.std.proofs.lemmas.List.{drop_all, length-map, take-append-drop}
use Rattle.std.proofs.Math.Seq.{drop-drop}
use Rattle.xfs_dirdata.specs.declared.records.EntryRec.{EntryRec}
use Rattle.xfs_volume.specs.declared.directories.DirRec.{DirRec}
use Rattle.xfs_volume.specs.declared.files.FileRec.{FileRec}
use Rattle.xfs_volume.specs.Names.{is_directory}
use Rattle.xfs_naming.specs.Naming.{AreGrouped}

-- the first and the second of two tests that both pass
left : (a b : Bool) → (a && b) ≡ true → a ≡ true
left true b both = refl
left false b both = cc

right : (a b : Bool) → (a && b) ≡ true → b ≡ true
right true b both = both
right false b both = cc

rest_is : {A : Type 0} (x y : A) (xs ys : List A) → (x ∷ xs) ≡ (y ∷ ys) → xs ≡ ys
rest_is x y xs ys e = cc

-- less the first entry they are grouped still
grouped_tail : (ds : List DirRec) (e : EntryRec) (es : List EntryRec) → AreGrouped ds (e ∷ es) → AreGrouped ds es
grouped_tail [] e es grouped = cc
grouped_tail (d ∷ ds) e es ([], rest, is, own, grouped) =
    let P : List EntryRec → Type 0 = λ xs. AreGrouped ds xs in
    ([], es, refl, refl, grouped_tail ds e es (subst P (sym is) grouped))
grouped_tail (d ∷ ds) e es (x ∷ xs, rest, is, own, grouped) =
    (xs, rest, rest_is e x es (xs ++ rest) is, right (x.dir == d.ino) (list_all (λ (e : EntryRec). e.dir == d.ino) xs) own, grouped)

grouped_drop : (ds : List DirRec) (n : ℕ) (es : List EntryRec) → AreGrouped ds es → AreGrouped ds (drop n es)
grouped_drop ds zero es grouped = grouped
grouped_drop ds (suc n) [] grouped = grouped
grouped_drop ds (suc n) (e ∷ es) grouped = grouped_drop ds n es (grouped_tail ds e es grouped)

front_more : (passes : Bool) (n : ℕ) → passes ≡ true → cond passes (1 + n) 0 ≡ suc n
front_more true n is = omega arith
front_more false n is = cc

-- behind all that belongs to the first directory the others' entries follow
grouped_behind : (p : EntryRec → Bool) (ds : List DirRec) (own rest : List EntryRec) → list_all p own ≡ true → AreGrouped ds rest
    → AreGrouped ds (drop (prefix_len p (own ++ rest)) (own ++ rest))
grouped_behind p ds [] rest all grouped = grouped_drop ds (prefix_len p rest) rest grouped
grouped_behind p ds (x ∷ own) rest all grouped =
    let P : ℕ → Type 0 = λ n. AreGrouped ds (drop n (x ∷ (own ++ rest))) in
    subst P (sym (front_more (p x) (prefix_len p (own ++ rest)) (left (p x) (list_all p own) all)))
    (grouped_behind p ds own rest (right (p x) (list_all p own) all) grouped)

-- what is counted from the front passes
front_passes : (p : EntryRec → Bool) (es : List EntryRec) → list_all p (take (prefix_len p es) es) ≡ true
front_passes p [] = refl
front_passes p (e ∷ es) =
    let by_case : (passes : Bool) → p e ≡ passes → list_all p (take (cond passes (1 + prefix_len p es) 0) (e ∷ es)) ≡ true = λ passes is. front_step p e es passes is (front_passes p es) in
    by_case (p e) refl
  where
    front_step : (p : EntryRec → Bool) (e : EntryRec) (es : List EntryRec) (passes : Bool) → p e ≡ passes → list_all p (take (prefix_len p es) es) ≡ true
        → list_all p (take (cond passes (1 + prefix_len p es) 0) (e ∷ es)) ≡ true
    front_step p e es true is rest =
        let n = prefix_len p es in
        ap (λ (k : ℕ). list_all p (take k (e ∷ es))) (front_more true n refl) ∙ and_from (p e) (list_all p (take n es)) is rest
    front_step p e es false is rest = refl

-- entries are grouped exactly where those behind the first directory's own are
grouped_first : (d : DirRec) (ds : List DirRec) (es : List EntryRec) → let n = prefix_len (λ (e : EntryRec). e.dir == d.ino) es in
    AreGrouped ds (drop n es) ↔ AreGrouped (d ∷ ds) es
grouped_first d ds es =
    let p : EntryRec → Bool = λ e. e.dir == d.ino in
    let n = prefix_len p es in
    let P : List EntryRec → Type 0 = λ xs. AreGrouped ds (drop (prefix_len p xs) xs) in (
      λ grouped. (take n es, drop n es, sym (take-append-drop n es), front_passes p es, grouped),
      λ grouped. subst P (sym grouped.2) (grouped_behind p ds grouped.0 grouped.1 grouped.3 grouped.4),
    )

both : {A B C : Type 0} → (A ↔ B) → (B ↔ C) → (A ↔ C)
both ab bc = (λ a. bc.0 (ab.0 a), λ c. ab.1 (bc.1 c))

-- one directory more
pub one_more : (dirs : List DirRec) (entries : List EntryRec) (i at n : ℕ) (d : DirRec) (whole : Type 0) → i < length dirs
    → n ≡ prefix_len (λ (e : EntryRec). e.dir == (get_or dirs i d).ino) (drop at entries)
    → (AreGrouped (drop i dirs) (drop at entries) ↔ whole) → (AreGrouped (drop (i + 1) dirs) (drop (at + n) entries) ↔ whole)
one_more dirs entries i at n d whole inside own left =
    let Rest : List EntryRec = drop at entries in
    let Behind : List DirRec = drop (suc i) dirs in
    let count : ℕ = prefix_len (λ (e : EntryRec). e.dir == (get_or dirs i d).ino) Rest in
    let P : List DirRec → Type 0 = λ ds. AreGrouped ds Rest ↔ whole in
    let Q : ℕ → Type 0 = λ k. AreGrouped Behind (drop k Rest) ↔ whole in
    let R : List EntryRec → Type 0 = λ es. AreGrouped Behind es ↔ whole in
    let S : ℕ → Type 0 = λ j. AreGrouped (drop j dirs) (drop (at + n) entries) ↔ whole in
    let here : AreGrouped Behind (drop count Rest) ↔ whole =
    both (grouped_first (get_or dirs i d) Behind Rest) (subst P (drop-cons dirs i d inside) left) in
    subst S (sym (add-one i)) (subst R (drop-drop n at entries) (subst Q (sym own) here))

-- a part of a list that is empty is what lies past its end
none_behind : {A : Type 0} (xs : List A) (at : ℕ) → at ≤ length xs → length (drop at xs) ≡ 0 → at ≡ length xs
none_behind xs at within is = omega (arith, length-drop at xs)

at_end : (at n : ℕ) (whole : Type 0) → (at ≡ n → whole) → (whole → at ≡ n) → (IsTrue (at == n) ↔ whole)
at_end at n whole here there = (λ is. here (eqb-true at n is), λ is. eq-eqb at n (there is))

-- past the last directory no entry may be left
pub none_left : (dirs : List DirRec) (entries : List EntryRec) (i at : ℕ) (whole : Type 0) → length dirs ≤ i → at ≤ length entries
    → (AreGrouped (drop i dirs) (drop at entries) ↔ whole) → (IsTrue (at == length entries) ↔ whole)
none_left dirs entries i at whole end within left =
    let P : List DirRec → Type 0 = λ ds. AreGrouped ds (drop at entries) ↔ whole in
    let none : (drop at entries ≡ []) ↔ whole = subst P (drop_all i dirs end) left in
    at_end at (length entries) whole (λ is. none.0 (drop_all at entries (omega arith))) (λ w. none_behind entries at within (ap length (none.1 w)))

-- past the last file no directory may be left
pub none_more : (dirs : List DirRec) (files : List FileRec) (i at : ℕ) (whole : Type 0) → length files ≤ i → at ≤ length dirs
    → (map (λ (d : DirRec). d.ino) (drop at dirs) ≡ map (λ (f : FileRec). f.ino) (filter is_directory (drop i files)) ↔ whole)
    → (IsTrue (at == length dirs) ↔ whole)
none_more dirs files i at whole end within left =
    let P : List FileRec → Type 0 = λ fs. map (λ (d : DirRec). d.ino) (drop at dirs) ≡ map (λ (f : FileRec). f.ino) (filter is_directory fs) ↔ whole in
    let none : (map (λ (d : DirRec). d.ino) (drop at dirs) ≡ []) ↔ whole = subst P (drop_all i files end) left in
    at_end at (length dirs) whole (λ is. none.0 (ap (map (λ (d : DirRec). d.ino)) (drop_all at dirs (omega arith))))
    (λ w. none_behind dirs at within (sym (length-map (drop at dirs) (λ (d : DirRec). d.ino)) ∙ ap length (none.1 w)))
