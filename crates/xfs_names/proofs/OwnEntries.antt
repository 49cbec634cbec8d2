-- Directories that are built one after the other, each of its own entries.
use Rattle.std.proofs.Common.{◌≡◌, ℕ, ◌+◌, ◌<◌, ◌≤◌, ◌==◌, ◌||◌, ◌^◌, not, Bool, true, false, cond, List, [], ◌∷◌, ◌++◌, length, map, drop, suc, refl, sym, ap, ◌∙◌, arith, subst, Option, None, Some, unwrap_or, if◌then◌else◌, slice_index_or}
use Rattle.std.specs.List.{All, filter, list_any, slice_get}
use Rattle.std.proofs.lemmas.Bool.Decides.{nat_tests}
use Rattle.std.proofs.lemmas.List.{drop_more}
use Rattle.std.proofs.lemmas.List.Elements.{All-head, All-tail}
use Rattle.xfs_dirdata.specs.declared.records.EntryRec.{EntryRec}
use Rattle.xfs_dirindex.specs.Data.{is_dots, have_no_dots}
use Rattle.xfs_naming.specs.Naming.{entries_in}
use Rattle.xfs_dirbuild.specs.declared.image.DirImage.{DirImage}
use Rattle.xfs_dirbuild.specs.Forms.{form_of}
use Rattle.xfs_names.specs.declared.building.BuiltDirectory.{BuiltDirectory}
use Rattle.xfs_names.specs.declared.building.ForkRoom.{ForkRoom}
use Rattle.xfs_names.specs.Pairs.{parent_among, parent_or_itself}
use Rattle.xfs_names.specs.Built.{fork_room, IsImageIn}

-- the entries of one directory
pub own_no_dots : (es : List EntryRec) (d : ℕ) → have_no_dots es ≡ true → have_no_dots (entries_in es d) ≡ true
own_no_dots [] d h = refl
own_no_dots (e ∷ es) d h = either (e.dir == d) (own_no_dots es d (later (is_dots e) (list_any is_dots es) h))
  where
    first : (p q : Bool) → not (p || q) ≡ true → (r : Bool) → not r ≡ true → not (p || r) ≡ true
    first p q h r k = grind (arith, nat_tests)

    later : (p q : Bool) → not (p || q) ≡ true → not q ≡ true
    later p q h = grind (arith, nat_tests)

    either : (t : Bool) → not (list_any is_dots (entries_in es d)) ≡ true → not (list_any is_dots (cond t (e ∷ entries_in es d) (entries_in es d))) ≡ true
    either true r = first (is_dots e) (list_any is_dots es) h (list_any is_dots (entries_in es d)) r
    either false r = r

pub own_few : (es : List EntryRec) (d : ℕ) → length (entries_in es d) ≤ length es
own_few [] d = omega arith
own_few (e ∷ es) d = either (e.dir == d) (own_few es d)
  where
    either : (t : Bool) → length (entries_in es d) ≤ length es → length (cond t (e ∷ entries_in es d) (entries_in es d)) ≤ suc (length es)
    either true r = omega (arith, r)
    either false r = omega (arith, r)

-- a parent that is told
pub low_parent : (ps : List (ℕ × ℕ)) (d : ℕ) → All (λ (p : ℕ × ℕ). p.1 < 2 ^ 32) ps → d < 2 ^ 32 → parent_or_itself ps d < 2 ^ 32
low_parent [] d h l = l
low_parent (p ∷ ps) d h l = either (p.0 == d) (low_parent ps d (All-tail (λ (p : ℕ × ℕ). p.1 < 2 ^ 32) p ps h) l)
  where
    either : (t : Bool) → unwrap_or (parent_among ps d) d < 2 ^ 32 → unwrap_or (if t then Some p.1 else parent_among ps d) d < 2 ^ 32
    either true r = All-head (λ (p : ℕ × ℕ). p.1 < 2 ^ 32) p ps h
    either false r = r

-- the room of a fork, by what is found of it
abbrev pub room_told : Option ForkRoom → ℕ
room_told None = 336
room_told (Some r) = r.bytes

pub first_room : (rooms : List ForkRoom) (d : ℕ) → room_told (slice_get (filter (λ (r : ForkRoom). r.ino == d) rooms) 0) ≡ fork_room rooms d
first_room [] d = refl
first_room (r ∷ rs) d = either (r.ino == d) (first_room rs d)
  where
    either : (t : Bool) → room_told (slice_get (filter (λ (r : ForkRoom). r.ino == d) rs) 0) ≡ fork_room rs d
        → room_told (slice_get (cond t (r ∷ filter (λ (r : ForkRoom). r.ino == d) rs) (filter (λ (r : ForkRoom). r.ino == d) rs)) 0) ≡ (if t then r.bytes else fork_room rs d)
    either true rest = refl
    either false rest = rest

-- the numbers of those that are built
pub number_next : (bs : List BuiltDirectory) (b : BuiltDirectory) (ns : List ℕ) (k : ℕ) → k < length ns → b.ino ≡ slice_index_or ns k 0 → map (λ (b : BuiltDirectory). b.ino) bs ++ drop k ns ≡ ns
    → map (λ (b : BuiltDirectory). b.ino) (bs ++ b ∷ []) ++ drop (k + 1) ns ≡ ns
number_next bs b ns k l e h = moved bs ∙ ap (λ n. map (λ (b : BuiltDirectory). b.ino) bs ++ n ∷ drop (k + 1) ns) e ∙ ap (λ xs. map (λ (b : BuiltDirectory). b.ino) bs ++ xs) (sym (drop_more ns k 0 l)) ∙ h
  where
    moved : (bs : List BuiltDirectory) → map (λ (b : BuiltDirectory). b.ino) (bs ++ b ∷ []) ++ drop (k + 1) ns ≡ map (λ (b : BuiltDirectory). b.ino) bs ++ b.ino ∷ drop (k + 1) ns
    moved [] = refl
    moved (x ∷ xs) = ap (λ ys. x.ino ∷ ys) (moved xs)

-- the image of equal entries
pub image_same : (es fs : List EntryRec) (p q r s d : ℕ) (image : DirImage) → es ≡ fs → p ≡ q → r ≡ s → IsImageIn (form_of es r) es d p image → IsImageIn (form_of fs s) fs d q image
image_same es fs p q r s d image a b c h =
    subst (λ x. IsImageIn (form_of fs x) fs d q image) c (subst (λ x. IsImageIn (form_of fs r) fs d x image) b (subst (λ xs. IsImageIn (form_of xs r) xs d p image) a h))
