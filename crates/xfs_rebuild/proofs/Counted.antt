-- A record at its place among records that stand by number.
use Rattle.std.proofs.Common.{◌≡◌, ℕ, suc, Bool, true, false, cond, ◌+◌, ◌<◌, ◌≤◌, nat_lt, List, [], ◌∷◌, ◌++◌, drop, get_or, length, refl, sym, subst, ap, ◌∙◌, arith}
use Rattle.std.specs.List.{flat_map, insert, prefix_len}
use Rattle.std.proofs.lemmas.List.{drop_all, drop_more}
use Rattle.xfs_volume.specs.declared.directories.DirRec.{DirRec}
use Rattle.xfs_volume.specs.declared.files.FileRec.{FileRec}
use Rattle.xfs_rebuild.specs.Names.{with_dir, with_made_file, with_made_files}

-- behind the first
behind_first : {X : Type 0} (x y : X) (xs ys : List X) (n : ℕ) → insert xs n y ≡ ys → insert (x ∷ xs) (1 + n) y ≡ x ∷ ys
behind_first {X = X} x y xs ys n rest =
    let next : 1 + n ≡ suc n = omega arith in
    ap (λ (k : ℕ). insert (x ∷ xs) k y) next ∙ ap (λ (zs : List X). x ∷ zs) rest

pub file_placed : (f : FileRec) (files : List FileRec) → insert files (prefix_len (λ (x : FileRec). nat_lt x.ino f.ino) files) f ≡ with_made_file f files
file_placed f [] = refl
file_placed f (x ∷ files) = by_case (nat_lt x.ino f.ino) (file_placed f files)
  where
    by_case : (t : Bool) → insert files (prefix_len (λ (x : FileRec). nat_lt x.ino f.ino) files) f ≡ with_made_file f files
        → insert (x ∷ files) (cond t (1 + prefix_len (λ (x : FileRec). nat_lt x.ino f.ino) files) 0) f ≡ cond t (x ∷ with_made_file f files) (f ∷ x ∷ files)
    by_case true rest = behind_first x f files (with_made_file f files) (prefix_len (λ (y : FileRec). nat_lt y.ino f.ino) files) rest
    by_case false rest = refl

pub dir_placed : (d : DirRec) (dirs : List DirRec) → insert dirs (prefix_len (λ (x : DirRec). nat_lt x.ino d.ino) dirs) d ≡ with_dir d dirs
dir_placed d [] = refl
dir_placed d (x ∷ dirs) = by_case (nat_lt x.ino d.ino) (dir_placed d dirs)
  where
    by_case : (t : Bool) → insert dirs (prefix_len (λ (x : DirRec). nat_lt x.ino d.ino) dirs) d ≡ with_dir d dirs
        → insert (x ∷ dirs) (cond t (1 + prefix_len (λ (x : DirRec). nat_lt x.ino d.ino) dirs) 0) d ≡ cond t (x ∷ with_dir d dirs) (d ∷ x ∷ dirs)
    by_case true rest = behind_first x d dirs (with_dir d dirs) (prefix_len (λ (y : DirRec). nat_lt y.ino d.ino) dirs) rest
    by_case false rest = refl

-- several, one part after the other
pub files_in_parts : (first rest files : List FileRec) → with_made_files (first ++ rest) files ≡ with_made_files rest (with_made_files first files)
files_in_parts [] rest files = refl
files_in_parts (f ∷ first) rest files = files_in_parts first rest (with_made_file f files)

-- the files of one item more
pub made_next : {A : Type 0} (of : A → List FileRec) (xs : List A) (i : ℕ) (x : A) (old new all : List FileRec) → i < length xs → x ≡ get_or xs i x → new ≡ with_made_files (of x) old
    → with_made_files (flat_map of (drop i xs)) old ≡ all → with_made_files (flat_map of (drop (i + 1) xs)) new ≡ all
made_next {A = A} of xs i x old new all inside is put held =
    ap (with_made_files (flat_map of (drop (i + 1) xs))) put
    ∙ sym (files_in_parts (of x) (flat_map of (drop (i + 1) xs)) old)
    ∙ subst (λ (ys : List A). with_made_files (flat_map of ys) old ≡ all) (drop_more xs i x inside ∙ ap (λ (y : A). y ∷ drop (i + 1) xs) (sym is)) held

-- past the last there are no more
pub made_end : {A : Type 0} (of : A → List FileRec) (xs : List A) (i : ℕ) (files all : List FileRec) → length xs ≤ i → with_made_files (flat_map of (drop i xs)) files ≡ all → files ≡ all
made_end {A = A} of xs i files all past held = subst (λ (ys : List A). with_made_files (flat_map of ys) files ≡ all) (drop_all i xs past) held
