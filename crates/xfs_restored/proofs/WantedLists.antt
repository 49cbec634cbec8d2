-- Files among others, by their numbers.
use Rattle.std.proofs.Common.{◌≡◌, ◌⊎◌, inl, inr, ℕ, Bool, true, false, cond, ◌==◌, nat_lt, if◌then◌else◌, List, [], ◌∷◌, map, filter, Some, None, slice_get, refl, sym, ap, ◌∙◌, subst}
use Rattle.std.proofs.lemmas.Bool.{eqb-true, ne_eqb, or_parts}
use Rattle.xfs_volume.specs.declared.files.FileRec.{FileRec}
use Rattle.xfs_naming.specs.Naming.{file_at, is_in_use}
use Rattle.xfs_naming.proofs.Chosen.{first_of_run}
use Rattle.xfs_views.proofs.Members.{Member, filter_member}
use Rattle.xfs_rename.specs.xfs_rebuild.Names.{with_made_file, with_made_files}

-- files that are made anew among others: each is one of these or of those, and each of both is there
made_either : (x f : FileRec) (files : List FileRec) → Member x (with_made_file f files) → (f ≡ x) ⊎ Member x files
made_either x f [] is = elim is [ inl same ↦ inl same | inr none ↦ absurd none ]
made_either x f (other ∷ files) is = by_case (nat_lt other.ino f.ino) is (made_either x f files)
  where
    by_case : (t : Bool) → Member x (if t then other ∷ with_made_file f files else f ∷ other ∷ files) → (Member x (with_made_file f files) → (f ≡ x) ⊎ Member x files)
        → (f ≡ x) ⊎ Member x (other ∷ files)
    by_case true is rest = elim is [
      | inl same ↦ inr (inl same)
      | inr there ↦ elim (rest there) [ inl new ↦ inl new | inr old ↦ inr (inr old) ]
    ]
    by_case false is rest = is

pub mades_either : (x : FileRec) (made files : List FileRec) → Member x (with_made_files made files) → Member x made ⊎ Member x files
mades_either x [] files is = inr is
mades_either x (f ∷ made) files is = elim (mades_either x made (with_made_file f files) is) [
  | inl there ↦ inl (inr there)
  | inr other ↦ elim (made_either x f files other) [ inl here ↦ inl (inl here) | inr old ↦ inr old ]
]

made_has : (f : FileRec) (files : List FileRec) → Member f (with_made_file f files)
made_has f [] = inl refl
made_has f (other ∷ files) = by_case (nat_lt other.ino f.ino) (made_has f files)
  where
    by_case : (t : Bool) → Member f (with_made_file f files) → Member f (if t then other ∷ with_made_file f files else f ∷ other ∷ files)
    by_case true rest = inr rest
    by_case false rest = inl refl

made_keeps : (x f : FileRec) (files : List FileRec) → Member x files → Member x (with_made_file f files)
made_keeps x f [] is = absurd is
made_keeps x f (other ∷ files) is = by_case (nat_lt other.ino f.ino) (made_keeps x f files)
  where
    by_case : (t : Bool) → (Member x files → Member x (with_made_file f files)) → Member x (if t then other ∷ with_made_file f files else f ∷ other ∷ files)
    by_case true rest = elim is [ inl same ↦ inl same | inr there ↦ inr (rest there) ]
    by_case false rest = inr is

pub mades_keep : (x : FileRec) (made files : List FileRec) → Member x files → Member x (with_made_files made files)
mades_keep x [] files is = is
mades_keep x (f ∷ made) files is = mades_keep x made (with_made_file f files) (made_keeps x f files is)

pub mades_have : (x : FileRec) (made files : List FileRec) → Member x made → Member x (with_made_files made files)
mades_have x [] files is = absurd is
mades_have x (f ∷ made) files is = elim is [
  | inl same ↦ mades_keep x made (with_made_file f files) (subst (λ (y : FileRec). Member y (with_made_file f files)) same (made_has f files))
  | inr there ↦ mades_have x made (with_made_file f files) there
]

-- what fails a test leaves what passes it as it was
module _ (test : FileRec → Bool) where
  made_gone : (f : FileRec) (files : List FileRec) → test f ≡ false → filter test (with_made_file f files) ≡ filter test files
  made_gone f [] off = ap (λ (t : Bool). cond t (f ∷ []) []) off
  made_gone f (other ∷ files) off = by_case (nat_lt other.ino f.ino) (made_gone f files off)
    where
      by_case : (t : Bool) → filter test (with_made_file f files) ≡ filter test files
          → filter test (if t then other ∷ with_made_file f files else f ∷ other ∷ files) ≡ filter test (other ∷ files)
      by_case true rest = ap (λ (xs : List FileRec). cond (test other) (other ∷ xs) xs) rest
      by_case false rest = ap (λ (t : Bool). cond t (f ∷ filter test (other ∷ files)) (filter test (other ∷ files))) off

  pub mades_gone : (made files : List FileRec) → ((f : FileRec) → Member f made → test f ≡ false) → filter test (with_made_files made files) ≡ filter test files
  mades_gone [] files all = refl
  mades_gone (f ∷ made) files all = mades_gone made (with_made_file f files) (λ x is. all x (inr is)) ∙ made_gone f files (all f (inl refl))

  pub all_stay : (files : List FileRec) → ((f : FileRec) → Member f files → test f ≡ true) → filter test files ≡ files
  all_stay [] all = refl
  all_stay (f ∷ files) all =
      ap (λ (t : Bool). cond t (f ∷ filter test files) (filter test files)) (all f (inl refl))
      ∙ ap (λ (xs : List FileRec). f ∷ xs) (all_stay files (λ x is. all x (inr is)))

-- files with a number, where each is changed but for its number
module _ (change : FileRec → FileRec) (same : (f : FileRec) → (change f).ino ≡ f.ino) (n : ℕ) where
  abbrev at : List FileRec → List FileRec
  at files = filter (λ (f : FileRec). f.ino == n) files

  pub filter_map : (files : List FileRec) → at (map change files) ≡ map change (at files)
  filter_map [] = refl
  filter_map (f ∷ files) =
      ap (λ (m : ℕ). cond (m == n) (change f ∷ at (map change files)) (at (map change files))) (same f) ∙ by_case (f.ino == n) (filter_map files)
    where
      by_case : (t : Bool) → at (map change files) ≡ map change (at files) → cond t (change f ∷ at (map change files)) (at (map change files)) ≡ map change (cond t (f ∷ at files) (at files))
      by_case true rest = ap (λ (xs : List FileRec). change f ∷ xs) rest
      by_case false rest = rest

-- the file at a number is the first of those that have it: one of the files
pub at_first : (files : List FileRec) (ino : ℕ) (xs : List FileRec) → filter (λ (f : FileRec). f.ino == ino) files ≡ xs → file_at files ino ≡ slice_get xs 0
at_first files ino xs is = sym (first_of_run files ino) ∙ ap (λ (ys : List FileRec). slice_get ys 0) is

first_member : (xs : List FileRec) (f : FileRec) → slice_get xs 0 ≡ Some f → Member f xs
first_member [] f is = absurd cc
first_member (x ∷ xs) f is = let same : x ≡ f = cc in inl same

pub at_has : (files : List FileRec) (ino : ℕ) (f : FileRec) → file_at files ino ≡ Some f → (Member f files) × (f.ino ≡ ino)
at_has files ino f is =
    let found = filter_member (λ (x : FileRec). x.ino == ino) f files (first_member (filter (λ (x : FileRec). x.ino == ino) files) f (first_of_run files ino ∙ is)) in
    (found.0, eqb-true f.ino ino found.1)

none_first : (xs : List FileRec) → slice_get xs 0 ≡ None → xs ≡ []
none_first [] is = refl
none_first (x ∷ xs) is = absurd cc

pub at_none : (files : List FileRec) (ino : ℕ) → file_at files ino ≡ None → filter (λ (f : FileRec). f.ino == ino) files ≡ []
at_none files ino is = none_first (filter (λ (f : FileRec). f.ino == ino) files) (first_of_run files ino ∙ is)

-- no file has a number that is not in use
pub none_used : (files : List FileRec) (n : ℕ) → is_in_use files n ≡ false → filter (λ (f : FileRec). f.ino == n) files ≡ []
none_used [] n off = refl
none_used (f ∷ fs) n off =
    let parts = or_parts (f.ino == n) (is_in_use fs n) off in
    ap (λ (t : Bool). cond t (f ∷ filter (λ (x : FileRec). x.ino == n) fs) (filter (λ (x : FileRec). x.ino == n) fs)) parts.0 ∙ none_used fs n parts.1

pub none_other : (files : List FileRec) (n : ℕ) → ((f : FileRec) → Member f files → f.ino ≡ n → ⊥) → filter (λ (f : FileRec). f.ino == n) files ≡ []
none_other [] n other = refl
none_other (f ∷ fs) n other =
    ap (λ (t : Bool). cond t (f ∷ filter (λ (x : FileRec). x.ino == n) fs) (filter (λ (x : FileRec). x.ino == n) fs)) (ne_eqb f.ino n (other f (inl refl)))
    ∙ none_other fs n (λ x is. other x (inr is))
