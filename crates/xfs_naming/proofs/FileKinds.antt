-- What is asked of files by their numbers is found in the list of their kinds.
use Rattle.std.proofs.Common.{◌≡◌, ℕ, ◌+◌, ◌<◌, Bool, true, false, cond, ◌&&◌, ◌||◌, ◌==◌, List, [], ◌∷◌, length, map, filter, get_or, Option, Some, None, refl, sym, ap, ◌∙◌, subst, arith}
use Rattle.std.specs.List.{list_any, slice_get}
use Rattle.std.specs.Option.{option_map, is_some}
use Rattle.std.proofs.lemmas.Bool.{eqb-true}
use Rattle.std.proofs.lemmas.Option.{slice_get-map, slice_get-get_or, slice_get_within, get_or_from_slice_get}
use Rattle.xfs_volume.specs.declared.files.FileRec.{FileRec}
use Rattle.xfs_naming.specs.declared.kinds.FileKind.{FileKind}
use Rattle.xfs_naming.specs.Naming.{NumbersAscend, numbers_of, file_at, is_in_use}
use Rattle.xfs_naming.specs.Private.Kinds.{kind_of}
use Rattle.xfs_naming.proofs.Single.{none_lower, own_file}

-- the numbers of kinds are those of the files
pub kind_numbers : (files : List FileRec) → map (λ (k : FileKind). k.ino) (map kind_of files) ≡ numbers_of files
kind_numbers [] = refl
kind_numbers (f ∷ fs) = ap (λ (ns : List ℕ). f.ino ∷ ns) (kind_numbers fs)

-- the first kind of a run
pub first_kind : (files : List FileRec) (ino : ℕ) → slice_get (filter (λ (k : FileKind). k.ino == ino) (map kind_of files)) 0 ≡ option_map kind_of (file_at files ino)
first_kind [] ino = refl
first_kind (f ∷ fs) ino = either (f.ino == ino) (first_kind fs ino)
  where
    either : (t : Bool) → slice_get (filter (λ (k : FileKind). k.ino == ino) (map kind_of fs)) 0 ≡ option_map kind_of (file_at fs ino)
        → slice_get (cond t (kind_of f ∷ filter (λ (k : FileKind). k.ino == ino) (map kind_of fs)) (filter (λ (k : FileKind). k.ino == ino) (map kind_of fs))) 0 ≡ option_map kind_of (cond t (Some f) (file_at fs ino))
    either true rest = refl
    either false rest = rest

-- a kind that stands at a place is that of the file with its number
found_here : (files : List FileRec) → NumbersAscend 0 (numbers_of files) → (near : ℕ) (k : FileKind) → slice_get (map kind_of files) near ≡ Some k
    → Some k ≡ option_map kind_of (file_at files k.ino)
found_here files up near k is = on (slice_get files near) refl (sym (slice_get-map kind_of files near) ∙ is)
  where
    on : (o : Option FileRec) → slice_get files near ≡ o → option_map kind_of o ≡ Some k → Some k ≡ option_map kind_of (file_at files k.ino)
    on None at e = cc
    on (Some f) at e =
        let same : get_or files near f ≡ f = get_or_from_slice_get files near f f at in
        let own : file_at files f.ino ≡ Some f = subst (λ (g : FileRec). file_at files g.ino ≡ Some g) same (own_file 0 files up near f (slice_get_within files near f at)) in
        let kind : kind_of f ≡ k = held (kind_of f) k e in
        sym e ∙ ap (option_map kind_of) (sym own) ∙ ap (λ (n : ℕ). option_map kind_of (file_at files n)) (ap (λ (j : FileKind). j.ino) kind)
      where
        held : (a b : FileKind) → ◌≡◌ {A = Option FileKind} (Some a) (Some b) → a ≡ b
        held a b e = cc

pub kind_there : (files : List FileRec) → NumbersAscend 0 (numbers_of files) → (kinds : List FileKind) → kinds ≡ map kind_of files → (place ino : ℕ) (d : FileKind) → place < length kinds
    → (get_or kinds place d).ino ≡ ino → Some (get_or kinds place d) ≡ option_map kind_of (file_at files ino)
kind_there files up kinds is place ino d low same =
    subst (λ (n : ℕ). Some (get_or kinds place d) ≡ option_map kind_of (file_at files n)) same
    (found_here files up place (get_or kinds place d) (ap (λ (ks : List FileKind). slice_get ks place) (sym is) ∙ slice_get-get_or kinds place d low))

-- whether there is a file, and whether it passes a test
abbrev pub passes : (FileRec → Bool) → Option FileRec → Bool
passes q None = false
passes q (Some f) = q f

in_use_file : (files : List FileRec) (ino : ℕ) → is_in_use files ino ≡ is_some (file_at files ino)
in_use_file [] ino = refl
in_use_file (f ∷ fs) ino = either (f.ino == ino) (in_use_file fs ino)
  where
    either : (t : Bool) → is_in_use fs ino ≡ is_some (file_at fs ino) → (t || is_in_use fs ino) ≡ is_some (cond t (Some f) (file_at fs ino))
    either true rest = refl
    either false rest = rest

-- of files that ascend at most one has a number
by_file : (q : FileRec → Bool) (low : ℕ) (files : List FileRec) → NumbersAscend low (numbers_of files) → (ino : ℕ)
    → list_any (λ (f : FileRec). f.ino == ino && q f) files ≡ passes q (file_at files ino)
by_file q low [] up ino = refl
by_file q low (f ∷ fs) up ino = either (f.ino == ino) refl (by_file q (f.ino + 1) fs up.1 ino)
  where
    plain : (t : Bool) → (t || false) ≡ t
    plain true = refl
    plain false = refl

    either : (t : Bool) → f.ino == ino ≡ t → list_any (λ (g : FileRec). g.ino == ino && q g) fs ≡ passes q (file_at fs ino)
        → ((t && q f) || list_any (λ (g : FileRec). g.ino == ino && q g) fs) ≡ passes q (cond t (Some f) (file_at fs ino))
    either true same rest =
        let is : f.ino ≡ ino = eqb-true f.ino ino same in
        ap (λ (t : Bool). q f || t) (none_lower q (f.ino + 1) ino fs up.1 (omega arith)) ∙ plain (q f)
    either false other rest = rest

-- what the kind of a number says of the files
pub kind_says : (p : FileKind → Bool) (files : List FileRec) → NumbersAscend 0 (numbers_of files) → (ino : ℕ) (k : FileKind) → Some k ≡ option_map kind_of (file_at files ino)
    → p k ≡ list_any (λ (f : FileRec). f.ino == ino && p (kind_of f)) files
kind_says p files up ino k is = on (file_at files ino) is ∙ sym (by_file (λ (f : FileRec). p (kind_of f)) 0 files up ino)
  where
    on : (o : Option FileRec) → Some k ≡ option_map kind_of o → p k ≡ passes (λ (f : FileRec). p (kind_of f)) o
    on None e = cc
    on (Some f) e = ap p (held k (kind_of f) e)
      where
        held : (a b : FileKind) → ◌≡◌ {A = Option FileKind} (Some a) (Some b) → a ≡ b
        held a b e = cc

pub none_says : (p : FileKind → Bool) (files : List FileRec) → NumbersAscend 0 (numbers_of files) → (ino : ℕ) → ◌≡◌ {A = Option FileKind} None (option_map kind_of (file_at files ino))
    → false ≡ list_any (λ (f : FileRec). f.ino == ino && p (kind_of f)) files
none_says p files up ino is = on (file_at files ino) is ∙ sym (by_file (λ (f : FileRec). p (kind_of f)) 0 files up ino)
  where
    on : (o : Option FileRec) → ◌≡◌ {A = Option FileKind} None (option_map kind_of o) → false ≡ passes (λ (f : FileRec). p (kind_of f)) o
    on None e = refl
    on (Some f) e = cc

pub used_some : (files : List FileRec) (ino : ℕ) (k : FileKind) → Some k ≡ option_map kind_of (file_at files ino) → is_in_use files ino ≡ true
used_some files ino k is = in_use_file files ino ∙ on (file_at files ino) is
  where
    on : (o : Option FileRec) → Some k ≡ option_map kind_of o → is_some o ≡ true
    on None e = cc
    on (Some f) e = refl

pub used_none : (files : List FileRec) (ino : ℕ) → ◌≡◌ {A = Option FileKind} None (option_map kind_of (file_at files ino)) → is_in_use files ino ≡ false
used_none files ino is = in_use_file files ino ∙ on (file_at files ino) is
  where
    on : (o : Option FileRec) → ◌≡◌ {A = Option FileKind} None (option_map kind_of o) → is_some o ≡ false
    on None e = refl
    on (Some f) e = cc
