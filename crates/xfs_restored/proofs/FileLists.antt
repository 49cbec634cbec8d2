-- The files that read are the due ones, where each inode reads as the due file of its pair, or as free where it has none.
use Rattle.std.proofs.Common.{◌≡◌, inl, inr, ℕ, Bool, true, false, ◌+◌, ◌*◌, ◌≤◌, ◌==◌, if◌then◌else◌, List, [], ◌∷◌, length, map, Ok, refl, sym, ap, ◌∙◌, subst, arith}
use Rattle.std.proofs.lemmas.Bool.{cases_eq}
use Rattle.xfs_disk.specs.Blocks.{Image}
use Rattle.xfs_geom.specs.Volumes.{Volume}
use Rattle.xfs_image.specs.Files.{files_at, with_file_read}
use Rattle.xfs_image.specs.Slots.{reads_as}
use Rattle.xfs_inode.specs.declared.files.FileRead.{FileRead}
use Rattle.xfs_inode.specs.declared.files.FileRead.TheVariants as Reads
use Rattle.xfs_naming.specs.Naming.{NumbersAscend}
use Rattle.xfs_volume.specs.declared.files.FileRec.{FileRec}
use Rattle.xfs_views.proofs.Members.{Member}
use Rattle.xfs_restored.proofs.DueList.{number_least}
use Rattle.xfs_rename.specs.xfs_changes.declared.lost_found.Lost.{Lost}
use Rattle.xfs_restored.specs.Changes.{LinksAscend, inodes_taken}

-- pairs ascend by number
abbrev pub PairsRise : ℕ → List (ℕ × ℕ) → Type 0
PairsRise low [] = Unit {0}
PairsRise low (p ∷ ps) = (low ≤ p.0) × PairsRise (p.0 + 1) ps

pair_least : (low : ℕ) (p : ℕ × ℕ) (ps : List (ℕ × ℕ)) → PairsRise low ps → Member p ps → low ≤ p.0
pair_least low p [] up is = absurd is
pair_least low p (q ∷ ps) up is =
    let first = up.0 in
    elim is [
      | inl same ↦ subst (λ (x : ℕ × ℕ). low ≤ x.0) same first
      | inr there ↦ let rest = pair_least (q.0 + 1) p ps up.1 there in omega (arith, first, rest)
    ]

module _ (v : Volume) (image : Image) (due : ℕ × ℕ → FileRec) where
  abbrev HasNone : List (ℕ × ℕ) → ℕ → Type 0
  HasNone ps ino = (p : ℕ × ℕ) → Member p ps → p.0 ≡ ino → ⊥

  free_step : (ino : ℕ) (inos : List ℕ) (files : List FileRec) → reads_as v image ino ≡ Reads.Free → files_at v image inos ≡ Ok files → files_at v image (ino ∷ inos) ≡ Ok files
  free_step ino inos files free rest = ap (with_file_read ino (reads_as v image ino)) rest ∙ ap (λ (r : FileRead). with_file_read ino r (Ok files)) free

  file_step : (ino : ℕ) (inos : List ℕ) (f : FileRec) (files : List FileRec) → reads_as v image ino ≡ Reads.File f → files_at v image inos ≡ Ok files → files_at v image (ino ∷ inos) ≡ Ok (f ∷ files)
  file_step ino inos f files reads rest = ap (with_file_read ino (reads_as v image ino)) rest ∙ ap (λ (r : FileRead). with_file_read ino r (Ok files)) reads

  behind : (ino : ℕ) (p : ℕ × ℕ) (inos : List ℕ) → (p.0 ≡ ino → ⊥) → Member p.0 (ino ∷ inos) → Member p.0 inos
  behind ino p inos other is = elim is [ inl same ↦ absurd (other (sym same)) | inr there ↦ there ]

  pub files_listed : (low : ℕ) (inos : List ℕ) → NumbersAscend low inos → (least : ℕ) (ps : List (ℕ × ℕ)) → PairsRise least ps → ((p : ℕ × ℕ) → Member p ps → Member p.0 inos)
      → ((p : ℕ × ℕ) → Member p ps → reads_as v image p.0 ≡ Reads.File (due p)) → ((ino : ℕ) → Member ino inos → HasNone ps ino → reads_as v image ino ≡ Reads.Free)
      → files_at v image inos ≡ Ok (map due ps)
  files_listed low [] up least [] rise among reads free = refl
  files_listed low [] up least (p ∷ ps) rise among reads free = absurd (among p (inl refl))
  files_listed low (ino ∷ inos) up least [] rise among reads free =
      free_step ino inos [] (free ino (inl refl) (λ p none. absurd none))
      (files_listed (ino + 1) inos up.1 least [] rise (λ p none. absurd none) (λ p none. absurd none) (λ x is none. free x (inr is) none))
  files_listed low (ino ∷ inos) up least (p ∷ ps) rise among reads free =
      elim (cases_eq p.0 ino) [
        | inl same ↦
            file_step ino inos (due p) (map due ps) (ap (reads_as v image) (sym same) ∙ reads p (inl refl))
            (files_listed (ino + 1) inos up.1 (p.0 + 1) ps rise.1
            (λ q is. behind ino q inos (λ e. let more = pair_least (p.0 + 1) q ps rise.1 is in omega (arith, e, more, same)) (among q (inr is)))
            (λ q is. reads q (inr is))
            (λ x is none. free x (inr is) (λ q has e. elim has [
              | inl own ↦
                  let more = number_least (ino + 1) x inos up.1 is in
                  let number : p.0 ≡ q.0 = ap (λ (y : ℕ × ℕ). y.0) own in
                  omega (arith, e, more, number, same)
              | inr there ↦ none q there e
            ])))
        | inr other ↦
            let first : Member p.0 inos = behind ino p inos other (among p (inl refl)) in
            let more : ino + 1 ≤ p.0 = number_least (ino + 1) p.0 inos up.1 first in
            let above : (q : ℕ × ℕ) → Member q (p ∷ ps) → p.0 ≤ q.0 = λ q is. pair_least p.0 q (p ∷ ps) (omega arith, rise.1) is in
            free_step ino inos (map due (p ∷ ps)) (free ino (inl refl) (λ q is e. let high = above q is in omega (arith, more, high, e)))
            (files_listed (ino + 1) inos up.1 least (p ∷ ps) rise
            (λ q is. behind ino q inos (λ e. let high = above q is in omega (arith, more, high, e)) (among q is))
            reads
            (λ x is none. free x (inr is) none))
      ]

-- links that leave room behind lost+found ascend
lower_pairs : (low high : ℕ) (ps : List (ℕ × ℕ)) → low ≤ high → PairsRise high ps → PairsRise low ps
lower_pairs low high [] le up = tt
lower_pairs low high (p ∷ ps) le up = (let first = up.0 in omega (arith, le, first), up.1)

pub links_rise : (l : Lost) (low : ℕ) (ps : List (ℕ × ℕ)) → LinksAscend l low ps → PairsRise low ps
links_rise l low [] up = tt
links_rise l low (p ∷ ps) up = (up.0, lower_pairs (p.0 + 1) (p.0 + inodes_taken l p.0) ps (some (l.new == p.0)) (links_rise l (p.0 + inodes_taken l p.0) ps up.1))
  where
    some : (t : Bool) → p.0 + 1 ≤ p.0 + (if t then 1 + 31 * length l.added else 1)
    some true = omega arith
    some false = omega arith
