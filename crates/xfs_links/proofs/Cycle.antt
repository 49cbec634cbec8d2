-- A volume with the names that were decided: the root, and two directories that name each other.
use Rattle.std.proofs.Common.{◌≡◌, ℕ, ◌==◌, ◌&&◌, ◌||◌, Bool, true, false, cond, List, [], ◌∷◌, map, refl, sym, ◌∙◌, ap, arith, codes}
use Rattle.std.specs.Fmt.{digits}
use Rattle.std.specs.List.{filter, All}
use Rattle.std.proofs.lemmas.Bool.Decides.{nat_tests}
use Rattle.std.proofs.lemmas.List.Elements.{All-nil, All-cons}
use Rattle.xfs_volume.specs.declared.directories.DirRec.{DirRec}
use Rattle.xfs_volume.specs.declared.files.FileRec.{FileRec}
use Rattle.xfs_volume.specs.Names.{is_name, type_of, is_directory}
use Rattle.xfs_naming.specs.Naming.{is_in_use, is_directory_at}
use Rattle.xfs_links.specs.Settled.{IsSettled, parent_due}
use Rattle.xfs_links.specs.Cycle.{named_entry, directory, cycle_nodes, cycle_listed, cycle_entries, cycle_dirs}

among : (p q r s n : ℕ) → p ≡ 128 → q ≡ 150 → r ≡ 151 → s ≡ 200 → (p == n || (q == n || (r == n || (s == n || false)))) ≡ ((128 == n || (150 == n || (151 == n || false))) || (true && n == 200))
among p q r s n a b c d = grind (arith, nat_tests)

among_directories : (p q r s n : ℕ) → p ≡ 128 → q ≡ 150 → r ≡ 151 → s ≡ 200
    → (p == n || (q == n || (r == n || (s == n || false)))) ≡ (((128 == n && true) || ((150 == n && true) || ((151 == n && true) || false))) || (true && n == 200))
among_directories p q r s n a b c d = among p q r s n a b c d ∙ sym (plain (128 == n) (150 == n) (151 == n) (true && n == 200))
  where
    plain : (w x y z : Bool) → (((w && true) || ((x && true) || ((y && true) || false))) || z) ≡ ((w || (x || (y || false))) || z)
    plain w x y z = grind (arith, nat_tests)

typed : (f : FileRec) → type_of f ≡ 4 → is_directory f ≡ true
typed f e = grind (arith, nat_tests)

all_among : (a b c d : FileRec) (n : ℕ) → type_of a ≡ 4 → type_of b ≡ 4 → type_of c ≡ 4 → type_of d ≡ 4 → is_directory_at (a ∷ b ∷ c ∷ d ∷ []) n ≡ is_in_use (a ∷ b ∷ c ∷ d ∷ []) n
all_among a b c d n p q r s = plain (a.ino == n) (b.ino == n) (c.ino == n) (d.ino == n) (is_directory a) (is_directory b) (is_directory c) (is_directory d) (typed a p) (typed b q) (typed c r) (typed d s)
  where
    plain : (p q r s w x y z : Bool) → w ≡ true → x ≡ true → y ≡ true → z ≡ true → ((p && w) || ((q && x) || ((r && y) || ((s && z) || false)))) ≡ (p || (q || (r || (s || false))))
    plain p q r s w x y z e f g h = grind (arith, nat_tests)

numbers : (a b c d : FileRec) → a.ino ≡ 128 → b.ino ≡ 150 → c.ino ≡ 151 → d.ino ≡ 200 → type_of a ≡ 4 → type_of b ≡ 4 → type_of c ≡ 4 → type_of d ≡ 4
    → 128 ∷ 150 ∷ 151 ∷ 200 ∷ [] ≡ map (λ (f : FileRec). f.ino) (filter is_directory (a ∷ b ∷ c ∷ d ∷ []))
numbers a b c d e f g h p q r s =
    sym (picked a (b ∷ c ∷ d ∷ []) p ∙ ap (λ ns. a.ino ∷ ns) (picked b (c ∷ d ∷ []) q ∙ ap (λ ns. b.ino ∷ ns) (picked c (d ∷ []) r ∙ ap (λ ns. c.ino ∷ ns) (picked d [] s)))
    ∙ four_same a.ino b.ino c.ino d.ino e f g h)
  where
    picked : (x : FileRec) (xs : List FileRec) → type_of x ≡ 4 → map (λ (f : FileRec). f.ino) (filter is_directory (x ∷ xs)) ≡ x.ino ∷ map (λ (f : FileRec). f.ino) (filter is_directory xs)
    picked x xs k = ap (λ t. map (λ (f : FileRec). f.ino) (cond t (x ∷ filter is_directory xs) (filter is_directory xs))) (typed x k)

    four_same : (w x y z : ℕ) → w ≡ 128 → x ≡ 150 → y ≡ 151 → z ≡ 200 → w ∷ x ∷ y ∷ z ∷ [] ≡ 128 ∷ 150 ∷ 151 ∷ 200 ∷ []
    four_same w x y z e f g h = cc

four : (P : DirRec → Type 0) → P (directory 128 128) → P (directory 150 200) → P (directory 151 150) → P (directory 200 128) → All P cycle_dirs
four P w x y z = All-cons P (directory 128 128) (directory 150 200 ∷ directory 151 150 ∷ directory 200 128 ∷ []) w
    (All-cons P (directory 150 200) (directory 151 150 ∷ directory 200 128 ∷ []) x (All-cons P (directory 151 150) (directory 200 128 ∷ []) y (All-cons P (directory 200 128) [] z (All-nil P))))

pub cycle_settled : (a b c d : FileRec) → a.ino ≡ 128 → b.ino ≡ 150 → c.ino ≡ 151 → d.ino ≡ 200 → type_of a ≡ 4 → type_of b ≡ 4 → type_of c ≡ 4 → type_of d ≡ 4
    → IsSettled cycle_nodes cycle_listed 128 200 (a ∷ b ∷ c ∷ d ∷ []) cycle_entries cycle_dirs
unfolding is_name digits
cycle_settled a b c d e f g h p q r s = record {
  files_are = record {
    in_use = λ n. among a.ino b.ino c.ino d.ino n e f g h;
    directory = λ n. all_among a b c d n p q r s ∙ among_directories a.ino b.ino c.ino d.ino n e f g h;
  };
  directories_are = record {
    whole = four (λ (x : DirRec). x.whole ≡ true) refl refl refl refl;
    parents = four (λ (x : DirRec). x.parent ≡ parent_due cycle_nodes cycle_listed 128 200 x.ino) refl refl refl refl;
  };
  entries_are = record { same = refl };
  named = record {
    files_ascend = (omega arith, (omega arith, (omega arith, (omega arith, tt))));
    directories = numbers a b c d e f g h p q r s;
    grouped = (
      named_entry 128 (codes "lost+found") 200 2 ∷ [],
      named_entry 150 (codes "x") 151 2 ∷ named_entry 200 (codes "150") 150 2 ∷ [],
      refl,
      refl,
      (named_entry 150 (codes "x") 151 2 ∷ [], named_entry 200 (codes "150") 150 2 ∷ [], refl, refl, ([], named_entry 200 (codes "150") 150 2 ∷ [], refl, refl, (named_entry 200 (codes "150") 150 2 ∷ [], [], refl, refl, refl))),
    );
  };
}
