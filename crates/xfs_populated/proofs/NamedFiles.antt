-- The files of a new volume, the two system inodes among them, as far as laws of names look at them.
use Rattle.std.proofs.Common.{◌≡◌, ◌≢◌, ℕ, zero, suc, ◌+◌, ◌-◌, ◌==◌, ◌&&◌, ◌≤◌, ◌<◌, ◌⊎◌, inl, inr, Bool, true, false, cond, List, ◌∷◌, length, map, get_or, refl, sym, ap, ap₂, ◌∙◌, arith}
use Rattle.std.specs.List.{All, Any, filter, range_with_len}
use Rattle.std.proofs.lemmas.Bool.{and_from, cases_eq, eq-eqb, ne_eqb}
use Rattle.std.proofs.lemmas.List.Elements.{All-cons, All-map}
use Rattle.std.proofs.lemmas.List.Folds.{list_any_none, list_any-from_Any}
use Rattle.std.proofs.lemmas.List.FromFn.{get_or-range_with_len, length-range_with_len}
use Rattle.xfs_geom.specs.Volumes.{Volume}
use Rattle.xfs_naming.specs.Lawful.{IsSystemFile}
use Rattle.xfs_naming.specs.Naming.{NumbersAscend, is_directory_at as names_directory, numbers_of}
use Rattle.xfs_volume.specs.Names.{is_directory, type_of}
use Rattle.xfs_volume.specs.declared.files.FileRec.{FileRec}
use Rattle.xfs_proto.specs.declared.protofile.ProtoKind.{ProtoKind}
use Rattle.xfs_proto.specs.declared.protofile.ProtoKind.TheVariants as Kind
use Rattle.xfs_proto.specs.declared.protofile.ProtoNode.{ProtoNode}
use Rattle.xfs_filled.specs.FileTrees.{AreProtoNodes, is_directory_node, is_directory_kind, is_of, node_at, places_of_kind, type_of_kind}
use Rattle.xfs_filled.specs.Numbers.{number_of}
use Rattle.xfs_populated.specs.Names.{HasFileNumbers}
use Rattle.xfs_populated.proofs.NameLists.{contains_map, map_both, map_same}
use Rattle.xfs_populated.proofs.NamedEntries.{number_differs}
use Rattle.xfs_populated.proofs.NamedPlaces.{in_range}

-- what files state of themselves, by their places
pub record StatesFiles (v : Volume) (starts : List ℕ) (ns : List ProtoNode) (file : ℕ → FileRec) (first second : FileRec) : Type 0 where
  pub ino : (k : ℕ) → (file k).ino ≡ number_of v starts k
  pub type' : (k : ℕ) → k < length ns → type_of (file k) ≡ type_of_kind (node_at ns k).kind
  pub first' : IsSystemFile 129 first
  pub second' : IsSystemFile 130 second

directory_type : (kind : ProtoKind) → (type_of_kind kind == 4) ≡ is_directory_kind kind
directory_type (Kind.Regular name line) = refl
directory_type Kind.Directory = refl
directory_type (Kind.Link target) = refl
directory_type (Kind.Block major minor) = refl
directory_type (Kind.Character major minor) = refl
directory_type Kind.Pipe = refl

module _ (v : Volume) (starts : List ℕ) (ns : List ProtoNode) (fs : AreProtoNodes ns) (numbers : HasFileNumbers v starts (length ns)) (file : ℕ → FileRec) (first second : FileRec)
    (states : StatesFiles v starts ns file first second) where
  abbrev pub all : List FileRec
  all = file 0 ∷ first ∷ second ∷ map file (range_with_len 1 (length ns - 1))

  pub is_one : (k : ℕ) → k < length ns → is_directory (file k) ≡ is_directory_node ns k
  is_one k low = ap (λ (n : ℕ). n == 4) (states.type' k low) ∙ directory_type (node_at ns k).kind

  pub all_files : (P : FileRec → Type 0) → P first → P second → ((k : ℕ) → k < length ns → P (file k)) → All P all
  all_files P one two each =
      All-cons P (file 0) (first ∷ second ∷ map file (range_with_len 1 (length ns - 1))) (each 0 (omega (arith, fs.some)))
      (All-cons P first (second ∷ map file (range_with_len 1 (length ns - 1))) one
      (All-cons P second (map file (range_with_len 1 (length ns - 1))) two
      (All-map P file (range_with_len 1 (length ns - 1)) (λ m d low.
      let few : m < length ns - 1 = omega (arith, length-range_with_len 1 (length ns - 1), low) in
      let is = get_or-range_with_len 1 (length ns - 1) m d few in
      each (get_or (range_with_len 1 (length ns - 1)) m d) (omega (arith, is, few))))))

  pub any_file : (P : FileRec → Type 0) (k : ℕ) → k < length ns → P (file k) → Any P all
  any_file P zero low holds = (0, file 0, omega arith, refl, holds)
  any_file P (suc k) low holds =
      let there = contains_map file (suc k) (range_with_len 1 (length ns - 1)) (in_range 1 (length ns - 1) (suc k) (omega arith) (omega (arith, low))) in
      let inside = there.1 in
      (suc (suc (suc there.0)), file (suc k), omega (arith, inside), there.2, holds)

  pub any_first : (P : FileRec → Type 0) → P first → Any P all
  any_first P holds = (1, first, omega arith, refl, holds)

  pub any_second : (P : FileRec → Type 0) → P second → Any P all
  any_second P holds = (2, second, omega arith, refl, holds)

  -- a file behind the system inodes, or the root
  number_apart : (k : ℕ) → k < length ns → (number_of v starts k ≢ 129) × (number_of v starts k ≢ 130)
  number_apart zero low = let root = numbers.root in (λ same. omega (arith, root, same), λ same. omega (arith, root, same))
  number_apart (suc k) low = let high = numbers.behind (suc k) (omega arith) low in (λ same. omega (arith, high, same), λ same. omega (arith, high, same))

  pub other_first : (k : ℕ) → k < length ns → number_of v starts k ≢ 129
  other_first k low = (number_apart k low).0

  pub other_second : (k : ℕ) → k < length ns → number_of v starts k ≢ 130
  other_second k low = (number_apart k low).1

  -- which of them are directories
  abbrev test : ℕ → FileRec → Bool
  test k f = f.ino == number_of v starts k && is_directory f

  fails : (k : ℕ) (f : FileRec) → f.ino ≢ number_of v starts k → test k f ≡ false
  fails k f other = ap (λ (t : Bool). t && is_directory f) (ne_eqb f.ino (number_of v starts k) other)

  one_fails : (k m : ℕ) → k < length ns → m < length ns → is_directory_node ns k ≡ false → (m ≡ k) ⊎ (m ≢ k) → test k (file m) ≡ false
  one_fails k m low few is (inl same) =
      ap₂ (λ (s t : Bool). s && t) (eq-eqb (file m).ino (number_of v starts k) (states.ino m ∙ ap (number_of v starts) same)) (is_one m few ∙ (ap (is_directory_node ns) same ∙ is))
  one_fails k m low few is (inr other) = fails k (file m) (λ same. number_differs v starts ns fs numbers m k few low other (sym (states.ino m) ∙ same))

  pub directory_is : (k : ℕ) → k < length ns → names_directory all (number_of v starts k) ≡ is_directory_node ns k
  directory_is k low = by_case (is_directory_node ns k) refl
    where
      by_case : (t : Bool) → is_directory_node ns k ≡ t → names_directory all (number_of v starts k) ≡ t
      by_case true is =
          list_any-from_Any (test k) all
          (any_file (λ (f : FileRec). test k f ≡ true) k low
          (and_from ((file k).ino == number_of v starts k) (is_directory (file k)) (eq-eqb (file k).ino (number_of v starts k) (states.ino k)) (is_one k low ∙ is)))
      by_case false is =
          list_any_none (test k) all
          (all_files (λ (f : FileRec). test k f ≡ false)
          (fails k first (λ same. other_first k low (sym same ∙ states.first'.number)))
          (fails k second (λ same. other_second k low (sym same ∙ states.second'.number)))
          (λ m few. one_fails k m low few is (cases_eq m k)))

  -- their numbers ascend
  ascend : (least a n : ℕ) → 1 ≤ a → a + n ≤ length ns → ((k : ℕ) → a ≤ k → k < length ns → least ≤ number_of v starts k) → NumbersAscend least (numbers_of (map file (range_with_len a n)))
  ascend least a zero some room low = tt
  ascend least a (suc n) some room low =
      let here = states.ino a in
      let first_low = low a (omega arith) (omega (arith, room)) in (
        omega (arith, here, first_low),
        ascend ((file a).ino + 1) (a + 1) n (omega (arith, some)) (omega (arith, room)) (λ k behind few.
            let up = numbers.ascend a k (omega (arith, behind)) few in omega (arith, here, up)),
      )

  pub files_ascend : NumbersAscend 0 (numbers_of all)
  files_ascend =
      let root = states.ino 0 ∙ numbers.root in
      let one = states.first'.number in
      let two = states.second'.number in
      let others = ascend (second.ino + 1) 1 (length ns - 1) (omega arith) (omega (arith, fs.some)) (λ k some low. let high = numbers.behind k some low in omega (arith, high, two)) in
      (omega arith, (omega (arith, root, one), (omega (arith, one, two), others)))

  -- the directories among them
  abbrev found_in : ℕ → ℕ → List FileRec
  found_in a n = filter is_directory (map file (range_with_len a n))

  abbrev places_in : ℕ → ℕ → List ℕ
  places_in a n = filter (λ k. is_of true (node_at ns k).kind) (range_with_len a n)

  listed : (a n : ℕ) → a + n ≤ length ns → found_in a n ≡ map file (places_in a n)
  listed a zero room = refl
  listed a (suc n) room =
      by_case (is_directory_node ns a) (is_directory (file a)) (is_one a (omega (arith, room))) (listed (a + 1) n (omega (arith, room)))
    where
      by_case : (s t : Bool) → t ≡ s → found_in (a + 1) n ≡ map file (places_in (a + 1) n)
          → cond t (file a ∷ found_in (a + 1) n) (found_in (a + 1) n) ≡ map file (cond s (a ∷ places_in (a + 1) n) (places_in (a + 1) n))
      by_case true true same later = ap (λ (fs : List FileRec). file a ∷ fs) later
      by_case true false same later = absurd cc
      by_case false true same later = absurd cc
      by_case false false same later = later

  abbrev after : List FileRec
  after = filter is_directory (second ∷ map file (range_with_len 1 (length ns - 1)))

  abbrev behind : List FileRec
  behind = filter is_directory (first ∷ second ∷ map file (range_with_len 1 (length ns - 1)))

  plain : (f : FileRec) → type_of f ≡ 8 → is_directory f ≡ false
  plain f is = ap (λ (n : ℕ). n == 4) is

  whole_range : range_with_len 0 (length ns) ≡ 0 ∷ range_with_len 1 (length ns - 1)
  whole_range =
      let some = fs.some in
      let more : length ns ≡ suc (length ns - 1) = omega (arith, some) in
      ap (range_with_len 0) more

  pub directories_found : filter is_directory all ≡ map file (places_of_kind ns true)
  directories_found =
      ap (λ (t : Bool). cond t (file 0 ∷ behind) behind) (is_one 0 (omega (arith, fs.some)) ∙ fs.root)
      ∙ (ap (λ (xs : List FileRec). file 0 ∷ xs) (ap (λ (t : Bool). cond t (first ∷ after) after) (plain first states.first'.regular)
      ∙ (ap (λ (t : Bool). cond t (second ∷ found_in 1 (length ns - 1)) (found_in 1 (length ns - 1))) (plain second states.second'.regular) ∙ listed 1 (length ns - 1) (omega (arith, fs.some))))
      ∙ (sym (ap (λ (t : Bool). map file (cond t (0 ∷ places_in 1 (length ns - 1)) (places_in 1 (length ns - 1)))) fs.root)
      ∙ sym (ap (λ (ks : List ℕ). map file (filter (λ k. is_of true (node_at ns k).kind) ks)) whole_range)))

  pub directories_listed : map (number_of v starts) (places_of_kind ns true) ≡ map (λ (f : FileRec). f.ino) (filter is_directory all)
  directories_listed =
      sym (map_same (λ k. (file k).ino) (number_of v starts) (places_of_kind ns true) (λ m d low. states.ino (get_or (places_of_kind ns true) m d)))
      ∙ (sym (map_both (λ (f : FileRec). f.ino) file (places_of_kind ns true)) ∙ ap (map (λ (f : FileRec). f.ino)) (sym directories_found))
