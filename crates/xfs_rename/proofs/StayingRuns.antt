-- What the files that stay claim: of the runs of the kept files some, in their order.
use Rattle.std.proofs.Common.{◌≡◌, ℕ, Bool, true, false, cond, ◌+◌, ◌≤◌, ◌<◌, nat_lt, if◌then◌else◌, List, [], ◌∷◌, ◌++◌, map, refl, sym, subst, ap, ◌∙◌, arith}
use Rattle.std.specs.List.{All, filter, flat_map}
use Rattle.std.proofs.lemmas.List.Elements.{All-append, All-cons, All-head, All-nil, All-tail}
use Rattle.std.proofs.lemmas.List.Sums.{sum_by-append}
use Rattle.xfs_disk.specs.Lists.{is_among}
use Rattle.xfs_geom.specs.Runs.{covers, runs_on}
use Rattle.xfs_geom.specs.Volumes.{Volume}
use Rattle.xfs_geom.specs.declared.records.Run.{Run}
use Rattle.xfs_naming.specs.Naming.{NumbersAscend, numbers_of}
use Rattle.xfs_space.specs.Owners.{attribute_flag, extent_run, file_runs, runs_of_blocks, tree_flag}
use Rattle.xfs_space.specs.Parts.{HasLawfulForks}
use Rattle.xfs_volume.specs.declared.cores.Core.{Core}
use Rattle.xfs_volume.specs.declared.files.FileRec.{FileRec}
use Rattle.xfs_render.specs.declared.wanted_slots.SlotBase.{SlotBase}
use Rattle.xfs_render.specs.declared.wanted_slots.SlotBase.TheVariants as Base
use Rattle.xfs_render.specs.declared.wanted_slots.SlotWanted.{SlotWanted}
use Rattle.xfs_salvage.specs.declared.found.Salvaged.{Salvaged}
use Rattle.xfs_salvage.proofs.Ascending.{filtered}
use Rattle.xfs_rebuild.specs.Names.{due_files, linked_file, linked_files, made_files, made_of, new_file, with_made_file, with_made_files, with_nlink}
use Rattle.xfs_rename.specs.Settled.{is_old, staying_file, staying_files, without_data}

pub front : {A : Type 0} (P : A → Type 0) (xs ys : List A) → All P (xs ++ ys) → All P xs
front P [] ys all = All-nil P
front P (x ∷ xs) ys all = All-cons P x xs (All-head P x (xs ++ ys) all) (front P xs ys (All-tail P x (xs ++ ys) all))

pub back : {A : Type 0} (P : A → Type 0) (xs ys : List A) → All P (xs ++ ys) → All P ys
back P [] ys all = all
back P (x ∷ xs) ys all = back P xs ys (All-tail P x (xs ++ ys) all)

-- how many runs of two lists have a block
pub both_on : (b : ℕ) (xs ys : List Run) → runs_on (xs ++ ys) b ≡ runs_on xs b + runs_on ys b
both_on b xs ys = sum_by-append (λ (r : Run). if covers b r then 1 else 0) xs ys

module _ (v : Volume) (rebuilt fresh : List ℕ) where
  abbrev staying : List FileRec → List FileRec
  staying files = map (staying_file rebuilt) (filter (is_old fresh) files)

  abbrev runs_staying : List FileRec → List Run
  runs_staying files = flat_map (file_runs v) (staying files)

  -- a file that is made anew claims nothing
  new_adds : (ino : ℕ) (core : Core) (files : List FileRec) → runs_staying (new_file ino core ∷ files) ≡ runs_staying files
  new_adds ino core files = by_old (is_old fresh (new_file ino core))
    where
      by_among : (t : Bool) → file_runs v (if t then without_data (new_file ino core) else new_file ino core) ++ runs_staying files ≡ runs_staying files
      by_among true = refl
      by_among false = refl

      by_old : (t : Bool) → flat_map (file_runs v) (map (staying_file rebuilt) (cond t (new_file ino core ∷ filter (is_old fresh) files) (filter (is_old fresh) files))) ≡ runs_staying files
      by_old true = by_among (is_among rebuilt ino)
      by_old false = refl

  same_behind : (f : FileRec) (xs ys : List FileRec) → runs_staying xs ≡ runs_staying ys → runs_staying (f ∷ xs) ≡ runs_staying (f ∷ ys)
  same_behind f xs ys same = by_old (is_old fresh f)
    where
      by_old : (t : Bool)
          → flat_map (file_runs v) (map (staying_file rebuilt) (cond t (f ∷ filter (is_old fresh) xs) (filter (is_old fresh) xs)))
          ≡ flat_map (file_runs v) (map (staying_file rebuilt) (cond t (f ∷ filter (is_old fresh) ys) (filter (is_old fresh) ys)))
      by_old true = ap (λ (rs : List Run). file_runs v (staying_file rebuilt f) ++ rs) same
      by_old false = same

  one_more : (ino : ℕ) (core : Core) (files : List FileRec) → runs_staying (with_made_file (new_file ino core) files) ≡ runs_staying files
  one_more ino core [] = new_adds ino core []
  one_more ino core (f ∷ files) = by_case (nat_lt f.ino ino) (one_more ino core files)
    where
      by_case : (t : Bool) → runs_staying (with_made_file (new_file ino core) files) ≡ runs_staying files
          → runs_staying (if t then f ∷ with_made_file (new_file ino core) files else new_file ino core ∷ f ∷ files) ≡ runs_staying (f ∷ files)
      by_case true rest = same_behind f (with_made_file (new_file ino core) files) files rest
      by_case false rest = new_adds ino core (f ∷ files)

  all_more : (slots : List SlotWanted) (files : List FileRec) → runs_staying (with_made_files (made_files slots) files) ≡ runs_staying files
  all_more [] files = refl
  all_more (w ∷ ws) files = by_base w.base (all_more ws)
    where
      by_base : (base : SlotBase) → ((fs : List FileRec) → runs_staying (with_made_files (made_files ws) fs) ≡ runs_staying fs)
          → runs_staying (with_made_files (made_of w.ino base ++ made_files ws) files) ≡ runs_staying files
      by_base Base.Kept rest = rest files
      by_base Base.Free rest = rest files
      by_base (Base.Fresh core) rest = rest (with_made_file (new_file w.ino core) files) ∙ one_more w.ino core files

  -- what holds of each run of a file holds of those that it goes on to claim
  file_each : (P : Run → Type 0) (f : FileRec) → All P (file_runs v f) → All P (file_runs v (staying_file rebuilt f))
  file_each P f all = by_among (is_among rebuilt f.ino)
    where
      by_among : (t : Bool) → All P (file_runs v (if t then without_data f else f))
      by_among true =
          let own : List Run = map (extent_run v f.ino attribute_flag) f.rest.attr_extents in
          All-append P own [] (back P (map (extent_run v f.ino 0) f.extents) (map (extent_run v f.ino attribute_flag) f.rest.attr_extents)
          (front P (map (extent_run v f.ino 0) f.extents ++ map (extent_run v f.ino attribute_flag) f.rest.attr_extents) (runs_of_blocks f.ino tree_flag f.rest.tree) all)) (All-nil P)
      by_among false = all

  -- and no more of these have a block
  file_count : (b : ℕ) (f : FileRec) → runs_on (file_runs v (staying_file rebuilt f)) b ≤ runs_on (file_runs v f) b
  file_count b f = by_among (is_among rebuilt f.ino)
    where
      by_among : (t : Bool) → runs_on (file_runs v (if t then without_data f else f)) b ≤ runs_on (file_runs v f) b
      by_among true =
          let first = both_on b (map (extent_run v f.ino attribute_flag) f.rest.attr_extents) [] in
          let none : runs_on [] b ≡ 0 = refl in
          let all = both_on b (map (extent_run v f.ino 0) f.extents ++ map (extent_run v f.ino attribute_flag) f.rest.attr_extents) (runs_of_blocks f.ino tree_flag f.rest.tree) in
          let two = both_on b (map (extent_run v f.ino 0) f.extents) (map (extent_run v f.ino attribute_flag) f.rest.attr_extents) in
          omega (arith, first, none, all, two)
      by_among false = omega arith

  module _ (due : FileRec → ℕ) where
    abbrev linked : List FileRec → List FileRec
    linked files = map (λ (f : FileRec). with_nlink f (due f)) files

    linked_each : (P : Run → Type 0) (files : List FileRec) → All P (flat_map (file_runs v) files) → All P (runs_staying (linked files))
    linked_each P [] all = All-nil P
    linked_each P (f ∷ files) all =
        by_old (is_old fresh (with_nlink f (due f))) (linked_each P files (back P (file_runs v f) (flat_map (file_runs v) files) all))
      where
        by_old : (t : Bool) → All P (runs_staying (linked files))
            → All P (flat_map (file_runs v) (map (staying_file rebuilt) (cond t (with_nlink f (due f) ∷ filter (is_old fresh) (linked files)) (filter (is_old fresh) (linked files)))))
        by_old true rest =
            All-append P (file_runs v (staying_file rebuilt (with_nlink f (due f)))) (runs_staying (linked files))
            (file_each P (with_nlink f (due f)) (front P (file_runs v f) (flat_map (file_runs v) files) all)) rest
        by_old false rest = rest

    linked_count : (b : ℕ) (files : List FileRec) → runs_on (runs_staying (linked files)) b ≤ runs_on (flat_map (file_runs v) files) b
    linked_count b [] = omega arith
    linked_count b (f ∷ files) = by_old (is_old fresh (with_nlink f (due f))) (linked_count b files)
      where
        by_old : (t : Bool) → runs_on (runs_staying (linked files)) b ≤ runs_on (flat_map (file_runs v) files) b
            → runs_on (flat_map (file_runs v) (map (staying_file rebuilt) (cond t (with_nlink f (due f) ∷ filter (is_old fresh) (linked files)) (filter (is_old fresh) (linked files))))) b
            ≤ runs_on (file_runs v f ++ flat_map (file_runs v) files) b
        by_old true rest =
            let here = both_on b (file_runs v (staying_file rebuilt (with_nlink f (due f)))) (runs_staying (linked files)) in
            let there = both_on b (file_runs v f) (flat_map (file_runs v) files) in
            let one : runs_on (file_runs v (staying_file rebuilt (with_nlink f (due f)))) b ≤ runs_on (file_runs v f) b = file_count b (with_nlink f (due f)) in
            omega (arith, rest, here, there, one)
        by_old false rest =
            let there = both_on b (file_runs v f) (flat_map (file_runs v) files) in
            omega (arith, rest, there)

  -- the files that stay of those that were kept, with those that are made anew
  module _ (root : ℕ) (kept : Salvaged) (slots : List SlotWanted) where
    runs_are : flat_map (file_runs v) (staying_files rebuilt fresh (due_files root kept slots)) ≡ runs_staying (linked_files root kept)
    unfolding staying_files due_files
    runs_are = all_more slots (linked_files root kept)

    pub staying_each : (P : Run → Type 0) → All P (flat_map (file_runs v) kept.files) → All P (flat_map (file_runs v) (staying_files rebuilt fresh (due_files root kept slots)))
    staying_each P all = subst (All P) (sym runs_are) (linked_each (λ (f : FileRec). (linked_file root kept f).core.nlink) P kept.files all)

    pub staying_count : (b : ℕ) → runs_on (flat_map (file_runs v) (staying_files rebuilt fresh (due_files root kept slots))) b ≤ runs_on (flat_map (file_runs v) kept.files) b
    staying_count b =
        subst (λ (rs : List Run). runs_on rs b ≤ runs_on (flat_map (file_runs v) kept.files) b) (sym runs_are)
        (linked_count (λ (f : FileRec). (linked_file root kept f).core.nlink) b kept.files)

  -- what holds of files holds of those that stay
  each_stays : (P : FileRec → Type 0) → ((f : FileRec) → P f → P (without_data f)) → (files : List FileRec) → All P files → All P (map (staying_file rebuilt) (filter (is_old fresh) files))
  each_stays P less [] all = All-nil P
  each_stays P less (f ∷ files) all = by_old (is_old fresh f) (each_stays P less files (All-tail P f files all))
    where
      by_among : (t : Bool) → P (if t then without_data f else f)
      by_among true = less f (All-head P f files all)
      by_among false = All-head P f files all

      by_old : (t : Bool) → All P (staying files) → All P (map (staying_file rebuilt) (cond t (f ∷ filter (is_old fresh) files) (filter (is_old fresh) files)))
      by_old true rest = All-cons P (staying_file rebuilt f) (staying files) (by_among (is_among rebuilt f.ino)) rest
      by_old false rest = rest

  bare_lawful : (f : FileRec) → HasLawfulForks v f → HasLawfulForks v (without_data f)
  bare_lawful f is = record { extents = refl; attr_extents = is.attr_extents; tree = All-nil (λ block. block < v.dblocks) }

  pub staying_lawful : (files : List FileRec) → All (HasLawfulForks v) files → All (HasLawfulForks v) (staying_files rebuilt fresh files)
  unfolding staying_files
  staying_lawful files all = each_stays (HasLawfulForks v) bare_lawful files all

  numbers_stay : (files : List FileRec) → numbers_of (map (staying_file rebuilt) files) ≡ numbers_of files
  numbers_stay [] = refl
  numbers_stay (f ∷ files) = by_among (is_among rebuilt f.ino) (numbers_stay files)
    where
      by_among : (t : Bool) → numbers_of (map (staying_file rebuilt) files) ≡ numbers_of files
          → (if t then without_data f else f).ino ∷ numbers_of (map (staying_file rebuilt) files) ≡ f.ino ∷ numbers_of files
      by_among true rest = ap (λ (ns : List ℕ). f.ino ∷ ns) rest
      by_among false rest = ap (λ (ns : List ℕ). f.ino ∷ ns) rest

  pub staying_ascend : (files : List FileRec) → NumbersAscend 0 (numbers_of files) → NumbersAscend 0 (numbers_of (staying_files rebuilt fresh files))
  unfolding staying_files
  staying_ascend files up =
      subst (NumbersAscend 0) (sym (numbers_stay (filter (is_old fresh) files))) (filtered (is_old fresh) 0 files up)
