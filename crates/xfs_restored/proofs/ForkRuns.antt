-- The forks of directories that were built go by their runs, and each directory finds its own.
use Rattle.std.proofs.Common.{◌≡◌, inl, inr, ℕ, Bool, true, false, ◌+◌, ◌≤◌, ◌==◌, if◌then◌else◌, List, [], ◌∷◌, map, take, drop, Some, refl, sym, ap, ap₂, ◌∙◌, subst, arith}
use Rattle.std.specs.List.{AllByRecursion, filter}
use Rattle.std.proofs.lemmas.Bool.{eq-eqb, ne_eqb}
use Rattle.xfs_geom.specs.Volumes.{Volume}
use Rattle.xfs_geom.specs.declared.records.Run.{Run}
use Rattle.xfs_volume.specs.declared.files.FileRec.{FileRec}
use Rattle.xfs_naming.specs.Naming.{NumbersAscend}
use Rattle.xfs_names.specs.declared.building.BuiltDirectory.{BuiltDirectory}
use Rattle.xfs_views.proofs.Members.{Member, all_members}
use Rattle.xfs_rename.specs.xfs_changes.Forks.{attribute_blocks_at, extents_fork, fork_listed, forks_of, short_fork}
use Rattle.xfs_rename.specs.xfs_built.Asks.{stands_in_blocks}
use Rattle.xfs_rename.specs.xfs_changes.Slots.{first_fork, fork_at}
use Rattle.xfs_rename.specs.xfs_changes.declared.forks.DirectoryFork.{DirectoryFork}
use Rattle.xfs_rename.specs.xfs_built.Directories.{BuiltRuns, asks_of_built, built_runs, runs_of_built, with_runs}
use Rattle.xfs_restored.specs.RunForks.{FindsFork, fork_of_runs}

module _ (v : Volume) (files : List FileRec) where
  abbrev listed : BuiltRuns → DirectoryFork
  listed p = fork_listed v files p.directory (fork_of_runs v files p)

  forks_if : (t : Bool) (b : BuiltDirectory) (mine : List Run) (first second : List DirectoryFork) (some none : List BuiltRuns) → stands_in_blocks b ≡ t → first ≡ map listed some → second ≡ map listed none
      → (if t then fork_listed v files b (extents_fork v (attribute_blocks_at files b.ino) mine b) ∷ first else fork_listed v files b (short_fork (attribute_blocks_at files b.ino) b) ∷ second)
      ≡ map listed (if t then built_runs b mine ∷ some else built_runs b [] ∷ none)
  forks_if true b mine first second some none is one two =
      ap₂ (λ (t : Bool) (rest : List DirectoryFork). fork_listed v files b (if t then extents_fork v (attribute_blocks_at files b.ino) mine b else short_fork (attribute_blocks_at files b.ino) b) ∷ rest) (sym is) one
  forks_if false b mine first second some none is one two =
      ap₂ (λ (t : Bool) (rest : List DirectoryFork). fork_listed v files b (if t then extents_fork v (attribute_blocks_at files b.ino) [] b else short_fork (attribute_blocks_at files b.ino) b) ∷ rest) (sym is) two

  pub forks_go : (built : List BuiltDirectory) (cuts : List ℕ) (runs : List Run) → forks_of v files built cuts runs ≡ map listed (with_runs built cuts runs)
  unfolding forks_of with_runs
  forks_go [] cuts runs = refl
  forks_go (b ∷ bs) cuts runs =
      forks_if (stands_in_blocks b) b (take (runs_of_built b cuts) runs) (forks_of v files bs (drop (asks_of_built b) cuts) (drop (runs_of_built b cuts) runs)) (forks_of v files bs cuts runs)
      (with_runs bs (drop (asks_of_built b) cuts) (drop (runs_of_built b cuts) runs)) (with_runs bs cuts runs) refl
      (forks_go bs (drop (asks_of_built b) cuts) (drop (runs_of_built b cuts) runs)) (forks_go bs cuts runs)

  -- the numbers of directories stay in order
  abbrev RunsAscend : ℕ → List BuiltRuns → Type 0
  RunsAscend low ps = NumbersAscend low (map (λ (p : BuiltRuns). p.directory.ino) ps)

  ascend_if : (t : Bool) (low : ℕ) (b : BuiltDirectory) (mine : List Run) (some none : List BuiltRuns) → low ≤ b.ino → RunsAscend (b.ino + 1) some → RunsAscend (b.ino + 1) none
      → RunsAscend low (if t then built_runs b mine ∷ some else built_runs b [] ∷ none)
  ascend_if true low b mine some none least one two = (least, one)
  ascend_if false low b mine some none least one two = (least, two)

  runs_ascend : (built : List BuiltDirectory) (low : ℕ) (cuts : List ℕ) (runs : List Run) → NumbersAscend low (map (λ (b : BuiltDirectory). b.ino) built) → RunsAscend low (with_runs built cuts runs)
  unfolding with_runs
  runs_ascend [] low cuts runs ascend = tt
  runs_ascend (b ∷ bs) low cuts runs ascend =
      ascend_if (stands_in_blocks b) low b (take (runs_of_built b cuts) runs) (with_runs bs (drop (asks_of_built b) cuts) (drop (runs_of_built b cuts) runs)) (with_runs bs cuts runs) ascend.0
      (runs_ascend bs (b.ino + 1) (drop (asks_of_built b) cuts) (drop (runs_of_built b cuts) runs) ascend.1) (runs_ascend bs (b.ino + 1) cuts runs ascend.1)

  member_low : (ps : List BuiltRuns) (low : ℕ) (p : BuiltRuns) → RunsAscend low ps → Member p ps → low ≤ p.directory.ino
  member_low [] low p ascend is = absurd is
  member_low (q ∷ qs) low p ascend is =
      let least = ascend.0 in
      elim is [
        | inl same ↦ let number : q.directory.ino ≡ p.directory.ino = ap (λ (x : BuiltRuns). x.directory.ino) same in omega (arith, least, number)
        | inr there ↦ let more = member_low qs (q.directory.ino + 1) p ascend.1 there in omega (arith, least, more)
      ]

  fork_found : (ps : List BuiltRuns) (low : ℕ) (p : BuiltRuns) → RunsAscend low ps → Member p ps → fork_at (map listed ps) p.directory.ino ≡ Some (fork_of_runs v files p)
  fork_found [] low p ascend is = absurd is
  fork_found (q ∷ qs) low p ascend is =
      elim is [
        | inl same ↦
            ap (λ (t : Bool). first_fork (if t then listed q ∷ filter (λ (f : DirectoryFork). f.ino == p.directory.ino) (map listed qs) else filter (λ (f : DirectoryFork). f.ino == p.directory.ino) (map listed qs)))
            (eq-eqb q.directory.ino p.directory.ino (ap (λ (x : BuiltRuns). x.directory.ino) same))
            ∙ ap (λ (x : BuiltRuns). Some (fork_of_runs v files x)) same
        | inr there ↦
            let more = member_low qs (q.directory.ino + 1) p ascend.1 there in
            ap (λ (t : Bool). first_fork (if t then listed q ∷ filter (λ (f : DirectoryFork). f.ino == p.directory.ino) (map listed qs) else filter (λ (f : DirectoryFork). f.ino == p.directory.ino) (map listed qs)))
            (ne_eqb q.directory.ino p.directory.ino (λ e. omega (arith, e, more)))
            ∙ fork_found qs (q.directory.ino + 1) p ascend.1 there
      ]

  pub all_find : (built : List BuiltDirectory) (cuts : List ℕ) (runs : List Run) → NumbersAscend 0 (map (λ (b : BuiltDirectory). b.ino) built)
      → AllByRecursion (FindsFork v files (forks_of v files built cuts runs)) (with_runs built cuts runs)
  all_find built cuts runs ascend =
      subst (λ (forks : List DirectoryFork). AllByRecursion (FindsFork v files forks) (with_runs built cuts runs)) (sym (forks_go built cuts runs))
      (all_members (FindsFork v files (map listed (with_runs built cuts runs))) (with_runs built cuts runs)
      (λ p is. fork_found (with_runs built cuts runs) 0 p (runs_ascend built 0 cuts runs ascend) is))
