-- The fork of the next directory, and which cuts and runs are left.
use Rattle.std.proofs.Common.{◌≡◌, ℕ, Bool, true, false, if◌then◌else◌, List, ◌∷◌, take, drop, length, sym, ap, ◌∙◌, arith}
use Rattle.xfs_geom.specs.Volumes.{Volume}
use Rattle.xfs_geom.specs.declared.records.Run.{Run}
use Rattle.xfs_volume.specs.declared.files.FileRec.{FileRec}
use Rattle.xfs_inodebuild.specs.declared.forks.ForkWanted.{ForkWanted}
use Rattle.xfs_names.specs.declared.building.BuiltDirectory.{BuiltDirectory}
use Rattle.xfs_changes.specs.Forks.{attribute_blocks_at, extents_fork, fork_listed, forks_of, IsForkWithBlocks, IsNextFork, runs_in, short_fork}
use Rattle.xfs_built.specs.Asks.{asks_for, stands_in_blocks}
use Rattle.xfs_changes.specs.declared.forks.DirectoryFork.{DirectoryFork}
use Rattle.xfs_changes.specs.declared.forks.TakenFork.{TakenFork}

module _ (v : Volume) (files : List FileRec) where
  -- the forks where the first directory has blocks, and where it has none
  abbrev with_blocks : BuiltDirectory → List BuiltDirectory → List ℕ → List Run → ℕ → ℕ → ℕ → List DirectoryFork
  with_blocks b bs cuts runs attributes asks count = fork_listed v files b (extents_fork v attributes (take count runs) b) ∷ forks_of v files bs (drop asks cuts) (drop count runs)

  abbrev without : BuiltDirectory → List BuiltDirectory → List ℕ → List Run → ℕ → List DirectoryFork
  without b bs cuts runs attributes = fork_listed v files b (short_fork attributes b) ∷ forks_of v files bs cuts runs

  forks_by_case : (b : BuiltDirectory) (bs : List BuiltDirectory) (cuts : List ℕ) (runs : List Run) (t : Bool) → stands_in_blocks b ≡ t
      → forks_of v files (b ∷ bs) cuts runs
      ≡ (if t then with_blocks b bs cuts runs (attribute_blocks_at files b.ino) (length (asks_for b.ino b.image)) (runs_in (take (length (asks_for b.ino b.image)) cuts))
      else without b bs cuts runs (attribute_blocks_at files b.ino))
  unfolding forks_of
  forks_by_case b bs cuts runs t is =
      ap (λ (u : Bool). if u then with_blocks b bs cuts runs (attribute_blocks_at files b.ino) (length (asks_for b.ino b.image)) (runs_in (take (length (asks_for b.ino b.image)) cuts))
      else without b bs cuts runs (attribute_blocks_at files b.ino)) is

  pub next_with_blocks : (n : ℕ) (b : BuiltDirectory) (cuts : List ℕ) (runs : List Run) (t : TakenFork) → n ≡ attribute_blocks_at files b.ino → stands_in_blocks b ≡ true → IsForkWithBlocks v n b cuts runs t → IsNextFork v files b cuts runs t
  next_with_blocks n b cuts runs t is has h = record {
    cuts' = h.cuts';
    runs' = h.runs';
    next = λ bs. forks_by_case b bs cuts runs true has
        ∙ ap (λ (a : ℕ). with_blocks b bs cuts runs a (length (asks_for b.ino b.image)) (runs_in (take (length (asks_for b.ino b.image)) cuts))) (sym is)
        ∙ ap (λ (k : ℕ). with_blocks b bs cuts runs n k (runs_in (take k cuts))) (sym h.asks')
        ∙ ap (λ (k : ℕ). with_blocks b bs cuts runs n t.asks k) (sym h.count')
        ∙ ap (λ (f : ForkWanted). fork_listed v files b f ∷ forks_of v files bs (drop t.asks cuts) (drop t.count runs)) (sym h.fork');
  }

  pub next_short : (n : ℕ) (b : BuiltDirectory) (cuts : List ℕ) (runs : List Run) (f : ForkWanted) → n ≡ attribute_blocks_at files b.ino → stands_in_blocks b ≡ false → f ≡ short_fork n b
      → IsNextFork v files b cuts runs (record { fork = f; asks = 0; count = 0 })
  next_short n b cuts runs f is has e = record {
    cuts' = omega arith;
    runs' = omega arith;
    next = λ bs. forks_by_case b bs cuts runs false has
        ∙ ap (λ (a : ℕ). without b bs cuts runs a) (sym is)
        ∙ ap (λ (g : ForkWanted). fork_listed v files b g ∷ forks_of v files bs cuts runs) (sym e);
  }
