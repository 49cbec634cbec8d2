-- One more claim that is kept, as the program holds what is kept.
use Rattle.std.proofs.Common.{◌≡◌, ℕ, Bool, true, false, ◌||◌, List, [], ◌∷◌, refl, ◌∙◌, subst}
use Rattle.std.specs.Ordering.{nat_cmp}
use Rattle.std.specs.BTreeSet.{insert_key}
use Rattle.std.proofs.lemmas.Bool.{or_from}
use Rattle.std.proofs.Math.Bool.{or-false}
use Rattle.xfs_disk.specs.Lists.{is_in_range, is_among, with_number}
use Rattle.xfs_collections.proofs.Meeting.{meets_none}
use Rattle.xfs_collections.specs.Blocks.{is_in, meets}
use Rattle.xfs_claims.specs.declared.claimants.FileClaim.{FileClaim}
use Rattle.xfs_claims.specs.Spans.{spans_of, meets_any, with_blocks}
use Rattle.xfs_claims.specs.Keeping.{Holding, cluster_span, with_cluster, with_file, is_kept}
use Rattle.xfs_claims.proofs.Numbers.{insert_is}

pub same_holding : (x y : Holding) → x.blocks ≡ y.blocks → x.clusters ≡ y.clusters → x.files ≡ y.files → x ≡ y
same_holding x y e f h = λ k. record { blocks = e k; clusters = f k; files = h k }

or_none : (x y : Bool) → (x || y) ≡ ((x || false) || y)
or_none true y = refl
or_none false y = refl

-- a cluster that meets nothing is kept
pub cluster_kept : (held new : Holding) (block : ℕ) → meets held.blocks block 4 ≡ false → ((b : ℕ) → new.blocks b ≡ (is_in_range block 4 b || held.blocks b))
    → new.clusters ≡ insert_key nat_cmp held.clusters block → new.files ≡ held.files → new ≡ with_cluster held block
cluster_kept held new block off more clusters files =
    rw off (same_holding new (record { blocks = with_blocks held.blocks (cluster_span block); clusters = with_number block held.clusters; files = held.files })
    (λ k b. (more b ∙ or_none (is_in_range block 4 b) (held.blocks b)) k) (clusters ∙ insert_is block held.clusters) files)

-- a file whose cluster is kept and that meets nothing is kept
pub file_kept : (held new : Holding) (file : FileClaim) → is_among held.clusters file.cluster ≡ true → meets_any held.blocks (spans_of file.runs) ≡ false
    → new.blocks ≡ with_blocks held.blocks (spans_of file.runs) → new.clusters ≡ held.clusters → new.files ≡ with_number file.ino held.files → new ≡ with_file held file
file_kept held new file stands off blocks clusters files =
    rw (stands, off) (same_holding new (record { blocks = with_blocks held.blocks (spans_of file.runs); clusters = held.clusters; files = with_number file.ino held.files })
    blocks clusters files)

-- a file that meets something, or whose cluster is lost, changes nothing
pub file_lost : (held : Holding) (file : FileClaim) → is_kept held file ≡ false → held ≡ with_file held file
file_lost held file lost = rw lost refl

none_in : (set : ℕ → Bool) (runs : List (ℕ × ℕ)) → ((b : ℕ) → set b ≡ false) → meets_any set runs ≡ false
none_in set [] none = refl
none_in set (run ∷ rest) none = or_from (meets set run.0 run.1) (meets_any set rest) (meets_none set run.0 run.1 (λ b low high. none b)) (none_in set rest none)

-- nothing meets the empty set
pub none_met : (made runs : List (ℕ × ℕ)) → made ≡ [] → meets_any (is_in made) runs ≡ false
none_met made runs empty = rw empty (none_in (is_in []) runs (λ b. refl))

-- the empty set with the fixed blocks has these alone
pub fixed_blocks : (made new runs : List (ℕ × ℕ)) → made ≡ [] → is_in new ≡ with_blocks (is_in made) runs → is_in new ≡ is_in runs
fixed_blocks made new runs empty more =
    let e : is_in new ≡ with_blocks (is_in []) runs = subst (λ (x : List (ℕ × ℕ)). is_in new ≡ with_blocks (is_in x) runs) empty more in
    e ∙ (λ k b. or-false (is_in runs b) k)
