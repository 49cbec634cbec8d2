-- Clusters and files that can claim their blocks have claims of which can be chosen what is kept.
use Rattle.std.proofs.Common.{◌≡◌, ℕ, Bool, true, false, ◌+◌, ◌-◌, ◌*◌, ◌^◌, ◌≤◌, ◌<◌, ◌==◌, nat_le, nat_lt, List, [], ◌∷◌, ◌++◌, map, Option, Some, refl, sym, ◌∙◌, ap, subst, arith, append-nil}
use Rattle.std.specs.List.{All, AllByRecursion, list_all, list_any}
use Rattle.std.specs.Option.{SomeIff}
use Rattle.std.proofs.lemmas.Bool.{and_from, false_from_ne_true, le-leb, lt-ltb, ne_eqb, or_from}
use Rattle.std.proofs.lemmas.List.Elements.{All-append, All-cons, All-map, All-nil, All-weaker, recursion_from_All}
use Rattle.xfs_geom.specs.Runs.{covers, runs_on}
use Rattle.xfs_disk.specs.Lists.{is_in_range}
use Rattle.xfs_word.specs.declared.extents.Extent.{Extent}
use Rattle.xfs_geom.specs.Volumes.{Volume, volume_of}
use Rattle.xfs_geom.specs.declared.geometry.Geometry.{Geometry}
use Rattle.xfs_geom.specs.declared.records.Run.{Run}
use Rattle.xfs_volume.specs.declared.clusters.ClusterRec.{ClusterRec}
use Rattle.xfs_volume.specs.declared.files.FileRec.{FileRec}
use Rattle.xfs_views.specs.xfs_space.Owners.{attribute_flag, runs_of_blocks, extent_run, file_runs, new_run, tree_flag}
use Rattle.xfs_views.specs.xfs_space.Parts.{HasLawfulForks}
use Rattle.xfs_views.specs.xfs_space.Private.Places.{IsPlacedExtent}
use Rattle.xfs_views.proofs.xfs_space.Lawful.{placed}
use Rattle.xfs_views.proofs.xfs_space.RecordedMaps.{group_inside}
use Rattle.xfs_claims.specs.declared.claimants.Claims.{Claims}
use Rattle.xfs_claims.specs.declared.claimants.FileClaim.{FileClaim}
use Rattle.xfs_claims.specs.Keeping.{EndsLow, IsClaim}
use Rattle.xfs_claims.specs.Ranks.{AreDifferent, first_block, claimed_number}
use Rattle.xfs_claims.specs.Spans.{SpansApart, IsRun, spans_apart, span_pair, spans_of}
use Rattle.xfs_place.specs.Choice.{one_if}
use Rattle.xfs_place.specs.Claims as Place
use Rattle.xfs_place.specs.Wanted as Wanted
use Rattle.xfs_place.proofs.AllClaims.{all_apart, all_each, is_volume}
use Rattle.xfs_place.proofs.Ordered.{on_first}
use Rattle.xfs_views.specs.Claimed.{claims_in, file_claim}
use Rattle.xfs_kinds.specs.FixedRuns.{fixed_runs}
use Rattle.xfs_salvage.specs.Claimable.{AscendClaiming, AscendWithin, CanBeSalvaged, CanClaim}
use Rattle.xfs_salvage.proofs.Apart.{apart_by_blocks}

-- clusters that ascend end low, and differ
pub ends_low : (top low : ℕ) (cs : List ClusterRec) → top < 2 ^ 63 → AscendWithin top low cs → All (λ (c : ClusterRec). EndsLow c.block) cs
ends_low top low [] small up = All-nil (λ (c : ClusterRec). EndsLow c.block)
ends_low top low (c ∷ cs) small up =
    let end = up.1 in
    All-cons (λ (x : ClusterRec). EndsLow x.block) c cs (omega (arith, end, small)) (ends_low top (c.block + 4) cs small up.2)

none_so_low : (top low n : ℕ) (cs : List ClusterRec) → n < low → AscendWithin top low cs → list_any (λ (c : ClusterRec). first_block c == n) cs ≡ false
none_so_low top low n [] less up = refl
none_so_low top low n (c ∷ cs) less up =
    let first = up.0 in
    or_from (c.block == n) (list_any (λ (x : ClusterRec). first_block x == n) cs) (ne_eqb c.block n (λ e. omega (arith, e, first, less)))
    (none_so_low top (c.block + 4) n cs (omega (arith, first, less)) up.2)

pub clusters_differ : (top low : ℕ) (cs : List ClusterRec) → AscendWithin top low cs → AreDifferent first_block cs
clusters_differ top low [] up = tt
clusters_differ top low (c ∷ cs) up = (none_so_low top (c.block + 4) c.block cs (omega arith) up.2, clusters_differ top (c.block + 4) cs up.2)

-- so do files that stand by number
no_file_below : (v : Volume) (low n : ℕ) (fs : List FileRec) → n < low → AscendClaiming v low fs → list_any (λ (f : FileClaim). claimed_number f == n) (map (file_claim v) fs) ≡ false
no_file_below v low n [] less up = refl
no_file_below v low n (f ∷ fs) less up =
    let first = up.0 in
    or_from (f.ino == n) (list_any (λ (x : FileClaim). claimed_number x == n) (map (file_claim v) fs)) (ne_eqb f.ino n (λ e. omega (arith, e, first, less)))
    (no_file_below v (f.ino + 1) n fs (omega (arith, first, less)) up.2)

pub files_differ : (v : Volume) (low : ℕ) (fs : List FileRec) → AscendClaiming v low fs → AreDifferent claimed_number (map (file_claim v) fs)
files_differ v low [] up = tt
files_differ v low (f ∷ fs) up = (no_file_below v (f.ino + 1) f.ino fs (omega arith) up.2, files_differ v (f.ino + 1) fs up.2)

-- the blocks of an extent, and a single block, are few and low
extent_is_run : (g : Geometry) (ino flag : ℕ) (e : Extent) → IsPlacedExtent (volume_of g) e → IsRun (extent_run (volume_of g) ino flag e)
extent_is_run g ino flag e at =
    let inside = group_inside (volume_of g) _ at.group g.shape.groups.last in
    let end = at.inside in
    let small = g.shape.groups.small in (at.some, omega (arith, inside, end, small))

block_is_run : (g : Geometry) (ino flag block : ℕ) → block < g.dblocks → IsRun (new_run block 1 ino flag)
block_is_run g ino flag block inside = let small = g.shape.groups.small in (omega arith, omega (arith, inside, small))

-- what a file claims are runs
pub runs_are : (g : Geometry) (f : FileRec) → HasLawfulForks (volume_of g) f → All IsRun (file_runs (volume_of g) f)
runs_are g f is =
    let v : Volume = volume_of g in
    let extents : List Run = map (extent_run v f.ino 0) f.extents in
    let attributes : List Run = map (extent_run v f.ino attribute_flag) f.rest.attr_extents in
    All-append IsRun (extents ++ attributes) (runs_of_blocks f.ino tree_flag f.rest.tree)
    (All-append IsRun extents attributes (of_fork 0 f.extents (placed v f.ino f.extents is.extents)) (of_fork attribute_flag f.rest.attr_extents (placed v f.ino f.rest.attr_extents is.attr_extents)))
    (All-map IsRun (λ block. new_run block 1 f.ino tree_flag) f.rest.tree (All-weaker (λ block. block < g.dblocks) (λ block. IsRun (new_run block 1 f.ino tree_flag)) (block_is_run g f.ino tree_flag) f.rest.tree is.tree))
  where
    of_fork : (flag : ℕ) (es : List Extent) → All (IsPlacedExtent (volume_of g)) es → All IsRun (map (extent_run (volume_of g) f.ino flag) es)
    of_fork flag es all =
        All-map IsRun (extent_run (volume_of g) f.ino flag) es (All-weaker (IsPlacedExtent (volume_of g)) (λ e. IsRun (extent_run (volume_of g) f.ino flag e)) (extent_is_run g f.ino flag) es all)

pub files_claim : (g : Geometry) (low : ℕ) (fs : List FileRec) → AscendClaiming (volume_of g) low fs → All IsClaim (map (file_claim (volume_of g)) fs)
files_claim g low [] up = All-nil IsClaim
files_claim g low (f ∷ fs) up =
    All-cons IsClaim (file_claim (volume_of g) f) (map (file_claim (volume_of g)) fs) (record { runs = runs_are g f up.1.lies; apart = up.1.apart })
    (files_claim g (f.ino + 1) fs up.2)

-- runs of which none has a block of another are apart
none_twice : (r : Run) (rest : List Run) → 1 ≤ r.count → AllByRecursion (λ (s : Run). 1 ≤ s.count) rest → ((b : ℕ) → covers b r ≡ true → runs_on rest b ≡ 0)
    → list_all (spans_apart (span_pair r)) (spans_of rest) ≡ true
none_twice r [] some others none = refl
none_twice r (s ∷ rest) some others none =
    and_from (spans_apart (span_pair r) (span_pair s)) (list_all (spans_apart (span_pair r)) (spans_of rest))
    (apart_by_blocks (span_pair r) (span_pair s) some others.0
    (λ b low high. false_from_ne_true (is_in_range r.start r.count b) (λ on.
    let none_there : runs_on (s ∷ rest) b ≡ 0 = none b on in
    let sums = on_first s rest b in
    let one : one_if (covers b s) ≡ 1 = ap one_if (and_from (nat_le s.start b) (nat_lt b (s.start + s.count)) (le-leb s.start b low) (lt-ltb b (s.start + s.count) high)) in
    omega (arith, none_there, sums, one))))
    (none_twice r rest some others.1 (λ b on. let none_there : runs_on (s ∷ rest) b ≡ 0 = none b on in let sums = on_first s rest b in omega (arith, none_there, sums)))

pub apart_from_once : (rs : List Run) → AllByRecursion (λ (s : Run). 1 ≤ s.count) rs → ((b : ℕ) → runs_on rs b ≤ 1) → SpansApart (spans_of rs)
apart_from_once [] some once = tt
apart_from_once (r ∷ rest) some once = (
  none_twice r rest some.0 some.1 (λ b on.
      let upto : runs_on (r ∷ rest) b ≤ 1 = once b in
      let sums = on_first r rest b in
      let one : one_if (covers b r) ≡ 1 = ap one_if on in
      omega (arith, upto, sums, one)),
  apart_from_once rest some.1 (λ b. let upto : runs_on (r ∷ rest) b ≤ 1 = once b in let sums = on_first r rest b in omega (arith, upto, sums)),
)

-- the blocks with a fixed use
nothing_kept : (v : Volume) → Wanted.CanBeKept v []
nothing_kept v = record {
  each = All-nil (Place.IsClaimedRun v.dblocks);
  clear = All-nil (Wanted.IsOffFixed v);
  apart = record { once = λ block. let none : runs_on [] block ≡ 0 = refl in omega (arith, none) };
}

fixed_each : (g : Geometry) → All (Place.IsClaimedRun g.dblocks) (fixed_runs (volume_of g))
fixed_each g =
    subst (All (Place.IsClaimedRun g.dblocks)) (append-nil (fixed_runs (volume_of g)))
    (all_each (volume_of g) (is_volume (volume_of g) g.shape.groups g.shape.log_inside) [] (nothing_kept (volume_of g)))

pub fixed_are_runs : (g : Geometry) → All IsRun (fixed_runs (volume_of g))
fixed_are_runs g =
    All-weaker (Place.IsClaimedRun g.dblocks) IsRun (λ r is. let end = is.inside in let small = g.shape.groups.small in (is.some, omega (arith, end, small))) (fixed_runs (volume_of g)) (fixed_each g)

pub fixed_apart : (g : Geometry) → SpansApart (spans_of (fixed_runs (volume_of g)))
fixed_apart g =
    let all : Place.ClaimedOnce (fixed_runs (volume_of g)) =
    subst Place.ClaimedOnce (append-nil (fixed_runs (volume_of g))) (all_apart (volume_of g) (is_volume (volume_of g) g.shape.groups g.shape.log_inside) [] (nothing_kept (volume_of g))) in
    apart_from_once (fixed_runs (volume_of g))
    (recursion_from_All (λ (s : Run). 1 ≤ s.count) (fixed_runs (volume_of g)) (All-weaker (Place.IsClaimedRun g.dblocks) (λ (s : Run). 1 ≤ s.count) (λ r is. is.some) (fixed_runs (volume_of g)) (fixed_each g)))
    all.once

-- what is asked of claims before it is chosen what is kept
pub record AreReady (claims : Claims) : Type 0 where
  pub clusters_end : All (λ (c : ClusterRec). EndsLow c.block) claims.clusters
  pub clusters_are : AreDifferent first_block claims.clusters
  pub fixed_runs_are : All IsRun claims.fixed
  pub fixed_are : SpansApart (spans_of claims.fixed)
  pub files_are : AreDifferent claimed_number claims.files
  pub files_can : All IsClaim claims.files

claims_ready : (g : Geometry) (clusters : List ClusterRec) (files : List FileRec) → CanBeSalvaged (volume_of g) clusters files → AreReady (claims_in (volume_of g) clusters files)
claims_ready g clusters files can =
    let small = g.shape.groups.small in
    record {
      clusters_end = ends_low g.dblocks 0 clusters (omega (arith, small)) can.clusters_lie;
      clusters_are = clusters_differ g.dblocks 0 clusters can.clusters_lie;
      fixed_runs_are = fixed_are_runs g;
      fixed_are = fixed_apart g;
      files_are = files_differ (volume_of g) 0 files can.files_claim;
      files_can = files_claim g 0 files can.files_claim;
    }

pub some_says : {T : Type 0} (P : Type 0) (value x : T) (o : Option T) → o ≡ Some x → SomeIff o P value → P × (x ≡ value)
some_says {T = T} P value x o is says = subst (λ (y : Option T). SomeIff y P value) is says

pub ready : (g : Geometry) (clusters : List ClusterRec) (files : List FileRec) (claims : Claims) (o : Option Claims) → o ≡ Some claims
    → SomeIff o (CanBeSalvaged (volume_of g) clusters files) (claims_in (volume_of g) clusters files) → AreReady claims
ready g clusters files claims o is says =
    let both = some_says (CanBeSalvaged (volume_of g) clusters files) (claims_in (volume_of g) clusters files) claims o is says in
    subst AreReady (sym both.1) (claims_ready g clusters files both.0)
