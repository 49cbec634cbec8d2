-- A small volume of claims, to try what is guarded: a header at block 0 and a log of eight blocks from 40 on, a recorded cluster at
-- 16 and a scanned one at 20, a file 7 in the first and others beside it.
use Rattle.std.specs.Prelude.{ℕ, true, false, List, [], ◌∷◌}
use Rattle.xfs_geom.specs.declared.records.Run.{Run}
use Rattle.xfs_collections.specs.Blocks.{is_in}
use Rattle.xfs_volume.specs.declared.clusters.ClusterRec.{ClusterRec}
use Rattle.xfs_claims.specs.Spans.{spans_of}
use Rattle.xfs_claims.specs.declared.claimants.Claims.{Claims}
use Rattle.xfs_claims.specs.declared.claimants.FileClaim.{FileClaim}
use Rattle.xfs_views.specs.Guarded.{IsGuarded}

abbrev pub blocks : ℕ → ℕ → Run
blocks start count = record { start = start; count = count; owner = 0; offset_word = 0 }

abbrev pub recorded : ℕ → ClusterRec
recorded block = record { block = block; recorded = true }

abbrev pub scanned : ℕ → ClusterRec
scanned block = record { block = block; recorded = false }

-- a file with this number, in the cluster at a block, and the runs that it claims
abbrev pub claim : ℕ → ℕ → List Run → FileClaim
claim ino cluster runs = record { ino = ino; cluster = cluster; runs = runs }

abbrev pub header_and_log : List Run
header_and_log = blocks 0 1 ∷ blocks 40 8 ∷ []

abbrev pub two_clusters : List ClusterRec
two_clusters = recorded 16 ∷ scanned 20 ∷ []

-- the claims of some clusters, that of the root at 16 among them, and some files; and of the two clusters
abbrev pub claims_with : List ClusterRec → List FileClaim → Claims
claims_with clusters files = record { root = 16; fixed = header_and_log; clusters = clusters; files = files }

abbrev pub small_claims : List FileClaim → Claims
small_claims files = claims_with two_clusters files

-- a file of claims is guarded in them
abbrev pub IsGuardedIn : Claims → FileClaim → Type 0
IsGuardedIn claims file = IsGuarded (is_in (spans_of claims.fixed)) claims.clusters claims.files file
