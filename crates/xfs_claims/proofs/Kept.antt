-- What is kept of clusters and files, one after the other.
use Rattle.std.proofs.Common.{◌≡◌, ℕ, ◌+◌, ◌*◌, ◌≤◌, ◌<◌, List, [], ◌∷◌, map, drop, get_or, take, length, sym, ap, ◌∙◌, arith}
use Rattle.std.specs.List.{All, sum_by}
use Rattle.std.proofs.lemmas.List.{drop_all, drop_more, take_more, map-append}
use Rattle.std.proofs.lemmas.List.Sums.{sum_by-append, sum_by-cons}
use Rattle.xfs_claims.specs.declared.claimants.FileClaim.{FileClaim}
use Rattle.xfs_claims.specs.declared.claimants.Claims.{Claims}
use Rattle.xfs_claims.specs.declared.ranks.FilePlace.{FilePlace}
use Rattle.xfs_claims.specs.Keeping.{Holding, with_cluster, with_clusters, with_file, with_files}
use Rattle.xfs_claims.specs.Ranks.{recorded_clusters, scanned_clusters, recorded_files, scanned_files}
use Rattle.xfs_claims.specs.Private.Places.{file_at_place, IsFilePlace}
use Rattle.xfs_claims.specs.Private.Ranked.{with_both, kept_from}

-- the files at places that two lists have alike
pub same_files : (files files' : List FileClaim) (places places' : List FilePlace) (due : List FileClaim) → files ≡ files' → places ≡ places' → map (file_at_place files') places' ≡ due
    → map (file_at_place files) places ≡ due
same_files files files' places places' due same alike is = (λ k. map (file_at_place (same k)) (alike k)) ∙ is

pub same_places : (files files' : List FileClaim) (places places' : List FilePlace) → files ≡ files' → places ≡ places' → All (IsFilePlace files') places' → All (IsFilePlace files) places
same_places files files' places places' same alike all = rw (same, alike) all

-- the root's cluster, the recorded claims and the scanned ones are all
pub kept_by_rank : (claims : Claims) (held first second : Holding) (recorded scanned : List ℕ) (files others : List FileClaim) → recorded ≡ recorded_clusters claims → files ≡ recorded_files claims
    → scanned ≡ scanned_clusters claims → others ≡ scanned_files claims → first ≡ with_cluster held claims.root → second ≡ with_both first recorded files → with_both second scanned others ≡ kept_from held claims
kept_by_rank claims held first second recorded scanned files others a b c d root more =
    let all : with_both first recorded files ≡ with_both (with_cluster held claims.root) (recorded_clusters claims) (recorded_files claims) = λ k. with_both (root k) (a k) (b k) in
    λ k. with_both ((more ∙ all) k) (c k) (d k)

-- one more cluster
pub cluster_next : (held new whole : Holding) (clusters : List ℕ) (i : ℕ) → i < length clusters → new ≡ with_cluster held (get_or clusters i 0) → with_clusters held (drop i clusters) ≡ whole
    → with_clusters new (drop (i + 1) clusters) ≡ whole
cluster_next held new whole clusters i within more far =
    ap (λ (h : Holding). with_clusters h (drop (i + 1) clusters)) more ∙ (sym (ap (with_clusters held) (drop_more clusters i 0 within)) ∙ far)

pub clusters_end : (held whole : Holding) (clusters : List ℕ) (i : ℕ) → length clusters ≤ i → with_clusters held (drop i clusters) ≡ whole → held ≡ whole
clusters_end held whole clusters i past far = sym (ap (with_clusters held) (drop_all i clusters past)) ∙ far

-- and one more file
pub file_next : (at : FilePlace → FileClaim) (held new whole : Holding) (file : FileClaim) (places : List FilePlace) (i : ℕ) (d : FilePlace) → i < length places → file ≡ at (get_or places i d)
    → new ≡ with_file held file → with_files held (map at (drop i places)) ≡ whole → with_files new (map at (drop (i + 1) places)) ≡ whole
file_next at held new whole file places i d within is more far =
    ap (λ (h : Holding). with_files h (map at (drop (i + 1) places))) more
    ∙ (ap (λ (f : FileClaim). with_files (with_file held f) (map at (drop (i + 1) places))) is
    ∙ (sym (ap (λ (xs : List FilePlace). with_files held (map at xs)) (drop_more places i d within)) ∙ far))

pub files_end : (at : FilePlace → FileClaim) (held whole : Holding) (places : List FilePlace) (i : ℕ) → length places ≤ i → with_files held (map at (drop i places)) ≡ whole → held ≡ whole
files_end at held whole places i past far = sym (ap (λ (xs : List FilePlace). with_files held (map at xs)) (drop_all i places past)) ∙ far

counted_on : (old before now sum one both : ℕ) → both ≡ sum + one → before ≤ old + 2 * sum → now ≤ before + 2 * one → now ≤ old + 2 * both
counted_on old before now sum one both is few more = omega (arith, is, few, more)

plus_none : (a b : ℕ) → a ≡ b + 0 → a ≡ b
plus_none a b e = omega (arith, e)

-- the steps of one more file
pub file_counted : (at : FilePlace → FileClaim) (steps : FileClaim → ℕ) (old before now : ℕ) (file : FileClaim) (places : List FilePlace) (i : ℕ) (d : FilePlace) → i < length places
    → file ≡ at (get_or places i d) → before ≤ old + 2 * sum_by steps (map at (take i places)) → now ≤ before + 2 * steps file → now ≤ old + 2 * sum_by steps (map at (take (i + 1) places))
file_counted at steps old before now file places i d within is few more =
    let place = get_or places i d in
    let one : sum_by steps (at place ∷ []) ≡ steps file = plus_none _ _ (sum_by-cons steps (at place) []) ∙ sym (ap steps is) in
    let both : sum_by steps (map at (take (i + 1) places)) ≡ sum_by steps (map at (take i places)) + steps file =
    ap (λ (xs : List FilePlace). sum_by steps (map at xs)) (take_more places i d within)
    ∙ (ap (sum_by steps) (map-append at (take i places) (place ∷ [])) ∙ (sum_by-append steps (map at (take i places)) (at place ∷ [])
    ∙ ap (λ (n : ℕ). sum_by steps (map at (take i places)) + n) one)) in
    counted_on old before now _ _ _ both few more
