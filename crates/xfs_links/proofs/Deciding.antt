-- The decision by places is the one that is due.
use Rattle.std.proofs.Common.{◌≡◌, ℕ, ◌<◌, ◌≤◌, ◌^◌, ◌==◌, ◌&&◌, ◌||◌, inl, inr, Bool, true, false, cond, List, [], ◌∷◌, ◌++◌, map, length, zero, suc, refl, sym, ◌∙◌, ap, subst, arith, Option, None, Some, IfSome, IsSome, MatchOption, slice_index_or, if◌then◌else◌}
use Rattle.std.specs.List.{list_any, filter, All}
use Rattle.std.specs.List.Sorted.{IsNonDecreasingBy}
use Rattle.std.proofs.lemmas.Bool.{cases_lt}
use Rattle.std.proofs.lemmas.Bool.Decides.{nat_tests}
use Rattle.std.proofs.lemmas.List.{get_or-map, get_or_default}
use Rattle.std.proofs.Math.ListN.{length-map}
use Rattle.xfs_dirdata.specs.declared.records.EntryRec.{EntryRec}
use Rattle.xfs_links.specs.declared.records.NodeRec.{NodeRec}
use Rattle.xfs_links.specs.declared.candidates.Candidate.{Candidate}
use Rattle.xfs_links.specs.declared.walk.Attached.{Attached}
use Rattle.xfs_links.specs.Entries.{is_kept_node, is_directory_number, node_number, is_directory_at_place, AreFiles, AreEntries, DirectoriesAscend, passes, firsts, same_name, candidate_entries}
use Rattle.xfs_links.specs.Walk.{attached_parent}
use Rattle.xfs_links.specs.Connected.{attached, staying, cleared_entries, parents, lost_of, named_orphans, attached_directories, kept_entries}
use Rattle.xfs_links.specs.Places.{candidate_entry, no_entry, IsPlacedCandidate, attached_numbers, parent_at, stays_at, staying_at, cleared_at}
use Rattle.xfs_links.specs.Private.Decision.{IsDecision}
use Rattle.xfs_links.proofs.Files.{number_rises, directory_at}
use Rattle.xfs_links.proofs.Joined.{attached_is, attached_in, attached_places, staying_is, cleared_is, cleared_all, parents_is, lost_is, named_orphans_is, above_low, lost_low}
use Rattle.xfs_links.proofs.Renaming.{AreIn}

-- a directory is kept
pub kept_directory : (files : List NodeRec) (n : ℕ) → is_directory_number files n ≡ true → is_kept_node files n ≡ true
kept_directory [] n h = cc
kept_directory (f ∷ fs) n h = either (f.ino == n) (f.kind == 4) (is_directory_number fs n) refl (kept_directory fs n) h
  where
    either : (p q r : Bool) → is_directory_number fs n ≡ r → (is_directory_number fs n ≡ true → is_kept_node fs n ≡ true) → ((p && q) || r) ≡ true → (p || is_kept_node fs n) ≡ true
    either true q r e k h = refl
    either false q r e k h = k (e ∙ h)

-- the numbers of files are low
kept_low : (files : List NodeRec) (n : ℕ) → All (λ (f : NodeRec). f.ino < 2 ^ 32) files → is_kept_node files n ≡ true → n < 2 ^ 32
kept_low [] n a h = cc
kept_low (f ∷ fs) n a h = either (f.ino == n) refl (kept_low fs n (λ k d l. a (suc k) d (omega arith)))
  where
    either : (t : Bool) → (f.ino == n) ≡ t → (is_kept_node fs n ≡ true → n < 2 ^ 32) → n < 2 ^ 32
    either true e k = let same : f.ino ≡ n = grind (arith, nat_tests) in subst (λ r. r < 2 ^ 32) same (a 0 f (omega arith))
    either false e k = k (sym (ap (λ r. r || is_kept_node fs n) e) ∙ h)

pub root_low : (files : List NodeRec) (root : ℕ) → AreFiles files → is_directory_number files root ≡ true → root < 2 ^ 32
root_low files root a h = kept_low files root a.low (kept_directory files root h)

pub entries_known : (files : List NodeRec) (entries : List EntryRec) → AreEntries files entries → All (λ (e : EntryRec). is_kept_node files e.dir ≡ true) entries
entries_known files entries a k d l = kept_directory files (slice_index_or entries k d).dir (a.known k d l)

pub root_found : (files : List NodeRec) (root : ℕ) (o : Option ℕ) → is_directory_number files root ≡ true → MatchOption o (is_kept_node files root ≡ false) (λ p. (p < length files) × (node_number files p ≡ root)) → IsSome o
root_found files root None h m = absurd (clash (sym m ∙ kept_directory files root h))
  where
    clash : false ≡ true → ⊥
    clash e = cc
root_found files root (Some p) h m = refl

pub root_at : (files : List NodeRec) (root p : ℕ) (o : Option ℕ) → MatchOption o (is_kept_node files root ≡ false) (λ p. (p < length files) × (node_number files p ≡ root)) → o ≡ Some p → (p < length files) × (node_number files p ≡ root)
root_at files root p None m e = cc
root_at files root p (Some q) m e = let s : q ≡ p = cc in subst (λ r. (r < length files) × (node_number files r ≡ root)) s m

pub root_directory : (files : List NodeRec) (root p : ℕ) → AreFiles files → is_directory_number files root ≡ true → (p < length files) × (node_number files p ≡ root) → is_directory_at_place files p ≡ true
root_directory files root p a h k = sym (directory_at 0 files p a.ascend k.0) ∙ ap (is_directory_number files) k.1 ∙ h

-- the directories of the candidates rise
group_after : (low high : ℕ) (es : List EntryRec) → DirectoriesAscend high es → low ≤ high → DirectoriesAscend low es
group_after low high [] g h = tt
group_after low high (e ∷ es) g h = (omega (arith, g.0), g.1)

group_filter : (p : EntryRec → Bool) (low : ℕ) (es : List EntryRec) → DirectoriesAscend low es → DirectoriesAscend low (filter p es)
group_filter p low [] g = tt
group_filter p low (e ∷ es) g = either (p e) (group_filter p e.dir es g.1)
  where
    either : (t : Bool) → DirectoriesAscend e.dir (filter p es) → DirectoriesAscend low (cond t (e ∷ filter p es) (filter p es))
    either true h = (g.0, h)
    either false h = group_after low e.dir (filter p es) h g.0

group_firsts : (low : ℕ) (met es : List EntryRec) → DirectoriesAscend low es → DirectoriesAscend low (firsts met es)
group_firsts low met [] g = tt
group_firsts low met (e ∷ es) g = either (list_any (λ f. same_name f e) met) (group_firsts e.dir met es g.1) (group_firsts e.dir (met ++ e ∷ []) es g.1)
  where
    either : (t : Bool) → DirectoriesAscend e.dir (firsts met es) → DirectoriesAscend e.dir (firsts (met ++ e ∷ []) es) → DirectoriesAscend low (if t then firsts met es else (e ∷ firsts (met ++ e ∷ []) es))
    either true h k = group_after low e.dir (firsts met es) h g.0
    either false h k = (g.0, k)

group_low : (low : ℕ) (es : List EntryRec) (k : ℕ) → DirectoriesAscend low es → k < length es → low ≤ (slice_index_or es k no_entry).dir
group_low low [] k g h = absurd (omega arith)
group_low low (e ∷ es) zero g h = g.0
group_low low (e ∷ es) (suc k) g h = omega (arith, g.0, group_low e.dir es k g.1 (omega arith))

group_rises : (low : ℕ) (es : List EntryRec) (i j : ℕ) → DirectoriesAscend low es → i ≤ j → j < length es → (slice_index_or es i no_entry).dir ≤ (slice_index_or es j no_entry).dir
group_rises low [] i j g l h = absurd (omega arith)
group_rises low (e ∷ es) zero zero g l h = omega arith
group_rises low (e ∷ es) zero (suc j) g l h = group_low e.dir es j g.1 (omega arith)
group_rises low (e ∷ es) (suc i) zero g l h = absurd (omega arith)
group_rises low (e ∷ es) (suc i) (suc j) g l h = group_rises e.dir es i j g.1 (omega arith) (omega arith)

pub candidates_rise : (files : List NodeRec) (entries : List EntryRec) (root : ℕ) (cs : List Candidate) → AreFiles files → AreEntries files entries → map (candidate_entry entries) cs ≡ candidate_entries files root entries → All (IsPlacedCandidate files entries) cs
    → IsNonDecreasingBy (λ (c : Candidate). c.directory) cs
candidates_rise files entries root cs a b is placed i j d l h =
    elim (cases_lt (slice_index_or cs j d).directory (slice_index_or cs i d).directory) [
      | inl f ↦ absurd (omega (arith, number_rises 0 files (slice_index_or cs j d).directory (slice_index_or cs i d).directory a.ascend f (placed i d (omega arith)).directory, dirs))
      | inr g ↦ g
    ]
  where
    of : (k : ℕ) → k < length cs → node_number files (slice_index_or cs k d).directory ≡ (slice_index_or (map (candidate_entry entries) cs) k no_entry).dir
    of k m = (placed k d m).of ∙ ap (λ (e : EntryRec). e.dir) (sym (get_or-map (candidate_entry entries) cs k d no_entry m))

    dirs : node_number files (slice_index_or cs i d).directory ≤ node_number files (slice_index_or cs j d).directory
    dirs = subst (λ n. n ≤ node_number files (slice_index_or cs j d).directory) (sym (of i (omega arith)))
        (subst (λ n. (slice_index_or (map (candidate_entry entries) cs) i no_entry).dir ≤ n) (sym (of j h))
        (subst (λ es. (slice_index_or es i no_entry).dir ≤ (slice_index_or es j no_entry).dir) (sym is)
        (group_rises 0 (candidate_entries files root entries) i j (group_firsts 0 [] (filter (passes files root) entries) (group_filter (passes files root) 0 entries b.group)) l
        (subst (λ (es : List EntryRec). j < length es) is (subst (λ n. j < n) (sym (length-map _ _)) h)))))

-- what stands by place keeps within the files
pub turn_inside : (n : ℕ) (s : List Attached) → AreIn n s → All (λ (a : Attached). a.directory < n) s
turn_inside n [] h k d l = absurd (omega arith)
turn_inside n (a ∷ s) h zero d l = h.0
turn_inside n (a ∷ s) h (suc k) d l = turn_inside n s h.2 k d (omega arith)

-- what holds of all candidates holds of those that stay
pub stay_placed : (files : List NodeRec) (entries : List EntryRec) (above : List (Option ℕ)) (P : Candidate → Type 0) (before cs : List Candidate) → All P cs → All P (staying_at files above before cs)
stay_placed files entries above P before [] h = h
stay_placed files entries above P before (c ∷ cs) h = either (stays_at files above before c) (stay_placed files entries above P (before ++ c ∷ []) cs (λ k d l. h (suc k) d (omega arith))) (stay_placed files entries above P before cs (λ k d l. h (suc k) d (omega arith)))
  where
    first : All P (staying_at files above (before ++ c ∷ []) cs) → All P (c ∷ staying_at files above (before ++ c ∷ []) cs)
    first e zero d l = h 0 d (omega arith)
    first e (suc k) d l = e k d (omega arith)

    either : (t : Bool) → All P (staying_at files above (before ++ c ∷ []) cs) → All P (staying_at files above before cs) → All P (if t then (c ∷ staying_at files above (before ++ c ∷ []) cs) else staying_at files above before cs)
    either true e f = first e
    either false e f = f

pub decided : (files : List NodeRec) (entries : List EntryRec) (root place : ℕ) (cs stay kept : List Candidate) (turn : List Attached) (above : List (Option ℕ)) (a : AreFiles files)
    → map (candidate_entry entries) cs ≡ candidate_entries files root entries → All (IsPlacedCandidate files entries) cs → (place < length files) × (node_number files place ≡ root) → is_directory_at_place files place ≡ true
    → turn ≡ attached_places files a.ascend entries cs place → length above ≡ length files → ((p : ℕ) → p < length files → parent_at above p ≡ attached_parent turn p)
    → stay ≡ staying_at files above [] cs → kept ≡ cleared_at files entries root above stay → IsDecision files entries root above kept
decided files entries root place cs stay kept turn above a is placed at dir turned size told stays clears = record {
  size = size;
  inside = inside;
  placed = placed_kept;
  low = lost_low files a.ascend entries s within above told_all root kept placed_kept;
  kept_is = sym kept_all;
  pairs_are = sym (ap (parents files) attached_all ∙ parents_is files a.ascend entries s within above told_all);
  orphans_are = sym (ap (λ (r : List Attached). named_orphans files root r (kept_entries files entries root)) attached_all ∙ ap (named_orphans files root (map (attached_numbers files) s)) kept_all
      ∙ named_orphans_is files a.ascend entries s within above told_all root kept placed_kept);
  lost_is = sym (ap (lost_of files root) kept_all ∙ lost_is files a.ascend entries s within above told_all root kept placed_kept);
}
  where
    s : List Attached
    s = attached_places files a.ascend entries cs place

    within : AreIn (length files) (attached_places files a.ascend entries cs place)
    within = attached_in files a.ascend entries cs place placed at.0 dir

    told_all : (p : ℕ) → p < length files → parent_at above p ≡ attached_parent (attached_places files a.ascend entries cs place) p
    told_all p l = told p l ∙ ap (λ (r : List Attached). attached_parent r p) turned

    attached_all : attached_directories files entries root ≡ map (attached_numbers files) (attached_places files a.ascend entries cs place)
    attached_all = ap (λ (es : List EntryRec). attached files es root) (sym is) ∙ ap (attached files (map (candidate_entry entries) cs)) (sym at.1) ∙ attached_is files a.ascend entries cs place placed at.0 dir

    placed_stay : All (IsPlacedCandidate files entries) stay
    placed_stay = subst (λ (r : List Candidate). All (IsPlacedCandidate files entries) r) (sym stays)
        (stay_placed files entries above (IsPlacedCandidate files entries) [] cs placed)

    placed_kept : All (IsPlacedCandidate files entries) kept
    placed_kept = subst (λ (r : List Candidate). All (IsPlacedCandidate files entries) r) (sym clears)
        (cleared_all files a.ascend entries (attached_places files a.ascend entries cs place) within above told_all (IsPlacedCandidate files entries) root stay placed_stay)

    none_placed : All (IsPlacedCandidate files entries) []
    none_placed k d l = absurd (omega arith)

    kept_all : kept_entries files entries root ≡ map (candidate_entry entries) kept
    kept_all = ap (λ (r : List Attached). cleared_entries files root r (staying files r [] (candidate_entries files root entries))) attached_all
        ∙ ap (λ (es : List EntryRec). cleared_entries files root (map (attached_numbers files) (attached_places files a.ascend entries cs place)) (staying files (map (attached_numbers files) (attached_places files a.ascend entries cs place)) [] es)) (sym is)
        ∙ ap (cleared_entries files root (map (attached_numbers files) (attached_places files a.ascend entries cs place)))
        (staying_is files a.ascend entries (attached_places files a.ascend entries cs place) within above told_all [] cs none_placed placed ∙ ap (map (candidate_entry entries)) (sym stays))
        ∙ cleared_is files a.ascend entries (attached_places files a.ascend entries cs place) within above told_all root stay placed_stay
        ∙ ap (map (candidate_entry entries)) (sym clears)

    inside : All (λ (o : Option ℕ). IfSome o (λ p. p < length files)) above
    inside k d l = subst (λ (o : Option ℕ). IfSome o (λ p. p < length files)) (get_or_default above k None d l)
        (above_low files a.ascend entries (attached_places files a.ascend entries cs place) within above told_all k (subst (λ n. k < n) size l))
