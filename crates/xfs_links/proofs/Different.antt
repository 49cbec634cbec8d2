-- The entries that stay in one directory have different names.
use Rattle.std.proofs.Common.{◌≡◌, ℕ, suc, ◌==◌, ◌&&◌, ◌||◌, Bool, true, false, not, List, [], ◌∷◌, ◌++◌, refl, sym, ◌∙◌, arith, if◌then◌else◌, AllPairs}
use Rattle.std.specs.List.{list_any, filter, All}
use Rattle.std.specs.Str.{bytes_eq}
use Rattle.std.proofs.lemmas.Bool.Decides.{nat_tests}
use Rattle.std.proofs.lemmas.List.Elements.{All-nil, All-cons, All-head, All-tail, All-append, All-filter, All-weaker}
use Rattle.std.proofs.lemmas.List.Folds.{list_any-append}
use Rattle.std.proofs.lemmas.List.Kept.{AllPairs-cons, AllPairs-filter}
use Rattle.xfs_dirdata.specs.declared.records.EntryRec.{EntryRec}
use Rattle.xfs_links.specs.declared.records.NodeRec.{NodeRec}
use Rattle.xfs_links.specs.declared.walk.Attached.{Attached}
use Rattle.xfs_links.specs.Entries.{passes, same_name, firsts, candidate_entries}
use Rattle.xfs_links.specs.Connected.{stays, staying, is_orphan, is_in_the_way, cleared_entries, attached_directories, kept_entries}
use Rattle.xfs_links.proofs.Tests.{same_test, same_bytes, not_first}
use Rattle.xfs_links.specs.Together.{NamesDiffer}

-- lists of pairs
pub pairs_nil : {X : Type 0} (R : X → X → Type 0) → AllPairs R []
pairs_nil R i j d l h = absurd (omega arith)

pub pairs_head : {X : Type 0} (R : X → X → Type 0) (x : X) (xs : List X) → AllPairs R (x ∷ xs) → All (R x) xs
pairs_head R x xs h k d l = h 0 (suc k) d (omega arith) (omega arith)

pub pairs_tail : {X : Type 0} (R : X → X → Type 0) (x : X) (xs : List X) → AllPairs R (x ∷ xs) → AllPairs R xs
pairs_tail R x xs h i j d l k = h (suc i) (suc j) d (omega arith) (omega arith)

pub pairs_append : {X : Type 0} (R : X → X → Type 0) (xs ys : List X) → AllPairs R xs → AllPairs R ys → All (λ x. All (R x) ys) xs → AllPairs R (xs ++ ys)
pairs_append R [] ys h k across = k
pairs_append R (x ∷ xs) ys h k across = AllPairs-cons R x (xs ++ ys) (All-append (R x) xs ys (pairs_head R x xs h) (All-head (λ x. All (R x) ys) x xs across))
    (pairs_append R xs ys (pairs_tail R x xs h) k (All-tail (λ x. All (R x) ys) x xs across))

-- what holds of all entries holds of those that stay
pub all_firsts : (P : EntryRec → Type 0) (met es : List EntryRec) → All P es → All P (firsts met es)
all_firsts P met [] h = h
all_firsts P met (e ∷ es) h = either (list_any (λ f. same_name f e) met) (all_firsts P met es (All-tail P e es h)) (all_firsts P (met ++ e ∷ []) es (All-tail P e es h))
  where
    either : (t : Bool) → All P (firsts met es) → All P (firsts (met ++ e ∷ []) es) → All P (if t then firsts met es else (e ∷ firsts (met ++ e ∷ []) es))
    either true p q = p
    either false p q = All-cons P e (firsts (met ++ e ∷ []) es) (All-head P e es h) q

pub all_staying : (P : EntryRec → Type 0) (files : List NodeRec) (s : List Attached) (before es : List EntryRec) → All P es → All P (staying files s before es)
all_staying P files s before [] h = h
all_staying P files s before (e ∷ es) h = either (stays files s before e) (all_staying P files s (before ++ e ∷ []) es (All-tail P e es h)) (all_staying P files s before es (All-tail P e es h))
  where
    either : (t : Bool) → All P (staying files s (before ++ e ∷ []) es) → All P (staying files s before es) → All P (if t then (e ∷ staying files s (before ++ e ∷ []) es) else staying files s before es)
    either true p q = All-cons P e (staying files s (before ++ e ∷ []) es) (All-head P e es h) p
    either false p q = q

pub all_cleared : (P : EntryRec → Type 0) (files : List NodeRec) (root : ℕ) (s : List Attached) (es : List EntryRec) → All P es → All P (cleared_entries files root s es)
all_cleared P files root s es h = either (list_any (λ f. is_orphan files root s es f.ino) files)
  where
    either : (t : Bool) → All P (if t then filter (λ e. not (is_in_the_way files root e)) es else es)
    either true = All-filter (λ (e : EntryRec). not (is_in_the_way files root e)) P es h
    either false = h

pub all_kept : (P : EntryRec → Type 0) (files : List NodeRec) (entries : List EntryRec) (root : ℕ) → All P entries → All P (kept_entries files entries root)
all_kept P files entries root h = all_cleared P files root (attached_directories files entries root) (staying files (attached_directories files entries root) [] (candidate_entries files root entries))
    (all_staying P files (attached_directories files entries root) [] (candidate_entries files root entries) (all_firsts P [] (filter (passes files root) entries) (All-filter (passes files root) P entries h)))

-- an entry whose name is not met
abbrev pub IsOff : List EntryRec → EntryRec → Type 0
IsOff met e = list_any (λ f. same_name f e) met ≡ false

off_before : (met : List EntryRec) (e x : EntryRec) → IsOff (met ++ e ∷ []) x → IsOff met x
off_before met e x h = not_first (list_any (λ f. same_name f x) met) (list_any (λ f. same_name f x) (e ∷ [])) (sym (list_any-append (λ f. same_name f x) met (e ∷ [])) ∙ h)

off_last : (met : List EntryRec) (e x : EntryRec) → IsOff (met ++ e ∷ []) x → NamesDiffer e x
off_last met e x h dirs names = never (e.dir == x.dir) (bytes_eq e.name x.name) (same_test e.dir x.dir dirs) (same_bytes e.name x.name names)
    (right (list_any (λ f. same_name f x) met) (same_name e x) (sym (list_any-append (λ f. same_name f x) met (e ∷ [])) ∙ h))
  where
    right : (p q : Bool) → (p || (q || false)) ≡ false → q ≡ false
    right p q k = grind (arith, nat_tests)

    never : (p q : Bool) → p ≡ true → q ≡ true → (p && q) ≡ false → ⊥
    never p q a b k = grind (arith, nat_tests)

firsts_off : (met es : List EntryRec) → All (IsOff met) (firsts met es)
firsts_off met [] = All-nil (IsOff met)
firsts_off met (e ∷ es) = either (list_any (λ f. same_name f e) met) refl (firsts_off met es) (firsts_off (met ++ e ∷ []) es)
  where
    either : (t : Bool) → list_any (λ f. same_name f e) met ≡ t → All (IsOff met) (firsts met es) → All (IsOff (met ++ e ∷ [])) (firsts (met ++ e ∷ []) es)
        → All (IsOff met) (if t then firsts met es else (e ∷ firsts (met ++ e ∷ []) es))
    either true k p q = p
    either false k p q = All-cons (IsOff met) e (firsts (met ++ e ∷ []) es) k (All-weaker (IsOff (met ++ e ∷ [])) (IsOff met) (λ x h. off_before met e x h) (firsts (met ++ e ∷ []) es) q)

firsts_differ : (met es : List EntryRec) → AllPairs NamesDiffer (firsts met es)
firsts_differ met [] = pairs_nil NamesDiffer
firsts_differ met (e ∷ es) = either (list_any (λ f. same_name f e) met) (firsts_differ met es) (firsts_differ (met ++ e ∷ []) es)
  where
    either : (t : Bool) → AllPairs NamesDiffer (firsts met es) → AllPairs NamesDiffer (firsts (met ++ e ∷ []) es) → AllPairs NamesDiffer (if t then firsts met es else (e ∷ firsts (met ++ e ∷ []) es))
    either true p q = p
    either false p q = AllPairs-cons NamesDiffer e (firsts (met ++ e ∷ []) es)
        (All-weaker (IsOff (met ++ e ∷ [])) (NamesDiffer e) (λ x h. off_last met e x h) (firsts (met ++ e ∷ []) es) (firsts_off (met ++ e ∷ []) es)) q

-- what holds of all pairs of entries holds of those that stay
pairs_staying : (R : EntryRec → EntryRec → Type 0) (files : List NodeRec) (s : List Attached) (before es : List EntryRec) → AllPairs R es → AllPairs R (staying files s before es)
pairs_staying R files s before [] h = h
pairs_staying R files s before (e ∷ es) h = either (stays files s before e) (pairs_staying R files s (before ++ e ∷ []) es (pairs_tail R e es h)) (pairs_staying R files s before es (pairs_tail R e es h))
  where
    either : (t : Bool) → AllPairs R (staying files s (before ++ e ∷ []) es) → AllPairs R (staying files s before es) → AllPairs R (if t then (e ∷ staying files s (before ++ e ∷ []) es) else staying files s before es)
    either true p q = AllPairs-cons R e (staying files s (before ++ e ∷ []) es) (all_staying (R e) files s (before ++ e ∷ []) es (pairs_head R e es h)) p
    either false p q = q

pairs_cleared : (R : EntryRec → EntryRec → Type 0) (files : List NodeRec) (root : ℕ) (s : List Attached) (es : List EntryRec) → AllPairs R es → AllPairs R (cleared_entries files root s es)
pairs_cleared R files root s es h = either (list_any (λ f. is_orphan files root s es f.ino) files)
  where
    either : (t : Bool) → AllPairs R (if t then filter (λ e. not (is_in_the_way files root e)) es else es)
    either true = AllPairs-filter R (λ (e : EntryRec). not (is_in_the_way files root e)) es h
    either false = h

pub kept_differ : (files : List NodeRec) (entries : List EntryRec) (root : ℕ) → AllPairs NamesDiffer (kept_entries files entries root)
kept_differ files entries root = pairs_cleared NamesDiffer files root (attached_directories files entries root) (staying files (attached_directories files entries root) [] (candidate_entries files root entries))
    (pairs_staying NamesDiffer files (attached_directories files entries root) [] (candidate_entries files root entries) (firsts_differ [] (filter (passes files root) entries)))
