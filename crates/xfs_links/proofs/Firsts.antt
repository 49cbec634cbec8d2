-- Candidates, one entry after the other.
use Rattle.std.proofs.Common.{◌≡◌, ℕ, ◌+◌, ◌<◌, ◌≤◌, ◌==◌, ◌&&◌, ◌||◌, Bool, true, false, not, cond, List, [], ◌∷◌, ◌++◌, map, length, drop, suc, refl, sym, ◌∙◌, ap, subst, arith, eq-eqb, add-one, append_assoc, drop-cons, slice_index_or}
use denote.Bor.{Bor}
use Rattle.std.specs.List.{list_any, filter}
use Rattle.std.specs.Str.{bytes_eq}
use Rattle.std.specs.Bool.{OnFalse}
use Rattle.std.specs.Ordering.{is_eq, nat_cmp, ordering_then}
use Rattle.std.specs.Cmp.Lexicographic.{bytes_decides}
use Rattle.xfs_word.specs.Hash.{hash_of}
use Rattle.std.specs.Cmp.{both_tied, unsigned_ties}
use Rattle.std.proofs.lemmas.Map.Text.{is_eq-slice_cmp}
use Rattle.std.proofs.lemmas.Bool.Decides.{nat_tests}
use Rattle.std.proofs.lemmas.List.Folds.{list_any-append}
use Rattle.std.proofs.lemmas.List.{append-nil, drop_all, get_or_default}
use Rattle.xfs_dirdata.specs.declared.records.EntryRec.{EntryRec}
use Rattle.xfs_links.specs.declared.records.NodeRec.{NodeRec}
use Rattle.xfs_links.specs.declared.candidates.Candidate.{Candidate}
use Rattle.xfs_links.specs.Entries.{passes, firsts, same_name}
use Rattle.xfs_links.specs.Places.{candidate_entry, IsPlacedCandidate, IsPlacedAt, no_entry}
use Rattle.xfs_links.specs.Met.{name_cmp}

-- names with their hashes are one where neither comes first
pub names_tied : (a d : ℕ) (x y : Bor (List ℕ)) → is_eq (name_cmp (a, hash_of x.now, x) (d, hash_of y.now, y)) ≡ (a == d && bytes_eq x.now y.now)
names_tied a d x y = sym (both_tied (a == d && hash_of x.now == hash_of y.now) (bytes_eq x.now y.now) (ordering_then (nat_cmp a d) (nat_cmp (hash_of x.now) (hash_of y.now))) _
    (both_tied (a == d) (hash_of x.now == hash_of y.now) (nat_cmp a d) _ (unsigned_ties a d) (unsigned_ties (hash_of x.now) (hash_of y.now))) (sym (is_eq-slice_cmp x.now y.now)))
    ∙ without (a == d) (hash_of x.now == hash_of y.now) (bytes_eq x.now y.now) (λ t. eq-eqb (hash_of x.now) (hash_of y.now) (ap hash_of ((bytes_decides x.now y.now).0 t)))
  where
    without : (s h r : Bool) → (r ≡ true → h ≡ true) → ((s && h) && r) ≡ (s && r)
    without false h r t = refl
    without true true r t = refl
    without true false false t = refl
    without true false true t = t refl

-- an entry that passes is the first of those that are left
pub next_passes : (files : List NodeRec) (root i : ℕ) (entries : List EntryRec) (e : EntryRec) → i < length entries
    → e ≡ slice_index_or entries i e → passes files root e ≡ true
    → filter (passes files root) (drop i entries) ≡ e ∷ filter (passes files root) (drop (i + 1) entries)
next_passes files root i entries e h is t =
    ap (filter (passes files root)) (drop-cons entries i e h) ∙ subst (λ k. cond (passes files root k) (k ∷ filter (passes files root) (drop (suc i) entries)) (filter (passes files root) (drop (suc i) entries)) ≡ e ∷ filter (passes files root) (drop (i + 1) entries)) is
    (ap (λ r. cond r (e ∷ filter (passes files root) (drop (suc i) entries)) (filter (passes files root) (drop (suc i) entries))) t ∙ ap (λ k. e ∷ filter (passes files root) (drop k entries)) (sym (add-one i)))

-- it is not new
pub firsts_met : (met es : List EntryRec) (e : EntryRec) → list_any (λ f. same_name f e) met ≡ true → firsts met (e ∷ es) ≡ firsts met es
firsts_met met es e t = ap (λ r. cond r (firsts met es) (e ∷ firsts (met ++ e ∷ []) es)) t

-- it is
pub firsts_new : (met es : List EntryRec) (e : EntryRec) → list_any (λ f. same_name f e) met ≡ false → firsts met (e ∷ es) ≡ e ∷ firsts (met ++ e ∷ []) es
firsts_new met es e t = ap (λ r. cond r (firsts met es) (e ∷ firsts (met ++ e ∷ []) es)) t

-- no entry is left
pub leads_end : (files : List NodeRec) (root i : ℕ) (entries xs due : List EntryRec) → length entries ≤ i
    → xs ++ firsts xs (filter (passes files root) (drop i entries)) ≡ due → xs ≡ due
leads_end files root i entries xs due past leads =
    sym (append-nil xs) ∙ ap (λ (es : List EntryRec). xs ++ firsts xs (filter (passes files root) es)) (sym (drop_all i entries past)) ∙ leads

pub map_last : (entries : List EntryRec) (cs : List Candidate) (c : Candidate) → map (candidate_entry entries) (cs ++ c ∷ []) ≡ map (candidate_entry entries) cs ++ candidate_entry entries c ∷ []
map_last entries [] c = refl
map_last entries (b ∷ cs) c = ap (λ (r : List EntryRec). candidate_entry entries b ∷ r) (map_last entries cs c)

-- a candidate at its entry's place is placed
pub placed_at : (files : List NodeRec) (entries : List EntryRec) (e : EntryRec) (i : ℕ) (c : Candidate) → i < length entries → e ≡ slice_index_or entries i e
    → IsPlacedAt files e i c → IsPlacedCandidate files entries c × (candidate_entry entries c ≡ e)
placed_at files entries e i c h is p = (
  record {
    entry = omega (arith, p.entry);
    directory = p.directory;
    target = p.target;
    of = p.of ∙ ap (λ (k : EntryRec). k.dir) (sym same);
    names = p.names ∙ ap (λ (k : EntryRec). k.ino) (sym same);
  },
  same,
)
  where
    same : candidate_entry entries c ≡ e
    same = ap (λ k. slice_index_or entries k no_entry) p.entry ∙ get_or_default entries i no_entry e h ∙ sym is

pub leads_met : (files : List NodeRec) (root i : ℕ) (entries met total : List EntryRec) (e : EntryRec) → i < length entries → e ≡ slice_index_or entries i e
    → passes files root e ≡ true → list_any (λ f. same_name f e) met ≡ true
    → met ++ firsts met (filter (passes files root) (drop i entries)) ≡ total → met ++ firsts met (filter (passes files root) (drop (i + 1) entries)) ≡ total
leads_met files root i entries met total e h is t m leads =
    ap (λ r. met ++ r) (sym (ap (firsts met) (next_passes files root i entries e h is t) ∙ firsts_met met (filter (passes files root) (drop (i + 1) entries)) e m)) ∙ leads

pub leads_new : (files : List NodeRec) (root i : ℕ) (entries met total : List EntryRec) (e : EntryRec) → i < length entries → e ≡ slice_index_or entries i e
    → passes files root e ≡ true → list_any (λ f. same_name f e) met ≡ false
    → met ++ firsts met (filter (passes files root) (drop i entries)) ≡ total
    → (met ++ e ∷ []) ++ firsts (met ++ e ∷ []) (filter (passes files root) (drop (i + 1) entries)) ≡ total
leads_new files root i entries met total e h is t m leads =
    append_assoc met (e ∷ []) (firsts (met ++ e ∷ []) (filter (passes files root) (drop (i + 1) entries)))
    ∙ ap (λ r. met ++ r) (sym (ap (firsts met) (next_passes files root i entries e h is t) ∙ firsts_new met (filter (passes files root) (drop (i + 1) entries)) e m)) ∙ leads

-- the candidate of a new entry, put behind those that are found
pub found_next : (files : List NodeRec) (root i : ℕ) (entries total : List EntryRec) (found : List Candidate) (e : EntryRec) (c : Candidate) → i < length entries → e ≡ slice_index_or entries i e
    → passes files root e ≡ true → IsPlacedAt files e i c → list_any (λ f. same_name f e) (map (candidate_entry entries) found) ≡ false
    → map (candidate_entry entries) found ++ firsts (map (candidate_entry entries) found) (filter (passes files root) (drop i entries)) ≡ total
    → map (candidate_entry entries) (found ++ c ∷ []) ++ firsts (map (candidate_entry entries) (found ++ c ∷ [])) (filter (passes files root) (drop (i + 1) entries)) ≡ total
found_next files root i entries total found e c h is t p m leads =
    subst (λ r. r ++ firsts r (filter (passes files root) (drop (i + 1) entries)) ≡ total)
    (sym (map_last entries found c ∙ ap (λ (k : EntryRec). map (candidate_entry entries) found ++ k ∷ []) (placed_at files entries e i c h is p).1))
    (leads_new files root i entries (map (candidate_entry entries) found) total e h is t m leads)

-- the names met, with one more
pub met_next : (files : List NodeRec) (i : ℕ) (entries : List EntryRec) (found : List Candidate) (e : EntryRec) (c : Candidate) (d : ℕ) (q : List ℕ) → i < length entries → e ≡ slice_index_or entries i e
    → IsPlacedAt files e i c
    → list_any (λ (f : EntryRec). f.dir == d && bytes_eq f.name q) (map (candidate_entry entries) (found ++ c ∷ [])) ≡ ((e.dir == d && bytes_eq e.name q) || list_any (λ (f : EntryRec). f.dir == d && bytes_eq f.name q) (map (candidate_entry entries) found))
met_next files i entries found e c d q h is p =
    ap (list_any test) (map_last entries found c ∙ ap (λ (k : EntryRec). map (candidate_entry entries) found ++ k ∷ []) (placed_at files entries e i c h is p).1)
    ∙ list_any-append test (map (candidate_entry entries) found) (e ∷ []) ∙ turned (list_any test (map (candidate_entry entries) found)) (test e)
  where
    test : EntryRec → Bool
    test = λ (f : EntryRec). f.dir == d && bytes_eq f.name q

    turned : (a b : Bool) → (a || (b || false)) ≡ (b || a)
    turned a b = grind (arith, nat_tests)

pub told_false : (b : Bool) (P : Type 0) → OnFalse b P → b ≡ false → P
told_false true P h e = cc
told_false false P h e = h

pub was_met : (fresh m : Bool) → fresh ≡ not m → fresh ≡ false → m ≡ true
was_met fresh m e f = grind (arith, nat_tests)

pub was_new : (fresh m : Bool) → fresh ≡ not m → fresh ≡ true → m ≡ false
was_new fresh m e f = grind (arith, nat_tests)
