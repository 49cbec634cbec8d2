-- Orphans and their names, by place.
use Rattle.std.proofs.Common.{◌≡◌, ℕ, ◌+◌, ◌-◌, ◌<◌, ◌==◌, ◌&&◌, ◌||◌, Bool, true, false, not, cond, nat_lt, nat_le, List, [], ◌∷◌, length, take, suc, refl, sym, ◌∙◌, ap, arith, Option, Result, Ok, Err, IfOk, if◌then◌else◌, slice_index_or}
use Rattle.xfs_disk.specs.declared.failed.NoMemory.{NoMemory}
use Rattle.std.specs.List.{list_any, filter, range_with_len}
use Rattle.std.specs.Str.{bytes_eq}
use Rattle.std.proofs.lemmas.Bool.Decides.{nat_tests}
use Rattle.std.proofs.lemmas.List.{take_more, get_or_default}
use Rattle.std.proofs.lemmas.List.Folds.{list_any-append}
use Rattle.std.specs.Ordering.{is_eq}
use Rattle.std.specs.BTreeSet.{contains}
use Rattle.std.specs.declared.collections.BTreeSet.{BTreeSet}
use Rattle.std.specs.declared.vec.Vec.{Vec}
use Rattle.std.specs.declared.alloc.Global.{Global}
use Rattle.std.proofs.lemmas.Map.Text.{is_eq-slice_cmp}
use Rattle.xfs_links.specs.Private.Taken.{AreTaken, bytes_cmp}
use Rattle.xfs_collections.specs.Lists.{has_node}
use Rattle.xfs_dirdata.specs.declared.records.EntryRec.{EntryRec}
use Rattle.xfs_links.specs.declared.records.NodeRec.{NodeRec}
use Rattle.xfs_links.specs.declared.candidates.Candidate.{Candidate}
use Rattle.xfs_links.specs.Connected.{free_name, lost_name, is_parent}
use Rattle.xfs_links.specs.Places.{candidate_entry, no_entry, is_target, orphan_told, orphan_at, cleared_at, in_the_way_at, taken_at}
use Rattle.xfs_links.proofs.Starting.{has_range}

-- the first free name is here, or further on
pub free_here : (taken : List ℕ → Bool) (n steps k : ℕ) → k < steps → taken (lost_name n k) ≡ false → free_name taken n (steps - k) k ≡ lost_name n k
free_here taken n steps k h t = ap (λ r. free_name taken n r k) next ∙ ap (λ r. if r then free_name taken n (steps - suc k) (k + 1) else lost_name n k) t
  where
    next : steps - k ≡ suc (steps - suc k)
    next = omega arith

pub free_next : (taken : List ℕ → Bool) (n steps k : ℕ) → k < steps → taken (lost_name n k) ≡ true → free_name taken n (steps - k) k ≡ free_name taken n (steps - (k + 1)) (k + 1)
free_next taken n steps k h t = ap (λ r. free_name taken n r k) next ∙ ap (λ r. if r then free_name taken n (steps - (k + 1)) (k + 1) else lost_name n k) t
  where
    next : steps - k ≡ suc (steps - (k + 1))
    next = omega arith

-- the names taken, with those of one candidate more
pub taken_more : (entries : List EntryRec) (kept : List Candidate) (i : ℕ) (e : Candidate) (lost : Option ℕ) (q : List ℕ) → i < length kept
    → taken_at entries (take (i + 1) kept) lost q ≡ (taken_at entries (take i kept) lost q || (is_parent (slice_index_or kept i e).directory lost && bytes_eq (candidate_entry entries (slice_index_or kept i e)).name q))
taken_more entries kept i e lost q h =
    ap (λ r. taken_at entries r lost q) (take_more kept i e h) ∙ list_any-append (λ (c : Candidate). is_parent c.directory lost && bytes_eq (candidate_entry entries c).name q) (take i kept) (slice_index_or kept i e ∷ [])
    ∙ plain (taken_at entries (take i kept) lost q) (is_parent (slice_index_or kept i e).directory lost && bytes_eq (candidate_entry entries (slice_index_or kept i e)).name q)
  where
    plain : (p q : Bool) → (p || (q || false)) ≡ (p || q)
    plain p q = grind (arith, nat_tests)

-- the tests that go by the flags are those that go by the candidates
any_same : (f g : ℕ → Bool) (xs : List ℕ) → ((x : ℕ) → has_node x xs ≡ true → f x ≡ g x) → list_any f xs ≡ list_any g xs
any_same f g [] h = refl
any_same f g (x ∷ xs) h = ap (λ r. r || list_any f xs) (h x (grind (arith, nat_tests))) ∙ ap (λ r. g x || r) (any_same f g xs (λ p m. h p (either p m)))
  where
    either : (p : ℕ) → has_node p xs ≡ true → ((x == p) || has_node p xs) ≡ true
    either p m = grind (arith, nat_tests)

pub told_any : (files : List NodeRec) (root : ℕ) (parents : List (Option ℕ)) (flags named : List Bool) (cs ds : List Candidate) (r : Bool)
    → flags ≡ named → ds ≡ cs → ((p : ℕ) → p < length files → slice_index_or named p false ≡ is_target ds p)
    → r ≡ list_any (λ p. orphan_told files root parents (slice_index_or flags p false) p) (range_with_len 0 (length files))
    → r ≡ list_any (orphan_at files root parents cs) (range_with_len 0 (length files))
told_any files root parents flags named cs ds r same whole told is =
    is ∙ any_same (λ p. orphan_told files root parents (slice_index_or flags p false) p) (orphan_at files root parents cs) (range_with_len 0 (length files))
    (λ p h. ap (λ b. orphan_told files root parents b p) (ap (λ (k : List Bool). slice_index_or k p false) same ∙ told p (low p h) ∙ ap (λ k. is_target k p) whole))
  where
    low : (p : ℕ) → has_node p (range_with_len 0 (length files)) ≡ true → p < length files
    low p h = let e : (nat_le 0 p && nat_lt p (0 + length files)) ≡ true = sym (has_range 0 (length files) p) ∙ h in grind (arith, nat_tests)

pub cleared_none : (files : List NodeRec) (entries : List EntryRec) (root : ℕ) (parents : List (Option ℕ)) (cs : List Candidate) → list_any (orphan_at files root parents cs) (range_with_len 0 (length files)) ≡ false
    → cs ≡ cleared_at files entries root parents cs
cleared_none files entries root parents cs e = sym (ap (λ r. if r then filter (λ c. not (in_the_way_at files entries root c)) cs else cs) e)

pub cleared_some : (files : List NodeRec) (entries : List EntryRec) (root : ℕ) (parents : List (Option ℕ)) (cs : List Candidate) → list_any (orphan_at files root parents cs) (range_with_len 0 (length files)) ≡ true
    → filter (λ c. not (in_the_way_at files entries root c)) cs ≡ cleared_at files entries root parents cs
cleared_some files entries root parents cs e = sym (ap (λ r. if r then filter (λ c. not (in_the_way_at files entries root c)) cs else cs) e)

-- the set of the names taken, one candidate more
pub taken_kept : (names : BTreeSet (Vec ℕ Global) Global) (entries : List EntryRec) (kept : List Candidate) (i : ℕ) (e : Candidate) (lost : Option ℕ) → i < length kept
    → is_parent (slice_index_or kept i e).directory lost ≡ false → AreTaken names (taken_at entries (take i kept) lost) → AreTaken names (taken_at entries (take (i + 1) kept) lost)
taken_kept names entries kept i e lost h of taken = record { told = λ k. taken.told k ∙ sym (taken_more entries kept i e lost k.items h ∙ plain (taken_at entries (take i kept) lost k.items) (is_parent (slice_index_or kept i e).directory lost) (bytes_eq (candidate_entry entries (slice_index_or kept i e)).name k.items) of) }
  where
    plain : (p q r : Bool) → q ≡ false → (p || (q && r)) ≡ p
    plain p q r t = grind (arith, nat_tests)

pub taken_put : (names after : BTreeSet (Vec ℕ Global) Global) (entries : List EntryRec) (kept : List Candidate) (i : ℕ) (e : Candidate) (lost : Option ℕ) (name : Vec ℕ Global) → i < length kept
    → is_parent (slice_index_or kept i e).directory lost ≡ true → name.items ≡ (candidate_entry entries (slice_index_or kept i e)).name
    → ((q : Vec ℕ Global) → contains bytes_cmp after q ≡ cond (is_eq (bytes_cmp name q)) true (contains bytes_cmp names q))
    → AreTaken names (taken_at entries (take i kept) lost) → AreTaken after (taken_at entries (take (i + 1) kept) lost)
taken_put names after entries kept i e lost name h of is put taken = record {
  told = λ k. put k ∙ ap (λ r. cond r true (contains bytes_cmp names k)) (is_eq-slice_cmp name.items k.items ∙ ap (λ r. bytes_eq r k.items) is)
      ∙ ap (λ r. cond (bytes_eq (candidate_entry entries (slice_index_or kept i e)).name k.items) true r) (taken.told k)
      ∙ plain (taken_at entries (take i kept) lost k.items) (is_parent (slice_index_or kept i e).directory lost) (bytes_eq (candidate_entry entries (slice_index_or kept i e)).name k.items) of
      ∙ sym (taken_more entries kept i e lost k.items h);
}
  where
    plain : (p q r : Bool) → q ≡ true → cond r true p ≡ (p || (q && r))
    plain p q r t = grind (arith, nat_tests)

pub without_all : (r : Result (Vec Candidate Global) NoMemory) (files : List NodeRec) (entries : List EntryRec) (root : ℕ) (parents : List (Option ℕ)) (cs ds : List Candidate) → ds ≡ cs
    → list_any (orphan_at files root parents cs) (range_with_len 0 (length files)) ≡ true
    → IfOk r (λ (kept : Vec Candidate Global). kept.items ≡ filter (λ c. not (in_the_way_at files entries root c)) ds)
    → IfOk r (λ (kept : Vec Candidate Global). kept.items ≡ cleared_at files entries root parents cs)
without_all (Ok kept) files entries root parents cs ds same e h = h ∙ ap (filter (λ c. not (in_the_way_at files entries root c))) same ∙ cleared_some files entries root parents cs e
without_all (Err fault) files entries root parents cs ds same e h = tt

pub entry_is : (entries : List EntryRec) (c : Candidate) (e : EntryRec) → c.entry < length entries → e ≡ slice_index_or entries c.entry e → e ≡ candidate_entry entries c
entry_is entries c e h is = is ∙ get_or_default entries c.entry e no_entry h

pub told_one : (files : List NodeRec) (root : ℕ) (parents : List (Option ℕ)) (flags named : List Bool) (cs : List Candidate) (p : ℕ) (r t : Bool) → flags ≡ named → slice_index_or named p false ≡ is_target cs p
    → r ≡ orphan_told files root parents (slice_index_or flags p false) p → r ≡ t → orphan_at files root parents cs p ≡ t
told_one files root parents flags named cs p r t same told is e = sym (is ∙ ap (λ b. orphan_told files root parents b p) (ap (λ (k : List Bool). slice_index_or k p false) same ∙ told)) ∙ e
