-- Entries that are compared one after the other.
use Rattle.std.proofs.Common.{◌≡◌, ℕ, ◌<◌, ◌≤◌, ◌&&◌, true, false, List, [], ◌∷◌, length, drop, zero, suc, refl, sym, ap, ◌∙◌, arith, slice_index_or}
use Rattle.xfs_dirdata.specs.declared.records.EntryRec.{EntryRec}
use Rattle.xfs_links.proofs.Tests.{and_false}
use Rattle.xfs_names.specs.Rebuilt.{is_right_entry, are_right_entries}

pub not_as_many : (hs ds : List EntryRec) → (length hs ≡ length ds → ⊥) → are_right_entries hs ds ≡ false
not_as_many [] [] h = absurd (h refl)
not_as_many [] (d ∷ ds) h = refl
not_as_many (e ∷ hs) [] h = refl
not_as_many (e ∷ hs) (d ∷ ds) h = ap (λ t. is_right_entry e d && t) (not_as_many hs ds (λ k. h (ap suc k))) ∙ and_false (is_right_entry e d)

pub right_next : (hs ds : List EntryRec) (k : ℕ) (h d : EntryRec) → k < length hs → k < length ds → h ≡ slice_index_or hs k h → d ≡ slice_index_or ds k d
    → are_right_entries (drop k hs) (drop k ds) ≡ (is_right_entry h d && are_right_entries (drop (suc k) hs) (drop (suc k) ds))
right_next [] ds k h d l m e f = absurd (omega arith)
right_next (x ∷ hs) [] k h d l m e f = absurd (omega arith)
right_next (x ∷ hs) (y ∷ ds) zero h d l m e f = λ i. is_right_entry (sym e i) (sym f i) && are_right_entries hs ds
right_next (x ∷ hs) (y ∷ ds) (suc k) h d l m e f = right_next hs ds k h d (omega arith) (omega arith) e f

none_behind : (xs : List EntryRec) (k : ℕ) → length xs ≤ k → drop k xs ≡ []
none_behind [] zero h = refl
none_behind [] (suc k) h = refl
none_behind (x ∷ xs) zero h = absurd (omega arith)
none_behind (x ∷ xs) (suc k) h = none_behind xs k (omega arith)

pub all_right : (hs ds : List EntryRec) (k : ℕ) → length hs ≤ k → length ds ≤ k → true ≡ are_right_entries (drop k hs) (drop k ds)
all_right hs ds k l m = sym (λ i. are_right_entries (none_behind hs k l i) (none_behind ds k m i))
