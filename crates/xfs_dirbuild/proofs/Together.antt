-- Data blocks in front of others: what the directory states.
use Rattle.std.proofs.Common.{◌≡◌, ℕ, ◌+◌, ◌≤◌, true, false, nat_lt, List, [], ◌∷◌, ◌++◌, map, length, refl, sym, ◌∙◌, ap, ap₂, subst, arith}
use Rattle.std.specs.List.{list_all, flat_map, filter}
use Rattle.std.proofs.lemmas.List.{append-nil}
use Rattle.std.proofs.lemmas.List.Elements.{filter-append}
use Rattle.std.proofs.lemmas.Bool.{and_from}
use Rattle.std.proofs.lemmas.Bool.Decides.{nat_tests}
use Rattle.xfs_dirdata.specs.declared.records.EntryRec.{EntryRec}
use Rattle.xfs_dirdata.specs.Written.{in_directory}
use Rattle.xfs_dirindex.specs.Mapped.{Mapped, mapped_block, is_data}
use Rattle.xfs_dirindex.specs.Data.{have_no_dots, area_in, is_later, are_data, pairs_in, all_pairs, best_in, all_bests}
use Rattle.xfs_dirbuild.specs.Filling.{ahead, filled, all_entries, filled_shares, pairs_from}
use Rattle.xfs_dirbuild.specs.Placed.{built_entries}
use Rattle.xfs_dirbuild.proofs.Filled.{filled-fits, filled-some}
use Rattle.xfs_dirbuild.proofs.Standing.{stand, filter-kept, filter-lost, all-stand, all-join}
use Rattle.xfs_dirbuild.proofs.DataPlaced.{Both, NoDots, no-dots-each, flat-filled, pairs-all, bests_from, bests-all, entries-all, later-all, later-beyond, self_of, parent_of, first-one}

-- the entries of the first block begin with those of the directory and its parent
pub record IsHeaded (dir parent : ℕ) (es : List EntryRec) : Type 0 where
  pub x : List EntryRec
  pub rest : List (List EntryRec)
  pub is : filled_shares dir parent es ≡ (self_of dir ∷ parent_of dir parent ∷ x) ∷ rest
  pub none : NoDots (x ∷ rest)

headed-by : (dir parent : ℕ) (es : List EntryRec) (bs : List (List EntryRec)) → have_no_dots es ≡ true → filled 96 es ≡ bs → 1 ≤ length bs → IsHeaded dir parent es
headed-by dir parent es [] none is some = absurd (omega arith)
headed-by dir parent es (x ∷ rest) none is some = record {
  x = x;
  rest = rest;
  is = filled-fits 64 (self_of dir) (parent_of dir parent ∷ es) (omega arith)
      ∙ (ap (ahead (self_of dir)) (filled-fits 80 (parent_of dir parent) es (omega arith))
      ∙ ap (λ (bs : List (List EntryRec)). ahead (self_of dir) (ahead (parent_of dir parent) bs)) is);
  none = no-dots-each (x ∷ rest)
      (ap (λ (xs : List EntryRec). have_no_dots xs) (ap (flat_map (λ (ys : List EntryRec). ys)) (sym is) ∙ flat-filled 96 es) ∙ none);
}

pub headed : (dir parent : ℕ) (es : List EntryRec) → have_no_dots es ≡ true → IsHeaded dir parent es
headed dir parent es none = headed-by dir parent es (filled 96 es) none refl (filled-some 96 es)

-- what they state
pub record IsTogether (dir parent : ℕ) (es : List EntryRec) (ms : List Mapped) : Type 0 where
  pub sound : are_data dir ms ≡ true
  pub pairs_are : all_pairs dir ms ≡ pairs_from 0 (filled_shares dir parent es)
  pub bests_are : all_bests dir ms ≡ bests_from 0 (filled_shares dir parent es)
  pub entries_are : built_entries dir false ms ≡ map (in_directory dir) (all_entries dir parent es)

sound-all : (dir parent : ℕ) (x : List EntryRec) (rest : List (List EntryRec)) (bs : List (List ℕ)) (others : List Mapped)
    → Both ((self_of dir ∷ parent_of dir parent ∷ x) ∷ rest) bs → NoDots (x ∷ rest) → list_all (is_later dir) others ≡ true
    → are_data dir (stand 0 bs ++ others) ≡ true
sound-all dir parent x rest [] others both none later = absurd both
sound-all dir parent x rest (b ∷ bs) others both none later =
    and_from _ _ (first-one dir parent x b both.0 none.0)
    (all-join (is_later dir) (stand 1 bs) others (later-all dir 1 rest bs both.1 none.1) later)

others-later : (dir first : ℕ) (bs : List (List ℕ)) → 0x800000 ≤ first → list_all (is_later dir) (stand first bs) ≡ true
others-later dir first bs high =
    all-stand (is_later dir) first bs (λ k less.
    let beyond : nat_lt (first + k) 0x800000 ≡ false = grind (arith, nat_tests) in
    later-beyond dir (mapped_block (first + k) _) beyond)

data-alone : (bs is fs : List (List ℕ)) → length bs ≤ 0x800000
    → filter is_data (stand 0 bs ++ (stand 0x800000 is ++ stand 0x1000000 fs)) ≡ stand 0 bs
data-alone bs is fs few =
    filter-append is_data (stand 0 bs) (stand 0x800000 is ++ stand 0x1000000 fs)
    ∙ (ap₂ (λ (xs ys : List Mapped). xs ++ ys)
    (filter-kept is_data 0 bs (λ m low high. grind (arith, nat_tests)))
    (filter-append is_data (stand 0x800000 is) (stand 0x1000000 fs)
    ∙ ap₂ (λ (xs ys : List Mapped). xs ++ ys) (filter-lost is_data 0x800000 is (λ m low high. grind (arith, nat_tests)))
    (filter-lost is_data 0x1000000 fs (λ m low high. grind (arith, nat_tests))))
    ∙ append-nil (stand 0 bs))

pub together : (dir parent : ℕ) (es : List EntryRec) (bs is fs : List (List ℕ)) → have_no_dots es ≡ true → Both (filled_shares dir parent es) bs
    → length bs ≤ 0x800000 → IsTogether dir parent es (stand 0 bs ++ (stand 0x800000 is ++ stand 0x1000000 fs))
unfolding all_pairs all_bests built_entries
together dir parent es bs is fs none both few =
    let ss = filled_shares dir parent es in
    let head = headed dir parent es none in
    let alone = data-alone bs is fs few in
    record {
      sound = sound-all dir parent head.x head.rest bs (stand 0x800000 is ++ stand 0x1000000 fs)
          (subst (λ (xs : List (List EntryRec)). Both xs bs) head.is both) head.none
          (all-join (is_later dir) (stand 0x800000 is) (stand 0x1000000 fs) (others-later dir 0x800000 is (omega arith)) (others-later dir 0x1000000 fs (omega arith)));
      pairs_are = ap (flat_map (pairs_in dir false)) alone ∙ pairs-all dir 0 ss bs both;
      bests_are = ap (map (best_in dir false)) alone ∙ bests-all dir 0 ss bs both;
      entries_are = ap (flat_map (λ (m : Mapped). (area_in dir false m).entries)) alone
          ∙ (entries-all dir 0 ss bs both ∙ ap (map (in_directory dir)) (flat-filled 64 (all_entries dir parent es)));
    }
