-- Candidates that stay, one after the other, with a flag for each file that one of them names.
use Rattle.std.proofs.Common.{◌≡◌, ℕ, ◌+◌, ◌<◌, ◌≤◌, ◌==◌, ◌&&◌, ◌||◌, inl, inr, Bool, true, false, not, if◌then◌else◌, List, [], ◌∷◌, ◌++◌, length, get_or, set, drop, sym, ◌∙◌, ap, subst, append_assoc, Option, slice_index_or, ◌⊎◌, arith}
use Rattle.std.proofs.lemmas.Bool.{cases_eq}
use Rattle.std.proofs.lemmas.Bool.Decides.{nat_tests}
use Rattle.std.proofs.lemmas.List.{get_or-set_other, get_or-set_same, drop_more, drop_all, append-nil}
use Rattle.std.proofs.lemmas.List.Folds.{list_any-append}
use Rattle.xfs_links.specs.declared.records.NodeRec.{NodeRec}
use Rattle.xfs_links.specs.declared.candidates.Candidate.{Candidate}
use Rattle.xfs_links.specs.Entries.{is_directory_at_place}
use Rattle.xfs_links.specs.Connected.{is_parent}
use Rattle.xfs_links.specs.Places.{is_target, parent_at, stays_at, staying_at}

module _ (files : List NodeRec) (above : List (Option ℕ)) (all : List Candidate) (i : ℕ) (d : Candidate) (before whole : List Candidate) (inside : i < length all) (held : before ++ staying_at files above before (drop i all) ≡ whole) where
  -- what stays of the rest, where this one stays or does not
  abbrev rest : Bool → List Candidate
  rest t = if t then (get_or all i d ∷ staying_at files above (before ++ get_or all i d ∷ []) (drop (i + 1) all)) else staying_at files above before (drop (i + 1) all)

  split : (t : Bool) → stays_at files above before (get_or all i d) ≡ t → staying_at files above before (drop i all) ≡ rest t
  split t is = ap (staying_at files above before) (drop_more all i d inside) ∙ ap rest is

  pub stays_next : stays_at files above before (get_or all i d) ≡ true → (new : List Candidate) → new ≡ before ++ get_or all i d ∷ [] → new ++ staying_at files above new (drop (i + 1) all) ≡ whole
  stays_next is new put =
      ap (λ xs. xs ++ staying_at files above xs (drop (i + 1) all)) put
      ∙ append_assoc before (get_or all i d ∷ []) (staying_at files above (before ++ get_or all i d ∷ []) (drop (i + 1) all))
      ∙ ap (λ xs. before ++ xs) (sym (split true is)) ∙ held

  pub goes_next : stays_at files above before (get_or all i d) ≡ false → before ++ staying_at files above before (drop (i + 1) all) ≡ whole
  goes_next is = ap (λ xs. before ++ xs) (sym (split false is)) ∙ held

-- no candidate is left
pub stays_last : (files : List NodeRec) (above : List (Option ℕ)) (all : List Candidate) (i : ℕ) (before whole : List Candidate) → length all ≤ i → before ++ staying_at files above before (drop i all) ≡ whole → before ≡ whole
stays_last files above all i before whole end held =
    sym (append-nil before) ∙ ap (λ cs. before ++ staying_at files above before cs) (sym (drop_all i all end)) ∙ held

-- by the flags a candidate stays as by those before it
pub stays_told : (files : List NodeRec) (above : List (Option ℕ)) (met met_now : List Bool) (before : List Candidate) (c : Candidate) (told : Bool) → met_now ≡ met → get_or met c.target false ≡ is_target before c.target
    → told ≡ (if is_directory_at_place files c.target then (is_parent c.directory (parent_at above c.target) && not (slice_index_or met_now c.target false)) else true) → (t : Bool) → told ≡ t → stays_at files above before c ≡ t
stays_told files above met met_now before c told same flag is t turned =
    ap (λ (m : Bool). if is_directory_at_place files c.target then (is_parent c.directory (parent_at above c.target) && not m) else true) (sym (ap (λ (ms : List Bool). get_or ms c.target false) same ∙ flag))
    ∙ sym is ∙ turned

-- one more file is flagged
pub flags_next : (met : List Bool) (n : ℕ) (before new : List Candidate) (c : Candidate) → length met ≡ n → c.target < n → ((p : ℕ) → p < n → get_or met p false ≡ is_target before p) → new ≡ before ++ c ∷ []
    → (p : ℕ) → p < n → get_or (set met c.target true) p false ≡ is_target new p
flags_next met n before new c size inside flags put p less =
    by_case (cases_eq p c.target) ∙ sym (ap (λ xs. is_target xs p) put ∙ list_any-append (λ (x : Candidate). x.target == p) before (c ∷ []))
  where
    here : (q : Bool) (x y : ℕ) → y ≡ x → true ≡ (q || ((x == y) || false))
    here q x y e = grind (arith, nat_tests)

    there : (q : Bool) (x y : ℕ) → (y ≡ x → ⊥) → q ≡ (q || ((x == y) || false))
    there q x y e = grind (arith, nat_tests)

    by_case : (p ≡ c.target) ⊎ (p ≡ c.target → ⊥) → get_or (set met c.target true) p false ≡ (is_target before p || ((c.target == p) || false))
    by_case (inl e) =
        subst (λ k. get_or (set met c.target true) k false ≡ true) (sym e) (get_or-set_same met c.target true false (subst (λ k. c.target < k) (sym size) inside))
        ∙ here (is_target before p) c.target p e
    by_case (inr e) = get_or-set_other met c.target p true false e ∙ flags p less ∙ there (is_target before p) c.target p e
