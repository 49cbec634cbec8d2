-- The walk over places is the walk over numbers.
use Rattle.std.proofs.Common.{◌≡◌, ◌≢◌, ℕ, ◌+◌, ◌<◌, ◌==◌, ◌||◌, inl, inr, Bool, true, false, nat_lt, List, [], ◌∷◌, ◌++◌, map, length, zero, suc, refl, sym, ◌∙◌, ap, arith, None, Some, IfSome, option_map, if◌then◌else◌}
use Rattle.std.proofs.lemmas.Bool.{cases_eq}
use Rattle.std.proofs.lemmas.Bool.Decides.{nat_tests}
use Rattle.std.proofs.lemmas.List.{map-append}
use Rattle.std.proofs.Math.ListN.{length-map}
use Rattle.xfs_links.specs.declared.records.NodeRec.{NodeRec}
use Rattle.xfs_links.specs.declared.walk.Attached.{Attached}
use Rattle.xfs_links.specs.Entries.{node_number, NodesAscend}
use Rattle.xfs_links.specs.Walk.{is_attached, attached_at, see, see_all, turn_at, turns, start_at, begin, walk, attached_parent}
use Rattle.xfs_links.specs.Places.{attached_numbers}
use Rattle.xfs_links.proofs.Files.{number_one}

-- all directories and their parents are among the first n files
abbrev pub AreIn : ℕ → List Attached → Type 0
AreIn n [] = Unit {0}
AreIn n (a ∷ s) = (a.directory < n) × IfSome a.parent (λ p. p < n) × AreIn n s

abbrev pub AreLow : ℕ → List ℕ → Type 0
AreLow n [] = Unit {0}
AreLow n (p ∷ ps) = (p < n) × AreLow n ps

in_last : (n : ℕ) (s : List Attached) (a : Attached) → AreIn n s → a.directory < n → IfSome a.parent (λ p. p < n) → AreIn n (s ++ a ∷ [])
in_last n [] a h d p = (d, p, tt)
in_last n (b ∷ s) a h d p = (h.0, h.1, in_last n s a h.2 d p)

in_see : (n d p : ℕ) (s : List Attached) → AreIn n s → d < n → p < n → AreIn n (see d s p)
in_see n d p s h l k = either (is_attached s p)
  where
    either : (t : Bool) → AreIn n (if t then s else (s ++ attached_at p (Some d) ∷ []))
    either true = h
    either false = in_last n s (attached_at p (Some d)) h k l

in_all : (n d : ℕ) (ps : List ℕ) (s : List Attached) → AreIn n s → d < n → AreLow n ps → AreIn n (see_all d s ps)
in_all n d [] s h l k = h
in_all n d (p ∷ ps) s h l k = in_all n d ps (see d s p) (in_see n d p s h l k.0) l k.1

turn_low : (n : ℕ) (s : List Attached) (k : ℕ) → AreIn n s → k < length s → turn_at s k < n
turn_low n [] k h l = absurd (omega arith)
turn_low n (a ∷ s) zero h l = h.0
turn_low n (a ∷ s) (suc k) h l = turn_low n s k h.2 (omega arith)

in_turns : (n : ℕ) (named : ℕ → List ℕ) (steps k : ℕ) (s : List Attached) → ((p : ℕ) → AreLow n (named p)) → AreIn n s → AreIn n (turns named steps k s)
in_turns n named zero k s low h = h
in_turns n named (suc steps) k s low h = either (nat_lt k (length s)) refl (λ l. in_turns n named steps (k + 1) (see_all (turn_at s k) s (named (turn_at s k))) low (in_all n (turn_at s k) (named (turn_at s k)) s h (turn_low n s k h l) (low (turn_at s k))))
  where
    either : (t : Bool) → nat_lt k (length s) ≡ t → (k < length s → AreIn n (turns named steps (k + 1) (see_all (turn_at s k) s (named (turn_at s k))))) → AreIn n (if t then turns named steps (k + 1) (see_all (turn_at s k) s (named (turn_at s k))) else s)
    either true e r = r (grind (arith, nat_tests))
    either false e r = h

start_low : (n root p : ℕ) → root < n → IfSome (if p == root then Some root else None) (λ q. q < n)
start_low n root p h = either (p == root)
  where
    either : (t : Bool) → IfSome (if t then Some root else None) (λ q. q < n)
    either true = h
    either false = tt

pub in_begin : (n : ℕ) (named : ℕ → List ℕ) (steps root : ℕ) (s : List Attached) (p : ℕ) → ((p : ℕ) → AreLow n (named p)) → AreIn n s → root < n → p < n → AreIn n (begin named steps root s p)
in_begin n named steps root s p low h r l = either (is_attached s p)
  where
    either : (t : Bool) → AreIn n (if t then s else turns named steps (length s) (s ++ start_at root p ∷ []))
    either true = h
    either false = in_turns n named steps (length s) (s ++ start_at root p ∷ []) low (in_last n s (start_at root p) h l (start_low n root p r))

pub in_walk : (n : ℕ) (named : ℕ → List ℕ) (steps root : ℕ) (s : List Attached) (ps : List ℕ) → ((p : ℕ) → AreLow n (named p)) → AreIn n s → root < n → AreLow n ps → AreIn n (walk named steps root s ps)
in_walk n named steps root s [] low h r l = h
in_walk n named steps root s (p ∷ ps) low h r l = in_walk n named steps root (begin named steps root s p) ps low (in_begin n named steps root s p low h r l.0) r l.1

module _ (files : List NodeRec) (ascend : NodesAscend 0 files) where
  -- two places have one number exactly where they are one
  pub same_number : (p q : ℕ) → p < length files → q < length files → (node_number files p == node_number files q) ≡ (p == q)
  same_number p q h k = elim (cases_eq p q) [
    | inl e ↦ let s : node_number files p ≡ node_number files q = ap (node_number files) e in grind (arith, nat_tests)
    | inr n ↦ let s : node_number files p ≢ node_number files q = λ e. n (number_one files p q ascend h k e) in grind (arith, nat_tests)
  ]

  pub attached_renamed : (s : List Attached) (p : ℕ) → AreIn (length files) s → p < length files → is_attached (map (attached_numbers files) s) (node_number files p) ≡ is_attached s p
  attached_renamed [] p h l = refl
  attached_renamed (a ∷ s) p h l = ap (λ r. r || is_attached (map (attached_numbers files) s) (node_number files p)) (same_number a.directory p h.0 l) ∙ ap (λ r. a.directory == p || r) (attached_renamed s p h.2 l)

  see_renamed : (d p : ℕ) (s : List Attached) → AreIn (length files) s → p < length files → map (attached_numbers files) (see d s p) ≡ see (node_number files d) (map (attached_numbers files) s) (node_number files p)
  see_renamed d p s h l = either (is_attached s p) ∙ ap (λ r. if r then map (attached_numbers files) s else (map (attached_numbers files) s ++ attached_at (node_number files p) (Some (node_number files d)) ∷ [])) (sym (attached_renamed s p h l))
    where
      either : (t : Bool) → map (attached_numbers files) (if t then s else (s ++ attached_at p (Some d) ∷ [])) ≡ (if t then map (attached_numbers files) s else (map (attached_numbers files) s ++ attached_at (node_number files p) (Some (node_number files d)) ∷ []))
      either true = refl
      either false = map-append (attached_numbers files) s (attached_at p (Some d) ∷ [])

  all_renamed : (d : ℕ) (ps : List ℕ) (s : List Attached) → AreIn (length files) s → d < length files → AreLow (length files) ps
      → map (attached_numbers files) (see_all d s ps) ≡ see_all (node_number files d) (map (attached_numbers files) s) (map (node_number files) ps)
  all_renamed d [] s h l k = refl
  all_renamed d (p ∷ ps) s h l k = all_renamed d ps (see d s p) (in_see (length files) d p s h l k.0) l k.1 ∙ ap (λ r. see_all (node_number files d) r (map (node_number files) ps)) (see_renamed d p s h k.0)

  turn_renamed : (s : List Attached) (k : ℕ) → k < length s → turn_at (map (attached_numbers files) s) k ≡ node_number files (turn_at s k)
  turn_renamed [] k l = absurd (omega arith)
  turn_renamed (a ∷ s) zero l = refl
  turn_renamed (a ∷ s) (suc k) l = turn_renamed s k (omega arith)

  pub parent_renamed : (s : List Attached) (p : ℕ) → AreIn (length files) s → p < length files → attached_parent (map (attached_numbers files) s) (node_number files p) ≡ option_map (node_number files) (attached_parent s p)
  parent_renamed [] p h l = refl
  parent_renamed (a ∷ s) p h l = ap (λ r. if r then option_map (node_number files) a.parent else attached_parent (map (attached_numbers files) s) (node_number files p)) (same_number a.directory p h.0 l) ∙ either (a.directory == p) (parent_renamed s p h.2 l)
    where
      either : (t : Bool) → attached_parent (map (attached_numbers files) s) (node_number files p) ≡ option_map (node_number files) (attached_parent s p)
          → (if t then option_map (node_number files) a.parent else attached_parent (map (attached_numbers files) s) (node_number files p)) ≡ option_map (node_number files) (if t then a.parent else attached_parent s p)
      either true h = refl
      either false h = h

  module _ (named at : ℕ → List ℕ) (low : (p : ℕ) → AreLow (length files) (at p)) (same : (p : ℕ) → p < length files → named (node_number files p) ≡ map (node_number files) (at p)) where
    turns_renamed : (steps k : ℕ) (s : List Attached) → AreIn (length files) s → map (attached_numbers files) (turns at steps k s) ≡ turns named steps k (map (attached_numbers files) s)
    turns_renamed zero k s h = refl
    turns_renamed (suc steps) k s h = either (nat_lt k (length s)) refl
        (λ l. turns_renamed steps (k + 1) (see_all (turn_at s k) s (at (turn_at s k))) (in_all (length files) (turn_at s k) (at (turn_at s k)) s h (turn_low (length files) s k h l) (low (turn_at s k))))
      where
        step : k < length s → map (attached_numbers files) (see_all (turn_at s k) s (at (turn_at s k))) ≡ see_all (turn_at (map (attached_numbers files) s) k) (map (attached_numbers files) s) (named (turn_at (map (attached_numbers files) s) k))
        step l = all_renamed (turn_at s k) (at (turn_at s k)) s h (turn_low (length files) s k h l) (low (turn_at s k))
            ∙ ap (see_all (node_number files (turn_at s k)) (map (attached_numbers files) s)) (sym (same (turn_at s k) (turn_low (length files) s k h l)))
            ∙ ap (λ r. see_all r (map (attached_numbers files) s) (named r)) (sym (turn_renamed s k l))

        either : (t : Bool) → nat_lt k (length s) ≡ t
            → (k < length s → map (attached_numbers files) (turns at steps (k + 1) (see_all (turn_at s k) s (at (turn_at s k)))) ≡ turns named steps (k + 1) (map (attached_numbers files) (see_all (turn_at s k) s (at (turn_at s k)))))
            → map (attached_numbers files) (if t then turns at steps (k + 1) (see_all (turn_at s k) s (at (turn_at s k))) else s)
            ≡ (if nat_lt k (length (map (attached_numbers files) s)) then turns named steps (k + 1) (see_all (turn_at (map (attached_numbers files) s) k) (map (attached_numbers files) s) (named (turn_at (map (attached_numbers files) s) k))) else map (attached_numbers files) s)
        either true e r = let l : k < length s = grind (arith, nat_tests) in
            r l ∙ ap (turns named steps (k + 1)) (step l) ∙ sym (ap (λ b. if b then turns named steps (k + 1) (see_all (turn_at (map (attached_numbers files) s) k) (map (attached_numbers files) s) (named (turn_at (map (attached_numbers files) s) k))) else map (attached_numbers files) s) (ap (nat_lt k) (length-map _ _) ∙ e))
        either false e r = sym (ap (λ b. if b then turns named steps (k + 1) (see_all (turn_at (map (attached_numbers files) s) k) (map (attached_numbers files) s) (named (turn_at (map (attached_numbers files) s) k))) else map (attached_numbers files) s) (ap (nat_lt k) (length-map _ _) ∙ e))

    begin_renamed : (steps root : ℕ) (s : List Attached) (p : ℕ) → AreIn (length files) s → root < length files → p < length files
        → map (attached_numbers files) (begin at steps root s p) ≡ begin named steps (node_number files root) (map (attached_numbers files) s) (node_number files p)
    begin_renamed steps root s p h r l = either (is_attached s p)
        ∙ ap (λ b. if b then map (attached_numbers files) s else turns named steps (length (map (attached_numbers files) s)) (map (attached_numbers files) s ++ start_at (node_number files root) (node_number files p) ∷ [])) (sym (attached_renamed s p h l))
      where
        start : attached_numbers files (start_at root p) ≡ start_at (node_number files root) (node_number files p)
        start = ap (attached_at (node_number files p)) (choose (p == root) ∙ ap (λ b. if b then Some (node_number files root) else None) (sym (same_number p root l r)))
          where
            choose : (t : Bool) → option_map (node_number files) (if t then Some root else None) ≡ (if t then Some (node_number files root) else None)
            choose true = refl
            choose false = refl

        either : (t : Bool) → map (attached_numbers files) (if t then s else turns at steps (length s) (s ++ start_at root p ∷ []))
            ≡ (if t then map (attached_numbers files) s else turns named steps (length (map (attached_numbers files) s)) (map (attached_numbers files) s ++ start_at (node_number files root) (node_number files p) ∷ []))
        either true = refl
        either false = turns_renamed steps (length s) (s ++ start_at root p ∷ []) (in_last (length files) s (start_at root p) h l (start_low (length files) root p r))
            ∙ ap (λ k. turns named steps k (map (attached_numbers files) (s ++ start_at root p ∷ []))) (sym (length-map _ _))
            ∙ ap (turns named steps (length (map (attached_numbers files) s))) (map-append (attached_numbers files) s (start_at root p ∷ []) ∙ ap (λ (a : Attached). map (attached_numbers files) s ++ a ∷ []) start)

    pub walk_renamed : (steps root : ℕ) (s : List Attached) (ps : List ℕ) → AreIn (length files) s → root < length files → AreLow (length files) ps
        → map (attached_numbers files) (walk at steps root s ps) ≡ walk named steps (node_number files root) (map (attached_numbers files) s) (map (node_number files) ps)
    walk_renamed steps root s [] h r l = refl
    walk_renamed steps root s (p ∷ ps) h r l = walk_renamed steps root (begin at steps root s p) ps (in_begin (length files) at steps root s p low h r l.0) r l.1
        ∙ ap (λ k. walk named steps (node_number files root) k (map (node_number files) ps)) (begin_renamed steps root s p h r l.0)
