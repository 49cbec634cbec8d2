-- The steps of the loop that joins runs, and of the one that finds gaps.
use Rattle.std.proofs.Common.{◌≡◌, ℕ, Bool, true, false, min, ◌+◌, ◌^◌, ◌<◌, if◌then◌else◌, List, [], ◌∷◌, ◌++◌, length, get_or, drop, append_assoc, sym, ◌∙◌, ap, subst, arith}
use Rattle.std.proofs.lemmas.Bool.{eq-eqb, ne_eqb}
use Rattle.std.proofs.lemmas.List.{drop_more}
use Rattle.xfs_geom.specs.declared.records.Run.{Run}
use Rattle.xfs_geom.specs.declared.records.Span.{Span}
use Rattle.xfs_kinds.specs.FreeRuns.{gap}
use Rattle.xfs_kinds.specs.MergedRuns.{AreRuns, joins, longer}
use Rattle.xfs_kinds.proofs.Joined.{swept, joined_end}
use Rattle.xfs_kinds.proofs.Sweep.{sweep}

-- the runs so far, the last of them and those that are left
pub record Left (all joined : List Run) (last : Run) (rest : List Run) : Type 0 where
  pub same : joined ++ swept last rest ≡ all
  pub end : last.start + last.count < 2 ^ 63
  pub runs : AreRuns (last.start + last.count) rest

-- the first run stands alone
pub left_first : (first : Run) (rest joined : List Run) → joined ≡ [] → AreRuns 0 (first ∷ rest) → Left (swept first rest) joined first rest
left_first first rest joined empty runs = record { same = ap (λ (rs : List Run). rs ++ swept first rest) empty; end = runs.1; runs = runs.2 }

-- a run of those that are left joins the last
pub left_joined : (all joined : List Run) (last run : Run) (rest : List Run) → joins last run ≡ true → Left all joined last (run ∷ rest) → Left all joined (longer last run.count) rest
left_joined all joined last run rest joins' held =
    let meets : last.start + last.count ≡ run.start = joined_end last run joins' in
    let end : run.start + run.count ≡ last.start + (last.count + run.count) = ends last.start last.count run.start run.count meets in
    record {
      same = ap (λ (t : Bool). joined ++ (if t then swept (longer last run.count) rest else (last ∷ swept run rest))) (sym joins') ∙ held.same;
      end = subst (λ (n : ℕ). n < 2 ^ 63) end held.runs.1;
      runs = subst (λ (n : ℕ). AreRuns n rest) end held.runs.2;
    }
  where
    ends : (a b c d : ℕ) → a + b ≡ c → c + d ≡ a + (b + d)
    ends a b c d e = omega arith

-- it does not, and is the last then
pub left_apart : (all joined next : List Run) (last run : Run) (rest : List Run) → joins last run ≡ false → next ≡ joined ++ last ∷ [] → Left all joined last (run ∷ rest) → Left all next run rest
left_apart all joined next last run rest apart put held = record {
  same = ap (λ (rs : List Run). rs ++ swept run rest) put ∙ append_assoc joined (last ∷ []) (swept run rest)
      ∙ ap (λ (t : Bool). joined ++ (if t then swept (longer last run.count) rest else (last ∷ swept run rest))) (sym apart) ∙ held.same;
  end = held.runs.1;
  runs = held.runs.2;
}

-- the next of the runs that are left
pub left_next : (all joined : List Run) (last : Run) (rest : List Run) (i : ℕ) (d : Run) → i < length rest → Left all joined last (drop i rest) → Left all joined last (get_or rest i d ∷ drop (i + 1) rest)
left_next all joined last rest i d inside held = subst (Left all joined last) (drop_more rest i d inside) held

-- a run that joins the last makes it no longer than numbers go
pub left_fits : (all joined : List Run) (last run : Run) (rest : List Run) → joins last run ≡ true → Left all joined last (run ∷ rest) → last.count + run.count < 2 ^ 63
left_fits all joined last run rest joins' held = below last.start last.count run.start run.count (2 ^ 63) (joined_end last run joins') held.runs.1
  where
    below : (a b c d n : ℕ) → a + b ≡ c → c + d < n → b + d < n
    below a b c d n e h = omega arith

-- a run of no blocks leaves the gaps as they are
pub gaps_same : (at blocks : ℕ) (s : Span) (rest free all : List Span) → s.count ≡ 0 → free ++ sweep at blocks (s ∷ rest) ≡ all → free ++ sweep at blocks rest ≡ all
gaps_same at blocks s rest free all none held =
    ap (λ (t : Bool). free ++ (if t then sweep at blocks rest else (gap at (min s.start blocks) ++ sweep (s.start + s.count) blocks rest))) (sym (eq-eqb s.count 0 none)) ∙ held

-- the gap before a run
pub gaps_more : (at blocks end : ℕ) (s : Span) (rest free next all : List Span) → (s.count ≡ 0 → ⊥) → end ≡ min s.start blocks → next ≡ free ++ gap at end → free ++ sweep at blocks (s ∷ rest) ≡ all
    → next ++ sweep (s.start + s.count) blocks rest ≡ all
gaps_more at blocks end s rest free next all some least put held =
    ap (λ (xs : List Span). xs ++ sweep (s.start + s.count) blocks rest) (put ∙ ap (λ (n : ℕ). free ++ gap at n) least)
    ∙ append_assoc free (gap at (min s.start blocks)) (sweep (s.start + s.count) blocks rest)
    ∙ ap (λ (t : Bool). free ++ (if t then sweep at blocks rest else (gap at (min s.start blocks) ++ sweep (s.start + s.count) blocks rest))) (sym (ne_eqb s.count 0 some)) ∙ held

-- the next of the runs that are left
pub gaps_next : (at blocks : ℕ) (used free all : List Span) (i : ℕ) (d : Span) → i < length used → free ++ sweep at blocks (drop i used) ≡ all
    → free ++ sweep at blocks (get_or used i d ∷ drop (i + 1) used) ≡ all
gaps_next at blocks used free all i d inside held = ap (λ (xs : List Span). free ++ sweep at blocks xs) (sym (drop_more used i d inside)) ∙ held
