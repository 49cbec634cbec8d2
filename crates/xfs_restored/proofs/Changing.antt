-- What is wanted of a slot once names are settled: what was wanted of it before, with what names change in it.
use Rattle.std.proofs.Common.{◌≡◌, inl, inr, ℕ, suc, Bool, true, false, ◌+◌, ◌≤◌, ◌<◌, ◌==◌, cond, if◌then◌else◌, List, [], ◌∷◌, ◌++◌, take, drop, Option, Some, None, refl, sym, ap, ◌∙◌, arith}
use Rattle.std.proofs.lemmas.Bool.{cases_order, eq-eqb, eqb-true, le-ltb, lt-ltb, ne_eqb}
use Rattle.xfs_render.specs.Slots.{wanted_of}
use Rattle.xfs_render.specs.declared.wanted_slots.SlotWanted.{SlotWanted}
use Rattle.xfs_rename.specs.xfs_changes.Slots.{changed, changed_alone, put_first, slots_before, with_changes}
use Rattle.xfs_rename.specs.xfs_changes.declared.changes.SlotChange.{SlotChange}
use Rattle.xfs_restored.specs.Changes.{ChangesAscend, SlotsAscend, first_change, with_change}

-- slots in front of a change stay there
slot_before : (c : SlotChange) (cs : List SlotChange) (w : SlotWanted) (ws : List SlotWanted) → w.ino < c.ino → with_changes (c ∷ cs) (w ∷ ws) ≡ w ∷ with_changes (c ∷ cs) ws
unfolding with_changes
slot_before c cs w ws less =
    let count : slots_before c (w ∷ ws) ≡ suc (slots_before c ws) = ap (λ (t : Bool). cond t (1 + slots_before c ws) 0) (lt-ltb w.ino c.ino less) ∙ omega arith in
    ap (λ (k : ℕ). take k (w ∷ ws) ++ put_first c (with_changes cs) (drop k (w ∷ ws))) count

change_here : (c : SlotChange) (cs : List SlotChange) (w : SlotWanted) (ws : List SlotWanted) → c.ino ≤ w.ino → with_changes (c ∷ cs) (w ∷ ws) ≡ put_first c (with_changes cs) (w ∷ ws)
unfolding with_changes
change_here c cs w ws less =
    let count : slots_before c (w ∷ ws) ≡ 0 = ap (λ (t : Bool). cond t (1 + slots_before c ws) 0) (le-ltb w.ino c.ino less) in
    ap (λ (k : ℕ). take k (w ∷ ws) ++ put_first c (with_changes cs) (drop k (w ∷ ws))) count

module _ (ino : ℕ) where
  -- nothing is wanted, or changed, below the first
  none_wanted : (ws : List SlotWanted) (low : ℕ) → SlotsAscend low ws → ino < low → wanted_of ws ino ≡ None
  none_wanted [] low ascend below = refl
  none_wanted (w ∷ ws) low ascend below =
      let least = ascend.0 in
      ap (λ (t : Bool). if t then Some w else wanted_of ws ino) (ne_eqb w.ino ino (λ e. omega (arith, e, least, below)))
      ∙ none_wanted ws (w.ino + 1) ascend.1 (omega (arith, least, below))

  pub none_changed : (cs : List SlotChange) (low : ℕ) → ChangesAscend low cs → ino < low → first_change cs ino ≡ None
  none_changed [] low ascend below = refl
  none_changed (c ∷ cs) low ascend below =
      let least = ascend.0 in
      ap (λ (t : Bool). if t then Some c else first_change cs ino) (ne_eqb c.ino ino (λ e. omega (arith, e, least, below)))
      ∙ none_changed cs (c.ino + 1) ascend.1 (omega (arith, least, below))

  -- a slot in front of others, a change of which nothing was wanted, and one of which something was
  slot_first : (t : Bool) (w : SlotWanted) (found : Option SlotChange) (rest behind : Option SlotWanted) → (w.ino == ino) ≡ t → rest ≡ with_change found behind
      → (w.ino ≡ ino → found ≡ None) → (if t then Some w else rest) ≡ with_change found (if t then Some w else behind)
  slot_first true w found rest behind is same none = sym (ap (λ (f : Option SlotChange). with_change f (Some w)) (none (eqb-true w.ino ino is)))
  slot_first false w found rest behind is same none = same

  change_alone : (t : Bool) (c : SlotChange) (found : Option SlotChange) (rest wanted : Option SlotWanted) → (c.ino == ino) ≡ t → rest ≡ with_change found wanted
      → (c.ino ≡ ino → wanted ≡ None) → (if t then Some (changed_alone c) else rest) ≡ with_change (if t then Some c else found) wanted
  change_alone true c found rest wanted is same none = sym (ap (with_change (Some c)) (none (eqb-true c.ino ino is)))
  change_alone false c found rest wanted is same none = same

  change_both : (t : Bool) (c : SlotChange) (w : SlotWanted) (found : Option SlotChange) (rest behind : Option SlotWanted) → rest ≡ with_change found behind
      → (if t then Some (changed c w) else rest) ≡ with_change (if t then Some c else found) (if t then Some w else behind)
  change_both true c w found rest behind same = refl
  change_both false c w found rest behind same = same

  abbrev IsChanged : List SlotChange → List SlotWanted → Type 0
  IsChanged cs ws = wanted_of (with_changes cs ws) ino ≡ with_change (first_change cs ino) (wanted_of ws ino)

  one_change : (c : SlotChange) (cs : List SlotChange) → ChangesAscend (c.ino + 1) cs → ((ws : List SlotWanted) (low : ℕ) → SlotsAscend low ws → IsChanged cs ws)
      → (ws : List SlotWanted) (low : ℕ) → SlotsAscend low ws → IsChanged (c ∷ cs) ws
  unfolding with_changes
  one_change c cs later next [] low ascend = change_alone (c.ino == ino) c (first_change cs ino) (wanted_of (with_changes cs []) ino) None refl (next [] low tt) (λ e. refl)
  one_change c cs later next (w ∷ ws) low ascend =
      elim (cases_order w.ino c.ino) [
        | inl same ↦
            ap (λ (xs : List SlotWanted). wanted_of xs ino) (change_here c cs w ws (omega (arith, same)))
            ∙ (ap (λ (t : Bool). wanted_of (if t then changed c w ∷ with_changes cs ws else changed_alone c ∷ with_changes cs (w ∷ ws)) ino) (eq-eqb w.ino c.ino same)
            ∙ (change_both (w.ino == ino) c w (first_change cs ino) (wanted_of (with_changes cs ws) ino) (wanted_of ws ino) (next ws (w.ino + 1) ascend.1)
            ∙ ap (λ (k : ℕ). with_change (if k == ino then Some c else first_change cs ino) (if w.ino == ino then Some w else wanted_of ws ino)) same))
        | inr apart ↦
            elim apart [
              | inl less ↦
                  ap (λ (xs : List SlotWanted). wanted_of xs ino) (slot_before c cs w ws less)
                  ∙ slot_first (w.ino == ino) w (first_change (c ∷ cs) ino) (wanted_of (with_changes (c ∷ cs) ws) ino) (wanted_of ws ino) refl
                  (one_change c cs later next ws (w.ino + 1) ascend.1)
                  (λ e. none_changed (c ∷ cs) c.ino (omega arith, later) (omega (arith, e, less)))
              | inr more ↦
                  ap (λ (xs : List SlotWanted). wanted_of xs ino) (change_here c cs w ws (omega (arith, more)))
                  ∙ (ap (λ (t : Bool). wanted_of (if t then changed c w ∷ with_changes cs ws else changed_alone c ∷ with_changes cs (w ∷ ws)) ino) (ne_eqb w.ino c.ino (λ e. omega (arith, e, more)))
                  ∙ change_alone (c.ino == ino) c (first_change cs ino) (wanted_of (with_changes cs (w ∷ ws)) ino) (wanted_of (w ∷ ws) ino) refl
                  (next (w ∷ ws) low ascend)
                  (λ e. none_wanted (w ∷ ws) w.ino (omega arith, ascend.1) (omega (arith, e, more))))
            ]
      ]

  pub changes_wanted : (cs : List SlotChange) (low : ℕ) → ChangesAscend low cs → (ws : List SlotWanted) (first : ℕ) → SlotsAscend first ws → IsChanged cs ws
  unfolding with_changes
  changes_wanted [] low later ws first ascend = refl
  changes_wanted (c ∷ cs) low later ws first ascend =
      one_change c cs later.1 (λ xs least rise. changes_wanted cs (c.ino + 1) later.1 xs least rise) ws first ascend
