-- Slots with changes, of which one after the other is put.
use Rattle.std.proofs.Common.{◌≡◌, ℕ, ◌+◌, ◌<◌, ◌≤◌, List, ◌∷◌, ◌++◌, take, drop, length, get_or, sym, ap, ◌∙◌}
use Rattle.std.proofs.lemmas.List.{append_assoc, drop_all, drop_more}
use Rattle.xfs_render.specs.declared.wanted_slots.SlotWanted.{SlotWanted}
use Rattle.xfs_changes.specs.declared.changes.SlotChange.{SlotChange}
use Rattle.xfs_changes.specs.Slots.{put_first, slots_before, with_changes}

-- one step of the merge
abbrev pub merged : SlotChange → (List SlotWanted → List SlotWanted) → List SlotWanted → List SlotWanted
merged c next ws = take (slots_before c ws) ws ++ put_first c next (drop (slots_before c ws) ws)

-- slots in front of a change that are added, and the change
pub put_behind : (c : SlotChange) (next : List SlotWanted → List SlotWanted) (ws behind rest : List SlotWanted) (n : ℕ) (old mid new : List SlotWanted) → n ≡ slots_before c ws → mid ≡ old ++ take n ws → behind ≡ drop n ws
    → mid ++ put_first c next behind ≡ new ++ next rest → old ++ merged c next ws ≡ new ++ next rest
put_behind c next ws behind rest n old mid new is added left put =
    ap (λ k. old ++ (take k ws ++ put_first c next (drop k ws))) (sym is)
    ∙ sym (append_assoc old (take n ws) (put_first c next (drop n ws)))
    ∙ ap (λ xs. xs ++ put_first c next (drop n ws)) (sym added)
    ∙ ap (λ xs. mid ++ put_first c next xs) (sym left) ∙ put

-- changes, of which one more was put
pub change_more : (cs : List SlotChange) (i : ℕ) (c : SlotChange) (old new all ws rest : List SlotWanted) → i < length cs → c ≡ get_or cs i c
    → ((next : List SlotWanted → List SlotWanted) → old ++ merged c next ws ≡ new ++ next rest)
    → old ++ with_changes (drop i cs) ws ≡ all → new ++ with_changes (drop (i + 1) cs) rest ≡ all
unfolding with_changes
change_more cs i c old new all ws rest low is put held =
    sym (put (with_changes (drop (i + 1) cs)))
    ∙ ap (λ xs. old ++ with_changes xs ws) (sym (drop_more cs i c low ∙ ap (λ x. x ∷ drop (i + 1) cs) (sym is))) ∙ held

-- no change is left
pub changes_done : (cs : List SlotChange) (i : ℕ) (old new all rest : List SlotWanted) → length cs ≤ i → new ≡ old ++ rest → old ++ with_changes (drop i cs) rest ≡ all → new ≡ all
unfolding with_changes
changes_done cs i old new all rest end added held = added ∙ ap (λ xs. old ++ with_changes xs rest) (sym (drop_all i cs end)) ∙ held
