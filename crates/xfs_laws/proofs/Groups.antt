-- Laws that are judged group by group.
use Rattle.std.proofs.Common.{◌≡◌, ℕ, ◌+◌, ◌<◌, ◌≤◌, List, ◌++◌, length, get_or, drop, Option, Some, None, sym, ap, ◌∙◌, add-one, drop-cons}
use Rattle.std.proofs.lemmas.List.{drop_all}
use Rattle.xfs_volume.specs.declared.findings.Law.{Law}
use Rattle.xfs_volume.specs.declared.groups.GroupRec.{GroupRec}
use Rattle.xfs_volume.specs.Laws.{first_broken}
use Rattle.xfs_laws.specs.Counting.{by_group}
use Rattle.xfs_volume.proofs.First.{first_behind, first_in}

-- the laws of the groups from one on are its own and those of the groups behind it
next : (laws : ℕ → GroupRec → List Law) (groups : List GroupRec) (i ag : ℕ) (d : GroupRec) → i < length groups
    → by_group laws ag (drop i groups) ≡ laws ag (get_or groups i d) ++ by_group laws (ag + 1) (drop (i + 1) groups)
next laws groups i ag d inside =
    ap (by_group laws ag) (drop-cons groups i d inside)
    ∙ ap (λ (j : ℕ). laws ag (get_or groups i d) ++ by_group laws (ag + 1) (drop j groups)) (sym (add-one i))

module _ (laws : ℕ → GroupRec → List Law) (groups : List GroupRec) (i ag : ℕ) {whole : Option Law}
    (left : first_broken (by_group laws ag (drop i groups)) ≡ whole) where
  pub group_broken : (g : GroupRec) (l : Law) → i < length groups → g ≡ get_or groups i g → first_broken (laws ag g) ≡ Some l → Some l ≡ whole
  group_broken g l inside is found =
      sym (first_in (laws ag (get_or groups i g)) (by_group laws (ag + 1) (drop (i + 1) groups)) l (ap (λ h. first_broken (laws ag h)) (sym is) ∙ found))
      ∙ (ap first_broken (sym (next laws groups i ag g inside)) ∙ left)

  pub group_kept : (g : GroupRec) → i < length groups → g ≡ get_or groups i g → first_broken (laws ag g) ≡ None
      → first_broken (by_group laws (ag + 1) (drop (i + 1) groups)) ≡ whole
  group_kept g inside is none =
      sym (first_behind (laws ag (get_or groups i g)) (by_group laws (ag + 1) (drop (i + 1) groups)) (ap (λ h. first_broken (laws ag h)) (sym is) ∙ none))
      ∙ (ap first_broken (sym (next laws groups i ag g inside)) ∙ left)

  pub groups_kept : length groups ≤ i → None ≡ whole
  unfolding first_broken
  groups_kept end = sym (ap (λ gs. first_broken (by_group laws ag gs)) (drop_all i groups end)) ∙ left
