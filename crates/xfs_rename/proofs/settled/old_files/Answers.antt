use Rattle.std.proofs.Common.{◌≡◌, true, ◌==◌, length, filter, ℕ, List, [], ◌∷◌, refl, sym, ◌∙◌, ap, rules, arith}
use Rattle.std.proofs.lemmas.Bool.{eqb-true}
use Rattle.std.proofs.lemmas.Fn.{filter_same}
use Rattle.xfs_volume.specs.declared.files.FileRec.{FileRec}
use Rattle.xfs_rename.specs.Settled.{is_old}
use Rattle.xfs_rename.proofs.settled.old_files.Goals as goal

-- where none is made anew all were there before
all_old : (fresh : List ℕ) (files : List FileRec) → (length fresh == 0) ≡ true → files ≡ filter (is_old fresh) files
all_old [] [] none = refl
all_old [] (f ∷ fs) none = ap (λ (rest : List FileRec). f ∷ rest) (all_old [] fs none)
all_old (n ∷ ns) files none = let e = eqb-true (length (n ∷ ns)) 0 none in absurd (omega (arith, e))

pub returns-then-is_empty : goal.returns-then-is_empty
returns-then-is_empty c = all_old c.args.fresh.now c.args.files.items (sym c.is_empty.ensures ∙ c.if-is_empty.true)

pub returns : goal.returns
returns c = filter_same _ (is_old c.args.fresh.now) _ (λ x b f' k. search rules) _ _ c.retain.ensures.filtered
