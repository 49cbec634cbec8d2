use Rattle.std.proofs.Common.{◌≡◌, ℕ, Bool, ◌+◌, not, List, [], ◌∷◌, ◌++◌, sym, ap, ◌∙◌, append_assoc}
use Rattle.std.specs.List.{filter}
use Rattle.std.proofs.lemmas.List.Elements.{filter-append}
use Rattle.std.proofs.lemmas.Result.{IfOk-from_err}
use Rattle.xfs_naming.specs.Naming.{is_in_use}
use Rattle.xfs_salvage.proofs.order.fresh_among.Goals as goal

-- three numbers of which each is put where it passes
three : (p : ℕ → Bool) (a b c : ℕ) (ws xs ys zs : List ℕ) → ws ≡ [] → xs ≡ ws ++ filter p (a ∷ []) → ys ≡ xs ++ filter p (b ∷ []) → zs ≡ ys ++ filter p (c ∷ [])
    → zs ≡ filter p (a ∷ b ∷ c ∷ [])
three p a b c ws xs ys zs none first second third =
    third ∙ ap (λ (t : List ℕ). t ++ filter p (c ∷ [])) (second ∙ ap (λ (t : List ℕ). t ++ filter p (b ∷ [])) (first ∙ ap (λ (t : List ℕ). t ++ filter p (a ∷ [])) none))
    ∙ append_assoc (filter p (a ∷ [])) (filter p (b ∷ [])) (filter p (c ∷ []))
    ∙ ap (λ (t : List ℕ). filter p (a ∷ []) ++ t) (sym (filter-append p (b ∷ []) (c ∷ [])))
    ∙ sym (filter-append p (a ∷ []) (b ∷ c ∷ []))

pub returns-in_err-put_fresh : goal.returns-in_err-put_fresh
returns-in_err-put_fresh c = IfOk-from_err c.from_residual.result _ c.from_residual.ensures.0

pub returns-in_err-put_fresh-2 : goal.returns-in_err-put_fresh-2
returns-in_err-put_fresh-2 c = IfOk-from_err c.from_residual-in_err-put_fresh-2.result _ c.from_residual-in_err-put_fresh-2.ensures.0

pub returns-in_err-put_fresh-3 : goal.returns-in_err-put_fresh-3
returns-in_err-put_fresh-3 c = IfOk-from_err c.from_residual-in_err-put_fresh-3.result _ c.from_residual-in_err-put_fresh-3.ensures.0

pub returns : goal.returns
returns c =
    let root = c.args.root in
    three (λ ino. not (is_in_use c.args.files.now ino)) root (root + 1) (root + 2) c.new-fresh.result.items c.put_fresh.new.fresh.items c.put_fresh-2.new.fresh.items c.put_fresh-3.new.fresh.items
    c.new-fresh.ensures.items c.in_ok-put_fresh.ensures c.in_ok-put_fresh-2.ensures c.in_ok-put_fresh-3.ensures
