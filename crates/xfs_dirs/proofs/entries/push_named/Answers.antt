use Rattle.std.proofs.Common.{◌≡◌, Bool, true, false, not, cond, List, [], ◌∷◌, ◌++◌, filter, map-id, sym, ap, ◌∙◌, rules}
use Rattle.std.proofs.lemmas.Result.{IfOk-from_err}
use Rattle.std.proofs.lemmas.List.{append_assoc, append-nil}
use Rattle.std.proofs.lemmas.List.Elements.{filter-append}
use Rattle.std.proofs.lemmas.Iterator.Adapters.{YieldsList-from_vec}
use Rattle.std.proofs.lemmas.Iterator.Consumers.{YieldsList-end}
use Rattle.xfs_dirdata.specs.declared.records.EntryRec.{EntryRec}
use Rattle.xfs_image.specs.Directories.{is_beside_dots}
use Rattle.xfs_dirs.proofs.entries.push_named.Goals as goal

more : {X : Type 0} (p : X → Bool) (front yielded old new : List X) (x : X) → old ≡ front ++ filter p yielded → new ≡ old ++ x ∷ [] → p x ≡ true
    → new ≡ front ++ filter p (yielded ++ x ∷ [])
more p front yielded old new x were put is =
    put
    ∙ (ap (λ ys. ys ++ x ∷ []) were
    ∙ (append_assoc front (filter p yielded) (x ∷ [])
    ∙ ap (λ ys. front ++ ys) (sym (filter-append p yielded (x ∷ []) ∙ ap (λ b. filter p yielded ++ cond b (x ∷ []) []) is))))

no_more : {X : Type 0} (p : X → Bool) (front yielded old : List X) (x : X) → old ≡ front ++ filter p yielded → p x ≡ false → old ≡ front ++ filter p (yielded ++ x ∷ [])
no_more p front yielded old x were is =
    were
    ∙ ap (λ ys. front ++ ys)
    (sym (filter-append p yielded (x ∷ []) ∙ (ap (λ b. filter p yielded ++ cond b (x ∷ []) []) is ∙ append-nil (filter p yielded))))

pub loop-entry-init : goal.loop-entry-init
loop-entry-init c = sym (append-nil c.args.named.now.items)

pub loop-entry-preserved-in-Continue-1 : goal.loop-entry-preserved-in-Continue-1
loop-entry-preserved-in-Continue-1 c = more is_beside_dots c.args.named.now.items c.loop-entry.yielded c.loop-entry.named.items c.push.new.self.items c.in-Some.entry c.loop-entry.invariant c.in_ok-push.ensures.items (ap not (sym c.is_dots.ensures ∙ c.if-not-is_dots.true))

pub loop-entry-preserved-else-not-is_dots : goal.loop-entry-preserved-else-not-is_dots
loop-entry-preserved-else-not-is_dots c = no_more is_beside_dots c.args.named.now.items c.loop-entry.yielded c.loop-entry.named.items c.in-Some.entry c.loop-entry.invariant (ap not (sym c.is_dots.ensures ∙ c.if-not-is_dots.false))

pub loop-entry-preserved : goal.loop-entry-preserved
loop-entry-preserved c = no_more is_beside_dots c.args.named.now.items c.loop-entry.yielded c.loop-entry.named.items c.in-Some.entry c.loop-entry.invariant (ap not (sym c.is_dots.ensures ∙ c.if-not-is_dots.false))

pub returns-in_err-push : goal.returns-in_err-push
returns-in_err-push c = IfOk-from_err c.from_residual.result _ c.from_residual.ensures.0

pub returns : goal.returns
returns c =
    let end = YieldsList-end (YieldsList-from_vec {s = c.into_iter-entry-iterator.result} c.args.entries.items (search rules) (search rules))
    c.loop-entry.yielded c.loop-entry.entry-iterator c.loop-entry.yielded_by c.next.result c.next.new.self c.in-None.is c.next.ensures.steps in
    c.loop-entry.invariant
    ∙ ap (λ (es : List EntryRec). c.args.named.now.items ++ filter is_beside_dots es) (sym (map-id c.loop-entry.yielded) ∙ end.0)
