use Rattle.std.proofs.Common.{◌≡◌, ℕ, suc, ◌+◌, ◌-◌, List, [], ◌∷◌, ◌++◌, drop, Option, Ok, sym, ap, ap₂, ◌∙◌, arith}
use Rattle.std.specs.Option.{ok_or}
use Rattle.xfs_attr.specs.declared.attributes.Attr.{Attr}
use Rattle.xfs_attr.specs.declared.attributes.AttrFault.TheVariants.{Unsound}
use Rattle.xfs_attr.specs.ShortForm.{attributes_of, attribute_of_entry, size_of_entry}
use Rattle.xfs_attr.proofs.Walked.{behind, behind_none, behind_nothing, behind_all, walk, stuck, ends, goes_on}
use Rattle.xfs_attr.proofs.short_form.read_attributes.Goals as goal

pub loop-init : goal.loop-init
loop-init c =
    let whole : c.args.count - 0 ≡ c.args.count = omega arith in
    ap₂ (λ (front : List Attr) (n : ℕ). behind front (attributes_of n c.args.bytes.now)) c.new-attributes.ensures.items whole ∙ behind_none _

pub returns-in_default : goal.returns-in_default
returns-in_default c =
    let left : c.args.count - c.loop.counter ≡ suc (c.args.count - c.loop.counter - 1) = omega arith in
    ap (λ (o : Option (List Attr)). ok_or o Unsound)
    (sym c.loop.invariant ∙ (ap (behind c.loop.attributes.items) (stuck (c.args.count - c.loop.counter) (c.args.count - c.loop.counter - 1) c.loop.rest.now left c.in_default.ensures) ∙ behind_nothing _))

pub loop-preserved : goal.loop-preserved
loop-preserved c =
    let left : c.args.count - c.loop.counter ≡ suc (c.args.count - (c.loop.counter + 1)) = omega arith in
    let items : c.push_entry.new.attributes.items ≡ c.loop.attributes.items ++ (attribute_of_entry c.loop.rest.now ∷ []) = c.in-Ok.ensures in
    let rest : c.after-rest.result.now ≡ drop (size_of_entry c.loop.rest.now) c.loop.rest.now =
    c.after-rest.ensures ∙ ap (λ (n : ℕ). drop n c.loop.rest.now) c.in-Some.ensures.0 in
    ap₂ (λ (front : List Attr) (bytes : List ℕ). behind front (attributes_of (c.args.count - (c.loop.counter + 1)) bytes)) items rest
    ∙ (sym (walk c.loop.attributes.items (c.args.count - c.loop.counter) (c.args.count - (c.loop.counter + 1)) c.loop.rest.now left c.in-Some.ensures.1)
    ∙ c.loop.invariant)

pub returns-then-rest-gt0 : goal.returns-then-rest-gt0
returns-then-rest-gt0 c =
    ap (λ (o : Option (List Attr)). ok_or o Unsound)
    (sym c.loop.invariant
    ∙ (ap (behind c.loop.attributes.items) (goes_on (c.args.count - c.loop.counter) c.loop.rest.now (omega arith) (omega arith)) ∙ behind_nothing _))

pub returns : goal.returns
returns c =
    ap (λ (o : Option (List Attr)). ok_or o Unsound)
    (sym c.loop.invariant
    ∙ (ap (behind c.loop.attributes.items) (ends (c.args.count - c.loop.counter) c.loop.rest.now (omega arith) (omega arith)) ∙ behind_all _))
    ∙ ap Ok (sym c.from_vec.ensures)
