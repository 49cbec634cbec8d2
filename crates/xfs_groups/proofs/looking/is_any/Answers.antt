use Rattle.std.proofs.Common.{Bool, ◌||◌, get_or, refl, sym, ap, ◌∙◌}
use Rattle.std.specs.List.{list_any}
use Rattle.std.proofs.lemmas.List.{take_all}
use Rattle.std.proofs.lemmas.List.Folds.{list_any_more, list_any_at}
use Rattle.xfs_geom.specs.Volumes.{volume_of}
use Rattle.xfs_image.specs.Candidates.{whole_seal}
use Rattle.xfs_word.specs.Seal.{is_sealed, layout_of}
use Rattle.xfs_word.specs.declared.kinds.Seal.{Seal}
use Rattle.xfs_word.specs.declared.kinds.SealKind.{SealKind}
use Rattle.xfs_word.specs.declared.kinds.SealKind.TheVariants.{Super}
use Rattle.xfs_groups.proofs.looking.is_any.Goals as goal

pub loop-kind-init : goal.loop-kind-init
loop-kind-init c = refl

pub sealed-requires : goal.sealed-requires
sealed-requires c =
    c.requires.block
    ∙ sym (ap (λ (s : Seal). (layout_of s.kind).size) c.whole_seal.ensures ∙ c.requires.kinds c.loop-kind.kind-index Super c.loop-kind-test.true)

pub loop-kind-preserved : goal.loop-kind-preserved
loop-kind-preserved c =
    let kinds = c.args.kinds.now in
    let i = c.loop-kind.kind-index in
    let block = c.args.block.now in
    let test : SealKind → Bool = λ k. is_sealed (whole_seal (volume_of c.args.g.now) c.args.place k) block in
    list_any_more test kinds i Super c.loop-kind-test.true ∙ ap (λ (t : Bool). t || test (get_or kinds i Super)) c.loop-kind.invariant
    ∙ ap (λ (s : Seal). is_sealed s block) (sym c.whole_seal.ensures) ∙ sym c.sealed.ensures ∙ c.if-sealed.false

pub returns-then-sealed : goal.returns-then-sealed
returns-then-sealed c =
    let block = c.args.block.now in
    let test : SealKind → Bool = λ k. is_sealed (whole_seal (volume_of c.args.g.now) c.args.place k) block in
    sym (list_any_at test c.args.kinds.now c.loop-kind.kind-index Super c.loop-kind-test.true
    (ap (λ (s : Seal). is_sealed s block) (sym c.whole_seal.ensures) ∙ sym c.sealed.ensures ∙ c.if-sealed.true))

pub returns : goal.returns
returns c =
    let test : SealKind → Bool = λ k. is_sealed (whole_seal (volume_of c.args.g.now) c.args.place k) c.args.block.now in
    sym (ap (list_any test) (sym (take_all c.loop-kind.kind-index c.args.kinds.now c.loop-kind-test.false)) ∙ c.loop-kind.invariant)
