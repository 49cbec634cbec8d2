use Rattle.std.proofs.Common.{refl, ap, ◌+◌, ◌-◌, ◌≡◌, ◌∙◌, ◌++◌, ◌∷◌, [], ℕ, map, arith}
use Rattle.std.specs.List.{range_with_len}
use Rattle.std.proofs.lemmas.Result.{IfOk-from_err}
use Rattle.xfs_image.specs.Lsns.{LsnPlace, at}
use Rattle.xfs_journal.specs.Placed.{byte_of, listed}
use Rattle.xfs_journal.proofs.Listing.{pushed, pushed_all, rest_whole}
use Rattle.xfs_journal.proofs.extents.push_run.Goals as goal

pub loop-i-init : goal.loop-i-init
loop-i-init c = record { listed = refl; inside = c.requires.inside }

pub loop-i-preserved : goal.loop-i-preserved
loop-i-preserved c =
    let item : ℕ → LsnPlace = λ i. at (byte_of c.args.owner (c.args.offset + i)) (c.args.start + i) in
    record {
      listed = pushed item c.loop-i.i c.args.count (listed c.loop-i.places.items) (listed c.push.new.places.items) _ c.loop-i-test.true
          (c.in_ok-push.ensures.listed ∙ ap (λ (byte : ℕ). listed c.loop-i.places.items ++ at byte (c.args.start + c.loop-i.i) ∷ []) c.byte_of.ensures.value)
          c.loop-i.invariant.listed;
      inside = c.push.ensures.inside;
    }

pub push-requires : goal.push-requires
push-requires c = record { byte = c.byte_of.ensures.inside; inside = c.loop-i.invariant.inside }

pub returns-clause-listed : goal.returns-clause-listed
returns-clause-listed c =
    let item : ℕ → LsnPlace = λ i. at (byte_of c.args.owner (c.args.offset + i)) (c.args.start + i) in
    pushed_all item c.loop-i.i c.args.count (listed c.loop-i.places.items) _ c.loop-i-test.false c.loop-i.invariant.listed
    ∙ ap (λ xs. listed c.args.places.now.items ++ xs) (rest_whole c.args.count item)

pub returns-clause-inside : goal.returns-clause-inside
returns-clause-inside c = c.loop-i.invariant.inside

pub returns-in_err-push-clause-listed : goal.returns-in_err-push-clause-listed
returns-in_err-push-clause-listed c = IfOk-from_err c.from_residual.result _ c.from_residual.ensures.0

pub returns-in_err-push-clause-inside : goal.returns-in_err-push-clause-inside
returns-in_err-push-clause-inside c = c.push.ensures.inside
