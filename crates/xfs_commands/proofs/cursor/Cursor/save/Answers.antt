use Rattle.std.proofs.Common.{List, sym, ap, subst, ◌∙◌}
use Rattle.xfs_commands.specs.Commands.{Session, session_of, IsWithin}
use Rattle.xfs_commands.specs.Cursors.{saved}
use Rattle.xfs_commands.proofs.Stacking.{pushed_more, pushed_within}
use Rattle.xfs_objects.specs.declared.objects.ObjectPlace.{ObjectPlace}
use Rattle.xfs_commands.proofs.cursor.Cursor.save.Goals as goal

pub returns-clause-within : goal.returns-clause-within
returns-clause-within c =
    λ n within inside.
    subst (λ (s : Session). IsWithin n s) (sym c.loop.invariant) (pushed_within n c.loop.counter c.args.place (session_of c.args.self.now) within inside)

pub returns-in_err-push-clause-within : goal.returns-in_err-push-clause-within
returns-in_err-push-clause-within c =
    λ n within inside.
    subst (λ (stack : List ObjectPlace). IsWithin n (record { at = c.loop.self.at; stack = stack })) (sym c.in_err-push.ensures.items)
    (subst (λ (s : Session). IsWithin n s) (sym c.loop.invariant) (pushed_within n c.loop.counter c.args.place (session_of c.args.self.now) within inside))

pub loop-preserved : goal.loop-preserved
loop-preserved c =
    ap (λ (stack : List ObjectPlace). let s : Session = record { at = c.loop.self.at; stack = stack } in s) c.in_ok-push.ensures.items
    ∙ ap (saved c.args.place) c.loop.invariant
    ∙ sym (pushed_more c.loop.counter c.args.place (session_of c.args.self.now))
