use Rattle.std.proofs.lemmas.Result.{IfOk-from_err}
use Rattle.std.proofs.Common.{◌≡◌, ◌+◌, ◌++◌, [], ◌∷◌, true, not, length, drop, None, rules, refl, ◌∙◌, ap, subst}
use Rattle.std.specs.Bool.{OnTrue}
use Rattle.xfs_tree.specs.Answers.{IsMet}
use Rattle.xfs_tree.specs.Reading.{next_of}
use Rattle.xfs_forest.proofs.taking.take_seat.Goals as goal

pub returns : goal.returns
returns g c =
    let fresh : c.in_ok-add.field-0 ≡ true = c.in_ok-add.ensures.fresh ∙ ap not c.requires.fresh in
    let count : c.len.result ≡ length c.args.cells.now.items = search rules in
    let right = c.place_at.ensures ∙ ap (λ row. next_of None (drop (c.args.tree.now.at + 1) row)) c.deref.ensures.value in
    record {
      level = refl;
      row = refl;
      at = refl;
      side = refl;
      blocks = subst (λ b. OnTrue b (c.add.new.self.blocks.items ≡ c.args.tree.now.met.blocks.items ++ c.args.seat.place ∷ [])) fresh c.in_ok-add.ensures.blocks;
      met = subst (λ b. OnTrue b (IsMet c.add.new.self)) fresh c.in_ok-add.ensures.met;
      record_before = refl;
      next = refl;
      records = refl;
      fault = refl;
      cell = _;
      spot = λ i. record {
        tree = c.args.number;
        at = count i;
        level = c.args.tree.now.level;
        seat = c.args.seat;
        left = c.args.tree.now.side;
        right = right i;
      };
      added = c.in_ok-push.ensures.items;
    }

pub returns-in_err-add : goal.returns-in_err-add
returns-in_err-add g c = IfOk-from_err c.from_residual.result _ c.from_residual.ensures.0

pub returns-in_err-push : goal.returns-in_err-push
returns-in_err-push g c = IfOk-from_err c.from_residual-in_err-push.result _ c.from_residual-in_err-push.ensures.0
