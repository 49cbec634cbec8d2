use Rattle.std.proofs.Common.{ℕ, ◌≡◌, ◌++◌, ◌∷◌, [], ◌<◌, nat_lt, List, length, length-append, Some, sym, ◌∙◌, ap, subst, arith}
use Rattle.std.proofs.lemmas.Result.{IfOk-from_err}
use Rattle.xfs_geom.specs.Volumes.{volume_of}
use Rattle.xfs_geom.specs.declared.records.Run.{Run}
use Rattle.xfs_place.specs.Finding.{IsFrontOf}
use Rattle.xfs_place.specs.Objects.{IsAsk, front_of, run_at, spared_in}
use Rattle.xfs_place.proofs.Pieces.{front_push, pieces_last, pieces_next, pieces_over, pieces_stop, rest_is, one_longer, one_below}
use Rattle.xfs_place.proofs.object_placing.Keeper.put_ask.Goals as goal

pub returns-in_default : goal.returns-in_default
returns-in_default c =
    let s = c.args.site.now in
    let l = c.loop-n in
    let found = rw c.in_default.is at c.in_ok-blocks.ensures.piece in
    record {
      kept = c.in_ok-blocks.ensures.kept;
      pool = c.in_ok-blocks.ensures.pool;
      placed = l.invariant.same ∙ pieces_stop (volume_of s.geometry.now) s.reserved.now s.from (spared_in c.args.all s.spared.now) c.args.most l.n (nat_lt 0 l.n) l.self.all.items l.rest c.loop-n-test.true found.0;
      count = tt;
      few = tt;
      front = subst (IsFrontOf c.args.self.now.all.items) (sym found.1) l.invariant.front;
    }

pub returns-then-blocks-rest : goal.returns-then-blocks-rest
returns-then-blocks-rest c =
    let s = c.args.site.now in
    let l = c.loop-n in
    let found = rw c.in-Some.is at c.in_ok-blocks.ensures.piece in
    let run = run_at found.0 (front_of l.rest c.in-Some.blocks) in
    let put : c.put_piece.new.self.all.items ≡ l.self.all.items ++ run ∷ [] = found.2 in
    record {
      kept = c.in_ok-blocks.ensures.kept;
      pool = c.in_ok-blocks.ensures.pool;
      placed = l.invariant.same
          ∙ pieces_last (volume_of s.geometry.now) s.reserved.now s.from (spared_in c.args.all s.spared.now) c.args.most l.n (nat_lt 0 l.n) l.self.all.items l.rest found.0 c.in-Some.blocks c.loop-n-test.true found.1 c.if-blocks-rest.true
          ∙ ap (λ (rs : List Run). Some rs) (sym put);
      count = one_longer c.args.self.now.all.items l.self.all.items c.put_piece.new.self.all.items run l.n l.invariant.long put;
      few = one_below l.n c.args.most c.loop-n-test.true;
      front = front_push c.args.self.now.all.items l.self.all.items c.put_piece.new.self.all.items (run ∷ []) l.invariant.front put;
    }

pub loop-n-preserved : goal.loop-n-preserved
loop-n-preserved c =
    let s = c.args.site.now in
    let l = c.loop-n in
    let found = rw c.in-Some.is at c.in_ok-blocks.ensures.piece in
    let few = rw c.in-Some.is at c.in_ok-blocks.ensures.few in
    let put : c.put_piece.new.self.all.items ≡ l.self.all.items ++ run_at found.0 (front_of l.rest c.in-Some.blocks) ∷ [] = found.2 in
    let less : c.in-Some.blocks < l.rest.blocks = omega (arith, few.1, c.if-blocks-rest.false) in
    record {
      same = l.invariant.same
          ∙ pieces_next (volume_of s.geometry.now) s.reserved.now s.from (spared_in c.args.all s.spared.now) c.args.most l.n (nat_lt 0 l.n) l.self.all.items c.put_piece.new.self.all.items l.rest c.rest_of-rest.result found.0 c.in-Some.blocks
          c.loop-n-test.true found.1 c.if-blocks-rest.false put c.rest_of-rest.ensures;
      ask' = subst IsAsk (sym c.rest_of-rest.ensures) (rest_is l.rest c.in-Some.blocks l.invariant.ask' less);
      front = front_push c.args.self.now.all.items l.self.all.items c.put_piece.new.self.all.items (run_at found.0 (front_of l.rest c.in-Some.blocks) ∷ []) l.invariant.front put;
      long = one_longer c.args.self.now.all.items l.self.all.items c.put_piece.new.self.all.items (run_at found.0 (front_of l.rest c.in-Some.blocks)) l.n l.invariant.long put;
      kept = c.in_ok-blocks.ensures.kept;
      pool' = c.in_ok-blocks.ensures.pool;
    }

pub returns : goal.returns
returns c =
    let s = c.args.site.now in
    let l = c.loop-n in
    record {
      kept = l.invariant.kept;
      pool = l.invariant.pool';
      placed = l.invariant.same ∙ pieces_over (volume_of s.geometry.now) s.reserved.now s.from (spared_in c.args.all s.spared.now) c.args.most l.n (nat_lt 0 l.n) l.self.all.items l.rest c.loop-n-test.false;
      count = tt;
      few = tt;
      front = l.invariant.front;
    }

pub put_piece-requires-clause-ask : goal.put_piece-requires-clause-ask
put_piece-requires-clause-ask c = c.loop-n.invariant.ask'

pub put_piece-requires-clause-kept : goal.put_piece-requires-clause-kept
put_piece-requires-clause-kept c = c.loop-n.invariant.kept

pub put_piece-requires-clause-pool : goal.put_piece-requires-clause-pool
put_piece-requires-clause-pool c = c.loop-n.invariant.pool'

pub rest_of-rest-requires-clause-fits : goal.rest_of-rest-requires-clause-fits
rest_of-rest-requires-clause-fits c = c.loop-n.invariant.ask'

pub rest_of-rest-requires-clause-few : goal.rest_of-rest-requires-clause-few
rest_of-rest-requires-clause-few c =
    let few = rw c.in-Some.is at c.in_ok-blocks.ensures.few in
    few.1

pub returns-in_err-blocks : goal.returns-in_err-blocks
returns-in_err-blocks c = IfOk-from_err c.from_residual.result _ c.from_residual.ensures.0
