use Rattle.std.proofs.Common.{List, ◌++◌, ◌<◌, get_or, sym, ap, subst, ◌≡◌, ◌+◌, [], ◌∷◌, length, drop, ◌∙◌, arith}
use Rattle.std.proofs.lemmas.List.{append-nil, drop_all, take_all}
use borrow.Author.Count.{falls}
use Rattle.std.proofs.lemmas.Result.{IfOk-from_err}
use Rattle.std.proofs.lemmas.Bool.{true≢false}
use Rattle.xfs_geom.specs.Volumes.{volume_of}
use Rattle.xfs_place.specs.Objects.{IsAsk, ServeAsks, keep_asks, spared_in}
use Rattle.xfs_place.specs.declared.wanted.RunAsk.{RunAsk}
use Rattle.xfs_place.proofs.Pieces.{asks_end, asks_next, asks_stop, cuts_next, front_long, front_push, front_same, front_then}
use Rattle.xfs_place.proofs.object_placing.Keeper.put_asks.Goals as goal

abbrev none_asked : RunAsk
none_asked = record { blocks = 0; owner = 0; offset_word = 0 }

pub returns-in_default : goal.returns-in_default
returns-in_default c =
    let s = c.args.site.now in
    let l = c.loop-i in
    let none = rw c.in_default.is at c.in_ok-count.ensures.placed in
    record {
      kept = c.in_ok-count.ensures.kept;
      pool = c.in_ok-count.ensures.pool;
      placed = l.invariant.same
          ∙ asks_stop (volume_of s.geometry.now) s.reserved.now s.from (spared_in c.args.all s.spared.now) l.left c.saturating_sub-most.result l.self.all.items c.as_slice-asks.result.now l.i none_asked c.loop-i-test.true c.saturating_sub-most.ensures none;
      front = front_then c.args.self.now.all.items l.self.all.items c.put_ask.new.self.all.items l.invariant.front c.in_ok-count.ensures.front;
      cut = l.invariant.cut;
      cuts = λ never. absurd (true≢false (sym never));
    }

pub loop-i-init : goal.loop-i-init
loop-i-init c =
    let s = c.args.site.now in
    let old = c.args.self.now.all.items in
    let o = c.args.object.now in
    let before = c.args.cuts.now.items in
    record {
      same = ap (keep_asks (volume_of s.geometry.now) s.reserved.now s.from (spared_in c.args.all s.spared.now) o.most old) (sym c.as_slice-asks.ensures);
      few = omega arith;
      front = front_same old;
      cut = front_same before;
      kept = c.requires.kept;
      pool' = c.requires.pool;
      cuts' = λ asks were. subst (λ (rs : List RunAsk). ServeAsks rs before (drop c.args.first old)) (sym (append-nil asks)) were;
    }

pub loop-i-preserved : goal.loop-i-preserved
loop-i-preserved c =
    let s = c.args.site.now in
    let l = c.loop-i in
    let asks = c.as_slice-asks.result.now in
    let now = c.put_ask.new.self.all.items in
    let some = rw c.in-Some.is at c.in_ok-count.ensures.placed in
    let long : length now ≡ length l.self.all.items + c.in-Some.count = rw c.in-Some.is at c.in_ok-count.ensures.count in
    record {
      same = l.invariant.same
          ∙ asks_next (volume_of s.geometry.now) s.reserved.now s.from (spared_in c.args.all s.spared.now) l.left c.saturating_sub-most.result c.in-Some.count l.self.all.items now asks l.i none_asked c.loop-i-test.true
          c.saturating_sub-most.ensures some long;
      few = omega (arith, l.invariant.few);
      front = front_then c.args.self.now.all.items l.self.all.items now l.invariant.front c.in_ok-count.ensures.front;
      cut = front_push c.args.cuts.now.items l.cuts.items c.push.new.self.items (c.in-Some.count ∷ []) l.invariant.cut c.in_ok-push.ensures.items;
      kept = c.in_ok-count.ensures.kept;
      pool' = c.in_ok-count.ensures.pool;
      cuts' = λ done were.
          cuts_next (volume_of s.geometry.now) s.reserved.now s.from (spared_in c.args.all s.spared.now) c.saturating_sub-most.result c.in-Some.count c.args.first l.self.all.items now done asks l.i none_asked l.cuts.items
          c.push.new.self.items (omega (arith, c.requires.first, front_long c.args.self.now.all.items l.self.all.items l.invariant.front)) c.loop-i-test.true some long c.in_ok-push.ensures.items (l.invariant.cuts' done were);
    }

pub returns : goal.returns
returns c =
    let s = c.args.site.now in
    let l = c.loop-i in
    let asked = c.as_slice-asks.result.now in
    let now = l.self.all.items in
    record {
      kept = l.invariant.kept;
      pool = l.invariant.pool';
      placed = l.invariant.same ∙ asks_end (volume_of s.geometry.now) s.reserved.now s.from (spared_in c.args.all s.spared.now) l.left now (drop l.i asked) (drop_all l.i asked c.loop-i-test.false);
      front = l.invariant.front;
      cut = l.invariant.cut;
      cuts = λ _ asks were.
          subst (λ (rs : List RunAsk). ServeAsks (asks ++ rs) l.cuts.items (drop c.args.first now)) (take_all l.i asked c.loop-i-test.false ∙ c.as_slice-asks.ensures) (l.invariant.cuts' asks were);
    }

pub put_ask-requires-clause-ask : goal.put_ask-requires-clause-ask
put_ask-requires-clause-ask c =
    let i = c.loop-i.i in
    subst (λ (rs : List RunAsk). IsAsk (get_or rs i none_asked)) (sym c.as_slice-asks.ensures) (c.requires.asks i none_asked (subst (λ (rs : List RunAsk). i < length rs) c.as_slice-asks.ensures c.loop-i-test.true))

pub put_ask-requires-clause-kept : goal.put_ask-requires-clause-kept
put_ask-requires-clause-kept c = c.loop-i.invariant.kept

pub put_ask-requires-clause-pool : goal.put_ask-requires-clause-pool
put_ask-requires-clause-pool c = c.loop-i.invariant.pool'

pub returns-in_err-count : goal.returns-in_err-count
returns-in_err-count c = IfOk-from_err c.from_residual.result _ c.from_residual.ensures.0

pub returns-in_err-push : goal.returns-in_err-push
returns-in_err-push c = IfOk-from_err c.from_residual-in_err-push.result _ c.from_residual-in_err-push.ensures.0

pub loop-i-smaller : goal.loop-i-smaller
loop-i-smaller c = falls (length c.as_slice-asks.result.now) c.loop-i.i c.loop-i-test.true
