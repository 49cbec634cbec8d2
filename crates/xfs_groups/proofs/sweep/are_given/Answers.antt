use Rattle.std.proofs.Common.{◌≡◌, ◌+◌, true, false, drop, sym, ◌∙◌, arith}
use Rattle.std.proofs.lemmas.Bool.{and_from}
use Rattle.std.specs.List.{list_all, range_with_len}
use Rattle.xfs_image.specs.Clusters.{is_given_block}
use Rattle.xfs_groups.specs.Named.{GiveAlike}
use Rattle.xfs_groups.proofs.Rows.{all_more, all_unless}
use Rattle.xfs_groups.proofs.Sweeps.{alike_later, alike_on, apart_dropped}
use Rattle.xfs_groups.proofs.sweep.are_given.Goals as goal

pub returns-then-not-is_given_at : goal.returns-then-not-is_given_at
returns-then-not-is_given_at c = λ apart.
    let rs = c.args.records.now in
    let b = c.args.place + c.loop-k.k in
    let next = c.first_behind-next.result in
    let here : is_given_block (drop c.args.from rs) b ≡ false =
    sym (c.first_behind-next.ensures.alike b (omega arith) ∙ c.loop-k.invariant.alike b (omega arith))
    ∙ (sym (c.is_given_at.ensures (apart_dropped next 0 rs apart) c.first_behind-next.ensures.behind) ∙ c.if-not-is_given_at.true) in
    sym (all_unless (is_given_block (drop c.args.from rs)) c.args.place c.args.count c.loop-k.k (omega arith) here)

pub loop-k-preserved : goal.loop-k-preserved
loop-k-preserved c =
    let rs = c.args.records.now in
    let b = c.args.place + c.loop-k.k in
    let next = c.first_behind-next.result in
    let alike : GiveAlike b (drop c.args.from rs) (drop next rs) =
    alike_on b (drop c.args.from rs) (drop c.loop-k.next rs) (drop next rs) c.loop-k.invariant.alike c.first_behind-next.ensures.alike in
    record {
      high = c.first_behind-next.ensures.high;
      alike = alike_later b (c.args.place + (c.loop-k.k + 1)) (drop c.args.from rs) (drop next rs) (omega arith) alike;
      given = λ apart.
          let here : is_given_block (drop c.args.from rs) b ≡ true =
          sym (alike b (omega arith)) ∙ (sym (c.is_given_at.ensures (apart_dropped next 0 rs apart) c.first_behind-next.ensures.behind) ∙ c.if-not-is_given_at.false) in
          all_more (is_given_block (drop c.args.from rs)) c.args.place c.loop-k.k
          ∙ and_from (list_all (is_given_block (drop c.args.from rs)) (range_with_len c.args.place c.loop-k.k)) (is_given_block (drop c.args.from rs) b) (c.loop-k.invariant.given apart) here;
    }
