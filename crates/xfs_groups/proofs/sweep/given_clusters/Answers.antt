use borrow.Author.Count.{falls}
use Rattle.std.proofs.Common.{◌≡◌, ℕ, ◌+◌, ◌*◌, ◌^◌, ◌<◌, ◌++◌, ◌∷◌, [], List, if◌then◌else◌, drop, refl, sym, ap, subst, ◌∙◌}
use Rattle.std.specs.List.{All, list_all, range_with_len}
use Rattle.std.proofs.lemmas.List.Elements.{All-nil}
use Rattle.std.proofs.lemmas.Result.{IfOk-from_err}
use Rattle.xfs_image.specs.Clusters.{is_given_block}
use Rattle.xfs_groups.specs.Named.{GiveAlike}
use Rattle.xfs_groups.proofs.Rows.{all_alike, each_more, kept_more}
use Rattle.xfs_groups.proofs.Sweeps.{alike_later, alike_on, quarter_fits, quarter_long, quarter_low, quarter_on, quarter_place, quarter_short, quarter_sum, none_low}
use Rattle.xfs_groups.proofs.sweep.given_clusters.Goals as goal

pub loop-i-preserved : goal.loop-i-preserved
loop-i-preserved c =
    let rs = c.args.records.now in
    let i = c.loop-i.i in
    let start = c.start_of_group-start.result in
    let next = c.first_behind-next.result in
    let alike : GiveAlike (4 * i) rs (drop next rs) = alike_on (4 * i) rs (drop c.loop-i.next rs) (drop next rs) c.loop-i.invariant.alike c.first_behind-next.ensures.alike in
    record {
      high = c.first_behind-next.ensures.high;
      alike = alike_later (4 * i) (4 * (i + 1)) rs (drop next rs) (quarter_on i) alike;
      given = λ apart.
          let is : c.are_given-is_given.result ≡ list_all (is_given_block rs) (range_with_len (4 * i) 4) =
          c.are_given-is_given.ensures apart ∙ all_alike (is_given_block (drop next rs)) (is_given_block rs) (4 * i) 4 alike in
          c.in_ok-push_if.ensures
          ∙ (ap (λ (xs : List ℕ). xs ++ (if c.are_given-is_given.result then ((start + 4 * i) ∷ []) else [])) (c.loop-i.invariant.given apart)
          ∙ kept_more (λ place. start + place) (λ place. list_all (is_given_block rs) (range_with_len place 4)) (λ k. 4 * k) i c.are_given-is_given.result is);
      low = subst (All (λ cluster. cluster < 2 ^ 32)) (sym c.in_ok-push_if.ensures)
          (each_more (λ cluster. cluster < 2 ^ 32) c.loop-i.clusters.items c.are_given-is_given.result (start + 4 * i) c.loop-i.invariant.low
          (quarter_low _ _ i _ _ c.start_of_group-start.ensures.inside c.args.g.now.shape.groups.small c.loop-i-test.true c.group_length-i-end.ensures.inside));
    }

pub loop-i-init : goal.loop-i-init
loop-i-init c = record {
  high = none_low _;
  alike = λ b from. refl;
  given = λ apart. c.new-clusters.ensures.items;
  low = subst (All (λ cluster. cluster < 2 ^ 32)) (sym c.new-clusters.ensures.items) (All-nil (λ cluster. cluster < 2 ^ 32));
}

pub loop-i-smaller : goal.loop-i-smaller
loop-i-smaller c = falls _ c.loop-i.i c.loop-i-test.true

pub start_of_group-start-requires : goal.start_of_group-start-requires
start_of_group-start-requires c = c.requires

pub group_length-i-end-requires : goal.group_length-i-end-requires
group_length-i-end-requires c = c.requires

pub first_behind-next-requires : goal.first_behind-next-requires
first_behind-next-requires c = c.loop-i.invariant.high

pub are_given-is_given-requires-clause-from : goal.are_given-is_given-requires-clause-from
are_given-is_given-requires-clause-from c = c.first_behind-next.ensures.high

pub are_given-is_given-requires-clause-place : goal.are_given-is_given-requires-clause-place
are_given-is_given-requires-clause-place c = quarter_place c.loop-i.i _ c.loop-i-test.true c.group_length-i-end.type_inv

pub overflow_mul-i : goal.overflow_mul-i
overflow_mul-i c = quarter_short c.loop-i.i _ c.loop-i-test.true c.group_length-i-end.type_inv

pub overflow_mul-i-in-loop-i : goal.overflow_mul-i-in-loop-i
overflow_mul-i-in-loop-i c = quarter_short c.loop-i.i _ c.loop-i-test.true c.group_length-i-end.type_inv

pub overflow_cast-i : goal.overflow_cast-i
overflow_cast-i c = quarter_fits c.loop-i.i _ c.loop-i-test.true c.group_length-i-end.type_inv

pub overflow_mul-i-in-loop-i-2 : goal.overflow_mul-i-in-loop-i-2
overflow_mul-i-in-loop-i-2 c = quarter_long c.loop-i.i _ c.loop-i-test.true c.group_length-i-end.type_inv

pub overflow_add-start : goal.overflow_add-start
overflow_add-start c =
    quarter_sum _ _ c.loop-i.i _ _ c.start_of_group-start.ensures.inside c.args.g.now.shape.groups.small c.loop-i-test.true c.group_length-i-end.ensures.inside

pub returns-in_err-push_if : goal.returns-in_err-push_if
returns-in_err-push_if c = record {
  given = λ apart. IfOk-from_err c.from_residual.result _ c.from_residual.ensures.0;
  low = IfOk-from_err c.from_residual.result _ c.from_residual.ensures.0;
}

pub returns-clause-low : goal.returns-clause-low
returns-clause-low c = subst (All (λ cluster. cluster < 2 ^ 32)) (sym c.from_vec.ensures) c.loop-i.invariant.low
