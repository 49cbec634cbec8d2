use Rattle.std.proofs.Common.{Vec, Global, ◌≡◌, ℕ, ◌+◌, ◌++◌, ◌≤◌, ◌∷◌, length, get_or, drop, List, [], sym, ◌∙◌, ap, subst}
use Rattle.std.proofs.lemmas.List.{drop_all}
use Rattle.xfs_geom.specs.declared.records.Run.{Run}
use Rattle.xfs_kinds.specs.MergedRuns.{NoneJoin, held_at}
use Rattle.xfs_kinds.proofs.Joined.{swept, swept_is, none_join, held_merged}
use Rattle.xfs_kinds.proofs.Swept.{Left, left_first, left_next, left_joined, left_apart, left_fits}
use Rattle.xfs_kinds.proofs.merging.merge_behind.Goals.{then-joins, else-joins+in_ok-push}
use Rattle.xfs_kinds.proofs.merging.merge_behind.Goals as goal

-- what the loop leads to, and the last run
found : (all rest joined items : List Run) (last : Run) (i : ℕ) → items ≡ joined ++ (last ∷ []) → joined ++ swept last (drop i rest) ≡ all → length rest ≤ i → items ≡ all
found all rest joined items last i put same end = put ∙ ap (λ (rs : List Run). joined ++ swept last rs) (sym (drop_all i rest end)) ∙ same

pub returns-clause-joined : goal.returns-clause-joined
returns-clause-joined c =
    found (swept c.args.first.now c.args.rest.now) c.args.rest.now c.loop-run.joined.items c.push-2.new.self.items c.loop-run.last c.loop-run.run-index
    c.in_ok-push-2.ensures.items c.loop-run.invariant.same c.loop-run-test.false
    ∙ swept_is c.args.rest.now c.args.first.now

pub returns-clause-apart : goal.returns-clause-apart
returns-clause-apart c = subst NoneJoin (sym (returns-clause-joined c)) (none_join (c.args.first.now ∷ c.args.rest.now))

pub returns-clause-held : goal.returns-clause-held
returns-clause-held c offsets block =
    ap (λ (rs : List Run). held_at rs block) (returns-clause-joined c) ∙ held_merged (c.args.first.now ∷ c.args.rest.now) block offsets

abbrev no_run : Run
no_run = record { start = 0; count = 0; owner = 0; offset_word = 0 }

pub loop-run-init : goal.loop-run-init
loop-run-init c = left_first c.args.first.now c.args.rest.now c.new-joined.result.items c.new-joined.ensures.items c.requires

pub joins-requires : goal.joins-requires
joins-requires c = c.loop-run.invariant.end

pub longer-last-requires : goal.longer-last-requires
longer-last-requires c =
    let rest = c.args.rest.now in
    let i = c.loop-run.run-index in
    let all = swept c.args.first.now rest in
    left_fits all c.loop-run.joined.items c.loop-run.last (get_or rest i no_run) (drop (i + 1) rest) (sym c.joins.ensures ∙ c.if-joins.true)
    (left_next all c.loop-run.joined.items c.loop-run.last rest i no_run c.loop-run-test.true c.loop-run.invariant)

pub loop-run-preserved : goal.loop-run-preserved
loop-run-preserved c =
    let rest = c.args.rest.now in
    let i = c.loop-run.run-index in
    let left = drop (i + 1) rest in
    let all = swept c.args.first.now rest in
    let joined = c.loop-run.joined.items in
    let last = c.loop-run.last in
    let run = get_or rest i no_run in
    let next = left_next all joined last rest i no_run c.loop-run-test.true c.loop-run.invariant in
    elim c.if-joins.branch [
      | then-joins w ↦
          subst (λ (v : Vec Run Global). Left all v.items c.if-joins.last left) (sym w.joined-is)
          (subst (λ (r : Run). Left all joined r left) (sym (w.last-is ∙ w.longer-last.ensures)) (left_joined all joined last run left (sym c.joins.ensures ∙ w.if-joins.true) next))
      | else-joins+in_ok-push w ↦
          subst (λ (v : Vec Run Global). Left all v.items c.if-joins.last left) (sym w.joined-is)
          (subst (λ (r : Run). Left all w.push.new.self.items r left) (sym w.last-is)
          (left_apart all joined w.push.new.self.items last run left (sym c.joins.ensures ∙ w.if-joins.false) w.in_ok-push.ensures.items next))
    ]
