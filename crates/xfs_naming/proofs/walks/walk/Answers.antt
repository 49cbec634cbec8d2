use Rattle.std.proofs.Common.{ℕ, List, [], ◌∷◌, ◌++◌, ◌==◌, length, rules, ap, ◌∙◌, subst}
use Rattle.std.specs.List.{list_any}
use Rattle.xfs_dirdata.specs.declared.records.EntryRec.{EntryRec}
use Rattle.xfs_naming.specs.Private.Walking.{HasMarked}
use Rattle.xfs_naming.proofs.Reaching.{walk_starts, walk_goes, walk_ends, way_short, at_most_one}
use Rattle.xfs_naming.proofs.walks.walk.Goals as goal

pub loop-dir-init : goal.loop-dir-init
loop-dir-init c =
    let n = c.args.names.now in
    walk_starts n.root n.files.now n.entries.now n.dirs.now c.new-reached.result.keys c.reach.new.reached.keys c.push.new.self.items c.new-reached.ensures.empty c.in_ok-reach.ensures.updates
    (at_most_one c.new-reached.result.keys (length c.reach.new.reached.keys) c.in_ok-reach.field-0 c.new-reached.ensures.empty c.in_ok-reach.ensures.len)
    c.in_ok-reach.ensures.unique
    (c.in_ok-push.ensures.items ∙ ap (λ (xs : List ℕ). xs ++ n.root ∷ []) c.new-waiting.ensures.items)

pub loop-dir-preserved : goal.loop-dir-preserved
loop-dir-preserved c =
    let n = c.args.names.now in
    walk_goes n.root n.files.now n.entries.now n.dirs.now c.loop-dir.reached.keys c.mark_named.new.reached.keys c.loop-dir.waiting.items c.pop.new.self.items c.mark_named.new.waiting.items c.in-Some.dir c.requires.named c.loop-dir.invariant
    c.in-Some.ensures.items
    (subst (λ (own : List EntryRec). HasMarked n.files.now (λ (x : ℕ). list_any (λ (e : EntryRec). e.ino == x) own) c.loop-dir.reached.keys c.mark_named.new.reached.keys c.pop.new.self.items c.mark_named.new.waiting.items)
    c.records_by_number.ensures c.in_ok-mark_named.ensures)

pub returns-clause-walked : goal.returns-clause-walked
returns-clause-walked c = λ ino dir. walk_ends c.args.names.now.root c.args.names.now.files.now c.args.names.now.entries.now c.args.names.now.dirs.now c.loop-dir.reached.keys c.loop-dir.waiting.items c.requires.named c.loop-dir.invariant (search rules) ino dir

pub returns-clause-ways : goal.returns-clause-ways
returns-clause-ways c = λ ino dir way. way_short c.args.names.now.root c.args.names.now.files.now c.args.names.now.entries.now c.args.names.now.dirs.now c.loop-dir.reached.keys c.loop-dir.waiting.items c.requires.named c.loop-dir.invariant (search rules) ino dir way
