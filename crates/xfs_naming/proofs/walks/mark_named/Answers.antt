use Rattle.std.proofs.Common.{ℕ, Bool, ◌+◌, ◌==◌, ◌||◌, List, take, sym, ap, ◌∙◌, subst, arith}
use Rattle.std.specs.List.{list_any}
use Rattle.std.proofs.lemmas.List.{take_all}
use Rattle.std.proofs.lemmas.List.Folds.{list_any_more}
use Rattle.xfs_dirdata.specs.declared.records.EntryRec.{EntryRec}
use Rattle.xfs_naming.specs.Private.Walking.{HasMarked}
use Rattle.xfs_naming.proofs.Marked.{marked_start, marked_more}
use Rattle.xfs_naming.proofs.walks.mark_named.Goals as goal

pub loop-entry-init : goal.loop-entry-init
loop-entry-init c = marked_start c.args.names.now.files.now c.args.reached.now.keys c.args.waiting.now.items

pub loop-entry-preserved : goal.loop-entry-preserved
loop-entry-preserved c =
    let own = c.args.own.now in
    let i = c.loop-entry.entry-index in
    let entry = c.entry-item.result in
    marked_more c.args.names.now.files.now
    (λ (x : ℕ). list_any (λ (e : EntryRec). e.ino == x) (take i own))
    (λ (x : ℕ). entry.ino == x)
    (λ (x : ℕ). list_any (λ (e : EntryRec). e.ino == x) (take (i + 1) own))
    c.args.reached.now.keys c.loop-entry.reached.keys c.mark.new.reached.keys c.args.waiting.now.items c.loop-entry.waiting.items c.mark.new.waiting.items
    (λ x. list_any_more (λ (e : EntryRec). e.ino == x) own i entry c.loop-entry-test.true
    ∙ ap (λ (e : EntryRec). list_any (λ (f : EntryRec). f.ino == x) (take i own) || e.ino == x) (sym c.entry-item.is))
    c.loop-entry.invariant c.in_ok-mark.ensures

pub returns : goal.returns
returns c =
    subst (λ (own : List EntryRec). HasMarked c.args.names.now.files.now (λ (x : ℕ). list_any (λ (e : EntryRec). e.ino == x) own) c.args.reached.now.keys c.loop-entry.reached.keys c.args.waiting.now.items c.loop-entry.waiting.items)
    (take_all c.loop-entry.entry-index c.args.own.now (omega arith)) c.loop-entry.invariant
