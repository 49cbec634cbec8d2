use Rattle.std.proofs.Common.{◌≡◌, ℕ, List, map, sym, ap₂, ◌∙◌, subst}
use Rattle.std.specs.Prelude.{OnOk}
use Rattle.std.specs.List.{All}
use Rattle.std.proofs.lemmas.Result.{IfOk-from_err}
use Rattle.xfs_claims.specs.declared.claimants.FileClaim.{FileClaim}
use Rattle.xfs_claims.specs.Keeping.{Holding, EndsLow, IsClaim}
use Rattle.xfs_claims.specs.Ranks.{recorded_clusters, scanned_clusters, recorded_files, scanned_files}
use Rattle.xfs_claims.specs.Private.Held.{held_of}
use Rattle.xfs_claims.specs.Private.Places.{file_at_place}
use Rattle.xfs_claims.specs.Private.Ranked.{due_steps}
use Rattle.xfs_claims.proofs.Counted.{root_counted, recorded_counted, scanned_counted}
use Rattle.xfs_claims.proofs.Kept.{same_files, same_places, kept_by_rank}
use Rattle.xfs_claims.proofs.salvage.keep_ranked.Goals as goal

pub keep_cluster-requires : goal.keep_cluster-requires
keep_cluster-requires g c = c.requires.root

pub keep_both-requires-clause-clusters : goal.keep_both-requires-clause-clusters
keep_both-requires-clause-clusters g c = subst (λ (x : List ℕ). All EndsLow x) (sym c.deref.ensures.value) c.requires.recorded

pub keep_both-requires-clause-claims : goal.keep_both-requires-clause-claims
keep_both-requires-clause-claims g c = subst (λ (x : List FileClaim). All IsClaim x) (sym c.as_slice-files.ensures) c.requires.files_claim

pub keep_both-requires-clause-places : goal.keep_both-requires-clause-places
keep_both-requires-clause-places g c = same_places _ _ _ _ c.as_slice-files.ensures c.deref-2.ensures.value c.requires.ranked.recorded_places

pub keep_both-requires-2-clause-clusters : goal.keep_both-requires-2-clause-clusters
keep_both-requires-2-clause-clusters g c = subst (λ (x : List ℕ). All EndsLow x) (sym c.deref-3.ensures.value) c.requires.scanned

pub keep_both-requires-2-clause-claims : goal.keep_both-requires-2-clause-claims
keep_both-requires-2-clause-claims g c = subst (λ (x : List FileClaim). All IsClaim x) (sym c.as_slice-files.ensures) c.requires.files_claim

pub keep_both-requires-2-clause-places : goal.keep_both-requires-2-clause-places
keep_both-requires-2-clause-places g c = same_places _ _ _ _ c.as_slice-files.ensures c.deref-4.ensures.value c.requires.ranked.scanned_places

pub returns-in_err-keep_cluster-clause-held : goal.returns-in_err-keep_cluster-clause-held
returns-in_err-keep_cluster-clause-held g c = IfOk-from_err c.from_residual.result _ c.from_residual.ensures.0

pub returns-in_err-keep_cluster-clause-ticks : goal.returns-in_err-keep_cluster-clause-ticks
returns-in_err-keep_cluster-clause-ticks g c = root_counted _ _ _ _ c.in_err-keep_cluster.ensures.ticks

pub returns-in_err-keep_both-clause-held : goal.returns-in_err-keep_both-clause-held
returns-in_err-keep_both-clause-held g c = IfOk-from_err c.from_residual-in_err-keep_both.result _ c.from_residual-in_err-keep_both.ensures.0

pub returns-in_err-keep_both-clause-ticks : goal.returns-in_err-keep_both-clause-ticks
returns-in_err-keep_both-clause-ticks g c =
    let recorded : c.deref.result.now ≡ recorded_clusters c.args.claims.now = c.deref.ensures.value ∙ c.requires.ranked.recorded in
    let files : map (file_at_place c.as_slice-files.result.now) c.deref-2.result.now ≡ recorded_files c.args.claims.now =
    same_files _ _ _ _ _ c.as_slice-files.ensures c.deref-2.ensures.value c.requires.ranked.in_recorded in
    recorded_counted _ _ _ _ _ _ (ap₂ due_steps recorded files) c.in_ok-keep_cluster.ensures.ticks c.in_err-keep_both.ensures.ticks

pub returns-clause-held : goal.returns-clause-held
returns-clause-held g c =
    let recorded : c.deref.result.now ≡ recorded_clusters c.args.claims.now = c.deref.ensures.value ∙ c.requires.ranked.recorded in
    let files : map (file_at_place c.as_slice-files.result.now) c.deref-2.result.now ≡ recorded_files c.args.claims.now =
    same_files _ _ _ _ _ c.as_slice-files.ensures c.deref-2.ensures.value c.requires.ranked.in_recorded in
    let scanned : c.deref-3.result.now ≡ scanned_clusters c.args.claims.now = c.deref-3.ensures.value ∙ c.requires.ranked.scanned in
    let others : map (file_at_place c.as_slice-files.result.now) c.deref-4.result.now ≡ scanned_files c.args.claims.now =
    same_files _ _ _ _ _ c.as_slice-files.ensures c.deref-4.ensures.value c.requires.ranked.in_scanned in
    subst (λ (h : Holding). OnOk c.keep_both-2.result (held_of c.keep_both-2.new.self ≡ h))
    (kept_by_rank c.args.claims.now (held_of c.args.taken.now) (held_of c.keep_cluster.new.self) (held_of c.keep_both.new.self) c.deref.result.now c.deref-3.result.now
    (map (file_at_place c.as_slice-files.result.now) c.deref-2.result.now) (map (file_at_place c.as_slice-files.result.now) c.deref-4.result.now)
    recorded files scanned others c.in_ok-keep_cluster.ensures.held c.in_ok-keep_both.ensures.held)
    c.keep_both-2.ensures.held

pub returns-clause-ticks : goal.returns-clause-ticks
returns-clause-ticks g c =
    let recorded : c.deref.result.now ≡ recorded_clusters c.args.claims.now = c.deref.ensures.value ∙ c.requires.ranked.recorded in
    let files : map (file_at_place c.as_slice-files.result.now) c.deref-2.result.now ≡ recorded_files c.args.claims.now =
    same_files _ _ _ _ _ c.as_slice-files.ensures c.deref-2.ensures.value c.requires.ranked.in_recorded in
    let scanned : c.deref-3.result.now ≡ scanned_clusters c.args.claims.now = c.deref-3.ensures.value ∙ c.requires.ranked.scanned in
    let others : map (file_at_place c.as_slice-files.result.now) c.deref-4.result.now ≡ scanned_files c.args.claims.now =
    same_files _ _ _ _ _ c.as_slice-files.ensures c.deref-4.ensures.value c.requires.ranked.in_scanned in
    scanned_counted _ _ _ _ _ _ _ _ (ap₂ due_steps recorded files) (ap₂ due_steps scanned others) c.in_ok-keep_cluster.ensures.ticks c.in_ok-keep_both.ensures.ticks c.keep_both-2.ensures.ticks
