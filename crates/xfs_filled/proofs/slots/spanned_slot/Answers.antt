use Rattle.std.proofs.Common.{◌≡◌, ◌-◌, ℕ, List, ap, drop, get_or, slice_range, ◌∙◌}
use Rattle.std.specs.List.{All, flat_map}
use Rattle.std.proofs.lemmas.List.Elements.{All-drop, All-take}
use Rattle.xfs_geom.specs.Volumes.{volume_of}
use Rattle.xfs_geom.specs.declared.records.Run.{Run}
use Rattle.xfs_place.specs.Pool.{IsRunOf}
use Rattle.xfs_render.specs.declared.wanted_slots.SlotWanted.{SlotWanted}
use Rattle.xfs_empty.proofs.Results.{ok_as}
use Rattle.xfs_filled.specs.Forks.{HasOffset, extents_of_run}
use Rattle.xfs_filled.specs.Numbers.{number_of}
use Rattle.xfs_filled.specs.Slots.{core_at, fork_of_place, made_slot, slot_of_place}
use Rattle.xfs_filled.specs.Spans.{no_span}
use Rattle.xfs_filled.proofs.slots.spanned_slot.Goals as goal

all_between : (P : Run → Type 0) (runs : List Run) (from to : ℕ) → All P runs → All P (slice_range runs from to)
all_between P runs from to all = All-take P (to - from) (drop from runs) (All-drop P from runs all)

pub slice_bounds-own-end : goal.slice_bounds-own-end
slice_bounds-own-end c = (c.requires.spans.each c.args.k c.requires.file).inside

pub file_slot-requires-clause-inside : goal.file_slot-requires-clause-inside
file_slot-requires-clause-inside c =
    let span = get_or c.args.spans.now c.args.k no_span in
    all_between (IsRunOf c.args.site.now.geometry.now.dblocks) c.args.runs.now span.from span.to c.requires.inside

pub file_slot-requires-clause-offsets : goal.file_slot-requires-clause-offsets
file_slot-requires-clause-offsets c =
    let span = get_or c.args.spans.now c.args.k no_span in
    all_between HasOffset c.args.runs.now span.from span.to c.requires.offsets

pub file_slot-requires-clause-few : goal.file_slot-requires-clause-few
file_slot-requires-clause-few c = (c.requires.spans.each c.args.k c.requires.file).few

pub returns : goal.returns
returns c =
    let site = c.args.site.now in
    let v = volume_of site.geometry.now in
    let starts = site.starts.now in
    let ns = site.nodes.now in
    let contents = site.contents.now in
    let runs = c.args.runs.now in
    let k = c.args.k in
    let span = get_or c.args.spans.now k no_span in
    let own = slice_range runs span.from span.to in
    ok_as
    (λ (w : SlotWanted). w ≡ made_slot (number_of v starts k) (core_at v c.args.stamp.now starts ns k) (fork_of_place v starts ns contents (flat_map (extents_of_run v) own) k))
    (λ (w : SlotWanted). w ≡ slot_of_place v c.args.stamp.now starts ns contents runs k) c.file_slot.result
    (λ w is.
    is
    ∙ ap (λ (rs : List Run). made_slot (number_of v starts k) (core_at v c.args.stamp.now starts ns k) (fork_of_place v starts ns contents (flat_map (extents_of_run v) rs) k))
    (c.requires.spans.each k c.requires.file).are)
    c.file_slot.ensures

pub file_slot-requires-clause-site : goal.file_slot-requires-clause-site
file_slot-requires-clause-site c = c.requires.site

pub file_slot-requires-clause-file : goal.file_slot-requires-clause-file
file_slot-requires-clause-file c = c.requires.file
