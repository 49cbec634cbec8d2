-- The spans of the files that come first in the order are found.
use Rattle.std.proofs.Common.{◌≡◌, ◌≢◌, ℕ, ◌+◌, ◌-◌, ◌≤◌, ◌<◌, ◌⊎◌, inl, inr, List, ◌∷◌, ◌++◌, length, take, drop, get_or, arith, sym, subst, ap, ◌∙◌}
use Rattle.std.specs.List.{All, Contains, flat_map}
use Rattle.std.proofs.Math.Seq.{take-add}
use Rattle.std.proofs.lemmas.Bool.{cases_lt}
use Rattle.std.proofs.lemmas.List.{drop-drop, drop_more, get_or-drop, get_or_default, get_or-take, length-drop, length-take-le, take-append-drop}
use Rattle.std.proofs.lemmas.List.Elements.{All-append}
use Rattle.xfs_geom.specs.Volumes.{Volume}
use Rattle.xfs_geom.specs.declared.records.Run.{Run}
use Rattle.xfs_proto.specs.declared.protofile.ProtoNode.{ProtoNode}
use Rattle.xfs_filled.specs.FileTrees.{object_order}
use Rattle.xfs_filled.specs.Forks.{extents_of_run, owned_by}
use Rattle.xfs_filled.specs.Numbers.{number_of}
use Rattle.xfs_filled.specs.Spans.{AreRunsOf, HasRunsOf, no_run, no_span}
use Rattle.xfs_filled.specs.declared.spans.RunSpan.{RunSpan}
use Rattle.xfs_filled.proofs.Ordered.{order_has}
use Rattle.xfs_filled.proofs.Spanning.{IsOther, others_in, owned_between}

-- the runs of an owner end where those of the next begin
ends : (owner : ℕ) (runs : List Run) (at to n : ℕ) → n ≤ length (drop at runs) → All (λ (r : Run). r.owner ≡ owner) (take n (drop at runs)) → All (IsOther owner) (drop n (drop at runs))
    → at ≤ length runs → at ≤ to → to ≤ length runs → ((m : ℕ) → at ≤ m → m < to → (get_or runs m no_run).owner ≡ owner) → (to < length runs → (get_or runs to no_run).owner ≢ owner) → to ≡ at + n
ends owner runs at to n few owned behind inside up most same other = by_case (cases_lt to (at + n)) (cases_lt (at + n) to)
  where
    by_case : (to < at + n) ⊎ (at + n ≤ to) → (at + n < to) ⊎ (to ≤ at + n) → to ≡ at + n
    by_case (inl less) _ =
        let long = length-drop at runs in
        let long' : length (take n (drop at runs)) ≡ n = length-take-le n (drop at runs) few in
        let here : at + (to - at) ≡ to = omega (arith, up) in
        let is : get_or (take n (drop at runs)) (to - at) no_run ≡ get_or runs to no_run =
        get_or-take n (drop at runs) (to - at) no_run (omega (arith, less, up)) ∙ get_or-drop at runs (to - at) no_run ∙ ap (λ (m : ℕ). get_or runs m no_run) here in
        absurd (other (omega (arith, less, few, long)) (ap (λ (r : Run). r.owner) (sym is) ∙ owned (to - at) no_run (omega (arith, long', less, up))))
    by_case (inr _) (inl more) =
        let long = length-drop at runs in
        let rest = length-drop n (drop at runs) in
        let is : get_or (drop n (drop at runs)) 0 no_run ≡ get_or runs (at + (n + 0)) no_run = get_or-drop n (drop at runs) 0 no_run ∙ get_or-drop at runs (n + 0) no_run in
        absurd (behind 0 no_run (omega (arith, rest, long, more, most)) (ap (λ (r : Run). r.owner) is ∙ same (at + (n + 0)) (omega arith) (omega (arith, more))))
    by_case (inr low) (inr high) = omega (arith, low, high)

module _ (v : Volume) (starts order : List ℕ) (runs : List Run) where
  -- the number of the file that comes so many places behind the first
  abbrev pub owner_at : ℕ → ℕ
  owner_at j = number_of v starts (get_or order j 0)

  -- the first files have their spans, which end here, and what is left has the runs of the others
  pub record AreSpanned (i at : ℕ) (spans : List RunSpan) : Type 0 where
    pub inside : at ≤ length runs
    pub rest : AreRunsOf v starts (drop i order) (drop at runs)
    pub others : (j : ℕ) → i ≤ j → j < length order → All (IsOther (owner_at j)) (take at runs)
    pub each : (j : ℕ) → j < i → HasRunsOf v runs (owner_at j) (get_or spans (get_or order j 0) no_span)

  pub spanned_none : (spans : List RunSpan) → AreRunsOf v starts order runs → AreSpanned 0 0 spans
  spanned_none spans are = record { inside = omega arith; rest = are; others = λ j up low k d less. absurd (omega (arith, less)); each = λ j low. absurd (omega (arith, low)) }

  -- the span of a file
  span_is : (i at n : ℕ) (spans : List RunSpan) → i < length order → n ≤ length (drop at runs) → All (λ (r : Run). r.owner ≡ owner_at i) (take n (drop at runs))
      → length (flat_map (extents_of_run v) (take n (drop at runs))) ≤ 21 → All (IsOther (owner_at i)) (drop n (drop at runs)) → AreSpanned i at spans
      → HasRunsOf v runs (owner_at i) (record { from = at; to = at + n })
  span_is i at n spans low few owned small behind so =
      let long = length-drop at runs in
      let inside = so.inside in
      let width : at + n - at ≡ n = omega arith in
      let own : take (at + n - at) (drop at runs) ≡ take n (drop at runs) = ap (λ (m : ℕ). take m (drop at runs)) width in
      let whole : take at runs ++ (take n (drop at runs) ++ drop n (drop at runs)) ≡ runs =
      ap (λ (xs : List Run). take at runs ++ xs) (take-append-drop n (drop at runs)) ∙ take-append-drop at runs in
      record {
        rise = omega arith;
        inside = omega (arith, long, few, inside);
        few = subst (λ (rs : List Run). length (flat_map (extents_of_run v) rs) ≤ 21) (sym own) small;
        are = own ∙ sym (ap (owned_by (owner_at i)) (sym whole) ∙ owned_between (owner_at i) (take at runs) (take n (drop at runs)) (drop n (drop at runs)) (so.others i (omega arith) low) owned behind);
      }

  -- one file more
  pub spanned_more : (i at to : ℕ) (spans new : List RunSpan) → i < length order
      → ((j m : ℕ) → j < length order → m < length order → j ≢ m → owner_at j ≢ owner_at m)
      → AreSpanned i at spans
      → at ≤ to → to ≤ length runs → ((m : ℕ) → at ≤ m → m < to → (get_or runs m no_run).owner ≡ owner_at i) → (to < length runs → (get_or runs to no_run).owner ≢ owner_at i)
      → get_or new (get_or order i 0) no_span ≡ record { from = at; to = to }
      → ((j : ℕ) → j < i → get_or new (get_or order j 0) no_span ≡ get_or spans (get_or order j 0) no_span)
      → AreSpanned (i + 1) to new
  spanned_more i at to spans new low differ so up most same other here there =
      let are : AreRunsOf v starts (get_or order i 0 ∷ drop (i + 1) order) (drop at runs) = subst (λ (ks : List ℕ). AreRunsOf v starts ks (drop at runs)) (drop_more order i 0 low) so.rest in
      let n = are.0 in
      let inside = so.inside in
      let behind : All (IsOther (owner_at i)) (drop n (drop at runs)) =
      others_in v starts (owner_at i) (drop (i + 1) order) (drop n (drop at runs)) are.4 (λ j d few.
      let long = length-drop (i + 1) order in
      later j d (omega (arith, few, long))) in
      let end : to ≡ at + n = ends (owner_at i) runs at to n are.1 are.2 behind inside up most same other in
      record {
        inside = most;
        rest = subst (AreRunsOf v starts (drop (i + 1) order)) (drop-drop n at runs ∙ ap (λ (m : ℕ). drop m runs) (sym end)) are.4;
        others = λ j above below.
            subst (λ (rs : List Run). All (IsOther (owner_at j)) rs) (sym (ap (λ (m : ℕ). take m runs) end ∙ take-add at n runs))
            (All-append (IsOther (owner_at j)) (take at runs) (take n (drop at runs)) (so.others j (omega (arith, above)) below)
            (λ k d less is. differ i j low below (omega (arith, above)) (sym (are.2 k d less) ∙ is)));
        each = λ j below. by_case j n (span_is i at n spans low are.1 are.2 are.3 behind so) end (cases_lt j i) below;
      }
    where
      later : (j d : ℕ) → i + 1 + j < length order → number_of v starts (get_or (drop (i + 1) order) j d) ≢ owner_at i
      later j d few is =
          differ (i + 1 + j) i few low (omega arith)
          (ap (λ (k : ℕ). number_of v starts k) (sym (get_or-drop (i + 1) order j d ∙ get_or_default order (i + 1 + j) d 0 few)) ∙ is)

      by_case : (j n : ℕ) → HasRunsOf v runs (owner_at i) (record { from = at; to = at + n }) → to ≡ at + n → (j < i) ⊎ (i ≤ j) → j < i + 1 → HasRunsOf v runs (owner_at j) (get_or new (get_or order j 0) no_span)
      by_case j n now end (inl before) below = subst (HasRunsOf v runs (owner_at j)) (sym (there j before)) (so.each j before)
      by_case j n now end (inr behind) below =
          let same_place : j ≡ i = omega (arith, behind, below) in
          subst (λ (m : ℕ). HasRunsOf v runs (owner_at m) (get_or new (get_or order m 0) no_span)) (sym same_place)
          (subst (HasRunsOf v runs (owner_at i)) (sym (here ∙ ap (λ (m : ℕ). record { from = at; to = m }) end)) now)

-- in the end all files have theirs
pub spanned_all : (v : Volume) (starts : List ℕ) (ns : List ProtoNode) (order : List ℕ) (runs : List Run) (i at : ℕ) (spans : List RunSpan) → order ≡ object_order ns → length order ≤ i
    → AreSpanned v starts order runs i at spans → (k : ℕ) → k < length ns → HasRunsOf v runs (number_of v starts k) (get_or spans k no_span)
spanned_all v starts ns order runs i at spans is past so k low =
    let there : Contains order k = subst (λ (xs : List ℕ). Contains xs k) (sym is) (order_has ns k low) in
    let inside = there.1 in
    let place : get_or order there.0 0 ≡ k = get_or_default order there.0 0 k inside ∙ there.2 in
    subst (λ (m : ℕ). HasRunsOf v runs (number_of v starts m) (get_or spans m no_span)) place (so.each there.0 (omega (arith, inside, past)))
