-- Groups placed one after another.
use Rattle.std.proofs.Common.{◌≡◌, ℕ, ◌+◌, ◌*◌, ◌<◌, inl, inr, List, [], ◌∷◌, ◌++◌, length, get_or, Option, Some, None, sym, ◌∙◌, ap, subst, arith, length-append}
use Rattle.std.specs.Option.{MatchOption}
use Rattle.std.proofs.lemmas.Bool.{cases_eq}
use Rattle.std.proofs.lemmas.List.{get_or_append_left, get_or_push, get_or_default}
use Rattle.xfs_geom.specs.Volumes.{Volume}
use Rattle.xfs_geom.specs.declared.records.InoRec.{InoRec}
use Rattle.xfs_geom.specs.declared.records.Run.{Run}
use Rattle.xfs_place.specs.declared.placed.GroupPlaced.{GroupPlaced}
use Rattle.xfs_place.specs.declared.wanted.GroupInodes.{GroupInodes}
use Rattle.xfs_place.specs.Choice.{IsChosenCount}
use Rattle.xfs_place.specs.Placing.{IsPlacedGroup, inner_blocks}
use Rattle.xfs_place.specs.Wanted.{ArePlaced, IsWithoutRoom, group_in, inodes_in_group, wanted_group}

-- the records of inodes of a group, as they are read
pub inodes_read : (inodes : List GroupInodes) (ag : ℕ) (x : GroupInodes) (records : List InoRec) → ag < length inodes → records ≡ (get_or inodes ag x).records → records ≡ inodes_in_group inodes ag
inodes_read inodes ag x records in' are =
    are ∙ ap (λ (y : GroupInodes). y.records) (get_or_default inodes ag x (record { records = [] }) in')

-- what one group gives, by its records
one_is : (v : Volume) (kept : List Run) (reserved : List ℕ) (inodes : List GroupInodes) (ag : ℕ) (records : List InoRec) (o : Option GroupPlaced) → records ≡ inodes_in_group inodes ag
    → MatchOption o (IsChosenCount (group_in v kept reserved ag (inner_blocks records)) None) (IsPlacedGroup (group_in v kept reserved ag (inner_blocks records)) (ag * v.agblocks) records)
    → MatchOption o (IsChosenCount (wanted_group v kept reserved inodes ag) None) (IsPlacedGroup (wanted_group v kept reserved inodes ag) (ag * v.agblocks) (inodes_in_group inodes ag))
one_is v kept reserved inodes ag records o same placed =
    subst (λ (rs : List InoRec). MatchOption o (IsChosenCount (group_in v kept reserved ag (inner_blocks rs)) None) (IsPlacedGroup (group_in v kept reserved ag (inner_blocks rs)) (ag * v.agblocks) rs)) same placed

pub no_room_at : (v : Volume) (kept : List Run) (reserved : List ℕ) (inodes : List GroupInodes) (ag : ℕ) (groups : List GroupPlaced) (x : GroupInodes) (records : List InoRec) (o : Option GroupPlaced)
    → ArePlaced v kept reserved inodes ag groups → ag < v.agcount → ag < length inodes → records ≡ (get_or inodes ag x).records
    → MatchOption o (IsChosenCount (group_in v kept reserved ag (inner_blocks records)) None) (IsPlacedGroup (group_in v kept reserved ag (inner_blocks records)) (ag * v.agblocks) records)
    → o ≡ None → IsWithoutRoom v kept reserved inodes ag
no_room_at v kept reserved inodes ag groups x records o before low in' are placed none = record {
  inside = low;
  none =
      let here = one_is v kept reserved inodes ag records o (inodes_read inodes ag x records in' are) placed in
      subst (λ (p : Option GroupPlaced). MatchOption p (IsChosenCount (wanted_group v kept reserved inodes ag) None) (IsPlacedGroup (wanted_group v kept reserved inodes ag) (ag * v.agblocks) (inodes_in_group inodes ag))) none here;
  others = λ k h.
      let d : GroupPlaced = record { bno = []; cnt = []; fino = []; rmap = []; trees = []; agfl = [] } in
      let one = before.each k d h in
      (length one.blocks, one.chosen);
}

pub one_more : (v : Volume) (kept : List Run) (reserved : List ℕ) (inodes : List GroupInodes) (ag : ℕ) (groups now : List GroupPlaced) (x : GroupInodes) (records : List InoRec) (o : Option GroupPlaced)
    (p : GroupPlaced) → ArePlaced v kept reserved inodes ag groups → ag < length inodes → records ≡ (get_or inodes ag x).records
    → MatchOption o (IsChosenCount (group_in v kept reserved ag (inner_blocks records)) None) (IsPlacedGroup (group_in v kept reserved ag (inner_blocks records)) (ag * v.agblocks) records)
    → o ≡ Some p → now ≡ groups ++ p ∷ [] → ArePlaced v kept reserved inodes (ag + 1) now
one_more v kept reserved inodes ag groups now x records o p before in' are placed some put = record {
  all = ap length put ∙ length-append groups (p ∷ []) ∙ (omega (arith, before.all));
  each = λ k d h.
      let here = one_is v kept reserved inodes ag records o (inodes_read inodes ag x records in' are) placed in
      let this : IsPlacedGroup (wanted_group v kept reserved inodes ag) (ag * v.agblocks) (inodes_in_group inodes ag) p =
      subst (λ (q : Option GroupPlaced). MatchOption q (IsChosenCount (wanted_group v kept reserved inodes ag) None) (IsPlacedGroup (wanted_group v kept reserved inodes ag) (ag * v.agblocks) (inodes_in_group inodes ag))) some here in
      elim (cases_eq k ag) [
        | inl same ↦
            let at : get_or now k d ≡ p = ap (λ (gs : List GroupPlaced). get_or gs k d) put ∙ get_or_push groups p d k (before.all ∙ sym same) in
            subst (λ (q : GroupPlaced). IsPlacedGroup (wanted_group v kept reserved inodes k) (k * v.agblocks) (inodes_in_group inodes k) q) (sym at)
            (subst (λ (j : ℕ). IsPlacedGroup (wanted_group v kept reserved inodes j) (j * v.agblocks) (inodes_in_group inodes j) p) (sym same) this)
        | inr other ↦
            let at : get_or now k d ≡ get_or groups k d = ap (λ (gs : List GroupPlaced). get_or gs k d) put ∙ get_or_append_left groups (p ∷ []) d k (omega (arith, h, other, before.all)) in
            subst (λ (q : GroupPlaced). IsPlacedGroup (wanted_group v kept reserved inodes k) (k * v.agblocks) (inodes_in_group inodes k) q) (sym at) (before.each k d (omega (arith, h, other)))
      ];
}
