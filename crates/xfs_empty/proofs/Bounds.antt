-- Which bound of a new volume is broken first, and what is chosen where none is.
use Rattle.std.proofs.Common.{◌≡◌, ℕ, ◌+◌, ◌*◌, ◌/◌, ◌^◌, ◌⊎◌, inl, inr, ◌≤◌, ◌<◌, Bool, true, false, ◌&&◌, leb, if◌then◌else◌, List, [], ◌∷◌, Option, Some, None, sym, ap, ap₂, ◌∙◌}
use Rattle.std.proofs.lemmas.Bool.{le-leb, lt-leb}
use Rattle.xfs_geom.specs.First.{first_false}
use Rattle.xfs_geom.specs.declared.geometry.Geometry.{Geometry}
use Rattle.xfs_empty.specs.Sizes.{IsChosenGeometry, are_groups, fits_disk, groups_of, has_log_room, log_blocks, too_small, volume_blocks, where_kept}
use Rattle.xfs_empty.specs.declared.asked.SizesAsked.{SizesAsked}
use Rattle.xfs_empty.specs.declared.sizes.GroupSizes.{GroupSizes}

-- three tests, by the first that fails
unfoldable in_turn : Bool → Bool → Bool → Option ℕ
in_turn p q r = first_false ((1, p) ∷ (2, q) ∷ (3, r) ∷ [])

first : (p q r : Bool) → p ≡ false → in_turn p q r ≡ Some 1
unfolding in_turn
first p q r e = ap (λ (t : Bool). first_false ((1, t) ∷ (2, q) ∷ (3, r) ∷ [])) e

second : (p q r : Bool) → p ≡ true → q ≡ false → in_turn p q r ≡ Some 2
unfolding in_turn
second p q r e f = ap (λ (t : Bool). first_false ((1, t) ∷ (2, q) ∷ (3, r) ∷ [])) e ∙ ap (λ (t : Bool). first_false ((2, t) ∷ (3, r) ∷ [])) f

third : (p q r : Bool) → p ≡ true → q ≡ true → r ≡ false → in_turn p q r ≡ Some 3
unfolding in_turn
third p q r e f h =
    ap (λ (t : Bool). first_false ((1, t) ∷ (2, q) ∷ (3, r) ∷ [])) e ∙ ap (λ (t : Bool). first_false ((2, t) ∷ (3, r) ∷ [])) f
    ∙ ap (λ (t : Bool). first_false ((3, t) ∷ [])) h

never : (p q r : Bool) → p ≡ true → q ≡ true → r ≡ true → in_turn p q r ≡ None
unfolding in_turn
never p q r e f h =
    ap (λ (t : Bool). first_false ((1, t) ∷ (2, q) ∷ (3, r) ∷ [])) e ∙ ap (λ (t : Bool). first_false ((2, t) ∷ (3, r) ∷ [])) f
    ∙ ap (λ (t : Bool). first_false ((3, t) ∷ [])) h

-- the volume lies on the disk, or not
fits : (d b n : ℕ) → d ≤ b → d ≤ n → (leb d b && leb d n) ≡ true
fits d b n low few = ap₂ (λ (s t : Bool). s && t) (le-leb d b low) (le-leb d n few)

breaks : (d b n : ℕ) → (b < d) ⊎ ((d ≤ b) × (n < d)) → (leb d b && leb d n) ≡ false
breaks d b n over = elim over [
  | inl out ↦ ap (λ (t : Bool). t && leb d n) (lt-leb d b out)
  | inr many ↦ ap₂ (λ (s t : Bool). s && t) (le-leb d b many.0) (lt-leb d n many.1)
]

-- what is kept of groups by a test
kept : (t : Bool) (g h : GroupSizes) → (if t then Some g else None) ≡ Some h → (t ≡ true) × (g ≡ h)
kept true g h is = (cc, cc)
kept false g h is = absurd (cc)

left_out : (t : Bool) (g : GroupSizes) → (if t then Some g else None) ≡ None → t ≡ false
left_out true g is = absurd (cc)
left_out false g is = cc

module _ (a : SizesAsked) (blocks d : ℕ) (is : d ≡ volume_blocks a blocks) where
  -- the tests at the blocks of the volume
  at : (o : Option ℕ) → in_turn (fits_disk d blocks) (are_groups (groups_of a d) d) (has_log_room (groups_of a d) d (log_blocks a.logblocks (groups_of a d) d)) ≡ o
      → too_small a blocks ≡ o
  unfolding in_turn too_small
  at o found =
      ap (λ (n : ℕ). in_turn (fits_disk n blocks) (are_groups (groups_of a n) n) (has_log_room (groups_of a n) n (log_blocks a.logblocks (groups_of a n) n))) (sym is) ∙ found

  pub blocks_broken : (blocks < d) ⊎ ((d ≤ blocks) × (2 ^ 26 < d)) → too_small a blocks ≡ Some 1
  blocks_broken over = at (Some 1) (first _ _ _ (breaks d blocks (2 ^ 26) over))

  pub groups_broken : d ≤ blocks → d ≤ 2 ^ 26 → where_kept (groups_of a d) d ≡ None → too_small a blocks ≡ Some 2
  groups_broken low few none = at (Some 2) (second _ _ _ (fits d blocks (2 ^ 26) low few) (left_out (are_groups (groups_of a d) d) (groups_of a d) none))

  module _ (h : GroupSizes) (some : where_kept (groups_of a d) d ≡ Some h) where
    whole : (are_groups (groups_of a d) d ≡ true) × (groups_of a d ≡ h)
    whole = kept (are_groups (groups_of a d) d) (groups_of a d) h some

    room : (l : ℕ) (t : Bool) → l ≡ log_blocks a.logblocks h d → has_log_room h d l ≡ t
        → has_log_room (groups_of a d) d (log_blocks a.logblocks (groups_of a d) d) ≡ t
    room l t log here =
        ap (λ (g : GroupSizes). has_log_room g d (log_blocks a.logblocks g d)) whole.1 ∙ ap (has_log_room h d) (sym log) ∙ here

    pub log_broken : (l : ℕ) → d ≤ blocks → d ≤ 2 ^ 26 → l ≡ log_blocks a.logblocks h d → has_log_room h d l ≡ false → too_small a blocks ≡ Some 3
    log_broken l low few log none = at (Some 3) (third _ _ _ (fits d blocks (2 ^ 26) low few) whole.0 (room l false log none))

    pub none_broken : (l : ℕ) → d ≤ blocks → d ≤ 2 ^ 26 → l ≡ log_blocks a.logblocks h d → has_log_room h d l ≡ true → too_small a blocks ≡ None
    none_broken l low few log some = at None (never _ _ _ (fits d blocks (2 ^ 26) low few) whole.0 (room l true log some))

    pub chosen : (uuid : List ℕ) (g : Geometry) (l : ℕ) → l ≡ log_blocks a.logblocks h d → g.dblocks ≡ d → g.agblocks ≡ h.size → g.agcount ≡ h.count
        → g.log ≡ g.agcount / 2 * g.agblocks + 6 → g.logblocks ≡ l → g.rootino ≡ 128 → g.logsectlog ≡ 0 → g.uuid ≡ uuid → IsChosenGeometry a blocks uuid g
    chosen uuid g l log d_is size count place l_is root sectors id =
        let same : h ≡ groups_of a (volume_blocks a blocks) = sym whole.1 ∙ ap (groups_of a) is in
        record {
          dblocks = d_is ∙ is;
          agblocks = size ∙ ap (λ (x : GroupSizes). x.size) same;
          agcount = count ∙ ap (λ (x : GroupSizes). x.count) same;
          log = place;
          logblocks = l_is ∙ log ∙ ap₂ (λ (x : GroupSizes) (n : ℕ). log_blocks a.logblocks x n) same is;
          rootino = root;
          logsectlog = sectors;
          uuid' = id;
        }
