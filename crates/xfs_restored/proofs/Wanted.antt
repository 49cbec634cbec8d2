-- What is wanted of a slot of a kept cluster, by the list of all that is wanted, and what is known of it.
use Rattle.std.proofs.Common.{◌≡◌, ℕ, Bool, cond, ◌+◌, ◌≤◌, ◌<◌, inl, inr, ◌==◌, if◌then◌else◌, List, [], ◌∷◌, ◌++◌, map, filter, Option, Some, None, refl, sym, ap, ap₂, ◌∙◌, subst, arith}
use Rattle.std.specs.List.{flat_map}
use Rattle.std.proofs.lemmas.Bool.{cases_eq, eq-eqb, ne_eqb}
use Rattle.std.proofs.lemmas.List.Concat.{flat_map-append}
use Rattle.xfs_disk.specs.Blocks.{Image}
use Rattle.xfs_disk.specs.declared.stamp.Stamp.{Stamp}
use Rattle.xfs_geom.specs.Volumes.{Volume}
use Rattle.xfs_image.specs.Claims.{candidate_inodes}
use Rattle.xfs_image.specs.Slots.{cluster_blocks, cluster_inodes, inodes_of_block, reads_as}
use Rattle.xfs_naming.specs.Naming.{NumbersAscend, numbers_of}
use Rattle.xfs_volume.specs.declared.files.FileRec.{FileRec}
use Rattle.xfs_views.proofs.Members.{Member}
use Rattle.xfs_render.specs.Slots.{wanted_of}
use Rattle.xfs_render.specs.declared.wanted_slots.SlotWanted.{SlotWanted}
use Rattle.xfs_salvage.specs.declared.found.Salvaged.{Salvaged}
use Rattle.xfs_rename.specs.xfs_request.Slots.{as_list, bare_slot, block_slots, cluster_slots, file_slot, first_state, slot_listed, slot_of, slot_wanted, state_at, wanted_slots}
use Rattle.xfs_rename.specs.xfs_request.declared.seen.SlotSeen.{SlotSeen}
use Rattle.xfs_rename.proofs.xfs_made.Spaced.{IsOf, wanted_of_ino}
use Rattle.xfs_restored.specs.DueFiles.{kept_inodes}
use Rattle.xfs_restored.specs.Kept.{all_slots_seen, slot_seen, state_read}

pub flat_flat : {X Y Z : Type 0} (f : Y → List Z) (g : X → List Y) (xs : List X) → flat_map f (flat_map g xs) ≡ flat_map (λ x. flat_map f (g x)) xs
flat_flat f g [] = refl
flat_flat {Z = Z} f g (x ∷ xs) = flat_map-append f (g x) (flat_map g xs) ∙ ap (λ (zs : List Z). flat_map f (g x) ++ zs) (flat_flat f g xs)

module _ (v : Volume) (s : Stamp) (kept : Salvaged) (slots : List SlotSeen) where
  cluster_is : (k : ℕ) → flat_map (slot_listed v s kept slots) (cluster_inodes v k) ≡ cluster_slots v s kept slots k
  unfolding cluster_slots block_slots cluster_inodes
  cluster_is k = flat_flat (slot_listed v s kept slots) (inodes_of_block v) (cluster_blocks k)

  clusters_are : (ks : List ℕ) → flat_map (slot_listed v s kept slots) (flat_map (cluster_inodes v) ks) ≡ flat_map (cluster_slots v s kept slots) ks
  clusters_are [] = refl
  clusters_are (k ∷ ks) =
      flat_map-append (slot_listed v s kept slots) (cluster_inodes v k) (flat_map (cluster_inodes v) ks)
      ∙ ap₂ (λ (xs ys : List SlotWanted). xs ++ ys) (cluster_is k) (clusters_are ks)

  pub listed : wanted_slots v s kept slots ≡ flat_map (slot_listed v s kept slots) (kept_inodes v kept)
  unfolding wanted_slots kept_inodes
  listed = sym (clusters_are kept.clusters)

  -- what is wanted of the slot of an inode stands in front of the rest, where it is the inode's
  own_first : (ino x : ℕ) (o : Option SlotWanted) (rest : List SlotWanted) → IsOf x o → x ≡ ino → wanted_of rest ino ≡ o → wanted_of (as_list o ++ rest) ino ≡ o
  own_first ino x None rest of same behind = behind
  own_first ino x (Some w) rest of same behind = ap (λ (t : Bool). if t then Some w else wanted_of rest ino) (eq-eqb w.ino ino (of ∙ same))

  other_first : (ino x : ℕ) (o : Option SlotWanted) (rest : List SlotWanted) → IsOf x o → (x ≡ ino → ⊥) → wanted_of (as_list o ++ rest) ino ≡ wanted_of rest ino
  other_first ino x None rest of other = refl
  other_first ino x (Some w) rest of other = ap (λ (t : Bool). if t then Some w else wanted_of rest ino) (ne_eqb w.ino ino (λ is. other (sym of ∙ is)))

  -- no other slot is that of the inode
  none_wanted : (ino : ℕ) (inos : List ℕ) → slot_wanted v s kept slots ino ≡ None → wanted_of (flat_map (slot_listed v s kept slots) inos) ino ≡ None
  none_wanted ino [] none = refl
  none_wanted ino (x ∷ inos) none =
      let rest = none_wanted ino inos none in
      elim (cases_eq x ino) [
        | inl same ↦
            let here : slot_wanted v s kept slots x ≡ None = ap (slot_wanted v s kept slots) same ∙ none in
            ap (λ (o : Option SlotWanted). wanted_of (as_list o ++ flat_map (slot_listed v s kept slots) inos) ino) here ∙ rest
        | inr other ↦ other_first ino x (slot_wanted v s kept slots x) (flat_map (slot_listed v s kept slots) inos) (wanted_of_ino v s kept slots x) other ∙ rest
      ]

  among_wanted : (ino : ℕ) (inos : List ℕ) → Member ino inos → wanted_of (flat_map (slot_listed v s kept slots) inos) ino ≡ slot_wanted v s kept slots ino
  among_wanted ino [] is = absurd is
  among_wanted ino (x ∷ inos) is =
      elim (cases_eq x ino) [
        | inl same ↦ by_wanted (slot_wanted v s kept slots x) refl (wanted_of_ino v s kept slots x) same
        | inr other ↦
            other_first ino x (slot_wanted v s kept slots x) (flat_map (slot_listed v s kept slots) inos) (wanted_of_ino v s kept slots x) other
            ∙ among_wanted ino inos (elim is [ inl same ↦ absurd (other same) | inr there ↦ there ])
      ]
    where
      by_wanted : (o : Option SlotWanted) → slot_wanted v s kept slots x ≡ o → IsOf x o → x ≡ ino
          → wanted_of (as_list (slot_wanted v s kept slots x) ++ flat_map (slot_listed v s kept slots) inos) ino ≡ slot_wanted v s kept slots ino
      by_wanted None e of same =
          let none : slot_wanted v s kept slots ino ≡ None = ap (slot_wanted v s kept slots) (sym same) ∙ e in
          ap (λ (o : Option SlotWanted). wanted_of (as_list o ++ flat_map (slot_listed v s kept slots) inos) ino) e ∙ (none_wanted ino inos none ∙ sym none)
      by_wanted (Some w) e of same =
          ap (λ (o : Option SlotWanted). wanted_of (as_list o ++ flat_map (slot_listed v s kept slots) inos) ino) e
          ∙ (ap (λ (t : Bool). if t then Some w else wanted_of (flat_map (slot_listed v s kept slots) inos) ino) (eq-eqb w.ino ino (of ∙ same))
          ∙ (sym e ∙ ap (slot_wanted v s kept slots) same))

  pub wanted_is : (ino : ℕ) → Member ino (kept_inodes v kept) → wanted_of (wanted_slots v s kept slots) ino ≡ slot_wanted v s kept slots ino
  wanted_is ino is = ap (λ (ws : List SlotWanted). wanted_of ws ino) listed ∙ among_wanted ino (kept_inodes v kept) is

  pub file_wanted : (f : FileRec) → filter (λ (x : FileRec). x.ino == f.ino) kept.files ≡ f ∷ [] → slot_wanted v s kept slots f.ino ≡ file_slot v s kept slots f
  unfolding slot_wanted
  file_wanted f only = ap (slot_of v s kept slots f.ino) only

  pub other_wanted : (ino : ℕ) → filter (λ (x : FileRec). x.ino == ino) kept.files ≡ [] → slot_wanted v s kept slots ino ≡ bare_slot v s kept slots ino
  unfolding slot_wanted
  other_wanted ino none = ap (slot_of v s kept slots ino) none

-- of files that ascend one alone has its number
no_lower : (n low : ℕ) (fs : List FileRec) → NumbersAscend low (numbers_of fs) → n < low → filter (λ (x : FileRec). x.ino == n) fs ≡ []
no_lower n low [] up less = refl
no_lower n low (f ∷ fs) up less =
    let first = up.0 in
    ap (λ (t : Bool). cond t (f ∷ filter (λ (x : FileRec). x.ino == n) fs) (filter (λ (x : FileRec). x.ino == n) fs)) (ne_eqb f.ino n (λ is. omega (arith, first, less, is)))
    ∙ no_lower n (f.ino + 1) fs up.1 (omega (arith, first, less))

-- a file among them has a number at least as high
pub at_least : (low : ℕ) (f : FileRec) (fs : List FileRec) → NumbersAscend low (numbers_of fs) → Member f fs → low ≤ f.ino
at_least low f [] up is = absurd is
at_least low f (x ∷ fs) up is =
    let first = up.0 in
    elim is [
      | inl same ↦ subst (λ (y : FileRec). low ≤ y.ino) same first
      | inr there ↦ let rest = at_least (x.ino + 1) f fs up.1 there in omega (arith, first, rest)
    ]

pub one_alone : (low : ℕ) (f : FileRec) (fs : List FileRec) → NumbersAscend low (numbers_of fs) → Member f fs → filter (λ (x : FileRec). x.ino == f.ino) fs ≡ f ∷ []
one_alone low f [] up is = absurd is
one_alone low f (x ∷ fs) up is =
    elim is [
      | inl same ↦
          ap (λ (t : Bool). cond t (x ∷ filter (λ (y : FileRec). y.ino == f.ino) fs) (filter (λ (y : FileRec). y.ino == f.ino) fs)) (eq-eqb x.ino f.ino (ap (λ (y : FileRec). y.ino) same))
          ∙ ap₂ (λ (y : FileRec) (ys : List FileRec). y ∷ ys) same (no_lower f.ino (x.ino + 1) fs up.1 (let number : x.ino ≡ f.ino = ap (λ (y : FileRec). y.ino) same in omega (arith, number)))
      | inr there ↦
          let behind = at_least (x.ino + 1) f fs up.1 there in
          ap (λ (t : Bool). cond t (x ∷ filter (λ (y : FileRec). y.ino == f.ino) fs) (filter (λ (y : FileRec). y.ino == f.ino) fs)) (ne_eqb x.ino f.ino (λ is. omega (arith, behind, is)))
          ∙ one_alone (x.ino + 1) f fs up.1 there
    ]

-- what is known of the slot of a candidate inode is what it reads as
module _ (v : Volume) (image : Image) where
  seen_among : (ino : ℕ) (inos : List ℕ) → Member ino inos → first_state (filter (λ (slot : SlotSeen). slot.ino == ino) (map (slot_seen v image) inos)) ≡ state_read (reads_as v image ino)
  seen_among ino [] is = absurd is
  seen_among ino (x ∷ inos) is =
      elim (cases_eq x ino) [
        | inl same ↦
            ap (λ (t : Bool). first_state (cond t (slot_seen v image x ∷ filter (λ (slot : SlotSeen). slot.ino == ino) (map (slot_seen v image) inos)) (filter (λ (slot : SlotSeen). slot.ino == ino) (map (slot_seen v image) inos)))) (eq-eqb x ino same)
            ∙ ap (λ (n : ℕ). state_read (reads_as v image n)) same
        | inr other ↦
            ap (λ (t : Bool). first_state (cond t (slot_seen v image x ∷ filter (λ (slot : SlotSeen). slot.ino == ino) (map (slot_seen v image) inos)) (filter (λ (slot : SlotSeen). slot.ino == ino) (map (slot_seen v image) inos)))) (ne_eqb x ino other)
            ∙ seen_among ino inos (elim is [ inl same ↦ absurd (other same) | inr there ↦ there ])
      ]

  pub state_is : (ino : ℕ) → Member ino (candidate_inodes v image) → state_at (all_slots_seen v image) ino ≡ state_read (reads_as v image ino)
  unfolding all_slots_seen
  state_is ino is = seen_among ino (candidate_inodes v image) is
