-- What was wanted of slots before names change: it stands by inode, and only of inodes of kept clusters.
use Rattle.std.proofs.Common.{◌≡◌, ◌⊎◌, inl, inr, ℕ, Bool, true, false, ◌+◌, ◌≤◌, ◌==◌, ◌||◌, if◌then◌else◌, List, [], ◌∷◌, ◌++◌, filter, Option, Some, None, refl, sym, ap, ◌∙◌, subst, arith}
use Rattle.std.specs.List.{flat_map}
use Rattle.std.specs.Option.{is_some}
use Rattle.std.proofs.lemmas.Bool.{cases_eq, eq-eqb, eqb-true, ne_eqb}
use Rattle.xfs_disk.specs.Lists.{is_among}
use Rattle.xfs_disk.specs.declared.stamp.Stamp.{Stamp}
use Rattle.xfs_geom.specs.Volumes.{Volume}
use Rattle.xfs_naming.specs.Naming.{NumbersAscend}
use Rattle.xfs_volume.specs.declared.files.FileRec.{FileRec}
use Rattle.xfs_views.proofs.Members.{Member, flat_member, member_flat}
use Rattle.xfs_render.specs.Slots.{wanted_of}
use Rattle.xfs_render.specs.declared.wanted_slots.SlotBase.TheVariants.{Kept}
use Rattle.xfs_render.specs.declared.wanted_slots.SlotWanted.{SlotWanted}
use Rattle.xfs_salvage.specs.declared.found.Salvaged.{Salvaged}
use Rattle.xfs_rename.specs.xfs_request.Fresh.{new_root_core, new_root_slot, new_slot, new_system_core, new_system_slot}
use Rattle.xfs_rename.specs.xfs_request.Slots.{as_list, attrs_wanted, bare_slot, freed_slot, is_free, kept_slot, links_due, nlink_wanted, slot_listed, slot_of, slot_wanted, state_at, wanted_slots}
use Rattle.xfs_rename.specs.xfs_request.declared.seen.SlotSeen.{SlotSeen}
use Rattle.xfs_rename.proofs.xfs_made.Spaced.{IsOf, wanted_of_ino}
use Rattle.xfs_rename.specs.xfs_rebuild.Names.{made_files, made_of, new_file}
use Rattle.xfs_restored.specs.DueFiles.{kept_inodes, new_core}
use Rattle.xfs_restored.proofs.Wanted.{listed, other_wanted}
use Rattle.xfs_rename.specs.xfs_changes.declared.changes.SlotChange.{SlotChange}
use Rattle.xfs_restored.specs.Changes.{SlotsAscend, first_change}

-- a number that no change has is that of none
pub none_at : (cs : List SlotChange) (ino : ℕ) → ((c : SlotChange) → Member c cs → c.ino ≡ ino → ⊥) → first_change cs ino ≡ None
none_at [] ino other = refl
none_at (c ∷ cs) ino other =
    ap (λ (t : Bool). if t then Some c else first_change cs ino) (ne_eqb c.ino ino (other c (inl refl))) ∙ none_at cs ino (λ x is. other x (inr is))

from_lower : (low high : ℕ) (ws : List SlotWanted) → low ≤ high → SlotsAscend high ws → SlotsAscend low ws
from_lower low high [] le up = tt
from_lower low high (w ∷ ws) le up = (let first = up.0 in omega (arith, le, first), up.1)

module _ (v : Volume) (s : Stamp) (kept : Salvaged) (seen : List SlotSeen) where
  abbrev slots_in : List ℕ → List SlotWanted
  slots_in inos = flat_map (slot_listed v s kept seen) inos

  -- they stand by inode
  then_up : (low ino : ℕ) (o : Option SlotWanted) (rest : List SlotWanted) → low ≤ ino → IsOf ino o → SlotsAscend (ino + 1) rest → SlotsAscend low (as_list o ++ rest)
  then_up low ino None rest le of up = from_lower low (ino + 1) rest (omega (arith, le)) up
  then_up low ino (Some w) rest le of up = (omega (arith, le, of), subst (λ (m : ℕ). SlotsAscend (m + 1) rest) (sym of) up)

  pub slots_up : (low : ℕ) (inos : List ℕ) → NumbersAscend low inos → SlotsAscend low (slots_in inos)
  slots_up low [] up = tt
  slots_up low (ino ∷ inos) up = then_up low ino (slot_wanted v s kept seen ino) (slots_in inos) up.0 (wanted_of_ino v s kept seen ino) (slots_up (ino + 1) inos up.1)

  -- of an inode that is none of them nothing is wanted; of any inode nothing, or what is by what is kept
  pub none_outside : (ino : ℕ) (inos : List ℕ) → (Member ino inos → ⊥) → wanted_of (slots_in inos) ino ≡ None
  none_outside ino [] out = refl
  none_outside ino (x ∷ inos) out = by_wanted (slot_wanted v s kept seen x) (wanted_of_ino v s kept seen x) (none_outside ino inos (λ is. out (inr is)))
    where
      by_wanted : (o : Option SlotWanted) → IsOf x o → wanted_of (slots_in inos) ino ≡ None → wanted_of (as_list o ++ slots_in inos) ino ≡ None
      by_wanted None of rest = rest
      by_wanted (Some w) of rest =
          ap (λ (t : Bool). if t then Some w else wanted_of (slots_in inos) ino) (ne_eqb w.ino ino (λ same. out (inl (sym of ∙ same)))) ∙ rest

  abbrev IsEither : ℕ → List SlotWanted → Type 0
  IsEither ino ws = (wanted_of ws ino ≡ None) ⊎ (wanted_of ws ino ≡ slot_wanted v s kept seen ino)

  pub wanted_either : (ino : ℕ) (inos : List ℕ) → (wanted_of (slots_in inos) ino ≡ None) ⊎ (wanted_of (slots_in inos) ino ≡ slot_wanted v s kept seen ino)
  wanted_either ino [] = inl refl
  wanted_either ino (x ∷ inos) = by_wanted (slot_wanted v s kept seen x) refl (wanted_of_ino v s kept seen x) (wanted_either ino inos)
    where
      by_wanted : (o : Option SlotWanted) → slot_wanted v s kept seen x ≡ o → IsOf x o → IsEither ino (slots_in inos) → IsEither ino (as_list o ++ slots_in inos)
      by_wanted None e of rest = rest
      by_wanted (Some w) e of rest =
          elim (cases_eq w.ino ino) [
            | inl same ↦
                inr (ap (λ (t : Bool). if t then Some w else wanted_of (slots_in inos) ino) (eq-eqb w.ino ino same)
                ∙ (sym e ∙ ap (slot_wanted v s kept seen) (sym of ∙ same)))
            | inr other ↦
                let behind : wanted_of (w ∷ slots_in inos) ino ≡ wanted_of (slots_in inos) ino =
                ap (λ (t : Bool). if t then Some w else wanted_of (slots_in inos) ino) (ne_eqb w.ino ino other) in
                elim rest [ inl none ↦ inl (behind ∙ none) | inr own ↦ inr (behind ∙ own) ]
          ]

  -- a file that is made anew for an inode
  abbrev pub IsMadeFor : ℕ → FileRec → Type 0
  IsMadeFor ino f = (is_among kept.fresh ino ≡ true) × (f ≡ new_file ino (new_core v s ino))

  abbrev made_by : SlotWanted → List FileRec
  made_by w = made_of w.ino w.base

  new_made : (ino : ℕ) → made_by (new_slot v s ino) ≡ new_file ino (new_core v s ino) ∷ []
  new_made ino = by_root (ino == v.rootino) refl
    where
      by_root : (t : Bool) → (ino == v.rootino) ≡ t → made_by (if t then new_root_slot v s else new_system_slot v s ino) ≡ new_file ino (if t then new_root_core v s else new_system_core v s ino) ∷ []
      by_root true e = ap (λ (m : ℕ). new_file m (new_root_core v s) ∷ []) (sym (eqb-true ino v.rootino e))
      by_root false e = refl

  from_bare : (ino : ℕ) (f : FileRec) (w : SlotWanted) → Member w (as_list (bare_slot v s kept seen ino)) → Member f (made_by w) → IsMadeFor ino f
  from_bare ino f w is made = by_fresh (is_among kept.fresh ino) refl is
    where
      by_free : (t : Bool) → Member w (as_list (if t then None else Some (freed_slot ino))) → IsMadeFor ino f
      by_free true is = absurd is
      by_free false is = elim is [
        | inl same ↦ absurd (subst (λ (x : SlotWanted). Member f (made_by x)) (sym same) made)
        | inr none ↦ absurd none
      ]

      by_fresh : (t : Bool) → is_among kept.fresh ino ≡ t
          → Member w (as_list (if t then Some (new_slot v s ino) else (if is_free (state_at seen ino) then None else Some (freed_slot ino)))) → IsMadeFor ino f
      by_fresh true fresh is = elim is [
        | inl same ↦
            let own : Member f (new_file ino (new_core v s ino) ∷ []) =
            subst (λ (fs : List FileRec). Member f fs) (new_made ino) (subst (λ (x : SlotWanted). Member f (made_by x)) (sym same) made) in
            elim own [ inl it ↦ (fresh, sym it) | inr none ↦ absurd none ]
        | inr none ↦ absurd none
      ]
      by_fresh false off is = by_free (is_free (state_at seen ino)) is

  from_kept : (ino number : ℕ) (attrs nlink : Option ℕ) (f : FileRec) (w : SlotWanted) → Member w (as_list (kept_slot number attrs nlink)) → Member f (made_by w) → IsMadeFor ino f
  from_kept ino number attrs nlink f w is made = by_case (is_some attrs || is_some nlink) is
    where
      by_case : (t : Bool) → Member w (as_list (if t then Some (record { ino = number; base = Kept; drop_attrs = attrs; fork = None; nlink = nlink }) else None)) → IsMadeFor ino f
      by_case true is = elim is [
        | inl same ↦ absurd (subst (λ (x : SlotWanted). Member f (made_by x)) (sym same) made)
        | inr none ↦ absurd none
      ]
      by_case false is = absurd is

  from_slot : (ino : ℕ) (fs : List FileRec) (f : FileRec) (w : SlotWanted) → Member w (as_list (slot_of v s kept seen ino fs)) → Member f (made_by w) → IsMadeFor ino f
  from_slot ino [] f w is made = from_bare ino f w is made
  from_slot ino (x ∷ xs) f w is made = from_kept ino x.ino (attrs_wanted x (state_at seen x.ino)) (nlink_wanted x (links_due v.rootino kept.files kept.entries x)) f w is made

  pub made_is : (f : FileRec) → Member f (made_files (wanted_slots v s kept seen)) → (ino : ℕ) × IsMadeFor ino f
  unfolding slot_wanted
  made_is f is =
      let one = flat_member made_by f (slots_in (kept_inodes v kept)) (subst (λ (ws : List SlotWanted). Member f (made_files ws)) (listed v s kept seen) is) in
      let two = flat_member (slot_listed v s kept seen) one.0 (kept_inodes v kept) one.1 in
      (two.0, from_slot two.0 (filter (λ (x : FileRec). x.ino == two.0) kept.files) f one.0 two.2 one.2)

  -- and for each inode that is to be made anew one is
  pub fresh_slot : (ino : ℕ) → is_among kept.fresh ino ≡ true → filter (λ (x : FileRec). x.ino == ino) kept.files ≡ [] → slot_wanted v s kept seen ino ≡ Some (new_slot v s ino)
  fresh_slot ino fresh none =
      other_wanted v s kept seen ino none
      ∙ ap (λ (t : Bool). if t then Some (new_slot v s ino) else (if is_free (state_at seen ino) then None else Some (freed_slot ino))) fresh

  pub made_there : (ino : ℕ) → Member ino (kept_inodes v kept) → is_among kept.fresh ino ≡ true → filter (λ (x : FileRec). x.ino == ino) kept.files ≡ []
      → Member (new_file ino (new_core v s ino)) (made_files (wanted_slots v s kept seen))
  made_there ino inside fresh none =
      let listed_there : Member (new_slot v s ino) (slots_in (kept_inodes v kept)) =
      member_flat (slot_listed v s kept seen) ino (new_slot v s ino) (kept_inodes v kept) inside
      (subst (λ (o : Option SlotWanted). Member (new_slot v s ino) (as_list o)) (sym (fresh_slot ino fresh none)) (inl refl)) in
      subst (λ (ws : List SlotWanted). Member (new_file ino (new_core v s ino)) (made_files ws)) (sym (listed v s kept seen))
      (member_flat made_by (new_slot v s ino) (new_file ino (new_core v s ino)) (slots_in (kept_inodes v kept)) listed_there
      (subst (λ (fs : List FileRec). Member (new_file ino (new_core v s ino)) fs) (sym (new_made ino)) (inl refl)))
