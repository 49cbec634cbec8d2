-- The kept clusters stand apart, and so their slots stand by inode.
use Rattle.std.proofs.Common.{◌≡◌, ℕ, Bool, true, false, ◌+◌, ◌≤◌, ◌<◌, ◌⊎◌, inl, inr, ◌==◌, ◌||◌, if◌then◌else◌, List, [], ◌∷◌, ◌++◌, map, filter, Option, Some, None, MatchOption, refl, sym, subst, ap, ap₂, ◌∙◌, arith}
use Rattle.std.specs.List.{AllByRecursion, flat_map}
use Rattle.std.specs.List.Sorted.{IsNonDecreasingBy}
use Rattle.std.specs.Option.{is_some}
use Rattle.std.proofs.lemmas.Bool.{eqb-true}
use Rattle.std.proofs.lemmas.List.Concat.{flat_map-append}
use Rattle.xfs_disk.specs.Lists.{is_among}
use Rattle.xfs_disk.specs.declared.stamp.Stamp.{Stamp}
use Rattle.xfs_geom.specs.Volumes.{Volume, volume_of}
use Rattle.xfs_geom.specs.declared.geometry.Geometry.{Geometry}
use Rattle.xfs_image.specs.Slots.{cluster_blocks, cluster_inodes, inodes_of_block}
use Rattle.xfs_claims.specs.Ranks.{first_block}
use Rattle.xfs_naming.specs.Naming.{NumbersAscend}
use Rattle.xfs_naming.proofs.Order.{Rises, rises_by}
use Rattle.xfs_made.proofs.xfs_views.Members.{Member, all_members, filter_member, member_map}
use Rattle.xfs_made.specs.xfs_views.Claimed.{claims_in}
use Rattle.xfs_made.specs.xfs_render.declared.wanted_slots.SlotBase.TheVariants as Base
use Rattle.xfs_made.specs.xfs_render.declared.wanted_slots.SlotWanted.{SlotWanted}
use Rattle.xfs_volume.specs.declared.clusters.ClusterRec.{ClusterRec}
use Rattle.xfs_volume.specs.declared.files.FileRec.{FileRec}
use Rattle.xfs_request.specs.xfs_salvage.Claimable.{AscendWithin, CanBeSalvaged}
use Rattle.xfs_request.specs.xfs_salvage.Kept.{claims_held, kept_clusters}
use Rattle.xfs_request.specs.xfs_salvage.declared.found.Salvaged.{Salvaged}
use Rattle.xfs_made.proofs.Ordered.{clusters_of_volume_ascend}
use Rattle.xfs_made.proofs.Inodes.{blocks_then, first_in, later_block}
use Rattle.xfs_made.proofs.KeptTaken.{kept_all}
use Rattle.xfs_request.specs.Fresh.{new_slot, new_root_slot, new_system_slot}
use Rattle.xfs_request.specs.Slots.{as_list, attrs_wanted, bare_slot, block_slots, cluster_slots, freed_slot, is_free, kept_slot, links_due, nlink_wanted, slot_listed, slot_of, slot_wanted, state_at, wanted_slots}
use Rattle.xfs_request.specs.declared.seen.SlotSeen.{SlotSeen}
use Rattle.xfs_made.specs.Handed.{IsKeptOf}

-- what holds of each kept cluster, where it holds of each that was found
pub each_kept : (P : ℕ → Type 0) (v : Volume) (clusters : List ClusterRec) (files : List FileRec) → CanBeSalvaged v clusters files
    → AllByRecursion (λ (c : ClusterRec). P c.block) clusters → AllByRecursion P (kept_clusters v clusters files)
unfolding claims_held
each_kept P v clusters files can all = kept_all P (claims_in v clusters files) can.root all

-- of clusters that were found none begins inside another
no_lower : (top low : ℕ) (cs : List ClusterRec) (b : ℕ) → AscendWithin top low cs → Member b (map first_block cs) → low ≤ b
no_lower top low [] b up is = absurd is
no_lower top low (c ∷ cs) b up is =
    let first = up.0 in
    elim is [
      | inl same ↦ omega (arith, first, same)
      | inr there ↦ let rest = no_lower top (c.block + 4) cs b up.2 there in omega (arith, first, rest)
    ]

four_apart : (top low : ℕ) (cs : List ClusterRec) (a b : ℕ) → AscendWithin top low cs → Member a (map first_block cs) → Member b (map first_block cs) → a < b → a + 4 ≤ b
four_apart top low [] a b up one other less = absurd one
four_apart top low (c ∷ cs) a b up one other less =
    elim one [
      | inl first ↦ elim other [
        | inl second ↦ absurd (omega (arith, first, second, less))
        | inr there ↦ let rest = no_lower top (c.block + 4) cs b up.2 there in omega (arith, first, rest)
      ]
      | inr behind ↦ elim other [
        | inl second ↦ let rest = no_lower top (c.block + 4) cs a up.2 behind in absurd (omega (arith, second, rest, less))
        | inr there ↦ four_apart top (c.block + 4) cs a b up.2 behind there less
      ]
    ]

-- each begins behind the four blocks of the one before
abbrev pub AreSpaced : ℕ → List ℕ → Type 0
AreSpaced low [] = Unit {0}
AreSpaced low (k ∷ ks) = (low ≤ k) × AreSpaced (k + 4) ks

spaced : (top : ℕ) (cs : List ClusterRec) → AscendWithin top 0 cs → (low : ℕ) (ks : List ℕ) → NumbersAscend low ks → AllByRecursion (λ k. Member k (map first_block cs)) ks → AreSpaced low ks
spaced top cs within low [] up all = tt
spaced top cs within low (k ∷ []) up all = (up.0, tt)
spaced top cs within low (k ∷ m ∷ ks) up all =
    let rest = spaced top cs within (k + 1) (m ∷ ks) up.1 all.1 in
    let behind = up.1.0 in
    (up.0, (four_apart top 0 cs k m within all.0 all.1.0 (omega (arith, behind)), rest.1))

pub kept_spaced : (v : Volume) (clusters : List ClusterRec) (files : List FileRec) → CanBeSalvaged v clusters files → AreSpaced 0 (kept_clusters v clusters files)
kept_spaced v clusters files can =
    spaced v.dblocks clusters can.clusters_lie 0 (kept_clusters v clusters files) (clusters_of_volume_ascend v clusters files)
    (each_kept (λ k. Member k (map first_block clusters)) v clusters files can
    (all_members (λ (c : ClusterRec). Member c.block (map first_block clusters)) clusters (λ c is. member_map first_block c clusters is)))

-- the inodes of clusters that stand apart ascend
pub inodes_up : (g : Geometry) (low : ℕ) (ks : List ℕ) → AreSpaced low ks → NumbersAscend (first_in g low) (flat_map (cluster_inodes (volume_of g)) ks)
unfolding cluster_inodes
inodes_up g low [] up = tt
inodes_up g low (k ∷ ks) up =
    blocks_then g k 4 (first_in g low) (flat_map (cluster_inodes (volume_of g)) ks) (later_block g low k up.0) (inodes_up g (k + 4) ks up.1)

-- the slot that is wanted is that of the inode
abbrev pub IsOf : ℕ → Option SlotWanted → Type 0
IsOf ino None = Unit {0}
IsOf ino (Some w) = w.ino ≡ ino

kept_of_ino : (ino number : ℕ) (attrs nlink : Option ℕ) → number ≡ ino → IsOf ino (kept_slot number attrs nlink)
kept_of_ino ino number attrs nlink is = by_case (is_some attrs || is_some nlink)
  where
    by_case : (t : Bool) → IsOf ino (if t then Some (record { ino = number; base = Base.Kept; drop_attrs = attrs; fork = None; nlink = nlink }) else None)
    by_case true = is
    by_case false = tt

fresh_of_ino : (v : Volume) (s : Stamp) (ino : ℕ) → (new_slot v s ino).ino ≡ ino
fresh_of_ino v s ino = by_case (ino == v.rootino) refl
  where
    by_case : (t : Bool) → (ino == v.rootino) ≡ t → (if t then new_root_slot v s else new_system_slot v s ino).ino ≡ ino
    by_case true e = sym (eqb-true ino v.rootino e)
    by_case false e = refl

module _ (v : Volume) (s : Stamp) (kept : Salvaged) (slots : List SlotSeen) where
  bare_of_ino : (ino : ℕ) → IsOf ino (bare_slot v s kept slots ino)
  bare_of_ino ino = by_fresh (is_among kept.fresh ino)
    where
      by_free : (t : Bool) → IsOf ino (if t then None else Some (freed_slot ino))
      by_free true = tt
      by_free false = refl

      by_fresh : (t : Bool) → IsOf ino (if t then Some (new_slot v s ino) else (if is_free (state_at slots ino) then None else Some (freed_slot ino)))
      by_fresh true = fresh_of_ino v s ino
      by_fresh false = by_free (is_free (state_at slots ino))

  of_files : (ino : ℕ) (fs : List FileRec) → ((f : FileRec) → Member f fs → f.ino ≡ ino) → IsOf ino (slot_of v s kept slots ino fs)
  of_files ino [] each = bare_of_ino ino
  of_files ino (f ∷ fs) each =
      kept_of_ino ino f.ino (attrs_wanted f (state_at slots f.ino)) (nlink_wanted f (links_due v.rootino kept.files kept.entries f)) (each f (inl refl))

  pub wanted_of_ino : (ino : ℕ) → IsOf ino (slot_wanted v s kept slots ino)
  unfolding slot_wanted
  wanted_of_ino ino =
      of_files ino (filter (λ (f : FileRec). f.ino == ino) kept.files) (λ f is.
      eqb-true f.ino ino (filter_member (λ (x : FileRec). x.ino == ino) f kept.files is).1)

  lower : (low high : ℕ) (xs : List ℕ) → low ≤ high → Rises high xs → Rises low xs
  lower low high [] le up = tt
  lower low high (x ∷ xs) le up = (let first = up.0 in omega (arith, le, first), up.1)

  -- the slots of inodes that ascend stand by inode
  listed_rise : (low : ℕ) (inos : List ℕ) → NumbersAscend low inos → Rises low (map (λ (w : SlotWanted). w.ino) (flat_map (slot_listed v s kept slots) inos))
  listed_rise low [] up = tt
  listed_rise low (ino ∷ inos) up = by_wanted (slot_wanted v s kept slots ino) (wanted_of_ino ino) (listed_rise (ino + 1) inos up.1)
    where
      by_wanted : (o : Option SlotWanted) → IsOf ino o → Rises (ino + 1) (map (λ (w : SlotWanted). w.ino) (flat_map (slot_listed v s kept slots) inos))
          → Rises low (map (λ (w : SlotWanted). w.ino) (as_list o ++ flat_map (slot_listed v s kept slots) inos))
      by_wanted None of rest =
          let first = up.0 in
          lower low (ino + 1) (map (λ (w : SlotWanted). w.ino) (flat_map (slot_listed v s kept slots) inos)) (omega (arith, first)) rest
      by_wanted (Some w) of rest =
          let first = up.0 in
          (omega (arith, first, of), lower w.ino (ino + 1) (map (λ (x : SlotWanted). x.ino) (flat_map (slot_listed v s kept slots) inos)) (omega (arith, of)) rest)

flat_flat : {X Y Z : Type 0} (f : Y → List Z) (g : X → List Y) (xs : List X) → flat_map f (flat_map g xs) ≡ flat_map (λ x. flat_map f (g x)) xs
flat_flat f g [] = refl
flat_flat {Z = Z} f g (x ∷ xs) = flat_map-append f (g x) (flat_map g xs) ∙ ap (λ (zs : List Z). flat_map f (g x) ++ zs) (flat_flat f g xs)

module _ (v : Volume) (s : Stamp) (kept : Salvaged) (slots : List SlotSeen) where
  cluster_is : (k : ℕ) → flat_map (slot_listed v s kept slots) (cluster_inodes v k) ≡ cluster_slots v s kept slots k
  unfolding cluster_slots block_slots cluster_inodes
  cluster_is k = flat_flat (slot_listed v s kept slots) (inodes_of_block v) (cluster_blocks k)

  clusters_are : (ks : List ℕ) → flat_map (slot_listed v s kept slots) (flat_map (cluster_inodes v) ks) ≡ flat_map (cluster_slots v s kept slots) ks
  clusters_are [] = refl
  clusters_are (k ∷ ks) =
      flat_map-append (slot_listed v s kept slots) (cluster_inodes v k) (flat_map (cluster_inodes v) ks)
      ∙ ap₂ (λ (xs ys : List SlotWanted). xs ++ ys) (cluster_is k) (clusters_are ks)

pub slots_in_order : (g : Geometry) (s : Stamp) (clusters : List ClusterRec) (files : List FileRec) (kept : Salvaged) (slots : List SlotSeen) → CanBeSalvaged (volume_of g) clusters files
    → IsKeptOf (volume_of g) clusters files kept → IsNonDecreasingBy (λ (w : SlotWanted). w.ino) (wanted_slots (volume_of g) s kept slots)
unfolding wanted_slots
slots_in_order g s clusters files kept slots can is =
    let v : Volume = volume_of g in
    let up : AreSpaced 0 kept.clusters = subst (AreSpaced 0) (sym is.clusters') (kept_spaced v clusters files can) in
    subst (IsNonDecreasingBy (λ (w : SlotWanted). w.ino)) (clusters_are v s kept slots kept.clusters)
    (rises_by (λ (w : SlotWanted). w.ino) (first_in g 0) (flat_map (slot_listed v s kept slots) (flat_map (cluster_inodes v) kept.clusters))
    (listed_rise v s kept slots (first_in g 0) (flat_map (cluster_inodes v) kept.clusters) (inodes_up g 0 kept.clusters up)))
