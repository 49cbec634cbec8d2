-- Where all objects find room, their runs stand in the order of their files, and those of each fill no more than a fork.
use Rattle.std.proofs.Common.{◌≡◌, ℕ, zero, suc, ◌==◌, ◌≤◌, ◌⊎◌, inl, inr, Bool, true, false, cond, List, [], ◌∷◌, ◌++◌, length, length-append, take, Option, Some, None, Result, Ok, Err, arith, refl, sym, subst, ap, ◌∙◌, append_assoc, append-nil}
use Rattle.std.specs.List.{All, flat_map}
use Rattle.std.proofs.Math.Seq.{drop-append_seam, take-append_seam}
use Rattle.std.proofs.lemmas.List.{append_cancel_left}
use Rattle.std.proofs.lemmas.List.Elements.{All-append}
use Rattle.xfs_geom.specs.Features.{or_else}
use Rattle.xfs_geom.specs.Volumes.{Volume}
use Rattle.xfs_geom.specs.declared.records.Run.{Run}
use Rattle.xfs_place.specs.Objects.{keep_asks, keep_object, keep_with, most_extent_blocks, or_no_room, place_of_object}
use Rattle.xfs_place.specs.declared.faults.Unplaced.{Unplaced}
use Rattle.xfs_place.specs.declared.wanted.ObjectKind.{ObjectKind}
use Rattle.xfs_place.specs.declared.wanted.RunAsk.{RunAsk}
use Rattle.xfs_proto.specs.declared.protofile.ProtoKind.{ProtoKind}
use Rattle.xfs_proto.specs.declared.protofile.ProtoKind.TheVariants as Kind
use Rattle.xfs_proto.specs.declared.protofile.ProtoNode.{ProtoNode}
use Rattle.xfs_filled.specs.Directories.{IsSoundWhere, made_directory_at}
use Rattle.xfs_filled.specs.FileTrees.{node_at, object_order}
use Rattle.xfs_filled.specs.Forks.{extents_of_run}
use Rattle.xfs_filled.specs.Numbers.{number_of}
use Rattle.xfs_filled.specs.Objects.{all_objects, blocks_of_length, content_at, directory_runs, objects_of_place, object_kind, object_with_runs, run_of, runs_at, runs_of_kind, target_blocks}
use Rattle.xfs_filled.specs.Spans.{AreRunsOf}
use Rattle.xfs_filled.specs.declared.directories.MadeDirectory.{MadeDirectory}
use Rattle.xfs_filled.proofs.Held.{Takes, takes_one, takes_small}

-- what a file asks for: one run, or runs that can be extents
abbrev IsSmall : ℕ → RunAsk → Type 0
IsSmall owner b = (b.owner ≡ owner) × (b.blocks ≤ most_extent_blocks)

abbrev Asks : ℕ → List RunAsk → Type 0
Asks owner asks = ((a : RunAsk) × (asks ≡ a ∷ []) × (a.owner ≡ owner)) ⊎ All (IsSmall owner) asks

nothing : (owner : ℕ) → Asks owner []
nothing owner = inr (λ k d low. absurd (omega (arith, low)))

run_asks : (blocks owner offset : ℕ) → Asks owner (run_of blocks owner offset)
run_asks blocks owner offset = by_case (blocks == 0)
  where
    by_case : (r : Bool) → Asks owner (cond r [] (record { blocks = blocks; owner = owner; offset_word = offset } ∷ []))
    by_case true = nothing owner
    by_case false = inl (record { blocks = blocks; owner = owner; offset_word = offset }, refl, refl)

run_small : (blocks owner offset : ℕ) → blocks ≤ most_extent_blocks → All (IsSmall owner) (run_of blocks owner offset)
run_small blocks owner offset few = by_case (blocks == 0)
  where
    by_case : (r : Bool) → All (IsSmall owner) (cond r [] (record { blocks = blocks; owner = owner; offset_word = offset } ∷ []))
    by_case true k d low = absurd (omega (arith, low))
    by_case false zero d low = (refl, few)
    by_case false (suc k) d low = absurd (omega (arith, low))

directory_asks : (ino : ℕ) (made : Option MadeDirectory) → IsSoundWhere made → Asks ino (directory_runs ino made)
directory_asks ino None sound = nothing ino
directory_asks ino (Some d) sound =
    inr
    (All-append (IsSmall ino) (run_of d.data_blocks ino 0) (run_of d.index_blocks ino 0x800000 ++ run_of d.free_blocks ino 0x1000000) (run_small d.data_blocks ino 0 sound.data_few)
    (All-append (IsSmall ino) (run_of d.index_blocks ino 0x800000) (run_of d.free_blocks ino 0x1000000) (run_small d.index_blocks ino 0x800000 sound.index_few)
    (run_small d.free_blocks ino 0x1000000 sound.free_few)))

kind_asks : (kind : ProtoKind) (made : Option MadeDirectory) (content : List ℕ) (ino : ℕ) → IsSoundWhere made → Asks ino (runs_of_kind kind made content ino)
kind_asks (Kind.Regular name line) made content ino sound = run_asks (blocks_of_length (length content)) ino 0
kind_asks Kind.Directory made content ino sound = directory_asks ino made sound
kind_asks (Kind.Link target) made content ino sound = run_asks (target_blocks target) ino 0
kind_asks (Kind.Block major minor) made content ino sound = nothing ino
kind_asks (Kind.Character major minor) made content ino sound = nothing ino
kind_asks Kind.Pipe made content ino sound = nothing ino

abbrev list_in : Result (List Run) Unplaced → List Run
list_in (Ok runs) = runs
list_in (Err what) = []

module _ (v : Volume) (reserved : List ℕ) (from : ℕ) (spared : List ℕ) where
  plain : (o : Option (List Run)) (all : List Run) → or_else o None ≡ Some all → o ≡ Some all
  plain None all is = is
  plain (Some runs) all is = is

  -- what an object takes that asks so
  object_takes : (owner : ℕ) (kind : ObjectKind) (kept : List Run) (asks : List RunAsk) (all : List Run) → Asks owner asks
      → keep_object v reserved from spared false kept (record { ino = owner; kind = kind; runs = asks; most = 21 }) ≡ Some all → Takes v owner kept all
  object_takes owner kind kept asks all (inr small) is =
      takes_small v reserved from spared owner kept asks all small (plain (keep_asks v reserved from spared 21 kept asks) all is)
  object_takes owner kind kept asks all (inl single) is =
      let found = plain (keep_asks v reserved from spared 21 kept asks) all is in
      subst (λ (o : ℕ). Takes v o kept all) single.2
      (takes_one v reserved from spared kept single.0 all (subst (λ (xs : List RunAsk). keep_asks v reserved from spared 21 kept xs ≡ Some all) single.1 found))

  module _ (starts : List ℕ) (ns : List ProtoNode) (contents : List (List ℕ)) where
    -- the runs that are found stand behind those that are kept
    record Holds (kept : List Run) (order : List ℕ) (all : List Run) : Type 0 where
      pub runs : List Run
      pub behind : all ≡ kept ++ runs
      pub are : AreRunsOf v starts order runs

    placed : (k : ℕ) (ks : List ℕ) (kept all now : List Run) → Takes v (number_of v starts k) kept now → Holds now ks all → Holds kept (k ∷ ks) all
    placed k ks kept all now takes next =
        let n : ℕ = length takes.runs in
        let long = length-append takes.runs next.runs in
        let front : take (length takes.runs) (takes.runs ++ next.runs) ≡ takes.runs = take-append_seam takes.runs next.runs in
        record {
          runs = takes.runs ++ next.runs;
          behind = next.behind ∙ ap (λ (xs : List Run). xs ++ next.runs) takes.behind ∙ append_assoc kept takes.runs next.runs;
          are = (
            length takes.runs,
            omega (arith, long),
            subst (All (λ (r : Run). r.owner ≡ number_of v starts k)) (sym front) takes.owned,
            subst (λ (rs : List Run). length (flat_map (extents_of_run v) rs) ≤ 21) (sym front) takes.few,
            subst (AreRunsOf v starts ks) (sym (drop-append_seam takes.runs next.runs)) next.are,
          );
        }

    by_found : (k : ℕ) (ks : List ℕ) (kept all : List Run) (o : Option (List Run)) (what : Unplaced) → ((now : List Run) → o ≡ Some now → Takes v (number_of v starts k) kept now)
        → ((now : List Run) → keep_with v reserved from spared false now (flat_map (objects_of_place v starts ns contents) ks) ≡ Ok all → Holds now ks all)
        → or_no_room o what (λ now. keep_with v reserved from spared false now (flat_map (objects_of_place v starts ns contents) ks)) ≡ Ok all → Holds kept (k ∷ ks) all
    by_found k ks kept all None what takes rest is = cc
    by_found k ks kept all (Some now) what takes rest is = placed k ks kept all now (takes now refl) (rest now is)

    by_runs : (k : ℕ) (ks : List ℕ) (kept all : List Run) (kind : ObjectKind) (runs : List RunAsk) → Asks (number_of v starts k) runs
        → ((now : List Run) → keep_with v reserved from spared false now (flat_map (objects_of_place v starts ns contents) ks) ≡ Ok all → Holds now ks all)
        → keep_with v reserved from spared false kept (object_with_runs kind (number_of v starts k) runs ++ flat_map (objects_of_place v starts ns contents) ks) ≡ Ok all → Holds kept (k ∷ ks) all
    unfolding keep_with
    by_runs k ks kept all kind [] asks rest is =
        placed k ks kept all kept (record { runs = []; behind = sym (append-nil kept); owned = λ m d low. absurd (omega (arith, low)); few = omega arith }) (rest kept is)
    by_runs k ks kept all kind (a ∷ runs) asks rest is =
        by_found k ks kept all
        (keep_object v reserved from spared false kept (record { ino = number_of v starts k; kind = kind; runs = a ∷ runs; most = 21 }))
        (place_of_object kind (number_of v starts k))
        (λ now found. object_takes (number_of v starts k) kind kept (a ∷ runs) now asks found) rest is

    hold : (order : List ℕ) (kept all : List Run) → All (λ k. IsSoundWhere (made_directory_at v starts ns k)) order
        → keep_with v reserved from spared false kept (flat_map (objects_of_place v starts ns contents) order) ≡ Ok all → Holds kept order all
    unfolding keep_with
    hold [] kept all sound is = record { runs = []; behind = sym (ap list_in is) ∙ sym (append-nil kept); are = refl }
    hold (k ∷ ks) kept all sound is =
        by_runs k ks kept all (object_kind (node_at ns k).kind) (runs_at v starts ns contents k)
        (kind_asks (node_at ns k).kind (made_directory_at v starts ns k) (content_at contents k) (number_of v starts k) (sound zero k (omega arith)))
        (λ now. hold ks now all (λ m d low. sound (suc m) d (omega (arith, low)))) is

    -- the runs of all objects
    pub hold_all : (kept runs : List Run) → All (λ k. IsSoundWhere (made_directory_at v starts ns k)) (object_order ns)
        → keep_with v reserved from spared false kept (all_objects v starts ns contents) ≡ Ok (kept ++ runs) → AreRunsOf v starts (object_order ns) runs
    unfolding all_objects
    hold_all kept runs sound is =
        let holds = hold (object_order ns) kept (kept ++ runs) sound is in
        subst (AreRunsOf v starts (object_order ns)) (append_cancel_left kept holds.runs runs (sym holds.behind)) holds.are
