-- Which runs are those of a file: those of its asks.
use Rattle.std.proofs.Common.{◌≡◌, ◌≢◌, ℕ, zero, suc, ◌+◌, ◌==◌, Bool, true, false, cond, List, [], ◌∷◌, ◌++◌, length, take, drop, Option, Some, None, refl, sym, subst, ap, ◌∙◌, arith}
use Rattle.std.specs.List.{All, flat_map}
use Rattle.std.proofs.Math.Seq.{take-add}
use Rattle.std.proofs.lemmas.List.{take-append-drop}
use Rattle.std.proofs.lemmas.List.Elements.{All-append}
use Rattle.std.proofs.lemmas.List.Sums.{sum_by-cons}
use Rattle.xfs_geom.specs.Volumes.{Volume}
use Rattle.xfs_geom.specs.declared.records.Run.{Run}
use Rattle.xfs_place.specs.Objects.{AreJoined, ServeAsks, asks_of, rest_of}
use Rattle.xfs_place.specs.declared.wanted.RunAsk.{RunAsk}
use Rattle.xfs_proto.specs.declared.protofile.ProtoKind.{ProtoKind}
use Rattle.xfs_proto.specs.declared.protofile.ProtoKind.TheVariants as Kind
use Rattle.xfs_proto.specs.declared.protofile.ProtoNode.{ProtoNode}
use Rattle.xfs_filled.specs.Directories.{made_directory_at}
use Rattle.xfs_filled.specs.FileTrees.{node_at}
use Rattle.xfs_filled.specs.Numbers.{number_of}
use Rattle.xfs_filled.specs.Objects.{blocks_of_length, content_at, directory_runs, objects_of_place, run_of, runs_at, runs_of_kind, target_blocks}
use Rattle.xfs_filled.specs.declared.directories.MadeDirectory.{MadeDirectory}
use Rattle.xfs_filled.proofs.Serving.{asks_next}
use Rattle.xfs_built.specs.Pieces.{taken}

none_of : {X : Type 0} (P : X → Type 0) → All P []
none_of P k d low = absurd (omega (arith, low))

-- the asks of a file have it as their owner
run_owner : (blocks ino offset : ℕ) → All (λ (a : RunAsk). a.owner ≡ ino) (run_of blocks ino offset)
run_owner blocks ino offset = by_case (blocks == 0)
  where
    by_case : (r : Bool) → All (λ (a : RunAsk). a.owner ≡ ino) (cond r [] (record { blocks = blocks; owner = ino; offset_word = offset } ∷ []))
    by_case true k d low = absurd (omega (arith, low))
    by_case false zero d low = refl
    by_case false (suc k) d low = absurd (omega (arith, low))

directory_owner : (ino : ℕ) (made : Option MadeDirectory) → All (λ (a : RunAsk). a.owner ≡ ino) (directory_runs ino made)
directory_owner ino None = none_of (λ (a : RunAsk). a.owner ≡ ino)
directory_owner ino (Some d) =
    All-append (λ (a : RunAsk). a.owner ≡ ino) (run_of d.data_blocks ino 0) (run_of d.index_blocks ino 0x800000 ++ run_of d.free_blocks ino 0x1000000) (run_owner d.data_blocks ino 0)
    (All-append (λ (a : RunAsk). a.owner ≡ ino) (run_of d.index_blocks ino 0x800000) (run_of d.free_blocks ino 0x1000000) (run_owner d.index_blocks ino 0x800000) (run_owner d.free_blocks ino 0x1000000))

kind_owner : (kind : ProtoKind) (made : Option MadeDirectory) (content : List ℕ) (ino : ℕ) → All (λ (a : RunAsk). a.owner ≡ ino) (runs_of_kind kind made content ino)
kind_owner (Kind.Regular name line) made content ino = run_owner (blocks_of_length (length content)) ino 0
kind_owner Kind.Directory made content ino = directory_owner ino made
kind_owner (Kind.Link target) made content ino = run_owner (target_blocks target) ino 0
kind_owner (Kind.Block major minor) made content ino = none_of (λ (a : RunAsk). a.owner ≡ ino)
kind_owner (Kind.Character major minor) made content ino = none_of (λ (a : RunAsk). a.owner ≡ ino)
kind_owner Kind.Pipe made content ino = none_of (λ (a : RunAsk). a.owner ≡ ino)

module _ (v : Volume) (starts : List ℕ) (ns : List ProtoNode) (contents : List (List ℕ)) where
  pub own_asks : (k : ℕ) → All (λ (a : RunAsk). a.owner ≡ number_of v starts k) (runs_at v starts ns contents k)
  own_asks k = kind_owner (node_at ns k).kind (made_directory_at v starts ns k) (content_at contents k) (number_of v starts k)

  -- those of others have others
  pub other_asks : (owner : ℕ) (ks : List ℕ) → All (λ k. number_of v starts k ≢ owner) ks → All (λ (a : RunAsk). a.owner ≢ owner) (asks_of (flat_map (objects_of_place v starts ns contents) ks))
  other_asks owner [] all = none_of (λ (a : RunAsk). a.owner ≢ owner)
  other_asks owner (k ∷ ks) all =
      subst (All (λ (a : RunAsk). a.owner ≢ owner)) (sym (asks_next v starts ns contents k ks))
      (All-append (λ (a : RunAsk). a.owner ≢ owner) (runs_at v starts ns contents k) (asks_of (flat_map (objects_of_place v starts ns contents) ks))
      (λ m d low same. all zero k (omega arith) (sym (own_asks k m d low) ∙ same))
      (other_asks owner ks (λ m d low. all (suc m) d (omega (arith, low)))))

module _ (P : ℕ → Type 0) where
  all_of_parts : (n : ℕ) (runs : List Run) → All (λ (r : Run). P r.owner) (take n runs) → All (λ (r : Run). P r.owner) (drop n runs) → All (λ (r : Run). P r.owner) runs
  all_of_parts n runs front back =
      subst (All (λ (r : Run). P r.owner)) (take-append-drop n runs) (All-append (λ (r : Run). P r.owner) (take n runs) (drop n runs) front back)

  -- the runs of an ask have its owner
  joined_owned : (ask : RunAsk) (runs : List Run) → P ask.owner → AreJoined ask runs → All (λ (r : Run). P r.owner) runs
  joined_owned ask [] own joined k d low = absurd (omega (arith, low))
  joined_owned ask (r ∷ rest) own joined zero d low = subst P (sym (ap (λ (x : Run). x.owner) joined.0)) own
  joined_owned ask (r ∷ rest) own joined (suc k) d low = joined_owned (rest_of ask r.count) rest own joined.2 k d (omega (arith, low))

  pub served_owned : (asks : List RunAsk) (cuts : List ℕ) (runs : List Run) → All (λ (a : RunAsk). P a.owner) asks → ServeAsks asks cuts runs → All (λ (r : Run). P r.owner) runs
  served_owned [] [] runs all serve = subst (All (λ (r : Run). P r.owner)) (sym serve) (none_of (λ (r : Run). P r.owner))
  served_owned [] (n ∷ cuts) runs all serve = absurd serve
  served_owned (ask ∷ asks) [] runs all serve = absurd serve
  served_owned (ask ∷ asks) (n ∷ cuts) runs all serve =
      all_of_parts n runs (joined_owned ask (take n runs) (all zero ask (omega arith)) serve.1)
      (served_owned asks cuts (drop n runs) (λ k d low. all (suc k) d (omega (arith, low))) serve.2)

  -- so have those of the first asks
  pub front_owned : (front rest : List RunAsk) (cuts : List ℕ) (runs : List Run) → All (λ (a : RunAsk). P a.owner) front → ServeAsks (front ++ rest) cuts runs
      → All (λ (r : Run). P r.owner) (take (taken front cuts) runs)
  front_owned [] rest cuts runs all serve = none_of (λ (r : Run). P r.owner)
  front_owned (a ∷ front) rest [] runs all serve = absurd serve
  front_owned (a ∷ front) rest (n ∷ cuts) runs all serve =
      let m : ℕ = taken front cuts in
      let count : taken (a ∷ front) (n ∷ cuts) ≡ n + m = sum_by-cons (λ (c : ℕ). c) n (take (length front) cuts) in
      let head : take (taken (a ∷ front) (n ∷ cuts)) runs ≡ take n runs ++ take m (drop n runs) = ap (λ (k : ℕ). take k runs) count ∙ take-add n m runs in
      subst (All (λ (r : Run). P r.owner)) (sym head)
      (All-append (λ (r : Run). P r.owner) (take n runs) (take m (drop n runs)) (joined_owned a (take n runs) (all zero a (omega arith)) serve.1)
      (front_owned front rest cuts (drop n runs) (λ k d low. all (suc k) d (omega (arith, low))) serve.2))
