-- The runs of each file are those of its asks, each from its first block to its last.
use Rattle.std.proofs.Common.{◌≡◌, ◌≢◌, ℕ, zero, suc, ◌==◌, ◌≤◌, ◌<◌, Bool, true, false, cond, List, [], ◌∷◌, ◌++◌, length, take, drop, get_or, Option, Some, None, arith, refl, sym, subst, ap, ap₂, ◌∙◌, append-nil}
use Rattle.std.specs.List.{All, Contains, filter, flat_map}
use Rattle.std.proofs.lemmas.Bool.{eq-eqb, eqb-true, eqb-false, ne_eqb}
use Rattle.std.proofs.lemmas.List.{drop_at, get_or_default, length-take, take-append-drop, take_at, length-append}
use Rattle.std.proofs.lemmas.List.Elements.{All-append, filter-append}
use Rattle.xfs_geom.specs.Volumes.{Volume, volume_of}
use Rattle.xfs_geom.specs.declared.geometry.Geometry.{Geometry}
use Rattle.xfs_geom.specs.declared.records.Run.{Run}
use Rattle.xfs_place.specs.Objects.{AreJoined, ServeAsks, asks_of, rest_of}
use Rattle.xfs_place.specs.declared.wanted.RunAsk.{RunAsk}
use Rattle.xfs_proto.specs.declared.protofile.ProtoKind.{ProtoKind}
use Rattle.xfs_proto.specs.declared.protofile.ProtoKind.TheVariants as Kind
use Rattle.xfs_proto.specs.declared.protofile.ProtoNode.{ProtoNode}
use Rattle.xfs_filled.specs.Directories.{made_directory_at}
use Rattle.xfs_filled.specs.FileTrees.{node_at, object_order}
use Rattle.xfs_filled.specs.Forks.{owned_by}
use Rattle.xfs_filled.specs.Numbers.{number_of}
use Rattle.xfs_filled.specs.Objects.{all_objects, blocks_of_length, content_at, objects_of_place, run_of, runs_at, runs_of_kind, target_blocks}
use Rattle.xfs_filled.specs.Sites.{AreChunksPlaced}
use Rattle.xfs_filled.specs.declared.directories.MadeDirectory.{MadeDirectory}
use Rattle.xfs_filled.proofs.Ordered.{order_has, owners_differ}
use Rattle.xfs_filled.proofs.Serving.{asks_next}
use Rattle.xfs_filled.proofs.Spanning.{all_owned, none_owned}

-- runs in turn are those of asks
abbrev pub AreServed : List RunAsk → List Run → Type 0
AreServed [] runs = runs ≡ []
AreServed (ask ∷ asks) runs = (n : ℕ) × (n ≤ length runs) × AreJoined ask (take n runs) × AreServed asks (drop n runs)

pub are_served : (asks : List RunAsk) (cuts : List ℕ) (runs : List Run) → ServeAsks asks cuts runs → AreServed asks runs
are_served [] [] runs serve = serve
are_served [] (n ∷ cuts) runs serve = absurd serve
are_served (ask ∷ asks) [] runs serve = absurd serve
are_served (ask ∷ asks) (n ∷ cuts) runs serve = (n, serve.0, serve.1, are_served asks cuts (drop n runs) serve.2)

pub joined_owner : (ask : RunAsk) (runs : List Run) → AreJoined ask runs → All (λ (r : Run). r.owner ≡ ask.owner) runs
joined_owner ask [] joined k d low = absurd (omega (arith, low))
joined_owner ask (r ∷ runs) joined zero d low = ap (λ (x : Run). x.owner) joined.0
joined_owner ask (r ∷ runs) joined (suc k) d low = joined_owner (rest_of ask r.count) runs joined.2 k d (omega (arith, low))

abbrev own_asks : ℕ → List RunAsk → List RunAsk
own_asks owner asks = filter (λ (a : RunAsk). a.owner == owner) asks

-- so are those of an owner
pub owned_served : (owner : ℕ) (asks : List RunAsk) (runs : List Run) → AreServed asks runs → AreServed (own_asks owner asks) (owned_by owner runs)
owned_served owner [] runs served = ap (owned_by owner) served
owned_served owner (ask ∷ asks) runs served =
    by_case (ask.owner == owner) refl (owned_served owner asks (drop served.0 runs) served.3)
  where
    n : ℕ
    n = served.0

    split : owned_by owner runs ≡ owned_by owner (take n runs) ++ owned_by owner (drop n runs)
    split = ap (owned_by owner) (sym (take-append-drop n runs)) ∙ filter-append (λ (r : Run). r.owner == owner) (take n runs) (drop n runs)

    owners : All (λ (r : Run). r.owner ≡ ask.owner) (take n runs)
    owners = joined_owner ask (take n runs) served.2

    by_case : (t : Bool) → (ask.owner == owner) ≡ t → AreServed (own_asks owner asks) (owned_by owner (drop n runs))
        → AreServed (cond t (ask ∷ own_asks owner asks) (own_asks owner asks)) (owned_by owner runs)
    by_case true is rest =
        let same : ask.owner ≡ owner = eqb-true ask.owner owner is in
        let mine : owned_by owner (take n runs) ≡ take n runs = all_owned owner (take n runs) (λ k d low. owners k d low ∙ same) in
        let whole : owned_by owner runs ≡ take n runs ++ owned_by owner (drop n runs) = split ∙ ap (λ (xs : List Run). xs ++ owned_by owner (drop n runs)) mine in
        let inside = served.1 in
        let long : length (take n runs) ≡ n = let some = length-take n runs in omega (arith, some, inside) in
        let both = length-append (take n runs) (owned_by owner (drop n runs)) in
        subst (AreServed (ask ∷ own_asks owner asks)) (sym whole) (
          n,
          omega (arith, long, both),
          subst (AreJoined ask) (sym (take_at (take n runs) (owned_by owner (drop n runs)) n long)) served.2,
          subst (AreServed (own_asks owner asks)) (sym (drop_at (take n runs) (owned_by owner (drop n runs)) n long)) rest,
        )
    by_case false is rest =
        let other = eqb-false ask.owner owner is in
        let none : owned_by owner (take n runs) ≡ [] = none_owned owner (take n runs) (λ k d low same. other (sym (owners k d low) ∙ same)) in
        subst (AreServed (own_asks owner asks)) (sym (split ∙ ap (λ (xs : List Run). xs ++ owned_by owner (drop n runs)) none)) rest

-- the asks of a file are its own
run_owner : (blocks owner offset : ℕ) → All (λ (a : RunAsk). a.owner ≡ owner) (run_of blocks owner offset)
run_owner blocks owner offset = by_case (blocks == 0)
  where
    by_case : (r : Bool) → All (λ (a : RunAsk). a.owner ≡ owner) (cond r [] (record { blocks = blocks; owner = owner; offset_word = offset } ∷ []))
    by_case true k d low = absurd (omega (arith, low))
    by_case false zero d low = refl
    by_case false (suc k) d low = absurd (omega (arith, low))

no_asks : (owner : ℕ) → All (λ (a : RunAsk). a.owner ≡ owner) []
no_asks owner k d low = absurd (omega (arith, low))

kind_owner : (kind : ProtoKind) (made : Option MadeDirectory) (content : List ℕ) (ino : ℕ) → All (λ (a : RunAsk). a.owner ≡ ino) (runs_of_kind kind made content ino)
kind_owner (Kind.Regular name line) made content ino = run_owner (blocks_of_length (length content)) ino 0
kind_owner Kind.Directory None content ino = no_asks ino
kind_owner Kind.Directory (Some d) content ino =
    All-append (λ (a : RunAsk). a.owner ≡ ino) (run_of d.data_blocks ino 0) (run_of d.index_blocks ino 0x800000 ++ run_of d.free_blocks ino 0x1000000) (run_owner d.data_blocks ino 0)
    (All-append (λ (a : RunAsk). a.owner ≡ ino) (run_of d.index_blocks ino 0x800000) (run_of d.free_blocks ino 0x1000000) (run_owner d.index_blocks ino 0x800000) (run_owner d.free_blocks ino 0x1000000))
kind_owner (Kind.Link target) made content ino = run_owner (target_blocks target) ino 0
kind_owner (Kind.Block major minor) made content ino = no_asks ino
kind_owner (Kind.Character major minor) made content ino = no_asks ino
kind_owner Kind.Pipe made content ino = no_asks ino

all_asks : (owner : ℕ) (asks : List RunAsk) → All (λ (a : RunAsk). a.owner ≡ owner) asks → own_asks owner asks ≡ asks
all_asks owner [] all = refl
all_asks owner (a ∷ asks) all =
    let own : (a.owner == owner) ≡ true = eq-eqb a.owner owner (all zero a (omega arith)) in
    rw own (ap (λ (xs : List RunAsk). a ∷ xs) (all_asks owner asks (λ k d low. all (suc k) d (omega (arith, low)))))

none_asks : (owner : ℕ) (asks : List RunAsk) → All (λ (a : RunAsk). a.owner ≢ owner) asks → own_asks owner asks ≡ []
none_asks owner [] all = refl
none_asks owner (a ∷ asks) all =
    let other : (a.owner == owner) ≡ false = ne_eqb a.owner owner (all zero a (omega arith)) in
    rw other (none_asks owner asks (λ k d low. all (suc k) d (omega (arith, low))))

module _ (v : Volume) (starts : List ℕ) (ns : List ProtoNode) (contents : List (List ℕ)) where
  owner_at : (k : ℕ) → All (λ (a : RunAsk). a.owner ≡ number_of v starts k) (runs_at v starts ns contents k)
  owner_at k = kind_owner (node_at ns k).kind (made_directory_at v starts ns k) (content_at contents k) (number_of v starts k)

  abbrev all_of : List ℕ → List RunAsk
  all_of ks = asks_of (flat_map (objects_of_place v starts ns contents) ks)

  others_none : (owner : ℕ) (ks : List ℕ) → ((j d : ℕ) → j < length ks → number_of v starts (get_or ks j d) ≢ owner) → own_asks owner (all_of ks) ≡ []
  others_none owner [] differ = refl
  others_none owner (k ∷ ks) differ =
      ap (own_asks owner) (asks_next v starts ns contents k ks)
      ∙ filter-append (λ (a : RunAsk). a.owner == owner) (runs_at v starts ns contents k) (all_of ks)
      ∙ ap₂ (λ (xs ys : List RunAsk). xs ++ ys)
      (none_asks owner (runs_at v starts ns contents k) (λ m d low same. differ zero k (omega arith) (sym (owner_at k m d low) ∙ same)))
      (others_none owner ks (λ j d low. differ (suc j) d (omega (arith, low))))

  mine : (ks : List ℕ) (j : ℕ) → j < length ks → ((a b : ℕ) → a < b → b < length ks → number_of v starts (get_or ks a 0) ≢ number_of v starts (get_or ks b 0))
      → own_asks (number_of v starts (get_or ks j 0)) (all_of ks) ≡ runs_at v starts ns contents (get_or ks j 0)
  mine [] j low differ = absurd (omega (arith, low))
  mine (k ∷ ks) zero low differ =
      let owner : ℕ = number_of v starts k in
      ap (own_asks (number_of v starts k)) (asks_next v starts ns contents k ks)
      ∙ filter-append (λ (a : RunAsk). a.owner == number_of v starts k) (runs_at v starts ns contents k) (all_of ks)
      ∙ ap₂ (λ (xs ys : List RunAsk). xs ++ ys) (all_asks (number_of v starts k) (runs_at v starts ns contents k) (owner_at k))
      (others_none (number_of v starts k) ks (λ j d less same. differ zero (suc j) (omega arith) (omega (arith, less)) (sym same ∙ ap (λ (m : ℕ). number_of v starts m) (get_or_default ks j d 0 less))))
      ∙ append-nil (runs_at v starts ns contents k)
  mine (k ∷ ks) (suc j) low differ =
      let other = differ zero (suc j) (omega arith) low in
      ap (own_asks (number_of v starts (get_or ks j 0))) (asks_next v starts ns contents k ks)
      ∙ filter-append (λ (a : RunAsk). a.owner == number_of v starts (get_or ks j 0)) (runs_at v starts ns contents k) (all_of ks)
      ∙ ap (λ (xs : List RunAsk). xs ++ own_asks (number_of v starts (get_or ks j 0)) (all_of ks))
      (none_asks (number_of v starts (get_or ks j 0)) (runs_at v starts ns contents k) (λ m d less same. other (sym (owner_at k m d less) ∙ same)))
      ∙ mine ks j (omega (arith, low)) (λ a b less few. differ (suc a) (suc b) (omega (arith, less)) (omega (arith, few)))

-- the runs of a file are those of its asks
pub file_served : (g : Geometry) (starts : List ℕ) (ns : List ProtoNode) (contents : List (List ℕ)) (cuts : List ℕ) (runs : List Run) (k : ℕ) → AreChunksPlaced g starts ns → k < length ns
    → ServeAsks (asks_of (all_objects (volume_of g) starts ns contents)) cuts runs
    → AreServed (runs_at (volume_of g) starts ns contents k) (owned_by (number_of (volume_of g) starts k) runs)
unfolding all_objects
file_served g starts ns contents cuts runs k placed low serve =
    let there : Contains (object_order ns) k = order_has ns k low in
    let place : get_or (object_order ns) there.0 0 ≡ k = get_or_default (object_order ns) there.0 0 k there.1 ∙ there.2 in
    subst (λ (m : ℕ). AreServed (runs_at (volume_of g) starts ns contents m) (owned_by (number_of (volume_of g) starts m) runs)) place
    (subst (λ (asks : List RunAsk). AreServed asks (owned_by (number_of (volume_of g) starts (get_or (object_order ns) there.0 0)) runs))
    (mine (volume_of g) starts ns contents (object_order ns) there.0 there.1
    (λ a b less few. owners_differ g starts ns (object_order ns) a b placed refl (omega (arith, less, few)) few (omega (arith, less))))
    (owned_served (number_of (volume_of g) starts (get_or (object_order ns) there.0 0)) (asks_of (flat_map (objects_of_place (volume_of g) starts ns contents) (object_order ns))) runs
    (are_served (asks_of (flat_map (objects_of_place (volume_of g) starts ns contents) (object_order ns))) cuts runs serve)))
