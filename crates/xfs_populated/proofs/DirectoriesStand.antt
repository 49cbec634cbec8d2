-- The blocks of each directory of a new volume stand in its runs.
use Rattle.std.proofs.Common.{◌≡◌, ◌≢◌, ℕ, zero, suc, ◌+◌, ◌==◌, ◌<◌, true, List, [], ◌∷◌, ◌++◌, length, map, take, drop, get_or, refl, sym, subst, ap, ap₂, ◌∙◌, append-nil, arith}
use Rattle.std.specs.List.{All, AllByRecursion, AllPairs, Contains, flat_map}
use Rattle.std.proofs.lemmas.List.{get_or-append-add, get_or-map, get_or_append_left, length-append, length-map, map-append, take-append-drop}
use Rattle.std.proofs.lemmas.List.Elements.{filter-append}
use Rattle.xfs_disk.specs.Blocks.{Image, bytes_of_block}
use Rattle.xfs_dirbuild.specs.Placed.{file_blocks}
use Rattle.xfs_geom.specs.Volumes.{Volume}
use Rattle.xfs_geom.specs.declared.records.Run.{Run}
use Rattle.xfs_names.specs.declared.building.BuiltDirectory.{BuiltDirectory}
use Rattle.xfs_place.specs.Objects.{ServeAsks, asks_of}
use Rattle.xfs_place.specs.declared.wanted.ObjectKind.TheVariants.{Directory}
use Rattle.xfs_place.specs.declared.wanted.RunAsk.{RunAsk}
use Rattle.xfs_proto.specs.declared.protofile.ProtoNode.{ProtoNode}
use Rattle.xfs_render.specs.Objects.{HasObjects, IsObjectBlock, asks_with_kind, blocks_of_asks}
use Rattle.xfs_render.specs.declared.object_blocks.ObjectAsk.{ObjectAsk}
use Rattle.xfs_render.specs.declared.object_blocks.ObjectBlock.{ObjectBlock}
use Rattle.xfs_built.specs.Asks.{asks_for}
use Rattle.xfs_filled.specs.Contents.{blocks_of_place}
use Rattle.xfs_filled.specs.Entries.{entries_at, parent_of_place}
use Rattle.xfs_filled.specs.FileTrees.{is_directory_node}
use Rattle.xfs_filled.specs.Forks.{owned_by}
use Rattle.xfs_filled.specs.Numbers.{number_of}
use Rattle.xfs_filled.specs.Objects.{objects_of_place, runs_at}
use Rattle.xfs_filled.proofs.Serving.{asks_next}
use Rattle.xfs_filled.proofs.Spanning.{all_owned, none_owned}
use Rattle.xfs_built.specs.Directories.{HasOwnCounts, StandsIn}
use Rattle.xfs_built.specs.Pieces.{IsFrontOfAsks, IsLowRun, IsPlainAsk, asked_offsets, blocks_of_owner, offsets_in, places_of_runs, run_places, taken}
use Rattle.xfs_built.proofs.Fronts.{front_is}
use Rattle.xfs_built.proofs.Standing.{asks_plain, counted_both, counted_file}
use Rattle.xfs_populated.specs.Names.{HasImage}
use Rattle.xfs_populated.proofs.DirectoryObjects as Objects
use Rattle.xfs_populated.proofs.RunOwners.{front_owned, other_asks, own_asks, served_owned}

-- the blocks of an object, by their places
abbrev own_at : ℕ → ℕ → ObjectBlock
own_at ino place = record { kind = Directory; owner = ino; place = place }

own_places : (ino : ℕ) (runs : List Run) → blocks_of_owner ino runs ≡ map (own_at ino) (places_of_runs runs)
own_places ino [] = refl
own_places ino (r ∷ runs) =
    ap (λ (bs : List ObjectBlock). map (own_at ino) (run_places r) ++ bs) (own_places ino runs) ∙ sym (map-append (own_at ino) (run_places r) (places_of_runs runs))

counted_own : (ino : ℕ) (runs : List Run) → length (blocks_of_owner ino runs) ≡ length (places_of_runs runs)
counted_own ino runs = ap length (own_places ino runs) ∙ length-map (places_of_runs runs) (own_at ino)

module _ (v : Volume) (image : Image) where
  -- of blocks that are held, some stand in front of others
  has_front : (own others : List ObjectBlock) (built more : List (List ℕ)) → length own ≡ length built
      → HasObjects v (own ++ others) (built ++ more) (length (own ++ others)) image → HasObjects v own built (length own) image
  has_front own others built more long has = record {
    each = λ j d low.
        let first : get_or (own ++ others) j d ≡ get_or own j d = get_or_append_left own others d j low in
        let second : get_or (built ++ more) j [] ≡ get_or built j [] = get_or_append_left built more [] j (omega (arith, low, long)) in
        let whole = length-append own others in
        subst (λ (x : ObjectBlock). IsObjectBlock v x (get_or built j []) (bytes_of_block image x.place)) first
        (subst (λ (bytes : List ℕ). IsObjectBlock v (get_or (own ++ others) j d) bytes (bytes_of_block image (get_or (own ++ others) j d).place)) second
        (has.each j d (omega (arith, low, whole))));
  }

  has_back : (own others : List ObjectBlock) (built more : List (List ℕ)) → length own ≡ length built
      → HasObjects v (own ++ others) (built ++ more) (length (own ++ others)) image → HasObjects v others more (length others) image
  has_back own others built more long has = record {
    each = λ j d low.
        let first : get_or (own ++ others) (length own + j) d ≡ get_or others j d = get_or-append-add own others j d in
        let second : get_or (built ++ more) (length own + j) [] ≡ get_or more j [] = ap (λ (n : ℕ). get_or (built ++ more) (n + j) []) long ∙ get_or-append-add built more j [] in
        let whole = length-append own others in
        subst (λ (x : ObjectBlock). IsObjectBlock v x (get_or more j []) (bytes_of_block image x.place)) first
        (subst (λ (bytes : List ℕ). IsObjectBlock v (get_or (own ++ others) (length own + j) d) bytes (bytes_of_block image (get_or (own ++ others) (length own + j) d).place)) second
        (has.each (length own + j) d (omega (arith, low, whole))));
  }

  -- the blocks of a directory
  stands_in : (b : BuiltDirectory) (runs : List Run) → HasOwnCounts b → offsets_in runs ≡ flat_map asked_offsets (asks_for b.ino b.image) → AllByRecursion IsLowRun runs
      → HasObjects v (blocks_of_owner b.ino runs) b.image.blocks (length (blocks_of_owner b.ino runs)) image → StandsIn v image b runs
  stands_in b runs sized offsets low_runs has =
      let offsets_are = offsets ∙ Objects.asks_blocks b.ino b.image in
      let long : length (offsets_in runs) ≡ length (file_blocks b.image.data_blocks b.image.index_blocks b.image.free_blocks) = ap length offsets_are in
      let counted : length (places_of_runs runs) ≡ length b.image.blocks = counted_both runs ∙ (long ∙ (counted_file b.image.data_blocks b.image.index_blocks b.image.free_blocks ∙ sym sized.count)) in
      record {
        offsets' = offsets_are;
        count = counted;
        low' = low_runs;
        each = λ k low.
            let inside : k < length (places_of_runs runs) = omega (arith, low, counted) in
            let own = counted_own b.ino runs in
            let here : get_or (blocks_of_owner b.ino runs) k (own_at b.ino 0) ≡ own_at b.ino (get_or (places_of_runs runs) k 0) =
            ap (λ (bs : List ObjectBlock). get_or bs k (own_at b.ino 0)) (own_places b.ino runs) ∙ get_or-map (own_at b.ino) (places_of_runs runs) k 0 (own_at b.ino 0) inside in
            subst (λ (x : ObjectBlock). IsObjectBlock v x (get_or b.image.blocks k []) (bytes_of_block image x.place)) here
            (has.each k (own_at b.ino 0) (omega (arith, inside, own)));
      }

  module _ (starts : List ℕ) (ns : List ProtoNode) (contents : List (List ℕ)) where
    abbrev asks : List ℕ → List RunAsk
    asks ks = asks_of (flat_map (objects_of_place v starts ns contents) ks)

    abbrev asked : List ℕ → List ObjectAsk
    asked ks = asks_with_kind (flat_map (objects_of_place v starts ns contents) ks)

    abbrev held : List ℕ → List ℕ → List Run → Type 0
    held ks cuts runs = HasObjects v (blocks_of_asks (asked ks) cuts runs) (flat_map (blocks_of_place v starts ns contents) ks) (length (blocks_of_asks (asked ks) cuts runs)) image

    -- a directory that was built, with its counts
    pub record IsBuiltAt (k : ℕ) : Type 0 where
      pub dir : is_directory_node ns k ≡ true
      pub has : HasImage (entries_at v starts ns k) (number_of v starts k) (parent_of_place v starts ns k)
      pub sized : HasOwnCounts (record { ino = number_of v starts k; image = has.image })

    abbrev pub directory : (k : ℕ) → IsBuiltAt k → BuiltDirectory
    directory k built = record { ino = number_of v starts k; image = built.has.image }

    -- the first directory of some files, and what is left for the others
    record StandsFirst (k : ℕ) (built : IsBuiltAt k) (rest : List ℕ) (cuts : List ℕ) (runs : List Run) : Type 0 where
      pub stands : StandsIn v image (directory k built) (take (taken (runs_at v starts ns contents k) cuts) runs)
      pub serve : ServeAsks (asks rest) (drop (length (runs_at v starts ns contents k)) cuts) (drop (taken (runs_at v starts ns contents k) cuts) runs)
      pub others : held rest (drop (length (runs_at v starts ns contents k)) cuts) (drop (taken (runs_at v starts ns contents k) cuts) runs)

    stands_first : (k : ℕ) (built : IsBuiltAt k) (rest : List ℕ) (cuts : List ℕ) (runs : List Run) → ServeAsks (asks (k ∷ rest)) cuts runs → held (k ∷ rest) cuts runs
        → StandsFirst k built rest cuts runs
    stands_first k built rest cuts runs serve own =
        let b : BuiltDirectory = directory k built in
        let front : List RunAsk = runs_at v starts ns contents k in
        let are : front ≡ asks_for b.ino b.image = Objects.asks_are v starts ns contents k built.dir built.has in
        let plain : AllByRecursion (IsPlainAsk b.ino) front = subst (AllByRecursion (IsPlainAsk b.ino)) (sym are) (asks_plain b built.sized) in
        let is : IsFrontOfAsks b.ino front (asks rest) (asked rest) cuts runs =
        front_is b.ino front (asks rest) (asked rest) cuts runs built.sized.low plain (subst (λ (xs : List RunAsk). ServeAsks xs cuts runs) (asks_next v starts ns contents k rest) serve) in
        let mine : List Run = take (taken front cuts) runs in
        let later : List ObjectBlock = blocks_of_asks (asked rest) (drop (length front) cuts) (drop (taken front cuts) runs) in
        let split : blocks_of_asks (asked (k ∷ rest)) cuts runs ≡ blocks_of_owner b.ino mine ++ later =
        ap (λ (xs : List ObjectAsk). blocks_of_asks xs cuts runs) (Objects.asked_next v starts ns contents k built.dir built.has rest) ∙ is.blocks' in
        let more : List (List ℕ) = flat_map (blocks_of_place v starts ns contents) rest in
        let both : HasObjects v (blocks_of_owner b.ino mine ++ later) (b.image.blocks ++ more) (length (blocks_of_owner b.ino mine ++ later)) image =
        subst (λ (blocks : List ObjectBlock). HasObjects v blocks (b.image.blocks ++ more) (length blocks) image) split
        (subst (λ (bytes : List (List ℕ)). HasObjects v (blocks_of_asks (asked (k ∷ rest)) cuts runs) (bytes ++ more) (length (blocks_of_asks (asked (k ∷ rest)) cuts runs)) image)
        (Objects.blocks_are v starts ns contents k built.dir built.has) own) in
        let offsets : offsets_in mine ≡ flat_map asked_offsets (asks_for b.ino b.image) = is.offsets' ∙ ap (flat_map asked_offsets) are in
        let long : length (blocks_of_owner b.ino mine) ≡ length b.image.blocks =
        counted_own b.ino mine ∙ (counted_both mine ∙ (ap length (offsets ∙ Objects.asks_blocks b.ino b.image)
        ∙ (counted_file b.image.data_blocks b.image.index_blocks b.image.free_blocks ∙ sym built.sized.count))) in
        record {
          stands = stands_in b mine built.sized offsets is.low' (has_front (blocks_of_owner b.ino mine) later b.image.blocks more long both);
          serve = is.rest';
          others = has_back (blocks_of_owner b.ino mine) later b.image.blocks more long both;
        }

    -- whose runs the first ones are
    own_front : (k : ℕ) (rest : List ℕ) (cuts : List ℕ) (runs : List Run) → ServeAsks (asks (k ∷ rest)) cuts runs
        → All (λ (r : Run). r.owner ≡ number_of v starts k) (take (taken (runs_at v starts ns contents k) cuts) runs)
    own_front k rest cuts runs serve =
        front_owned (λ o. o ≡ number_of v starts k) (runs_at v starts ns contents k) (asks rest) cuts runs (own_asks v starts ns contents k)
        (subst (λ (xs : List RunAsk). ServeAsks xs cuts runs) (asks_next v starts ns contents k rest) serve)

    owned_parts : (owner n : ℕ) (runs : List Run) → owned_by owner runs ≡ owned_by owner (take n runs) ++ owned_by owner (drop n runs)
    owned_parts owner n runs = ap (owned_by owner) (sym (take-append-drop n runs)) ∙ filter-append (λ (r : Run). r.owner == owner) (take n runs) (drop n runs)

    -- a directory with its own runs among those of all files
    pub record StandsAt (k : ℕ) (runs : List Run) : Type 0 where
      pub built : IsBuiltAt k
      pub mine : List Run
      pub own : owned_by (number_of v starts k) runs ≡ mine
      pub stands : StandsIn v image (directory k built) mine

    here_stands : (j : ℕ) (rest : List ℕ) (cuts : List ℕ) (runs : List Run) → IsBuiltAt j → All (λ k. number_of v starts k ≢ number_of v starts j) rest
        → ServeAsks (asks (j ∷ rest)) cuts runs → held (j ∷ rest) cuts runs → StandsAt j runs
    here_stands j rest cuts runs built apart serve own =
        let first = stands_first j built rest cuts runs serve own in
        let n : ℕ = taken (runs_at v starts ns contents j) cuts in
        let of_mine : owned_by (number_of v starts j) (take n runs) ≡ take n runs = all_owned (number_of v starts j) (take n runs) (own_front j rest cuts runs serve) in
        let none : owned_by (number_of v starts j) (drop n runs) ≡ [] =
        none_owned (number_of v starts j) (drop n runs)
        (served_owned (λ o. o ≢ number_of v starts j) (asks rest) (drop (length (runs_at v starts ns contents j)) cuts) (drop n runs)
        (other_asks v starts ns contents (number_of v starts j) rest apart) first.serve) in
        record {
          built = built;
          mine = take n runs;
          own = owned_parts (number_of v starts j) n runs ∙ (ap₂ (λ (xs ys : List Run). xs ++ ys) of_mine none ∙ append-nil (take n runs));
          stands = first.stands;
        }

    behind_stands : (j k : ℕ) (rest : List ℕ) (cuts : List ℕ) (runs : List Run) → number_of v starts j ≢ number_of v starts k → ServeAsks (asks (j ∷ rest)) cuts runs
        → StandsAt k (drop (taken (runs_at v starts ns contents j) cuts) runs) → StandsAt k runs
    behind_stands j k rest cuts runs differ serve at =
        let n : ℕ = taken (runs_at v starts ns contents j) cuts in
        let own = own_front j rest cuts runs serve in
        let none : owned_by (number_of v starts k) (take n runs) ≡ [] =
        none_owned (number_of v starts k) (take n runs) (λ m d low same. differ (sym (own m d low) ∙ same)) in
        record {
          built = at.built;
          mine = at.mine;
          own = owned_parts (number_of v starts k) n runs ∙ (ap (λ (xs : List Run). xs ++ owned_by (number_of v starts k) (drop n runs)) none ∙ at.own);
          stands = at.stands;
        }

    -- each directory of the first files
    pub stands_among : (ks others : List ℕ) (cuts : List ℕ) (runs : List Run) (k : ℕ) → All IsBuiltAt ks → AllPairs (λ a b. number_of v starts a ≢ number_of v starts b) (ks ++ others)
        → ServeAsks (asks (ks ++ others)) cuts runs → held (ks ++ others) cuts runs → Contains ks k → StandsAt k runs
    stands_among [] others cuts runs k all apart serve own there = let low = there.1 in absurd (omega (arith, low))
    stands_among (j ∷ ks) others cuts runs k all apart serve own (zero, low, same) =
        subst (λ (i : ℕ). StandsAt i runs) same
        (here_stands j (ks ++ others) cuts runs (all zero j (omega arith)) (λ m d few is. apart zero (suc m) d (omega arith) (omega (arith, few)) (sym is)) serve own)
    stands_among (j ∷ ks) others cuts runs k all apart serve own (suc i, low, same) =
        let first = stands_first j (all zero j (omega arith)) (ks ++ others) cuts runs serve own in
        let n : ℕ = taken (runs_at v starts ns contents j) cuts in
        let long = length-append ks others in
        let place : get_or (ks ++ others) i k ≡ k = get_or_append_left ks others k i (omega (arith, low)) ∙ same in
        behind_stands j k (ks ++ others) cuts runs
        (λ is. apart zero (suc i) k (omega arith) (omega (arith, low, long)) (is ∙ ap (number_of v starts) (sym place))) serve
        (stands_among ks others (drop (length (runs_at v starts ns contents j)) cuts) (drop n runs) k (λ m d few. all (suc m) d (omega (arith, few)))
        (λ a b d less few. apart (suc a) (suc b) d (omega (arith, less)) (omega (arith, few))) first.serve first.others (i, omega (arith, low), same))
