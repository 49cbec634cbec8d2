-- The blocks of a file's content stand in its runs.
use Rattle.std.proofs.Common.{◌≡◌, ℕ, ◌*◌, ◌/◌, ◌%◌, ◌^◌, ◌==◌, ◌≤◌, ◌<◌, List, [], ◌∷◌, ◌++◌, length, map, take, drop, get_or, arith, refl, sym, subst, ap, ◌∙◌, append-nil}
use Rattle.std.specs.List.{All, flat_map}
use Rattle.std.proofs.lemmas.List.{get_or-map, length-map, map-append, take-append-drop}
use Rattle.std.proofs.lemmas.List.Elements.{filter-append}
use Rattle.xfs_disk.specs.Blocks.{Image, bytes_of_block}
use Rattle.xfs_geom.specs.Volumes.{Volume}
use Rattle.xfs_geom.specs.declared.records.Run.{Run}
use Rattle.xfs_image.specs.Keeping.{byte_over}
use Rattle.xfs_place.specs.Objects.{AreJoined, ServeAsks}
use Rattle.xfs_place.specs.declared.wanted.Object.{Object}
use Rattle.xfs_place.specs.declared.wanted.ObjectKind.TheVariants as kinds
use Rattle.xfs_place.specs.declared.wanted.RunAsk.{RunAsk}
use Rattle.xfs_render.specs.Objects.{IsObjectBlock, asks_with_kind, blocks_of_asks, run_blocks}
use Rattle.xfs_render.specs.declared.object_blocks.ObjectBlock.{ObjectBlock}
use Rattle.xfs_built.specs.Pieces.{places_of_runs, run_places}
use Rattle.xfs_filled.specs.Contents.{content_blocks}
use Rattle.xfs_filled.specs.Forks.{extents_of_run, owned_by}
use Rattle.xfs_filled.specs.Objects.{blocks_of_length}
use Rattle.xfs_filled.proofs.Spanning.{all_owned}
use Rattle.xfs_populated.proofs.FileBlocks.{Each, HasObjectBlocks}
use Rattle.xfs_populated.proofs.FileMapped.{byte_at, joined_byte, joined_count, just_middle}
use Rattle.xfs_populated.proofs.FileParts.{content_in_blocks}
use Rattle.xfs_populated.proofs.FileServed.{AreServed, joined_owner}

-- the ask and the object of a file of so many blocks
abbrev pub data_ask : ℕ → ℕ → RunAsk
data_ask ino blocks = record { blocks = blocks; owner = ino; offset_word = 0 }

abbrev pub data_object : ℕ → ℕ → Object
data_object ino blocks = record { ino = ino; kind = kinds.Data; runs = data_ask ino blocks ∷ []; most = 21 }

abbrev data_at : ℕ → ℕ → ObjectBlock
data_at ino place = record { kind = kinds.Data; owner = ino; place = place }

abbrev data_in : ℕ → List Run → List ObjectBlock
data_in ino runs = flat_map (run_blocks kinds.Data ino) runs

data_places : (ino : ℕ) (runs : List Run) → data_in ino runs ≡ map (data_at ino) (places_of_runs runs)
data_places ino [] = refl
data_places ino (r ∷ runs) =
    ap (λ (bs : List ObjectBlock). map (data_at ino) (run_places r) ++ bs) (data_places ino runs) ∙ sym (map-append (data_at ino) (run_places r) (places_of_runs runs))

joined_whole : (ask : RunAsk) (n : ℕ) (runs : List Run) → AreJoined ask (take n runs) → drop n runs ≡ [] → take n runs ≡ runs
joined_whole ask n runs joined none = sym (append-nil (take n runs)) ∙ ap (λ (xs : List Run). take n runs ++ xs) (sym none) ∙ take-append-drop n runs

module _ (v : Volume) (image : Image) (ino blocks : ℕ) where
  -- its runs are those of the ask, and its blocks stand in them
  record IsHeld (own : List Run) (built : List (List ℕ)) : Type 0 where
    pub joined : AreJoined (data_ask ino blocks) own
    pub each : Each v image (data_in ino own) built

  held : (cuts : List ℕ) (own : List Run) (built : List (List ℕ)) → ServeAsks (data_ask ino blocks ∷ []) cuts own
      → Each v image (blocks_of_asks (asks_with_kind (data_object ino blocks ∷ [])) cuts own) built → IsHeld own built
  unfolding blocks_of_asks
  held [] own built serve each = absurd serve
  held (n ∷ []) own built serve each =
      let whole : take n own ≡ own = joined_whole (data_ask ino blocks) n own serve.1 serve.2 in
      record {
        joined = subst (AreJoined (data_ask ino blocks)) whole serve.1;
        each = subst (λ (bs : List ObjectBlock). Each v image bs built) (append-nil (data_in ino (take n own)) ∙ ap (data_in ino) whole) each;
      }
  held (n ∷ m ∷ cuts) own built serve each = absurd serve.2

  -- block j of the file
  block_is : (own : List Run) (built : List (List ℕ)) (j : ℕ) → IsHeld own built → j < blocks → bytes_of_block image (get_or (places_of_runs own) j 0) ≡ get_or built j []
  block_is own built j is low =
      let count : length (places_of_runs own) ≡ blocks = joined_count own (data_ask ino blocks) is.joined in
      let long : length (data_in ino own) ≡ length (places_of_runs own) = ap length (data_places ino own) ∙ length-map (places_of_runs own) (data_at ino) in
      let here : get_or (data_in ino own) j (data_at ino 0) ≡ data_at ino (get_or (places_of_runs own) j 0) =
      ap (λ (bs : List ObjectBlock). get_or bs j (data_at ino 0)) (data_places ino own) ∙ get_or-map (data_at ino) (places_of_runs own) j 0 (data_at ino 0) (omega (arith, low, count)) in
      subst (λ (x : ObjectBlock). IsObjectBlock v x (get_or built j []) (bytes_of_block image x.place)) here (is.each j (data_at ino 0) (omega (arith, low, count, long)))

  -- the runs of the file among all runs are these
  own_runs : (runs : List Run) (built : List (List ℕ)) → All (λ (r : Run). 1 ≤ r.count) (owned_by ino runs) → AreServed (data_ask ino blocks ∷ []) (owned_by ino runs)
      → HasObjectBlocks v image (data_object ino blocks ∷ []) built runs → IsHeld (owned_by ino runs) built
  own_runs runs built some served found =
      let is : IsHeld found.own built = held found.cuts found.own built found.served found.each in
      let all : take served.0 (owned_by ino runs) ≡ owned_by ino runs = joined_whole (data_ask ino blocks) served.0 (owned_by ino runs) served.2 served.3 in
      let count : length (places_of_runs (owned_by ino runs)) ≡ blocks = joined_count (owned_by ino runs) (data_ask ino blocks) (subst (AreJoined (data_ask ino blocks)) all served.2) in
      let whole : owned_by ino runs ≡ owned_by ino found.front ++ (found.own ++ owned_by ino found.back) =
      ap (owned_by ino) found.whole ∙ filter-append (λ (r : Run). r.owner == ino) found.front (found.own ++ found.back)
      ∙ ap (λ (xs : List Run). owned_by ino found.front ++ xs) (filter-append (λ (r : Run). r.owner == ino) found.own found.back
      ∙ ap (λ (xs : List Run). xs ++ owned_by ino found.back) (all_owned ino found.own (joined_owner (data_ask ino blocks) found.own is.joined))) in
      let same : owned_by ino runs ≡ found.own =
      just_middle (owned_by ino found.front) found.own (owned_by ino found.back) (owned_by ino runs) whole some (count ∙ sym (joined_count found.own (data_ask ino blocks) is.joined)) in
      subst (λ (own : List Run). IsHeld own built) (sym same) is

  -- so each byte of a content stands over the extents of its file
  pub byte_held : (runs : List Run) (content : List ℕ) (i : ℕ) → 1 ≤ v.agblocks → v.agblocks ≤ 2 ^ v.agblklog → ino < 2 ^ 63 → blocks ≤ 2 ^ 26 * 21 → blocks_of_length (length content) ≡ blocks
      → All (λ (r : Run). 1 ≤ r.count) (owned_by ino runs) → AreServed (data_ask ino blocks ∷ []) (owned_by ino runs) → HasObjectBlocks v image (data_object ino blocks ∷ []) (content_blocks content) runs
      → i < length content → byte_over v image (flat_map (extents_of_run v) (owned_by ino runs)) i ≡ get_or content i 0
  byte_held runs content i large enough low few count some served found inside =
      let is : IsHeld (owned_by ino runs) (content_blocks content) = own_runs runs (content_blocks content) some served found in
      let near : i / 4096 < blocks = omega (arith, inside, few, count) in
      joined_byte v image i large enough (owned_by ino runs) (data_ask ino blocks) is.joined low (omega (arith, few)) (omega arith) (omega (arith, near))
      ∙ ap (λ (n : ℕ). byte_at image (get_or (places_of_runs (owned_by ino runs)) n 0) i) (omega arith)
      ∙ ap (λ (b : List ℕ). get_or b (i % 4096) 0) (block_is (owned_by ino runs) (content_blocks content) (i / 4096) is near)
      ∙ content_in_blocks content i inside (omega (arith, near, count))
