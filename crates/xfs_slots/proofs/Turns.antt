-- What a list of items gives, each of which has some inodes, taken one by one.
use Rattle.std.proofs.Common.{◌≡◌, ℕ, ◌<◌, List, [], ◌∷◌, ◌++◌, map, length, get_or, slice_get, Some, sym, ap, ◌∙◌}
use Rattle.std.specs.List.{flat_map}
use Rattle.std.proofs.lemmas.List.{append_assoc, append-nil, get_or-map, map-append}
use Rattle.std.proofs.lemmas.List.Concat.{flat_map_single}
use Rattle.std.proofs.lemmas.Grind.{flat_map-append}
use Rattle.std.proofs.lemmas.Option.{get_or_from_slice_get}
use Rattle.xfs_collections.specs.Bank.{blocks_at}
use Rattle.xfs_disk.specs.Blocks.{Image, bytes_of_block}
use Rattle.xfs_geom.specs.Volumes.{Volume}
use Rattle.xfs_image.specs.Slots.{inodes_of_block}
use Rattle.xfs_rounds.specs.declared.pieces.BlockParts.{BlockParts}
use Rattle.xfs_slots.specs.Facts.{slot_fact}
use Rattle.xfs_slots.specs.Gathered.{Gathered, gathered, gathered_both, inodes_of_blocks, of_slot}
use Rattle.xfs_rounds.specs.declared.facts.SlotFact.{SlotFact}
use Rattle.xfs_slots.proofs.Gathering.{gathered-append, joined_assoc, joined_nothing}

-- one item more
one_more : {X : Type 0} (f : X → List ℕ) (xs : List X) (x : X) → flat_map f (xs ++ x ∷ []) ≡ flat_map f xs ++ f x
one_more f xs x = flat_map-append f xs (x ∷ []) ∙ ap (λ (rest : List ℕ). flat_map f xs ++ rest) (append-nil (f x))

module _ (v : Volume) (image : Image) where
  pub gathered_one : (ino : ℕ) → gathered v image (ino ∷ []) ≡ of_slot v image ino
  unfolding gathered
  gathered_one ino = joined_nothing (of_slot v image ino)

  pub facts_start : (old : List SlotFact) → old ≡ old ++ map (slot_fact v image) []
  facts_start old = sym (append-nil old)

  pub held_start : (old : Gathered) → old ≡ gathered_both old (gathered v image [])
  unfolding gathered
  held_start old = sym (joined_nothing old)

  -- some inodes more
  pub facts_joined : (a b all : List ℕ) (old mid new : List SlotFact) → all ≡ a ++ b → mid ≡ old ++ map (slot_fact v image) a → new ≡ mid ++ map (slot_fact v image) b
      → new ≡ old ++ map (slot_fact v image) all
  facts_joined a b all old mid new split before more =
      more
      ∙ ap (λ (facts : List SlotFact). facts ++ map (slot_fact v image) b) before
      ∙ append_assoc old (map (slot_fact v image) a) (map (slot_fact v image) b)
      ∙ ap (λ (facts : List SlotFact). old ++ facts) (sym (map-append (slot_fact v image) a b) ∙ ap (map (slot_fact v image)) (sym split))

  pub held_joined : (a b all : List ℕ) (old mid new : Gathered) → all ≡ a ++ b → mid ≡ gathered_both old (gathered v image a) → new ≡ gathered_both mid (gathered v image b)
      → new ≡ gathered_both old (gathered v image all)
  held_joined a b all old mid new split before more =
      more
      ∙ ap (λ (held : Gathered). gathered_both held (gathered v image b)) before
      ∙ joined_assoc old (gathered v image a) (gathered v image b)
      ∙ ap (gathered_both old) (sym (gathered-append v image a b) ∙ ap (gathered v image) (sym split))

  -- the inodes of one item more
  pub facts_turn : {X : Type 0} (f : X → List ℕ) (xs : List X) (x : X) (old mid new : List SlotFact) → mid ≡ old ++ map (slot_fact v image) (flat_map f xs)
      → new ≡ mid ++ map (slot_fact v image) (f x) → new ≡ old ++ map (slot_fact v image) (flat_map f (xs ++ x ∷ []))
  facts_turn f xs x old mid new before more = facts_joined (flat_map f xs) (f x) (flat_map f (xs ++ x ∷ [])) old mid new (one_more f xs x) before more

  pub held_turn : {X : Type 0} (f : X → List ℕ) (xs : List X) (x : X) (old mid new : Gathered) → mid ≡ gathered_both old (gathered v image (flat_map f xs))
      → new ≡ gathered_both mid (gathered v image (f x)) → new ≡ gathered_both old (gathered v image (flat_map f (xs ++ x ∷ [])))
  held_turn f xs x old mid new before more = held_joined (flat_map f xs) (f x) (flat_map f (xs ++ x ∷ [])) old mid new (one_more f xs x) before more

-- the inodes of items of one each, and those of blocks
pub inodes_of_singles : {X : Type 0} (ino : X → ℕ) (xs : List X) (inos : List ℕ) → map ino xs ≡ inos → flat_map (λ x. ino x ∷ []) xs ≡ inos
inodes_of_singles ino xs inos same = flat_map_single ino xs ∙ same

inodes_by_place : (v : Volume) (blocks : List BlockParts)
    → flat_map (λ (block : BlockParts). inodes_of_block v block.place) blocks ≡ inodes_of_blocks v (map (λ (block : BlockParts). block.place) blocks)
inodes_by_place v [] = λ i. []
inodes_by_place v (block ∷ blocks) = ap (λ (inos : List ℕ). inodes_of_block v block.place ++ inos) (inodes_by_place v blocks)

pub inodes_of_round : (v : Volume) (blocks : List BlockParts) (round : List ℕ) → map (λ (block : BlockParts). block.place) blocks ≡ round
    → flat_map (λ (block : BlockParts). inodes_of_block v block.place) blocks ≡ inodes_of_blocks v round
inodes_of_round v blocks round same = inodes_by_place v blocks ∙ ap (inodes_of_blocks v) same

pub inodes_split : (v : Volume) (a b all : List ℕ) → all ≡ a ++ b → inodes_of_blocks v all ≡ inodes_of_blocks v a ++ inodes_of_blocks v b
inodes_split v a b all split = ap (inodes_of_blocks v) split ∙ flat_map-append (inodes_of_block v) a b

-- the bytes of a block of a round are those that its bank has
pub bank_bytes : (image : Image) (bank : List (List ℕ)) (round : List ℕ) (place at : ℕ) (bytes : List ℕ) → bank ≡ blocks_at image round → at < length round
    → place ≡ get_or round at 0 → slice_get bank at ≡ Some bytes → bytes_of_block image place ≡ bytes
bank_bytes image bank round place at bytes held inside stands viewed =
    ap (bytes_of_block image) stands
    ∙ sym (get_or-map (bytes_of_block image) round at 0 [] inside)
    ∙ ap (λ (blocks : List (List ℕ)). get_or blocks at []) (sym held)
    ∙ get_or_from_slice_get bank at bytes [] viewed
