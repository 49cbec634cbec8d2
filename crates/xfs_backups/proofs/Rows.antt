-- The plan of backups as rows of a bank.
use Rattle.std.proofs.Common.{◌≡◌, ℕ, zero, suc, ◌+◌, ◌-◌, ◌<◌, ◌≤◌, List, [], ◌∷◌, ◌++◌, Bool, true, false, if◌then◌else◌, length, map, take, drop, All, refl, sym, ap, ◌∙◌, subst, append_assoc, arith}
use Rattle.std.specs.Prelude.{replicate, slice_index_or, slice_set}
use Rattle.std.proofs.lemmas.List.{append-nil, length-map, length-replicate, take_all}
use Rattle.std.proofs.lemmas.List.Elements.{All-push}
use Rattle.xfs_disk.specs.Blocks.{Image, bytes_of_block}
use Rattle.xfs_collections.specs.Bank.{blocks_at}
use Rattle.xfs_geom.specs.Superblocks.{is_agreeing}
use Rattle.xfs_geom.specs.Volumes.{stated_volume}
use Rattle.xfs_geom.specs.Election.{super_of}
use Rattle.xfs_writing.specs.Writing.{Writes, rows_from, writes_of_rows}
use Rattle.xfs_writing.proofs.RowSteps.{writes_behind}
use Rattle.xfs_backups.specs.Backups.{start_of, step_of, steps_from, with_super}
use Rattle.xfs_backups.specs.Private.Rows.{disagreeing_places}

-- one more group: its place stands behind the others, where its backup does not agree
pub next_place : (primary : List ℕ) (image : Image) (group count at : ℕ) (agreeing : Bool) (before after whole : List ℕ) → group < count
    → agreeing ≡ is_agreeing (stated_volume primary) (super_of (bytes_of_block image (start_of primary group))) → at ≡ start_of primary group
    → after ≡ before ++ (if agreeing then [] else at ∷ [])
    → before ++ disagreeing_places primary image group (count - group) ≡ whole
    → after ++ disagreeing_places primary image (group + 1) (count - (group + 1)) ≡ whole
next_place primary image group count at agreeing before after whole within same place pushed so_far =
    let more : count - group ≡ suc (count - (group + 1)) = omega arith in
    by_case agreeing same pushed (subst (λ (n : ℕ). before ++ disagreeing_places primary image group n ≡ whole) more so_far)
  where
    by_case : (r : Bool) → r ≡ is_agreeing (stated_volume primary) (super_of (bytes_of_block image (start_of primary group)))
        → after ≡ before ++ (if r then [] else at ∷ [])
        → before ++ disagreeing_places primary image group (suc (count - (group + 1))) ≡ whole
        → after ++ disagreeing_places primary image (group + 1) (count - (group + 1)) ≡ whole
    by_case true agrees pushed far = rw (pushed, append-nil before) (rw (sym agrees) at far)
    by_case false other pushed far = rw (pushed, append_assoc, place) (rw (sym other) at far)

-- past the last group the places are all
pub all_places : (primary : List ℕ) (image : Image) (group count : ℕ) (before whole : List ℕ) → count ≤ group
    → before ++ disagreeing_places primary image group (count - group) ≡ whole → before ≡ whole
all_places primary image group count before whole past so_far =
    let none : count - group ≡ 0 = omega arith in
    sym (append-nil before) ∙ subst (λ (n : ℕ). before ++ disagreeing_places primary image group n ≡ whole) none so_far

one_more : (primary : List ℕ) (image : Image) (n group : ℕ)
    → map (λ (at : ℕ). (at, with_super primary (bytes_of_block image at))) (disagreeing_places primary image (group + 1) n) ≡ steps_from primary image (group + 1) n
    → map (λ (at : ℕ). (at, with_super primary (bytes_of_block image at))) (disagreeing_places primary image group (suc n)) ≡ steps_from primary image group (suc n)
unfolding step_of
one_more primary image n group later = by_case (is_agreeing (stated_volume primary) (super_of (bytes_of_block image (start_of primary group)))) refl
  where
    by_case : (r : Bool) → is_agreeing (stated_volume primary) (super_of (bytes_of_block image (start_of primary group))) ≡ r
        → map (λ (at : ℕ). (at, with_super primary (bytes_of_block image at))) (disagreeing_places primary image group (suc n)) ≡ steps_from primary image group (suc n)
    by_case true agrees = rw agrees later
    by_case false other = rw other (ap (λ (ws : Writes). (start_of primary group, with_super primary (bytes_of_block image (start_of primary group))) ∷ ws) later)

-- what is written at those places are the steps of these groups
pub places_steps : (primary : List ℕ) (image : Image) (n group : ℕ)
    → map (λ (at : ℕ). (at, with_super primary (bytes_of_block image at))) (disagreeing_places primary image group n) ≡ steps_from primary image group n
places_steps primary image zero group = refl
places_steps primary image (suc n) group = one_more primary image n group (places_steps primary image n (group + 1))

-- all blocks of a bank that have the primary in place of their first sector
pub rows_steps : (primary : List ℕ) (image bank : Image) (places : List ℕ) (count : ℕ)
    → places ≡ disagreeing_places primary image 1 count → bank ≡ map (with_super primary) (blocks_at image places)
    → writes_of_rows bank (rows_from 0 places) ≡ steps_from primary image 1 count
rows_steps primary image bank places count same filled =
    ap (λ (b : Image). writes_of_rows b (rows_from 0 places)) (filled ∙ blocks places)
    ∙ writes_behind (λ (at : ℕ). with_super primary (bytes_of_block image at)) places [] 0 refl
    ∙ ap (map (λ (at : ℕ). (at, with_super primary (bytes_of_block image at)))) same
    ∙ places_steps primary image count 1
  where
    blocks : (ps : List ℕ) → map (with_super primary) (blocks_at image ps) ≡ map (λ (at : ℕ). with_super primary (bytes_of_block image at)) ps
    blocks [] = refl
    blocks (p ∷ ps) =
        ap (λ (bs : Image). with_super primary (bytes_of_block image p) ∷ bs) (blocks ps)

-- one more place
pub one_more_inside : (P : ℕ → Type 0) (before after : List ℕ) (agreeing : Bool) (at : ℕ) → All P before → P at → after ≡ before ++ (if agreeing then [] else at ∷ []) → All P after
one_more_inside P before after true at all here pushed = rw (pushed, append-nil before) all
one_more_inside P before after false at all here pushed = rw pushed (All-push P before at all here)

-- one more block is another
pub next_block : (f : List ℕ → List ℕ) (before : Image) (i : ℕ) → i < length before
    → slice_set (map f (take i before) ++ drop i before) i (f (slice_index_or (map f (take i before) ++ drop i before) i [])) ≡ map f (take (i + 1) before) ++ drop (i + 1) before
next_block f [] i within = absurd (omega (arith, within))
next_block f (x ∷ xs) zero within = refl
next_block f (x ∷ xs) (suc k) within =
    let step : suc k + 1 ≡ suc (k + 1) = omega arith in
    rw step (ap (λ (bs : Image). f x ∷ bs) (next_block f xs k (omega (arith, within))))

pub next_of_bank : (f : List ℕ → List ℕ) (before bank after : Image) (i : ℕ) → i < length before → bank ≡ map f (take i before) ++ drop i before
    → after ≡ slice_set bank i (f (slice_index_or bank i [])) → after ≡ map f (take (i + 1) before) ++ drop (i + 1) before
next_of_bank f before bank after i within so_far set = set ∙ ap (λ (b : Image). slice_set b i (f (slice_index_or b i []))) so_far ∙ next_block f before i within

-- a bank of just so many blocks that was filled
pub filled_all : (places given : List ℕ) (old new image : Image) (n : ℕ) (zeros : List ℕ) → given ≡ places → n ≡ length places → old ≡ replicate n zeros
    → length new ≡ length old → take (length given) new ≡ blocks_at image given → new ≡ blocks_at image places
filled_all places given old new image n zeros same count empty size filled =
    let full : length new ≤ length given = omega (arith, size, ap length empty, length-replicate n zeros, count, ap length same) in
    sym (take_all (length given) new full) ∙ filled ∙ ap (blocks_at image) same

pub filled_count : (places : List ℕ) (old filled new : Image) (f : List ℕ → List ℕ) (n : ℕ) (zeros : List ℕ) → n ≡ length places → old ≡ replicate n zeros
    → length filled ≡ length old → new ≡ map f filled → length places ≤ length new
filled_count places old filled new f n zeros count empty size mapped =
    omega (arith, size, ap length empty, length-replicate n zeros, count, ap length mapped, length-map filled f)
