-- The blocks that extents map are those of their runs, in order.
use Rattle.std.proofs.Common.{◌≡◌, ℕ, zero, suc, ◌+◌, ◌*◌, ◌/◌, ◌%◌, ◌^◌, ◌≤◌, ◌<◌, List, [], ◌∷◌, ◌++◌, length, map, refl, sym, ap, ap₂, ◌∙◌, arith}
use Rattle.std.specs.List.{flat_map, range_with_len}
use Rattle.std.proofs.Math.Nat.{mod-lt}
use Rattle.std.proofs.lemmas.Nat.{div-add-mod', div-mul-add, mod-mul-add}
use Rattle.xfs_disk.specs.Blocks.{Image, bytes_of_block}
use Rattle.xfs_geom.specs.Conversions.{address_of}
use Rattle.xfs_geom.specs.Groups.{block_of_address}
use Rattle.xfs_geom.specs.Volumes.{Volume}
use Rattle.xfs_geom.specs.declared.records.Run.{Run}
use Rattle.xfs_dirindex.specs.Mapped.{Mapped, mapped, mapped_block}
use Rattle.xfs_image.specs.Directories.{FileBlock, blocks_of_extent}
use Rattle.xfs_built.specs.Extents.{extent_of_run}
use Rattle.xfs_built.specs.Pieces.{offsets_in, placed_block, placed_blocks, places_of_runs, run_offsets, run_places}

-- the address of a block leads back to it
pub address_leads : (v : Volume) (b : ℕ) → 1 ≤ v.agblocks → v.agblocks ≤ 2 ^ v.agblklog → block_of_address v.agblocks v.agblklog (address_of v b) ≡ b
unfolding address_of
address_leads v b some enough =
    let w = v.agblocks in
    let k = 2 ^ v.agblklog in
    let short : b % w < w = mod-lt b (omega arith) in
    let group : (b / w * k + b % w) / k ≡ b / w = div-mul-add (b / w) k (b % w) (omega arith) in
    let rest : (b / w * k + b % w) % k ≡ b % w = mod-mul-add (b / w) k (b % w) (omega arith) in
    ap₂ (λ (m n : ℕ). m * w + n) group rest ∙ div-add-mod' b w

pub length_range : (a n : ℕ) → length (range_with_len a n) ≡ n
length_range a zero = refl
length_range a (suc n) = ap suc (length_range (a + 1) n)

-- the blocks of a row
row_placed : (image : Image) (s o k n : ℕ) → map (λ (i : ℕ). placed_block image (s + i) (o + i)) (range_with_len k n) ≡ placed_blocks image (range_with_len (s + k) n) (range_with_len (o + k) n)
row_placed image s o k zero = refl
row_placed image s o k (suc n) =
    ap (λ (bs : List FileBlock). placed_block image (s + k) (o + k) ∷ bs)
    (row_placed image s o (k + 1) n ∙ ap₂ (λ (a b : ℕ). placed_blocks image (range_with_len a n) (range_with_len b n)) (omega arith) (omega arith))

placed_append : (image : Image) (ps qs os rs : List ℕ) → length ps ≡ length os → placed_blocks image (ps ++ qs) (os ++ rs) ≡ placed_blocks image ps os ++ placed_blocks image qs rs
placed_append image [] qs [] rs long = refl
placed_append image [] qs (o ∷ os) rs long = absurd (omega (arith, long))
placed_append image (p ∷ ps) qs [] rs long = absurd (omega (arith, long))
placed_append image (p ∷ ps) qs (o ∷ os) rs long = ap (λ (bs : List FileBlock). placed_block image p o ∷ bs) (placed_append image ps qs os rs (omega (arith, long)))

pub mapped_placed : (image : Image) (ps os : List ℕ) → map (λ (b : FileBlock). b.mapped) (placed_blocks image ps os) ≡ mapped os (map (bytes_of_block image) ps)
mapped_placed image [] [] = refl
mapped_placed image [] (o ∷ os) = refl
mapped_placed image (p ∷ ps) [] = refl
mapped_placed image (p ∷ ps) (o ∷ os) = ap (λ (ms : List Mapped). mapped_block o (bytes_of_block image p) ∷ ms) (mapped_placed image ps os)

module _ (v : Volume) (image : Image) (some : 1 ≤ v.agblocks) (enough : v.agblocks ≤ 2 ^ v.agblklog) where
  run_placed : (r : Run) → blocks_of_extent v image (extent_of_run v r) ≡ placed_blocks image (run_places r) (run_offsets r)
  run_placed r =
      ap (λ (s : ℕ). map (λ (i : ℕ). placed_block image (s + i) (r.offset_word + i)) (range_with_len 0 r.count)) (address_leads v r.start some enough)
      ∙ (row_placed image r.start r.offset_word 0 r.count
      ∙ ap₂ (λ (a b : ℕ). placed_blocks image (range_with_len a r.count) (range_with_len b r.count)) (omega arith) (omega arith))

  pub runs_placed : (runs : List Run) → flat_map (blocks_of_extent v image) (map (extent_of_run v) runs) ≡ placed_blocks image (places_of_runs runs) (offsets_in runs)
  runs_placed [] = refl
  runs_placed (r ∷ runs) =
      ap₂ (λ (xs ys : List FileBlock). xs ++ ys) (run_placed r) (runs_placed runs)
      ∙ sym (placed_append image (run_places r) (places_of_runs runs) (run_offsets r) (offsets_in runs) (length_range r.start r.count ∙ sym (length_range r.offset_word r.count)))
