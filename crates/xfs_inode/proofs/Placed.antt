-- Extents that are tested one behind the other.
use Rattle.std.proofs.Common.{◌≡◌, ℕ, ◌+◌, ◌<◌, ◌≤◌, Bool, true, false, ◌&&◌, nat_lt, IsTrue, List, [], ◌∷◌, length, get_or, drop, Option, Some, None, refl, sym, ap, ◌∙◌}
use Rattle.std.specs.List.{All}
use Rattle.std.proofs.lemmas.Bool.{true≢false, and_parts}
use Rattle.std.proofs.lemmas.List.{at_drop_more, at_drop_all}
use Rattle.std.proofs.lemmas.List.Sums.{AllPass-from_list_all}
use Rattle.xfs_word.specs.declared.extents.Extent.{Extent}
use Rattle.xfs_geom.specs.Volumes.{Volume}
use Rattle.xfs_kinds.specs.FileTrees.{is_extent, follows_offset}
use Rattle.xfs_tree.specs.Reading.{Contents}
use Rattle.xfs_inode.specs.Files.{are_blocks, are_extents, is_placed}

both_true : (a b rest : Bool) → (a && b) ≡ true → (a && b && rest) ≡ rest
both_true true true rest e = refl
both_true true false rest e = absurd (true≢false (sym e))
both_true false b rest e = absurd (true≢false (sym e))

one_false : (a b rest : Bool) → (a && b) ≡ false → (a && b && rest) ≡ false
one_false true b rest e = ap (λ (x : Bool). x && rest) e
one_false false b rest e = refl

-- the test of an extent behind the one before it
judged : (v : Volume) (before copied : Option Extent) (e : Extent) (lawful answer : Bool) → lawful ≡ (is_extent v e && follows_offset copied e) → copied ≡ before
    → lawful ≡ answer → (is_extent v e && follows_offset before e) ≡ answer
judged v before copied e lawful answer stated same is = sym (stated ∙ ap (λ (o : Option Extent). is_extent v e && follows_offset o e) same) ∙ is

-- one that keeps the rules, and one that does not
pub extents_more : (v : Volume) (before copied : Option Extent) (es : List Extent) (i : ℕ) (d : Extent) (lawful whole : Bool) → i < length es
    → lawful ≡ (is_extent v (get_or es i d) && follows_offset copied (get_or es i d)) → copied ≡ before → lawful ≡ true
    → are_extents v before (drop i es) ≡ whole → are_extents v (Some (get_or es i d)) (drop (i + 1) es) ≡ whole
extents_more v before copied es i d lawful whole inside stated same is held =
    let e = get_or es i d in
    let rest = are_extents v (Some e) (drop (i + 1) es) in
    sym (at_drop_more (are_extents v before) es i d inside ∙ both_true (is_extent v e) (follows_offset before e) rest (judged v before copied e lawful true stated same is)) ∙ held

pub extents_stop : (v : Volume) (before copied : Option Extent) (es : List Extent) (i : ℕ) (d : Extent) (lawful whole : Bool) → i < length es
    → lawful ≡ (is_extent v (get_or es i d) && follows_offset copied (get_or es i d)) → copied ≡ before → lawful ≡ false
    → are_extents v before (drop i es) ≡ whole → false ≡ whole
extents_stop v before copied es i d lawful whole inside stated same is held =
    let e = get_or es i d in
    let rest = are_extents v (Some e) (drop (i + 1) es) in
    sym (at_drop_more (are_extents v before) es i d inside ∙ one_false (is_extent v e) (follows_offset before e) rest (judged v before copied e lawful false stated same is)) ∙ held

-- none is left
pub extents_all : (v : Volume) (before : Option Extent) (es : List Extent) (i : ℕ) (whole : Bool) → length es ≤ i → are_extents v before (drop i es) ≡ whole → true ≡ whole
extents_all v before es i whole end held = sym (at_drop_all (are_extents v before) es i end) ∙ held

-- the blocks of what lies in the volume
pub blocks_placed : (v : Volume) (held : Contents Extent) → is_placed v held ≡ true → All (λ (b : ℕ). IsTrue (nat_lt b v.dblocks)) held.blocks
blocks_placed v held placed = AllPass-from_list_all (λ (b : ℕ). nat_lt b v.dblocks) held.blocks (and_parts (are_extents v None held.records) (are_blocks v held.blocks) placed).1
