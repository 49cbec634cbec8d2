-- The rounds of a row of blocks.
use Rattle.std.proofs.Common.{◌≡◌, ℕ, ◌+◌, ◌<◌, ◌≤◌, List, ◌++◌, length, take, drop, get_or, sym, ap, subst, ◌∙◌, arith}
use Rattle.std.specs.List.{All}
use Rattle.std.proofs.Math.Seq.{take-add, take-append_seam}
use Rattle.std.proofs.lemmas.List.{take-append-drop}
use Rattle.xfs_geom.specs.Volumes.{Volume}
use Rattle.xfs_rounds.specs.Judged.{AreJudged, IsListed}
use Rattle.xfs_rounds.specs.declared.pieces.BlockParts.{BlockParts}
use Rattle.xfs_rounds.specs.Named.{IsAtHand}

-- the first blocks of what is left stand behind those before
pub round_behind : (start count : ℕ) (blocks rest : List ℕ) → rest ≡ drop start blocks
    → take (start + length (take count rest)) blocks ≡ take start blocks ++ take count rest
round_behind start count blocks rest left =
    take-add start (length (take count rest)) blocks
    ∙ ap (λ (ys : List ℕ). take start blocks ++ take (length (take count rest)) ys) (sym left ∙ sym (take-append-drop count rest))
    ∙ ap (λ (ys : List ℕ). take start blocks ++ ys) (take-append_seam (take count rest) (drop count rest))

-- the blocks of a round that were judged stand in the volume and in the bank
pub at_hand : (v : Volume) (end : ℕ) (bank : List (List ℕ)) (round : List ℕ) (blocks : List BlockParts) → AreJudged v bank round blocks → All (λ block. block < end) round → length bank ≡ length round
    → (i : ℕ) (d : BlockParts) → i < length blocks → IsAtHand v end bank (get_or blocks i d)
at_hand v end bank round blocks judged low size i d inside =
    let block = get_or blocks i d in
    let listed : IsListed round (get_or blocks i d) = judged.listed.each i d inside in
    record {
      placed = record {
        volume = subst (λ (place : ℕ). place < end) (sym listed.place) (low block.at 0 listed.inside);
        bank = subst (λ (n : ℕ). block.at < n) (sym size) listed.inside;
      };
      known = judged.each i d inside;
    }

-- blocks below the end of a volume lie on a disk that is as long
pub all_below : (low high : ℕ) (blocks : List ℕ) → low ≤ high → All (λ block. block < low) blocks → All (λ block. block < high) blocks
all_below low high blocks up all = λ k d inside. let below = all k d inside in omega (arith, up, below)
