-- What the first of some asks of a directory have: their blocks, the numbers of these in the file, and what is left for the others.
use Rattle.std.proofs.Common.{◌≡◌, ℕ, Bool, ◌+◌, ◌^◌, ◌<◌, if◌then◌else◌, List, [], ◌∷◌, ◌++◌, length, take, drop, refl, sym, ap, ap₂, ◌∙◌, subst, arith}
use Rattle.std.specs.List.{AllByRecursion, flat_map}
use Rattle.std.proofs.Math.Seq.{take-add}
use Rattle.std.proofs.lemmas.List.{append_assoc, drop-drop}
use Rattle.std.proofs.lemmas.List.Concat.{flat_map-append}
use Rattle.std.proofs.lemmas.List.Sums.{sum_by-cons}
use Rattle.xfs_geom.specs.declared.records.Run.{Run}
use Rattle.xfs_place.specs.Objects.{AreJoined, ServeAsks}
use Rattle.xfs_place.specs.declared.wanted.ObjectKind.TheVariants.{Directory}
use Rattle.xfs_place.specs.declared.wanted.RunAsk.{RunAsk}
use Rattle.xfs_render.specs.Objects.{ask_blocks, blocks_of_asks, run_blocks}
use Rattle.xfs_render.specs.declared.object_blocks.ObjectAsk.{ObjectAsk}
use Rattle.xfs_render.specs.declared.object_blocks.ObjectBlock.{ObjectBlock}
use Rattle.xfs_built.specs.Pieces.{IsFrontOfAsks, IsLowRun, IsPlainAsk, directory_ask, offsets_in, blocks_of_owner, run_offsets, taken}
use Rattle.xfs_built.proofs.Joining.{joined_low, joined_offsets, written_word}

pub all_append : {X : Type 0} (P : X → Type 0) (xs ys : List X) → AllByRecursion P xs → AllByRecursion P ys → AllByRecursion P (xs ++ ys)
all_append P [] ys front back = back
all_append P (x ∷ xs) ys front back = (front.0, all_append P xs ys front.1 back)

ask_written : (ino : ℕ) (a : RunAsk) (runs : List Run) → IsPlainAsk ino a → ask_blocks (directory_ask a) runs ≡ blocks_of_owner ino runs
ask_written ino a runs plain =
    let room = plain.room in
    ap₂ (λ (t : Bool) (owner : ℕ). if t then [] else flat_map (run_blocks Directory owner) runs) (written_word a.offset_word (omega (arith, room))) plain.owner'

one_more : (ino : ℕ) (a : RunAsk) (front rest : List RunAsk) (others : List ObjectAsk) (n : ℕ) (cuts : List ℕ) (runs : List Run) → ino < 2 ^ 63 → IsPlainAsk ino a
    → AreJoined a (take n runs) → IsFrontOfAsks ino front rest others cuts (drop n runs) → IsFrontOfAsks ino (a ∷ front) rest others (n ∷ cuts) runs
unfolding blocks_of_asks
one_more ino a front rest others n cuts runs low plain joined behind =
    let m : ℕ = taken front cuts in
    let count : taken (a ∷ front) (n ∷ cuts) ≡ n + m = sum_by-cons (λ (c : ℕ). c) n (take (length front) cuts) in
    let head : take (taken (a ∷ front) (n ∷ cuts)) runs ≡ take n runs ++ take m (drop n runs) = ap (λ (k : ℕ). take k runs) count ∙ take-add n m runs in
    let tail : drop m (drop n runs) ≡ drop (taken (a ∷ front) (n ∷ cuts)) runs = drop-drop m n runs ∙ ap (λ (k : ℕ). drop k runs) (sym count) in
    let owner = plain.owner' in
    let wide = plain.room in
    record {
      offsets' =
          ap offsets_in head
          ∙ (flat_map-append run_offsets (take n runs) (take m (drop n runs))
          ∙ ap₂ (λ (xs ys : List ℕ). xs ++ ys) (joined_offsets a (take n runs) (omega (arith, owner, low)) (omega (arith, wide)) joined) behind.offsets');
      blocks' =
          ap₂ (λ (xs ys : List ObjectBlock). xs ++ ys) (ask_written ino a (take n runs) plain) behind.blocks'
          ∙ (sym (append_assoc (blocks_of_owner ino (take n runs)) (blocks_of_owner ino (take m (drop n runs))) (blocks_of_asks others (drop (length front) cuts) (drop m (drop n runs))))
          ∙ ap₂ (λ (xs : List ObjectBlock) (rs : List Run). xs ++ blocks_of_asks others (drop (length front) cuts) rs)
          (sym (flat_map-append (run_blocks Directory ino) (take n runs) (take m (drop n runs))) ∙ ap (blocks_of_owner ino) (sym head)) tail);
      low' =
          subst (AllByRecursion IsLowRun) (sym head)
          (all_append IsLowRun (take n runs) (take m (drop n runs)) (joined_low a (take n runs) (omega (arith, owner, low)) plain.few plain.room joined) behind.low');
      rest' = subst (λ (rs : List Run). ServeAsks rest (drop (length front) cuts) rs) tail behind.rest';
    }

pub front_is : (ino : ℕ) (front rest : List RunAsk) (others : List ObjectAsk) (cuts : List ℕ) (runs : List Run) → ino < 2 ^ 63
    → AllByRecursion (IsPlainAsk ino) front → ServeAsks (front ++ rest) cuts runs → IsFrontOfAsks ino front rest others cuts runs
front_is ino [] rest others cuts runs low plain serve = record { offsets' = refl; blocks' = refl; low' = tt; rest' = serve }
front_is ino (a ∷ front) rest others [] runs low plain serve = absurd serve
front_is ino (a ∷ front) rest others (n ∷ cuts) runs low plain serve =
    one_more ino a front rest others n cuts runs low plain.0 serve.1 (front_is ino front rest others cuts (drop n runs) low plain.1 serve.2)
