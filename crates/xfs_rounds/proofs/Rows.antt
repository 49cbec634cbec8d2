-- Rows of slots and of blocks, one after the other, and each of them judged.
use Rattle.std.proofs.Common.{◌≡◌, ℕ, suc, ◌+◌, ◌<◌, ◌≤◌, List, [], ◌∷◌, ◌++◌, map, length, take, get_or, inl, inr, refl, sym, ap, subst, ◌∙◌, arith}
use Rattle.std.proofs.lemmas.Bool.{cases_lt}
use Rattle.std.proofs.lemmas.List.{map-append, take_all, take_more}
use Rattle.std.proofs.lemmas.List.Elements.{All-from_get_or, All-get_or, All-nil, All-push}
use Rattle.std.proofs.lemmas.List.FromFn.{map-range_with_len_more}
use Rattle.std.specs.List.{All, range_with_len}
use Rattle.xfs_geom.specs.Conversions.{inode_of}
use Rattle.xfs_geom.specs.Volumes.{Volume}
use Rattle.xfs_rounds.specs.Judged.{AreJudged, AreListed, AreListedBelow, ArePartsBelow, IsInBank, IsJudged, IsKnown, IsListed, IsPartOf}
use Rattle.xfs_rounds.specs.declared.judging.SlotPart.{SlotPart}
use Rattle.xfs_rounds.specs.declared.pieces.BlockParts.{BlockParts}

-- what holds of all numbers below one and of that one
pub below_more : (P : ℕ → Type 0) (k : ℕ) → ((i : ℕ) → i < k → P i) → P k → (j : ℕ) → j < k + 1 → P j
below_more P k all at j inside = elim (cases_lt j k) [
  | inl below ↦ all j below
  | inr past ↦ let same : k ≡ j = omega arith in subst P same at
]

-- one slot more
pub part_more : (v : Volume) (block : ℕ) (bytes : List ℕ) (count : ℕ) (old new : List SlotPart) (part : SlotPart) → ArePartsBelow v block bytes count old
    → part.slot ≡ count → IsPartOf v block bytes part → new ≡ old ++ part ∷ [] → ArePartsBelow v block bytes (count + 1) new
part_more v block bytes count old new part before number is more =
    let ino : SlotPart → ℕ = λ (part : SlotPart). inode_of v block part.slot in
    record {
      inodes = ap (map ino) more ∙ map-append ino old (part ∷ []) ∙ ap (λ (inos : List ℕ). inos ++ ino part ∷ []) before.inodes
          ∙ ap (λ (slot : ℕ). map (inode_of v block) (range_with_len 0 count) ++ inode_of v block slot ∷ []) number
          ∙ sym (map-range_with_len_more (inode_of v block) 0 count count (omega arith));
      each = subst (All (IsPartOf v block bytes)) (sym more) (All-push (IsPartOf v block bytes) old part before.each is);
    }

-- one block more, and all of them
pub block_more : (round : List ℕ) (at : ℕ) (old new : List BlockParts) (block : BlockParts) → at < length round → AreListedBelow round at old
    → block.place ≡ get_or round at 0 → block.at ≡ at → new ≡ old ++ block ∷ [] → AreListedBelow round (at + 1) new
block_more round at old new block inside before place is more =
    let place_of : BlockParts → ℕ = λ (block : BlockParts). block.place in
    record {
      places = ap (map place_of) more ∙ map-append place_of old (block ∷ []) ∙ ap (λ (places : List ℕ). places ++ block.place ∷ []) before.places
          ∙ ap (λ (place : ℕ). take at round ++ place ∷ []) place ∙ sym (take_more round at 0 inside);
      each = subst (All (IsListed round)) (sym more) (All-push (IsListed round) old block before.each (record {
        inside = subst (λ (n : ℕ). n < length round) (sym is) inside;
        place = place ∙ ap (λ (n : ℕ). get_or round n 0) (sym is);
      }));
    }

pub all_listed : (round : List ℕ) (count : ℕ) (blocks : List BlockParts) → length round ≤ count → AreListedBelow round count blocks → AreListed round blocks
all_listed round count blocks all listed = record { places = listed.places ∙ take_all count round all; each = listed.each }

-- a block of a round stands in its bank
pub in_bank : (end : ℕ) (bank : List (List ℕ)) (round : List ℕ) (blocks : List BlockParts) → AreListed round blocks → All (λ block. block < end) round
    → length bank ≡ length round → (i : ℕ) (d : BlockParts) → i < length blocks → IsInBank end (length bank) (get_or blocks i d)
in_bank end bank round blocks listed low size i d inside =
    let block = get_or blocks i d in
    let it : IsListed round block = All-get_or (IsListed round) blocks i d inside listed.each in
    record {
      volume = subst (λ (n : ℕ). n < end) (sym it.place) (All-get_or (λ (n : ℕ). n < end) round block.at 0 it.inside low);
      bank = subst (λ (n : ℕ). block.at < n) (sym size) it.inside;
    }

-- the same blocks, named otherwise
pub judged_as : (v : Volume) (bank : List (List ℕ)) {old new named_old named_new : BlockParts} → old ≡ named_old → new ≡ named_new → IsJudged v bank old new
    → IsJudged v bank named_old named_new
judged_as v bank {old} {new} {named_old} {named_new} same_old same_new judged =
    subst (λ (block : BlockParts). IsJudged v bank block named_new) same_old (subst (IsJudged v bank old) same_new judged)

from_each : (P : BlockParts → Type 0) (xs : List BlockParts) → ((i : ℕ) (d : BlockParts) → i < length xs → P (get_or xs i d)) → All P xs
from_each P [] each = All-nil P
from_each P (x ∷ xs) each = All-from_get_or P (x ∷ xs) x (λ i inside. each i x inside)

-- blocks that stay where they were
places_same : (old new : List BlockParts) → length new ≡ length old → ((i : ℕ) (d : BlockParts) → i < length old → (get_or new i d).place ≡ (get_or old i d).place)
    → map (λ (block : BlockParts). block.place) new ≡ map (λ (block : BlockParts). block.place) old
places_same [] [] long each = refl
places_same [] (y ∷ ys) long each = absurd (omega (arith, long))
places_same (x ∷ xs) [] long each = absurd (omega (arith, long))
places_same (x ∷ xs) (y ∷ ys) long each =
    let here = each 0 x (omega arith) in
    let rest = places_same xs ys (omega (arith, long)) (λ i d inside. each (suc i) d (omega (arith, inside))) in
    λ i. here i ∷ rest i

-- a round whose blocks were judged one by one is judged
pub all_judged : (v : Volume) (bank : List (List ℕ)) (round : List ℕ) (old new : List BlockParts) → AreListed round old → length new ≡ length old
    → ((i : ℕ) (d : BlockParts) → i < length old → IsJudged v bank (get_or old i d) (get_or new i d)) → AreJudged v bank round new
all_judged v bank round old new listed long each =
    let inside_old : (i : ℕ) → i < length new → i < length old = λ i inside. subst (λ (n : ℕ). i < n) long inside in
    record {
      listed = record {
        places = places_same old new long (λ i d inside. (each i d inside).place) ∙ listed.places;
        each = from_each (IsListed round) new (λ i d inside.
            let was : IsListed round (get_or old i d) = All-get_or (IsListed round) old i d (inside_old i inside) listed.each in
            let judged = each i d (inside_old i inside) in
            record {
              inside = subst (λ (n : ℕ). n < length round) (sym judged.at) was.inside;
              place = judged.place ∙ was.place ∙ ap (λ (n : ℕ). get_or round n 0) (sym judged.at);
            });
      };
      each = from_each (IsKnown v bank) new (λ i d inside. (each i d (inside_old i inside)).known);
    }
