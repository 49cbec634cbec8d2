-- Slots and blocks, settled one after the other, and a round of them.
use Rattle.std.proofs.Common.{◌≡◌, ℕ, ◌+◌, ◌<◌, List, [], ◌∷◌, Result, Ok, Err, IfOk, OnOk, Some, false, slice_get, map, length, get_or, set, suc, inl, inr, refl, sym, ap, subst, ◌∙◌, arith}
use Rattle.std.proofs.lemmas.Bool.{cases_lt}
use Rattle.std.proofs.lemmas.List.{get_or-set_other, get_or-set_same, with_items_is}
use Rattle.std.proofs.lemmas.List.Elements.{All-from_get_or, All-get_or, All-nil, All-weaker}
use Rattle.std.proofs.lemmas.Option.{get_or_from_slice_get}
use Rattle.std.proofs.lemmas.Result.{IfOk-weaker}
use Rattle.std.specs.List.{All}
use Rattle.std.specs.Result.{is_err}
use Rattle.std.specs.Vec.{with_items}
use Rattle.std.specs.declared.alloc.Global.{Global}
use Rattle.std.specs.declared.vec.Vec.{Vec}
use Rattle.xfs_disk.specs.Blocks.{Image}
use Rattle.xfs_disk.specs.declared.failed.NoMemory.{NoMemory}
use Rattle.xfs_geom.specs.Volumes.{Volume}
use Rattle.xfs_rounds.specs.Judged.{AreListed, IsListed}
use Rattle.xfs_rounds.specs.declared.judging.SlotFile.{SlotFile}
use Rattle.xfs_rounds.specs.declared.judging.SlotFile.TheVariants as Files
use Rattle.xfs_rounds.specs.declared.judging.SlotPart.{SlotPart}
use Rattle.xfs_rounds.specs.declared.pieces.BlockParts.{BlockParts}
use Rattle.xfs_rounds.specs.Named.{AreNamedParts, IsDone, IsInPlace, IsNamedFile, IsNamedPart, IsNumbered}
use Rattle.xfs_rounds.specs.Settled.{ArePartsIn, AreSettled, IsFileIn, IsPartIn, IsSettled}
use Rattle.xfs_rounds.specs.declared.named.NamedSlots.{NamedSlots}

-- what holds of each
pub each_is : {X : Type 0} (P : X → Type 0) (xs : List X) → ((i : ℕ) (d : X) → i < length xs → P (get_or xs i d)) → All P xs
each_is P [] each = All-nil P
each_is P (x ∷ xs) each = All-from_get_or P (x ∷ xs) x (λ i inside. each i x inside)

-- what holds of all numbers below one and of that one
below_more : (P : ℕ → Type 0) (k : ℕ) → ((i : ℕ) → i < k → P i) → P k → (j : ℕ) → j < k + 1 → P j
below_more P k all at j inside = elim (cases_lt j k) [
  | inl below ↦ all j below
  | inr past ↦ let same : k ≡ j = omega arith in subst P same at
]

-- where one is replaced, those before it stay, and it is the new one
pub one_more : {X : Type 0} (P : ℕ → X → Type 0) (xs : List X) (k : ℕ) (x d : X) → k < length xs → ((i : ℕ) → i < k → P i (get_or xs i d)) → P k x
    → (j : ℕ) → j < k + 1 → P j (get_or (set xs k x) j d)
one_more P xs k x d inside before is j below =
    below_more (λ i. P i (get_or (set xs k x) i d)) k (λ i under. subst (P i) (sym (get_or-set_other xs k i x d (λ e. omega arith))) (before i under))
    (subst (P k) (sym (get_or-set_same xs k x d inside)) is) j below

-- where no slot names other blocks, each is decided
module _ (v : Volume) (told : Image → Type 0) where
  decided_file : (named : NamedSlots) → length named.slots.items ≡ 0 → (ino : ℕ) (bytes : List ℕ) (file : SlotFile) → IsNamedFile v named ino bytes file
      → IsFileIn v told ino bytes file
  decided_file named none ino bytes (Files.Decided file) is = record { read = λ image holds. is.always image; sound = is.sound }
  decided_file named none ino bytes (Files.Naming read) is = absurd is
  decided_file named none ino bytes (Files.Named number) is = let inside = is.0 in absurd (omega (arith, inside, none))

  decided_part : (named : NamedSlots) → length named.slots.items ≡ 0 → (block : ℕ) (bytes : List ℕ) (part : SlotPart) → IsNamedPart v named block bytes part
      → IsPartIn v told block bytes part
  decided_part named none block bytes part is = record { few = is.few; fact = is.fact; file = decided_file named none _ _ part.file is.file }

  pub all_decided : (named : NamedSlots) → length named.slots.items ≡ 0 → (end : ℕ) (bank : List (List ℕ)) (block : BlockParts) → IsNumbered v end named bank block
      → IsSettled v told bank block
  all_decided named none end bank block numbered =
      let bytes = get_or bank block.at [] in
      IfOk-weaker block.slots (λ parts. AreNamedParts v named block.place bytes parts.items) (λ parts. ArePartsIn v told block.place bytes parts.items)
      (λ parts are. record {
        inodes = are.inodes;
        each = All-weaker (IsNamedPart v named block.place bytes) (IsPartIn v told block.place bytes) (decided_part named none block.place bytes) parts.items are.each;
      }) numbered.slots

-- what is told of more images is told of fewer
module _ (v : Volume) (told fewer : Image → Type 0) (less : (image : Image) → fewer image → told image) where
  fewer_file : (ino : ℕ) (bytes : List ℕ) (file : SlotFile) → IsFileIn v told ino bytes file → IsFileIn v fewer ino bytes file
  fewer_file ino bytes (Files.Decided file) is = record { read = λ image holds. is.read image (less image holds); sound = is.sound }
  fewer_file ino bytes (Files.Naming read) is = absurd is
  fewer_file ino bytes (Files.Named number) is = absurd is

  fewer_part : (block : ℕ) (bytes : List ℕ) (part : SlotPart) → IsPartIn v told block bytes part → IsPartIn v fewer block bytes part
  fewer_part block bytes part is = record { few = is.few; fact = is.fact; file = fewer_file _ _ part.file is.file }

  pub settled_in : (bank : List (List ℕ)) (block : BlockParts) → IsSettled v told bank block → IsSettled v fewer bank block
  settled_in bank block settled =
      let bytes = get_or bank block.at [] in
      IfOk-weaker block.slots (λ parts. ArePartsIn v told block.place bytes parts.items) (λ parts. ArePartsIn v fewer block.place bytes parts.items)
      (λ parts are. record {
        inodes = are.inodes;
        each = All-weaker (IsPartIn v told block.place bytes) (IsPartIn v fewer block.place bytes) (fewer_part block.place bytes) parts.items are.each;
      }) settled

-- a slot that is not one of those that name other blocks is decided
module _ (v : Volume) (told : Image → Type 0) (named : NamedSlots) where
  other_file : (ino : ℕ) (bytes : List ℕ) (file : SlotFile) → IsNamedFile v named ino bytes file → ((number : ℕ) → file ≡ Files.Named number → ⊥) → IsFileIn v told ino bytes file
  other_file ino bytes (Files.Decided file) is other = record { read = λ image holds. is.always image; sound = is.sound }
  other_file ino bytes (Files.Naming read) is other = absurd is
  other_file ino bytes (Files.Named number) is other = absurd (other number refl)

  pub other_part : (block : ℕ) (bytes : List ℕ) (part : SlotPart) → IsNamedPart v named block bytes part → ((number : ℕ) → part.file ≡ Files.Named number → ⊥)
      → IsPartIn v told block bytes part
  other_part block bytes part is other = record { few = is.few; fact = is.fact; file = other_file _ _ part.file is.file other }

-- what holds of the slots of a block by its bytes in a bank
pub parts_held : (P : List ℕ → List SlotPart → Type 0) (bank : List (List ℕ)) (at : ℕ) (slots : Result (Vec SlotPart Global) NoMemory) (vec : Vec SlotPart Global) (bytes : List ℕ)
    (parts : List SlotPart) → slots ≡ Ok vec → slice_get bank at ≡ Some bytes → parts ≡ vec.items → IfOk slots (λ parts. P (get_or bank at []) parts.items) → P bytes parts
parts_held P bank at slots vec bytes parts is held same known =
    subst (P bytes) (sym same) (subst (λ (block : List ℕ). P block vec.items) (get_or_from_slice_get bank at bytes [] held)
    (subst (λ (r : Result (Vec SlotPart Global) NoMemory). IfOk r (λ parts. P (get_or bank at []) parts.items)) is known))

-- the same blocks, named otherwise
pub done_as : (v : Volume) (told : Image → Type 0) (bank : List (List ℕ)) {old new named_old named_new : BlockParts} → old ≡ named_old → new ≡ named_new
    → IsDone v told bank old new → IsDone v told bank named_old named_new
done_as v told bank {old} {new} {named_old} {named_new} same_old same_new done =
    subst (λ (block : BlockParts). IsDone v told bank block named_new) same_old (subst (IsDone v told bank old) same_new done)

-- a block whose slots these are now
pub block_done : (v : Volume) (told : Image → Type 0) (bank : List (List ℕ)) (old new : BlockParts) (vec : Vec SlotPart Global) (parts : List SlotPart) (bytes : List ℕ)
    → new ≡ record { place = old.place; at = old.at; slots = Ok (with_items vec parts) } → length parts ≡ vec.len → slice_get bank old.at ≡ Some bytes
    → ArePartsIn v told old.place bytes parts → IsDone v told bank old new
block_done v told bank old new vec parts bytes is long held are =
    subst (IsDone v told bank old) (sym is) (record {
      place = refl;
      at = refl;
      settled = subst (λ (xs : List SlotPart). ArePartsIn v told old.place (get_or bank old.at []) xs) (sym (with_items_is vec parts long))
          (subst (λ (block : List ℕ). ArePartsIn v told old.place block parts) (sym (get_or_from_slice_get bank old.at bytes [] held)) are);
    })

-- what holds where there is no fault
pub no_fault : {E P : Type 0} (result : Result (Unit {0}) E) → is_err result ≡ false → OnOk result P → P
no_fault (Ok done) good is = is
no_fault (Err fault) good is = cc

-- blocks that stay where they were, and stay there once more
pub in_place : (one two three : BlockParts) → IsInPlace one two → IsInPlace two three → IsInPlace one three
in_place one two three first second = record { place = second.place ∙ first.place; at = second.at ∙ first.at }

places_kept : (old new : List BlockParts) → length new ≡ length old → ((i : ℕ) (d : BlockParts) → i < length old → IsInPlace (get_or old i d) (get_or new i d))
    → map (λ (block : BlockParts). block.place) new ≡ map (λ (block : BlockParts). block.place) old
places_kept [] [] long each = refl
places_kept [] (y ∷ ys) long each = absurd (omega (arith, long))
places_kept (x ∷ xs) [] long each = absurd (omega (arith, long))
places_kept (x ∷ xs) (y ∷ ys) long each =
    let here = (each 0 x (omega arith)).place in
    let rest = places_kept xs ys (omega (arith, long)) (λ i d inside. each (suc i) d (omega (arith, inside))) in
    λ i. here i ∷ rest i

-- a round whose blocks were settled one by one is settled
pub all_settled : (v : Volume) (told : Image → Type 0) (bank : List (List ℕ)) (round : List ℕ) (old new : List BlockParts) → length new ≡ length old
    → ((i : ℕ) (d : BlockParts) → i < length old → IsInPlace (get_or old i d) (get_or new i d))
    → ((i : ℕ) (d : BlockParts) → i < length old → IsSettled v told bank (get_or new i d)) → AreListed round old → AreSettled v told bank round new
all_settled v told bank round old new long placed settled listed =
    let inside_old : (i : ℕ) → i < length new → i < length old = λ i inside. subst (λ (n : ℕ). i < n) long inside in
    record {
      listed = record {
        places = places_kept old new long placed ∙ listed.places;
        each = each_is (IsListed round) new (λ i d inside.
            let was : IsListed round (get_or old i d) = All-get_or (IsListed round) old i d (inside_old i inside) listed.each in
            let here = placed i d (inside_old i inside) in
            record {
              inside = subst (λ (n : ℕ). n < length round) (sym here.at) was.inside;
              place = here.place ∙ was.place ∙ ap (λ (n : ℕ). get_or round n 0) (sym here.at);
            });
      };
      each = each_is (IsSettled v told bank) new (λ i d inside. settled i d (inside_old i inside));
    }
