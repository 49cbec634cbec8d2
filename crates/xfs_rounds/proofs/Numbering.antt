-- The slots of a round that name other blocks are found one by one: the lists in which they stand grow, and what was said of a slot stays.
use Rattle.std.proofs.Common.{◌≡◌, ℕ, suc, ◌+◌, ◌<◌, ◌≤◌, List, [], ◌∷◌, ◌++◌, Option, Some, None, Result, Ok, Err, Vec, Global, IfOk, OnOk, map, length, get_or, set, refl, sym, ap, subst, ◌∙◌, arith, append_assoc, append-nil, length-append}
use Rattle.std.proofs.lemmas.List.{get_or_append_left, get_or_default, get_or_push, get_or-set_other, get_or-set_same}
use Rattle.std.proofs.lemmas.List.Elements.{All-from_get_or, All-nil, All-weaker}
use Rattle.std.specs.List.{All}
use Rattle.xfs_disk.specs.declared.failed.NoMemory.{NoMemory}
use Rattle.xfs_geom.specs.Conversions.{inode_of}
use Rattle.xfs_geom.specs.Volumes.{Volume}
use Rattle.xfs_inode.specs.declared.reading.SlotRead.{SlotRead}
use Rattle.xfs_rounds.specs.Judged.{ArePartsOf, IsFileOf, IsPartOf, slot_of}
use Rattle.xfs_rounds.specs.declared.judging.SlotFile.{SlotFile}
use Rattle.xfs_rounds.specs.declared.judging.SlotFile.TheVariants as Files
use Rattle.xfs_rounds.specs.declared.judging.SlotPart.{SlotPart}
use Rattle.xfs_rounds.specs.declared.pieces.BlockParts.{BlockParts}
use Rattle.xfs_rounds.proofs.Rows.{below_more}
use Rattle.xfs_rounds.specs.Named.{AreNamedParts, IsMore, IsNamedFile, IsNamedPart, IsNaming, IsNumbered, StandsAt}
use Rattle.xfs_rounds.specs.declared.named.NamedSlots.{NamedSlots}
use Rattle.xfs_rounds.specs.declared.named.NamingSlot.{NamingSlot}

-- a loop over items that changes one at a time: those from k on are as they were, those below are changed
pub rest_after : {A : Type 0} (xs ys : List A) (k : ℕ) (y : A) → ((j : ℕ) (d : A) → k ≤ j → get_or ys j d ≡ get_or xs j d)
    → (j : ℕ) (d : A) → k + 1 ≤ j → get_or (set ys k y) j d ≡ get_or xs j d
rest_after xs ys k y rest j d later = get_or-set_other ys k j y d (λ e. omega (arith, e, later)) ∙ rest j d (omega (arith, later))

pub done_after : {A : Type 0} (Q : A → A → Type 0) (xs ys : List A) (k : ℕ) (x y : A) → k < length ys → ((j : ℕ) (d : A) → k ≤ j → get_or ys j d ≡ get_or xs j d)
    → ((j : ℕ) (d : A) → j < k → Q (get_or xs j d) (get_or ys j d)) → Q (get_or ys k x) y
    → (j : ℕ) (d : A) → j < k + 1 → Q (get_or xs j d) (get_or (set ys k y) j d)
done_after Q xs ys k x y inside rest done here j d before =
    below_more (λ i. Q (get_or xs i d) (get_or (set ys k y) i d)) k
    (λ i under. subst (Q (get_or xs i d)) (sym (get_or-set_other ys k i y d (λ e. omega (arith, e, under)))) (done i d under))
    (subst (Q (get_or xs k d)) (sym (get_or-set_same ys k y d inside))
    (subst (λ (z : _). Q z y) (get_or_default ys k x d inside ∙ rest k d (omega arith)) here))
    j before

-- lists that did not grow, and lists that grew twice
pub none_more : (named : NamedSlots) → IsMore named named
none_more named = record {
  slots = [];
  leaves = [];
  links = [];
  slots_are = sym (append-nil named.slots.items);
  leaves_are = sym (append-nil named.leaves.items);
  links_are = sym (append-nil named.links.items);
}

both_more : {A : Type 0} (a b c xs ys : List A) → b ≡ a ++ xs → c ≡ b ++ ys → c ≡ a ++ (xs ++ ys)
both_more a b c xs ys first then = then ∙ ap (λ (l : List _). l ++ ys) first ∙ append_assoc a xs ys

pub more_on : (a b c : NamedSlots) → IsMore a b → IsMore b c → IsMore a c
more_on a b c first then = record {
  slots = first.slots ++ then.slots;
  leaves = first.leaves ++ then.leaves;
  links = first.links ++ then.links;
  slots_are = both_more a.slots.items b.slots.items c.slots.items first.slots then.slots first.slots_are then.slots_are;
  leaves_are = both_more a.leaves.items b.leaves.items c.leaves.items first.leaves then.leaves first.leaves_are then.leaves_are;
  links_are = both_more a.links.items b.links.items c.links.items first.links then.links first.links_are then.links_are;
}

-- one slot more
pub one_longer : (old new : List NamingSlot) (slot : NamingSlot) → new ≡ old ++ slot ∷ [] → length new ≡ length old + 1
one_longer old new slot more = ap (λ (slots : List NamingSlot). length slots) more ∙ length-append old (slot ∷ [])

pub last_is : (P : NamingSlot → Type 0) (old new : List NamingSlot) (slot d : NamingSlot) → new ≡ old ++ slot ∷ [] → P slot → P (get_or new (length old) d)
last_is P old new slot d more is = subst P (sym (ap (λ (slots : List NamingSlot). get_or slots (length old) d) more ∙ get_or_push old slot d (length old) refl)) is

pub more_by : (old new : NamedSlots) (slots : List NamingSlot) (leaves links : List ℕ) → new.slots.items ≡ old.slots.items ++ slots → new.leaves.items ≡ old.leaves.items ++ leaves
    → new.links.items ≡ old.links.items ++ links → IsMore old new
more_by old new slots leaves links slots_are leaves_are links_are = record {
  slots = slots;
  leaves = leaves;
  links = links;
  slots_are = slots_are;
  leaves_are = leaves_are;
  links_are = links_are;
}

-- a block that stands in a list stands in a longer one
pub stands_more : (old more : List ℕ) (block at : Option ℕ) → StandsAt old block at → StandsAt (old ++ more) block at
stands_more old more None at is = is
stands_more old more (Some block) None is = is
stands_more old more (Some block) (Some at) is =
    (omega (arith, is.0, length-append old more), get_or_append_left old more 0 at is.0 ∙ is.1)

module _ (v : Volume) (old new : NamedSlots) (more : IsMore old new) where
  naming_more : (ino : ℕ) (bytes : List ℕ) (slot : NamingSlot) → IsNaming v old.leaves.items old.links.items ino bytes slot
      → IsNaming v new.leaves.items new.links.items ino bytes slot
  naming_more ino bytes slot is = record {
    inode = is.inode;
    read = is.read;
    top = is.top;
    attr_leaf = is.attr_leaf;
    link = is.link;
    leaf_at = subst (λ (leaves : List ℕ). StandsAt leaves slot.needs.attr_leaf slot.leaf_at) (sym more.leaves_are)
        (stands_more old.leaves.items more.leaves slot.needs.attr_leaf slot.leaf_at is.leaf_at);
    link_at = subst (λ (links : List ℕ). StandsAt links slot.needs.link slot.link_at) (sym more.links_are)
        (stands_more old.links.items more.links slot.needs.link slot.link_at is.link_at);
  }

  file_more : (ino : ℕ) (bytes : List ℕ) (file : SlotFile) → IsNamedFile v old ino bytes file → IsNamedFile v new ino bytes file
  file_more ino bytes (Files.Decided file) is = is
  file_more ino bytes (Files.Naming read) is = is
  file_more ino bytes (Files.Named number) is = (
    omega (arith, is.0, ap length more.slots_are, length-append old.slots.items more.slots),
    λ d. subst (IsNaming v new.leaves.items new.links.items ino bytes)
        (sym (ap (λ (slots : List NamingSlot). get_or slots number d) more.slots_are ∙ get_or_append_left old.slots.items more.slots d number is.0))
        (naming_more ino bytes (get_or old.slots.items number d) (is.1 d)),
  )

  pub named_more : (block : ℕ) (bytes : List ℕ) (part : SlotPart) → IsNamedPart v old block bytes part → IsNamedPart v new block bytes part
  named_more block bytes part is = record {
    few = is.few;
    fact = is.fact;
    file = file_more (inode_of v block part.slot) (slot_of bytes part.slot) part.file is.file;
  }

  pub parts_more : (block : ℕ) (bytes : List ℕ) (parts : List SlotPart) → AreNamedParts v old block bytes parts → AreNamedParts v new block bytes parts
  parts_more block bytes parts are = record {
    inodes = are.inodes;
    each = All-weaker (IsNamedPart v old block bytes) (IsNamedPart v new block bytes) (named_more block bytes) parts are.each;
  }

-- a slot that names no other block
file_alone : (v : Volume) (named : NamedSlots) (ino : ℕ) (bytes : List ℕ) (file : SlotFile) → IsFileOf v ino bytes file
    → ((read : SlotRead) → file ≡ Files.Naming read → ⊥) → IsNamedFile v named ino bytes file
file_alone v named ino bytes (Files.Decided file) is other = is
file_alone v named ino bytes (Files.Naming read) is other = absurd (other read refl)
file_alone v named ino bytes (Files.Named number) is other = absurd is

pub part_alone : (v : Volume) (named : NamedSlots) (block : ℕ) (bytes : List ℕ) (part : SlotPart) → IsPartOf v block bytes part
    → ((read : SlotRead) → part.file ≡ Files.Naming read → ⊥) → IsNamedPart v named block bytes part
part_alone v named block bytes part is other = record {
  few = is.few;
  fact = is.fact;
  file = file_alone v named (inode_of v block part.slot) (slot_of bytes part.slot) part.file is.file other;
}

-- slots that keep their numbers
same_inodes : (v : Volume) (block : ℕ) (old new : List SlotPart) → length new ≡ length old
    → ((j : ℕ) (d : SlotPart) → j < length old → (get_or new j d).slot ≡ (get_or old j d).slot)
    → map (λ (part : SlotPart). inode_of v block part.slot) new ≡ map (λ (part : SlotPart). inode_of v block part.slot) old
same_inodes v block [] [] long each = refl
same_inodes v block [] (y ∷ ys) long each = absurd (omega (arith, long))
same_inodes v block (x ∷ xs) [] long each = absurd (omega (arith, long))
same_inodes v block (x ∷ xs) (y ∷ ys) long each =
    let here = each 0 x (omega arith) in
    let rest = same_inodes v block xs ys (omega (arith, long)) (λ j d inside. each (suc j) d (omega (arith, inside))) in
    λ i. inode_of v block (here i) ∷ rest i

parts_from_each : (P : SlotPart → Type 0) (xs : List SlotPart) → ((j : ℕ) (d : SlotPart) → j < length xs → P (get_or xs j d)) → All P xs
parts_from_each P [] each = All-nil P
parts_from_each P (x ∷ xs) each = All-from_get_or P (x ∷ xs) x (λ j inside. each j x inside)

-- all slots of a block were gone through
pub all_parts : (v : Volume) (named : NamedSlots) (block : ℕ) (bytes : List ℕ) (count : ℕ) (old new : List SlotPart) → ArePartsOf v block bytes old
    → length new ≡ length old → length old ≤ count
    → ((j : ℕ) (d : SlotPart) → j < count → (get_or new j d).slot ≡ (get_or old j d).slot)
    → ((j : ℕ) (d : SlotPart) → j < count → IsNamedPart v named block bytes (get_or new j d))
    → AreNamedParts v named block bytes new
all_parts v named block bytes count old new before long all numbers done = record {
  inodes = same_inodes v block old new long (λ j d inside. numbers j d (omega (arith, inside, all))) ∙ before.inodes;
  each = parts_from_each (IsNamedPart v named block bytes) new (λ j d inside. done j d (omega (arith, inside, long, all)));
}

slots_more : (v : Volume) (old new : NamedSlots) → IsMore old new → (block : ℕ) (bytes : List ℕ) (slots : Result (Vec SlotPart Global) NoMemory)
    → IfOk slots (λ parts. AreNamedParts v old block bytes parts.items) → IfOk slots (λ parts. AreNamedParts v new block bytes parts.items)
slots_more v old new more block bytes (Ok parts) are = parts_more v old new more block bytes parts.items are
slots_more v old new more block bytes (Err fault) are = are

-- what was said of a block stays
pub numbered_more : (v : Volume) (end : ℕ) (bank : List (List ℕ)) (old new : NamedSlots) → IsMore old new → (block : BlockParts)
    → IsNumbered v end old bank block → IsNumbered v end new bank block
numbered_more v end bank old new more block is = record {
  placed = is.placed;
  slots = slots_more v old new more block.place (get_or bank block.at []) block.slots is.slots;
}

-- what follows from what holds where a call succeeds
pub then_ok : {T E : Type 0} (A B : Type 0) (result : Result T E) → OnOk result A → (A → B) → OnOk result B
then_ok A B (Ok value) held follows = follows held
then_ok A B (Err fault) held follows = held
