-- A short form is no longer than the room of its fork, and the room of a fork is that of its file.
use Rattle.std.proofs.Common.{◌≡◌, inl, inr, ℕ, suc, Bool, true, false, not, ◌+◌, ◌*◌, ◌≤◌, ◌<◌, ◌==◌, ◌&&◌, nat_le, if◌then◌else◌, List, [], ◌∷◌, ◌++◌, length, map, refl, sym, ap, ap₂, ◌∙◌, subst, append-nil, arith}
use Rattle.std.specs.List.{Contains, filter}
use Rattle.std.proofs.lemmas.Bool.{and_parts, eq-eqb, eqb-true, leb-true, ne_eqb, not-false}
use Rattle.std.proofs.lemmas.List.{length-append}
use Rattle.std.proofs.lemmas.List.Sums.{sum_by-cons}
use Rattle.xfs_disk.specs.Lists.{is_among}
use Rattle.xfs_dirdata.specs.Bytes.{big_endian, short_bytes, short_entries_bytes, short_entry_bytes}
use Rattle.xfs_dirdata.specs.Written.{data_size_of, short_length, short_size_of}
use Rattle.xfs_dirdata.specs.declared.records.EntryRec.{EntryRec}
use Rattle.xfs_dirbuild.specs.Forms.{fits_leaf, fits_short, fits_single, form_of}
use Rattle.xfs_dirbuild.specs.declared.forms.DirectoryForm.TheVariants.{Leaf, Node, Short, Single}
use Rattle.xfs_inode.specs.Slots.{fork_bytes}
use Rattle.xfs_volume.specs.declared.files.FileRec.{FileRec}
use Rattle.xfs_naming.specs.Naming.{NumbersAscend, entries_in}
use Rattle.xfs_names.specs.Built.{IsBuiltAsWanted, fork_room}
use Rattle.xfs_names.specs.Pairs.{parent_or_itself}
use Rattle.xfs_names.specs.declared.building.BuiltDirectory.{BuiltDirectory}
use Rattle.xfs_names.specs.declared.building.ForkRoom.{ForkRoom}
use Rattle.xfs_names.specs.declared.records.WantedNames.{WantedNames}
use Rattle.xfs_views.proofs.Members.{Member, contained}
use Rattle.xfs_rename.specs.xfs_built.Asks.{stands_in_blocks}
use Rattle.xfs_rename.specs.xfs_changes.Rooms.{fork_rooms, has_attributes_behind, room_before_attributes}
use Rattle.xfs_rename.proofs.xfs_built.Sized.{none_short}

length_entry : (offset : ℕ) (e : EntryRec) → length (short_entry_bytes offset e) ≡ short_size_of e
unfolding short_entry_bytes
length_entry offset e = ap (λ (k : ℕ). suc (suc (suc k))) (length-append e.name (big_endian 1 e.ftype ++ (big_endian 4 e.ino ++ []))) ∙ omega arith

length_entries : (offset : ℕ) (es : List EntryRec) → length (short_entries_bytes offset es) ≡ short_length es
length_entries offset [] = refl
length_entries offset (e ∷ es) =
    length-append (short_entry_bytes offset e) (short_entries_bytes (offset + data_size_of e) es)
    ∙ (ap₂ (λ (m n : ℕ). m + n) (length_entry offset e) (length_entries (offset + data_size_of e) es) ∙ sym (sum_by-cons short_size_of e es))

length_short : (parent : ℕ) (es : List EntryRec) → length (short_bytes parent es) ≡ 6 + short_length es
unfolding short_bytes
length_short parent es =
    ap (λ (k : ℕ). suc (suc (suc (suc (suc (suc k)))))) (ap length (append-nil (short_entries_bytes 96 es)) ∙ length_entries 96 es) ∙ omega arith

form_short : (es : List EntryRec) (fork : ℕ) → form_of es fork ≡ Short → 6 + short_length es ≤ fork
form_short es fork is = by_fits (fits_short es fork) refl (fits_single es) (fits_leaf es) is
  where
    by_fits : (t : Bool) → fits_short es fork ≡ t → (u w : Bool) → (if t then Short else if u then Single else if w then Leaf else Node) ≡ Short → 6 + short_length es ≤ fork
    by_fits true fits u w same = leb-true (6 + short_length es) fork (and_parts (nat_le (6 + short_length es) fork) (fits_single es) fits).0
    by_fits false fits true w same = absurd cc
    by_fits false fits false true same = absurd cc
    by_fits false fits false false same = absurd cc

pub short_fits : (w : WantedNames) (rooms : List ForkRoom) (b : BuiltDirectory) → IsBuiltAsWanted w rooms b → stands_in_blocks b ≡ false → length b.image.short.items ≤ fork_room rooms b.ino
short_fits w rooms b is blocks =
    let es : List EntryRec = entries_in w.entries b.ino in
    let none : b.image.data_blocks ≡ 0 = eqb-true b.image.data_blocks 0 (not-false (b.image.data_blocks == 0) blocks) in
    let short : form_of es (fork_room rooms b.ino) ≡ Short = none_short (form_of es (fork_room rooms b.ino)) es (sym is.data_count ∙ none) in
    let long : length b.image.short.items ≡ 6 + short_length es = ap length (is.short_bytes_are short) ∙ length_short (parent_or_itself w.parents b.ino) es in
    let fits = form_short es (fork_room rooms b.ino) short in
    omega (arith, long, fits)

-- the room that is told of a fork
module _ (rebuilt : List ℕ) where
  skipped : (t : Bool) (f : FileRec) (fs : List FileRec) (d : ℕ) → (f.ino ≡ d → ⊥)
      → fork_room (map room_before_attributes (if t then f ∷ filter (has_attributes_behind rebuilt) fs else filter (has_attributes_behind rebuilt) fs)) d ≡ fork_room (fork_rooms rebuilt fs) d
  skipped true f fs d other = ap (λ (u : Bool). if u then 8 * f.core.forkoff else fork_room (fork_rooms rebuilt fs) d) (ne_eqb f.ino d other)
  skipped false f fs d other = refl

  none_told : (files : List FileRec) (low d : ℕ) → NumbersAscend low (map (λ (f : FileRec). f.ino) files) → d < low → fork_room (fork_rooms rebuilt files) d ≡ 336
  none_told [] low d ascend below = refl
  none_told (f ∷ fs) low d ascend below =
      let least = ascend.0 in
      skipped (has_attributes_behind rebuilt f) f fs d (λ e. omega (arith, e, least, below)) ∙ none_told fs (f.ino + 1) d ascend.1 (omega (arith, least, below))

  own_room : (t : Bool) (f : FileRec) (fs : List FileRec) → (f.core.forkoff == 0) ≡ t → fork_room (fork_rooms rebuilt fs) f.ino ≡ 336
      → fork_room (map room_before_attributes (if not t then f ∷ filter (has_attributes_behind rebuilt) fs else filter (has_attributes_behind rebuilt) fs)) f.ino ≡ (if t then 336 else 8 * f.core.forkoff)
  own_room true f fs is rest = rest
  own_room false f fs is rest = ap (λ (u : Bool). if u then 8 * f.core.forkoff else fork_room (fork_rooms rebuilt fs) f.ino) (eq-eqb f.ino f.ino refl)

  number_low : (files : List FileRec) (low : ℕ) (f : FileRec) → NumbersAscend low (map (λ (x : FileRec). x.ino) files) → Member f files → low ≤ f.ino
  number_low [] low f ascend is = absurd is
  number_low (x ∷ xs) low f ascend is =
      let least = ascend.0 in
      elim is [
        | inl same ↦ let number : x.ino ≡ f.ino = ap (λ (y : FileRec). y.ino) same in omega (arith, least, number)
        | inr there ↦ let more = number_low xs (x.ino + 1) f ascend.1 there in omega (arith, least, more)
      ]

  room_told : (files : List FileRec) (low : ℕ) (f : FileRec) → NumbersAscend low (map (λ (x : FileRec). x.ino) files) → Member f files → is_among rebuilt f.ino ≡ true
      → fork_room (fork_rooms rebuilt files) f.ino ≡ fork_bytes f.core.forkoff
  room_told [] low f ascend is among = absurd is
  room_told (x ∷ xs) low f ascend is among =
      elim is [
        | inl same ↦
            subst (λ (y : FileRec). fork_room (fork_rooms rebuilt (x ∷ xs)) y.ino ≡ fork_bytes y.core.forkoff) same
            (ap (λ (u : Bool). fork_room (map room_before_attributes (if u && not (x.core.forkoff == 0) then x ∷ filter (has_attributes_behind rebuilt) xs else filter (has_attributes_behind rebuilt) xs)) x.ino)
            (subst (λ (y : FileRec). is_among rebuilt y.ino ≡ true) (sym same) among)
            ∙ own_room (x.core.forkoff == 0) x xs refl (none_told xs (x.ino + 1) x.ino ascend.1 (omega arith)))
        | inr there ↦
            let more = number_low xs (x.ino + 1) f ascend.1 there in
            skipped (has_attributes_behind rebuilt x) x xs f.ino (λ e. omega (arith, e, more)) ∙ room_told xs (x.ino + 1) f ascend.1 there among
      ]

pub fork_room_is : (rebuilt : List ℕ) (files : List FileRec) (f : FileRec) → NumbersAscend 0 (map (λ (x : FileRec). x.ino) files) → Contains files f → is_among rebuilt f.ino ≡ true
    → fork_room (fork_rooms rebuilt files) f.ino ≡ fork_bytes f.core.forkoff
fork_room_is rebuilt files f ascend is among = room_told rebuilt files 0 f ascend (contained f files is) among
