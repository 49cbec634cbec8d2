-- A command that could not be run leaves where the language stands.
use Rattle.std.proofs.Common.{◌≡◌, ℕ, Bool, true, false, if◌then◌else◌, List, [], ◌∷◌, length, slice_get, Option, Some, None, refl, subst, ◌-◌}
use Rattle.std.specs.List.{find}
use Rattle.xfs_geom.specs.Volumes.{Volume}
use Rattle.xfs_commands.specs.Commands.{Session, Effect, bad_command, goes_to, to_group, at_group, group_start, to_head, to_number, to_spot, follows, follows_item, addresses, types, sets_type, prints, prints_named, pops, pops_to, sets, sets_item, sets_width, sets_fitting, fitting, converts, converts_typed, tells_spot, is_unknown, target_type, target_block}
use Rattle.xfs_objects.specs.Items.{item_named, number_width}
use Rattle.xfs_objects.specs.Numbers.{typed}
use Rattle.xfs_objects.specs.Objects.{object_in, type_named}
use Rattle.xfs_objects.specs.Places.{first_sector, is_place, measure_named, spot_of}
use Rattle.xfs_commands.specs.Verbs.{at_place, converts_named, runs_alone, word_at}
use Rattle.xfs_objects.specs.Tables.{Item}
use Rattle.xfs_word.specs.Field.{field_of}
use Rattle.xfs_commands.specs.declared.commands.Verb.{Verb}
use Rattle.xfs_commands.specs.declared.commands.Verb.TheVariants as verb
use Rattle.xfs_objects.specs.declared.convert.Measure.{Measure}
use Rattle.xfs_objects.specs.declared.convert.Measure.TheVariants as measure
use Rattle.xfs_commands.specs.declared.cursor.Verdict.{Verdict}
use Rattle.xfs_commands.specs.declared.cursor.Verdict.TheVariants.{Done, Refused, Quit}
use Rattle.xfs_objects.specs.declared.numbers.Typed.{Typed}
use Rattle.xfs_objects.specs.declared.numbers.Typed.TheVariants.{NoNumber, TooLarge, Number}
use Rattle.xfs_objects.specs.declared.objects.ObjectType.{ObjectType}
use Rattle.xfs_objects.specs.declared.objects.ObjectType.TheVariants as kind
use Rattle.xfs_objects.specs.declared.objects.ObjectPlace.{ObjectPlace}

-- the command was not refused, or it leaves where the language stands
abbrev pub Keeps : Session → Effect → Type 0
Keeps s e = e.verdict ≡ Refused → e.session ≡ s

abbrev IsRun : Verdict → Type 0
IsRun Done = Unit {0}
IsRun Quit = Unit {0}
IsRun Refused = ⊥

done : Done ≡ Refused → ⊥
done same = subst (λ (v : Verdict). IsRun v) same tt

quit : Quit ≡ Refused → ⊥
quit same = subst (λ (v : Verdict). IsRun v) same tt

went : (kind : ObjectType) (spot : Option (ℕ × ℕ)) (s : Session) → Keeps s (goes_to kind spot s)
unfolding goes_to
went kind None s = λ refused. refl
went kind (Some spot) s = λ refused. absurd (done refused)

at_group_kept : (kind : ObjectType) (sector : ℕ) (start : Option ℕ) (word : List ℕ) (s : Session) → Keeps s (at_group kind sector start word s)
at_group_kept kind sector None word s = λ refused. refl
at_group_kept kind sector (Some block) word s = λ refused. absurd (done refused)

to_group_kept : (v : Volume) (kind : ObjectType) (sector : ℕ) (t : Typed) (word : List ℕ) (s : Session) → Keeps s (to_group v kind sector t word s)
to_group_kept v kind sector NoNumber word s = λ refused. refl
to_group_kept v kind sector TooLarge word s = λ refused. refl
to_group_kept v kind sector (Number n) word s = at_group_kept kind sector (group_start v n) word s

head_kept : (v : Volume) (kind : ObjectType) (sector : ℕ) (args : List (List ℕ)) (s : Session) → Keeps s (to_head v kind sector args s)
unfolding to_head
head_kept v kind sector [] s = λ refused. absurd (done refused)
head_kept v kind sector (word ∷ rest) s = to_group_kept v kind sector (typed word) word s

to_spot_kept : (v : Volume) (m : Measure) (kind : ObjectType) (t : Typed) (word : List ℕ) (s : Session) → Keeps s (to_spot v m kind t word s)
to_spot_kept v m kind NoNumber word s = λ refused. refl
to_spot_kept v m kind TooLarge word s = λ refused. refl
to_spot_kept v m kind (Number n) word s = went kind (spot_of v m n) s

number_kept : (v : Volume) (m : Measure) (kind : ObjectType) (word : List ℕ) (s : Session) → Keeps s (to_number v m kind word s)
unfolding to_number
number_kept v m kind word s = to_spot_kept v m kind (typed word) word s

tells_kept : (v : Volume) (m : Measure) (spot : Option (ℕ × ℕ)) (s : Session) → Keeps s (tells_spot v m spot s)
tells_kept v m None s = λ refused. refl
tells_kept v m (Some spot) s = λ refused. absurd (done refused)

typed_kept : (v : Volume) (source : Measure) (t : Typed) (word : List ℕ) (target : Measure) (s : Session) → Keeps s (converts_typed v source t word target s)
typed_kept v source NoNumber word target s = λ refused. refl
typed_kept v source TooLarge word target s = λ refused. refl
typed_kept v source (Number n) word target s = tells_kept v target (spot_of v source n) s

converts_kept : (v : Volume) (source : Measure) (word : List ℕ) (target : Measure) (s : Session) → Keeps s (converts v source word target s)
unfolding converts
converts_kept v source word target s = typed_kept v source (typed word) word target s

named_kept : (v : Volume) (name : List ℕ) (source : Option Measure) (word : List ℕ) (target : Option Measure) (s : Session)
    → Keeps s (converts_named v name source word target s)
named_kept v name None word target s = λ refused. refl
named_kept v name (Some source) word None s = λ refused. refl
named_kept v name (Some source) word (Some target) s = by_place (is_place source)
  where
    by_place : (place : Bool) → Keeps s (if place then converts v source word target s else bad_command name s)
    by_place true = converts_kept v source word target s
    by_place false = λ refused. refl

pops_to_kept : (place : Option ObjectPlace) (s : Session) → Keeps s (pops_to place s)
pops_to_kept None s = λ refused. refl
pops_to_kept (Some place) s = λ refused. absurd (done refused)

pops_kept : (s : Session) → Keeps s (pops s)
unfolding pops
pops_kept s = pops_to_kept (slice_get s.stack (length s.stack - 1)) s

sets_type_kept : (place : ObjectPlace) (word : List ℕ) (kind : Option ObjectType) (s : Session) → Keeps s (sets_type place word kind s)
sets_type_kept place word None s = λ refused. refl
sets_type_kept place word (Some kind) s = λ refused. absurd (done refused)

types_kept : (place : ObjectPlace) (args : List (List ℕ)) (s : Session) → Keeps s (types place args s)
unfolding types
types_kept place [] s = λ refused. absurd (done refused)
types_kept place (word ∷ rest) s = sets_type_kept place word (type_named word) s

prints_named_kept : (kind : ObjectType) (object : List ℕ) (words : List (List ℕ)) (unknown : Option (List ℕ)) (s : Session)
    → Keeps s (prints_named kind object words unknown s)
prints_named_kept kind object words (Some unknown) s = λ refused. refl
prints_named_kept kind object words None s = λ refused. absurd (done refused)

pub prints_kept : (kind : ObjectType) (object : List ℕ) (words : List (List ℕ)) (s : Session) → Keeps s (prints kind object words s)
unfolding prints
prints_kept kind object [] s = λ refused. absurd (done refused)
prints_kept kind object (word ∷ words) s = prints_named_kept kind object (word ∷ words) (find (is_unknown kind object) (word ∷ words)) s

follows_kept : (v : Volume) (place : ObjectPlace) (object word : List ℕ) (offset : ℕ) (kind : Option ObjectType) (width : Option ℕ) (s : Session)
    → Keeps s (follows v place object word offset kind width s)
follows_kept v place object word offset (Some kind) (Some width) s =
    went kind (first_sector (target_block v place.kind place.block (field_of object offset width))) s
follows_kept v place object word offset (Some kind) None s = λ refused. refl
follows_kept v place object word offset None width s = λ refused. refl

follows_item_kept : (v : Volume) (place : ObjectPlace) (object word : List ℕ) (i : Option Item) (s : Session) → Keeps s (follows_item v place object word i s)
follows_item_kept v place object word None s = λ refused. refl
follows_item_kept v place object word (Some i) s =
    follows_kept v place object word i.offset (target_type place.kind word i.shape) (number_width i.shape) s

pub addresses_kept : (v : Volume) (place : ObjectPlace) (object word : List ℕ) (s : Session) → Keeps s (addresses v place object word s)
unfolding addresses
addresses_kept v place object word s = follows_item_kept v place object word (item_named place.kind object word) s

sets_fitting_kept : (place : ObjectPlace) (block value : List ℕ) (i : Item) (width : ℕ) (n : Option ℕ) (s : Session)
    → Keeps s (sets_fitting place block value i width n s)
sets_fitting_kept place block value i width None s = λ refused. refl
sets_fitting_kept place block value i width (Some n) s = λ refused. absurd (done refused)

sets_width_kept : (place : ObjectPlace) (block name value : List ℕ) (i : Item) (width : Option ℕ) (s : Session)
    → Keeps s (sets_width place block name value i width s)
sets_width_kept place block name value i None s = λ refused. refl
sets_width_kept place block name value i (Some width) s = sets_fitting_kept place block value i width (fitting width (typed value)) s

sets_item_kept : (place : ObjectPlace) (block name value : List ℕ) (i : Option Item) (s : Session) → Keeps s (sets_item place block name value i s)
sets_item_kept place block name value None s = λ refused. refl
sets_item_kept place block name value (Some i) s = sets_width_kept place block name value i (number_width i.shape) s

pub sets_kept : (place : ObjectPlace) (block name value : List ℕ) (s : Session) → Keeps s (sets place block name value s)
unfolding sets
sets_kept place block name value s =
    sets_item_kept place block name value (item_named place.kind (object_in place.kind place.sector block) name) s

pub here_kept : (at : Option ObjectPlace) (next : ObjectPlace → Effect) (s : Session) → ((place : ObjectPlace) → Keeps s (next place)) → Keeps s (at_place at next s)
here_kept None next s kept = λ refused. refl
here_kept (Some place) next s kept = kept place

pub alone_kept : (v : Volume) (verb : Verb) (name : List ℕ) (args : List (List ℕ)) (s : Session) → Keeps s (runs_alone v verb name args s)
alone_kept v verb.Sb name args s = head_kept v kind.Sb 0 args s
alone_kept v verb.Agf name args s = head_kept v kind.Agf 1 args s
alone_kept v verb.Agi name args s = head_kept v kind.Agi 2 args s
alone_kept v verb.Agfl name args s = head_kept v kind.Agfl 3 args s
alone_kept v verb.Inode name args s = number_kept v measure.InodeNumber kind.Inode (word_at args 0) s
alone_kept v verb.FsBlock name args s = number_kept v measure.FsBlock kind.Data (word_at args 0) s
alone_kept v verb.DiskAddress name args s = number_kept v measure.DiskAddress kind.Data (word_at args 0) s
alone_kept v verb.Retype name args s = here_kept s.at (λ (place : ObjectPlace). types place args s) s (λ place. types_kept place args s)
alone_kept v verb.Pop name args s = pops_kept s
alone_kept v verb.Stack name args s = λ refused. absurd (done refused)
alone_kept v verb.Convert name args s =
    named_kept v name (measure_named (word_at args 0)) (word_at args 1) (measure_named (word_at args 2)) s
alone_kept v verb.Hash name args s = λ refused. absurd (done refused)
alone_kept v verb.Quit name args s = λ refused. absurd (quit refused)
alone_kept v verb.Addr name args s = λ refused. refl
alone_kept v verb.Print name args s = λ refused. refl
alone_kept v verb.Push name args s = λ refused. refl
alone_kept v verb.Write name args s = λ refused. refl
