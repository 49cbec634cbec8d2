-- What the slot of a file that is kept, but not built anew, reads as where it is what is wanted of it.
use Rattle.std.proofs.Common.{◌≡◌, ℕ, Bool, true, false, ◌||◌, if◌then◌else◌, List, Option, Some, None, MatchOption, refl, sym, ap, ◌∙◌, subst}
use Rattle.std.specs.Option.{is_some, option_map}
use Rattle.xfs_disk.specs.Blocks.{Image, bytes_of_block}
use Rattle.xfs_word.specs.Crc.{little_field_of}
use Rattle.xfs_geom.specs.Volumes.{Volume}
use Rattle.xfs_inode.specs.Cores.{stated_core}
use Rattle.xfs_inode.specs.Named.{named_attr, named_link, named_top, slot_reads, tree_under}
use Rattle.xfs_inode.specs.declared.files.FileRead.TheVariants as Reads
use Rattle.xfs_inodebuild.specs.declared.forks.ForkWanted.{ForkWanted}
use Rattle.xfs_volume.specs.declared.cores.Core.{Core}
use Rattle.xfs_volume.specs.declared.files.FileRec.{FileRec}
use Rattle.xfs_views.specs.NamedBlocks.{blocks_named}
use Rattle.xfs_views.specs.SameFiles.{HasSameClaims}
use Rattle.xfs_views.proofs.FilesStay.{slot_claimed}
use Rattle.xfs_views.proofs.SlotsRead.{named_same}
use Rattle.xfs_views.proofs.Members.{all_members}
use Rattle.xfs_render.specs.Slots.{DropsAttrs, IsMadeSlot, SetsFork, SetsLinks}
use Rattle.xfs_render.specs.declared.wanted_slots.SlotBase.TheVariants.{Kept}
use Rattle.xfs_render.specs.declared.wanted_slots.SlotWanted.{SlotWanted}
use Rattle.xfs_rename.specs.xfs_request.Slots.{own_blocks}
use Rattle.xfs_restored.specs.DueFiles.{due_core, linked_core, plain_core}
use Rattle.xfs_restored.proofs.Changes.{drops_read, links_read, with_core}
use Rattle.xfs_restored.proofs.Readings.{attrs_have, file_has, stated}

-- the number of names of a file is set, or it has it already, and does not wait to be removed
abbrev pub IsLinked : Core → Option ℕ → ℕ → Type 0
IsLinked core None due = (core.nlink ≡ due) × (core.next_unlinked ≡ 0xffff_ffff)
IsLinked core (Some n) due = n ≡ due

-- what a slot reads as in which a file is kept, with its attributes or, where it is bare, without them
abbrev pub ReadsKept : Volume → Image → List ℕ → FileRec → Bool → Type 0
ReadsKept v image old f false = slot_reads v image f.ino old ≡ Reads.File f
ReadsKept v image old f true = slot_reads v image f.ino old ≡ Reads.FileWithoutAttrs f

-- the attributes of a bare file are dropped
abbrev pub drop_due : FileRec → Bool → Option ℕ
drop_due f bare = if bare then Some (own_blocks f) else None

-- what is wanted of a slot that is kept
abbrev pub kept_due : ℕ → Option ℕ → Option ForkWanted → Option ℕ → SlotWanted
kept_due ino drop fork nlink = record { ino = ino; base = Kept; drop_attrs = drop; fork = fork; nlink = nlink }

-- a slot is made of what stood there as it is wanted, and where nothing is wanted it is as it was
abbrev pub IsMadeOf : Volume → ℕ → Option SlotWanted → List ℕ → List ℕ → Type 0
IsMadeOf v generation wanted old new = MatchOption wanted (new ≡ old) (λ w. IsMadeSlot v generation w old new)

-- the parts of a slot that stays: its attributes first, then its data fork, then its number of names
pub record AreParts (v : Volume) (ino : ℕ) (drop : Option ℕ) (fork : Option ForkWanted) (nlink : Option ℕ) (old new : List ℕ) : Type 0 where
  pub bare : List ℕ
  pub forked : List ℕ
  pub dropped : MatchOption drop (bare ≡ old) (λ n. DropsAttrs v ino n old bare)
  pub data' : MatchOption fork (forked ≡ bare) (λ f. SetsFork v ino f bare forked)
  pub linked : MatchOption nlink (new ≡ forked) (λ n. SetsLinks v ino n forked new)

pub made_parts : (v : Volume) (generation ino : ℕ) (drop : Option ℕ) (fork : Option ForkWanted) (nlink : Option ℕ) (old new : List ℕ)
    → IsMadeSlot v generation (kept_due ino drop fork nlink) old new → AreParts v ino drop fork nlink old new
made_parts v generation ino drop fork nlink old new made = record {
  bare = made.bare;
  forked = made.forked;
  dropped = subst (λ (b : List ℕ). MatchOption drop (made.bare ≡ b) (λ n. DropsAttrs v ino n b made.bare)) made.base made.attrs;
  data' = made.fork;
  linked = made.links;
}

pub same_parts : (v : Volume) (ino : ℕ) (old new : List ℕ) → new ≡ old → AreParts v ino None None None old new
same_parts v ino old new same = record { bare = old; forked = old; dropped = refl; data' = refl; linked = same }

-- a slot that reads as a file reads so from another image in which the blocks that the file claims hold the same bytes
same_reads : (v : Volume) (image now : Image) (ino : ℕ) (slot : List ℕ) (file : FileRec) → HasSameClaims v image now file → slot_reads v image ino slot ≡ Reads.File file
    → slot_reads v now ino slot ≡ Reads.File file
same_reads v image now ino slot file claims reads =
    named_same v image now ino slot
    (all_members (λ (block : ℕ). bytes_of_block now block ≡ bytes_of_block image block) (blocks_named v image ino slot)
    (λ block is. claims block (slot_claimed v image ino slot file reads block is)))
    ∙ reads

-- the core of a file is the one that its slot states
core_is : (v : Volume) (image : Image) (ino : ℕ) (slot : List ℕ) (file : FileRec) → slot_reads v image ino slot ≡ Reads.File file → stated_core slot ≡ file.core
core_is v image ino slot file reads =
    let tree = tree_under v image ino (named_top v ino slot) in
    let leaf = option_map (bytes_of_block image) (named_attr v ino slot) in
    let link = option_map (bytes_of_block image) (named_link v ino slot) in
    let is = file_has v ino slot tree leaf link (Reads.File file) tt reads in
    let has = attrs_have v ino slot tree leaf link is.core is.held file is.attrs in
    stated v ino slot is.core is.in_use ∙ ap (λ (f : FileRec). f.core) has.is

linked_same : (core : Core) (nlink crc : ℕ) → core.nlink ≡ nlink → core.next_unlinked ≡ 0xffff_ffff → core.crc ≡ crc → core ≡ linked_core core nlink crc
linked_same core nlink crc names next sum = λ i. record core { nlink = names i; next_unlinked = next i; crc = sum i }

-- a slot whose number of names is due reads as its file with that number
pub linked_reads : (v : Volume) (image : Image) (ino due : ℕ) (nlink : Option ℕ) (old new : List ℕ) (file : FileRec) → IsLinked file.core nlink due
    → MatchOption nlink (new ≡ old) (λ n. SetsLinks v ino n old new) → slot_reads v image ino old ≡ Reads.File file
    → slot_reads v image ino new ≡ Reads.File (with_core file (linked_core file.core due (little_field_of new 100 4)))
linked_reads v image ino due None old new file linked same reads =
    let as_new : slot_reads v image ino new ≡ Reads.File file = ap (slot_reads v image ino) same ∙ reads in
    let sum : file.core.crc ≡ little_field_of new 100 4 = ap (λ (c : Core). c.crc) (sym (core_is v image ino new file as_new)) in
    as_new ∙ ap (λ (c : Core). Reads.File (with_core file c)) (linked_same file.core due (little_field_of new 100 4) linked.0 linked.1 sum)
linked_reads v image ino due (Some n) old new file linked sets reads =
    links_read v ino n old new sets image file reads ∙ ap (λ (k : ℕ). Reads.File (with_core file (linked_core file.core k (little_field_of new 100 4)))) linked

-- a file with its attributes, and one that lost them, whose data is not built anew
pub kept_reads : (v : Volume) (image now : Image) (f : FileRec) (bare : Bool) (due : ℕ) (nlink : Option ℕ) (old new : List ℕ) → HasSameClaims v image now f
    → ReadsKept v image old f bare → IsLinked f.core nlink due → AreParts v f.ino (drop_due f bare) None nlink old new
    → slot_reads v now f.ino new ≡ Reads.File (with_core f (due_core bare (own_blocks f) due (little_field_of new 100 4) f.core))
kept_reads v image now f false due nlink old new claims reads linked made =
    let same : made.forked ≡ old = made.data' ∙ made.dropped in
    let here : slot_reads v now f.ino made.forked ≡ Reads.File f = ap (slot_reads v now f.ino) same ∙ same_reads v image now f.ino old f claims reads in
    linked_reads v now f.ino due nlink made.forked new f linked made.linked here
kept_reads v image now f true due nlink old new claims reads linked made =
    let plain : FileRec = with_core f (plain_core f.core (own_blocks f) (little_field_of made.bare 100 4)) in
    let before : slot_reads v image f.ino made.bare ≡ Reads.File plain = drops_read v f.ino (own_blocks f) old made.bare made.dropped image f reads refl in
    let here : slot_reads v now f.ino made.forked ≡ Reads.File plain = ap (slot_reads v now f.ino) made.data' ∙ same_reads v image now f.ino made.bare plain claims before in
    linked_reads v now f.ino due nlink made.forked new plain (linked_plain nlink linked) made.linked here
  where
    linked_plain : (o : Option ℕ) → IsLinked f.core o due → IsLinked (plain_core f.core (own_blocks f) (little_field_of made.bare 100 4)) o due
    linked_plain None is = is
    linked_plain (Some n) is = is

-- what is wanted of a slot that stays but for attributes, data fork and links; nothing where all stay
abbrev pub kept_change : ℕ → Option ℕ → Option ForkWanted → Option ℕ → Option SlotWanted
kept_change ino drop fork nlink = if is_some drop || (is_some fork || is_some nlink) then Some (kept_due ino drop fork nlink) else None

-- where no fork is wanted, and where one is
pub unforked_parts : (v : Volume) (generation ino : ℕ) (drop nlink : Option ℕ) (old new : List ℕ) → IsMadeOf v generation (kept_change ino drop None nlink) old new
    → AreParts v ino drop None nlink old new
unforked_parts v generation ino None None old new same = same_parts v ino old new same
unforked_parts v generation ino None (Some k) old new made = made_parts v generation ino None None (Some k) old new made
unforked_parts v generation ino (Some m) nlink old new made = made_parts v generation ino (Some m) None nlink old new made

pub forked_made : (v : Volume) (generation ino : ℕ) (drop : Option ℕ) (fork : ForkWanted) (nlink : Option ℕ) (old new : List ℕ)
    → IsMadeOf v generation (kept_change ino drop (Some fork) nlink) old new → IsMadeSlot v generation (kept_due ino drop (Some fork) nlink) old new
forked_made v generation ino None fork nlink old new made = made
forked_made v generation ino (Some m) fork nlink old new made = made
