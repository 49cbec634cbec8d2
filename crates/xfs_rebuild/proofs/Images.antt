-- What is gathered of any image passes the tests that a rebuild makes.
use Rattle.std.proofs.Common.{◌≡◌, ℕ, true, ◌+◌, ◌^◌, ◌≤◌, ◌<◌, nat_le, nat_lt, List, [], ◌∷◌, ◌++◌, map, length, Option, Some, None, MatchOption, refl, sym, ap, ◌∙◌, arith}
use Rattle.std.specs.List.{flat_map}
use Rattle.std.proofs.lemmas.Bool.{and_from, le-leb, lt-ltb}
use Rattle.std.proofs.lemmas.List.{length-map}
use Rattle.xfs_disk.specs.Blocks.{Image, bytes_of_block}
use Rattle.xfs_disk.specs.declared.stamp.Stamp.{Stamp}
use Rattle.xfs_word.specs.Field.{field_of}
use Rattle.xfs_word.specs.Seal.{is_sealed}
use Rattle.xfs_geom.specs.Conversions.{inode_of}
use Rattle.xfs_geom.specs.Volumes.{Volume, volume_of}
use Rattle.xfs_geom.specs.declared.geometry.Geometry.{Geometry}
use Rattle.xfs_image.specs.Candidates.{candidates}
use Rattle.xfs_image.specs.Claims.{candidate_files, candidate_inodes}
use Rattle.xfs_image.specs.Slots.{reads_as}
use Rattle.xfs_inode.specs.Slots.{fork_bytes, slot_seal}
use Rattle.xfs_inode.specs.declared.files.FileRead.{FileRead}
use Rattle.xfs_inode.specs.declared.files.FileRead.TheVariants as Reads
use Rattle.xfs_naming.specs.Naming.{NumbersAscend}
use Rattle.xfs_scan.specs.xfs_slots.Facts.{slot_fact, slot_facts}
use Rattle.xfs_scan.specs.xfs_slots.Gathered.{bare_if, bare_inodes}
use Rattle.xfs_rounds.specs.declared.facts.SlotFact.{SlotFact}
use Rattle.xfs_made.proofs.Inodes.{inodes_ascend}
use Rattle.xfs_render.specs.Clusters.{slot_in}
use Rattle.xfs_inodebuild.specs.declared.forks.ForkWanted.{ForkWanted}
use Rattle.xfs_render.specs.Slots.{CanBase, CanFork, CanMake, forkoff_of, wanted_of}
use Rattle.xfs_render.specs.declared.wanted_slots.SlotBase.{SlotBase}
use Rattle.xfs_render.specs.declared.wanted_slots.SlotBase.TheVariants as Base
use Rattle.xfs_render.specs.declared.wanted_slots.SlotWanted.{SlotWanted}
use Rattle.xfs_salvage.proofs.Ascending.{lower}
use Rattle.xfs_salvage.specs.declared.found.Salvaged.{Salvaged}
use Rattle.xfs_request.specs.Slots.{wanted_slots}
use Rattle.xfs_request.specs.declared.seen.SlotSeen.{SlotSeen}
use Rattle.xfs_made.specs.Handed.{IsKeptOf}
use Rattle.xfs_made.proofs.Makeable.{slots_can}
use Rattle.xfs_rebuild.specs.Changes.{CanChange, can_base, can_fork, can_make}
use Rattle.xfs_rebuild.specs.Seen.{all_seen, inodes_of_clusters, slots_seen}

-- the inodes of the candidate clusters are those of the image
inodes_are : (v : Volume) (image : Image) → inodes_of_clusters v (candidates v image) ≡ candidate_inodes v image
unfolding inodes_of_clusters candidate_inodes
inodes_are v image = refl

facts_counted : (v : Volume) (image : Image) → length (slot_facts v image) ≡ length (candidate_inodes v image)
unfolding slot_facts
facts_counted v image = length-map (candidate_inodes v image) (slot_fact v image)

pub facts_are_many : (g : Geometry) (image : Image) → length (slot_facts (volume_of g) image) ≡ length (inodes_of_clusters (volume_of g) (candidates (volume_of g) image))
facts_are_many g image = facts_counted (volume_of g) image ∙ ap length (sym (inodes_are (volume_of g) image))

-- what an inode gives, before what those behind it give
bare_then : (low ino : ℕ) (read : FileRead) (ns : List ℕ) → low ≤ ino → NumbersAscend (ino + 1) ns → NumbersAscend low (bare_if ino read ++ ns)
bare_then low ino Reads.Free ns le up = lower low (ino + 1) ns (omega (arith, le)) up
bare_then low ino (Reads.File file) ns le up = lower low (ino + 1) ns (omega (arith, le)) up
bare_then low ino (Reads.FileWithoutAttrs file) ns le up = (le, up)
bare_then low ino (Reads.Unsupported what) ns le up = lower low (ino + 1) ns (omega (arith, le)) up
bare_then low ino Reads.Unsound ns le up = lower low (ino + 1) ns (omega (arith, le)) up

bare_up : (v : Volume) (image : Image) (low : ℕ) (inos : List ℕ) → NumbersAscend low inos → NumbersAscend low (flat_map (λ ino. bare_if ino (reads_as v image ino)) inos)
bare_up v image low [] up = tt
bare_up v image low (ino ∷ inos) up =
    bare_then low ino (reads_as v image ino) (flat_map (λ n. bare_if n (reads_as v image n)) inos) up.0 (bare_up v image (ino + 1) inos up.1)

pub bare_ascend : (g : Geometry) (image : Image) → NumbersAscend 0 (bare_inodes (volume_of g) image)
unfolding bare_inodes
bare_ascend g image = bare_up (volume_of g) image 0 (candidate_inodes (volume_of g) image) (inodes_ascend g image)

-- what is known of slots stands by inode
numbers_seen : (bare inos : List ℕ) (facts : List SlotFact) → length facts ≡ length inos → map (λ (slot : SlotSeen). slot.ino) (all_seen bare inos facts) ≡ inos
numbers_seen bare [] facts many = refl
numbers_seen bare (ino ∷ inos) [] many = absurd (omega (arith, many))
numbers_seen bare (ino ∷ inos) (fact ∷ facts) many = ap (λ (ns : List ℕ). ino ∷ ns) (numbers_seen bare inos facts (omega (arith, many)))

pub slots_by_inode : (g : Geometry) (image : Image)
    → map (λ (slot : SlotSeen). slot.ino) (slots_seen (volume_of g) (candidates (volume_of g) image) (slot_facts (volume_of g) image) (bare_inodes (volume_of g) image))
    ≡ candidate_inodes (volume_of g) image
unfolding slots_seen
slots_by_inode g image =
    let v : Volume = volume_of g in
    numbers_seen (bare_inodes v image) (inodes_of_clusters v (candidates v image)) (slot_facts v image) (facts_are_many g image) ∙ inodes_are v image

-- what can be made of slots passes the test
base_passes : (v : Volume) (ino : ℕ) (base : SlotBase) (old : List ℕ) → CanBase v ino base old → forkoff_of base old ≤ 41 → can_base v ino base old ≡ true
base_passes v ino Base.Kept old sealed low =
    and_from (is_sealed (slot_seal v ino) old) (nat_le (field_of old 82 1) 41) sealed (le-leb (field_of old 82 1) 41 low)
base_passes v ino Base.Free old sealed low = refl
base_passes v ino (Base.Fresh core) old sealed low = refl

fork_passes : (forkoff : ℕ) (fork : Option ForkWanted) → MatchOption fork (Unit {0}) (CanFork forkoff) → can_fork forkoff fork ≡ true
fork_passes forkoff None can = refl
fork_passes forkoff (Some fork) can =
    and_from (nat_lt fork.nextents (2 ^ 32)) (nat_le (length fork.bytes) (fork_bytes forkoff)) (lt-ltb fork.nextents (2 ^ 32) can.few)
    (le-leb (length fork.bytes) (fork_bytes forkoff) can.short)

passes : (v : Volume) (old : List ℕ) (wanted : Option SlotWanted) → MatchOption wanted (Unit {0}) (λ w. CanMake v w old) → can_make v old wanted ≡ true
passes v old None can = refl
passes v old (Some w) can =
    and_from (can_base v w.ino w.base old) (can_fork (forkoff_of w.base old) w.fork) (base_passes v w.ino w.base old can.base can.forkoff) (fork_passes (forkoff_of w.base old) w.fork can.fork)

pub slots_pass : (g : Geometry) (image : Image) (s : Stamp) (kept : Salvaged) (slots : List SlotSeen) (block : ℕ)
    → IsKeptOf (volume_of g) (candidates (volume_of g) image) (candidate_files (volume_of g) image) kept → block < g.dblocks
    → CanChange (volume_of g) (wanted_slots (volume_of g) s kept slots) block (bytes_of_block image block)
slots_pass g image s kept slots block of inside =
    let can = slots_can g image s kept slots block of inside in
    record { each = λ k few. passes (volume_of g) (slot_in (bytes_of_block image block) k) (wanted_of (wanted_slots (volume_of g) s kept slots) (inode_of (volume_of g) block k)) (can.each k few) }
