-- What is known of the slots of candidate clusters, from what was kept of each when they were read (chapter "On-disk Inode").
use Rattle.std.specs.Prelude.{ℕ, if◌then◌else◌, List, [], ◌∷◌}
use Rattle.std.specs.List.{flat_map}
use Rattle.xfs_disk.specs.Lists.{is_among}
use Rattle.xfs_geom.specs.Volumes.{Volume}
use Rattle.xfs_volume.specs.declared.clusters.ClusterRec.{ClusterRec}
use Rattle.xfs_image.specs.Slots.{cluster_inodes}
use Rattle.xfs_rounds.specs.declared.facts.SlotFact.{SlotFact}
use Rattle.xfs_rounds.specs.declared.facts.SlotReading.{SlotReading}
use Rattle.xfs_rounds.specs.declared.facts.SlotReading.TheVariants as Reading
use Rattle.xfs_request.specs.declared.seen.SlotSeen.{SlotSeen}
use Rattle.xfs_request.specs.declared.seen.SlotState.{SlotState}
use Rattle.xfs_request.specs.declared.seen.SlotState.TheVariants as State

-- a slot is free; it has a file whose attributes do not read; or it is any other
abbrev pub state_of_reading : List ℕ → ℕ → SlotReading → SlotState
state_of_reading bare ino Reading.Free = State.Free
state_of_reading bare ino Reading.InUse = if is_among bare ino then State.Bare else State.Other
state_of_reading bare ino Reading.Unsound = State.Other

-- what is known of the slot of an inode, from what was kept of it
abbrev pub seen_of_fact : List ℕ → ℕ → SlotFact → SlotSeen
seen_of_fact bare ino fact = record { ino = ino; state = state_of_reading bare ino fact.reading; lsn = fact.lsn }

-- the same of some inodes, each with what was kept of its slot
abbrev pub all_seen : List ℕ → List ℕ → List SlotFact → List SlotSeen
all_seen bare [] facts = []
all_seen bare (ino ∷ inos) [] = []
all_seen bare (ino ∷ inos) (fact ∷ facts) = seen_of_fact bare ino fact ∷ all_seen bare inos facts

-- the inodes of some clusters, in order
unfoldable pub inodes_of_clusters : Volume → List ClusterRec → List ℕ
inodes_of_clusters v clusters = flat_map (λ (c : ClusterRec). cluster_inodes v c.block) clusters

-- what is known of all slots of some clusters, in order, of which these facts were kept
unfoldable pub slots_seen : Volume → List ClusterRec → List SlotFact → List ℕ → List SlotSeen
slots_seen v clusters facts bare = all_seen bare (inodes_of_clusters v clusters) facts
