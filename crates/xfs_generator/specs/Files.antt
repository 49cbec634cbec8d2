-- The files that are generated: a hundred to a directory, with their names, modes and bytes (mkfs.xfs(8)).
use Rattle.std.specs.Prelude.{ℕ, ◌+◌, ◌-◌, ◌*◌, ◌/◌, ◌%◌, ◌^◌, ◌<◌, ◌==◌, if◌then◌else◌, codes, decimal, List, [], ◌++◌, map}
use Rattle.std.specs.List.{range_with_len}
use Rattle.xfs_proto.specs.declared.protofile.ProtoKind.TheVariants as Kind
use Rattle.xfs_proto.specs.declared.protofile.ProtoNode.{ProtoNode}
use Rattle.xfs_generator.specs.declared.spots.Spot.{Spot}
use Rattle.xfs_generator.specs.declared.spots.Spot.TheVariants.{Root, Directory, File}

-- how many directories so many files have: one for each hundred, and one for what is left
abbrev pub directory_count : ℕ → ℕ
directory_count n = (n + 99) / 100

-- how many files there are with the root and the directories
abbrev pub all_count : ℕ → ℕ
all_count n = 1 + n + directory_count n

-- the names of the q-th directory and of the i-th file, and its bytes: i * 37 mod 5000 of them, of which the j-th is (i + j) mod 251
abbrev pub directory_name : ℕ → List ℕ
directory_name q = codes "d" ++ decimal q

abbrev pub file_name : ℕ → List ℕ
file_name i = codes "f" ++ decimal i

abbrev pub byte_of_file : ℕ → ℕ → ℕ
byte_of_file i j = (i + j) % 251

unfoldable pub bytes_of_file : ℕ → List ℕ
bytes_of_file i = map (byte_of_file i) (range_with_len 0 (i * 37 % 5000))

-- the root, a directory in it, and a file in the q-th directory, which stands at the place 1 + 101 q: mode 0755, and 0644 of a file; all are root's
abbrev pub root_node : ProtoNode
root_node = record { parent = 0; name = []; mode = 0x41ed; uid = 0; gid = 0; kind = Kind.Directory }

abbrev pub directory_node : ℕ → ProtoNode
directory_node q = record { parent = 0; name = directory_name q; mode = 0x41ed; uid = 0; gid = 0; kind = Kind.Directory }

abbrev pub file_node : ℕ → ℕ → ProtoNode
file_node q i = record { parent = 1 + 101 * q; name = file_name i; mode = 0x81a4; uid = 0; gid = 0; kind = Kind.Regular [] 0 }

-- what stands at a place: the root first, then each directory with its hundred files behind it
abbrev pub spot_in : ℕ → ℕ → Spot
spot_in q r = if r == 0 then Directory q else File q (100 * q + (r - 1))

unfoldable pub spot_of : ℕ → Spot
spot_of k = if k == 0 then Root else spot_in ((k - 1) / 101) ((k - 1) % 101)

-- its numbers are such as places below 2^40 give
abbrev pub IsFew : Spot → Type 0
IsFew Root = Unit {0}
IsFew (Directory q) = q < 2 ^ 40
IsFew (File q i) = (q < 2 ^ 40) × (i < 2 ^ 41)

abbrev pub node_of : Spot → ProtoNode
node_of Root = root_node
node_of (Directory q) = directory_node q
node_of (File q i) = file_node q i

-- the bytes of a regular file; none of a directory
abbrev pub content_of : Spot → List ℕ
content_of Root = []
content_of (Directory q) = []
content_of (File q i) = bytes_of_file i

abbrev pub generated_node : ℕ → ProtoNode
generated_node k = node_of (spot_of k)

abbrev pub generated_content : ℕ → List ℕ
generated_content k = content_of (spot_of k)

-- all files by their places, and the bytes of each
unfoldable pub generated_nodes : ℕ → List ProtoNode
generated_nodes n = map generated_node (range_with_len 0 (all_count n))

unfoldable pub generated_contents : ℕ → List (List ℕ)
generated_contents n = map generated_content (range_with_len 0 (all_count n))
