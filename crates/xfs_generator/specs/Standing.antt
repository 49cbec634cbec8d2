-- Where a generated file stands.
use Rattle.std.specs.Prelude.{◌≡◌, ℕ, ◌<◌, ◌/◌, List, [], length, slice_index_or}
use Rattle.xfs_proto.specs.declared.protofile.ProtoNode.{ProtoNode}
use Rattle.xfs_filled.specs.FileTrees.{node_at}
use Rattle.xfs_generator.specs.Files.{bytes_of_file, directory_node, file_node}

-- the i-th file stands in the root's directory i / 100, under its name, and has its bytes
pub record StandsGenerated (ns : List ProtoNode) (contents : List (List ℕ)) (i : ℕ) : Type 0 where
  pub place : ℕ
  pub inside : place < length ns
  pub file : node_at ns place ≡ file_node (i / 100) i
  pub directory : node_at ns (node_at ns place).parent ≡ directory_node (i / 100)
  pub bytes : slice_index_or contents place [] ≡ bytes_of_file i
