-- Where a generated file stands.
use Rattle.std.proofs.Common.{◌≡◌, ℕ, ◌+◌, ◌*◌, ◌/◌, ◌<◌, arith, ap, ◌∙◌}
use Rattle.xfs_proto.specs.declared.protofile.ProtoNode.{ProtoNode}
use Rattle.xfs_filled.specs.FileTrees.{node_at}
use Rattle.xfs_generator.specs.Files.{all_count, content_of, file_node, generated_contents, generated_nodes}
use Rattle.xfs_generator.specs.Standing.{StandsGenerated}
use Rattle.xfs_generator.specs.declared.spots.Spot.TheVariants.{Directory, File}
use Rattle.xfs_generator.proofs.Stepping.{spot_directory, spot_file}
use Rattle.xfs_generator.proofs.Trees.{content_there, count_nodes, node_is}

pub file_stands : (n i : ℕ) → i < n → StandsGenerated (generated_nodes n) (generated_contents n) i
file_stands n i some =
    let q : ℕ = i / 100 in
    let k : ℕ = 2 + q + i in
    let low : k < all_count n = omega (arith, some) in
    let spot = spot_file k q i (omega arith) (omega arith) (omega arith) in
    let file : node_at (generated_nodes n) k ≡ file_node q i = node_is n k (File q i) low spot in
    record {
      place = k;
      inside = omega (arith, low, count_nodes n);
      file = file;
      directory =
          ap (λ (x : ProtoNode). node_at (generated_nodes n) x.parent) file
          ∙ node_is n (1 + 101 * q) (Directory q) (omega (arith, low)) (spot_directory q);
      bytes = content_there n k low ∙ ap content_of spot;
    }
