-- What objects ask for, file by file.
use Rattle.std.proofs.Common.{◌≡◌, ℕ, List, [], ◌∷◌, ◌++◌, refl, ap, ◌∙◌, append-nil}
use Rattle.std.specs.List.{flat_map}
use Rattle.std.proofs.lemmas.List.Concat.{flat_map-append}
use Rattle.xfs_geom.specs.Volumes.{Volume}
use Rattle.xfs_place.specs.Objects.{asks_of}
use Rattle.xfs_place.specs.declared.wanted.Object.{Object}
use Rattle.xfs_place.specs.declared.wanted.ObjectKind.{ObjectKind}
use Rattle.xfs_place.specs.declared.wanted.RunAsk.{RunAsk}
use Rattle.xfs_proto.specs.declared.protofile.ProtoNode.{ProtoNode}
use Rattle.xfs_filled.specs.FileTrees.{node_at}
use Rattle.xfs_filled.specs.Numbers.{number_of}
use Rattle.xfs_filled.specs.Objects.{objects_of_place, object_kind, object_with_runs, runs_at}

object_asks : (kind : ObjectKind) (ino : ℕ) (runs : List RunAsk) → asks_of (object_with_runs kind ino runs) ≡ runs
object_asks kind ino [] = refl
object_asks kind ino (run ∷ runs) = append-nil (run ∷ runs)

module _ (v : Volume) (starts : List ℕ) (ns : List ProtoNode) (contents : List (List ℕ)) where
  pub asks_next : (k : ℕ) (ks : List ℕ) → asks_of (flat_map (objects_of_place v starts ns contents) (k ∷ ks)) ≡ runs_at v starts ns contents k ++ asks_of (flat_map (objects_of_place v starts ns contents) ks)
  asks_next k ks =
      flat_map-append (λ (o : Object). o.runs) (objects_of_place v starts ns contents k) (flat_map (objects_of_place v starts ns contents) ks)
      ∙ ap (λ (xs : List RunAsk). xs ++ asks_of (flat_map (objects_of_place v starts ns contents) ks))
      (object_asks (object_kind (node_at ns k).kind) (number_of v starts k) (runs_at v starts ns contents k))
