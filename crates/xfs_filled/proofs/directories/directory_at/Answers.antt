use Rattle.std.proofs.Common.{◌≡◌, length, get_or, arith, sym, subst, ap, ◌∙◌, ◌+◌, ◌*◌, ◌<◌, ℕ, zero, suc, Bool, false, if◌then◌else◌, Some, None, List}
use Rattle.std.proofs.lemmas.Bool.{true≢false}
use Rattle.std.proofs.lemmas.Result.{IfOk-from_err}
use Rattle.std.specs.List.{All}
use Rattle.std.proofs.lemmas.List.{get_or_default}
use Rattle.std.proofs.lemmas.List.FromFn.{length-map-range_with_len}
use Rattle.xfs_geom.specs.declared.geometry.Geometry.{Geometry}
use Rattle.xfs_geom.specs.Volumes.{volume_of}
use Rattle.xfs_dirdata.specs.Written.{IsWritableEntry}
use Rattle.xfs_dirindex.specs.Data.{have_no_dots}
use Rattle.xfs_proto.specs.declared.protofile.ProtoNode.{ProtoNode}
use Rattle.xfs_filled.specs.Sites.{AreChunksPlaced}
use Rattle.xfs_filled.specs.Directories.{made_directory}
use Rattle.xfs_filled.specs.Entries.{entries_at, parent_of_place}
use Rattle.xfs_filled.specs.FileTrees.{is_directory_kind, no_proto_node, AreProtoNodes, is_directory_node, node_at}
use Rattle.xfs_filled.specs.Numbers.{number_of}
use Rattle.xfs_filled.proofs.Made.{directory_is, image_is}
use Rattle.xfs_filled.proofs.Entering.{entries_few, entries_no_dots, entries_writable, entries_listed}
use Rattle.xfs_filled.proofs.directories.directory_at.Goals as goal

pub bounds-entries-k : goal.bounds-entries-k
bounds-entries-k c =
    let long = ap length c.requires.entries ∙ length-map-range_with_len (entries_at (volume_of c.args.g.now) c.args.starts.now c.args.nodes.now) 0 (length c.args.nodes.now) in
    let inside = c.requires.inside in
    omega (arith, long, inside)

pub make_directory-requires-clause-writable : goal.make_directory-requires-clause-writable
make_directory-requires-clause-writable c =
    let is = c.as_slice.ensures ∙ c.index-entries-k.is
    ∙ entries_listed (volume_of c.args.g.now) c.args.starts.now c.args.nodes.now c.args.entries.now c.index-entries-k.result c.args.k c.requires.inside c.requires.entries in
    subst (All IsWritableEntry) (sym is) (entries_writable c.args.g.now c.args.starts.now c.args.nodes.now c.args.k c.requires.placed c.requires.files)

pub make_directory-requires-clause-names : goal.make_directory-requires-clause-names
make_directory-requires-clause-names c =
    let is = c.as_slice.ensures ∙ c.index-entries-k.is
    ∙ entries_listed (volume_of c.args.g.now) c.args.starts.now c.args.nodes.now c.args.entries.now c.index-entries-k.result c.args.k c.requires.inside c.requires.entries in
    ap have_no_dots is ∙ entries_no_dots (volume_of c.args.g.now) c.args.starts.now c.args.nodes.now c.args.k c.requires.files

pub make_directory-requires-clause-few : goal.make_directory-requires-clause-few
make_directory-requires-clause-few c =
    let is = c.as_slice.ensures ∙ c.index-entries-k.is
    ∙ entries_listed (volume_of c.args.g.now) c.args.starts.now c.args.nodes.now c.args.entries.now c.index-entries-k.result c.args.k c.requires.inside c.requires.entries in
    let long = ap length is in
    let few = entries_few (volume_of c.args.g.now) c.args.starts.now c.args.nodes.now c.args.k c.requires.files in
    omega (arith, long, few)

pub returns-clause-value : goal.returns-clause-value
returns-clause-value c =
    let v = volume_of c.args.g.now in
    let starts = c.args.starts.now in
    let ns = c.args.nodes.now in
    let k = c.args.k in
    let node : c.index-nodes-k.result ≡ get_or ns k no_proto_node = c.index-nodes-k.is ∙ get_or_default ns k c.index-nodes-k.result no_proto_node c.requires.inside in
    directory_is v starts ns k c.as_slice.result.now c.number_of-dir.result c.number_of-parent.result c.in_ok-made.made
    (ap (λ (x : ProtoNode). is_directory_kind x.kind) (sym node) ∙ sym c.is_directory_kind.ensures ∙ c.if-not-is_directory_kind.false)
    (c.as_slice.ensures ∙ c.index-entries-k.is ∙ entries_listed v starts ns c.args.entries.now c.index-entries-k.result k c.requires.inside c.requires.entries)
    c.number_of-dir.ensures.value (c.number_of-parent.ensures.value ∙ ap (λ (x : ProtoNode). number_of v starts x.parent) node) c.in_ok-made.ensures.value

pub returns-clause-image : goal.returns-clause-image
returns-clause-image c =
    let v = volume_of c.args.g.now in
    let starts = c.args.starts.now in
    let ns = c.args.nodes.now in
    let k = c.args.k in
    let node : c.index-nodes-k.result ≡ get_or ns k no_proto_node = c.index-nodes-k.is ∙ get_or_default ns k c.index-nodes-k.result no_proto_node c.requires.inside in
    λ is.
    image_is v starts ns k c.as_slice.result.now c.number_of-dir.result c.number_of-parent.result
    (c.as_slice.ensures ∙ c.index-entries-k.is ∙ entries_listed v starts ns c.args.entries.now c.index-entries-k.result k c.requires.inside c.requires.entries)
    c.number_of-dir.ensures.value (c.number_of-parent.ensures.value ∙ ap (λ (x : ProtoNode). number_of v starts x.parent) node) c.in_ok-made.ensures.image

pub number_of-dir-requires-clause-few : goal.number_of-dir-requires-clause-few
number_of-dir-requires-clause-few c = c.requires.placed.few

pub number_of-dir-requires-clause-volume : goal.number_of-dir-requires-clause-volume
number_of-dir-requires-clause-volume c = c.requires.placed.volume

pub number_of-parent-requires-clause-few : goal.number_of-parent-requires-clause-few
number_of-parent-requires-clause-few c = c.requires.placed.few

pub number_of-parent-requires-clause-volume : goal.number_of-parent-requires-clause-volume
number_of-parent-requires-clause-volume c = c.requires.placed.volume

pub number_of-dir-requires-clause-inside : goal.number_of-dir-requires-clause-inside
number_of-dir-requires-clause-inside c = omega (arith, c.requires.inside, c.requires.placed.enough)

pub returns-in_err-made : goal.returns-in_err-made
returns-in_err-made c = record {
  value = IfOk-from_err c.from_residual.result _ c.from_residual.ensures.0;
  sound = IfOk-from_err c.from_residual.result _ c.from_residual.ensures.0;
  image = IfOk-from_err c.from_residual.result _ c.from_residual.ensures.0;
}

pub returns-clause-sound : goal.returns-clause-sound
returns-clause-sound c = c.in_ok-made.ensures.sound

pub make_directory-requires-clause-dir : goal.make_directory-requires-clause-dir
make_directory-requires-clause-dir c = omega (arith, c.number_of-dir.ensures.low)

pub make_directory-requires-clause-parent : goal.make_directory-requires-clause-parent
make_directory-requires-clause-parent c = omega (arith, c.number_of-parent.ensures.low)

parent_inside : (g : Geometry) (starts : List ℕ) (ns : List ProtoNode) (k : ℕ) (x : ProtoNode) → AreProtoNodes ns → AreChunksPlaced g starts ns → k < length ns → x ≡ node_at ns k → x.parent + 2 < 64 * length starts
parent_inside g starts ns zero x files placed inside is = omega (arith, ap (λ (y : ProtoNode). y.parent) is, files.itself, files.some, placed.enough)
parent_inside g starts ns (suc k) x files placed inside is =
    omega (arith, ap (λ (y : ProtoNode). y.parent) is, (files.below (suc k) (omega arith) inside).behind, inside, placed.enough)

pub number_of-parent-requires-clause-inside : goal.number_of-parent-requires-clause-inside
number_of-parent-requires-clause-inside c =
    let ns = c.args.nodes.now in
    parent_inside c.args.g.now c.args.starts.now ns c.args.k c.index-nodes-k.result c.requires.files c.requires.placed c.requires.inside
    (c.index-nodes-k.is ∙ get_or_default ns c.args.k c.index-nodes-k.result no_proto_node c.requires.inside)

pub returns-then-not-is_directory_kind : goal.returns-then-not-is_directory_kind
returns-then-not-is_directory_kind c =
    let v = volume_of c.args.g.now in
    let starts = c.args.starts.now in
    let ns = c.args.nodes.now in
    let k = c.args.k in
    let node : c.index-nodes-k.result ≡ get_or ns k no_proto_node = c.index-nodes-k.is ∙ get_or_default ns k c.index-nodes-k.result no_proto_node c.requires.inside in
    let none : is_directory_node ns k ≡ false =
    ap (λ (x : ProtoNode). is_directory_kind x.kind) (sym node) ∙ sym c.is_directory_kind.ensures ∙ c.if-not-is_directory_kind.true in
    record {
      value = sym (ap (λ (b : Bool). if b then Some (made_directory (entries_at v starts ns k) (number_of v starts k) (parent_of_place v starts ns k)) else None) none);
      sound = tt;
      image = λ is. absurd (true≢false (sym is ∙ none));
    }
