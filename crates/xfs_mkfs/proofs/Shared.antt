-- The bytes of the files before one, of which it may have some.
use Rattle.std.proofs.Common.{◌≡◌, ℕ, ◌+◌, ◌<◌, ◌≤◌, inl, inr, true, List, [], ◌∷◌, ◌++◌, length, length-append, get_or, Some, arith, sym, ap, subst, ◌∙◌}
use Rattle.std.proofs.lemmas.Bool.{cases_lt, false≢true}
use Rattle.std.proofs.lemmas.List.{get_or_append_left, get_or_default}
use Rattle.std.proofs.lemmas.Slice.Eq.{bytes_eq-Decides}
use Rattle.std.proofs.Math.Seq.{get_or-append_seam}
use Rattle.xfs_disk.specs.Files.{Files, file_named}
use Rattle.xfs_proto.specs.declared.protofile.ProtoKind.{ProtoKind}
use Rattle.xfs_proto.specs.declared.protofile.ProtoKind.TheVariants as Kind
use Rattle.xfs_proto.specs.declared.protofile.ProtoNode.{ProtoNode}
use Rattle.xfs_filled.specs.FileTrees.{no_proto_node, node_at}
use Rattle.xfs_mkfs.specs.FilesAsked.{content_in}
use Rattle.xfs_mkfs.specs.Sharing.{AreContents, IsContentBefore, have_one_name, is_so_named}

pub no_contents : (map : Files) (nodes : List ProtoNode) → AreContents map nodes []
no_contents map nodes j low = absurd (omega (arith, low))

-- the bytes of one file more
pub one_more_content : (map : Files) (nodes : List ProtoNode) (k : ℕ) (contents : List (List ℕ)) (bytes : List ℕ) → length contents ≡ k
    → content_in map (node_at nodes k).kind ≡ Some bytes → AreContents map nodes contents → AreContents map nodes (contents ++ bytes ∷ [])
one_more_content map nodes k contents bytes count is each j low = elim (cases_lt j (length contents)) [
  | inl early ↦ each j early ∙ ap (λ (b : List ℕ). Some b) (sym (get_or_append_left contents (bytes ∷ []) [] j early))
  | inr late ↦
      let at : length contents ≡ j = omega (arith, late, low, length-append contents (bytes ∷ [])) in
      subst (λ (n : ℕ). content_in map (node_at nodes n).kind ≡ Some (get_or (contents ++ bytes ∷ []) n [])) at
      (ap (λ (n : ℕ). content_in map (node_at nodes n).kind) count ∙ is ∙ ap (λ (b : List ℕ). Some b) (sym (get_or-append_seam contents bytes [] [])))
]

-- files that have their bytes by one name have the same
named : (map : Files) (name : List ℕ) (kind : ProtoKind) → is_so_named kind name ≡ true → file_named name map ≡ content_in map kind
named map name (Kind.Regular own line) same = ap (λ (word : List ℕ). file_named word map) (sym ((bytes_eq-Decides own name).0 same))
named map name Kind.Directory same = absurd (false≢true same)
named map name (Kind.Link target) same = absurd (false≢true same)
named map name (Kind.Block major minor) same = absurd (false≢true same)
named map name (Kind.Character major minor) same = absurd (false≢true same)
named map name Kind.Pipe same = absurd (false≢true same)

pub one_name : (map : Files) (one other : ProtoKind) → have_one_name one other ≡ true → content_in map one ≡ content_in map other
one_name map (Kind.Regular name line) other same = named map name other same
one_name map Kind.Directory other same = absurd (false≢true same)
one_name map (Kind.Link target) other same = absurd (false≢true same)
one_name map (Kind.Block major minor) other same = absurd (false≢true same)
one_name map (Kind.Character major minor) other same = absurd (false≢true same)
one_name map Kind.Pipe other same = absurd (false≢true same)

-- the bytes of a file before, which has them by the same name
pub content_was_read : (nodes : List ProtoNode) (contents : List (List ℕ)) (k first : ℕ) (bytes b : List ℕ) (d e : ProtoNode)
    → k < length nodes → length contents ≤ length nodes → first < length contents → have_one_name (get_or nodes first d).kind (get_or nodes k e).kind ≡ true
    → bytes ≡ get_or contents first b → IsContentBefore nodes contents k bytes
content_was_read nodes contents k first bytes b d e inside few before same is = record {
  place = first;
  before = before;
  is = is ∙ get_or_default contents first b [] before;
  same = λ map.
      let one : get_or nodes first d ≡ node_at nodes first = get_or_default nodes first d no_proto_node (omega (arith, before, few)) in
      let other : get_or nodes k e ≡ node_at nodes k = get_or_default nodes k e no_proto_node inside in
      ap (λ (n : ProtoNode). content_in map n.kind) (sym one) ∙ one_name map (get_or nodes first d).kind (get_or nodes k e).kind same
      ∙ ap (λ (n : ProtoNode). content_in map n.kind) other;
}

-- what a file has that is one before is what the library has of it
pub is_content : (map : Files) (nodes : List ProtoNode) (contents : List (List ℕ)) (k : ℕ) (bytes : List ℕ) → IsContentBefore nodes contents k bytes
    → AreContents map nodes contents → content_in map (node_at nodes k).kind ≡ Some bytes
is_content map nodes contents k bytes before each =
    sym (before.same map) ∙ each before.place before.before ∙ ap (λ (b : List ℕ). Some b) (sym before.is)
