-- What is read is what the grammar says.
use Rattle.std.proofs.Common.{◌≡◌, ℕ, List, Ok, Err, is_ok, sym, ap, ◌∙◌}
use Rattle.std.proofs.lemmas.Bool.{false≢true}
use Rattle.xfs_proto.specs.Grammar.{IsProtofile}
use Rattle.xfs_proto.specs.Reading.{nodes_of}
use Rattle.xfs_proto.specs.Tokens.{tokens_of}
use Rattle.xfs_proto.specs.declared.protofile.ProtoNode.{ProtoNode}
use Rattle.xfs_proto.proofs.Accepting.{protofile_accepted}
use Rattle.xfs_proto.proofs.Taking.{accepted_protofile}

-- files that are read are those of a protofile
pub is_protofile : (text : List ℕ) (nodes : List ProtoNode) → nodes_of text ≡ Ok nodes → IsProtofile (tokens_of text) nodes
unfolding nodes_of
is_protofile text nodes says = accepted_protofile (tokens_of text) nodes says

-- a text that is refused is no protofile
pub is_none : (text : List ℕ) (nodes : List ProtoNode) (line reason : ℕ) → IsProtofile (tokens_of text) nodes
    → nodes_of text ≡ Err (record { line = line; reason = reason }) → ⊥
unfolding nodes_of
is_none text nodes line reason proto says = false≢true (ap is_ok (sym says ∙ protofile_accepted (tokens_of text) nodes proto))
