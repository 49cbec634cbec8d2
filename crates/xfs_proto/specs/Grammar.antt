-- The grammar of protofiles over their tokens, and the files that they say (mkfs.xfs(8)).
use Rattle.std.specs.Prelude.{◌≡◌, ℕ, ◌^◌, Bool, true, false, nat_le, codes, bytes_eq, List, [], ◌∷◌, ◌++◌, length, Some}
use Rattle.xfs_proto.specs.Modes.{mode_of}
use Rattle.xfs_proto.specs.Numbers.{number_below}
use Rattle.xfs_proto.specs.Reading.{fits_name, one_more}
use Rattle.xfs_proto.specs.Tokens.{Token}
use Rattle.xfs_proto.specs.declared.modes.FileType.{FileType}
use Rattle.xfs_proto.specs.declared.modes.FileType.TheVariants as File
use Rattle.xfs_proto.specs.declared.modes.Mode.{Mode}
use Rattle.xfs_proto.specs.declared.protofile.ProtoKind.{ProtoKind}
use Rattle.xfs_proto.specs.declared.protofile.ProtoKind.TheVariants as Kind
use Rattle.xfs_proto.specs.declared.protofile.ProtoNode.{ProtoNode}
use Rattle.xfs_proto.specs.declared.reading.Open.{Open}

-- the end of a directory
abbrev pub is_end : Token → Bool
is_end token = bytes_eq token.text (codes "$")

-- what stands behind the owners of an entry that is no directory: the library's name of a regular file's bytes, a link's target, the two
-- numbers of a device, or nothing
pub data TypeTokens : FileType → List Token → ProtoKind → Type 0 where
  regular : (source : Token) → TypeTokens File.Regular (source ∷ []) (Kind.Regular source.text source.line)
  link : (target : Token) → nat_le (length target.text) 1024 ≡ true → TypeTokens File.Link (target ∷ []) (Kind.Link target.text)
  block : (upper lower : Token) (major minor : ℕ) → number_below (2 ^ 14) upper.text ≡ Some major → number_below (2 ^ 18) lower.text ≡ Some minor
      → TypeTokens File.Block (upper ∷ lower ∷ []) (Kind.Block major minor)
  character : (upper lower : Token) (major minor : ℕ) → number_below (2 ^ 14) upper.text ≡ Some major
      → number_below (2 ^ 18) lower.text ≡ Some minor → TypeTokens File.Character (upper ∷ lower ∷ []) (Kind.Character major minor)
  pipe : TypeTokens File.Pipe [] Kind.Pipe

-- how an entry of a directory begins, behind these files: a name that its directory can have, a mode, the numbers of a user and a group
pub record Head (at : Open) (before : List ProtoNode) : Type 0 where
  pub name : Token
  pub mode : Token
  pub user : Token
  pub group : Token
  pub says : Mode
  pub uid : ℕ
  pub gid : ℕ
  pub goes_on : is_end name ≡ false
  pub fits : fits_name at name.text before ≡ true
  pub is_mode : mode_of mode.text ≡ Some says
  pub is_user : number_below (2 ^ 32) user.text ≡ Some uid
  pub is_group : number_below (2 ^ 32) group.text ≡ Some gid

abbrev pub head_tokens : {at : Open} {before : List ProtoNode} → Head at before → List Token
head_tokens h = h.name ∷ h.mode ∷ h.user ∷ h.group ∷ []

-- the file of an entry
abbrev pub entry_node : {at : Open} {before : List ProtoNode} → Head at before → ProtoKind → ProtoNode
entry_node {at} h kind = record { parent = at.directory; name = h.name.text; mode = h.says.bits; uid = h.uid; gid = h.gid; kind = kind }

-- a directory without entries, behind so many files
abbrev pub empty_directory : List ProtoNode → Open
empty_directory before = record { directory = length before; entries = 0 }

-- The entries of a directory, with its end: what stands behind these files, and the files that it says. An entry is a head with its content,
-- or the head of a directory with the entries of that.
pub data Entries : Open → List ProtoNode → List Token → List ProtoNode → Type 0 where
  none : (at : Open) (before : List ProtoNode) (token : Token) → is_end token ≡ true → Entries at before (token ∷ []) []
  file : (at : Open) (before : List ProtoNode) (h : Head at before) (content rest : List Token) (kind : ProtoKind) (nodes : List ProtoNode)
      → TypeTokens h.says.kind content kind
      → Entries (one_more at) (before ++ entry_node h kind ∷ []) rest nodes
      → Entries at before (head_tokens h ++ (content ++ rest)) (entry_node h kind ∷ nodes)
  directory : (at : Open) (before : List ProtoNode) (h : Head at before) (inner rest : List Token) (below nodes : List ProtoNode)
      → h.says.kind ≡ File.Directory
      → Entries (empty_directory before) (before ++ entry_node h Kind.Directory ∷ []) inner below
      → Entries (one_more at) (before ++ entry_node h Kind.Directory ∷ below) rest nodes
      → Entries at before (head_tokens h ++ (inner ++ rest)) (entry_node h Kind.Directory ∷ (below ++ nodes))

-- The tokens are a protofile, and say these files: three tokens that are ignored, the mode and the owners of the root, which is a
-- directory, and its entries with their end.
pub record IsProtofile (tokens : List Token) (nodes : List ProtoNode) : Type 0 where
  pub first : Token
  pub second : Token
  pub third : Token
  pub mode : Token
  pub user : Token
  pub group : Token
  pub rest : List Token
  pub bits : ℕ
  pub uid : ℕ
  pub gid : ℕ
  pub below : List ProtoNode
  pub are_tokens : tokens ≡ first ∷ second ∷ third ∷ mode ∷ user ∷ group ∷ rest
  pub is_mode : mode_of mode.text ≡ Some (record { kind = File.Directory; bits = bits })
  pub is_user : number_below (2 ^ 32) user.text ≡ Some uid
  pub is_group : number_below (2 ^ 32) group.text ≡ Some gid
  pub entries : Entries (empty_directory []) (record { parent = 0; name = []; mode = bits; uid = uid; gid = gid; kind = Kind.Directory } ∷ []) rest below
  pub are_nodes : nodes ≡ record { parent = 0; name = []; mode = bits; uid = uid; gid = gid; kind = Kind.Directory } ∷ below

-- more tokens can make them a protofile
abbrev pub IsProtofilePrefix : List Token → Type 0
IsProtofilePrefix tokens = (more : List Token) × (nodes : List ProtoNode) × IsProtofile (tokens ++ more) nodes

-- A token of this line is the first that can't stand where it does: those before it can be continued to a protofile, and with it they can't.
pub record OffendsFirstToken (tokens : List Token) (line : ℕ) : Type 0 where
  pub before : List Token
  pub token : Token
  pub rest : List Token
  pub split : tokens ≡ before ++ token ∷ rest
  pub at_line : token.line ≡ line
  pub goes_on : IsProtofilePrefix before
  pub ends_here : IsProtofilePrefix (before ++ token ∷ []) → ⊥

-- the line of the last token, or this one
abbrev pub last_line : ℕ → List Token → ℕ
last_line line [] = line
last_line line (token ∷ tokens) = last_line token.line tokens

-- Tokens lack: these can be continued to a protofile, and are none. The line is that of the last one, or 1 where there is none.
pub record Lacks (tokens : List Token) (line : ℕ) : Type 0 where
  pub at_line : last_line 1 tokens ≡ line
  pub goes_on : IsProtofilePrefix tokens
  pub is_none : (nodes : List ProtoNode) → IsProtofile tokens nodes → ⊥
