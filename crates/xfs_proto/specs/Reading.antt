-- How a protofile is read, one token after the other: what the next token is to be, and what comes of it (mkfs.xfs(8)).
use Rattle.std.specs.Prelude.{◌≡◌, ℕ, ◌+◌, ◌-◌, ◌^◌, Bool, true, false, ◌==◌, ◌&&◌, nat_le, nat_lt, not, if◌then◌else◌, codes, bytes_eq, List, [], ◌∷◌, ◌++◌, length, take, slice_get, Option, Some, None, Result, Ok, Err}
use Rattle.std.specs.List.{list_any}
use Rattle.std.specs.Option.{option_to_list}
use Rattle.xfs_volume.specs.Names.{is_name}
use Rattle.xfs_proto.specs.EntryNames.{is_entry_name}
use Rattle.xfs_proto.specs.Modes.{mode_of}
use Rattle.xfs_proto.specs.Numbers.{number_below}
use Rattle.xfs_proto.specs.Tokens.{Token, tokens_of}
use Rattle.xfs_proto.specs.declared.modes.FileType.{FileType}
use Rattle.xfs_proto.specs.declared.modes.FileType.TheVariants as File
use Rattle.xfs_proto.specs.declared.modes.Mode.{Mode}
use Rattle.xfs_proto.specs.declared.protofile.ProtoFault.{ProtoFault}
use Rattle.xfs_proto.specs.declared.protofile.ProtoFault.TheVariants.{Bad, NoMemory}
use Rattle.xfs_proto.specs.declared.protofile.ProtoKind.{ProtoKind}
use Rattle.xfs_proto.specs.declared.protofile.ProtoKind.TheVariants as Kind
use Rattle.xfs_proto.specs.declared.protofile.ProtoNode.{ProtoNode}
use Rattle.xfs_proto.specs.declared.reading.NextToken.{NextToken}
use Rattle.xfs_proto.specs.declared.reading.NextToken.TheVariants as Next
use Rattle.xfs_proto.specs.declared.reading.Open.{Open}
use Rattle.xfs_proto.specs.declared.reading.Reader.{Reader}

-- what has been read of an entry
pub record Pending : Type 0 where
  pub name : List ℕ
  pub mode : Mode
  pub uid : ℕ
  pub gid : ℕ
  pub major : ℕ

-- what has been read: what the next token is to be, the line of the last one, the directory whose entries are read with those round it, the
-- entry that has begun, and the files that are whole
pub record State : Type 0 where
  pub expected : NextToken
  pub line : ℕ
  pub within : Option Open
  pub outer : List Open
  pub entry : Pending
  pub nodes : List ProtoNode

abbrev pub pending : Reader → Pending
pending r = record { name = r.entry.name.now; mode = r.entry.mode; uid = r.entry.uid; gid = r.entry.gid; major = r.entry.major }

abbrev pub reader_state : Reader → State
reader_state r = record {
  expected = r.expected;
  line = r.line;
  within = r.inside;
  outer = r.outer.items;
  entry = pending r;
  nodes = r.nodes.items;
}

-- nothing has been read
abbrev pub start : State
start = record {
  expected = Next.Ignored 3;
  line = 1;
  within = None;
  outer = [];
  entry = record { name = []; mode = record { kind = File.Directory; bits = 0 }; uid = 0; gid = 0; major = 0 };
  nodes = [];
}

-- the line and the reason of the first token that can't stand where it does
pub record SyntaxError : Type 0 where
  pub line : ℕ
  pub reason : ℕ

-- the last token can't stand where it does
abbrev pub token_error : ℕ → State → Result State SyntaxError
token_error reason s = Err (record { line = s.line; reason = reason })

abbrev pub expecting : NextToken → State → State
expecting next s = record s { expected = next }

abbrev pub with_entry : NextToken → Pending → State → State
with_entry next entry s = record s { expected = next; entry = entry }

-- the directory of an entry; the root's is 0
abbrev pub entry_parent : Option Open → ℕ
entry_parent None = 0
entry_parent (Some open_directory) = open_directory.directory

-- the entry is whole; another one, or the end of the directory, is next
abbrev pub with_node : ProtoKind → State → State
with_node kind s = record s {
  expected = Next.Name;
  nodes = s.nodes ++ record { parent = entry_parent s.within; name = s.entry.name; mode = s.entry.mode.bits; uid = s.entry.uid; gid = s.entry.gid; kind = kind } ∷ [];
}

-- the entries of the directory that is the last of the files follow
abbrev pub opened : ℕ → State → State
opened directory s = record s {
  within = Some (record { directory = directory; entries = 0 });
  outer = s.outer ++ option_to_list s.within;
}

-- the directory has ended; the one round it goes on, and behind the root's end there is none
abbrev pub closed : State → State
closed s = record s { within = slice_get s.outer (length s.outer - 1); outer = take (length s.outer - 1) s.outer }

-- so many tokens are ignored
abbrev pub after_ignored : ℕ → State → State
after_ignored left s = expecting (if nat_le left 1 then Next.Mode else Next.Ignored (left - 1)) s

-- a directory has an entry of this name
abbrev pub has_entry_named : List ProtoNode → ℕ → List ℕ → Bool
has_entry_named nodes directory name = list_any (λ (n : ProtoNode). n.parent == directory && bytes_eq n.name name) nodes

-- a directory can have one more entry, of this name
abbrev pub fits_name : Open → List ℕ → List ProtoNode → Bool
fits_name at name nodes = is_name name && nat_lt at.entries (2 ^ 24) && not (has_entry_named nodes at.directory name)

abbrev pub one_more : Open → Open
one_more at = record { directory = at.directory; entries = at.entries + 1 }

-- the name of an entry
abbrev pub named : Open → List ℕ → State → State
named at name s = record s { expected = Next.Mode; within = Some (one_more at); entry = record (s.entry) { name = name } }

-- a name, or the end of the directory; nothing stands behind the root's
abbrev pub after_name : Option Open → List ℕ → State → Result State SyntaxError
after_name None text s = token_error 6 s
after_name (Some at) text s =
    if bytes_eq text (codes "$") then Ok (closed s)
    else if fits_name at text s.nodes then Ok (named at text s)
    else token_error 4 s

abbrev pub is_directory_type : FileType → Bool
is_directory_type File.Directory = true
is_directory_type kind = false

-- the type can stand there: the root is a directory
abbrev pub fits_type : Option Open → FileType → Bool
fits_type None kind = is_directory_type kind
fits_type (Some at) kind = true

-- a mode
abbrev pub after_mode : Option Mode → State → Result State SyntaxError
after_mode None s = token_error 2 s
after_mode (Some mode) s =
    if fits_type s.within mode.kind then Ok (with_entry Next.User (record (s.entry) { mode = mode }) s) else token_error 2 s

-- the number of a user
abbrev pub after_user : Option ℕ → State → Result State SyntaxError
after_user None s = token_error 3 s
after_user (Some uid) s = Ok (with_entry Next.Group (record (s.entry) { uid = uid }) s)

-- what follows the owners goes by the type; a directory's entries, or nothing for a fifo
abbrev pub after_kind : FileType → State → State
after_kind File.Regular s = expecting Next.Source s
after_kind File.Directory s = opened (length s.nodes) (with_node Kind.Directory s)
after_kind File.Link s = expecting Next.Target s
after_kind File.Block s = expecting Next.Major s
after_kind File.Character s = expecting Next.Major s
after_kind File.Pipe s = with_node Kind.Pipe s

-- the number of a group
abbrev pub after_group : Option ℕ → State → Result State SyntaxError
after_group None s = token_error 3 s
after_group (Some gid) s = Ok (after_kind s.entry.mode.kind (record s { entry = record (s.entry) { gid = gid } }))

-- the target of a link
abbrev pub after_target : List ℕ → State → Result State SyntaxError
after_target text s = if nat_le (length text) 1024 then Ok (with_node (Kind.Link text) s) else token_error 5 s

-- the upper number of a device
abbrev pub after_major : Option ℕ → State → Result State SyntaxError
after_major None s = token_error 3 s
after_major (Some major) s = Ok (with_entry Next.Minor (record (s.entry) { major = major }) s)

abbrev pub device : FileType → ℕ → ℕ → ProtoKind
device File.Block major minor = Kind.Block major minor
device kind major minor = Kind.Character major minor

-- the lower number of a device
abbrev pub after_minor : Option ℕ → State → Result State SyntaxError
after_minor None s = token_error 3 s
after_minor (Some minor) s = Ok (with_node (device s.entry.mode.kind s.entry.major minor) s)

abbrev pub after_text : NextToken → List ℕ → State → Result State SyntaxError
after_text (Next.Ignored left) text s = Ok (after_ignored left s)
after_text Next.Name text s = after_name s.within text s
after_text Next.Mode text s = after_mode (mode_of text) s
after_text Next.User text s = after_user (number_below (2 ^ 32) text) s
after_text Next.Group text s = after_group (number_below (2 ^ 32) text) s
after_text Next.Source text s = Ok (with_node (Kind.Regular text s.line) s)
after_text Next.Target text s = after_target text s
after_text Next.Major text s = after_major (number_below (2 ^ 14) text) s
after_text Next.Minor text s = after_minor (number_below (2 ^ 18) text) s

-- what is read once this token is read too
abbrev pub after_token : Token → State → Result State SyntaxError
after_token token s = after_text s.expected token.text (record s { line = token.line })

-- the same, where no token before it was refused
abbrev pub after_next : Token → Result State SyntaxError → Result State SyntaxError
after_next token (Ok s) = after_token token s
after_next token (Err refusal) = Err refusal

-- what is read once these tokens are read too, or the first that can't stand where it does
abbrev pub after_tokens : List Token → Result State SyntaxError → Result State SyntaxError
after_tokens [] read = read
after_tokens (token ∷ tokens) read = after_tokens tokens (after_next token read)

abbrev pub has_ended : NextToken → Option Open → Bool
has_ended Next.Name None = true
has_ended next within = false

-- the files where the root has ended; else tokens lack
abbrev pub finished : Result State SyntaxError → Result (List ProtoNode) SyntaxError
finished (Err refusal) = Err refusal
finished (Ok s) = if has_ended s.expected s.within then Ok s.nodes else Err (record { line = s.line; reason = 1 })

-- the files that a text says, or why it is no protofile
unfoldable pub nodes_of : List ℕ → Result (List ProtoNode) SyntaxError
nodes_of text = finished (after_tokens (tokens_of text) (Ok start))

-- why a text is refused
abbrev pub IsProtoCause : {A : Type 0} → Result A SyntaxError → ProtoFault → Type 0
IsProtoCause said (Bad line reason) = said ≡ Err (record { line = line; reason = reason })
IsProtoCause said NoMemory = Unit {0}

-- the names that are kept are those of the entries
pub record HasEntryNames (r : Reader) : Type 0 where
  pub names : (d : ℕ) (q : List ℕ) → is_entry_name r.names d q ≡ has_entry_named r.nodes.items d q
