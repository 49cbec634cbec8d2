-- Tokens of the grammar are read to their end, and give the files that they say.
use Rattle.std.proofs.Common.{◌≡◌, ℕ, ◌+◌, ◌-◌, Bool, true, cond, List, [], ◌∷◌, ◌++◌, length, take, Option, Some, None, Result, Ok, nat_le, refl, sym, ap, ◌∙◌, arith, append_assoc}
use Rattle.std.proofs.lemmas.List.{append-nil, take_at, length-append}
use Rattle.std.specs.List.{slice_get}
use Rattle.xfs_proto.specs.Grammar.{TypeTokens, Entries, Head, IsProtofile, empty_directory, head_tokens, is_end, entry_node}
use Rattle.xfs_proto.specs.Grammar.TypeTokens.{regular, link, block, character, pipe}
use Rattle.xfs_proto.specs.Grammar.Entries.{none, file, directory}
use Rattle.xfs_proto.specs.Reading.{Pending, SyntaxError, State, after_group, after_kind, after_major, after_minor, after_mode, after_next, after_tokens, after_user, closed, finished, fits_name, named, one_more, token_error, start, with_node}
use Rattle.xfs_proto.specs.Tokens.{Token}
use Rattle.xfs_proto.specs.declared.modes.FileType.{FileType}
use Rattle.xfs_proto.specs.declared.modes.FileType.TheVariants as File
use Rattle.xfs_proto.specs.declared.modes.Mode.{Mode}
use Rattle.xfs_proto.specs.declared.protofile.ProtoKind.{ProtoKind}
use Rattle.xfs_proto.specs.declared.protofile.ProtoKind.TheVariants as Kind
use Rattle.xfs_proto.specs.declared.protofile.ProtoNode.{ProtoNode}
use Rattle.xfs_proto.specs.declared.reading.NextToken.{NextToken}
use Rattle.xfs_proto.specs.declared.reading.NextToken.TheVariants as Next
use Rattle.xfs_proto.specs.declared.reading.Open.{Open}

-- tokens that were read, and then more
pub after_tokens-append : (xs ys : List Token) (r : Result State SyntaxError) → after_tokens (xs ++ ys) r ≡ after_tokens ys (after_tokens xs r)
after_tokens-append [] ys r = refl
after_tokens-append (x ∷ xs) ys r = after_tokens-append xs ys (after_next x r)

-- where a name or the end of this directory is next
abbrev pub naming : Open → List Open → ℕ → Pending → List ProtoNode → State
naming at outer line entry nodes = record { expected = Next.Name; line = line; within = Some at; outer = outer; entry = entry; nodes = nodes }

abbrev pub pending_of : List ℕ → FileType → ℕ → ℕ → ℕ → ℕ → Pending
pending_of name kind bits uid gid major = record { name = name; mode = record { kind = kind; bits = bits }; uid = uid; gid = gid; major = major }

-- where this token is next
abbrev pub awaiting : NextToken → Open → List Open → ℕ → Pending → List ProtoNode → State
awaiting next at outer line entry nodes = record { expected = next; line = line; within = Some at; outer = outer; entry = entry; nodes = nodes }

-- the content gives the node
abbrev pub Gives : Open → List Open → List ProtoNode → ProtoNode → Result State SyntaxError → Type 0
Gives at outer before node read = (l : ℕ) × (e : Pending) × (read ≡ Ok (naming at outer l e (before ++ node ∷ [])))

last_pushed : (xs : List Open) (x : Open) → slice_get (xs ++ x ∷ []) (length xs) ≡ Some x
last_pushed [] x = refl
last_pushed (y ∷ ys) x = last_pushed ys x

one_less : (xs : List Open) (x : Open) → length (xs ++ x ∷ []) - 1 ≡ length xs
one_less xs x = let e : length (xs ++ x ∷ []) ≡ length xs + 1 = length-append xs (x ∷ []) in omega (arith, e)

-- behind the end of a directory that was opened last, the one round it goes on
pub closed_pushed : (at inside : Open) (outer : List Open) (line : ℕ) (entry : Pending) (nodes : List ProtoNode)
    → closed (naming inside (outer ++ at ∷ []) line entry nodes) ≡ naming at outer line entry nodes
closed_pushed at inside outer line entry nodes =
    ap (λ (k : ℕ). record { expected = Next.Name; line = line; within = slice_get (outer ++ at ∷ []) k; outer = take k (outer ++ at ∷ []); entry = entry; nodes = nodes }) (one_less outer at)
    ∙ ap (λ (w : Option Open). record { expected = Next.Name; line = line; within = w; outer = take (length outer) (outer ++ at ∷ []); entry = entry; nodes = nodes }) (last_pushed outer at)
    ∙ ap (λ (o : List Open). record { expected = Next.Name; line = line; within = Some at; outer = o; entry = entry; nodes = nodes }) (take_at outer (at ∷ []) (length outer) refl)

abbrev node_with : Open → List ℕ → ℕ → ℕ → ℕ → ProtoKind → ProtoNode
node_with at name bits uid gid kind = record { parent = at.directory; name = name; mode = bits; uid = uid; gid = gid; kind = kind }

abbrev read : State → Result State SyntaxError
read s = Ok s

chosen : (b : Bool) (s : State) (other : Result State SyntaxError) → b ≡ true → cond b (read s) other ≡ read s
chosen b s other holds = ap (λ (x : Bool). cond x (read s) other) holds

-- what stands behind the owners gives the node
content_gives : (kind : FileType) (content : List Token) (says : ProtoKind) → TypeTokens kind content says
    → (at : Open) (outer : List Open) (line : ℕ) (name : List ℕ) (bits uid gid major : ℕ) (before : List ProtoNode)
    → Gives at outer before (node_with at name bits uid gid says)
    (after_tokens content (Ok (after_kind kind (awaiting Next.Group at outer line (pending_of name kind bits uid gid major) before))))
content_gives _ _ _ (regular source) at outer line name bits uid gid major before = (source.line, pending_of name File.Regular bits uid gid major, refl)
content_gives _ _ _ (link target short) at outer line name bits uid gid major before = (
  target.line,
  pending_of name File.Link bits uid gid major,
  chosen (nat_le (length target.text) 1024) (with_node (Kind.Link target.text) (awaiting Next.Target at outer target.line (pending_of name File.Link bits uid gid major) before))
      (token_error 5 (awaiting Next.Target at outer target.line (pending_of name File.Link bits uid gid major) before)) short,
)
content_gives _ _ _ (block upper lower m n is_upper is_lower) at outer line name bits uid gid major before = (
  lower.line,
  pending_of name File.Block bits uid gid m,
  ap (λ (o : Option ℕ). after_next lower (after_major o (awaiting Next.Major at outer upper.line (pending_of name File.Block bits uid gid major) before))) is_upper
      ∙ ap (λ (o : Option ℕ). after_minor o (awaiting Next.Minor at outer lower.line (pending_of name File.Block bits uid gid m) before)) is_lower,
)
content_gives _ _ _ (character upper lower m n is_upper is_lower) at outer line name bits uid gid major before = (
  lower.line,
  pending_of name File.Character bits uid gid m,
  ap (λ (o : Option ℕ). after_next lower (after_major o (awaiting Next.Major at outer upper.line (pending_of name File.Character bits uid gid major) before))) is_upper
      ∙ ap (λ (o : Option ℕ). after_minor o (awaiting Next.Minor at outer lower.line (pending_of name File.Character bits uid gid m) before)) is_lower,
)
content_gives _ _ _ pipe at outer line name bits uid gid major before = (line, pending_of name File.Pipe bits uid gid major, refl)

-- how an entry begins
abbrev pub headed : {at : Open} {before : List ProtoNode} → Head at before → List Open → ℕ → State
headed {at} {before} h outer major =
    awaiting Next.Group (one_more at) outer h.group.line (pending_of h.name.text h.says.kind h.says.bits h.uid h.gid major) before

head_reads : (at : Open) (outer : List Open) (line : ℕ) (e : Pending) (before : List ProtoNode) (h : Head at before)
    → after_tokens (head_tokens h) (Ok (naming at outer line e before)) ≡ Ok (after_kind h.says.kind (headed h outer e.major))
head_reads at outer line e before h =
    let s : State = naming at outer h.name.line e before in
    let t : State = awaiting Next.Mode (one_more at) outer h.mode.line (record e { name = h.name.text }) before in
    let u : State = awaiting Next.User (one_more at) outer h.user.line (record e { name = h.name.text; mode = h.says }) before in
    let w : State = awaiting Next.Group (one_more at) outer h.group.line (record e { name = h.name.text; mode = h.says; uid = h.uid }) before in
    let last : Result State SyntaxError → Result State SyntaxError = λ r. after_next h.group (after_next h.user (after_next h.mode r)) in
    ap (λ (b : Bool). last (cond b (Ok (closed s)) (cond (fits_name at h.name.text before) (Ok (named at h.name.text s)) (token_error 4 s)))) h.goes_on
    ∙ ap (λ (b : Bool). last (cond b (Ok (named at h.name.text s)) (token_error 4 s))) h.fits
    ∙ ap (λ (o : Option Mode). after_next h.group (after_next h.user (after_mode o t))) h.is_mode
    ∙ ap (λ (o : Option ℕ). after_next h.group (after_user o u)) h.is_user
    ∙ ap (λ (o : Option ℕ). after_group o w) h.is_group

-- the entries give their nodes, and the directory ends
abbrev pub Ends : Open → List Open → List ProtoNode → List ProtoNode → Result State SyntaxError → Type 0
Ends at outer before nodes read = (l : ℕ) × (e : Pending) × (read ≡ Ok (closed (naming at outer l e (before ++ nodes))))

pub entries_end : (at : Open) (before : List ProtoNode) (tokens : List Token) (nodes : List ProtoNode) → Entries at before tokens nodes
    → (outer : List Open) (line : ℕ) (e : Pending) → Ends at outer before nodes (after_tokens tokens (Ok (naming at outer line e before)))
entries_end _ _ _ _ (none at before token is_last) outer line e =
    let s : State = naming at outer token.line e before in (
      token.line,
      e,
      chosen (is_end token) (closed s) (cond (fits_name at token.text before) (Ok (named at token.text s)) (token_error 4 s)) is_last
          ∙ ap (λ (ns : List ProtoNode). Ok (closed (naming at outer token.line e ns))) (sym (append-nil before)),
    )
entries_end _ _ _ _ (file at before h content rest kind nodes has more) outer line e =
    let first = head_reads at outer line e before h in
    let second = content_gives h.says.kind content kind has (one_more at) outer h.group.line h.name.text h.says.bits h.uid h.gid e.major before in
    let third = entries_end (one_more at) (before ++ entry_node h kind ∷ []) rest nodes more outer second.0 second.1 in (
      third.0,
      third.1,
      after_tokens-append (head_tokens h) (content ++ rest) (Ok (naming at outer line e before))
          ∙ ap (after_tokens (content ++ rest)) first
          ∙ after_tokens-append content rest (Ok (after_kind h.says.kind (headed h outer e.major)))
          ∙ ap (after_tokens rest) second.2
          ∙ third.2
          ∙ ap (λ (ns : List ProtoNode). Ok (closed (naming at outer third.0 third.1 ns))) (append_assoc before (entry_node h kind ∷ []) nodes),
    )
entries_end _ _ _ _ (directory at before h inner rest below nodes is_directory has more) outer line e =
    let root : List ProtoNode = before ++ entry_node h Kind.Directory ∷ [] in
    let entry : Pending = pending_of h.name.text h.says.kind h.says.bits h.uid h.gid e.major in
    let first = head_reads at outer line e before h in
    let second = entries_end (empty_directory before) root inner below has (outer ++ one_more at ∷ []) h.group.line entry in
    let third = entries_end (one_more at) (before ++ entry_node h Kind.Directory ∷ below) rest nodes more outer second.0 second.1 in (
      third.0,
      third.1,
      after_tokens-append (head_tokens h) (inner ++ rest) (Ok (naming at outer line e before))
          ∙ ap (after_tokens (inner ++ rest)) first
          ∙ ap (λ (k : FileType). after_tokens (inner ++ rest) (Ok (after_kind k (headed h outer e.major)))) is_directory
          ∙ after_tokens-append inner rest (Ok (naming (empty_directory before) (outer ++ one_more at ∷ []) h.group.line entry root))
          ∙ ap (after_tokens rest) second.2
          ∙ ap (λ (s : State). after_tokens rest (Ok s)) (closed_pushed (one_more at) (empty_directory before) outer second.0 second.1 (root ++ below))
          ∙ ap (λ (ns : List ProtoNode). after_tokens rest (Ok (naming (one_more at) outer second.0 second.1 ns))) (append_assoc before (entry_node h Kind.Directory ∷ []) below)
          ∙ third.2
          ∙ ap (λ (ns : List ProtoNode). Ok (closed (naming at outer third.0 third.1 ns))) (append_assoc before (entry_node h Kind.Directory ∷ below) nodes),
    )

abbrev root_of : ℕ → ℕ → ℕ → ProtoNode
root_of bits uid gid = record { parent = 0; name = []; mode = bits; uid = uid; gid = gid; kind = Kind.Directory }

-- in front of the root's entries
abbrev rooted : NextToken → ℕ → Pending → State
rooted next line entry = record { expected = next; line = line; within = None; outer = []; entry = entry; nodes = [] }

-- a protofile is accepted, with its files
pub protofile_accepted : (tokens : List Token) (nodes : List ProtoNode) → IsProtofile tokens nodes → finished (after_tokens tokens (Ok start)) ≡ Ok nodes
protofile_accepted tokens nodes p =
    let more : Result State SyntaxError → Result State SyntaxError = λ r. after_tokens p.rest r in
    let ends = entries_end (empty_directory []) (root_of p.bits p.uid p.gid ∷ []) p.rest p.below p.entries [] p.group.line (pending_of [] File.Directory p.bits p.uid p.gid 0) in
    ap (λ (ts : List Token). finished (after_tokens ts (Ok start))) p.are_tokens
    ∙ ap (λ (o : Option Mode). finished (more (after_next p.group (after_next p.user (after_mode o (rooted Next.Mode p.mode.line (pending_of [] File.Directory 0 0 0 0))))))) p.is_mode
    ∙ ap (λ (o : Option ℕ). finished (more (after_next p.group (after_user o (rooted Next.User p.user.line (pending_of [] File.Directory p.bits 0 0 0)))))) p.is_user
    ∙ ap (λ (o : Option ℕ). finished (more (after_group o (rooted Next.Group p.group.line (pending_of [] File.Directory p.bits p.uid 0 0))))) p.is_group
    ∙ ap finished ends.2
    ∙ ap (λ (ns : List ProtoNode). Ok ns) (sym p.are_nodes)
