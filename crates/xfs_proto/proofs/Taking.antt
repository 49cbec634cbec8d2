-- Tokens that are read to their end are of the grammar, with the files that they gave.
use Rattle.std.proofs.Common.{◌≡◌, ℕ, zero, suc, ◌+◌, ◌^◌, ◌<◌, Bool, true, false, cond, List, [], ◌∷◌, ◌++◌, length, Option, Some, None, Result, Ok, Err, is_ok, nat_le, refl, sym, ap, ◌∙◌, subst, arith, append_assoc}
use Rattle.std.proofs.lemmas.Bool.{false≢true}
use Rattle.std.proofs.lemmas.List.{append-nil, length-append}
use Rattle.xfs_proto.specs.Grammar.{TypeTokens, Entries, Head, IsProtofile, empty_directory, head_tokens, is_end, entry_node}
use Rattle.xfs_proto.specs.Grammar.TypeTokens.{regular, link, block, character, pipe}
use Rattle.xfs_proto.specs.Grammar.Entries.{none, file, directory}
use Rattle.xfs_proto.specs.Numbers.{number_below}
use Rattle.xfs_proto.specs.Modes.{mode_of}
use Rattle.xfs_proto.specs.Reading.{Pending, SyntaxError, State, after_group, after_kind, after_major, after_minor, after_mode, after_tokens, after_user, closed, device, finished, fits_name, is_directory_type, named, one_more, token_error, start, with_node}
use Rattle.xfs_proto.specs.Tokens.{Token}
use Rattle.xfs_proto.specs.declared.modes.FileType.{FileType}
use Rattle.xfs_proto.specs.declared.modes.FileType.TheVariants as File
use Rattle.xfs_proto.specs.declared.modes.Mode.{Mode}
use Rattle.xfs_proto.specs.declared.protofile.ProtoKind.{ProtoKind}
use Rattle.xfs_proto.specs.declared.protofile.ProtoKind.TheVariants as Kind
use Rattle.xfs_proto.specs.declared.protofile.ProtoNode.{ProtoNode}
use Rattle.xfs_proto.specs.declared.reading.NextToken.{NextToken}
use Rattle.xfs_proto.specs.declared.reading.NextToken.TheVariants as Next
use Rattle.xfs_proto.specs.declared.reading.Open.{Open}
use Rattle.xfs_proto.proofs.Accepting.{awaiting, closed_pushed, naming}

-- the tokens lead on from here to all files
abbrev pub Leads : List ProtoNode → List Token → Result State SyntaxError → Type 0
Leads all tokens read = finished (after_tokens tokens read) ≡ Ok all

not_ok : (refusal : SyntaxError) (all : List ProtoNode) → Err refusal ≡ Ok all → ⊥
not_ok refusal all e = false≢true (ap is_ok e)

pub refused_stays : (tokens : List Token) (refusal : SyntaxError) → after_tokens tokens (Err refusal) ≡ Err refusal
refused_stays [] refusal = refl
refused_stays (token ∷ tokens) refusal = refused_stays tokens refusal

-- nothing leads on from a token that was refused
pub stops : (all : List ProtoNode) (tokens : List Token) (refusal : SyntaxError) → Leads all tokens (Err refusal) → ⊥
stops all tokens refusal e = not_ok refusal all (ap finished (sym (refused_stays tokens refusal)) ∙ e)

-- the tokens begin with one that says this, and lead on
abbrev pub Step : {A : Type 0} → List ProtoNode → List Token → (Token → Option A) → (Token → A → State) → Type 0
Step {A} all tokens says next =
    (token : Token) × (rest : List Token) × (a : A) × (tokens ≡ token ∷ rest) × (says token ≡ Some a) × Leads all rest (Ok (next token a))

-- where this token is next, in this directory
abbrev standing : NextToken → Option Open → List Open → ℕ → Pending → List ProtoNode → State
standing next within outer line entry nodes = record { expected = next; line = line; within = within; outer = outer; entry = entry; nodes = nodes }

mode_step : (all : List ProtoNode) (tokens : List Token) (at : Open) (outer : List Open) (line : ℕ) (e : Pending) (before : List ProtoNode)
    → Leads all tokens (Ok (awaiting Next.Mode at outer line e before))
    → Step all tokens (λ t. mode_of t.text) (λ t m. awaiting Next.User at outer t.line (record e { mode = m }) before)
mode_step all [] at outer line e before h = absurd (not_ok _ all h)
mode_step all (token ∷ rest) at outer line e before h = by_case (mode_of token.text) refl h where
  by_case : (o : Option Mode) → mode_of token.text ≡ o → Leads all rest (after_mode o (awaiting Next.Mode at outer token.line e before))
      → Step all (token ∷ rest) (λ t. mode_of t.text) (λ t m. awaiting Next.User at outer t.line (record e { mode = m }) before)
  by_case None said h = absurd (stops all rest _ h)
  by_case (Some m) said h = (token, rest, m, refl, said, h)

user_step : (all : List ProtoNode) (tokens : List Token) (within : Option Open) (outer : List Open) (line : ℕ) (e : Pending) (before : List ProtoNode)
    → Leads all tokens (Ok (standing Next.User within outer line e before))
    → Step all tokens (λ t. number_below (2 ^ 32) t.text) (λ t n. standing Next.Group within outer t.line (record e { uid = n }) before)
user_step all [] within outer line e before h = absurd (not_ok _ all h)
user_step all (token ∷ rest) within outer line e before h = by_case (number_below (2 ^ 32) token.text) refl h where
  by_case : (o : Option ℕ) → number_below (2 ^ 32) token.text ≡ o → Leads all rest (after_user o (standing Next.User within outer token.line e before))
      → Step all (token ∷ rest) (λ t. number_below (2 ^ 32) t.text) (λ t n. standing Next.Group within outer t.line (record e { uid = n }) before)
  by_case None said h = absurd (stops all rest _ h)
  by_case (Some n) said h = (token, rest, n, refl, said, h)

group_step : (all : List ProtoNode) (tokens : List Token) (within : Option Open) (outer : List Open) (line : ℕ) (e : Pending) (before : List ProtoNode)
    → Leads all tokens (Ok (standing Next.Group within outer line e before))
    → Step all tokens (λ t. number_below (2 ^ 32) t.text)
    (λ t n. after_kind e.mode.kind (standing Next.Group within outer t.line (record e { gid = n }) before))
group_step all [] within outer line e before h = absurd (not_ok _ all h)
group_step all (token ∷ rest) within outer line e before h = by_case (number_below (2 ^ 32) token.text) refl h where
  by_case : (o : Option ℕ) → number_below (2 ^ 32) token.text ≡ o → Leads all rest (after_group o (standing Next.Group within outer token.line e before))
      → Step all (token ∷ rest) (λ t. number_below (2 ^ 32) t.text)
      (λ t n. after_kind e.mode.kind (standing Next.Group within outer t.line (record e { gid = n }) before))
  by_case None said h = absurd (stops all rest _ h)
  by_case (Some n) said h = (token, rest, n, refl, said, h)

major_step : (all : List ProtoNode) (tokens : List Token) (at : Open) (outer : List Open) (line : ℕ) (e : Pending) (before : List ProtoNode)
    → Leads all tokens (Ok (awaiting Next.Major at outer line e before))
    → Step all tokens (λ t. number_below (2 ^ 14) t.text) (λ t n. awaiting Next.Minor at outer t.line (record e { major = n }) before)
major_step all [] at outer line e before h = absurd (not_ok _ all h)
major_step all (token ∷ rest) at outer line e before h = by_case (number_below (2 ^ 14) token.text) refl h where
  by_case : (o : Option ℕ) → number_below (2 ^ 14) token.text ≡ o → Leads all rest (after_major o (awaiting Next.Major at outer token.line e before))
      → Step all (token ∷ rest) (λ t. number_below (2 ^ 14) t.text) (λ t n. awaiting Next.Minor at outer t.line (record e { major = n }) before)
  by_case None said h = absurd (stops all rest _ h)
  by_case (Some n) said h = (token, rest, n, refl, said, h)

minor_step : (all : List ProtoNode) (tokens : List Token) (at : Open) (outer : List Open) (line : ℕ) (e : Pending) (before : List ProtoNode)
    → Leads all tokens (Ok (awaiting Next.Minor at outer line e before))
    → Step all tokens (λ t. number_below (2 ^ 18) t.text)
    (λ t n. with_node (device e.mode.kind e.major n) (awaiting Next.Minor at outer t.line e before))
minor_step all [] at outer line e before h = absurd (not_ok _ all h)
minor_step all (token ∷ rest) at outer line e before h = by_case (number_below (2 ^ 18) token.text) refl h where
  by_case : (o : Option ℕ) → number_below (2 ^ 18) token.text ≡ o → Leads all rest (after_minor o (awaiting Next.Minor at outer token.line e before))
      → Step all (token ∷ rest) (λ t. number_below (2 ^ 18) t.text)
      (λ t n. with_node (device e.mode.kind e.major n) (awaiting Next.Minor at outer t.line e before))
  by_case None said h = absurd (stops all rest _ h)
  by_case (Some n) said h = (token, rest, n, refl, said, h)

abbrev node_for : Open → Pending → ProtoKind → ProtoNode
node_for at e kind = record { parent = at.directory; name = e.name; mode = e.mode.bits; uid = e.uid; gid = e.gid; kind = kind }

-- the content of an entry, and what it leads to
record Held (all : List ProtoNode) (tokens : List Token) (kind : FileType) (at : Open) (outer : List Open) (e : Pending) (before : List ProtoNode) : Type 0 where
  content : List Token
  rest : List Token
  says : ProtoKind
  line : ℕ
  entry : Pending
  split : tokens ≡ content ++ rest
  has : TypeTokens kind content says
  leads : Leads all rest (Ok (naming at outer line entry (before ++ node_for at e says ∷ [])))

-- what a device's two numbers lead to
devices : (all : List ProtoNode) (tokens : List Token) (kind : FileType) (at : Open) (outer : List Open) (line : ℕ) (e : Pending) (before : List ProtoNode)
    → e.mode.kind ≡ kind
    → ((upper lower : Token) (major minor : ℕ) → number_below (2 ^ 14) upper.text ≡ Some major → number_below (2 ^ 18) lower.text ≡ Some minor
    → TypeTokens kind (upper ∷ lower ∷ []) (device kind major minor))
    → Leads all tokens (Ok (awaiting Next.Major at outer line e before)) → Held all tokens kind at outer e before
devices all tokens kind at outer line e before is_kind makes h =
    let first = major_step all tokens at outer line e before h in
    let second = minor_step all first.1 at outer first.0.line (record e { major = first.2 }) before first.5 in
    record {
      content = first.0 ∷ second.0 ∷ [];
      rest = second.1;
      says = device kind first.2 second.2;
      line = second.0.line;
      entry = record e { major = first.2 };
      split = first.3 ∙ ap (λ (ts : List Token). first.0 ∷ ts) second.3;
      has = makes first.0 second.0 first.2 second.2 first.4 second.4;
      leads = subst (λ (k : FileType). Leads all second.1 (Ok (naming at outer second.0.line (record e { major = first.2 }) (before ++ node_for at e (device k first.2 second.2) ∷ [])))) is_kind second.5;
    }

content_held : (all : List ProtoNode) (tokens : List Token) (kind : FileType) (at : Open) (outer : List Open) (line : ℕ) (e : Pending) (before : List ProtoNode)
    → e.mode.kind ≡ kind → is_directory_type kind ≡ false
    → Leads all tokens (Ok (after_kind kind (awaiting Next.Group at outer line e before))) → Held all tokens kind at outer e before
content_held all [] File.Regular at outer line e before is_kind not_directory h = absurd (not_ok _ all h)
content_held all (source ∷ rest) File.Regular at outer line e before is_kind not_directory h = record {
  content = source ∷ [];
  rest = rest;
  says = Kind.Regular source.text source.line;
  line = source.line;
  entry = e;
  split = refl;
  has = regular source;
  leads = h;
}
content_held all [] File.Link at outer line e before is_kind not_directory h = absurd (not_ok _ all h)
content_held all (target ∷ rest) File.Link at outer line e before is_kind not_directory h = by_case (nat_le (length target.text) 1024) refl h where
  by_case : (b : Bool) → nat_le (length target.text) 1024 ≡ b
      → Leads all rest (cond b (Ok (with_node (Kind.Link target.text) (awaiting Next.Target at outer target.line e before))) (token_error 5 (awaiting Next.Target at outer target.line e before)))
      → Held all (target ∷ rest) File.Link at outer e before
  by_case false short h = absurd (stops all rest _ h)
  by_case true short h = record {
    content = target ∷ [];
    rest = rest;
    says = Kind.Link target.text;
    line = target.line;
    entry = e;
    split = refl;
    has = link target short;
    leads = h;
  }
content_held all tokens File.Block at outer line e before is_kind not_directory h = devices all tokens File.Block at outer line e before is_kind block h
content_held all tokens File.Character at outer line e before is_kind not_directory h =
    devices all tokens File.Character at outer line e before is_kind character h
content_held all tokens File.Pipe at outer line e before is_kind not_directory h = record {
  content = [];
  rest = tokens;
  says = Kind.Pipe;
  line = line;
  entry = e;
  split = refl;
  has = pipe;
  leads = h;
}
content_held all tokens File.Directory at outer line e before is_kind not_directory h = absurd (false≢true (sym not_directory))

-- the entries of a directory with its end, and what they lead to
pub record Taken (all : List ProtoNode) (tokens : List Token) (at : Open) (outer : List Open) (before : List ProtoNode) : Type 0 where
  pub taken : List Token
  pub rest : List Token
  pub nodes : List ProtoNode
  pub line : ℕ
  pub entry : Pending
  pub split : tokens ≡ taken ++ rest
  pub shorter : length rest < length tokens
  pub entries : Entries at before taken nodes
  pub leads : Leads all rest (Ok (closed (naming at outer line entry (before ++ nodes))))

abbrev Takes : ℕ → List ProtoNode → Type 0
Takes n all = (tokens : List Token) → length tokens < n → (at : Open) (outer : List Open) (line : ℕ) (e : Pending) (before : List ProtoNode)
    → Leads all tokens (Ok (naming at outer line e before)) → Taken all tokens at outer before

abbrev head_entry : {at : Open} {before : List ProtoNode} → Head at before → ℕ → Pending
head_entry h major = record { name = h.name.text; mode = h.says; uid = h.uid; gid = h.gid; major = major }

-- what stands behind the head of an entry is split twice
spliced : (tokens rest head content inner taken more : List Token) → tokens ≡ head ++ rest → rest ≡ content ++ inner → inner ≡ taken ++ more
    → tokens ≡ head ++ (content ++ taken) ++ more
spliced tokens rest head content inner taken more whole first second =
    whole ∙ ap (λ (ts : List Token). head ++ ts) (first ∙ (ap (λ (ts : List Token). content ++ ts) second ∙ sym (append_assoc content taken more)))
    ∙ sym (append_assoc head (content ++ taken) more)

-- files that are told in two parts are those of both
ends_on : (all : List ProtoNode) (rest : List Token) (at : Open) (outer : List Open) (line : ℕ) (e : Pending) (before xs ys : List ProtoNode)
    → Leads all rest (Ok (closed (naming at outer line e (before ++ xs ++ ys)))) → Leads all rest (Ok (closed (naming at outer line e (before ++ (xs ++ ys)))))
ends_on all rest at outer line e before xs ys leads =
    subst (λ (ns : List ProtoNode). Leads all rest (Ok (closed (naming at outer line e ns)))) (append_assoc before xs ys) leads

-- behind the end of a directory the one round it goes on
goes_round : (all : List ProtoNode) (rest : List Token) (at inside : Open) (outer : List Open) (line : ℕ) (e : Pending) (before xs ys : List ProtoNode)
    → Leads all rest (Ok (closed (naming inside (outer ++ at ∷ []) line e (before ++ xs ++ ys)))) → Leads all rest (Ok (naming at outer line e (before ++ (xs ++ ys))))
goes_round all rest at inside outer line e before xs ys leads =
    subst (λ (ns : List ProtoNode). Leads all rest (Ok (naming at outer line e ns))) (append_assoc before xs ys)
    (subst (λ (s : State). Leads all rest (Ok s)) (closed_pushed at inside outer line e (before ++ xs ++ ys)) leads)

-- an entry that is no directory, and those behind it
file_taken : (n : ℕ) (all : List ProtoNode) → Takes n all → (tokens rest : List Token) (at : Open) (outer : List Open) (major : ℕ) (before : List ProtoNode)
    (h : Head at before) → tokens ≡ head_tokens h ++ rest → length tokens < suc n → is_directory_type h.says.kind ≡ false
    → Leads all rest (Ok (after_kind h.says.kind (awaiting Next.Group (one_more at) outer h.group.line (head_entry h major) before)))
    → Taken all tokens at outer before
file_taken n all takes tokens rest at outer major before h split few not_directory leads =
    let held = content_held all rest h.says.kind (one_more at) outer h.group.line (head_entry h major) before refl not_directory leads in
    let long : length tokens ≡ 4 + length rest = ap length split ∙ four rest in
    let parts : length rest ≡ length held.content + length held.rest = ap length held.split ∙ length-append held.content held.rest in
    let more = takes held.rest (omega (arith, few, long, parts)) (one_more at) outer held.line held.entry (before ++ entry_node h held.says ∷ []) held.leads in
    record {
      taken = head_tokens h ++ (held.content ++ more.taken);
      rest = more.rest;
      nodes = entry_node h held.says ∷ more.nodes;
      line = more.line;
      entry = more.entry;
      split = spliced tokens rest (head_tokens h) held.content held.rest more.taken more.rest split held.split more.split;
      shorter = omega (arith, long, parts, more.shorter);
      entries = file at before h held.content more.taken held.says more.nodes held.has more.entries;
      leads = ends_on all more.rest at outer more.line more.entry before (entry_node h held.says ∷ []) more.nodes more.leads;
    }
  where
    four : (ts : List Token) → length (head_tokens h ++ ts) ≡ 4 + length ts
    four ts = omega arith

-- a directory with its entries, and those behind it
directory_taken : (n : ℕ) (all : List ProtoNode) → Takes n all → (tokens rest : List Token) (at : Open) (outer : List Open) (major : ℕ) (before : List ProtoNode)
    (h : Head at before) → tokens ≡ head_tokens h ++ rest → length tokens < suc n → h.says.kind ≡ File.Directory
    → Leads all rest (Ok (after_kind File.Directory (awaiting Next.Group (one_more at) outer h.group.line (head_entry h major) before)))
    → Taken all tokens at outer before
directory_taken n all takes tokens rest at outer major before h split few is_kind leads =
    let node : ProtoNode = entry_node h Kind.Directory in
    let long : length tokens ≡ 4 + length rest = ap length split ∙ four rest in
    let inner = takes rest (omega (arith, few, long)) (empty_directory before) (outer ++ one_more at ∷ []) h.group.line (head_entry h major) (before ++ node ∷ []) leads in
    let round : Leads all inner.rest (Ok (naming (one_more at) outer inner.line inner.entry (before ++ node ∷ inner.nodes)))
    = goes_round all inner.rest (one_more at) (empty_directory before) outer inner.line inner.entry before (node ∷ []) inner.nodes inner.leads in
    let more = takes inner.rest (omega (arith, few, long, inner.shorter)) (one_more at) outer inner.line inner.entry (before ++ node ∷ inner.nodes) round in
    record {
      taken = head_tokens h ++ (inner.taken ++ more.taken);
      rest = more.rest;
      nodes = node ∷ (inner.nodes ++ more.nodes);
      line = more.line;
      entry = more.entry;
      split = spliced tokens rest (head_tokens h) inner.taken inner.rest more.taken more.rest split inner.split more.split;
      shorter = omega (arith, long, inner.shorter, more.shorter);
      entries = directory at before h inner.taken more.taken inner.nodes more.nodes is_kind inner.entries more.entries;
      leads = ends_on all more.rest at outer more.line more.entry before (node ∷ inner.nodes) more.nodes more.leads;
    }
  where
    four : (ts : List Token) → length (head_tokens h ++ ts) ≡ 4 + length ts
    four ts = omega arith

-- an entry, and those behind it
entry_taken : (n : ℕ) (all : List ProtoNode) → Takes n all → (tokens rest : List Token) (at : Open) (outer : List Open) (major : ℕ) (before : List ProtoNode)
    (h : Head at before) → tokens ≡ head_tokens h ++ rest → length tokens < suc n
    → (k : FileType) → h.says.kind ≡ k
    → Leads all rest (Ok (after_kind h.says.kind (awaiting Next.Group (one_more at) outer h.group.line (head_entry h major) before)))
    → Taken all tokens at outer before
entry_taken n all takes tokens rest at outer major before h split few File.Directory is_kind leads =
    directory_taken n all takes tokens rest at outer major before h split few is_kind
    (subst (λ (k : FileType). Leads all rest (Ok (after_kind k (awaiting Next.Group (one_more at) outer h.group.line (head_entry h major) before)))) is_kind leads)
entry_taken n all takes tokens rest at outer major before h split few k is_kind leads =
    file_taken n all takes tokens rest at outer major before h split few (ap is_directory_type is_kind) leads

-- what begins with a name
named_taken : (n : ℕ) (all : List ProtoNode) → Takes n all → (name : Token) (rest : List Token) → length (name ∷ rest) < suc n
    → (at : Open) (outer : List Open) (e : Pending) (before : List ProtoNode) → is_end name ≡ false → fits_name at name.text before ≡ true
    → Leads all rest (Ok (named at name.text (naming at outer name.line e before))) → Taken all (name ∷ rest) at outer before
named_taken n all takes name rest few at outer e before goes_on fits leads =
    let first = mode_step all rest (one_more at) outer name.line (record e { name = name.text }) before leads in
    let second = user_step all first.1 (Some (one_more at)) outer first.0.line (record e { name = name.text; mode = first.2 }) before first.5 in
    let third = group_step all second.1 (Some (one_more at)) outer second.0.line (record e { name = name.text; mode = first.2; uid = second.2 }) before second.5 in
    let h : Head at before = record {
      name = name;
      mode = first.0;
      user = second.0;
      group = third.0;
      says = first.2;
      uid = second.2;
      gid = third.2;
      goes_on = goes_on;
      fits = fits;
      is_mode = first.4;
      is_user = second.4;
      is_group = third.4;
    } in
    entry_taken n all takes (name ∷ rest) third.1 at outer e.major before h
    (ap (λ (ts : List Token). name ∷ ts) (first.3 ∙ ap (λ (ts : List Token). first.0 ∷ ts) (second.3 ∙ ap (λ (ts : List Token). second.0 ∷ ts) third.3)))
    few first.2.kind refl third.5

-- what begins with the end of the directory or with a name
next_taken : (n : ℕ) (all : List ProtoNode) → Takes n all → (token : Token) (rest : List Token) → length (token ∷ rest) < suc n
    → (at : Open) (outer : List Open) (e : Pending) (before : List ProtoNode)
    → (b c : Bool) → is_end token ≡ b → fits_name at token.text before ≡ c
    → Leads all rest (cond b (Ok (closed (naming at outer token.line e before)))
    (cond c (Ok (named at token.text (naming at outer token.line e before))) (token_error 4 (naming at outer token.line e before))))
    → Taken all (token ∷ rest) at outer before
next_taken n all takes token rest few at outer e before true c is_last fits leads = record {
  taken = token ∷ [];
  rest = rest;
  nodes = [];
  line = token.line;
  entry = e;
  split = refl;
  shorter = omega arith;
  entries = none at before token is_last;
  leads = subst (λ (ns : List ProtoNode). Leads all rest (Ok (closed (naming at outer token.line e ns)))) (sym (append-nil before)) leads;
}
next_taken n all takes token rest few at outer e before false true goes_on fits leads =
    named_taken n all takes token rest few at outer e before goes_on fits leads
next_taken n all takes token rest few at outer e before false false goes_on fits leads = absurd (stops all rest _ leads)

take_entries : (n : ℕ) (all : List ProtoNode) → Takes n all
take_entries zero all tokens few at outer line e before leads = absurd (omega (arith, few))
take_entries (suc n) all [] few at outer line e before leads = absurd (not_ok _ all leads)
take_entries (suc n) all (token ∷ rest) few at outer line e before leads =
    next_taken n all (take_entries n all) token rest few at outer e before (is_end token) (fits_name at token.text before) refl refl leads

abbrev root_of : ℕ → ℕ → ℕ → ProtoNode
root_of bits uid gid = record { parent = 0; name = []; mode = bits; uid = uid; gid = gid; kind = Kind.Directory }

abbrev nodes_in : Result (List ProtoNode) SyntaxError → List ProtoNode
nodes_in (Ok nodes) = nodes
nodes_in (Err refusal) = []

-- behind the root's end nothing stands
ended_here : (all : List ProtoNode) (rest : List Token) (line : ℕ) (e : Pending) (nodes : List ProtoNode)
    → Leads all rest (Ok (closed (naming (empty_directory []) [] line e nodes))) → (rest ≡ []) × (all ≡ nodes)
ended_here all [] line e nodes leads = (refl, sym (ap nodes_in leads))
ended_here all (token ∷ rest) line e nodes leads = absurd (stops all rest _ leads)

-- what stands behind the root's mode
root_taken : (all : List ProtoNode) (first second third mode : Token) (rest : List Token) (bits : ℕ)
    → mode_of mode.text ≡ Some (record { kind = File.Directory; bits = bits })
    → Leads all rest (Ok (standing Next.User None [] mode.line (record (start.entry) { mode = record { kind = File.Directory; bits = bits } }) []))
    → IsProtofile (first ∷ second ∷ third ∷ mode ∷ rest) all
root_taken all first second third mode rest bits is_mode leads =
    let e : Pending = record (start.entry) { mode = record { kind = File.Directory; bits = bits } } in
    let user = user_step all rest None [] mode.line e [] leads in
    let group = group_step all user.1 None [] user.0.line (record e { uid = user.2 }) [] user.5 in
    let root : ProtoNode = root_of bits user.2 group.2 in
    let below = take_entries (suc (length group.1)) all group.1 (omega arith) (empty_directory []) [] group.0.line (record e { uid = user.2; gid = group.2 }) (root ∷ []) group.5 in
    let ends = ended_here all below.rest below.line below.entry (root ∷ below.nodes) below.leads in
    let whole : group.1 ≡ below.taken = below.split ∙ ap (λ (ts : List Token). below.taken ++ ts) ends.0 ∙ append-nil below.taken in
    record {
      first = first;
      second = second;
      third = third;
      mode = mode;
      user = user.0;
      group = group.0;
      rest = below.taken;
      bits = bits;
      uid = user.2;
      gid = group.2;
      below = below.nodes;
      are_tokens = ap (λ (ts : List Token). first ∷ second ∷ third ∷ mode ∷ ts)
          (user.3 ∙ ap (λ (ts : List Token). user.0 ∷ ts) (group.3 ∙ ap (λ (ts : List Token). group.0 ∷ ts) whole));
      is_mode = is_mode;
      is_user = user.4;
      is_group = group.4;
      entries = below.entries;
      are_nodes = ends.1;
    }

-- what stands behind the tokens that are ignored
mode_taken : (all : List ProtoNode) (first second third mode : Token) (rest : List Token) (k : FileType) (bits : ℕ)
    → mode_of mode.text ≡ Some (record { kind = k; bits = bits })
    → Leads all rest (after_mode (Some (record { kind = k; bits = bits })) (standing Next.Mode None [] mode.line start.entry []))
    → IsProtofile (first ∷ second ∷ third ∷ mode ∷ rest) all
mode_taken all first second third mode rest File.Directory bits is_mode leads = root_taken all first second third mode rest bits is_mode leads
mode_taken all first second third mode rest k bits is_mode leads = absurd (stops all rest _ leads)

root_begins : (all : List ProtoNode) (first second third mode : Token) (rest : List Token) (o : Option Mode) → mode_of mode.text ≡ o
    → Leads all rest (after_mode o (standing Next.Mode None [] mode.line start.entry [])) → IsProtofile (first ∷ second ∷ third ∷ mode ∷ rest) all
root_begins all first second third mode rest None is_mode leads = absurd (stops all rest _ leads)
root_begins all first second third mode rest (Some m) is_mode leads = mode_taken all first second third mode rest m.kind m.bits is_mode leads

-- what is accepted is a protofile, with these files
pub accepted_protofile : (tokens : List Token) (all : List ProtoNode) → finished (after_tokens tokens (Ok start)) ≡ Ok all → IsProtofile tokens all
accepted_protofile [] all leads = absurd (not_ok _ all leads)
accepted_protofile (first ∷ []) all leads = absurd (not_ok _ all leads)
accepted_protofile (first ∷ second ∷ []) all leads = absurd (not_ok _ all leads)
accepted_protofile (first ∷ second ∷ third ∷ []) all leads = absurd (not_ok _ all leads)
accepted_protofile (first ∷ second ∷ third ∷ mode ∷ rest) all leads = root_begins all first second third mode rest (mode_of mode.text) refl leads
