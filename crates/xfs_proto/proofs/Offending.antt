-- A refusal tells the first token that can't stand where it does, or that tokens lack.
use Rattle.std.proofs.Common.{◌≡◌, ℕ, zero, suc, ◌-◌, ◌^◌, ◌<◌, Bool, true, false, cond, List, [], ◌∷◌, ◌++◌, length, take, Option, Some, None, Result, Ok, Err, is_ok, nat_le, refl, sym, ap, ◌∙◌, subst, arith, bytes_eq, codes}
use Rattle.std.proofs.lemmas.Bool.{false≢true}
use Rattle.std.proofs.lemmas.Bool.Decides.{nat_tests}
use Rattle.std.proofs.lemmas.List.{length-take}
use Rattle.std.specs.List.{slice_get}
use Rattle.xfs_proto.specs.Grammar.{IsProtofilePrefix, Lacks, OffendsFirstToken, last_line}
use Rattle.xfs_proto.specs.Numbers.{number_below}
use Rattle.xfs_proto.specs.Modes.{mode_of}
use Rattle.xfs_proto.specs.Reading.{Pending, SyntaxError, State, after_group, after_kind, after_major, after_minor, after_mode, after_name, after_text, after_token, after_tokens, after_user, finished, fits_name, fits_type, has_ended, nodes_of, start}
use Rattle.xfs_proto.specs.Tokens.{Token, tokens_of}
use Rattle.xfs_proto.specs.declared.modes.FileType.{FileType}
use Rattle.xfs_proto.specs.declared.modes.FileType.TheVariants as File
use Rattle.xfs_proto.specs.declared.modes.Mode.{Mode}
use Rattle.xfs_proto.specs.declared.protofile.ProtoNode.{ProtoNode}
use Rattle.xfs_proto.specs.declared.reading.NextToken.{NextToken}
use Rattle.xfs_proto.specs.declared.reading.NextToken.TheVariants as Next
use Rattle.xfs_proto.specs.declared.reading.Open.{Open}
use Rattle.xfs_proto.proofs.Accepting.{after_tokens-append, protofile_accepted}
use Rattle.xfs_proto.proofs.Taking.{Leads, accepted_protofile, refused_stays, stops}

-- a token of this line was read, or it was refused, and not since tokens lack
abbrev Tells : ℕ → Result State SyntaxError → Type 0
Tells line (Ok s) = s.line ≡ line
Tells line (Err refusal) = (refusal.line ≡ line) × (refusal.reason ≡ 1 → ⊥)

either : (line : ℕ) (b : Bool) (x y : Result State SyntaxError) → Tells line x → Tells line y → Tells line (cond b x y)
either line true x y hx hy = hx
either line false x y hx hy = hy

name_tells : (within : Option Open) (text : List ℕ) (s : State) → Tells s.line (after_name within text s)
name_tells None text s = (refl, λ e. absurd (omega (arith, e)))
name_tells (Some at) text s =
    either s.line (bytes_eq text (codes "$")) _ _ refl (either s.line (fits_name at text s.nodes) _ _ refl (refl, λ e. absurd (omega (arith, e))))

mode_tells : (mode : Option Mode) (s : State) → Tells s.line (after_mode mode s)
mode_tells None s = (refl, λ e. absurd (omega (arith, e)))
mode_tells (Some mode) s = either s.line (fits_type s.within mode.kind) _ _ refl (refl, λ e. absurd (omega (arith, e)))

user_tells : (uid : Option ℕ) (s : State) → Tells s.line (after_user uid s)
user_tells None s = (refl, λ e. absurd (omega (arith, e)))
user_tells (Some uid) s = refl

kind_keeps : (kind : FileType) (s : State) → (after_kind kind s).line ≡ s.line
kind_keeps File.Regular s = refl
kind_keeps File.Directory s = refl
kind_keeps File.Link s = refl
kind_keeps File.Block s = refl
kind_keeps File.Character s = refl
kind_keeps File.Pipe s = refl

group_tells : (gid : Option ℕ) (s : State) → Tells s.line (after_group gid s)
group_tells None s = (refl, λ e. absurd (omega (arith, e)))
group_tells (Some gid) s = kind_keeps s.entry.mode.kind (record s { entry = record (s.entry) { gid = gid } })

major_tells : (major : Option ℕ) (s : State) → Tells s.line (after_major major s)
major_tells None s = (refl, λ e. absurd (omega (arith, e)))
major_tells (Some major) s = refl

minor_tells : (minor : Option ℕ) (s : State) → Tells s.line (after_minor minor s)
minor_tells None s = (refl, λ e. absurd (omega (arith, e)))
minor_tells (Some minor) s = refl

text_tells : (next : NextToken) (text : List ℕ) (s : State) → Tells s.line (after_text next text s)
text_tells (Next.Ignored left) text s = refl
text_tells Next.Name text s = name_tells s.within text s
text_tells Next.Mode text s = mode_tells (mode_of text) s
text_tells Next.User text s = user_tells (number_below (2 ^ 32) text) s
text_tells Next.Group text s = group_tells (number_below (2 ^ 32) text) s
text_tells Next.Source text s = refl
text_tells Next.Target text s = either s.line (nat_le (length text) 1024) _ _ refl (refl, λ e. absurd (omega (arith, e)))
text_tells Next.Major text s = major_tells (number_below (2 ^ 14) text) s
text_tells Next.Minor text s = minor_tells (number_below (2 ^ 18) text) s

token_tells : (token : Token) (s : State) → Tells token.line (after_token token s)
token_tells token s = text_tells s.expected token.text (record s { line = token.line })

-- the token that was refused
record Halts (tokens : List Token) (s : State) (refusal : SyntaxError) : Type 0 where
  before : List Token
  token : Token
  rest : List Token
  split : tokens ≡ before ++ token ∷ rest
  state : State
  reached : after_tokens before (Ok s) ≡ Ok state
  is_refused : after_token token state ≡ Err refusal

halts_or : (token : Token) (tokens : List Token) (s : State) (refusal : SyntaxError) (read : Result State SyntaxError) → after_token token s ≡ read
    → after_tokens tokens read ≡ Err refusal → ((t : State) → after_tokens tokens (Ok t) ≡ Err refusal → Halts tokens t refusal)
    → Halts (token ∷ tokens) s refusal
halts_or token tokens s refusal (Err other) is e more = record {
  before = [];
  token = token;
  rest = tokens;
  split = refl;
  state = s;
  reached = refl;
  is_refused = is ∙ (sym (refused_stays tokens other) ∙ e);
}
halts_or token tokens s refusal (Ok t) is e more =
    let h = more t e in
    record {
      before = token ∷ h.before;
      token = h.token;
      rest = h.rest;
      split = ap (λ (ts : List Token). token ∷ ts) h.split;
      state = h.state;
      reached = ap (after_tokens h.before) is ∙ h.reached;
      is_refused = h.is_refused;
    }

halts : (tokens : List Token) (s : State) (refusal : SyntaxError) → after_tokens tokens (Ok s) ≡ Err refusal → Halts tokens s refusal
halts [] s refusal e = absurd (false≢true (sym (ap is_ok e)))
halts (token ∷ tokens) s refusal e = halts_or token tokens s refusal (after_token token s) refl e (λ t. halts tokens t refusal)

-- the line after tokens that were read
line_or : (token : Token) (tokens : List Token) (t : State) (read : Result State SyntaxError) → Tells token.line read → after_tokens tokens read ≡ Ok t
    → ((s : State) → after_tokens tokens (Ok s) ≡ Ok t → t.line ≡ last_line s.line tokens) → t.line ≡ last_line token.line tokens
line_or token tokens t (Err refusal) tells e more = absurd (false≢true (ap is_ok (sym (refused_stays tokens refusal) ∙ e)))
line_or token tokens t (Ok s) tells e more = more s e ∙ ap (λ (line : ℕ). last_line line tokens) tells

abbrev state_in : Result State SyntaxError → State
state_in (Ok s) = s
state_in (Err refusal) = start

line_after : (tokens : List Token) (s t : State) → after_tokens tokens (Ok s) ≡ Ok t → t.line ≡ last_line s.line tokens
line_after [] s t e = ap (λ (x : Result State SyntaxError). (state_in x).line) (sym e)
line_after (token ∷ tokens) s t e = line_or token tokens t (after_token token s) (token_tells token s) e (λ u. line_after tokens u t)

-- more tokens lead on to a protofile
abbrev Completes : State → Type 0
Completes s = (more : List Token) × (nodes : List ProtoNode) × Leads nodes more (Ok s)

abbrev told : List ℕ → Token
told text = record { text = text; line = 1 }

stepped : (token : Token) (s t : State) → after_token token s ≡ Ok t → Completes t → Completes s
stepped token s t is done = (token ∷ done.0, done.1, ap (λ (r : Result State SyntaxError). finished (after_tokens done.0 r)) is ∙ done.2)

abbrev at_next : NextToken → Option Open → List Open → Pending → List ProtoNode → State
at_next next within outer entry nodes = record { expected = next; line = 1; within = within; outer = outer; entry = entry; nodes = nodes }

-- the directories end
closes : (n : ℕ) (within : Option Open) (outer : List Open) (line : ℕ) (e : Pending) (nodes : List ProtoNode) → length outer < n
    → Completes (record { expected = Next.Name; line = line; within = within; outer = outer; entry = e; nodes = nodes })
closes n None outer line e nodes few = ([], nodes, refl)
closes zero (Some at) outer line e nodes few = absurd (omega (arith, few))
closes (suc n) (Some at) [] line e nodes few = (told (codes "$") ∷ [], nodes, refl)
closes (suc n) (Some at) (o ∷ os) line e nodes few =
    let outer : List Open = o ∷ os in
    let fewer : length (take (length outer - 1) outer) < n = let short = length-take (length outer - 1) outer in omega (arith, few, short) in
    stepped (told (codes "$")) (record { expected = Next.Name; line = line; within = Some at; outer = outer; entry = e; nodes = nodes })
    (at_next Next.Name (slice_get outer (length outer - 1)) (take (length outer - 1) outer) e nodes) refl
    (closes n (slice_get outer (length outer - 1)) (take (length outer - 1) outer) 1 e nodes fewer)

name_completes : (within : Option Open) (outer : List Open) (line : ℕ) (e : Pending) (nodes : List ProtoNode)
    → Completes (record { expected = Next.Name; line = line; within = within; outer = outer; entry = e; nodes = nodes })
name_completes within outer line e nodes = closes (suc (length outer)) within outer line e nodes (omega arith)

minor_completes : (within : Option Open) (outer : List Open) (line : ℕ) (e : Pending) (nodes : List ProtoNode)
    → Completes (record { expected = Next.Minor; line = line; within = within; outer = outer; entry = e; nodes = nodes })
unfolding number_below
minor_completes within outer line e nodes =
    stepped (told (codes "0")) (record { expected = Next.Minor; line = line; within = within; outer = outer; entry = e; nodes = nodes }) _ refl (name_completes within outer 1 e _)

major_completes : (within : Option Open) (outer : List Open) (line : ℕ) (e : Pending) (nodes : List ProtoNode)
    → Completes (record { expected = Next.Major; line = line; within = within; outer = outer; entry = e; nodes = nodes })
unfolding number_below
major_completes within outer line e nodes =
    stepped (told (codes "0")) (record { expected = Next.Major; line = line; within = within; outer = outer; entry = e; nodes = nodes }) _ refl
    (minor_completes within outer 1 (record e { major = 0 }) nodes)

source_completes : (within : Option Open) (outer : List Open) (line : ℕ) (e : Pending) (nodes : List ProtoNode)
    → Completes (record { expected = Next.Source; line = line; within = within; outer = outer; entry = e; nodes = nodes })
source_completes within outer line e nodes =
    stepped (told (codes "0")) (record { expected = Next.Source; line = line; within = within; outer = outer; entry = e; nodes = nodes }) _ refl (name_completes within outer 1 e _)

target_completes : (within : Option Open) (outer : List Open) (line : ℕ) (e : Pending) (nodes : List ProtoNode)
    → Completes (record { expected = Next.Target; line = line; within = within; outer = outer; entry = e; nodes = nodes })
target_completes within outer line e nodes =
    stepped (told (codes "0")) (record { expected = Next.Target; line = line; within = within; outer = outer; entry = e; nodes = nodes }) _ refl (name_completes within outer 1 e _)

kind_completes : (kind : FileType) (within : Option Open) (outer : List Open) (e : Pending) (nodes : List ProtoNode)
    → Completes (after_kind kind (at_next Next.Group within outer e nodes))
kind_completes File.Regular within outer e nodes = source_completes within outer 1 e nodes
kind_completes File.Directory within outer e nodes = name_completes _ _ 1 e _
kind_completes File.Link within outer e nodes = target_completes within outer 1 e nodes
kind_completes File.Block within outer e nodes = major_completes within outer 1 e nodes
kind_completes File.Character within outer e nodes = major_completes within outer 1 e nodes
kind_completes File.Pipe within outer e nodes = name_completes within outer 1 e _

group_completes : (within : Option Open) (outer : List Open) (line : ℕ) (e : Pending) (nodes : List ProtoNode)
    → Completes (record { expected = Next.Group; line = line; within = within; outer = outer; entry = e; nodes = nodes })
unfolding number_below
group_completes within outer line e nodes =
    stepped (told (codes "0")) (record { expected = Next.Group; line = line; within = within; outer = outer; entry = e; nodes = nodes })
    (after_kind e.mode.kind (at_next Next.Group within outer (record e { gid = 0 }) nodes)) refl
    (kind_completes e.mode.kind within outer (record e { gid = 0 }) nodes)

user_completes : (within : Option Open) (outer : List Open) (line : ℕ) (e : Pending) (nodes : List ProtoNode)
    → Completes (record { expected = Next.User; line = line; within = within; outer = outer; entry = e; nodes = nodes })
unfolding number_below
user_completes within outer line e nodes =
    stepped (told (codes "0")) (record { expected = Next.User; line = line; within = within; outer = outer; entry = e; nodes = nodes })
    (at_next Next.Group within outer (record e { uid = 0 }) nodes) refl
    (group_completes within outer 1 (record e { uid = 0 }) nodes)

mode_completes : (within : Option Open) (outer : List Open) (line : ℕ) (e : Pending) (nodes : List ProtoNode)
    → Completes (record { expected = Next.Mode; line = line; within = within; outer = outer; entry = e; nodes = nodes })
unfolding mode_of
mode_completes None outer line e nodes =
    let entry : Pending = record e { mode = record { kind = File.Directory; bits = 0x4000 } } in
    stepped (told (codes "d--000")) (record { expected = Next.Mode; line = line; within = None; outer = outer; entry = e; nodes = nodes })
    (at_next Next.User None outer entry nodes) refl (user_completes None outer 1 entry nodes)
mode_completes (Some at) outer line e nodes =
    let entry : Pending = record e { mode = record { kind = File.Directory; bits = 0x4000 } } in
    stepped (told (codes "d--000")) (record { expected = Next.Mode; line = line; within = Some at; outer = outer; entry = e; nodes = nodes })
    (at_next Next.User (Some at) outer entry nodes) refl (user_completes (Some at) outer 1 entry nodes)

ignored_completes : (left : ℕ) (within : Option Open) (outer : List Open) (line : ℕ) (e : Pending) (nodes : List ProtoNode)
    → Completes (record { expected = Next.Ignored left; line = line; within = within; outer = outer; entry = e; nodes = nodes })
ignored_completes zero within outer line e nodes =
    stepped (told (codes "0")) (record { expected = Next.Ignored 0; line = line; within = within; outer = outer; entry = e; nodes = nodes })
    (at_next Next.Mode within outer e nodes) refl (mode_completes within outer 1 e nodes)
ignored_completes (suc zero) within outer line e nodes =
    stepped (told (codes "0")) (record { expected = Next.Ignored 1; line = line; within = within; outer = outer; entry = e; nodes = nodes })
    (at_next Next.Mode within outer e nodes) refl (mode_completes within outer 1 e nodes)
ignored_completes (suc (suc k)) within outer line e nodes =
    let more : nat_le (suc (suc k)) 1 ≡ false = grind (arith, nat_tests) in
    let less : suc (suc k) - 1 ≡ suc k = omega arith in
    stepped (told (codes "0")) (record { expected = Next.Ignored (suc (suc k)); line = line; within = within; outer = outer; entry = e; nodes = nodes })
    (at_next (Next.Ignored (suc k)) within outer e nodes)
    (ap (λ (b : Bool). Ok (at_next (cond b Next.Mode (Next.Ignored (suc (suc k) - 1))) within outer e nodes)) more
    ∙ ap (λ (n : ℕ). Ok (at_next (Next.Ignored n) within outer e nodes)) less)
    (ignored_completes (suc k) within outer 1 e nodes)

next_completes : (next : NextToken) (within : Option Open) (outer : List Open) (line : ℕ) (e : Pending) (nodes : List ProtoNode)
    → Completes (record { expected = next; line = line; within = within; outer = outer; entry = e; nodes = nodes })
next_completes (Next.Ignored left) within outer line e nodes = ignored_completes left within outer line e nodes
next_completes Next.Name within outer line e nodes = name_completes within outer line e nodes
next_completes Next.Mode within outer line e nodes = mode_completes within outer line e nodes
next_completes Next.User within outer line e nodes = user_completes within outer line e nodes
next_completes Next.Group within outer line e nodes = group_completes within outer line e nodes
next_completes Next.Source within outer line e nodes = source_completes within outer line e nodes
next_completes Next.Target within outer line e nodes = target_completes within outer line e nodes
next_completes Next.Major within outer line e nodes = major_completes within outer line e nodes
next_completes Next.Minor within outer line e nodes = minor_completes within outer line e nodes

-- tokens that were read can be continued to a protofile
begun : (tokens : List Token) (s : State) → after_tokens tokens (Ok start) ≡ Ok s → IsProtofilePrefix tokens
begun tokens s read =
    let done = next_completes s.expected s.within s.outer s.line s.entry s.nodes in (
      done.0,
      done.1,
      accepted_protofile (tokens ++ done.0) done.1
          (ap finished (after_tokens-append tokens done.0 (Ok start) ∙ ap (after_tokens done.0) read) ∙ done.2),
    )

-- with a token that was refused they can't
not_begun : (before : List Token) (token : Token) (s : State) (refusal : SyntaxError) → after_tokens before (Ok start) ≡ Ok s
    → after_token token s ≡ Err refusal → IsProtofilePrefix (before ++ token ∷ []) → ⊥
not_begun before token s refusal read is_refused more =
    let here : after_tokens (before ++ token ∷ []) (Ok start) ≡ Err refusal
    = after_tokens-append before (token ∷ []) (Ok start) ∙ ap (after_tokens (token ∷ [])) read ∙ is_refused in
    stops more.1 more.0 refusal
    (ap finished (ap (after_tokens more.0) (sym here) ∙ sym (after_tokens-append (before ++ token ∷ []) more.0 (Ok start)))
    ∙ protofile_accepted (before ++ token ∷ [] ++ more.0) more.1 more.2)

abbrev refusal_in : {A : Type 0} → Result A SyntaxError → SyntaxError
refusal_in (Ok x) = record { line = 0; reason = 0 }
refusal_in (Err refusal) = refusal

abbrev refusal_of : ℕ → ℕ → Result (List ProtoNode) SyntaxError
refusal_of line reason = Err (record { line = line; reason = reason })

offends_or : (tokens : List Token) (line reason : ℕ) (read : Result State SyntaxError) → after_tokens tokens (Ok start) ≡ read
    → finished read ≡ Err (record { line = line; reason = reason }) → (reason ≡ 1 → ⊥) → OffendsFirstToken tokens line
offends_or tokens line reason (Err refusal) read says other =
    let h = halts tokens start refusal read in
    let tells : Tells h.token.line (Err refusal) = subst (Tells h.token.line) h.is_refused (token_tells h.token h.state) in
    record {
      before = h.before;
      token = h.token;
      rest = h.rest;
      split = h.split;
      at_line = sym tells.0 ∙ ap (λ (x : Result (List ProtoNode) SyntaxError). (refusal_in x).line) says;
      goes_on = begun h.before h.state h.reached;
      ends_here = not_begun h.before h.token h.state refusal h.reached h.is_refused;
    }
offends_or tokens line reason (Ok s) read says other = absurd (by_case (has_ended s.expected s.within) says) where
  by_case : (b : Bool) → cond b (Ok s.nodes) (Err (record { line = s.line; reason = 1 })) ≡ refusal_of line reason → ⊥
  by_case true e = false≢true (sym (ap is_ok e))
  by_case false e = other (ap (λ (x : Result (List ProtoNode) SyntaxError). (refusal_in x).reason) (sym e))

lacks_or : (tokens : List Token) (line : ℕ) (read : Result State SyntaxError) → after_tokens tokens (Ok start) ≡ read
    → finished read ≡ Err (record { line = line; reason = 1 }) → Lacks tokens line
lacks_or tokens line (Err refusal) read says =
    let h = halts tokens start refusal read in
    let tells : Tells h.token.line (Err refusal) = subst (Tells h.token.line) h.is_refused (token_tells h.token h.state) in
    absurd (tells.1 (ap (λ (x : Result (List ProtoNode) SyntaxError). (refusal_in x).reason) says))
lacks_or tokens line (Ok s) read says = by_case (has_ended s.expected s.within) refl says where
  by_case : (b : Bool) → has_ended s.expected s.within ≡ b
      → cond b (Ok s.nodes) (Err (record { line = s.line; reason = 1 })) ≡ refusal_of line 1 → Lacks tokens line
  by_case true is e = absurd (false≢true (sym (ap is_ok e)))
  by_case false is e = record {
    at_line = sym (line_after tokens start s read) ∙ ap (λ (x : Result (List ProtoNode) SyntaxError). (refusal_in x).line) e;
    goes_on = begun tokens s read;
    is_none = λ nodes proto. false≢true (ap is_ok (sym says ∙ (ap finished (sym read) ∙ protofile_accepted tokens nodes proto)));
  }

-- what is told of a text that is refused
pub offends : (text : List ℕ) (line reason : ℕ) → nodes_of text ≡ Err (record { line = line; reason = reason }) → (reason ≡ 1 → ⊥)
    → OffendsFirstToken (tokens_of text) line
unfolding nodes_of
offends text line reason says other = offends_or (tokens_of text) line reason (after_tokens (tokens_of text) (Ok start)) refl says other

pub lacks : (text : List ℕ) (line : ℕ) → nodes_of text ≡ Err (record { line = line; reason = 1 }) → Lacks (tokens_of text) line
unfolding nodes_of
lacks text line says = lacks_or (tokens_of text) line (after_tokens (tokens_of text) (Ok start)) refl says
