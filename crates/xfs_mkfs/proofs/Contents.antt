-- The bytes of the files of a protofile, one after the other.
use Rattle.std.proofs.Common.{◌≡◌, ℕ, ◌+◌, ◌≤◌, ◌<◌, List, [], ◌∷◌, ◌++◌, length, get_or, Option, Some, None, Result, Ok, Err, append_assoc, append-nil, refl, sym, ap, ◌∙◌}
use Rattle.std.specs.Prelude.{drop}
use Rattle.std.proofs.lemmas.List.{drop_all, drop_more}
use Rattle.xfs_disk.specs.Files.{Files}
use Rattle.xfs_proto.specs.declared.protofile.ProtoKind.{ProtoKind}
use Rattle.xfs_proto.specs.declared.protofile.ProtoNode.{ProtoNode}
use Rattle.xfs_mkfs.specs.FilesAsked.{IsContentAnswer, IsContentsAnswer, content_in, contents_in, line_in, with_content, with_contents}
use Rattle.xfs_mkfs.specs.declared.outcome.MakeOutcome.{MakeOutcome}
use Rattle.xfs_mkfs.specs.declared.outcome.MakeOutcome.TheVariants as Out

-- what is read of the files behind these
abbrev pub behind : List (List ℕ) → Result (List (List ℕ)) ℕ → Result (List (List ℕ)) ℕ
behind front (Ok all) = Ok (front ++ all)
behind front (Err line) = Err line

behind_none : (rest : Result (List (List ℕ)) ℕ) → rest ≡ behind [] rest
behind_none (Ok all) = refl
behind_none (Err line) = refl

behind_more : (front : List (List ℕ)) (bytes : List ℕ) (rest : Result (List (List ℕ)) ℕ) → behind front (with_contents bytes rest) ≡ behind (front ++ bytes ∷ []) rest
behind_more front bytes (Ok all) = ap (λ (xs : List (List ℕ)). Ok xs) (sym (append_assoc front (bytes ∷ []) all))
behind_more front bytes (Err line) = refl

-- the first files were read, and behind them stands what is left
abbrev pub IsReadUpTo : Files → List ProtoNode → ℕ → List (List ℕ) → Type 0
IsReadUpTo map nodes i front = contents_in map nodes ≡ behind front (contents_in map (drop i nodes))

pub none_read : (map : Files) (nodes : List ProtoNode) → IsReadUpTo map nodes 0 []
none_read map nodes = behind_none (contents_in map nodes)

step : (map : Files) (nodes : List ProtoNode) (i : ℕ) (d : ProtoNode) (front : List (List ℕ)) → i < length nodes → IsReadUpTo map nodes i front
    → contents_in map nodes ≡ behind front (with_content (content_in map (get_or nodes i d).kind) (line_in (get_or nodes i d).kind) (contents_in map (drop (i + 1) nodes)))
step map nodes i d front low read = read ∙ ap (λ (ns : List ProtoNode). behind front (contents_in map ns)) (drop_more nodes i d low)

pub one_more_read : (map : Files) (nodes : List ProtoNode) (i : ℕ) (d : ProtoNode) (front : List (List ℕ)) (bytes : List ℕ) → i < length nodes
    → content_in map (get_or nodes i d).kind ≡ Some bytes → IsReadUpTo map nodes i front → IsReadUpTo map nodes (i + 1) (front ++ bytes ∷ [])
one_more_read map nodes i d front bytes low is read =
    let rest = contents_in map (drop (i + 1) nodes) in
    step map nodes i d front low read
    ∙ ap (λ (found : Option (List ℕ)). behind front (with_content found (line_in (get_or nodes i d).kind) rest)) is
    ∙ behind_more front bytes rest

pub missing_there : (map : Files) (nodes : List ProtoNode) (i : ℕ) (d : ProtoNode) (front : List (List ℕ)) (line : ℕ) → i < length nodes
    → line ≡ line_in (get_or nodes i d).kind → content_in map (get_or nodes i d).kind ≡ None → IsReadUpTo map nodes i front → contents_in map nodes ≡ Err line
missing_there map nodes i d front line low at is read =
    step map nodes i d front low read
    ∙ ap (λ (found : Option (List ℕ)). behind front (with_content found (line_in (get_or nodes i d).kind) (contents_in map (drop (i + 1) nodes)))) is
    ∙ ap (λ (n : ℕ). Err n) (sym at)

pub all_read : (map : Files) (nodes : List ProtoNode) (i : ℕ) (front : List (List ℕ)) → length nodes ≤ i → IsReadUpTo map nodes i front → contents_in map nodes ≡ Ok front
all_read map nodes i front past read =
    read ∙ ap (λ (ns : List ProtoNode). behind front (contents_in map ns)) (drop_all i nodes past) ∙ ap (λ (xs : List (List ℕ)). Ok xs) (append-nil front)

-- where one file is not read, not all are
pub contents_answer : (told : Option Files) (nodes : List ProtoNode) (kind : ProtoKind) (outcome : MakeOutcome) → IsContentAnswer told kind outcome
    → ((map : Files) (line : ℕ) → told ≡ Some map → line ≡ line_in kind → content_in map kind ≡ None → contents_in map nodes ≡ Err line)
    → IsContentsAnswer told nodes outcome
contents_answer told nodes kind (Out.Made summary) is missing = absurd is
contents_answer told nodes kind (Out.TooSmall what) is missing = absurd is
contents_answer told nodes kind Out.HasVolume is missing = absurd is
contents_answer told nodes kind (Out.BadProto line reason) is missing = absurd is
contents_answer told nodes kind (Out.NoFile line) is missing = λ map tells. missing map line tells is.0 (is.1 map tells)
contents_answer told nodes kind Out.LibraryFault is missing = tt
contents_answer told nodes kind (Out.NoRoom what) is missing = absurd is
contents_answer told nodes kind (Out.ReadFault faults) is missing = absurd is
contents_answer told nodes kind (Out.WriteFault n) is missing = absurd is
contents_answer told nodes kind Out.NoMemory is missing = tt
