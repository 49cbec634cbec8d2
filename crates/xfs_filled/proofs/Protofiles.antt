-- The files that a protofile says are such as a new volume can have.
use Rattle.std.proofs.Common.{◌≡◌, ◌≢◌, ℕ, zero, suc, ◌+◌, ◌-◌, ◌*◌, ◌/◌, ◌^◌, ◌==◌, ◌&&◌, ◌||◌, ◌≤◌, ◌<◌, Bool, true, false, cond, not, nat_le, nat_lt, List, [], ◌∷◌, ◌++◌, length, length-append, Option, Some, None, refl, sym, subst, ap, ◌∙◌, arith, append-nil, append_assoc}
use Rattle.std.specs.List.{All, list_any}
use Rattle.std.specs.Str.{bytes_eq}
use Rattle.std.proofs.lemmas.Bool.{and_parts, eq-eqb, leb-true, ltb-true, true≢false}
use Rattle.std.proofs.lemmas.List.Elements.{All-append}
use Rattle.std.proofs.lemmas.Slice.Eq.{bytes_eq-Decides}
use Rattle.xfs_proto.specs.Grammar.{TypeTokens, Entries, Head, IsProtofile, empty_directory, entry_node, head_tokens}
use Rattle.xfs_proto.specs.Grammar.TypeTokens.{regular, link, block, character, pipe}
use Rattle.xfs_proto.specs.Grammar.Entries.{none, file, directory}
use Rattle.xfs_proto.specs.Modes.{bits_of, digit_of, flag_of, mode_of, mode_with, permissions_of, permissions_with, type_of_letter}
use Rattle.xfs_proto.specs.Numbers.{limited, number_below}
use Rattle.xfs_proto.specs.Reading.{has_entry_named, one_more}
use Rattle.xfs_proto.specs.Tokens.{Place, Token, behind_blank, behind_byte, ended, is_blank, next_line, tokens_from, tokens_of}
use Rattle.xfs_proto.specs.Tokens.Place.{between, inside, comment}
use Rattle.xfs_proto.specs.declared.modes.FileType.{FileType}
use Rattle.xfs_proto.specs.declared.modes.FileType.TheVariants as File
use Rattle.xfs_proto.specs.declared.modes.Mode.{Mode}
use Rattle.xfs_proto.specs.declared.protofile.ProtoKind.{ProtoKind}
use Rattle.xfs_proto.specs.declared.protofile.ProtoKind.TheVariants as Kind
use Rattle.xfs_proto.specs.declared.protofile.ProtoNode.{ProtoNode}
use Rattle.xfs_proto.specs.declared.reading.Open.{Open}
use Rattle.xfs_volume.specs.Names.{is_name}
use Rattle.xfs_filled.specs.FileTrees.{AreProtoNodes, CanHold, child_places, is_directory_node, is_directory_kind, node_at, type_of_kind}
use Rattle.xfs_filled.proofs.Growing.{Joins, count_next, count_none, count_same, directory_front, longer, node_last, with_file}

-- a token has a text
abbrev HasText : Token → Type 0
HasText token = 1 ≤ length token.text

abbrev CanEnd : Place → Type 0
CanEnd between = Unit {0}
CanEnd (inside text) = 1 ≤ length text
CanEnd comment = Unit {0}

ended_has : (line : ℕ) (place : Place) → CanEnd place → All HasText (ended line place)
ended_has line between some k d low = absurd (omega (arith, low))
ended_has line (inside text) some zero d low = some
ended_has line (inside text) some (suc k) d low = absurd (omega (arith, low))
ended_has line comment some k d low = absurd (omega (arith, low))

behind_byte_can : (byte : ℕ) (place : Place) → CanEnd place → CanEnd (behind_byte byte place)
behind_byte_can byte between some = by_case (byte == 58)
  where
    by_case : (r : Bool) → CanEnd (cond r comment (inside (byte ∷ [])))
    by_case true = tt
    by_case false = omega arith
behind_byte_can byte (inside text) some = let long = length-append text (byte ∷ []) in omega (arith, long)
behind_byte_can byte comment some = tt

behind_blank_can : (byte : ℕ) (place : Place) → CanEnd (behind_blank byte place)
behind_blank_can byte between = tt
behind_blank_can byte (inside text) = tt
behind_blank_can byte comment = by_case (byte == 10)
  where
    by_case : (r : Bool) → CanEnd (cond r between comment)
    by_case true = tt
    by_case false = tt

from_have : (line : ℕ) (place : Place) (bytes : List ℕ) → CanEnd place → All HasText (tokens_from line place bytes)
from_have line place [] some = ended_has line place some
from_have line place (byte ∷ bytes) some =
    by_case (from_have (next_line byte line) (behind_blank byte place) bytes (behind_blank_can byte place))
    (from_have line (behind_byte byte place) bytes (behind_byte_can byte place some)) (is_blank byte)
  where
    by_case : All HasText (tokens_from (next_line byte line) (behind_blank byte place) bytes) → All HasText (tokens_from line (behind_byte byte place) bytes) → (r : Bool)
        → All HasText (cond r (ended line place ++ tokens_from (next_line byte line) (behind_blank byte place) bytes) (tokens_from line (behind_byte byte place) bytes))
    by_case blank other true = All-append HasText (ended line place) (tokens_from (next_line byte line) (behind_blank byte place) bytes) (ended_has line place some) blank
    by_case blank other false = other

tokens_have : (text : List ℕ) → All HasText (tokens_of text)
unfolding tokens_of
tokens_have text = from_have 1 between text tt

-- modes: the type stands in the upper four bits
abbrev number_of_type : FileType → ℕ
number_of_type File.Regular = 8
number_of_type File.Directory = 4
number_of_type File.Link = 10
number_of_type File.Block = 6
number_of_type File.Character = 2
number_of_type File.Pipe = 1

flag_low : (b : Bool) (n : ℕ) → cond b n 0 ≤ n
flag_low true n = omega arith
flag_low false n = omega arith

bits_typed : (kind : FileType) (user group : Bool) (p : ℕ) → p < 512 → bits_of kind user group p / 2 ^ 12 ≡ number_of_type kind
bits_typed File.Regular user group p low = let a = flag_low user 0x800 in let b = flag_low group 0x400 in omega (arith, a, b, low)
bits_typed File.Directory user group p low = let a = flag_low user 0x800 in let b = flag_low group 0x400 in omega (arith, a, b, low)
bits_typed File.Link user group p low = let a = flag_low user 0x800 in let b = flag_low group 0x400 in omega (arith, a, b, low)
bits_typed File.Block user group p low = let a = flag_low user 0x800 in let b = flag_low group 0x400 in omega (arith, a, b, low)
bits_typed File.Character user group p low = let a = flag_low user 0x800 in let b = flag_low group 0x400 in omega (arith, a, b, low)
bits_typed File.Pipe user group p low = let a = flag_low user 0x800 in let b = flag_low group 0x400 in omega (arith, a, b, low)

abbrev number_in : Option ℕ → ℕ
number_in None = 0
number_in (Some n) = n

abbrev mode_in : Option Mode → Mode
mode_in None = record { kind = File.Pipe; bits = 0 }
mode_in (Some m) = m

digit_low : (byte n : ℕ) → digit_of byte ≡ Some n → n < 8
digit_low byte n = by_case (nat_le 48 byte && nat_le byte 55) refl
  where
    by_case : (r : Bool) → (nat_le 48 byte && nat_le byte 55) ≡ r → cond r (Some (byte - 48)) None ≡ Some n → n < 8
    by_case true is said =
        let most = leb-true byte 55 (and_parts (nat_le 48 byte) (nat_le byte 55) is).1 in
        let value : byte - 48 ≡ n = ap number_in said in
        omega (arith, most, value)
    by_case false is said = cc

permissions_low : (a b c p : ℕ) → permissions_of a b c ≡ Some p → p < 512
permissions_low a b c p = by_case (digit_of a) (digit_of b) (digit_of c) refl refl refl
  where
    by_case : (x y z : Option ℕ) → digit_of a ≡ x → digit_of b ≡ y → digit_of c ≡ z → permissions_with x y z ≡ Some p → p < 512
    by_case None y z first second third said = cc
    by_case (Some x) None z first second third said = cc
    by_case (Some x) (Some y) None first second third said = cc
    by_case (Some x) (Some y) (Some z) first second third said =
        let i = digit_low a x first in
        let j = digit_low b y second in
        let k = digit_low c z third in
        let value : x * 64 + y * 8 + z ≡ p = ap number_in said in
        omega (arith, i, j, k, value)

parts_typed : (kind : Option FileType) (user group : Option Bool) (permissions : Option ℕ) (m : Mode) → ((p : ℕ) → permissions ≡ Some p → p < 512)
    → mode_with kind user group permissions ≡ Some m → m.bits / 2 ^ 12 ≡ number_of_type m.kind
parts_typed None user group permissions m low said = cc
parts_typed (Some kind) None group permissions m low said = cc
parts_typed (Some kind) (Some user) None permissions m low said = cc
parts_typed (Some kind) (Some user) (Some group) None m low said = cc
parts_typed (Some kind) (Some user) (Some group) (Some p) m low said =
    subst (λ (n : Mode). n.bits / 2 ^ 12 ≡ number_of_type n.kind) (ap mode_in said) (bits_typed kind user group p (low p refl))

mode_typed : (text : List ℕ) (m : Mode) → mode_of text ≡ Some m → m.bits / 2 ^ 12 ≡ number_of_type m.kind
unfolding mode_of
mode_typed [] m said = cc
mode_typed (a ∷ []) m said = cc
mode_typed (a ∷ b ∷ []) m said = cc
mode_typed (a ∷ b ∷ c ∷ []) m said = cc
mode_typed (a ∷ b ∷ c ∷ d ∷ []) m said = cc
mode_typed (a ∷ b ∷ c ∷ d ∷ e ∷ []) m said = cc
mode_typed (a ∷ b ∷ c ∷ d ∷ e ∷ f ∷ []) m said = parts_typed (type_of_letter a) (flag_of 117 b) (flag_of 103 c) (permissions_of d e f) m (permissions_low d e f) said
mode_typed (a ∷ b ∷ c ∷ d ∷ e ∷ f ∷ h ∷ rest) m said = cc

-- numbers below a limit
limited_low : (limit n : ℕ) (o : Option ℕ) → limited limit o ≡ Some n → n < limit
limited_low limit n None said = cc
limited_low limit n (Some m) said = by_case (nat_lt m limit) refl said
  where
    by_case : (r : Bool) → nat_lt m limit ≡ r → cond r (Some m) None ≡ Some n → n < limit
    by_case true is said = let less = ltb-true m limit is in let value : m ≡ n = ap number_in said in omega (arith, less, value)
    by_case false is said = cc

below_low : (limit n : ℕ) (text : List ℕ) → number_below limit text ≡ Some n → n < limit
unfolding number_below
below_low limit n text said = limited_low limit n _ said

-- what stands behind the owners of an entry says a content of its type, which a file can hold
content_typed : (kind : FileType) (content : List Token) (says : ProtoKind) → TypeTokens kind content says → type_of_kind says ≡ number_of_type kind
content_typed _ _ _ (regular source) = refl
content_typed _ _ _ (link target short) = refl
content_typed _ _ _ (block upper lower m n is_upper is_lower) = refl
content_typed _ _ _ (character upper lower m n is_upper is_lower) = refl
content_typed _ _ _ pipe = refl

content_holds : (kind : FileType) (content : List Token) (says : ProtoKind) → TypeTokens kind content says → All HasText content → CanHold says
content_holds _ _ _ (regular source) have = tt
content_holds _ _ _ (link target short) have = (have zero target (omega arith), leb-true (length target.text) 1024 short)
content_holds _ _ _ (block upper lower m n is_upper is_lower) have = (below_low (2 ^ 14) m upper.text is_upper, below_low (2 ^ 18) n lower.text is_lower)
content_holds _ _ _ (character upper lower m n is_upper is_lower) have = (below_low (2 ^ 14) m upper.text is_upper, below_low (2 ^ 18) n lower.text is_lower)
content_holds _ _ _ pipe have = tt

-- a directory among the files, with so many entries
record Stands (at : Open) (before : List ProtoNode) : Type 0 where
  pub files : AreProtoNodes before
  pub low : at.directory < length before
  pub is : is_directory_node before at.directory ≡ true
  pub count : length (child_places before at.directory) ≡ at.entries

-- with these files behind them, all other directories have what they had
record Grows (at : Open) (before nodes : List ProtoNode) : Type 0 where
  pub files : AreProtoNodes (before ++ nodes)
  pub others : (k : ℕ) → k < length before → k ≢ at.directory → length (child_places (before ++ nodes) k) ≡ length (child_places before k)

met : (p : ProtoNode → Bool) (xs : List ProtoNode) (i : ℕ) → i < length xs → p (node_at xs i) ≡ true → list_any p xs ≡ true
met p [] i low is = absurd (omega (arith, low))
met p (x ∷ xs) zero low is = ap (λ (t : Bool). t || list_any p xs) is
met p (x ∷ xs) (suc i) low is = by_case (met p xs i (omega (arith, low)) is) (p x)
  where
    by_case : list_any p xs ≡ true → (r : Bool) → (r || list_any p xs) ≡ true
    by_case rest true = refl
    by_case rest false = rest

both_true : (a b : Bool) → a ≡ true → b ≡ true → (a && b) ≡ true
both_true a b first second = rw (first, second) refl

clash : (b : Bool) → not b ≡ true → b ≡ true → ⊥
clash true denied is = true≢false (sym denied)
clash false denied is = true≢false (sym is)

-- the file of an entry can stand behind those before it
can_join : (at : Open) (before : List ProtoNode) (h : Head at before) (kind : ProtoKind) → Stands at before → type_of_kind kind ≡ number_of_type h.says.kind → CanHold kind
    → Joins before (entry_node h kind)
can_join at before h kind stands typed holds =
    let fits = and_parts (is_name h.name.text && nat_lt at.entries (2 ^ 24)) (not (has_entry_named before at.directory h.name.text)) h.fits in
    let first = and_parts (is_name h.name.text) (nat_lt at.entries (2 ^ 24)) fits.0 in
    let room = ltb-true at.entries (2 ^ 24) first.1 in
    let count = stands.count in
    record {
      inside = stands.low;
      directory = stands.is;
      name = first.0;
      alone = λ i low same equal.
          clash (has_entry_named before at.directory h.name.text) fits.1
          (met (λ (n : ProtoNode). n.parent == at.directory && bytes_eq n.name h.name.text) before i low
          (both_true ((node_at before i).parent == at.directory) (bytes_eq (node_at before i).name h.name.text) (eq-eqb (node_at before i).parent at.directory same)
          ((bytes_eq-Decides (node_at before i).name h.name.text).1 equal)));
      room = omega (arith, room, count);
      typed = mode_typed h.mode.text h.says h.is_mode ∙ sym typed;
      holds = holds;
    }

-- behind one entry
behind : (at : Open) (before : List ProtoNode) (n : ProtoNode) → Stands at before → Joins before n → n.parent ≡ at.directory → Stands (one_more at) (before ++ n ∷ [])
behind at before n stands new same =
    let long = longer before n in
    let low = stands.low in
    let count = stands.count in
    let next = count_next before n stands.files.some at.directory same in
    record {
      files = with_file before n stands.files new;
      low = omega (arith, long, low);
      is = directory_front before (n ∷ []) at.directory low stands.is;
      count = omega (arith, next, count);
    }

parts : (P : Token → Type 0) (xs ys : List Token) → All P (xs ++ ys) → All P xs × All P ys
parts P [] ys all = (λ k d low. absurd (omega (arith, low)), all)
parts P (x ∷ xs) ys all =
    let rest = parts P xs ys (λ k d low. all (suc k) d (omega (arith, low))) in (
      by_place rest.0,
      rest.1,
    )
  where
    by_place : All P xs → All P (x ∷ xs)
    by_place more zero d low = all zero d (omega arith)
    by_place more (suc k) d low = more k d (omega (arith, low))

-- a further list behind these
joined : (at : Open) (before : List ProtoNode) (n : ProtoNode) (nodes : List ProtoNode) → Stands at before → n.parent ≡ at.directory
    → Grows (one_more at) (before ++ n ∷ []) nodes → Grows at before (n ∷ nodes)
joined at before n nodes stands same grows =
    let is : (before ++ n ∷ []) ++ nodes ≡ before ++ n ∷ nodes = append_assoc before (n ∷ []) nodes in
    let long = longer before n in
    record {
      files = subst AreProtoNodes is grows.files;
      others = λ k low other.
          ap (λ (ns : List ProtoNode). length (child_places ns k)) (sym is) ∙ grows.others k (omega (arith, long, low)) other
          ∙ count_same before n stands.files.some k (λ there. other (sym there ∙ same));
    }

-- in a directory that has no entries yet
opened : (before : List ProtoNode) (n : ProtoNode) → AreProtoNodes (before ++ n ∷ []) → n.kind ≡ Kind.Directory → Stands (empty_directory before) (before ++ n ∷ [])
opened before n files kind =
    let long = longer before n in
    record {
      files = files;
      low = omega (arith, long);
      is = ap (λ (x : ProtoNode). is_directory_kind x.kind) (node_last before n (length before) refl) ∙ ap is_directory_kind kind;
      count = count_none (before ++ n ∷ []) (length before) files (omega (arith, long));
    }

-- behind a directory with its entries
passed : (at : Open) (before : List ProtoNode) (n : ProtoNode) (below : List ProtoNode) → Stands at before → Stands (one_more at) (before ++ n ∷ [])
    → Grows (empty_directory before) (before ++ n ∷ []) below → Stands (one_more at) (before ++ n ∷ below)
passed at before n below stands now within =
    let is : (before ++ n ∷ []) ++ below ≡ before ++ n ∷ below = append_assoc before (n ∷ []) below in
    let long = length-append before (n ∷ below) in
    let low = stands.low in
    record {
      files = subst AreProtoNodes is within.files;
      low = omega (arith, long, low);
      is = directory_front before (n ∷ below) at.directory low stands.is;
      count = ap (λ (ns : List ProtoNode). length (child_places ns at.directory)) (sym is)
          ∙ within.others at.directory now.low (λ same. absurd (omega (arith, same, low))) ∙ now.count;
    }

further : (at : Open) (before : List ProtoNode) (n : ProtoNode) (below nodes : List ProtoNode) → Stands at before → n.parent ≡ at.directory
    → Grows (empty_directory before) (before ++ n ∷ []) below → Grows (one_more at) (before ++ n ∷ below) nodes → Grows at before (n ∷ (below ++ nodes))
further at before n below nodes stands same within grows =
    let inner : (before ++ n ∷ []) ++ below ≡ before ++ n ∷ below = append_assoc before (n ∷ []) below in
    let is : (before ++ n ∷ below) ++ nodes ≡ before ++ n ∷ (below ++ nodes) = append_assoc before (n ∷ below) nodes in
    let long = length-append before (n ∷ below) in
    let one = longer before n in
    record {
      files = subst AreProtoNodes is grows.files;
      others = λ k low other.
          ap (λ (ns : List ProtoNode). length (child_places ns k)) (sym is) ∙ grows.others k (omega (arith, long, low)) other
          ∙ ap (λ (ns : List ProtoNode). length (child_places ns k)) (sym inner) ∙ within.others k (omega (arith, one, low)) (λ there. absurd (omega (arith, there, low)))
          ∙ count_same before n stands.files.some k (λ there. other (sym there ∙ same));
    }

-- the entries of a directory
grown : (at : Open) (before : List ProtoNode) (tokens : List Token) (nodes : List ProtoNode) → Entries at before tokens nodes → All HasText tokens → Stands at before → Grows at before nodes
grown _ _ _ _ (none at before token is_last) have stands =
    record {
      files = subst AreProtoNodes (sym (append-nil before)) stands.files;
      others = λ k low other. ap (λ (ns : List ProtoNode). length (child_places ns k)) (append-nil before);
    }
grown _ _ _ _ (file at before h content rest kind nodes has more) have stands =
    let n : ProtoNode = entry_node h kind in
    let split = parts HasText (head_tokens h) (content ++ rest) have in
    let second = parts HasText content rest split.1 in
    let new = can_join at before h kind stands (content_typed h.says.kind content kind has) (content_holds h.says.kind content kind has second.0) in
    joined at before n nodes stands refl (grown (one_more at) (before ++ n ∷ []) rest nodes more second.1 (behind at before n stands new refl))
grown _ _ _ _ (directory at before h inner rest below nodes is_directory has more) have stands =
    let n : ProtoNode = entry_node h Kind.Directory in
    let split = parts HasText (head_tokens h) (inner ++ rest) have in
    let second = parts HasText inner rest split.1 in
    let new = can_join at before h Kind.Directory stands (sym (ap number_of_type is_directory)) tt in
    let now = behind at before n stands new refl in
    let within = grown (empty_directory before) (before ++ n ∷ []) inner below has second.0 (opened before n now.files refl) in
    further at before n below nodes stands refl within (grown (one_more at) (before ++ n ∷ below) rest nodes more second.1 (passed at before n below stands now within))

-- the root alone
abbrev root_of : ℕ → ℕ → ℕ → ProtoNode
root_of bits uid gid = record { parent = 0; name = []; mode = bits; uid = uid; gid = gid; kind = Kind.Directory }

root_files : (bits uid gid : ℕ) → bits / 2 ^ 12 ≡ 4 → AreProtoNodes (root_of bits uid gid ∷ [])
root_files bits uid gid typed =
    record {
      some = omega arith;
      root = refl;
      itself = refl;
      below = λ i one low. absurd (omega (arith, one, low));
      names = λ i j one less low. absurd (omega (arith, one, less, low));
      few = λ k. omega arith;
      types = types_of;
      contents = contents_of;
    }
  where
    types_of : (k : ℕ) → k < 1 → (node_at (root_of bits uid gid ∷ []) k).mode / 2 ^ 12 ≡ type_of_kind (node_at (root_of bits uid gid ∷ []) k).kind
    types_of zero low = typed
    types_of (suc k) low = absurd (omega (arith, low))

    contents_of : (k : ℕ) → k < 1 → CanHold (node_at (root_of bits uid gid ∷ []) k).kind
    contents_of zero low = tt
    contents_of (suc k) low = absurd (omega (arith, low))

-- all files of a protofile
pub protofile_files : (text : List ℕ) (nodes : List ProtoNode) → IsProtofile (tokens_of text) nodes → AreProtoNodes nodes
protofile_files text nodes p =
    let have : All HasText (p.first ∷ p.second ∷ p.third ∷ p.mode ∷ p.user ∷ p.group ∷ p.rest) = subst (All HasText) p.are_tokens (tokens_have text) in
    let typed : p.bits / 2 ^ 12 ≡ 4 = mode_typed p.mode.text (record { kind = File.Directory; bits = p.bits }) p.is_mode in
    let stands : Stands (empty_directory []) (root_of p.bits p.uid p.gid ∷ []) = record { files = root_files p.bits p.uid p.gid typed; low = omega arith; is = refl; count = refl } in
    subst AreProtoNodes (sym p.are_nodes)
    (grown (empty_directory []) (root_of p.bits p.uid p.gid ∷ []) p.rest p.below p.entries (λ k d low. have (suc (suc (suc (suc (suc (suc k)))))) d (omega (arith, low))) stands).files
