-- The tokens of a text from one byte on.
use Rattle.std.proofs.Common.{◌≡◌, ℕ, suc, ◌+◌, ◌<◌, Bool, true, false, cond, List, ◌∷◌, ◌++◌, length, drop, get_or, drop-cons, Result, ap, ◌∙◌, arith}
use Rattle.xfs_proto.specs.Reading.{IsProtoCause, SyntaxError, State, after_tokens}
use Rattle.xfs_proto.specs.Tokens.{Place, Token, behind_blank, behind_byte, ended, is_blank, next_line, tokens_from}
use Rattle.xfs_proto.specs.declared.protofile.ProtoFault.{ProtoFault}
use Rattle.xfs_proto.specs.declared.protofile.ProtoFault.TheVariants.{Bad, NoMemory}
use Rattle.xfs_proto.proofs.Accepting.{after_tokens-append}
use Rattle.xfs_proto.proofs.Taking.{refused_stays}

rest_from : (bytes : List ℕ) (i : ℕ) → i < length bytes → drop i bytes ≡ get_or bytes i 0 ∷ drop (i + 1) bytes
rest_from bytes i within =
    let next : suc i ≡ i + 1 = omega arith in drop-cons bytes i 0 within ∙ ap (λ (k : ℕ). get_or bytes i 0 ∷ drop k bytes) next

-- a blank ends the token in front of it
pub blank_ends : (text : List ℕ) (at line : ℕ) (place : Place) (r : Result State SyntaxError) → at < length text → is_blank (get_or text at 0) ≡ true
    → after_tokens (tokens_from line place (drop at text)) r
    ≡ after_tokens (tokens_from (next_line (get_or text at 0) line) (behind_blank (get_or text at 0) place) (drop (at + 1) text)) (after_tokens (ended line place) r)
blank_ends text at line place r within blank =
    let byte : ℕ = get_or text at 0 in
    let behind : List Token = tokens_from (next_line byte line) (behind_blank byte place) (drop (at + 1) text) in
    ap (λ (bytes : List ℕ). after_tokens (tokens_from line place bytes) r) (rest_from text at within)
    ∙ ap (λ (b : Bool). after_tokens (cond b (ended line place ++ behind) (tokens_from line (behind_byte byte place) (drop (at + 1) text))) r) blank
    ∙ after_tokens-append (ended line place) behind r

-- another byte goes on
pub byte_goes_on : (text : List ℕ) (at line : ℕ) (place : Place) → at < length text → is_blank (get_or text at 0) ≡ false
    → tokens_from line place (drop at text) ≡ tokens_from line (behind_byte (get_or text at 0) place) (drop (at + 1) text)
byte_goes_on text at line place within other =
    let byte : ℕ = get_or text at 0 in
    let behind : List Token = tokens_from (next_line byte line) (behind_blank byte place) (drop (at + 1) text) in
    ap (λ (bytes : List ℕ). tokens_from line place bytes) (rest_from text at within)
    ∙ ap (λ (b : Bool). cond b (ended line place ++ behind) (tokens_from line (behind_byte byte place) (drop (at + 1) text))) other

-- what a token was refused for stays
pub cause_stays : (tokens : List Token) (r : Result State SyntaxError) (fault : ProtoFault) → IsProtoCause r fault → IsProtoCause (after_tokens tokens r) fault
cause_stays tokens r (Bad line reason) cause = ap (after_tokens tokens) cause ∙ refused_stays tokens (record { line = line; reason = reason })
cause_stays tokens r NoMemory cause = tt
