use Rattle.std.proofs.Common.{◌+◌, drop, get_or, Ok, sym, ◌∙◌, subst, ◌≡◌, ℕ, ◌≤◌, ◌==◌, Bool, true, false, if◌then◌else◌, List, ap, ap₂, arith}
use Rattle.xfs_proto.specs.Reading.{IsProtoCause, after_tokens, reader_state}
use Rattle.xfs_proto.specs.Scanning.{place_of}
use Rattle.xfs_proto.specs.Tokens.{behind_blank, ended, next_line, tokens_from, Place, Token}
use Rattle.xfs_proto.proofs.Bytes.{blank_ends, cause_stays, byte_goes_on}
use Rattle.xfs_proto.specs.declared.scanning.Place.{Place as Mark}
use Rattle.xfs_proto.proofs.scanning.Scan.take_byte.Goals as goal

pub returns-in-Err-clause-refusal : goal.returns-in-Err-clause-refusal
returns-in-Err-clause-refusal c =
    let text = c.args.text.now in
    let at = c.args.at in
    let scan = c.args.self.now in
    let place = place_of text at scan.place in
    subst (λ r. IsProtoCause r c.in-Err.fault)
    (sym (blank_ends text at scan.line place (Ok (reader_state scan.reader)) c.requires.inside (sym c.is_blank.ensures ∙ c.if-not-is_blank.false)))
    (cause_stays (tokens_from (next_line (get_or text at 0) scan.line) (behind_blank (get_or text at 0) place) (drop (at + 1) text))
    (after_tokens (ended scan.line place) (Ok (reader_state scan.reader))) c.in-Err.fault c.in-Err.ensures.refusal)

most_one : (t : Bool) (line : ℕ) → (if t then line + 1 else line) ≤ line + 1
most_one true line = omega arith
most_one false line = omega arith

lines_on : (new middle old at : ℕ) (t : Bool) → new ≡ (if t then middle + 1 else middle) → middle ≡ old → old ≤ at + 1 → new ≤ at + 1 + 1
lines_on new middle old at t is same low = omega (arith, most_one t middle, is, same, low)

pub behind_byte-self-requires-clause-inside : goal.behind_byte-self-requires-clause-inside
behind_byte-self-requires-clause-inside c = c.requires.inside

pub behind_byte-self-requires-clause-begins : goal.behind_byte-self-requires-clause-begins
behind_byte-self-requires-clause-begins c = c.requires.scan.begins

pub returns-then-not-is_blank-clause-read : goal.returns-then-not-is_blank-clause-read
returns-then-not-is_blank-clause-read c =
    let text = c.args.text.now in
    let at = c.args.at in
    let scan = c.args.self.now in
    ap (λ (p : Place). after_tokens (tokens_from scan.line p (drop (at + 1) text)) (Ok (reader_state scan.reader))) c.behind_byte-self.ensures.told
    ∙ sym (ap (λ (ts : List Token). after_tokens ts (Ok (reader_state scan.reader)))
    (byte_goes_on text at scan.line (place_of text at scan.place) c.requires.inside (sym c.is_blank.ensures ∙ c.if-not-is_blank.true)))

pub returns-then-not-is_blank-clause-scan : goal.returns-then-not-is_blank-clause-scan
returns-then-not-is_blank-clause-scan c = record {
  steady = c.requires.scan.steady;
  begins = c.behind_byte-self.ensures.begins;
  lines = omega (arith, c.requires.scan.lines);
}

pub returns-then-not-is_blank-clause-refusal : goal.returns-then-not-is_blank-clause-refusal
returns-then-not-is_blank-clause-refusal c = tt

pub end_token-requires-clause-scan : goal.end_token-requires-clause-scan
end_token-requires-clause-scan c = c.requires.scan

pub end_token-requires-clause-inside : goal.end_token-requires-clause-inside
end_token-requires-clause-inside c = omega (arith, c.requires.inside)

pub returns-in-Err-clause-read : goal.returns-in-Err-clause-read
returns-in-Err-clause-read c = tt

pub returns-in-Err-clause-scan : goal.returns-in-Err-clause-scan
returns-in-Err-clause-scan c = tt

pub returns-clause-read : goal.returns-clause-read
returns-clause-read c =
    let text = c.args.text.now in
    let at = c.args.at in
    let scan = c.args.self.now in
    let byte = get_or text at 0 in
    let place = place_of text at scan.place in
    let told : place_of text (at + 1) c.behind_blank-self.result ≡ behind_blank byte place =
    c.behind_blank-self.ensures.told text at ∙ ap (λ (m : Mark). behind_blank byte (place_of text at m)) c.end_token.ensures.place in
    let line : c.next_line-self.result ≡ next_line byte scan.line = c.next_line-self.ensures ∙ ap (next_line byte) c.end_token.ensures.line in
    ap₂ (λ (n : ℕ) (p : Place). after_tokens (tokens_from n p (drop (at + 1) text)) (Ok (reader_state c.end_token.new.self.reader))) line told
    ∙ (ap (after_tokens (tokens_from (next_line byte scan.line) (behind_blank byte place) (drop (at + 1) text))) (sym c.in-Ok.ensures.held)
    ∙ sym (blank_ends text at scan.line place (Ok (reader_state scan.reader)) c.requires.inside (sym c.is_blank.ensures ∙ c.if-not-is_blank.false)))

pub returns-clause-scan : goal.returns-clause-scan
returns-clause-scan c = record {
  steady = c.in-Ok.ensures.steady;
  begins = c.behind_blank-self.ensures.begins (c.args.at + 1);
  lines = lines_on c.next_line-self.result c.end_token.new.self.line c.args.self.now.line c.args.at (get_or c.args.text.now c.args.at 0 == 10) c.next_line-self.ensures c.end_token.ensures.line c.requires.scan.lines;
}

pub returns-clause-refusal : goal.returns-clause-refusal
returns-clause-refusal c = tt
