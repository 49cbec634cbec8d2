-- How many lines there are up to the first quit.
use Rattle.std.proofs.Common.{◌≡◌, ℕ, suc, ◌+◌, ◌≤◌, ◌<◌, Bool, true, false, if◌then◌else◌, List, [], ◌∷◌, length, drop, get_or, Option, Some, None, refl, sym, ◌∙◌, ap, subst, arith}
use Rattle.std.proofs.Math.Seq.{drop-cons}
use Rattle.std.proofs.lemmas.Bool.{true≢false}
use Rattle.std.specs.List.{filter, slice_split, onto_first}
use Rattle.xfs_commands.specs.Verbs.{accepted}
use Rattle.xfs_commands.specs.declared.commands.Verb.{Verb}
use Rattle.xfs_commands.specs.declared.commands.Verb.TheVariants as verb
use Rattle.xfs_shell.specs.LineParts.{is_cut, is_some, line_parts}
use Rattle.xfs_shell.specs.Running.{is_quit_verb, is_quit_words, is_push, is_push_verb, pushes_in, until_quit}
use Rattle.xfs_shell.specs.Shells.{input_lines, most_of}
use Rattle.xfs_shell.specs.declared.line_parts.Cut.{Cut}
use Rattle.xfs_shell.specs.declared.line_parts.Cut.TheVariants.{Blanks, LineFeeds}

-- the command is quit
pub quit_is : (o : Option Verb) → is_quit_verb o ≡ true → o ≡ Some verb.Quit
quit_is None is = absurd (true≢false (sym is))
quit_is (Some verb.Quit) is = refl
quit_is (Some other) is = absurd (true≢false (sym is))

-- quit begins with no push
pub quit_no_push : (words : List (List ℕ)) → is_quit_words words ≡ true → pushes_in words ≡ 0
quit_no_push [] is = refl
quit_no_push (name ∷ args) is =
    ap (λ (o : Option Verb). if is_push_verb o then suc (pushes_in args) else 0) (quit_is (accepted name (length args)) is)

-- and is no push
pub quit_not_push : (words : List (List ℕ)) → is_quit_words words ≡ true → is_push words ≡ false
quit_not_push [] is = absurd (true≢false (sym is))
quit_not_push (name ∷ args) is = ap (λ (o : Option Verb). is_push_verb o) (quit_is (accepted name (length args)) is)

-- a line whose command did not end the session is no quit
pub no_quit : (words : List (List ℕ)) (ends : Bool) → (is_quit_words words ≡ true → ends ≡ true) → ends ≡ false → is_quit_words words ≡ false
no_quit words ends quits on = by_case (is_quit_words words) refl
  where
    by_case : (r : Bool) → is_quit_words words ≡ r → is_quit_words words ≡ false
    by_case true is = absurd (true≢false (sym (quits is) ∙ on))
    by_case false is = is

-- behind a line that is no quit there is one line less
pub quit_next : (lines : List (List ℕ)) (i : ℕ) (d : List ℕ) → i < length lines → is_quit_words (line_parts Blanks (get_or lines i d)) ≡ false
    → i + 1 + until_quit (drop (i + 1) lines) ≡ i + until_quit (drop i lines)
quit_next lines i d within none =
    let one : suc i ≡ i + 1 = omega arith in
    let front : drop i lines ≡ get_or lines i d ∷ drop (i + 1) lines =
    drop-cons lines i d within ∙ ap (λ (n : ℕ). get_or lines i d ∷ drop n lines) one in
    let counted : until_quit (drop i lines) ≡ suc (until_quit (drop (i + 1) lines)) =
    ap until_quit front ∙ ap (λ (b : Bool). if b then 1 else suc (until_quit (drop (i + 1) lines))) none in
    omega (arith, counted)

some_left : (line : List ℕ) (lines : List (List ℕ)) → 1 ≤ until_quit (line ∷ lines)
some_left line lines = by_case (is_quit_words (line_parts Blanks line))
  where
    by_case : (b : Bool) → 1 ≤ (if b then 1 else suc (until_quit lines))
    by_case true = omega arith
    by_case false = omega arith

-- a line that is run is one of them
pub quit_some : (lines : List (List ℕ)) (i : ℕ) (d : List ℕ) → i < length lines → 1 ≤ until_quit (drop i lines)
quit_some lines i d within =
    subst (λ (ls : List (List ℕ)). 1 ≤ until_quit ls) (sym (drop-cons lines i d within)) (some_left (get_or lines i d) (drop (suc i) lines))

until_short : (lines : List (List ℕ)) → until_quit lines ≤ length lines
until_short [] = omega arith
until_short (line ∷ lines) = by_case (is_quit_words (line_parts Blanks line)) (until_short lines)
  where
    by_case : (b : Bool) → until_quit lines ≤ length lines → (if b then 1 else suc (until_quit lines)) ≤ suc (length lines)
    by_case true less = omega arith
    by_case false less = omega (arith, less)

one_more : (b : Bool) (part : List ℕ) (parts : List (List ℕ)) → length (if b then part ∷ parts else parts) ≤ suc (length parts)
one_more true part parts = omega arith
one_more false part parts = omega arith

no_fewer : (b : Bool) (part : List ℕ) (parts : List (List ℕ)) → length parts ≤ length (if b then part ∷ parts else parts)
no_fewer true part parts = omega arith
no_fewer false part parts = omega arith

onto_more : (byte : ℕ) (parts : List (List ℕ)) → length (filter is_some (onto_first byte parts)) ≤ suc (length (filter is_some parts))
onto_more byte [] = one_more (is_some (byte ∷ [])) (byte ∷ []) []
onto_more byte (first ∷ rest) =
    omega (arith, one_more (is_some (byte ∷ first)) (byte ∷ first) (filter is_some rest), no_fewer (is_some first) first (filter is_some rest))

-- there are no more parts than bytes
few_parts : (cut : Cut) (bytes : List ℕ) → length (filter is_some (slice_split (is_cut cut) bytes)) ≤ length bytes
few_parts cut [] = omega arith
few_parts cut (b ∷ bs) = by_case (is_cut cut b) (few_parts cut bs)
  where
    by_case : (r : Bool) → length (filter is_some (slice_split (is_cut cut) bs)) ≤ length bs
        → length (filter is_some (if r then [] ∷ slice_split (is_cut cut) bs else onto_first b (slice_split (is_cut cut) bs))) ≤ suc (length bs)
    by_case true less = omega (arith, less)
    by_case false less = omega (arith, less, onto_more b (slice_split (is_cut cut) bs))

parts_few : (cut : Cut) (bytes : List ℕ) → length (line_parts cut bytes) ≤ length bytes
unfolding line_parts
parts_few cut bytes = few_parts cut bytes

-- the lines of an input that was read are as many as are told, or not more than it may have bytes
pub most_read : (left : Option (List ℕ)) (bytes : List ℕ) (lines : List (List ℕ)) → lines ≡ line_parts LineFeeds bytes → length bytes ≤ 1048576
    → ((told : List ℕ) → left ≡ Some told → bytes ≡ told) → until_quit lines ≤ most_of (input_lines left)
most_read None bytes lines are short told =
    omega (arith, ap length are, until_short lines, parts_few LineFeeds bytes, short)
most_read (Some told) bytes lines are short is =
    let same : until_quit lines ≡ until_quit (line_parts LineFeeds told) = ap until_quit are ∙ ap (λ (b : List ℕ). until_quit (line_parts LineFeeds b)) (is told refl) in
    omega (arith, same)
