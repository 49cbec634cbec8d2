-- Commands behind push.
use Rattle.std.proofs.Common.{subst, ◌≡◌, ℕ, zero, suc, ◌+◌, ◌<◌, ◌≤◌, Bool, true, false, if◌then◌else◌, List, [], ◌∷◌, ◌++◌, length, drop, Option, Some, None, refl, sym, ◌∙◌, ap, arith}
use Rattle.std.proofs.lemmas.Bool.{true≢false}
use Rattle.xfs_geom.specs.Volumes.{Volume}
use Rattle.std.proofs.lemmas.List.{length-drop}
use Rattle.xfs_commands.specs.Commands.{Session, Effect, no_address}
use Rattle.xfs_commands.specs.Verbs.{accepted}
use Rattle.xfs_shell.specs.Running.{attempts, is_push, is_push_verb, keeping, pushes, pushes_in, restored, block_at_place, image_after, runs_placeless, runs_accepted, runs_first, runs_named, runs_words}
use Rattle.xfs_commands.specs.Cursors.{pushed, back_to, settled_session, saved}
use Rattle.xfs_shell.specs.Sessions.{IsRunCommand, LeavesAtStop, raised_put}
use Rattle.xfs_disk.specs.Blocks.{Image}
use Rattle.xfs_shell.specs.declared.session.Stop.{Stop}
use Rattle.xfs_shell.specs.declared.session.Stop.TheVariants as stop
use Rattle.xfs_commands.proofs.KeptSessions.{Keeps}
use Rattle.xfs_commands.proofs.Stacking.{pushed_at, taken_back}
use Rattle.xfs_shell.proofs.KeptRuns.{runs_kept}
use Rattle.xfs_commands.specs.declared.commands.Verb.{Verb}
use Rattle.xfs_commands.specs.declared.commands.Verb.TheVariants as verb
use Rattle.xfs_commands.specs.declared.cursor.Verdict.{Verdict}
use Rattle.xfs_commands.specs.declared.cursor.Verdict.TheVariants.{Done, Refused, Quit}
use Rattle.xfs_objects.specs.declared.objects.ObjectPlace.{ObjectPlace}
use Rattle.xfs_shell.specs.declared.session.Leave.{Leave}

keeping_twice : (v : Verdict) (s t now : Session) → keeping v s (keeping v t now) ≡ keeping v s now
keeping_twice Done s t now = refl
keeping_twice Refused s t now = refl
keeping_twice Quit s t now = refl

-- to restore twice is to restore to the earlier
absorb : (s t : Session) (e : Effect) → restored s (restored t e) ≡ restored s e
absorb s t e = ap (λ (now : Session). let f : Effect = record e { session = now } in f) (keeping_twice e.verdict s t e.session)

kept_same : (v : Verdict) (s now : Session) → (v ≡ Refused → now ≡ s) → keeping v s now ≡ now
kept_same Done s now kept = refl
kept_same Refused s now kept = sym (kept refl)
kept_same Quit s now kept = refl

-- what leaves the place where it was refused is restored to itself
restored_same : (s : Session) (e : Effect) → Keeps s e → restored s e ≡ e
restored_same s e kept = ap (λ (now : Session). let f : Effect = record e { session = now } in f) (kept_same e.verdict s e.session kept)

push_is : (o : Option Verb) → is_push_verb o ≡ true → o ≡ Some verb.Push
push_is None is = absurd (true≢false (sym is))
push_is (Some verb.Push) is = refl
push_is (Some other) is = absurd (true≢false (sym is))

named : (v : Volume) (leave : Leave) (o : Option Verb) (name : List ℕ) (args : List (List ℕ)) (block : List ℕ) (inner : Session → Effect) (s : Session)
    → is_push_verb o ≡ false → runs_accepted v leave o name args block inner s ≡ runs_named v leave o name args block s
named v leave None name args block inner s is = refl
named v leave (Some verb.Push) name args block inner s is = absurd (true≢false is)
named v leave (Some other) name args block inner s is = refl

pub first_of : (v : Volume) (leave : Leave) (words : List (List ℕ)) (block : List ℕ) (s : Session) → is_push words ≡ false
    → runs_words v leave words block s ≡ runs_first v leave words block s
first_of v leave [] block s is = refl
first_of v leave (name ∷ args) block s is =
    named v leave (accepted name (length args)) name args block (λ inner. runs_words v leave args block inner) s is

-- behind the last push there is none
pub rest_first : (words : List (List ℕ)) → is_push (drop (pushes_in words) words) ≡ false
rest_first [] = refl
rest_first (name ∷ args) = by_case (is_push_verb (accepted name (length args))) refl (rest_first args)
  where
    by_case : (r : Bool) → is_push_verb (accepted name (length args)) ≡ r → is_push (drop (pushes_in args) args) ≡ false
        → is_push (drop (if is_push_verb (accepted name (length args)) then suc (pushes_in args) else 0) (name ∷ args)) ≡ false
    by_case true is rest = rw is rest
    by_case false is rest = rw is is

first_kept : (v : Volume) (leave : Leave) (words : List (List ℕ)) (block : List ℕ) (s : Session) → Keeps s (runs_first v leave words block s)
first_kept v leave [] block s = λ refused. refl
first_kept v leave (name ∷ args) block s = by_name (accepted name (length args))
  where
    by_name : (o : Option Verb) → Keeps s (runs_named v leave o name args block s)
    by_name None = λ refused. refl
    by_name (Some verb) = runs_kept v leave verb name args block s

-- as many pushes as there are, and then the command behind them
pushing : (v : Volume) (leave : Leave) (words : List (List ℕ)) (block : List ℕ) (s : Session) (place : ObjectPlace) → s.at ≡ Some place
    → restored s (runs_words v leave words block s)
    ≡ restored s (runs_words v leave (drop (pushes_in words) words) block (pushed (pushes_in words) place s))
pushing v leave [] block s place at = refl
pushing v leave (name ∷ args) block s place at = by_case (is_push_verb (accepted name (length args))) refl (pushing v leave args block (saved place s) place at)
  where
    by_case : (r : Bool) → is_push_verb (accepted name (length args)) ≡ r
        → restored (saved place s) (runs_words v leave args block (saved place s))
        ≡ restored (saved place s) (runs_words v leave (drop (pushes_in args) args) block (pushed (pushes_in args) place (saved place s)))
        → restored s (runs_words v leave (name ∷ args) block s)
        ≡ restored s (runs_words v leave (drop (pushes_in (name ∷ args)) (name ∷ args)) block (pushed (pushes_in (name ∷ args)) place s))
    by_case false is rest =
        ap (λ (b : Bool). restored s (runs_words v leave (drop (if b then suc (pushes_in args) else 0) (name ∷ args)) block (pushed (if b then suc (pushes_in args) else 0) place s))) (sym is)
    by_case true is rest =
        ap (λ (o : Option Verb). restored s (runs_accepted v leave o name args block (λ now. runs_words v leave args block now) s)) (push_is (accepted name (length args)) is)
        ∙ ap (λ (o : Option ObjectPlace). restored s (pushes o (λ now. runs_words v leave args block now) s)) at
        ∙ absorb s s (runs_words v leave args block (saved place s))
        ∙ sym (absorb s (saved place s) (runs_words v leave args block (saved place s)))
        ∙ ap (λ (e : Effect). restored s e) rest
        ∙ absorb s (saved place s) (runs_words v leave (drop (pushes_in args) args) block (pushed (pushes_in args) place (saved place s)))
        ∙ ap (λ (b : Bool). restored s (runs_words v leave (drop (if b then suc (pushes_in args) else 0) (name ∷ args)) block (pushed (if b then suc (pushes_in args) else 0) place s))) (sym is)

-- with a place, the command behind the pushes decides
pub attempts_behind : (v : Volume) (leave : Leave) (words : List (List ℕ)) (block : List ℕ) (s : Session) (place : ObjectPlace) → s.at ≡ Some place
    → attempts v leave words block s ≡ restored s (runs_first v leave (drop (pushes_in words) words) block (pushed (pushes_in words) place s))
unfolding attempts
attempts_behind v leave words block s place at =
    pushing v leave words block s place at
    ∙ ap (λ (e : Effect). restored s e) (first_of v leave (drop (pushes_in words) words) block (pushed (pushes_in words) place s) (rest_first words))

pushes_some : (words : List (List ℕ)) → is_push words ≡ false → pushes_in words ≡ 0
pushes_some [] is = refl
pushes_some (name ∷ args) is = rw is refl

-- without a place, a push is refused
pub attempts_none : (v : Volume) (leave : Leave) (words : List (List ℕ)) (block : List ℕ) (s : Session) → s.at ≡ None → is_push words ≡ true
    → attempts v leave words block s ≡ no_address s
unfolding attempts
attempts_none v leave [] block s at is = absurd (true≢false (sym is))
attempts_none v leave (name ∷ args) block s at is =
    ap (λ (o : Option Verb). restored s (runs_accepted v leave o name args block (λ now. runs_words v leave args block now) s)) (push_is (accepted name (length args)) is)
    ∙ ap (λ (o : Option ObjectPlace). restored s (pushes o (λ now. runs_words v leave args block now) s)) at

-- without a push, the words are a command
pub attempts_first : (v : Volume) (leave : Leave) (words : List (List ℕ)) (block : List ℕ) (s : Session) → is_push words ≡ false
    → attempts v leave words block s ≡ runs_first v leave words block s
unfolding attempts
attempts_first v leave words block s is =
    ap (λ (e : Effect). restored s e) (first_of v leave words block s is) ∙ restored_same s (runs_first v leave words block s) (first_kept v leave words block s)

-- a refused command behind pushes leaves them on the stack
pub behind_kept : (v : Volume) (leave : Leave) (words : List (List ℕ)) (block : List ℕ) (s : Session) → Keeps s (runs_first v leave words block s)
behind_kept v leave words block s = first_kept v leave words block s

-- the words begin with one push more
push_counts : (words : List (List ℕ)) → is_push words ≡ true → pushes_in words ≡ 1 + pushes_in (drop 1 words)
push_counts [] is = absurd (true≢false (sym is))
push_counts (name ∷ args) is =
    let one : suc (pushes_in args) ≡ 1 + pushes_in args = omega arith in
    ap (λ (b : Bool). if b then suc (pushes_in args) else 0) is ∙ one

push_some : (words : List (List ℕ)) → is_push words ≡ true → 0 < length words
push_some [] is = absurd (true≢false (sym is))
push_some (name ∷ args) is = omega arith

drop_one : (i : ℕ) (words : List (List ℕ)) → drop (i + 1) words ≡ drop 1 (drop i words)
drop_one i words = let more : i + 1 ≡ suc i = omega arith in ap (λ (k : ℕ). drop k words) more ∙ by_count i words
  where
    by_count : (i : ℕ) (words : List (List ℕ)) → drop (suc i) words ≡ drop 1 (drop i words)
    by_count zero words = refl
    by_count (suc i) [] = refl
    by_count (suc i) (word ∷ words) = by_count i words

pub one_push : (words : List (List ℕ)) (i : ℕ) → is_push (drop i words) ≡ true
    → i + 1 + pushes_in (drop (i + 1) words) ≡ i + pushes_in (drop i words)
one_push words i is = rw (drop_one i words) (omega (arith, push_counts (drop i words) is))

pub push_inside : (words : List (List ℕ)) (i : ℕ) → is_push (drop i words) ≡ true → i + 1 ≤ length words
push_inside words i is = omega (arith, push_some (drop i words) is, length-drop i words)

pub no_push : (words : List (List ℕ)) (i : ℕ) → is_push (drop i words) ≡ false → i + pushes_in (drop i words) ≡ i
no_push words i is = omega (arith, pushes_some (drop i words) is)

-- without a place, the first words decide
pub attempts_placeless : (v : Volume) (leave : Leave) (words : List (List ℕ)) (block : List ℕ) (s : Session) → s.at ≡ None
    → attempts v leave words block s ≡ runs_placeless v leave words block s
attempts_placeless v leave words block s at = by_case (is_push words) refl
  where
    by_case : (r : Bool) → is_push words ≡ r → attempts v leave words block s ≡ (if is_push words then no_address s else runs_first v leave words block s)
    by_case true is = rw is (attempts_none v leave words block s at is)
    by_case false is = rw is (attempts_first v leave words block s is)

settled_kept : (verdict : Verdict) (s pushed_s now : Session) (n : ℕ) (place : ObjectPlace) → pushed_s ≡ pushed n place s → (verdict ≡ Refused → now ≡ pushed_s)
    → settled_session verdict (length s.stack) now ≡ keeping verdict s now
settled_kept Done s t now n place is kept = refl
settled_kept Quit s t now n place is kept = refl
settled_kept Refused s t now n place is kept = ap (λ (u : Session). back_to (length s.stack) u) (kept refl ∙ is) ∙ taken_back n place s

attempts_due : (v : Volume) (leave : Leave) (words : List (List ℕ)) (image : Image) (s t : Session) (place : ObjectPlace) → s.at ≡ Some place → t ≡ pushed (pushes_in words) place s
    → attempts v leave words (block_at_place image s.at) s
    ≡ restored s (runs_first v leave (drop (pushes_in words) words) (block_at_place image t.at) t)
attempts_due v leave words image s t place at is =
    let same : (pushed (pushes_in words) place s).at ≡ s.at = pushed_at (pushes_in words) place s in
    attempts_behind v leave words (block_at_place image s.at) s place at
    ∙ ap (λ (a : Option ObjectPlace). restored s (runs_first v leave (drop (pushes_in words) words) (block_at_place image a) (pushed (pushes_in words) place s))) (sym same)
    ∙ ap (λ (u : Session). restored s (runs_first v leave (drop (pushes_in words) words) (block_at_place image u.at) u)) (sym is)

-- a command behind pushes was run
pub behind_ran : (v : Volume) (leave : Leave) (words : List (List ℕ)) (image : Image) (s t now : Session) (place : ObjectPlace) (verdict : Verdict) (old new : List ℕ) (held : Option Image) (writes writes_now : ℕ)
    → s.at ≡ Some place → t ≡ pushed (pushes_in words) place s
    → IsRunCommand (runs_first v leave (drop (pushes_in words) words) (block_at_place image t.at) t) image verdict old new now held writes writes_now
    → IsRunCommand (attempts v leave words (block_at_place image s.at) s) image verdict old new (settled_session verdict (length s.stack) now) held writes writes_now
behind_ran v leave words image s t now place verdict old new held writes writes_now at is run =
    let e : Effect = runs_first v leave (drop (pushes_in words) words) (block_at_place image t.at) t in
    let due = attempts_due v leave words image s t place at is in
    let settled : settled_session verdict (length s.stack) now ≡ keeping verdict s now =
    settled_kept verdict s t now (pushes_in words) place is
    (λ refused. run.session_is ∙ first_kept v leave (drop (pushes_in words) words) (block_at_place image t.at) t (sym run.verdict_is ∙ refused))
    in
    record {
      verdict_is = run.verdict_is ∙ ap (λ (f : Effect). f.verdict) (sym due);
      text_is = run.text_is ∙ ap (λ (f : Effect). old ++ f.text) (sym due);
      session_is =
          settled
          ∙ ap (λ (u : Verdict). keeping u s now) run.verdict_is
          ∙ ap (λ (u : Session). keeping e.verdict s u) run.session_is
          ∙ ap (λ (f : Effect). f.session) (sym due);
      image_is = run.image_is ∙ ap (λ (f : Effect). Some (image_after f.put image)) (sym due);
      writes_are = run.writes_are ∙ ap (λ (f : Effect). raised_put f.put writes) (sym due);
    }

-- and stopped
pub behind_stays : (v : Volume) (leave : Leave) (words : List (List ℕ)) (image : Image) (s t : Session) (place : ObjectPlace) (why : Stop) (held : Option Image)
    → s.at ≡ Some place → t ≡ pushed (pushes_in words) place s
    → LeavesAtStop (runs_first v leave (drop (pushes_in words) words) (block_at_place image t.at) t) image held why
    → LeavesAtStop (attempts v leave words (block_at_place image s.at) s) image held why
behind_stays v leave words image s t place stop.ReadFault held at is stays = stays
behind_stays v leave words image s t place stop.NoMemory held at is stays = stays
behind_stays v leave words image s t place (stop.WriteFault written) held at is stays =
    let due = attempts_due v leave words image s t place at is in
    subst (λ (f : Effect). LeavesAtStop f image held (stop.WriteFault written)) (sym due) stays

-- and the block that it writes
pub behind_puts : (v : Volume) (leave : Leave) (words : List (List ℕ)) (image : Image) (s t : Session) (place : ObjectPlace)
    → s.at ≡ Some place → t ≡ pushed (pushes_in words) place s
    → image_after (runs_first v leave (drop (pushes_in words) words) (block_at_place image t.at) t).put image
    ≡ image_after (attempts v leave words (block_at_place image s.at) s).put image
behind_puts v leave words image s t place at is =
    let due = attempts_due v leave words image s t place at is in
    ap (λ (f : Effect). image_after f.put image) (sym due)
