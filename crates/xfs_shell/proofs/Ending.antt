-- Runs over lines, one more line at a time.
use Rattle.std.proofs.Common.{◌≡◌, ℕ, zero, suc, ◌+◌, ◌-◌, ◌≤◌, ◌<◌, Bool, true, false, if◌then◌else◌, List, [], ◌∷◌, ◌++◌, length, take, drop, get_or, Option, Some, None, Err, refl, sym, ◌∙◌, ap, subst, append_assoc, length-append, arith}
use Rattle.std.specs.List.{fold}
use Rattle.std.proofs.lemmas.List.{take_more, take-append-drop, take_all, append-nil}
use Rattle.std.proofs.Math.Seq.{take-append-add}
use Rattle.xfs_disk.specs.Counts.{raised_times}
use Rattle.xfs_disk.specs.Blocks.{Image}
use Rattle.xfs_geom.specs.Volumes.{Volume}
use Rattle.xfs_commands.specs.Commands.{Effect, Put, Session}
use Rattle.xfs_shell.specs.Ends.{HasCounts, HasLineCause, StandsBehind, IsPrefixPut, IsHalted, LeavesLine, PrintsLine}
use Rattle.xfs_shell.specs.Running.{SessionRun, after_line, attempts, begun, block_at_place, count_put, extended, image_after, shelled}
use Rattle.xfs_commands.specs.Cursors.{is_quit}
use Rattle.xfs_commands.specs.Verbs.{word_at}
use Rattle.xfs_shell.specs.LineParts.{line_parts}
use Rattle.xfs_shell.specs.Sessions.{IsRunCommand, IsWrittenBehind, LeavesAtStop, raised_put}
use Rattle.xfs_shell.specs.Steps.{HasStopCause}
use Rattle.xfs_shell.specs.Shells.{HasSessionCause, IsEarly, IsGoing, IsOfLines, LeavesDisk, Prints, outcome_behind, stopped_outcome}
use Rattle.xfs_shell.proofs.Stepping.{HasEndCount, HasStopCount}
use Rattle.xfs_disk.specs.Faults.{Rose}
use Rattle.xfs_shell.specs.declared.outcomes.ShellOutcome.TheVariants.{Done, OutputFault}
use Rattle.xfs_shell.specs.declared.running.LineEnd.{LineEnd}
use Rattle.xfs_shell.specs.declared.running.LineEnd.TheVariants as end
use Rattle.xfs_shell.specs.declared.session.Stop.{Stop}
use Rattle.xfs_shell.specs.declared.session.Stop.TheVariants as stop
use Rattle.xfs_shell.specs.declared.line_parts.Cut.TheVariants.{Blanks}
use Rattle.xfs_commands.specs.declared.cursor.Verdict.{Verdict}
use Rattle.xfs_shell.specs.declared.session.Leave.{Leave}

fold_append : {A B : Type 0} (f : B → A → B) (b : B) (xs ys : List A) → fold f b (xs ++ ys) ≡ fold f (fold f b xs) ys
fold_append f b [] ys = refl
fold_append f b (x ∷ xs) ys = fold_append f (f b x) xs ys

one_stays : (v : Volume) (leave : Leave) (r : SessionRun) (line : List ℕ) → r.quit ≡ true → after_line v leave r line ≡ r
unfolding after_line
one_stays v leave r line ended =
    ap (λ (q : Bool). if q then r else extended r (attempts v leave (line_parts Blanks line) (block_at_place r.image r.session.at) r.session)) ended

-- a run that has ended stays
ended_stays : (v : Volume) (leave : Leave) (r : SessionRun) (lines : List (List ℕ)) → r.quit ≡ true → fold (after_line v leave) r lines ≡ r
ended_stays v leave r [] ended = refl
ended_stays v leave r (line ∷ lines) ended =
    ap (λ (q : SessionRun). fold (after_line v leave) q lines) (one_stays v leave r line ended) ∙ ended_stays v leave r lines ended

goes_on : (v : Volume) (leave : Leave) (r : SessionRun) (line : List ℕ) → r.quit ≡ false
    → after_line v leave r line ≡ extended r (attempts v leave (line_parts Blanks line) (block_at_place r.image r.session.at) r.session)
unfolding after_line
goes_on v leave r line on =
    ap (λ (q : Bool). if q then r else extended r (attempts v leave (line_parts Blanks line) (block_at_place r.image r.session.at) r.session)) on

-- the effect of the line of this number
abbrev pub effect_at : Volume → Leave → SessionRun → List ℕ → Effect
effect_at v leave r line = attempts v leave (line_parts Blanks line) (block_at_place r.image r.session.at) r.session

next_run : (v : Volume) (leave : Leave) (lines : List (List ℕ)) (image : Image) (i : ℕ) (d : List ℕ) → i < length lines
    → (shelled v leave (take i lines) image).quit ≡ false
    → shelled v leave (take (i + 1) lines) image ≡ extended (shelled v leave (take i lines) image) (effect_at v leave (shelled v leave (take i lines) image) (get_or lines i d))
next_run v leave lines image i d within on =
    ap (λ (ls : List (List ℕ)). fold (after_line v leave) (begun image) ls) (take_more lines i d within)
    ∙ fold_append (after_line v leave) (begun image) (take i lines) (get_or lines i d ∷ [])
    ∙ goes_on v leave (shelled v leave (take i lines) image) (get_or lines i d) on

-- where a run over the first lines stands
pub record IsAt (v : Volume) (leave : Leave) (lines : List (List ℕ)) (image : Image) (i : ℕ) (session : Session) (now : Option Image) (writes writes_now : ℕ) : Type 0 where
  pub session_is : session ≡ (shelled v leave (take i lines) image).session
  pub image_is : now ≡ Some (shelled v leave (take i lines) image).image
  pub writes_are : writes_now ≡ raised_times (shelled v leave (take i lines) image).writes writes
  pub goes : (shelled v leave (take i lines) image).quit ≡ false

pub at_start : (v : Volume) (leave : Leave) (lines : List (List ℕ)) (image : Image) (session : Session) (now : Option Image) (writes : ℕ)
    → session ≡ (begun image).session → now ≡ Some image → IsAt v leave lines image 0 session now writes writes
at_start v leave lines image session now writes start held = record { session_is = start; image_is = held; writes_are = refl; goes = refl }

pub text_at_start : (before : List ℕ) (took : Option (List ℕ)) → took ≡ Some before → took ≡ Some (before ++ [])
text_at_start before took told = told ∙ ap (λ (t : List ℕ). Some t) (sym (append-nil before))

-- where a run stands once the line behind the first i is run too
pub record IsNext (r : SessionRun) (verdict : Verdict) (session : Session) (now : Option Image) (writes writes_now : ℕ) : Type 0 where
  pub session_is : session ≡ r.session
  pub image_is : now ≡ Some r.image
  pub writes_are : writes_now ≡ raised_times r.writes writes
  pub quits : r.quit ≡ is_quit verdict

-- the effect of a line is that of the run's session
same_effect : (v : Volume) (leave : Leave) (r : SessionRun) (line : List ℕ) (s : Session) → s ≡ r.session
    → attempts v leave (line_parts Blanks line) (block_at_place r.image s.at) s ≡ effect_at v leave r line
same_effect v leave r line s is = ap (λ (t : Session). attempts v leave (line_parts Blanks line) (block_at_place r.image t.at) t) is

-- also where the line is known by another name
due_effect : (v : Volume) (leave : Leave) (r : SessionRun) (line other : List ℕ) (s : Session) → s ≡ r.session → line ≡ other
    → attempts v leave (line_parts Blanks line) (block_at_place r.image s.at) s ≡ effect_at v leave r other
due_effect v leave r line other s is line_is = same_effect v leave r line s is ∙ ap (λ (l : List ℕ). effect_at v leave r l) line_is

-- one count of writes more, where a block is written
raised_more : (put : Put) (n writes : ℕ) → raised_put put (raised_times n writes) ≡ raised_times (count_put put n) writes
raised_more None n writes = refl
raised_more (Some put) n writes = refl

extended_put : (r : SessionRun) (e : Effect) (verdict : Verdict) (session : Session) (now : Option Image) (writes writes_now writes_then : ℕ)
    → writes_now ≡ raised_times r.writes writes → StandsBehind e r.image verdict session now writes_now writes_then → IsNext (extended r e) verdict session now writes writes_then
extended_put r e verdict session now writes writes_now writes_then counted put =
    record {
      session_is = put.session_is;
      image_is = put.image_is;
      writes_are = put.writes_are ∙ ap (λ (n : ℕ). raised_put e.put n) counted ∙ raised_more e.put r.writes writes;
      quits = ap is_quit (sym put.verdict_is);
    }

put_counts : (put : Put) (n : ℕ) → count_put put 0 ≡ 1 → count_put put n ≡ suc n
put_counts None n one = cc
put_counts (Some put) n one = refl

-- the lines, one of them, and where a run over those before it stands
module _ (v : Volume) (leave : Leave) (lines : List (List ℕ)) (image : Image) (i : ℕ) (line d : List ℕ) (s : Session) (now : Option Image) (writes writes_now : ℕ) where
  abbrev pub line_effect : Effect
  line_effect = attempts v leave (line_parts Blanks line) (block_at_place (shelled v leave (take i lines) image).image s.at) s

  due_run : i < length lines → line ≡ get_or lines i d → IsAt v leave lines image i s now writes writes_now
      → shelled v leave (take (i + 1) lines) image ≡ extended (shelled v leave (take i lines) image) line_effect
  due_run within line_is at =
      next_run v leave lines image i d within at.goes
      ∙ ap (λ (f : Effect). extended (shelled v leave (take i lines) image) f)
      (sym (due_effect v leave (shelled v leave (take i lines) image) line (get_or lines i d) s at.session_is line_is))

  -- the image behind the line
  pub next_image : i < length lines → line ≡ get_or lines i d → IsAt v leave lines image i s now writes writes_now
      → image_after line_effect.put (shelled v leave (take i lines) image).image ≡ (shelled v leave (take (i + 1) lines) image).image
  next_image within line_is at = ap (λ (q : SessionRun). q.image) (sym (due_run within line_is at))

  next_at : (verdict : Verdict) (s' : Session) (now' : Option Image) (writes' : ℕ)
      → i < length lines → line ≡ get_or lines i d → IsAt v leave lines image i s now writes writes_now
      → StandsBehind line_effect (shelled v leave (take i lines) image).image verdict s' now' writes_now writes'
      → IsNext (shelled v leave (take (i + 1) lines) image) verdict s' now' writes writes'
  next_at verdict s' now' writes' within line_is at put =
      subst (λ (q : SessionRun). IsNext q verdict s' now' writes writes') (sym (due_run within line_is at))
      (extended_put (shelled v leave (take i lines) image) line_effect verdict s' now' writes writes_now writes' at.writes_are put)

  pub stepped : (verdict : Verdict) (s' : Session) (now' : Option Image) (writes' : ℕ)
      → i < length lines → line ≡ get_or lines i d → IsAt v leave lines image i s now writes writes_now
      → StandsBehind line_effect (shelled v leave (take i lines) image).image verdict s' now' writes_now writes'
      → is_quit verdict ≡ false → IsAt v leave lines image (i + 1) s' now' writes writes'
  stepped verdict s' now' writes' within line_is at put on =
      let n = next_at verdict s' now' writes' within line_is at put in
      record { session_is = n.session_is; image_is = n.image_is; writes_are = n.writes_are; goes = n.quits ∙ on }

  -- the text of one line more
  pub text_stepped : (before : List ℕ) (took' : Option (List ℕ))
      → i < length lines → line ≡ get_or lines i d → IsAt v leave lines image i s now writes writes_now
      → took' ≡ Some (before ++ (shelled v leave (take i lines) image).text ++ line_effect.text)
      → took' ≡ Some (before ++ (shelled v leave (take (i + 1) lines) image).text)
  text_stepped before took' within line_is at put =
      put
      ∙ ap (λ (t : List ℕ). Some t) (append_assoc before (shelled v leave (take i lines) image).text line_effect.text)
      ∙ ap (λ (q : SessionRun). Some (before ++ q.text)) (sym (due_run within line_is at))

  -- behind a quit the lines leave what they left there
  ended_there : (verdict : Verdict) (s' : Session) (now' : Option Image) (writes' : ℕ)
      → IsNext (shelled v leave (take (i + 1) lines) image) verdict s' now' writes writes' → is_quit verdict ≡ true
      → shelled v leave lines image ≡ shelled v leave (take (i + 1) lines) image
  ended_there verdict s' now' writes' n off =
      ap (λ (ls : List (List ℕ)). fold (after_line v leave) (begun image) ls) (sym (take-append-drop (i + 1) lines))
      ∙ fold_append (after_line v leave) (begun image) (take (i + 1) lines) (drop (i + 1) lines)
      ∙ ended_stays v leave (shelled v leave (take (i + 1) lines) image) (drop (i + 1) lines) (n.quits ∙ off)

  pub quitted : (verdict : Verdict) (s' : Session) (now' : Option Image) (writes' : ℕ)
      → i < length lines → line ≡ get_or lines i d → IsAt v leave lines image i s now writes writes_now
      → StandsBehind line_effect (shelled v leave (take i lines) image).image verdict s' now' writes_now writes'
      → is_quit verdict ≡ true → LeavesDisk v leave lines image now' writes writes' Done
  quitted verdict s' now' writes' within line_is at put off =
      let n = next_at verdict s' now' writes' within line_is at put in
      let whole = ended_there verdict s' now' writes' n off in
      record {
        image_is = n.image_is ∙ ap (λ (q : SessionRun). Some q.image) (sym whole);
        writes_are = n.writes_are ∙ ap (λ (q : SessionRun). raised_times q.writes writes) (sym whole);
        finished_are = tt;
      }

  pub text_quitted : (verdict : Verdict) (s' : Session) (now' : Option Image) (writes' : ℕ) (before : List ℕ) (took' : Option (List ℕ))
      → i < length lines → line ≡ get_or lines i d → IsAt v leave lines image i s now writes writes_now
      → StandsBehind line_effect (shelled v leave (take i lines) image).image verdict s' now' writes_now writes'
      → is_quit verdict ≡ true
      → took' ≡ Some (before ++ (shelled v leave (take i lines) image).text ++ line_effect.text)
      → Prints v leave lines image before took' Done
  text_quitted verdict s' now' writes' before took' within line_is at put off text =
      let n = next_at verdict s' now' writes' within line_is at put in
      text_stepped before took' within line_is at text
      ∙ ap (λ (q : SessionRun). Some (before ++ q.text)) (sym (ended_there verdict s' now' writes' n off))

  -- a command was stopped
  halted : (why : Stop) (now' : Option Image) (writes' : ℕ)
      → i < length lines → line ≡ get_or lines i d → IsAt v leave lines image i s now writes writes_now
      → HasStopCount writes_now writes' why
      → LeavesAtStop line_effect (shelled v leave (take i lines) image).image now' why
      → LeavesDisk v leave lines image now' writes writes' (stopped_outcome why i)
  halted stop.ReadFault now' writes' within line_is at count stays =
      record { image_is = stays; writes_are = count ∙ at.writes_are; finished_are = (omega (arith, within), at.goes) }
  halted stop.NoMemory now' writes' within line_is at count stays =
      record { image_is = stays; writes_are = count ∙ at.writes_are; finished_are = (omega (arith, within), at.goes) }
  halted (stop.WriteFault written) now' writes' within line_is at count stays =
      let r : SessionRun = shelled v leave (take i lines) image in
      let next = due_run within line_is at in
      record {
        image_is = subst (λ (im : Image). IsWrittenBehind written r.image im now') (ap (λ (q : SessionRun). q.image) (sym next)) stays.0;
        writes_are = (
          count ∙ ap (λ (n : ℕ). raised_times written n) at.writes_are,
          ap (λ (q : SessionRun). q.writes) next ∙ put_counts line_effect.put r.writes stays.1,
        );
        finished_are = (omega (arith, within), (omega (arith, within), at.goes));
      }

  -- lines could not be put
  cut_short : (now' : Option Image) (writes' : ℕ)
      → i < length lines → line ≡ get_or lines i d → IsAt v leave lines image i s now writes writes_now
      → now' ≡ Some (image_after line_effect.put (shelled v leave (take i lines) image).image)
      → writes' ≡ raised_put line_effect.put writes_now
      → LeavesDisk v leave lines image now' writes writes' (OutputFault (i + 1))
  cut_short now' writes' within line_is at held count =
      let r : SessionRun = shelled v leave (take i lines) image in
      let next = due_run within line_is at in
      let less : i ≡ i + 1 - 1 = omega arith in
      record {
        image_is = held ∙ ap (λ (q : SessionRun). Some q.image) (sym next);
        writes_are =
            count
            ∙ ap (λ (n : ℕ). raised_put line_effect.put n) at.writes_are
            ∙ raised_more line_effect.put r.writes writes
            ∙ ap (λ (q : SessionRun). raised_times q.writes writes) (sym next);
        finished_are = (omega arith, omega (arith, within), subst (λ (k : ℕ). IsGoing v leave lines image k) less (omega (arith, within), at.goes));
      }

  -- lines ended as one of them did
  pub line_ended : (ended : LineEnd) (s' : Session) (now' : Option Image) (writes' : ℕ)
      → i < length lines → line ≡ get_or lines i d → IsAt v leave lines image i s now writes writes_now
      → HasEndCount writes_now writes' ended
      → LeavesLine line_effect (shelled v leave (take i lines) image).image s' now' writes_now writes' (Err ended)
      → LeavesDisk v leave lines image now' writes writes' (outcome_behind i ended)
  line_ended (end.Stopped why) s' now' writes' within line_is at count stays = halted why now' writes' within line_is at count stays
  line_ended end.OutputFault s' now' writes' within line_is at count left = cut_short now' writes' within line_is at left.0 left.1

  pub text_ended : (ended : LineEnd) (before : List ℕ) (took' : Option (List ℕ))
      → i < length lines → line ≡ get_or lines i d → IsAt v leave lines image i s now writes writes_now
      → PrintsLine line_effect (before ++ (shelled v leave (take i lines) image).text) took' (Err ended)
      → Prints v leave lines image before took' (outcome_behind i ended)
  text_ended (end.Stopped stop.ReadFault) before took' within line_is at put = put
  text_ended (end.Stopped (stop.WriteFault written)) before took' within line_is at put = put
  text_ended (end.Stopped stop.NoMemory) before took' within line_is at put = put
  text_ended end.OutputFault before took' within line_is at put =
      let r : SessionRun = shelled v leave (take i lines) image in
      let next = due_run within line_is at in
      let less : i ≡ i + 1 - 1 = omega arith in
      let prefix : IsPrefixPut before (length r.text) (extended r line_effect).text took' = (
        length r.text + put.0,
        omega arith,
        rw length-append (omega (arith, put.2)),
        put.3
            ∙ ap (λ (t : List ℕ). Some t) (append_assoc before r.text (take put.0 line_effect.text))
            ∙ ap (λ (t : List ℕ). Some (before ++ t)) (sym (take-append-add r.text line_effect.text put.0)),
      )
      in
      subst (λ (k : ℕ). IsPrefixPut before (length (shelled v leave (take k lines) image).text) (shelled v leave (take (i + 1) lines) image).text took') less
      (subst (λ (q : SessionRun). IsPrefixPut before (length r.text) q.text took') (sym next) prefix)

-- all lines were run
pub at_end : (v : Volume) (leave : Leave) (lines : List (List ℕ)) (image : Image) (i : ℕ) (s : Session) (now : Option Image) (writes writes_now : ℕ)
    → length lines ≤ i → IsAt v leave lines image i s now writes writes_now → LeavesDisk v leave lines image now writes writes_now Done
at_end v leave lines image i s now writes writes_now all at =
    let whole : take i lines ≡ lines = take_all i lines all in
    record {
      image_is = at.image_is ∙ ap (λ (ls : List (List ℕ)). Some (shelled v leave ls image).image) whole;
      writes_are = at.writes_are ∙ ap (λ (ls : List (List ℕ)). raised_times (shelled v leave ls image).writes writes) whole;
      finished_are = tt;
    }

pub text_at_end : (v : Volume) (leave : Leave) (lines : List (List ℕ)) (image : Image) (i : ℕ) (before : List ℕ) (took : Option (List ℕ))
    → length lines ≤ i → took ≡ Some (before ++ (shelled v leave (take i lines) image).text) → Prints v leave lines image before took Done
text_at_end v leave lines image i before took all text =
    text ∙ ap (λ (ls : List (List ℕ)). Some (before ++ (shelled v leave ls image).text)) (take_all i lines all)

-- the line of a number
word_is : (lines : List (List ℕ)) (i : ℕ) → i < length lines → word_at lines i ≡ get_or lines i []
word_is [] i within = absurd (omega (arith, within))
word_is (line ∷ lines) zero within = refl
word_is (line ∷ lines) (suc i) within = word_is lines i (omega (arith, within))

pub line_is : (lines : List (List ℕ)) (i : ℕ) (line : List ℕ) → line ≡ word_at lines i → i < length lines → line ≡ get_or lines i []
line_is lines i line is within = is ∙ word_is lines i within

rose_before : (a b c : ℕ) → a ≤ b → Rose b c → Rose a c
rose_before a b c less rose = (omega (arith, less, rose.0), omega (arith, less, rose.1))

-- a fault behind earlier lines has its cause
pub cause_behind : (f m f' w n w' t t' p q p' : ℕ) (ended : LineEnd) (k : ℕ) → f ≤ m → w ≤ n → p ≤ q → HasLineCause {T = Verdict} m f' n w' q p' (Err ended)
    → HasSessionCause f f' w w' t t' p p' (outcome_behind k ended)
cause_behind f m f' w n w' t t' p q p' (end.Stopped stop.ReadFault) k fm wn pq cause = rose_before f m f' fm cause
cause_behind f m f' w n w' t t' p q p' (end.Stopped (stop.WriteFault written)) k fm wn pq cause = rose_before w n w' wn cause
cause_behind f m f' w n w' t t' p q p' (end.Stopped stop.NoMemory) k fm wn pq cause = tt
cause_behind f m f' w n w' t t' p q p' end.OutputFault k fm wn pq cause = rose_before p q p' pq cause

pub ran_lines : (k : ℕ) (ended : LineEnd) → IsOfLines (outcome_behind k ended)
ran_lines k (end.Stopped stop.ReadFault) = tt
ran_lines k (end.Stopped (stop.WriteFault written)) = tt
ran_lines k (end.Stopped stop.NoMemory) = tt
ran_lines k end.OutputFault = tt

-- an early end is that of the first line, which was stopped
pub early_first : (k : ℕ) (ended : LineEnd) → IsEarly (outcome_behind k ended) → (k ≡ 0) × IsHalted {T = Verdict} (Err ended)
early_first k (end.Stopped stop.ReadFault) early = (early, tt)
early_first k (end.Stopped (stop.WriteFault written)) early = absurd early
early_first k (end.Stopped stop.NoMemory) early = (early, tt)
early_first k end.OutputFault early = absurd early

-- the counts of faults behind a line
pub counts_of : (f f' w w' p p' : ℕ) (why : Option Stop) → HasStopCause f f' w w' why → p ≤ p' → HasCounts f f' w w' p p'
counts_of f f' w w' p p' None cause put = record { reads = cause.0; writes = cause.1; puts = put }
counts_of f f' w w' p p' (Some stop.ReadFault) cause put = record { reads = cause.0.0; writes = cause.1; puts = put }
counts_of f f' w w' p p' (Some (stop.WriteFault written)) cause put = record { reads = cause.0; writes = cause.1.0; puts = put }
counts_of f f' w w' p p' (Some stop.NoMemory) cause put = record { reads = cause.0; writes = cause.1; puts = put }

-- why a line was stopped
pub line_cause : (f f' w w' p p' : ℕ) (why : Stop) → HasStopCause f f' w w' (Some why) → HasLineCause {T = Verdict} f f' w w' p p' (Err (end.Stopped why))
line_cause f f' w w' p p' stop.ReadFault cause = cause.0
line_cause f f' w w' p p' (stop.WriteFault written) cause = cause.1
line_cause f f' w w' p p' stop.NoMemory cause = tt

-- where a command that was run stands
pub stands_behind : (e : Effect) (image : Image) (verdict : Verdict) (old new : List ℕ) (session : Session) (now : Option Image) (writes writes_now : ℕ)
    → IsRunCommand e image verdict old new session now writes writes_now → StandsBehind e image verdict session now writes writes_now
stands_behind e image verdict old new session now writes writes_now run =
    record { verdict_is = run.verdict_is; session_is = run.session_is; image_is = run.image_is; writes_are = run.writes_are }

-- a part of its text was put
pub part_put : (before bytes text : List ℕ) (took : Option (List ℕ)) → bytes ≡ text → (n : ℕ) × (n ≤ length bytes) × (took ≡ Some (before ++ take n bytes))
    → IsPrefixPut before 0 text took
part_put before bytes text took is part = (
  part.0,
  omega arith,
  subst (λ (t : List ℕ). part.0 ≤ length t) is part.1,
  part.2 ∙ ap (λ (t : List ℕ). Some (before ++ take part.0 t)) is,
)
