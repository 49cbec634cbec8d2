-- Commands that write nothing, as outcomes over a disk.
use Rattle.std.proofs.Common.{◌≡◌, ℕ, Bool, true, List, ◌++◌, [], Option, Some, None, Result, Ok, Err, IfOk, refl, sym, subst, ◌∙◌, ap, inl, arith}
use Rattle.std.specs.Prelude.{OnOk, slice_get, slice_set}
use Rattle.std.proofs.lemmas.Option.{get_or_from_slice_get}
use Rattle.xfs_disk.specs.Blocks.{Image}
use Rattle.xfs_disk.specs.declared.failed.NoMemory.{NoMemory}
use Rattle.xfs_disk.specs.Counts.{raised}
use Rattle.xfs_geom.specs.Volumes.{Volume}
use Rattle.xfs_commands.specs.Commands.{Effect, Session, Put, IsEffect, addresses, no_address, prints, put_of, refuses, sets}
use Rattle.xfs_commands.specs.Cursors.{is_quit}
use Rattle.xfs_commands.specs.Verbs.{at_place, runs_alone, word_at}
use Rattle.xfs_commands.specs.declared.commands.Verb.{Verb}
use Rattle.xfs_commands.specs.declared.commands.Verb.TheVariants as verb
use Rattle.xfs_objects.specs.Objects.{object_in}
use Rattle.xfs_objects.specs.declared.objects.ObjectPlace.{ObjectPlace}
use Rattle.xfs_shell.specs.Running.{block_at_place, count_put, image_after, is_quit_verb, object_at, runs, runs_addr, runs_print, sets_here}
use Rattle.xfs_shell.specs.Sessions.{IsCommandOutcome, IsRunCommand, IsWrittenBehind, LeavesAtStop, raised_put, stopped}
use Rattle.xfs_shell.specs.declared.session.Leave.{Leave}
use Rattle.xfs_shell.specs.declared.session.Stop.TheVariants as stop
use Rattle.xfs_shell.proofs.Quitting.{quit_is}
use Rattle.xfs_shell.specs.Steps.{IsOneRead}
use Rattle.xfs_shell.specs.Stops.{Passes}
use Rattle.xfs_shell.specs.declared.session.Stop.{Stop}
use Rattle.xfs_shell.proofs.Passing.{reads_pass}
use Rattle.xfs_commands.specs.declared.cursor.Verdict.{Verdict}
use Rattle.xfs_commands.specs.declared.cursor.Verdict.TheVariants.{Done, Refused}

pub settles : (e : Effect) (image : Image) (old new : List ℕ) (session : Session) (now : Option Image) (writes writes_now : ℕ) (result : Result Verdict NoMemory)
    → IfOk result (λ verdict. IsEffect e verdict old new session None) → now ≡ Some image → writes_now ≡ writes
    → IsCommandOutcome e image old new session now writes writes_now (stopped result)
settles e image old new session now writes writes_now (Ok verdict) done told same =
    record {
      verdict_is = done.verdict_is;
      text_is = done.text_is;
      session_is = done.session_is;
      image_is = told ∙ ap (λ (put : Put). Some (image_after put image)) done.put_is;
      writes_are = same ∙ ap (λ (put : Put). raised_put put writes) done.put_is;
    }
settles e image old new session now writes writes_now (Err err) done told same = told

-- the same effect by another name
pub effect_as : (r : Result Verdict NoMemory) (old new : List ℕ) (s : Session) (put : Put) (e f : Effect) → f ≡ e
    → IfOk r (λ verdict. IsEffect f verdict old new s put) → IfOk r (λ verdict. IsEffect e verdict old new s put)
effect_as r old new s put e f is = subst (λ (x : Effect). IfOk r (λ verdict. IsEffect x verdict old new s put)) is

refused : (r : Result Verdict NoMemory) (old new line : List ℕ) (s : Session) → IfOk r (λ verdict. verdict ≡ Refused) → OnOk r (new ≡ old ++ line)
    → IfOk r (λ verdict. IsEffect (refuses line s) verdict old new s None)
refused (Ok v) old new line s verdict text = record { verdict_is = verdict; text_is = text; session_is = refl; put_is = refl }
refused (Err e) old new line s verdict text = tt

-- the same as a call says of its outcome
pub settled : (e : Effect) (image : Image) (old new : List ℕ) (session : Session) (now : Option Image) (writes writes_now : ℕ) (result : Result Verdict NoMemory) (ended : Result Verdict Stop)
    → ended ≡ stopped result → IfOk result (λ verdict. IsEffect e verdict old new session None) → now ≡ Some image → writes_now ≡ writes
    → IsCommandOutcome e image old new session now writes writes_now ended
settled e image old new session now writes writes_now result ended is done told same =
    subst (λ (r : Result Verdict Stop). IsCommandOutcome e image old new session now writes writes_now r) (sym is)
    (settles e image old new session now writes writes_now result done told same)

-- a refusal with a line
pub settled_refusal : (e : Effect) (line : List ℕ) (image : Image) (old new : List ℕ) (session : Session) (now : Option Image) (writes : ℕ) (result : Result Verdict NoMemory)
    (ended : Result Verdict Stop) → refuses line session ≡ e → ended ≡ stopped result → IfOk result (λ verdict. verdict ≡ Refused) → OnOk result (new ≡ old ++ line)
    → now ≡ Some image → IsCommandOutcome e image old new session now writes writes ended
settled_refusal e line image old new session now writes result ended due is verdict text told =
    settled e image old new session now writes writes result ended is
    (effect_as result old new session None e (refuses line session) due (refused result old new line session verdict text)) told refl

-- the same effect by another name
pub outcome_as : (e f : Effect) (image : Image) (old new : List ℕ) (session : Session) (now : Option Image) (writes writes_now : ℕ) (ended : Result Verdict Stop) → f ≡ e
    → IsCommandOutcome f image old new session now writes writes_now ended → IsCommandOutcome e image old new session now writes writes_now ended
outcome_as e f image old new session now writes writes_now ended is =
    subst (λ (x : Effect). IsCommandOutcome x image old new session now writes writes_now ended) is

-- commands that have no current place
pub addr_placeless : (v : Volume) (word block : List ℕ) (s : Session) → s.at ≡ None → no_address s ≡ runs_addr v word block s
addr_placeless v word block s is = ap (λ (a : Option ObjectPlace). at_place a (λ place. addresses v place (object_at place block) word s) s) (sym is)

pub print_placeless : (args : List (List ℕ)) (block : List ℕ) (s : Session) → s.at ≡ None → no_address s ≡ runs_print args block s
print_placeless args block s is = ap (λ (a : Option ObjectPlace). at_place a (λ place. prints place.kind (object_at place block) args s) s) (sym is)

pub set_placeless : (block : List ℕ) (args : List (List ℕ)) (s : Session) → s.at ≡ None → no_address s ≡ sets_here block args s
set_placeless block args s is = ap (λ (a : Option ObjectPlace). at_place a (λ place. sets place block (word_at args 0) (word_at args 1) s) s) (sym is)

-- and commands over the block of the current place, which was read
pub addr_here : (v : Volume) (image : Image) (s : Session) (place : ObjectPlace) (block object word : List ℕ) → s.at ≡ Some place → slice_get image place.block ≡ Some block
    → object ≡ object_in place.kind place.sector block → addresses v place object word s ≡ runs_addr v word (block_at_place image s.at) s
addr_here v image s place block object word at read is =
    ap (λ (o : List ℕ). addresses v place o word s) is
    ∙ ap (λ (b : List ℕ). addresses v place (object_at place b) word s) (sym (get_or_from_slice_get image place.block block [] read))
    ∙ ap (λ (a : Option ObjectPlace). at_place a (λ p. addresses v p (object_at p (block_at_place image a)) word s) s) (sym at)

pub print_here : (image : Image) (s : Session) (place : ObjectPlace) (block object : List ℕ) (args : List (List ℕ)) → s.at ≡ Some place → slice_get image place.block ≡ Some block
    → object ≡ object_in place.kind place.sector block → prints place.kind object args s ≡ runs_print args (block_at_place image s.at) s
print_here image s place block object args at read is =
    ap (λ (o : List ℕ). prints place.kind o args s) is
    ∙ ap (λ (b : List ℕ). prints place.kind (object_at place b) args s) (sym (get_or_from_slice_get image place.block block [] read))
    ∙ ap (λ (a : Option ObjectPlace). at_place a (λ p. prints p.kind (object_at p (block_at_place image a)) args s) s) (sym at)

pub set_here : (image : Image) (s : Session) (place : ObjectPlace) (block new_block : List ℕ) (args : List (List ℕ)) (name value : List ℕ) (verdict : Verdict) (old new : List ℕ)
    → s.at ≡ Some place → slice_get image place.block ≡ Some block → name ≡ word_at args 0 → value ≡ word_at args 1
    → IsEffect (sets place block name value s) verdict old new s (put_of verdict place.block new_block)
    → IsEffect (sets_here (block_at_place image s.at) args s) verdict old new s (put_of verdict place.block new_block)
set_here image s place block new_block args name value verdict old new at read name_is value_is =
    let due : sets place block name value s ≡ sets_here (block_at_place image s.at) args s =
    ap (λ (n : List ℕ). sets place block n value s) name_is
    ∙ ap (λ (w : List ℕ). sets place block (word_at args 0) w s) value_is
    ∙ ap (λ (b : List ℕ). sets place b (word_at args 0) (word_at args 1) s) (sym (get_or_from_slice_get image place.block block [] read))
    ∙ ap (λ (a : Option ObjectPlace). at_place a (λ p. sets p (block_at_place image a) (word_at args 0) (word_at args 1) s) s) (sym at)
    in
    subst (λ (e : Effect). IsEffect e verdict old new s (put_of verdict place.block new_block)) due

-- one that is not to write its block
pub ran_unwritten : (e : Effect) (image : Image) (verdict : Verdict) (old new : List ℕ) (s : Session) (put : Put) (now : Option Image) (writes writes_now : ℕ)
    → IsEffect e verdict old new s put → put ≡ None → now ≡ Some image → writes_now ≡ writes → IsRunCommand e image verdict old new s now writes writes_now
ran_unwritten e image verdict old new s put now writes writes_now did none told same =
    let is : None ≡ e.put = sym none ∙ did.put_is in
    record {
      verdict_is = did.verdict_is;
      text_is = did.text_is;
      session_is = did.session_is;
      image_is = told ∙ ap (λ (p : Put). Some (image_after p image)) is;
      writes_are = same ∙ ap (λ (p : Put). raised_put p writes) is;
    }

-- one that wrote it
pub ran_written : (e : Effect) (image : Image) (verdict : Verdict) (old new : List ℕ) (s : Session) (at : ℕ) (block : List ℕ) (now : Option Image) (writes before writes_now : ℕ)
    → IsEffect e verdict old new s (put_of verdict at block) → verdict ≡ Done → now ≡ Some (slice_set image at block) → before ≡ writes → writes_now ≡ raised before
    → IsRunCommand e image verdict old new s now writes writes_now
ran_written e image verdict old new s at block now writes before writes_now did done told same one =
    let is : Some (at, block) ≡ e.put = ap (λ (v : Verdict). put_of v at block) (sym done) ∙ did.put_is in
    record {
      verdict_is = did.verdict_is;
      text_is = did.text_is;
      session_is = did.session_is;
      image_is = told ∙ ap (λ (p : Put). Some (image_after p image)) is;
      writes_are = one ∙ ap raised same ∙ ap (λ (p : Put). raised_put p writes) is;
    }

-- and one that failed to
pub ended_writing : (e : Effect) (image : Image) (verdict : Verdict) (old new : List ℕ) (s : Session) (at : ℕ) (block : List ℕ) (now : Option Image) (why : Stop) (written : ℕ)
    → IsEffect e verdict old new s (put_of verdict at block) → verdict ≡ Done → why ≡ stop.WriteFault written → IsWrittenBehind written image (slice_set image at block) now
    → LeavesAtStop e image now why
ended_writing e image verdict old new s at block now why written did done is behind =
    let put : Some (at, block) ≡ e.put = ap (λ (v : Verdict). put_of v at block) (sym done) ∙ did.put_is in
    subst (λ (w : Stop). LeavesAtStop e image now w) (sym is)
    (subst (λ (p : Put). IsWrittenBehind written image (image_after p image) now) put behind, ap (λ (p : Put). count_put p 0) (sym put))

-- a block could not be read
pub ended_reading : (e : Effect) (image : Image) (now : Option Image) (why : Stop) → why ≡ stop.ReadFault → now ≡ Some image → LeavesAtStop e image now why
ended_reading e image now why is told = subst (λ (w : Stop). LeavesAtStop e image now w) (sym is) told

-- a command that looks at no object
pub runs_other : (v : Volume) (leave : Leave) (t : Verb) (name : List ℕ) (args : List (List ℕ)) (block : List ℕ) (s : Session) → (t ≡ verb.Addr → ⊥) → (t ≡ verb.Print → ⊥)
    → (t ≡ verb.Write → ⊥) → runs_alone v t name args s ≡ runs v leave t name args block s
runs_other v leave verb.Addr name args block s addr print write = absurd (addr refl)
runs_other v leave verb.Print name args block s addr print write = absurd (print refl)
runs_other v leave verb.Write name args block s addr print write = absurd (write refl)
runs_other v leave verb.Sb name args block s addr print write = refl
runs_other v leave verb.Agf name args block s addr print write = refl
runs_other v leave verb.Agi name args block s addr print write = refl
runs_other v leave verb.Agfl name args block s addr print write = refl
runs_other v leave verb.Inode name args block s addr print write = refl
runs_other v leave verb.FsBlock name args block s addr print write = refl
runs_other v leave verb.DiskAddress name args block s addr print write = refl
runs_other v leave verb.Retype name args block s addr print write = refl
runs_other v leave verb.Push name args block s addr print write = refl
runs_other v leave verb.Pop name args block s addr print write = refl
runs_other v leave verb.Stack name args block s addr print write = refl
runs_other v leave verb.Convert name args block s addr print write = refl
runs_other v leave verb.Hash name args block s addr print write = refl
runs_other v leave verb.Quit name args block s addr print write = refl

quits_ended : (v : Volume) (t : Verb) (name : List ℕ) (args : List (List ℕ)) (s session : Session) (old new : List ℕ) (result : Result Verdict NoMemory) → t ≡ verb.Quit
    → IfOk result (λ verdict. IsEffect (runs_alone v t name args s) verdict old new session None) → IfOk (stopped result) (λ verdict. is_quit verdict ≡ true)
quits_ended v t name args s session old new (Ok verdict) is did =
    ap is_quit did.verdict_is ∙ ap (λ (u : Verb). is_quit (runs_alone v u name args s).verdict) is
quits_ended v t name args s session old new (Err e) is did = tt

pub alone_quits : (v : Volume) (t : Verb) (name : List ℕ) (args : List (List ℕ)) (s session : Session) (old new : List ℕ) (result : Result Verdict NoMemory) (ended : Result Verdict Stop)
    → ended ≡ stopped result → IfOk result (λ verdict. IsEffect (runs_alone v t name args s) verdict old new session None) → is_quit_verb (Some t) ≡ true
    → IfOk ended (λ verdict. is_quit verdict ≡ true)
alone_quits v t name args s session old new result ended is did quits =
    let same : Some t ≡ Some verb.Quit = quit_is (Some t) quits in
    let quit : t ≡ verb.Quit = cc in
    subst (λ (r : Result Verdict Stop). IfOk r (λ verdict. is_quit verdict ≡ true)) (sym is)
    (quits_ended v t name args s session old new result quit did)

-- nothing that was done but a read leaves nothing else
pub still_passes : {D : Type 0} (holds : D → Option Image) (tells_stops : D → Type 0) (moment : D → ℕ) (may_leave : D → ℕ → List ℕ → Type 0)
    (left_since : D → ℕ → Image → Type 0) (image next : Image) (a : D) → Passes holds tells_stops moment may_leave left_since image next a a
still_passes holds tells_stops moment may_leave left_since image next a =
    record { later = λ told. omega arith; leaves = λ told kept t left low since. inl since }

pub read_passed : {D : Type 0} (size : D → ℕ) (holds : D → Option Image) (faults write_faults reads writes : D → ℕ) (tells_stops : D → Type 0)
    (moment : D → ℕ) (may_leave : D → ℕ → List ℕ → Type 0) (left_since : D → ℕ → Image → Type 0) (image next : Image) (a b : D) (why : Option Stop)
    → IsOneRead size holds faults write_faults reads writes tells_stops moment may_leave left_since a b why
    → Passes holds tells_stops moment may_leave left_since image next a b
read_passed size holds faults write_faults reads writes tells_stops moment may_leave left_since image next a b why read =
    reads_pass size holds faults write_faults reads writes tells_stops moment may_leave left_since image next a b read.only_reads

pub ruleset settling = (settles, still_passes, read_passed)
