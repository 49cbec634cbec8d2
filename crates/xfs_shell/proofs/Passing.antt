-- What stops of the machine leave, one command behind the other.
use Rattle.std.proofs.Common.{◌≡◌, ℕ, zero, suc, ◌+◌, ◌<◌, ◌⊎◌, Bool, List, [], ◌∷◌, length, Option, Some, refl, sym, ◌∙◌, ap, inl, inr, subst, arith}
use Rattle.std.specs.Prelude.{slice_get, slice_set}
use Rattle.std.proofs.lemmas.Option.{get_or_from_slice_get}
use Rattle.xfs_disk.specs.Blocks.{Image}
use Rattle.xfs_disk.specs.Reads.{OnlyReads}
use Rattle.xfs_disk.specs.Stops.{EachOf, Elapses, GoesOn}
use Rattle.xfs_geom.specs.Volumes.{Volume}
use Rattle.xfs_commands.specs.Commands.{Effect, Put, Session, put_of, sets}
use Rattle.xfs_commands.specs.Verbs.{at_place, word_at}
use Rattle.xfs_commands.specs.declared.cursor.Verdict.{Verdict}
use Rattle.xfs_commands.specs.declared.cursor.Verdict.TheVariants.{Done}
use Rattle.xfs_objects.specs.declared.objects.ObjectPlace.{ObjectPlace}
use Rattle.xfs_shell.specs.Running.{block_at_place, image_after, sets_here, shelled_first}
use Rattle.xfs_shell.specs.Steps.{IsDurable}
use Rattle.xfs_shell.specs.Stops.{HasPassed, IsEither, Passes, StopsBetween}
use Rattle.xfs_shell.specs.declared.session.Leave.{Leave}
use Rattle.xfs_shell.proofs.Stepping.{AreRun, kept_reads}

set_same : (image : Image) (at : ℕ) (block : List ℕ) → at < length image → slice_get (slice_set image at block) at ≡ Some block
set_same [] at block inside = absurd (omega (arith, inside))
set_same (first ∷ rest) zero block inside = refl
set_same (first ∷ rest) (suc at) block inside = set_same rest at block (omega (arith, inside))

module _ {D : Type 0} (size : D → ℕ) (holds : D → Option Image) (faults write_faults reads writes : D → ℕ) (tells_stops : D → Type 0)
    (moment : D → ℕ) (may_leave : D → ℕ → List ℕ → Type 0) (left_since : D → ℕ → Image → Type 0) where
  pub reads_pass : (image next : Image) → (a b : D) → OnlyReads size holds write_faults writes tells_stops moment may_leave left_since a b
      → Passes holds tells_stops moment may_leave left_since image next a b
  reads_pass image next a b only = record {
    later = λ told. (only.past told).later;
    leaves = λ told kept t left low since. inl ((only.past told).nothing_new t left low since);
  }

  -- a block was written, or is old or new
  pub write_passes : (image : Image) → (at : ℕ) → (block : List ℕ) → (a b : D) → holds a ≡ Some image → at < length image
      → (tells_stops a → Elapses (moment a) (moment b) (left_since a) (left_since b) (EachOf (may_leave b)))
      → (tells_stops a → (n : ℕ) (v : List ℕ) → may_leave b n v → may_leave a n v ⊎ ((n ≡ at) × (v ≡ block)))
      → Passes holds tells_stops moment may_leave left_since image (slice_set image at block) a b
  write_passes image at block a b held inside time stops = record {
    later = λ told. (time told).later;
    leaves =
        λ told kept t left low since.
        elim ((time told).nothing_else t left low since) [
          | inl before ↦ inl before
          | inr now ↦ inr (record { each = λ n v is. by_block kept n v (stops told n v (now n v is)) })
        ];
  }
    where
      by_block : IsDurable holds may_leave a → (n : ℕ) (v : List ℕ) → may_leave a n v ⊎ ((n ≡ at) × (v ≡ block))
          → (slice_get image n ≡ Some v) ⊎ (slice_get (slice_set image at block) n ≡ Some v)
      by_block kept n v (inl may) = inl (kept image held n v may)
      by_block kept n v (inr new) =
          inr
          (ap (λ (m : ℕ). slice_get (slice_set image at block) m) new.0
          ∙ set_same image at block inside
          ∙ ap (λ (bytes : List ℕ). Some bytes) (sym new.1))

  -- and then was waited for
  pub goes_passes : (image next : Image) → (a b c : D) → Passes holds tells_stops moment may_leave left_since image next a b
      → (tells_stops a → tells_stops b) → (tells_stops b → GoesOn (moment b) (moment c) (left_since b) (left_since c))
      → Passes holds tells_stops moment may_leave left_since image next a c
  goes_passes image next a b c passes tells goes = record {
    later = λ told. omega (arith, passes.later told, (goes (tells told)).later);
    leaves =
        λ told kept t left low since.
        passes.leaves told kept t left low ((goes (tells told)).nothing_new t left (omega (arith, low, passes.later told)) since);
  }

  -- a block was read before
  pub read_passes : (image next : Image) → (a b c : D) → OnlyReads size holds write_faults writes tells_stops moment may_leave left_since a b
      → Passes holds tells_stops moment may_leave left_since image next b c → Passes holds tells_stops moment may_leave left_since image next a c
  read_passes image next a b c only passes = record {
    later = λ told. omega (arith, (only.past told).later, passes.later (only.tells told));
    leaves =
        λ told kept t left low since.
        elim
        (passes.leaves (only.tells told) (kept_reads size holds faults write_faults reads writes tells_stops moment may_leave left_since a b only told kept) t left
        (omega (arith, low, (only.past told).later)) since)
        [ inl before ↦ inl ((only.past told).nothing_new t left low before) | inr mixed ↦ inr mixed ];
  }

  module _ (v : Volume) (leave : Leave) (lines : List (List ℕ)) (image : Image) where
    pub passed_none : (a : D) → HasPassed holds tells_stops moment may_leave left_since v leave lines image a a
    passed_none a = record { later = λ told. omega arith; leaves = λ told kept t left low since. inl since }

    -- one line more
    pub passed_more : (may : Bool) → (i : ℕ) → (next : Image) → (a b c : D)
        → AreRun size holds reads writes write_faults tells_stops moment may_leave left_since may i a b
        → HasPassed holds tells_stops moment may_leave left_since v leave lines image a b
        → Passes holds tells_stops moment may_leave left_since (shelled_first v leave lines image i).image next b c
        → next ≡ (shelled_first v leave lines image (i + 1)).image
        → HasPassed holds tells_stops moment may_leave left_since v leave lines image a c
    passed_more may i next a b c run passed passes is = record {
      later = λ told. omega (arith, passed.later told, passes.later (run.tells told));
      leaves =
          λ told kept t left low since.
          elim (passes.leaves (run.tells told) (run.kept told kept) t left (omega (arith, low, passed.later told)) since) [
            | inl before ↦ passed.leaves told kept t left low before
            | inr mixed ↦ inr (i, subst (λ (im : Image). IsEither (shelled_first v leave lines image i).image im left) is mixed)
          ];
    }

    -- a session whose lines were run so, or none
    pub stops_between : (a b c : D) → holds a ≡ Some image → OnlyReads size holds write_faults writes tells_stops moment may_leave left_since a b
        → HasPassed holds tells_stops moment may_leave left_since v leave lines image b c
        → ((left : Image) → tells_stops a → left_since a (moment a) left → EachOf (may_leave a) left)
        → StopsBetween holds tells_stops moment may_leave left_since v leave lines image a c
    stops_between a b c held only passed law = record {
      each =
          λ told kept left since.
          elim
          (passed.leaves (only.tells told) (kept_reads size holds faults write_faults reads writes tells_stops moment may_leave left_since a b only told kept)
          (moment a) left (only.past told).later since) [
            | inl before ↦ (
              0,
              record {
                each = λ n bytes is. inl (kept image held n bytes (law left told ((only.past told).nothing_new (moment a) left (omega arith) before) n bytes is));
              },
            )
            | inr between ↦ between
          ];
    }

-- the image with the block that `write` puts
pub sets_image : (image : Image) (s : Session) (place : ObjectPlace) (block new : List ℕ) (args : List (List ℕ)) (name value : List ℕ) (verdict : Verdict) → s.at ≡ Some place
    → slice_get image place.block ≡ Some block → verdict ≡ Done → name ≡ word_at args 0 → value ≡ word_at args 1
    → put_of verdict place.block new ≡ (sets place block name value s).put
    → slice_set image place.block new ≡ image_after (sets_here (block_at_place image s.at) args s).put image
sets_image image s place block new args name value verdict at read done name_is value_is put =
    let words : sets place block name value s ≡ sets place block (word_at args 0) (word_at args 1) s =
    ap (λ (n : List ℕ). sets place block n value s) name_is ∙ ap (λ (w : List ℕ). sets place block (word_at args 0) w s) value_is
    in
    let due : sets_here (block_at_place image s.at) args s ≡ sets place block (word_at args 0) (word_at args 1) s =
    ap (λ (a : Option ObjectPlace). at_place a (λ p. sets p (block_at_place image a) (word_at args 0) (word_at args 1) s) s) at
    ∙ ap (λ (b : List ℕ). sets place b (word_at args 0) (word_at args 1) s) (get_or_from_slice_get image place.block block [] read)
    in
    ap (λ (p : Put). image_after p image) (ap (λ (v : Verdict). put_of v place.block new) (sym done) ∙ put ∙ ap (λ (e : Effect). e.put) (words ∙ sym due))
