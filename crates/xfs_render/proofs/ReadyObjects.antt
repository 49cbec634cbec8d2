-- The runs that are placed for objects have the owners that were asked for, and as many blocks as are written.
use Rattle.std.proofs.Common.{◌≡◌, ℕ, suc, ◌+◌, ◌-◌, ◌*◌, ◌/◌, ◌%◌, ◌^◌, ◌≤◌, ◌<◌, Bool, true, false, List, [], ◌∷◌, ◌++◌, length, take, drop, refl, sym, subst, ap, ◌∙◌, arith}
use Rattle.std.specs.List.{All}
use Rattle.std.specs.Prelude.{if◌then◌else◌}
use Rattle.std.proofs.lemmas.List.{take-append-drop}
use Rattle.std.proofs.lemmas.List.Elements.{All-append, All-cons, All-nil}
use Rattle.std.proofs.lemmas.Nat.{div-add-mod', div_below}
use Rattle.xfs_geom.specs.declared.records.Run.{Run}
use Rattle.xfs_kinds.specs.OffsetWords.{is_file_data}
use Rattle.xfs_place.specs.Objects.{ServeAsks, AreJoined, IsAsk, asks_of, front_of, rest_of, run_at}
use Rattle.xfs_place.specs.declared.wanted.Object.{Object}
use Rattle.xfs_place.specs.declared.wanted.RunAsk.{RunAsk}
use Rattle.xfs_render.specs.Objects.{asks_with_kind, blocks_of_asks, written_blocks}
use Rattle.xfs_render.specs.Readiness.{HasAsker, HasOwner}
use Rattle.xfs_render.proofs.ObjectSteps.{plain_all, plain_asks, written_count}

-- what is asked for has an owner, and so has each of its runs
record IsAskable (a : RunAsk) : Type 0 where
  owner : a.owner < 2 ^ 64 - 1
  offset : a.offset_word < 2 ^ 64
  ends : is_file_data a.owner a.offset_word ≡ true → a.offset_word + a.blocks < 2 ^ 64

askable : (a : RunAsk) → IsAsk a → HasAsker a → IsAskable a
askable a is has = record {
  owner = has.owner;
  offset = has.offset;
  ends = λ file.
      let whole : a.offset_word / 2 ^ 61 * 2 ^ 61 + a.offset_word % 2 ^ 61 ≡ a.offset_word = div-add-mod' a.offset_word (2 ^ 61) in
      let flags : a.offset_word / 2 ^ 61 < 8 = div_below a.offset_word (2 ^ 61) 8 (omega arith) (omega (arith, has.offset)) in
      let fits = is.fits file in
      omega (arith, whole, flags, fits);
}

rest_askable : (a : RunAsk) (n : ℕ) → n ≤ a.blocks → IsAskable a → IsAskable (rest_of a n)
rest_askable a n few able = by_case (is_file_data a.owner a.offset_word) refl
  where
    by_case : (t : Bool) → is_file_data a.owner a.offset_word ≡ t
        → IsAskable (record { blocks = a.blocks - n; owner = a.owner; offset_word = if t then a.offset_word + n else a.offset_word })
    by_case true is =
        let end = able.ends is in
        record { owner = able.owner; offset = omega (arith, end, few); ends = λ file. omega (arith, end, few) }
    by_case false is = record { owner = able.owner; offset = able.offset; ends = λ file. absurd (no is file) }
      where
        no : is_file_data a.owner a.offset_word ≡ false → is_file_data a.owner a.offset_word ≡ true → ⊥
        no x y = differ (sym x ∙ y)
          where
            differ : false ≡ true → ⊥
            differ e = cc

joined_owned : (a : RunAsk) (runs : List Run) → IsAskable a → AreJoined a runs → All HasOwner runs
joined_owned a [] able are = All-nil HasOwner
joined_owned a (r ∷ runs) able are =
    let is : r ≡ run_at r.start (front_of a r.count) = are.0 in
    let owner : r.owner ≡ a.owner = ap (λ (x : Run). x.owner) is in
    let offset : r.offset_word ≡ a.offset_word = ap (λ (x : Run). x.offset_word) is in
    All-cons HasOwner r runs (record { owner = omega (arith, owner, able.owner); offset = omega (arith, offset, able.offset) })
    (joined_owned (rest_of a r.count) runs (rest_askable a r.count are.1 able) are.2)

cuts_owned : (asks : List RunAsk) (cuts : List ℕ) (runs : List Run) → All IsAskable asks → ServeAsks asks cuts runs → All HasOwner runs
cuts_owned [] [] runs able are = subst (All HasOwner) (sym are) (All-nil HasOwner)
cuts_owned [] (n ∷ cuts) runs able are = absurd are
cuts_owned (a ∷ asks) [] runs able are = absurd are
cuts_owned (a ∷ asks) (n ∷ cuts) runs able are =
    subst (All HasOwner) (take-append-drop n runs)
    (All-append HasOwner (take n runs) (drop n runs) (joined_owned a (take n runs) (able 0 a (omega arith)) are.1)
    (cuts_owned asks cuts (drop n runs) (λ k d low. able (suc k) d (omega (arith, low))) are.2))

all_askable : (asks : List RunAsk) → All IsAsk asks → All HasAsker asks → All IsAskable asks
all_askable [] are have = All-nil IsAskable
all_askable (a ∷ asks) are have =
    All-cons IsAskable a asks (askable a (are 0 a (omega arith)) (have 0 a (omega arith)))
    (all_askable asks (λ k d low. are (suc k) d (omega (arith, low))) (λ k d low. have (suc k) d (omega (arith, low))))

asks_askable : (objects : List Object) → All (λ (o : Object). All IsAsk o.runs) objects → All (λ (o : Object). All HasAsker o.runs) objects → All IsAskable (asks_of objects)
asks_askable [] are have = All-nil IsAskable
asks_askable (o ∷ objects) are have =
    All-append IsAskable o.runs (asks_of objects) (all_askable o.runs (are 0 o (omega arith)) (have 0 o (omega arith)))
    (asks_askable objects (λ k d low. are (suc k) d (omega (arith, low))) (λ k d low. have (suc k) d (omega (arith, low))))

pub objects_owned : (objects : List Object) (cuts : List ℕ) (runs : List Run) → All (λ (o : Object). All IsAsk o.runs) objects
    → All (λ (o : Object). All HasAsker o.runs) objects → ServeAsks (asks_of objects) cuts runs → All HasOwner runs
objects_owned objects cuts runs are have cut = cuts_owned (asks_of objects) cuts runs (asks_askable objects are have) cut

pub objects_counted : (objects : List Object) (cuts : List ℕ) (runs : List Run) → ServeAsks (asks_of objects) cuts runs
    → length (blocks_of_asks (asks_with_kind objects) cuts runs) ≡ written_blocks (asks_of objects)
objects_counted objects cuts runs cut =
    let plain = plain_all objects in
    written_count (asks_with_kind objects) cuts runs (subst (λ (asks : List RunAsk). ServeAsks asks cuts runs) (sym plain) cut) ∙ ap written_blocks plain
