-- The blocks of objects, listed and put down.
use Rattle.std.proofs.Common.{◌≡◌, ℕ, zero, suc, ◌+◌, ◌-◌, ◌≤◌, ◌<◌, Bool, true, false, List, [], ◌∷◌, ◌++◌, length, map, take, drop, get_or, inl, inr, refl, sym, subst, ap, ap₂, ◌∙◌, arith, add-one, append-nil, append_assoc, drop-cons, length-append}
use Rattle.std.specs.List.{All, flat_map, range_with_len, sum_by}
use Rattle.std.specs.Prelude.{if◌then◌else◌}
use Rattle.std.proofs.lemmas.Bool.{cases_lt}
use Rattle.std.proofs.lemmas.List.{drop-drop, get_or-map, get_or_default, length-map, map-append, take_more}
use Rattle.std.proofs.lemmas.List.Concat.{flat_map-append, length-flat_map}
use Rattle.std.proofs.lemmas.List.Elements.{All-append, All-drop, All-take, All-nil}
use Rattle.std.proofs.lemmas.List.FromFn.{get_or-range_with_len, length-range_with_len}
use Rattle.std.proofs.lemmas.List.Sums.{sum_by-cons, sum_by-append}
use Rattle.xfs_disk.specs.Blocks.{Image, bytes_of_block}
use Rattle.xfs_geom.specs.Volumes.{Volume}
use Rattle.xfs_geom.specs.declared.records.Run.{Run}
use Rattle.xfs_kinds.specs.OffsetWords.{is_unwritten}
use Rattle.xfs_place.specs.Objects.{ServeAsks, AreJoined, asks_of, rest_of}
use Rattle.xfs_place.specs.Pool.{IsRunOf}
use Rattle.xfs_place.specs.declared.wanted.Object.{Object}
use Rattle.xfs_place.specs.declared.wanted.ObjectKind.{ObjectKind}
use Rattle.xfs_place.specs.declared.wanted.RunAsk.{RunAsk}
use Rattle.xfs_render.specs.Drafts.{AddsBlock, HoldsDraft, IsDraft}
use Rattle.xfs_render.specs.Objects.{AddsObjects, HasObjects, IsObjectBlock, ask_blocks, asks_in, asks_with_kind, block_places, blocks_of_asks, run_blocks, written_blocks, written_in}
use Rattle.xfs_render.specs.declared.draft.Draft.{Draft}
use Rattle.xfs_render.specs.declared.object_blocks.ObjectAsk.{ObjectAsk}
use Rattle.xfs_render.specs.declared.object_blocks.ObjectBlock.{ObjectBlock}
use Rattle.xfs_render.proofs.DraftSteps.{adds_as, adds_none, adds_then}
use Rattle.xfs_render.proofs.LogSteps.{range_more}

-- what is asked for, without what asks for it
abbrev pub plain_asks : List ObjectAsk → List RunAsk
plain_asks asks = map (λ (a : ObjectAsk). a.ask) asks

plain_in : (kind : ObjectKind) (runs : List RunAsk) → plain_asks (map (λ (ask : RunAsk). record { kind = kind; ask = ask }) runs) ≡ runs
plain_in kind [] = refl
plain_in kind (a ∷ runs) = ap (λ (xs : List RunAsk). a ∷ xs) (plain_in kind runs)

pub plain_all : (objects : List Object) → plain_asks (asks_with_kind objects) ≡ asks_of objects
plain_all [] = refl
plain_all (o ∷ objects) =
    map-append (λ (a : ObjectAsk). a.ask) (asks_in o) (asks_with_kind objects) ∙ ap₂ (λ (xs ys : List RunAsk). xs ++ ys) (plain_in o.kind o.runs) (plain_all objects)

-- one more item of a list that gives some others, and of one that gives one each
pub flat_more : {X Y : Type 0} (f : X → List Y) (before now new : List Y) (xs : List X) (i : ℕ) (d : X) → i < length xs
    → now ≡ before ++ flat_map f (take i xs) → new ≡ now ++ f (get_or xs i d) → new ≡ before ++ flat_map f (take (i + 1) xs)
flat_more f before now new xs i d inside is pushed =
    let x = get_or xs i d in
    let more : take (i + 1) xs ≡ take i xs ++ x ∷ [] = take_more xs i d inside in
    let alone : flat_map f (x ∷ []) ≡ f x = append-nil (f x) in
    pushed ∙ ap (λ ys. ys ++ f x) is ∙ append_assoc before (flat_map f (take i xs)) (f x)
    ∙ ap (λ ys. before ++ ys) (ap (λ ys. flat_map f (take i xs) ++ ys) (sym alone) ∙ sym (flat_map-append f (take i xs) (x ∷ [])) ∙ ap (flat_map f) (sym more))

pub map_more : {X Y : Type 0} (f : X → Y) (before now new : List Y) (xs : List X) (i : ℕ) (d : X) → i < length xs
    → now ≡ before ++ map f (take i xs) → new ≡ now ++ f (get_or xs i d) ∷ [] → new ≡ before ++ map f (take (i + 1) xs)
map_more f before now new xs i d inside is pushed =
    let x = get_or xs i d in
    let more : take (i + 1) xs ≡ take i xs ++ x ∷ [] = take_more xs i d inside in
    pushed ∙ ap (λ ys. ys ++ f x ∷ []) is ∙ append_assoc before (map f (take i xs)) (f x ∷ [])
    ∙ ap (λ ys. before ++ ys) (sym (map-append f (take i xs) (x ∷ [])) ∙ ap (map f) (sym more))

-- one more number of a range
pub range_map_more : {Y : Type 0} (f : ℕ → Y) (before now new : List Y) (start place : ℕ) → start ≤ place
    → now ≡ before ++ map f (range_with_len start (place - start)) → new ≡ now ++ f place ∷ [] → new ≡ before ++ map f (range_with_len start (place + 1 - start))
range_map_more f before now new start place low is pushed =
    let n = place - start in
    let at : start + n ≡ place = omega (arith, low) in
    let next : place + 1 - start ≡ n + 1 = omega (arith, low) in
    let more : range_with_len start (place + 1 - start) ≡ range_with_len start n ++ place ∷ [] =
    ap (range_with_len start) next ∙ range_more start n ∙ ap (λ (m : ℕ). range_with_len start n ++ m ∷ []) at in
    pushed ∙ ap (λ ys. ys ++ f place ∷ []) is ∙ append_assoc before (map f (range_with_len start n)) (f place ∷ [])
    ∙ ap (λ ys. before ++ ys) (sym (map-append f (range_with_len start n) (place ∷ [])) ∙ ap (map f) (sym more))

-- an ask whose blocks are written
pub written_is : (a : ObjectAsk) (runs : List Run) → is_unwritten a.ask.offset_word ≡ false → flat_map (run_blocks a.kind a.ask.owner) runs ≡ ask_blocks a runs
written_is a runs is = sym (ap (λ (t : Bool). if t then [] else flat_map (run_blocks a.kind a.ask.owner) runs) is)

pub unwritten_is : (a : ObjectAsk) (runs : List Run) → is_unwritten a.ask.offset_word ≡ true → [] ≡ ask_blocks a runs
unwritten_is a runs is = sym (ap (λ (t : Bool). if t then [] else flat_map (run_blocks a.kind a.ask.owner) runs) is)

-- the cut of an ask, and the asks behind it
pub record NextCut (asks : List ObjectAsk) (cuts : List ℕ) (runs : List Run) (i at : ℕ) : Type 0 where
  pub inside : i < length cuts
  pub few : at + get_or cuts i 0 ≤ length runs
  pub cuts' : ServeAsks (plain_asks (drop (i + 1) asks)) (drop (i + 1) cuts) (drop (at + get_or cuts i 0) runs)
  pub blocks : (a : ObjectAsk) → a ≡ get_or asks i a
      → blocks_of_asks (drop i asks) (drop i cuts) (drop at runs)
      ≡ ask_blocks a (take (get_or cuts i 0) (drop at runs)) ++ blocks_of_asks (drop (i + 1) asks) (drop (i + 1) cuts) (drop (at + get_or cuts i 0) runs)

-- there is no cut behind the last
cut_there : (asks : List RunAsk) (a : RunAsk) (cuts : List ℕ) (i : ℕ) (runs : List Run) → ServeAsks (a ∷ asks) (drop i cuts) runs → i < length cuts
cut_there asks a [] zero runs are = absurd are
cut_there asks a [] (suc i) runs are = absurd are
cut_there asks a (n ∷ cuts) zero runs are = omega arith
cut_there asks a (n ∷ cuts) (suc i) runs are = let low = cut_there asks a cuts i runs are in omega (arith, low)

pub next_cut : (asks : List ObjectAsk) (cuts : List ℕ) (runs : List Run) (i at : ℕ) (d : ObjectAsk) → i < length asks → at ≤ length runs
    → ServeAsks (plain_asks (drop i asks)) (drop i cuts) (drop at runs) → NextCut asks cuts runs i at
unfolding blocks_of_asks
next_cut asks cuts runs i at d low within are =
    let a : ObjectAsk = get_or asks i d in
    let first : drop i asks ≡ a ∷ drop (i + 1) asks = rw (add-one, drop-cons asks i d low) refl in
    let here : ServeAsks (a.ask ∷ plain_asks (drop (i + 1) asks)) (drop i cuts) (drop at runs) = subst (λ (xs : List ObjectAsk). ServeAsks (plain_asks xs) (drop i cuts) (drop at runs)) first are in
    let there : i < length cuts = cut_there (plain_asks (drop (i + 1) asks)) a.ask cuts i (drop at runs) here in
    let n : ℕ = get_or cuts i 0 in
    let cut : drop i cuts ≡ n ∷ drop (i + 1) cuts = rw (add-one, drop-cons cuts i 0 there) refl in
    let both : ServeAsks (a.ask ∷ plain_asks (drop (i + 1) asks)) (n ∷ drop (i + 1) cuts) (drop at runs) =
    subst (λ (xs : List ℕ). ServeAsks (a.ask ∷ plain_asks (drop (i + 1) asks)) xs (drop at runs)) cut here in
    let left : length (drop at runs) + at ≡ length runs = long_drop at runs within in
    record {
      inside = there;
      few = let most = both.0 in omega (arith, most, left);
      cuts' = subst (λ (rs : List Run). ServeAsks (plain_asks (drop (i + 1) asks)) (drop (i + 1) cuts) rs) (drop-drop n at runs) both.2;
      blocks = λ b is.
          let same : a ≡ b = get_or_default asks i d b low ∙ sym is in
          ap₂ (λ (xs : List ObjectAsk) (ys : List ℕ). blocks_of_asks xs ys (drop at runs)) first cut
          ∙ ap (λ (x : ObjectAsk). ask_blocks x (take n (drop at runs)) ++ blocks_of_asks (drop (i + 1) asks) (drop (i + 1) cuts) (drop n (drop at runs))) same
          ∙ ap (λ (rs : List Run). ask_blocks b (take n (drop at runs)) ++ blocks_of_asks (drop (i + 1) asks) (drop (i + 1) cuts) rs) (drop-drop n at runs);
    }
  where
    long_drop : (n : ℕ) (rs : List Run) → n ≤ length rs → length (drop n rs) + n ≡ length rs
    long_drop zero rs low = omega arith
    long_drop (suc n) [] low = absurd (omega (arith, low))
    long_drop (suc n) (r ∷ rs) low = let rest = long_drop n rs (omega (arith, low)) in omega (arith, rest)

-- the step from an ask to those behind it
pub next_all : (asks : List ObjectAsk) (cuts : List ℕ) (runs : List Run) (i at end : ℕ) (d : ObjectAsk) (now new all : List ObjectBlock) → i < length asks
    → end ≡ at + get_or cuts i 0 → NextCut asks cuts runs i at → now ++ blocks_of_asks (drop i asks) (drop i cuts) (drop at runs) ≡ all
    → new ≡ now ++ ask_blocks (get_or asks i d) (take (end - at) (drop at runs))
    → new ++ blocks_of_asks (drop (i + 1) asks) (drop (i + 1) cuts) (drop end runs) ≡ all
next_all asks cuts runs i at end d now new all low is next before pushed =
    let a = get_or asks i d in
    let n = get_or cuts i 0 in
    let size : end - at ≡ n = omega (arith, is) in
    let rest = blocks_of_asks (drop (i + 1) asks) (drop (i + 1) cuts) (drop (at + n) runs) in
    ap (λ (m : ℕ). new ++ blocks_of_asks (drop (i + 1) asks) (drop (i + 1) cuts) (drop m runs)) is
    ∙ ap (λ (xs : List ObjectBlock). xs ++ rest) (pushed ∙ ap (λ (m : ℕ). now ++ ask_blocks a (take m (drop at runs))) size)
    ∙ append_assoc now (ask_blocks a (take n (drop at runs))) rest
    ∙ ap (λ (xs : List ObjectBlock). now ++ xs) (sym (next.blocks a (get_or_default asks i d a low))) ∙ before

-- behind all asks there is none
pub no_more : (asks : List ObjectAsk) (cuts : List ℕ) (runs : List Run) (i : ℕ) → length asks ≤ i → blocks_of_asks (drop i asks) cuts runs ≡ []
unfolding blocks_of_asks
no_more [] cuts runs zero low = refl
no_more [] cuts runs (suc i) low = refl
no_more (a ∷ asks) cuts runs zero low = absurd (omega (arith, low))
no_more (a ∷ asks) cuts runs (suc i) low = no_more asks cuts runs i (omega (arith, low))

-- the blocks of a run lie in the volume where the run does
run_low : (d : ℕ) (kind : ObjectKind) (owner : ℕ) (r : Run) → IsRunOf d r → All (λ (at : ObjectBlock). at.place < d) (run_blocks kind owner r)
run_low d kind owner r inside = λ k at low.
    let f : ℕ → ObjectBlock = λ place. record { kind = kind; owner = owner; place = place } in
    let few : k < r.count = omega (arith, length-map (range_with_len r.start r.count) f, length-range_with_len r.start r.count, low) in
    let few' : k < length (range_with_len r.start r.count) = omega (arith, length-range_with_len r.start r.count, few) in
    let is : get_or (map f (range_with_len r.start r.count)) k at ≡ f (get_or (range_with_len r.start r.count) k 0) = get_or-map f (range_with_len r.start r.count) k 0 at few' in
    let place : (get_or (map f (range_with_len r.start r.count)) k at).place ≡ r.start + k =
    ap (λ (b : ObjectBlock). b.place) is ∙ get_or-range_with_len r.start r.count k 0 few in
    let end = inside.1 in
    omega (arith, place, few, end)

runs_low : (d : ℕ) (kind : ObjectKind) (owner : ℕ) (runs : List Run) → All (IsRunOf d) runs → All (λ (at : ObjectBlock). at.place < d) (flat_map (run_blocks kind owner) runs)
runs_low d kind owner [] inside = All-nil (λ (at : ObjectBlock). at.place < d)
runs_low d kind owner (r ∷ runs) inside =
    All-append (λ (at : ObjectBlock). at.place < d) (run_blocks kind owner r) (flat_map (run_blocks kind owner) runs) (run_low d kind owner r (inside 0 r (omega arith)))
    (runs_low d kind owner runs (λ k x low. inside (suc k) x (omega (arith, low))))

ask_low : (d : ℕ) (a : ObjectAsk) (runs : List Run) → All (IsRunOf d) runs → All (λ (at : ObjectBlock). at.place < d) (ask_blocks a runs)
ask_low d a runs inside = by_case (is_unwritten a.ask.offset_word)
  where
    by_case : (t : Bool) → All (λ (at : ObjectBlock). at.place < d) (if t then [] else flat_map (run_blocks a.kind a.ask.owner) runs)
    by_case true = All-nil (λ (at : ObjectBlock). at.place < d)
    by_case false = runs_low d a.kind a.ask.owner runs inside

pub blocks_low : (d : ℕ) (asks : List ObjectAsk) (cuts : List ℕ) (runs : List Run) → All (IsRunOf d) runs → All (λ (at : ObjectBlock). at.place < d) (blocks_of_asks asks cuts runs)
unfolding blocks_of_asks
blocks_low d [] cuts runs inside = All-nil (λ (at : ObjectBlock). at.place < d)
blocks_low d (a ∷ asks) [] runs inside = All-nil (λ (at : ObjectBlock). at.place < d)
blocks_low d (a ∷ asks) (n ∷ cuts) runs inside =
    All-append (λ (at : ObjectBlock). at.place < d) (ask_blocks a (take n runs)) (blocks_of_asks asks cuts (drop n runs))
    (ask_low d a (take n runs) (All-take (IsRunOf d) n runs inside)) (blocks_low d asks cuts (drop n runs) (All-drop (IsRunOf d) n runs inside))

-- so do their places
pub places_low : (d : ℕ) (blocks : List ObjectBlock) → All (λ (at : ObjectBlock). at.place < d) blocks → All (λ (place : ℕ). place < d) (block_places blocks)
places_low d [] all = All-nil (λ (place : ℕ). place < d)
places_low d (at ∷ blocks) all =
    All-append (λ (place : ℕ). place < d) (at.place ∷ []) (block_places blocks)
    (λ k x low. first k x low) (places_low d blocks (λ k x low. all (suc k) x (omega (arith, low))))
  where
    first : (k x : ℕ) → k < 1 → get_or (at.place ∷ []) k x < d
    first zero x low = all 0 at (omega arith)
    first (suc k) x low = absurd (omega (arith, low))

-- joined runs have the blocks of their ask
joined_count : (kind : ObjectKind) (owner : ℕ) (ask : RunAsk) (runs : List Run) → AreJoined ask runs → length (flat_map (run_blocks kind owner) runs) ≡ ask.blocks
joined_count kind owner ask [] are = sym are
joined_count kind owner ask (r ∷ runs) are =
    let f : ℕ → ObjectBlock = λ place. record { kind = kind; owner = owner; place = place } in
    let here : length (run_blocks kind owner r) ≡ r.count = length-map (range_with_len r.start r.count) f ∙ length-range_with_len r.start r.count in
    let rest = joined_count kind owner (rest_of ask r.count) runs are.2 in
    let few : r.count ≤ ask.blocks = are.1 in
    length-append (run_blocks kind owner r) (flat_map (run_blocks kind owner) runs) ∙ (omega (arith, here, rest, few))

ask_count : (a : ObjectAsk) (runs : List Run) → AreJoined a.ask runs → length (ask_blocks a runs) ≡ written_in a.ask
ask_count a runs are = by_case (is_unwritten a.ask.offset_word)
  where
    by_case : (t : Bool) → length (if t then [] else flat_map (run_blocks a.kind a.ask.owner) runs) ≡ (if t then 0 else a.ask.blocks)
    by_case true = refl
    by_case false = joined_count a.kind a.ask.owner a.ask runs are

-- as many blocks are written as asks have that are not unwritten
pub written_count : (asks : List ObjectAsk) (cuts : List ℕ) (runs : List Run) → ServeAsks (plain_asks asks) cuts runs → length (blocks_of_asks asks cuts runs) ≡ written_blocks (plain_asks asks)
unfolding blocks_of_asks
written_count [] [] runs are = refl
written_count [] (n ∷ cuts) runs are = absurd are
written_count (a ∷ asks) [] runs are = absurd are
written_count (a ∷ asks) (n ∷ cuts) runs are =
    let here = ask_count a (take n runs) are.1 in
    let rest = written_count asks cuts (drop n runs) are.2 in
    let sum = sum_by-cons written_in a.ask (plain_asks asks) in
    length-append (ask_blocks a (take n runs)) (blocks_of_asks asks cuts (drop n runs)) ∙ (omega (arith, here, rest, sum))

-- no block was put down, and one more
pub objects_none : (v : Volume) (blocks : List ObjectBlock) (built : Image) (draft : Draft) → IsDraft draft → AddsObjects v blocks built 0 draft draft
objects_none v blocks built draft was = record {
  adds = adds_none draft was;
  reads = λ image held. record { each = λ j d low. absurd (omega (arith, low)) };
}

pub objects_more : (v : Volume) (blocks : List ObjectBlock) (built : Image) (j : ℕ) (at : ObjectBlock) (block : List ℕ) (old mid new : Draft) → j < length blocks → at ≡ get_or blocks j at
    → IsObjectBlock v at (get_or built j []) block → AddsObjects v blocks built j old mid → AddsBlock mid new at.place block → AddsObjects v blocks built (j + 1) old new
objects_more v blocks built j at block old mid new inside is due first next =
    let places = λ (b : ObjectBlock). b.place in
    let more : take (j + 1) blocks ≡ take j blocks ++ at ∷ [] = take_more blocks j at inside ∙ ap (λ (x : ObjectBlock). take j blocks ++ x ∷ []) (sym is) in
    let all : block_places (take j blocks) ++ at.place ∷ [] ≡ block_places (take (j + 1) blocks) = sym (map-append places (take j blocks) (at ∷ [])) ∙ ap block_places (sym more) in
    record {
      adds = adds_as old new (block_places (take j blocks) ++ at.place ∷ []) (block_places (take (j + 1) blocks)) (j + 1) (j + 1) all (omega arith)
          (adds_then old mid new (block_places (take j blocks)) (at.place ∷ []) j 1 first.adds next.adds);
      reads = λ image held. record {
        each = λ k d low. elim (cases_lt k j) [
          | inl early ↦ (first.reads image (next.adds.before image held)).each k d early
          | inr late ↦
              let same : j ≡ k = omega (arith, low, late) in
              let here : at ≡ get_or blocks j d = is ∙ get_or_default blocks j at d inside in
              let bytes : IsObjectBlock v at (get_or built j []) (bytes_of_block image at.place) = subst (λ (b : List ℕ). IsObjectBlock v at (get_or built j []) b) (sym (next.held image held)) due in
              subst (λ (m : ℕ). IsObjectBlock v (get_or blocks m d) (get_or built m []) (bytes_of_block image (get_or blocks m d).place)) same
              (subst (λ (x : ObjectBlock). IsObjectBlock v x (get_or built j []) (bytes_of_block image x.place)) here bytes)
        ];
      };
    }
