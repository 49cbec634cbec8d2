-- The runs that files ask for can be asked for.
use Rattle.std.proofs.Common.{◌≡◌, ℕ, zero, suc, ◌+◌, ◌/◌, ◌%◌, ◌^◌, ◌==◌, ◌≤◌, ◌<◌, Bool, true, false, not, cond, min, nat_le, List, [], ◌∷◌, ◌++◌, length, Option, Some, None, append-nil, arith, refl, sym, ap, ◌∙◌}
use Rattle.std.specs.List.{All, flat_map, range_with_len}
use Rattle.std.specs.Option.{MatchOption}
use Rattle.std.specs.Cmp.Derive.{both_true}
use Rattle.std.proofs.lemmas.Bool.{lt-ltb, eqb-false, true≢false}
use Rattle.std.proofs.lemmas.List.Elements.{All-append, All-filter}
use Rattle.std.proofs.lemmas.List.FromFn.{get_or-range_with_len, length-range_with_len}
use Rattle.xfs_geom.specs.Volumes.{Volume, volume_of}
use Rattle.xfs_geom.specs.declared.geometry.Geometry.{Geometry}
use Rattle.xfs_kinds.specs.OffsetWords.{is_file_data}
use Rattle.xfs_place.specs.Objects.{IsAsk}
use Rattle.xfs_place.specs.declared.wanted.Object.{Object}
use Rattle.xfs_place.specs.declared.wanted.ObjectKind.{ObjectKind}
use Rattle.xfs_place.specs.declared.wanted.RunAsk.{RunAsk}
use Rattle.xfs_proto.specs.declared.protofile.ProtoKind.{ProtoKind}
use Rattle.xfs_proto.specs.declared.protofile.ProtoKind.TheVariants as Kind
use Rattle.xfs_proto.specs.declared.protofile.ProtoNode.{ProtoNode}
use Rattle.xfs_render.specs.Readiness.{HasAsker}
use Rattle.xfs_filled.specs.Directories.{IsSoundDirectory, made_directory_at}
use Rattle.xfs_filled.specs.FileTrees.{is_of, node_at, object_order, places_of_kind}
use Rattle.xfs_filled.specs.Numbers.{number_of}
use Rattle.xfs_filled.specs.Objects.{all_objects, content_at, directory_runs, objects_of_place, object_kind, object_with_runs, run_of, runs_at, runs_of_kind}
use Rattle.xfs_filled.specs.Sites.{AreChunksPlaced}
use Rattle.xfs_filled.specs.declared.directories.MadeDirectory.{MadeDirectory}
use Rattle.xfs_filled.proofs.Numbering.{number_low}

-- a run that can be asked for, with an owner
pub record IsFine (a : RunAsk) : Type 0 where
  pub ask : IsAsk a
  pub asker : HasAsker a

one_fine : (P : RunAsk → Type 0) (a : RunAsk) → P a → All P (a ∷ [])
one_fine P a p zero d low = p
one_fine P a p (suc k) d low = absurd (omega (arith, low))

none_fine : (P : RunAsk → Type 0) → All P []
none_fine P k d low = absurd (omega (arith, low))

is_data : (owner word : ℕ) → owner < 2 ^ 30 → word ≤ 2 ^ 24 → is_file_data owner word ≡ true
is_data owner word low small =
    let none : word / 2 ^ 62 ≡ 0 = omega (arith, small) in
    both_true (lt-ltb owner (2 ^ 63) (omega (arith, low))) (ap (λ (n : ℕ). not (n % 2 == 1)) none)

run_fine : (blocks owner offset : ℕ) → blocks < 2 ^ 32 → owner < 2 ^ 30 → offset ≤ 2 ^ 24 → All IsFine (run_of blocks owner offset)
run_fine blocks owner offset few low small = by_case (blocks == 0) refl
  where
    by_case : (r : Bool) → (blocks == 0) ≡ r → All IsFine (cond r [] (record { blocks = blocks; owner = owner; offset_word = offset } ∷ []))
    by_case true is = none_fine IsFine
    by_case false is =
        let some = eqb-false blocks 0 is in
        one_fine IsFine (record { blocks = blocks; owner = owner; offset_word = offset })
        (record {
          ask = record {
            some = omega (arith, some);
            fits = λ data'. omega (arith, few, small);
            plain = λ other. absurd (true≢false (sym (is_data owner offset low small) ∙ other));
          };
          asker = record { owner = omega (arith, low); offset = omega (arith, small) };
        })

directory_fine : (ino : ℕ) (made : Option MadeDirectory) → ino < 2 ^ 30 → MatchOption made (Unit {0}) IsSoundDirectory → All IsFine (directory_runs ino made)
directory_fine ino None low small = none_fine IsFine
directory_fine ino (Some d) low small =
    All-append IsFine (run_of d.data_blocks ino 0) (run_of d.index_blocks ino 0x800000 ++ run_of d.free_blocks ino 0x1000000)
    (run_fine d.data_blocks ino 0 (let few = small.data_few in omega (arith, few)) low (omega arith))
    (All-append IsFine (run_of d.index_blocks ino 0x800000) (run_of d.free_blocks ino 0x1000000) (run_fine d.index_blocks ino 0x800000 (let few = small.index_few in omega (arith, few)) low (omega arith))
    (run_fine d.free_blocks ino 0x1000000 (let few = small.free_few in omega (arith, few)) low (omega arith)))

target_few : (r : Bool) → cond r 0 1 < 2 ^ 32
target_few true = omega arith
target_few false = omega arith

kind_fine : (kind : ProtoKind) (made : Option MadeDirectory) (content : List ℕ) (ino : ℕ) → ino < 2 ^ 30 → MatchOption made (Unit {0}) IsSoundDirectory
    → All IsFine (runs_of_kind kind made content ino)
kind_fine (Kind.Regular name line) made content ino low small = run_fine (min ((length content + 4095) / 4096) 0xffff_ffff) ino 0 (omega arith) low (omega arith)
kind_fine Kind.Directory made content ino low small = directory_fine ino made low small
kind_fine (Kind.Link target) made content ino low small = run_fine (cond (nat_le (length target) 336) 0 1) ino 0 (target_few (nat_le (length target) 336)) low (omega arith)
kind_fine (Kind.Block major minor) made content ino low small = none_fine IsFine
kind_fine (Kind.Character major minor) made content ino low small = none_fine IsFine
kind_fine Kind.Pipe made content ino low small = none_fine IsFine

-- the places of files
pub order_inside : (ns : List ProtoNode) → All (λ k. k < length ns) (object_order ns)
order_inside ns =
    All-append (λ k. k < length ns) (places_of_kind ns true) (places_of_kind ns false) (part true) (part false)
  where
    part : (directories : Bool) → All (λ k. k < length ns) (places_of_kind ns directories)
    part directories =
        All-filter (λ k. is_of directories (node_at ns k).kind) (λ k. k < length ns) (range_with_len 0 (length ns)) (λ m d low.
        let few : m < length ns = let long = length-range_with_len 0 (length ns) in omega (arith, long, low) in
        let is = get_or-range_with_len 0 (length ns) m d few in
        omega (arith, is, few))

object_fine : (kind : ObjectKind) (ino : ℕ) (runs : List RunAsk) → All IsFine runs → All (λ (o : Object). All IsFine o.runs) (object_with_runs kind ino runs)
object_fine kind ino [] fine k d low = absurd (omega (arith, low))
object_fine kind ino (run ∷ runs) fine zero d low = fine
object_fine kind ino (run ∷ runs) fine (suc k) d low = absurd (omega (arith, low))

all_flat : (f : ℕ → List Object) (P : Object → Type 0) (Q : ℕ → Type 0) (xs : List ℕ) → ((x : ℕ) → Q x → All P (f x)) → All Q xs → All P (flat_map f xs)
all_flat f P Q [] each inside = λ k d low. absurd (omega (arith, low))
all_flat f P Q (x ∷ xs) each inside =
    All-append P (f x) (flat_map f xs) (each x (inside zero 0 (omega arith))) (all_flat f P Q xs each (λ k d low. inside (suc k) d (omega (arith, low))))

pub objects_fine : (g : Geometry) (starts : List ℕ) (ns : List ProtoNode) (contents : List (List ℕ)) → AreChunksPlaced g starts ns
    → ((k : ℕ) → k < length ns → MatchOption (made_directory_at (volume_of g) starts ns k) (Unit {0}) IsSoundDirectory)
    → All (λ (o : Object). All IsFine o.runs) (all_objects (volume_of g) starts ns contents)
unfolding all_objects
objects_fine g starts ns contents placed small =
    let v = volume_of g in
    all_flat (objects_of_place v starts ns contents) (λ (o : Object). All IsFine o.runs) (λ k. k < length ns) (object_order ns) (λ k inside.
    object_fine (object_kind (node_at ns k).kind) (number_of v starts k) (runs_at v starts ns contents k)
    (kind_fine (node_at ns k).kind (made_directory_at v starts ns k) (content_at contents k) (number_of v starts k) (number_low g starts ns k placed inside) (small k inside)))
    (order_inside ns)

pub asks_of_fine : (objects : List Object) → All (λ (o : Object). All IsFine o.runs) objects → All (λ (o : Object). All IsAsk o.runs) objects
asks_of_fine objects fine = λ k d low m e few. (fine k d low m e few).ask

pub askers_of_fine : (objects : List Object) → All (λ (o : Object). All IsFine o.runs) objects → All (λ (o : Object). All HasAsker o.runs) objects
askers_of_fine objects fine = λ k d low m e few. (fine k d low m e few).asker

pub objects_are : (v : Volume) (starts : List ℕ) (ns : List ProtoNode) (contents : List (List ℕ))
    → flat_map (objects_of_place v starts ns contents) (object_order ns) ≡ all_objects v starts ns contents
unfolding all_objects
objects_are v starts ns contents = refl

-- the object of runs, where there are some
pub one_object : (before new : List Object) (kind due_kind : ObjectKind) (ino due_ino : ℕ) (runs due held : List RunAsk) → 0 < length runs → ino ≡ due_ino → kind ≡ due_kind → held ≡ runs → runs ≡ due
    → new ≡ before ++ record { ino = ino; kind = kind; runs = held; most = 21 } ∷ [] → new ≡ before ++ object_with_runs due_kind due_ino due
one_object before new kind due_kind ino due_ino [] due held some number sort holds is pushed = absurd (omega (arith, some))
one_object before new kind due_kind ino due_ino (run ∷ runs) due held some number sort holds is pushed =
    pushed ∙ ap (λ (rs : List RunAsk). before ++ record { ino = ino; kind = kind; runs = rs; most = 21 } ∷ []) holds
    ∙ (λ i. before ++ object_with_runs (sort i) (number i) (run ∷ runs)) ∙ ap (λ (rs : List RunAsk). before ++ object_with_runs due_kind due_ino rs) is

pub no_object : (before : List Object) (kind : ObjectKind) (ino : ℕ) (runs due : List RunAsk) → length runs ≡ 0 → runs ≡ due → before ≡ before ++ object_with_runs kind ino due
no_object before kind ino [] due none is = sym (append-nil before) ∙ ap (λ (rs : List RunAsk). before ++ object_with_runs kind ino rs) is
no_object before kind ino (run ∷ runs) due none is = absurd (omega (arith, none))
