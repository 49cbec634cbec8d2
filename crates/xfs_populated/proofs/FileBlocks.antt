-- The blocks of the object of each file, as an image has them.
use Rattle.std.proofs.Common.{◌≡◌, ℕ, zero, suc, ◌+◌, ◌/◌, ◌%◌, ◌^◌, ◌==◌, ◌≤◌, ◌<◌, Bool, true, false, cond, nat_le, List, [], ◌∷◌, ◌++◌, length, length-append, take, drop, get_or, Option, Some, None, arith, refl, sym, subst, ap, ap₂, ◌∙◌, append_assoc, append-nil}
use Rattle.std.specs.List.{flat_map}
use Rattle.std.specs.Option.{MatchOption}
use Rattle.std.proofs.lemmas.Bool.{eqb-true}
use Rattle.std.proofs.lemmas.List.{drop_at, get_or-append-add, get_or_append_left, length-take, take-append-drop, take_at}
use Rattle.std.proofs.lemmas.List.Concat.{flat_map-append}
use Rattle.std.proofs.lemmas.List.FromFn.{length-map-range_with_len}
use Rattle.std.proofs.lemmas.List.Sums.{sum_by-append, sum_by-cons}
use Rattle.xfs_disk.specs.Blocks.{Image, bytes_of_block}
use Rattle.xfs_geom.specs.Volumes.{Volume}
use Rattle.xfs_geom.specs.declared.records.Run.{Run}
use Rattle.xfs_kinds.specs.OffsetWords.{is_unwritten}
use Rattle.xfs_place.specs.Objects.{AreJoined, ServeAsks, asks_of}
use Rattle.xfs_place.specs.declared.wanted.Object.{Object}
use Rattle.xfs_place.specs.declared.wanted.RunAsk.{RunAsk}
use Rattle.xfs_render.proofs.ObjectSteps.{plain_all, plain_asks, written_count}
use Rattle.xfs_render.specs.Objects.{IsObjectBlock, ask_blocks, asks_in, asks_with_kind, blocks_of_asks, written_blocks, written_in}
use Rattle.xfs_render.specs.declared.object_blocks.ObjectAsk.{ObjectAsk}
use Rattle.xfs_render.specs.declared.object_blocks.ObjectBlock.{ObjectBlock}
use Rattle.xfs_proto.specs.declared.protofile.ProtoKind.{ProtoKind}
use Rattle.xfs_proto.specs.declared.protofile.ProtoKind.TheVariants as Kind
use Rattle.xfs_proto.specs.declared.protofile.ProtoNode.{ProtoNode}
use Rattle.xfs_filled.specs.Contents.{blocks_of_place, blocks_in, blocks_of_kind, content_block, block_of_target}
use Rattle.xfs_filled.specs.Directories.{IsSoundDirectory, made_directory_at}
use Rattle.xfs_filled.specs.FileTrees.{node_at}
use Rattle.xfs_filled.specs.Numbers.{number_of}
use Rattle.xfs_filled.specs.Objects.{blocks_of_length, content_at, directory_runs, objects_of_place, object_kind, object_with_runs, run_of, runs_at, runs_of_kind}
use Rattle.xfs_filled.specs.declared.directories.MadeDirectory.{MadeDirectory}

-- the asks in front and those behind them have their own cuts, runs and blocks
record IsSplit (front back : List ObjectAsk) (cuts : List ℕ) (runs : List Run) : Type 0 where
  pub cuts1 : List ℕ
  pub runs1 : List Run
  pub cuts2 : List ℕ
  pub runs2 : List Run
  pub first : ServeAsks (plain_asks front) cuts1 runs1
  pub second : ServeAsks (plain_asks back) cuts2 runs2
  pub whole : runs ≡ runs1 ++ runs2
  pub blocks : blocks_of_asks (front ++ back) cuts runs ≡ blocks_of_asks front cuts1 runs1 ++ blocks_of_asks back cuts2 runs2

split : (front back : List ObjectAsk) (cuts : List ℕ) (runs : List Run) → ServeAsks (plain_asks (front ++ back)) cuts runs → IsSplit front back cuts runs
unfolding blocks_of_asks
split [] back cuts runs serve =
    record { cuts1 = []; runs1 = []; cuts2 = cuts; runs2 = runs; first = refl; second = serve; whole = refl; blocks = refl }
split (a ∷ front) back [] runs serve = absurd serve
split (a ∷ front) back (n ∷ cuts) runs serve =
    let next = split front back cuts (drop n runs) serve.2 in
    let own : List Run = take n runs in
    let inside = serve.0 in
    let long : length (take n runs) ≡ n = let some = length-take n runs in omega (arith, some, inside) in
    let both = length-append (take n runs) next.runs1 in
    let taken : take n (take n runs ++ next.runs1) ≡ take n runs = take_at (take n runs) next.runs1 n long in
    let dropped : drop n (take n runs ++ next.runs1) ≡ next.runs1 = drop_at (take n runs) next.runs1 n long in
    record {
      cuts1 = n ∷ next.cuts1;
      runs1 = take n runs ++ next.runs1;
      cuts2 = next.cuts2;
      runs2 = next.runs2;
      first = (
        omega (arith, both, long),
        subst (AreJoined a.ask) (sym taken) serve.1,
        subst (ServeAsks (plain_asks front) next.cuts1) (sym dropped) next.first,
      );
      second = next.second;
      whole = sym (take-append-drop n runs) ∙ ap (λ (xs : List Run). take n runs ++ xs) next.whole ∙ sym (append_assoc (take n runs) next.runs1 next.runs2);
      blocks =
          ap (λ (xs : List ObjectBlock). ask_blocks a (take n runs) ++ xs) next.blocks
          ∙ sym (append_assoc (ask_blocks a (take n runs)) (blocks_of_asks front next.cuts1 next.runs1) (blocks_of_asks back next.cuts2 next.runs2))
          ∙ ap₂ (λ (xs ys : List Run). (ask_blocks a xs ++ blocks_of_asks front next.cuts1 ys) ++ blocks_of_asks back next.cuts2 next.runs2) (sym taken) (sym dropped);
    }

-- each of some blocks is made of what was built for it
abbrev pub Each : Volume → Image → List ObjectBlock → List (List ℕ) → Type 0
Each v image blocks built =
    (j : ℕ) (d : ObjectBlock) → j < length blocks → IsObjectBlock v (get_or blocks j d) (get_or built j []) (bytes_of_block image (get_or blocks j d).place)

module _ (v : Volume) (image : Image) where
  each_left : (xs ys : List ObjectBlock) (fs bs : List (List ℕ)) → length xs ≡ length fs → Each v image (xs ++ ys) (fs ++ bs) → Each v image xs fs
  each_left xs ys fs bs same each j d low =
      let both = length-append xs ys in
      let one : get_or (xs ++ ys) j d ≡ get_or xs j d = get_or_append_left xs ys d j low in
      let other : get_or (fs ++ bs) j [] ≡ get_or fs j [] = get_or_append_left fs bs [] j (omega (arith, same, low)) in
      subst (λ (x : ObjectBlock). IsObjectBlock v x (get_or fs j []) (bytes_of_block image x.place)) one
      (subst (λ (c : List ℕ). IsObjectBlock v (get_or (xs ++ ys) j d) c (bytes_of_block image (get_or (xs ++ ys) j d).place)) other (each j d (omega (arith, both, low))))

  each_right : (xs ys : List ObjectBlock) (fs bs : List (List ℕ)) → length xs ≡ length fs → Each v image (xs ++ ys) (fs ++ bs) → Each v image ys bs
  each_right xs ys fs bs same each j d low =
      let both = length-append xs ys in
      let one : get_or (xs ++ ys) (length xs + j) d ≡ get_or ys j d = get_or-append-add xs ys j d in
      let other : get_or (fs ++ bs) (length xs + j) [] ≡ get_or bs j [] = ap (λ (n : ℕ). get_or (fs ++ bs) (n + j) []) same ∙ get_or-append-add fs bs j [] in
      subst (λ (x : ObjectBlock). IsObjectBlock v x (get_or bs j []) (bytes_of_block image x.place)) one
      (subst (λ (c : List ℕ). IsObjectBlock v (get_or (xs ++ ys) (length xs + j) d) c (bytes_of_block image (get_or (xs ++ ys) (length xs + j) d).place)) other (each (length xs + j) d (omega (arith, both, low))))

-- as many blocks are written of a file as were built for it
written_one : (a : RunAsk) → a.offset_word ≤ 2 ^ 24 → written_in a ≡ a.blocks
written_one a small =
    let none : a.offset_word / 2 ^ 61 ≡ 0 = omega (arith, small) in
    let plain : is_unwritten a.offset_word ≡ false = ap (λ (n : ℕ). n % 2 == 1) none in
    ap (λ (t : Bool). cond t 0 a.blocks) plain

run_written : (blocks owner offset : ℕ) → offset ≤ 2 ^ 24 → written_blocks (run_of blocks owner offset) ≡ blocks
run_written blocks owner offset small = by_case (blocks == 0) refl
  where
    by_case : (r : Bool) → (blocks == 0) ≡ r → written_blocks (cond r [] (record { blocks = blocks; owner = owner; offset_word = offset } ∷ [])) ≡ blocks
    by_case true is = sym (eqb-true blocks 0 is)
    by_case false is =
        let a : RunAsk = record { blocks = blocks; owner = owner; offset_word = offset } in
        let all = sum_by-cons written_in a [] in
        let one = written_one a small in
        omega (arith, all, one)

directory_written : (ino : ℕ) (made : Option MadeDirectory) → MatchOption made (Unit {0}) IsSoundDirectory → written_blocks (directory_runs ino made) ≡ length (blocks_in made)
directory_written ino None sound = refl
directory_written ino (Some d) sound =
    let first = sum_by-append written_in (run_of d.data_blocks ino 0) (run_of d.index_blocks ino 0x800000 ++ run_of d.free_blocks ino 0x1000000) in
    let second = sum_by-append written_in (run_of d.index_blocks ino 0x800000) (run_of d.free_blocks ino 0x1000000) in
    let datas = run_written d.data_blocks ino 0 (omega arith) in
    let indexes = run_written d.index_blocks ino 0x800000 (omega arith) in
    let frees = run_written d.free_blocks ino 0x1000000 (omega arith) in
    let counted = sound.counted in
    omega (arith, first, second, datas, indexes, frees, counted)

target_written : (target : List ℕ) (ino : ℕ) (r : Bool) → written_blocks (run_of (cond r 0 1) ino 0) ≡ length (cond r [] (block_of_target target ∷ []))
target_written target ino true = refl
target_written target ino false = run_written 1 ino 0 (omega arith)

kind_written : (kind : ProtoKind) (made : Option MadeDirectory) (content : List ℕ) (ino : ℕ) → MatchOption made (Unit {0}) IsSoundDirectory
    → written_blocks (runs_of_kind kind made content ino) ≡ length (blocks_of_kind kind made content)
kind_written (Kind.Regular name line) made content ino sound =
    run_written (blocks_of_length (length content)) ino 0 (omega arith) ∙ sym (length-map-range_with_len (content_block content) 0 (blocks_of_length (length content)))
kind_written Kind.Directory made content ino sound = directory_written ino made sound
kind_written (Kind.Link target) made content ino sound = target_written target ino (nat_le (length target) 336)
kind_written (Kind.Block major minor) made content ino sound = refl
kind_written (Kind.Character major minor) made content ino sound = refl
kind_written Kind.Pipe made content ino sound = refl

-- the runs and blocks of an object, among all runs
pub record HasObjectBlocks (v : Volume) (image : Image) (objects : List Object) (built : List (List ℕ)) (runs : List Run) : Type 0 where
  pub cuts : List ℕ
  pub own : List Run
  pub front : List Run
  pub back : List Run
  pub whole : runs ≡ front ++ (own ++ back)
  pub served : ServeAsks (plain_asks (asks_with_kind objects)) cuts own
  pub each : Each v image (blocks_of_asks (asks_with_kind objects) cuts own) built

module _ (v : Volume) (starts : List ℕ) (ns : List ProtoNode) (contents : List (List ℕ)) (image : Image) (sound : (k : ℕ) → MatchOption (made_directory_at v starts ns k) (Unit {0}) IsSoundDirectory) where
  abbrev objects : List ℕ → List Object
  objects ks = flat_map (objects_of_place v starts ns contents) ks

  abbrev built : List ℕ → List (List ℕ)
  built ks = flat_map (blocks_of_place v starts ns contents) ks

  asks_split : (k : ℕ) (ks : List ℕ) → asks_with_kind (objects (k ∷ ks)) ≡ asks_with_kind (objects_of_place v starts ns contents k) ++ asks_with_kind (objects ks)
  asks_split k ks = flat_map-append asks_in (objects_of_place v starts ns contents k) (objects ks)

  asks_single : (k : ℕ) → asks_of (objects_of_place v starts ns contents k) ≡ runs_at v starts ns contents k
  asks_single k = by_runs (runs_at v starts ns contents k)
    where
      by_runs : (rs : List RunAsk) → asks_of (object_with_runs (object_kind (node_at ns k).kind) (number_of v starts k) rs) ≡ rs
      by_runs [] = refl
      by_runs (r ∷ rs) = append-nil (r ∷ rs)

  counted : (k : ℕ) (cuts : List ℕ) (runs : List Run) → ServeAsks (plain_asks (asks_with_kind (objects_of_place v starts ns contents k))) cuts runs
      → length (blocks_of_asks (asks_with_kind (objects_of_place v starts ns contents k)) cuts runs) ≡ length (blocks_of_place v starts ns contents k)
  counted k cuts runs serve =
      written_count (asks_with_kind (objects_of_place v starts ns contents k)) cuts runs serve
      ∙ ap written_blocks (plain_all (objects_of_place v starts ns contents k) ∙ asks_single k)
      ∙ kind_written (node_at ns k).kind (made_directory_at v starts ns k) (content_at contents k) (number_of v starts k) (sound k)

  pub blocks_found : (ks : List ℕ) (i : ℕ) (cuts : List ℕ) (runs : List Run) → i < length ks → ServeAsks (plain_asks (asks_with_kind (objects ks))) cuts runs
      → Each v image (blocks_of_asks (asks_with_kind (objects ks)) cuts runs) (built ks)
      → HasObjectBlocks v image (objects_of_place v starts ns contents (get_or ks i 0)) (blocks_of_place v starts ns contents (get_or ks i 0)) runs
  blocks_found [] i cuts runs low serve each = absurd (omega (arith, low))
  blocks_found (k ∷ ks) i cuts runs low serve each =
      by_place i low (λ m less. blocks_found ks m parts.cuts2 parts.runs2 less parts.second right)
    where
      parts : IsSplit (asks_with_kind (objects_of_place v starts ns contents k)) (asks_with_kind (objects ks)) cuts runs
      parts = split (asks_with_kind (objects_of_place v starts ns contents k)) (asks_with_kind (objects ks)) cuts runs (subst (λ (fs : List ObjectAsk). ServeAsks (plain_asks fs) cuts runs) (asks_split k ks) serve)

      same : length (blocks_of_asks (asks_with_kind (objects_of_place v starts ns contents k)) parts.cuts1 parts.runs1) ≡ length (blocks_of_place v starts ns contents k)
      same = counted k parts.cuts1 parts.runs1 parts.first

      all : Each v image (blocks_of_asks (asks_with_kind (objects_of_place v starts ns contents k)) parts.cuts1 parts.runs1 ++ blocks_of_asks (asks_with_kind (objects ks)) parts.cuts2 parts.runs2) (blocks_of_place v starts ns contents k ++ built ks)
      all =
          subst (λ (bs : List ObjectBlock). Each v image bs (blocks_of_place v starts ns contents k ++ built ks)) parts.blocks
          (subst (λ (fs : List ObjectAsk). Each v image (blocks_of_asks fs cuts runs) (blocks_of_place v starts ns contents k ++ built ks)) (asks_split k ks) each)

      left : Each v image (blocks_of_asks (asks_with_kind (objects_of_place v starts ns contents k)) parts.cuts1 parts.runs1) (blocks_of_place v starts ns contents k)
      left = each_left v image (blocks_of_asks (asks_with_kind (objects_of_place v starts ns contents k)) parts.cuts1 parts.runs1) (blocks_of_asks (asks_with_kind (objects ks)) parts.cuts2 parts.runs2) (blocks_of_place v starts ns contents k) (built ks) same all

      right : Each v image (blocks_of_asks (asks_with_kind (objects ks)) parts.cuts2 parts.runs2) (built ks)
      right = each_right v image (blocks_of_asks (asks_with_kind (objects_of_place v starts ns contents k)) parts.cuts1 parts.runs1) (blocks_of_asks (asks_with_kind (objects ks)) parts.cuts2 parts.runs2) (blocks_of_place v starts ns contents k) (built ks) same all

      behind : (m : ℕ) → HasObjectBlocks v image (objects_of_place v starts ns contents (get_or ks m 0)) (blocks_of_place v starts ns contents (get_or ks m 0)) parts.runs2
          → HasObjectBlocks v image (objects_of_place v starts ns contents (get_or ks m 0)) (blocks_of_place v starts ns contents (get_or ks m 0)) runs
      behind m found =
          record {
            cuts = found.cuts;
            own = found.own;
            front = parts.runs1 ++ found.front;
            back = found.back;
            whole = parts.whole ∙ ap (λ (xs : List Run). parts.runs1 ++ xs) found.whole ∙ sym (append_assoc parts.runs1 found.front (found.own ++ found.back));
            served = found.served;
            each = found.each;
          }

      by_place : (i : ℕ) → i < length (k ∷ ks)
          → ((m : ℕ) → m < length ks → HasObjectBlocks v image (objects_of_place v starts ns contents (get_or ks m 0)) (blocks_of_place v starts ns contents (get_or ks m 0)) parts.runs2)
          → HasObjectBlocks v image (objects_of_place v starts ns contents (get_or (k ∷ ks) i 0)) (blocks_of_place v starts ns contents (get_or (k ∷ ks) i 0)) runs
      by_place zero low rest =
          record { cuts = parts.cuts1; own = parts.runs1; front = []; back = parts.runs2; whole = parts.whole; served = parts.first; each = left }
      by_place (suc m) low rest = behind m (rest m (omega (arith, low)))
