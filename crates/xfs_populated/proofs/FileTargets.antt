-- The block of a long target has it.
use Rattle.std.proofs.Common.{◌≡◌, inl, inr, ℕ, zero, suc, ◌+◌, ◌-◌, ◌==◌, ◌≤◌, true, List, [], ◌∷◌, ◌++◌, length, length-append, take, drop, arith, refl, sym, subst, ap, ◌∙◌, append_assoc}
use Rattle.std.specs.List.{All}
use Rattle.std.proofs.lemmas.List.{drop_at, length-replicate, take_at}
use Rattle.std.proofs.lemmas.List.Elements.{filter-append}
use Rattle.std.proofs.lemmas.List.{get_or-append-add, get_or_append_left}
use Rattle.xfs_word.proofs.Digits.{big_number-big_bytes}
use Rattle.xfs_word.proofs.Written.{keeps, keeps_parts}
use Rattle.xfs_word.specs.Field.{field_of, part_of, zeros}
use Rattle.xfs_word.specs.Seal.{has_magic}
use Rattle.xfs_word.specs.declared.kinds.SealKind.TheVariants as Sealed
use Rattle.xfs_disk.specs.Blocks.{Image, bytes_of_block}
use Rattle.xfs_geom.specs.Volumes.{Volume}
use Rattle.xfs_geom.specs.declared.records.Run.{Run}
use Rattle.xfs_place.specs.Objects.{ServeAsks}
use Rattle.xfs_place.specs.declared.wanted.Object.{Object}
use Rattle.xfs_place.specs.declared.wanted.ObjectKind.TheVariants as kinds
use Rattle.xfs_render.proofs.ObjectSteps.{plain_asks}
use Rattle.xfs_render.specs.Objects.{IsSealedBlock, asks_with_kind, blocks_of_asks, object_seal}
use Rattle.xfs_filled.specs.Contents.{block_of_target, target_head}
use Rattle.xfs_filled.specs.Forks.{owned_by}
use Rattle.xfs_filled.proofs.Spanning.{all_owned}
use Rattle.xfs_populated.proofs.FileBlocks.{Each, HasObjectBlocks}
use Rattle.xfs_populated.proofs.FileServed.{are_served}
use Rattle.xfs_populated.proofs.SlotLinks.{HoldsTarget, one_ask, one_block, served_one}

-- what stands in the block of a target as it is built
head_long : (target : List ℕ) → length (target_head target) ≡ 56
unfolding zeros
head_long target = refl

magic_there : (target : List ℕ) → has_magic Sealed.Symlink (block_of_target target) ≡ true
unfolding has_magic field_of zeros
magic_there target = refl

front_zero : (target : List ℕ) → field_of (block_of_target target) 4 4 ≡ 0
unfolding field_of zeros
front_zero target = refl

long_there : (target : List ℕ) → length target ≤ 1024 → field_of (block_of_target target) 8 4 ≡ length target
unfolding field_of zeros
long_there target most = big_number-big_bytes 4 (length target) (omega (arith, most))

bytes_there : (target : List ℕ) → part_of (block_of_target target) 56 (length target) ≡ target
unfolding part_of
bytes_there target =
    let pad : List ℕ = zeros (4096 - length (target_head target ++ target)) in
    ap (λ (xs : List ℕ). take (length target) (drop 56 xs)) (append_assoc (target_head target) target (zeros (4096 - length (target_head target ++ target))))
    ∙ ap (take (length target)) (drop_at (target_head target) (target ++ zeros (4096 - length (target_head target ++ target))) 56 (head_long target))
    ∙ take_at target (zeros (4096 - length (target_head target ++ target))) (length target) refl

built_long : (target : List ℕ) → length target ≤ 1024 → length (block_of_target target) ≡ 4096
unfolding zeros
built_long target most =
    let head = head_long target in
    let inner = length-append (target_head target) target in
    let both = length-append (target_head target ++ target) (zeros (4096 - length (target_head target ++ target))) in
    let pad : length (zeros (4096 - length (target_head target ++ target))) ≡ 4096 - length (target_head target ++ target) = length-replicate (4096 - length (target_head target ++ target)) 0 in
    omega (arith, head, inner, both, pad, most)

-- so it stands in the block that was sealed
pub target_held : (v : Volume) (ino b : ℕ) (target block : List ℕ) → length target ≤ 1024
    → IsSealedBlock (object_seal v Sealed.Symlink (record { kind = kinds.Symlink; owner = ino; place = b })) (block_of_target target) block → HoldsTarget v ino b target block
target_held v ino b target block most sealed =
    let size = sealed.size in
    let long = built_long target most in
    record {
      sealed = sealed.sealed (magic_there target);
      front = keeps (block_of_target target) block 12 44 sealed.same 4 4 (inl (omega arith)) ∙ front_zero target;
      long = keeps (block_of_target target) block 12 44 sealed.same 8 4 (inl (omega arith)) ∙ long_there target most;
      bytes = keeps_parts (block_of_target target) block 12 44 (size ∙ sym long) sealed.same 56 (length target) (inr (omega arith)) ∙ bytes_there target;
      lsn = sealed.lsn;
    }

abbrev pub link_object : ℕ → Object
link_object ino = record { ino = ino; kind = kinds.Symlink; runs = one_ask ino ∷ []; most = 21 }

-- the block of an object of one block
one_each : (v : Volume) (image : Image) (ino b : ℕ) (target : List ℕ) (cuts : List ℕ) → ServeAsks (one_ask ino ∷ []) cuts (one_block ino b ∷ [])
    → Each v image (blocks_of_asks (asks_with_kind (link_object ino ∷ [])) cuts (one_block ino b ∷ [])) (block_of_target target ∷ [])
    → IsSealedBlock (object_seal v Sealed.Symlink (record { kind = kinds.Symlink; owner = ino; place = b })) (block_of_target target) (bytes_of_block image b)
unfolding blocks_of_asks
one_each v image ino b target [] serve each = absurd serve
one_each v image ino b target (zero ∷ cuts) serve each = let none : 1 ≡ 0 = serve.1 in absurd (omega (arith, none))
one_each v image ino b target (suc zero ∷ []) serve each = each 0 (record { kind = kinds.Symlink; owner = ino; place = b }) (omega arith)
one_each v image ino b target (suc zero ∷ n ∷ cuts) serve each = absurd serve.2
one_each v image ino b target (suc (suc n) ∷ cuts) serve each = let few = serve.0 in absurd (omega (arith, few))

abbrev first_start : List Run → ℕ
first_start [] = 0
first_start (r ∷ rs) = r.start

same_block : (ino a b : ℕ) (xs ys : List Run) → one_block ino b ∷ [] ≡ xs ++ (one_block ino a ∷ ys) → a ≡ b
same_block ino a b [] ys is = sym (ap first_start is)
same_block ino a b (x ∷ xs) ys is =
    let both = length-append xs (one_block ino a ∷ ys) in
    let count : 1 ≡ suc (length (xs ++ (one_block ino a ∷ ys))) = ap length is in
    absurd (omega (arith, both, count))

-- the block of a link, among those of all objects
pub link_found : (v : Volume) (image : Image) (ino b : ℕ) (target : List ℕ) (objects : List Object) (built : List (List ℕ)) (runs : List Run) → objects ≡ link_object ino ∷ [] → built ≡ block_of_target target ∷ []
    → All (λ (r : Run). 1 ≤ r.count) runs → owned_by ino runs ≡ one_block ino b ∷ [] → length target ≤ 1024 → HasObjectBlocks v image objects built runs → HoldsTarget v ino b target (bytes_of_block image b)
link_found v image ino b target objects built runs is made some own most found = by_parts found.front found.own found.back found.cuts found.whole
    (subst (λ (os : List Object). ServeAsks (plain_asks (asks_with_kind os)) found.cuts found.own) is found.served)
    (subst (Each v image (blocks_of_asks (asks_with_kind (link_object ino ∷ [])) found.cuts found.own)) made
    (subst (λ (os : List Object). Each v image (blocks_of_asks (asks_with_kind os) found.cuts found.own) built) is found.each))
  where
    by_parts : (front mine back : List Run) (cuts : List ℕ) → runs ≡ front ++ (mine ++ back) → ServeAsks (one_ask ino ∷ []) cuts mine
        → Each v image (blocks_of_asks (asks_with_kind (link_object ino ∷ [])) cuts mine) (block_of_target target ∷ []) → HoldsTarget v ino b target (bytes_of_block image b)
    by_parts front mine back cuts whole serve each =
        let all : All (λ (r : Run). 1 ≤ r.count) (front ++ (mine ++ back)) = subst (All (λ (r : Run). 1 ≤ r.count)) whole some in
        let one = served_one ino mine (are_served (one_ask ino ∷ []) cuts mine serve) (λ k d low.
        let long = length-append front (mine ++ back) in
        let inner = length-append mine back in
        subst (λ (r : Run). 1 ≤ r.count) (get_or-append-add front (mine ++ back) k d ∙ get_or_append_left mine back d k low) (all (length front + k) d (omega (arith, long, inner, low)))) in
        let owned : owned_by ino runs ≡ owned_by ino front ++ (one_block ino one.0 ∷ owned_by ino back) =
        ap (owned_by ino) whole ∙ filter-append (λ (r : Run). r.owner == ino) front (mine ++ back)
        ∙ ap (λ (xs : List Run). owned_by ino front ++ xs) (filter-append (λ (r : Run). r.owner == ino) mine back
        ∙ ap (λ (xs : List Run). xs ++ owned_by ino back) (ap (owned_by ino) one.1 ∙ all_owned ino (one_block ino one.0 ∷ []) (own_block one.0))) in
        let same : one.0 ≡ b = same_block ino one.0 b (owned_by ino front) (owned_by ino back) (sym own ∙ owned) in
        let mine_is : mine ≡ one_block ino b ∷ [] = one.1 ∙ ap (λ (n : ℕ). one_block ino n ∷ []) same in
        target_held v ino b target (bytes_of_block image b) most
        (one_each v image ino b target cuts (subst (ServeAsks (one_ask ino ∷ []) cuts) mine_is serve)
        (subst (λ (rs : List Run). Each v image (blocks_of_asks (asks_with_kind (link_object ino ∷ [])) cuts rs) (block_of_target target ∷ [])) mine_is each))
      where
        own_block : (n : ℕ) → All (λ (r : Run). r.owner ≡ ino) (one_block ino n ∷ [])
        own_block n zero d low = refl
        own_block n (suc k) d low = absurd (omega (arith, low))
