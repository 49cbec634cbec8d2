-- The chunks that are asked for.
use Rattle.std.proofs.Common.{◌≡◌, ℕ, suc, ◌+◌, ◌-◌, ◌*◌, ◌/◌, ◌^◌, ◌==◌, ◌≤◌, ◌<◌, ◌⊎◌, inl, inr, Bool, true, false, cond, Result, Ok, Err, List, [], ◌∷◌, ◌++◌, length, length-append, take, map, arith, refl, sym, subst, ap, ◌∙◌}
use Rattle.std.specs.Prelude.{IfErr}
use Rattle.std.specs.List.{filter, flat_map, range_with_len}
use Rattle.std.proofs.Math.Nat.{mul-le-mul_right}
use Rattle.std.proofs.lemmas.Bool.{eqb-true}
use Rattle.std.proofs.lemmas.List.{length-map, length-take}
use Rattle.std.proofs.lemmas.List.Sums.{count_by-le-length, length-filter}
use Rattle.std.proofs.lemmas.List.FromFn.{length-range_with_len}
use Rattle.xfs_geom.specs.Conversions.{group_length}
use Rattle.xfs_geom.specs.Shape.{HasGroups}
use Rattle.xfs_geom.specs.Volumes.{Volume, volume_of}
use Rattle.xfs_place.specs.Chunks.{asked_pool, asked_rooms, is_room, rooms, rooms_below}
use Rattle.xfs_geom.specs.declared.geometry.Geometry.{Geometry}
use Rattle.xfs_geom.specs.declared.records.Run.{Run}
use Rattle.xfs_place.specs.declared.chunk_search.ChunkAsk.{ChunkAsk}
use Rattle.xfs_place.specs.declared.faults.PlaceFault.{PlaceFault}
use Rattle.xfs_place.specs.declared.faults.Unplaced.TheVariants.{Chunk}
use Rattle.xfs_filled.specs.Chunks.{chunk_at, chunk_starts, further_ask, spared_list}
use Rattle.xfs_filled.specs.Numbers.{chunk_count, further_chunks}
use Rattle.xfs_filled.specs.Planning.{further_rooms}

pub ask_is : (g : Geometry) (files : ℕ) (taken : List Run) (reserved spared : List ℕ) (count : ℕ) → taken ≡ chunk_at 16 ∷ [] → reserved ≡ [] → spared ≡ spared_list g
    → count ≡ further_chunks files
    → record { geometry = g; taken = taken; reserved = reserved; size = 8; from = 24; spared_from = spared; count = count; what = Chunk } ≡ further_ask g files
ask_is g files taken reserved spared count is_taken is_reserved is_spared is_count = rw (is_taken, is_reserved, is_spared, is_count) refl

-- the first blocks of the chunks that are found
pub starts_are : (g : Geometry) (files : ℕ) (further : List ℕ) (ask : ChunkAsk) → ask ≡ further_ask g files → further ≡ take ask.count (asked_rooms ask)
    → 16 ∷ further ≡ chunk_starts g files
unfolding chunk_starts
starts_are g files further ask is are = ap (λ (xs : List ℕ). 16 ∷ xs) (are ∙ ap (λ (a : ChunkAsk). take a.count (asked_rooms a)) is)

flat_few : (f : ℕ → List ℕ) (m : ℕ) (xs : List ℕ) → ((x : ℕ) → length (f x) ≤ m) → length (flat_map f xs) ≤ length xs * m
flat_few f m [] few = omega arith
flat_few f m (x ∷ xs) few =
    let here : length (f x) ≤ m = few x in
    let rest : length (flat_map f xs) ≤ length xs * m = flat_few f m xs few in
    let all : length (f x ++ flat_map f xs) ≡ length (f x) + length (flat_map f xs) = length-append (f x) (flat_map f xs) in
    let more : (length xs + 1) * m ≡ length xs * m + m = mul-suc' (length xs) m in
    omega (arith, all, here, rest, more)
  where
    mul-suc' : (n m : ℕ) → (n + 1) * m ≡ n * m + m
    mul-suc' n m = omega arith

pub group_few : (v : Volume) (ag : ℕ) → HasGroups v.dblocks v.agblocks v.agcount → group_length v ag ≤ v.agblocks
group_few v ag groups = by_case (ag + 1 == v.agcount) refl
  where
    by_case : (r : Bool) → (ag + 1 == v.agcount) ≡ r → cond r (v.dblocks - ag * v.agblocks) v.agblocks ≤ v.agblocks
    by_case false is = omega arith
    by_case true is =
        let last : ag + 1 ≡ v.agcount = eqb-true _ _ is in
        let whole : v.dblocks ≤ (ag + 1) * v.agblocks = subst (λ (n : ℕ). v.dblocks ≤ n * v.agblocks) (sym last) groups.covered in
        omega (arith, whole)

-- a volume has fewer chunks than a request can ask for
pub rooms_few : (v : Volume) (pool : ℕ → Bool) (from : ℕ) → HasGroups v.dblocks v.agblocks v.agcount → length (rooms v pool 8 from) ≤ 2 ^ 27
unfolding rooms rooms_below
rooms_few v pool from groups =
    let each : (ag : ℕ) → length (map (λ (i : ℕ). ag * v.agblocks + i * 8) (filter (is_room v pool 8 from ag) (range_with_len 0 (group_length v ag / 8)))) ≤ v.agblocks =
    λ ag.
    let mapped = length-map (filter (is_room v pool 8 from ag) (range_with_len 0 (group_length v ag / 8))) (λ (i : ℕ). ag * v.agblocks + i * 8) in
    let passed = length-filter (is_room v pool 8 from ag) (range_with_len 0 (group_length v ag / 8)) in
    let some = count_by-le-length (is_room v pool 8 from ag) (range_with_len 0 (group_length v ag / 8)) in
    let count = length-range_with_len 0 (group_length v ag / 8) in
    let short = group_few v ag groups in
    omega (arith, mapped, passed, some, count, short) in
    let all = flat_few (λ (ag : ℕ). map (λ (i : ℕ). ag * v.agblocks + i * 8) (filter (is_room v pool 8 from ag) (range_with_len 0 (group_length v ag / 8)))) v.agblocks
    (range_with_len 0 v.agcount) each in
    let count = length-range_with_len 0 v.agcount in
    let split : v.agcount * v.agblocks ≡ (v.agcount - 1) * v.agblocks + v.agblocks = whole v.agcount v.agblocks groups.two in
    let one : 1 * v.agblocks ≤ (v.agcount - 1) * v.agblocks = mul-le-mul_right v.agblocks (omega (arith, groups.two)) in
    let as_many : length (range_with_len 0 v.agcount) * v.agblocks ≡ v.agcount * v.agblocks = ap (λ (n : ℕ). n * v.agblocks) count in
    omega (arith, all, as_many, split, one, groups.last, groups.small)
  where
    whole : (n m : ℕ) → 2 ≤ n → n * m ≡ (n - 1) * m + m
    whole n m two =
        let at : n ≡ n - 1 + 1 = omega (arith, two) in
        let next : (n - 1 + 1) * m ≡ (n - 1) * m + m = omega arith in
        ap (λ (k : ℕ). k * m) at ∙ next

-- where as many chunks are found as are asked for, these are all
pub enough_rooms : (files n few : ℕ) → n ≡ further_chunks files → n ≤ few → few ≤ 2 ^ 27 → (n + 1 ≡ chunk_count files) × (chunk_count files ≤ few + 1)
enough_rooms files n few is less most = (omega (arith, is, less, most), omega (arith, is, less, most))

pub taken_few : (n : ℕ) (xs : List ℕ) → length (take n xs) ≡ n → n ≤ length xs
taken_few n xs all = let most = length-take n xs in omega (arith, most, all)

-- as many as are wanted are found
pub rooms_found : (g : Geometry) (files : ℕ) (ask : ChunkAsk) (starts : List ℕ) → ask ≡ further_ask g files → starts ≡ 16 ∷ take ask.count (asked_rooms ask)
    → length starts ≡ ask.count + 1 → (length starts ≡ chunk_count files) × (chunk_count files ≤ further_rooms g files + 1)
rooms_found g files ask starts is are all =
    let n = further_chunks files in
    let asked : length starts ≡ n + 1 = all ∙ ap (λ (a : ChunkAsk). a.count + 1) is in
    let taken : length starts ≡ suc (length (take n (asked_rooms (further_ask g files)))) =
    ap length are ∙ ap (λ (a : ChunkAsk). suc (length (take a.count (asked_rooms a)))) is in
    let few : n ≤ further_rooms g files = taken_few n (asked_rooms (further_ask g files)) (omega (arith, asked, taken)) in
    let most : further_rooms g files ≤ 2 ^ 27 = rooms_few (volume_of g) (asked_pool (further_ask g files)) 24 g.shape.groups in
    let both = enough_rooms files n (further_rooms g files) refl few most in
    (asked ∙ both.0, both.1)

lacking : (files n few : ℕ) → n ≡ further_chunks files → few < n → few + 1 < chunk_count files
lacking files n few is less = omega (arith, is, less)

-- why there are too few
pub chunks_lacking : (g : Geometry) (files : ℕ) (ask : ChunkAsk) (fault : PlaceFault) → ask ≡ further_ask g files
    → (fault ≡ PlaceFault.NoMemory) ⊎ ((fault ≡ PlaceFault.NoRoom ask.what) × (length (asked_rooms ask) < ask.count))
    → (fault ≡ PlaceFault.NoMemory) ⊎ ((fault ≡ PlaceFault.NoRoom Chunk) × (further_rooms g files + 1 < chunk_count files))
chunks_lacking g files ask fault is cause =
    by_case
    (subst (λ (a : ChunkAsk). (fault ≡ PlaceFault.NoMemory) ⊎ ((fault ≡ PlaceFault.NoRoom a.what) × (length (asked_rooms a) < a.count))) is cause)
  where
    by_case : (fault ≡ PlaceFault.NoMemory) ⊎ ((fault ≡ PlaceFault.NoRoom Chunk) × (further_rooms g files < further_chunks files))
        → (fault ≡ PlaceFault.NoMemory) ⊎ ((fault ≡ PlaceFault.NoRoom Chunk) × (further_rooms g files + 1 < chunk_count files))
    by_case (inl none) = inl none
    by_case (inr lacks) = inr (lacks.0, lacking files (further_chunks files) (further_rooms g files) refl lacks.1)

pub longer : (xs ys : List ℕ) (n : ℕ) → xs ≡ 16 ∷ ys → length ys ≡ n → length xs ≡ n + 1
longer xs ys n is long = let all = ap length is in omega (arith, all, long)

-- where memory is wanting, memory is wanting or something else is so
pub err_or : {A : Type 0} (P : PlaceFault → Type 0) (r : Result A PlaceFault) → IfErr r (λ (f : PlaceFault). f ≡ PlaceFault.NoMemory)
    → IfErr r (λ (f : PlaceFault). (f ≡ PlaceFault.NoMemory) ⊎ P f)
err_or P (Ok x) h = h
err_or P (Err e) h = inl h
