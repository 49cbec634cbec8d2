-- What the files of a new volume own: the runs that were placed, each of which may be cut into extents.
use Rattle.std.proofs.Common.{◌≡◌, ℕ, zero, suc, Bool, true, false, cond, ◌+◌, ◌-◌, ◌*◌, ◌/◌, ◌^◌, ◌==◌, ◌≤◌, ◌<◌, nat_le, List, [], ◌∷◌, ◌++◌, length, map, take, drop, Option, Some, None, append-nil, refl, sym, ap, ap₂, ◌∙◌, subst, arith}
use Rattle.std.specs.Prelude.{if◌then◌else◌}
use Rattle.std.specs.List.{All, AllByRecursion, flat_map, range_with_len, sum_by}
use Rattle.std.proofs.lemmas.Bool.{eqb-true, false≢true}
use Rattle.std.proofs.lemmas.List.{take-append-drop}
use Rattle.std.proofs.lemmas.List.Elements.{All-append}
use Rattle.std.proofs.lemmas.List.Sums.{sum_by-cons}
use Rattle.xfs_word.specs.declared.extents.Extent.{Extent}
use Rattle.xfs_disk.specs.declared.stamp.Stamp.{Stamp}
use Rattle.xfs_dirbuild.specs.Forms.{data_blocks_of, form_of, free_blocks_of, index_blocks_of}
use Rattle.xfs_dirbuild.specs.declared.forms.DirectoryForm.{DirectoryForm}
use Rattle.xfs_dirdata.specs.declared.records.EntryRec.{EntryRec}
use Rattle.xfs_geom.specs.Volumes.{Volume, volume_of}
use Rattle.xfs_geom.specs.declared.geometry.Geometry.{Geometry}
use Rattle.xfs_geom.specs.declared.records.Run.{Run}
use Rattle.xfs_place.specs.Objects.{AreJoined, ServeAsks, asks_of, rest_of}
use Rattle.xfs_place.specs.declared.wanted.RunAsk.{RunAsk}
use Rattle.xfs_proto.specs.declared.protofile.ProtoKind.{ProtoKind}
use Rattle.xfs_proto.specs.declared.protofile.ProtoKind.TheVariants as Kind
use Rattle.xfs_proto.specs.declared.protofile.ProtoNode.{ProtoNode}
use Rattle.xfs_views.proofs.Members.{row_member}
use Rattle.xfs_space.specs.Owners.{extent_run, file_runs}
use Rattle.xfs_volume.specs.declared.files.FileRec.{FileRec}
use Rattle.xfs_built.proofs.Mapping.{address_leads}
use Rattle.xfs_built.proofs.NumberedSums.{sum_each, sum_flat, sum_mapped}
use Rattle.xfs_built.proofs.Sized.{none_short}
use Rattle.xfs_empty.specs.Inodes.{system_core}
use Rattle.xfs_made.specs.Files.{plain_file}
use Rattle.xfs_filled.specs.Directories.{IsSoundWhere, made_directory_at, fresh_fork_bytes, made_directory}
use Rattle.xfs_filled.specs.Entries.{entries_at, parent_of_place}
use Rattle.xfs_filled.specs.FileTrees.{AreProtoNodes, is_directory_node, node_at}
use Rattle.xfs_filled.specs.Forks.{extent_fork, extents_of_owner, fork_of_kind, local_fork, owned_by}
use Rattle.xfs_filled.specs.Numbers.{number_of}
use Rattle.xfs_filled.specs.Objects.{all_objects, content_at, directory_runs, run_of, runs_at, runs_of_kind}
use Rattle.xfs_filled.specs.Sites.{AreChunksPlaced}
use Rattle.xfs_filled.specs.declared.directories.MadeDirectory.{MadeDirectory}
use Rattle.xfs_filled.proofs.Numbering.{number_low}
use Rattle.xfs_filled.proofs.Ordered.{number_once}
use Rattle.xfs_populated.specs.Populated.{filled_file, filled_files, filled_fork}
use Rattle.xfs_populated.proofs.FileCuts.{cut, cuts_are, extent_by, parts_from}
use Rattle.xfs_populated.proofs.FileOrder.{AreFew, AsksInOrder, kind_order}
use Rattle.xfs_populated.proofs.FileServed.{AreServed, file_served}
use Rattle.xfs_populated.proofs.FileSized.{sound_at}
use Rattle.xfs_populated.proofs.OwnedSums.{IsOwnedBy, owners_sum}
use Rattle.xfs_populated.proofs.RunsSeen.{IsPlainRun, cuts_alike, seen}

-- the runs of asks at low offsets end at low offsets
abbrev EndsLow : Run → Type 0
EndsLow r = r.offset_word + r.count ≤ 2 ^ 33

joined_low : (runs : List Run) (ask : RunAsk) → AreJoined ask runs → ask.offset_word + ask.blocks ≤ 2 ^ 33 → All EndsLow runs
joined_low [] ask joined small k d low = absurd (omega (arith, low))
joined_low (r ∷ runs) ask joined small zero d low =
    let word : r.offset_word ≡ ask.offset_word = ap (λ (x : Run). x.offset_word) joined.0 in
    let few = joined.1 in
    omega (arith, word, few, small)
joined_low (r ∷ runs) ask joined small (suc k) d low =
    let few = joined.1 in
    let next = rest_low ask.offset_word r.count ask.blocks (rest_of ask r.count).offset_word small few (behind ask r.count) in
    joined_low runs (rest_of ask r.count) joined.2 next k d (omega (arith, low))
  where
    behind : (ask : RunAsk) (n : ℕ) → (rest_of ask n).offset_word ≤ ask.offset_word + n
    behind ask n = by_case _
      where
        by_case : (t : Bool) → (if t then ask.offset_word + n else ask.offset_word) ≤ ask.offset_word + n
        by_case true = omega arith
        by_case false = omega arith

    rest_low : (offset n blocks next : ℕ) → offset + blocks ≤ 2 ^ 33 → n ≤ blocks → next ≤ offset + n → next + (blocks - n) ≤ 2 ^ 33
    rest_low offset n blocks next small few at = omega (arith, small, few, at)

served_low : (asks : List RunAsk) (runs : List Run) (least : ℕ) → AreServed asks runs → AsksInOrder least asks → All EndsLow runs
served_low [] runs least served order = subst (All EndsLow) (sym served) (λ k d low. absurd (omega (arith, low)))
served_low (a ∷ asks) runs least served order =
    subst (All EndsLow) (take-append-drop served.0 runs)
    (All-append EndsLow (take served.0 runs) (drop served.0 runs) (joined_low (take served.0 runs) a served.2 order.2)
    (served_low asks (drop served.0 runs) (a.offset_word + a.blocks) served.3 order.3))

-- the runs of an owner are its own
abbrev IsOwn : ℕ → Run → Type 0
IsOwn owner r = r.owner ≡ owner

own_all : (owner : ℕ) (runs : List Run) → AllByRecursion (IsOwn owner) (owned_by owner runs)
own_all owner [] = tt
own_all owner (r ∷ runs) = by_case (r.owner == owner) refl (own_all owner runs)
  where
    by_case : (t : Bool) → (r.owner == owner) ≡ t → AllByRecursion (IsOwn owner) (owned_by owner runs) → AllByRecursion (IsOwn owner) (cond t (r ∷ owned_by owner runs) (owned_by owner runs))
    by_case true is rest = (eqb-true r.owner owner is, rest)
    by_case false is rest = rest

plain_all : (owner : ℕ) (runs : List Run) → owner < 2 ^ 63 → AllByRecursion (IsOwn owner) runs → All EndsLow runs → AllByRecursion IsPlainRun runs
plain_all owner [] small own low = tt
plain_all owner (r ∷ runs) small own low =
    let is = own.0 in
    (record { owner' = omega (arith, is, small); low = low zero r (omega arith) }, plain_all owner runs small own.1 (λ k d less. low (suc k) d (omega (arith, less))))

-- extents go back to the parts of runs
parts_own : (owner : ℕ) (r : Run) (a m : ℕ) → r.owner ≡ owner → AllByRecursion (IsOwn owner) (parts_from r a m)
parts_own owner r a zero own = tt
parts_own owner r a (suc m) own = (own, parts_own owner r (a + 1) m own)

both_own : (owner : ℕ) (xs ys : List Run) → AllByRecursion (IsOwn owner) xs → AllByRecursion (IsOwn owner) ys → AllByRecursion (IsOwn owner) (xs ++ ys)
both_own owner [] ys first second = second
both_own owner (x ∷ xs) ys first second = (first.0, both_own owner xs ys first.1 second)

cuts_own : (owner : ℕ) (runs : List Run) → AllByRecursion (IsOwn owner) runs → AllByRecursion (IsOwn owner) (flat_map cut runs)
cuts_own owner [] own = tt
cuts_own owner (r ∷ runs) own = both_own owner (cut r) (flat_map cut runs) (parts_own owner r 0 ((r.count + 2097150) / 2097151) own.0) (cuts_own owner runs own.1)

module _ (v : Volume) (some : 1 ≤ v.agblocks) (enough : v.agblocks ≤ 2 ^ v.agblklog) where
  part_back : (ino : ℕ) (r : Run) → r.owner ≡ ino → extent_run v ino 0 (extent_by v r) ≡ r
  part_back ino r own =
      let word : 0 + 0 + r.offset_word ≡ r.offset_word = omega arith in
      λ i. record { start = address_leads v r.start some enough i; count = r.count; owner = sym own i; offset_word = word i }

  parts_back : (ino : ℕ) (runs : List Run) → AllByRecursion (IsOwn ino) runs → map (extent_run v ino 0) (map (extent_by v) runs) ≡ runs
  parts_back ino [] own = refl
  parts_back ino (r ∷ runs) own = ap₂ (λ (x : Run) (xs : List Run). x ∷ xs) (part_back ino r own.0) (parts_back ino runs own.1)

  extents_back : (ino : ℕ) (runs : List Run) → map (extent_run v ino 0) (extents_of_owner v ino runs) ≡ flat_map cut (owned_by ino runs)
  extents_back ino runs =
      ap (map (extent_run v ino 0)) (cuts_are v (owned_by ino runs)) ∙ parts_back ino (flat_map cut (owned_by ino runs)) (cuts_own ino (owned_by ino runs) (own_all ino runs))

-- a file without extents asks for nothing
abbrev NoneWithout : Option MadeDirectory → Type 0
NoneWithout None = Unit {0}
NoneWithout (Some d) = d.data_blocks ≡ 0 → (d.index_blocks ≡ 0) × (d.free_blocks ≡ 0)

none_without : (v : Volume) (starts : List ℕ) (ns : List ProtoNode) (k : ℕ) → NoneWithout (made_directory_at v starts ns k)
none_without v starts ns k = by_case (is_directory_node ns k)
  where
    abbreviated : (es : List EntryRec) → data_blocks_of (form_of es fresh_fork_bytes) es ≡ 0 → (index_blocks_of (form_of es fresh_fork_bytes) es ≡ 0) × (free_blocks_of (form_of es fresh_fork_bytes) es ≡ 0)
    abbreviated es none =
        let short = none_short (form_of es fresh_fork_bytes) es none in
        (ap (λ (f : DirectoryForm). index_blocks_of f es) short, ap (λ (f : DirectoryForm). free_blocks_of f es) short)

    by_case : (t : Bool) → NoneWithout (if t then Some (made_directory (entries_at v starts ns k) (number_of v starts k) (parent_of_place v starts ns k)) else None)
    by_case true = abbreviated (entries_at v starts ns k)
    by_case false = tt

no_run : (blocks ino offset : ℕ) → blocks ≡ 0 → run_of blocks ino offset ≡ []
no_run blocks ino offset none = ap (λ (n : ℕ). run_of n ino offset) none

directory_none : (d : MadeDirectory) (ino : ℕ) (es : List Extent) (t : Bool) → (d.data_blocks == 0) ≡ t → NoneWithout (Some d)
    → ((if t then local_fork d.short else extent_fork (4096 * d.data_blocks) es).format == 2) ≡ false → directory_runs ino (Some d) ≡ []
directory_none d ino es true is without other =
    let none = eqb-true d.data_blocks 0 is in
    let rest = without none in
    ap₂ (λ (xs ys : List RunAsk). xs ++ ys) (no_run d.data_blocks ino 0 none) (ap₂ (λ (xs ys : List RunAsk). xs ++ ys) (no_run d.index_blocks ino 0x800000 rest.0) (no_run d.free_blocks ino 0x1000000 rest.1))
directory_none d ino es false is without other = absurd (false≢true (sym other))

target_none : (target : List ℕ) (ino : ℕ) (es : List Extent) (t : Bool) → ((if t then local_fork target else extent_fork (length target) es).format == 2) ≡ false → run_of (if t then 0 else 1) ino 0 ≡ []
target_none target ino es true other = refl
target_none target ino es false other = absurd (false≢true (sym other))

kind_none : (kind : ProtoKind) (made : Option MadeDirectory) (content : List ℕ) (ino : ℕ) (es : List Extent) → NoneWithout made
    → ((fork_of_kind kind made content es).format == 2) ≡ false → runs_of_kind kind made content ino ≡ []
kind_none (Kind.Regular name line) made content ino es without other = absurd (false≢true (sym other))
kind_none Kind.Directory None content ino es without other = refl
kind_none Kind.Directory (Some d) content ino es without other = directory_none d ino es (d.data_blocks == 0) refl without other
kind_none (Kind.Link target) made content ino es without other = target_none target ino es (nat_le (length target) 336) other
kind_none (Kind.Block major minor) made content ino es without other = refl
kind_none (Kind.Character major minor) made content ino es without other = refl
kind_none Kind.Pipe made content ino es without other = refl

few_of : (made : Option MadeDirectory) → IsSoundWhere made → AreFew made
few_of None sound = tt
few_of (Some d) sound = (sound.data_few, sound.index_few, sound.free_few)

module _ (g : Geometry) (s : Stamp) (starts : List ℕ) (ns : List ProtoNode) (contents : List (List ℕ)) (cuts : List ℕ) (runs : List Run) (crc : ℕ → ℕ)
    (placed : AreChunksPlaced g starts ns) (files : AreProtoNodes ns) (serve : ServeAsks (asks_of (all_objects (volume_of g) starts ns contents)) cuts runs) where
  abbrev v : Volume
  v = volume_of g

  abbrev due : ℕ → FileRec
  due = filled_file v s starts ns contents runs crc

  module _ (h : ℕ → ℕ → ℕ) (b : ℕ) where
    -- what the file at a place gives a block
    file_seen : (k : ℕ) → k < length ns → sum_by (seen h b) (file_runs v (due k)) ≡ sum_by (seen h b) (owned_by (number_of v starts k) runs)
    file_seen k low = by_format ((filled_fork v s starts ns contents runs crc k).format == 2) refl
      where
        served : AreServed (runs_at v starts ns contents k) (owned_by (number_of v starts k) runs)
        served = file_served g starts ns contents cuts runs k placed low serve

        small : number_of v starts k < 2 ^ 63
        small = let number = number_low g starts ns k placed low in omega (arith, number)

        order : AsksInOrder 0 (runs_at v starts ns contents k)
        order =
            kind_order (node_at ns k).kind (made_directory_at v starts ns k) (content_at contents k) (number_of v starts k) small (few_of (made_directory_at v starts ns k) (sound_at g starts ns k placed files))

        plain : AllByRecursion IsPlainRun (owned_by (number_of v starts k) runs)
        plain =
            plain_all (number_of v starts k) (owned_by (number_of v starts k) runs) small (own_all (number_of v starts k) runs)
            (served_low (runs_at v starts ns contents k) (owned_by (number_of v starts k) runs) 0 served order)

        by_format : (t : Bool) → ((filled_fork v s starts ns contents runs crc k).format == 2) ≡ t
            → sum_by (seen h b) (map (extent_run v (number_of v starts k) 0) (if t then extents_of_owner v (number_of v starts k) runs else []) ++ [] ++ []) ≡ sum_by (seen h b) (owned_by (number_of v starts k) runs)
        by_format true is =
            let large = g.shape.groups.large in
            ap (sum_by (seen h b)) (append-nil (map (extent_run v (number_of v starts k) 0) (extents_of_owner v (number_of v starts k) runs) ++ []))
            ∙ ap (sum_by (seen h b)) (append-nil (map (extent_run v (number_of v starts k) 0) (extents_of_owner v (number_of v starts k) runs)))
            ∙ ap (sum_by (seen h b)) (extents_back v (omega (arith, large)) g.shape.addresses.enough (number_of v starts k) runs)
            ∙ cuts_alike (owned_by (number_of v starts k) runs) plain h b
        by_format false is =
            let none : runs_at v starts ns contents k ≡ [] =
            kind_none (node_at ns k).kind (made_directory_at v starts ns k) (content_at contents k) (number_of v starts k) (extents_of_owner v (number_of v starts k) runs) (none_without v starts ns k) is in
            let own : owned_by (number_of v starts k) runs ≡ [] = subst (λ (asks : List RunAsk). AreServed asks (owned_by (number_of v starts k) runs)) none served in
            sym (ap (sum_by (seen h b)) own)

    -- all files
    abbrev of_file : FileRec → ℕ
    of_file f = sum_by (seen h b) (file_runs v f)

    pub files_seen : AllByRecursion (IsOwnedBy (number_of v starts) (length ns)) runs → sum_by (seen h b) (flat_map (file_runs v) (filled_files v s starts ns contents runs crc)) ≡ sum_by (seen h b) runs
    unfolding filled_files
    files_seen own =
        let some = files.some in
        let whole = sum_flat (seen h b) (file_runs v) (filled_files v s starts ns contents runs crc) in
        let front = fronts (due 0) in
        let mapped = sum_mapped of_file due (range_with_len 1 (length ns - 1)) in
        let count : suc (length ns - 1) ≡ length ns = omega (arith, some) in
        let all : sum_by (λ (k : ℕ). of_file (due k)) (range_with_len 0 (suc (length ns - 1))) ≡ of_file (due 0) + sum_by (λ (k : ℕ). of_file (due k)) (range_with_len 1 (length ns - 1)) =
        sum_by-cons (λ (k : ℕ). of_file (due k)) 0 (range_with_len 1 (length ns - 1)) in
        let together : sum_by (λ (k : ℕ). of_file (due k)) (range_with_len 0 (suc (length ns - 1))) ≡ sum_by (λ (k : ℕ). of_file (due k)) (range_with_len 0 (length ns)) =
        ap (λ (n : ℕ). sum_by (λ (k : ℕ). of_file (due k)) (range_with_len 0 n)) count in
        let each = sum_each (λ (k : ℕ). of_file (due k)) (λ (k : ℕ). sum_by (seen h b) (owned_by (number_of v starts k) runs)) (range_with_len 0 (length ns))
        (λ k is. let row = row_member k 0 (length ns) is in let high = row.high in file_seen k (omega (arith, high))) in
        let owners = owners_sum (seen h b) (number_of v starts) (length ns) (λ i j low few differ. number_once g starts ns i j placed low few differ) runs own in
        omega (arith, whole, front, mapped, all, together, each, owners)
      where
        fronts : (first : FileRec)
            → sum_by of_file (first ∷ plain_file (system_core v s 129) (crc 129) ∷ plain_file (system_core v s 130) (crc 130) ∷ map due (range_with_len 1 (length ns - 1)))
            ≡ of_file first + sum_by of_file (map due (range_with_len 1 (length ns - 1)))
        fronts first =
            let rest : List FileRec = map due (range_with_len 1 (length ns - 1)) in
            let one : FileRec = plain_file (system_core v s 129) (crc 129) in
            let two : FileRec = plain_file (system_core v s 130) (crc 130) in
            let a = sum_by-cons of_file first (one ∷ two ∷ rest) in
            let c = sum_by-cons of_file one (two ∷ rest) in
            let d = sum_by-cons of_file two rest in
            let x : of_file one ≡ 0 = refl in
            let y : of_file two ≡ 0 = refl in
            omega (arith, a, c, d, x, y)
