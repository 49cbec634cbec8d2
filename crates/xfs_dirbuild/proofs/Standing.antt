-- Blocks that are mapped one behind the other.
use Rattle.std.proofs.Common.{◌≡◌, ℕ, suc, zero, ◌+◌, ◌<◌, ◌≤◌, Bool, true, false, ◌==◌, if◌then◌else◌, List, [], ◌∷◌, ◌++◌, length, take, drop, get_or, refl, sym, ◌∙◌, ap, ap₂, arith}
use Rattle.std.specs.List.{list_all, filter, range_with_len}
use Rattle.std.proofs.lemmas.List.{take-append-drop, drop-drop, length-take-le, length-drop}
use Rattle.std.proofs.lemmas.Bool.{and_from, and_parts}
use Rattle.std.proofs.lemmas.Bool.Decides.{nat_tests}
use Rattle.xfs_dirindex.specs.Mapped.{Mapped, mapped_block, mapped}
use Rattle.xfs_dirindex.specs.Lookup.{bytes_mapped}
use Rattle.xfs_dirbuild.specs.Placed.{file_blocks}

-- blocks at the file blocks from one on
abbrev pub stand : ℕ → List (List ℕ) → List Mapped
stand first [] = []
stand first (b ∷ bs) = mapped_block first b ∷ stand (first + 1) bs

mapped-stand : (first n : ℕ) (bs : List (List ℕ)) → length bs ≡ n → mapped (range_with_len first n) bs ≡ stand first bs
mapped-stand first zero [] long = refl
mapped-stand first zero (b ∷ bs) long = absurd (omega arith)
mapped-stand first (suc n) [] long = absurd (omega arith)
mapped-stand first (suc n) (b ∷ bs) long = ap (λ (ms : List Mapped). mapped_block first b ∷ ms) (mapped-stand (first + 1) n bs (omega arith))

mapped-append : (xs ys : List ℕ) (bs cs : List (List ℕ)) → length bs ≡ length xs → mapped (xs ++ ys) (bs ++ cs) ≡ mapped xs bs ++ mapped ys cs
mapped-append [] ys [] cs long = refl
mapped-append [] ys (b ∷ bs) cs long = absurd (omega arith)
mapped-append (x ∷ xs) ys [] cs long = absurd (omega arith)
mapped-append (x ∷ xs) ys (b ∷ bs) cs long = ap (λ (ms : List Mapped). mapped_block x b ∷ ms) (mapped-append xs ys bs cs (omega arith))

length-range : (a n : ℕ) → length (range_with_len a n) ≡ n
length-range a zero = refl
length-range a (suc n) = ap suc (length-range (a + 1) n)

mapped-split : (first n : ℕ) (others : List ℕ) (bs : List (List ℕ)) → n ≤ length bs
    → mapped (range_with_len first n ++ others) bs ≡ stand first (take n bs) ++ mapped others (drop n bs)
mapped-split first n others bs enough =
    let long = length-take-le n bs enough in
    ap (mapped (range_with_len first n ++ others)) (sym (take-append-drop n bs))
    ∙ (mapped-append (range_with_len first n) others (take n bs) (drop n bs) (long ∙ sym (length-range first n))
    ∙ ap (λ (ms : List Mapped). ms ++ mapped others (drop n bs)) (mapped-stand first n (take n bs) long))

-- data blocks, index blocks and free blocks
pub split : (datas indexes frees : ℕ) (bs : List (List ℕ)) → length bs ≡ datas + indexes + frees
    → mapped (file_blocks datas indexes frees) bs
    ≡ stand 0 (take datas bs) ++ (stand 0x800000 (take indexes (drop datas bs)) ++ stand 0x1000000 (drop (datas + indexes) bs))
split datas indexes frees bs long =
    let rest = length-drop datas bs in
    let last = length-drop (datas + indexes) bs in
    mapped-split 0 datas (range_with_len 0x800000 indexes ++ range_with_len 0x1000000 frees) bs (omega arith)
    ∙ ap (λ (ms : List Mapped). stand 0 (take datas bs) ++ ms)
    (mapped-split 0x800000 indexes (range_with_len 0x1000000 frees) (drop datas bs) (omega (arith, rest))
    ∙ ap (λ (ms : List Mapped). stand 0x800000 (take indexes (drop datas bs)) ++ ms)
    (ap (mapped (range_with_len 0x1000000 frees)) (drop-drop indexes datas bs)
    ∙ mapped-stand 0x1000000 frees (drop (datas + indexes) bs) (omega (arith, last))))

-- a test that holds of all of them, or of none
pub filter-kept : (test : Mapped → Bool) (first : ℕ) (bs : List (List ℕ))
    → ((m : Mapped) → first ≤ m.offset → m.offset < first + length bs → test m ≡ true) → filter test (stand first bs) ≡ stand first bs
filter-kept test first [] holds = refl
filter-kept test first (b ∷ bs) holds =
    let rest = filter-kept test (first + 1) bs (λ m low high. holds m (omega arith) (omega arith)) in
    ap₂ (λ (t : Bool) (ms : List Mapped). if t then mapped_block first b ∷ ms else ms) (holds (mapped_block first b) (omega arith) (omega arith)) rest

pub filter-lost : (test : Mapped → Bool) (first : ℕ) (bs : List (List ℕ))
    → ((m : Mapped) → first ≤ m.offset → m.offset < first + length bs → test m ≡ false) → filter test (stand first bs) ≡ []
filter-lost test first [] fails = refl
filter-lost test first (b ∷ bs) fails =
    let rest = filter-lost test (first + 1) bs (λ m low high. fails m (omega arith) (omega arith)) in
    ap₂ (λ (t : Bool) (ms : List Mapped). if t then mapped_block first b ∷ ms else ms) (fails (mapped_block first b) (omega arith) (omega arith)) rest

pub all-stand : (test : Mapped → Bool) (first : ℕ) (bs : List (List ℕ)) → ((k : ℕ) → k < length bs → test (mapped_block (first + k) (get_or bs k [])) ≡ true)
    → list_all test (stand first bs) ≡ true
all-stand test first [] holds = refl
all-stand test first (b ∷ bs) holds =
    let start : first + 0 ≡ first = omega arith in
    let here : test (mapped_block first b) ≡ true = ap (λ (n : ℕ). test (mapped_block n b)) (sym start) ∙ holds 0 (omega arith) in
    and_from (test (mapped_block first b)) (list_all test (stand (first + 1) bs)) here
    (all-stand test (first + 1) bs (λ k less.
    let on : first + 1 + k ≡ first + suc k = omega arith in
    ap (λ (n : ℕ). test (mapped_block n (get_or bs k []))) on ∙ holds (suc k) (omega arith)))

pub all-join : {X : Type 0} (test : X → Bool) (xs ys : List X) → list_all test xs ≡ true → list_all test ys ≡ true → list_all test (xs ++ ys) ≡ true
all-join test [] ys one two = two
all-join test (x ∷ xs) ys one two =
    let parts = and_parts (test x) (list_all test xs) one in
    and_from (test x) (list_all test (xs ++ ys)) parts.0 (all-join test xs ys parts.1 two)

-- the bytes of one of them, and those of others
pub bytes-there : (first : ℕ) (bs : List (List ℕ)) (others : List Mapped) (k : ℕ) → k < length bs → bytes_mapped (stand first bs ++ others) (first + k) ≡ get_or bs k []
bytes-there first [] others k less = absurd (omega arith)
bytes-there first (b ∷ bs) others zero less =
    let here : (first == first + 0) ≡ true = grind (arith, nat_tests) in
    ap (λ (t : Bool). if t then b else bytes_mapped (stand (first + 1) bs ++ others) (first + 0)) here
bytes-there first (b ∷ bs) others (suc k) less =
    let other : (first == first + suc k) ≡ false = grind (arith, nat_tests) in
    let on : first + suc k ≡ first + 1 + k = omega arith in
    ap (λ (t : Bool). if t then b else bytes_mapped (stand (first + 1) bs ++ others) (first + suc k)) other
    ∙ (ap (bytes_mapped (stand (first + 1) bs ++ others)) on ∙ bytes-there (first + 1) bs others k (omega arith))

pub bytes-past : (first : ℕ) (bs : List (List ℕ)) (others : List Mapped) (block : ℕ) → first + length bs ≤ block
    → bytes_mapped (stand first bs ++ others) block ≡ bytes_mapped others block
bytes-past first [] others block past = refl
bytes-past first (b ∷ bs) others block past =
    let other : (first == block) ≡ false = grind (arith, nat_tests) in
    ap (λ (t : Bool). if t then b else bytes_mapped (stand (first + 1) bs ++ others) block) other ∙ bytes-past (first + 1) bs others block (omega arith)
