-- Blocks that are put behind others, and the images that have them.
use Rattle.std.proofs.Common.{◌≡◌, ℕ, ◌+◌, ◌-◌, ◌*◌, ◌<◌, ◌≤◌, List, [], ◌∷◌, ◌++◌, length, get_or, take, map, inl, inr, sym, ap, ◌∙◌, subst, arith, append_assoc, append-nil, length-append, take_all}
use Rattle.std.proofs.lemmas.Bool.{cases_lt}
use Rattle.std.proofs.lemmas.List.{get_or_append_left, map-append, take_more}
use Rattle.std.proofs.lemmas.List.Elements.{All-append, All-cons, All-nil}
use Rattle.std.proofs.Math.Seq.{get_or-append_seam}
use Rattle.xfs_disk.specs.Blocks.{Image, bytes_of_block}
use Rattle.xfs_treebuild.specs.Packing.{HoldsParts, block_of_part}
use Rattle.xfs_writing.specs.declared.rows.Row.{Row}
use Rattle.xfs_render.specs.Drafts.{Adds, AddsAgain, AddsBlock, AddsPart, AreInBank, HoldsDraft, HoldsRows, IsDraft, last_block, row_places}
use Rattle.xfs_render.specs.declared.draft.Draft.{Draft}

-- what is in a bank is in it still where blocks are put behind
stays_inside : (rows : List Row) (bank more : Image) → AreInBank rows bank → AreInBank rows (bank ++ more)
stays_inside rows bank more inside = λ k d low. omega (arith, inside k d low, length-append bank more)

-- the first of some rows are held where all are
pub held_left : (image : Image) (rows more : List Row) (bank : Image) → HoldsRows (rows ++ more) bank image → HoldsRows rows bank image
held_left image rows more bank held = λ k d low.
    let there : k < length (rows ++ more) = omega (arith, low, length-append rows more) in
    subst (λ (r : Row). bytes_of_block image r.at ≡ get_or bank r.index []) (get_or_append_left rows more d k low) (held k d there)

-- and by the bank as it was
held_bank : (image : Image) (rows : List Row) (bank more : Image) → AreInBank rows bank → HoldsRows rows (bank ++ more) image → HoldsRows rows bank image
held_bank image rows bank more inside held = λ k d low. held k d low ∙ get_or_append_left bank more [] (get_or rows k d).index (inside k d low)

-- the row behind all others
held_last : (image : Image) (rows : List Row) (row : Row) (bank : Image) → HoldsRows (rows ++ row ∷ []) bank image → bytes_of_block image row.at ≡ get_or bank row.index []
held_last image rows row bank held =
    let there : length rows < length (rows ++ row ∷ []) = omega (arith, length-append rows (row ∷ [])) in
    subst (λ (r : Row). bytes_of_block image r.at ≡ get_or bank r.index []) (get_or-append_seam rows row [] row) (held (length rows) row there)

-- one more is in the bank
one_inside : (rows : List Row) (row : Row) (bank : Image) → AreInBank rows bank → row.index < length bank → AreInBank (rows ++ row ∷ []) bank
one_inside rows row bank inside low =
    let P : Row → Type 0 = λ r. r.index < length bank in
    All-append P rows (row ∷ []) inside (All-cons P row [] low (All-nil P))

-- the block behind all others of a bank
behind_all : (bank : Image) (block : List ℕ) → get_or (bank ++ block ∷ []) (length bank) [] ≡ block
behind_all bank block = get_or-append_seam bank block [] []

last_is : (bank : Image) (block : List ℕ) → last_block (bank ++ block ∷ []) ≡ block
last_is bank block =
    let n : length (bank ++ block ∷ []) - 1 ≡ length bank = omega (arith, length-append bank (block ∷ [])) in
    ap (λ (m : ℕ). get_or (bank ++ block ∷ []) m []) n ∙ behind_all bank block

pub added_block : (old new : Draft) (place : ℕ) (block : List ℕ) → IsDraft old → new.rows.items ≡ old.rows.items ++ record { at = place; index = length old.bank } ∷ []
    → new.bank ≡ old.bank ++ block ∷ [] → AddsBlock old new place block
added_block old new place block was rows bank =
    let row : Row = record { at = place; index = length old.bank } in
    let all = old.rows.items ++ row ∷ [] in
    let more = old.bank ++ block ∷ [] in
    let long : length more ≡ length old.bank + 1 = length-append old.bank (block ∷ []) in
    let move = λ (image : Image) (held : HoldsDraft image new).
    subst (λ (b : Image). HoldsRows all b image) bank (subst (λ (rs : List Row). HoldsRows rs new.bank image) rows held) in
    let inside : AreInBank all more = one_inside old.rows.items row more (stays_inside old.rows.items old.bank (block ∷ []) was.inside) (omega (arith, long)) in
    record {
      adds = record {
        whole = record { inside = subst (λ (rs : List Row). AreInBank rs new.bank) (sym rows) (subst (λ (b : Image). AreInBank all b) (sym bank) inside) };
        places' = ap row_places rows ∙ map-append (λ (r : Row). r.at) old.rows.items (row ∷ []);
        count = ap length bank ∙ long;
        before = λ image held. held_bank image old.rows.items old.bank (block ∷ []) was.inside (held_left image old.rows.items (row ∷ []) more (move image held));
      };
      held = λ image held. held_last image old.rows.items row more (move image held) ∙ behind_all old.bank block;
      last = ap last_block bank ∙ last_is old.bank block;
    }

pub added_again : (old new : Draft) (place : ℕ) → IsDraft old → 1 ≤ length old.bank → new.rows.items ≡ old.rows.items ++ record { at = place; index = length old.bank - 1 } ∷ []
    → new.bank ≡ old.bank → AddsAgain old new place
added_again old new place was some rows bank =
    let row : Row = record { at = place; index = length old.bank - 1 } in
    let all = old.rows.items ++ row ∷ [] in
    let move = λ (image : Image) (held : HoldsDraft image new).
    subst (λ (b : Image). HoldsRows all b image) bank (subst (λ (rs : List Row). HoldsRows rs new.bank image) rows held) in
    let inside : AreInBank all old.bank = one_inside old.rows.items row old.bank was.inside (omega (arith, some)) in
    record {
      adds = record {
        whole = record { inside = subst (λ (rs : List Row). AreInBank rs new.bank) (sym rows) (subst (λ (b : Image). AreInBank all b) (sym bank) inside) };
        places' = ap row_places rows ∙ map-append (λ (r : Row). r.at) old.rows.items (row ∷ []);
        count = let same = ap length bank in omega (arith, same);
        before = λ image held. held_left image old.rows.items (row ∷ []) old.bank (move image held);
      };
      held = λ image held. held_last image old.rows.items row old.bank (move image held);
      last = ap last_block bank;
    }

-- nothing was put, and one thing was put behind the other
pub adds_none : (old : Draft) → IsDraft old → Adds old old [] 0
adds_none old was = record { whole = was; places' = sym (append-nil (row_places old.rows.items)); count = omega arith; before = λ image held. held }

pub adds_then : (old mid new : Draft) (ps qs : List ℕ) (m n : ℕ) → Adds old mid ps m → Adds mid new qs n → Adds old new (ps ++ qs) (m + n)
adds_then old mid new ps qs m n first next = record {
  whole = next.whole;
  places' = next.places' ∙ ap (λ (xs : List ℕ). xs ++ qs) first.places' ∙ append_assoc (row_places old.rows.items) ps qs;
  count = let a = first.count in let b = next.count in omega (arith, a, b);
  before = λ image held. first.before image (next.before image held);
}

-- the same places by another name, and the same number
pub adds_as : (old new : Draft) (ps qs : List ℕ) (m n : ℕ) → ps ≡ qs → m ≡ n → Adds old new ps m → Adds old new qs n
adds_as old new ps qs m n same count adds = subst (λ (k : ℕ). Adds old new qs k) count (subst (λ (xs : List ℕ). Adds old new xs m) same adds)

-- each place beside its part
abbrev pub HoldsUpTo : Image → ℕ → List ℕ → List ℕ → Type 0
HoldsUpTo image n places part = (j : ℕ) → j < n → bytes_of_block image (get_or places j 0) ≡ block_of_part part j

pub record AddsUpTo (old new : Draft) (n : ℕ) (places part : List ℕ) : Type 0 where
  pub adds : Adds old new (take n places) n
  pub held : (image : Image) → HoldsDraft image new → HoldsUpTo image n places part

pub up_to_none : (old : Draft) (places part : List ℕ) → IsDraft old → AddsUpTo old old 0 places part
up_to_none old places part was = record { adds = adds_none old was; held = λ image held j low. absurd (omega (arith, low)) }

pub up_to_more : (old mid new : Draft) (i place : ℕ) (places part block : List ℕ) → i < length places → place ≡ get_or places i 0 → block ≡ block_of_part part i
    → AddsUpTo old mid i places part → AddsBlock mid new place block → AddsUpTo old new (i + 1) places part
up_to_more old mid new i place places part block inside at is first next = record {
  adds = adds_as old new (take i places ++ place ∷ []) (take (i + 1) places) (i + 1) (i + 1)
      (ap (λ (x : ℕ). take i places ++ x ∷ []) at ∙ sym (take_more places i 0 inside)) (omega arith)
      (adds_then old mid new (take i places) (place ∷ []) i 1 first.adds next.adds);
  held = λ image held j low. elim (cases_lt j i) [
    | inl early ↦ first.held image (next.adds.before image held) j early
    | inr late ↦
        let same : i ≡ j = omega (arith, low, late) in
        subst (λ (k : ℕ). bytes_of_block image (get_or places k 0) ≡ block_of_part part k) same
        (ap (bytes_of_block image) (sym at) ∙ next.held image held ∙ is)
  ];
}

pub up_to_all : (old new : Draft) (n : ℕ) (places part : List ℕ) → n ≡ length places → AddsUpTo old new n places part → AddsPart old new places part
up_to_all old new n places part all up = record {
  adds = adds_as old new (take n places) places n (length places) (take_all n places (omega (arith, all))) all up.adds;
  held = λ image held j low. up.held image held j (omega (arith, all, low));
}
