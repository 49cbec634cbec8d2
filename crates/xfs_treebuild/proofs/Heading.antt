-- What a header states, by whether it is long.
use Rattle.std.proofs.Common.{◌≡◌, ℕ, ◌*◌, ◌+◌, true, false, Bool, List, Some, IsTrue, sym, ◌∙◌, ap, subst}
use Rattle.std.proofs.lemmas.Bool.{cond-true, cond-false}
use Rattle.xfs_word.specs.Field.{field_of}
use Rattle.xfs_word.specs.Seal.{is_sealed}
use Rattle.xfs_word.specs.declared.kinds.SealKind.{SealKind}
use Rattle.xfs_word.specs.declared.kinds.SealKind.TheVariants.{LongTree, ShortTree}
use Rattle.xfs_geom.specs.Volumes.{Volume}
use Rattle.xfs_tree.specs.declared.layout.Layout.{Layout}
use Rattle.xfs_tree.specs.Layout.{header_len}
use Rattle.xfs_tree.specs.Blocks.{left_of, right_of}
use Rattle.xfs_tree.specs.Rules.{block_seal}
use Rattle.xfs_treebuild.specs.Packing.{lsn_of}

pub no-both : {A : Type 0} (b : Bool) → b ≡ true → b ≡ false → A
no-both b is is_not = cc

-- a long header
pub long-sealed : (v : Volume) (l : Layout) (owner place : ℕ) (block : List ℕ) → l.long ≡ true
    → IsTrue (is_sealed (record { kind = LongTree; place = 8 * place; owner = Some owner; uuid = v.uuid }) block) → IsTrue (is_sealed (block_seal v l owner place) block)
long-sealed v l owner place block is sealed =
    subst (λ (k : SealKind). IsTrue (is_sealed (record { kind = k; place = 8 * place; owner = Some owner; uuid = v.uuid }) block))
    (sym (cond-true l.long LongTree (ShortTree l.magic) is)) sealed

pub long-lsn : (l : Layout) (block : List ℕ) (n : ℕ) → l.long ≡ true → field_of block 32 8 ≡ n → lsn_of l block ≡ n
long-lsn l block n is put = ap (λ (at : ℕ). field_of block at 8) (cond-true l.long 32 24 is) ∙ put

pub long-left : (l : Layout) (block : List ℕ) (n : ℕ) → l.long ≡ true → field_of block 8 8 ≡ n → left_of l block ≡ n
long-left l block n is put = ap (λ (w : ℕ). field_of block 8 w) (cond-true l.long 8 4 is) ∙ put

pub long-right : (l : Layout) (block : List ℕ) (n : ℕ) → l.long ≡ true → field_of block 16 8 ≡ n → right_of l block ≡ n
long-right l block n is put = ap (λ (w : ℕ). field_of block (8 + w) w) (cond-true l.long 8 4 is) ∙ put

pub long-keeps : (P : ℕ → Type 0) (l : Layout) → l.long ≡ true → P 72 → P (header_len l)
long-keeps P l is kept = subst P (sym (cond-true l.long 72 56 is)) kept

-- a short one
pub short-sealed : (v : Volume) (l : Layout) (magic owner place : ℕ) (block : List ℕ) → l.long ≡ false → magic ≡ l.magic
    → IsTrue (is_sealed (record { kind = ShortTree magic; place = 8 * place; owner = Some owner; uuid = v.uuid }) block) → IsTrue (is_sealed (block_seal v l owner place) block)
short-sealed v l magic owner place block is magic_is sealed =
    subst (λ (k : SealKind). IsTrue (is_sealed (record { kind = k; place = 8 * place; owner = Some owner; uuid = v.uuid }) block))
    (sym (cond-false l.long LongTree (ShortTree l.magic) is ∙ ap (λ (m : ℕ). ShortTree m) (sym magic_is))) sealed

pub short-lsn : (l : Layout) (block : List ℕ) (n : ℕ) → l.long ≡ false → field_of block 24 8 ≡ n → lsn_of l block ≡ n
short-lsn l block n is put = ap (λ (at : ℕ). field_of block at 8) (cond-false l.long 32 24 is) ∙ put

pub short-left : (l : Layout) (block : List ℕ) (n : ℕ) → l.long ≡ false → field_of block 8 4 ≡ n → left_of l block ≡ n
short-left l block n is put = ap (λ (w : ℕ). field_of block 8 w) (cond-false l.long 8 4 is) ∙ put

pub short-right : (l : Layout) (block : List ℕ) (n : ℕ) → l.long ≡ false → field_of block 12 4 ≡ n → right_of l block ≡ n
short-right l block n is put = ap (λ (w : ℕ). field_of block (8 + w) w) (cond-false l.long 8 4 is) ∙ put

pub short-keeps : (P : ℕ → Type 0) (l : Layout) → l.long ≡ false → P 56 → P (header_len l)
short-keeps P l is kept = subst P (sym (cond-false l.long 72 56 is)) kept
