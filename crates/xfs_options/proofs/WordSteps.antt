-- One more word is read.
use Rattle.std.proofs.Common.{◌≡◌, ℕ, suc, ◌+◌, ◌<◌, List, ◌∷◌, length, drop, get_or, drop-cons, sym, ap, ◌∙◌, arith}
use Rattle.xfs_options.specs.Words.{Words, Read, after_word, after_words}
use Rattle.xfs_options.specs.declared.options.OptionRow.{OptionRow}

-- what is read of a word and then of the words behind it is what is read of the words from it on
pub word_read : (rows : List OptionRow) (rest : Words) (i : ℕ) (word : List ℕ) (old new : Read) → i < length rest → word ≡ get_or rest i word
    → new ≡ after_word rows (i + 1) word old
    → after_words rows (i + 1 + 1) (drop (i + 1) rest) new ≡ after_words rows (i + 1) (drop i rest) old
word_read rows rest i word old new within at is =
    let next : suc i ≡ i + 1 = omega arith in
    let front : drop i rest ≡ word ∷ drop (i + 1) rest =
    drop-cons rest i word within
    ∙ ap (λ (k : ℕ). get_or rest i word ∷ drop k rest) next
    ∙ ap (λ (w : List ℕ). w ∷ drop (i + 1) rest) (sym at) in
    ap (λ (r : Read). after_words rows (i + 1 + 1) (drop (i + 1) rest) r) is ∙ sym (ap (λ (words : Words). after_words rows (i + 1) words old) front)
