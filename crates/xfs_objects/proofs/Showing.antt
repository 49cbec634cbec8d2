-- Texts that are printed byte by byte.
use Rattle.std.proofs.Common.{◌≡◌, ℕ, suc, ◌+◌, ◌<◌, ◌≤◌, ◌≢◌, ◌==◌, Bool, false, not, cond, List, [], ◌∷◌, ◌++◌, length, take, drop, get_or, drop-cons, sym, ◌∙◌, ap, append_assoc, append-nil, arith}
use Rattle.std.proofs.lemmas.List.{drop_all}
use Rattle.std.specs.List.{flat_map, prefix_len, take_while}
use Rattle.std.proofs.lemmas.Bool.Decides.{nat_tests}
use Rattle.xfs_objects.specs.Values.{escaped}

pub rest_from : (bytes : List ℕ) (i : ℕ) → i < length bytes → drop i bytes ≡ get_or bytes i 0 ∷ drop (i + 1) bytes
rest_from bytes i within =
    let next : suc i ≡ i + 1 = omega arith in drop-cons bytes i 0 within ∙ ap (λ (k : ℕ). get_or bytes i 0 ∷ drop k bytes) next

-- what is printed of bytes
abbrev pub shown : List ℕ → List ℕ
shown bytes = flat_map escaped (take_while (λ byte. not (byte == 0)) bytes)

pub not_zero : (byte : ℕ) → byte ≢ 0 → (byte == 0) ≡ false
not_zero byte some = grind (arith, nat_tests, some)

shown_cons : (byte : ℕ) (rest : List ℕ) → (byte == 0) ≡ false → shown (byte ∷ rest) ≡ escaped byte ++ shown rest
shown_cons byte rest some =
    let more : 1 + prefix_len (λ byte. not (byte == 0)) rest ≡ suc (prefix_len (λ byte. not (byte == 0)) rest) = omega arith in
    ap (λ (t : Bool). flat_map escaped (take (cond (not t) (1 + prefix_len (λ byte. not (byte == 0)) rest) 0) (byte ∷ rest))) some
    ∙ ap (λ (n : ℕ). flat_map escaped (take n (byte ∷ rest))) more

pub shown_more : (mid new bytes : List ℕ) (i : ℕ) → i < length bytes → (get_or bytes i 0 == 0) ≡ false → new ≡ mid ++ escaped (get_or bytes i 0)
    → new ++ shown (drop (i + 1) bytes) ≡ mid ++ shown (drop i bytes)
shown_more mid new bytes i within some now =
    ap (λ (t : List ℕ). t ++ shown (drop (i + 1) bytes)) now
    ∙ append_assoc mid (escaped (get_or bytes i 0)) (shown (drop (i + 1) bytes))
    ∙ ap (λ (t : List ℕ). mid ++ t) (sym (shown_cons (get_or bytes i 0) (drop (i + 1) bytes) some))
    ∙ ap (λ (bs : List ℕ). mid ++ shown bs) (sym (rest_from bytes i within))

-- nothing of the rest is shown
none_shown : (text whole rest : List ℕ) → shown rest ≡ [] → text ++ shown rest ≡ whole → text ≡ whole
none_shown text whole rest none all = sym (append-nil text) ∙ ap (λ (t : List ℕ). text ++ t) (sym none) ∙ all

-- a zero byte ends what is shown
pub shown_stops : (text whole bytes : List ℕ) (i : ℕ) → i < length bytes → get_or bytes i 0 ≡ 0 → text ++ shown (drop i bytes) ≡ whole → text ≡ whole
shown_stops text whole bytes i within zero_is all =
    none_shown text whole (drop i bytes) (ap shown (rest_from bytes i within) ∙ ap (λ (b : ℕ). shown (b ∷ drop (i + 1) bytes)) zero_is) all

pub shown_all : (text whole bytes : List ℕ) (i : ℕ) → length bytes ≤ i → text ++ shown (drop i bytes) ≡ whole → text ≡ whole
shown_all text whole bytes i past all = none_shown text whole (drop i bytes) (ap shown (drop_all i bytes past)) all
