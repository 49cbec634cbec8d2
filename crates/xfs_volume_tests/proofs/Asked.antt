-- What is asked for by the objects of the tests.
use Rattle.std.proofs.Common.{◌≡◌, ℕ, ◌+◌, ◌-◌, ◌<◌, ◌^◌, false, true, List, [], ◌∷◌, refl, sym, subst, arith}
use Rattle.std.specs.List.{All}
use Rattle.std.proofs.lemmas.List.Elements.{All-cons, All-nil}
use Rattle.xfs_kinds.specs.OffsetWords.{is_file_data, offset_in_fork}
use Rattle.xfs_place.specs.Objects.{IsAsk, asks_of}
use Rattle.xfs_place.specs.declared.wanted.Object.{Object}
use Rattle.xfs_place.specs.declared.wanted.RunAsk.{RunAsk}
use Rattle.xfs_render.specs.Objects.{written_blocks}
use Rattle.xfs_render.specs.Readiness.{HasAsker}
use Rattle.xfs_volume_tests.specs.Rendered.{AreAsked}

-- a run that can be asked for and has an owner
record IsAsked (a : RunAsk) : Type 0 where
  is : IsAsk a
  has : HasAsker a

abbrev ask : ℕ → ℕ → ℕ → RunAsk
ask blocks owner offset_word = record { blocks = blocks; owner = owner; offset_word = offset_word }

all_asks : (asks : List RunAsk) → All IsAsked asks → All IsAsk asks
all_asks asks all k d low = (all k d low).is

all_askers : (asks : List RunAsk) → All IsAsked asks → All HasAsker asks
all_askers asks all k d low = (all k d low).has

-- one block of a file from its start
one : (owner : ℕ) → owner < 2 ^ 64 - 1 → IsAsked (ask 1 owner 0)
one owner low = record { is = record { some = omega arith; fits = λ h. omega arith; plain = λ h. refl }; has = record { owner = low; offset = omega arith } }

none : false ≡ true → ⊥
none e = cc

-- the runs of a directory, and those of a file
two_data : IsAsked (ask 2 131 0)
two_data = record { is = record { some = omega arith; fits = λ h. omega arith; plain = λ h. refl }; has = record { owner = omega arith; offset = omega arith } }

index : IsAsked (ask 1 131 (2 ^ 23))
index = record { is = record { some = omega arith; fits = λ h. omega arith; plain = λ h. absurd (none (sym h)) }; has = record { owner = omega arith; offset = omega arith } }

spare : IsAsked (ask 1 131 (2 ^ 24))
spare = record { is = record { some = omega arith; fits = λ h. omega arith; plain = λ h. absurd (none (sym h)) }; has = record { owner = omega arith; offset = omega arith } }

two_first : IsAsked (ask 2 133 0)
two_first = record { is = record { some = omega arith; fits = λ h. omega arith; plain = λ h. refl }; has = record { owner = omega arith; offset = omega arith } }

unwritten : IsAsked (ask 3 133 (2 ^ 61 + 2))
unwritten = record { is = record { some = omega arith; fits = λ h. omega arith; plain = λ h. absurd (none (sym h)) }; has = record { owner = omega arith; offset = omega arith } }

last : IsAsked (ask 1 133 5)
last = record { is = record { some = omega arith; fits = λ h. omega arith; plain = λ h. absurd (none (sym h)) }; has = record { owner = omega arith; offset = omega arith } }

all_one : (a : RunAsk) → IsAsked a → All IsAsked (a ∷ [])
all_one a is = All-cons IsAsked a [] is (All-nil IsAsked)

all_three : (a b c : RunAsk) → IsAsked a → IsAsked b → IsAsked c → All IsAsked (a ∷ b ∷ c ∷ [])
all_three a b c x y z = All-cons IsAsked a (b ∷ c ∷ []) x (All-cons IsAsked b (c ∷ []) y (all_one c z))

abbrev one_block : ℕ → List RunAsk
one_block owner = ask 1 owner 0 ∷ []

abbrev of_directory : List RunAsk
of_directory = ask 2 131 0 ∷ ask 1 131 (2 ^ 23) ∷ ask 1 131 (2 ^ 24) ∷ []

abbrev of_file : List RunAsk
of_file = ask 2 133 0 ∷ ask 3 133 (2 ^ 61 + 2) ∷ ask 1 133 5 ∷ []

asked_of : (objects : List Object) (blocks : ℕ) → All (λ (o : Object). All IsAsked o.runs) objects → written_blocks (asks_of objects) ≡ blocks → AreAsked blocks objects
asked_of objects blocks all count = record {
  asks = λ k d low. all_asks _ (all k d low);
  askers = λ k d low. all_askers _ (all k d low);
  count = count;
}

pub counted : (m n : ℕ) (objects : List Object) → AreAsked m objects → n ≡ m → AreAsked n objects
counted m n objects asked same = subst (λ (k : ℕ). AreAsked k objects) (sym same) asked

pub two_asked : (objects : List Object) (first second : Object) → objects ≡ first ∷ second ∷ [] → first.runs ≡ one_block 131 → second.runs ≡ one_block 132
    → AreAsked 2 objects
two_asked objects first second is p q =
    let P : Object → Type 0 = λ (o : Object). All IsAsked o.runs in
    subst (AreAsked 2) (sym is)
    (asked_of (first ∷ second ∷ []) 2
    (All-cons P first (second ∷ []) (subst (All IsAsked) (sym p) (all_one (ask 1 131 0) (one 131 (omega arith))))
    (All-cons P second [] (subst (All IsAsked) (sym q) (all_one (ask 1 132 0) (one 132 (omega arith)))) (All-nil P)))
    (rw (p, q) refl))

pub kinds_asked : (objects : List Object) (directory link file : Object) → objects ≡ directory ∷ link ∷ file ∷ [] → directory.runs ≡ of_directory
    → link.runs ≡ one_block 132 → file.runs ≡ of_file → AreAsked 8 objects
kinds_asked objects directory link file is p q r =
    let P : Object → Type 0 = λ (o : Object). All IsAsked o.runs in
    subst (AreAsked 8) (sym is)
    (asked_of (directory ∷ link ∷ file ∷ []) 8
    (All-cons P directory (link ∷ file ∷ []) (subst (All IsAsked) (sym p) (all_three (ask 2 131 0) (ask 1 131 (2 ^ 23)) (ask 1 131 (2 ^ 24)) two_data index spare))
    (All-cons P link (file ∷ []) (subst (All IsAsked) (sym q) (all_one (ask 1 132 0) (one 132 (omega arith))))
    (All-cons P file [] (subst (All IsAsked) (sym r) (all_three (ask 2 133 0) (ask 3 133 (2 ^ 61 + 2)) (ask 1 133 5) two_first unwritten last)) (All-nil P))))
    (rw (p, q, r) refl))
