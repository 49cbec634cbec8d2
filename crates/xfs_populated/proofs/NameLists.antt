-- Lists that are joined end to end, and what a test finds in them.
use Rattle.std.proofs.Common.{◌≡◌, ◌≢◌, ℕ, zero, suc, ◌⊎◌, inl, inr, Bool, true, false, cond, List, [], ◌∷◌, ◌++◌, length, map, get_or, refl, sym, subst, ap, ap₂, ◌∙◌, arith}
use Rattle.std.specs.List.{All, AllPairs, Contains, filter, flat_map, list_all, range_with_len}
use Rattle.std.proofs.lemmas.Bool.{and_from, cases_Bool, true≢false}
use Rattle.std.proofs.lemmas.List.{append-nil, map-append}
use Rattle.std.proofs.lemmas.List.Elements.{All-append, All-map, Contains-append_left, Contains-append_right, filter-append}
use Rattle.std.proofs.lemmas.List.FromFn.{get_or-range_with_len, length-range_with_len}
use Rattle.std.proofs.lemmas.List.Kept.{AllPairs-cons}

abbrev pub Differ : ℕ → ℕ → Type 0
Differ a b = a ≢ b

pub all_flat : {X Y : Type 0} (P : Y → Type 0) (f : X → List Y) (xs : List X) → All (λ x. All P (f x)) xs → All P (flat_map f xs)
all_flat P f [] all = λ k d low. absurd (omega (arith, low))
all_flat P f (x ∷ xs) all = All-append P (f x) (flat_map f xs) (all zero x (omega arith)) (all_flat P f xs (λ k d low. all (suc k) d (omega (arith, low))))

pub map_flat : {X Y Z : Type 0} (g : Y → Z) (f : X → List Y) (xs : List X) → map g (flat_map f xs) ≡ flat_map (λ x. map g (f x)) xs
map_flat g f [] = refl
map_flat g f (x ∷ xs) = map-append g (f x) (flat_map f xs) ∙ ap (λ zs. map g (f x) ++ zs) (map_flat g f xs)

pub contains_flat : {X Y : Type 0} (f : X → List Y) (y : Y) (x : X) (xs : List X) → Contains xs x → Contains (f x) y → Contains (flat_map f xs) y
contains_flat f y x [] there has = let low = there.1 in absurd (omega (arith, low))
contains_flat f y x (z ∷ zs) (zero, low, is) has = Contains-append_left (f z) (flat_map f zs) y (subst (λ w. Contains (f w) y) (sym is) has)
contains_flat f y x (z ∷ zs) (suc k, low, is) has = Contains-append_right (f z) (flat_map f zs) y (contains_flat f y x zs (k, omega (arith, low), is) has)

pub contains_map : {X Y : Type 0} (f : X → Y) (x : X) (xs : List X) → Contains xs x → Contains (map f xs) (f x)
contains_map f x [] there = let low = there.1 in absurd (omega (arith, low))
contains_map f x (z ∷ zs) (zero, low, is) = (zero, omega arith, ap f is)
contains_map f x (z ∷ zs) (suc k, low, is) =
    let rest = contains_map f x zs (k, omega (arith, low), is) in
    let few = rest.1 in (suc rest.0, omega (arith, few), rest.2)

-- pairs of lists that are joined
pub pairs_append : {X : Type 0} (R : X → X → Type 0) (xs ys : List X) → AllPairs R xs → AllPairs R ys → All (λ x. All (R x) ys) xs → AllPairs R (xs ++ ys)
pairs_append R [] ys one other across = other
pairs_append R (x ∷ xs) ys one other across =
    AllPairs-cons R x (xs ++ ys) (All-append (R x) xs ys (λ k d low. one zero (suc k) d (omega arith) (omega (arith, low))) (across zero x (omega arith)))
    (pairs_append R xs ys (λ i j d less low. one (suc i) (suc j) d (omega (arith, less)) (omega (arith, low))) other (λ k d low. across (suc k) d (omega (arith, low))))

pub pairs_flat : {X Y : Type 0} (R : Y → Y → Type 0) (Q : X → X → Type 0) (f : X → List Y) → ((x : X) → AllPairs R (f x)) → ((x y : X) → Q x y → All (λ a. All (R a) (f y)) (f x))
    → (xs : List X) → AllPairs Q xs → AllPairs R (flat_map f xs)
pairs_flat R Q f own across [] apart = λ i j d less low. absurd (omega (arith, low))
pairs_flat R Q f own across (x ∷ xs) apart =
    pairs_append R (f x) (flat_map f xs) (own x)
    (pairs_flat R Q f own across xs (λ i j d less low. apart (suc i) (suc j) d (omega (arith, less)) (omega (arith, low))))
    (λ k d low. all_flat (R (get_or (f x) k d)) f xs (λ m e few. across x (get_or xs m e) (apart zero (suc m) e (omega arith) (omega (arith, few))) k d low))

pub pairs_map : {X Y : Type 0} (R : Y → Y → Type 0) (f : X → Y) (xs : List X) → AllPairs (λ a b. R (f a) (f b)) xs → AllPairs R (map f xs)
pairs_map R f [] all = λ i j d less low. absurd (omega (arith, low))
pairs_map R f (x ∷ xs) all =
    AllPairs-cons R (f x) (map f xs) (All-map (R (f x)) f xs (λ k d low. all zero (suc k) d (omega arith) (omega (arith, low))))
    (pairs_map R f xs (λ i j d less low. all (suc i) (suc j) d (omega (arith, less)) (omega (arith, low))))

pub range_apart : (a n : ℕ) → AllPairs Differ (range_with_len a n)
range_apart a n i j d less low same =
    let long = length-range_with_len a n in
    let first = get_or-range_with_len a n i d (omega (arith, long, less, low)) in
    let second = get_or-range_with_len a n j d (omega (arith, long, low)) in
    absurd (omega (arith, first, second, same, less))

-- what passes a test
pub none_pass : {X : Type 0} (p : X → Bool) (xs : List X) → All (λ x. p x ≡ false) xs → filter p xs ≡ []
none_pass p [] all = refl
none_pass p (x ∷ xs) all =
    ap (λ (t : Bool). cond t (x ∷ filter p xs) (filter p xs)) (all zero x (omega arith)) ∙ none_pass p xs (λ k d low. all (suc k) d (omega (arith, low)))

pub all_pass : {X : Type 0} (p : X → Bool) (xs : List X) → All (λ x. p x ≡ true) xs → filter p xs ≡ xs
all_pass p [] all = refl
all_pass p (x ∷ xs) all =
    ap (λ (t : Bool). cond t (x ∷ filter p xs) (filter p xs)) (all zero x (omega arith)) ∙ ap (λ ys. x ∷ ys) (all_pass p xs (λ k d low. all (suc k) d (omega (arith, low))))

pub same_pass : {X : Type 0} (p q : X → Bool) (xs : List X) → All (λ x. p x ≡ q x) xs → filter p xs ≡ filter q xs
same_pass p q [] all = refl
same_pass p q (x ∷ xs) all = ap₂ (λ (t : Bool) ys. cond t (x ∷ ys) ys) (all zero x (omega arith)) (same_pass p q xs (λ k d low. all (suc k) d (omega (arith, low))))

pub list_passes : {X : Type 0} (p : X → Bool) (xs : List X) → All (λ x. p x ≡ true) xs → list_all p xs ≡ true
list_passes p [] all = refl
list_passes p (x ∷ xs) all = and_from (p x) (list_all p xs) (all zero x (omega arith)) (list_passes p xs (λ k d low. all (suc k) d (omega (arith, low))))

pub map_both : {X Y Z : Type 0} (g : Y → Z) (f : X → Y) (xs : List X) → map g (map f xs) ≡ map (λ x. g (f x)) xs
map_both g f [] = refl
map_both g f (x ∷ xs) = ap (λ zs. g (f x) ∷ zs) (map_both g f xs)

pub map_same : {X Y : Type 0} (f g : X → Y) (xs : List X) → All (λ x. f x ≡ g x) xs → map f xs ≡ map g xs
map_same f g [] all = refl
map_same f g (x ∷ xs) all = ap₂ (λ y ys. y ∷ ys) (all zero x (omega arith)) (map_same f g xs (λ k d low. all (suc k) d (omega (arith, low))))

pub flat_same : {X Y Z : Type 0} (f : Y → List Z) (h : X → Y) (g : X → List Z) (xs : List X) → All (λ x. f (h x) ≡ g x) xs → flat_map f (map h xs) ≡ flat_map g xs
flat_same f h g [] all = refl
flat_same f h g (x ∷ xs) all = ap₂ (λ ys zs. ys ++ zs) (all zero x (omega arith)) (flat_same f h g xs (λ k d low. all (suc k) d (omega (arith, low))))

pub one_passes : {X : Type 0} (p : X → Bool) (x : X) (xs : List X) → Contains xs x → p x ≡ true → AllPairs (λ a b. p a ≡ true → p b ≡ false) xs → length (filter p xs) ≡ 1
one_passes p x [] there is apart = let low = there.1 in absurd (omega (arith, low))
one_passes p x (y ∷ ys) (zero, low, same) is apart =
    ap (λ (t : Bool). length (cond t (y ∷ filter p ys) (filter p ys))) (ap p same ∙ is)
    ∙ ap (λ zs. suc (length zs)) (none_pass p ys (λ k d few. apart zero (suc k) d (omega arith) (omega (arith, few)) (ap p same ∙ is)))
one_passes p x (y ∷ ys) (suc k, low, same) is apart =
    ap (λ (t : Bool). length (cond t (y ∷ filter p ys) (filter p ys))) (fails (cases_Bool (p y)))
    ∙ one_passes p x ys (k, omega (arith, low), same) is (λ i j d less few. apart (suc i) (suc j) d (omega (arith, less)) (omega (arith, few)))
  where
    fails : (p y ≡ true) ⊎ (p y ≡ false) → p y ≡ false
    fails (inr not_passing) = not_passing
    fails (inl passing) = absurd (true≢false (sym is ∙ (ap p (sym same) ∙ apart zero (suc k) x (omega arith) low passing)))

-- of lists that are joined, just one passes, and it as a whole
pub filter_flat : {X Y : Type 0} (p : Y → Bool) (f : X → List Y) (x : X) (xs : List X) → Contains xs x → AllPairs (λ a b. a ≢ b) xs → All (λ z. p z ≡ true) (f x)
    → All (λ y. x ≢ y → All (λ z. p z ≡ false) (f y)) xs → filter p (flat_map f xs) ≡ f x
filter_flat p f x [] there apart own others = let low = there.1 in absurd (omega (arith, low))
filter_flat p f x (y ∷ ys) (zero, low, same) apart own others =
    filter-append p (f y) (flat_map f ys)
    ∙ (ap₂ (λ us ws. us ++ ws) (ap (λ w. filter p (f w)) same ∙ all_pass p (f x) own)
    (none_pass p (flat_map f ys) (all_flat (λ z. p z ≡ false) f ys (λ k d few. others (suc k) d (omega (arith, few)) (λ is. apart zero (suc k) d (omega arith) (omega (arith, few)) (same ∙ is)))))
    ∙ append-nil (f x))
filter_flat p f x (y ∷ ys) (suc k, low, same) apart own others =
    filter-append p (f y) (flat_map f ys)
    ∙ ap₂ (λ us ws. us ++ ws) (none_pass p (f y) (others zero y (omega arith) (λ is. apart zero (suc k) x (omega arith) low (sym is ∙ sym same))))
    (filter_flat p f x ys (k, omega (arith, low), same) (λ i j d less few. apart (suc i) (suc j) d (omega (arith, less)) (omega (arith, few))) own (λ m d few. others (suc m) d (omega (arith, few))))
