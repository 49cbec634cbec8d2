-- The short form's entries are its attributes, spelled out.
use Rattle.std.proofs.Common.{◌≡◌, ℕ, zero, suc, ◌+◌, ◌-◌, ◌≤◌, Result, length-drop, Bool, true, false, cond, ◌&&◌, List, [], ◌∷◌, ◌++◌, length, take, drop, Option, Some, None, Ok, Err, refl, sym, ap, ap₂, subst, ◌∙◌, append_assoc, eqb, arith, length-append}
use Rattle.std.specs.Prelude.{nat_le, option_map}
use Rattle.std.specs.Option.{ok_or}
use Rattle.std.specs.List.{All, flat_map}
use Rattle.std.proofs.lemmas.Bool.{ne_eqb, leb-true, le-leb, and_parts, and_from}
use Rattle.std.proofs.lemmas.List.{take-append-drop, drop-drop, length-take-le}
use Rattle.std.proofs.lemmas.List.Elements.{All-nil, All-cons}
use Rattle.std.proofs.Math.Seq.{take-append_seam, drop-append_seam}
use Rattle.xfs_word.specs.Field.{field_of, part_of}
use Rattle.xfs_attr.specs.declared.attributes.Attr.{Attr}
use Rattle.xfs_attr.specs.declared.attributes.AttrFault.{AttrFault}
use Rattle.xfs_attr.specs.declared.attributes.AttrFault.TheVariants.{Unsound}
use Rattle.xfs_attr.specs.ShortForm.{size_of_entry, begin_with_entry, attribute_of_entry, attributes_of, short_attributes, short_form_entry, BeginsWith}
use Rattle.xfs_attr.proofs.Walked.{if_true, if_false}

-- the first bytes, as fields
first : (a : ℕ) (rest : List ℕ) → field_of (a ∷ rest) 0 1 ≡ a
unfolding field_of
first a rest = omega arith

second : (a b : ℕ) (rest : List ℕ) → field_of (a ∷ b ∷ rest) 1 1 ≡ b
unfolding field_of
second a b rest = omega arith

third : (a b f : ℕ) (rest : List ℕ) → field_of (a ∷ b ∷ f ∷ rest) 2 1 ≡ f
unfolding field_of
third a b f rest = omega arith

name_part : (a b f n : ℕ) (rest : List ℕ) → part_of (a ∷ b ∷ f ∷ rest) 3 n ≡ take n rest
unfolding part_of
name_part a b f n rest = refl

value_part : (a b f m n : ℕ) (rest : List ℕ) → part_of (a ∷ b ∷ f ∷ rest) (3 + m) n ≡ take n (drop m rest)
unfolding part_of
value_part a b f m n rest = ap (take n) (sym (drop-drop m 3 (a ∷ b ∷ f ∷ rest)))

-- two parts and what is behind them
cut : (a b : ℕ) (rest : List ℕ) → a + b ≤ length rest → take a rest ++ take b (drop a rest) ++ drop (a + b) rest ≡ rest
cut a b rest h =
    append_assoc (take a rest) (take b (drop a rest)) (drop (a + b) rest)
    ∙ (ap (λ (xs : List ℕ). take a rest ++ (take b (drop a rest) ++ xs)) (sym (drop-drop b a rest))
    ∙ (ap (λ (xs : List ℕ). take a rest ++ xs) (take-append-drop b (drop a rest)) ∙ take-append-drop a rest))

attribute_is : (a b f : ℕ) (rest : List ℕ)
    → attribute_of_entry (a ∷ b ∷ f ∷ rest) ≡ (let attr : Attr = record { flags = f; name = take a rest; value = take b (drop a rest) } in attr)
attribute_is a b f rest =
    let bytes = a ∷ b ∷ f ∷ rest in
    let name : part_of bytes 3 (field_of bytes 0 1) ≡ take a rest = ap (part_of bytes 3) (first a (b ∷ f ∷ rest)) ∙ name_part a b f a rest in
    let value : part_of bytes (3 + field_of bytes 0 1) (field_of bytes 1 1) ≡ take b (drop a rest) =
    ap₂ (λ (m n : ℕ). part_of bytes (3 + m) n) (first a (b ∷ f ∷ rest)) (second a b (f ∷ rest)) ∙ value_part a b f a b rest in
    λ i. record { flags = third a b f rest i; name = name i; value = value i }

size_is : (a b f : ℕ) (rest : List ℕ) → size_of_entry (a ∷ b ∷ f ∷ rest) ≡ 3 + (a + b)
size_is a b f rest = ap₂ (λ (m n : ℕ). 3 + m + n) (first a (b ∷ f ∷ rest)) (second a b (f ∷ rest)) ∙ omega arith

-- what an entry's first three bytes bound
record Bounds (a b : ℕ) (rest : List ℕ) : Type 0 where
  some : 1 ≤ a
  inside : a + b ≤ length rest

bounds : (a b f : ℕ) (rest : List ℕ) → begin_with_entry (a ∷ b ∷ f ∷ rest) ≡ true → Bounds a b rest
bounds a b f rest h =
    let bytes = a ∷ b ∷ f ∷ rest in
    let parts = and_parts (nat_le 3 (length bytes) && nat_le 1 (field_of bytes 0 1)) (nat_le (size_of_entry bytes) (length bytes)) h in
    let front = and_parts (nat_le 3 (length bytes)) (nat_le 1 (field_of bytes 0 1)) parts.0 in
    let some = leb-true 1 (field_of bytes 0 1) front.1 in
    let within = leb-true (size_of_entry bytes) (length bytes) parts.1 in
    record { some = omega (arith, some, first a (b ∷ f ∷ rest)); inside = omega (arith, within, size_is a b f rest) }

name_long : (a b : ℕ) (rest : List ℕ) → Bounds a b rest → length (take a rest) ≡ a
name_long a b rest h = length-take-le a rest (omega (arith, h.inside))

value_long : (a b : ℕ) (rest : List ℕ) → Bounds a b rest → length (take b (drop a rest)) ≡ b
value_long a b rest h = length-take-le b (drop a rest) (omega (arith, h.inside, length-drop a rest))

-- bytes that begin with an entry are its attribute, spelled out, and the rest
split : (bytes : List ℕ) → begin_with_entry bytes ≡ true → bytes ≡ short_form_entry (attribute_of_entry bytes) ++ drop (size_of_entry bytes) bytes
split [] h = cc
split (a ∷ []) h = cc
split (a ∷ b ∷ []) h = cc
split (a ∷ b ∷ f ∷ rest) h =
    let bytes = a ∷ b ∷ f ∷ rest in
    let bound = bounds a b f rest h in
    let tail : (take a rest ++ take b (drop a rest)) ++ drop (3 + (a + b)) bytes ≡ rest =
    ap (λ (xs : List ℕ). (take a rest ++ take b (drop a rest)) ++ xs) (sym (drop-drop (a + b) 3 bytes)) ∙ cut a b rest bound.inside in
    sym
    (ap₂ (λ (e : Attr) (n : ℕ). short_form_entry e ++ drop n bytes) (attribute_is a b f rest) (size_is a b f rest)
    ∙ (λ i. name_long a b rest bound i ∷ value_long a b rest bound i ∷ f ∷ tail i))

has_name : (bytes : List ℕ) → begin_with_entry bytes ≡ true → 1 ≤ length (attribute_of_entry bytes).name
has_name [] h = cc
has_name (a ∷ []) h = cc
has_name (a ∷ b ∷ []) h = cc
has_name (a ∷ b ∷ f ∷ rest) h =
    let bound = bounds a b f rest h in
    let same : length (attribute_of_entry (a ∷ b ∷ f ∷ rest)).name ≡ a =
    ap (λ (e : Attr). length e.name) (attribute_is a b f rest) ∙ name_long a b rest bound in
    omega (arith, same, bound.some)

-- so many bytes are the entries of these attributes
record Spelled (n : ℕ) (bytes : List ℕ) (attrs : List Attr) : Type 0 where
  all : bytes ≡ flat_map short_form_entry attrs
  count : n ≡ length attrs
  named : All (λ (a : Attr). 1 ≤ length a.name) attrs

spelled_more : (n : ℕ) (bytes : List ℕ) (attrs : List Attr) (t : Bool) (o : Option (List Attr)) → begin_with_entry bytes ≡ t
    → ((xs : List Attr) → o ≡ Some xs → Spelled n (drop (size_of_entry bytes) bytes) xs)
    → cond t (option_map (λ (xs : List Attr). attribute_of_entry bytes ∷ xs) o) None ≡ Some attrs → Spelled (suc n) bytes attrs
spelled_more n bytes attrs false o begins rest h = cc
spelled_more n bytes attrs true None begins rest h = cc
spelled_more n bytes attrs true (Some xs) begins rest h =
    let a = attribute_of_entry bytes in
    let same : a ∷ xs ≡ attrs = cc in
    let behind = rest xs refl in
    subst (λ (ys : List Attr). Spelled (suc n) bytes ys) same
    (record {
      all = split bytes begins ∙ ap (λ (ys : List ℕ). short_form_entry a ++ ys) behind.all;
      count = ap suc behind.count;
      named = All-cons (λ (e : Attr). 1 ≤ length e.name) a xs (has_name bytes begins) behind.named;
    })

none_left : (attrs : List Attr) → ◌≡◌ {A = Option (List Attr)} (Some []) (Some attrs) → Spelled 0 [] attrs
none_left [] h = record { all = refl; count = refl; named = All-nil (λ (e : Attr). 1 ≤ length e.name) }
none_left (a ∷ attrs) h = cc

spelled : (n : ℕ) (bytes : List ℕ) (attrs : List Attr) → attributes_of n bytes ≡ Some attrs → Spelled n bytes attrs
unfolding attributes_of
spelled zero [] attrs h = none_left attrs h
spelled zero (b ∷ bytes) attrs h =
    let none : attributes_of zero (b ∷ bytes) ≡ None =
    if_false (eqb (length (b ∷ bytes)) 0) _ _ (ne_eqb (length (b ∷ bytes)) 0 (λ e. absurd (omega arith))) in
    cc
spelled (suc n) bytes attrs h =
    spelled_more n bytes attrs (begin_with_entry bytes) (attributes_of n (drop (size_of_entry bytes) bytes)) refl
    (spelled n (drop (size_of_entry bytes) bytes)) h

-- an attribute that is spelled out is read back
attribute_back : (x : Attr) (tail : List ℕ) → attribute_of_entry (short_form_entry x ++ tail) ≡ x
attribute_back x tail =
    let rest = (x.name ++ x.value) ++ tail in
    let apart : rest ≡ x.name ++ (x.value ++ tail) = append_assoc x.name x.value tail in
    let name : take (length x.name) rest ≡ x.name = ap (take (length x.name)) apart ∙ take-append_seam x.name (x.value ++ tail) in
    let behind : drop (length x.name) rest ≡ x.value ++ tail = ap (drop (length x.name)) apart ∙ drop-append_seam x.name (x.value ++ tail) in
    let value : take (length x.value) (drop (length x.name) rest) ≡ x.value = ap (take (length x.value)) behind ∙ take-append_seam x.value tail in
    attribute_is (length x.name) (length x.value) x.flags rest ∙ (λ i. record { flags = x.flags; name = name i; value = value i })

tail_back : (x : Attr) (tail : List ℕ) → drop (size_of_entry (short_form_entry x ++ tail)) (short_form_entry x ++ tail) ≡ tail
tail_back x tail =
    let rest = (x.name ++ x.value) ++ tail in
    let bytes = short_form_entry x ++ tail in
    let long : length (x.name ++ x.value) ≡ length x.name + length x.value = length-append x.name x.value in
    ap (λ (n : ℕ). drop n bytes) (size_is (length x.name) (length x.value) x.flags rest)
    ∙ (sym (drop-drop (length x.name + length x.value) 3 bytes)
    ∙ (ap (λ (n : ℕ). drop n rest) (sym long) ∙ drop-append_seam (x.name ++ x.value) tail))

begins_back : (x : Attr) (tail : List ℕ) → 1 ≤ length x.name → begin_with_entry (short_form_entry x ++ tail) ≡ true
begins_back x tail some =
    let rest = (x.name ++ x.value) ++ tail in
    let bytes = short_form_entry x ++ tail in
    let long : length rest ≡ length x.name + length x.value + length tail = length-append (x.name ++ x.value) tail ∙ ap (λ (n : ℕ). n + length tail) (length-append x.name x.value) in
    let name = first (length x.name) (length x.value ∷ x.flags ∷ rest) in
    let size = size_is (length x.name) (length x.value) x.flags rest in
    and_from _ _ (and_from _ _ (le-leb 3 (length bytes) (omega arith)) (le-leb 1 (field_of bytes 0 1) (omega (arith, name, some)))) (le-leb (size_of_entry bytes) (length bytes) (omega (arith, size, long)))

spelled_back : (attrs : List Attr) → All (λ (a : Attr). 1 ≤ length a.name) attrs → attributes_of (length attrs) (flat_map short_form_entry attrs) ≡ Some attrs
unfolding attributes_of
spelled_back [] named = refl
spelled_back (x ∷ attrs) named =
    let tail = flat_map short_form_entry attrs in
    let rest = spelled_back attrs (λ k d h. named (suc k) d (omega (arith, h))) in
    if_true (begin_with_entry (short_form_entry x ++ tail)) _ _ (begins_back x tail (named 0 x (omega arith)))
    ∙ (ap₂ (λ (a : Attr) (bytes : List ℕ). option_map (λ (xs : List Attr). a ∷ xs) (attributes_of (length attrs) bytes)) (attribute_back x tail) (tail_back x tail)
    ∙ ap (option_map (λ (xs : List Attr). x ∷ xs)) rest)

part_long : (bytes : List ℕ) (at n : ℕ) → at + n ≤ length bytes → length (part_of bytes at n) ≡ n
unfolding part_of
part_long bytes at n h = length-take-le n (drop at bytes) (omega (arith, h, length-drop at bytes))

begins_from : (fork : List ℕ) (attrs : List Attr) → 4 ≤ field_of fork 0 2 → field_of fork 0 2 ≤ length fork
    → Spelled (field_of fork 2 1) (part_of fork 4 (field_of fork 0 2 - 4)) attrs → BeginsWith fork attrs
begins_from fork attrs least most told =
    let size = field_of fork 0 2 in
    let long : length (part_of fork 4 (size - 4)) ≡ size - 4 = part_long fork 4 (size - 4) (omega arith) in
    let same : length (flat_map short_form_entry attrs) ≡ size - 4 = ap length (sym told.all) ∙ long in
    record {
      inside = omega (arith, same);
      size = omega (arith, same);
      count = told.count;
      entries = ap (part_of fork 4) same ∙ told.all;
      named = told.named;
    }

began : (fork : List ℕ) (attrs : List Attr) (t : Bool) (o : Option (List Attr)) → (nat_le 4 (field_of fork 0 2) && nat_le (field_of fork 0 2) (length fork)) ≡ t
    → (o ≡ Some attrs → Spelled (field_of fork 2 1) (part_of fork 4 (field_of fork 0 2 - 4)) attrs)
    → ◌≡◌ {A = Result (List Attr) AttrFault} (cond t (ok_or o Unsound) (Err Unsound)) (Ok attrs) → BeginsWith fork attrs
began fork attrs false o within told h = cc
began fork attrs true None within told h = cc
began fork attrs true (Some xs) within told h =
    let parts = and_parts (nat_le 4 (field_of fork 0 2)) (nat_le (field_of fork 0 2) (length fork)) within in
    begins_from fork attrs (leb-true 4 (field_of fork 0 2) parts.0) (leb-true (field_of fork 0 2) (length fork) parts.1) (told cc)

-- what is read of a fork is what it begins with
pub begins_with : (fork : List ℕ) (attrs : List Attr) → short_attributes fork ≡ Ok attrs → BeginsWith fork attrs
unfolding short_attributes
begins_with fork attrs h =
    began fork attrs _ (attributes_of (field_of fork 2 1) (part_of fork 4 (field_of fork 0 2 - 4))) refl
    (spelled (field_of fork 2 1) (part_of fork 4 (field_of fork 0 2 - 4)) attrs) h

-- what a fork begins with is read of it
pub reads_back : (fork : List ℕ) (attrs : List Attr) → BeginsWith fork attrs → short_attributes fork ≡ Ok attrs
unfolding short_attributes
reads_back fork attrs begins =
    let size = field_of fork 0 2 in
    let least : nat_le 4 size ≡ true = le-leb 4 size (omega (arith, begins.size)) in
    let most : nat_le size (length fork) ≡ true = le-leb size (length fork) (omega (arith, begins.size, begins.inside)) in
    let rest : size - 4 ≡ length (flat_map short_form_entry attrs) = omega (arith, begins.size) in
    if_true _ _ _ (and_from _ _ least most)
    ∙ ap (λ (o : Option (List Attr)). ok_or o Unsound)
    (ap₂ attributes_of begins.count (ap (part_of fork 4) rest ∙ begins.entries) ∙ spelled_back attrs begins.named)
