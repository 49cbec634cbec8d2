-- A log has one head at most.
use Rattle.std.proofs.Common.{◌≡◌, ℕ, zero, suc, ◌+◌, ◌-◌, ◌<◌, ◌≤◌, Bool, true, false, not, ◌&&◌, cond, List, [], ◌∷◌, length, take, drop, length-drop, inl, inr, refl, sym, ap, ◌∙◌, arith}
use Rattle.std.specs.Prelude.{nat_le, nat_lt}
use Rattle.std.specs.List.{list_all, prefix_len}
use Rattle.std.proofs.lemmas.Bool.{leb-true, ltb-true, eqb-true}
use Rattle.xfs_log.specs.Log.{is_unwritten_sector, is_of_cycle, first_cycle, front, ends_in_unmount, is_record, is_unmounted, has_cleared_cycles, is_cleared, HasHead, IsAlone}
use Rattle.xfs_log.specs.declared.sectors.SectorSeen.{SectorSeen}

pub left : (a b : Bool) → (a && b) ≡ true → a ≡ true
left true b h = refl
left false b h = cc

pub right : (a b : Bool) → (a && b) ≡ true → b ≡ true
right true b h = h
right false b h = cc

-- sectors of a cycle, so many, and behind them one of another cycle
prefix_stop : (p : SectorSeen → Bool) (h : ℕ) (xs : List SectorSeen) → h ≤ length xs → list_all p (take h xs) ≡ true
    → prefix_len p (drop h xs) ≡ 0 → prefix_len p xs ≡ h
prefix_stop p zero xs low all stop = stop
prefix_stop p (suc h) [] low all stop = absurd (omega arith)
prefix_stop p (suc h) (x ∷ xs) low all stop =
    let rest : prefix_len p xs ≡ h = prefix_stop p h xs (omega arith) (right (p x) _ all) stop in
    let one : 1 + prefix_len p xs ≡ suc h = omega (arith, rest) in
    ap (λ (b : Bool). cond b (1 + prefix_len p xs) 0) (left (p x) _ all) ∙ one

-- the facts of a log that a record of this cycle unmounts, and that goes on at this place
record Front (seen : List SectorSeen) (cycle head : ℕ) : Type 0 where
  later : 1 ≤ cycle
  some : 1 ≤ head
  inside : head ≤ length seen
  first : list_all (is_of_cycle cycle) (take head seen) ≡ true
  stop : prefix_len (is_of_cycle cycle) (drop head seen) ≡ 0

-- no sector here has the cycle
before_stop : (cycle : ℕ) (xs : List SectorSeen) → 1 ≤ cycle → list_all (is_of_cycle (cycle - 1)) xs ≡ true → prefix_len (is_of_cycle cycle) xs ≡ 0
before_stop cycle [] later all = refl
before_stop cycle (x ∷ xs) later all =
    let is : x.cycle ≡ cycle - 1 = eqb-true _ _ (left (is_of_cycle (cycle - 1) x) _ all) in
    let not_it : is_of_cycle cycle x ≡ false = grind (arith, is) in
    ap (λ (b : Bool). cond b (1 + prefix_len (is_of_cycle cycle) xs) 0) not_it

unwritten_stop : (cycle n : ℕ) (xs : List SectorSeen) → 1 ≤ cycle → 1 ≤ n → list_all is_unwritten_sector (take n xs) ≡ true
    → prefix_len (is_of_cycle cycle) xs ≡ 0
unwritten_stop cycle n [] later some all = refl
unwritten_stop cycle zero (x ∷ xs) later some all = absurd (omega arith)
unwritten_stop cycle (suc n) (x ∷ xs) later some all =
    let is : x.cycle ≡ 0 = eqb-true _ _ (left _ (not x.header) (left (is_unwritten_sector x) _ all)) in
    let not_it : is_of_cycle cycle x ≡ false = grind (arith, is) in
    ap (λ (b : Bool). cond b (1 + prefix_len (is_of_cycle cycle) xs) 0) not_it

first_of_front : (seen : List SectorSeen) (cycle head : ℕ) → 1 ≤ head → head ≤ length seen → list_all (is_of_cycle cycle) (take head seen) ≡ true
    → cycle ≡ first_cycle seen
first_of_front [] cycle head some inside all = absurd (omega arith)
first_of_front (x ∷ xs) cycle zero some inside all = absurd (omega arith)
first_of_front (x ∷ xs) cycle (suc head) some inside all = sym (eqb-true _ _ (left (is_of_cycle cycle x) _ all))

front_is : (seen : List SectorSeen) (cycle head : ℕ) → Front seen cycle head → head ≡ front seen
front_is seen cycle head f =
    let first = first_of_front seen cycle head f.some f.inside f.first in
    sym (prefix_stop (is_of_cycle cycle) head seen f.inside f.first f.stop) ∙ ap (λ (c : ℕ). prefix_len (is_of_cycle c) seen) first

written : (seen : List SectorSeen) (cycle head : ℕ) → Front seen cycle head → list_all is_unwritten_sector seen ≡ false
written [] cycle head f = absurd (omega (arith, f.some, f.inside))
written (x ∷ xs) cycle head f =
    let first : cycle ≡ x.cycle = first_of_front (x ∷ xs) cycle head f.some f.inside f.first in
    let not_it : is_unwritten_sector x ≡ false = grind (arith, first, f.later) in
    ap (λ (b : Bool). b && list_all is_unwritten_sector xs) not_it

six : (a b d e f g : Bool) → (a && b && d && e && f && g) ≡ true → (a ≡ true) × (b ≡ true) × (d ≡ true) × (e ≡ true) × (f ≡ true) × (g ≡ true)
six a b d e f g h =
    let h1 = left (a && b && d && e && f) g h in
    let h2 = left (a && b && d && e) f h1 in
    let h3 = left (a && b && d) e h2 in
    let h4 = left (a && b) d h3 in
    (left a b h4, right a b h4, right (a && b) d h3, right (a && b && d) e h2, right (a && b && d && e) f h1, right (a && b && d && e && f) g h)

unmounted : (seen : List SectorSeen) (cycle head : ℕ) → is_unmounted seen cycle head ≡ true
    → (nat_le 1 cycle ≡ true) × (nat_le 1 head ≡ true) × (nat_le head (length seen) ≡ true)
    × (list_all (is_of_cycle cycle) (take head seen) ≡ true) × (list_all (is_of_cycle (cycle - 1)) (drop head seen) ≡ true)
    × (ends_in_unmount seen head ≡ true)
unfolding is_unmounted
unmounted seen cycle head h =
    six (nat_le 1 cycle) (nat_le 1 head) (nat_le head (length seen)) (list_all (is_of_cycle cycle) (take head seen))
    (list_all (is_of_cycle (cycle - 1)) (drop head seen)) (ends_in_unmount seen head) h

of_unmounted : (seen : List SectorSeen) (cycle head : ℕ) → is_unmounted seen cycle head ≡ true → Front seen cycle head
of_unmounted seen cycle head h =
    let is = unmounted seen cycle head h in
    let later = leb-true 1 cycle is.0 in
    record {
      later = later;
      some = leb-true 1 head is.1;
      inside = leb-true head (length seen) is.2;
      first = is.3;
      stop = before_stop cycle (drop head seen) later is.4;
    }

pub third : (a b d : Bool) → a ≡ true → b ≡ true → (a && b && d) ≡ d
third a b d ha hb = rw (ha, hb) refl

-- the facts of a log that was cleared at this place
record Cleared (seen : List SectorSeen) (cycle head : ℕ) : Type 0 where
  long : 512 ≤ length seen
  later : 2 ≤ cycle
  some : 1 ≤ head
  small : head < 512
  first : list_all (is_of_cycle cycle) (take head seen) ≡ true
  unwritten : list_all is_unwritten_sector (take (512 - head) (drop head seen)) ≡ true

cleared : (seen : List SectorSeen) (cycle head : ℕ) → is_cleared seen cycle head ≡ true → Cleared seen cycle head
unfolding is_cleared has_cleared_cycles
cleared seen cycle head h =
    let first = list_all (is_of_cycle cycle) (take head seen) in
    let unwritten = list_all is_unwritten_sector (take (512 - head) (drop head seen)) in
    let others = list_all (is_of_cycle (cycle - 1)) (drop 512 seen) in
    let is =
    six (nat_le 512 (length seen)) (nat_le 2 cycle) (nat_le 1 head) (nat_lt head 512) (first && unwritten && others) (is_record seen head) h in
    record {
      long = leb-true 512 (length seen) is.0;
      later = leb-true 2 cycle is.1;
      some = leb-true 1 head is.2;
      small = ltb-true head 512 is.3;
      first = left first unwritten (left (first && unwritten) others is.4);
      unwritten = right first unwritten (left (first && unwritten) others is.4);
    }

of_cleared : (seen : List SectorSeen) (cycle head : ℕ) → is_cleared seen cycle head ≡ true → Front seen cycle head
of_cleared seen cycle head h =
    let is = cleared seen cycle head h in
    let later : 1 ≤ cycle = omega (arith, is.later) in
    let rest : 1 ≤ 512 - head = omega (arith, is.small) in
    record {
      later = later;
      some = is.some;
      inside = omega (arith, is.small, is.long);
      first = is.first;
      stop = unwritten_stop cycle (512 - head) (drop head seen) later rest is.unwritten;
    }

of_head : (seen : List SectorSeen) (cycle head : ℕ) → HasHead seen cycle head → Front seen cycle head
of_head seen cycle head h = elim h [ inl u ↦ of_unmounted seen cycle head u | inr d ↦ of_cleared seen cycle head d ]

-- sectors cannot have the cycle before a late one, and never be written
clash : (cycle n : ℕ) (xs : List SectorSeen) → 2 ≤ cycle → 1 ≤ n → 1 ≤ length xs → list_all (is_of_cycle (cycle - 1)) xs ≡ true
    → list_all is_unwritten_sector (take n xs) ≡ true → ⊥
clash cycle n [] later some long all unwritten = omega (arith, long)
clash cycle zero (x ∷ xs) later some long all unwritten = omega (arith, some)
clash cycle (suc n) (x ∷ xs) later some long all unwritten =
    let is : x.cycle ≡ cycle - 1 = eqb-true _ _ (left (is_of_cycle (cycle - 1) x) _ all) in
    let none : x.cycle ≡ 0 = eqb-true _ _ (left _ (not x.header) (left (is_unwritten_sector x) _ unwritten)) in
    omega (arith, is, none, later)

not_both : (seen : List SectorSeen) (cycle head other place : ℕ) → is_unmounted seen cycle head ≡ true → is_cleared seen other place ≡ true → ⊥
not_both seen cycle head other place u d =
    let f = of_unmounted seen cycle head u in
    let g = of_cleared seen other place d in
    let is = cleared seen other place d in
    let same_cycle : cycle ≡ other =
    first_of_front seen cycle head f.some f.inside f.first ∙ sym (first_of_front seen other place g.some g.inside g.first) in
    let same_place : head ≡ place = front_is seen cycle head f ∙ sym (front_is seen other place g) in
    let later : 2 ≤ cycle = omega (arith, is.later, same_cycle) in
    let rest : 1 ≤ 512 - head = omega (arith, is.small, same_place) in
    let long : 1 ≤ length (drop head seen) = omega (arith, is.small, is.long, same_place, length-drop {A = SectorSeen}) in
    clash cycle (512 - head) (drop head seen) later rest long (unmounted seen cycle head u).4
    (ap (λ (h : ℕ). list_all is_unwritten_sector (take (512 - h) (drop h seen))) same_place ∙ is.unwritten)

pub alone : (seen : List SectorSeen) → IsAlone seen
alone seen = record {
  written = λ cycle head h. written seen cycle head (of_head seen cycle head h);
  apart = λ cycle head other place u. refuted _ (not_both seen cycle head other place u);
  cycle = λ cycle head h. let f = of_head seen cycle head h in first_of_front seen cycle head f.some f.inside f.first;
  place = λ cycle head h. front_is seen cycle head (of_head seen cycle head h);
}
  where
    refuted : (b : Bool) → (b ≡ true → ⊥) → b ≡ false
    refuted true h = absurd (h refl)
    refuted false h = refl
