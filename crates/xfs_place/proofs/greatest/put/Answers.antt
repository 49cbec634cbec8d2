use Rattle.std.proofs.Common.{◌≡◌, ℕ, ◌+◌, ◌-◌, ◌*◌, ◌/◌, ◌^◌, ◌<◌, max, List, get_or, refl, ◌∙◌, ap, arith, get_or-set_same, get_or-set_other}
use Rattle.std.proofs.lemmas.Grind.{pow_more}
use Rattle.xfs_place.proofs.Branches.{climbs, mends_first, mends_last, mends_next}
use Rattle.xfs_place.proofs.greatest.put.Goals as goal

pub loop-level-init : goal.loop-level-init
loop-level-init c =
    let a = c.args in
    let p = a.leaves + a.k in
    let e : a.depth - 0 ≡ a.depth = omega arith in
    let whole : 2 ^ (a.depth - 0) ≡ 2 ^ a.depth = ap (λ (n : ℕ). 2 ^ n) e in
    record {
      mends = mends_first a.nodes.now a.leaves a.depth p a.number c.requires.stands (omega arith);
      low = omega (arith, whole, c.requires.stands.deep);
      high = omega (arith, whole, c.requires.stands.deep, pow_more 2 (a.depth - 0), c.requires.inside);
      set' = get_or-set_same a.nodes.now p a.number 0 (omega (arith, c.requires.stands.all, c.requires.inside));
      others = λ j low other. get_or-set_other a.nodes.now p (a.leaves + j) a.number 0 (λ e'. other (omega (arith, e')));
    }

pub loop-level-preserved : goal.loop-level-preserved
loop-level-preserved c =
    let a = c.args in
    let l = c.loop-level in
    let m = l.node / 2 in
    let up = climbs a.leaves a.depth l._level l.node c.requires.stands.deep c.loop-level-test.true l.invariant.low l.invariant.high in
    let value = max (get_or l.nodes (2 * m) 0) (get_or l.nodes (2 * m + 1) 0) in
    record {
      mends = mends_next l.nodes c.join.new.nodes a.leaves l.node m l.invariant.mends refl up.0 up.1 c.join.ensures;
      low = up.2;
      high = up.3;
      set' = ap (λ (ns : List ℕ). get_or ns (a.leaves + a.k) 0) c.join.ensures ∙ get_or-set_other l.nodes m (a.leaves + a.k) value 0 (λ e. absurd (omega (arith, e, up.1))) ∙ l.invariant.set';
      others = λ j low other.
          ap (λ (ns : List ℕ). get_or ns (a.leaves + j) 0) c.join.ensures ∙ get_or-set_other l.nodes m (a.leaves + j) value 0 (λ e. absurd (omega (arith, e, up.1))) ∙ l.invariant.others j low other;
    }

pub join-requires : goal.join-requires
join-requires c =
    let l = c.loop-level in
    let up = climbs c.args.leaves c.args.depth l._level l.node c.requires.stands.deep c.loop-level-test.true l.invariant.low l.invariant.high in
    omega (arith, up.1, l.invariant.mends.all)

pub returns-clause-stands : goal.returns-clause-stands
returns-clause-stands c =
    let l = c.loop-level in
    let e : c.args.depth - l._level ≡ 0 = omega (arith, c.loop-level-test.false) in
    let last : 2 ^ (c.args.depth - l._level + 1) ≡ 2 = ap (λ (n : ℕ). 2 ^ (n + 1)) e in
    mends_last l.nodes c.args.leaves c.args.depth l.node c.requires.stands.deep c.requires.stands.few (omega (arith, l.invariant.high, last)) l.invariant.mends
