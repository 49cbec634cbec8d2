use Rattle.std.proofs.Common.{◌≡◌, ℕ, Bool, true, false, ◌&&◌, Option, Some, None, refl, sym, ap, ◌∙◌}
use Rattle.std.specs.Prelude.{IfNone}
use Rattle.std.specs.Option.{is_some, is_none}
use Rattle.xfs_word.specs.Seal.{is_sealed}
use Rattle.xfs_geom.specs.Features.{refused_feature}
use Rattle.xfs_geom.specs.Fixed.{fixed_fault}
use Rattle.xfs_geom.specs.Stated.{stated, parts_fault}
use Rattle.xfs_geom.specs.Superblocks.{is_agreeing, states_volume, super_seal}
use Rattle.xfs_geom.specs.Volumes.{volume_of}
use Rattle.xfs_geom.proofs.backups.agrees.Goals as goal

clash : false ≡ true → ⊥
clash h = cc

last_of_three : (a b c r : Bool) → a ≡ true → b ≡ true → r ≡ c → r ≡ (a && b && c)
last_of_three true true c r p q e = e
last_of_three true false c r p q e = cc
last_of_three false b c r p q e = cc

none_of : (held : Option ℕ) (r : Bool) → r ≡ is_some held → r ≡ false → is_none held ≡ true
none_of None r e h = refl
none_of (Some word) r e h = cc

first_fails : (a b c : Bool) → a ≡ false → false ≡ (a && b && c)
first_fails false b c p = refl
first_fails true b c p = cc

second_fails : (a b c : Bool) → b ≡ false → false ≡ (a && b && c)
second_fails false b c p = refl
second_fails true false c p = refl
second_fails true true c p = cc

some_of : (held : Option ℕ) (r : Bool) → r ≡ is_some held → r ≡ true → is_none held ≡ false
some_of None r e h = cc
some_of (Some word) r e h = refl

pub returns-then-not-is_sound : goal.returns-then-not-is_sound
unfolding is_agreeing
returns-then-not-is_sound c =
    let sector = c.args.sector.now in
    first_fails (is_sealed super_seal sector && is_none (refused_feature sector) && is_none (fixed_fault sector)) (is_none (parts_fault (stated sector)))
    (states_volume (volume_of c.args.g.now) sector) (sym c.is_sound.ensures ∙ c.if-not-is_sound.true)

pub returns-then-is_some : goal.returns-then-is_some
unfolding is_agreeing
returns-then-is_some c =
    let sector = c.args.sector.now in
    let fault : c.parts_fault.result ≡ parts_fault (stated sector) = c.parts_fault.ensures.first ∙ ap parts_fault c.read-stated.ensures in
    second_fails (is_sealed super_seal sector && is_none (refused_feature sector) && is_none (fixed_fault sector)) (is_none (parts_fault (stated sector)))
    (states_volume (volume_of c.args.g.now) sector)
    (sym (ap (λ (held : Option ℕ). is_none held) fault) ∙ some_of c.parts_fault.result c.is_some.result c.is_some.ensures c.if-is_some.true)

pub returns : goal.returns
unfolding is_agreeing
returns c =
    let sector = c.args.sector.now in
    let fault : c.parts_fault.result ≡ parts_fault (stated sector) = c.parts_fault.ensures.first ∙ ap parts_fault c.read-stated.ensures in
    last_of_three (is_sealed super_seal sector && is_none (refused_feature sector) && is_none (fixed_fault sector)) (is_none (parts_fault (stated sector)))
    (states_volume (volume_of c.args.g.now) sector) c.states_volume.result
    (sym c.is_sound.ensures ∙ c.if-not-is_sound.false)
    (sym (ap (λ (held : Option ℕ). is_none held) fault) ∙ none_of c.parts_fault.result c.is_some.result c.is_some.ensures c.if-is_some.false)
    c.states_volume.ensures

pub is_sound-requires : goal.is_sound-requires
is_sound-requires c = c.requires

pub read-stated-requires : goal.read-stated-requires
read-stated-requires c = c.requires

pub states_volume-requires-clause-sector : goal.states_volume-requires-clause-sector
states_volume-requires-clause-sector c = c.requires

pub states_volume-requires-clause-stated : goal.states_volume-requires-clause-stated
states_volume-requires-clause-stated c = c.read-stated.ensures

-- what is kept where there is no fault
kept_of : (Kept : Type 0) (held : Option ℕ) (r : Bool) → r ≡ is_some held → r ≡ false → IfNone held Kept → Kept
kept_of Kept None r e h kept = kept
kept_of Kept (Some word) r e h kept = absurd (clash (sym h ∙ e))

pub states_volume-requires-clause-parts : goal.states_volume-requires-clause-parts
states_volume-requires-clause-parts c = kept_of _ c.parts_fault.result c.is_some.result c.is_some.ensures c.if-is_some.false c.parts_fault.ensures.kept
