use Rattle.std.proofs.Common.{◌≡◌, ◌==◌, ◌++◌, ℕ, List, [], if◌then◌else◌, refl, sym, ap, subst, ◌∙◌}
use Rattle.std.specs.Result.{OnOk}
use Rattle.xfs_geom.specs.Volumes.{volume_of}
use Rattle.std.specs.List.{flat_map}
use Rattle.xfs_volume.specs.Names.{type_of}
use Rattle.xfs_image.specs.Lsns.{LsnPlace, data_places, dir_byte, extent_places}
use Rattle.xfs_journal.specs.Placed.{fork_places, listed}
use Rattle.xfs_journal.specs.declared.extents.Owner.TheVariants as owners
use Rattle.xfs_journal.proofs.files.push_data.Goals as goal

-- the places that the type of a file picks
dirs : (t : ℕ) (a b : List LsnPlace) → t ≡ 4 → (if t == 4 then a else if t == 10 then b else []) ≡ a
dirs t a b is = rw is refl

links : (t : ℕ) (a b : List LsnPlace) → t ≡ 10 → (if t == 4 then a else if t == 10 then b else []) ≡ b
links t a b is = rw is refl

pub push_fork-requires : goal.push_fork-requires
push_fork-requires c = record { inside = c.requires.inside }

pub push_fork-requires-in-10 : goal.push_fork-requires-in-10
push_fork-requires-in-10 c = record { inside = c.requires.inside }

pub returns-in-4-clause-inside : goal.returns-in-4-clause-inside
returns-in-4-clause-inside c = c.push_fork.ensures.inside

pub returns-in-10-clause-inside : goal.returns-in-10-clause-inside
returns-in-10-clause-inside c = c.push_fork-in-10.ensures.inside

pub returns-in_default-clause-inside : goal.returns-in_default-clause-inside
returns-in_default-clause-inside c = c.requires.inside

pub returns-in-4-clause-listed : goal.returns-in-4-clause-listed
returns-in-4-clause-listed c =
    let v = volume_of c.args.g.now in
    let f = c.args.file.now in
    let same : fork_places v owners.Directory c.as_slice.result.now ≡ data_places v f = ap (fork_places v owners.Directory) c.as_slice.ensures
    ∙ sym (dirs (type_of f) (flat_map (extent_places v dir_byte) f.extents) (flat_map (extent_places v (λ offset. 48)) f.extents) c.in-4.is) in
    subst (λ (part : List LsnPlace). OnOk c.push_fork.result (listed c.push_fork.new.places.items ≡ listed c.args.places.now.items ++ part)) same c.push_fork.ensures.listed

pub returns-in-10-clause-listed : goal.returns-in-10-clause-listed
returns-in-10-clause-listed c =
    let v = volume_of c.args.g.now in
    let f = c.args.file.now in
    let same : fork_places v owners.Link c.as_slice-in-10.result.now ≡ data_places v f = ap (fork_places v owners.Link) c.as_slice-in-10.ensures
    ∙ sym (links (type_of f) (flat_map (extent_places v dir_byte) f.extents) (flat_map (extent_places v (λ offset. 48)) f.extents) c.in-10.is) in
    subst (λ (part : List LsnPlace). OnOk c.push_fork-in-10.result (listed c.push_fork-in-10.new.places.items ≡ listed c.args.places.now.items ++ part)) same c.push_fork-in-10.ensures.listed
