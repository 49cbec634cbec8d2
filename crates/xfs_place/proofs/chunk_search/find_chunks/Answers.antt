use Rattle.std.proofs.Common.{◌≡◌, ◌+◌, ◌++◌, ◌≤◌, List, [], ℕ, length, take, sym, subst, ◌∙◌, ap, arith}
use borrow.Author.Count.{falls}
use Rattle.std.specs.List.{All, flat_map, range_with_len}
use Rattle.std.proofs.lemmas.List.{take_all}
use Rattle.xfs_geom.specs.Volumes.{volume_of}
use Rattle.xfs_geom.specs.declared.records.Run.{Run}
use Rattle.xfs_place.specs.Chunks.{asked_pool, rooms, rooms_of}
use Rattle.xfs_place.specs.Pool.{IsRunOf}
use Rattle.xfs_place.specs.Windows.{IsWindow}
use Rattle.xfs_place.proofs.Ranges.{flat_full, flat_more, take_again}
use Rattle.xfs_place.proofs.chunk_search.find_chunks.Goals as goal

-- the chunks of one group more
more : (n ag : ℕ) (f : ℕ → List ℕ) (ys zs : List ℕ) → ys ≡ take n (flat_map f (range_with_len 0 ag)) → zs ≡ take n (ys ++ f ag) → zs ≡ take n (flat_map f (range_with_len 0 (ag + 1)))
more n ag f ys zs so is =
    is ∙ ap (λ (xs : List ℕ). take n (xs ++ f ag)) so ∙ take_again n (flat_map f (range_with_len 0 ag)) (f ag) ∙ ap (take n) (sym (flat_more f ag))

pub loop-ag-preserved : goal.loop-ag-preserved
loop-ag-preserved c =
    let ask = c.args.ask.now in
    let v = volume_of ask.geometry in
    let stands = subst (λ (rs : List ℕ). IsWindow v c.as_slice-taken.result.now rs c.reach.new.self) c.as_slice-reserved.ensures c.in_ok-reach.ensures.stands in
    record {
      stands = subst (λ (rs : List Run). IsWindow v rs ask.reserved c.reach.new.self) c.as_slice-taken.ensures stands;
      found = more ask.count c.loop-ag.ag (rooms_of v (asked_pool ask) ask.size ask.from) c.loop-ag.starts.items c.push_rooms.new.starts.items
          c.loop-ag.invariant.found c.in_ok-push_rooms.ensures;
    }

pub reach-requires-clause-stands : goal.reach-requires-clause-stands
reach-requires-clause-stands c =
    let ask = c.args.ask.now in
    let v = volume_of ask.geometry in
    subst (λ (rs : List ℕ). IsWindow v c.as_slice-taken.result.now rs c.loop-ag.window) (sym c.as_slice-reserved.ensures)
    (subst (λ (rs : List Run). IsWindow v rs ask.reserved c.loop-ag.window) (sym c.as_slice-taken.ensures) c.loop-ag.invariant.stands)

pub push_rooms-requires-clause-uses : goal.push_rooms-requires-clause-uses
push_rooms-requires-clause-uses c =
    let ask = c.args.ask.now in
    let v = volume_of ask.geometry in
    let stands = subst (λ (rs : List ℕ). IsWindow v c.as_slice-taken.result.now rs c.reach.new.self) c.as_slice-reserved.ensures c.in_ok-reach.ensures.stands in
    c.group.ensures ask.taken ask.reserved (subst (λ (rs : List Run). IsWindow v rs ask.reserved c.reach.new.self) c.as_slice-taken.ensures stands)

pub returns-then-len-ask : goal.returns-then-len-ask
unfolding rooms
returns-then-len-ask c =
    let ask = c.args.ask.now in
    let f = rooms_of (volume_of ask.geometry) (asked_pool ask) ask.size ask.from in
    let full : ask.count ≤ length c.loop-ag.starts.items = omega (arith, c.len.ensures, c.loop-ag.starts.ok.0, c.if-len-ask.true) in
    flat_full ask.count f c.loop-ag.ag ask.geometry.agcount c.loop-ag.starts.items (omega (arith, c.loop-ag-test.true)) c.loop-ag.invariant.found full

pub returns : goal.returns
unfolding rooms
returns c =
    let ask = c.args.ask.now in
    let all : c.loop-ag.ag ≡ ask.geometry.agcount = omega arith in
    c.loop-ag.invariant.found ∙ ap (λ (n : ℕ). take ask.count (flat_map (rooms_of (volume_of ask.geometry) (asked_pool ask) ask.size ask.from) (range_with_len 0 n))) all

pub loop-ag-init : goal.loop-ag-init
loop-ag-init c =
    let ask = c.args.ask.now in
    record { stands = c.new-window.ensures (volume_of ask.geometry) ask.taken ask.reserved; found = c.new-starts.ensures.items ∙ sym (take_all ask.count [] (omega arith)) }

pub reach-requires-clause-group : goal.reach-requires-clause-group
reach-requires-clause-group c = c.loop-ag-test.true

pub reach-requires-clause-runs : goal.reach-requires-clause-runs
reach-requires-clause-runs c = subst (All (IsRunOf c.args.ask.now.geometry.dblocks)) (sym c.as_slice-taken.ensures) c.requires.taken

pub group-requires-clause-group : goal.group-requires-clause-group
group-requires-clause-group c = c.loop-ag-test.true

pub group-requires-clause-there : goal.group-requires-clause-there
group-requires-clause-there c = c.in_ok-reach.ensures.there

pub push_rooms-requires-clause-size : goal.push_rooms-requires-clause-size
push_rooms-requires-clause-size c = c.requires.size

pub push_rooms-requires-clause-group : goal.push_rooms-requires-clause-group
push_rooms-requires-clause-group c = c.loop-ag-test.true

pub push_rooms-requires-clause-few : goal.push_rooms-requires-clause-few
push_rooms-requires-clause-few c = omega (arith, c.len.ensures, c.loop-ag.starts.ok.0, c.if-len-ask.false)

pub loop-ag-smaller : goal.loop-ag-smaller
loop-ag-smaller c = falls c.args.ask.now.geometry.agcount c.loop-ag.ag c.loop-ag-test.true
