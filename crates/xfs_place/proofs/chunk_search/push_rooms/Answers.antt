use Rattle.std.proofs.Common.{Vec, Global, ◌≡◌, ◌+◌, ◌*◌, ◌/◌, ◌++◌, ◌≤◌, ◌<◌, List, ℕ, length, take, sym, ◌∙◌, ap, subst, arith}
use Rattle.xfs_geom.specs.Volumes.{volume_of}
use Rattle.xfs_geom.specs.Conversions.{group_length}
use Rattle.xfs_place.specs.Chunks.{asked_pool, rooms_below}
use Rattle.xfs_place.proofs.Rooms.{number_inside, rooms_full, rooms_put, rooms_same, rooms_start}
use Rattle.std.proofs.lemmas.Result.{IfOk-from_err}
use Rattle.xfs_place.proofs.chunk_search.push_rooms.Goals as goal
use Rattle.xfs_place.proofs.chunk_search.push_rooms.Goals.{then-is_room+in_ok-push, else-is_room}

pub loop-i-init : goal.loop-i-init
loop-i-init c =
    let ask = c.args.ask.now in
    rooms_start (volume_of ask.geometry) (asked_pool ask) ask.size ask.from c.args.ag ask.count c.args.starts.now.items c.requires.few

pub returns-then-len-ask : goal.returns-then-len-ask
returns-then-len-ask c =
    let ask = c.args.ask.now in
    let v = volume_of ask.geometry in
    let below : c.loop-i.i ≤ c.group_length.result / ask.size = omega (arith, c.loop-i-test.true) in
    rooms_full v (asked_pool ask) ask.size ask.from c.args.ag ask.count c.loop-i.i (group_length v c.args.ag / ask.size) c.args.starts.now.items c.loop-i.starts.items
    (subst (λ (n : ℕ). c.loop-i.i ≤ n / ask.size) c.group_length.ensures.value below) c.loop-i.invariant
    (omega (arith, c.len.ensures, c.loop-i.starts.ok.0, c.if-len-ask.true))

pub is_room-requires-clause-inside : goal.is_room-requires-clause-inside
is_room-requires-clause-inside c =
    let ask = c.args.ask.now in
    let size = ask.size in
    number_inside c.loop-i.i size (group_length (volume_of ask.geometry) c.args.ag) c.requires.size
    (subst (λ (n : ℕ). c.loop-i.i < n / size) c.group_length.ensures.value c.loop-i-test.true)

pub loop-i-preserved : goal.loop-i-preserved
loop-i-preserved c =
    let ask = c.args.ask.now in
    let v = volume_of ask.geometry in
    let i = c.loop-i.i in
    let old = c.args.starts.now.items in
    let ys = c.loop-i.starts.items in
    let start = c.start_of_group-base.result + i * ask.size in
    elim c.if-is_room.branch [
      | then-is_room+in_ok-push w ↦
          let room : length ys < ask.count = omega (arith, c.len.ensures, c.loop-i.starts.ok.0, c.if-len-ask.false) in
          let at : start ≡ c.args.ag * v.agblocks + i * ask.size = ap (λ (n : ℕ). n + i * ask.size) c.start_of_group-base.ensures.value in
          ap (λ (u : Vec ℕ Global). u.items) w.starts-is
          ∙ rooms_put v (asked_pool ask) ask.size ask.from c.args.ag ask.count i start old ys w.push.new.self.items c.loop-i.invariant room
          (sym c.is_room.ensures ∙ w.if-is_room.true) at w.in_ok-push.ensures.items
      | else-is_room w ↦
          let same = rooms_same v (asked_pool ask) ask.size ask.from c.args.ag i (sym c.is_room.ensures ∙ w.if-is_room.false) in
          ap (λ (u : Vec ℕ Global). u.items) w.starts-is ∙ c.loop-i.invariant ∙ ap (λ (xs : List ℕ). take ask.count (old ++ xs)) (sym same)
    ]

pub overflow_mul-i : goal.overflow_mul-i
overflow_mul-i c =
    let inside = number_inside c.loop-i.i c.args.ask.now.size c.group_length.result c.requires.size c.loop-i-test.true in
    let most = c.group_length.type_inv in
    omega (arith, inside, most)

pub returns : goal.returns
returns c =
    let ask = c.args.ask.now in
    let v = volume_of ask.geometry in
    let all : c.loop-i.i ≡ c.group_length.result / ask.size = omega (arith, c.loop-i-test.false, c.loop-i.auto.i-end) in
    c.loop-i.invariant
    ∙ ap (λ (n : ℕ). take ask.count (c.args.starts.now.items ++ rooms_below v (asked_pool ask) ask.size ask.from c.args.ag n)) (all ∙ ap (λ (n : ℕ). n / ask.size) c.group_length.ensures.value)

pub returns-in_err-push : goal.returns-in_err-push
returns-in_err-push c = IfOk-from_err c.from_residual.result _ c.from_residual.ensures.0

pub is_room-requires-clause-size : goal.is_room-requires-clause-size
is_room-requires-clause-size c = c.requires.size

pub is_room-requires-clause-group : goal.is_room-requires-clause-group
is_room-requires-clause-group c = c.requires.group

pub is_room-requires-clause-uses : goal.is_room-requires-clause-uses
is_room-requires-clause-uses c = c.requires.uses
