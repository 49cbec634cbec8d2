use Rattle.std.proofs.Common.{◌≡◌, ℕ, ◌++◌, ◌∷◌, [], ◌-◌, ◌+◌, List, length, take, inl, sym, ◌∙◌, ap, subst}
use Rattle.std.proofs.lemmas.List.{length-take-le}
use Rattle.std.proofs.lemmas.List.Elements.{All-take}
use Rattle.std.proofs.lemmas.List.Sums.{sum_by-append}
use Rattle.xfs_dirdata.specs.Written.{IsWritableEntry, data_size_of, data_length, first_entries, placed_entries}
use Rattle.xfs_dirbuild.specs.Placed.{IsBuiltDataBlock}
use Rattle.xfs_dirbuild.proofs.Banks.{put-there, put-beside, put-count}
use Rattle.xfs_dirbuild.proofs.BlockBytes.{blank-long}
use Rattle.std.proofs.lemmas.Result.{IfOk-from_err}
use Rattle.xfs_dirbuild.proofs.FillSteps.{front-low, front-end, rest-left, end-inside, rest-fits, more-added, pairs-both}
use Rattle.xfs_dirbuild.proofs.filling.fill_block.Goals as goal

pub put_data_block-count-requires-clause-writable : goal.put_data_block-count-requires-clause-writable
put_data_block-count-requires-clause-writable c = c.requires.writable

pub put_data_block-count-requires-clause-first : goal.put_data_block-count-requires-clause-first
put_data_block-count-requires-clause-first c = c.requires.first

pub put_data_block-count-requires-clause-room : goal.put_data_block-count-requires-clause-room
put_data_block-count-requires-clause-room c = c.requires.long

pub put_data_block-count-requires-clause-long : goal.put_data_block-count-requires-clause-long
put_data_block-count-requires-clause-long c = blank-long 4096 c.blank-block.result c.blank-block.ensures

pub put_data_block-count-requires-clause-blank : goal.put_data_block-count-requires-clause-blank
put_data_block-count-requires-clause-blank c = c.blank-block.ensures

pub put_block-requires-clause-inside : goal.put_block-requires-clause-inside
put_block-requires-clause-inside c = c.requires.inside

pub put_block-requires-clause-whole : goal.put_block-requires-clause-whole
put_block-requires-clause-whole c = c.put_data_block-count.auto.block ∙ blank-long 4096 c.blank-block.result c.blank-block.ensures

pub add_first-requires-clause-low : goal.add_first-requires-clause-low
add_first-requires-clause-low c = c.requires.low

pub add_first-requires-clause-sound : goal.add_first-requires-clause-sound
add_first-requires-clause-sound c = c.requires.sound

pub returns-in_err-start-clause-within : goal.returns-in_err-start-clause-within
returns-in_err-start-clause-within c = IfOk-from_err c.from_residual.result _ c.from_residual.ensures.0

pub returns-in_err-start-clause-fits : goal.returns-in_err-start-clause-fits
returns-in_err-start-clause-fits c = IfOk-from_err c.from_residual.result _ c.from_residual.ensures.0

pub returns-in_err-start-clause-longest : goal.returns-in_err-start-clause-longest
returns-in_err-start-clause-longest c = IfOk-from_err c.from_residual.result _ c.from_residual.ensures.0

pub returns-in_err-start-clause-block : goal.returns-in_err-start-clause-block
returns-in_err-start-clause-block c = IfOk-from_err c.from_residual.result _ c.from_residual.ensures.0

pub returns-in_err-start-clause-bytes : goal.returns-in_err-start-clause-bytes
returns-in_err-start-clause-bytes c = IfOk-from_err c.from_residual.result _ c.from_residual.ensures.0

pub returns-in_err-start-clause-pairs : goal.returns-in_err-start-clause-pairs
returns-in_err-start-clause-pairs c = IfOk-from_err c.from_residual.result _ c.from_residual.ensures.0

pub returns-in_err-start-clause-sound : goal.returns-in_err-start-clause-sound
returns-in_err-start-clause-sound c = IfOk-from_err c.from_residual.result _ c.from_residual.ensures.0

pub returns-in_err-start-clause-added : goal.returns-in_err-start-clause-added
returns-in_err-start-clause-added c = IfOk-from_err c.from_residual.result _ c.from_residual.ensures.0

pub returns-in_err-start-clause-rests : goal.returns-in_err-start-clause-rests
returns-in_err-start-clause-rests c = IfOk-from_err c.from_residual.result _ c.from_residual.ensures.0

pub returns-in_err-start-clause-count : goal.returns-in_err-start-clause-count
returns-in_err-start-clause-count c = put-count c.args.blocks.now c.put_block.new.blocks c.args.number c.put_data_block-count.new.block c.put_block.ensures

pub returns-in_err-start-clause-others : goal.returns-in_err-start-clause-others
returns-in_err-start-clause-others c = λ k less. put-beside c.args.blocks.now c.put_block.new.blocks c.args.number k c.put_data_block-count.new.block c.put_block.ensures (inl less)

pub returns-in_err-end-clause-within : goal.returns-in_err-end-clause-within
returns-in_err-end-clause-within c = IfOk-from_err c.from_residual-in_err-end.result _ c.from_residual-in_err-end.ensures.0

pub returns-in_err-end-clause-fits : goal.returns-in_err-end-clause-fits
returns-in_err-end-clause-fits c = IfOk-from_err c.from_residual-in_err-end.result _ c.from_residual-in_err-end.ensures.0

pub returns-in_err-end-clause-longest : goal.returns-in_err-end-clause-longest
returns-in_err-end-clause-longest c = IfOk-from_err c.from_residual-in_err-end.result _ c.from_residual-in_err-end.ensures.0

pub returns-in_err-end-clause-block : goal.returns-in_err-end-clause-block
returns-in_err-end-clause-block c = IfOk-from_err c.from_residual-in_err-end.result _ c.from_residual-in_err-end.ensures.0

pub returns-in_err-end-clause-bytes : goal.returns-in_err-end-clause-bytes
returns-in_err-end-clause-bytes c = IfOk-from_err c.from_residual-in_err-end.result _ c.from_residual-in_err-end.ensures.0

pub returns-in_err-end-clause-pairs : goal.returns-in_err-end-clause-pairs
returns-in_err-end-clause-pairs c = IfOk-from_err c.from_residual-in_err-end.result _ c.from_residual-in_err-end.ensures.0

pub returns-in_err-end-clause-sound : goal.returns-in_err-end-clause-sound
returns-in_err-end-clause-sound c = IfOk-from_err c.from_residual-in_err-end.result _ c.from_residual-in_err-end.ensures.0

pub returns-in_err-end-clause-added : goal.returns-in_err-end-clause-added
returns-in_err-end-clause-added c = IfOk-from_err c.from_residual-in_err-end.result _ c.from_residual-in_err-end.ensures.0

pub returns-in_err-end-clause-rests : goal.returns-in_err-end-clause-rests
returns-in_err-end-clause-rests c = IfOk-from_err c.from_residual-in_err-end.result _ c.from_residual-in_err-end.ensures.0

pub returns-in_err-end-clause-count : goal.returns-in_err-end-clause-count
returns-in_err-end-clause-count c = put-count c.args.blocks.now c.put_block.new.blocks c.args.number c.put_data_block-count.new.block c.put_block.ensures

pub returns-in_err-end-clause-others : goal.returns-in_err-end-clause-others
returns-in_err-end-clause-others c = λ k less. put-beside c.args.blocks.now c.put_block.new.blocks c.args.number k c.put_data_block-count.new.block c.put_block.ensures (inl less)

pub returns-in_err-push-clause-within : goal.returns-in_err-push-clause-within
returns-in_err-push-clause-within c = IfOk-from_err c.from_residual-in_err-push.result _ c.from_residual-in_err-push.ensures.0

pub returns-in_err-push-clause-fits : goal.returns-in_err-push-clause-fits
returns-in_err-push-clause-fits c = IfOk-from_err c.from_residual-in_err-push.result _ c.from_residual-in_err-push.ensures.0

pub returns-in_err-push-clause-longest : goal.returns-in_err-push-clause-longest
returns-in_err-push-clause-longest c = IfOk-from_err c.from_residual-in_err-push.result _ c.from_residual-in_err-push.ensures.0

pub returns-in_err-push-clause-block : goal.returns-in_err-push-clause-block
returns-in_err-push-clause-block c = IfOk-from_err c.from_residual-in_err-push.result _ c.from_residual-in_err-push.ensures.0

pub returns-in_err-push-clause-bytes : goal.returns-in_err-push-clause-bytes
returns-in_err-push-clause-bytes c = IfOk-from_err c.from_residual-in_err-push.result _ c.from_residual-in_err-push.ensures.0

pub returns-in_err-push-clause-pairs : goal.returns-in_err-push-clause-pairs
returns-in_err-push-clause-pairs c = IfOk-from_err c.from_residual-in_err-push.result _ c.from_residual-in_err-push.ensures.0

pub returns-in_err-push-clause-sound : goal.returns-in_err-push-clause-sound
returns-in_err-push-clause-sound c = IfOk-from_err c.from_residual-in_err-push.result _ c.from_residual-in_err-push.ensures.0

pub returns-in_err-push-clause-added : goal.returns-in_err-push-clause-added
returns-in_err-push-clause-added c = IfOk-from_err c.from_residual-in_err-push.result _ c.from_residual-in_err-push.ensures.0

pub returns-in_err-push-clause-rests : goal.returns-in_err-push-clause-rests
returns-in_err-push-clause-rests c = IfOk-from_err c.from_residual-in_err-push.result _ c.from_residual-in_err-push.ensures.0

pub returns-in_err-push-clause-count : goal.returns-in_err-push-clause-count
returns-in_err-push-clause-count c = put-count c.args.blocks.now c.put_block.new.blocks c.args.number c.put_data_block-count.new.block c.put_block.ensures

pub returns-in_err-push-clause-others : goal.returns-in_err-push-clause-others
returns-in_err-push-clause-others c = λ k less. put-beside c.args.blocks.now c.put_block.new.blocks c.args.number k c.put_data_block-count.new.block c.put_block.ensures (inl less)

pub add_pairs-requires-clause-writable : goal.add_pairs-requires-clause-writable
add_pairs-requires-clause-writable c = All-take IsWritableEntry c.put_data_block-count.result c.args.entries.now c.requires.writable

pub add_pairs-requires-clause-low : goal.add_pairs-requires-clause-low
add_pairs-requires-clause-low c = c.requires.low

pub add_pairs-requires-clause-inside : goal.add_pairs-requires-clause-inside
add_pairs-requires-clause-inside c =
    let count = c.put_data_block-count.result in
    let front = first_entries c.args.first in
    let part = take count c.args.entries.now in
    let sum = sum_by-append data_size_of front part in
    front-end c.in_ok-start.start (data_length front) (data_length part) (data_length (placed_entries c.args.first c.args.entries.now count)) c.in_ok-start.ensures.end sum c.put_data_block-count.ensures.fits

pub add_pairs-requires-clause-behind : goal.add_pairs-requires-clause-behind
add_pairs-requires-clause-behind c = front-low c.in_ok-start.start (data_length (first_entries c.args.first)) c.in_ok-start.ensures.end

pub add_pairs-requires-clause-sound : goal.add_pairs-requires-clause-sound
add_pairs-requires-clause-sound c = c.in_ok-start.ensures.sound

pub overflow_sub-end : goal.overflow_sub-end
overflow_sub-end c =
    let count = c.put_data_block-count.result in
    let front = first_entries c.args.first in
    let part = take count c.args.entries.now in
    let sum = sum_by-append data_size_of front part in
    end-inside c.in_ok-end.end c.in_ok-start.start (data_length part) c.in_ok-end.ensures.end (front-end c.in_ok-start.start (data_length front) (data_length part) (data_length (placed_entries c.args.first c.args.entries.now count)) c.in_ok-start.ensures.end sum c.put_data_block-count.ensures.fits)

pub overflow_cast-end : goal.overflow_cast-end
overflow_cast-end c = rest-fits c.in_ok-end.end

pub returns-clause-within : goal.returns-clause-within
returns-clause-within c = c.put_data_block-count.ensures.within

pub returns-clause-fits : goal.returns-clause-fits
returns-clause-fits c = c.put_data_block-count.ensures.fits

pub returns-clause-longest : goal.returns-clause-longest
returns-clause-longest c = c.put_data_block-count.ensures.longest

pub returns-clause-block : goal.returns-clause-block
returns-clause-block c =
    subst (λ (b : List ℕ). IsBuiltDataBlock (placed_entries c.args.first c.args.entries.now c.put_data_block-count.result) b)
    (sym (put-there c.args.blocks.now c.put_block.new.blocks c.args.number c.put_data_block-count.new.block c.put_block.ensures c.requires.inside))
    c.put_data_block-count.ensures.block

pub returns-clause-bytes : goal.returns-clause-bytes
returns-clause-bytes c = put-there c.args.blocks.now c.put_block.new.blocks c.args.number c.put_data_block-count.new.block c.put_block.ensures c.requires.inside ∙ c.put_data_block-count.ensures.bytes

pub returns-clause-count : goal.returns-clause-count
returns-clause-count c = put-count c.args.blocks.now c.put_block.new.blocks c.args.number c.put_data_block-count.new.block c.put_block.ensures

pub returns-clause-others : goal.returns-clause-others
returns-clause-others c = λ k less. put-beside c.args.blocks.now c.put_block.new.blocks c.args.number k c.put_data_block-count.new.block c.put_block.ensures (inl less)

pub returns-clause-pairs : goal.returns-clause-pairs
returns-clause-pairs c =
    pairs-both c.args.number c.in_ok-start.start c.put_data_block-count.result (first_entries c.args.first) c.args.entries.now c.args.stated.now.pairs.items
    c.add_first.new.pairs.items c.add_pairs.new.pairs.items c.in_ok-start.ensures.pairs c.in_ok-end.ensures.pairs c.in_ok-start.ensures.end

pub returns-clause-sound : goal.returns-clause-sound
returns-clause-sound c = c.in_ok-end.ensures.sound

pub returns-clause-added : goal.returns-clause-added
returns-clause-added c =
    let part = take c.put_data_block-count.result c.args.entries.now in
    more-added (length c.add_pairs.new.pairs.items) (length c.add_first.new.pairs.items) (length c.args.stated.now.pairs.items) (length (first_entries c.args.first))
    (length part) c.put_data_block-count.result c.in_ok-end.ensures.count c.in_ok-start.ensures.count
    (length-take-le c.put_data_block-count.result c.args.entries.now c.put_data_block-count.ensures.within)

pub returns-clause-rests : goal.returns-clause-rests
returns-clause-rests c =
    let count = c.put_data_block-count.result in
    let front = first_entries c.args.first in
    let part = take count c.args.entries.now in
    let sum = sum_by-append data_size_of front part in
    let left : 4096 - c.in_ok-end.end ≡ 4096 - (64 + data_length (placed_entries c.args.first c.args.entries.now count)) =
    rest-left c.in_ok-end.end c.in_ok-start.start (data_length front) (data_length part) (data_length (placed_entries c.args.first c.args.entries.now count))
    c.in_ok-end.ensures.end c.in_ok-start.ensures.end sum in
    c.in_ok-push.ensures.items ∙ ap (λ (n : ℕ). c.args.stated.now.rests.items ++ n ∷ []) left
