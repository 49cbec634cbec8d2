use Rattle.std.proofs.Common.{◌≡◌, ℕ, ◌+◌, ◌++◌, List, length, take, drop, take_all, arith, sym, ap, ◌∙◌}
use Rattle.std.proofs.lemmas.Bool.{leb-true}
use Rattle.std.proofs.lemmas.List.{take_at}
use Rattle.std.proofs.lemmas.Result.{IfOk-from_err}
use Rattle.xfs_dirdata.specs.Short.{short_of}
use Rattle.xfs_dirbuild.specs.Forms.{fits_single}
use Rattle.xfs_dirbuild.proofs.image.write_short.Goals as goal

-- bytes that are written back whole
whole : (new old : List ℕ) (n m : ℕ) → n ≡ length new → m ≡ length new → take n (new ++ drop (length new) old) ≡ take m new
whole new old n m long same = take_at new (drop (length new) old) n (sym long) ∙ sym (take_all m new (omega (arith, same)))

pub short_length-requires-clause-writable : goal.short_length-requires-clause-writable
short_length-requires-clause-writable c = c.requires.writable

pub short_length-requires-clause-few : goal.short_length-requires-clause-few
short_length-requires-clause-few c = c.requires.few

pub overflow_add-short_length : goal.overflow_add-short_length
overflow_add-short_length c = omega (arith, c.short_length.ensures.bound, c.requires.few)

pub put_short-requires-clause-parent : goal.put_short-requires-clause-parent
put_short-requires-clause-parent c = c.requires.parent

pub put_short-requires-clause-writable : goal.put_short-requires-clause-writable
put_short-requires-clause-writable c = c.requires.writable

pub put_short-requires-clause-room : goal.put_short-requires-clause-room
put_short-requires-clause-room c =
    let made : length c.as_mut_slice.result.now ≡ 6 + c.short_length.result = omega (arith, c.as_mut_slice.ensures.len, c.in_ok-short.ensures.len) in
    omega (arith, made, c.short_length.ensures.value)

pub put_short-requires-clause-single : goal.put_short-requires-clause-single
unfolding fits_single
put_short-requires-clause-single c = leb-true _ 4096 c.requires.fits

pub returns-in_err-short-clause-read : goal.returns-in_err-short-clause-read
returns-in_err-short-clause-read c = IfOk-from_err c.from_residual.result _ c.from_residual.ensures.0

pub returns-in_err-short-clause-bytes : goal.returns-in_err-short-clause-bytes
returns-in_err-short-clause-bytes c = IfOk-from_err c.from_residual.result _ c.from_residual.ensures.0

pub returns-clause-read : goal.returns-clause-read
returns-clause-read c = λ d.
    let made : length c.as_mut_slice.result.now ≡ 6 + c.short_length.result = omega (arith, c.as_mut_slice.ensures.len, c.in_ok-short.ensures.len) in
    let long : c.in_ok-short.short.len ≡ length c.put_short.new.form = omega (arith, made, c.put_short.auto.form, c.in_ok-short.short.ok.0, c.in_ok-short.ensures.len) in
    let same : c.put_short.result ≡ length c.put_short.new.form = omega (arith, made, c.put_short.auto.form, c.put_short.ensures.size, c.short_length.ensures.value) in
    ap (short_of d) (whole c.put_short.new.form c.in_ok-short.short.items c.in_ok-short.short.len c.put_short.result long same) ∙ c.put_short.ensures.read d

pub returns-clause-bytes : goal.returns-clause-bytes
returns-clause-bytes c =
    let made : length c.as_mut_slice.result.now ≡ 6 + c.short_length.result = omega (arith, c.as_mut_slice.ensures.len, c.in_ok-short.ensures.len) in
    let long : c.in_ok-short.short.len ≡ length c.put_short.new.form = omega (arith, made, c.put_short.auto.form, c.in_ok-short.short.ok.0, c.in_ok-short.ensures.len) in
    let same : c.put_short.result ≡ length c.put_short.new.form = omega (arith, made, c.put_short.auto.form, c.put_short.ensures.size, c.short_length.ensures.value) in
    whole c.put_short.new.form c.in_ok-short.short.items c.in_ok-short.short.len c.put_short.result long same ∙ c.put_short.ensures.bytes
