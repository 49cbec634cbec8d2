use Rattle.std.proofs.Common.{◌≡◌, ℕ, suc, ◌+◌, ◌≤◌, ◌++◌, [], ◌∷◌, ◌-◌, true, false, arith, ◌∙◌, sym, vec_len, add-zero, ap, ap₂}
use Rattle.std.proofs.lemmas.Result.{IfOk-from_err}
use Rattle.xfs_word.specs.Field.{field_of}
use Rattle.xfs_dirdata.specs.Sizes.{data_size, short_size}
use Rattle.xfs_dirdata.specs.Short.{short_size_at, data_end_at, index_size}
use Rattle.xfs_dirdata.specs.declared.records.EntryRec.{EntryRec}
use Rattle.xfs_dirdata.proofs.Entries.{entries-more, entries-unsound, entries-end}
use Rattle.xfs_dirdata.proofs.short.read_entries.Goals as goal

pub returns-then-not-is_entry : goal.returns-then-not-is_entry
returns-then-not-is_entry c =
    let left : c.args.count - vec_len c.loop-alloc.entries ≡ suc (c.args.count - vec_len c.loop-alloc.entries - 1) = omega arith in
    record {
      read = tt;
      unsound =
          entries-unsound c.args.dir c.args.form.now (index_size c.args.count) (c.args.count - vec_len c.loop-alloc.entries) _ c.loop-alloc.at c.loop-alloc.least
          c.loop-alloc.entries.items _ left (sym c.is_entry.ensures.value ∙ c.if-not-is_entry.true) c.loop-alloc.invariant.leads;
    }

pub loop-alloc-preserved : goal.loop-alloc-preserved
loop-alloc-preserved c =
    let kept = c.loop-alloc.invariant in
    let form = c.args.form.now in
    let inside = c.is_entry.ensures.inside c.if-not-is_entry.false in
    let few : vec_len c.push.new.self ≤ c.args.count = omega (arith, c.loop-alloc-test.true, c.len.ensures, c.push.ensures.len, c.in_ok-push.ensures.len) in
    let left : c.args.count - vec_len c.loop-alloc.entries ≡ suc (c.args.count - vec_len c.push.new.self) = omega (arith, c.loop-alloc-test.true, c.len.ensures, c.push.ensures.len, c.in_ok-push.ensures.len) in
    let length_is : c.get8-name_length.result ≡ field_of form c.loop-alloc.at 1 = c.get8-name_length.ensures ∙ ap (λ (a : ℕ). field_of form a 1) (add-zero c.loop-alloc.at) in
    let size : c.short_size.result ≡ short_size_at form c.loop-alloc.at = c.short_size.ensures ∙ ap (λ (n : ℕ). short_size n) length_is in
    let end : c.get16.result + c.data_size.result ≡ data_end_at form c.loop-alloc.at = ap₂ (λ (m n : ℕ). m + n) c.get16.ensures (c.data_size.ensures.value ∙ ap (λ (n : ℕ). data_size n) length_is) in
    record {
      inside = omega (arith, size, inside);
      small = omega (arith, c.data_size.ensures.bound);
      few = few;
      leads = entries-more c.args.dir form (index_size c.args.count) (c.args.count - vec_len c.loop-alloc.entries) (c.args.count - vec_len c.push.new.self)
          c.loop-alloc.at c.loop-alloc.least c.loop-alloc.entries.items c.push.new.self.items _ _ _ left
          (c.in_ok-push.ensures.items ∙ ap (λ (e : EntryRec). c.loop-alloc.entries.items ++ e ∷ []) c.in_ok-read_entry.ensures)
          (ap (λ (n : ℕ). c.loop-alloc.at + n) size) end
          (sym c.is_entry.ensures.value ∙ c.if-not-is_entry.false) kept.leads;
    }

pub returns-then-fills : goal.returns-then-fills
returns-then-fills c =
    let left : c.args.count - vec_len c.loop-alloc.entries ≡ 0 = omega (arith, c.loop-alloc-test.false, c.len.ensures) in
    record {
      unsound = tt;
      read =
          entries-end c.args.dir c.args.form.now (index_size c.args.count) (c.args.count - vec_len c.loop-alloc.entries) c.loop-alloc.at c.loop-alloc.least
          c.loop-alloc.entries.items _ true left (sym c.fills.ensures ∙ c.if-fills.true) c.loop-alloc.invariant.leads;
    }

pub returns-else-fills : goal.returns-else-fills
returns-else-fills c =
    let left : c.args.count - vec_len c.loop-alloc.entries ≡ 0 = omega (arith, c.loop-alloc-test.false, c.len.ensures) in
    record {
      read = tt;
      unsound =
          entries-end c.args.dir c.args.form.now (index_size c.args.count) (c.args.count - vec_len c.loop-alloc.entries) c.loop-alloc.at c.loop-alloc.least
          c.loop-alloc.entries.items _ false left (sym c.fills.ensures ∙ c.if-fills.false) c.loop-alloc.invariant.leads;
    }

pub returns-in_err-read_entry-clause-read : goal.returns-in_err-read_entry-clause-read
returns-in_err-read_entry-clause-read c = IfOk-from_err c.from_residual.result _ c.from_residual.ensures.0

pub returns-in_err-push-clause-read : goal.returns-in_err-push-clause-read
returns-in_err-push-clause-read c = IfOk-from_err c.from_residual-in_err-push.result _ c.from_residual-in_err-push.ensures.0
