use Rattle.std.proofs.Common.{◌++◌, List, Bool, true, false, length, ◌∙◌, ap}
use Rattle.std.specs.List.{filter, range_with_len}
use Rattle.xfs_links.proofs.Starting.{starts_made, is_flagged}
use Rattle.xfs_links.proofs.walk.starts.Goals as goal

pub returns : goal.returns
returns c = record {
  starts = starts_made c.args.files.now c.args.candidates.now c.args.root c.in_ok-named.named.items c.new-starts.result.items c.push.new.self.items c.push_starts.new.starts.items c.push_starts-2.new.starts.items
      c.in_ok-named.ensures.named c.new-starts.ensures.items c.in_ok-push.ensures.items
      (c.in_ok-push_starts.ensures.starts ∙ ap (λ (r : List Bool). c.push.new.self.items ++ filter (is_flagged c.args.files.now r c.args.root false) (range_with_len 0 (length c.args.files.now))) c.deref.ensures.value)
      (c.in_ok-push_starts-2.ensures.starts ∙ ap (λ (r : List Bool). c.push_starts.new.starts.items ++ filter (is_flagged c.args.files.now r c.args.root true) (range_with_len 0 (length c.args.files.now))) c.deref-2.ensures.value);
}
