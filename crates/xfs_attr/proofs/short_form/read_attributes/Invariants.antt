use Rattle.std.proofs.Common.{◌≡◌, ◌-◌}
use Rattle.xfs_attr.specs.ShortForm.{attributes_of}
use Rattle.xfs_attr.proofs.Walked.{behind}
use Rattle.xfs_attr.proofs.short_form.read_attributes.Given as goal

abbrev pub invariant-loop : goal.invariant-loop
invariant-loop l = behind l.attributes.items (attributes_of (l.count - l.counter) l.rest) ≡ attributes_of l.count l.bytes
