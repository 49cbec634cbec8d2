use Rattle.std.proofs.Common.{not, sym, ap, ◌∙◌, arith}
use Rattle.std.proofs.lemmas.Bool.{eq-eqb, ne_eqb}
use Rattle.xfs_dirindex.specs.FreeBlocks.{is_used_value}
use Rattle.xfs_dirindex.proofs.Longest.{counted_no, counted_yes}
use Rattle.xfs_dirindex.proofs.free_blocks.used_in.Goals.{then-get16, else-get16}
use Rattle.xfs_dirindex.proofs.free_blocks.used_in.Goals as goal

pub loop-j-preserved : goal.loop-j-preserved
loop-j-preserved c =
    let p = is_used_value c.args.bytes.now in
    let before = c.loop-j.invariant in
    elim c.if-get16.branch [
      | then-get16 w ↦ record {
        few = omega (arith, before.few, w.used-is);
        counted = counted_yes p c.loop-j.j c.loop-j.used c.if-get16.used (ap not (ne_eqb _ 0xffff (λ e. w.if-get16.true (c.get16.ensures ∙ e)))) before.counted w.used-is;
      }
      | else-get16 w ↦ record {
        few = omega (arith, before.few, w.used-is);
        counted = counted_no p c.loop-j.j c.loop-j.used c.if-get16.used (ap not (eq-eqb _ 0xffff (sym c.get16.ensures ∙ w.if-get16.false))) before.counted w.used-is;
      }
    ]
