use Rattle.std.proofs.Common.{◌≡◌, ◌==◌, ℕ, ◌+◌, ◌/◌, ◌%◌, ◌^◌, Bool, true, not, ◌||◌, bit_and, eq-eqb, ne_eqb, sym, ap, ◌∙◌}
use Rattle.std.proofs.lemmas.Nat.{and_mask}
use Rattle.xfs_geom.specs.Volumes.{volume_of}
use Rattle.xfs_laws.specs.Counting.{inode_number, is_used}
use Rattle.xfs_laws.proofs.chunks.is_unused.Goals.{then-is_missing, else-is_missing}
use Rattle.xfs_laws.proofs.chunks.is_unused.Goals as goal

yes_missing : (n : ℕ) (used : Bool) → bit_and n 1 ≡ 1 → ((n % 2 == 1) || used) ≡ true
yes_missing n used is = ap (λ (b : Bool). b || used) (eq-eqb (n % 2) 1 (sym (and_mask n 1) ∙ is))

not_missing : (n : ℕ) (used : Bool) → (bit_and n 1 ≡ 1 → ⊥) → ((n % 2 == 1) || used) ≡ used
not_missing n used other = ap (λ (b : Bool). b || used) (ne_eqb (n % 2) 1 (λ e. other (and_mask n 1 ∙ e)))

pub inode_number-requires-clause-group : goal.inode_number-requires-clause-group
inode_number-requires-clause-group c = c.requires.group

pub returns : goal.returns
returns c =
    let chunk = c.args.chunk.now in
    let part : ℕ = chunk.holemask / 2 ^ (c.args.inode / 4) in
    let used : Bool = is_used c.args.files.now (inode_number (volume_of c.args.g.now) c.args.ag (chunk.startino + c.args.inode)) in
    let both : c.if-is_missing.result ≡ ((part % 2 == 1) || used) = elim c.if-is_missing.branch [
      | then-is_missing w ↦ w.result-is ∙ (eq-eqb (bit_and part 1) 1 w.if-is_missing.true ∙ sym (yes_missing part used w.if-is_missing.true))
      | else-is_missing w ↦
          w.result-is
          ∙ (w.is_used.ensures ∙ (ap (is_used c.args.files.now) w.inode_number.ensures ∙ sym (not_missing part used w.if-is_missing.false)))
    ] in
    ap not both
