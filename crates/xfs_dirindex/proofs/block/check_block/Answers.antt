use Rattle.std.proofs.Common.{◌≡◌, ℕ, false, ◌==◌, List, [], ◌∷◌, length, arith, refl, ◌∙◌}
use Rattle.std.proofs.lemmas.Bool.{and_right}
use Rattle.xfs_dirindex.specs.Mapped.{mapped}
use Rattle.xfs_dirindex.specs.Block.{is_alone, is_whole_block}
use Rattle.xfs_dirindex.proofs.block.check_block.Goals as goal

several : (dir size : ℕ) (offsets : List ℕ) (blocks : List (List ℕ)) → length blocks ≡ length offsets → (length blocks ≡ 1 → ⊥) → is_whole_block dir size (mapped offsets blocks) ≡ false
several dir size [] blocks same other = and_right (size == 4096) (is_alone dir []) refl
several dir size (o ∷ os) [] same other = absurd (omega arith)
several dir size (o ∷ []) (b ∷ []) same other = absurd (other refl)
several dir size (o ∷ []) (b ∷ c ∷ bs) same other = absurd (omega arith)
several dir size (o ∷ p ∷ os) (b ∷ []) same other = absurd (omega arith)
several dir size (o ∷ p ∷ os) (b ∷ c ∷ bs) same other = and_right (size == 4096) (is_alone dir (mapped (o ∷ p ∷ os) (b ∷ c ∷ bs))) refl

pub returns-then-len-ne1-clause-unsound : goal.returns-then-len-ne1-clause-unsound
returns-then-len-ne1-clause-unsound c =
    several c.args.dir.now.dir c.args.dir.now.size c.args.dir.now.offsets.items c.args.dir.now.blocks c.requires.mapped (λ e. c.if-len-ne1.true (c.len.ensures.count ∙ e))
