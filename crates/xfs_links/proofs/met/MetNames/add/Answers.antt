use Rattle.std.proofs.Common.{ℕ, cond, true, false, ◌∙◌, ap, ◌==◌, ◌&&◌, ◌||◌, Bool, ◌≡◌, refl}
use Rattle.std.specs.Ordering.{is_eq}
use Rattle.std.specs.Str.{bytes_eq}
use Rattle.xfs_word.specs.Hash.{hash_of}
use Rattle.xfs_links.proofs.Firsts.{names_tied}
use Rattle.xfs_links.specs.Met.{is_met, name_cmp}
use Rattle.xfs_links.proofs.met.MetNames.add.Goals as goal

picked : (p q : Bool) → cond p true q ≡ (p || q)
picked true q = refl
picked false q = refl

pub returns-clause-met : goal.returns-clause-met
returns-clause-met c d q = c.in_ok-fresh.ensures.updates.0 (d, hash_of q, record { ref_ptr = (0, 0); now = q })
    ∙ ap (λ (h : ℕ). cond (is_eq (name_cmp (c.args.directory, h, c.args.name) (d, hash_of q, record { ref_ptr = (0, 0); now = q }))) true (is_met c.args.self.now d q)) c.name_hash.ensures
    ∙ ap (λ r. cond r true (is_met c.args.self.now d q)) (names_tied c.args.directory d c.args.name (record { ref_ptr = (0, 0); now = q }))
    ∙ picked (c.args.directory == d && bytes_eq c.args.name.now q) (is_met c.args.self.now d q)
