-- What was read into the whole slice is a block.
use Rattle.std.proofs.Common.{◌≡◌, ◌*◌, ◌∙◌, ℕ, List, Option, length, take, drop, OnOk, rules, subst}
use Rattle.std.specs.Option.{ForSome}
use Rattle.xfs_files.specs.Ahead.{HoldsPart}
use Rattle.xfs_files.proofs.file_disk.read_block.Goals as goal

pub returns-then-give-clause-read : goal.returns-then-give-clause-read
returns-then-give-clause-read g c =
    let told : Option (List ℕ) = g.F.ByteFile.bytes c.args.file.now in
    let held : HoldsPart told c.look.new.self = subst (λ (bytes : Option (List ℕ)). HoldsPart bytes c.look.new.self) c.look.ensures.bytes c.look.ensures.held in
    subst (λ (n : ℕ). ForSome told (λ all. c.give.new.into ≡ take n (drop (c.args.at * 4096) all))) c.requires.whole (c.give.ensures c.if-give.true told held)

pub returns-clause-read : goal.returns-clause-read
returns-clause-read g c =
    let P : ℕ → Option (List ℕ) → Type 0 = λ n told. OnOk c.read_at.result (ForSome told (λ all. c.read_at.new.into ≡ take n (drop (c.args.at * 4096) all))) in
    let size : length c.give.new.into ≡ length c.args.into.now = search rules in
    subst (P 4096) c.look.ensures.bytes (subst (λ n. P n (g.F.ByteFile.bytes c.look.new.file)) (size ∙ c.requires.whole) c.read_at.ensures.read)
