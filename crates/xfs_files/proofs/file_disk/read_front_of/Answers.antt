-- What was read into the whole slice is the front of a block; what is held of the file is held, since its bytes stay.
use Rattle.std.proofs.Common.{◌≡◌, ◌*◌, ◌∙◌, ℕ, List, Option, length, take, drop, OnOk, rules, subst, sym}
use Rattle.std.specs.Option.{ForSome}
use Rattle.xfs_files.specs.Ahead.{HoldsPart}
use Rattle.xfs_files.proofs.file_disk.read_front_of.Goals as goal

pub returns-then-give-clause-read : goal.returns-then-give-clause-read
returns-then-give-clause-read g c =
    let told : Option (List ℕ) = g.F.ByteFile.bytes c.args.file.now in
    let held : HoldsPart told c.look_front.new.self = subst (λ (bytes : Option (List ℕ)). HoldsPart bytes c.look_front.new.self) c.look_front.ensures.bytes c.look_front.ensures.held in
    c.give.ensures c.if-give.true told held

pub returns-clause-read : goal.returns-clause-read
returns-clause-read g c =
    let P : ℕ → Option (List ℕ) → Type 0 = λ n told. OnOk c.read_at.result (ForSome told (λ all. c.read_at.new.into ≡ take n (drop (c.args.at * 4096) all))) in
    let size : length c.give.new.into ≡ length c.args.into.now = search rules in
    subst (P (length c.args.into.now)) c.look_front.ensures.bytes (subst (λ n. P n (g.F.ByteFile.bytes c.look_front.new.file)) size c.read_at.ensures.read)

pub returns-clause-held : goal.returns-clause-held
returns-clause-held g c = subst (λ (told : Option (List ℕ)). HoldsPart told c.look_front.new.self) (sym c.read_at.ensures.bytes) c.look_front.ensures.held
