use Rattle.std.proofs.Common.{ℕ, ◌-◌, ◌<◌, length, take, drop, arith}
use Rattle.std.proofs.lemmas.List.{length-drop, take_all}
use Rattle.std.proofs.lemmas.List.Elements.{All-drop, All-take}
use Rattle.xfs_scan.proofs.Rounds.{round_behind}
use Rattle.xfs_scan.proofs.scan.round_from.Goals as goal

pub returns-clause-next : goal.returns-clause-next
returns-clause-next c =
    let start = c.args.start in
    let blocks = c.args.blocks.now in
    let left = length blocks - start in
    round_behind start c.min.result blocks (take left (drop start blocks)) (take_all left (drop start blocks) (omega (arith, length-drop start blocks)))

pub returns-clause-low : goal.returns-clause-low
returns-clause-low c = λ end all.
    let low = λ (block : ℕ). block < end in
    let start = c.args.start in
    let blocks = c.args.blocks.now in
    let left = length blocks - start in
    All-take low c.min.result (take left (drop start blocks)) (All-take low left (drop start blocks) (All-drop low start blocks all))
