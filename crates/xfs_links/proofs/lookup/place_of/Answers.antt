use Rattle.std.proofs.Common.{rules}
use Rattle.std.proofs.lemmas.List.Sorted.{answers_always}
use Rattle.xfs_links.proofs.Files.{place_found, place_missing}
use Rattle.xfs_links.proofs.lookup.place_of.Goals as goal

pub returns-in-Ok : goal.returns-in-Ok
returns-in-Ok c = place_found c.args.files.now c.args.ino c.in-Ok.place c.in-Ok.ensures.bound
    (c.in-Ok.ensures.position (λ file. file.ino) (answers_always _ _ _ (λ f a r g called. search rules)))

pub returns-in-Err : goal.returns-in-Err
returns-in-Err c = place_missing c.args.files.now c.args.ino c.in-Err.field-0 c.requires.ascend
    (c.in-Err.ensures.position (λ file. file.ino) (answers_always _ _ _ (λ f a r g called. search rules)))
