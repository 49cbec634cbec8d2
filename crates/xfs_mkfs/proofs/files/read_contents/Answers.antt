use Rattle.std.proofs.Common.{◌≡◌, ◌+◌, ℕ, List, Option, Some, arith, refl, rules, sym, subst, ◌∙◌}
use Rattle.xfs_disk.specs.Files.{Files}
use Rattle.xfs_filled.specs.FileTrees.{no_proto_node, node_at}
use Rattle.xfs_mkfs.specs.FilesAsked.{IsContentAnswer}
use Rattle.xfs_mkfs.specs.Sharing.{AreContents}
use Rattle.xfs_mkfs.proofs.Contents.{IsReadUpTo, all_read, contents_answer, missing_there, one_more_read}
use Rattle.xfs_mkfs.proofs.Planned.{caused_later}
use Rattle.xfs_mkfs.proofs.Shared.{one_more_content}
use Rattle.xfs_mkfs.proofs.files.read_contents.Goals as goal

pub returns-in-Err-content_of : goal.returns-in-Err-content_of
returns-in-Err-content_of g c =
    record {
      value = tt;
      count = tt;
      refusal = let told = g.L.Library.files c.args.files.now in
          let ns = c.args.nodes.now in
          let k = c.loop-k.k in
          let outcome = c.in-Err-content_of.outcome in
          contents_answer told ns (node_at ns k).kind outcome
          (subst (λ (files : Option Files). IsContentAnswer files (node_at ns k).kind outcome) c.loop-k.invariant.files c.in-Err-content_of.ensures.refusal)
          (λ map line tells at none. missing_there map ns k no_proto_node c.loop-k.contents.items line c.loop-k-test.true at none (c.loop-k.invariant.read map tells));
      cause = caused_later (List ℕ) (List (List ℕ)) _ _ _ c.in-Err-content_of.outcome c.loop-k.invariant.faults c.in-Err-content_of.ensures.cause;
      files = c.in-Err-content_of.ensures.files ∙ c.loop-k.invariant.files;
    }

pub loop-k-preserved : goal.loop-k-preserved
loop-k-preserved g c =
    let ns = c.args.nodes.now in
    let k = c.loop-k.k in
    let were = c.loop-k.contents.items in
    let bytes = c.in-Ok-content_of.bytes in
    let now = c.in-Ok-push.ensures.items in
    let is = λ (map : Files) (tells : g.L.Library.files c.args.files.now ≡ Some map). c.in-Ok-content_of.ensures.value map (c.loop-k.invariant.files ∙ tells)
    (subst (λ (xs : List (List ℕ)). AreContents map ns xs) (sym {A = List (List ℕ)} c.as_slice.ensures.value) (c.loop-k.invariant.each map tells)) in
    record {
      read = λ map tells. subst (λ (xs : List (List ℕ)). IsReadUpTo map ns (k + 1) xs) (sym {A = List (List ℕ)} now)
          (one_more_read map ns k no_proto_node were bytes c.loop-k-test.true (is map tells) (c.loop-k.invariant.read map tells));
      each = λ map tells. subst (λ (xs : List (List ℕ)). AreContents map ns xs) (sym {A = List (List ℕ)} now)
          (one_more_content map ns k were bytes c.loop-k.invariant.count (is map tells) (c.loop-k.invariant.each map tells));
      count = search rules;
      files = c.in-Ok-content_of.ensures.files ∙ c.loop-k.invariant.files;
      faults = omega (arith, c.loop-k.invariant.faults, c.in-Ok-content_of.ensures.cause);
    }

pub returns-in-Err : goal.returns-in-Err
returns-in-Err g c =
    record {
      value = tt;
      count = tt;
      refusal = tt;
      cause = omega arith;
      files = refl;
    }

pub returns-in-Err-push : goal.returns-in-Err-push
returns-in-Err-push g c =
    record {
      value = tt;
      count = tt;
      refusal = tt;
      cause = omega (arith, c.loop-k.invariant.faults, c.in-Ok-content_of.ensures.cause);
      files = c.in-Ok-content_of.ensures.files ∙ c.loop-k.invariant.files;
    }
