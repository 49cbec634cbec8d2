use Rattle.std.proofs.Common.{ℕ, List, length, Some, Ok, ap, arith, subst, sym, ◌∙◌}
use Rattle.xfs_proto.specs.declared.protofile.ProtoNode.{ProtoNode}
use Rattle.xfs_filled.specs.FileTrees.{AreProtoNodes}
use Rattle.xfs_mkfs.specs.FilesAsked.{by_contents, contents_in}
use Rattle.xfs_mkfs.specs.declared.files.FilesAsked.{FilesAsked}
use Rattle.xfs_mkfs.specs.declared.files.FilesAsked.TheVariants.{Listed}
use Rattle.xfs_mkfs.proofs.Planned.{caused_later}
use Rattle.xfs_mkfs.proofs.Refusing.{files_listed}
use Rattle.xfs_mkfs.proofs.files.read_listed.Goals as goal

pub returns : goal.returns
returns g c =
    record {
      asked = let nodes = c.in-Ok-read_proto.proto.nodes in
          let read = c.in-Ok-read_contents.ensures in
          record {
            kind = (
              subst AreProtoNodes c.as_slice-2.ensures c.protofiles_are_files.ensures,
              ap length c.from_vec.ensures ∙ read.count ∙ ap length c.as_slice.ensures,
            );
            due = λ map tells.
                files_listed map c.args.name.now c.deref.result.now nodes
                (c.in-Ok.ensures.bytes map tells ∙ ap (λ (text : List ℕ). Some text) (sym c.deref.ensures.value)) c.in-Ok-read_proto.ensures.nodes
                ∙ ap (by_contents nodes)
                (ap (λ (ns : List ProtoNode). contents_in map ns) (sym c.as_slice.ensures) ∙ read.value map (c.in-Ok.ensures.files ∙ tells))
                ∙ ap (λ (all : List (List ℕ)). Ok (Listed nodes all)) (sym c.from_vec.ensures);
          };
      refusal = tt;
      cause = omega (arith, c.in-Ok.ensures.cause, c.in-Ok-read_contents.ensures.cause);
      files = c.in-Ok-read_contents.ensures.files ∙ c.in-Ok.ensures.files;
    }

pub returns-in-Err-read_contents-clause-asked : goal.returns-in-Err-read_contents-clause-asked
returns-in-Err-read_contents-clause-asked g c = tt

pub returns-in-Err-read_contents-clause-cause : goal.returns-in-Err-read_contents-clause-cause
returns-in-Err-read_contents-clause-cause g c = caused_later (List (List ℕ)) FilesAsked _ _ _ c.in-Err-read_contents.outcome c.in-Ok.ensures.cause c.in-Err-read_contents.ensures.cause

pub returns-in-Err-read_contents-clause-files : goal.returns-in-Err-read_contents-clause-files
returns-in-Err-read_contents-clause-files g c = c.in-Err-read_contents.ensures.files ∙ c.in-Ok.ensures.files
