use Rattle.std.proofs.Common.{◌≡◌, Result, Ok, Err, refl}
use Rattle.std.specs.Prelude.{IfOk}
use Rattle.xfs_dirbuild.specs.Forms.{form_of}
use Rattle.xfs_names.specs.Built.{IsImageIn}
use Rattle.xfs_names.proofs.building.build_image.Goals as goal

-- what stands of each value that is answered
made : {T E : Type 0} (P : T → Type 0) (result : Result T E) → ((value : T) → result ≡ Ok value → P value) → IfOk result P
made P (Ok value) each = each value refl
made P (Err fault) each = tt

pub build-requires-clause-writable : goal.build-requires-clause-writable
build-requires-clause-writable c = c.requires.writable

pub build-requires-clause-names : goal.build-requires-clause-names
build-requires-clause-names c = c.requires.names

pub build-requires-clause-few : goal.build-requires-clause-few
build-requires-clause-few c = c.requires.few

pub build-requires-clause-dir : goal.build-requires-clause-dir
build-requires-clause-dir c = c.requires.dir

pub build-requires-clause-parent : goal.build-requires-clause-parent
build-requires-clause-parent c = c.requires.parent

pub returns : goal.returns
returns c =
    made (IsImageIn (form_of c.args.entries.now c.args.fork) c.args.entries.now c.args.dir c.args.parent) c.build.result (λ image is. record {
      short_bytes_are = rw is at c.build.ensures.short_bytes;
      short_reads = rw is at c.build.ensures.short;
      short_none = rw is at c.build.ensures.none;
      data_count = rw is at c.build.ensures.data;
      index_count = rw is at c.build.ensures.index;
      free_count = rw is at c.build.ensures.free;
      count = rw is at c.build.ensures.blocks;
      blocks_are = rw is at c.build.ensures.bytes;
      magics = rw is at c.build.ensures.magics;
      whole = rw is at c.build.ensures.whole;
    })
