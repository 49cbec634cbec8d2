use Rattle.std.proofs.lemmas.Result.{IfOk-from_err}
use Rattle.std.proofs.Common.{sym, ◌∙◌, ap}
use Rattle.xfs_dirbuild.proofs.Choosing.{short-fits, single-fits, leaf-fits, three-sum, magics-of, built-of}
use Rattle.xfs_dirbuild.specs.declared.forms.DirectoryForm.{DirectoryForm}
use Rattle.xfs_dirbuild.specs.Forms.{form_of, data_blocks_of, index_blocks_of, free_blocks_of}
use Rattle.xfs_dirbuild.specs.Blocks.{dir_blocks}
use Rattle.xfs_dirbuild.proofs.image.build.Goals as goal

pub returns-in_err-short-clause-short : goal.returns-in_err-short-clause-short
returns-in_err-short-clause-short c = IfOk-from_err c.from_residual.result _ c.from_residual.ensures.0

pub returns-in_err-short-clause-short_bytes : goal.returns-in_err-short-clause-short_bytes
returns-in_err-short-clause-short_bytes c = IfOk-from_err c.from_residual.result _ c.from_residual.ensures.0

pub returns-in_err-short-clause-none : goal.returns-in_err-short-clause-none
returns-in_err-short-clause-none c = IfOk-from_err c.from_residual.result _ c.from_residual.ensures.0

pub returns-in_err-short-clause-data : goal.returns-in_err-short-clause-data
returns-in_err-short-clause-data c = IfOk-from_err c.from_residual.result _ c.from_residual.ensures.0

pub returns-in_err-short-clause-index : goal.returns-in_err-short-clause-index
returns-in_err-short-clause-index c = IfOk-from_err c.from_residual.result _ c.from_residual.ensures.0

pub returns-in_err-short-clause-free : goal.returns-in_err-short-clause-free
returns-in_err-short-clause-free c = IfOk-from_err c.from_residual.result _ c.from_residual.ensures.0

pub returns-in_err-short-clause-blocks : goal.returns-in_err-short-clause-blocks
returns-in_err-short-clause-blocks c = IfOk-from_err c.from_residual.result _ c.from_residual.ensures.0

pub returns-in_err-short-clause-magics : goal.returns-in_err-short-clause-magics
returns-in_err-short-clause-magics c = IfOk-from_err c.from_residual.result _ c.from_residual.ensures.0

pub returns-in_err-short-clause-whole : goal.returns-in_err-short-clause-whole
returns-in_err-short-clause-whole c = IfOk-from_err c.from_residual.result _ c.from_residual.ensures.0

pub returns-in_err-short-clause-bytes : goal.returns-in_err-short-clause-bytes
returns-in_err-short-clause-bytes c = IfOk-from_err c.from_residual.result _ c.from_residual.ensures.0

pub returns-in_err-blocks-clause-short : goal.returns-in_err-blocks-clause-short
returns-in_err-blocks-clause-short c = IfOk-from_err c.from_residual-in_err-blocks.result _ c.from_residual-in_err-blocks.ensures.0

pub returns-in_err-blocks-clause-short_bytes : goal.returns-in_err-blocks-clause-short_bytes
returns-in_err-blocks-clause-short_bytes c = IfOk-from_err c.from_residual-in_err-blocks.result _ c.from_residual-in_err-blocks.ensures.0

pub returns-in_err-blocks-clause-none : goal.returns-in_err-blocks-clause-none
returns-in_err-blocks-clause-none c = IfOk-from_err c.from_residual-in_err-blocks.result _ c.from_residual-in_err-blocks.ensures.0

pub returns-in_err-blocks-clause-data : goal.returns-in_err-blocks-clause-data
returns-in_err-blocks-clause-data c = IfOk-from_err c.from_residual-in_err-blocks.result _ c.from_residual-in_err-blocks.ensures.0

pub returns-in_err-blocks-clause-index : goal.returns-in_err-blocks-clause-index
returns-in_err-blocks-clause-index c = IfOk-from_err c.from_residual-in_err-blocks.result _ c.from_residual-in_err-blocks.ensures.0

pub returns-in_err-blocks-clause-free : goal.returns-in_err-blocks-clause-free
returns-in_err-blocks-clause-free c = IfOk-from_err c.from_residual-in_err-blocks.result _ c.from_residual-in_err-blocks.ensures.0

pub returns-in_err-blocks-clause-blocks : goal.returns-in_err-blocks-clause-blocks
returns-in_err-blocks-clause-blocks c = IfOk-from_err c.from_residual-in_err-blocks.result _ c.from_residual-in_err-blocks.ensures.0

pub returns-in_err-blocks-clause-magics : goal.returns-in_err-blocks-clause-magics
returns-in_err-blocks-clause-magics c = IfOk-from_err c.from_residual-in_err-blocks.result _ c.from_residual-in_err-blocks.ensures.0

pub returns-in_err-blocks-clause-whole : goal.returns-in_err-blocks-clause-whole
returns-in_err-blocks-clause-whole c = IfOk-from_err c.from_residual-in_err-blocks.result _ c.from_residual-in_err-blocks.ensures.0

pub returns-in_err-blocks-clause-bytes : goal.returns-in_err-blocks-clause-bytes
returns-in_err-blocks-clause-bytes c = IfOk-from_err c.from_residual-in_err-blocks.result _ c.from_residual-in_err-blocks.ensures.0

pub form_of-form-requires-clause-writable : goal.form_of-form-requires-clause-writable
form_of-form-requires-clause-writable c = c.requires.writable

pub build_short-requires-clause-writable : goal.build_short-requires-clause-writable
build_short-requires-clause-writable c = c.requires.writable

pub build_blocks-requires-clause-writable : goal.build_blocks-requires-clause-writable
build_blocks-requires-clause-writable c = c.requires.writable

pub data_blocks_of-requires-clause-writable : goal.data_blocks_of-requires-clause-writable
data_blocks_of-requires-clause-writable c = c.requires.writable

pub free_blocks_of-requires-clause-writable : goal.free_blocks_of-requires-clause-writable
free_blocks_of-requires-clause-writable c = c.requires.writable

pub form_of-form-requires-clause-few : goal.form_of-form-requires-clause-few
form_of-form-requires-clause-few c = c.requires.few

pub build_short-requires-clause-few : goal.build_short-requires-clause-few
build_short-requires-clause-few c = c.requires.few

pub build_blocks-requires-clause-few : goal.build_blocks-requires-clause-few
build_blocks-requires-clause-few c = c.requires.few

pub data_blocks_of-requires-clause-few : goal.data_blocks_of-requires-clause-few
data_blocks_of-requires-clause-few c = c.requires.few

pub free_blocks_of-requires-clause-few : goal.free_blocks_of-requires-clause-few
free_blocks_of-requires-clause-few c = c.requires.few

pub build_short-requires-clause-parent : goal.build_short-requires-clause-parent
build_short-requires-clause-parent c = c.requires.parent

pub build_blocks-requires-clause-names : goal.build_blocks-requires-clause-names
build_blocks-requires-clause-names c = c.requires.names

pub build_blocks-requires-clause-dir : goal.build_blocks-requires-clause-dir
build_blocks-requires-clause-dir c = c.requires.dir

pub build_blocks-requires-clause-parent : goal.build_blocks-requires-clause-parent
build_blocks-requires-clause-parent c = c.requires.parent

pub build_short-requires-clause-fits : goal.build_short-requires-clause-fits
build_short-requires-clause-fits c = λ is. short-fits c.args.entries.now c.args.fork (sym c.form_of-form.ensures ∙ is)

pub build_blocks-requires-clause-single : goal.build_blocks-requires-clause-single
build_blocks-requires-clause-single c = λ is. single-fits c.args.entries.now c.args.fork (sym c.form_of-form.ensures ∙ is)

pub build_blocks-requires-clause-leaf : goal.build_blocks-requires-clause-leaf
build_blocks-requires-clause-leaf c = λ is. leaf-fits c.args.entries.now c.args.fork (sym c.form_of-form.ensures ∙ is)

pub index_blocks_of-requires : goal.index_blocks_of-requires
index_blocks_of-requires c = record { few = c.requires.few }

pub returns-clause-short : goal.returns-clause-short
returns-clause-short c = λ is. c.in_ok-short.ensures.short (c.form_of-form.ensures ∙ is)

pub returns-clause-short_bytes : goal.returns-clause-short_bytes
returns-clause-short_bytes c = λ is. c.in_ok-short.ensures.bytes (c.form_of-form.ensures ∙ is)

pub returns-clause-none : goal.returns-clause-none
returns-clause-none c = λ other. c.in_ok-short.ensures.none (λ is. other (sym c.form_of-form.ensures ∙ is))

pub returns-clause-data : goal.returns-clause-data
returns-clause-data c = c.data_blocks_of.ensures ∙ ap (λ (form : DirectoryForm). data_blocks_of form c.args.entries.now) c.form_of-form.ensures

pub returns-clause-blocks : goal.returns-clause-blocks
returns-clause-blocks c =
    let es = c.args.entries.now in
    let form = c.form_of-form.result in
    c.in_ok-blocks.ensures.count ∙ three-sum (data_blocks_of form es) (index_blocks_of form es) (free_blocks_of form es) c.data_blocks_of.result c.index_blocks_of.result c.free_blocks_of.result
    c.data_blocks_of.ensures c.index_blocks_of.ensures c.free_blocks_of.ensures

pub returns-clause-magics : goal.returns-clause-magics
returns-clause-magics c =
    let es = c.args.entries.now in
    let form = c.form_of-form.result in
    magics-of (data_blocks_of form es) (index_blocks_of form es) (free_blocks_of form es) c.data_blocks_of.result c.index_blocks_of.result c.free_blocks_of.result c.in_ok-blocks.blocks
    c.data_blocks_of.ensures c.index_blocks_of.ensures c.free_blocks_of.ensures c.in_ok-blocks.ensures.magics

pub returns-clause-whole : goal.returns-clause-whole
returns-clause-whole c =
    let es = c.args.entries.now in
    let form = c.form_of-form.result in
    built-of form (form_of es c.args.fork) c.args.dir c.args.parent (data_blocks_of form es) (index_blocks_of form es) (free_blocks_of form es) c.data_blocks_of.result c.index_blocks_of.result c.free_blocks_of.result
    es c.in_ok-blocks.blocks c.form_of-form.ensures c.data_blocks_of.ensures c.index_blocks_of.ensures c.free_blocks_of.ensures c.in_ok-blocks.ensures.whole

pub returns-clause-bytes : goal.returns-clause-bytes
returns-clause-bytes c = c.in_ok-blocks.ensures.bytes ∙ ap (λ (form : DirectoryForm). dir_blocks form c.args.dir c.args.parent c.args.entries.now) c.form_of-form.ensures

pub returns-clause-index : goal.returns-clause-index
returns-clause-index c = c.index_blocks_of.ensures ∙ ap (λ (form : DirectoryForm). index_blocks_of form c.args.entries.now) c.form_of-form.ensures

pub returns-clause-free : goal.returns-clause-free
returns-clause-free c = c.free_blocks_of.ensures ∙ ap (λ (form : DirectoryForm). free_blocks_of form c.args.entries.now) c.form_of-form.ensures
