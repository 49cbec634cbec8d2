use Rattle.std.proofs.Common.{Result, Ok, Err, IfOk, ◌≡◌, sym, subst, ℕ, ◌+◌, length, ◌∙◌, arith}
use Rattle.xfs_dirbuild.specs.declared.forms.DirectoryForm.{DirectoryForm}
use Rattle.xfs_dirbuild.specs.Forms.{data_blocks_of, index_blocks_of, free_blocks_of}
use Rattle.xfs_dirbuild.specs.Blocks.{dir_blocks}
use Rattle.xfs_dirbuild.specs.Placed.{IsBuilt, HaveMagics}
use Rattle.xfs_dirbuild.proofs.image.build_blocks.Goals as goal

weaker : {A E : Type 0} (r : Result A E) (P Q : A → Type 0) → ((x : A) → P x → Q x) → IfOk r P → IfOk r Q
weaker (Ok x) P Q turn h = turn x h
weaker (Err e) P Q turn h = tt

pub returns-in-Short-clause-whole : goal.returns-in-Short-clause-whole
returns-in-Short-clause-whole c =
    let es = c.args.entries.now in
    subst (λ (f : DirectoryForm). IfOk c.no_blocks.result (λ blocks. IsBuilt f c.args.dir c.args.parent (data_blocks_of f es) (index_blocks_of f es) (free_blocks_of f es) es blocks))
    (sym c.in-Short.is) (weaker c.no_blocks.result _ _ (λ blocks h. h c.args.dir c.args.parent es) c.no_blocks.ensures.whole)

pub returns-in-Short-clause-bytes : goal.returns-in-Short-clause-bytes
unfolding dir_blocks
returns-in-Short-clause-bytes c =
    let es = c.args.entries.now in
    subst (λ (f : DirectoryForm). IfOk c.no_blocks.result (λ blocks. blocks ≡ dir_blocks f c.args.dir c.args.parent es)) (sym c.in-Short.is) c.no_blocks.ensures.none

plus-nil : (n : ℕ) → n + 0 ≡ n
plus-nil n = omega arith

pub build_single-requires-clause-writable : goal.build_single-requires-clause-writable
build_single-requires-clause-writable c = c.requires.writable

pub build_single-requires-clause-names : goal.build_single-requires-clause-names
build_single-requires-clause-names c = c.requires.names

pub build_single-requires-clause-dir : goal.build_single-requires-clause-dir
build_single-requires-clause-dir c = c.requires.dir

pub build_single-requires-clause-parent : goal.build_single-requires-clause-parent
build_single-requires-clause-parent c = c.requires.parent

pub build_single-requires-clause-fits : goal.build_single-requires-clause-fits
build_single-requires-clause-fits c = c.requires.single c.in-Single.is

pub returns-in-Single-clause-count : goal.returns-in-Single-clause-count
returns-in-Single-clause-count c =
    let es = c.args.entries.now in
    subst (λ (f : DirectoryForm). IfOk c.build_single.result (λ blocks. length blocks ≡ data_blocks_of f es + index_blocks_of f es + free_blocks_of f es)) (sym c.in-Single.is) c.build_single.ensures.count

pub returns-in-Single-clause-magics : goal.returns-in-Single-clause-magics
returns-in-Single-clause-magics c =
    let es = c.args.entries.now in
    subst (λ (f : DirectoryForm). IfOk c.build_single.result (λ blocks. HaveMagics (data_blocks_of f es) (index_blocks_of f es) (free_blocks_of f es) blocks)) (sym c.in-Single.is) c.build_single.ensures.magics

pub returns-in-Single-clause-whole : goal.returns-in-Single-clause-whole
returns-in-Single-clause-whole c =
    let es = c.args.entries.now in
    subst (λ (f : DirectoryForm). IfOk c.build_single.result (λ blocks. IsBuilt f c.args.dir c.args.parent (data_blocks_of f es) (index_blocks_of f es) (free_blocks_of f es) es blocks)) (sym c.in-Single.is) c.build_single.ensures.whole

pub returns-in-Single-clause-bytes : goal.returns-in-Single-clause-bytes
returns-in-Single-clause-bytes c =
    let es = c.args.entries.now in
    subst (λ (f : DirectoryForm). IfOk c.build_single.result (λ blocks. blocks ≡ dir_blocks f c.args.dir c.args.parent es)) (sym c.in-Single.is) c.build_single.ensures.bytes

pub build_leaf-requires-clause-writable : goal.build_leaf-requires-clause-writable
build_leaf-requires-clause-writable c = c.requires.writable

pub build_leaf-requires-clause-names : goal.build_leaf-requires-clause-names
build_leaf-requires-clause-names c = c.requires.names

pub build_leaf-requires-clause-few : goal.build_leaf-requires-clause-few
build_leaf-requires-clause-few c = c.requires.few

pub build_leaf-requires-clause-dir : goal.build_leaf-requires-clause-dir
build_leaf-requires-clause-dir c = c.requires.dir

pub build_leaf-requires-clause-parent : goal.build_leaf-requires-clause-parent
build_leaf-requires-clause-parent c = c.requires.parent

pub build_leaf-requires-clause-fits : goal.build_leaf-requires-clause-fits
build_leaf-requires-clause-fits c = c.requires.leaf c.in-Leaf.is

pub returns-in-Leaf-clause-count : goal.returns-in-Leaf-clause-count
returns-in-Leaf-clause-count c =
    let es = c.args.entries.now in
    subst (λ (f : DirectoryForm). IfOk c.build_leaf.result (λ blocks. length blocks ≡ data_blocks_of f es + index_blocks_of f es + free_blocks_of f es)) (sym c.in-Leaf.is) (weaker c.build_leaf.result _ _ (λ blocks h. h ∙ sym (plus-nil _)) c.build_leaf.ensures.count)

pub returns-in-Leaf-clause-magics : goal.returns-in-Leaf-clause-magics
returns-in-Leaf-clause-magics c =
    let es = c.args.entries.now in
    subst (λ (f : DirectoryForm). IfOk c.build_leaf.result (λ blocks. HaveMagics (data_blocks_of f es) (index_blocks_of f es) (free_blocks_of f es) blocks)) (sym c.in-Leaf.is) c.build_leaf.ensures.magics

pub returns-in-Leaf-clause-whole : goal.returns-in-Leaf-clause-whole
returns-in-Leaf-clause-whole c =
    let es = c.args.entries.now in
    subst (λ (f : DirectoryForm). IfOk c.build_leaf.result (λ blocks. IsBuilt f c.args.dir c.args.parent (data_blocks_of f es) (index_blocks_of f es) (free_blocks_of f es) es blocks)) (sym c.in-Leaf.is) c.build_leaf.ensures.whole

pub returns-in-Leaf-clause-bytes : goal.returns-in-Leaf-clause-bytes
returns-in-Leaf-clause-bytes c =
    let es = c.args.entries.now in
    subst (λ (f : DirectoryForm). IfOk c.build_leaf.result (λ blocks. blocks ≡ dir_blocks f c.args.dir c.args.parent es)) (sym c.in-Leaf.is) c.build_leaf.ensures.bytes

pub build_node-requires-clause-writable : goal.build_node-requires-clause-writable
build_node-requires-clause-writable c = c.requires.writable

pub build_node-requires-clause-names : goal.build_node-requires-clause-names
build_node-requires-clause-names c = c.requires.names

pub build_node-requires-clause-few : goal.build_node-requires-clause-few
build_node-requires-clause-few c = c.requires.few

pub build_node-requires-clause-dir : goal.build_node-requires-clause-dir
build_node-requires-clause-dir c = c.requires.dir

pub build_node-requires-clause-parent : goal.build_node-requires-clause-parent
build_node-requires-clause-parent c = c.requires.parent

pub returns-in-Node-clause-count : goal.returns-in-Node-clause-count
returns-in-Node-clause-count c =
    let es = c.args.entries.now in
    subst (λ (f : DirectoryForm). IfOk c.build_node.result (λ blocks. length blocks ≡ data_blocks_of f es + index_blocks_of f es + free_blocks_of f es)) (sym c.in-Node.is) c.build_node.ensures.count

pub returns-in-Node-clause-magics : goal.returns-in-Node-clause-magics
returns-in-Node-clause-magics c =
    let es = c.args.entries.now in
    subst (λ (f : DirectoryForm). IfOk c.build_node.result (λ blocks. HaveMagics (data_blocks_of f es) (index_blocks_of f es) (free_blocks_of f es) blocks)) (sym c.in-Node.is) c.build_node.ensures.magics

pub returns-in-Node-clause-whole : goal.returns-in-Node-clause-whole
returns-in-Node-clause-whole c =
    let es = c.args.entries.now in
    subst (λ (f : DirectoryForm). IfOk c.build_node.result (λ blocks. IsBuilt f c.args.dir c.args.parent (data_blocks_of f es) (index_blocks_of f es) (free_blocks_of f es) es blocks)) (sym c.in-Node.is) c.build_node.ensures.whole

pub returns-in-Node-clause-bytes : goal.returns-in-Node-clause-bytes
returns-in-Node-clause-bytes c =
    let es = c.args.entries.now in
    subst (λ (f : DirectoryForm). IfOk c.build_node.result (λ blocks. blocks ≡ dir_blocks f c.args.dir c.args.parent es)) (sym c.in-Node.is) c.build_node.ensures.bytes

pub returns-in-Short-clause-count : goal.returns-in-Short-clause-count
returns-in-Short-clause-count c =
    let es = c.args.entries.now in
    subst (λ (f : DirectoryForm). IfOk c.no_blocks.result (λ blocks. length blocks ≡ data_blocks_of f es + index_blocks_of f es + free_blocks_of f es)) (sym c.in-Short.is) c.no_blocks.ensures.count

pub returns-in-Short-clause-magics : goal.returns-in-Short-clause-magics
returns-in-Short-clause-magics c =
    let es = c.args.entries.now in
    subst (λ (f : DirectoryForm). IfOk c.no_blocks.result (λ blocks. HaveMagics (data_blocks_of f es) (index_blocks_of f es) (free_blocks_of f es) blocks)) (sym c.in-Short.is) c.no_blocks.ensures.magics
