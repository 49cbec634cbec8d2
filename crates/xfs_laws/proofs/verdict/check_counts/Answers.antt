use Rattle.std.proofs.Common.{◌≡◌, ℕ, ◌≤◌, ◌++◌, List, length, le_of_eq, sym, ap, ◌∙◌, subst}
use Rattle.xfs_geom.specs.Volumes.{volume_of}
use Rattle.xfs_volume.specs.declared.files.FileRec.{FileRec}
use Rattle.xfs_volume.specs.declared.groups.GroupRec.{GroupRec}
use Rattle.xfs_volume.specs.Laws.{first_broken}
use Rattle.xfs_volume.proofs.First.{first_behind, first_in}
use Rattle.xfs_laws.specs.Counting.{AllHaveChunks, FilesOrdered, AreShort, chunk_laws, counter_laws, list_laws}
use Rattle.xfs_laws.proofs.Conditions.{chunks, ordered, short}
use Rattle.xfs_laws.proofs.verdict.check_counts.Goals as goal

pub check_inodes-requires-clause-files : goal.check_inodes-requires-clause-files
check_inodes-requires-clause-files c =
    let P : List FileRec → Type 0 = FilesOrdered in
    subst P (sym c.as_slice.ensures) (ordered c.args.catalog.now.files 0 c.requires.names.files_ascend)

pub check_inodes-requires-clause-chunks : goal.check_inodes-requires-clause-chunks
check_inodes-requires-clause-chunks c =
    let P : List GroupRec → Type 0 = AllHaveChunks in
    subst P (sym c.as_slice-groups.ensures) (chunks (volume_of c.args.catalog.now.geometry) 0 c.args.catalog.now.groups c.requires.groups)

pub check_lists-requires-clause-short : goal.check_lists-requires-clause-short
check_lists-requires-clause-short c =
    let P : List GroupRec → Type 0 = AreShort in
    subst P (sym c.as_slice-groups.ensures) (short (volume_of c.args.catalog.now.geometry) 0 c.args.catalog.now.groups c.requires.groups)

pub check_inodes-requires-clause-groups : goal.check_inodes-requires-clause-groups
check_inodes-requires-clause-groups c = le_of_eq (ap length c.as_slice-groups.ensures ∙ c.requires.count)

pub check_counters-requires : goal.check_counters-requires
check_counters-requires c =
    subst (λ (n : ℕ). n ≤ 512) (sym (ap length c.as_slice-groups.ensures ∙ c.requires.count)) c.args.catalog.now.geometry.shape.groups.few

pub returns-in-Some : goal.returns-in-Some
returns-in-Some c =
    let k = c.args.catalog.now in
    let v = volume_of k.geometry in
    let same : first_broken (chunk_laws v c.as_slice.result.now c.as_slice-groups.result.now) ≡ first_broken (chunk_laws v k.files k.groups) =
    λ i. first_broken (chunk_laws v (c.as_slice.ensures i) (c.as_slice-groups.ensures i)) in
    sym (first_in (chunk_laws v k.files k.groups) (counter_laws v k.groups k.counts ++ list_laws k.groups) c.in-Some.law
    (sym same ∙ (sym c.check_inodes.ensures ∙ c.in-Some.is)))

pub returns-in-Some-check_counters : goal.returns-in-Some-check_counters
returns-in-Some-check_counters c =
    let k = c.args.catalog.now in
    let v = volume_of k.geometry in
    let same : first_broken (chunk_laws v c.as_slice.result.now c.as_slice-groups.result.now) ≡ first_broken (chunk_laws v k.files k.groups) =
    λ i. first_broken (chunk_laws v (c.as_slice.ensures i) (c.as_slice-groups.ensures i)) in
    let same_counters : first_broken (counter_laws v c.as_slice-groups.result.now k.counts) ≡ first_broken (counter_laws v k.groups k.counts) =
    λ i. first_broken (counter_laws v (c.as_slice-groups.ensures i) k.counts) in
    let none = sym same ∙ (sym c.check_inodes.ensures ∙ c.in_default.is) in
    let found = sym same_counters ∙ (sym c.check_counters.ensures ∙ c.in-Some-check_counters.is) in
    sym (first_behind (chunk_laws v k.files k.groups) (counter_laws v k.groups k.counts ++ list_laws k.groups) none
    ∙ first_in (counter_laws v k.groups k.counts) (list_laws k.groups) c.in-Some-check_counters.law found)

pub returns : goal.returns
returns c =
    let k = c.args.catalog.now in
    let v = volume_of k.geometry in
    let same : first_broken (chunk_laws v c.as_slice.result.now c.as_slice-groups.result.now) ≡ first_broken (chunk_laws v k.files k.groups) =
    λ i. first_broken (chunk_laws v (c.as_slice.ensures i) (c.as_slice-groups.ensures i)) in
    let same_counters : first_broken (counter_laws v c.as_slice-groups.result.now k.counts) ≡ first_broken (counter_laws v k.groups k.counts) =
    λ i. first_broken (counter_laws v (c.as_slice-groups.ensures i) k.counts) in
    let none = sym same ∙ (sym c.check_inodes.ensures ∙ c.in_default.is) in
    let none_counters = sym same_counters ∙ (sym c.check_counters.ensures ∙ c.in_default-check_counters.is) in
    c.check_lists.ensures
    ∙ ((λ i. first_broken (list_laws (c.as_slice-groups.ensures i)))
    ∙ sym (first_behind (chunk_laws v k.files k.groups) (counter_laws v k.groups k.counts ++ list_laws k.groups) none
    ∙ first_behind (counter_laws v k.groups k.counts) (list_laws k.groups) none_counters))
