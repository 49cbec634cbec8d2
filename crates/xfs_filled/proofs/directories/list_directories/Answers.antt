use Rattle.std.proofs.Common.{◌≡◌, inl, inr, ℕ, ◌+◌, ◌<◌, true, ◌++◌, List, Option, [], ◌∷◌, zero, suc, arith, sym, subst, ap₂, ◌∙◌}
use Rattle.std.proofs.lemmas.Result.{IfOk-from_err}
use Rattle.std.specs.List.{All}
use Rattle.std.proofs.lemmas.Bool.{cases_lt}
use Rattle.std.proofs.lemmas.List.Elements.{All-append, All-nil}
use Rattle.std.proofs.lemmas.List.FromFn.{map-range_with_len_more}
use borrow.Author.Count.{falls}
use Rattle.xfs_geom.specs.Volumes.{Volume, volume_of}
use Rattle.xfs_proto.specs.declared.protofile.ProtoNode.{ProtoNode}
use Rattle.xfs_filled.specs.Directories.{HasDirectoryImage, IsSoundWhere, made_directory_at}
use Rattle.xfs_filled.specs.Entries.{entries_at, parent_of_place}
use Rattle.xfs_filled.specs.FileTrees.{is_directory_node}
use Rattle.xfs_filled.specs.Numbers.{number_of}
use Rattle.xfs_filled.specs.declared.directories.MadeDirectory.{MadeDirectory}
use Rattle.xfs_filled.proofs.directories.list_directories.Goals as goal

one_sound : (d : Option MadeDirectory) → IsSoundWhere d → All IsSoundWhere (d ∷ [])
one_sound d sound zero e low = sound
one_sound d sound (suc k) e low = absurd (omega (arith, low))

abbrev IsBuiltAt : Volume → List ℕ → List ProtoNode → ℕ → Type 0
IsBuiltAt v starts ns k = is_directory_node ns k ≡ true → HasDirectoryImage (entries_at v starts ns k) (number_of v starts k) (parent_of_place v starts ns k)

next_image : (v : Volume) (starts : List ℕ) (ns : List ProtoNode) (k j : ℕ) → j < k + 1 → ((i : ℕ) → i < k → IsBuiltAt v starts ns i) → IsBuiltAt v starts ns k → IsBuiltAt v starts ns j
next_image v starts ns k j low first last =
    elim (cases_lt j k) [
      | inl less ↦ first j less
      | inr far ↦ let same : k ≡ j = omega (arith, far, low) in subst (IsBuiltAt v starts ns) same last
    ]

pub loop-k-preserved : goal.loop-k-preserved
loop-k-preserved c =
    let f = made_directory_at (volume_of c.args.g.now) c.args.starts.now c.args.nodes.now in
    let k = c.loop-k.k in
    let now = c.loop-k.all.items in
    let made = c.in_ok-directory_at.field-0 in
    record {
      all = c.in_ok-push.ensures.items ∙ ap₂ (λ (xs : List (Option MadeDirectory)) (x : Option MadeDirectory). xs ++ x ∷ []) c.loop-k.invariant.all c.in_ok-directory_at.ensures.value
          ∙ sym (map-range_with_len_more f 0 k k (omega arith));
      sound = subst (All IsSoundWhere) (sym c.in_ok-push.ensures.items) (All-append IsSoundWhere now (made ∷ []) c.loop-k.invariant.sound (one_sound made c.in_ok-directory_at.ensures.sound));
      images = λ j low. next_image (volume_of c.args.g.now) c.args.starts.now c.args.nodes.now c.loop-k.k j low c.loop-k.invariant.images c.in_ok-directory_at.ensures.image;
    }

pub returns-clause-images : goal.returns-clause-images
returns-clause-images c =
    record { each = λ j low is. let done = c.loop-k-test.false in c.loop-k.invariant.images j (omega (arith, low, done)) is }

pub list_entries-requires-clause-placed : goal.list_entries-requires-clause-placed
list_entries-requires-clause-placed c = c.requires.placed

pub list_entries-requires-clause-files : goal.list_entries-requires-clause-files
list_entries-requires-clause-files c = c.requires.files

pub directory_at-requires-clause-placed : goal.directory_at-requires-clause-placed
directory_at-requires-clause-placed c = c.requires.placed

pub directory_at-requires-clause-files : goal.directory_at-requires-clause-files
directory_at-requires-clause-files c = c.requires.files

pub directory_at-requires-clause-entries : goal.directory_at-requires-clause-entries
directory_at-requires-clause-entries c = c.deref.ensures.value ∙ c.in_ok-entries.ensures

pub directory_at-requires-clause-inside : goal.directory_at-requires-clause-inside
directory_at-requires-clause-inside c = c.loop-k-test.true

pub loop-k-init : goal.loop-k-init
loop-k-init c = record {
  all = c.new-all.ensures.items;
  sound = subst (All IsSoundWhere) (sym c.new-all.ensures.items) (All-nil IsSoundWhere);
  images = λ j low. absurd (omega (arith, low));
}

pub loop-k-smaller : goal.loop-k-smaller
loop-k-smaller c = falls _ c.loop-k.k c.loop-k-test.true

pub returns-in_err-entries : goal.returns-in_err-entries
returns-in_err-entries c = record {
  value = IfOk-from_err c.from_residual.result _ c.from_residual.ensures.0;
  sound = IfOk-from_err c.from_residual.result _ c.from_residual.ensures.0;
  images = IfOk-from_err c.from_residual.result _ c.from_residual.ensures.0;
}

pub returns-in_err-directory_at : goal.returns-in_err-directory_at
returns-in_err-directory_at c = record {
  value = IfOk-from_err c.from_residual-in_err-directory_at.result _ c.from_residual-in_err-directory_at.ensures.0;
  sound = IfOk-from_err c.from_residual-in_err-directory_at.result _ c.from_residual-in_err-directory_at.ensures.0;
  images = IfOk-from_err c.from_residual-in_err-directory_at.result _ c.from_residual-in_err-directory_at.ensures.0;
}

pub returns-in_err-push : goal.returns-in_err-push
returns-in_err-push c = record {
  value = IfOk-from_err c.from_residual-in_err-push.result _ c.from_residual-in_err-push.ensures.0;
  sound = IfOk-from_err c.from_residual-in_err-push.result _ c.from_residual-in_err-push.ensures.0;
  images = IfOk-from_err c.from_residual-in_err-push.result _ c.from_residual-in_err-push.ensures.0;
}

pub returns-clause-sound : goal.returns-clause-sound
returns-clause-sound c = c.loop-k.invariant.sound
