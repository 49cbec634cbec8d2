-- Blocks that are not sealed as one object, of clusters one behind the other.
use Rattle.std.proofs.Common.{◌≡◌, ℕ, ◌+◌, Bool, true, false, not, ◌&&◌, if◌then◌else◌, List, [], ◌∷◌, ◌++◌, Option, Result, Ok, Err, refl, sym, ap, subst, ◌∙◌}
use Rattle.std.specs.List.{list_all}
use Rattle.std.specs.Option.{ForSome}
use Rattle.std.specs.Prelude.{IfOk}
use Rattle.std.proofs.lemmas.List.Folds.{list_all-append}
use Rattle.xfs_disk.specs.Blocks.{Image}
use Rattle.xfs_geom.specs.Volumes.{Volume}
use Rattle.xfs_volume.specs.declared.clusters.ClusterRec.{ClusterRec}
use Rattle.xfs_image.specs.Candidates.{has_whole_seal}
use Rattle.xfs_groups.specs.Answers.{are_bare, hold_no_object}
use Rattle.xfs_groups.specs.Private.Chosen.{chosen_rec}
use Rattle.xfs_groups.specs.declared.scanned.ScannedGroup.{ScannedGroup}
use Rattle.xfs_groups.proofs.Rows.{all_more}

-- both of two tests that pass together
pub and_first : (a b : Bool) → (a && b) ≡ true → a ≡ true
and_first true b both = refl
and_first false b both = both

pub and_second : (a b : Bool) → (a && b) ≡ true → b ≡ true
and_second true b both = both
and_second false b both = absurd (cc)

not_so : (b : Bool) → not b ≡ true → b ≡ false
not_so true is = sym is
not_so false is = refl

-- of blocks that are bare so are those but for the last, and that one
pub bare_front : (v : Volume) (image : Image) (first k : ℕ) → are_bare v image first (k + 1) ≡ true → are_bare v image first k ≡ true
bare_front v image first k bare =
    let p : ℕ → Bool = λ block. not (has_whole_seal v image block) in
    and_first (are_bare v image first k) (p (first + k)) (sym (all_more p first k) ∙ bare)

pub bare_last : (v : Volume) (image : Image) (first k : ℕ) → are_bare v image first (k + 1) ≡ true → has_whole_seal v image (first + k) ≡ false
bare_last v image first k bare =
    let p : ℕ → Bool = λ block. not (has_whole_seal v image block) in
    not_so (has_whole_seal v image (first + k)) (and_second (are_bare v image first k) (p (first + k)) (sym (all_more p first k) ∙ bare))

-- of clusters that are bare so are those in front, and those behind
module _ (v : Volume) (image : Image) (old more new : List ClusterRec) (is : new ≡ old ++ more) (bare : hold_no_object v image new ≡ true) where
  both : (hold_no_object v image old && hold_no_object v image more) ≡ true
  both =
      let p : ClusterRec → Bool = λ c. are_bare v image c.block 4 in
      sym (list_all-append p old more) ∙ (sym (ap (list_all p) is) ∙ bare)

  pub bare_before : hold_no_object v image old ≡ true
  bare_before = and_first (hold_no_object v image old) (hold_no_object v image more) both

  pub bare_behind : hold_no_object v image more ≡ true
  bare_behind = and_second (hold_no_object v image old) (hold_no_object v image more) both

-- and a cluster that was added
pub bare_here : (v : Volume) (image : Image) (named : List ℕ) (cluster : ℕ) (b : Bool) (old new : List ClusterRec)
    → new ≡ old ++ (if b then (chosen_rec v named cluster ∷ []) else []) → hold_no_object v image new ≡ true → b ≡ true → are_bare v image cluster 4 ≡ true
bare_here v image named cluster b old new is bare so =
    let added : Bool → List ClusterRec = λ t. if t then (chosen_rec v named cluster ∷ []) else [] in
    let one : hold_no_object v image (added true) ≡ true =
    subst (λ (t : Bool). hold_no_object v image (added t) ≡ true) so (bare_behind v image old (added b) new is bare) in
    and_first (are_bare v image cluster 4) true one

-- where each block was looked at, nothing is asked
pub looked_at : {E : Type 0} (result : Result ScannedGroup E) (holds : Option Image) (looks : Bool) (bare : Image → List ClusterRec → Bool) (due : Image → List ClusterRec)
    → IfOk result (λ found. ForSome holds (λ image. found.clusters.items ≡ due image))
    → IfOk result (λ found. ForSome holds (λ image. (looks ≡ false → bare image found.clusters.items ≡ true) → found.clusters.items ≡ due image))
looked_at (Ok found) holds looks bare due all = λ image told none. all image told
looked_at (Err fault) holds looks bare due all = tt
