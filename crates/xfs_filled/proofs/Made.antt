-- A directory as it is built is the one that its entries give, and it is sound.
use Rattle.std.proofs.Common.{◌≡◌, ℕ, ◌+◌, ◌^◌, ◌≤◌, ◌&&◌, Bool, true, false, cond, nat_le, List, [], length, Some, None, arith, refl, sym, subst, ap, ◌∙◌}
use Rattle.std.specs.List.{All}
use Rattle.std.proofs.lemmas.Bool.{and_parts, leb-true}
use Rattle.xfs_dirbuild.specs.Blocks.{dir_blocks}
use Rattle.xfs_dirbuild.specs.Forms.{data_blocks_of, fits_leaf, fits_single, form_of, free_blocks_of, index_blocks_of}
use Rattle.xfs_dirbuild.specs.declared.forms.DirectoryForm.{DirectoryForm}
use Rattle.xfs_dirbuild.specs.declared.forms.DirectoryForm.TheVariants.{Short, Single, Leaf, Node}
use Rattle.xfs_dirdata.specs.Bytes.{short_bytes}
use Rattle.xfs_dirdata.specs.Written.{IsWritableEntry, short_length}
use Rattle.xfs_dirdata.specs.declared.records.EntryRec.{EntryRec}
use Rattle.xfs_geom.specs.Volumes.{Volume}
use Rattle.xfs_proto.specs.declared.protofile.ProtoNode.{ProtoNode}
use Rattle.xfs_filled.specs.Directories.{HasDirectoryImage, IsSoundDirectory, made_directory_at, made_directory, short_in}
use Rattle.xfs_filled.specs.Entries.{directories_in, entries_at, parent_of_place}
use Rattle.xfs_filled.specs.FileTrees.{is_directory_node}
use Rattle.xfs_filled.specs.Numbers.{number_of}
use Rattle.xfs_filled.specs.declared.directories.MadeDirectory.{MadeDirectory}
use Rattle.xfs_filled.proofs.Shorts.{short_long}
use Rattle.xfs_filled.proofs.Sized.{data_few, free_few, index_few}

short_is : (form : DirectoryForm) (parent : ℕ) (es : List EntryRec) (short : List ℕ) → (form ≡ Short → short ≡ short_bytes parent es) → ((form ≡ Short → ⊥) → short ≡ []) → short ≡ short_in form parent es
short_is Short parent es short are none = are refl
short_is Single parent es short are none = none (λ is. cc)
short_is Leaf parent es short are none = none (λ is. cc)
short_is Node parent es short are none = none (λ is. cc)

pub made_is : (es : List EntryRec) (dir parent : ℕ) (short : List ℕ) (datas indexes frees : ℕ) (blocks : List (List ℕ)) (links : ℕ)
    → (form_of es 336 ≡ Short → short ≡ short_bytes parent es) → ((form_of es 336 ≡ Short → ⊥) → short ≡ []) → datas ≡ data_blocks_of (form_of es 336) es
    → indexes ≡ index_blocks_of (form_of es 336) es → frees ≡ free_blocks_of (form_of es 336) es → blocks ≡ dir_blocks (form_of es 336) dir parent es → links ≡ 2 + directories_in es
    → record { short = short; data_blocks = datas; index_blocks = indexes; free_blocks = frees; blocks = blocks; links = links } ≡ made_directory es dir parent
made_is es dir parent short datas indexes frees blocks links are none is_data is_index is_free is_blocks is_links =
    rw (short_is (form_of es 336) parent es short are none, is_data, is_index, is_free, is_blocks, is_links) refl

short_fits : (parent : ℕ) (es : List EntryRec) → length (short_in (form_of es 336) parent es) ≤ 336
short_fits parent es = by_short (nat_le (6 + short_length es) 336 && fits_single es) refl
  where
    by_leaf : (r : Bool) → length (short_in (cond r Leaf Node) parent es) ≤ 336
    by_leaf true = omega arith
    by_leaf false = omega arith

    by_single : (r : Bool) → length (short_in (cond r Single (cond (fits_leaf es) Leaf Node)) parent es) ≤ 336
    by_single true = omega arith
    by_single false = by_leaf (fits_leaf es)

    by_short : (r : Bool) → (nat_le (6 + short_length es) 336 && fits_single es) ≡ r → length (short_in (cond r Short (cond (fits_single es) Single (cond (fits_leaf es) Leaf Node))) parent es) ≤ 336
    by_short true is =
        let few = leb-true (6 + short_length es) 336 (and_parts (nat_le (6 + short_length es) 336) (fits_single es) is).0 in
        let long = short_long parent es in
        omega (arith, few, long)
    by_short false is = by_single (fits_single es)

pub made_sound : (es : List EntryRec) (dir parent : ℕ) → All IsWritableEntry es → length es ≤ 2 ^ 24
    → length (made_directory es dir parent).blocks ≡ (made_directory es dir parent).data_blocks + ((made_directory es dir parent).index_blocks + (made_directory es dir parent).free_blocks)
    → IsSoundDirectory (made_directory es dir parent)
made_sound es dir parent writable few counted =
    record {
      data_few = data_few (form_of es 336) es writable few;
      index_few = index_few (form_of es 336) es few;
      free_few = free_few (form_of es 336) es writable few;
      counted = counted;
      fits = short_fits parent es;
    }

-- the directory at a place
pub directory_is : (v : Volume) (starts : List ℕ) (ns : List ProtoNode) (k : ℕ) (es : List EntryRec) (dir parent : ℕ) (made : MadeDirectory) → is_directory_node ns k ≡ true
    → es ≡ entries_at v starts ns k → dir ≡ number_of v starts k → parent ≡ parent_of_place v starts ns k → made ≡ made_directory es dir parent → Some made ≡ made_directory_at v starts ns k
directory_is v starts ns k es dir parent made is are own above says =
    ap (λ (d : MadeDirectory). Some d) (says ∙ rw (are, own, above) refl)
    ∙ sym (ap (λ (t : Bool). cond t (Some (made_directory (entries_at v starts ns k) (number_of v starts k) (parent_of_place v starts ns k))) None) is)

pub image_is : (v : Volume) (starts : List ℕ) (ns : List ProtoNode) (k : ℕ) (es : List EntryRec) (dir parent : ℕ) → es ≡ entries_at v starts ns k → dir ≡ number_of v starts k
    → parent ≡ parent_of_place v starts ns k → HasDirectoryImage es dir parent → HasDirectoryImage (entries_at v starts ns k) (number_of v starts k) (parent_of_place v starts ns k)
image_is v starts ns k es dir parent are own above has =
    subst (λ (xs : List EntryRec). HasDirectoryImage xs (number_of v starts k) (parent_of_place v starts ns k)) are
    (subst (λ (d : ℕ). HasDirectoryImage es d (parent_of_place v starts ns k)) own (subst (λ (p : ℕ). HasDirectoryImage es dir p) above has))
