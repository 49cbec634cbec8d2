-- What the ninth law says by kinds.
use Rattle.std.proofs.Common.{◌≡◌, ℕ, Bool, true, false, cond, List, Option, Some, None, refl, sym, ap, ◌∙◌}
use Rattle.std.specs.Option.{option_map}
use Rattle.xfs_dirdata.specs.declared.records.EntryRec.{EntryRec}
use Rattle.xfs_volume.specs.declared.files.FileRec.{FileRec}
use Rattle.xfs_volume.specs.Laws.{law_at}
use Rattle.xfs_naming.specs.declared.kinds.FileKind.{FileKind}
use Rattle.xfs_naming.specs.Naming.{is_system, links_of, links_at}
use Rattle.xfs_naming.specs.Private.Kinds.{kind_of, links_due, empty_links}

-- the ninth law of a file of the system's own, and of another by its kind
pub system_says : (root : ℕ) (files : List FileRec) (entries : List EntryRec) (ino : ℕ) (o : Option FileRec) (f : FileRec) → is_system root ino ≡ true → Some f ≡ o
    → empty_links f ino ≡ links_at root files entries o ino
system_says root files entries ino o f system is =
    sym (ap (λ (t : Bool). cond t (empty_links f ino) (law_at 9 ino f.core.nlink (links_of files entries f))) system) ∙ ap (λ (p : Option FileRec). links_at root files entries p ino) is

pub missing_says : (root : ℕ) (files : List FileRec) (entries : List EntryRec) (ino : ℕ) (o : Option FileRec) → None ≡ o → law_at 9 ino 0 1 ≡ links_at root files entries o ino
missing_says root files entries ino o is = ap (λ (p : Option FileRec). links_at root files entries p ino) is

pub other_says : (root : ℕ) (files : List FileRec) (entries : List EntryRec) (ino : ℕ) (o : Option FileRec) (k : FileKind) → is_system root ino ≡ false → Some k ≡ option_map kind_of o
    → law_at 9 ino k.nlink (links_due files entries k) ≡ links_at root files entries o ino
other_says root files entries ino None k other is = cc
other_says root files entries ino (Some f) k other is =
    ap (λ (j : FileKind). law_at 9 ino j.nlink (links_due files entries j)) (held k (kind_of f) is)
    ∙ sym (ap (λ (t : Bool). cond t (empty_links f ino) (law_at 9 ino f.core.nlink (links_of files entries f))) other)
  where
    held : (a b : FileKind) → ◌≡◌ {A = Option FileKind} (Some a) (Some b) → a ≡ b
    held a b e = cc

pub none_kind : (o : Option FileRec) → ◌≡◌ {A = Option FileKind} None (option_map kind_of o) → None ≡ o
none_kind None is = refl
none_kind (Some f) is = cc
