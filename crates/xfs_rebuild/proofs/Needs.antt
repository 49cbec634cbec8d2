-- Whether names would have to change, from the lists that are judged.
use Rattle.std.proofs.Common.{◌≡◌, ℕ, Bool, true, false, if◌then◌else◌, List, map, subst, ◌∙◌, sym}
use Rattle.std.specs.Option.{is_some}
use Rattle.xfs_dirdata.specs.declared.records.EntryRec.{EntryRec}
use Rattle.xfs_naming.specs.Naming.{AreNamed, naming_laws}
use Rattle.xfs_volume.specs.Laws.{first_broken}
use Rattle.xfs_volume.specs.declared.directories.DirRec.{DirRec}
use Rattle.xfs_volume.specs.declared.files.FileRec.{FileRec}
use Rattle.xfs_render.specs.declared.wanted_slots.SlotWanted.{SlotWanted}
use Rattle.xfs_salvage.specs.declared.found.Salvaged.{Salvaged}
use Rattle.xfs_request.specs.Slots.{links_due}
use Rattle.xfs_rebuild.specs.Names.{AreDueNames, due_dirs, due_files, made_files, needs_names, with_made_files, with_nlink}
use Rattle.xfs_rebuild.specs.NamesJudged.{AreNamesJudged}
use Rattle.xfs_rebuild.specs.declared.names.DueNames.{DueNames}
use Rattle.xfs_rebuild.specs.declared.names.Judged.{Judged}
use Rattle.xfs_rebuild.specs.declared.names.Judged.TheVariants.{Change, Stay}

-- the files that the volume then has, from the lists that they are made of
pub files_due : (root : ℕ) (kept : Salvaged) (slots : List SlotWanted) (dues : List ℕ) (before files : List FileRec)
    → dues ≡ map (links_due root kept.files kept.entries) kept.files → before ≡ kept.files
    → ((due : FileRec → ℕ) → dues ≡ map due before → files ≡ with_made_files (made_files slots) (map (λ (f : FileRec). with_nlink f (due f)) before))
    → files ≡ due_files root kept slots
unfolding due_files
files_due root kept slots dues before files due same made =
    let links = links_due root kept.files kept.entries in
    made links (due ∙ (λ i. map links (sym same i))) ∙ (λ i. with_made_files (made_files slots) (map (λ (f : FileRec). with_nlink f (links f)) (same i)))

pub needs_are : (root : ℕ) (kept : Salvaged) (slots : List SlotWanted) (names : DueNames) (files : List FileRec) (entries : List EntryRec) (dirs : List DirRec) (breaks : Bool)
    → AreDueNames root kept slots names → files ≡ names.files → entries ≡ names.entries → dirs ≡ names.dirs
    → breaks ≡ is_some (first_broken (naming_laws root files entries dirs)) → needs_names root kept slots ≡ breaks
unfolding needs_names
needs_are root kept slots names files entries dirs breaks are a b c tested =
    let all : files ≡ due_files root kept slots = a ∙ are.files' in
    let own : entries ≡ kept.entries = b ∙ are.entries' in
    let directories : dirs ≡ due_dirs root kept = c ∙ are.dirs' in
    sym (tested ∙ (λ i. is_some (first_broken (naming_laws root (all i) (own i) (directories i)))))

-- what is handed out where names have to change, and where they stay
pub is_judged : (root : ℕ) (kept : Salvaged) (slots : List SlotWanted) (breaks : Bool) (names : DueNames) (judged : Judged) → needs_names root kept slots ≡ breaks
    → AreDueNames root kept slots names → AreNamed names.files names.entries names.dirs → judged ≡ (if breaks then Change names else Stay names.clusters)
    → AreNamesJudged root kept slots judged
is_judged root kept slots true names judged needs are named is = subst (AreNamesJudged root kept slots) (sym is) (needs, are, named)
is_judged root kept slots false names judged needs are named is = subst (AreNamesJudged root kept slots) (sym is) (needs, are.clusters')

pub still_named : (names : DueNames) (files : List FileRec) (entries : List EntryRec) (dirs : List DirRec) → files ≡ names.files → entries ≡ names.entries → dirs ≡ names.dirs
    → AreNamed files entries dirs → AreNamed names.files names.entries names.dirs
still_named names files entries dirs a b c named =
    subst (λ (xs : List FileRec). AreNamed xs names.entries names.dirs) a
    (subst (λ (xs : List EntryRec). AreNamed files xs names.dirs) b (subst (λ (xs : List DirRec). AreNamed files entries xs) c named))
