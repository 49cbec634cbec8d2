-- What a short form states, entry by entry.
use Rattle.std.proofs.Common.{◌≡◌, ℕ, suc, Bool, true, false, ◌+◌, ◌==◌, ◌&&◌, nat_le, ◌++◌, [], ◌∷◌, List, length, if◌then◌else◌, Option, Some, None, refl, ◌∙◌, ap}
use Rattle.std.specs.Option.{option_map}
use Rattle.xfs_dirdata.specs.declared.records.EntryRec.{EntryRec}
use Rattle.xfs_dirdata.specs.Short.{short_entry, is_short_entry, short_entries, short_size_at, data_end_at}
use Rattle.xfs_dirdata.proofs.Leading.{behind, behind-more, behind-all}

-- one entry more
pub entries-more : (dir : ℕ) (form : List ℕ) (tail n m at least : ℕ) (done more : List EntryRec) (whole : Option (List EntryRec)) (next end : ℕ) → n ≡ suc m
    → more ≡ done ++ short_entry dir form at ∷ [] → next ≡ at + short_size_at form at → end ≡ data_end_at form at
    → is_short_entry form at least ≡ true → whole ≡ behind done (short_entries dir form tail n at least)
    → whole ≡ behind more (short_entries dir form tail m next end)
unfolding short_entries
entries-more dir form tail n m at least done more whole next end count one on close sound leads =
    let step : short_entries dir form tail (suc m) at least
    ≡ option_map (λ rest. short_entry dir form at ∷ rest) (short_entries dir form tail m (at + short_size_at form at) (data_end_at form at)) = rw sound refl in
    let all = leads ∙ (ap (λ (k : ℕ). behind done (short_entries dir form tail k at least)) count ∙ (ap (behind done) step ∙ behind-more done _ _)) in
    rw (one, on, close) all

-- an entry that breaks a rule
pub entries-unsound : (dir : ℕ) (form : List ℕ) (tail n m at least : ℕ) (done : List EntryRec) (whole : Option (List EntryRec)) → n ≡ suc m
    → is_short_entry form at least ≡ false → whole ≡ behind done (short_entries dir form tail n at least) → whole ≡ None
unfolding short_entries
entries-unsound dir form tail n m at least done whole count unsound leads =
    let step : short_entries dir form tail (suc m) at least ≡ None = rw unsound refl in
    leads ∙ (ap (λ (k : ℕ). behind done (short_entries dir form tail k at least)) count ∙ ap (behind done) step)

closing : (done : List EntryRec) (last : Bool) → behind done (if last then Some [] else None) ≡ (if last then Some done else None)
closing done true = behind-all done
closing done false = refl

-- the end
pub entries-end : (dir : ℕ) (form : List ℕ) (tail n at least : ℕ) (done : List EntryRec) (whole : Option (List EntryRec)) (last : Bool) → n ≡ 0
    → (at == length form && nat_le (least + tail) 4096) ≡ last → whole ≡ behind done (short_entries dir form tail n at least)
    → whole ≡ (if last then Some done else None)
unfolding short_entries
entries-end dir form tail n at least done whole last count fits leads =
    leads ∙ (ap (λ (k : ℕ). behind done (short_entries dir form tail k at least)) count
    ∙ (ap (λ (b : Bool). behind done (if◌then◌else◌ {A = Option (List EntryRec)} b (Some []) None)) fits ∙ closing done last))
