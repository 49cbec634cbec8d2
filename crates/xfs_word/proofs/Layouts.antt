-- Where the layouts of sealed objects have their fields.
use Rattle.std.proofs.Common.{inl, inr, lit≤, refl}
use Rattle.xfs_word.specs.Seal.{layout_of, IsInside, IsApart}
use Rattle.xfs_word.specs.declared.kinds.SealKind.{SealKind}
use Rattle.xfs_word.specs.declared.kinds.SealKind.TheVariants.{Super, Agf, Agi, Agfl, ShortTree, LongTree, Slot, DirData, DirFree, Index, Symlink}

-- each kind's fields lie inside the object
pub inside : (kind : SealKind) → IsInside (layout_of kind)
inside Super = record { checksum = lit≤ tt; identifier = tt; address = tt; owner = tt; lsn = lit≤ tt }
inside Agf = record { checksum = lit≤ tt; identifier = lit≤ tt; address = (refl, lit≤ tt); owner = tt; lsn = lit≤ tt }
inside Agi = record { checksum = lit≤ tt; identifier = lit≤ tt; address = (refl, lit≤ tt); owner = tt; lsn = lit≤ tt }
inside Agfl = record { checksum = lit≤ tt; identifier = lit≤ tt; address = (refl, lit≤ tt); owner = tt; lsn = lit≤ tt }
inside (ShortTree magic) = record { checksum = lit≤ tt; identifier = lit≤ tt; address = (refl, lit≤ tt); owner = (refl, lit≤ tt); lsn = lit≤ tt }
inside LongTree = record { checksum = lit≤ tt; identifier = lit≤ tt; address = (refl, lit≤ tt); owner = (refl, lit≤ tt); lsn = lit≤ tt }
inside Slot = record { checksum = lit≤ tt; identifier = lit≤ tt; address = (refl, lit≤ tt); owner = tt; lsn = lit≤ tt }
inside DirData = record { checksum = lit≤ tt; identifier = lit≤ tt; address = (refl, lit≤ tt); owner = (refl, lit≤ tt); lsn = lit≤ tt }
inside DirFree = record { checksum = lit≤ tt; identifier = lit≤ tt; address = (refl, lit≤ tt); owner = (refl, lit≤ tt); lsn = lit≤ tt }
inside (Index magic) = record { checksum = lit≤ tt; identifier = lit≤ tt; address = (refl, lit≤ tt); owner = (refl, lit≤ tt); lsn = lit≤ tt }
inside Symlink = record { checksum = lit≤ tt; identifier = lit≤ tt; address = (refl, lit≤ tt); owner = (refl, lit≤ tt); lsn = lit≤ tt }

-- each kind's fields lie beside its checksum
pub apart : (kind : SealKind) → IsApart (layout_of kind)
apart Super = record { identifier = tt; address = tt; owner = tt; lsn = inr (lit≤ tt) }
apart Agf = record { identifier = inl (lit≤ tt); address = inl (lit≤ tt); owner = tt; lsn = inl (lit≤ tt) }
apart Agi = record { identifier = inl (lit≤ tt); address = inl (lit≤ tt); owner = tt; lsn = inr (lit≤ tt) }
apart Agfl = record { identifier = inl (lit≤ tt); address = inl (lit≤ tt); owner = tt; lsn = inl (lit≤ tt) }
apart (ShortTree magic) = record { identifier = inl (lit≤ tt); address = inl (lit≤ tt); owner = inl (lit≤ tt); lsn = inl (lit≤ tt) }
apart LongTree = record { identifier = inl (lit≤ tt); address = inl (lit≤ tt); owner = inl (lit≤ tt); lsn = inl (lit≤ tt) }
apart Slot = record { identifier = inr (lit≤ tt); address = inr (lit≤ tt); owner = tt; lsn = inr (lit≤ tt) }
apart DirData = record { identifier = inr (lit≤ tt); address = inr (lit≤ tt); owner = inr (lit≤ tt); lsn = inr (lit≤ tt) }
apart DirFree = record { identifier = inr (lit≤ tt); address = inr (lit≤ tt); owner = inr (lit≤ tt); lsn = inr (lit≤ tt) }
apart (Index magic) = record { identifier = inr (lit≤ tt); address = inr (lit≤ tt); owner = inr (lit≤ tt); lsn = inr (lit≤ tt) }
apart Symlink = record { identifier = inr (lit≤ tt); address = inr (lit≤ tt); owner = inr (lit≤ tt); lsn = inr (lit≤ tt) }
