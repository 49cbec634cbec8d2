-- What a reader of attributes answers.
use Rattle.std.specs.Prelude.{◌≡◌, List, Result, Ok, Err}
use Rattle.xfs_attr.specs.declared.attributes.Attr.{Attr}
use Rattle.xfs_attr.specs.declared.attributes.AttrFault.{AttrFault}
use Rattle.xfs_attr.specs.declared.attributes.AttrFault.TheVariants.{Unsupported, Unsound, NoMemory}

-- the answer is the one that is due, or want of memory stands in its place
abbrev pub IsReading : Result (List Attr) AttrFault → Result (List Attr) AttrFault → Type 0
IsReading due (Ok attrs) = due ≡ Ok attrs
IsReading due (Err (Unsupported what)) = due ≡ Err (Unsupported what)
IsReading due (Err Unsound) = due ≡ Err Unsound
IsReading due (Err NoMemory) = Unit {0}
