-- Lawful records of inodes: they are few, and those of them that pass a test are lawful too.
use Rattle.std.proofs.Common.{◌≡◌, ℕ, ◌+◌, ◌*◌, ◌/◌, ◌%◌, ◌^◌, ◌<◌, ◌≤◌, Bool, true, false, ◌&&◌, ◌==◌, if◌then◌else◌, List, [], ◌∷◌, length, Option, Some, None, refl, arith}
use Rattle.std.specs.Prelude.{IsTrue}
use Rattle.std.specs.List.{filter}
use Rattle.std.proofs.lemmas.Bool.{and_from, and_parts, eqb-true, leb-true, lt-ltb, ltb-true}
use Rattle.xfs_geom.specs.Conversions.{group_length}
use Rattle.xfs_geom.specs.Volumes.{Volume}
use Rattle.xfs_geom.specs.declared.records.InoRec.{InoRec}
use Rattle.xfs_kinds.specs.InodeTrees.{ascends_inode, inode_shape, is_chunk, is_first_inode}
use Rattle.xfs_tree.specs.Rules.{are_lawful}

-- a chunk begins at a multiple of 64 inodes and ends inside its group
record IsInside (v : Volume) (ag : ℕ) (r : InoRec) : Type 0 where
  whole : r.startino % 64 ≡ 0
  ends : r.startino / 8 + 8 ≤ group_length v ag

chunk_inside : (v : Volume) (ag : ℕ) (r : InoRec) → is_chunk v ag r ≡ true → IsInside v ag r
chunk_inside v ag r chunk =
    let clear = and_parts _ _ chunk in
    let lies = and_parts _ _ clear.0 in
    let first = and_parts _ _ lies.0 in
    let start = and_parts (r.startino % 64 == 0) _ first.1 in
    let ends = and_parts _ _ lies.1 in
    record { whole = eqb-true _ _ start.0; ends = leb-true _ _ ends.1 }

-- behind a record there is room for no more than fill the group
behind_few : (magic : ℕ) (v : Volume) (ag : ℕ) (before : InoRec) (rs : List InoRec) → IsInside v ag before
    → IsTrue (are_lawful (inode_shape magic ag) v (Some before) rs) → 64 * length rs + before.startino + 64 ≤ 8 * group_length v ag
behind_few magic v ag before [] inside lawful = omega (arith, inside.whole, inside.ends)
behind_few magic v ag before (r ∷ rest) inside lawful =
    let parts = and_parts (is_chunk v ag r && ascends_inode (Some before) r) _ lawful in
    let own = and_parts (is_chunk v ag r) (ascends_inode (Some before) r) parts.0 in
    let next = chunk_inside v ag r own.0 in
    let up : before.startino < r.startino = ltb-true before.startino r.startino own.1 in
    let so = behind_few magic v ag r rest next parts.1 in
    omega (arith, so, up, inside.whole, next.whole)

pub chunks_few : (magic : ℕ) (v : Volume) (ag : ℕ) (rs : List InoRec) → IsTrue (are_lawful (inode_shape magic ag) v None rs) → 8 * length rs ≤ group_length v ag
chunks_few magic v ag [] lawful = omega arith
chunks_few magic v ag (r ∷ rest) lawful =
    let parts = and_parts (is_chunk v ag r && true) _ lawful in
    let own = and_parts (is_chunk v ag r) true parts.0 in
    let so = behind_few magic v ag r rest (chunk_inside v ag r own.0) parts.1 in
    omega (arith, so)

-- what is lawful behind a record is lawful behind one in front of that
ascends_far : (before : Option InoRec) (r s : InoRec) → ascends_inode before r ≡ true → ascends_inode (Some r) s ≡ true → ascends_inode before s ≡ true
ascends_far None r s low high = refl
ascends_far (Some b) r s low high = lt-ltb b.startino s.startino (omega (arith, ltb-true b.startino r.startino low, ltb-true r.startino s.startino high))

lawful_far : (magic : ℕ) (v : Volume) (ag : ℕ) (before : Option InoRec) (r : InoRec) (rs : List InoRec) → ascends_inode before r ≡ true
    → IsTrue (are_lawful (inode_shape magic ag) v (Some r) rs) → IsTrue (are_lawful (inode_shape magic ag) v before rs)
lawful_far magic v ag before r [] low lawful = refl
lawful_far magic v ag before r (s ∷ rest) low lawful =
    let parts = and_parts (is_chunk v ag s && ascends_inode (Some r) s) _ lawful in
    let own = and_parts (is_chunk v ag s) (ascends_inode (Some r) s) parts.0 in
    and_from (is_chunk v ag s && ascends_inode before s) _ (and_from (is_chunk v ag s) (ascends_inode before s) own.0 (ascends_far before r s low own.1)) parts.1

pub chunks_kept : (magic other : ℕ) (v : Volume) (ag : ℕ) (p : InoRec → Bool) (before : Option InoRec) (rs : List InoRec)
    → IsTrue (are_lawful (inode_shape magic ag) v before rs) → IsTrue (are_lawful (inode_shape other ag) v before (filter p rs))
chunks_kept magic other v ag p before [] lawful = refl
chunks_kept magic other v ag p before (r ∷ rest) lawful =
    let parts = and_parts (is_chunk v ag r && ascends_inode before r) _ lawful in
    let own = and_parts (is_chunk v ag r) (ascends_inode before r) parts.0 in
    let so = chunks_kept magic other v ag p (Some r) rest parts.1 in
    by_case (p r) parts.0 own.1 so
  where
    by_case : (t : Bool) → (is_chunk v ag r && ascends_inode before r) ≡ true → ascends_inode before r ≡ true
        → IsTrue (are_lawful (inode_shape other ag) v (Some r) (filter p rest))
        → IsTrue (are_lawful (inode_shape other ag) v before (if t then r ∷ filter p rest else filter p rest))
    by_case true own low so = and_from (is_chunk v ag r && ascends_inode before r) _ own so
    by_case false own low so = lawful_far other v ag before r (filter p rest) low so
