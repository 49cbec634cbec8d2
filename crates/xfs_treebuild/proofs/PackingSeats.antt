-- A block's keys, as the node above it is to state them.
use Rattle.std.proofs.Common.{◌≡◌, ℕ, Bool, true, false, if◌then◌else◌, List, Option, None, sym, ◌∙◌, ap, subst}
use Rattle.xfs_tree.specs.declared.seats.Seat.{Seat}
use Rattle.xfs_tree.specs.Shape.{Shape}
use Rattle.xfs_tree.specs.Rules.{high_of}
use Rattle.xfs_treebuild.specs.Private.Placed.{seat_of, IsKey, IsChild}

module _ {R K : Type 0} (s : Shape R K) where
  pub seat_low : (level place : ℕ) (block : List ℕ) (seat : Seat K) → seat ≡ seat_of s level place block → IsChild s level block → IsKey s seat.low
  seat_low level place block seat is child = subst (λ (x : Seat K). IsKey s x.low) (sym is) child.low

  pub seat_high : (level place : ℕ) (block : List ℕ) (seat : Seat K) → seat ≡ seat_of s level place block → IsChild s level block
      → s.layout.high ≡ true → IsKey s seat.high
  seat_high level place block seat is child pairs =
      let top : seat.high ≡ high_of s level block =
      ap (λ (x : Seat K). x.high) is ∙ ap (λ (r : Bool). if r then high_of s level block else None) pairs in
      subst (λ (o : Option K). IsKey s o) (sym top) (child.high pairs)

  pub seat_one : (level place : ℕ) (block : List ℕ) (seat : Seat K) → seat ≡ seat_of s level place block → s.layout.high ≡ false → seat.high ≡ None
  seat_one level place block seat is single = ap (λ (x : Seat K). x.high) is ∙ ap (λ (r : Bool). if r then high_of s level block else None) single
