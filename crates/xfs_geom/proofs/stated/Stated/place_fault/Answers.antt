-- The tests of where a superblock stands, in their order.
use Rattle.std.proofs.Common.{◌≡◌, ◌+◌, ◌%◌, ◌&&◌, ◌==◌, ◌∷◌, [], ℕ, Bool, true, false, Option, sym, ◌∙◌}
use Rattle.std.specs.Prelude.{nat_le, nat_lt}
use Rattle.std.proofs.lemmas.Bool.{eq-eqb, le-leb, lt-ltb}
use Rattle.xfs_geom.specs.First.{first_false}
use Rattle.xfs_geom.specs.Stated.{first_place_fault, has_root, is_system_inode}
use Rattle.xfs_geom.proofs.stated.Stated.place_fault.Goals as goal

-- the first of five tests that fails
abbrev first_of : Bool → Bool → Bool → Bool → Bool → Option ℕ
first_of stands fits rooted second third = first_false ((14, stands) ∷ (15, fits) ∷ (16, rooted) ∷ (17, second) ∷ (18, third) ∷ [])

pub returns-then-place-self-ne0-clause-inside : goal.returns-then-place-self-ne0-clause-inside
returns-then-place-self-ne0-clause-inside c = tt

pub returns-then-place-self-ne0-clause-kept : goal.returns-then-place-self-ne0-clause-kept
returns-then-place-self-ne0-clause-kept c = tt

pub returns-then-self-blocks-clause-inside : goal.returns-then-self-blocks-clause-inside
returns-then-self-blocks-clause-inside c = tt

pub returns-then-self-blocks-clause-kept : goal.returns-then-self-blocks-clause-kept
returns-then-self-blocks-clause-kept c = tt

pub returns-then-not-has_root : goal.returns-then-not-has_root
unfolding first_place_fault
returns-then-not-has_root c =
    record {
      first = let v = c.args.self.now in
          let place = c.args.place in
          let blocks = c.args.blocks in
          let stands : (place % v.agblocks == 0 && nat_lt place v.dblocks) ≡ true =
          λ i. eq-eqb (place % v.agblocks) 0 c.if-place-self-ne0.false i && lt-ltb place v.dblocks c.if-place-self.false i in
          let fits : nat_le v.dblocks blocks ≡ true = le-leb v.dblocks blocks c.if-self-blocks.false in
          let rooted : has_root v ≡ false = sym c.has_root.ensures.value ∙ c.if-not-has_root.true in
          sym (λ i. first_of (stands i) (fits i) (rooted i) (is_system_inode place (v.rootino + 1) v.rbmino) (is_system_inode place (v.rootino + 2) v.rsumino));
      inside = tt;
      kept = tt;
    }

pub returns-then-not-is_system_inode : goal.returns-then-not-is_system_inode
unfolding first_place_fault
returns-then-not-is_system_inode c =
    record {
      first = let v = c.args.self.now in
          let place = c.args.place in
          let blocks = c.args.blocks in
          let stands : (place % v.agblocks == 0 && nat_lt place v.dblocks) ≡ true =
          λ i. eq-eqb (place % v.agblocks) 0 c.if-place-self-ne0.false i && lt-ltb place v.dblocks c.if-place-self.false i in
          let fits : nat_le v.dblocks blocks ≡ true = le-leb v.dblocks blocks c.if-self-blocks.false in
          let rooted : has_root v ≡ true = sym c.has_root.ensures.value ∙ c.if-not-has_root.false in
          let second : is_system_inode place (v.rootino + 1) v.rbmino ≡ false = sym c.is_system_inode.ensures ∙ c.if-not-is_system_inode.true in
          sym (λ i. first_of (stands i) (fits i) (rooted i) (second i) (is_system_inode place (v.rootino + 2) v.rsumino));
      inside = tt;
      kept = tt;
    }

pub returns-then-not-is_system_inode-2 : goal.returns-then-not-is_system_inode-2
unfolding first_place_fault
returns-then-not-is_system_inode-2 c =
    record {
      first = let v = c.args.self.now in
          let place = c.args.place in
          let blocks = c.args.blocks in
          let stands : (place % v.agblocks == 0 && nat_lt place v.dblocks) ≡ true =
          λ i. eq-eqb (place % v.agblocks) 0 c.if-place-self-ne0.false i && lt-ltb place v.dblocks c.if-place-self.false i in
          let fits : nat_le v.dblocks blocks ≡ true = le-leb v.dblocks blocks c.if-self-blocks.false in
          let rooted : has_root v ≡ true = sym c.has_root.ensures.value ∙ c.if-not-has_root.false in
          let second : is_system_inode place (v.rootino + 1) v.rbmino ≡ true = sym c.is_system_inode.ensures ∙ c.if-not-is_system_inode.false in
          let third : is_system_inode place (v.rootino + 2) v.rsumino ≡ false = sym c.is_system_inode-2.ensures ∙ c.if-not-is_system_inode-2.true in
          sym (λ i. first_of (stands i) (fits i) (rooted i) (second i) (third i));
      inside = tt;
      kept = tt;
    }

pub returns : goal.returns
unfolding first_place_fault
returns c =
    record {
      first = let v = c.args.self.now in
          let place = c.args.place in
          let blocks = c.args.blocks in
          let stands : (place % v.agblocks == 0 && nat_lt place v.dblocks) ≡ true =
          λ i. eq-eqb (place % v.agblocks) 0 c.if-place-self-ne0.false i && lt-ltb place v.dblocks c.if-place-self.false i in
          let fits : nat_le v.dblocks blocks ≡ true = le-leb v.dblocks blocks c.if-self-blocks.false in
          let rooted : has_root v ≡ true = sym c.has_root.ensures.value ∙ c.if-not-has_root.false in
          let second : is_system_inode place (v.rootino + 1) v.rbmino ≡ true = sym c.is_system_inode.ensures ∙ c.if-not-is_system_inode.false in
          let third : is_system_inode place (v.rootino + 2) v.rsumino ≡ true = sym c.is_system_inode-2.ensures ∙ c.if-not-is_system_inode-2.false in
          sym (λ i. first_of (stands i) (fits i) (rooted i) (second i) (third i));
      inside = c.if-self-blocks.false;
      kept = c.has_root.ensures.kept c.if-not-has_root.false;
    }

pub has_root-requires : goal.has_root-requires
has_root-requires c = c.requires
