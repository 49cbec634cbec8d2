-- Lists of votes: which are among them, their order, and how many are for a volume.
use Rattle.std.proofs.Common.{◌≡◌, ℕ, ◌+◌, ◌<◌, ◌≤◌, ◌⊎◌, inl, inr, Bool, true, false, ◌==◌, ◌&&◌, List, [], ◌∷◌, ◌++◌, bytes_eq, cond, refl, sym, ap, ◌∙◌, arith}
use Rattle.std.specs.Cmp.Derive.{both_true}
use Rattle.std.proofs.lemmas.Bool.{eqb-true, eq-eqb}
use Rattle.std.proofs.lemmas.List.Sums.{sum_by-cons, sum_by_push}
use Rattle.std.proofs.lemmas.Slice.Eq.{bytes_eq-Decides}
use Rattle.xfs_geom.specs.Election.{Vote, choice, same_volume, votes_for}
use Rattle.xfs_geom.specs.Polls.{IsAmong, Ascends}
use Rattle.xfs_geom.specs.Volumes.{Volume}

pub left : (a b : Bool) → (a && b) ≡ true → a ≡ true
left true b h = refl
left false b h = cc

pub right : (a b : Bool) → (a && b) ≡ true → b ≡ true
right true b h = h
right false b h = cc

-- volumes with the same geometry are one
pub same_equal : (a b : Volume) → same_volume a b ≡ true → a ≡ b
unfolding same_volume
same_equal a b same =
    let h7 = left _ (bytes_eq a.uuid b.uuid) same in
    let h6 = left _ (a.logsectlog == b.logsectlog) h7 in
    let h5 = left _ (a.rootino == b.rootino) h6 in
    let h4 = left _ (a.logblocks == b.logblocks) h5 in
    let h3 = left _ (a.log == b.log) h4 in
    let h2 = left _ (a.agblklog == b.agblklog) h3 in
    let h1 = left _ (a.agcount == b.agcount) h2 in
    let dblocks = eqb-true a.dblocks b.dblocks (left _ (a.agblocks == b.agblocks) h1) in
    let agblocks = eqb-true a.agblocks b.agblocks (right (a.dblocks == b.dblocks) _ h1) in
    let agcount = eqb-true a.agcount b.agcount (right _ (a.agcount == b.agcount) h2) in
    let agblklog = eqb-true a.agblklog b.agblklog (right _ (a.agblklog == b.agblklog) h3) in
    let log = eqb-true a.log b.log (right _ (a.log == b.log) h4) in
    let logblocks = eqb-true a.logblocks b.logblocks (right _ (a.logblocks == b.logblocks) h5) in
    let rootino = eqb-true a.rootino b.rootino (right _ (a.rootino == b.rootino) h6) in
    let logsectlog = eqb-true a.logsectlog b.logsectlog (right _ (a.logsectlog == b.logsectlog) h7) in
    let uuid = (bytes_eq-Decides a.uuid b.uuid).0 (right _ (bytes_eq a.uuid b.uuid) same) in
    λ i. record {
      dblocks = dblocks i;
      agblocks = agblocks i;
      agcount = agcount i;
      agblklog = agblklog i;
      log = log i;
      logblocks = logblocks i;
      rootino = rootino i;
      logsectlog = logsectlog i;
      uuid = uuid i;
    }

same : (n : ℕ) → (n == n) ≡ true
same n = eq-eqb n n refl

pub same_itself : (a : Volume) → same_volume a a ≡ true
unfolding same_volume
same_itself a =
    both_true
    (both_true
    (both_true
    (both_true (both_true (both_true (both_true (both_true (same a.dblocks) (same a.agblocks)) (same a.agcount)) (same a.agblklog)) (same a.log)) (same a.logblocks))
    (same a.rootino))
    (same a.logsectlog))
    ((bytes_eq-Decides a.uuid a.uuid).1 refl)

-- a vote among some and one more
pub among_push : (votes : List Vote) (last vote : Vote) → IsAmong vote (votes ++ last ∷ []) → IsAmong vote votes ⊎ (vote ≡ last)
among_push [] last vote among = elim among [ inl e ↦ inr e | inr none ↦ absurd none ]
among_push (x ∷ votes) last vote among =
    elim among [
      | inl e ↦ inl (inl e)
      | inr rest ↦ elim (among_push votes last vote rest) [ inl h ↦ inl (inr h) | inr e ↦ inr e ]
    ]

pub among_more : (votes : List Vote) (last vote : Vote) → IsAmong vote votes → IsAmong vote (votes ++ last ∷ [])
among_more [] last vote among = absurd among
among_more (x ∷ votes) last vote among = elim among [ inl e ↦ inl e | inr rest ↦ inr (among_more votes last vote rest) ]

pub among_last : (votes : List Vote) (last : Vote) → IsAmong last (votes ++ last ∷ [])
among_last [] last = inl refl
among_last (x ∷ votes) last = inr (among_last votes last)

-- a vote behind all others keeps the order
pub ascends_push : (votes : List Vote) (last : Vote) → Ascends votes → ((vote : Vote) → IsAmong vote votes → vote.place < last.place)
    → Ascends (votes ++ last ∷ [])
ascends_push [] last ascends below = ((λ vote among. absurd among), tt)
ascends_push (x ∷ votes) last ascends below = (
  (λ vote among.
      elim (among_push votes last vote among) [
        | inl rest ↦ ascends.0 vote rest
        | inr e ↦ let here : x.place < last.place = below x (inl refl) in let p : vote.place ≡ last.place = ap (λ (v : Vote). v.place) e in omega arith
      ]),
  ascends_push votes last ascends.1 (λ vote among. below vote (inr among)),
)

-- one more vote counts for its volume alone
pub votes_for_push : (votes : List Vote) (last : Vote) (v : Volume)
    → votes_for (votes ++ last ∷ []) v ≡ votes_for votes v + cond (same_volume (choice last) v) 1 0
unfolding votes_for
votes_for_push votes last v = sum_by_push (λ (vote : Vote). cond (same_volume (choice vote) v) 1 0) votes last

pub votes_for_same : (votes : List Vote) (last : Vote) (v : Volume) → choice last ≡ v → votes_for (votes ++ last ∷ []) v ≡ votes_for votes v + 1
votes_for_same votes last v e =
    let is : same_volume (choice last) v ≡ true = ap (same_volume (choice last)) (sym e) ∙ same_itself (choice last) in
    votes_for_push votes last v ∙ ap (λ (r : Bool). votes_for votes v + cond r 1 0) is

pub votes_for_other : (votes : List Vote) (last : Vote) (v : Volume) → same_volume (choice last) v ≡ false
    → votes_for (votes ++ last ∷ []) v ≡ votes_for votes v
votes_for_other votes last v other =
    let more : votes_for (votes ++ last ∷ []) v ≡ votes_for votes v + 0 =
    votes_for_push votes last v ∙ ap (λ (r : Bool). votes_for votes v + cond r 1 0) other in
    omega arith

votes_for_cons : (votes : List Vote) (first : Vote) (v : Volume)
    → votes_for (first ∷ votes) v ≡ cond (same_volume (choice first) v) 1 0 + votes_for votes v
unfolding votes_for
votes_for_cons votes first v = sum_by-cons (λ (vote : Vote). cond (same_volume (choice vote) v) 1 0) first votes

counts : (r : Bool) (n m : ℕ) → r ≡ true → m ≡ cond r 1 0 + n → 1 ≤ m
counts true n m is whole = omega arith
counts false n m is whole = cc

-- a volume that a vote is for has a vote
pub votes_for_some : (votes : List Vote) (vote : Vote) → IsAmong vote votes → 1 ≤ votes_for votes (choice vote)
votes_for_some [] vote among = absurd among
votes_for_some (x ∷ votes) vote among =
    let whole = votes_for_cons votes x (choice vote) in
    elim among [
      | inl e ↦
          let same : same_volume (choice x) (choice vote) ≡ true =
          ap (λ (w : Vote). same_volume (choice w) (choice vote)) (sym e) ∙ same_itself (choice vote) in
          counts _ _ _ same whole
      | inr rest ↦ let more : 1 ≤ votes_for votes (choice vote) = votes_for_some votes vote rest in omega arith
    ]
