-- The tallies and the leader of a poll as votes are counted, and the winner in the end.
use Rattle.std.proofs.Common.{◌≡◌, ℕ, ◌+◌, ◌<◌, ◌≤◌, ◌⊎◌, inl, inr, Bool, true, false, ◌&&◌, ◌||◌, eqb, ltb, List, [], ◌∷◌, ◌++◌, Option, Some, None, refl, sym, ap, ◌∙◌, subst, arith}
use Rattle.std.specs.List.{find, list_all}
use Rattle.std.specs.Option.{option_map}
use Rattle.std.specs.Prelude.{if◌then◌else◌}
use Rattle.std.proofs.lemmas.Bool.{and_from, eqb-true, leb-true, le-leb, ltb-true, false_from_ne_true}
use Rattle.xfs_geom.specs.Election.{Vote, choice, same_volume, votes_for, has_most, winner}
use Rattle.xfs_geom.specs.Electing.{vote_of}
use Rattle.xfs_geom.specs.Polls.{IsAmong, Ascends, IsTally, Tallies, Leads, HasLeader, with_vote, leading}
use Rattle.xfs_geom.specs.Volumes.{Volume, volume_of}
use Rattle.xfs_geom.specs.declared.election.Elected.{Elected}
use Rattle.xfs_geom.specs.declared.polls.Tally.{Tally}
use Rattle.xfs_geom.proofs.Votes.{left, right, same_equal, same_itself, among_push, among_more, among_last, votes_for_same, votes_for_other, votes_for_some}

-- the tally of the volume that a further vote is for
pub tally_grows : (votes : List Vote) (last : Elected) (v : Volume) (tally : Option Tally)
    → choice (vote_of last) ≡ v → volume_of last.geometry ≡ v → ((vote : Vote) → IsAmong vote votes → vote.place < last.from)
    → Tallies votes v tally → IsTally (votes ++ vote_of last ∷ []) v (with_vote tally last)
tally_grows votes last v None states geometry behind none = record {
  count = let more = votes_for_same votes (vote_of last) v states in omega arith;
  stands = among_last votes (vote_of last);
  states = states;
  geometry = geometry;
  lowest = λ vote among same.
      elim (among_push votes (vote_of last) vote among) [
        | inl rest ↦
            let some : 1 ≤ votes_for votes (choice vote) = votes_for_some votes vote rest in
            let zero : votes_for votes (choice vote) ≡ 0 = ap (votes_for votes) same ∙ none in
            absurd (omega arith)
        | inr e ↦ let place : vote.place ≡ last.from = ap (λ (w : Vote). w.place) e in omega arith
      ];
}
tally_grows votes last v (Some tally) states geometry behind was = record {
  count = let more = votes_for_same votes (vote_of last) v states in let count = was.count in omega arith;
  stands = among_more votes (vote_of last) (vote_of tally.first) was.stands;
  states = was.states;
  geometry = was.geometry;
  lowest = λ vote among same.
      elim (among_push votes (vote_of last) vote among) [
        | inl rest ↦ was.lowest vote rest same
        | inr e ↦
            let place : vote.place ≡ last.from = ap (λ (w : Vote). w.place) e in
            let before : tally.first.from < last.from = behind (vote_of tally.first) was.stands in
            omega arith
      ];
}

-- a vote for another volume
not_same : (a b : Volume) → same_volume a b ≡ false → a ≡ b → ⊥
not_same a b other e =
    let is : same_volume a b ≡ true = ap (same_volume a) (sym e) ∙ same_itself a in
    cc

tally_stays : (votes : List Vote) (last : Vote) (v : Volume) (tally : Tally) → same_volume (choice last) v ≡ false
    → IsTally votes v tally → IsTally (votes ++ last ∷ []) v tally
tally_stays votes last v tally other was = record {
  count = was.count ∙ sym (votes_for_other votes last v other);
  stands = among_more votes last (vote_of tally.first) was.stands;
  states = was.states;
  geometry = was.geometry;
  lowest = λ vote among same.
      elim (among_push votes last vote among) [
        | inl rest ↦ was.lowest vote rest same
        | inr e ↦ absurd (not_same (choice last) v other (ap choice (sym e) ∙ same))
      ];
}

-- the tallies of other volumes stay
pub tallies_stay : (votes : List Vote) (last : Vote) (v : Volume) (tally : Option Tally) → same_volume (choice last) v ≡ false
    → Tallies votes v tally → Tallies (votes ++ last ∷ []) v tally
tallies_stay votes last v None other none = votes_for_other votes last v other ∙ none
tallies_stay votes last v (Some tally) other was = tally_stays votes last v tally other was

-- what a vote has against a leader
abbrev Yields : List Vote → Tally → Vote → Type 0
Yields votes leader vote =
    (votes_for votes (choice vote) < leader.votes) ⊎ ((votes_for votes (choice vote) ≡ leader.votes) × (leader.first.from ≤ vote.place))

-- votes for the tally's own volume yield to it
own_yields : (votes : List Vote) (v : Volume) (tally : Tally) → IsTally votes v tally
    → (vote : Vote) → IsAmong vote votes → choice vote ≡ v → Yields votes tally vote
own_yields votes v tally is vote among same =
    inr ((ap (votes_for votes) same ∙ sym is.count), is.lowest vote among same)

own_tally : (votes : List Vote) (v : Volume) (tally : Tally) → IsTally votes v tally → IsTally votes (choice (vote_of tally.first)) tally
own_tally votes v tally is = subst (λ (u : Volume). IsTally votes u tally) (sym is.states) is

-- the test of leading, as numbers
is_ahead : (a b c d : ℕ) → (ltb a b || (eqb a b && ltb c d)) ≡ true → (a < b) ⊎ ((a ≡ b) × (c < d))
is_ahead a b c d h = by_case (ltb a b) refl
  where
    by_case : (r : Bool) → ltb a b ≡ r → (a < b) ⊎ ((a ≡ b) × (c < d))
    by_case true more = inl (ltb-true a b more)
    by_case false none =
        let rest : (eqb a b && ltb c d) ≡ true = sym (ap (λ (r : Bool). r || (eqb a b && ltb c d)) none) ∙ h in
        inr (eqb-true a b (left _ (ltb c d) rest), ltb-true c d (right (eqb a b) _ rest))

is_not_ahead : (a b c d : ℕ) → (ltb a b || (eqb a b && ltb c d)) ≡ false → (b < a) ⊎ ((a ≡ b) × (d ≤ c))
is_not_ahead a b c d h = grind arith

new_leads : (votes : List Vote) (last : Vote) (leader tally : Tally) → Leads votes leader → IsTally (votes ++ last ∷ []) (choice last) tally
    → (leader.votes < tally.votes) ⊎ ((leader.votes ≡ tally.votes) × (tally.first.from < leader.first.from))
    → Leads (votes ++ last ∷ []) tally
new_leads votes last leader tally leads is ahead = record {
  tally = own_tally (votes ++ last ∷ []) (choice last) tally is;
  most = λ vote among. by_case vote among (same_volume (choice last) (choice vote)) refl;
}
  where
    weigh : (n p : ℕ) → (n < leader.votes) ⊎ ((n ≡ leader.votes) × (leader.first.from ≤ p))
        → (leader.votes < tally.votes) ⊎ ((leader.votes ≡ tally.votes) × (tally.first.from < leader.first.from))
        → (n < tally.votes) ⊎ ((n ≡ tally.votes) × (tally.first.from ≤ p))
    weigh n p (inl less) (inl more) = inl (omega arith)
    weigh n p (inl less) (inr tied) = inl (omega arith)
    weigh n p (inr even) (inl more) = inl (omega arith)
    weigh n p (inr even) (inr tied) = inr (omega arith, omega arith)

    by_case : (vote : Vote) → IsAmong vote (votes ++ last ∷ []) → (r : Bool) → same_volume (choice last) (choice vote) ≡ r
        → Yields (votes ++ last ∷ []) tally vote
    by_case vote among true same =
        own_yields (votes ++ last ∷ []) (choice last) tally is vote among (sym (same_equal (choice last) (choice vote) same))
    by_case vote among false other =
        elim (among_push votes last vote among) [
          | inl rest ↦
              subst (λ (n : ℕ). (n < tally.votes) ⊎ ((n ≡ tally.votes) × (tally.first.from ≤ vote.place)))
              (sym (votes_for_other votes last (choice vote) other))
              (weigh (votes_for votes (choice vote)) vote.place (leads.most vote rest) ahead)
          | inr e ↦ absurd (not_same (choice last) (choice vote) other (ap choice (sym e)))
        ]

old_leads : (votes : List Vote) (last : Vote) (leader tally : Tally) → Leads votes leader → IsTally (votes ++ last ∷ []) (choice last) tally
    → (tally.votes < leader.votes) ⊎ ((leader.votes ≡ tally.votes) × (leader.first.from ≤ tally.first.from))
    → Leads (votes ++ last ∷ []) leader
old_leads votes last leader tally leads is behind = record {
  tally = tally_stays votes last (choice (vote_of leader.first)) leader apart leads.tally;
  most = λ vote among. by_case vote among (same_volume (choice last) (choice vote)) refl;
}
  where
    low : tally.votes ≤ leader.votes
    low = elim behind [ inl less ↦ omega arith | inr tied ↦ omega arith ]

    -- the leader's volume is another: else the tally had one more vote
    apart : same_volume (choice last) (choice (vote_of leader.first)) ≡ false
    apart =
        false_from_ne_true (same_volume (choice last) (choice (vote_of leader.first))) (λ same.
        let one = same_equal (choice last) (choice (vote_of leader.first)) same in
        let more : votes_for (votes ++ last ∷ []) (choice last) ≡ votes_for votes (choice last) + 1 = votes_for_same votes last (choice last) refl in
        let was : leader.votes ≡ votes_for votes (choice last) = leads.tally.count ∙ ap (votes_for votes) (sym one) in
        let now : tally.votes ≡ votes_for (votes ++ last ∷ []) (choice last) = is.count in
        let most = low in
        omega arith)

    weigh : (n p : ℕ) → n ≡ tally.votes → tally.first.from ≤ p
        → (tally.votes < leader.votes) ⊎ ((leader.votes ≡ tally.votes) × (leader.first.from ≤ tally.first.from))
        → (n < leader.votes) ⊎ ((n ≡ leader.votes) × (leader.first.from ≤ p))
    weigh n p same lowest (inl less) = inl (omega arith)
    weigh n p same lowest (inr tied) = inr (omega arith, omega arith)

    by_case : (vote : Vote) → IsAmong vote (votes ++ last ∷ []) → (r : Bool) → same_volume (choice last) (choice vote) ≡ r
        → Yields (votes ++ last ∷ []) leader vote
    by_case vote among true same =
        let one = sym (same_equal (choice last) (choice vote) same) in
        weigh (votes_for (votes ++ last ∷ []) (choice vote)) vote.place (ap (votes_for (votes ++ last ∷ [])) one ∙ sym is.count) (is.lowest vote among one) behind
    by_case vote among false other =
        elim (among_push votes last vote among) [
          | inl rest ↦
              subst (λ (n : ℕ). (n < leader.votes) ⊎ ((n ≡ leader.votes) × (leader.first.from ≤ vote.place)))
              (sym (votes_for_other votes last (choice vote) other))
              (leads.most vote rest)
          | inr e ↦ absurd (not_same (choice last) (choice vote) other (ap choice (sym e)))
        ]

-- the leader once a further vote is counted
pub leader_grows : (votes : List Vote) (last : Vote) (leader : Option Tally) (tally : Tally) → HasLeader votes leader
    → IsTally (votes ++ last ∷ []) (choice last) tally → Leads (votes ++ last ∷ []) (leading leader tally)
leader_grows votes last None tally none is = record {
  tally = own_tally (votes ++ last ∷ []) (choice last) tally is;
  most = λ vote among.
      elim (among_push votes last vote among) [
        | inl rest ↦ absurd (subst (λ (vs : List Vote). IsAmong vote vs) none rest)
        | inr e ↦ own_yields (votes ++ last ∷ []) (choice last) tally is vote among (ap choice e)
      ];
}
leader_grows votes last (Some leader) tally leads is =
    by_case (ltb leader.votes tally.votes || (eqb leader.votes tally.votes && ltb tally.first.from leader.first.from)) refl
  where
    by_case : (r : Bool) → (ltb leader.votes tally.votes || (eqb leader.votes tally.votes && ltb tally.first.from leader.first.from)) ≡ r
        → Leads (votes ++ last ∷ []) (if r then tally else leader)
    by_case true ahead = new_leads votes last leader tally leads is (is_ahead _ _ _ _ ahead)
    by_case false behind = old_leads votes last leader tally leads is (is_not_ahead _ _ _ _ behind)

-- the first vote that passes a test, by its place
find_lowest : (test : Vote → Bool) (votes : List Vote) (best : Vote) → Ascends votes → IsAmong best votes → test best ≡ true
    → ((vote : Vote) → IsAmong vote votes → test vote ≡ true → best.place ≤ vote.place) → find test votes ≡ Some best
find_lowest test [] best ascends among passes lowest = absurd among
find_lowest test (x ∷ votes) best ascends among passes lowest =
    by_case (test x) refl (λ rest. find_lowest test votes best ascends.1 rest passes (λ vote h. lowest vote (inr h)))
  where
    by_case : (r : Bool) → test x ≡ r → (IsAmong best votes → find test votes ≡ Some best) → find test (x ∷ votes) ≡ Some best
    by_case true here later =
        rw here
        (elim among [
          | inl e ↦ ap (λ (v : Vote). Some v) (sym e)
          | inr rest ↦
              let behind : x.place < best.place = ascends.0 best rest in
              let before : best.place ≤ x.place = lowest x (inl refl) here in
              absurd (omega arith)
        ])
    by_case false other later =
        rw other
        (elim among [
          | inl e ↦ let both : test x ≡ true = ap test (sym e) ∙ passes in cc
          | inr rest ↦ later rest
        ])

each_passes : (test : Vote → Bool) (votes : List Vote) → ((vote : Vote) → IsAmong vote votes → test vote ≡ true) → list_all test votes ≡ true
each_passes test [] each = refl
each_passes test (x ∷ votes) each = and_from (test x) (list_all test votes) (each x (inl refl)) (each_passes test votes (λ vote h. each vote (inr h)))

passes_each : (test : Vote → Bool) (votes : List Vote) → list_all test votes ≡ true → (vote : Vote) → IsAmong vote votes → test vote ≡ true
passes_each test [] all vote among = absurd among
passes_each test (x ∷ votes) all vote among =
    elim among [
      | inl e ↦ ap test e ∙ left (test x) (list_all test votes) all
      | inr rest ↦ passes_each test votes (right (test x) (list_all test votes) all) vote rest
    ]

leader_wins : (votes : List Vote) (leader : Tally) → Ascends votes → Leads votes leader → winner votes ≡ Some (vote_of leader.first)
unfolding winner has_most
leader_wins votes leader ascends leads =
    find_lowest (has_most votes) votes (vote_of leader.first) ascends leads.tally.stands
    (each_passes _ votes (λ vote among.
    le-leb (votes_for votes (choice vote)) (votes_for votes (choice (vote_of leader.first))) (bounded vote among)))
    (λ vote among most.
    let own = passes_each _ votes most (vote_of leader.first) leads.tally.stands in
    at_least vote (leads.most vote among)
    (leb-true (votes_for votes (choice (vote_of leader.first))) (votes_for votes (choice vote)) own))
  where
    bounded : (vote : Vote) → IsAmong vote votes → votes_for votes (choice vote) ≤ votes_for votes (choice (vote_of leader.first))
    bounded vote among =
        let count = leads.tally.count in
        elim (leads.most vote among) [ inl less ↦ omega arith | inr tied ↦ omega arith ]

    at_least : (vote : Vote) → Yields votes leader vote → votes_for votes (choice (vote_of leader.first)) ≤ votes_for votes (choice vote)
        → leader.first.from ≤ vote.place
    at_least vote (inl less) enough = let count = leads.tally.count in absurd (omega arith)
    at_least vote (inr tied) enough = tied.1

-- the leader of all votes is the winner
pub winner_is : (votes : List Vote) (leader : Option Tally) → Ascends votes → HasLeader votes leader
    → winner votes ≡ option_map (λ (tally : Tally). vote_of tally.first) leader
unfolding winner
winner_is votes None ascends none = rw none refl
winner_is votes (Some leader) ascends leads = leader_wins votes leader ascends leads
