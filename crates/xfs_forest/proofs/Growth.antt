-- One block more of a tree whose reading is under way, one level more, and its end.
use Rattle.std.proofs.Common.{◌≡◌, ℕ, zero, suc, ◌+◌, ◌==◌, Bool, true, false, if◌then◌else◌, List, [], ◌∷◌, ◌++◌, Option, Some, None, Result, Ok, Err, refl, sym, ◌∙◌, ap, arith}
use Rattle.std.specs.List.{flat_map}
use Rattle.std.proofs.lemmas.Bool.Decides.{nat_tests}
use Rattle.std.proofs.lemmas.List.{append_assoc, append-nil, map-append}
use Rattle.xfs_disk.specs.Blocks.{Image, bytes_of_block}
use Rattle.xfs_geom.specs.Features.{or_else}
use Rattle.xfs_geom.specs.Volumes.{Volume}
use Rattle.xfs_tree.specs.declared.stepping.Found.{Found}
use Rattle.xfs_tree.specs.declared.stepping.Spot.{Spot}
use Rattle.xfs_tree.specs.declared.seats.Seat.{Seat}
use Rattle.xfs_tree.specs.declared.tree.TreeFault.TheVariants as errors
use Rattle.xfs_tree.specs.declared.unread.Unread.{Unread}
use Rattle.xfs_tree.specs.Shape.{Shape}
use Rattle.xfs_tree.specs.Blocks.{records_of, children_of}
use Rattle.xfs_tree.specs.Rules.{block_fault, last_of, place_fault}
use Rattle.xfs_tree.specs.Reading.{Contents, next_of, places_of, at_block, below, behind, rule_at, row_fault, reading}
use Rattle.xfs_tree.specs.Alone.{rule_behind, children_at, records_at, IsFound}
use Rattle.xfs_forest.specs.Forest.{on_whole, IsLive, InFlight, last_place, places_in, resume, seats_in}
use Rattle.xfs_tree.proofs.Alone.{alone_clean}
use Rattle.xfs_tree.proofs.Descent.{IsRead, level_broken, level_read, leaves_read, none_read}

-- a level above the leaves
not_leaf : (level : ℕ) → (suc level == 0) ≡ false
not_leaf level = grind (arith, nat_tests)

last_passed : {R : Type 0} (leaf : Bool) (before : Option R) (records : List R) → last_of before (if leaf then records else []) ≡ (if leaf then last_of before records else before)
last_passed true before records = refl
last_passed false before records = refl

module _ {R K : Type 0} (s : Shape R K) (v : Volume) (image : Image) where
  -- a block keeps the rules: what is left leads on
  block_passes : (level : ℕ) (met : List ℕ) (left : Option ℕ) (before : Option R) (seat : Seat K) (rest next : List (Seat K)) (records : List R)
      → rule_at s v image level met left (next_of None rest) before seat ≡ None
      → resume s v image level met left before (seat ∷ rest) next records
      ≡ resume s v image level (met ++ seat.place ∷ []) (Some seat.place) (behind s v image level before seat) rest
      (next ++ children_at s v level (bytes_of_block image seat.place)) (records ++ records_at s level (bytes_of_block image seat.place))
  unfolding resume row_fault
  block_passes zero met left before seat rest next records kept =
      let row : row_fault s v image 0 met left None before (seat ∷ rest)
      ≡ row_fault s v image 0 (met ++ seat.place ∷ []) (Some seat.place) None (behind s v image 0 before seat) rest
      = ap (λ rule. at_block seat.place rule (row_fault s v image 0 (met ++ seat.place ∷ []) (Some seat.place) None (behind s v image 0 before seat) rest)) kept in
      let found : Seat K → List R = λ (seat : Seat K). records_of s (bytes_of_block image seat.place) in
      let items : records ++ flat_map found (seat ∷ rest) ≡ (records ++ found seat) ++ flat_map found rest = sym (append_assoc records (found seat) (flat_map found rest)) in
      let blocks : met ++ places_of (seat ∷ rest) ≡ (met ++ seat.place ∷ []) ++ places_of rest = sym (append_assoc met (seat.place ∷ []) (places_of rest)) in
      λ i. on_whole (row i) (Ok (record { records = items i; blocks = blocks i }))
  block_passes (suc level) met left before seat rest next records kept =
      let row : row_fault s v image (suc level) met left None before (seat ∷ rest)
      ≡ row_fault s v image (suc level) (met ++ seat.place ∷ []) (Some seat.place) None (behind s v image (suc level) before seat) rest
      = ap (λ rule. at_block seat.place rule (row_fault s v image (suc level) (met ++ seat.place ∷ []) (Some seat.place) None (behind s v image (suc level) before seat) rest)) kept in
      let bytes = bytes_of_block image seat.place in
      let none : records ≡ records ++ records_at s (suc level) bytes
      = sym (append-nil records) ∙ ap (λ leaf. records ++ (if leaf then records_of s bytes else [])) (sym (not_leaf level)) in
      let some : next ++ flat_map (below s v image) (seat ∷ rest) ≡ (next ++ children_at s v (suc level) bytes) ++ flat_map (below s v image) rest
      = sym (append_assoc next (children_of s v bytes) (flat_map (below s v image) rest))
      ∙ ap (λ leaf. (next ++ (if leaf then [] else children_of s v bytes)) ++ flat_map (below s v image) rest) (sym (not_leaf level)) in
      let blocks : met ++ places_of (seat ∷ rest) ≡ (met ++ seat.place ∷ []) ++ places_of rest = sym (append_assoc met (seat.place ∷ []) (places_of rest)) in
      λ i. on_whole (row i) (resume s v image level (blocks i) None None (some i) [] (none i))

  -- a block that breaks a rule is what the tree reads as
  block_breaks : (level : ℕ) (met : List ℕ) (left : Option ℕ) (before : Option R) (seat : Seat K) (rest next : List (Seat K)) (records : List R) (rule : ℕ)
      → rule_at s v image level met left (next_of None rest) before seat ≡ Some rule
      → resume s v image level met left before (seat ∷ rest) next records ≡ Err (record { block = seat.place; rule = rule })
  unfolding resume row_fault
  block_breaks zero met left before seat rest next records rule broken =
      let later = row_fault s v image 0 (met ++ seat.place ∷ []) (Some seat.place) None (behind s v image 0 before seat) rest in
      let found : Seat K → List R = λ (seat : Seat K). records_of s (bytes_of_block image seat.place) in
      let all : Contents R = record { records = records ++ flat_map found (seat ∷ rest); blocks = met ++ places_of (seat ∷ rest) } in
      ap (λ (rule : Option ℕ). on_whole (at_block seat.place rule later) (Ok all)) broken
  block_breaks (suc level) met left before seat rest next records rule broken =
      let later = row_fault s v image (suc level) (met ++ seat.place ∷ []) (Some seat.place) None (behind s v image (suc level) before seat) rest in
      ap (λ (rule : Option ℕ). on_whole (at_block seat.place rule later)
      (resume s v image level (met ++ places_of (seat ∷ rest)) None None (next ++ flat_map (below s v image) (seat ∷ rest)) [] records)) broken

  -- nothing is left of a level: the next one leads on
  level_passes : (level : ℕ) (met : List ℕ) (left : Option ℕ) (before : Option R) (next : List (Seat K)) (records : List R)
      → resume s v image (suc level) met left before [] next records ≡ resume s v image level met None None next [] records
  unfolding resume row_fault
  level_passes level met left before next records =
      λ i. resume s v image level (append-nil met i) None None (append-nil next i) [] records

  -- nothing is left of the leaves
  leaves_pass : (met : List ℕ) (left : Option ℕ) (before : Option R) (next : List (Seat K)) (records : List R)
      → resume s v image 0 met left before [] next records ≡ Ok (record { records = records; blocks = met })
  unfolding resume row_fault
  leaves_pass met left before next records =
      λ i. Ok (record { records = append-nil records i; blocks = append-nil met i })

  -- from a level on, where the levels above were read, what is left leads to the whole
  pub resumes : (tops : List (Seat K)) (height level depth : ℕ) (row : List (Seat K)) (met : List ℕ) → height ≡ level + depth → IsRead s v image tops height depth row met
      → resume s v image level met None None row [] [] ≡ reading s v image tops height
  unfolding resume
  resumes tops height zero depth row met sum read =
      by_fault (row_fault s v image 0 met None None None row) refl
    where
      by_fault : (fault : Option Unread) → row_fault s v image 0 met None None None row ≡ fault
          → on_whole (row_fault s v image 0 met None None None row)
          (Ok (record { records = [] ++ flat_map (λ (seat : Seat K). records_of s (bytes_of_block image seat.place)) row; blocks = met ++ places_of row }))
          ≡ reading s v image tops height
      by_fault None is = ap (λ fault. on_whole fault (Ok (record { records = [] ++ flat_map (λ (seat : Seat K). records_of s (bytes_of_block image seat.place)) row; blocks = met ++ places_of row }))) is
          ∙ sym (leaves_read s v image tops height depth row met _ _ (omega (arith, sum)) read is refl refl)
      by_fault (Some fault) is = ap (λ found. on_whole found (Ok (record { records = [] ++ flat_map (λ (seat : Seat K). records_of s (bytes_of_block image seat.place)) row; blocks = met ++ places_of row }))) is
          ∙ sym (level_broken s v image tops height depth 0 row met (errors.Unread fault) (omega (arith, sum)) (omega (arith, sum)) read is)
  resumes tops height (suc level) depth row met sum read =
      by_fault (row_fault s v image (suc level) met None None None row) refl (resumes tops height level (suc depth))
    where
      by_fault : (fault : Option Unread) → row_fault s v image (suc level) met None None None row ≡ fault
          → ((row : List (Seat K)) (met : List ℕ) → height ≡ level + suc depth → IsRead s v image tops height (suc depth) row met
          → resume s v image level met None None row [] [] ≡ reading s v image tops height)
          → on_whole (row_fault s v image (suc level) met None None None row)
          (resume s v image level (met ++ places_of row) None None ([] ++ flat_map (below s v image) row) [] [])
          ≡ reading s v image tops height
      by_fault None is deeper = ap (λ fault. on_whole fault (resume s v image level (met ++ places_of row) None None ([] ++ flat_map (below s v image) row) [] [])) is
          ∙ deeper (flat_map (below s v image) row) (met ++ places_of row) (omega (arith, sum))
          (level_read s v image tops height depth (suc depth) (suc level) row (flat_map (below s v image) row) met (met ++ places_of row) refl (omega (arith, sum)) read is refl refl)
      by_fault (Some fault) is deeper = ap (λ found. on_whole found (resume s v image level (met ++ places_of row) None None ([] ++ flat_map (below s v image) row) [] [])) is
          ∙ sym (level_broken s v image tops height depth (suc level) row met (errors.Unread fault) (omega (arith, sum)) (omega (arith, sum)) read is)

-- where the last of some blocks is one more
last_more : {K : Type 0} (left : Option ℕ) (spots : List (Spot K)) (spot : Spot K) → last_place left (spots ++ spot ∷ []) ≡ Some spot.seat.place
last_more left [] spot = refl
last_more left (one ∷ spots) spot = last_more (Some one.seat.place) spots spot

seats_more : {K : Type 0} (spots : List (Spot K)) (spot : Spot K) (rest : List (Seat K)) → seats_in spots ++ spot.seat ∷ rest ≡ seats_in (spots ++ spot ∷ []) ++ rest
seats_more [] spot rest = refl
seats_more (one ∷ spots) spot rest = ap (λ seats. one.seat ∷ seats) (seats_more spots spot rest)

module _ {R K : Type 0} (s : Shape R K) (v : Volume) where
  -- one block more is in flight
  flight_more : (level : ℕ) (met : List ℕ) (left : Option ℕ) (spots : List (Spot K)) (spot : Spot K) (rest : List (Seat K))
      → InFlight s v level met left spots (spot.seat ∷ rest) → spot.level ≡ level → place_fault s v (met ++ places_in spots) spot.seat.place ≡ None
      → spot.left ≡ last_place left spots → spot.right ≡ next_of None rest → InFlight s v level met left (spots ++ spot ∷ []) rest
  flight_more level met left [] spot rest flight at clean beside next =
      (at, ap (λ blocks. place_fault s v blocks spot.seat.place) (sym (append-nil met)) ∙ clean, beside, next, tt)
  flight_more level met left (one ∷ spots) spot rest (there, admitted, left_is, right_is, others) at clean beside next = (
    there,
    admitted,
    left_is,
    right_is ∙ ap (next_of None) (seats_more spots spot rest),
    flight_more level (met ++ one.seat.place ∷ []) (Some one.seat.place) spots spot rest others at
        (ap (λ blocks. place_fault s v blocks spot.seat.place) (append_assoc met (one.seat.place ∷ []) (places_in spots)) ∙ clean) beside next,
  )

module _ {R K : Type 0} (s : Shape R K) (v : Volume) (image : Image) (whole : Result (Contents R) Unread) where
  -- the next block is taken
  pub live_taken : (level : ℕ) (blocks : List ℕ) (side : Option ℕ) (before : Option R) (rest next : List (Seat K)) (records : List R) (spots : List (Spot K)) (spot : Spot K)
      → spot.level ≡ level → spot.left ≡ side → spot.right ≡ next_of None rest → place_fault s v blocks spot.seat.place ≡ None
      → IsLive s v image whole level blocks side before (spot.seat ∷ rest) next records spots
      → IsLive s v image whole level (blocks ++ spot.seat.place ∷ []) (Some spot.seat.place) before rest next records (spots ++ spot ∷ [])
  live_taken level blocks side before rest next records spots spot at left right clean live = record {
    met = live.met;
    left = live.left;
    blocks_are = ap (λ (all : List ℕ). all ++ spot.seat.place ∷ []) live.blocks_are ∙ append_assoc live.met (places_in spots) (spot.seat.place ∷ [])
        ∙ ap (λ (all : List ℕ). live.met ++ all) (sym (map-append (λ (spot : Spot K). spot.seat.place) spots (spot ∷ [])));
    side_is = sym (last_more live.left spots spot);
    flight = flight_more s v level live.met live.left spots spot rest live.flight at
        (ap (λ (all : List ℕ). place_fault s v all spot.seat.place) (sym live.blocks_are) ∙ clean) (left ∙ live.side_is) right;
    leads = ap (λ (seats : List (Seat K)). resume s v image level live.met live.left before seats next records) (sym (seats_more spots spot rest)) ∙ live.leads;
  }

  -- the next block breaks a rule by its place, and none is in flight
  pub live_stopped : (level : ℕ) (blocks : List ℕ) (side : Option ℕ) (before : Option R) (seat : Seat K) (rest next : List (Seat K)) (records : List R) (rule : ℕ)
      → place_fault s v blocks seat.place ≡ Some rule → IsLive s v image whole level blocks side before (seat ∷ rest) next records []
      → whole ≡ Err (record { block = seat.place; rule = rule })
  live_stopped level blocks side before seat rest next records rule broken live =
      let here : place_fault s v live.met seat.place ≡ Some rule
      = ap (λ (all : List ℕ). place_fault s v all seat.place) (sym (append-nil live.met) ∙ sym live.blocks_are) ∙ broken in
      sym live.leads ∙ block_breaks s v image level live.met live.left before seat rest next records rule
      (ap (λ (o : Option ℕ). or_else o (block_fault s v level live.left (next_of None rest) before seat (bytes_of_block image seat.place))) here)

  -- the rule of a block in flight is the one that is found behind what stands in front of it
  rule_found : (level : ℕ) (blocks : List ℕ) (side : Option ℕ) (before : Option R) (rest next : List (Seat K)) (records : List R) (spot : Spot K) (spots : List (Spot K))
      (found : Found R K) (rule : Option ℕ) → IsFound s v spot (bytes_of_block image spot.seat.place) found → rule_behind s v before found.first found.alone ≡ rule
      → (live : IsLive s v image whole level blocks side before rest next records (spot ∷ spots))
      → rule_at s v image level live.met live.left (next_of None (seats_in spots ++ rest)) before spot.seat ≡ rule
  rule_found level blocks side before rest next records spot spots found rule judged is live =
      ap (λ (o : Option ℕ). or_else o (block_fault s v level live.left (next_of None (seats_in spots ++ rest)) before spot.seat (bytes_of_block image spot.seat.place))) live.flight.1
      ∙ (λ i. block_fault s v (sym live.flight.0 i) (sym live.flight.2 i) (sym live.flight.3 i) before spot.seat (bytes_of_block image spot.seat.place))
      ∙ judged.fault before ∙ is

  -- a block that was judged is joined
  pub live_joined : (level : ℕ) (blocks : List ℕ) (side : Option ℕ) (before : Option R) (rest next : List (Seat K)) (records : List R) (spot : Spot K) (spots : List (Spot K))
      (found : Found R K) → IsFound s v spot (bytes_of_block image spot.seat.place) found → rule_behind s v before found.first found.alone ≡ None
      → IsLive s v image whole level blocks side before rest next records (spot ∷ spots)
      → IsLive s v image whole level blocks side (last_of before found.records.items) rest (next ++ found.children.items) (records ++ found.records.items) spots
  live_joined level blocks side before rest next records spot spots found judged clean live =
      let bytes = bytes_of_block image spot.seat.place in
      let alone = alone_clean s v before found.first found.alone clean in
      let items : found.records.items ≡ records_at s level bytes = judged.records alone ∙ ap (λ (n : ℕ). records_at s n bytes) live.flight.0 in
      let children : found.children.items ≡ children_at s v level bytes = judged.children alone ∙ ap (λ (n : ℕ). children_at s v n bytes) live.flight.0 in
      let last : last_of before found.records.items ≡ behind s v image level before spot.seat = ap (last_of before) items ∙ last_passed (level == 0) before (records_of s bytes) in
      record {
        met = live.met ++ spot.seat.place ∷ [];
        left = Some spot.seat.place;
        blocks_are = live.blocks_are ∙ sym (append_assoc live.met (spot.seat.place ∷ []) (places_in spots));
        side_is = live.side_is;
        flight = live.flight.4;
        leads = (λ i. resume s v image level (live.met ++ spot.seat.place ∷ []) (Some spot.seat.place) (last i) (seats_in spots ++ rest) (next ++ children i) (records ++ items i))
            ∙ sym (block_passes s v image level live.met live.left before spot.seat (seats_in spots ++ rest) next records
            (rule_found level blocks side before rest next records spot spots found None judged clean live))
            ∙ live.leads;
      }

  -- a block that breaks a rule is what the tree reads as
  pub live_broken : (level : ℕ) (blocks : List ℕ) (side : Option ℕ) (before : Option R) (rest next : List (Seat K)) (records : List R) (spot : Spot K) (spots : List (Spot K))
      (found : Found R K) (rule : ℕ) → IsFound s v spot (bytes_of_block image spot.seat.place) found → rule_behind s v before found.first found.alone ≡ Some rule
      → IsLive s v image whole level blocks side before rest next records (spot ∷ spots)
      → whole ≡ Err (record { block = spot.seat.place; rule = rule })
  live_broken level blocks side before rest next records spot spots found rule judged broken live =
      sym live.leads ∙ block_breaks s v image level live.met live.left before spot.seat (seats_in spots ++ rest) next records rule
      (rule_found level blocks side before rest next records spot spots found (Some rule) judged broken live)

  -- the level below begins
  pub live_descends : (level lower : ℕ) (blocks : List ℕ) (side : Option ℕ) (before : Option R) (rest next : List (Seat K)) (records : List R) → level ≡ lower + 1 → rest ≡ []
      → IsLive s v image whole level blocks side before rest next records [] → IsLive s v image whole lower blocks None None next [] records []
  live_descends level lower blocks side before rest next records above none live =
      let deep : level ≡ suc lower = omega (arith, above) in
      record {
        met = live.met;
        left = None;
        blocks_are = live.blocks_are;
        side_is = refl;
        flight = tt;
        leads = sym (level_passes s v image lower live.met live.left before next records)
            ∙ (λ i. resume s v image (sym deep i) live.met live.left before (sym none i) next records) ∙ live.leads;
      }

  -- the leaves were read
  pub live_ends : (level : ℕ) (blocks : List ℕ) (side : Option ℕ) (before : Option R) (rest next : List (Seat K)) (records : List R) → level ≡ 0 → rest ≡ []
      → IsLive s v image whole level blocks side before rest next records [] → whole ≡ Ok (record { records = records; blocks = blocks })
  live_ends level blocks side before rest next records low none live =
      sym live.leads ∙ (λ i. resume s v image (low i) live.met live.left before (none i) next records)
      ∙ leaves_pass s v image live.met live.left before next records
      ∙ ap (λ (all : List ℕ). Ok (record { records = records; blocks = all })) (sym (append-nil live.met) ∙ sym live.blocks_are)

module _ {R K : Type 0} (s : Shape R K) (v : Volume) (image : Image) where
  -- no block was read
  pub live_begins : (tops : List (Seat K)) (height : ℕ) → IsLive s v image (reading s v image tops height) height [] None None tops [] [] []
  live_begins tops height = record {
    met = [];
    left = None;
    blocks_are = refl;
    side_is = refl;
    flight = tt;
    leads = resumes s v image tops height height 0 tops [] (omega arith) (none_read s v image tops height);
  }
