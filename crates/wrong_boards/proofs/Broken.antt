-- For each wrong board a short use, and the law that does not hold after it. Assumes nothing.
use Rattle.std.proofs.Common.{◌≡◌, ◌≤◌, [], ◌∷◌, refl, arith}
use Rattle.scheme.specs.Meaning.{anybody}
use Rattle.scheme.specs.Histories.{Any, Since}
use Rattle.plain.specs.Calls.{Call.enter, Call.from, Call.step, Call.cut, Call.move, Call.finish, Call.tend}
use Rattle.plain.specs.History.{Count}
use Rattle.plain.specs.Sightings.{StepsOn, Sights, SightingsAgree}
use Rattle.plain.specs.Walks.{Walking, Walked, WalksAreShort, WalksAreComplete, WalksAreHonest}
use Rattle.plain.specs.Waits.{WaitPassed, counts, CountsSettle, WaitsEndInTime}
use Rattle.plain.proofs.Events.{not_removal}
use Rattle.plain.specs.Flights.{place}
use Rattle.plain.proofs.Settled.{any_older, no_any, after_none, after_more}
use Rattle.wrong_boards.specs.Wrong
use Rattle.wrong_boards.specs.Breaks.{Breaks, WrongBoardsBreakLaws}
use Rattle.wrong_boards.proofs.Uses.{new_use, used, breaks, visit_older, goes_on, past, past_seen, no_step, other_key, end_no_key}

-- the wait begins with no visit under way, and the next tend does not find it over
never_over : Breaks Wrong.never_over (λ b. WaitsEndInTime)
unfolding anybody
never_over = breaks _ _ (used Wrong.never_over (new_use Wrong.never_over 1 refl) (place 5 0 ∷ cut 5 ∷ tend ∷ tend ∷ []))
    (λ held.
    let over = (held _ _ [] _ refl refl (refl, refl) no_any).1 (λ r v. elim (visit_older r (λ e. cc) (visit_older r (λ e. cc) v)) [ ]) in
    let said = over.said in
    cc)

-- the scheme never hears of the wait, so it never ends
never_tells : Breaks Wrong.never_tells (λ b. WaitsEndInTime)
unfolding anybody
never_tells = breaks _ _ (used Wrong.never_tells (new_use Wrong.never_tells 1 refl) (place 5 0 ∷ cut 5 ∷ tend ∷ tend ∷ []))
    (λ held.
    let over = (held _ _ [] _ refl refl (refl, refl) no_any).1 (λ r v. elim (visit_older r (λ e. cc) (visit_older r (λ e. cc) v)) [ ]) in
    let said = over.said in
    cc)

-- the wait is found over while reader 0, who was there at its start, has not left
awaits_nobody : Breaks Wrong.awaits_nobody (λ b. WaitsEndInTime)
unfolding anybody
awaits_nobody = breaks _ _ (used Wrong.awaits_nobody (new_use Wrong.awaits_nobody 1 refl) (place 5 0 ∷ enter 0 ∷ cut 5 ∷ tend ∷ tend ∷ []))
    (λ held. no_any ((held _ _ [] _ refl refl (refl, refl) no_any).0 (record { count = 1; asked = refl; said = refl }) 0 (goes_on (λ e. cc) (Since.starts (refl, refl)))))

-- reader 0 sights node 2 with stamp 2, then, in the same visit, with stamp 3: it was removed after the wait began, and filled again
frees_due : Breaks Wrong.frees_due (λ b. SightingsAgree)
unfolding anybody
frees_due = breaks _ _ (used Wrong.frees_due (new_use Wrong.frees_due 2 refl) (place 5 0 ∷ place 6 5 ∷ cut 5 ∷ tend ∷ enter 0 ∷ from 0 0 ∷ step 0 ∷ cut 6 ∷ tend ∷ place 7 0 ∷ from 0 0 ∷ step 0 ∷ []))
    (λ held.
    let stamps : 3 ≡ 2 = (held 0 _ _
    (Since.starts (Sights.by_step (StepsOn.by_seen 2 3 7 refl refl)))
    (goes_on (λ e. cc) (goes_on (λ e. cc) (goes_on (λ e. cc)
    (goes_on (λ e. cc) (goes_on (λ e. cc) (Since.starts (Sights.by_step (StepsOn.by_seen 2 2 6 refl refl))))))))
    ).same_node.0 refl in
    omega arith)

-- reader 0 sights nodes 1 and 2 with one stamp
repeats_stamp : Breaks Wrong.repeats_stamp (λ b. SightingsAgree)
repeats_stamp = breaks _ _ (used Wrong.repeats_stamp (new_use Wrong.repeats_stamp 2 refl) (place 5 0 ∷ place 6 5 ∷ enter 0 ∷ from 0 0 ∷ step 0 ∷ step 0 ∷ []))
    (λ held.
    let nodes : 2 ≡ 1 = (held 0 _ _
    (Since.starts (Sights.by_step (StepsOn.by_seen 2 1 6 refl refl)))
    (goes_on (λ e. cc) (Since.starts (Sights.by_step (StepsOn.by_seen 1 1 5 refl refl))))
    ).same_node.1 refl in
    omega arith)

-- from node 2, which is cut, the walk goes on to node 1 with key 5, which was cut before the walk
chains_by_link : Breaks Wrong.chains_by_link (λ b. WalksAreHonest)
chains_by_link = breaks _ _ (used Wrong.chains_by_link (new_use Wrong.chains_by_link 3 refl) (place 5 0 ∷ cut 5 ∷ place 6 0 ∷ enter 0 ∷ from 0 0 ∷ step 0 ∷ cut 6 ∷ step 0 ∷ []))
    (λ held. no_any (any_older (λ e. cc) (any_older (λ e. cc) (any_older (λ e. cc) (any_older (λ e. cc) (held 0 5 _ (_ ∷ _ ∷ _ ∷ []) _ refl
    (past (λ k e. cc) (λ e. cc) (λ e. cc) (past_seen 2 2 6 refl refl (Walking.starts (record { wanted = 0; asked = refl; granted = refl }))))
    (record { sighting = _; on = StepsOn.by_seen 1 1 5 refl refl; key = refl })))))))

-- key 9 is listed all the while: its old node is ahead of reader 0 until it goes, and its copy behind
moves_without_wait : Breaks Wrong.moves_without_wait (λ b. WalksAreComplete)
moves_without_wait = breaks _ _ (used Wrong.moves_without_wait (new_use Wrong.moves_without_wait 3 refl) (place 7 0 ∷ place 9 7 ∷ enter 0 ∷ from 0 0 ∷ step 0 ∷ move 9 0 ∷ finish ∷ step 0 ∷ []))
    (λ held. no_any (any_older (no_step 9 (λ e. cc)) (any_older (other_key 1 1 7 9 refl (λ e. omega arith)) (any_older (no_step 9 (λ e. cc)) (any_older (no_step 9 (λ e. cc)) (any_older (end_no_key 9 refl)
    (held 0 9 _ (_ ∷ _ ∷ _ ∷ _ ∷ []) _ refl
    (past (λ k e. cc) (λ e. cc) (λ e. cc) (past (λ k e. cc) (λ e. cc) (λ e. cc) (past_seen 1 1 7 refl refl (Walking.starts (record { wanted = 0; asked = refl; granted = refl })))))
    (refl, refl) (refl, (refl, (refl, (refl, (refl, tt))))))))))))

-- the list has key 5 all the while, and the walk ends at once
always_ends : Breaks Wrong.always_ends (λ b. WalksAreComplete)
always_ends = breaks _ _ (used Wrong.always_ends (new_use Wrong.always_ends 1 refl) (place 5 0 ∷ enter 0 ∷ from 0 0 ∷ step 0 ∷ []))
    (λ held. no_any (any_older (no_step 5 (λ e. cc)) (any_older (end_no_key 5 refl)
    (held 0 5 _ (_ ∷ []) _ refl (Walking.starts (record { wanted = 0; asked = refl; granted = refl })) (refl, refl) (refl, (refl, tt))))))

-- three steps on a board of one node
links_to_itself : Breaks Wrong.links_to_itself (λ b. WalksAreShort b.size)
links_to_itself = breaks _ _ (used Wrong.links_to_itself (new_use Wrong.links_to_itself 1 refl) (place 5 0 ∷ enter 0 ∷ from 0 0 ∷ step 0 ∷ step 0 ∷ step 0 ∷ []))
    (λ held.
    let short : 3 ≤ 2 = held 0 3 (_ ∷ _ ∷ _ ∷ _ ∷ []) _ refl
    (Walked.under_way (past_seen 1 1 5 refl refl (past_seen 1 1 5 refl refl (past_seen 1 1 5 refl refl (Walking.starts (record { wanted = 0; asked = refl; granted = refl }))))))
    (Count.one_more (record { asked = refl; granted = λ n f e. cc }) (Count.one_more (record { asked = refl; granted = λ n f e. cc }) (Count.one_more (record { asked = refl; granted = λ n f e. cc }) (Count.no_more (λ s. cc) Count.none)))) in
    omega arith)

-- the removal is settled, and node 1 is neither free nor listed
loses_nodes : Breaks Wrong.loses_nodes (λ b. CountsSettle (counts b))
unfolding anybody
loses_nodes = breaks _ _ (used Wrong.loses_nodes (new_use Wrong.loses_nodes 1 refl) (place 5 0 ∷ cut 5 ∷ tend ∷ tend ∷ []))
    (λ held.
    let equal : 0 ≡ 1 = held.1
    (after_more WaitPassed (λ r. absurd (not_removal refl r))
    (after_more (λ g. WaitPassed (_ ∷ g)) (λ r. absurd (not_removal refl r))
    (after_more (λ g. WaitPassed (_ ∷ _ ∷ g)) (λ r. WaitPassed.found (record { count = 0; asked = refl; said = refl }) (Any.here (refl, refl)))
    (after_more (λ g. WaitPassed (_ ∷ _ ∷ _ ∷ g)) (λ r. absurd (not_removal refl r)) (after_none (λ g. WaitPassed (_ ∷ _ ∷ _ ∷ _ ∷ g))))))) in
    omega arith)

pub wrong_boards_break_laws : WrongBoardsBreakLaws
wrong_boards_break_laws = record {
  never_over = never_over;
  awaits_nobody = awaits_nobody;
  never_tells = never_tells;
  frees_due = frees_due;
  repeats_stamp = repeats_stamp;
  chains_by_link = chains_by_link;
  moves_without_wait = moves_without_wait;
  always_ends = always_ends;
  links_to_itself = links_to_itself;
  loses_nodes = loses_nodes;
}
