-- Uses of a board by a list of calls, and what is not in a history. Assumes nothing.
use Rattle.std.proofs.Common.{◌≡◌, ℕ, List, [], ◌∷◌, replicate, inl}
use Rattle.scheme.specs.Histories.{Since}
use Rattle.plain.specs.Boards.{Board, Area, new_board}
use Rattle.plain.specs.Calls.{Call, Answer}
use Rattle.plain.specs.Plain.{make}
use Rattle.plain.specs.History.{Play, Moment, moment, History, Run}
use Rattle.plain.specs.Sightings.{Enters, Leaves, Visiting, Sighting, StepsOn}
use Rattle.plain.specs.Walks.{Walking, StepsOnKey}
use Rattle.plain.proofs.Told.{steps_call}
use Rattle.wrong_boards.specs.Breaks.{Breaks}

pub record Use (play : Play) : Type 0 where
  pub history : History
  pub board : Board
  pub area : Area
  pub run : Run play history board area

-- a new board for two readers, with n nodes and n records
abbrev pub new_use : (play : Play) (n : ℕ) → make 2 n 1 ≡ inl (new_board 2 n 1) → Use play
new_use play n e = record { history = []; board = new_board 2 n 1; area = replicate n []; run = Run.made 2 n 1 (replicate n []) e }

abbrev pub used : (play : Play) → Use play → List Call → Use play
used play u [] = u
used play u (c ∷ cs) =
    let res = play u.board u.area c in
    used play (record { history = moment c res ∷ u.history; board = res.board; area = res.area; run = Run.called u.run c }) cs

pub breaks : (play : Play) (Law : Board → History → Type 0) (u : Use play) → ¬ (Law u.board u.history) → Breaks play Law
breaks play Law u n = record { history = u.history; board = u.board; area = u.area; run = u.run; broken = n }

pub visit_older : (r : ℕ) {m : Moment} {h : History} → ¬ (Enters r m) → Visiting r (m ∷ h) → Visiting r h
visit_older r n (Since.starts e) = absurd (n e)
visit_older r n (Since.goes_on l v) = v

-- ---- a visit or a walk goes on

-- what started in the visit of r is not over by a call that is no leave of r
pub goes_on : {S : Moment → Type 0} {r : ℕ} {m : Moment} {h : History} → ¬ (m.call ≡ Call.leave r) → Since S (Leaves r) h → Since S (Leaves r) (m ∷ h)
goes_on n s = Since.goes_on (λ e. n e.0) s

module _ {r : ℕ} {m : Moment} where
  -- past a call that is no reader's
  pub past : {w : History} → ((k : ℕ) → ¬ (m.call ≡ Call.from r k)) → ¬ (m.call ≡ Call.leave r) → ¬ (m.call ≡ Call.step r) → Walking r w → Walking r (m ∷ w)
  past nf nl ns w = Walking.goes_on (λ e. nf e.wanted e.asked) (λ e. nl e.0) (λ e. ns e.asked) (λ e. ns e.0) w

  -- past a step that has seen a node
  pub past_seen : (n s k : ℕ) {w : History} → m.call ≡ Call.step r → m.answer ≡ Answer.seen n s k → Walking r w → Walking r (m ∷ w)
  past_seen n s k c a w = Walking.goes_on (λ e. cc) (λ e. cc) (λ e. cc) (λ e. cc) w

  -- ---- a key is not stepped on

  pub no_step : (k : ℕ) → ¬ (m.call ≡ Call.step r) → ¬ (StepsOnKey r k m)
  no_step k n s = n (steps_call s.on)

  on_other : {x : Sighting} (n s j : ℕ) → m.answer ≡ Answer.seen n s j → StepsOn r m x → j ≡ x.key
  on_other n s j a (StepsOn.by_seen n' s' k' c q) = cc
  on_other n s j a (StepsOn.by_found n' s' k' c q) = cc

  pub other_key : (n s j k : ℕ) → m.answer ≡ Answer.seen n s j → ¬ (j ≡ k) → ¬ (StepsOnKey r k m)
  other_key n s j k a d o = d (cc (on_other n s j a o.on))

  on_none : {x : Sighting} → m.answer ≡ Answer.end → StepsOn r m x → ⊥
  on_none a (StepsOn.by_seen n' s' k' c q) = cc
  on_none a (StepsOn.by_found n' s' k' c q) = cc

  pub end_no_key : (k : ℕ) → m.answer ≡ Answer.end → ¬ (StepsOnKey r k m)
  end_no_key k a o = on_none a o.on
