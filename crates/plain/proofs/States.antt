-- What holds along every run: the board is fine, what was sighted stands, and the walks are under way as they should.
-- So the sightings agree and the walks are short, complete and honest, of every run. Assumes nothing.
use Rattle.std.proofs.Common.{◌≡◌, ℕ, [], ◌∷◌, ◌++◌, subst, arith}
use Rattle.record.specs.Making.{Making}
use Rattle.plain.specs.Boards.{Board, Area}
use Rattle.plain.specs.Plain.{result}
use Rattle.plain.specs.History.{Moment, History, Run}
use Rattle.plain.specs.Sightings.{Sighting, Sighted, SightingsAgree}
use Rattle.plain.specs.Walks.{Walking, Walked, WalksAreShort, WalksAreComplete, WalksAreHonest}
use Rattle.plain.proofs.Follows.{Fine, Follows}
use Rattle.plain.proofs.Uplink.{follows}
use Rattle.plain.proofs.Told.{Told, told}
use Rattle.plain.proofs.New.{fine_made}
use Rattle.plain.proofs.Sightings.{Stands, still_stands, agree}
use Rattle.plain.proofs.Walks.{UnderWay, trodden_few, under_way_starts, under_way_goes_on, complete_at, honest_at, short_at}

pub record State (h : History) (b : Board) (a : Area) : Type 0 where
  pub stage : ℕ → ℕ
  pub rank : ℕ → ℕ
  pub fine : Fine b stage rank
  pub seen : (r : ℕ) (x : Sighting) → Sighted r x h → Stands b a stage r x
  pub walks : (r : ℕ) (w older : History) → h ≡ w ++ older → Walking r w → UnderWay b stage r w

-- ---- one call more

module _ {h : History} {b : Board} {a : Area} (s : State h b a) {m : Moment} (t : Told b a m) (n : Follows b a s.stage m) where
  walks_on : (r : ℕ) (w older : History) → m ∷ h ≡ w ++ older → Walking r w → UnderWay m.board n.stage' r w
  walks_on r w older e (Walking.starts {m = m₁} st) =
      let q : m ≡ m₁ = cc in
      subst (λ (v : Moment). UnderWay m.board n.stage' r (v ∷ [])) q (under_way_starts s.fine t n r (rw q st))
  walks_on r w older e (Walking.goes_on {m = m₁} {w = w₁} ns nl nf ne wk) =
      let q : m ≡ m₁ = cc in
      let u = s.walks r w₁ older (cc) wk in
      subst (λ (v : Moment). UnderWay m.board n.stage' r (v ∷ w₁)) q
      (under_way_goes_on s.fine t n r (λ x. ns (rw q at x)) (λ x. nl (rw q at x)) (λ x. ne (rw q at x)) u)

  pub state_on : State (m ∷ h) m.board m.area
  state_on = record {
    stage = n.stage';
    rank = n.rank';
    fine = n.fine;
    seen = λ r x y. still_stands s.fine t n r x (s.seen r x) y;
    walks = walks_on;
  }

  pub short_on : WalksAreShort m.board.size (m ∷ h)
  short_on r j w older e (Walked.under_way wk) c =
      let u = walks_on r w older e wk in
      omega (arith, u.count j c, trodden_few n.fine u)
  short_on r j w older e (Walked.ended {m = m₁} {w = w₁} last wk) c =
      let q : m ≡ m₁ = cc in
      omega (arith, short_at s.fine t n r j (s.walks r w₁ older (cc) wk) (rw q c))

  pub complete_on : WalksAreComplete (m ∷ h)
  complete_on r k m₁ w older e wk re ev =
      let q : m ≡ m₁ = cc in
      rw q at (complete_at s.fine t n r k (s.walks r w older (cc) wk) (rw q re) ev.1)

  pub honest_on : WalksAreHonest (m ∷ h)
  honest_on r k m₁ w older e wk on =
      let q : m ≡ m₁ = cc in
      rw q at (honest_at s.fine t n r k (s.walks r w older (cc) wk) (rw q on))

-- ---- every run

no_walk : {r : ℕ} {w : History} (older : History) → [] ≡ w ++ older → Walking r w → ⊥
no_walk older e (Walking.starts st) = cc
no_walk older e (Walking.goes_on ns nl nf ne wk) = cc

no_walked : {r : ℕ} {w : History} (older : History) → [] ≡ w ++ older → Walked r w → ⊥
no_walked older e (Walked.under_way wk) = no_walk older e wk
no_walked older e (Walked.ended last wk) = cc

pub state : (making : Making) {h : History} {b : Board} {a : Area} → Run (result making) h b a → State h b a
state making (Run.made m n s area made) = record {
  stage = _;
  rank = _;
  fine = fine_made m n s made;
  seen = λ r x y. elim y [ ];
  walks = λ r w older e wk. absurd (no_walk older e wk);
}
state making (Run.called {b = b} {area = a} run c) =
    let s = state making run in
    state_on s (told s.fine a making c) (follows s.fine a making c)

pub sightings_agree : (making : Making) {h : History} {b : Board} {a : Area} → Run (result making) h b a → SightingsAgree h
sightings_agree making run = let s = state making run in agree s.fine s.seen

pub walks_are_short : (making : Making) {h : History} {b : Board} {a : Area} → Run (result making) h b a → WalksAreShort b.size h
walks_are_short making (Run.made m n s area made) = λ r j w older e wk c. absurd (no_walked older e wk)
walks_are_short making (Run.called {b = b} {area = a} run c) = let s = state making run in short_on s (told s.fine a making c) (follows s.fine a making c)

pub walks_are_complete : (making : Making) {h : History} {b : Board} {a : Area} → Run (result making) h b a → WalksAreComplete h
walks_are_complete making (Run.made m n s area made) = λ r k m₁ w older e wk re ev. cc
walks_are_complete making (Run.called {b = b} {area = a} run c) = let s = state making run in complete_on s (told s.fine a making c) (follows s.fine a making c)

pub walks_are_honest : (making : Making) {h : History} {b : Board} {a : Area} → Run (result making) h b a → WalksAreHonest h
walks_are_honest making (Run.made m n s area made) = λ r k m₁ w older e wk on. cc
walks_are_honest making (Run.called {b = b} {area = a} run c) = let s = state making run in honest_on s (told s.fine a making c) (follows s.fine a making c)
