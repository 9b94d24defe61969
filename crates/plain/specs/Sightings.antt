-- Visits, and what a reader sights in one. Assumes nothing.
use Rattle.std.specs.Prelude.{◌≡◌, ℕ, ◌↔◌}
use Rattle.scheme.specs.Histories.{Since}
use Rattle.plain.specs.Boards.{Area, Record, record_at}
use Rattle.plain.specs.Calls.{Call, Answer}
use Rattle.plain.specs.History.{Moment, History}

-- ---- visits

abbrev pub Enters : ℕ → Moment → Type 0
Enters r m = (m.call ≡ Call.enter r) × (m.answer ≡ Answer.done)

abbrev pub Leaves : ℕ → Moment → Type 0
Leaves r m = (m.call ≡ Call.leave r) × (m.answer ≡ Answer.done)

-- the reader is in a visit
abbrev pub Visiting : ℕ → History → Type 0
Visiting r = Since (Enters r) (Leaves r)

-- ---- sightings

pub record Sighting : Type 0 where
  pub node : ℕ
  pub stamp : ℕ
  pub key : ℕ
  pub fields : Record

-- its record is the one that the area has for the node at that time
abbrev pub sighting : (node stamp key : ℕ) → Area → Sighting
sighting n s k area = record { node = n; stamp = s; key = k; fields = record_at area n }

-- a step of the reader gives the sighting
pub data StepsOn (r : ℕ) (m : Moment) : Sighting → Type 0 where
  by_seen : (n s k : ℕ) → m.call ≡ Call.step r → m.answer ≡ Answer.seen n s k → StepsOn r m (sighting n s k m.area)
  by_found : (n s k : ℕ) → m.call ≡ Call.step r → m.answer ≡ Answer.found n s k → StepsOn r m (sighting n s k m.area)

-- a step or an aside of the reader gives the sighting
pub data Sights (r : ℕ) (x : Sighting) (m : Moment) : Type 0 where
  by_step : StepsOn r m x → Sights r x m
  by_aside : (wanted n s k : ℕ) (v : Record) → m.call ≡ Call.aside r wanted → m.answer ≡ Answer.found_aside n s k v → x ≡ sighting n s k m.area → Sights r x m

-- the reader sighted x, and the visit in which it did goes on
abbrev pub Sighted : ℕ → Sighting → History → Type 0
Sighted r x = Since (Sights r x) (Leaves r)

-- ---- the law

-- of one node exactly when they have one stamp, and then of one key and one record
pub record Agree (x y : Sighting) : Type 0 where
  pub same_node : (x.node ≡ y.node) ↔ (x.stamp ≡ y.stamp)
  pub same_key : x.node ≡ y.node → x.key ≡ y.key
  pub same_record : x.node ≡ y.node → x.fields ≡ y.fields

-- two sightings of one reader in one visit agree
abbrev pub SightingsAgree : History → Type 0
SightingsAgree h = (r : ℕ) (x y : Sighting) → Sighted r x h → Sighted r y h → Agree x y
