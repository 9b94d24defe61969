-- Which calls are refused, and by which number: the checks of each call, in the order of their numbers. Assumes nothing.
use Rattle.std.specs.Prelude.{ℕ, Bool, not, ◌&&◌, ◌||◌, ◌⊎◌, List, [], ◌∷◌, length, ◌==◌, nat_le, nat_lt, if◌then◌else◌}
use Rattle.scheme.specs.Meaning.{readers}
use Rattle.record.specs.Making.{Making}
use Rattle.plain.specs.Pools.{is_empty, under_way, lacks_wait}
use Rattle.plain.specs.Boards.{Board, Area, Record, is_walking, is_listed, at_fault, fault_field}
use Rattle.plain.specs.Calls.{Call}

-- a call is refused by this number if this holds; the field at fault is 0 but for number 20
pub record Check : Type 0 where
  pub number : ℕ
  pub field : ℕ
  pub holds : Bool

infixr 40 ◌holds_if◌
abbrev pub ◌holds_if◌ : ℕ → Bool → Check
n holds_if b = record { number = n; field = 0; holds = b }

-- the first check that holds refuses; if none does, it is done
abbrev pub checked : {A : Type 0} → List Check → A → (ℕ → ℕ → A) → A
checked [] done refuse = done
checked (c ∷ cs) done refuse = if c.holds then refuse c.number c.field else checked cs done refuse

-- ---- the making

abbrev pub most_nodes : ℕ
most_nodes = 255

abbrev pub last_stamp : ℕ
last_stamp = 4_294_967_295

abbrev pub making_checks : (m n s : ℕ) → List Check
making_checks m n s = (1 holds_if (m == 0 || nat_lt readers m)) ∷ (2 holds_if (n == 0 || nat_lt most_nodes n)) ∷ (3 holds_if (s == 0)) ∷ []

-- ---- the calls

abbrev pub key_zero : ℕ → Check
key_zero k = 10 holds_if (k == 0)

abbrev pub after_itself : (k a : ℕ) → Check
after_itself k a = 14 holds_if (a == k)

abbrev pub fields_at_fault : Record ⊎ ℕ → Check
fields_at_fault made = record { number = 20; field = fault_field made; holds = at_fault made }

module _ (b : Board) where
  abbrev pub reader_unknown : ℕ → Check
  reader_unknown r = 4 holds_if nat_le b.readers r

  abbrev pub no_visit : ℕ → Check
  no_visit r = 5 holds_if not (b.who.inside r)

  abbrev pub in_visit : ℕ → Check
  in_visit r = 6 holds_if b.who.inside r

  abbrev pub no_walk : ℕ → Check
  no_walk r = 7 holds_if not (is_walking (b.slots r).walk)

  abbrev pub on_no_node : ℕ → Check
  on_no_node r = 8 holds_if ((b.slots r).place == 0)

  abbrev pub area_short : Area → Check
  area_short area = 9 holds_if nat_lt (length area) b.size

  abbrev pub key_listed : ℕ → Check
  key_listed k = 11 holds_if is_listed b k

  abbrev pub key_not_listed : ℕ → Check
  key_not_listed k = 12 holds_if not (is_listed b k)

  abbrev pub after_not_listed : ℕ → Check
  after_not_listed a = 13 holds_if (not (a == 0) && not (is_listed b a))

  abbrev pub none_free : Check
  none_free = 15 holds_if is_empty b.pool.free

  abbrev pub no_stamp_left : Check
  no_stamp_left = 16 holds_if nat_lt last_stamp b.pool.next_stamp

  abbrev pub move_under_way : Check
  move_under_way = 17 holds_if under_way b.pool.move

  abbrev pub no_move : Check
  no_move = 18 holds_if not (under_way b.pool.move)

  abbrev pub wait_lacking : Check
  wait_lacking = 19 holds_if lacks_wait b.pool.move

abbrev pub checks : Making → Board → Area → Call → List Check
checks making b area (Call.enter r) = reader_unknown b r ∷ in_visit b r ∷ []
checks making b area (Call.leave r) = reader_unknown b r ∷ no_visit b r ∷ []
checks making b area (Call.step r) = reader_unknown b r ∷ no_visit b r ∷ no_walk b r ∷ []
checks making b area (Call.look r) = reader_unknown b r ∷ no_visit b r ∷ on_no_node b r ∷ area_short b area ∷ []
checks making b area (Call.from r k) = reader_unknown b r ∷ no_visit b r ∷ []
checks making b area (Call.aside r k) = reader_unknown b r ∷ no_visit b r ∷ area_short b area ∷ key_zero k ∷ []
checks making b area (Call.put k a v w x y) =
    area_short b area ∷ key_zero k ∷ key_listed b k ∷ after_not_listed b a ∷
    none_free b ∷ no_stamp_left b ∷ move_under_way b ∷ fields_at_fault (making v w x y) ∷ []
checks making b area (Call.swap k v w x y) =
    area_short b area ∷ key_zero k ∷ key_not_listed b k ∷
    none_free b ∷ no_stamp_left b ∷ move_under_way b ∷ fields_at_fault (making v w x y) ∷ []
checks making b area (Call.cut k) = key_zero k ∷ key_not_listed b k ∷ move_under_way b ∷ []
checks making b area (Call.move k a) =
    area_short b area ∷ key_zero k ∷ key_not_listed b k ∷ after_not_listed b a ∷ after_itself k a ∷
    none_free b ∷ no_stamp_left b ∷ move_under_way b ∷ []
checks making b area Call.finish = no_move b ∷ wait_lacking b ∷ []
checks making b area Call.tend = []
