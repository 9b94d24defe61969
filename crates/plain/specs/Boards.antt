-- The plain board: a scheme's meaning, a slot for each reader, and the pool; the record area beside it. Assumes nothing.
use Rattle.std.specs.Prelude.{ℕ, ◌-◌, Bool, true, false, not, ◌&&◌, ◌||◌, ◌⊎◌, List, [], ℤ, ◌==◌, if◌then◌else◌, slice_index_or, slice_set}
use Rattle.std.proofs.Common.{inl, inr}
use Rattle.scheme.specs.Meaning.{Meaning, at_start, updated}
use Rattle.plain.specs.Pools.{Pool, Move, link_of, reached, holder, before, precedes, upto}

-- ---- readers

-- the walk of a reader
pub data Walk : Type 0 where
  none : Walk
  for_key : (wanted : ℕ) → Walk  -- 0 for a plain scan, which no node ends

abbrev pub is_walking : Walk → Bool
is_walking Walk.none = false
is_walking (Walk.for_key wanted) = true

-- whether a node with the key k is the one that is wanted
abbrev pub is_wanted : Walk → ℕ → Bool
is_wanted Walk.none k = false
is_wanted (Walk.for_key wanted) k = not (wanted == 0) && k == wanted

pub record Slot : Type 0 where
  pub walk : Walk
  pub place : ℕ  -- the node that the reader stands on, or 0

abbrev pub at_rest : Slot
at_rest = record { walk = Walk.none; place = 0 }

-- ---- the board

pub record Board : Type 0 where
  pub readers : ℕ  -- how many readers there are
  pub size : ℕ  -- how many nodes
  pub who : Meaning  -- as the scheme means it: visits, and the open wait
  pub slots : ℕ → Slot  -- of each reader
  pub pool : Pool

-- for m readers, with n nodes and the first stamp s
abbrev pub new_board : (m n s : ℕ) → Board
new_board m n s = record {
  readers = m;
  size = n;
  who = at_start;
  slots = λ r. at_rest;
  pool = record {
    front = 0;
    link = λ x. 0;
    key = λ x. 0;
    stamp = λ x. 0;
    free = upto 1 n;
    due = [];
    covered = [];
    next_stamp = s;
    move = Move.none;
  };
}

abbrev pub with_slot : ℕ → Slot → Board → Board
with_slot r s b = record b { slots = updated b.slots r s }

abbrev pub with_who : Meaning → Board → Board
with_who w b = record b { who = w }

abbrev pub with_pool : Pool → Board → Board
with_pool q b = record b { pool = q }

-- the nodes that the links from the front reach
abbrev pub listed : Board → List ℕ
listed b = reached b.size (link_of b.pool) 0

-- the listed node with the key k, or 0
abbrev pub node_of : Board → ℕ → ℕ
node_of b k = holder b.pool.key k (listed b)

abbrev pub is_listed : Board → ℕ → Bool
is_listed b k = not (node_of b k == 0)

-- the node before the listed node x, or 0
abbrev pub predecessor : Board → ℕ → ℕ
predecessor b x = before 0 x (listed b)

-- the node that a new one is placed behind, by its key; 0 for the front
abbrev pub after : Board → ℕ → ℕ
after b a = if a == 0 then 0 else node_of b a

-- whether behind a is nearer to the front than k is
abbrev pub is_earlier : Board → (k a : ℕ) → Bool
is_earlier b k a = a == 0 || precedes (node_of b a) (node_of b k) (listed b)

-- ---- the record area

-- a record, by its fields
abbrev pub Record : Type 0
Record = List ℤ

abbrev pub Area : Type 0
Area = List Record

-- the record of node i, where node 1 has the first
abbrev pub record_at : Area → ℕ → Record
record_at area i = slice_index_or area (i - 1) []

abbrev pub with_record : ℕ → Record → Area → Area
with_record i v area = slice_set area (i - 1) v

-- of what making gave: whether a field is at fault, which, and the record if none is
abbrev pub at_fault : Record ⊎ ℕ → Bool
at_fault (inl v) = false
at_fault (inr field) = true

abbrev pub fault_field : Record ⊎ ℕ → ℕ
fault_field (inl v) = 0
fault_field (inr field) = field

abbrev pub made_record : Record ⊎ ℕ → Record
made_record (inl v) = v
made_record (inr field) = []
