-- The pool of nodes: the list, the three chains, the stamps, and the move that is under way. Assumes nothing.
use Rattle.std.specs.Prelude.{ℕ, zero, suc, Bool, true, false, List, [], ◌∷◌, ◌++◌, ◌==◌, if◌then◌else◌}
use Rattle.scheme.specs.Meaning.{updated}

-- ---- chains of node numbers

abbrev pub is_empty : List ℕ → Bool
is_empty [] = true
is_empty (x ∷ xs) = false

abbrev pub head_or_0 : List ℕ → ℕ
head_or_0 [] = 0
head_or_0 (x ∷ xs) = x

abbrev pub tail : List ℕ → List ℕ
tail [] = []
tail (x ∷ xs) = xs

-- the numbers i, i + 1, .., k of them
abbrev pub upto : ℕ → ℕ → List ℕ
upto i zero = []
upto i (suc k) = i ∷ upto (suc i) k

-- ---- a move that is under way

-- the wait that an earlier move needs before it is finished
pub data Need : Type 0 where
  lacking : Need  -- none has begun since the move
  begun : Need  -- the open wait began since the move
  met : Need  -- one that began since the move was found over

pub data Move : Type 0 where
  none : Move
  later : (old copy : ℕ) → Move  -- needs no wait
  earlier : (old copy : ℕ) → Need → Move

abbrev pub old_of : Move → ℕ
old_of Move.none = 0
old_of (Move.later old copy) = old
old_of (Move.earlier old copy need) = old

abbrev pub under_way : Move → Bool
under_way Move.none = false
under_way (Move.later old copy) = true
under_way (Move.earlier old copy need) = true

-- whether a wait that has not begun is needed, and whether one that is not over is
abbrev pub needs_begin : Move → Bool
needs_begin (Move.earlier old copy Need.lacking) = true
needs_begin m = false

abbrev pub lacks_wait : Move → Bool
lacks_wait (Move.earlier old copy Need.lacking) = true
lacks_wait (Move.earlier old copy Need.begun) = true
lacks_wait m = false

-- the move as a wait begins, and as one is found over
abbrev pub at_begin : Move → Move
at_begin (Move.earlier old copy Need.lacking) = Move.earlier old copy Need.begun
at_begin m = m

abbrev pub at_over : Move → Move
at_over (Move.earlier old copy Need.begun) = Move.earlier old copy Need.met
at_over m = m

-- ---- the pool

pub record Pool : Type 0 where
  pub front : ℕ  -- the first listed node, or 0
  pub link : ℕ → ℕ  -- of each node, the node behind it, or 0
  pub key : ℕ → ℕ
  pub stamp : ℕ → ℕ
  pub free : List ℕ  -- not in use
  pub due : List ℕ  -- removed since the last wait began
  pub covered : List ℕ  -- removed before the open wait began
  pub next_stamp : ℕ
  pub move : Move

-- the link of node p, or the front where p is 0: place 0 is before the front
abbrev pub link_of : Pool → ℕ → ℕ
link_of q p = if p == 0 then q.front else q.link p

-- the nodes that links reach from place p, at most f of them; link 0 ends the chain
abbrev pub reached : ℕ → (ℕ → ℕ) → ℕ → List ℕ
reached zero links p = []
reached (suc f) links p = if links p == 0 then [] else links p ∷ reached f links (links p)

-- the first of these nodes that has the key k, or 0
abbrev pub holder : (ℕ → ℕ) → ℕ → List ℕ → ℕ
holder keys k [] = 0
holder keys k (x ∷ xs) = if keys x == k then x else holder keys k xs

-- the node before x, where p stands before the first
abbrev pub before : ℕ → ℕ → List ℕ → ℕ
before p x [] = p
before p x (y ∷ ys) = if y == x then p else before y x ys

-- whether x comes before y
abbrev pub precedes : ℕ → ℕ → List ℕ → Bool
precedes x y [] = false
precedes x y (z ∷ zs) = if z == y then false else if z == x then true else precedes x y zs

-- ---- what is done to a pool

-- v is written into the link of node p, or into the front where p is 0
abbrev pub link_to : ℕ → ℕ → Pool → Pool
link_to p v q = record q {
  front = if p == 0 then v else q.front;
  link = if p == 0 then q.link else updated q.link p v;
}

-- the first free node gets the key k, the next stamp and the link v
abbrev pub filled : ℕ → ℕ → Pool → Pool
filled k v q = record q {
  link = updated q.link (head_or_0 q.free) v;
  key = updated q.key (head_or_0 q.free) k;
  stamp = updated q.stamp (head_or_0 q.free) q.next_stamp;
  free = tail q.free;
  next_stamp = suc q.next_stamp;
}

-- x is due, before all others; its link, key and stamp stay as they are
abbrev pub retired : ℕ → Pool → Pool
retired x q = record q { due = x ∷ q.due }

abbrev pub with_move : Move → Pool → Pool
with_move m q = record q { move = m }

-- the first free node is filled and placed behind node p, or at the front where p is 0
abbrev pub placed_behind : ℕ → ℕ → Pool → Pool
placed_behind k p q = link_to p (head_or_0 q.free) (filled k (link_of q p) q)

-- the link before x skips it; p is the node before x
abbrev pub unlinked : ℕ → ℕ → Pool → Pool
unlinked p x q = retired x (link_to p (link_of q x) q)

-- the first free node is filled, takes the link of x and, by one link write, its place
abbrev pub swapped : ℕ → ℕ → ℕ → Pool → Pool
swapped k p x q = retired x (link_to p (head_or_0 q.free) (filled k (link_of q x) q))

-- a wait begins: the due chain becomes the covered chain
abbrev pub covering : Pool → Pool
covering q = record q {
  due = [];
  covered = q.due;
  move = at_begin q.move;
}

-- a wait is found over: the covered chain goes before the free chain
abbrev pub freeing : Pool → Pool
freeing q = record q {
  free = q.covered ++ q.free;
  covered = [];
  move = at_over q.move;
}
