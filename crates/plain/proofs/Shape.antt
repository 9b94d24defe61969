-- What holds of the pool of every board (Shaped), with the stage of each node: 0 listed, 1 due, 2 covered, 3 free.
-- What a call may do to a pool, as far as a reader can tell (Turned). Assumes nothing.
use Rattle.std.specs.Prelude.{◌==◌}
use Rattle.std.proofs.Common.{◌≡◌, ℕ, ◌<◌, ◌≤◌, Bool, true, false, not, ◌≢◌, ◌⊎◌, List, inl, inr, arith}
use Rattle.std.proofs.lemmas.Bool.Decides.{nat_tests}
use Rattle.scheme.specs.Meaning.{updated}
use Rattle.plain.specs.Pools.{Pool, Move, Need, link_of, reached, holder, old_of}
use Rattle.plain.specs.Boards.{Area, record_at}
use Rattle.plain.proofs.Links.{Ahead, ahead_ne, Ordered, ahead_stage}
use Rattle.plain.proofs.Lists.{In, Apart}
use Rattle.plain.proofs.Reached.{Chain, sized_chain, chain_ahead, ahead_chain, holder_holds, holder_there}

-- ---- moves

pub record Two (lk key : ℕ → ℕ) (o c : ℕ) : Type 0 where
  pub old : Ahead lk o 0
  pub copy : Ahead lk c 0
  pub differ : o ≢ c
  pub alike : key c ≡ key o

abbrev pub Moved : Pool → Move → Type 0
Moved q Move.none = Unit {0}
Moved q (Move.later o c) = Two (link_of q) q.key o c × Ahead (link_of q) c o
Moved q (Move.earlier o c need) = Two (link_of q) q.key o c

-- c is the copy of an earlier move, and a reader that is awaited or not, as a says, came after it was placed
abbrev pub Owed : Move → Bool → ℕ → Type 0
Owed (Move.earlier o c Need.begun) a x = (a ≡ false) × (x ≡ c)
Owed (Move.earlier o c Need.met) a x = x ≡ c
Owed m a x = ⊥

pub owed_two : (q : Pool) (m : Move) (a : Bool) (c : ℕ) → Moved q m → Owed m a c → (o : ℕ) × Two (link_of q) q.key o c
owed_two q (Move.earlier o c Need.begun) a x t w = (o, rw w.1 t)
owed_two q (Move.earlier o c Need.met) a x t w = (o, rw w t)
owed_two q m a x t w = absurd w

-- ---- the pool

-- stage 0 is listed, 1 due, 2 covered, 3 free
pub record Books (size : ℕ) (free due covered : List ℕ) (stamp : ℕ → ℕ) (next : ℕ) (stage : ℕ → ℕ) : Type 0 where
  pub bounded : (x : ℕ) → stage x < 3 → x ≤ size
  pub in_free : (x : ℕ) → In x free → (stage x ≡ 3) × (x ≤ size)
  pub in_due : (x : ℕ) → In x due → stage x ≡ 1
  pub in_covered : (x : ℕ) → In x covered → stage x ≡ 2
  pub apart_free : Apart free
  pub apart_due : Apart due
  pub apart_covered : Apart covered
  pub stamps_below : (x : ℕ) → stamp x < next
  pub stamps_apart : (x y : ℕ) → x ≢ 0 → y ≢ 0 → stage x < 3 → stage y < 3 → stamp x ≡ stamp y → x ≡ y

-- where a node can be
pub data Somewhere (q : Pool) (x : ℕ) : Type 0 where
  on_list : Ahead (link_of q) x 0 → Somewhere q x
  in_free : In x q.free → Somewhere q x
  in_due : In x q.due → Somewhere q x
  in_covered : In x q.covered → Somewhere q x

pub record Shaped (size : ℕ) (q : Pool) (stage rank : ℕ → ℕ) : Type 0 where
  pub ordered : Ordered (link_of q) stage rank
  pub books : Books size q.free q.due q.covered q.stamp q.next_stamp stage
  pub keys_apart : (x y : ℕ) → Ahead (link_of q) x 0 → Ahead (link_of q) y 0 → x ≢ old_of q.move → y ≢ old_of q.move → q.key x ≡ q.key y → x ≡ y
  pub moved : Moved q q.move
  pub somewhere : (x : ℕ) → x ≢ 0 → x ≤ size → Somewhere q x

-- the listed node with the key k, or 0
abbrev holding : ℕ → Pool → ℕ → ℕ
holding size q k = holder q.key k (reached size (link_of q) 0)

module _ {size : ℕ} {q : Pool} {stage rank : ℕ → ℕ} (s : Shaped size q stage rank) where
  pub listed_stage : {x : ℕ} → Ahead (link_of q) x 0 → stage x ≡ 0
  listed_stage a =
      omega (arith, ahead_stage s.ordered (omega arith) a)

  pub place_stage : {p : ℕ} → (p ≡ 0) ⊎ Ahead (link_of q) p 0 → stage p ≡ 0
  place_stage (inl e) = cc
  place_stage (inr a) = listed_stage a

  pub listed_chain : Chain (link_of q) 0 (reached size (link_of q) 0)
  listed_chain =
      sized_chain (link_of q) s.ordered size 0 (omega arith) s.books.bounded

  pub node_there : (k : ℕ) → not (holding size q k == 0) ≡ true → Ahead (link_of q) (holding size q k) 0 × (q.key (holding size q k) ≡ k)
  node_there k e =
      let h = holder_holds q.key k (reached size (link_of q) 0) (grind arith) in
      (chain_ahead listed_chain h.0, h.1)

  pub there : (k x : ℕ) → Ahead (link_of q) x 0 → q.key x ≡ k → not (holding size q k == 0) ≡ true
  there k x a e =
      grind (arith, nat_tests, holder_there q.key k (reached size (link_of q) 0) x (λ y i. ahead_ne (chain_ahead listed_chain i)) (ahead_chain listed_chain a) e)

  pub not_there : (k : ℕ) → not (holding size q k == 0) ≡ false → (x : ℕ) → Ahead (link_of q) x 0 → q.key x ≢ k
  not_there k f x a e = cc (there k x a e)

-- ---- what a reader can tell of a change; aw says whether it is awaited

pub record Guarded (stage : ℕ → ℕ) (aw : Bool) (x : ℕ) : Type 0 where
  pub live : stage x < 3
  pub waits : stage x ≡ 2 → aw ≡ true

-- what is guarded stays so when y becomes listed or due
pub guarded_set : {stage : ℕ → ℕ} {aw : Bool} (y v : ℕ) → v < 2 → (x : ℕ) → Guarded stage aw x → Guarded (updated stage y v) aw x
guarded_set y v l x g = record { live = grind arith; waits = λ w. grind arith }

pub record Same (q q' : Pool) (a a' : Area) (x : ℕ) : Type 0 where
  pub key : q'.key x ≡ q.key x
  pub stamp : q'.stamp x ≡ q.stamp x
  pub fields : record_at a' x ≡ record_at a x

-- what became of z, which was ahead of the place x
pub data Carried (q q' : Pool) (x z : ℕ) : Type 0 where
  stays : Ahead (link_of q') z x → Carried q q' x z
  replaced : (y : ℕ) → Ahead (link_of q') y x → q'.key y ≡ q.key z → Carried q q' x z
  gone : ((w : ℕ) → Ahead (link_of q') w 0 → q'.key w ≡ q.key z → ⊥) → Carried q q' x z
  copied : (c : ℕ) → ((aw : Bool) → Owed q.move aw c) → q.key c ≡ q.key z → (Ahead (link_of q) c x → Ahead (link_of q') c x) → Carried q q' x z

pub record Turned (q q' : Pool) (a a' : Area) (stage stage' : ℕ → ℕ) (aw aw' : Bool) : Type 0 where
  pub kept : (x : ℕ) → x ≢ 0 → stage x < 3 → Same q q' a a' x
  pub guards : (x : ℕ) → Guarded stage aw x → Guarded stage' aw' x
  pub back : (x z : ℕ) → stage x < 3 → Ahead (link_of q') z x → Ahead (link_of q) z x ⊎ ((stage z ≡ 3) × Ahead (link_of q') z 0)
  pub fwd : (x z : ℕ) → stage x < 3 → Ahead (link_of q) z x → Carried q q' x z
  pub owed : (c : ℕ) → Owed q'.move aw' c → Owed q.move aw c × ((x : ℕ) → Ahead (link_of q) c x → Ahead (link_of q') c x)
