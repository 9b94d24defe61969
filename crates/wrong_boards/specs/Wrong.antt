-- Boards with one fault each, made from the plain board. Assumes nothing.
use Rattle.std.specs.Prelude.{Bool, not, ◌&&◌, [], ◌++◌, length, nat_lt, if◌then◌else◌}
use Rattle.scheme.specs.Meaning.{Meaning, nobody, updated}
use Rattle.record.specs.Pars.{par_making}
use Rattle.plain.specs.Pools.{Pool, head_or_0, under_way, needs_begin, at_begin, at_over, with_move}
use Rattle.plain.specs.Boards.{Board, at_rest, with_who, with_pool}
use Rattle.plain.specs.Calls.{Call, Answer}
use Rattle.plain.specs.Refusals.{checks, checked}
use Rattle.plain.specs.Plain.{Result, result, unchanged, stands}
use Rattle.plain.specs.History.{Play}

-- ---- how it shows what a call did, by the board b that it found and its result

abbrev pub began_wait : Board → Result → Bool
began_wait b res = not b.who.waits && res.board.who.waits

abbrev pub ended_wait : Board → Result → Bool
ended_wait b res = b.who.waits && not res.board.who.waits

abbrev pub removed_node : Board → Result → Bool
removed_node b res = nat_lt (length b.pool.due) (length res.board.pool.due)

abbrev pub placed_node : Board → Result → Bool
placed_node b res = nat_lt b.pool.next_stamp res.board.pool.next_stamp

abbrev pub began_earlier_move : Board → Result → Bool
began_earlier_move b res = not (under_way b.pool.move) && needs_begin res.board.pool.move

-- the result, but with this pool, or this meaning of the scheme
abbrev pub but_pool : Pool → Result → Result
but_pool q res = record res { board = with_pool q res.board }

abbrev pub but_who : Meaning → Result → Result
but_who w res = record res { board = with_who w res.board }

-- the plain board for parameters, with each result in which the fault shows spoiled
abbrev pub spoiled : (Board → Result → Bool) → (Board → Result → Result) → Play
spoiled shows spoil b area c = let res = result par_making b area c in if shows b res then spoil b res else res

-- ---- the boards

-- no tend finds a wait over
abbrev pub never_over : Play
never_over = spoiled ended_wait (λ b res. unchanged b res.area Answer.waiting)

-- a wait awaits nobody, so the next tend finds it over
abbrev pub awaits_nobody : Play
awaits_nobody = spoiled began_wait (λ b res. but_who (record res.board.who { awaited = nobody }) res)

-- nodes that were removed after a wait began are freed with those that it covers
abbrev pub frees_due : Play
frees_due = spoiled ended_wait (λ b res.
    let q = res.board.pool in
    but_pool (record q { free = q.due ++ q.free; due = []; covered = [] }) res)

-- each placing gets the same stamp
abbrev pub repeats_stamp : Play
repeats_stamp = spoiled placed_node (λ b res. but_pool (record res.board.pool { next_stamp = b.pool.next_stamp }) res)

-- removed nodes are chained through the link that readers follow
abbrev pub chains_by_link : Play
chains_by_link = spoiled removed_node (λ b res.
    let q = res.board.pool in
    but_pool (record q { link = updated q.link (head_or_0 q.due) (head_or_0 b.pool.due) }) res)

-- an earlier move counts as having had its wait
abbrev pub moves_without_wait : Play
moves_without_wait = spoiled began_earlier_move (λ b res. but_pool (with_move (at_over (at_begin res.board.pool.move)) res.board.pool) res)

-- a placed node links to itself
abbrev pub links_to_itself : Play
links_to_itself = spoiled placed_node (λ b res.
    let q = res.board.pool in
    let new = head_or_0 b.pool.free in
    but_pool (record q { link = updated q.link new new }) res)

-- the due chain is dropped as a wait begins
abbrev pub loses_nodes : Play
loses_nodes = spoiled began_wait (λ b res. but_pool (record res.board.pool { covered = [] }) res)

-- the scheme is not told who enters, who leaves, and when a wait begins
abbrev pub never_tells : Play
never_tells b area c = but_who b.who (result par_making b area c)

-- every step is the last
abbrev pub always_ends : Play
always_ends b area (Call.step r) = checked (checks par_making b area (Call.step r)) (stands b area r at_rest Answer.end) (λ number field. unchanged b area (Answer.refused number field))
always_ends b area c = result par_making b area c
