-- The worked flights, by computation. Assumes nothing.
use Rattle.std.proofs.Common.{refl}
use Rattle.scheme.specs.Meaning.{anybody}
use Rattle.plain.specs.Flights.{Flights}

pub flights : Flights
unfolding anybody
flights = record {
  largest = refl;
  readers_over = refl;
  nodes_over = refl;
  new_walk = λ n s. refl;
  one_node = refl;
  stamps_end = refl;
  earlier_move = refl;
  later_move = refl;
  onto_itself = refl;
  way_good = refl;
  way_bad = refl;
  par_good = refl;
  par_bad = refl;
  walk_under_a_cut = refl;
  cut_at_the_end = refl;
}
